-- A run in which everything happens that a ledger must know, by computation: a reader that sleeps is woken by a post and fetches it in the same
-- step, a thread's and then an interrupt's; a post goes ahead; a reset loses two messages; and an object that is promised to a woken thread is
-- still free. Two threads, a mailbox of three slots, a pool.
use Rattle.std.specs.Prelude.{ℕ, ◌≡◌, refl, List, [], ◌∷◌, None}
use Rattle.std.proofs.Common.{arith, ◌∙◌}
use Rattle.kernel.specs.Walk.{first_from, all_from, count_of}
use Rattle.kernel.specs.Words.{word_of, first_of}
use Rattle.kernel.specs.Moves.{taken_off, put_on, woken, slept, finished, blocked}
use Rattle.kernel.specs.Waiters.{first_ready, first_waiter}
use Rattle.kernel.specs.Queue.{enqueued, released_first, released_all}
use Rattle.kernel.specs.Semaphore.{taken, waited, signalled, reset_to}
use Rattle.kernel.specs.Reference.{suspended_on, resumed}
use Rattle.kernel.specs.Delay.{slept_for, slept_until}
use Rattle.kernel.specs.Event.{took_flags, event_signalled, event_waited}
use Rattle.kernel.specs.Ticking.{ticked}
use Rattle.library.specs.Binary.{binary_signalled}
use Rattle.library.specs.Ring.{positions_fit, posted as ring_posted, posted_ahead, fetched as ring_fetched, emptied}
use Rattle.library.specs.Mailbox.{post_done, post_tried, fetch_done, fetch_tried, both_released, mailbox_reset, mailbox_resumed}
use Rattle.library.specs.Pool.{popped, pushed, handed_over, alloc_tried, put_back}
use Rattle.library.specs.Acting.{signal_acted, call_made, effected, acted_on_kernel, box_effected, acted_on_box, acted}
use Rattle.library.specs.Fresh.{made}
use Rattle.library.specs.Settling.{went_on, settled}
use Rattle.library.specs.Sizes.{sizes_fit}
use Rattle.rules.specs.RowRules.{call_fits, wait_fits, ticks_fit, flags_fit, row_fits, rows_fit}
use Rattle.rules.specs.PlaceRules.{queued_count, counters_fit}
use Rattle.rules.specs.WordRules.{ready_word, waiting_word, ready_fits, waiting_fits, words_fit}
use Rattle.rules.specs.ReferenceRules.{holder_fits, references_fit}
use Rattle.rules.specs.MailboxRules.{mailboxes_fit}
use Rattle.rules.specs.PoolRules.{promised_count, occurrences, entries_fit, objects_fit, pool_fits, pools_fit}
use Rattle.rules.specs.Hanging.{hangs_together}
use Rattle.steps.specs.Refusal.{refusal_of}
use Rattle.steps.specs.Stepping.{mask_of, outcome_of, done_with, refused_with, stepped}
use Rattle.library.specs.declared.calls.Step.{Step}
use Rattle.library.specs.declared.sizes.Sizes.{Sizes}
use Rattle.promises.specs.Paper.World.{found}
use Rattle.promises.specs.Paper.Host.{HostSteps}
use Rattle.promises.specs.Paper.Together.{number, is_promised}
use Rattle.promises.specs.Paper.History.{Event, History, shown_in, total, posted, fetched, added, each, lost_at}
use Rattle.promises.specs.Paper.Ledger.{no_postings, ledger, Standing, free_in, Accounted}
use Rattle.promises.specs.Paper.Fresh.{Legal}
use Rattle.promises.specs.Code.Steps.{fresh_moments, fresh_ran}
use Rattle.promises.specs.Meant.History.{history-only}
use Rattle.promises.specs.Meant.Settling.{turns}
use Rattle.promises.specs.Meant.Fresh.{code-legal}
use Rattle.promises.specs.Runs.Histories.{turns_of, events_in, recorded}
use Rattle.promises.specs.Top.ShownSteps.{by, more}
use Rattle.promises.specs.Top.Demands.{fresh-going}
use Rattle.promises.specs.Top.Ledgers.{nothing-lost-fresh}

abbrev line : Sizes
line = record { threads = 2; semaphores = 0; queues = 0; references = 0; mailboxes = 1; pools = 1; slots = 3 ∷ 0 ∷ 0 ∷ 0 ∷ [] }

pub made-line : Legal line None
unfolding all_from sizes_fit made
made-line = code-legal line None refl

abbrev forever : ℕ
forever = 4294967295

-- thread 0 fetches and sleeps, and thread 1 posts; again, but thread 1 sleeps for an object, and an interrupt posts; thread 0 posts, posts
-- ahead and fetches, the interrupt posts, thread 0 resets, and adds an object, which is promised to thread 1
abbrev day : List Step
day =
    by 0 17 0 forever
    ∷ by 1 15 5 0
    ∷ by 0 17 0 forever
    ∷ by 1 20 0 forever
    ∷ by 255 15 6 0
    ∷ by 0 15 7 0
    ∷ by 0 16 8 0
    ∷ by 0 17 0 0
    ∷ by 255 15 9 0
    ∷ by 0 18 0 0
    ∷ by 0 22 3 0
    ∷ []

pub day-typed : HostSteps day
day-typed =
    more 0 17 0 forever _ (omega arith)
    (more 1 15 5 0 _ (omega arith)
    (more 0 17 0 forever _ (omega arith)
    (more 1 20 0 forever _ (omega arith)
    (more 255 15 6 0 _ (omega arith)
    (more 0 15 7 0 _ (omega arith)
    (more 0 16 8 0 _ (omega arith)
    (more 0 17 0 0 _ (omega arith)
    (more 255 15 9 0 _ (omega arith) (more 0 18 0 0 _ (omega arith) (more 0 22 3 0 _ (omega arith) HostSteps.none))))))))))

-- the promise speaks of it
pub day-accounted : Accounted line (λ b. no_postings) (λ q o. Standing.absent) (fresh_moments line None day) (fresh_ran line None day).tables
day-accounted = nothing-lost-fresh line None made-line day day-typed

abbrev event : ℕ → ℕ → ℕ → ℕ → Event
event step who kind value = record { step = step; who = who; kind = kind; object = 0; value = value }

-- what came after the first post
abbrev pub later : List Event
later =
    event 5 255 15 6
    ∷ event 5 0 17 6
    ∷ event 6 0 15 7
    ∷ event 7 0 16 8
    ∷ event 8 0 17 8
    ∷ event 9 255 15 9
    ∷ event 10 0 18 2
    ∷ event 11 0 22 3
    ∷ []

-- what its results show
pub day-shown : shown_in 1 (fresh_moments line None day) ≡ (event 2 0 17 5 ∷ event 2 1 15 5 ∷ later)
unfolding first_from all_from count_of word_of first_of first_ready first_waiter taken_off put_on woken slept finished blocked enqueued released_first released_all taken waited signalled reset_to suspended_on resumed slept_for slept_until took_flags event_signalled event_waited ticked binary_signalled ring_posted posted_ahead ring_fetched emptied post_done post_tried fetch_done fetch_tried both_released mailbox_reset mailbox_resumed popped pushed handed_over alloc_tried put_back sizes_fit made signal_acted call_made effected acted_on_kernel box_effected acted_on_box acted went_on settled call_fits wait_fits ticks_fit flags_fit row_fits rows_fit queued_count counters_fit ready_word waiting_word ready_fits waiting_fits words_fit holder_fits references_fit positions_fit mailboxes_fit promised_count occurrences entries_fit objects_fit pool_fits pools_fit hangs_together refusal_of mask_of outcome_of done_with refused_with stepped
day-shown = refl

-- in the order in which they came, the post before the fetch: three were handed over, each as it was first, and two were lost
pub day-ledger : ledger 0 no_postings (event 2 1 15 5 ∷ event 2 0 17 5 ∷ later)
    ≡ record {
      present = [];
      given = event 2 1 15 5 ∷ event 5 255 15 6 ∷ event 7 0 16 8 ∷ [];
      lost = event 6 0 15 7 ∷ event 9 255 15 9 ∷ [];
    }
day-ledger = refl

-- by the results five were posted, two of them by interrupts, three fetched and two lost; and one object was added
abbrev pub sums_of : List Event → List ℕ
sums_of es = total (each (posted 0)) es ∷ total (each (fetched 0)) es ∷ total (lost_at 0) es ∷ total (each (added 0)) es ∷ []

pub day-sums : sums_of (shown_in 1 (fresh_moments line None day)) ≡ (5 ∷ 3 ∷ 2 ∷ 1 ∷ [])
unfolding first_from all_from count_of word_of first_of first_ready first_waiter taken_off put_on woken slept finished blocked enqueued released_first released_all taken waited signalled reset_to suspended_on resumed slept_for slept_until took_flags event_signalled event_waited ticked binary_signalled ring_posted posted_ahead ring_fetched emptied post_done post_tried fetch_done fetch_tried both_released mailbox_reset mailbox_resumed popped pushed handed_over alloc_tried put_back sizes_fit made signal_acted call_made effected acted_on_kernel box_effected acted_on_box acted went_on settled call_fits wait_fits ticks_fit flags_fit row_fits rows_fit queued_count counters_fit ready_word waiting_word ready_fits waiting_fits words_fit holder_fits references_fit positions_fit mailboxes_fit promised_count occurrences entries_fit objects_fit pool_fits pools_fit hangs_together refusal_of mask_of outcome_of done_with refused_with stepped
day-sums = refl

-- and the object that thread 1 was promised is free still
pub day-promised : (free_in (found (fresh_ran line None day).tables) 0
    ∷ number (is_promised (found (fresh_ran line None day).tables) 0) 2
    ∷ []) ≡ (1 ∷ 1 ∷ [])
unfolding first_from all_from count_of word_of first_of first_ready first_waiter taken_off put_on woken slept finished blocked enqueued released_first released_all taken waited signalled reset_to suspended_on resumed slept_for slept_until took_flags event_signalled event_waited ticked binary_signalled ring_posted posted_ahead ring_fetched emptied post_done post_tried fetch_done fetch_tried both_released mailbox_reset mailbox_resumed popped pushed handed_over alloc_tried put_back sizes_fit made signal_acted call_made effected acted_on_kernel box_effected acted_on_box acted went_on settled call_fits wait_fits ticks_fit flags_fit row_fits rows_fit queued_count counters_fit ready_word waiting_word ready_fits waiting_fits words_fit holder_fits references_fit positions_fit mailboxes_fit promised_count occurrences entries_fit objects_fit pool_fits pools_fit hangs_together refusal_of mask_of outcome_of done_with refused_with stepped
day-promised = refl

-- ---- the order of two calls in one step

-- a mailbox of one slot
abbrev narrow : Sizes
narrow = record { threads = 2; semaphores = 0; queues = 0; references = 0; mailboxes = 1; pools = 0; slots = 1 ∷ 0 ∷ 0 ∷ 0 ∷ [] }

pub made-narrow : Legal narrow None
unfolding all_from sizes_fit made
made-narrow = code-legal narrow None refl

-- thread 0 posts 7, and sleeps to post 8 ahead; thread 1 fetches
abbrev turn : List Step
turn = by 0 15 7 0 ∷ by 0 16 8 forever ∷ by 1 17 0 0 ∷ []

pub turn_typed : HostSteps turn
turn_typed = more 0 15 7 0 _ (omega arith) (more 0 16 8 forever _ (omega arith) (more 1 17 0 0 _ (omega arith) HostSteps.none))

-- 7 is fetched, and then 8 goes ahead
turn-events : events_in 1 (made narrow None).tables (made narrow None).clock turn ≡ (event 1 0 15 7 ∷ event 3 1 17 7 ∷ event 3 0 16 8 ∷ [])
unfolding first_from all_from count_of word_of first_of first_ready first_waiter taken_off put_on woken slept finished blocked enqueued released_first released_all taken waited signalled reset_to suspended_on resumed slept_for slept_until took_flags event_signalled event_waited ticked binary_signalled ring_posted posted_ahead ring_fetched emptied post_done post_tried fetch_done fetch_tried both_released mailbox_reset mailbox_resumed popped pushed handed_over alloc_tried put_back sizes_fit made signal_acted call_made effected acted_on_kernel box_effected acted_on_box acted went_on settled call_fits wait_fits ticks_fit flags_fit row_fits rows_fit queued_count counters_fit ready_word waiting_word ready_fits waiting_fits words_fit holder_fits references_fit positions_fit mailboxes_fit promised_count occurrences entries_fit objects_fit pool_fits pools_fit hangs_together refusal_of mask_of outcome_of done_with refused_with stepped turns turns_of events_in
turn-events = refl

-- and there is no other history of it, such as the post ahead before the fetch
pub turn-only : (es : List Event) → History 1 (fresh_moments narrow None turn) es
    → es ≡ (event 1 0 15 7 ∷ event 3 1 17 7 ∷ event 3 0 16 8 ∷ [])
turn-only es h =
    history-only h (recorded turn turn_typed 1 (made narrow None).tables (made narrow None).clock (fresh-going narrow None made-narrow)).0
    ∙ turn-events

-- the posting 8 is in the mailbox, and 7 was handed over
pub turn-ledger : ledger 0 no_postings (event 1 0 15 7 ∷ event 3 1 17 7 ∷ event 3 0 16 8 ∷ [])
    ≡ record { present = event 3 0 16 8 ∷ []; given = event 1 0 15 7 ∷ []; lost = [] }
turn-ledger = refl
