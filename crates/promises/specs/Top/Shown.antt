-- The demands' hypotheses, met by runs from fresh tables, by computation: two threads, a semaphore and a pool.
use Rattle.std.specs.Prelude.{ℕ, ◌<◌, ◌≡◌, refl, List, [], ◌∷◌, ◌++◌, pos, negsuc, Some, None}
use Rattle.std.proofs.Common.{arith}
use Rattle.kernel.specs.declared.records.Answer.{Answer}
use Rattle.kernel.specs.declared.records.Thread.{Thread}
use Rattle.kernel.specs.Walk.{first_from, all_from, count_of}
use Rattle.kernel.specs.Words.{word_of, ones_of, first_of}
use Rattle.kernel.specs.Moves.{taken_off, put_on, woken, slept, finished, blocked}
use Rattle.kernel.specs.Waiters.{first_ready, first_waiter}
use Rattle.kernel.specs.Queue.{enqueued, released_first, released_all}
use Rattle.kernel.specs.Semaphore.{taken, waited, signalled}
use Rattle.kernel.specs.Delay.{slept_for}
use Rattle.kernel.specs.Event.{took_flags, event_signalled, event_waited}
use Rattle.kernel.specs.Ticking.{ticked}
use Rattle.library.specs.declared.calls.Step.{Step}
use Rattle.library.specs.declared.sizes.Sizes.{Sizes}
use Rattle.library.specs.declared.tables.Tables.{Tables}
use Rattle.library.specs.Pool.{popped, pushed, handed_over, alloc_tried, put_back}
use Rattle.library.specs.Acting.{signal_acted, call_made, effected, acted_on_kernel, box_effected, acted_on_box, acted}
use Rattle.library.specs.Fresh.{made}
use Rattle.library.specs.Settling.{went_on, settled}
use Rattle.library.specs.Ring.{positions_fit}
use Rattle.library.specs.Sizes.{sizes_fit}
use Rattle.rules.specs.RowRules.{call_fits, wait_fits, ticks_fit, flags_fit, row_fits, rows_fit}
use Rattle.rules.specs.PlaceRules.{queued_count, counters_fit}
use Rattle.rules.specs.WordRules.{ready_word, waiting_word, ready_fits, waiting_fits, words_fit}
use Rattle.rules.specs.ReferenceRules.{holder_fits, references_fit}
use Rattle.rules.specs.MailboxRules.{mailboxes_fit}
use Rattle.rules.specs.PoolRules.{promised_count, occurrences, entries_fit, objects_fit, pool_fits, pools_fit}
use Rattle.rules.specs.Hanging.{hangs_together}
use Rattle.steps.specs.Refusal.{refusal_of}
use Rattle.steps.specs.Stepping.{mask_of, outcome_of, done_with, refused_with, stepped}
use Rattle.host.specs.Screen.{ready_count, ready_first, waiters_at}
use Rattle.promises.specs.Paper.Host.{HostSteps}
use Rattle.promises.specs.Paper.Waking.{row_of}
use Rattle.promises.specs.Paper.Run.{WokenIn, TurnAt}
use Rattle.promises.specs.Paper.EachThread.{EachThread, Throughout}
use Rattle.promises.specs.Paper.Fresh.{Legal}
use Rattle.promises.specs.Paper.Frequency.{ran_at}
use Rattle.promises.specs.Meant.Fresh.{code-legal}
use Rattle.promises.specs.Code.Steps.{moments, fresh_ran}
use Rattle.promises.specs.Top.ShownSteps.{by, typed}
use Rattle.promises.specs.Top.Demands.{demand-3b, demand-3c, demand-3c-pools}
use Rattle.promises.specs.Top.Frequency.{any-frequency-fresh}

-- two threads, one semaphore, one pool
abbrev pub two : Sizes
two = record { threads = 2; semaphores = 1; queues = 0; references = 0; mailboxes = 0; pools = 1; slots = 0 ∷ 0 ∷ 0 ∷ 0 ∷ [] }

-- such tables are made
pub made-shown : Legal two None
unfolding all_from sizes_fit made
made-shown = code-legal two None refl

abbrev pub alone : Step → List Step
alone s = s ∷ []

pub one : (i kind a timeout : ℕ) → a < 4294967296 → HostSteps (alone (by i kind a timeout))
one i kind a timeout h = HostSteps.more (typed i kind a timeout h) HostSteps.none

-- ---- b: thread 0 waits at the semaphore for one tick, and the tick comes; a, of the same run, is in proofs/ShownSleeps.antt

abbrev pub waits : ℕ → ℕ → Step
waits i timeout = by i 2 0 timeout

abbrev pub tick : Step
tick = by 255 1 0 0

pub waits-typed : (timeout : ℕ) → HostSteps (alone (waits 0 timeout))
waits-typed timeout = one 0 2 0 timeout (omega arith)

pub demand-3b-shown :
    Throughout EachThread
    (moments (fresh_ran two None (alone (waits 0 1))).tables (fresh_ran two None (alone (waits 0 1))).clock (alone tick))
unfolding first_from all_from count_of word_of first_of first_ready first_waiter taken_off put_on woken slept finished blocked enqueued released_first released_all taken waited signalled ticked sizes_fit made signal_acted call_made effected acted_on_kernel acted went_on settled call_fits wait_fits ticks_fit flags_fit row_fits rows_fit queued_count counters_fit ready_word waiting_word ready_fits waiting_fits words_fit holder_fits references_fit positions_fit mailboxes_fit promised_count occurrences entries_fit objects_fit pool_fits pools_fit hangs_together refusal_of mask_of outcome_of done_with refused_with stepped
demand-3b-shown =
    demand-3b two None made-shown (alone (waits 0 1)) (waits-typed 1) (alone tick) (one 255 1 0 0 (omega arith)) 0 (omega arith)

-- ---- c: both threads wait for ever, and an interrupt signals twice: thread 1, with one higher waiter before it, is woken by the second

abbrev both_wait : List Step
both_wait = waits 0 4294967295 ∷ (waits 1 4294967295 ∷ [])

pub both_typed : HostSteps both_wait
both_typed =
    HostSteps.more (typed 0 2 0 4294967295 (omega arith)) (HostSteps.more (typed 1 2 0 4294967295 (omega arith)) HostSteps.none)

abbrev two_signals : List Step
two_signals = by 255 3 0 0 ∷ (by 255 3 0 0 ∷ [])

signals-typed : HostSteps two_signals
signals-typed = HostSteps.more (typed 255 3 0 0 (omega arith)) (HostSteps.more (typed 255 3 0 0 (omega arith)) HostSteps.none)

pub demand-3c-shown :
    WokenIn 1 (TurnAt 0 1)
    (moments (fresh_ran two None both_wait).tables (fresh_ran two None both_wait).clock two_signals)
unfolding first_from all_from count_of word_of first_of first_ready first_waiter taken_off put_on woken slept finished blocked enqueued released_first released_all taken waited signalled ticked sizes_fit made signal_acted call_made effected acted_on_kernel acted went_on settled call_fits wait_fits ticks_fit flags_fit row_fits rows_fit queued_count counters_fit ready_word waiting_word ready_fits waiting_fits words_fit holder_fits references_fit positions_fit mailboxes_fit promised_count occurrences entries_fit objects_fit pool_fits pools_fit hangs_together refusal_of mask_of outcome_of done_with refused_with stepped
demand-3c-shown =
    demand-3c two None made-shown both_wait both_typed two_signals signals-typed 1 (omega arith) 0 (omega arith) refl refl refl (omega arith)

-- ---- c, of a pool: thread 0 waits for an object, and an interrupt adds one

abbrev allocs : Step
allocs = by 0 20 0 4294967295

pub demand-3c-pools-shown :
    WokenIn 0 (TurnAt 16 0)
    (moments (fresh_ran two None (alone allocs)).tables
    (fresh_ran two None (alone allocs)).clock (alone (by 255 22 5 0)))
unfolding first_from all_from count_of word_of first_of first_ready first_waiter taken_off put_on woken slept finished blocked enqueued released_first released_all taken waited signalled ticked sizes_fit made signal_acted call_made effected acted_on_kernel acted went_on settled call_fits wait_fits ticks_fit flags_fit row_fits rows_fit queued_count counters_fit ready_word waiting_word ready_fits waiting_fits words_fit holder_fits references_fit positions_fit mailboxes_fit promised_count occurrences entries_fit objects_fit pool_fits pools_fit hangs_together refusal_of mask_of outcome_of done_with refused_with stepped popped pushed handed_over alloc_tried put_back box_effected acted_on_box
demand-3c-pools-shown =
    demand-3c-pools two None made-shown (alone allocs) (one 0 20 0 4294967295 (omega arith)) (alone (by 255 22 5 0))
    (one 255 22 5 0 (omega arith)) 0 (omega arith) 0 (omega arith) refl refl refl (omega arith)

-- ---- the frequency of document 02: where none is given a wait ends at the tick at which it ends where 1000 is

pub frequency-shown : fresh_ran two None (waits 0 1 ∷ tick ∷ []) ≡ ran_at 10000 (fresh_ran two (Some 1000) (waits 0 1 ∷ tick ∷ []))
unfolding all_from sizes_fit made
frequency-shown = any-frequency-fresh two (Some 1000) None (code-legal two (Some 1000) refl) made-shown (waits 0 1 ∷ tick ∷ [])

-- ---- the words of document 02, in runs: fresh; thread 0 waits; both wait, and idle runs; a signal wakes thread 0. Each row has the ready word,
-- the word of semaphore 0, how many are ready, who is first

abbrev words_after : List Step → List ℕ
words_after ss =
    let t : Tables = (fresh_ran two None ss).tables in
    t.kernel.words.ready ∷ waiters_at t 0 ∷ ready_count t ∷ ready_first t ∷ []

pub words-shown : words_after [] ∷ words_after (alone (waits 0 5)) ∷ words_after both_wait ∷ words_after (both_wait ++ alone (by 255 3 0 0)) ∷ []
    ≡ (3 ∷ 0 ∷ 2 ∷ 0 ∷ []) ∷ (2 ∷ 1 ∷ 1 ∷ 1 ∷ []) ∷ (0 ∷ 3 ∷ 0 ∷ 255 ∷ []) ∷ (1 ∷ 2 ∷ 1 ∷ 0 ∷ []) ∷ []
unfolding first_from all_from count_of word_of first_of first_ready first_waiter taken_off put_on woken slept finished blocked enqueued released_first released_all taken waited signalled ticked sizes_fit made signal_acted call_made effected acted_on_kernel acted went_on settled call_fits wait_fits ticks_fit flags_fit row_fits rows_fit queued_count counters_fit ready_word waiting_word ready_fits waiting_fits words_fit holder_fits references_fit positions_fit mailboxes_fit promised_count occurrences entries_fit objects_fit pool_fits pools_fit hangs_together refusal_of mask_of outcome_of done_with refused_with stepped ones_of
words-shown = refl

-- ---- the flags of document 02, in runs. Thread 1 is slow: it awaits flags 1 or 2, and thread 0 sleeps for one tick

abbrev slow : ℕ → List Step
slow timeout = by 0 11 0 1 ∷ by 1 14 3 timeout ∷ tick ∷ []

-- thread 0 signals flags to thread 1
abbrev signals : ℕ → Step
signals a = record { kind = 13; caller = 0; object = 1; a = a; timeout = 0 }

-- thread 0 sleeps again, and thread 1 goes on
abbrev goes_on : List Step
goes_on = by 0 11 0 1 ∷ []

-- thread 1 then: its state, the kind of its unfinished call, its pending flags, and its last answer
abbrev slow_after : List Step → (List ℕ) × Answer
slow_after ss =
    let u : Thread = row_of (fresh_ran two None ss).tables 1 in
    (u.state ∷ u.call.kind ∷ u.pending ∷ [], u.answer)

-- "a slow thread awaiting flags 1 or 2 was signalled 1, then 2 before it ran, and saw both"; flag 4 is not its
pub both-flags-seen : slow_after (slow 9 ++ signals 1 ∷ signals 6 ∷ []) ∷ slow_after (slow 9 ++ signals 1 ∷ signals 6 ∷ goes_on) ∷ []
    ≡ (0 ∷ 14 ∷ 7 ∷ [], record { message = pos 0; datum = 0 }) ∷ (0 ∷ 0 ∷ 4 ∷ [], record { message = pos 0; datum = 3 }) ∷ []
unfolding first_from all_from count_of word_of first_of first_ready first_waiter taken_off put_on woken slept finished blocked enqueued released_first released_all taken waited signalled slept_for took_flags event_signalled event_waited ticked sizes_fit made signal_acted call_made effected acted_on_kernel acted went_on settled call_fits wait_fits ticks_fit flags_fit row_fits rows_fit queued_count counters_fit ready_word waiting_word ready_fits waiting_fits words_fit holder_fits references_fit positions_fit mailboxes_fit promised_count occurrences entries_fit objects_fit pool_fits pools_fit hangs_together refusal_of mask_of outcome_of done_with refused_with stepped
both-flags-seen = refl

-- "A wait that timed out still answers -1 with 0, and flags that came afterwards stay pending"
pub late-flag-stays : slow_after (slow 1 ++ signals 1 ∷ goes_on) ≡ (0 ∷ 0 ∷ 1 ∷ [], record { message = negsuc 0; datum = 0 })
unfolding first_from all_from count_of word_of first_of first_ready first_waiter taken_off put_on woken slept finished blocked enqueued released_first released_all taken waited signalled slept_for took_flags event_signalled event_waited ticked sizes_fit made signal_acted call_made effected acted_on_kernel acted went_on settled call_fits wait_fits ticks_fit flags_fit row_fits rows_fit queued_count counters_fit ready_word waiting_word ready_fits waiting_fits words_fit holder_fits references_fit positions_fit mailboxes_fit promised_count occurrences entries_fit objects_fit pool_fits pools_fit hangs_together refusal_of mask_of outcome_of done_with refused_with stepped
late-flag-stays = refl
