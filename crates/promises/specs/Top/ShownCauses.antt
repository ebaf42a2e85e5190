-- Why threads woke, in a run from fresh tables, by computation: a signal, a timeout and a reset at one semaphore, with a refused step in between;
-- and a fetch that waits and is woken by a post that goes on in the same step. Two threads, a semaphore, and a mailbox of one slot.
use Rattle.std.specs.Prelude.{ℕ, ◌≡◌, refl, List, [], ◌∷◌, None}
use Rattle.std.proofs.Common.{arith}
use Rattle.kernel.specs.Walk.{first_from, all_from, count_of}
use Rattle.kernel.specs.Words.{word_of, first_of}
use Rattle.kernel.specs.Moves.{taken_off, put_on, woken, slept, finished, blocked}
use Rattle.kernel.specs.Waiters.{first_ready, first_waiter}
use Rattle.kernel.specs.Queue.{enqueued, released_first, released_all}
use Rattle.kernel.specs.Semaphore.{taken, waited, signalled, reset_to}
use Rattle.kernel.specs.Reference.{suspended_on, resumed}
use Rattle.kernel.specs.Delay.{slept_for, slept_until}
use Rattle.kernel.specs.Event.{took_flags, event_signalled, event_waited}
use Rattle.kernel.specs.Ticking.{ticked}
use Rattle.library.specs.Binary.{binary_signalled}
use Rattle.library.specs.Ring.{positions_fit, posted as ring_posted, posted_ahead, fetched as ring_fetched, emptied}
use Rattle.library.specs.Mailbox.{post_done, post_tried, fetch_done, fetch_tried, both_released, mailbox_reset, mailbox_resumed}
use Rattle.library.specs.Pool.{popped, pushed, handed_over, alloc_tried, put_back}
use Rattle.library.specs.Acting.{signal_acted, call_made, effected, acted_on_kernel, box_effected, acted_on_box, acted}
use Rattle.library.specs.Fresh.{made}
use Rattle.library.specs.Settling.{went_on, settled}
use Rattle.library.specs.Sizes.{sizes_fit}
use Rattle.rules.specs.RowRules.{call_fits, wait_fits, ticks_fit, flags_fit, row_fits, rows_fit}
use Rattle.rules.specs.PlaceRules.{queued_count, counters_fit}
use Rattle.rules.specs.WordRules.{ready_word, waiting_word, ready_fits, waiting_fits, words_fit}
use Rattle.rules.specs.ReferenceRules.{holder_fits, references_fit}
use Rattle.rules.specs.MailboxRules.{mailboxes_fit}
use Rattle.rules.specs.PoolRules.{promised_count, occurrences, entries_fit, objects_fit, pool_fits, pools_fit}
use Rattle.rules.specs.Hanging.{hangs_together}
use Rattle.steps.specs.Refusal.{refusal_of}
use Rattle.steps.specs.Stepping.{mask_of, outcome_of, done_with, refused_with, stepped}
use Rattle.library.specs.declared.calls.Step.{Step}
use Rattle.library.specs.declared.sizes.Sizes.{Sizes}
use Rattle.promises.specs.Paper.Host.{HostSteps}
use Rattle.promises.specs.Paper.Waking.{row_of}
use Rattle.promises.specs.Paper.Run.{Moment, is_accepted, how_many}
use Rattle.promises.specs.Paper.Causes.{why_of, not_yet, LastWaking}
use Rattle.promises.specs.Paper.Fresh.{Legal}
use Rattle.promises.specs.Code.Steps.{fresh_moments, fresh_ran}
use Rattle.promises.specs.Meant.Fresh.{code-legal}
use Rattle.promises.specs.Top.ShownSteps.{by, more}
use Rattle.promises.specs.Top.Causes.{why-fresh, steps-fresh}

abbrev valve : Sizes
valve = record { threads = 2; semaphores = 1; queues = 0; references = 0; mailboxes = 1; pools = 0; slots = 1 ∷ 0 ∷ 0 ∷ 0 ∷ [] }

pub made-valve : Legal valve None
unfolding all_from sizes_fit made
made-valve = code-legal valve None refl

-- thread 0 waits, and an interrupt signals; it waits for a tick, signals where it does not run, which is refused, and the tick comes; it waits, and
-- the interrupt resets. It sleeps for a tick, thread 1 posts, posts again and waits, and the tick comes; it fetches, which wakes thread 1,
-- and fetches again and waits: thread 1's post goes on and wakes it (`faller-told`)
abbrev shift : List Step
shift =
    by 0 2 0 9
    ∷ by 255 3 0 0
    ∷ by 0 2 0 1
    ∷ by 0 3 0 0
    ∷ by 255 1 0 0
    ∷ by 0 2 0 9
    ∷ by 255 4 0 0
    ∷ by 0 11 0 1
    ∷ by 1 15 12 0
    ∷ by 1 15 13 9
    ∷ by 255 1 0 0
    ∷ by 0 17 0 0
    ∷ by 0 17 0 9
    ∷ []

pub shift-typed : HostSteps shift
shift-typed =
    more 0 2 0 9 _ (omega arith)
    (more 255 3 0 0 _ (omega arith)
    (more 0 2 0 1 _ (omega arith)
    (more 0 3 0 0 _ (omega arith)
    (more 255 1 0 0 _ (omega arith)
    (more 0 2 0 9 _ (omega arith)
    (more 255 4 0 0 _ (omega arith)
    (more 0 11 0 1 _ (omega arith)
    (more 1 15 12 0 _ (omega arith)
    (more 1 15 13 9 _ (omega arith)
    (more 255 1 0 0 _ (omega arith) (more 0 17 0 0 _ (omega arith) (more 0 17 0 9 _ (omega arith) HostSteps.none))))))))))))

-- of each step its code, who was woken, and the step number; then the cause and the number of thread 0, and of thread 1
abbrev shown : List Moment → List (List ℕ)
shown [] = []
shown (m ∷ ms) =
    (m.result.code
    ∷ m.result.woken
    ∷ m.after.kernel.steps
    ∷ (row_of m.after 0).cause
    ∷ (row_of m.after 0).step
    ∷ (row_of m.after 1).cause
    ∷ (row_of m.after 1).step
    ∷ [])
    ∷ shown ms

pub shift-shown : shown (fresh_moments valve None shift)
    ≡ (0 ∷ 0 ∷ 1 ∷ 0 ∷ 0 ∷ 0 ∷ 0 ∷ [])
    ∷ (0 ∷ 1 ∷ 2 ∷ 1 ∷ 2 ∷ 0 ∷ 0 ∷ [])
    ∷ (0 ∷ 0 ∷ 3 ∷ 1 ∷ 2 ∷ 0 ∷ 0 ∷ [])
    ∷ (3 ∷ 0 ∷ 3 ∷ 1 ∷ 2 ∷ 0 ∷ 0 ∷ [])
    ∷ (0 ∷ 1 ∷ 4 ∷ 8 ∷ 4 ∷ 0 ∷ 0 ∷ [])
    ∷ (0 ∷ 0 ∷ 5 ∷ 8 ∷ 4 ∷ 0 ∷ 0 ∷ [])
    ∷ (0 ∷ 1 ∷ 6 ∷ 7 ∷ 6 ∷ 0 ∷ 0 ∷ [])
    ∷ (0 ∷ 0 ∷ 7 ∷ 7 ∷ 6 ∷ 0 ∷ 0 ∷ [])
    ∷ (0 ∷ 0 ∷ 8 ∷ 7 ∷ 6 ∷ 0 ∷ 0 ∷ [])
    ∷ (0 ∷ 0 ∷ 9 ∷ 7 ∷ 6 ∷ 0 ∷ 0 ∷ [])
    ∷ (0 ∷ 1 ∷ 10 ∷ 8 ∷ 10 ∷ 0 ∷ 0 ∷ [])
    ∷ (0 ∷ 2 ∷ 11 ∷ 8 ∷ 10 ∷ 6 ∷ 11 ∷ [])
    ∷ (0 ∷ 1 ∷ 12 ∷ 5 ∷ 12 ∷ 6 ∷ 11 ∷ [])
    ∷ []
unfolding first_from all_from count_of word_of first_of first_ready first_waiter taken_off put_on woken slept finished blocked enqueued released_first released_all taken waited signalled reset_to suspended_on resumed slept_for slept_until took_flags event_signalled event_waited ticked binary_signalled ring_posted posted_ahead ring_fetched emptied post_done post_tried fetch_done fetch_tried both_released mailbox_reset mailbox_resumed popped pushed handed_over alloc_tried put_back sizes_fit made signal_acted call_made effected acted_on_kernel box_effected acted_on_box acted went_on settled call_fits wait_fits ticks_fit flags_fit row_fits rows_fit queued_count counters_fit ready_word waiting_word ready_fits waiting_fits words_fit holder_fits references_fit positions_fit mailboxes_fit promised_count occurrences entries_fit objects_fit pool_fits pools_fit hangs_together refusal_of mask_of outcome_of done_with refused_with stepped
shift-shown = refl

-- the promise speaks of it
pub shift-why : LastWaking 0 (why_of (row_of (fresh_ran valve None shift).tables 0)) 0 not_yet (fresh_moments valve None shift)
shift-why = why-fresh valve None made-valve shift shift-typed 0 (omega arith)

-- and its step number is the number of accepted steps: thirteen, less the refused one
pub shift-steps : (how_many is_accepted (fresh_moments valve None shift) ≡ 12)
    × ((fresh_ran valve None shift).tables.kernel.steps ≡ 12)
unfolding first_from all_from count_of word_of first_of first_ready first_waiter taken_off put_on woken slept finished blocked enqueued released_first released_all taken waited signalled reset_to suspended_on resumed slept_for slept_until took_flags event_signalled event_waited ticked binary_signalled ring_posted posted_ahead ring_fetched emptied post_done post_tried fetch_done fetch_tried both_released mailbox_reset mailbox_resumed popped pushed handed_over alloc_tried put_back sizes_fit made signal_acted call_made effected acted_on_kernel box_effected acted_on_box acted went_on settled call_fits wait_fits ticks_fit flags_fit row_fits rows_fit queued_count counters_fit ready_word waiting_word ready_fits waiting_fits words_fit holder_fits references_fit positions_fit mailboxes_fit promised_count occurrences entries_fit objects_fit pool_fits pools_fit hangs_together refusal_of mask_of outcome_of done_with refused_with stepped
shift-steps = (refl, steps-fresh valve None made-valve shift shift-typed (omega arith))
