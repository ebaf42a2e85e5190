-- A mailbox call that was woken by an earlier step, is tried again and sleeps again, by computation: it has its FULL timeout then. That it ends by its
-- last tick is in proofs/ShownSleeps.antt. Two threads, a mailbox of one slot.
use Rattle.std.proofs.Common.{arith}
use Rattle.std.specs.Prelude.{◌≡◌, refl, List, [], ◌∷◌, ◌++◌, None}
use Rattle.kernel.specs.Walk.{first_from, all_from, count_of}
use Rattle.kernel.specs.Words.{word_of, first_of}
use Rattle.kernel.specs.Moves.{taken_off, put_on, woken, slept, finished, blocked}
use Rattle.kernel.specs.Waiters.{first_ready, first_waiter}
use Rattle.kernel.specs.Queue.{enqueued, released_first, released_all}
use Rattle.kernel.specs.Semaphore.{taken, waited, signalled, reset_to}
use Rattle.kernel.specs.Reference.{suspended_on, resumed}
use Rattle.kernel.specs.Delay.{slept_for, slept_until}
use Rattle.kernel.specs.Event.{took_flags, event_signalled, event_waited}
use Rattle.kernel.specs.Ticking.{ticked}
use Rattle.library.specs.Binary.{binary_signalled}
use Rattle.library.specs.Ring.{positions_fit, posted as ring_posted, posted_ahead, fetched as ring_fetched, emptied}
use Rattle.library.specs.Mailbox.{post_done, post_tried, fetch_done, fetch_tried, both_released, mailbox_reset, mailbox_resumed}
use Rattle.library.specs.Pool.{popped, pushed, handed_over, alloc_tried, put_back}
use Rattle.library.specs.Acting.{signal_acted, call_made, effected, acted_on_kernel, box_effected, acted_on_box, acted}
use Rattle.library.specs.Fresh.{made}
use Rattle.library.specs.Settling.{went_on, settled}
use Rattle.library.specs.Sizes.{sizes_fit}
use Rattle.rules.specs.RowRules.{call_fits, wait_fits, ticks_fit, flags_fit, row_fits, rows_fit}
use Rattle.rules.specs.PlaceRules.{queued_count, counters_fit}
use Rattle.rules.specs.WordRules.{ready_word, waiting_word, ready_fits, waiting_fits, words_fit}
use Rattle.rules.specs.ReferenceRules.{holder_fits, references_fit}
use Rattle.rules.specs.MailboxRules.{mailboxes_fit}
use Rattle.rules.specs.PoolRules.{promised_count, occurrences, entries_fit, objects_fit, pool_fits, pools_fit}
use Rattle.rules.specs.Hanging.{hangs_together}
use Rattle.steps.specs.Refusal.{refusal_of}
use Rattle.steps.specs.Stepping.{mask_of, outcome_of, done_with, refused_with, stepped}
use Rattle.library.specs.declared.calls.Step.{Step}
use Rattle.library.specs.declared.sizes.Sizes.{Sizes}
use Rattle.promises.specs.Paper.Host.{HostSteps}
use Rattle.promises.specs.Paper.Waking.{row_of}
use Rattle.promises.specs.Paper.Run.{begun_with}
use Rattle.promises.specs.Paper.Fresh.{Legal}
use Rattle.promises.specs.Code.Steps.{fresh_ran}
use Rattle.promises.specs.Meant.Fresh.{code-legal}
use Rattle.promises.specs.Top.ShownSteps.{by, more}

abbrev pub narrow : Sizes
narrow = record { threads = 2; semaphores = 0; queues = 0; references = 0; mailboxes = 1; pools = 0; slots = 1 ∷ 0 ∷ 0 ∷ 0 ∷ [] }

pub made-narrow : Legal narrow None
unfolding all_from sizes_fit made
made-narrow = code-legal narrow None refl

-- thread 0 sleeps for a tick, and thread 1 waits for a message, for at most two; thread 0 posts one, which wakes thread 1, and fetches it itself
abbrev pub taken_away : List Step
taken_away = by 0 11 0 1 ∷ by 1 17 0 2 ∷ by 255 1 0 0 ∷ by 0 15 5 0 ∷ by 0 17 0 0 ∷ []

pub taken-typed : HostSteps taken_away
taken-typed =
    more 0 11 0 1 _ (omega arith)
    (more 1 17 0 2 _ (omega arith) (more 255 1 0 0 _ (omega arith) (more 0 15 5 0 _ (omega arith) (more 0 17 0 0 _ (omega arith) HostSteps.none))))

-- then it sleeps: thread 1's fetch is tried again, and finds nothing
abbrev pub leaves : Step
leaves = by 0 11 0 100

abbrev pub ticks : List Step
ticks = by 255 1 0 0 ∷ by 255 1 0 0 ∷ []

-- the state of thread 1 before and after that step, the timeout that it begins with, and its remaining ticks then
pub again-shown :
    (row_of (fresh_ran narrow None taken_away).tables 1).state
    ∷ (row_of (fresh_ran narrow None (taken_away ++ (leaves ∷ []))).tables 1).state
    ∷ begun_with (fresh_ran narrow None taken_away).tables (fresh_ran narrow None taken_away).clock leaves 1
    ∷ (row_of (fresh_ran narrow None (taken_away ++ (leaves ∷ []))).tables 1).remaining
    ∷ []
    ≡ 0 ∷ 3 ∷ 2 ∷ 2 ∷ []
unfolding first_from all_from count_of word_of first_of first_ready first_waiter taken_off put_on woken slept finished blocked enqueued released_first released_all taken waited signalled reset_to suspended_on resumed slept_for slept_until took_flags event_signalled event_waited ticked binary_signalled ring_posted posted_ahead ring_fetched emptied post_done post_tried fetch_done fetch_tried both_released mailbox_reset mailbox_resumed popped pushed handed_over alloc_tried put_back sizes_fit made signal_acted call_made effected acted_on_kernel box_effected acted_on_box acted went_on settled call_fits wait_fits ticks_fit flags_fit row_fits rows_fit queued_count counters_fit ready_word waiting_word ready_fits waiting_fits words_fit holder_fits references_fit positions_fit mailboxes_fit promised_count occurrences entries_fit objects_fit pool_fits pools_fit hangs_together refusal_of mask_of outcome_of done_with refused_with stepped
again-shown = refl
