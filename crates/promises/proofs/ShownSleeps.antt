-- The hypotheses of `demand-3a` and `demand-3a-begun`, met by runs from fresh tables, by computation. The runs are those of `Top.Shown` and `Top.ShownAgain`.
use Rattle.std.specs.Prelude.{refl, [], None}
use Rattle.std.proofs.Common.{arith}
use Rattle.kernel.specs.Walk.{first_from, all_from, count_of}
use Rattle.kernel.specs.Words.{word_of, first_of}
use Rattle.kernel.specs.Moves.{taken_off, put_on, woken, slept, finished, blocked}
use Rattle.kernel.specs.Waiters.{first_ready, first_waiter}
use Rattle.kernel.specs.Queue.{enqueued, released_first, released_all}
use Rattle.kernel.specs.Semaphore.{taken, waited, signalled, reset_to}
use Rattle.kernel.specs.Delay.{slept_for, slept_until}
use Rattle.kernel.specs.Event.{took_flags, event_signalled, event_waited}
use Rattle.kernel.specs.Ticking.{ticked}
use Rattle.library.specs.Pool.{popped, pushed, handed_over, alloc_tried, put_back}
use Rattle.library.specs.Acting.{signal_acted, call_made, effected, acted_on_kernel, box_effected, acted_on_box, acted}
use Rattle.library.specs.Fresh.{made}
use Rattle.library.specs.Settling.{went_on, settled}
use Rattle.library.specs.Ring.{positions_fit, posted as ring_posted, posted_ahead, fetched as ring_fetched, emptied}
use Rattle.library.specs.Sizes.{sizes_fit}
use Rattle.rules.specs.RowRules.{call_fits, wait_fits, ticks_fit, flags_fit, row_fits, rows_fit}
use Rattle.rules.specs.PlaceRules.{queued_count, counters_fit}
use Rattle.rules.specs.WordRules.{ready_word, waiting_word, ready_fits, waiting_fits, words_fit}
use Rattle.rules.specs.ReferenceRules.{holder_fits, references_fit}
use Rattle.rules.specs.MailboxRules.{mailboxes_fit}
use Rattle.rules.specs.PoolRules.{promised_count, occurrences, entries_fit, objects_fit, pool_fits, pools_fit}
use Rattle.rules.specs.Hanging.{hangs_together}
use Rattle.steps.specs.Refusal.{refusal_of}
use Rattle.steps.specs.Stepping.{mask_of, outcome_of, done_with, refused_with, stepped}
use Rattle.promises.specs.Paper.Host.{HostSteps}
use Rattle.promises.specs.Paper.Run.{WokenIn, WakingOf}
use Rattle.promises.specs.Code.Steps.{moments, fresh_ran}
use Rattle.kernel.specs.Reference.{suspended_on, resumed}
use Rattle.library.specs.Binary.{binary_signalled}
use Rattle.library.specs.Mailbox.{post_done, post_tried, fetch_done, fetch_tried, both_released, mailbox_reset, mailbox_resumed}
use Rattle.promises.specs.Top.ShownSteps.{more, typed}
use Rattle.promises.specs.Top.Shown.{two, made-shown, alone, one, waits, tick, waits-typed}
use Rattle.promises.specs.Top.ShownAgain.{narrow, made-narrow, taken_away, taken-typed, leaves, ticks}
use Rattle.promises.proofs.Sleeps.{demand-3a, demand-3a-begun}

-- ---- thread 0 waits at the semaphore for one tick, and the tick comes

pub demand-3a-shown :
    WokenIn 0 (WakingOf 0)
    (moments (fresh_ran two None (alone (waits 0 1))).tables (fresh_ran two None (alone (waits 0 1))).clock (alone tick))
unfolding first_from all_from count_of word_of first_of first_ready first_waiter taken_off put_on woken slept finished blocked enqueued released_first released_all taken waited signalled ticked sizes_fit made signal_acted call_made effected acted_on_kernel acted went_on settled call_fits wait_fits ticks_fit flags_fit row_fits rows_fit queued_count counters_fit ready_word waiting_word ready_fits waiting_fits words_fit holder_fits references_fit positions_fit mailboxes_fit promised_count occurrences entries_fit objects_fit pool_fits pools_fit hangs_together refusal_of mask_of outcome_of done_with refused_with stepped
demand-3a-shown =
    demand-3a two None made-shown (alone (waits 0 1)) (waits-typed 1) (alone tick) (one 255 1 0 0 (omega arith)) 0 (omega arith)
    (λ z. omega (arith, z)) (omega arith) (omega arith)

-- the same from the step in which it begins to wait
pub demand-3a-begun-shown :
    WokenIn 0 (WakingOf 0) (moments (stepped (fresh_ran two None []).tables (fresh_ran two None []).clock (waits 0 1)).tables
    (stepped (fresh_ran two None []).tables (fresh_ran two None []).clock (waits 0 1)).clock (alone tick))
unfolding first_from all_from count_of word_of first_of first_ready first_waiter taken_off put_on woken slept finished blocked enqueued released_first released_all taken waited signalled ticked sizes_fit made signal_acted call_made effected acted_on_kernel acted went_on settled call_fits wait_fits ticks_fit flags_fit row_fits rows_fit queued_count counters_fit ready_word waiting_word ready_fits waiting_fits words_fit holder_fits references_fit positions_fit mailboxes_fit promised_count occurrences entries_fit objects_fit pool_fits pools_fit hangs_together refusal_of mask_of outcome_of done_with refused_with stepped
demand-3a-begun-shown =
    demand-3a-begun two None made-shown [] HostSteps.none (alone tick) (one 255 1 0 0 (omega arith)) 0 (omega arith) (waits 0 1)
    (typed 0 2 0 1 (omega arith)) refl refl (λ z. omega (arith, z)) (omega arith) (omega arith)

-- ---- the same of a mailbox call that is tried again

-- the promise speaks of it
pub begun-again-shown :
    WokenIn 1 (WakingOf 1)
    (moments (stepped (fresh_ran narrow None taken_away).tables (fresh_ran narrow None taken_away).clock leaves).tables
    (stepped (fresh_ran narrow None taken_away).tables (fresh_ran narrow None taken_away).clock leaves).clock ticks)
unfolding first_from all_from count_of word_of first_of first_ready first_waiter taken_off put_on woken slept finished blocked enqueued released_first released_all taken waited signalled reset_to suspended_on resumed slept_for slept_until took_flags event_signalled event_waited ticked binary_signalled ring_posted posted_ahead ring_fetched emptied post_done post_tried fetch_done fetch_tried both_released mailbox_reset mailbox_resumed popped pushed handed_over alloc_tried put_back sizes_fit made signal_acted call_made effected acted_on_kernel box_effected acted_on_box acted went_on settled call_fits wait_fits ticks_fit flags_fit row_fits rows_fit queued_count counters_fit ready_word waiting_word ready_fits waiting_fits words_fit holder_fits references_fit positions_fit mailboxes_fit promised_count occurrences entries_fit objects_fit pool_fits pools_fit hangs_together refusal_of mask_of outcome_of done_with refused_with stepped
begun-again-shown =
    demand-3a-begun narrow None made-narrow taken_away taken-typed ticks (more 255 1 0 0 _ (omega arith) (more 255 1 0 0 _ (omega arith) HostSteps.none))
    1 (omega arith) leaves (typed 0 11 0 100 (omega arith)) refl refl (λ z. omega (arith, z)) (omega arith) (omega arith)
