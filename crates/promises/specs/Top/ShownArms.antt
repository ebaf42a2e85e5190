-- Every arm of every row of the paper's table is met by a step that is accepted, after a run from fresh tables: by computation. Two threads,
-- one object of each sort, and a mailbox of one slot.
use Rattle.std.specs.Prelude.{ℕ, ◌≡◌, refl, Bool, true, not, ◌&&◌, List, [], ◌∷◌, eqb, replicate, pos, None}
use Rattle.std.specs.Int.Bits.{bit_and}
use Rattle.std.specs.Int.Signed.{lt_z}
use Rattle.kernel.specs.Walk.{first_from, all_from, count_of}
use Rattle.kernel.specs.Words.{word_of, first_of}
use Rattle.kernel.specs.Tables.{thread_at, counter_at, holder_at}
use Rattle.kernel.specs.Moves.{taken_off, put_on, woken, slept, finished, blocked}
use Rattle.kernel.specs.Waiters.{queued_at, first_ready, first_waiter}
use Rattle.kernel.specs.Queue.{enqueued, released_first, released_all}
use Rattle.kernel.specs.Semaphore.{taken, waited, signalled, reset_to}
use Rattle.kernel.specs.Reference.{suspended_on, resumed}
use Rattle.kernel.specs.Delay.{slept_for, slept_until}
use Rattle.kernel.specs.Event.{took_flags, event_signalled, event_waited}
use Rattle.kernel.specs.Ticking.{ticked}
use Rattle.library.specs.declared.calls.Step.{Step}
use Rattle.library.specs.declared.sizes.Sizes.{Sizes}
use Rattle.library.specs.declared.tables.Plant.{Plant}
use Rattle.library.specs.Binary.{binary_signalled}
use Rattle.library.specs.Ring.{positions_fit, posted, posted_ahead, fetched, emptied}
use Rattle.library.specs.Mailbox.{post_done, post_tried, fetch_done, fetch_tried, both_released, mailbox_reset, mailbox_resumed}
use Rattle.library.specs.Pool.{popped, pushed, handed_over, alloc_tried, put_back}
use Rattle.library.specs.Acting.{signal_acted, call_made, effected, acted_on_kernel, box_effected, acted_on_box, acted}
use Rattle.library.specs.Fresh.{made}
use Rattle.library.specs.Settling.{went_on, settled}
use Rattle.library.specs.Sizes.{sizes_fit}
use Rattle.library.specs.Tables.{opened, mailbox_at}
use Rattle.rules.specs.RowRules.{call_fits, wait_fits, ticks_fit, flags_fit, row_fits, rows_fit}
use Rattle.rules.specs.PlaceRules.{queued_count, counters_fit}
use Rattle.rules.specs.WordRules.{ready_word, waiting_word, ready_fits, waiting_fits, words_fit}
use Rattle.rules.specs.ReferenceRules.{holder_fits, references_fit}
use Rattle.rules.specs.MailboxRules.{mailboxes_fit}
use Rattle.rules.specs.PoolRules.{promised_count, occurrences, entries_fit, objects_fit, pool_fits, pools_fit}
use Rattle.rules.specs.Hanging.{hangs_together}
use Rattle.steps.specs.Refusal.{refusal_of}
use Rattle.steps.specs.Stepping.{mask_of, outcome_of, done_with, refused_with, stepped}
use Rattle.promises.specs.Code.Steps.{fresh_ran}
use Rattle.promises.specs.Top.ShownSteps.{by}

abbrev one : Sizes
one = record { threads = 2; semaphores = 1; queues = 1; references = 1; mailboxes = 1; pools = 1; slots = 1 ∷ 0 ∷ 0 ∷ 0 ∷ [] }

-- after the steps xs the step s is accepted, and the arm's test passes before it
abbrev met : List Step → Step → (Plant → Bool) → Bool
met xs s test =
    let r = fresh_ran one None xs in
    eqb (stepped r.tables r.clock s).outcome.code 0 && test (opened r.tables)

-- the tests
abbrev any : Plant → Bool
any p = true

abbrev above : ℕ → Plant → Bool
above q p = lt_z (pos 0) (counter_at p.kernel q)

abbrev below : ℕ → Plant → Bool
below q p = lt_z (counter_at p.kernel q) (pos 0)

abbrev not_above : ℕ → Plant → Bool
not_above q p = not (above q p)

-- thread 0 waits at the place
abbrev waiting : ℕ → Plant → Bool
waiting q p = queued_at q (thread_at p.kernel 0)

-- thread 0 has so many ticks left
abbrev left : ℕ → Plant → Bool
left n p = eqb (thread_at p.kernel 0).remaining n

abbrev held : Plant → Bool
held p = eqb (holder_at p.kernel 0) 0

abbrev pending : Plant → Bool
pending p = not (eqb (bit_and (thread_at p.kernel 0).pending 1) 0)

abbrev awaits : Plant → Bool
awaits p = eqb (thread_at p.kernel 0).state 4 && eqb (thread_at p.kernel 0).awaited 1

abbrev in_reset : Plant → Bool
in_reset p = eqb (mailbox_at p 0).reset 1

abbrev holds : ℕ → Plant → Bool
holds n p = eqb (mailbox_at p 0).positions.count n

-- semaphores, queues, references, sleeps, events
abbrev kernel_arms : List Bool
kernel_arms =
    met [] (by 255 1 0 0) any
    ∷ met (by 0 11 0 5 ∷ []) (by 255 1 0 0) (left 5)
    ∷ met (by 0 11 0 1 ∷ []) (by 255 1 0 0) (left 1)
    ∷ met (by 0 2 0 1 ∷ []) (by 255 1 0 0) (λ p. left 1 p && waiting 0 p)
    ∷ met (by 0 9 0 1 ∷ []) (by 255 1 0 0) (λ p. left 1 p && held p)
    ∷ met (by 0 3 0 0 ∷ []) (by 0 2 0 5) (above 0)
    ∷ met [] (by 0 2 0 0) (not_above 0)
    ∷ met [] (by 0 2 0 5) (not_above 0)
    ∷ met (by 0 2 0 5 ∷ []) (by 1 3 0 0) (below 0)
    ∷ met [] (by 0 3 0 0) (λ p. not (below 0 p))
    ∷ met (by 0 4 2147483647 0 ∷ []) (by 0 3 0 0) (λ p. not (lt_z (counter_at p.kernel 0) (pos 2147483647)))
    ∷ met (by 0 2 0 5 ∷ []) (by 1 4 3 0) (below 0)
    ∷ met (by 0 2 0 5 ∷ []) (by 1 5 0 0) (below 0)
    ∷ met [] (by 0 5 0 0) (λ p. not (below 0 p) && not_above 0 p)
    ∷ met (by 0 3 0 0 ∷ []) (by 0 5 0 0) (above 0)
    ∷ met [] (by 0 6 0 0) any
    ∷ met [] (by 0 6 0 5) any
    ∷ met (by 0 6 0 5 ∷ []) (by 1 7 9 0) (waiting 20)
    ∷ met [] (by 0 7 9 0) (λ p. not (waiting 20 p))
    ∷ met (by 0 6 0 5 ∷ []) (by 1 8 9 0) (waiting 20)
    ∷ met [] (by 0 9 0 0) any
    ∷ met [] (by 0 9 0 5) any
    ∷ met (by 0 9 0 5 ∷ []) (by 1 10 9 0) held
    ∷ met [] (by 0 10 9 0) (λ p. not (held p))
    ∷ met [] (by 0 11 0 5) any
    ∷ met [] (by 0 12 5 0) any
    ∷ met [] (by 0 13 1 0) (λ p. not (awaits p))
    ∷ met (by 0 14 1 5 ∷ []) (by 1 13 1 0) awaits
    ∷ met (by 0 13 1 0 ∷ []) (by 0 14 1 5) pending
    ∷ met [] (by 0 14 1 0) (λ p. not (pending p))
    ∷ met [] (by 0 14 1 5) (λ p. not (pending p))
    ∷ []

-- mailboxes and pools
abbrev box_arms : List Bool
box_arms =
    met (by 0 18 0 0 ∷ []) (by 0 15 7 5) in_reset
    ∷ met [] (by 0 15 7 5) (holds 0)
    ∷ met (by 0 18 0 0 ∷ []) (by 0 16 7 5) in_reset
    ∷ met [] (by 0 16 7 5) (holds 0)
    ∷ met (by 0 17 0 5 ∷ []) (by 1 16 7 5) (waiting 32)
    ∷ met (by 0 15 7 5 ∷ []) (by 0 16 8 0) (holds 1)
    ∷ met (by 0 15 7 5 ∷ []) (by 0 16 8 5) (holds 1)
    ∷ met (by 0 17 0 5 ∷ []) (by 1 15 7 5) (waiting 32)
    ∷ met (by 0 15 7 5 ∷ []) (by 0 15 8 0) (holds 1)
    ∷ met (by 0 15 7 5 ∷ []) (by 0 15 8 5) (holds 1)
    ∷ met (by 0 18 0 0 ∷ []) (by 0 17 0 5) in_reset
    ∷ met (by 0 15 7 5 ∷ []) (by 0 17 0 5) (holds 1)
    ∷ met (by 0 15 7 5 ∷ by 0 15 8 5 ∷ []) (by 1 17 0 5) (waiting 28)
    ∷ met [] (by 0 17 0 0) (holds 0)
    ∷ met [] (by 0 17 0 5) (holds 0)
    ∷ met (by 0 17 0 5 ∷ []) (by 1 18 0 0) (waiting 32)
    ∷ met (by 0 18 0 0 ∷ []) (by 0 19 0 0) in_reset
    ∷ met (by 0 22 5 0 ∷ []) (by 0 20 0 5) (above 16)
    ∷ met [] (by 0 20 0 0) (not_above 16)
    ∷ met [] (by 0 20 0 5) (not_above 16)
    ∷ met (by 0 20 0 5 ∷ []) (by 1 22 5 0) (waiting 16)
    ∷ met [] (by 0 22 5 0) (λ p. not (below 16 p))
    ∷ met (by 0 22 5 0 ∷ by 0 20 0 5 ∷ []) (by 0 21 5 0) (λ p. not (below 16 p))
    ∷ met (by 0 22 5 0 ∷ by 0 20 0 5 ∷ by 0 20 0 5 ∷ []) (by 1 21 5 0) (waiting 16)
    ∷ []

-- all of them are
pub arms-shown : (kernel_arms ≡ replicate 31 true) × (box_arms ≡ replicate 24 true)
unfolding first_from all_from count_of word_of first_of first_ready first_waiter taken_off put_on woken slept finished blocked enqueued released_first released_all taken waited signalled reset_to suspended_on resumed slept_for slept_until took_flags event_signalled event_waited ticked binary_signalled posted posted_ahead fetched emptied post_done post_tried fetch_done fetch_tried both_released mailbox_reset mailbox_resumed popped pushed handed_over alloc_tried put_back sizes_fit made signal_acted call_made effected acted_on_kernel box_effected acted_on_box acted went_on settled call_fits wait_fits ticks_fit flags_fit row_fits rows_fit queued_count counters_fit ready_word waiting_word ready_fits waiting_fits words_fit holder_fits references_fit positions_fit mailboxes_fit promised_count occurrences entries_fit objects_fit pool_fits pools_fit hangs_together refusal_of mask_of outcome_of done_with refused_with stepped
arms-shown = (refl, refl)
