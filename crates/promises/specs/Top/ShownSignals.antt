-- Signals at the top, in a run from fresh tables, by computation: two threads, a semaphore and a pool.
use Rattle.std.specs.Prelude.{ℕ, ◌+◌, ◌≡◌, refl, List, [], ◌∷◌, ℤ, pos, negsuc, None}
use Rattle.std.proofs.Common.{arith}
use Rattle.kernel.specs.declared.clock.Clock.{Clock}
use Rattle.kernel.specs.Walk.{first_from, all_from, count_of}
use Rattle.kernel.specs.Words.{word_of, first_of}
use Rattle.kernel.specs.Moves.{taken_off, put_on, woken, slept, finished, blocked}
use Rattle.kernel.specs.Waiters.{first_ready, first_waiter}
use Rattle.kernel.specs.Queue.{enqueued, released_first, released_all}
use Rattle.kernel.specs.Semaphore.{taken, waited, signalled, reset_to}
use Rattle.library.specs.declared.calls.Step.{Step}
use Rattle.library.specs.declared.sizes.Sizes.{Sizes}
use Rattle.library.specs.declared.tables.Tables.{Tables}
use Rattle.library.specs.Acting.{signal_acted, call_made, effected, acted_on_kernel, acted}
use Rattle.library.specs.Binary.{binary_signalled}
use Rattle.library.specs.Fresh.{made}
use Rattle.library.specs.Settling.{went_on, settled}
use Rattle.library.specs.Ring.{positions_fit}
use Rattle.library.specs.Sizes.{sizes_fit}
use Rattle.rules.specs.RowRules.{call_fits, wait_fits, ticks_fit, flags_fit, row_fits, rows_fit}
use Rattle.rules.specs.PlaceRules.{queued_count, counters_fit}
use Rattle.rules.specs.WordRules.{ready_word, waiting_word, ready_fits, waiting_fits, words_fit}
use Rattle.rules.specs.ReferenceRules.{holder_fits, references_fit}
use Rattle.rules.specs.MailboxRules.{mailboxes_fit}
use Rattle.rules.specs.PoolRules.{promised_count, occurrences, entries_fit, objects_fit, pool_fits, pools_fit}
use Rattle.rules.specs.Hanging.{hangs_together}
use Rattle.steps.specs.Refusal.{refusal_of}
use Rattle.steps.specs.Stepping.{mask_of, outcome_of, done_with, refused_with, stepped}
use Rattle.promises.specs.Paper.World.{found}
use Rattle.promises.specs.Paper.Host.{HostSteps, Going}
use Rattle.promises.specs.Paper.Waking.{row_of}
use Rattle.promises.specs.Paper.Run.{Moment}
use Rattle.promises.specs.Paper.Signals.{AtTop}
use Rattle.promises.specs.Paper.Fresh.{Legal}
use Rattle.promises.specs.Meant.Fresh.{code-legal}
use Rattle.promises.specs.Code.Steps.{fresh_moments, fresh_ran}
use Rattle.promises.specs.Runs.Moments.{host}
use Rattle.promises.specs.Top.ShownSteps.{by, typed}
use Rattle.promises.specs.Top.Demands.{fresh-going, run-going}
use Rattle.promises.specs.Top.Signals.{signal-told}

abbrev tank : Sizes
tank = record { threads = 2; semaphores = 1; queues = 0; references = 0; mailboxes = 0; pools = 1; slots = 0 ∷ 0 ∷ 0 ∷ 0 ∷ [] }

-- such tables are made
pub made-tank : Legal tank None
unfolding all_from sizes_fit made
made-tank = code-legal tank None refl

-- thread 0 sets the counter one below the top, and an interrupt signals, which counts
abbrev near : List Step
near = by 0 4 2147483646 0 ∷ by 255 3 0 0 ∷ []

pub near-typed : HostSteps near
near-typed = HostSteps.more (typed 0 4 2147483646 0 (omega arith)) (HostSteps.more (typed 255 3 0 0 (omega arith)) HostSteps.none)

-- then it signals again, and so does thread 0; a binary signal, a wait, and one more
abbrev weeks : List Step
weeks = by 0 4 2147483646 0 ∷ by 255 3 0 0 ∷ by 255 3 0 0 ∷ by 0 3 0 0 ∷ by 0 5 0 0 ∷ by 0 2 0 5 ∷ by 0 3 0 0 ∷ []

-- a number without its sign
abbrev size_of : ℤ → ℕ
size_of (pos n) = n
size_of (negsuc n) = n + 1

-- of each step its code, message, woken and finished threads; then the counter, and thread 0's last message
abbrev shown : List Moment → List (List ℕ)
shown [] = []
shown (m ∷ ms) =
    (m.result.code
    ∷ size_of m.result.message
    ∷ m.result.woken
    ∷ m.result.finished
    ∷ size_of ((found m.after).counter 0)
    ∷ size_of (row_of m.after 0).answer.message
    ∷ [])
    ∷ shown ms

pub weeks-shown : shown (fresh_moments tank None weeks)
    ≡ (0 ∷ 0 ∷ 0 ∷ 1 ∷ 2147483646 ∷ 0 ∷ [])
    ∷ (0 ∷ 0 ∷ 0 ∷ 0 ∷ 2147483647 ∷ 0 ∷ [])
    ∷ (0 ∷ 1 ∷ 0 ∷ 0 ∷ 2147483647 ∷ 0 ∷ [])
    ∷ (0 ∷ 1 ∷ 0 ∷ 1 ∷ 2147483647 ∷ 1 ∷ [])
    ∷ (0 ∷ 0 ∷ 0 ∷ 1 ∷ 2147483647 ∷ 0 ∷ [])
    ∷ (0 ∷ 0 ∷ 0 ∷ 1 ∷ 2147483646 ∷ 0 ∷ [])
    ∷ (0 ∷ 0 ∷ 0 ∷ 1 ∷ 2147483647 ∷ 0 ∷ [])
    ∷ []
unfolding first_from all_from count_of word_of first_of first_ready first_waiter taken_off put_on woken slept finished blocked enqueued released_first released_all taken waited signalled sizes_fit made signal_acted call_made effected acted_on_kernel acted went_on settled call_fits wait_fits ticks_fit flags_fit row_fits rows_fit queued_count counters_fit ready_word waiting_word ready_fits waiting_fits words_fit holder_fits references_fit positions_fit mailboxes_fit promised_count occurrences entries_fit objects_fit pool_fits pools_fit hangs_together refusal_of mask_of outcome_of done_with refused_with stepped reset_to binary_signalled
weeks-shown = refl

-- the tables and the clock after the first two, of which the promise speaks
abbrev pub full : Tables
full = (fresh_ran tank None near).tables

abbrev pub then : Clock
then = (fresh_ran tank None near).clock

full-going : Going full then
full-going = run-going near near-typed (made tank None).tables (made tank None).clock (fresh-going tank None made-tank)

pub top-shown : AtTop full then (by 0 3 0 0) (stepped full then (by 0 3 0 0))
unfolding first_from all_from count_of word_of first_of first_ready first_waiter taken_off put_on woken slept finished blocked enqueued released_first released_all taken waited signalled sizes_fit made signal_acted call_made effected acted_on_kernel acted went_on settled call_fits wait_fits ticks_fit flags_fit row_fits rows_fit queued_count counters_fit ready_word waiting_word ready_fits waiting_fits words_fit holder_fits references_fit positions_fit mailboxes_fit promised_count occurrences entries_fit objects_fit pool_fits pools_fit hangs_together refusal_of mask_of outcome_of done_with refused_with stepped reset_to
top-shown = (signal-told full then (by 0 3 0 0) (host full then full-going (by 0 3 0 0) (typed 0 3 0 0 (omega arith))) refl).at_top refl refl

pub interrupt-shown : AtTop full then (by 255 3 0 0) (stepped full then (by 255 3 0 0))
unfolding first_from all_from count_of word_of first_of first_ready first_waiter taken_off put_on woken slept finished blocked enqueued released_first released_all taken waited signalled sizes_fit made signal_acted call_made effected acted_on_kernel acted went_on settled call_fits wait_fits ticks_fit flags_fit row_fits rows_fit queued_count counters_fit ready_word waiting_word ready_fits waiting_fits words_fit holder_fits references_fit positions_fit mailboxes_fit promised_count occurrences entries_fit objects_fit pool_fits pools_fit hangs_together refusal_of mask_of outcome_of done_with refused_with stepped reset_to
interrupt-shown =
    (signal-told full then (by 255 3 0 0) (host full then full-going (by 255 3 0 0) (typed 255 3 0 0 (omega arith))) refl).at_top refl refl
