-- "Prove in a single statement over a single list the twelve facts": what is computed by the definitions that the contracts cite,
-- beside what document 01 says.
use Rattle.std.specs.Prelude.{ℕ, suc, ◌≡◌, refl, List, [], ◌∷◌, ◌++◌, Some, None}
use Rattle.kernel.specs.declared.time.SystemTime.{SystemTime}
use Rattle.kernel.specs.declared.units.Unit.TheVariants.{Milliseconds, Microseconds}
use Rattle.kernel.specs.Told.{Ticks}
use Rattle.kernel.specs.Time.{differed, in_range}
use Rattle.kernel.specs.Units.{in_ticks}
use Rattle.kernel.specs.Walk.{bit, first_from, all_from, count_of}
use Rattle.kernel.specs.Words.{word_of, first_of}
use Rattle.kernel.specs.Waiters.{first_ready, first_waiter}
use Rattle.kernel.specs.Moves.{taken_off, put_on, woken, slept, finished, blocked}
use Rattle.kernel.specs.Queue.{enqueued, released_first, released_all}
use Rattle.kernel.specs.Semaphore.{taken, waited, signalled}
use Rattle.kernel.specs.Ticking.{ticked}
use Rattle.library.specs.Told.{Made}
use Rattle.library.specs.Ring.{positions_fit}
use Rattle.library.specs.Sizes.{sizes_fit}
use Rattle.library.specs.Fresh.{made}
use Rattle.library.specs.Acting.{signal_acted, call_made, effected, acted_on_kernel, acted}
use Rattle.library.specs.Settling.{went_on, settled}
use Rattle.rules.specs.RowRules.{call_fits, wait_fits, ticks_fit, flags_fit, row_fits, rows_fit}
use Rattle.rules.specs.PlaceRules.{queued_count, counters_fit}
use Rattle.rules.specs.WordRules.{ready_word, waiting_word, ready_fits, waiting_fits, words_fit}
use Rattle.rules.specs.ReferenceRules.{holder_fits, references_fit}
use Rattle.rules.specs.MailboxRules.{mailboxes_fit}
use Rattle.rules.specs.PoolRules.{promised_count, occurrences, entries_fit, objects_fit, pool_fits, pools_fit}
use Rattle.rules.specs.Hanging.{hangs_together}
use Rattle.steps.specs.declared.stepping.Outcome.{Outcome}
use Rattle.steps.specs.Refusal.{refusal_of}
use Rattle.steps.specs.Stepping.{mask_of, outcome_of, done_with, refused_with, stepped}
use Rattle.trace.specs.Told.{Found}
use Rattle.trace.specs.Ordered.{get_n}
use Rattle.trace.specs.Decoding.{ends_inside, length_refusal, step_refusal, decoded_sizes, decoded_step, opened_read, stepped_read, next_read}
use Rattle.trace.specs.Traces.{Reading, read_from, read_all}
use Rattle.promises.specs.Paper.Run.{Ran}
use Rattle.promises.specs.Code.Steps.{ran}

-- "a line per step (record number, code, running, woken, finished)"
abbrev pub line_of : ℕ → Outcome → List ℕ
line_of n o = n ∷ o.code ∷ o.running ∷ o.woken ∷ o.finished ∷ []

-- the lines of results, from a record number on
abbrev pub lines_from : ℕ → List Outcome → List (List ℕ)
lines_from n [] = []
lines_from n (o ∷ os) = line_of n o ∷ lines_from (suc n) os

-- what a reading's steps do to fresh tables of its sizes
abbrev pub ran_fresh : Reading → Made → Ran
ran_fresh r m = ran m.tables m.clock r.steps

-- the lines of a trace, from its bytes; record 0 is the sizes, and the listing program gives 1000 (document 02)
abbrev pub lines_of : Reading → List (List ℕ)
lines_of r = lines_from 1 (ran_fresh r (made r.sizes (Some 1000))).outcomes

-- "Trace `01 0006 020100000000` and six 11-byte steps", with their length bytes
abbrev pub six_steps : List ℕ
six_steps =
    1 ∷ 0 ∷ 6 ∷ 2 ∷ 1 ∷ 0 ∷ 0 ∷ 0 ∷ 0
    ∷ 0 ∷ 11 ∷ 2 ∷ 0 ∷ 0 ∷ 0 ∷ 0 ∷ 0 ∷ 0 ∷ 0 ∷ 0 ∷ 0 ∷ 3
    ∷ 0 ∷ 11 ∷ 3 ∷ 1 ∷ 0 ∷ 0 ∷ 0 ∷ 0 ∷ 0 ∷ 0 ∷ 0 ∷ 0 ∷ 0
    ∷ 0 ∷ 11 ∷ 2 ∷ 0 ∷ 0 ∷ 0 ∷ 0 ∷ 0 ∷ 0 ∷ 0 ∷ 0 ∷ 0 ∷ 2
    ∷ 0 ∷ 11 ∷ 1 ∷ 255 ∷ 0 ∷ 0 ∷ 0 ∷ 0 ∷ 0 ∷ 0 ∷ 0 ∷ 0 ∷ 0
    ∷ 0 ∷ 11 ∷ 1 ∷ 255 ∷ 0 ∷ 0 ∷ 0 ∷ 0 ∷ 0 ∷ 0 ∷ 0 ∷ 0 ∷ 0
    ∷ 0 ∷ 11 ∷ 3 ∷ 1 ∷ 0 ∷ 0 ∷ 0 ∷ 0 ∷ 0 ∷ 0 ∷ 0 ∷ 0 ∷ 0
    ∷ []

-- a conversion's code and ticks
abbrev pub ticks_row : Ticks → List ℕ
ticks_row x = x.code ∷ x.interval.0 ∷ []

abbrev pub at : ℕ → SystemTime
at n = record { 0 = n }

-- the facts on time, each as the definitions compute it
abbrev pub time_facts : List (List ℕ)
time_facts =
    ticks_row (in_ticks Microseconds 1500 (Some 1000))
    ∷ ticks_row (in_ticks Milliseconds 1 (Some 100))
    ∷ ticks_row (in_ticks Milliseconds 0 None)
    ∷ ((differed (at 4294967290) (at 5)).0 ∷ [])
    ∷ (bit (in_range (at 3) (at 3) (at 3)) ∷ [])
    ∷ (bit (in_range (at 0) (at 4294967295) (at 1)) ∷ [])
    ∷ []

-- the twelve, as they are computed
abbrev pub computed : List (List ℕ)
computed = lines_of (read_all six_steps) ++ time_facts

-- the twelve, as document 01 says them: six lines; then "1500 microseconds at 1000 is 2 ticks; 1 ms at 100 is 1; 0 ms is 0;
-- 5 minus 4294967290 is 11; 3 is not in range 3 to 3; 0 is in range 4294967295 to 1" (a conversion's code before its ticks)
abbrev pub told : List (List ℕ)
told =
    (1 ∷ 0 ∷ 1 ∷ 0 ∷ 0 ∷ [])
    ∷ (2 ∷ 0 ∷ 0 ∷ 1 ∷ 3 ∷ [])
    ∷ (3 ∷ 0 ∷ 1 ∷ 0 ∷ 0 ∷ [])
    ∷ (4 ∷ 0 ∷ 1 ∷ 0 ∷ 0 ∷ [])
    ∷ (5 ∷ 0 ∷ 0 ∷ 1 ∷ 1 ∷ [])
    ∷ (6 ∷ 3 ∷ 0 ∷ 0 ∷ 0 ∷ [])
    ∷ (0 ∷ 2 ∷ [])
    ∷ (0 ∷ 1 ∷ [])
    ∷ (0 ∷ 0 ∷ [])
    ∷ (11 ∷ [])
    ∷ (0 ∷ [])
    ∷ (1 ∷ [])
    ∷ []

-- the twelve facts
pub twelve-facts : computed ≡ told
unfolding first_from all_from count_of word_of first_of first_ready first_waiter taken_off put_on woken slept finished blocked enqueued released_first released_all taken waited signalled ticked sizes_fit made in_ticks signal_acted call_made effected acted_on_kernel acted went_on settled call_fits wait_fits ticks_fit flags_fit row_fits rows_fit queued_count counters_fit ready_word waiting_word ready_fits waiting_fits words_fit holder_fits references_fit positions_fit mailboxes_fit promised_count occurrences entries_fit objects_fit pool_fits pools_fit hangs_together refusal_of mask_of outcome_of done_with refused_with stepped get_n ends_inside length_refusal step_refusal decoded_sizes decoded_step opened_read stepped_read next_read read_from read_all
twelve-facts = refl

-- and the trace of the six steps is read to its end
pub six-read : (read_all six_steps).stop ≡ Found.Ended
unfolding all_from sizes_fit get_n ends_inside length_refusal step_refusal decoded_sizes decoded_step opened_read stepped_read next_read read_from read_all
six-read = refl
