-- Two answers that satisfy one public statement coincide: each contract of the crate fixes its function's whole result.
-- `Fixes P` is about the very statement P that the contract is read as, so no line here can say less than the contract.
use Rattle.std.proofs.Common.{◌≡◌, ℕ, List, sym, ◌∙◌}
use seplogic.Ra.Ura.{Ura}
use base.Logic.{SProp, ent, sep, fst∗, snd∗}
use prog.Memory.{Memory}
use prog.Routine.{Routine}
use types.Logic.{Logic}
use contract.Lifetimes.{Lfts}
use contract.Monad.{Fun, fact, fact_i, fact_use}
use Rattle.std.specs.declared.clone.Clone.{Ghosts as CloneGhosts}
use denote.Param.Laws.{Laws, IsCopy}
use denote.RattleType.{RattleType}
use denote.Triple.Clauses.{AtExit}
use denote.Triple.Entry.{Args}
use mir.Syntax.{Dict}
use borrow.Fn.Kinds.{ParamKind, ResultKind, Out, Dens, res_t, ended_of}
use Rattle.kernel.proofs.ToldLaws.{told-ticks-one, told-units-one}
use Rattle.kernel.proofs.clock.advance.Reads as clock-advance
use Rattle.kernel.proofs.clock.advance.Kinds as clock-advance-kinds
use Rattle.kernel.specs.contracts.clock.tick as clock-tick
use Rattle.kernel.proofs.causes.Cause.number.Reads as causes-Cause-number
use Rattle.kernel.proofs.causes.Cause.number.Kinds as causes-Cause-number-kinds
use Rattle.kernel.proofs.counters.count_up.Reads as counters-count-up
use Rattle.kernel.proofs.counters.count_up.Kinds as counters-count-up-kinds
use Rattle.kernel.proofs.counters.count_down.Reads as counters-count-down
use Rattle.kernel.proofs.counters.count_down.Kinds as counters-count-down-kinds
use Rattle.kernel.proofs.delay.sleep_for.Reads as delay-sleep-for
use Rattle.kernel.proofs.delay.sleep_for.Kinds as delay-sleep-for-kinds
use Rattle.kernel.proofs.delay.sleep_until.Reads as delay-sleep-until
use Rattle.kernel.proofs.delay.sleep_until.Kinds as delay-sleep-until-kinds
use Rattle.kernel.proofs.event.take_flags.Reads as event-take-flags
use Rattle.kernel.proofs.event.take_flags.Kinds as event-take-flags-kinds
use Rattle.kernel.proofs.event.signal_events.Reads as event-signal-events
use Rattle.kernel.proofs.event.signal_events.Kinds as event-signal-events-kinds
use Rattle.kernel.proofs.event.wait_events.Reads as event-wait-events
use Rattle.kernel.proofs.event.wait_events.Kinds as event-wait-events-kinds
use Rattle.kernel.proofs.moves.wake.Reads as moves-wake
use Rattle.kernel.proofs.moves.wake.Kinds as moves-wake-kinds
use Rattle.kernel.proofs.moves.sleep.Reads as moves-sleep
use Rattle.kernel.proofs.moves.sleep.Kinds as moves-sleep-kinds
use Rattle.kernel.proofs.moves.finish.Reads as moves-finish
use Rattle.kernel.proofs.moves.finish.Kinds as moves-finish-kinds
use Rattle.kernel.proofs.moves.block.Reads as moves-block
use Rattle.kernel.proofs.moves.block.Kinds as moves-block-kinds
use Rattle.kernel.proofs.places.semaphore_place.Reads as places-semaphore-place
use Rattle.kernel.proofs.places.semaphore_place.Kinds as places-semaphore-place-kinds
use Rattle.kernel.proofs.places.pool_place.Reads as places-pool-place
use Rattle.kernel.proofs.places.pool_place.Kinds as places-pool-place-kinds
use Rattle.kernel.proofs.places.queue_place.Reads as places-queue-place
use Rattle.kernel.proofs.places.queue_place.Kinds as places-queue-place-kinds
use Rattle.kernel.proofs.places.writers_place.Reads as places-writers-place
use Rattle.kernel.proofs.places.writers_place.Kinds as places-writers-place-kinds
use Rattle.kernel.proofs.places.readers_place.Reads as places-readers-place
use Rattle.kernel.proofs.places.readers_place.Kinds as places-readers-place-kinds
use Rattle.kernel.proofs.queue.enqueue.Reads as queue-enqueue
use Rattle.kernel.proofs.queue.enqueue.Kinds as queue-enqueue-kinds
use Rattle.kernel.proofs.queue.release_first.Reads as queue-release-first
use Rattle.kernel.proofs.queue.release_first.Kinds as queue-release-first-kinds
use Rattle.kernel.proofs.queue.release_all.Reads as queue-release-all
use Rattle.kernel.proofs.queue.release_all.Kinds as queue-release-all-kinds
use Rattle.kernel.proofs.records.no_call.Reads as records-no-call
use Rattle.kernel.proofs.records.no_call.Kinds as records-no-call-kinds
use Rattle.kernel.proofs.records.no_answer.Reads as records-no-answer
use Rattle.kernel.proofs.records.no_answer.Kinds as records-no-answer-kinds
use Rattle.kernel.proofs.records.blank_thread.Reads as records-blank-thread
use Rattle.kernel.proofs.records.blank_thread.Kinds as records-blank-thread-kinds
use Rattle.kernel.proofs.records.fresh.Reads as records-fresh
use Rattle.kernel.proofs.records.fresh.Kinds as records-fresh-kinds
use Rattle.kernel.proofs.records.begin.Reads as records-begin
use Rattle.kernel.proofs.records.begin.Kinds as records-begin-kinds
use Rattle.kernel.proofs.records.end.Reads as records-end
use Rattle.kernel.proofs.records.end.Kinds as records-end-kinds
use Rattle.kernel.proofs.reference.suspend.Reads as reference-suspend
use Rattle.kernel.proofs.reference.suspend.Kinds as reference-suspend-kinds
use Rattle.kernel.proofs.reference.resume.Reads as reference-resume
use Rattle.kernel.proofs.reference.resume.Kinds as reference-resume-kinds
use Rattle.kernel.proofs.semaphore.take.Reads as semaphore-take
use Rattle.kernel.proofs.semaphore.take.Kinds as semaphore-take-kinds
use Rattle.kernel.proofs.semaphore.wait.Reads as semaphore-wait
use Rattle.kernel.proofs.semaphore.wait.Kinds as semaphore-wait-kinds
use Rattle.kernel.proofs.semaphore.signal.Reads as semaphore-signal
use Rattle.kernel.proofs.semaphore.signal.Kinds as semaphore-signal-kinds
use Rattle.kernel.proofs.semaphore.reset.Reads as semaphore-reset
use Rattle.kernel.proofs.semaphore.reset.Kinds as semaphore-reset-kinds
use Rattle.kernel.proofs.tables.at.Reads as tables-at
use Rattle.kernel.proofs.tables.at.Kinds as tables-at-kinds
use Rattle.kernel.proofs.tables.put.Reads as tables-put
use Rattle.kernel.proofs.tables.put.Kinds as tables-put-kinds
use Rattle.kernel.proofs.tables.used_rows.Reads as tables-used-rows
use Rattle.kernel.proofs.tables.used_rows.Kinds as tables-used-rows-kinds
use Rattle.kernel.proofs.tables.thread_at.Reads as tables-thread-at
use Rattle.kernel.proofs.tables.thread_at.Kinds as tables-thread-at-kinds
use Rattle.kernel.proofs.tables.set_thread.Reads as tables-set-thread
use Rattle.kernel.proofs.tables.set_thread.Kinds as tables-set-thread-kinds
use Rattle.kernel.proofs.tables.counter_at.Reads as tables-counter-at
use Rattle.kernel.proofs.tables.counter_at.Kinds as tables-counter-at-kinds
use Rattle.kernel.proofs.tables.set_counter.Reads as tables-set-counter
use Rattle.kernel.proofs.tables.set_counter.Kinds as tables-set-counter-kinds
use Rattle.kernel.proofs.tables.holder_at.Reads as tables-holder-at
use Rattle.kernel.proofs.tables.holder_at.Kinds as tables-holder-at-kinds
use Rattle.kernel.proofs.ticking.tick.Reads as ticking-tick
use Rattle.kernel.proofs.ticking.tick.Kinds as ticking-tick-kinds
use Rattle.kernel.proofs.time.add.Reads as time-add
use Rattle.kernel.proofs.time.add.Kinds as time-add-kinds
use Rattle.kernel.proofs.time.difference.Reads as time-difference
use Rattle.kernel.proofs.time.difference.Kinds as time-difference-kinds
use Rattle.kernel.proofs.time.in_range.Reads as time-in-range
use Rattle.kernel.proofs.time.in_range.Kinds as time-in-range-kinds
use Rattle.kernel.proofs.units.per_second.Reads as units-per-second
use Rattle.kernel.proofs.units.per_second.Kinds as units-per-second-kinds
use Rattle.kernel.proofs.units.frequency_of.Reads as units-frequency-of
use Rattle.kernel.proofs.units.frequency_of.Kinds as units-frequency-of-kinds
use Rattle.kernel.proofs.units.frequency_fits.Reads as units-frequency-fits
use Rattle.kernel.proofs.units.frequency_fits.Kinds as units-frequency-fits-kinds
use Rattle.kernel.proofs.units.to_ticks.Reads as units-to-ticks
use Rattle.kernel.proofs.units.to_ticks.Kinds as units-to-ticks-kinds
use Rattle.kernel.proofs.units.from_ticks.Reads as units-from-ticks
use Rattle.kernel.proofs.units.from_ticks.Kinds as units-from-ticks-kinds
use Rattle.kernel.proofs.waiters.is_ready.Reads as waiters-is-ready
use Rattle.kernel.proofs.waiters.is_ready.Kinds as waiters-is-ready-kinds
use Rattle.kernel.proofs.waiters.first_ready.Reads as waiters-first-ready
use Rattle.kernel.proofs.waiters.first_ready.Kinds as waiters-first-ready-kinds
use Rattle.kernel.proofs.waiters.is_free.Reads as waiters-is-free
use Rattle.kernel.proofs.waiters.is_free.Kinds as waiters-is-free-kinds
use Rattle.kernel.proofs.waiters.running_free.Reads as waiters-running-free
use Rattle.kernel.proofs.waiters.running_free.Kinds as waiters-running-free-kinds
use Rattle.kernel.proofs.waiters.first_waiter.Reads as waiters-first-waiter
use Rattle.kernel.proofs.waiters.first_waiter.Kinds as waiters-first-waiter-kinds
use Rattle.kernel.proofs.words.bit_value.Reads as words-bit-value
use Rattle.kernel.proofs.words.bit_value.Kinds as words-bit-value-kinds
use Rattle.kernel.proofs.words.has_bit.Reads as words-has-bit
use Rattle.kernel.proofs.words.has_bit.Kinds as words-has-bit-kinds
use Rattle.kernel.proofs.words.count_in.Reads as words-count-in
use Rattle.kernel.proofs.words.count_in.Kinds as words-count-in-kinds
use Rattle.kernel.proofs.words.first_in.Reads as words-first-in
use Rattle.kernel.proofs.words.first_in.Kinds as words-first-in-kinds
use Rattle.kernel.proofs.words.fresh_words.Reads as words-fresh-words
use Rattle.kernel.proofs.words.fresh_words.Kinds as words-fresh-words-kinds
use Rattle.kernel.proofs.words.waiting_at.Reads as words-waiting-at
use Rattle.kernel.proofs.words.waiting_at.Kinds as words-waiting-at-kinds
use Rattle.kernel.proofs.words.note_ready.Reads as words-note-ready
use Rattle.kernel.proofs.words.note_ready.Kinds as words-note-ready-kinds
use Rattle.kernel.proofs.words.note_asleep.Reads as words-note-asleep
use Rattle.kernel.proofs.words.note_asleep.Kinds as words-note-asleep-kinds

-- what two answers both are, they are each
pub coincide : {A : Type 0} {x y m : A} → x ≡ m → y ≡ m → x ≡ y
coincide p q = p ∙ sym q

-- a statement of arguments, result and what is left behind references fixes the result
abbrev pub Fixes : (n : ℕ) (ps : List (ParamKind n)) (r : ResultKind n) → Out n ps r → Type 0
Fixes n ps r P =
    (κs : Lfts n) (a : Dens κs ps) (e : AtExit (ended_of n ps r) κs) (x y : (res_t r κs).Denot) → P κs a x e → P κs a y e → x ≡ y

pub causes-Cause-number-one : Fixes 0 causes-Cause-number-kinds.ps causes-Cause-number-kinds.r causes-Cause-number.Post
causes-Cause-number-one κs a e x y = coincide

pub clock-advance-one : Fixes 0 clock-advance-kinds.ps clock-advance-kinds.r clock-advance.Post
clock-advance-one κs a e x y = coincide

-- two facts of the logic that give a third
pub coincide-lent : {M : Type 1} (𝓤 : Ura M) {P Q R : Type 0} → (P → Q → R) → ent 𝓤 (sep 𝓤 (fact 𝓤 P) (fact 𝓤 Q)) (fact 𝓤 R)
coincide-lent 𝓤 {P} {Q} {R} both =
    fact_use 𝓤 P (fst∗ 𝓤 (fact 𝓤 P) (fact 𝓤 Q)) (λ p. fact_use 𝓤 Q (snd∗ 𝓤 (fact 𝓤 P) (fact 𝓤 Q)) (λ q. fact_i 𝓤 R (sep 𝓤 (fact 𝓤 P) (fact 𝓤 Q)) (both p q)))

-- The statement of a function that is lent a struct is one of the logic: whatever satisfies it twice is the same.
module _ {M : Type 1} {𝓤 : Ura M} (𝓛 : Logic 𝓤) (at_mem : Memory → SProp 𝓤) (run : Routine → Fun 𝓤) (κs : Lfts 1)
    (a : Args clock-tick.signature κs) (e f : AtExit clock-tick.ended κs) where
  abbrev tick-ends : AtExit clock-tick.ended κs → SProp 𝓤
  tick-ends = (clock-tick.clauses 𝓛 at_mem run κs a).ensures tt tt

  -- what the lent clock holds in the end
  pub clock-tick-one : ent 𝓤 (sep 𝓤 (tick-ends e) (tick-ends f)) (fact 𝓤 (e.0.now ≡ f.0.now))
  clock-tick-one = coincide-lent 𝓤 coincide

pub counters-count-up-one : Fixes 0 counters-count-up-kinds.ps counters-count-up-kinds.r counters-count-up.Post
counters-count-up-one κs a e x y = coincide

pub counters-count-down-one : Fixes 0 counters-count-down-kinds.ps counters-count-down-kinds.r counters-count-down.Post
counters-count-down-one κs a e x y = coincide

pub delay-sleep-for-one : Fixes 0 delay-sleep-for-kinds.ps delay-sleep-for-kinds.r delay-sleep-for.Post
delay-sleep-for-one κs a e x y = coincide

pub delay-sleep-until-one : Fixes 0 delay-sleep-until-kinds.ps delay-sleep-until-kinds.r delay-sleep-until.Post
delay-sleep-until-one κs a e x y = coincide

pub event-take-flags-one : Fixes 0 event-take-flags-kinds.ps event-take-flags-kinds.r event-take-flags.Post
event-take-flags-one κs a e x y = coincide

pub event-signal-events-one : Fixes 0 event-signal-events-kinds.ps event-signal-events-kinds.r event-signal-events.Post
event-signal-events-one κs a e x y = coincide

pub event-wait-events-one : Fixes 0 event-wait-events-kinds.ps event-wait-events-kinds.r event-wait-events.Post
event-wait-events-one κs a e x y = coincide

pub moves-wake-one : Fixes 0 moves-wake-kinds.ps moves-wake-kinds.r moves-wake.Post
moves-wake-one κs a e x y = coincide

pub moves-sleep-one : Fixes 0 moves-sleep-kinds.ps moves-sleep-kinds.r moves-sleep.Post
moves-sleep-one κs a e x y = coincide

pub moves-finish-one : Fixes 0 moves-finish-kinds.ps moves-finish-kinds.r moves-finish.Post
moves-finish-one κs a e x y = coincide

pub moves-block-one : Fixes 0 moves-block-kinds.ps moves-block-kinds.r moves-block.Post
moves-block-one κs a e x y = coincide

pub places-semaphore-place-one : Fixes 0 places-semaphore-place-kinds.ps places-semaphore-place-kinds.r places-semaphore-place.Post
places-semaphore-place-one κs a e x y = coincide

pub places-pool-place-one : Fixes 0 places-pool-place-kinds.ps places-pool-place-kinds.r places-pool-place.Post
places-pool-place-one κs a e x y = coincide

pub places-queue-place-one : Fixes 0 places-queue-place-kinds.ps places-queue-place-kinds.r places-queue-place.Post
places-queue-place-one κs a e x y = coincide

pub places-writers-place-one : Fixes 0 places-writers-place-kinds.ps places-writers-place-kinds.r places-writers-place.Post
places-writers-place-one κs a e x y = coincide

pub places-readers-place-one : Fixes 0 places-readers-place-kinds.ps places-readers-place-kinds.r places-readers-place.Post
places-readers-place-one κs a e x y = coincide

pub queue-enqueue-one : Fixes 0 queue-enqueue-kinds.ps queue-enqueue-kinds.r queue-enqueue.Post
queue-enqueue-one κs a e x y = coincide

pub queue-release-first-one : Fixes 0 queue-release-first-kinds.ps queue-release-first-kinds.r queue-release-first.Post
queue-release-first-one κs a e x y = coincide

pub queue-release-all-one : Fixes 0 queue-release-all-kinds.ps queue-release-all-kinds.r queue-release-all.Post
queue-release-all-one κs a e x y = coincide

pub records-no-call-one : Fixes 0 records-no-call-kinds.ps records-no-call-kinds.r records-no-call.Post
records-no-call-one κs a e x y = coincide

pub records-no-answer-one : Fixes 0 records-no-answer-kinds.ps records-no-answer-kinds.r records-no-answer.Post
records-no-answer-one κs a e x y = coincide

pub records-blank-thread-one : Fixes 0 records-blank-thread-kinds.ps records-blank-thread-kinds.r records-blank-thread.Post
records-blank-thread-one κs a e x y = coincide

pub records-fresh-one : Fixes 0 records-fresh-kinds.ps records-fresh-kinds.r records-fresh.Post
records-fresh-one κs a e x y = coincide

pub records-begin-one : Fixes 0 records-begin-kinds.ps records-begin-kinds.r records-begin.Post
records-begin-one κs a e x y = coincide

pub records-end-one : Fixes 0 records-end-kinds.ps records-end-kinds.r records-end.Post
records-end-one κs a e x y = coincide

pub reference-suspend-one : Fixes 0 reference-suspend-kinds.ps reference-suspend-kinds.r reference-suspend.Post
reference-suspend-one κs a e x y = coincide

pub reference-resume-one : Fixes 0 reference-resume-kinds.ps reference-resume-kinds.r reference-resume.Post
reference-resume-one κs a e x y = coincide

pub semaphore-take-one : Fixes 0 semaphore-take-kinds.ps semaphore-take-kinds.r semaphore-take.Post
semaphore-take-one κs a e x y = coincide

pub semaphore-wait-one : Fixes 0 semaphore-wait-kinds.ps semaphore-wait-kinds.r semaphore-wait.Post
semaphore-wait-one κs a e x y = coincide

pub semaphore-signal-one : Fixes 0 semaphore-signal-kinds.ps semaphore-signal-kinds.r semaphore-signal.Post
semaphore-signal-one κs a e x y = coincide

pub semaphore-reset-one : Fixes 0 semaphore-reset-kinds.ps semaphore-reset-kinds.r semaphore-reset.Post
semaphore-reset-one κs a e x y = coincide

-- of rows of every type
module _ (T : RattleType) (t : Laws T) (c : IsCopy T) (clone : CloneGhosts T.Denot) (cd : Dict) where
  pub tables-at-one : Fixes 2 (tables-at-kinds.ps T t c) (tables-at-kinds.r T t c) (tables-at.Post T t c clone cd)
  tables-at-one κs a e x y = coincide

  -- what the lent table holds in the end
  pub tables-put-one : (κs : Lfts 2) (a : Dens κs (tables-put-kinds.ps T t c))
      (e f : AtExit (ended_of 2 (tables-put-kinds.ps T t c) (tables-put-kinds.r T t c)) κs)
      (x y : (res_t (tables-put-kinds.r T t c) κs).Denot)
      → tables-put.Post T t c clone cd κs a x e → tables-put.Post T t c clone cd κs a y f → e.0.now ≡ f.0.now
  tables-put-one κs a e f x y = coincide

pub tables-used-rows-one : Fixes 0 tables-used-rows-kinds.ps tables-used-rows-kinds.r tables-used-rows.Post
tables-used-rows-one κs a e x y = coincide

pub tables-thread-at-one : Fixes 0 tables-thread-at-kinds.ps tables-thread-at-kinds.r tables-thread-at.Post
tables-thread-at-one κs a e x y = coincide

pub tables-set-thread-one : Fixes 0 tables-set-thread-kinds.ps tables-set-thread-kinds.r tables-set-thread.Post
tables-set-thread-one κs a e x y = coincide

pub tables-counter-at-one : Fixes 0 tables-counter-at-kinds.ps tables-counter-at-kinds.r tables-counter-at.Post
tables-counter-at-one κs a e x y = coincide

pub tables-set-counter-one : Fixes 0 tables-set-counter-kinds.ps tables-set-counter-kinds.r tables-set-counter.Post
tables-set-counter-one κs a e x y = coincide

pub tables-holder-at-one : Fixes 0 tables-holder-at-kinds.ps tables-holder-at-kinds.r tables-holder-at.Post
tables-holder-at-one κs a e x y = coincide

pub ticking-tick-one : Fixes 0 ticking-tick-kinds.ps ticking-tick-kinds.r ticking-tick.Post
ticking-tick-one κs a e x y = coincide

pub time-add-one : Fixes 0 time-add-kinds.ps time-add-kinds.r time-add.Post
time-add-one κs a e x y = coincide

pub time-difference-one : Fixes 0 time-difference-kinds.ps time-difference-kinds.r time-difference.Post
time-difference-one κs a e x y = coincide

pub time-in-range-one : Fixes 0 time-in-range-kinds.ps time-in-range-kinds.r time-in-range.Post
time-in-range-one κs a e x y = coincide

pub units-per-second-one : Fixes 0 units-per-second-kinds.ps units-per-second-kinds.r units-per-second.Post
units-per-second-one κs a e x y = coincide

pub units-frequency-of-one : Fixes 0 units-frequency-of-kinds.ps units-frequency-of-kinds.r units-frequency-of.Post
units-frequency-of-one κs a e x y = coincide

pub units-frequency-fits-one : Fixes 0 units-frequency-fits-kinds.ps units-frequency-fits-kinds.r units-frequency-fits.Post
units-frequency-fits-one κs a e x y = coincide

pub units-to-ticks-one : Fixes 0 units-to-ticks-kinds.ps units-to-ticks-kinds.r units-to-ticks.Post
units-to-ticks-one κs a e x y p q = told-ticks-one (coincide p q)

pub units-from-ticks-one : Fixes 0 units-from-ticks-kinds.ps units-from-ticks-kinds.r units-from-ticks.Post
units-from-ticks-one κs a e x y p q = told-units-one (coincide p q)

pub waiters-is-ready-one : Fixes 0 waiters-is-ready-kinds.ps waiters-is-ready-kinds.r waiters-is-ready.Post
waiters-is-ready-one κs a e x y = coincide

pub waiters-first-ready-one : Fixes 0 waiters-first-ready-kinds.ps waiters-first-ready-kinds.r waiters-first-ready.Post
waiters-first-ready-one κs a e x y = coincide

pub waiters-is-free-one : Fixes 0 waiters-is-free-kinds.ps waiters-is-free-kinds.r waiters-is-free.Post
waiters-is-free-one κs a e x y = coincide

pub waiters-running-free-one : Fixes 0 waiters-running-free-kinds.ps waiters-running-free-kinds.r waiters-running-free.Post
waiters-running-free-one κs a e x y = coincide

pub waiters-first-waiter-one : Fixes 0 waiters-first-waiter-kinds.ps waiters-first-waiter-kinds.r waiters-first-waiter.Post
waiters-first-waiter-one κs a e x y = coincide

pub words-bit-value-one : Fixes 0 words-bit-value-kinds.ps words-bit-value-kinds.r words-bit-value.Post
words-bit-value-one κs a e x y = coincide

pub words-has-bit-one : Fixes 0 words-has-bit-kinds.ps words-has-bit-kinds.r words-has-bit.Post
words-has-bit-one κs a e x y = coincide

pub words-count-in-one : Fixes 0 words-count-in-kinds.ps words-count-in-kinds.r words-count-in.Post
words-count-in-one κs a e x y = coincide

pub words-first-in-one : Fixes 0 words-first-in-kinds.ps words-first-in-kinds.r words-first-in.Post
words-first-in-one κs a e x y = coincide

pub words-fresh-words-one : Fixes 0 words-fresh-words-kinds.ps words-fresh-words-kinds.r words-fresh-words.Post
words-fresh-words-one κs a e x y = coincide

pub words-waiting-at-one : Fixes 0 words-waiting-at-kinds.ps words-waiting-at-kinds.r words-waiting-at.Post
words-waiting-at-one κs a e x y = coincide

pub words-note-ready-one : Fixes 0 words-note-ready-kinds.ps words-note-ready-kinds.r words-note-ready.Post
words-note-ready-one κs a e x y = coincide

pub words-note-asleep-one : Fixes 0 words-note-asleep-kinds.ps words-note-asleep-kinds.r words-note-asleep.Post
words-note-asleep-one κs a e x y = coincide
