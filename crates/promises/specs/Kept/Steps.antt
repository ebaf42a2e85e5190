-- "Fresh tables pass, and accepted steps keep it so".
use Rattle.std.specs.Prelude.{ℕ, ◌≤◌, ◌≡◌, refl, true, [], eqb, Option}
use Rattle.std.proofs.Common.{arith, sym, ◌∙◌, subst, eqb-true}
use Rattle.kernel.specs.declared.clock.Clock.{Clock}
use Rattle.kernel.specs.Records.{begun, ended}
use Rattle.kernel.specs.Units.{frequency_of, frequency_fits}
use Rattle.kernel.specs.Waiters.{first_ready}
use Rattle.kernel.proofs.Cases.{same_or, chosen}
use Rattle.library.specs.declared.calls.Step.{Step}
use Rattle.library.specs.declared.sizes.Sizes.{Sizes}
use Rattle.library.specs.declared.tables.Tables.{Tables}
use Rattle.library.specs.declared.tables.Plant.{Plant}
use Rattle.library.specs.Acting.{acted}
use Rattle.library.specs.Told.{Made}
use Rattle.library.specs.Fresh.{fresh_tables, made}
use Rattle.library.specs.Sizes.{sizes_fit, no_sizes}
use Rattle.library.specs.Settling.{is_settled, settled}
use Rattle.library.specs.Tables.{blank_mailbox, blank_pool, opened, closed}
use Rattle.steps.specs.declared.stepping.Stepped.{Stepped}
use Rattle.steps.specs.Stepping.{clock_after, budget_of, done_with, started, stepped}
use Rattle.steps.proofs.StepLaws.{step-code, step-refused}
use Rattle.promises.specs.Runs.Answers.{step-done}
use Rattle.promises.specs.Together.Good.{RulesHold}
use Rattle.promises.specs.Together.Hanging.{test-hangs, all-blank, made-hangs}
use Rattle.promises.specs.Kept.Accepting.{Accepted, refusal-none, accepted-as}
use Rattle.promises.specs.Kept.Chain.{Move, one, count_in}
use Rattle.promises.specs.Kept.Whole.{PlantSized, Whole, good-whole, whole-good, whole-sized, kernel-done, caused-done}
use Rattle.promises.specs.Kept.KernelActs.{Acts}
use Rattle.promises.specs.Kept.Acts.{step-acts}
use Rattle.promises.specs.Kept.Settles.{Settled, settle-ends}

-- tables of a host that hang together
pub record Hangs (t : Tables) (c : Clock) : Type 0 where
  pub together : RulesHold (opened t) c
  pub sized : PlantSized (opened t)

-- settled tables, closed and opened again, hang together
closed-hangs : (z : Sizes) (h : Plant) (c : Clock) → Whole z h → is_settled h ≡ true → (1 ≤ c.frequency) × (c.frequency ≤ 1000000)
    → Hangs (closed h) c
unfolding first_ready count_in
closed-hangs z h c w e f =
    record {
      together = record { good = whole-good (opened (closed h)) z v; frequency = f; running = eqb-true _ 0 e };
      sized = whole-sized (opened (closed h)) z v;
    }
  where
    v : Whole z (opened (closed h))
    v =
        (kernel-done z h (begun (ended h.kernel)) [] w (one Move.begins) (λ q l. refl)).whole

-- a tick leaves the frequency
frequency-kept : (c : Clock) (kind : ℕ) → (clock_after c kind).frequency ≡ c.frequency
frequency-kept c kind = chosen (λ (d : Clock). d.frequency ≡ c.frequency) (eqb kind 1) (λ e. refl) (λ e. refl)

-- an accepted step settles, and its tables hang together again
module _ (t : Tables) (c : Clock) (s : Step) (g : Hangs t c) (e : (stepped t c s).outcome.code ≡ 0) where
  abbrev z : Sizes
  z = t.sizes

  abbrev p : Plant
  p = started t s

  accepted : Accepted p c s
  accepted = accepted-as (opened t) c s s.kind (refusal-none (opened t) c s (sym (step-code t c s) ∙ e))

  whole : Whole z p
  whole = (caused-done z (opened t) s.kind (good-whole (opened t) g.together.good g.sized)).whole

  acts : Acts z p s (acted p c.time s)
  acts = step-acts p c s accepted whole

  abbrev h : Plant
  h = settled (budget_of z.threads) (acted p c.time s)

  pub settles : Settled z (acted p c.time s) h
  settles = settle-ends z (acted p c.time s) acts.done.whole

  done-hangs : Hangs (done_with h c s).tables (done_with h c s).clock
  unfolding done_with
  done-hangs =
      closed-hangs z h (clock_after c s.kind) settles.tries.done.whole settles.ended
      (rw (frequency-kept c s.kind) g.together.frequency)

-- ACCEPTED STEPS KEEP IT SO, and refused ones leave everything
pub step-hangs : (t : Tables) (c : Clock) (s : Step) → Hangs t c → Hangs (stepped t c s).tables (stepped t c s).clock
step-hangs t c s g =
    same_or (stepped t c s).outcome.code 0 (λ e. subst (λ (r : Stepped). Hangs r.tables r.clock) (sym (step-done t c s e)) (done-hangs t c s g e))
    (λ d. rw ((step-refused t c s d).tables, (step-refused t c s d).clock) g)

-- "Fresh tables pass", of every legal size and frequency
fresh-sized : (y : Sizes) → PlantSized (opened (fresh_tables y))
fresh-sized y =
    record {
      kernel = record { threads = refl; counters = refl; references = refl; woken = refl; finished = refl; waiting = refl; cause = omega arith };
      mailboxes = refl;
      messages = λ m h. rw (all-blank 4 blank_mailbox m);
      pools = refl;
      pool = λ q h. rw (all-blank 4 blank_pool q) (record { list = refl; marks = refl });
    }

made-sized : (y : Sizes) (r : Option ℕ) → PlantSized (opened (made y r).tables)
unfolding made
made-sized y r =
    let P : Made → Type 0 = λ m. PlantSized (opened m.tables) in
    chosen P (sizes_fit y) (λ e. chosen P (frequency_fits (frequency_of r)) (λ f. fresh-sized y) (λ f. fresh-sized no_sizes))
    (λ e. fresh-sized no_sizes)

pub made-hang : (y : Sizes) (r : Option ℕ) → (made y r).code ≡ 0 → Hangs (made y r).tables (made y r).clock
made-hang y r e =
    record { together = test-hangs (opened (made y r).tables) (made y r).clock (made-hangs y r e); sized = made-sized y r }
