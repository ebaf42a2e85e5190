-- Demand 1: any tables and any step get an answer. Where its number is not 0, tables and clock are the very ones given,
-- nobody is woken and no call finishes.
use mathlib.Core.Path.{◌≡◌, refl}
use mathlib.Core.Logic.{◌≢◌}
use lib.Dec.{eqb}
use lib.IntN.{pos}
use borrow.Author.Tests.{ne_eqb, eqb-true}
use Rattle.kernel.specs.declared.clock.Clock.{Clock}
use Rattle.kernel.proofs.Cases.{split}
use Rattle.library.specs.declared.calls.Step.{Step}
use Rattle.library.specs.declared.tables.Tables.{Tables}
use Rattle.steps.specs.declared.stepping.Stepped.{Stepped}
use Rattle.library.specs.Tables.{opened}
use Rattle.steps.specs.Refusal.{refusal_of}
use Rattle.steps.specs.Stepping.{outcome_of, done_with, refused_with, stepped}

-- nothing happened: the tables and the clock as given, and an empty result
pub record Untouched (t : Tables) (c : Clock) (r : Stepped) : Type 0 where
  pub tables : r.tables ≡ t
  pub clock : r.clock ≡ c
  pub nobody-woken : r.outcome.woken ≡ 0
  pub nothing-finished : r.outcome.finished ≡ 0
  pub message : r.outcome.message ≡ pos 0
  pub datum : r.outcome.datum ≡ 0

module _ (t : Tables) (c : Clock) (s : Step) where
  -- the answer's number is the refusal's number of document 01
  pub step-code : (stepped t c s).outcome.code ≡ refusal_of (opened t) c s
  unfolding stepped done_with refused_with outcome_of
  step-code =
      split (eqb (refusal_of (opened t) c s) 0)
      (λ e. rw (e, eqb-true (refusal_of (opened t) c s) 0 e))
      (λ e. rw e)

  -- "A refused step": everything is as it was
  pub step-refused : (stepped t c s).outcome.code ≢ 0 → Untouched t c (stepped t c s)
  unfolding stepped refused_with
  step-refused n =
      rw (ne_eqb (refusal_of (opened t) c s) 0 (rw step-code at n))
      (record {
        tables = refl;
        clock = refl;
        nobody-woken = refl;
        nothing-finished = refl;
        message = refl;
        datum = refl;
      })
