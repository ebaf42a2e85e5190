-- Demands 1 and 2 of one step: any tables, any clock and any step get an answer. A step is refused by the first rule of document 01
-- that it breaks and then leaves everything as it was, or it is accepted and is done and settled.
use Rattle.std.specs.Prelude.{◌≡◌, ◌≢◌}
use Rattle.std.proofs.Common.{sym, ◌∙◌, eq-eqb, ne_eqb}
use Rattle.kernel.specs.declared.clock.Clock.{Clock}
use Rattle.library.specs.declared.calls.Step.{Step}
use Rattle.library.specs.declared.tables.Tables.{Tables}
use Rattle.library.specs.Tables.{opened}
use Rattle.library.specs.Acting.{acted}
use Rattle.library.specs.Settling.{settled}
use Rattle.steps.specs.Refusal.{refusal_of}
use Rattle.steps.specs.Stepping.{budget_of, done_with, refused_with, started, stepped}
use Rattle.steps.proofs.StepLaws.{step-code}

module _ (t : Tables) (c : Clock) (s : Step) where
  -- an accepted step is what document 01's table says of its kind, settled "After every accepted step"
  pub step-done : (stepped t c s).outcome.code ≡ 0
      → stepped t c s ≡ done_with (settled (budget_of t.sizes.threads) (acted (started t s) c.time s)) c s
  unfolding stepped
  step-done e = rw (eq-eqb (refusal_of (opened t) c s) 0 (sym (step-code t c s) ∙ e))

  -- "A refused step returns its number, the running thread as it stands (255 for 1) .. All tables keep their bytes"
  pub step-stopped : (stepped t c s).outcome.code ≢ 0 → stepped t c s ≡ refused_with t c (opened t) (refusal_of (opened t) c s)
  unfolding stepped
  step-stopped n = rw (ne_eqb (refusal_of (opened t) c s) 0 (λ e. n (step-code t c s ∙ e)))
