-- What a step leaves where it lies, by what the step made by value says of itself.
use mathlib.Core.Path.{◌≡◌, sym, ap, ◌∙◌}
use mathlib.Core.Bool.{true, false, ◌&&◌}
use lib.Dec.{eqb}
use borrow.Author.Tests.{eqb-false}
use Rattle.kernel.specs.declared.clock.Clock.{Clock}
use Rattle.kernel.specs.Clock.{ticked_clock}
use Rattle.kernel.proofs.Cases.{both-means}
use Rattle.library.specs.declared.tables.Tables.{Tables}
use Rattle.steps.specs.Stepping.{done_with, stepped}
use Rattle.steps.proofs.StepLaws.{Untouched, step-code, step-refused}
use Rattle.host.specs.declared.request.Request.{Request}
use Rattle.host.specs.declared.request.Answered.{Answered}
use Rattle.host.specs.Request.{step_of, result_of, step_answered}

module _ (t : Tables) (c : Clock) (q : Request) (r : Answered) (e : r ≡ step_answered t c q) where
  accepted-is : r.accepted ≡ eqb (stepped t c (step_of q)).outcome.code 0
  unfolding step_answered
  accepted-is = ap (λ (z : Answered). z.accepted) e

  ticks-is : r.ticks ≡ eqb (stepped t c (step_of q)).outcome.code 0 && eqb q.kind 1
  unfolding step_answered
  ticks-is = ap (λ (z : Answered). z.ticks) e

  pub tables-is : r.tables ≡ (stepped t c (step_of q)).tables
  unfolding step_answered
  tables-is = ap (λ (z : Answered). z.tables) e

  pub result-is : r.result ≡ result_of (stepped t c (step_of q)).outcome
  unfolding step_answered
  result-is = ap (λ (z : Answered). z.result) e

  -- a refused step leaves both as they were
  untouched : r.accepted ≡ false → Untouched t c (stepped t c (step_of q))
  untouched n = step-refused t c (step_of q) (eqb-false (stepped t c (step_of q)).outcome.code 0 (sym accepted-is ∙ n))

  pub kept_tables : r.accepted ≡ false → t ≡ (stepped t c (step_of q)).tables
  kept_tables n = sym (untouched n).tables

  pub kept-clock : r.accepted ≡ false → c ≡ (stepped t c (step_of q)).clock
  kept-clock n = sym (untouched n).clock

  -- an accepted tick advances the clock
  pub ticked-clock : (w : Clock) → r.ticks ≡ true → w ≡ ticked_clock c → w ≡ (stepped t c (step_of q)).clock
  unfolding stepped done_with
  ticked-clock w y e' =
      let both = both-means (eqb (stepped t c (step_of q)).outcome.code 0) (eqb q.kind 1) (sym ticks-is ∙ y) in
      rw (rw (step-code t c (step_of q)) at both.0, both.1) e'

  -- any other accepted step leaves it
  pub other-clock : r.accepted ≡ true → r.ticks ≡ false → c ≡ (stepped t c (step_of q)).clock
  unfolding stepped done_with
  other-clock y n =
      let code : eqb (stepped t c (step_of q)).outcome.code 0 ≡ true = sym accepted-is ∙ y in
      let fails = sym ticks-is ∙ n in
      rw (rw (step-code t c (step_of q)) at code, rw code at fails)
