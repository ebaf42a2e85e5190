-- Where the running thread has no unfinished call the step has settled.
use Rattle.std.proofs.Common.{refl}
use Rattle.library.proofs.SettlingLaws.{settled-quiet}
use Rattle.library.specs.Acting.{acted_on_box}
use Rattle.steps.specs.Stepping.{budget_of, started}
use Rattle.steps.proofs.stepping.step_box.Goals as goal

pub returns-then-running_free : goal.returns-then-running_free
returns-then-running_free c =
    let acted = rw c.open.ensures at c.act_on_box-p.ensures in
    let a = c.args in
    let p = acted_on_box (started a.tables a.s) a.s in
    let quiet = settled-quiet (budget_of a.tables.sizes.threads) p p _ refl (rw acted at c.running_free.ensures) c.if-running_free.true in
    rw (c.end_step.ensures, acted, ← quiet)
