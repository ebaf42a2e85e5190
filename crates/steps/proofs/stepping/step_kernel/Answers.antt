-- Where the running thread has no unfinished call the step has settled, and the rest of the tables is as it was.
use Rattle.std.proofs.Common.{refl}
use Rattle.library.proofs.SettlingLaws.{settled-quiet}
use Rattle.library.specs.Acting.{acted_on_kernel}
use Rattle.library.specs.Tables.{with_kernel}
use Rattle.steps.specs.Stepping.{budget_of, done_with, started}
use Rattle.steps.proofs.stepping.step_kernel.Goals as goal

pub returns-then-running_free : goal.returns-then-running_free
unfolding done_with
returns-then-running_free c =
    let acted = rw (c.begin.ensures, c.number.ensures, c.cause_of.ensures) at c.act_on_kernel-k.ensures in
    let a = c.args in
    let n = a.tables.sizes.threads in
    let q = started a.tables a.s in
    let p = with_kernel q (acted_on_kernel q.kernel n a.clock.time a.s) in
    let quiet = settled-quiet (budget_of n) p p _ refl (rw acted at c.running_free.ensures) c.if-running_free.true in
    rw (c.end-left.ensures, c.clock_after-after.ensures, c.outcome_of-outcome.ensures, acted, ← quiet)
