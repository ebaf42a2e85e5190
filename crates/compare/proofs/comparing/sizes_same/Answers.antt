-- Each turn settles number f by its test.
use Rattle.std.proofs.Common.{sym, ◌∙◌, ap, not}
use Rattle.kernel.proofs.Loops.{all_done}
use Rattle.rules.proofs.HangingLaws.{passes_on, fails-here}
use Rattle.compare.specs.Compared.{size_same}
use Rattle.compare.proofs.comparing.sizes_same.Goals as goal

pub loop-f-preserved : goal.loop-f-preserved
loop-f-preserved c =
    let a = c.args in
    c.loop-f.invariant ∙ passes_on (size_same a.y a.z) _ _ _ c.loop-f-test.true c.size_same.ensures (ap not c.if-not-size_same.false)

pub returns-then-not-size_same : goal.returns-then-not-size_same
returns-then-not-size_same c =
    let a = c.args in
    sym (c.loop-f.invariant ∙ fails-here (size_same a.y a.z) _ _ _ c.loop-f-test.true c.size_same.ensures (ap not c.if-not-size_same.true))

pub returns : goal.returns
returns c = sym (c.loop-f.invariant ∙ all_done _ _ _ c.loop-f-test.false)
