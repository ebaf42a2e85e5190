-- Each turn settles row i by its test.
use Rattle.std.proofs.Common.{ap, ◌∙◌, not, arith}
use borrow.Author.Tests.{ne_eqb}
use Rattle.kernel.proofs.Loops.{first-none}
use Rattle.kernel.specs.Numbers.{nobody}
use Rattle.rules.proofs.HangingLaws.{finds-later, finds-here}
use Rattle.rules.proofs.searching.first_failing.Goals as goal

pub loop-i-preserved : goal.loop-i-preserved
loop-i-preserved g c =
    λ f tells.
    c.loop-i.invariant f tells
    ∙ finds-later f _ _ _ c.loop-i-test.true (tells _ c.loop-i-test.true _ c.fits.ensures) (ap not c.if-not-fits.false)

pub returns-then-not-fits : goal.returns-then-not-fits
returns-then-not-fits g c =
    λ few f tells.
    let here =
    c.loop-i.invariant f tells
    ∙ finds-here f _ _ _ c.loop-i-test.true (tells _ c.loop-i-test.true _ c.fits.ensures) (ap not c.if-not-fits.true) in
    rw (here, ne_eqb c.loop-i.i nobody (λ e. omega (arith, few)))

pub returns : goal.returns
returns g c =
    λ few f tells. rw (c.loop-i.invariant f tells ∙ first-none _ _ _ c.loop-i-test.false)
