-- Each turn tests one object more.
use Rattle.std.proofs.Common.{◌≡◌, refl}
use Rattle.kernel.proofs.WalkLaws.{all_more}
use Rattle.kernel.specs.Walk.{all_from}
use Rattle.rules.specs.PoolRules.{object_agrees}
use Rattle.rules.proofs.pool_rules.objects_fit.Goals as goal

pub loop-o-init : goal.loop-o-init
unfolding all_from
loop-o-init c = refl

pub loop-o-preserved : goal.loop-o-preserved
loop-o-preserved c =
    let tested : c.object_fits-fits.result ≡ object_agrees c.args.x c.loop-o.o =
    rw (c.count_listed-counts.ensures c.loop-o.o c.loop-o-test.true) at c.object_fits-fits.ensures in
    rw (all_more (object_agrees c.args.x) c.loop-o.o, ← tested, ← c.loop-o.invariant)
