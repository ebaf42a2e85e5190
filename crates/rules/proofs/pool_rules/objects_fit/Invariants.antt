-- The invariant: the objects below o were all tested.
use Rattle.std.proofs.Common.{◌≡◌}
use Rattle.kernel.specs.Walk.{all_from}
use Rattle.rules.specs.PoolRules.{object_agrees}
use Rattle.rules.proofs.pool_rules.objects_fit.Given as goal

abbrev pub invariant-loop-o : goal.invariant-loop-o
invariant-loop-o l = l.fits ≡ all_from (object_agrees l.x) 0 l.o
