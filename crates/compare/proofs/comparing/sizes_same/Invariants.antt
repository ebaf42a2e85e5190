-- The invariant: whether all are the same is whether all from f on are.
use Rattle.std.proofs.Common.{◌≡◌, ◌-◌}
use Rattle.kernel.specs.Walk.{all_from}
use Rattle.compare.specs.Compared.{size_same, sizes_same}
use Rattle.compare.proofs.comparing.sizes_same.Given as goal

abbrev pub invariant-loop-f : goal.invariant-loop-f
invariant-loop-f l = sizes_same l.y l.z ≡ all_from (size_same l.y l.z) l.f (10 - l.f)
