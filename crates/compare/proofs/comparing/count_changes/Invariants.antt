-- The invariant: count is how many of the first k fields differ.
use Rattle.std.proofs.Common.{◌≡◌}
use Rattle.kernel.specs.Walk.{count_of}
use Rattle.compare.specs.Changes.{differs}
use Rattle.compare.specs.Order.{reading_of}
use Rattle.compare.proofs.comparing.count_changes.Given as goal

abbrev pub invariant-loop-k : goal.invariant-loop-k
invariant-loop-k l = l.count ≡ count_of (differs (reading_of l.a) (reading_of l.b)) l.k
