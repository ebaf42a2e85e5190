-- No more than the fields before k are counted.
use Rattle.std.proofs.Common.{arith}
use Rattle.kernel.proofs.WalkLaws.{count-le}
use Rattle.compare.specs.Changes.{differs}
use Rattle.compare.specs.Order.{reading_of}
use Rattle.compare.proofs.comparing.count_changes.Goals as goal

pub overflow_add-count : goal.overflow_add-count
overflow_add-count c =
    omega (arith, c.loop-k.invariant, count-le (differs (reading_of c.args.a) (reading_of c.args.b)) c.loop-k.k)
