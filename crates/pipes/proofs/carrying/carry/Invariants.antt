-- The invariant: the first `done` bytes are carried, and p and q are the places of the next. A turn carries at least one, and passes no end.
use Rattle.std.proofs.Common.{◌-◌}
use Rattle.pipes.proofs.CarryingLaws.{OnWay}
use Rattle.pipes.proofs.carrying.carry.Given as goal

abbrev pub invariant-loop-done : goal.invariant-loop-done
invariant-loop-done l = OnWay l.n l.done l.from l.start l.initial.to l.at l.to l.p l.q

abbrev pub decreases-loop-done : goal.decreases-loop-done
decreases-loop-done l = l.n - l.done
