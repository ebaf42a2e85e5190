-- Both places are there at the start; a turn goes on from the places where the one before ended.
use Rattle.pipes.proofs.CarryingLaws.{way-begins, way-goes-on}
use Rattle.pipes.proofs.carrying.carry.Goals as goal

pub loop-done-init : goal.loop-done-init
loop-done-init c = way-begins _ _ _ _ _ c.if-at-to.true c.if-start-from.true

pub loop-done-preserved : goal.loop-done-preserved
loop-done-preserved c =
    way-goes-on _ _ _ _ _ _ _ _ _ c.loop-done.invariant _ _ c.min.ensures c.min-run.ensures c.loop-done-test.true
    _ c.copy_run.ensures _ c.wrap-p.ensures _ c.wrap-q.ensures
