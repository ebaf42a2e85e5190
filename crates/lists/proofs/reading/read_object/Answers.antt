-- The last word that is there.
use Rattle.lists.proofs.ReadingLaws.{last_more, last_none}
use Rattle.lists.proofs.reading.read_object.Goals as goal

pub loop-o-init : goal.loop-o-init
loop-o-init c = last_none _ _ _ c.no_part-p.ensures

pub loop-o-preserved : goal.loop-o-preserved
loop-o-preserved c = last_more _ _ c.loop-o.o _ _ _ c.loop-o.invariant c.object_part.ensures c.later-p.ensures
