-- The last word that is there.
use Rattle.lists.proofs.ReadingLaws.{last_more, last_none}
use Rattle.lists.proofs.reading.read_field.Goals as goal

pub loop-f-init : goal.loop-f-init
loop-f-init c = last_none _ _ _ c.no_part-p.ensures

pub loop-f-preserved : goal.loop-f-preserved
loop-f-preserved c = last_more _ _ c.loop-f.f _ _ _ c.loop-f.invariant c.field_part.ensures c.later-p.ensures
