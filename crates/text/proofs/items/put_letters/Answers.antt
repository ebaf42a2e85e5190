-- Each turn puts one letter more.
use Rattle.buffers.proofs.SheetLaws.{row_more, row_none}
use Rattle.text.proofs.items.put_letters.Goals as goal

pub loop-b-init : goal.loop-b-init
loop-b-init c = row_none _ _

pub loop-b-preserved : goal.loop-b-preserved
loop-b-preserved c = row_more _ c.loop-b.b-index c.loop-b.invariant c.put_letter.ensures
