-- Each turn puts one thing more.
use Rattle.buffers.proofs.SheetLaws.{row_more, row_none}
use Rattle.text.proofs.items.put_cells.Goals as goal

pub loop-j-init : goal.loop-j-init
loop-j-init c = row_none _ _

pub loop-j-preserved : goal.loop-j-preserved
loop-j-preserved c = row_more _ c.loop-j.j c.loop-j.invariant (rw c.cell.ensures at c.put_field.ensures)
