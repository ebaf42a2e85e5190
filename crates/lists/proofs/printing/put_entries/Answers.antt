-- An entry more goes behind those that stand there.
use Rattle.buffers.proofs.SheetLaws.{row_more, row_none}
use Rattle.lists.proofs.printing.put_entries.Goals as goal

pub loop-i-init : goal.loop-i-init
loop-i-init c = row_none _ _

pub loop-i-preserved : goal.loop-i-preserved
loop-i-preserved c = row_more _ c.loop-i.i c.loop-i.invariant (rw c.entry_in.ensures at c.put_entry.ensures)
