-- The word, the items, what is listed, and the end, one behind the other.
use Rattle.buffers.proofs.SheetLaws.{on}
use Rattle.text.specs.Rows.{row_text}
use Rattle.text.proofs.items.put_row.Goals as goal

pub returns : goal.returns
unfolding row_text
returns c = on c.put_letters.ensures (on c.put_items.ensures (on c.put_cells.ensures c.put_field.ensures))
