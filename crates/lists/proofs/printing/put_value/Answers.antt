-- The sign and what is missing to 2³².
use Rattle.std.proofs.Common.{le-leb}
use Rattle.buffers.proofs.SheetLaws.{on}
use Rattle.lists.specs.Printing.{value_text}
use Rattle.lists.proofs.printing.put_value.Goals as goal

pub returns-then-v-ge-BELOW : goal.returns-then-v-ge-BELOW
unfolding value_text
returns-then-v-ge-BELOW c = rw (c.if-signed.true, le-leb _ _ c.if-v-ge-BELOW.true) (on c.put_byte.ensures c.put_number.ensures)
