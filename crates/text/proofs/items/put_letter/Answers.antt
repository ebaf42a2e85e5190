-- No letter for a zero.
use Rattle.std.proofs.Common.{eq-eqb}
use Rattle.buffers.proofs.SheetLaws.{none}
use Rattle.text.proofs.items.put_letter.Goals as goal

pub returns-else-b-ne0 : goal.returns-else-b-ne0
returns-else-b-ne0 c = rw (eq-eqb _ _ c.if-b-ne0.false) (none _)
