-- What the buffer holds is the sheet's in the end.
use Rattle.std.proofs.Common.{rules}
use Rattle.buffers.proofs.SheetLaws.{ended}
use Rattle.lists.proofs.printing.put_list.Goals as goal

pub returns : goal.returns
returns c = ended c.put_entries.ensures (search rules)
