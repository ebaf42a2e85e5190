-- A byte within the buffer is stored; at its end there is no room.
use Rattle.std.proofs.Common.{refl}
use Rattle.buffers.proofs.PutLaws.{stored, full}
use Rattle.buffers.proofs.putting.Sheet.put_byte.Goals as goal

pub returns-then-self : goal.returns-then-self
returns-then-self c = record { same = refl; put = stored _ _ _ c.if-self.true }

pub returns-else-self : goal.returns-else-self
returns-else-self c = record { same = refl; put = full _ _ _ c.if-self.false }
