-- A number below 0 is its sign and its size, any other its size.
use Rattle.kernel.proofs.Signed.{signed}
use Rattle.buffers.proofs.SheetLaws.{on}
use Rattle.text.proofs.RowLaws.{sign_below}
use Rattle.text.proofs.items.put_signed.Goals as goal

pub returns-then-m-lt0 : goal.returns-then-m-lt0
returns-then-m-lt0 c =
    let same = signed {z = c.args.m} c.ranges.m.sfits in
    sign_below c.args.m _ (rw same at c.magnitude-size.ensures) (rw same at c.if-m-lt0.true) (on c.put_byte.ensures c.put_number.ensures)
