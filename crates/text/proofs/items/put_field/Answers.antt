-- By cases of the item: a blank, and what stands behind it.
use Rattle.std.proofs.Common.{◌≡◌, w32, to_z, of_z, rules}
use Rattle.buffers.proofs.SheetLaws.{none, on}
use Rattle.text.proofs.items.put_field.Goals as goal

pub returns-in-Nothing : goal.returns-in-Nothing
returns-in-Nothing c = rw c.in-Nothing.is (none _)

pub returns-in-Number : goal.returns-in-Number
returns-in-Number c = rw c.in-Number.is (on c.put_byte-in-Number.ensures c.put_number-in-Number.ensures)

pub returns-in-Long : goal.returns-in-Long
returns-in-Long c = rw c.in-Long.is (on c.put_byte-in-Long.ensures c.put_number-in-Long.ensures)

pub returns-in-Signed : goal.returns-in-Signed
returns-in-Signed c =
    let same : to_z w32 (of_z w32 c.in-Signed.m) ≡ c.in-Signed.m = search rules in
    rw c.in-Signed.is (on c.put_byte-in-Signed.ensures (rw same at c.put_signed.ensures))

pub returns-in-Lettered : goal.returns-in-Lettered
returns-in-Lettered c =
    rw c.in-Lettered.is
    (on c.put_byte-in-Lettered.ensures (on c.put_byte-in-Lettered-2.ensures c.put_number-in-Lettered.ensures))

pub returns-in-Cause : goal.returns-in-Cause
returns-in-Cause c = rw c.in-Cause.is (on c.put_byte-in-Cause.ensures (rw c.cause_word.ensures at c.put_letters.ensures))
