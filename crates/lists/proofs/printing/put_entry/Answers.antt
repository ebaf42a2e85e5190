-- The parts of the line, one behind the other.
use Rattle.buffers.proofs.SheetLaws.{on}
use Rattle.lists.specs.Printing.{entry_text}
use Rattle.lists.proofs.printing.put_entry.Goals as goal

pub returns : goal.returns
unfolding entry_text
returns c =
    let signed = c.is_signed-signed.ensures in
    on c.put_object.ensures
    (on c.put_number.ensures
    (on c.put_byte.ensures
    (on c.put_field.ensures
    (on (rw signed at c.put_value.ensures)
    (on c.put_byte-2.ensures
    (on (rw signed at c.put_value-2.ensures) c.put_byte-3.ensures))))))
