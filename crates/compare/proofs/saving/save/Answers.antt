-- The numbers, then the head that is made of them.
use Rattle.compare.proofs.SavedLaws.{save-done}
use Rattle.compare.proofs.saving.save.Goals as goal

pub returns-clause-file : goal.returns-clause-file
returns-clause-file c =
    save-done _ _ _ c.if-file-lt-FILE_LENGTH.false c.put_places.ensures _ _ _ c.checksum-sum.ensures c.put_number.ensures c.put_number-2.ensures
