-- The word, the bracket, the place and the closing bracket, one behind the other.
use Rattle.buffers.proofs.SheetLaws.{on}
use Rattle.lists.proofs.words.put_placed.Goals as goal

pub returns : goal.returns
returns c = on c.put_word.ensures (on c.put_word-2.ensures (on c.put_number.ensures c.put_word-3.ensures))
