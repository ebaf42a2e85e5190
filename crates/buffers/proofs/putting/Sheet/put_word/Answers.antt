-- Each turn writes one byte more of the word.
use Rattle.buffers.proofs.SheetLaws.{none, byte_more}
use Rattle.buffers.proofs.putting.Sheet.put_word.Goals as goal

pub loop-b-init : goal.loop-b-init
loop-b-init c = none _

pub loop-b-preserved : goal.loop-b-preserved
loop-b-preserved c = byte_more _ c.loop-b.b-index c.loop-b-test.true c.loop-b.invariant c.put_byte.ensures
