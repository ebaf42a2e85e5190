-- Each turn puts one item more.
use Rattle.buffers.proofs.SheetLaws.{none}
use Rattle.text.proofs.RowLaws.{fields-more}
use Rattle.text.proofs.items.put_items.Goals as goal

pub loop-x-init : goal.loop-x-init
loop-x-init c = none _

pub loop-x-preserved : goal.loop-x-preserved
loop-x-preserved c = fields-more c.args.items.now c.loop-x.x-index _ c.loop-x-test.true c.loop-x.invariant c.put_field.ensures
