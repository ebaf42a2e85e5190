-- Each turn puts one part more; a number that is no part's stands for no text.
use Rattle.buffers.proofs.SheetLaws.{none, row_more, row_none}
use Rattle.text.specs.Views.{parts_text}
use Rattle.text.proofs.ViewLaws.{no-part}
use Rattle.text.proofs.views.put_parts.Goals as goal
use Rattle.text.proofs.views.put_parts.Goals.{in-Some, in_default}

pub loop-i-init : goal.loop-i-init
unfolding parts_text
loop-i-init c = row_none _ _

pub loop-i-preserved : goal.loop-i-preserved
unfolding parts_text
loop-i-preserved c =
    row_more _ c.loop-i.i c.loop-i.invariant
    (elim c.match-part_of.branch [
      | in-Some w ↦ rw w.sheet-is (rw w.in-Some.ensures at w.put_part.ensures)
      | in_default w ↦ rw (w.sheet-is, no-part c.args.x _ w.in_default.ensures) (none c.loop-i.sheet)
    ])
