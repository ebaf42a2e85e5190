-- Each turn puts one row more behind the heading.
use Rattle.std.proofs.Common.{◌≡◌, arith}
use Rattle.buffers.proofs.SheetLaws.{on, row_more, row_none}
use Rattle.text.specs.Views.{part_text}
use Rattle.text.proofs.views.put_part.Goals as goal

pub loop-i-init : goal.loop-i-init
unfolding part_text
loop-i-init c = row_none _ _

pub loop-i-preserved : goal.loop-i-preserved
unfolding part_text
loop-i-preserved c = row_more _ c.loop-i.i c.loop-i.invariant (rw c.row_of.ensures at c.put_row.ensures)

pub returns : goal.returns
unfolding part_text
returns c =
    let all : c.loop-i.i ≡ c.rows_in-i-end.result = omega arith in
    on (rw c.heading.ensures at c.put_word.ensures) (rw (all, c.rows_in-i-end.ensures) at c.loop-i.invariant)
