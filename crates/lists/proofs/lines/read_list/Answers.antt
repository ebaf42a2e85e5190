-- One line more.
use Rattle.lists.proofs.LinesLaws.{under_more}
use Rattle.lists.proofs.lines.read_list.Goals as goal

pub loop-i-preserved : goal.loop-i-preserved
loop-i-preserved c =
    let a = c.args in
    let loop = c.loop-i in
    under_more a.s.now a.list.now loop.i loop.x loop.list _ _ loop.invariant c.loop-i-test.true c.line_at-t.ensures c.keep_line.ensures
