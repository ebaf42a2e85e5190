-- Each turn reads one line more.
use Rattle.lists.proofs.LinesLaws.{Under}
use Rattle.lists.proofs.lines.read_list.Given as goal

abbrev pub invariant-loop-i : goal.invariant-loop-i
invariant-loop-i l = Under l.s l.initial.list l.i l.x l.list
