-- The invariant: the first j bytes stand there.
use Rattle.trace.proofs.Widths.{Filled}
use Rattle.trace.proofs.ordered.bytes_at.Given as goal

abbrev pub invariant-loop-j : goal.invariant-loop-j
invariant-loop-j g l = Filled g.row.N l.j l.rest l.bytes
