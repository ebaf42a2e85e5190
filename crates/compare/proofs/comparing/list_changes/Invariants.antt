-- The invariant: the entries of the first k fields stand in the list, and the next goes behind them.
use Rattle.compare.proofs.ListLaws.{OnList}
use Rattle.compare.proofs.comparing.list_changes.Given as goal

abbrev pub invariant-loop-k : goal.invariant-loop-k
invariant-loop-k l = OnList l.a l.b l.n l.k l.initial.list l.list l.at
