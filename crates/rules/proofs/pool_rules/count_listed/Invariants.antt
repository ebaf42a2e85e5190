-- The invariant: counts has tallied the first j entries, each of which is its own key.
use Rattle.std.proofs.Common.{eqb}
use Rattle.kernel.specs.Walk.{count_of}
use Rattle.library.specs.Pool.{listed_at}
use Rattle.rules.proofs.HangingLaws.{Tallied}
use Rattle.rules.proofs.pool_rules.count_listed.Given as goal

abbrev pub invariant-loop-j : goal.invariant-loop-j
invariant-loop-j l = Tallied count_of (λ p m. eqb (listed_at l.x m) p) 32 l.counts l.j
