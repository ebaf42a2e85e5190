-- Each turn counts one object more.
use Rattle.std.proofs.Common.{◌≡◌, ◌≤◌, eqb}
use Rattle.kernel.specs.Walk.{count_of}
use Rattle.library.specs.Pool.{mark_at}
use Rattle.text.proofs.sums.count_marks.Given as goal

abbrev pub invariant-loop-i : goal.invariant-loop-i
invariant-loop-i l = record { few : l.n ≤ l.i; counted : l.n ≡ count_of (λ o. eqb (mark_at l.p o) l.mark) l.i }
