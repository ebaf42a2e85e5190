-- The invariant: the numbers of the first i places are written, and the next goes to `at`.
use Rattle.std.proofs.Common.{◌≡◌, ◌+◌}
use Rattle.compare.specs.Laid.{offset_of, places_put}
use Rattle.compare.proofs.laying.put_places.Given as goal

abbrev pub invariant-loop-i : goal.invariant-loop-i
invariant-loop-i l = record { place : l.at ≡ l.from + offset_of l.i; put : l.s ≡ places_put l.a l.i l.initial.s l.from }
