-- The invariant: the numbers of the first i places are read, and the next lies at `at`.
use Rattle.std.proofs.Common.{◌≡◌}
use Rattle.compare.specs.Laid.{offset_of, places_read}
use Rattle.compare.proofs.laying.read_tables.Given as goal

abbrev pub invariant-loop-i : goal.invariant-loop-i
invariant-loop-i l = record { place : l.at ≡ offset_of l.i; so_far : l.a ≡ places_read l.s l.i }
