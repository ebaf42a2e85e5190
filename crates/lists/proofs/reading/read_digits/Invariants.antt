-- The invariant: the digits from i on, behind those before it, are the digits from the place on.
use Rattle.std.proofs.Common.{◌≡◌, ◌-◌, length, drop}
use Rattle.lists.specs.Reading.{digits_from}
use Rattle.lists.proofs.reading.read_digits.Given as goal

abbrev pub invariant-loop-value : goal.invariant-loop-value
invariant-loop-value l = digits_from l.value l.i (drop l.i l.s) ≡ digits_from 0 l.at (drop l.at l.s)

abbrev pub decreases-loop-value : goal.decreases-loop-value
decreases-loop-value l = length l.s - l.i
