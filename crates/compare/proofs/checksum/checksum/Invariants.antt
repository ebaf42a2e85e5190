-- The invariant: the two sums are those of the first bytes.
use Rattle.std.proofs.Common.{◌≡◌}
use Rattle.compare.specs.Checksum.{sums_of}
use Rattle.compare.proofs.checksum.checksum.Given as goal

abbrev pub invariant-loop-b : goal.invariant-loop-b
invariant-loop-b l = l.s ≡ sums_of l.bytes l.b-index
