-- The invariant: of up to four bytes, x is what the i highest make, and no larger than they can say.
use Rattle.std.proofs.Common.{◌≡◌, ◌+◌, ◌-◌, ◌<◌, ◌≤◌, ◌^◌}
use Rattle.compare.specs.Bytes.{number_at}
use Rattle.compare.proofs.bytes.get_number.Given as goal

abbrev pub invariant-loop-i : goal.invariant-loop-i
invariant-loop-i l = record { read : l.w ≤ 4 → l.x ≡ number_at l.i l.s (l.at + (l.w - l.i)); small : l.w ≤ 4 → l.x < 256 ^ l.i }
