-- A written record as a host gets it.
use Rattle.std.specs.Prelude.{ℕ}
use Rattle.trace.specs.Told.{Written}

-- the place after what was written; a refusal leaves the place that stood there
abbrev pub place_written : Written → ℕ → ℕ
place_written (Written.Upto next) place = next
place_written (Written.Refused code) place = place
