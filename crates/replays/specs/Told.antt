-- How a trace under way is told. Records and abbreviations alone, so that room Paper may cite them.
use Rattle.std.specs.Prelude.{ℕ, Bool, true, false, Result, Ok, Err, Option, Some, None}
use Rattle.kernel.specs.Told.{number}
use Rattle.compare.specs.declared.cells.Kept.{Kept}
use Rattle.trace.specs.declared.decoding.BadRecord.{BadRecord}

-- the tables behind the last record that was read, the place behind it, and whether reading is at its end; then the refusal of a bad
-- record and its number, or 0 and 0
pub record Replayed : Type 0 where
  pub kept : Kept
  pub at : ℕ
  pub done : Bool
  pub code : ℕ
  pub number : ℕ

abbrev pub over : Option (Result (Unit {0}) BadRecord) → Bool
over None = false
over (Some r) = true

abbrev pub bad_code : Option (Result (Unit {0}) BadRecord) → ℕ
bad_code None = 0
bad_code (Some (Ok e)) = 0
bad_code (Some (Err bad)) = number bad.why

abbrev pub bad_number : Option (Result (Unit {0}) BadRecord) → ℕ
bad_number None = 0
bad_number (Some (Ok e)) = 0
bad_number (Some (Err bad)) = bad.number
