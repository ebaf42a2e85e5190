-- How a result of the reader and of the writer is told. Records, data and abbreviations alone, so that room Paper may cite them.
use Rattle.std.specs.Prelude.{ℕ, Result, Ok, Err}
use Rattle.kernel.specs.declared.refusals.Refusal.{Refusal}
use Rattle.kernel.specs.Told.{number}
use Rattle.library.specs.declared.calls.Step.{Step}
use Rattle.library.specs.declared.sizes.Sizes.{Sizes}

-- what a read finds: record 0, whose sizes stand beside it; a later record; no more records; or a refusal's number and the record's
pub data Found : Type 0 where
  Opened : Found
  Stepped : Step → Found
  Ended : Found
  Refused : ℕ → ℕ → Found

-- a read: what it found, record 0's sizes (else none), and the place after it, which is the same place unless a record was read
pub record Read : Type 0 where
  pub found : Found
  pub sizes : Sizes
  pub next : ℕ

-- what a written record comes to: the place behind it, where the next one goes, or the refusal's number
pub data Written : Type 0 where
  Upto : ℕ → Written
  Refused : ℕ → Written

abbrev pub told_written : Result ℕ Refusal → Written
told_written (Ok next) = Written.Upto next
told_written (Err why) = Written.Refused (number why)
