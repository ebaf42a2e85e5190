-- How what a comparison and a loading come to is told: 0 and what was found, or the number of a refusal and nothing. Records and
-- abbreviations alone.
use Rattle.std.specs.Prelude.{ℕ, Result, Ok, Err}
use Rattle.kernel.specs.declared.refusals.Refusal.{Refusal}
use Rattle.kernel.specs.Told.{number}
use Rattle.compare.specs.declared.cells.Kept.{Kept}

-- a comparison's answer: 0 or a refusal, and how many entries were listed
pub record Compared : Type 0 where
  pub code : ℕ
  pub entries : ℕ

abbrev pub told_compared : Result ℕ Refusal → Compared
told_compared (Ok entries) = record { code = 0; entries = entries }
told_compared (Err why) = record { code = number why; entries = 0 }

-- code 0 with what was loaded, or a refusal with nothing
pub record Loaded : Type 0 where
  pub code : ℕ
  pub kept : Kept

abbrev pub told_loaded : Kept → Result Kept Refusal → Loaded
told_loaded nothing (Ok a) = record { code = 0; kept = a }
told_loaded nothing (Err why) = record { code = number why; kept = nothing }
