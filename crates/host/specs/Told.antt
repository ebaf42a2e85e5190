-- How a result is told as one record. Records alone, so that room Paper may cite them.
use Rattle.std.specs.Prelude.{ℕ, Bool}
use Rattle.kernel.specs.declared.clock.Clock.{Clock}
use Rattle.library.specs.declared.tables.Tables.{Tables}

-- what comes of setting up: the tables and their clock, whether they were made, and the code
pub record Prepared : Type 0 where
  pub tables : Tables
  pub clock : Clock
  pub accepted : Bool
  pub code : ℕ
