-- How a result is told as one record. Records alone, so that room Paper may cite them.
use Rattle.std.specs.Prelude.{ℕ}
use Rattle.kernel.specs.declared.clock.Clock.{Clock}
use Rattle.library.specs.declared.tables.Tables.{Tables}

-- what comes of making fresh tables: a code, the tables and their clock
pub record Made : Type 0 where
  pub code : ℕ
  pub tables : Tables
  pub clock : Clock
