-- How a result of this crate is told: its refusal's number or 0, the table, and what was moved. A refusal leaves the table as it was.
use Rattle.std.specs.Prelude.{ℕ, ℤ, pos, Result, Ok, Err}
use Rattle.kernel.specs.declared.refusals.Refusal.{Refusal}
use Rattle.kernel.specs.Told.{number}
use Rattle.pipes.specs.declared.table.Pipes.{Pipes}
use Rattle.pipes.specs.declared.transfer.Transferred.{Transferred}

-- a table, and 0 or the refusal that left it as it was
pub record Opened : Type 0 where
  pub pipes : Pipes
  pub code : ℕ

-- what a transfer leaves of the table, its refusal or 0, and the number of bytes moved, or -2
pub record Moved : Type 0 where
  pub pipes : Pipes
  pub code : ℕ
  pub moved : ℤ

abbrev pub told_opened : Pipes → Result Pipes Refusal → Opened
told_opened t (Ok after) = record { pipes = after; code = 0 }
told_opened t (Err why) = record { pipes = t; code = number why }

abbrev pub told_moved : Pipes → Result Transferred Refusal → Moved
told_moved t (Ok x) = record { pipes = x.pipes; code = 0; moved = x.moved }
told_moved t (Err why) = record { pipes = t; code = number why; moved = pos 0 }
