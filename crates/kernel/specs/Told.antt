-- How a result is told: 0, or the number that document 01 has for its refusal. Records and abbreviations alone, so that room Paper may cite them.
use Rattle.std.specs.Prelude.{ℕ, Result, Ok, Err}
use Rattle.kernel.specs.declared.time.Interval.{Interval}
use Rattle.kernel.specs.declared.refusals.Refusal.{Refusal}
use Rattle.kernel.specs.declared.refusals.Refusal.TheVariants.{Tables, Kind, Caller, Context, Object, Value, State, Version, Cut, Length, Size, Long, Room}

-- the number of a refusal
abbrev pub number : Refusal → ℕ
number Tables = 1
number Kind = 2
number Caller = 3
number Context = 4
number Object = 5
number Value = 6
number State = 7
number Version = 11
number Cut = 12
number Length = 13
number Size = 14
number Long = 15
number Room = 16

-- 0, or the number of a refusal
abbrev pub code_of : {A : Type 0} → Result A Refusal → ℕ
code_of (Ok a) = 0
code_of (Err why) = number why

-- how a conversion into ticks is told: its code, and the interval, which is 0 where it is refused
pub record Ticks : Type 0 where
  pub code : ℕ
  pub interval : Interval

abbrev pub told_ticks : Result Interval Refusal → Ticks
told_ticks (Ok d) = record { code = 0; interval = d }
told_ticks (Err why) = record { code = number why; interval = record { 0 = 0 } }

-- and one into another unit
pub record Units : Type 0 where
  pub code : ℕ
  pub value : ℕ

abbrev pub told_units : Result ℕ Refusal → Units
told_units (Ok n) = record { code = 0; value = n }
told_units (Err why) = record { code = number why; value = 0 }
