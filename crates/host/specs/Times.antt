-- System time and intervals as a host has them, plain numbers.
use Rattle.std.specs.Prelude.{ℕ, cond, Some}
use Rattle.kernel.specs.declared.units.Unit.{Unit}
use Rattle.kernel.specs.Time.{added, differed, in_range}
use Rattle.kernel.specs.Units.{in_ticks, of_ticks}

-- "Time plus interval .. wrap"
abbrev pub added_time : ℕ → ℕ → ℕ
added_time time interval = (added (record { 0 = time }) (record { 0 = interval })).0

-- ".. and end minus start wrap"
abbrev pub differed_time : ℕ → ℕ → ℕ
differed_time start end = (differed (record { 0 = start }) (record { 0 = end })).0

-- 1 for a time in range, else 0
abbrev pub in_range_number : ℕ → ℕ → ℕ → ℕ
in_range_number time start end = cond (in_range (record { 0 = time }) (record { 0 = start }) (record { 0 = end })) 1 0

-- "Seconds, milliseconds and microseconds (32-bit) become ticks rounded upward"; "A refused conversion returns 6 and value 0"
abbrev pub ticks_code : Unit → ℕ → ℕ → ℕ
ticks_code u x frequency = (in_ticks u x (Some frequency)).code

abbrev pub ticks_in : Unit → ℕ → ℕ → ℕ
ticks_in u x frequency = (in_ticks u x (Some frequency)).interval.0

-- "Ticks become the other units rounded upward as 64-bit numbers"
abbrev pub units_code : Unit → ℕ → ℕ → ℕ
units_code u ticks frequency = (of_ticks u (record { 0 = ticks }) (Some frequency)).code

abbrev pub units_of : Unit → ℕ → ℕ → ℕ
units_of u ticks frequency = (of_ticks u (record { 0 = ticks }) (Some frequency)).value
