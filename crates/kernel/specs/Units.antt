-- Seconds, milliseconds and microseconds as ticks, and ticks as these, each rounded upward.
use Rattle.std.specs.Prelude.{ℕ, ◌+◌, ◌*◌, ◌/◌, ◌%◌, Bool, cond, ◌&&◌, ◌==◌, nat_le, nat_lt, Option, Some, None}
use Rattle.kernel.specs.declared.time.Interval.{Interval}
use Rattle.kernel.specs.declared.units.Unit.{Unit}
use Rattle.kernel.specs.declared.units.Unit.TheVariants.{Seconds, Milliseconds, Microseconds}
use Rattle.kernel.specs.Told.{Ticks, Units}
use Rattle.kernel.specs.Numbers.{usual_frequency, infinite}

-- how many of a unit make a second
abbrev pub per_second : Unit → ℕ
per_second Seconds = 1
per_second Milliseconds = 1000
per_second Microseconds = 1000000

-- "Where no frequency is given, take 10000" (document 02)
abbrev pub frequency_of : Option ℕ → ℕ
frequency_of (Some f) = f
frequency_of None = usual_frequency

-- "Frequency is 1 to 1,000,000"
abbrev pub frequency_fits : ℕ → Bool
frequency_fits f = nat_le 1 f && nat_le f 1000000

-- a / b "rounded upward": one more where a remainder is left; 0 for b = 0
abbrev pub rounded_up : ℕ → ℕ → ℕ
rounded_up a b = cond (b == 0) 0 (cond (nat_lt 0 (a % b)) (a / b + 1) (a / b))

-- "A refused conversion returns 6 and value 0"
abbrev pub refused_ticks : Ticks
refused_ticks = record { code = 6; interval = record { 0 = 0 } }

abbrev pub refused_units : Units
refused_units = record { code = 6; value = 0 }

-- a number of ticks as an interval; "a result above 4294967294 is refused with 6"
abbrev pub held_ticks : ℕ → Ticks
held_ticks n = cond (nat_lt n infinite) (record { code = 0; interval = record { 0 = n } }) refused_ticks

-- x of a unit in ticks; refused for "a frequency outside its range"
unfoldable pub in_ticks : Unit → ℕ → Option ℕ → Ticks
in_ticks u x r =
    cond (frequency_fits (frequency_of r)) (held_ticks (rounded_up (x * frequency_of r) (per_second u))) refused_ticks

-- ticks in a unit, "as 64-bit numbers"; "infinite is refused with 6, and so is a frequency outside its range"
unfoldable pub of_ticks : Unit → Interval → Option ℕ → Units
of_ticks u d r =
    cond (frequency_fits (frequency_of r))
    (cond (d.0 == infinite) refused_units
    (record { code = 0; value = rounded_up (d.0 * per_second u) (frequency_of r) }))
    refused_units
