-- TIME, AS DOCUMENT 01 TELLS IT: sums and differences that wrap, the range test, the tick, and the conversions, each as a relation between
-- what is given and the answer, with the paper's own numbers.
use Rattle.std.specs.Prelude.{ℕ, ◌+◌, ◌*◌, ◌≤◌, ◌<◌, ◌≡◌, Bool, true, false, Option, Some, None}
use Rattle.kernel.specs.declared.time.SystemTime.{SystemTime}
use Rattle.kernel.specs.declared.time.Interval.{Interval}
use Rattle.kernel.specs.declared.clock.Clock.{Clock}
use Rattle.kernel.specs.declared.units.Unit.{Unit}
use Rattle.kernel.specs.declared.units.Unit.TheVariants.{Seconds, Milliseconds, Microseconds}
use Rattle.kernel.specs.Told.{Ticks, Units}

-- ---- times and intervals

-- "Time plus interval .. wrap": r is t plus d
pub data SumOf (t : SystemTime) (d : Interval) (r : SystemTime) : Type 0 where
  within : t.0 + d.0 ≤ 4294967295 → r.0 ≡ t.0 + d.0 → SumOf t d r
  wraps : 4294967295 < t.0 + d.0 → r.0 + 4294967296 ≡ t.0 + d.0 → SumOf t d r

-- ".. and end minus start wrap": d is end minus start
pub data DifferenceOf (start end : SystemTime) (d : Interval) : Type 0 where
  within : start.0 ≤ end.0 → d.0 + start.0 ≡ end.0 → DifferenceOf start end d
  wraps : end.0 < start.0 → d.0 + start.0 ≡ end.0 + 4294967296 → DifferenceOf start end d

-- "A time is in range if (time - start) is less than (end - start), both wrapped"
pub data RangeOf (t start end : SystemTime) : Bool → Type 0 where
  inside : (x y : Interval) → DifferenceOf start t x → DifferenceOf start end y → x.0 < y.0 → RangeOf t start end true
  outside : (x y : Interval) → DifferenceOf start t x → DifferenceOf start end y → y.0 ≤ x.0 → RangeOf t start end false

-- "After a tick, system time goes from 4294967295 to 0", and from any other time to the next
pub data TimeAfter (t r : SystemTime) : Type 0 where
  next : t.0 < 4294967295 → r.0 ≡ t.0 + 1 → TimeAfter t r
  wraps : t.0 ≡ 4294967295 → r.0 ≡ 0 → TimeAfter t r

-- "There is one clock record, system time and frequency .. the tick advances it": the frequency stays
pub record ClockTick (c d : Clock) : Type 0 where
  pub time : TimeAfter c.time d.time
  pub frequency : d.frequency ≡ c.frequency

-- ---- conversions

-- "Seconds, milliseconds and microseconds": how many of a unit make a second
abbrev pub in_second : Unit → ℕ
in_second Seconds = 1
in_second Milliseconds = 1000
in_second Microseconds = 1000000

-- "Where no frequency is given, take 10000 instead of 1000" (document 02)
abbrev pub ticks_in_second : Option ℕ → ℕ
ticks_in_second (Some f) = f
ticks_in_second None = 10000

-- "Frequency is 1 to 1,000,000"
pub record Possible (f : ℕ) : Type 0 where
  pub low : 1 ≤ f
  pub high : f ≤ 1000000

-- "rounded upward": n is the least number that covers a / b
pub record RoundedUp (a b n : ℕ) : Type 0 where
  pub covers : a ≤ n * b
  pub least : (m : ℕ) → a ≤ m * b → n ≤ m

-- "Seconds, milliseconds and microseconds (32-bit) become ticks rounded upward": x of the unit u, at a rate
pub data TicksOf (u : Unit) (x : ℕ) (rate : Option ℕ) (r : Ticks) : Type 0 where
  -- ".. and so is a frequency outside its range"; "A refused conversion returns 6 and value 0"
  no-frequency : (Possible (ticks_in_second rate) → ⊥) → r.code ≡ 6 → r.interval.0 ≡ 0 → TicksOf u x rate r
  -- "a result above 4294967294 is refused with 6"
  too_long : Possible (ticks_in_second rate) → (n : ℕ) → RoundedUp (x * ticks_in_second rate) (in_second u) n → 4294967294 < n
      → r.code ≡ 6 → r.interval.0 ≡ 0 → TicksOf u x rate r
  ticks : Possible (ticks_in_second rate) → (n : ℕ) → RoundedUp (x * ticks_in_second rate) (in_second u) n → n ≤ 4294967294
      → r.code ≡ 0 → r.interval.0 ≡ n → TicksOf u x rate r

-- "Ticks become the other units rounded upward as 64-bit numbers": d in the unit u, at a rate
pub data UnitsOf (u : Unit) (d : Interval) (rate : Option ℕ) (r : Units) : Type 0 where
  no-frequency : (Possible (ticks_in_second rate) → ⊥) → r.code ≡ 6 → r.value ≡ 0 → UnitsOf u d rate r
  -- "infinite is refused with 6"
  infinite : Possible (ticks_in_second rate) → d.0 ≡ 4294967295 → r.code ≡ 6 → r.value ≡ 0 → UnitsOf u d rate r
  -- 18446744073709551615 is the greatest 64-bit number
  units : Possible (ticks_in_second rate) → d.0 < 4294967295 → (n : ℕ) → RoundedUp (d.0 * in_second u) (ticks_in_second rate) n
      → n ≤ 18446744073709551615 → r.code ≡ 0 → r.value ≡ n → UnitsOf u d rate r
