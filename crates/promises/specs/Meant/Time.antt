-- Time as the code is proved to have it is time as the paper tells it, and the paper leaves no choice: sums and differences modulo 2 ^ 32
-- are those that wrap once, and a quotient rounded up is the least number that covers.
use Rattle.std.specs.Prelude.{ℕ, suc, ◌+◌, ◌*◌, ◌≤◌, ◌<◌, ◌≡◌, refl, Bool, true, eqb, leb, ltb, Option, Some, None}
use Rattle.std.proofs.Common.{mul-le-mul, mul-le-mul_left, mul-le-mul_right, le_antisymm, le_of_lt, arith, sym, ap, ap₂, ◌∙◌, ltb-true, ltb-false, le-leb, leb-true, eqb-true}
use Rattle.std.proofs.lemmas.Bool.{eqb-false}
use Rattle.kernel.specs.declared.time.SystemTime.{SystemTime}
use Rattle.kernel.specs.declared.time.Interval.{Interval}
use Rattle.kernel.specs.declared.clock.Clock.{Clock}
use Rattle.kernel.specs.declared.units.Unit.{Unit}
use Rattle.kernel.specs.declared.units.Unit.TheVariants.{Seconds, Milliseconds, Microseconds}
use Rattle.kernel.specs.Told.{Ticks, Units}
use Rattle.kernel.specs.Time.{added, differed, in_range, advanced}
use Rattle.kernel.specs.Clock.{ticked_clock}
use Rattle.kernel.specs.Units.{per_second, frequency_of, frequency_fits, rounded_up, in_ticks, of_ticks}
use Rattle.kernel.proofs.Cases.{split, in-or-out, both_true, both-means, contrary}
use Rattle.kernel.proofs.UnitsLaws.{round-up-covers, round-up-least}
use Rattle.promises.specs.Paper.Time.{
  SumOf,
  DifferenceOf,
  RangeOf,
  TimeAfter,
  ClockTick,
  in_second,
  ticks_in_second,
  Possible,
  RoundedUp,
  TicksOf,
  UnitsOf,
}

-- ---- times and intervals

same-time : (a b : SystemTime) → a.0 ≡ b.0 → a ≡ b
same-time a b e = ap (λ (n : ℕ). record { 0 = n }) e

same-interval : (a b : Interval) → a.0 ≡ b.0 → a ≡ b
same-interval a b e = ap (λ (n : ℕ). record { 0 = n }) e

pub sum_is : (t : SystemTime) (d : Interval) → t.0 < 4294967296 → d.0 < 4294967296 → SumOf t d (added t d)
sum_is t d ht hd =
    in-or-out 4294967295 (t.0 + d.0)
    (λ h. SumOf.wraps h (omega arith))
    (λ h. SumOf.within h (omega arith))

pub sum_one : {t : SystemTime} {d : Interval} {r q : SystemTime} → SumOf t d r → SumOf t d q → r ≡ q
sum_one {t} {d} {r} {q} (SumOf.within a b) (SumOf.within c e) = same-time r q (omega arith)
sum_one (SumOf.within a b) (SumOf.wraps c e) = absurd (omega arith)
sum_one (SumOf.wraps a b) (SumOf.within c e) = absurd (omega arith)
sum_one {t} {d} {r} {q} (SumOf.wraps a b) (SumOf.wraps c e) = same-time r q (omega arith)

pub difference-is : (start end : SystemTime) → start.0 < 4294967296 → end.0 < 4294967296 → DifferenceOf start end (differed start end)
difference-is start end hs he =
    in-or-out end.0 start.0
    (λ h. DifferenceOf.wraps h (omega arith))
    (λ h. DifferenceOf.within h (omega arith))

pub difference-one : {start end : SystemTime} {d e : Interval} → DifferenceOf start end d → DifferenceOf start end e → d ≡ e
difference-one {d = d} {e = e} (DifferenceOf.within a b) (DifferenceOf.within c f) = same-interval d e (omega arith)
difference-one (DifferenceOf.within a b) (DifferenceOf.wraps c f) = absurd (omega arith)
difference-one (DifferenceOf.wraps a b) (DifferenceOf.within c f) = absurd (omega arith)
difference-one {d = d} {e = e} (DifferenceOf.wraps a b) (DifferenceOf.wraps c f) = same-interval d e (omega arith)

pub range-is : (t start end : SystemTime) → t.0 < 4294967296 → start.0 < 4294967296 → end.0 < 4294967296
    → RangeOf t start end (in_range t start end)
range-is t start end ht hs he =
    let x = difference-is start t hs ht in
    let y = difference-is start end hs he in
    split (in_range t start end)
    (λ e. rw e (RangeOf.inside (differed start t) (differed start end) x y (ltb-true (differed start t).0 (differed start end).0 e)))
    (λ e. rw e (RangeOf.outside (differed start t) (differed start end) x y (ltb-false (differed start t).0 (differed start end).0 e)))

pub range-one : {t start end : SystemTime} {a b : Bool} → RangeOf t start end a → RangeOf t start end b → a ≡ b
range-one (RangeOf.inside x y dx dy l) (RangeOf.inside v w dv dw m) = refl
range-one (RangeOf.inside x y dx dy l) (RangeOf.outside v w dv dw m) =
    absurd (omega (arith, ap (λ (d : Interval). d.0) (difference-one dx dv), ap (λ (d : Interval). d.0) (difference-one dy dw)))
range-one (RangeOf.outside x y dx dy l) (RangeOf.inside v w dv dw m) =
    absurd (omega (arith, ap (λ (d : Interval). d.0) (difference-one dx dv), ap (λ (d : Interval). d.0) (difference-one dy dw)))
range-one (RangeOf.outside x y dx dy l) (RangeOf.outside v w dv dw m) = refl

pub advance-is : (t : SystemTime) → t.0 < 4294967296 → TimeAfter t (advanced t)
advance-is t h =
    in-or-out t.0 4294967295
    (λ l. TimeAfter.next l (omega arith))
    (λ l. TimeAfter.wraps (omega arith) (omega arith))

pub advance-one : {t r q : SystemTime} → TimeAfter t r → TimeAfter t q → r ≡ q
advance-one {t} {r} {q} (TimeAfter.next a b) (TimeAfter.next c d) = same-time r q (omega arith)
advance-one (TimeAfter.next a b) (TimeAfter.wraps c d) = absurd (omega arith)
advance-one (TimeAfter.wraps a b) (TimeAfter.next c d) = absurd (omega arith)
advance-one {t} {r} {q} (TimeAfter.wraps a b) (TimeAfter.wraps c d) = same-time r q (omega arith)

pub clock-is : (c : Clock) → c.time.0 < 4294967296 → ClockTick c (ticked_clock c)
clock-is c h = record { time = advance-is c.time h; frequency = refl }

pub clock-one : {c d e : Clock} → ClockTick c d → ClockTick c e → d ≡ e
clock-one {c} {d} {e} a b =
    ap₂ (λ (t : SystemTime) (f : ℕ). record { time = t; frequency = f }) (advance-one a.time b.time) (a.frequency ∙ sym b.frequency)

-- ---- conversions

some-in-second : (u : Unit) → 0 < in_second u
some-in-second Seconds = omega arith
some-in-second Milliseconds = omega arith
some-in-second Microseconds = omega arith

-- how many of a unit make a second, and how many ticks
pub same-unit : (u : Unit) → per_second u ≡ in_second u
same-unit Seconds = refl
same-unit Milliseconds = refl
same-unit Microseconds = refl

pub same-rate : (r : Option ℕ) → frequency_of r ≡ ticks_in_second r
same-rate (Some f) = refl
same-rate None = refl

-- the code's test of a frequency passes exactly where it is possible
pub possible-fits : (f : ℕ) → frequency_fits f ≡ true → Possible f
possible-fits f e =
    let b = both-means (leb 1 f) (leb f 1000000) e in
    record { low = leb-true 1 f b.0; high = leb-true f 1000000 b.1 }

pub fits-possible : (f : ℕ) → Possible f → frequency_fits f ≡ true
fits-possible f p = both_true (le-leb 1 f p.low) (le-leb f 1000000 p.high)

-- a quotient rounded up is the least number that covers: with one less it would be n * b < a + b
rounded-is : (a b : ℕ) → 0 < b → RoundedUp a b (rounded_up a b)
rounded-is a b some = record { covers = round-up-covers a b some; least = least }
  where
    least : (m : ℕ) → a ≤ m * b → rounded_up a b ≤ m
    least m h =
        in-or-out m (rounded_up a b)
        (λ l.
        let more : suc m * b ≤ rounded_up a b * b = mul-le-mul_right b l in
        absurd (omega (arith, round-up-least a b some)))
        (λ l. l)

rounded-one : {a b m n : ℕ} → RoundedUp a b m → RoundedUp a b n → m ≡ n
rounded-one {m = m} {n = n} x y = le_antisymm (x.least n y.covers) (y.least m x.covers)

same-ticks : (a b : Ticks) → a.code ≡ b.code → a.interval.0 ≡ b.interval.0 → a ≡ b
same-ticks a b c e = ap₂ (λ (k n : ℕ). record { code = k; interval = record { 0 = n } }) c e

same_units : (a b : Units) → a.code ≡ b.code → a.value ≡ b.value → a ≡ b
same_units a b c e = ap₂ (λ (k n : ℕ). record { code = k; value = n }) c e

pub ticks-is : (u : Unit) (x : ℕ) (rate : Option ℕ) → TicksOf u x rate (in_ticks u x rate)
unfolding in_ticks
ticks-is u x rate =
    let f : ℕ = ticks_in_second rate in
    let n : ℕ = rounded_up (x * f) (in_second u) in
    let up : RoundedUp (x * f) (in_second u) n = rounded-is (x * f) (in_second u) (some-in-second u) in
    rw (same-rate rate, same-unit u)
    (split (frequency_fits f)
    (λ e. rw e
    (split (ltb n 4294967295)
    (λ l. rw l (TicksOf.ticks (possible-fits f e) n up (omega (arith, ltb-true n 4294967295 l)) refl refl))
    (λ l. rw l (TicksOf.too_long (possible-fits f e) n up (omega (arith, ltb-false n 4294967295 l)) refl refl))))
    (λ e. rw e (TicksOf.no-frequency (λ p. contrary (fits-possible f p) e) refl refl)))

pub ticks-one : {u : Unit} {x : ℕ} {rate : Option ℕ} {r q : Ticks} → TicksOf u x rate r → TicksOf u x rate q → r ≡ q
ticks-one {r = r} {q = q} (TicksOf.no-frequency a b c) (TicksOf.no-frequency d e f) = same-ticks r q (omega arith) (omega arith)
ticks-one {r = r} {q = q} (TicksOf.no-frequency a b c) (TicksOf.too_long p n g h d e) = absurd (a p)
ticks-one {r = r} {q = q} (TicksOf.no-frequency a b c) (TicksOf.ticks p n g h d e) = absurd (a p)
ticks-one {r = r} {q = q} (TicksOf.too_long p n g h b c) (TicksOf.no-frequency d e f) = absurd (d p)
ticks-one {r = r} {q = q} (TicksOf.too_long p n g h b c) (TicksOf.too_long p' m k l d e) = same-ticks r q (omega arith) (omega arith)
ticks-one {r = r} {q = q} (TicksOf.too_long p n g h b c) (TicksOf.ticks p' m k l d e) = absurd (omega (arith, rounded-one g k))
ticks-one {r = r} {q = q} (TicksOf.ticks p n g h b c) (TicksOf.no-frequency d e f) = absurd (d p)
ticks-one {r = r} {q = q} (TicksOf.ticks p n g h b c) (TicksOf.too_long p' m k l d e) = absurd (omega (arith, rounded-one g k))
ticks-one {r = r} {q = q} (TicksOf.ticks p n g h b c) (TicksOf.ticks p' m k l d e) = same-ticks r q (omega arith) (omega (arith, rounded-one g k))

-- 4294967294 ticks are at most 4294967294 times a million microseconds
narrow : (u : Unit) → in_second u ≤ 1000000
narrow Seconds = omega arith
narrow Milliseconds = omega arith
narrow Microseconds = omega arith

wide : (d p f n : ℕ) → d < 4294967295 → p ≤ 1000000 → 1 ≤ f → RoundedUp (d * p) f n → n ≤ 18446744073709551615
wide d p f n hd hp hf up =
    let whole : d * p ≤ 4294967295 * 1000000 = mul-le-mul {n₁ = d} {m₁ = p} (le_of_lt hd) hp in
    let more : d * p * 1 ≤ d * p * f = mul-le-mul_left (d * p) hf in
    omega (arith, up.least (d * p) (omega arith))

pub units-is : (u : Unit) (d : Interval) (rate : Option ℕ) → d.0 < 4294967296 → UnitsOf u d rate (of_ticks u d rate)
unfolding of_ticks
units-is u d rate h =
    let f : ℕ = ticks_in_second rate in
    let n : ℕ = rounded_up (d.0 * in_second u) f in
    rw (same-rate rate, same-unit u)
    (split (frequency_fits f)
    (λ e. rw e
    (let p : Possible f = possible-fits f e in
    let up : RoundedUp (d.0 * in_second u) f n = rounded-is (d.0 * in_second u) f p.low in
    split (eqb d.0 4294967295)
    (λ l. rw l (UnitsOf.infinite p (eqb-true d.0 4294967295 l) refl refl))
    (λ l. rw l
    (let less : d.0 < 4294967295 = in-or-out d.0 4294967295 (λ i. i) (λ i. absurd (eqb-false d.0 4294967295 l (omega arith))) in
    UnitsOf.units p less n up (wide d.0 (in_second u) f n less (narrow u) p.low up) refl refl))))
    (λ e. rw e (UnitsOf.no-frequency (λ p. contrary (fits-possible f p) e) refl refl)))

pub units-one : {u : Unit} {d : Interval} {rate : Option ℕ} {r q : Units} → UnitsOf u d rate r → UnitsOf u d rate q → r ≡ q
units-one {r = r} {q = q} (UnitsOf.no-frequency a b c) (UnitsOf.no-frequency d e f) = same_units r q (omega arith) (omega arith)
units-one {r = r} {q = q} (UnitsOf.no-frequency a b c) (UnitsOf.infinite p i d e) = absurd (a p)
units-one {r = r} {q = q} (UnitsOf.no-frequency a b c) (UnitsOf.units p i n g w d e) = absurd (a p)
units-one {r = r} {q = q} (UnitsOf.infinite p i b c) (UnitsOf.no-frequency d e f) = absurd (d p)
units-one {r = r} {q = q} (UnitsOf.infinite p i b c) (UnitsOf.infinite p' i' d e) = same_units r q (omega arith) (omega arith)
units-one {r = r} {q = q} (UnitsOf.infinite p i b c) (UnitsOf.units p' i' n g w d e) = absurd (omega arith)
units-one {r = r} {q = q} (UnitsOf.units p i n g w b c) (UnitsOf.no-frequency d e f) = absurd (d p)
units-one {r = r} {q = q} (UnitsOf.units p i n g w b c) (UnitsOf.infinite p' i' d e) = absurd (omega arith)
units-one {r = r} {q = q} (UnitsOf.units p i n g w b c) (UnitsOf.units p' i' m k w' d e) = same_units r q (omega arith) (omega (arith, rounded-one g k))
