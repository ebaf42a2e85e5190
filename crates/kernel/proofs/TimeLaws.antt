-- Time and interval undo each other, across the wrap at 4294967295: sums and differences are taken modulo 2 ^ 32.
use Rattle.std.proofs.Common.{◌≡◌, ℕ, ◌+◌, ◌-◌, ◌%◌, ◌^◌, ◌<◌, false, ltb, ap, ◌∙◌, arith, le-ltb}
use Rattle.kernel.specs.declared.time.SystemTime.{SystemTime}
use Rattle.kernel.specs.declared.time.Interval.{Interval}
use Rattle.kernel.specs.Time.{added, differed, in_range, advanced}

-- the interval to a time that lies d later is d
pub add-difference : (t : SystemTime) (d : Interval) → t.0 < 2 ^ 32 → d.0 < 2 ^ 32 → differed t (added t d) ≡ d
add-difference t d ht hd = ap (λ (n : ℕ). record { 0 = n }) (sum t.0 d.0 ht hd)
  where
    sum : (a b : ℕ) → a < 2 ^ 32 → b < 2 ^ 32 → ((a + b) % 2 ^ 32 + (2 ^ 32 - a)) % 2 ^ 32 ≡ b
    sum a b p q = omega arith

-- the time that lies the interval to `end` after `start` is `end`
pub difference-add : (start end : SystemTime) → start.0 < 2 ^ 32 → end.0 < 2 ^ 32 → added start (differed start end) ≡ end
difference-add s e hs he = ap (λ (n : ℕ). record { 0 = n }) (sum s.0 e.0 hs he)
  where
    sum : (a b : ℕ) → a < 2 ^ 32 → b < 2 ^ 32 → (a + (b + (2 ^ 32 - a)) % 2 ^ 32) % 2 ^ 32 ≡ b
    sum a b p q = omega arith

-- "A time is in range if (time - start) is less than (end - start), both wrapped": x after the start is in a range of y if x < y
pub in-range-after : (start : SystemTime) (x y : Interval) → start.0 < 2 ^ 32 → x.0 < 2 ^ 32 → y.0 < 2 ^ 32
    → in_range (added start x) start (added start y) ≡ ltb x.0 y.0
in-range-after s x y hs hx hy =
    ap (λ (d : Interval). ltb d.0 (differed s (added s y)).0) (add-difference s x hs hx)
    ∙ ap (λ (d : Interval). ltb x.0 d.0) (add-difference s y hs hy)

-- no time is in the range from a time to itself
pub in-range-empty : (t start : SystemTime) → start.0 < 2 ^ 32 → in_range t start start ≡ false
in-range-empty t s h = le-ltb (differed s t).0 (differed s s).0 (omega arith)

-- "After a tick, system time goes from 4294967295 to 0"
pub advance-wraps : (t : SystemTime) → t.0 ≡ 4294967295 → (advanced t).0 ≡ 0
advance-wraps t e = rw e

-- and from any other to the next
pub advance-next : (t : SystemTime) → t.0 < 4294967295 → (advanced t).0 ≡ t.0 + 1
advance-next t h = omega arith
