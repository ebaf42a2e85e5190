-- A test of each of four in turn, as a chain of `all` tells it: it passes where no number below four fails.
use Rattle.std.proofs.Common.{◌≡◌, ℕ, zero, suc, ◌<◌, Bool, true, false, ◌&&◌, arith}
use Rattle.std.specs.Bool.{MatchBool}
use Rattle.std.specs.List.{AllWithin, HoldsAt, range_with_len}

pub every-four : (f : ℕ → Bool) (r : Bool)
    → MatchBool r (AllWithin (λ i. f i ≡ true) (range_with_len 0 4) 0 4)
    ((k : ℕ) × (k < 4) × HoldsAt (λ i. f i ≡ false) (range_with_len 0 4) k)
    → r ≡ (f 0 && (f 1 && (f 2 && f 3)))
every-four f true h =
    let a : f 0 ≡ true = h 0 0 (omega arith) (omega arith) in
    let b : f 1 ≡ true = h 1 0 (omega arith) (omega arith) in
    let c : f 2 ≡ true = h 2 0 (omega arith) (omega arith) in
    let d : f 3 ≡ true = h 3 0 (omega arith) (omega arith) in
    rw (a, b, c, d)
every-four f false (zero, below, bad) = let a = bad 0 in grind arith
every-four f false (suc zero, below, bad) = let a = bad 0 in grind arith
every-four f false (suc (suc zero), below, bad) = let a = bad 0 in grind arith
every-four f false (suc (suc (suc zero)), below, bad) = let a = bad 0 in grind arith
every-four f false (suc (suc (suc (suc k))), below, bad) = absurd (omega (arith, below))
