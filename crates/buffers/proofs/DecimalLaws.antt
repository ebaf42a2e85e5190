-- The digits of a number: those before its last, and that; as the code meets them.
use Prim.Native.Nat.{ℕ, zero, suc, ◌+◌, ◌/◌, ◌%◌, ◌≤◌, ◌<◌}
use native.Mathlib.Omega.{arith}
use mathlib.Core.Path.{◌≡◌, ap}
use mathlib.Core.List.{List, [], ◌∷◌, ◌++◌}
use lib.Dec.{ltb}
use borrow.Author.Tests.{lt-ltb, le-ltb, ltb-false}
use Rattle.kernel.proofs.Cases.{split}
use Rattle.buffers.specs.Decimal.{digits_n, decimal}

-- more digits than the number has are no more
enough : (f g n : ℕ) → n < f → n < g → digits_n f n ≡ digits_n g n
unfolding digits_n
enough zero g n h k = absurd (omega arith)
enough (suc f) zero n h k = absurd (omega arith)
enough (suc f) (suc g) n h k =
    split (ltb n 10)
    (λ t. rw t)
    (λ e.
    let ten : 10 ≤ n = ltb-false n 10 e in
    rw (e, enough f g (n / 10) (omega arith) (omega arith)))

-- the two cases, as the code meets them
pub one-digit : (n : ℕ) → n < 10 → (48 + n % 10) ∷ [] ≡ decimal n
unfolding decimal digits_n
one-digit n h = let e : n % 10 ≡ n = omega arith in rw (lt-ltb n 10 h, e)

pub more-digits : (n : ℕ) → 10 ≤ n → decimal (n / 10) ++ ((48 + n % 10) ∷ []) ≡ decimal n
unfolding decimal digits_n
more-digits n h =
    rw (le-ltb n 10 h) (ap (λ (l : List ℕ). l ++ ((48 + n % 10) ∷ [])) (enough (suc (n / 10)) n (n / 10) (omega arith) (omega arith)))
