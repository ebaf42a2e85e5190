-- Tests and what they mean, both ways: of two tests, of signed numbers.
use Rattle.std.specs.Prelude.{ℕ, ◌≤◌, ◌≡◌, refl, ◌⊎◌, Bool, true, false, not, ◌&&◌, ◌||◌, ltb, ℤ, pos, negsuc, ◌+ℤ◌, ◌-ℤ◌}
use Rattle.std.proofs.Common.{arith, sym, ap, inl, inr, ltb-false, lt-ltb, le-ltb}
use Rattle.std.proofs.Math.IntN.{+ℤ-neg_ℤ_cancel, -ℤ-+ℤ_cancel}
use Rattle.std.proofs.lemmas.Bool.{not-true}
use Rattle.kernel.proofs.Cases.{in-or-out, contrary, both-means}
use Rattle.library.specs.Signs.{same}
use Rattle.rules.specs.Limits.{used_of}

-- of two tests one passes
pub either-means : (a b : Bool) → a || b ≡ true → (a ≡ true) ⊎ (b ≡ true)
either-means true b e = inl refl
either-means false b e = inr e

-- neither does
pub neither-means : (a b : Bool) → a || b ≡ false → (a ≡ false) × (b ≡ false)
neither-means true b e = contrary refl e
neither-means false b e = (refl, e)

pub either_first : {a : Bool} (b : Bool) → a ≡ true → a || b ≡ true
either_first b e = rw e

pub either_second : (a : Bool) {b : Bool} → b ≡ true → a || b ≡ true
either_second true e = refl
either_second false e = e

pub not-of : {a : Bool} → a ≡ false → not a ≡ true
not-of e = rw e

-- all n rows are in use where there are as many
pub used_all : (rows n : ℕ) → n ≤ rows → used_of rows n ≡ n
used_all rows n h = in-or-out n rows (λ l. rw (lt-ltb n rows l)) (λ l. rw (le-ltb n rows l) (omega arith))

-- neither of two numbers is below the other: they are equal
level : (m n : ℕ) → not (ltb m n) && not (ltb n m) ≡ true → m ≡ n
level m n e =
    let x = both-means (not (ltb m n)) (not (ltb n m)) e in
    omega (arith, ltb-false m n (not-true (ltb m n) x.0), ltb-false n m (not-true (ltb n m) x.1))

level-of : (n : ℕ) → not (ltb n n) && not (ltb n n) ≡ true
level-of n = rw (le-ltb n n (omega arith))

pub same-means : (a b : ℤ) → same a b ≡ true → a ≡ b
same-means (pos m) (pos n) e = ap pos (level m n e)
same-means (pos m) (negsuc n) e = contrary e refl
same-means (negsuc m) (pos n) e = contrary e refl
same-means (negsuc m) (negsuc n) e = ap negsuc (sym (level n m e))

same_self : (a : ℤ) → same a a ≡ true
same_self (pos m) = level-of m
same_self (negsuc m) = level-of m

pub same_of : (a b : ℤ) → a ≡ b → same a b ≡ true
same_of a b e = rw e (same_self b)

-- a difference and its sum
pub sum_of : (a : ℤ) (l q : ℕ) → a ≡ pos l -ℤ pos q → pos l ≡ a +ℤ pos q
sum_of a l q e = rw e (sym (-ℤ-+ℤ_cancel (pos l) (pos q)))

pub difference-of : (a : ℤ) (l q : ℕ) → pos l ≡ a +ℤ pos q → a ≡ pos l -ℤ pos q
difference-of a l q e = rw e (sym (+ℤ-neg_ℤ_cancel a (pos q)))
