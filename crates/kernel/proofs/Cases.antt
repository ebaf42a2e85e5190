-- Proofs by cases on a test, on two numbers, on a choice: each case is handed the fact that it stands for.
use Rattle.std.proofs.Common.{◌≡◌, ℕ, suc, ◌<◌, ◌≤◌, Bool, true, false, cond, ◌&&◌, ◌≢◌, sym, refl, ◌∙◌, true≢false, arith}
use native.Mathlib.Decide.{ℕ_discrete, dec_lt}

-- by the two values of a test
pub split : {C : Type 0} (b : Bool) → (b ≡ true → C) → (b ≡ false → C) → C
split true f g = f refl
split false f g = g refl

-- by whether two numbers are equal
pub same_or : {C : Type 0} (i j : ℕ) → (i ≡ j → C) → (i ≢ j → C) → C
same_or {C} i j f g = elim (ℕ_discrete i j) [ yes e ↦ f e | no n ↦ g n ]

-- by whether a number is k or beyond
pub next : {C : Type 0} (n k : ℕ) → k ≤ n → (n ≡ k → C) → (suc k ≤ n → C) → C
next n k h f g = same_or n k f (λ d. g (omega arith))

-- by whether an index is within a table
pub in-or-out : {C : Type 0} (i n : ℕ) → (i < n → C) → (n ≤ i → C) → C
in-or-out {C} i n f g = elim (dec_lt i n) [ yes e ↦ f e | no h ↦ g (omega arith) ]

-- a fact of a choice, from the fact of each side under its test
pub chosen : {A : Type 0} (P : A → Type 0) {x y : A} (b : Bool) → (b ≡ true → P x) → (b ≡ false → P y) → P (cond b x y)
chosen P true f g = f refl
chosen P false f g = g refl

-- no test has both values
pub contrary : {C : Type 0} {b : Bool} → b ≡ true → b ≡ false → C
contrary t f = absurd (true≢false (sym t ∙ f))

-- two tests pass together if each does
pub both_true : {a b : Bool} → a ≡ true → b ≡ true → a && b ≡ true
both_true s t = rw (s, t)

-- two tests that pass together pass each
pub both-means : (a b : Bool) → a && b ≡ true → (a ≡ true) × (b ≡ true)
both-means true b e = (refl, e)
both-means false b e = contrary e refl

-- two tests fail together if the first does
pub first-fails : {a : Bool} (b : Bool) → a ≡ false → a && b ≡ false
first-fails b e = rw e

-- or if the second does
pub second-fails : (a : Bool) {b : Bool} → b ≡ false → a && b ≡ false
second-fails true e = e
second-fails false e = refl

-- two tests with the same consequences are the same
pub same_tests : (a b : Bool) → (a ≡ true → b ≡ true) → (b ≡ true → a ≡ true) → a ≡ b
same_tests true b f g = sym (f refl)
same_tests false true f g = g refl
same_tests false false f g = refl
