-- Walks in the form in which loops meet them: i is the next index, n the end.
use Rattle.std.proofs.Common.{◌≡◌, ℕ, suc, ◌+◌, ◌-◌, ◌<◌, ◌≤◌, Bool, true, false, ltb, refl, add-one, arith, ltb-true}
use Rattle.kernel.specs.Numbers.{nobody}
use Rattle.kernel.specs.Walk.{first_from, all_from, bit, count_of}
use Rattle.kernel.specs.Tables.{used_rows}

module _ (f : ℕ → Bool) (i n : ℕ) where
  -- a search that has come to i: i passes, i fails, or none is left
  pub first-here : i < n → f i ≡ true → first_from f i (n - i) ≡ i
  unfolding first_from
  first-here h t = let more : n - i ≡ suc (n - suc i) = omega arith in rw (more, t)

  pub first_next : i < n → f i ≡ false → first_from f i (n - i) ≡ first_from f (i + 1) (n - (i + 1))
  unfolding first_from
  first_next h t = let more : n - i ≡ suc (n - suc i) = omega arith in rw (add-one, more, t)

  pub first-none : n ≤ i → first_from f i (n - i) ≡ nobody
  unfolding first_from
  first-none h = let none : n - i ≡ 0 = omega arith in rw none

module _ (f : ℕ → Bool) (i n : ℕ) where
  -- a test of all that has come to i: i fails, i passes, or none is left
  pub all-fails : i < n → f i ≡ false → all_from f i (n - i) ≡ false
  unfolding all_from
  all-fails h t = let more : n - i ≡ suc (n - suc i) = omega arith in rw (more, t)

  pub all-next : i < n → f i ≡ true → all_from f i (n - i) ≡ all_from f (i + 1) (n - (i + 1))
  unfolding all_from
  all-next h t = let more : n - i ≡ suc (n - suc i) = omega arith in rw (add-one, more, t)

  pub all_done : n ≤ i → all_from f i (n - i) ≡ true
  unfolding all_from
  all_done h = let none : n - i ≡ 0 = omega arith in rw none

-- one index more is counted
pub count-more : (f : ℕ → Bool) (i : ℕ) → count_of f (i + 1) ≡ count_of f i + bit (f i)
unfolding count_of
count-more f i = rw add-one

-- no more rows are in use than there are; e is what a callee gave
pub used_le : (e n : ℕ) → e ≡ used_rows n → e ≤ 16
used_le e n same = rw same (go (ltb n 16) refl)
  where
    go : (b : Bool) → ltb n 16 ≡ b → used_rows n ≤ 16
    go true t = rw t (omega (arith, ltb-true n 16 t))
    go false t = rw t (omega arith)
