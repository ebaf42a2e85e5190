-- A counter below 0 owes a waking to as many as are queued: one more takes one off that debt, one less puts one on. By the signs.
use Rattle.std.proofs.Common.{◌≡◌, ℕ, zero, suc, ◌+◌, ◌-◌, ◌<◌, ◌≤◌, true, false, eqb, ltb, length, ℤ, pos, negsuc, ◌+ℤ◌, ◌-ℤ◌, sym, refl, ap, ◌∙◌, arith, ltb-false, ltb-true, le-ltb, lt-ltb, eq-eqb, ne_eqb}
use lib.Seq.{set_out}
use lib.IntN.{+ℤ_one, -ℤ_one}
use lib.Signed.{lt_z}
use Rattle.kernel.specs.declared.records.Kernel.{Kernel}
use Rattle.kernel.specs.Numbers.{top}
use Rattle.kernel.specs.Walk.{bit}
use Rattle.kernel.specs.Counters.{up, down}
use Rattle.kernel.specs.Tables.{counter_at, with_counter}
use Rattle.kernel.proofs.Cases.{split, same_or, in-or-out, contrary}
use Rattle.kernel.proofs.TablesLaws.{counter-same, counter-other, counter-zero}

-- how many are queued at a place whose counter is c: n for -n, none for a counter that is not negative
abbrev pub debt : ℤ → ℕ
debt (pos m) = 0
debt (negsuc m) = suc m

-- a counter that is not below 0 owes nothing
pub debt-none : (c : ℤ) → lt_z c (pos 0) ≡ false → debt c ≡ 0
debt-none (pos n) e = refl
debt-none (negsuc n) e = contrary refl e

-- a counter below 0 owes at least one
pub debt-some : (c : ℤ) → lt_z c (pos 0) ≡ true → 1 ≤ debt c
debt-some (pos n) e = contrary e (le-ltb n 0 (omega arith))
debt-some (negsuc n) e = omega arith

-- a counter that owes is below 0
pub debt-below : (c : ℤ) → 1 ≤ debt c → lt_z c (pos 0) ≡ true
debt-below (pos n) h = absurd (omega arith)
debt-below (negsuc n) h = refl

-- one that neither owes nor is above 0 is 0
pub debt-exact : (c : ℤ) → lt_z (pos 0) c ≡ false → debt c ≡ 0 → c ≡ pos 0
debt-exact (pos n) e h = ap pos (omega (arith, ltb-false 0 n e))
debt-exact (negsuc n) e h = absurd (omega arith)

-- no counter is both above and below 0
pub above-not-below : (c : ℤ) → lt_z (pos 0) c ≡ true → lt_z c (pos 0) ≡ false
above-not-below (pos n) e = le-ltb n 0 (omega arith)
above-not-below (negsuc n) e = contrary e refl

-- what is below a number is below a larger one
pub below_more : (c : ℤ) (m n : ℕ) → m ≤ n → lt_z c (pos m) ≡ true → lt_z c (pos n) ≡ true
below_more (pos a) m n l e = lt-ltb a n (omega (arith, ltb-true a m e))
below_more (negsuc a) m n l e = refl

-- below 0, or below 1, is below the top
pub below_top : (c : ℤ) (m : ℕ) → m ≤ 1 → lt_z c (pos m) ≡ true → lt_z c top ≡ true
below_top c m l = below_more c m 2147483647 (omega arith)

-- the top is not below 0
pub top-not-below : (c : ℤ) → lt_z c top ≡ false → lt_z c (pos 0) ≡ false
top-not-below c e = split (lt_z c (pos 0)) (λ b. contrary (below_top c 0 (omega arith) b) e) (λ b. b)

-- "counter +1", below the top
pub up-exact : (c : ℤ) → lt_z c (pos 2147483647) ≡ true → up c ≡ c +ℤ pos 1
up-exact c e = rw e

-- "counter less 1", above the bottom
pub down-exact : (c : ℤ) → lt_z (negsuc 2147483647) c ≡ true → down c ≡ c -ℤ pos 1
down-exact c e = rw e

-- one more owes one less, if it owed any
pub up-debt : (c : ℤ) → debt (up c) ≡ debt c - 1
up-debt (pos n) = split (ltb n 2147483647) (λ e. rw e) (λ e. rw e)
up-debt (negsuc zero) = refl
up-debt (negsuc (suc n)) = rw +ℤ_one (omega arith)

-- one more than a counter below 0 is not above it
pub up-not-above : (c : ℤ) → lt_z c (pos 0) ≡ true → lt_z (pos 0) (up c) ≡ false
up-not-above (pos n) e = contrary e (le-ltb n 0 (omega arith))
up-not-above (negsuc zero) e = refl
up-not-above (negsuc (suc n)) e = rw +ℤ_one

-- one less than a counter that is not above 0 is not above it either
pub down-not-above : (c : ℤ) → lt_z (pos 0) c ≡ false → lt_z (pos 0) (down c) ≡ false
down-not-above (pos zero) e = refl
down-not-above (pos (suc n)) e = absurd (omega (arith, ltb-false 0 (suc n) e))
down-not-above (negsuc n) e = split (ltb n 2147483647) (λ b. rw b) (λ b. rw b)

-- one less than a counter that is not above 0 owes one more
pub down-debt : (c : ℤ) → lt_z (pos 0) c ≡ false → debt c < 2147483648 → debt (down c) ≡ debt c + 1
down-debt (pos zero) e h = refl
down-debt (pos (suc n)) e h = absurd (omega (arith, ltb-false 0 (suc n) e))
down-debt (negsuc n) e h = rw (lt-ltb n 2147483647 (omega arith)) (omega arith)

-- one less than a counter above 0 owes nothing
pub down-above : (c : ℤ) → lt_z (pos 0) c ≡ true → debt (down c) ≡ 0
down-above (pos zero) e = contrary e refl
down-above (pos (suc n)) e = rw -ℤ_one
down-above (negsuc n) e = contrary e refl

module _ (k : Kernel) (p q : ℕ) where
  -- one more at p: one less owed there, no change elsewhere, in range or not
  pub raised-debt : debt (counter_at (with_counter k p (up (counter_at k p))) q) ≡ debt (counter_at k q) - bit (eqb p q)
  raised-debt =
      same_or q p
      (λ e. rw (e, eq-eqb p p refl)
      (in-or-out p (length k.counters)
      (λ h. rw (counter-same k p (up (counter_at k p)) h) (up-debt (counter_at k p)))
      (λ h. rw (set_out k.counters p (up (counter_at k p)) h, counter-zero k p h))))
      (λ n. rw (ne_eqb p q (λ e. n (sym e)), counter-other k p (up (counter_at k p)) q n) (omega arith))

  -- one less at p, where the counter is not above 0: one more owed there, no change elsewhere
  pub lowered-debt : p < length k.counters → lt_z (pos 0) (counter_at k p) ≡ false → debt (counter_at k p) < 2147483648
      → debt (counter_at (with_counter k p (down (counter_at k p))) q) ≡ debt (counter_at k q) + bit (eqb p q)
  lowered-debt h z l =
      same_or q p
      (λ e. rw (e, eq-eqb p p refl, counter-same k p (down (counter_at k p)) h) (down-debt (counter_at k p) z l))
      (λ n. rw (ne_eqb p q (λ e. n (sym e)), counter-other k p (down (counter_at k p)) q n) (omega arith))

  -- one more where nothing is owed changes no debt
  pub raised-none : lt_z (counter_at k p) (pos 0) ≡ false
      → debt (counter_at (with_counter k p (up (counter_at k p))) q) ≡ debt (counter_at k q)
  raised-none z =
      raised-debt
      ∙ same_or q p (λ e. rw (e, debt-none (counter_at k p) z) (omega arith)) (λ n. rw (ne_eqb p q (λ e. n (sym e))) (omega arith))

  -- one less where the counter is above 0 changes no debt
  pub lowered_none : lt_z (pos 0) (counter_at k p) ≡ true
      → debt (counter_at (with_counter k p (down (counter_at k p))) q) ≡ debt (counter_at k q)
  lowered_none z =
      same_or q p
      (λ e. rw (e, debt-none (counter_at k p) (above-not-below (counter_at k p) z))
      (in-or-out p (length k.counters)
      (λ h. rw (counter-same k p (down (counter_at k p)) h) (down-above (counter_at k p) z))
      (λ h. contrary z (rw (counter-zero k p h)))))
      (λ n. rw (counter-other k p (down (counter_at k p)) q n))
