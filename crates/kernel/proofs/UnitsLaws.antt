-- "rounded upward": the quotient rounded up covers the dividend, and one less would not.
use Rattle.std.proofs.Common.{ℕ, ◌+◌, ◌*◌, ◌%◌, ◌<◌, ◌≤◌, ltb, mod-lt, div-add-mod', arith, ltb-false, ltb-true, ne_eqb}
use Rattle.kernel.specs.Units.{rounded_up}
use Rattle.kernel.proofs.Cases.{split}

module _ (a b : ℕ) (some : 0 < b) where
  -- the quotient rounded up covers the dividend
  pub round-up-covers : a ≤ rounded_up a b * b
  round-up-covers =
      rw (ne_eqb b 0 (λ e. absurd (omega arith)))
      (split (ltb 0 (a % b))
      (λ e. rw e (omega (arith, div-add-mod' a b, mod-lt a some)))
      (λ e. rw e (omega (arith, div-add-mod' a b, ltb-false 0 (a % b) e))))

  -- and no smaller one does
  pub round-up-least : rounded_up a b * b < a + b
  round-up-least =
      rw (ne_eqb b 0 (λ e. absurd (omega arith)))
      (split (ltb 0 (a % b))
      (λ e. rw e (omega (arith, div-add-mod' a b, ltb-true 0 (a % b) e)))
      (λ e. rw e (omega (arith, div-add-mod' a b))))
