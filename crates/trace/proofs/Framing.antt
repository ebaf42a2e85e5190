-- What the reader's refusals tell of a trace: a length that was not refused lies within the trace, with its body.
use Prim.Native.Nat.{ℕ, ◌+◌, ◌≤◌}
use native.Mathlib.Omega.{arith}
use mathlib.Core.Path.{◌≡◌}
use mathlib.Core.Bool.{true, false, true≢false}
use mathlib.Core.List.{List}
use lib.Dec.{eqb, ltb}
use lib.ListN.{length, get_or}
use borrow.Author.Tests.{le-ltb, eq-eqb, ltb-false, eqb-true, eqb-false}
use Rattle.trace.specs.Ordered.{get_n}
use Rattle.trace.specs.TraceBytes.{longest}
use Rattle.library.specs.Sizes.{sizes_fit}
use Rattle.trace.specs.Decoding.{ends_inside, length_refusal, head_sizes, head_refusal, step_refusal}
use Rattle.kernel.proofs.Cases.{split}

-- record 0 was not refused with 15, 11, 12 or 13
pub record Opens (s : List ℕ) : Type 0 where
  pub short : length s ≤ longest
  pub version : get_or s 0 0 ≡ 1
  pub sized : get_n 2 s 1 ≡ 6 + get_or s 7 0
  pub within : 3 + get_n 2 s 1 ≤ length s

-- nor with 14
pub record Head (s : List ℕ) : Type 0 where
  pub opens : Opens s
  pub fit : sizes_fit (head_sizes s) ≡ true

-- a later record was not refused with 12 or 13
pub record Stands (s : List ℕ) (at : ℕ) : Type 0 where
  pub sized : get_n 2 s at ≡ 11
  pub within : at + 13 ≤ length s

module _ (s : List ℕ) (at : ℕ) where
  pub whole : ends_inside s at ≡ false → at + 2 + get_n 2 s at ≤ length s
  unfolding ends_inside
  whole e =
      split (ltb (length s) (at + 2))
      (λ t. absurd (true≢false (rw t at e)))
      (λ f. ltb-false (length s) (at + 2 + get_n 2 s at) (rw f at e))

  pub inside : at + 2 + get_n 2 s at ≤ length s → ends_inside s at ≡ false
  unfolding ends_inside
  inside h = rw (le-ltb (length s) (at + 2) (omega arith), le-ltb (length s) (at + 2 + get_n 2 s at) h)

  pub stands : step_refusal s at ≡ 0 → Stands s at
  unfolding step_refusal
  stands e =
      split (ends_inside s at)
      (λ t. let z : ◌≡◌ {A = ℕ} 12 0 = rw t at e in absurd (omega arith))
      (λ f. split (eqb (get_n 2 s at) 11)
      (λ t. let n : get_n 2 s at ≡ 11 = eqb-true (get_n 2 s at) 11 t in record { sized = n; within = omega (arith, whole f) })
      (λ g. let z : ◌≡◌ {A = ℕ} 13 0 = rw (f, g) at e in absurd (omega arith)))

  pub accepted : Stands s at → step_refusal s at ≡ 0
  unfolding step_refusal
  accepted h = rw (inside (omega (arith, h.sized, h.within)), eq-eqb (get_n 2 s at) 11 h.sized)

module _ (s : List ℕ) where
  pub opens : length_refusal s ≡ 0 → Opens s
  unfolding length_refusal
  opens e =
      split (ltb longest (length s))
      (λ t. let z : ◌≡◌ {A = ℕ} 15 0 = rw t at e in absurd (omega arith))
      (λ a. split (eqb (get_or s 0 0) 1)
      (λ b. split (ends_inside s 1)
      (λ t. let z : ◌≡◌ {A = ℕ} 12 0 = rw (a, b, t) at e in absurd (omega arith))
      (λ c. split (eqb (get_n 2 s 1) (6 + get_or s 7 0))
      (λ d. record {
        short = ltb-false longest (length s) a;
        version = eqb-true (get_or s 0 0) 1 b;
        sized = eqb-true (get_n 2 s 1) (6 + get_or s 7 0) d;
        within = whole s 1 c;
      })
      (λ f. let z : ◌≡◌ {A = ℕ} 13 0 = rw (a, b, c, f) at e in absurd (omega arith))))
      (λ f. let z : ◌≡◌ {A = ℕ} 11 0 = rw (a, f) at e in absurd (omega arith)))

  pub opened : Opens s → length_refusal s ≡ 0
  unfolding length_refusal
  opened h =
      rw (le-ltb longest (length s) h.short, eq-eqb (get_or s 0 0) 1 h.version, inside s 1 h.within, eq-eqb (get_n 2 s 1) (6 + get_or s 7 0) h.sized)

  pub head : head_refusal s ≡ 0 → Head s
  head e =
      split (eqb (length_refusal s) 0)
      (λ t. split (sizes_fit (head_sizes s))
      (λ u. record { opens = opens (eqb-true (length_refusal s) 0 t); fit = u })
      (λ f. let z : ◌≡◌ {A = ℕ} 14 0 = rw (t, f) at e in absurd (omega arith)))
      (λ f. absurd (eqb-false (length_refusal s) 0 f (rw f at e)))
