-- What the writer's refusals tell: where nothing is refused, the bytes lie within the buffer and within 60,000.
use Prim.Native.Nat.{ℕ, ◌+◌, ◌≤◌}
use native.Mathlib.Omega.{arith}
use mathlib.Core.Path.{◌≡◌, sym, ◌∙◌}
use lib.Dec.{ltb}
use borrow.Author.Tests.{le-ltb, ltb-false}
use Rattle.trace.specs.TraceBytes.{longest}
use Rattle.trace.specs.Writer.{room_refusal}
use Rattle.kernel.proofs.Cases.{split}

module _ (len at n : ℕ) where
  pub fits : at + n ≤ longest → at + n ≤ len → 0 ≡ room_refusal len at n
  fits h g = rw (le-ltb longest (at + n) h, le-ltb len (at + n) g)

  -- what is known where nothing is refused
  pub record Room : Type 0 where
    pub short : at + n ≤ longest
    pub within : at + n ≤ len

  pub room : (code : ℕ) → code ≡ room_refusal len at n → code ≡ 0 → Room
  room code e z =
      let r : room_refusal len at n ≡ 0 = sym e ∙ z in
      split (ltb longest (at + n))
      (λ t. let y : ◌≡◌ {A = ℕ} 15 0 = rw t at r in absurd (omega arith))
      (λ f. split (ltb len (at + n))
      (λ t. let y : ◌≡◌ {A = ℕ} 16 0 = rw (f, t) at r in absurd (omega arith))
      (λ g. record { short = ltb-false longest (at + n) f; within = ltb-false len (at + n) g }))
