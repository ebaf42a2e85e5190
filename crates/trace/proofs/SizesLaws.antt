-- Sizes within their limits: each part of the test gives a limit, so each size is a small byte.
use Prim.Native.Nat.{ℕ, zero, suc, ◌≤◌, ◌<◌}
use native.Mathlib.Omega.{arith}
use mathlib.Core.Path.{◌≡◌}
use mathlib.Core.Bool.{Bool, true, false, ◌||◌, true≢false}
use lib.Dec.{leb}
use borrow.Author.Tests.{leb-true, lt-leb}
use Rattle.kernel.proofs.Cases.{both-means}
use Rattle.library.specs.declared.sizes.Sizes.{Sizes}
use Rattle.library.specs.Sizes.{slots_at, slots_fit, sizes_fit}

either-right : (a b : Bool) → a ≡ false → (a || b) ≡ true → b ≡ true
either-right true b f e = absurd (true≢false f)
either-right false b f e = e

pub record Limits (z : Sizes) : Type 0 where
  pub threads : z.threads ≤ 16
  pub semaphores : z.semaphores ≤ 16
  pub queues : z.queues ≤ 8
  pub references : z.references ≤ 8
  pub mailboxes : z.mailboxes ≤ 4
  pub pools : z.pools ≤ 4
  pub slots : (i : ℕ) → i < z.mailboxes → slots_at z i ≤ 16

small : (z : Sizes) (i : ℕ) → slots_fit z i ≡ true → i < z.mailboxes → slots_at z i ≤ 16
small z i e h =
    leb-true (slots_at z i) 16
    (both-means (leb 1 (slots_at z i)) (leb (slots_at z i) 16) (either-right (leb z.mailboxes i) _ (lt-leb z.mailboxes i h) e)).1

-- the first four of any table of mailboxes
four : (P : ℕ → Type 0) (m : ℕ) → m ≤ 4 → P 0 → P 1 → P 2 → P 3 → (i : ℕ) → i < m → P i
four P m h a b c d zero l = a
four P m h a b c d (suc zero) l = b
four P m h a b c d (suc (suc zero)) l = c
four P m h a b c d (suc (suc (suc zero))) l = d
four P m h a b c d (suc (suc (suc (suc i)))) l = absurd (omega arith)

pub limits : (z : Sizes) → sizes_fit z ≡ true → Limits z
unfolding sizes_fit
limits z e₀ =
    let e₁ = (both-means (leb 1 z.threads) _ e₀).1 in
    let e₂ = (both-means (leb z.threads 16) _ e₁).1 in
    let e₃ = (both-means (leb z.semaphores 16) _ e₂).1 in
    let e₄ = (both-means (leb z.queues 8) _ e₃).1 in
    let e₅ = (both-means (leb z.references 8) _ e₄).1 in
    let e₆ = (both-means (leb z.mailboxes 4) _ e₅).1 in
    let e₇ = (both-means (leb z.pools 4) _ e₆).1 in
    let e₈ = (both-means (slots_fit z 0) _ e₇).1 in
    let e₉ = (both-means (slots_fit z 1) _ e₈).1 in
    let few = leb-true z.mailboxes 4 (both-means (leb z.mailboxes 4) _ e₅).0 in
    record {
      threads = leb-true z.threads 16 (both-means (leb z.threads 16) _ e₁).0;
      semaphores = leb-true z.semaphores 16 (both-means (leb z.semaphores 16) _ e₂).0;
      queues = leb-true z.queues 8 (both-means (leb z.queues 8) _ e₃).0;
      references = leb-true z.references 8 (both-means (leb z.references 8) _ e₄).0;
      mailboxes = few;
      pools = leb-true z.pools 4 (both-means (leb z.pools 4) _ e₆).0;
      slots = λ i l.
          four (λ j. j < z.mailboxes → slots_at z j ≤ 16) z.mailboxes few
          (small z 0 (both-means (slots_fit z 0) _ e₇).0)
          (small z 1 (both-means (slots_fit z 1) _ e₈).0)
          (small z 2 (both-means (slots_fit z 2) (slots_fit z 3) e₉).0)
          (small z 3 (both-means (slots_fit z 2) (slots_fit z 3) e₉).1)
          i l l;
    }
