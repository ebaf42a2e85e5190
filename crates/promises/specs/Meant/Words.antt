-- The words are what the paper tells of them, and the paper leaves no choice: a word is known by its digits, and every place is in use or is
-- not.
use Rattle.std.specs.Prelude.{ℕ, ◌+◌, ◌-◌, ◌≤◌, ◌<◌, ◌≡◌, refl, Bool, true, false, cond, ◌&&◌, eqb, ltb, get_or}
use Rattle.std.proofs.Common.{arith, sym, ◌∙◌, ltb-true}
use Rattle.kernel.specs.declared.records.Words.{Words}
use Rattle.kernel.specs.declared.records.Kernel.{Kernel}
use Rattle.kernel.specs.Places.{pool_place, queue_place, writers_place, readers_place}
use Rattle.kernel.specs.Tables.{thread_at}
use Rattle.kernel.specs.Walk.{bit}
use Rattle.kernel.specs.Waiters.{is_ready, queued_at}
use Rattle.kernel.proofs.Cases.{split, in-or-out}
use Rattle.kernel.proofs.WordsLaws.{same_digits}
use Rattle.library.specs.declared.sizes.Sizes.{Sizes}
use Rattle.library.specs.declared.tables.Plant.{Plant}
use Rattle.rules.specs.PlaceRules.{in_use}
use Rattle.promises.specs.Paper.World.{World, MaskOf}
use Rattle.promises.specs.Paper.Together.{is_queued, InUse, WordsAgree}
use Rattle.promises.specs.Paper.Step.{WordsLeft}
use Rattle.promises.specs.Together.Good.{GoodSizes}
use Rattle.promises.specs.Together.PlaceTests.{semaphore-used, pool-used, queue-used, writers-used, readers-used}
use Rattle.promises.specs.Kept.CounterRule.{semaphore-place, pool-place, queue-place, writers-place, readers-place}
use Rattle.promises.specs.Kept.WordRule.{Said}
use Rattle.promises.specs.Meant.Moves.{world_of}

-- ---- places

-- p is one of the n places from b on, or it is not
ranged : {C : Type 0} (b n p : ℕ) → ((q : ℕ) → q < n → p ≡ b + q → C) → (((q : ℕ) → q < n → p ≡ b + q → ⊥) → C) → C
ranged b n p f g =
    in-or-out p b (λ l. g (λ q h e. omega arith))
    (λ a. in-or-out p (b + n) (λ l. f (p - b) (omega arith) (omega arith)) (λ o. g (λ q h e. omega arith)))

-- a place is in use, or it is not
in-use-or : {C : Type 0} (z : Sizes) (p : ℕ) → (InUse z p → C) → ((InUse z p → ⊥) → C) → C
in-use-or {C} z p f g =
    in-or-out p z.semaphores (λ l. f (InUse.semaphore l))
    (λ a. ranged 16 z.pools p (λ q h e. f (InUse.pool q h e))
    (λ b. ranged 20 z.queues p (λ q h e. f (InUse.queue q h e))
    (λ c. ranged 28 z.mailboxes p (λ q h e. f (InUse.writers q h e))
    (λ d. ranged 32 z.mailboxes p (λ q h e. f (InUse.readers q h e)) (λ o. g (none a b c d o))))))
  where
    none : z.semaphores ≤ p → ((q : ℕ) → q < z.pools → p ≡ 16 + q → ⊥) → ((q : ℕ) → q < z.queues → p ≡ 20 + q → ⊥)
        → ((q : ℕ) → q < z.mailboxes → p ≡ 28 + q → ⊥) → ((q : ℕ) → q < z.mailboxes → p ≡ 32 + q → ⊥) → InUse z p → ⊥
    none a b c d o (InUse.semaphore l) = omega arith
    none a b c d o (InUse.pool q h e) = b q h e
    none a b c d o (InUse.queue q h e) = c q h e
    none a b c d o (InUse.writers q h e) = d q h e
    none a b c d o (InUse.readers q h e) = o q h e

module _ (k : Kernel) (z : Sizes) (s : GoodSizes z) (p : ℕ) where
  -- what the paper calls in use passes the test
  pub used-test : InUse z p → (p < 36) × (in_use z p ≡ true)
  used-test (InUse.semaphore l) = let x = semaphore-place k z s p l in (omega (arith, x.0), x.1)
  used-test (InUse.pool q l e) =
      let x = pool-place k z s q l p (e ∙ sym (at q (omega (arith, s.pools)))) in (omega (arith, x.1.0), x.1.1)
    where
      at : (q : ℕ) → q < 256 → pool_place q ≡ 16 + q
      at q h = omega arith
  used-test (InUse.queue q l e) =
      let x = queue-place k z s q l p (e ∙ sym (at q (omega (arith, s.queues)))) in (omega (arith, x.1.0), x.1.1)
    where
      at : (q : ℕ) → q < 256 → queue_place q ≡ 20 + q
      at q h = omega arith
  used-test (InUse.writers q l e) =
      let x = writers-place k z s q l p (e ∙ sym (at q (omega (arith, s.mailboxes)))) in (omega (arith, x.1.0), x.1.1)
    where
      at : (q : ℕ) → q < 256 → writers_place q ≡ 28 + q
      at q h = omega arith
  used-test (InUse.readers q l e) =
      let x = readers-place k z s q l p (e ∙ sym (at q (omega (arith, s.mailboxes)))) in (x.1.0, x.1.1)
    where
      at : (q : ℕ) → q < 256 → readers_place q ≡ 32 + q
      at q h = omega arith

  -- and what passes it is in use
  pub test-used : in_use z p ≡ true → InUse z p
  test-used u =
      in-or-out p 16 (λ l. InUse.semaphore (ltb-true p z.semaphores (sym (semaphore-used z p l) ∙ u)))
      (λ a. in-or-out p 20 (λ l. InUse.pool (p - 16) (ltb-true (p - 16) z.pools (sym (pool-used z p a l) ∙ u)) (omega arith))
      (λ b. in-or-out p 28 (λ l. InUse.queue (p - 20) (ltb-true (p - 20) z.queues (sym (queue-used z p b l) ∙ u)) (omega arith))
      (λ c. in-or-out p 32 (λ l. InUse.writers (p - 28) (ltb-true (p - 28) z.mailboxes (sym (writers-used z p c l) ∙ u)) (omega arith))
      (λ d. InUse.readers (p - 32) (ltb-true (p - 32) z.mailboxes (sym (readers-used z p d) ∙ u)) (omega arith)))))

  pub unused-test : (InUse z p → ⊥) → in_use z p ≡ false
  unused-test n = split (in_use z p) (λ e. absurd (n (test-used e))) (λ e. e)

-- ---- the digits

pub bit-one : (b : Bool) → bit b ≡ cond b 1 0
bit-one true = refl
bit-one false = refl

-- what the words say, in the paper's words, and the other way round
module _ (p : Plant) (s : GoodSizes p.sizes) where
  pub said-agree : Said p.sizes p.kernel → WordsAgree (world_of p) p.kernel.words
  said-agree g =
      record {
        ready = λ i. g.ready i ∙ bit-one (ltb i p.sizes.threads && is_ready (thread_at p.kernel i));
        waiting = λ q u i.
            let x = used-test p.kernel p.sizes s q u in
            g.waiting q x.0 x.1 i ∙ bit-one (ltb i p.sizes.threads && queued_at q (thread_at p.kernel i));
      }

  pub agree-said : WordsAgree (world_of p) p.kernel.words → Said p.sizes p.kernel
  agree-said g =
      record {
        ready = λ i. g.ready i ∙ sym (bit-one (ltb i p.sizes.threads && is_ready (thread_at p.kernel i)));
        waiting = λ q h u i.
            g.waiting q (test-used p.kernel p.sizes s q u) i
            ∙ sym (bit-one (ltb i p.sizes.threads && queued_at q (thread_at p.kernel i)));
      }

-- ---- no choice

pub mask-only : (f : ℕ → Bool) (n m : ℕ) → MaskOf f n → MaskOf f m → n ≡ m
mask-only f n m a b = same_digits n m (λ i. a i ∙ sym (b i))

module _ (w : World) (v a b : Words) (x : WordsLeft w v a) (y : WordsLeft w v b) where
  pub ready-only : a.ready ≡ b.ready
  ready-only = mask-only (λ i. ltb i w.sizes.threads && eqb (w.thread i).state 0) a.ready b.ready x.agree.ready y.agree.ready

  pub waiting-only : (p : ℕ) → get_or a.waiting p 0 ≡ get_or b.waiting p 0
  waiting-only p =
      in-use-or w.sizes p
      (λ u. mask-only (λ i. ltb i w.sizes.threads && is_queued w p i) (get_or a.waiting p 0) (get_or b.waiting p 0) (x.agree.waiting p u) (y.agree.waiting p u))
      (λ n. x.rest p n ∙ sym (y.rest p n))
