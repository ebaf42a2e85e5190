-- The tests of sizes, counters and references say exactly that these are good.
use Rattle.std.specs.Prelude.{ℕ, ◌+◌, ◌-◌, ◌%◌, ◌≤◌, ◌<◌, ◌≡◌, refl, ◌≢◌, ◌⊎◌, ◌↔◌, ◌&&◌, eqb, leb, ltb, ℤ, pos}
use native.Mathlib.Omega.{arith}
use Rattle.std.proofs.Common.{sym, ap, ◌∙◌}
use Rattle.std.proofs.Math.Logic.{inl, inr}
use Rattle.std.proofs.Math.Bool.{true}
use Rattle.std.specs.Int.Signed.{lt_z}
use borrow.Author.Tests.{eqb-true, eqb-false, eq-eqb, ne_eqb, ltb-true, lt-ltb, le-ltb, leb-true, le-leb, not-true}
use Rattle.kernel.specs.declared.records.Thread.{Thread}
use Rattle.kernel.specs.declared.records.Kernel.{Kernel}
use Rattle.kernel.specs.Numbers.{nobody, suspended}
use Rattle.kernel.specs.Places.{pool_place, queue_place, writers_place, readers_place}
use Rattle.kernel.specs.Walk.{all_from}
use Rattle.kernel.specs.Tables.{used_rows, thread_at, counter_at, holder_at}
use Rattle.kernel.proofs.Cases.{split, same_or, in-or-out, chosen, contrary, both_true, both-means}
use Rattle.kernel.proofs.WalkLaws.{all-at, all_of}
use Rattle.library.specs.declared.sizes.Sizes.{Sizes}
use Rattle.library.specs.Sizes.{slots_at, slots_fit, sizes_fit}
use Rattle.library.specs.Signs.{same, minus}
use Rattle.rules.specs.PlaceRules.{in_use, counter_fits, place_agrees, queued_count, counters_fit}
use Rattle.rules.specs.ReferenceRules.{suspended_at, holds_rightly, is_holder, thread_agrees, holder_fits, references_fit}
use Rattle.promises.specs.Together.Tests.{either-means, either_first, either_second, not-of, used_all, same-means, same_of}
use Rattle.promises.specs.Together.Good.{GoodSizes, SemaphoreCounter, QueueCounter, GoodCounters, SuspendedOn, GoodReferences}

-- ---- sizes

module _ (z : Sizes) where
  slots-of : (m : ℕ) → slots_fit z m ≡ true → m < z.mailboxes → (1 ≤ slots_at z m) × (slots_at z m ≤ 16)
  slots-of m e h =
      elim (either-means (leb z.mailboxes m) (leb 1 (slots_at z m) && leb (slots_at z m) 16) e) [
        | inl a ↦ absurd (omega (arith, leb-true z.mailboxes m a))
        | inr b ↦ (
          leb-true 1 (slots_at z m) (both-means (leb 1 (slots_at z m)) (leb (slots_at z m) 16) b).0,
          leb-true (slots_at z m) 16 (both-means (leb 1 (slots_at z m)) (leb (slots_at z m) 16) b).1,
        )
      ]

  of_slots : GoodSizes z → (m : ℕ) → slots_fit z m ≡ true
  of_slots g m =
      in-or-out m z.mailboxes
      (λ h.
      either_second (leb z.mailboxes m)
      (both_true (le-leb 1 (slots_at z m) (g.slots m h).0) (le-leb (slots_at z m) 16 (g.slots m h).1)))
      (λ h. either_first (leb 1 (slots_at z m) && leb (slots_at z m) 16) (le-leb z.mailboxes m h))

  four : slots_fit z 0 && (slots_fit z 1 && (slots_fit z 2 && slots_fit z 3)) ≡ true → (m : ℕ) → m < 4 → slots_fit z m ≡ true
  four e m h =
      let a = both-means (slots_fit z 0) (slots_fit z 1 && (slots_fit z 2 && slots_fit z 3)) e in
      let b = both-means (slots_fit z 1) (slots_fit z 2 && slots_fit z 3) a.1 in
      let c = both-means (slots_fit z 2) (slots_fit z 3) b.1 in
      same_or m 0 (λ s. rw s a.0)
      (λ n0. same_or m 1 (λ s. rw s b.0)
      (λ n1. same_or m 2 (λ s. rw s c.0)
      (λ n2. let s : m ≡ 3 = omega arith in rw s c.1)))

  -- sizes that pass are good
  pub sizes-good : sizes_fit z ≡ true → GoodSizes z
  unfolding sizes_fit
  sizes-good e =
      let a = both-means (leb 1 z.threads) _ e in
      let b = both-means (leb z.threads 16) _ a.1 in
      let c = both-means (leb z.semaphores 16) _ b.1 in
      let d = both-means (leb z.queues 8) _ c.1 in
      let f = both-means (leb z.references 8) _ d.1 in
      let g = both-means (leb z.mailboxes 4) _ f.1 in
      let h = both-means (leb z.pools 4) _ g.1 in
      let few = leb-true z.mailboxes 4 g.0 in
      record {
        threads = (leb-true 1 z.threads a.0, leb-true z.threads 16 b.0);
        semaphores = leb-true z.semaphores 16 c.0;
        queues = leb-true z.queues 8 d.0;
        references = leb-true z.references 8 f.0;
        mailboxes = few;
        pools = leb-true z.pools 4 h.0;
        slots = λ m l. slots-of m (four h.1 m (omega arith)) l;
      }

  -- good sizes pass
  pub good-sizes : GoodSizes z → sizes_fit z ≡ true
  unfolding sizes_fit
  good-sizes g =
      both_true (le-leb 1 z.threads g.threads.0)
      (both_true (le-leb z.threads 16 g.threads.1)
      (both_true (le-leb z.semaphores 16 g.semaphores)
      (both_true (le-leb z.queues 8 g.queues)
      (both_true (le-leb z.references 8 g.references)
      (both_true (le-leb z.mailboxes 4 g.mailboxes)
      (both_true (le-leb z.pools 4 g.pools)
      (both_true (of_slots g 0) (both_true (of_slots g 1) (both_true (of_slots g 2) (of_slots g 3))))))))))

-- ---- counters

module _ (p : ℕ) (c : ℤ) (n : ℕ) where
  pub semaphore-of : p < 20 → counter_fits p c n ≡ true → SemaphoreCounter c n
  semaphore-of h e =
      record {
        waiters = λ l. same-means c (minus n) (rw (lt-ltb p 20 h, ne_eqb n 0 (some l)) at e);
        none = λ s. not-true (lt_z c (pos 0)) (rw (lt-ltb p 20 h, eq-eqb n 0 s) at e);
      }
    where
      some : 0 < n → n ≢ 0
      some l = omega arith

  pub queue-of : 20 ≤ p → counter_fits p c n ≡ true → QueueCounter c n
  queue-of h e =
      let s = same-means c (minus n) (rw (le-ltb p 20 h) at e) in
      record { waiters = λ l. s; none = λ q. s ∙ ap minus q }

  pub of-semaphore : p < 20 → SemaphoreCounter c n → counter_fits p c n ≡ true
  of-semaphore h g =
      same_or n 0
      (λ s. rw (lt-ltb p 20 h, eq-eqb n 0 s) (not-of (g.none s)))
      (λ s. rw (lt-ltb p 20 h, ne_eqb n 0 s) (same_of c (minus n) (g.waiters (some s))))
    where
      some : n ≢ 0 → 0 < n
      some s = omega arith

  pub of-queue : 20 ≤ p → QueueCounter c n → counter_fits p c n ≡ true
  of-queue h g =
      rw (le-ltb p 20 h)
      (same_or n 0 (λ s. same_of c (minus n) (g.none s ∙ sym (ap minus s))) (λ s. same_of c (minus n) (g.waiters (some s))))
    where
      some : n ≢ 0 → 0 < n
      some s = omega arith

-- the places of each kind of object
module _ (z : Sizes) (p : ℕ) where
  pub semaphore-used : p < 16 → in_use z p ≡ ltb p z.semaphores
  semaphore-used h = rw (lt-ltb p 16 h)

  pub pool-used : 16 ≤ p → p < 20 → in_use z p ≡ ltb (p - 16) z.pools
  pool-used l h = rw (le-ltb p 16 l, lt-ltb p 20 h)

  pub queue-used : 20 ≤ p → p < 28 → in_use z p ≡ ltb (p - 20) z.queues
  queue-used l h = rw (le-ltb p 16 (omega arith), le-ltb p 20 l, lt-ltb p 28 h)

  pub writers-used : 28 ≤ p → p < 32 → in_use z p ≡ ltb (p - 28) z.mailboxes
  writers-used l h = rw (le-ltb p 16 (omega arith), le-ltb p 20 (omega arith), le-ltb p 28 l, lt-ltb p 32 h)

  pub readers-used : 32 ≤ p → in_use z p ≡ ltb (p - 32) z.mailboxes
  readers-used l = rw (le-ltb p 16 (omega arith), le-ltb p 20 (omega arith), le-ltb p 28 (omega arith), le-ltb p 32 l)

module _ (k : Kernel) (z : Sizes) where
  -- the counter of a place in use fits
  agrees : counters_fit k z ≡ true → (p : ℕ) → p < 36 → in_use z p ≡ true
      → counter_fits p (counter_at k p) (queued_count k z.threads p) ≡ true
  unfolding counters_fit
  agrees e p h u = rw u at (all-at (place_agrees k z) 36 p e h)

  -- counters that pass are good
  pub counters-good : GoodSizes z → counters_fit k z ≡ true → GoodCounters k z
  counters-good s e =
      record {
        semaphores = λ i h. semaphore-at i (omega (arith, s.semaphores)) h;
        pools = λ i h. pool-at i (omega (arith, s.pools)) h (pool_place i) refl;
        queues = λ i h. queue-at i (omega (arith, s.queues)) h (queue_place i) refl;
        writers = λ i h. writers-at i (omega (arith, s.mailboxes)) h (writers_place i) refl;
        readers = λ i h. readers-at i (omega (arith, s.mailboxes)) h (readers_place i) refl;
      }
    where
      semaphore-at : (i : ℕ) → i < 16 → i < z.semaphores → SemaphoreCounter (counter_at k i) (queued_count k z.threads i)
      semaphore-at i l h =
          semaphore-of i (counter_at k i) (queued_count k z.threads i) (omega arith)
          (agrees e i (omega arith) (semaphore-used z i l ∙ lt-ltb i z.semaphores h))

      pool-at : (i : ℕ) → i < 4 → i < z.pools → (p : ℕ) → p ≡ 16 + i % 256
          → SemaphoreCounter (counter_at k p) (queued_count k z.threads p)
      pool-at i l h p same =
          semaphore-of p (counter_at k p) (queued_count k z.threads p) (omega arith)
          (agrees e p (omega arith) (pool-used z p (omega arith) (omega arith) ∙ lt-ltb (p - 16) z.pools (omega arith)))

      queue-at : (i : ℕ) → i < 8 → i < z.queues → (p : ℕ) → p ≡ 20 + i % 256
          → QueueCounter (counter_at k p) (queued_count k z.threads p)
      queue-at i l h p same =
          queue-of p (counter_at k p) (queued_count k z.threads p) (omega arith)
          (agrees e p (omega arith) (queue-used z p (omega arith) (omega arith) ∙ lt-ltb (p - 20) z.queues (omega arith)))

      writers-at : (i : ℕ) → i < 4 → i < z.mailboxes → (p : ℕ) → p ≡ 28 + i % 256
          → QueueCounter (counter_at k p) (queued_count k z.threads p)
      writers-at i l h p same =
          queue-of p (counter_at k p) (queued_count k z.threads p) (omega arith)
          (agrees e p (omega arith) (writers-used z p (omega arith) (omega arith) ∙ lt-ltb (p - 28) z.mailboxes (omega arith)))

      readers-at : (i : ℕ) → i < 4 → i < z.mailboxes → (p : ℕ) → p ≡ 32 + i % 256
          → QueueCounter (counter_at k p) (queued_count k z.threads p)
      readers-at i l h p same =
          queue-of p (counter_at k p) (queued_count k z.threads p) (omega arith)
          (agrees e p (omega arith) (readers-used z p (omega arith) ∙ lt-ltb (p - 32) z.mailboxes (omega arith)))

  -- good counters pass
  pub good-counters : GoodCounters k z → counters_fit k z ≡ true
  unfolding counters_fit
  good-counters g =
      all_of (place_agrees k z) 36 (λ p h.
      chosen (λ v. v ≡ true) (in_use z p) (used p h) (λ e. refl))
    where
      used : (p : ℕ) → p < 36 → in_use z p ≡ true → counter_fits p (counter_at k p) (queued_count k z.threads p) ≡ true
      used p h u =
          in-or-out p 16
          (λ l.
          of-semaphore p (counter_at k p) (queued_count k z.threads p) (omega arith)
          (g.semaphores p (ltb-true p z.semaphores (sym (semaphore-used z p l) ∙ u))))
          (λ a. in-or-out p 20
          (λ l.
          let at : pool_place (p - 16) ≡ p = omega arith in
          of-semaphore p (counter_at k p) (queued_count k z.threads p) l
          (rw at at (g.pools (p - 16) (ltb-true (p - 16) z.pools (sym (pool-used z p a l) ∙ u)))))
          (λ b. in-or-out p 28
          (λ l.
          let at : queue_place (p - 20) ≡ p = omega arith in
          of-queue p (counter_at k p) (queued_count k z.threads p) b
          (rw at at (g.queues (p - 20) (ltb-true (p - 20) z.queues (sym (queue-used z p b l) ∙ u)))))
          (λ c. in-or-out p 32
          (λ l.
          let at : writers_place (p - 28) ≡ p = omega arith in
          of-queue p (counter_at k p) (queued_count k z.threads p) b
          (rw at at (g.writers (p - 28) (ltb-true (p - 28) z.mailboxes (sym (writers-used z p c l) ∙ u)))))
          (λ d.
          let at : readers_place (p - 32) ≡ p = omega arith in
          of-queue p (counter_at k p) (queued_count k z.threads p) b
          (rw at at (g.readers (p - 32) (ltb-true (p - 32) z.mailboxes (sym (readers-used z p d) ∙ u))))))))

-- ---- references

-- the test of "i is suspended on r"
pub suspended-of : (r : ℕ) (t : Thread) → suspended_at r t ≡ true → SuspendedOn r t
suspended-of r t e =
    let x = both-means (eqb t.state suspended) (eqb t.place r) e in
    (eqb-true t.state suspended x.0, eqb-true t.place r x.1)

pub of-suspended : (r : ℕ) (t : Thread) → SuspendedOn r t → suspended_at r t ≡ true
of-suspended r t x = both_true (eq-eqb t.state suspended x.0) (eq-eqb t.place r x.1)

holds_of : (holder r i : ℕ) (t : Thread) → holds_rightly holder r i t ≡ true → (holder ≡ i) ↔ SuspendedOn r t
holds_of holder r i t e = (there, back)
  where
    there : holder ≡ i → SuspendedOn r t
    there s = suspended-of r t (rw (eq-eqb holder i s) at e)

    back : SuspendedOn r t → holder ≡ i
    back s =
        same_or holder i (λ q. q)
        (λ n. contrary (of-suspended r t s) (not-true (suspended_at r t) (rw (ne_eqb holder i n) at e)))

of-holds : (holder r i : ℕ) (t : Thread) → (holder ≡ i) ↔ SuspendedOn r t → holds_rightly holder r i t ≡ true
of-holds holder r i t g =
    chosen (λ v. v ≡ true) (eqb holder i)
    (λ e. of-suspended r t (g.0 (eqb-true holder i e)))
    (λ e.
    split (suspended_at r t)
    (λ s. absurd (eqb-false holder i e (g.1 (suspended-of r t s))))
    not-of)

module _ (k : Kernel) (z : Sizes) (s : GoodSizes z) where
  module _ (r : ℕ) where
    -- one reference: it is empty or holds a thread, and holds just who is suspended on it
    pub holder-of : holder_fits k z.threads r ≡ true
        → ((holder_at k r ≡ nobody) ⊎ (holder_at k r < z.threads))
        × ((i : ℕ) → i < z.threads → (holder_at k r ≡ i) ↔ SuspendedOn r (thread_at k i))
    unfolding holder_fits
    holder-of e =
        let x = both-means (is_holder (holder_at k r) z.threads) (all_from (thread_agrees k (holder_at k r) r) 0 (used_rows z.threads)) e in (
          elim (either-means (eqb (holder_at k r) nobody) (ltb (holder_at k r) z.threads) x.0) [
            | inl a ↦ inl (eqb-true (holder_at k r) nobody a)
            | inr b ↦ inr (ltb-true (holder_at k r) z.threads b)
          ],
          λ i l.
              holds_of (holder_at k r) r i (thread_at k i)
              (all-at (thread_agrees k (holder_at k r) r) z.threads i (rw (used_all 16 z.threads s.threads.1) at x.1) l),
        )

    pub of-holder : (holder_at k r ≡ nobody) ⊎ (holder_at k r < z.threads)
        → ((i : ℕ) → i < z.threads → (holder_at k r ≡ i) ↔ SuspendedOn r (thread_at k i)) → holder_fits k z.threads r ≡ true
    unfolding holder_fits
    of-holder a g =
        both_true (held a)
        (rw (used_all 16 z.threads s.threads.1)
        (all_of (thread_agrees k (holder_at k r) r) z.threads (λ i l. of-holds (holder_at k r) r i (thread_at k i) (g i l))))
      where
        held : (holder_at k r ≡ nobody) ⊎ (holder_at k r < z.threads) → is_holder (holder_at k r) z.threads ≡ true
        held (inl e) = either_first (ltb (holder_at k r) z.threads) (eq-eqb (holder_at k r) nobody e)
        held (inr l) = either_second (eqb (holder_at k r) nobody) (lt-ltb (holder_at k r) z.threads l)

  -- references that pass are good
  pub references-good : references_fit k z ≡ true → GoodReferences k z
  unfolding references_fit
  references-good e = record { holder = λ r h. (holder-of r (fits r h)).0; holds = λ r h. (holder-of r (fits r h)).1 }
    where
      fits : (r : ℕ) → r < z.references → holder_fits k z.threads r ≡ true
      fits r h = all-at (holder_fits k z.threads) z.references r (rw (used_all 8 z.references s.references) at e) h

  -- good references pass
  pub good-references : GoodReferences k z → references_fit k z ≡ true
  unfolding references_fit
  good-references g =
      rw (used_all 8 z.references s.references)
      (all_of (holder_fits k z.threads) z.references (λ r h. of-holder r (g.holder r h) (g.holds r h)))
