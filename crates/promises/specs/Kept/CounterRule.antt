-- The counter rule in its two forms: the paper's, of -n and of 0, and the one that is counted with, what a counter owes.
use Rattle.std.specs.Prelude.{ℕ, zero, suc, ◌-◌, ◌≤◌, ◌<◌, ◌≡◌, refl, ◌≢◌, true, false, ℤ, pos, negsuc}
use Rattle.std.proofs.Common.{arith, sym, ap, ◌∙◌, ltb-true, lt-ltb, le-ltb}
use Rattle.std.specs.Int.Signed.{lt_z}
use Rattle.kernel.specs.declared.records.Kernel.{Kernel}
use Rattle.kernel.specs.Places.{pool_place, queue_place, writers_place, readers_place}
use Rattle.kernel.specs.Tables.{counter_at}
use Rattle.kernel.proofs.Cases.{same_or, in-or-out}
use Rattle.kernel.proofs.TablesLaws.{used_all}
use Rattle.kernel.proofs.CountersLaws.{debt, debt-none, debt-exact}
use Rattle.kernel.proofs.WaitersLaws.{waiters}
use Rattle.library.specs.declared.sizes.Sizes.{Sizes}
use Rattle.library.specs.Signs.{minus}
use Rattle.rules.specs.PlaceRules.{in_use, queued_count}
use Rattle.promises.specs.Together.Good.{GoodSizes, SemaphoreCounter, QueueCounter, GoodCounters}
use Rattle.promises.specs.Together.PlaceTests.{semaphore-used, pool-used, queue-used, writers-used, readers-used}
use Rattle.promises.specs.Kept.Tallies.{Tallies}

-- -n owes n
minus-debt : (n : ℕ) → debt (minus n) ≡ n
minus-debt zero = refl
minus-debt (suc n) = rw (lt-ltb 0 (suc n) (omega arith)) (omega arith)

-- what owes n > 0 is -n
debt-minus : (c : ℤ) (n : ℕ) → n ≡ debt c → 0 < n → c ≡ minus n
debt-minus (pos m) n e h = absurd (omega arith)
debt-minus (negsuc m) n e h = rw (e, lt-ltb 0 (suc m) (omega arith)) (ap negsuc (omega arith))

not-below : (c : ℤ) → 0 ≡ debt c → lt_z c (pos 0) ≡ false
not-below (pos m) e = le-ltb m 0 (omega arith)
not-below (negsuc m) e = absurd (omega arith)

exactly : (c : ℤ) → 0 ≡ debt c → lt_z (pos 0) c ≡ false → c ≡ pos 0
exactly c e l = debt-exact c l (sym e)

minus-not-above : (n : ℕ) → lt_z (pos 0) (minus n) ≡ false
minus-not-above zero = refl
minus-not-above (suc n) = rw (lt-ltb 0 (suc n) (omega arith))

module _ (c : ℤ) (n : ℕ) where
  semaphore-owes : SemaphoreCounter c n → n ≡ debt c
  semaphore-owes g =
      same_or n 0 (λ e. e ∙ sym (debt-none c (g.none e))) (λ d. sym (ap debt (g.waiters (some d)) ∙ minus-debt n))
    where
      some : n ≢ 0 → 0 < n
      some d = omega arith

  owes-semaphore : n ≡ debt c → SemaphoreCounter c n
  owes-semaphore e = record { waiters = debt-minus c n e; none = λ z. not-below c (sym z ∙ e) }

  queue-owes : QueueCounter c n → (n ≡ debt c) × (lt_z (pos 0) c ≡ false)
  queue-owes g =
      same_or n 0
      (λ e. (e ∙ sym (ap debt (g.none e)), rw (g.none e)))
      (λ d. (sym (ap debt (g.waiters (some d)) ∙ minus-debt n), rw (g.waiters (some d)) (minus-not-above n)))
    where
      some : n ≢ 0 → 0 < n
      some d = omega arith

  owes-queue : n ≡ debt c → lt_z (pos 0) c ≡ false → QueueCounter c n
  owes-queue e l = record { waiters = debt-minus c n e; none = λ z. exactly c (sym z ∙ e) l }

module _ (k : Kernel) (z : Sizes) (s : GoodSizes z) where
  -- the threads queued, counted over the rows in use or over all threads
  counted : (p : ℕ) → queued_count k z.threads p ≡ waiters k z.threads p
  unfolding queued_count
  counted p = rw (used_all z.threads s.threads.1)

  of-semaphore : (p : ℕ) → p < 20 → SemaphoreCounter (counter_at k p) (queued_count k z.threads p) → Tallies z.threads p k
  of-semaphore p h g =
      record {
        tally = sym (counted p) ∙ semaphore-owes (counter_at k p) (queued_count k z.threads p) g;
        level = λ l. absurd (omega arith);
      }

  of-queue : (p : ℕ) → QueueCounter (counter_at k p) (queued_count k z.threads p) → Tallies z.threads p k
  of-queue p g =
      let x = queue-owes (counter_at k p) (queued_count k z.threads p) g in
      record { tally = sym (counted p) ∙ x.0; level = λ l. x.1 }

  semaphore-of : (p : ℕ) → Tallies z.threads p k → SemaphoreCounter (counter_at k p) (queued_count k z.threads p)
  semaphore-of p g = owes-semaphore (counter_at k p) (queued_count k z.threads p) (counted p ∙ g.tally)

  queue-of : (p : ℕ) → 20 ≤ p → Tallies z.threads p k → QueueCounter (counter_at k p) (queued_count k z.threads p)
  queue-of p h g = owes-queue (counter_at k p) (queued_count k z.threads p) (counted p ∙ g.tally) (g.level h)

  -- counters that are good tally at every place in use
  pub counters-tally : GoodCounters k z → (p : ℕ) → p < 36 → in_use z p ≡ true → Tallies z.threads p k
  counters-tally g p h u =
      in-or-out p 16
      (λ l. of-semaphore p (omega arith) (g.semaphores p (ltb-true p z.semaphores (sym (semaphore-used z p l) ∙ u))))
      (λ a. in-or-out p 20
      (λ l.
      let at : pool_place (p - 16) ≡ p = omega arith in
      of-semaphore p l (rw at at (g.pools (p - 16) (ltb-true (p - 16) z.pools (sym (pool-used z p a l) ∙ u)))))
      (λ b. in-or-out p 28
      (λ l.
      let at : queue_place (p - 20) ≡ p = omega arith in
      of-queue p (rw at at (g.queues (p - 20) (ltb-true (p - 20) z.queues (sym (queue-used z p b l) ∙ u)))))
      (λ c. in-or-out p 32
      (λ l.
      let at : writers_place (p - 28) ≡ p = omega arith in
      of-queue p (rw at at (g.writers (p - 28) (ltb-true (p - 28) z.mailboxes (sym (writers-used z p c l) ∙ u)))))
      (λ d.
      let at : readers_place (p - 32) ≡ p = omega arith in
      of-queue p (rw at at (g.readers (p - 32) (ltb-true (p - 32) z.mailboxes (sym (readers-used z p d) ∙ u))))))))

  -- the place of each object of the configuration is in use
  pub semaphore-place : (i : ℕ) → i < z.semaphores → (i < 16) × (in_use z i ≡ true)
  semaphore-place i h =
      let l : i < 16 = omega (arith, s.semaphores) in (l, semaphore-used z i l ∙ lt-ltb i z.semaphores h)

  pub pool-place : (i : ℕ) → i < z.pools → (p : ℕ) → p ≡ pool_place i → (16 ≤ p) × ((p < 20) × (in_use z p ≡ true))
  pool-place i h p e =
      let few : i < 4 = omega (arith, s.pools) in
      let low : 16 ≤ p = omega arith in
      let high : p < 20 = omega arith in
      (low, (high, pool-used z p low high ∙ lt-ltb (p - 16) z.pools (omega arith)))

  pub queue-place : (i : ℕ) → i < z.queues → (p : ℕ) → p ≡ queue_place i → (20 ≤ p) × ((p < 28) × (in_use z p ≡ true))
  queue-place i h p e =
      let few : i < 8 = omega (arith, s.queues) in
      let low : 20 ≤ p = omega arith in
      let high : p < 28 = omega arith in
      (low, (high, queue-used z p low high ∙ lt-ltb (p - 20) z.queues (omega arith)))

  pub writers-place : (i : ℕ) → i < z.mailboxes → (p : ℕ) → p ≡ writers_place i → (28 ≤ p) × ((p < 32) × (in_use z p ≡ true))
  writers-place i h p e =
      let few : i < 4 = omega (arith, s.mailboxes) in
      let low : 28 ≤ p = omega arith in
      let high : p < 32 = omega arith in
      (low, (high, writers-used z p low high ∙ lt-ltb (p - 28) z.mailboxes (omega arith)))

  pub readers-place : (i : ℕ) → i < z.mailboxes → (p : ℕ) → p ≡ readers_place i → (32 ≤ p) × ((p < 36) × (in_use z p ≡ true))
  readers-place i h p e =
      let few : i < 4 = omega (arith, s.mailboxes) in
      let low : 32 ≤ p = omega arith in
      let high : p < 36 = omega arith in
      (low, (high, readers-used z p low ∙ lt-ltb (p - 32) z.mailboxes (omega arith)))

  -- counters that tally at every place in use are good
  pub tally-counters : ((p : ℕ) → p < 36 → in_use z p ≡ true → Tallies z.threads p k) → GoodCounters k z
  tally-counters g =
      record {
        semaphores = λ i h. let x = semaphore-place i h in semaphore-of i (g i (omega (arith, x.0)) x.1);
        pools =
            λ i h. let x =
            pool-place i h (pool_place i) refl in semaphore-of (pool_place i) (g (pool_place i) (omega (arith, x.1.0)) x.1.1);
        queues = λ i h.
            let x = queue-place i h (queue_place i) refl in
            queue-of (queue_place i) x.0 (g (queue_place i) (omega (arith, x.1.0)) x.1.1);
        writers = λ i h.
            let x = writers-place i h (writers_place i) refl in
            queue-of (writers_place i) (omega (arith, x.0)) (g (writers_place i) (omega (arith, x.1.0)) x.1.1);
        readers = λ i h.
            let x = readers-place i h (readers_place i) refl in
            queue-of (readers_place i) (omega (arith, x.0)) (g (readers_place i) x.1.0 x.1.1);
      }
