-- Who waits at a place, and what the counter rule says of its counter, in the form in which the rows ask for it.
use Rattle.std.specs.Prelude.{ℕ, ◌<◌, ◌≤◌, ◌≡◌, refl, true, eqb, ℤ, pos, negsuc}
use Rattle.std.proofs.Common.{arith, eqb-true, eq-eqb, lt-ltb}
use Rattle.std.specs.Int.Signed.{lt_z}
use Rattle.kernel.specs.declared.records.Kernel.{Kernel}
use Rattle.kernel.specs.Numbers.{queued}
use Rattle.kernel.specs.Tables.{thread_at, counter_at}
use Rattle.kernel.specs.Waiters.{first_waiter}
use Rattle.kernel.proofs.Cases.{both_true, both-means, contrary}
use Rattle.kernel.proofs.TablesLaws.{Sized}
use Rattle.kernel.proofs.WaitersLaws.{waits, TellsAt, first-waiter-counted}
use Rattle.kernel.proofs.WalkLaws.{count-le, count-some}
use Rattle.kernel.proofs.CountersLaws.{debt, debt-below, debt-some}
use Rattle.promises.specs.Kept.Tallies.{Tallies}

-- ---- who waits

-- thread i is queued at the place p
pub record Waiting (k : Kernel) (p i : ℕ) : Type 0 where
  pub state : (thread_at k i).state ≡ queued
  pub place : (thread_at k i).place ≡ p

-- "the highest-priority waiter", of n threads at the place p: "index 0 highest in priority"
pub record HighestWaiter (k : Kernel) (n p i : ℕ) : Type 0 where
  pub thread : i < n
  pub waits : Waiting k p i
  pub highest : (j : ℕ) → j < i → Waiting k p j → ⊥

-- the kernel's test of it, both ways
pub waiting-waits : {k : Kernel} {p i : ℕ} → Waiting k p i → waits k p i ≡ true
waiting-waits {k} {p} {i} w = both_true (eq-eqb (thread_at k i).state queued w.state) (eq-eqb (thread_at k i).place p w.place)

-- who passes the test waits
pub waits-waiting : (k : Kernel) (p i : ℕ) → waits k p i ≡ true → Waiting k p i
waits-waiting k p i e =
    let both = both-means (eqb (thread_at k i).state queued) (eqb (thread_at k i).place p) e in
    record { state = eqb-true (thread_at k i).state queued both.0; place = eqb-true (thread_at k i).place p both.1 }

-- ---- counters

-- no counter is near its bottom, for at most 16 threads wait
pub rule-high : (k : Kernel) (n p : ℕ) → n ≤ 16 → Tallies n p k → lt_z (negsuc 2147483647) (counter_at k p) ≡ true
rule-high k n p few g = high (counter_at k p) (omega (arith, g.tally, count-le (waits k p) n))
  where
    high : (c : ℤ) → debt c ≤ 16 → lt_z (negsuc 2147483647) c ≡ true
    high (pos m) h = refl
    high (negsuc m) h = lt-ltb m 2147483647 (omega arith)

-- where one waits the counter is below 0
pub rule-below : (k : Kernel) (n p i : ℕ) → Tallies n p k → i < n → Waiting k p i → lt_z (counter_at k p) (pos 0) ≡ true
rule-below k n p i g h w = debt-below (counter_at k p) (omega (arith, g.tally, count-some (waits k p) n i h (waiting-waits w)))

module _ (k : Kernel) (z : Sized k) (n p : ℕ) where
  -- there is one: "with n > 0 threads queued has counter -n; with none, a semaphore is at least 0"
  pub signal-finds : n ≤ 16 → TellsAt n k p → Tallies n p k → lt_z (counter_at k p) (pos 0) ≡ true → HighestWaiter k n p (first_waiter k p)
  signal-finds few told g e =
      let first = first-waiter-counted k n few p told (omega (arith, g.tally, debt-some (counter_at k p) e)) in
      record {
        thread = first.below;
        waits = waits-waiting k p (first_waiter k p) first.passes;
        highest = λ j h w. contrary (waiting-waits w) (first.least j h);
      }
