-- The counter rule of ONE place, kept by every move of the kernel part. The kernel's own laws are about all places at once; the
-- tables of a plant follow the rule only at the places that its sizes put to use, so here each law needs no other place's rule.
use Rattle.std.specs.Prelude.{ℕ, ◌≤◌, ◌<◌, ◌≡◌, refl, false, eqb, length, ℤ, pos}
use Rattle.std.proofs.Common.{arith, sym, ap, ◌∙◌}
use Rattle.std.specs.Int.Signed.{lt_z}
use Rattle.kernel.specs.declared.records.Call.{Call}
use Rattle.kernel.specs.declared.records.Thread.{Thread}
use Rattle.kernel.specs.declared.records.Kernel.{Kernel}
use Rattle.kernel.specs.Numbers.{ready, queued, timed_out}
use Rattle.kernel.specs.Tables.{thread_at, counter_at, with_thread}
use Rattle.kernel.specs.Moves.{woken, slept, finished}
use Rattle.kernel.specs.Waiters.{queued_at}
use Rattle.kernel.specs.Queue.{released_all}
use Rattle.kernel.specs.Ticking.{counted_off, ticked}
use Rattle.kernel.proofs.Cases.{split, same_or, in-or-out, first-fails}
use Rattle.kernel.proofs.WalkLaws.{count-le, count-agree, count-change, count-some}
use Rattle.kernel.proofs.TablesLaws.{thread-blank, thread-kept, counter-zero}
use Rattle.kernel.proofs.CountersLaws.{debt, debt-below, up-not-above}
use Rattle.kernel.proofs.WaitersLaws.{waits, waiters, TellsAt}
use Rattle.kernel.proofs.MovesLaws.{
  wake-counter,
  wake-counter-others,
  wake-debt,
  wake-sizes,
  sleep-past,
  sleep-row,
  sleep-others,
  sleep-debt,
  sleep-counter-others,
  sleep-sizes,
  finish-kept,
  finish-counters,
}
use Rattle.kernel.proofs.QueueLaws.{release-all-keeps, wake-waiters, sleep-level}
use Rattle.kernel.proofs.TickingLaws.{tick-keeps}

-- of n threads as many are queued at the place p as its counter owes; from place 20 on, a queue's, the counter is never above 0
pub record Tallies (n p : ℕ) (k : Kernel) : Type 0 where
  pub tally : waiters k n p ≡ debt (counter_at k p)
  pub level : 20 ≤ p → lt_z (pos 0) (counter_at k p) ≡ false

-- the rule stays where nobody's wait and no counter changes
pub same-tallies : (k h : Kernel) (n p : ℕ) → ((i : ℕ) → waits h p i ≡ waits k p i) → counter_at h p ≡ counter_at k p → Tallies n p k
    → Tallies n p h
same-tallies k h n p w e g =
    record {
      tally = count-agree (waits h p) (waits k p) n (λ i l. w i) ∙ g.tally ∙ sym (ap debt e);
      level = λ l. rw e (g.level l);
    }

-- ---- a waking

module _ (k : Kernel) (i : ℕ) (m : ℤ) (n p : ℕ) where
  pub wake-tallies : i < n → Tallies n p k → Tallies n p (woken k i m)
  wake-tallies h g =
      record {
        tally = omega (arith, wake-waiters k i m n p h, g.tally, wake-debt k i m p);
        level = λ l.
            split (waits k p i)
            (λ e. in-or-out p (length k.counters)
            (λ b. rw (wake-counter k i m p b, e)
            (up-not-above (counter_at k p) (debt-below (counter_at k p) (omega (arith, g.tally, count-some (waits k p) n i h e)))))
            (λ b. rw (counter-zero (woken k i m) p (rw (wake-sizes k i m).counters b))))
            (λ e. rw (wake-counter-others k i m p e) (g.level l));
      }

-- ---- a sleep, of a ready thread

module _ (k : Kernel) (i p : ℕ) (c : Call) (n q : ℕ) (is-ready : (thread_at k i).state ≡ ready) where
  unqueued : waits k q i ≡ false
  unqueued = rw is-ready

  -- on a place whose counter is not above 0
  pub sleep-tallies : n ≤ 16 → i < n → i < length k.threads → p < length k.counters → lt_z (pos 0) (counter_at k p) ≡ false
      → Tallies n p k → Tallies n q k → Tallies n q (slept k i queued p c)
  sleep-tallies l h t b z own g =
      let here : i < 16 = omega arith in
      let few : debt (counter_at k p) < 2147483648 = omega (arith, own.tally, count-le (waits k p) n) in
      record {
        tally = omega (
          arith,
          rw (unqueued, sleep-row k i queued p c here t)
              at (count-change (waits (slept k i queued p c) q) (waits k q) n i h
              (λ j o d. ap (queued_at q) (sleep-others k i queued p c j d))),
          g.tally,
          sleep-debt k i queued p c here refl b z few q,
        );
        level = λ v. sleep-level k i queued p c q (g.level v);
      }

  -- in any other state
  pub sleep-unqueued-tallies : (s : ℕ) → eqb s queued ≡ false → Tallies n q k → Tallies n q (slept k i s p c)
  sleep-unqueued-tallies s e =
      same-tallies k (slept k i s p c) n q
      (λ j. same_or j i (λ a. rw a (own ∙ sym unqueued)) (λ d. ap (queued_at q) (sleep-others k i s p c j d)))
      (sleep-counter-others k i s p c q (first-fails (eqb p q) e))
    where
      own : waits (slept k i s p c) q i ≡ false
      own =
          in-or-out i 16
          (λ h. in-or-out i (length k.threads)
          (λ t. rw (sleep-row k i s p c h t) (first-fails (eqb p q) e))
          (λ t. rw (thread-blank (slept k i s p c) i (rw (sleep-sizes k i s p c).threads t))))
          (λ h. rw (sleep-past k i s p c h) unqueued)

-- ---- the end of a call

pub finish-tallies : (k : Kernel) (i : ℕ) (m : ℤ) (d n p : ℕ) → Tallies n p k → Tallies n p (finished k i m d)
finish-tallies k i m d n p =
    same-tallies k (finished k i m d) n p (finish-kept k i m d (queued_at p) (λ a. refl)) (rw (finish-counters k i m d))

-- ---- a row, a release of all, and the tick

module _ (k : Kernel) (n q : ℕ) where
  -- a row that waits as it did
  pub row-tallies : (i : ℕ) (t : Thread) → ((p : ℕ) → queued_at p t ≡ queued_at p (thread_at k i)) → Tallies n q k
      → Tallies n q (with_thread k i t)
  row-tallies i t e = same-tallies k (with_thread k i t) n q (thread-kept k i t (queued_at q) (e q)) refl

pub tick-tallies : (k : Kernel) (n q : ℕ) → Tallies n q k → Tallies n q (ticked k n)
tick-tallies k n q =
    tick-keeps k n (Tallies n q) (λ i l h. wake-tallies h i timed_out n q l)
    (λ i h. row-tallies h n q i (counted_off (thread_at h i)) (λ p. refl))

pub release-all-tallies : (k : Kernel) (p : ℕ) (m : ℤ) (n : ℕ) → n ≤ 16 → TellsAt n k p → (q : ℕ) → Tallies n q k
    → Tallies n q (released_all k p m)
release-all-tallies k p m n few told q = release-all-keeps k p m n few told (Tallies n q) (λ i l h e. wake-tallies h i m n q l)
