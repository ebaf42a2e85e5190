-- The rule of ONE reference, kept by every move of the kernel part; as for the counters, no other reference's rule is needed.
-- Who is made ready leaves its reference, who is suspended on an empty one joins it, and nobody else's wait changes.
use Rattle.std.specs.Prelude.{ℕ, ◌≤◌, ◌<◌, ◌≡◌, refl, ◌≢◌, true, false, cond, eqb, length, ℤ}
use Rattle.std.proofs.Common.{arith, sym, ap, ◌∙◌, eqb-true, eq-eqb, ne_eqb}
use Rattle.kernel.specs.declared.records.Call.{Call}
use Rattle.kernel.specs.declared.records.Thread.{Thread}
use Rattle.kernel.specs.declared.records.Kernel.{Kernel}
use Rattle.kernel.specs.Numbers.{nobody, ready, suspended, timed_out}
use Rattle.kernel.specs.Tables.{thread_at, holder_at, with_thread, with_counter}
use Rattle.kernel.specs.Moves.{woken, slept, finished}
use Rattle.kernel.specs.Ticking.{counted_off, ticked}
use Rattle.kernel.proofs.Cases.{split, same_or, in-or-out, chosen, first-fails}
use Rattle.kernel.proofs.TablesLaws.{thread-blank, thread-kept}
use Rattle.kernel.proofs.MovesLaws.{
  suspended_at,
  wake-others,
  wake-holder,
  sleep-past,
  sleep-row,
  sleep-others,
  sleep-holder,
  sleep-holder-others,
  sleep-sizes,
  finish-kept,
  finish-references,
}
use Rattle.kernel.proofs.ReferenceLaws.{wake-unsuspended}
use Rattle.kernel.proofs.TickingLaws.{tick-keeps}

-- "Reference r holds i exactly if i is suspended on r", of n threads, as an equation of two tests; and it holds no other
pub record Holds (n r : ℕ) (k : Kernel) : Type 0 where
  pub holds : (i : ℕ) → i < n → eqb (holder_at k r) i ≡ suspended_at r (thread_at k i)
  pub within : holder_at k r ≢ nobody → holder_at k r < n

-- the rule stays where nobody's wait and no holder changes
pub same-holds : (k h : Kernel) (n r : ℕ) → ((i : ℕ) → suspended_at r (thread_at h i) ≡ suspended_at r (thread_at k i))
    → holder_at h r ≡ holder_at k r → Holds n r k → Holds n r h
same-holds k h n r s e g = record { holds = λ i l. rw e (g.holds i l ∙ sym (s i)); within = rw e g.within }

-- ---- a waking

module _ (k : Kernel) (i : ℕ) (m : ℤ) (n r : ℕ) where
  pub wake-holds : n ≤ nobody → i < n → Holds n r k → Holds n r (woken k i m)
  wake-holds few hi g = record { holds = λ j hj. rw (wake-holder k i m r) (at j hj); within = rw (wake-holder k i m r) some }
    where
      no-thread : (j : ℕ) → j < n → eqb nobody j ≡ false
      no-thread j h = ne_eqb nobody j (λ e. absurd (omega arith))

      alone : (j : ℕ) → j < n → j ≢ i → suspended_at r (thread_at k i) ≡ true → suspended_at r (thread_at k j) ≡ false
      alone j hj d s =
          sym (g.holds j hj) ∙ rw (eqb-true (holder_at k r) i (g.holds i hi ∙ s)) (ne_eqb i j (λ e. d (sym e)))

      at : (j : ℕ) → j < n
          → eqb (cond (suspended_at r (thread_at k i)) nobody (holder_at k r)) j ≡ suspended_at r (thread_at (woken k i m) j)
      at j hj =
          same_or j i
          (λ e. rw (e, wake-unsuspended k i m r)
          (split (suspended_at r (thread_at k i)) (λ s. rw s (no-thread i hi)) (λ s. rw s (g.holds i hi ∙ s))))
          (λ d. rw (wake-others k i m j d)
          (split (suspended_at r (thread_at k i)) (λ s. rw s (no-thread j hj ∙ sym (alone j hj d s))) (λ s. rw s (g.holds j hj))))

      some : cond (suspended_at r (thread_at k i)) nobody (holder_at k r) ≢ nobody
          → cond (suspended_at r (thread_at k i)) nobody (holder_at k r) < n
      some = chosen (λ (x : ℕ). x ≢ nobody → x < n) (suspended_at r (thread_at k i)) (λ e d. absurd (d refl)) (λ e. g.within)

-- ---- a sleep, of a ready thread

module _ (k : Kernel) (i p : ℕ) (c : Call) (n r : ℕ) (is-ready : (thread_at k i).state ≡ ready) where
  not-suspended : suspended_at r (thread_at k i) ≡ false
  not-suspended = rw is-ready

  -- on an empty reference
  pub sleep-holds : n ≤ 16 → i < n → i < length k.threads → p < length k.references → holder_at k p ≡ nobody
      → Holds n r k → Holds n r (slept k i suspended p c)
  sleep-holds few hi t b free g =
      record {
        holds = λ j hj. rw holder (split (eqb p r) (λ e. rw e (there j hj (eqb-true p r e))) (λ e. rw e (elsewhere j hj e)));
        within = rw holder (chosen (λ (x : ℕ). x ≢ nobody → x < n) (eqb p r) (λ e d. hi) (λ e. g.within));
      }
    where
      here : i < 16
      here = omega arith

      holder : holder_at (slept k i suspended p c) r ≡ cond (eqb p r) i (holder_at k r)
      holder =
          in-or-out r (length k.references) (λ h. sleep-holder k i suspended p c here r h)
          (λ h. let apart : eqb p r ≡ false = ne_eqb p r (λ e. absurd (omega arith)) in
          rw apart (sleep-holder-others k i suspended p c r apart))

      there : (j : ℕ) → j < n → p ≡ r → eqb i j ≡ suspended_at r (thread_at (slept k i suspended p c) j)
      there j hj e =
          let empty : holder_at k r ≡ nobody = rw (sym e) free in
          same_or j i (λ a. rw (a, sleep-row k i suspended p c here t, eq-eqb i i refl, eq-eqb p r e))
          (λ d. rw (sleep-others k i suspended p c j d, ne_eqb i j (λ a. d (sym a)))
          (sym (ne_eqb nobody j (λ a. absurd (omega arith))) ∙ (rw empty at (g.holds j hj))))

      elsewhere : (j : ℕ) → j < n → eqb p r ≡ false → eqb (holder_at k r) j ≡ suspended_at r (thread_at (slept k i suspended p c) j)
      elsewhere j hj e =
          same_or j i (λ a. rw (a, sleep-row k i suspended p c here t, e) (g.holds i hi ∙ not-suspended))
          (λ d. rw (sleep-others k i suspended p c j d) (g.holds j hj))

  -- in any other state
  pub sleep-unsuspended-holds : (s : ℕ) → eqb s suspended ≡ false → Holds n r k → Holds n r (slept k i s p c)
  sleep-unsuspended-holds s e =
      same-holds k (slept k i s p c) n r
      (λ j. same_or j i (λ a. rw a (own ∙ sym not-suspended)) (λ d. ap (suspended_at r) (sleep-others k i s p c j d)))
      (sleep-holder-others k i s p c r (first-fails (eqb p r) e))
    where
      own : suspended_at r (thread_at (slept k i s p c) i) ≡ false
      own =
          in-or-out i 16
          (λ h. in-or-out i (length k.threads)
          (λ t. rw (sleep-row k i s p c h t) (first-fails (eqb p r) e))
          (λ t. rw (thread-blank (slept k i s p c) i (rw (sleep-sizes k i s p c).threads t))))
          (λ h. rw (sleep-past k i s p c h) not-suspended)

-- ---- the end of a call, and counters

pub finish-holds : (k : Kernel) (i : ℕ) (m : ℤ) (d n r : ℕ) → Holds n r k → Holds n r (finished k i m d)
finish-holds k i m d n r =
    same-holds k (finished k i m d) n r (finish-kept k i m d (suspended_at r) (λ a. refl)) (rw (finish-references k i m d))

pub counter_holds : (k : Kernel) (p : ℕ) (c : ℤ) (n r : ℕ) → Holds n r k → Holds n r (with_counter k p c)
counter_holds k p c n r = same-holds k (with_counter k p c) n r (λ j. refl) refl

-- ---- a row, and the tick

pub row-holds : (k : Kernel) (n r i : ℕ) (t : Thread) → suspended_at r t ≡ suspended_at r (thread_at k i) → Holds n r k
    → Holds n r (with_thread k i t)
row-holds k n r i t e = same-holds k (with_thread k i t) n r (thread-kept k i t (suspended_at r) e) refl

pub tick-holds : (k : Kernel) (n r : ℕ) → n ≤ nobody → Holds n r k → Holds n r (ticked k n)
tick-holds k n r few =
    tick-keeps k n (Holds n r) (λ i l h. wake-holds h i timed_out n r few l)
    (λ i h. row-holds h n r i (counted_off (thread_at h i)) refl)
