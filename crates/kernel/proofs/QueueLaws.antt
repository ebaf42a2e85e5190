-- The counter rule: of the first n threads as many are queued at each place as its counter owes. A waking takes its thread off the
-- one side and raises the counter on the other, a sleep does the reverse, and every operation is made of the two.
use Rattle.std.proofs.Common.{◌≡◌, ℕ, zero, suc, ◌+◌, ◌-◌, ◌<◌, ◌≤◌, Bool, true, false, cond, ◌&&◌, eqb, ◌≢◌, length, ℤ, pos, sym, refl, ap, ◌∙◌, le_refl, arith, le-ltb, lt-ltb}
use lib.Seq.{set-get_or}
use lib.Signed.{lt_z}
use Rattle.kernel.specs.declared.records.Call.{Call}
use Rattle.kernel.specs.declared.records.Thread.{Thread}
use Rattle.kernel.specs.declared.records.Kernel.{Kernel}
use Rattle.kernel.specs.Numbers.{queued}
use Rattle.kernel.specs.Records.{blank}
use Rattle.kernel.specs.Walk.{each, bit}
use Rattle.kernel.specs.Tables.{thread_at, counter_at}
use Rattle.kernel.specs.Words.{has_bit, waiting_at}
use Rattle.kernel.specs.Moves.{woken, slept}
use Rattle.kernel.specs.Waiters.{queued_at, first_waiter}
use Rattle.kernel.specs.Queue.{released_first, released_one, released_all}
use Rattle.kernel.proofs.Cases.{split, in-or-out, chosen}
use Rattle.kernel.proofs.WalkLaws.{None, count-change, each_keeps, each-agree, each-later}
use Rattle.kernel.proofs.TablesLaws.{SameSizes, sizes-refl, sizes-trans, thread-blank, counter-zero}
use Rattle.kernel.proofs.CountersLaws.{down-not-above}
use Rattle.kernel.proofs.WaitersLaws.{waits, waiters, TellsAt}
use Rattle.kernel.proofs.WordsLaws.{digit-test}
use Rattle.kernel.proofs.Rounds.{turn, round-row}
use Rattle.kernel.proofs.MovesLaws.{wake-row, wake-others, wake-sizes, sleep-past, sleep-counter, sleep-counter-others, sleep-sizes}

-- a place whose counter is not above 0, as a queue's never is
abbrev pub Level : ℕ → Kernel → Type 0
Level p k = lt_z (pos 0) (counter_at k p) ≡ false

-- ---- a waking

module _ (k : Kernel) (i : ℕ) (m : ℤ) where
  -- who is made ready waits nowhere
  pub wake-unqueued : (p : ℕ) → waits (woken k i m) p i ≡ false
  wake-unqueued p =
      in-or-out i (length k.threads) (λ h. rw (wake-row k i m h))
      (λ h. rw (thread-blank (woken k i m) i (rw (wake-sizes k i m).threads h)))

  -- it takes one off those who wait at its place, and none off any other
  pub wake-waiters : (n p : ℕ) → i < n → waiters (woken k i m) n p + bit (waits k p i) ≡ waiters k n p
  wake-waiters n p h =
      omega (
        arith,
        rw (wake-unqueued p) at (count-change (waits (woken k i m) p) (waits k p) n i h (λ j l e. ap (queued_at p) (wake-others k i m j e))),
      )

-- ---- a sleep, of a ready thread

-- a counter that is not above 0 stays so
pub sleep-level : (k : Kernel) (i s p : ℕ) (c : Call) (q : ℕ) → Level q k → Level q (slept k i s p c)
sleep-level k i s p c q l =
    split (eqb s queued && eqb p q)
    (λ e. in-or-out i 16
    (λ h. in-or-out q (length k.counters)
    (λ b. rw (sleep-counter k i s p c h q b, e) (down-not-above (counter_at k q) l))
    (λ b. rw (counter-zero (slept k i s p c) q (rw (sleep-sizes k i s p c).counters b))))
    (λ h. rw (sleep-past k i s p c h) l))
    (λ e. rw (sleep-counter-others k i s p c q e) l)

-- ---- release of the first

module _ (k : Kernel) (p : ℕ) (m : ℤ) where
  -- nobody but the first waiter is touched
  pub release-first-others : (j : ℕ) → j ≢ first_waiter k p → thread_at (released_first k p m) j ≡ thread_at k j
  unfolding released_first
  release-first-others j d = wake-others k (first_waiter k p) m j d

  -- the tables keep their lengths
  pub release-first-sizes : SameSizes k (released_first k p m)
  unfolding released_first
  release-first-sizes = wake-sizes k (first_waiter k p) m

-- ---- release of all

-- of a walk over the records: a thread that waits at the place is made ready, any other is left
abbrev pub walked_one : ℕ → ℤ → ℕ → Kernel → Kernel
walked_one p m i k = cond (waits k p i) (woken k i m) k

-- .. which is a turn of a round in which everyone else's row is left
as-turn : (p : ℕ) (m : ℤ) (i : ℕ) (k : Kernel) → walked_one p m i k ≡ turn (queued_at p) (λ t. t) m i k
as-turn p m i k = split (waits k p i) (λ e. rw e) (λ e. rw (e, set-get_or k.threads i blank))

module _ (k : Kernel) (p : ℕ) (m : ℤ) where
  abbrev w : ℕ
  w = waiting_at k.words p

  -- the tables keep their lengths
  pub release-all-sizes : SameSizes k (released_all k p m)
  unfolding released_all
  release-all-sizes =
      each_keeps (SameSizes k) (released_one w m) 16
      (λ i l h s. chosen (SameSizes k) (has_bit w i) (λ e. sizes-trans s (wake-sizes h i m)) (λ e. s)) k (sizes-refl k)

  -- in the form in which code meets it: after i turns, by the word x and with y
  pub release-all-turns : (x i : ℕ) (y : ℤ) → x ≡ w → i ≡ 16 → y ≡ m → each i (released_one x y) k ≡ released_all k p m
  unfolding released_all
  release-all-turns x i y e f g =
      ap (λ (j : ℕ). each j (released_one x y) k) f
      ∙ (ap (λ (v : ℕ). each 16 (released_one v y) k) e ∙ ap (λ (v : ℤ). each 16 (released_one w v) k) g)

  -- a turn leaves every row but its own
  one-others : (i j : ℕ) (h : Kernel) → j ≢ i → thread_at (released_one w m i h) j ≡ thread_at h j
  one-others i j h d = chosen (λ (x : Kernel). thread_at x j ≡ thread_at h j) (has_bit w i) (λ e. wake-others h i m j d) (λ e. refl)

  module _ (n : ℕ) (few : n ≤ 16) (told : TellsAt n k p) where
    -- the word names those of the first n who wait there, when their turn comes
    named : (i : ℕ) → i < n → has_bit w i ≡ waits (each i (released_one w m) k) p i
    named i h =
        digit-test w i (waits k p i) (rw (lt-ltb i n h) at (told i))
        ∙ sym (ap (queued_at p) (each-later thread_at (released_one w m) one-others i i k (le_refl i)))

    walk-to : (i : ℕ) → i ≤ n → each i (released_one w m) k ≡ each i (walked_one p m) k
    walk-to zero h = refl
    walk-to (suc i) h =
        ap (λ (b : Bool). cond b (woken (each i (released_one w m) k) i m) (each i (released_one w m) k)) (named i h)
        ∙ ap (walked_one p m i) (walk-to i (omega arith))

    -- and nobody from n on
    walk-past : (d : ℕ) → each (d + n) (released_one w m) k ≡ each n (released_one w m) k
    walk-past zero = let same : 0 + n ≡ n = omega arith in ap (λ (x : ℕ). each x (released_one w m) k) same
    walk-past (suc d) =
        let next : suc d + n ≡ suc (d + n) = omega arith in
        let unnamed = digit-test w (d + n) false (rw (le-ltb (d + n) n (omega arith)) at (told (d + n))) in
        ap (λ (x : ℕ). each x (released_one w m) k) next
        ∙ (ap (λ (b : Bool). cond b (woken (each (d + n) (released_one w m) k) (d + n) m) (each (d + n) (released_one w m) k)) unnamed
        ∙ walk-past d)

    -- WHERE THE WORD AGREES, THE RELEASE IS THE WALK
    pub release-all-walk : released_all k p m ≡ each n (walked_one p m) k
    unfolding released_all
    release-all-walk =
        let whole : (16 - n) + n ≡ 16 = omega arith in
        ap (λ (x : ℕ). each x (released_one w m) k) (sym whole) ∙ (walk-past (16 - n) ∙ walk-to n (le_refl n))

    -- nobody of the first n waits there any more
    pub release-all-empties : None (waits (released_all k p m) p) n
    release-all-empties j h =
        ap (λ (x : Kernel). waits x p j) (release-all-walk ∙ each-agree (walked_one p m) (turn (queued_at p) (λ t. t) m) n (as-turn p m) k)
        ∙ (ap (queued_at p) (round-row (queued_at p) (λ t. t) m refl refl n j k h)
        ∙ chosen (λ (t : Thread). queued_at p t ≡ false) (waits k p j) (λ e. refl) (λ e. e))

    -- what every waking of one who waits there keeps, the release keeps
    pub release-all-keeps : (P : Kernel → Type 0) → ((i : ℕ) → i < n → (h : Kernel) → waits h p i ≡ true → P h → P (woken h i m)) → P k
        → P (released_all k p m)
    release-all-keeps P keeps g =
        rw release-all-walk
        (each_keeps P (walked_one p m) n (λ i l h t. chosen P (waits h p i) (λ e. keeps i l h e t) (λ e. t)) k g)
