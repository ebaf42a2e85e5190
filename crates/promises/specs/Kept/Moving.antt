-- Every operation of the kernel part is a chain of moves. With each stands what it is called for: its tick, its signal, the unit that it
-- takes, the sleep that it begins; wakings, ticks counted off and finished calls follow from these.
use Rattle.std.specs.Prelude.{ℕ, ◌-◌, ◌<◌, ◌≡◌, refl, ◌≢◌, ◌⊎◌, true, false, cond, List, [], ◌∷◌, eqb, set, ℤ, pos}
use native.Mathlib.Omega.{arith}
use Rattle.std.proofs.Common.{sym, ap, ◌∙◌, set-set}
use Rattle.std.proofs.Math.Logic.{inl, inr}
use Rattle.std.proofs.Math.ListN.{length}
use Rattle.std.specs.Int.Bits.{bit_and, bit_or}
use Rattle.std.specs.Int.Signed.{lt_z}
use borrow.Author.Tests.{eqb-true, eqb-false, eq-eqb}
use Rattle.kernel.specs.declared.records.Call.{Call}
use Rattle.kernel.specs.declared.records.Thread.{Thread}
use Rattle.kernel.specs.declared.records.Words.{Words}
use Rattle.kernel.specs.declared.records.Kernel.{Kernel}
use Rattle.kernel.specs.Numbers.{nobody, nowhere, ready, queued, suspended, awaiting, ok, timed_out, was_reset, immediate}
use Rattle.kernel.specs.Tables.{thread_at, counter_at, holder_at, with_thread, with_woken, with_words}
use Rattle.kernel.specs.Words.{with_bit}
use Rattle.kernel.specs.Moves.{readied, woken, slept, finished, blocked, taken_off}
use Rattle.kernel.specs.Waiters.{queued_at, first_waiter}
use Rattle.kernel.specs.Queue.{enqueued, released_first, released_all}
use Rattle.kernel.specs.Semaphore.{taken, waited, signalled, reset_to}
use Rattle.kernel.specs.Reference.{resumed}
use Rattle.kernel.specs.Event.{with_pending, flagged, took_flags, is_met, event_signalled, event_waited}
use Rattle.kernel.specs.Ticking.{ticked}
use Rattle.kernel.proofs.Cases.{split, same_or, contrary, both-means, both_true}
use Rattle.kernel.proofs.CountersLaws.{debt-some, below_top}
use Rattle.kernel.proofs.TablesLaws.{Sized, thread-same}
use Rattle.kernel.proofs.MovesLaws.{wake-row, wake-past, finish-interrupt}
use Rattle.kernel.proofs.WaitersLaws.{queued-place, TellsAt, first-waiter-cases, first-waiter-counted}
use Rattle.kernel.proofs.QueueLaws.{release-all-keeps, release-all-empties}
use Rattle.library.specs.declared.sizes.Sizes.{Sizes}
use Rattle.library.specs.Binary.{binary_signalled}
use Rattle.rules.specs.RowRules.{wait_state, wait_place}
use Rattle.rules.specs.PoolRules.{is_promised}
use Rattle.promises.specs.Together.Good.{GoodSizes}
use Rattle.promises.specs.Kept.Tallies.{Tallies}
use Rattle.promises.specs.Kept.Rows.{not-awaiting}
use Rattle.promises.specs.Kept.Chain.{Waken, Sleeper, sleep_of, signal_at, take_at, Move, Chained, one, rested, after, queued-unready}

-- a thread whose call may finish: it is ready, and no object is promised to it
pub record Free (t : Thread) : Type 0 where
  pub is-ready : t.state ≡ ready
  pub unpromised : is_promised t ≡ false

-- whose step it is: an interrupt's, or such a thread's
abbrev pub Caller : Sizes → Kernel → ℕ → Type 0
Caller z k i = (i ≡ nobody) ⊎ ((i < z.threads) × Free (thread_at k i))

module _ (z : Sizes) (g : GoodSizes z) where
  abbrev n : ℕ
  n = z.threads

  module _ (k : Kernel) where
    pub wake-chained : (i : ℕ) (m : ℤ) → Waken z k i m → Chained z k (woken k i m) []
    wake-chained i m w = one (Move.wakes i m w)

    pub finish-chained : (i : ℕ) (m : ℤ) (d : ℕ) → Caller z k i → Chained z k (finished k i m d) []
    finish-chained i m d (inl e) =
        rw (finish-interrupt k i m d e)
        (one (Move.answers (record { message = m; datum = d })))
    finish-chained i m d (inr f) =
        one (Move.finishes i m d (record { within = f.0; is-ready = f.1.is-ready; unpromised = f.1.unpromised }))

    pub tick-chained : Chained z k (ticked k n) []
    tick-chained = one Move.ages

    -- the sleep in a call that fits its state and place
    pub sleep-chained : (i s p : ℕ) (c : Call) → s ≡ wait_state c.kind → p ≡ wait_place c.kind c.object → Sleeper z k i c
        → Chained z k (slept k i s p c) (sleep_of i ∷ [])
    sleep-chained i s p c e f w = rw (e, f) (one (Move.sleeps i c w))

    -- what cannot be had at once
    pub block-chained : (i s p : ℕ) (c : Call) → s ≡ wait_state c.kind → p ≡ wait_place c.kind c.object
        → (c.timeout ≢ 0 → Sleeper z k i c) → Caller z k i
        → Chained z k (blocked k i s p c) (cond (eqb c.timeout immediate) [] (sleep_of i ∷ []))
    unfolding blocked
    block-chained i s p c e f w a =
        split (eqb c.timeout immediate) (λ b. rw b (finish-chained i timed_out 0 a))
        (λ b. rw b (sleep-chained i s p c e f (w (eqb-false c.timeout immediate b))))

    -- who waits at a place may be made ready; at a semaphore, by a reset
    waiter-waken : (p i : ℕ) (m : ℤ) → i < n → queued_at p (thread_at k i) ≡ true → (p < 20 → m ≡ was_reset) → Waken z k i m
    waiter-waken p i m l e c =
        record {
          within = l;
          asleep = queued-unready p (thread_at k i) e;
          cause = λ q h f. c (rw (eqb-true p q (sym (queued-place p q (thread_at k i) e) ∙ f)) h);
        }

    pub release-first-chained : Sized k → (p : ℕ) → TellsAt n k p → (m : ℤ) → (p < 20 → m ≡ was_reset) → Chained z k (released_first k p m) []
    unfolding released_first
    release-first-chained s p told m c =
        elim (first-waiter-cases k n g.threads.1 p told) [
          | inl f ↦ wake-chained (first_waiter k p) m (waiter-waken p (first_waiter k p) m f.below f.passes c)
          | inr f ↦ rw (f.0, wake-past k nobody m (omega (arith, s.threads)) (omega (arith, s.woken)) (omega arith)) rested
        ]

  pub release-all-chained : (k : Kernel) (p : ℕ) → TellsAt n k p → (m : ℤ) → (p < 20 → m ≡ was_reset) → Chained z k (released_all k p m) []
  release-all-chained k p told m c =
      release-all-keeps k p m n g.threads.1 told (λ h. Chained z k h [])
      (λ i l h e a. after a (wake-chained h i m (waiter-waken h p i m l e c))) rested

  -- ---- semaphores

  module _ (k : Kernel) (p : ℕ) (semaphore : p < 20) (told : TellsAt n k p) where
    pub signal-chained : Tallies n p k → lt_z (counter_at k p) (pos 2147483647) ≡ true
        → Chained z k (signalled k p).kernel (signal_at p ∷ [])
    unfolding signalled released_first
    signal-chained t b =
        split (lt_z (counter_at k p) (pos 0))
        (λ e. rw e
        (let f = first-waiter-counted k n g.threads.1 p told (omega (arith, t.tally, debt-some (counter_at k p) e)) in
        one (Move.passes p (first_waiter k p) semaphore f)))
        (λ e. rw e (one (Move.raises p semaphore e b)))

    -- "as 3 if the counter is below 1, else nothing"
    pub binary-chained : Tallies n p k → Chained z k (binary_signalled k p) (cond (lt_z (counter_at k p) (pos 1)) (signal_at p ∷ []) [])
    unfolding binary_signalled
    binary-chained t =
        split (lt_z (counter_at k p) (pos 1)) (λ e. rw e (signal-chained t (below_top (counter_at k p) 1 (omega arith) e))) (λ e. rw e rested)

  -- one unit taken
  pub take-chained : (k : Kernel) (p : ℕ) → p < 20 → lt_z (pos 0) (counter_at k p) ≡ true → Chained z k (taken k p) (take_at p ∷ [])
  take-chained k p l e = one (Move.takes p l e)

  pub reset-chained : (k : Kernel) (p : ℕ) → TellsAt n k p → (c : ℤ) → p < 16 → lt_z c (pos 0) ≡ false → Chained z k (reset_to k p c) []
  unfolding reset_to
  reset-chained k p told c l e =
      after (release-all-chained k p told was_reset (λ h. refl))
      (one (Move.sets p c (record {
        semaphore = l;
        none = release-all-empties k p was_reset n g.threads.1 told;
        value = e;
      })))

  -- "counter above 0: less 1, answer 0. Else timeout 0: answer -1 .. Else counter less 1 and sleep"
  pub wait-chained : (k : Kernel) (i p : ℕ) (c : Call) → p < 20 → queued ≡ wait_state c.kind → p ≡ wait_place c.kind c.object
      → (c.timeout ≢ 0 → lt_z (pos 0) (counter_at k p) ≡ false → Sleeper z k i c) → Caller z k i
      → Chained z k (waited k i p c)
      (cond (lt_z (pos 0) (counter_at k p)) (take_at p ∷ []) (cond (eqb c.timeout immediate) [] (sleep_of i ∷ [])))
  unfolding waited enqueued taken
  wait-chained k i p c l s f w a =
      split (lt_z (pos 0) (counter_at k p))
      (λ e. rw e (after (take-chained k p l e) (finish-chained (taken k p) i ok 0 a)))
      (λ e. rw e (block-chained k i queued p c s f (λ t. w t e) a))

  -- ---- references

  pub resume-chained : (k : Kernel) (r : ℕ) (m : ℤ) → Sized k → (holder_at k r ≢ nobody → holder_at k r < n)
      → (holder_at k r ≢ nobody → (thread_at k (holder_at k r)).state ≡ suspended) → Chained z k (resumed k r m) []
  unfolding resumed
  resume-chained k r m s h a =
      same_or (holder_at k r) nobody
      (λ e. rw (e, wake-past k nobody m (omega (arith, s.threads)) (omega (arith, s.woken)) (omega arith)) rested)
      (λ d. wake-chained k (holder_at k r) m
      (record {
        within = h d;
        asleep = λ e. absurd (not-ready (sym (a d) ∙ e));
        cause =
            λ p l e. absurd (not-queued
            (sym (a d) ∙ eqb-true (thread_at k (holder_at k r)).state queued
            (both-means (eqb (thread_at k (holder_at k r)).state queued) (eqb (thread_at k (holder_at k r)).place p) e).0));
      }))
    where
      not-ready : suspended ≡ ready → ⊥
      not-ready e = omega arith

      not-queued : suspended ≡ queued → ⊥
      not-queued e = omega arith

  -- ---- events

  -- other pending flags, of a thread that awaits none of them
  pub flags-chained : (k : Kernel) (i f : ℕ) → ((thread_at k i).state ≡ awaiting → bit_and f (thread_at k i).awaited ≡ 0)
      → Chained z k (with_thread k i (with_pending (thread_at k i) f)) []
  flags-chained k i f a = one (Move.flags i f a)

  -- "pending flags in a are cleared and are the datum"
  pub take-flags-chained : (k : Kernel) (i mask : ℕ) → i < n → Sized k → (thread_at k i).state ≡ ready
      → is_promised (thread_at k i) ≡ false → Chained z k (took_flags k i mask) []
  unfolding took_flags
  take-flags-chained k i mask l s r u =
      let t = with_pending (thread_at k i) ((thread_at k i).pending - bit_and (thread_at k i).pending mask) in
      let here : i < length k.threads = omega (arith, s.threads, g.threads.1) in
      let row = thread-same k i t here in
      let d = bit_and (thread_at k i).pending mask in
      after (flags-chained k i t.pending (λ e. absurd (not-awaiting (sym r ∙ e))))
      (one (Move.finishes i ok d (record { within = l; is-ready = rw row r; unpromised = rw row u })))

  -- 14: pending flags are taken at once, else the thread waits for them
  pub event-wait-chained : (k : Kernel) (i : ℕ) (c : Call) → Sized k → i < n → Free (thread_at k i) → c.kind ≡ 14
      → (c.timeout ≢ 0 → bit_and (thread_at k i).pending c.operand ≡ 0 → Sleeper z k i c)
      → Chained z k (event_waited k i c)
      (cond (eqb (bit_and (thread_at k i).pending c.operand) 0) (cond (eqb c.timeout immediate) [] (sleep_of i ∷ [])) [])
  unfolding event_waited
  event-wait-chained k i c s l f e w =
      split (eqb (bit_and (thread_at k i).pending c.operand) 0)
      (λ b. rw b (block-chained k i awaiting nowhere c (rw e) (rw e)
      (λ t. w t (eqb-true (bit_and (thread_at k i).pending c.operand) 0 b)) (inr (l, f))))
      (λ b. rw b (take-flags-chained k i c.operand l s f.is-ready f.unpromised))

  -- who awaits events is noted as ready, and at no place
  abbrev alone : Kernel → ℕ → Words
  alone k i = record { ready = with_bit k.words.ready i; waiting = k.words.waiting; unused = k.words.unused }

  -- it leaves neither a place nor a reference
  wake-alone : (k : Kernel) (i : ℕ) (m : ℤ) → (thread_at k i).state ≡ awaiting
      → woken k i m ≡ with_words (with_woken (with_thread k i (readied (thread_at k i) m k.cause k.steps)) i) (alone k i)
  unfolding woken taken_off
  wake-alone k i m e = rw e

  -- who awaits events is woken before its flags are told or after: it comes to the same
  told-woken : (k : Kernel) (i f : ℕ) → i < length k.threads → (thread_at k i).state ≡ awaiting
      → woken (with_thread k i (with_pending (thread_at k i) f)) i ok ≡ with_thread (woken k i ok) i (with_pending (thread_at (woken k i ok) i) f)
  told-woken k i f h e =
      wake-alone (with_thread k i t) i ok (ap (λ (x : Thread). x.state) (thread-same k i t h) ∙ e)
      ∙ ap (λ (x : Thread). with_words (with_woken (with_thread (with_thread k i t) i (by x)) i) (alone k i)) (thread-same k i t h)
      ∙ ap placed (set-set k.threads i t (by t) ∙ sym (set-set k.threads i (by (thread_at k i)) (by t)))
      ∙ sym (ap (λ (x : Kernel). with_thread x i (with_pending (thread_at (woken k i ok) i) f)) (wake-alone k i ok e)
      ∙ ap (λ (x : Thread). with_thread (with_words (with_woken (with_thread k i (by (thread_at k i))) i) (alone k i)) i (with_pending x f))
      (wake-row k i ok h))
    where
      t : Thread
      t = with_pending (thread_at k i) f

      by : Thread → Thread
      by x = readied x ok k.cause k.steps

      placed : List Thread → Kernel
      placed l =
          record {
            threads = l;
            counters = k.counters;
            references = k.references;
            woken = set k.woken i true;
            finished = k.finished;
            answer = k.answer;
            words = alone k i;
            steps = k.steps;
            cause = k.cause;
          }

  -- 13: "the flags of a are ORed to those pending"; "if its state is awaiting events, for any of them, it is made ready"
  pub event-signal-chained : (k : Kernel) (i mask : ℕ) → Sized k → i < n → Chained z k (event_signalled k i mask) []
  unfolding event_signalled
  event-signal-chained k i mask s l =
      split (is_met (flagged (thread_at k i) mask)) (λ e. rw e (met e))
      (λ e. rw e (flags-chained k i (bit_or (thread_at k i).pending mask) (unmet e)))
    where
      here : i < length k.threads
      here = omega (arith, s.threads, g.threads.1)

      f : ℕ
      f = bit_or (thread_at k i).pending mask

      unmet : is_met (flagged (thread_at k i) mask) ≡ false → (thread_at k i).state ≡ awaiting → bit_and f (thread_at k i).awaited ≡ 0
      unmet e a =
          split (eqb (bit_and f (thread_at k i).awaited) 0) (λ b. eqb-true (bit_and f (thread_at k i).awaited) 0 b)
          (λ b. contrary (both_true (eq-eqb (thread_at k i).state awaiting a) (rw b)) e)

      met : is_met (flagged (thread_at k i) mask) ≡ true → Chained z k (woken (with_thread k i (flagged (thread_at k i) mask)) i ok) []
      met e =
          let a = eqb-true (thread_at k i).state awaiting (both-means (eqb (thread_at k i).state awaiting) _ e).0 in
          rw (told-woken k i f here a)
          (after (wake-chained k i ok
          (record {
            within = l;
            asleep = λ r. absurd (not-ready (sym a ∙ r));
            cause =
                λ p h q. absurd (not-queued
                (sym a ∙ eqb-true (thread_at k i).state queued
                (both-means (eqb (thread_at k i).state queued) (eqb (thread_at k i).place p) q).0));
          }))
          (flags-chained (woken k i ok) i f (λ r. absurd (not-awaiting (sym (ap (λ (x : Thread). x.state) (wake-row k i ok here)) ∙ r)))))
        where
          not-ready : awaiting ≡ ready → ⊥
          not-ready e = omega arith

          not-queued : awaiting ≡ queued → ⊥
          not-queued e = omega arith
