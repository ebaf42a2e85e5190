-- Settling: every continued call is a chain that leaves the tables whole, and finishes a call or puts its thread to sleep. So settling
-- ends, within twice the threads, with a running thread that has no unfinished call.
use Rattle.std.specs.Prelude.{ℕ, zero, suc, ◌+◌, ◌-◌, ◌*◌, ◌≤◌, ◌<◌, ◌≡◌, ◌≢◌, ◌⊎◌, Bool, true, not, ◌&&◌, eqb, length, ℤ}
use native.Mathlib.Omega.{arith}
use Rattle.std.proofs.Math.Path.{refl}
use Rattle.std.proofs.Common.{sym, ap, subst, inl, inr}
use Rattle.std.proofs.Math.Bool.{false, and-false}
use mathlib.Core.List.{[], ◌++◌}
use Rattle.std.specs.Int.Bits.{bit_and}
use borrow.Author.Tests.{eqb-true, eqb-false, eq-eqb, ne_eqb}
use Rattle.kernel.specs.declared.records.Call.{Call}
use Rattle.kernel.specs.declared.records.Thread.{Thread}
use Rattle.kernel.specs.declared.records.Kernel.{Kernel}
use Rattle.kernel.specs.Numbers.{nobody, ready, queued, ok, was_reset, timed_out}
use Rattle.kernel.specs.Places.{writers_place, readers_place}
use Rattle.kernel.specs.Walk.{count_of}
use Rattle.kernel.specs.Tables.{thread_at, with_thread}
use Rattle.kernel.specs.Moves.{woken, slept, finished}
use Rattle.kernel.specs.Waiters.{is_ready, first_waiter}
use Rattle.kernel.specs.Queue.{enqueued, released_first}
use Rattle.kernel.specs.Event.{with_pending, took_flags}
use Rattle.kernel.proofs.Cases.{split, same_or, chosen, contrary, both-means}
use Rattle.kernel.proofs.WalkLaws.{bit_le, count-le, count-agree, count-change}
use Rattle.kernel.proofs.QueueLaws.{release-first-sizes}
use Rattle.kernel.proofs.TablesLaws.{Sized, sized-kept, thread-sizes, thread-same, thread-kept, used_all, thread-blank}
use Rattle.kernel.proofs.WaitersLaws.{TellsAt, first-ready-cases, first-waiter-cases}
use Rattle.kernel.proofs.MovesLaws.{wake-row, wake-others, wake-past, sleep-row, sleep-others, finish-row, finish-others, block-cases}
use Rattle.library.specs.declared.sizes.Sizes.{Sizes}
use Rattle.library.specs.declared.tables.Plant.{Plant}
use Rattle.library.specs.Causes.{caused}
use Rattle.library.specs.Signs.{same}
use Rattle.library.specs.Sizes.{slots_at}
use Rattle.library.specs.Ring.{no_slot, fetched}
use Rattle.library.specs.Mailbox.{message_at, placed_for, post_tried, post_done, fetch_tried, fetch_done}
use Rattle.library.specs.Pool.{top_of, handed_over}
use Rattle.library.specs.Settling.{is_box_call, does_more, answered_only, went_on, continued, running_in, is_settled, settled}
use Rattle.library.specs.Tables.{mailbox_at, pool_at, with_kernel}
use Rattle.rules.specs.PoolRules.{is_promised}
use Rattle.steps.specs.Stepping.{budget_of}
use Rattle.promises.specs.Together.Good.{GoodThread}
use Rattle.promises.specs.Kept.Rows.{CallSound}
use Rattle.promises.specs.Kept.WordRule.{Said, writers-told, readers-told}
use Rattle.promises.specs.Kept.Chain.{Move, one, rested, after, count_in}
use Rattle.promises.specs.Kept.Moving.{Free, take-flags-chained}
use Rattle.promises.specs.Kept.Whole.{Whole, kernel-done, caused-done}
use Rattle.promises.specs.Kept.BoxActs.{Tries, Tryer, post-tries, fetch-tries, hand-tries, released-row}

-- a thread that runs with an unfinished call
pub record Due (z : Sizes) (k : Kernel) (i : ℕ) : Type 0 where
  pub within : i < z.threads
  pub is-ready : (thread_at k i).state ≡ ready
  pub unfinished : (thread_at k i).call.kind ≢ 0

-- ---- one call continued

module _ (p : Plant) (w : Whole p.sizes p) (i : ℕ) (d : Due p.sizes p.kernel i) where
  abbrev z : Sizes
  z = p.sizes

  abbrev k : Kernel
  k = p.kernel

  abbrev t : Thread
  t = thread_at k i

  row : GoodThread z t
  row = w.kernel.rows i d.within

  -- "all others answer their wake message with datum 0"
  others-tries : answered_only t ≡ true → Tries z p (with_kernel p (finished k i t.message 0))
  unfolding count_in
  others-tries e =
      record {
        notes = [];
        done = kernel-done z p (finished k i t.message 0) [] w
            (one (Move.finishes i t.message 0 (record { within = d.within; is-ready = d.is-ready; unpromised = none })))
            (λ q l. refl);
      }
    where
      none : is_promised t ≡ false
      none =
          split (eqb t.call.kind 20 && same t.message ok)
          (λ b.
          let x = both-means (eqb t.call.kind 20) (same t.message ok) b in
          contrary e (rw (eqb-true t.call.kind 20 x.0, x.1)))
          (λ b. rw b (and-false (is_ready t)))

  -- "then clears and answers all pending flags in its mask"
  flags-tries : t.call.kind ≡ 14 → Tries z p (with_kernel p (took_flags k i t.call.operand))
  unfolding count_in
  flags-tries e =
      record {
        notes = [];
        done = kernel-done z p (took_flags k i t.call.operand) [] w
            (take-flags-chained z w.sizes k i t.call.operand d.within w.kernel.rules.sized d.is-ready
            (rw e (and-false (is_ready t))))
            (λ q l. refl);
      }

  -- a mailbox's or a pool's call woken with 0
  module _ (e : answered_only t ≡ false) (no-flags : eqb t.call.kind 14 ≡ false) where
    more : does_more t.call.kind ≡ true
    more = split (does_more t.call.kind) (λ b. b) (λ b. contrary (rw b) e)

    box : is_box_call t.call.kind ≡ true
    box = rw no-flags at more

    woken-ok : same t.message ok ≡ true
    woken-ok = split (same t.message ok) (λ b. b) (λ b. contrary (rw (more, b)) e)

    -- it keeps what it slept with: "it may sleep again with its FULL timeout"
    fits : CallSound z t.call
    fits =
        record {
          kind = row.kind d.unfinished;
          object = row.object d.unfinished;
          timeout = row.timeout d.unfinished;
          operand = row.operand d.unfinished;
        }

    free : t.call.kind ≢ 20 → Free t
    free n =
        record { is-ready = d.is-ready; unpromised = rw (ne_eqb t.call.kind 20 n) (and-false (is_ready t)) }

    tryer : t.call.kind ≢ 20 → Tryer z k i t.call
    tryer n =
        record { asks = inr (d.within, free n); sleeps = λ x. (d.within, (free n, fits)) }

    -- the two kinds of post are left
    is-post : t.call.kind ≢ 17 → t.call.kind ≢ 20 → (t.call.kind ≡ 15) ⊎ (t.call.kind ≡ 16)
    is-post a b =
        split (eqb t.call.kind 15) (λ f. inl (eqb-true t.call.kind 15 f))
        (λ f. inr (eqb-true t.call.kind 16
        (split (eqb t.call.kind 16) (λ g. g)
        (λ g. contrary box (rw (f, g, ne_eqb t.call.kind 17 a, ne_eqb t.call.kind 20 b))))))

    -- its mailbox is in the configuration
    mailbox-there : t.call.kind ≢ 20 → t.call.object < z.mailboxes
    mailbox-there b =
        same_or t.call.kind 17 (λ f. rw f at fits.object)
        (λ a. elim (is-post a b) [ inl f ↦ rw f at fits.object | inr f ↦ rw f at fits.object ])

    fetch-again : t.call.kind ≡ 17 → Tries z p (fetch_tried p i t.call)
    fetch-again f =
        let other : t.call.kind ≢ 20 = λ x. absurd (omega (arith, f, x)) in
        fetch-tries p w i t.call (tryer other) (mailbox-there other) (rw f) (rw f)

    hand-over : t.call.kind ≡ 20 → Tries z p (handed_over p i t.call.object)
    hand-over f =
        hand-tries p w t.call.object (rw f at fits.object) i d.within (rw (d.is-ready, f, woken-ok)) refl

    post-again : t.call.kind ≢ 17 → t.call.kind ≢ 20 → Tries z p (post_tried p i t.call)
    post-again a b =
        elim (is-post a b) [
          | inl f ↦ post-tries p w i t.call (tryer b) (mailbox-there b) (rw f) (rw f)
          | inr f ↦ post-tries p w i t.call (tryer b) (mailbox-there b) (rw f) (rw f)
        ]

  -- "If it has an unfinished call, that call is continued"
  pub on-tries : Tries z p (went_on p i)
  unfolding went_on
  on-tries =
      chosen (Tries z p) (answered_only t) others-tries
      (λ e. chosen (Tries z p) (eqb t.call.kind 14) (λ n. flags-tries (eqb-true t.call.kind 14 n))
      (λ n. chosen (Tries z p) (eqb t.call.kind 17) (λ f. fetch-again e n (eqb-true t.call.kind 17 f))
      (λ f. chosen (Tries z p) (eqb t.call.kind 20) (λ g. hand-over e n (eqb-true t.call.kind 20 g))
      (λ g. post-again e n (eqb-false t.call.kind 17 f) (eqb-false t.call.kind 20 g)))))

-- ---- each continued call lowers a weight: 1 for a call that sleeps, 2 for one that is to be continued

abbrev has_call : Thread → Bool
has_call t = not (eqb t.call.kind 0)

abbrev is_due : Thread → Bool
is_due t = is_ready t && has_call t

abbrev weight : ℕ → Kernel → ℕ
weight n k = count_of (λ i. has_call (thread_at k i)) n + count_of (λ i. is_due (thread_at k i)) n

-- at most 2 a thread
weight-le : (n : ℕ) (k : Kernel) → weight n k ≤ 2 * n
weight-le n k = omega (arith, count-le (λ i. has_call (thread_at k i)) n, count-le (λ i. is_due (thread_at k i)) n)

module _ (n : ℕ) (few : n ≤ 16) (k : Kernel) (sized : Sized k) (i : ℕ) (within : i < n) where
  here : i < length k.threads
  here = omega (arith, sized.threads)

  someone : i ≢ nobody
  someone = omega arith

  -- a waking weighs at most one more
  wake-weight : (m : ℤ) → weight n (woken k i m) ≤ weight n k + 1
  wake-weight m =
      omega (
        arith,
        rw (wake-row k i m here) at (count-change (λ j. has_call (thread_at (woken k i m) j)) (λ j. has_call (thread_at k j)) n i within
            (λ j l d. ap has_call (wake-others k i m j d))),
        count-change (λ j. is_due (thread_at (woken k i m) j)) (λ j. is_due (thread_at k j)) n i within
            (λ j l d. ap is_due (wake-others k i m j d)),
        bit_le (is_due (thread_at (woken k i m) i)),
      )

  module _ (is-ready : (thread_at k i).state ≡ ready) (unfinished : (thread_at k i).call.kind ≢ 0) where
    -- a call finished weighs 2 less
    finish-weight : (m : ℤ) (d : ℕ) → weight n (finished k i m d) + 2 ≡ weight n k
    finish-weight m d =
        omega (
          arith,
          rw (finish-row k i m d someone here, ne_eqb (thread_at k i).call.kind 0 unfinished)
              at (count-change (λ j. has_call (thread_at (finished k i m d) j)) (λ j. has_call (thread_at k j)) n i within
              (λ j l x. ap has_call (finish-others k i m d j x))),
          rw (
            finish-row k i m d someone here,
            eq-eqb (thread_at k i).state ready is-ready,
            ne_eqb
                (thread_at k i).call.kind 0 unfinished,
          )
              at (count-change (λ j. is_due (thread_at (finished k i m d) j)) (λ j. is_due (thread_at k j)) n i within
              (λ j l x. ap is_due (finish-others k i m d j x))),
        )

    -- and one that sleeps again 1 less
    sleep-weight : (p : ℕ) (c : Call) → weight n (slept k i queued p c) + 1 ≤ weight n k
    sleep-weight p c =
        let low : i < 16 = omega arith in
        omega (
          arith,
          rw (ne_eqb (thread_at k i).call.kind 0 unfinished)
              at (count-change (λ j. has_call (thread_at (slept k i queued p c) j)) (λ j. has_call (thread_at k j)) n i within
              (λ j l x. ap has_call (sleep-others k i queued p c j x))),
          bit_le (has_call (thread_at (slept k i queued p c) i)),
          rw (
            sleep-row k i queued p c low here,
            eq-eqb (thread_at k i).state ready is-ready,
            ne_eqb
                (thread_at k i).call.kind 0 unfinished,
          )
              at (count-change (λ j. is_due (thread_at (slept k i queued p c) j)) (λ j. is_due (thread_at k j)) n i within
              (λ j l x. ap is_due (sleep-others k i queued p c j x))),
        )

    enqueue-weight : (p : ℕ) (c : Call) → weight n (enqueued k i p c) < weight n k
    unfolding enqueued
    enqueue-weight p c =
        block-cases k i queued p c (λ h. weight n h < weight n k) (λ e. omega (arith, finish-weight timed_out 0))
        (λ e. omega (arith, sleep-weight p c))

-- a release weighs at most one more
release-weight : (n : ℕ) → n ≤ 16 → (k : Kernel) → Sized k → (p : ℕ) → TellsAt n k p → (m : ℤ) → weight n (released_first k p m) ≤ weight n k + 1
unfolding released_first
release-weight n few k s p told m =
    elim (first-waiter-cases k n few p told) [
      | inl f ↦ wake-weight n few k s (first_waiter k p) f.below m
      | inr f ↦ rw (f.0, wake-past k nobody m (omega (arith, s.threads)) (omega (arith, s.woken)) (omega arith)) (omega arith)
    ]

module _ (p : Plant) (w : Whole p.sizes p) (i : ℕ) (d : Due p.sizes p.kernel i) where
  abbrev n : ℕ
  n = p.sizes.threads

  abbrev k' : Kernel
  k' = p.kernel

  few : n ≤ 16
  few = w.sizes.threads.1

  sized : Sized k'
  sized = w.kernel.rules.sized

  -- a release, and the call finishes
  finish-released : (q : ℕ) → TellsAt n k' q → (x : ℕ) → weight n (finished (released_first k' q ok) i ok x) < weight n k'
  finish-released q told x =
      let row = released-row p.sizes w.sizes k' w.kernel i q told ok d.within d.is-ready in
      omega (
        arith,
        release-weight n few k' sized q told ok,
        finish-weight n few (released_first k' q ok) (sized-kept (release-first-sizes k' q ok) sized) i d.within
            (rw row d.is-ready) (rw row d.unfinished) ok x,
      )

  finish-lighter : (m : ℤ) (x : ℕ) → weight n (finished k' i m x) < weight n k'
  finish-lighter m x = omega (arith, finish-weight n few k' sized i d.within d.is-ready d.unfinished m x)

  -- "clears and answers": the cleared row has the same call, in the same state
  flags-lighter : (mask : ℕ) → weight n (took_flags k' i mask) < weight n k'
  unfolding took_flags
  flags-lighter mask =
      let u = with_pending (thread_at k' i) ((thread_at k' i).pending - bit_and (thread_at k' i).pending mask) in
      let row = thread-same k' i u (omega (arith, sized.threads, few, d.within)) in
      omega (
        arith,
        finish-weight n few (with_thread k' i u) (sized-kept (thread-sizes k' i u) sized) i d.within (rw row d.is-ready)
            (rw row d.unfinished) ok (bit_and (thread_at k' i).pending mask),
        count-agree (λ j. has_call (thread_at (with_thread k' i u) j)) (λ j. has_call (thread_at k' j)) n (λ j l. thread-kept k' i u has_call refl j),
        count-agree (λ j. is_due (thread_at (with_thread k' i u) j)) (λ j. is_due (thread_at k' j)) n (λ j l. thread-kept k' i u is_due refl j),
      )

  enqueue-lighter : (q : ℕ) (c : Call) → weight n (enqueued k' i q c) < weight n k'
  enqueue-lighter q c = enqueue-weight n few k' sized i d.within d.is-ready d.unfinished q c

  abbrev Lighter : Plant → Type 0
  Lighter h = weight n h.kernel < weight n k'

  -- who waits at a mailbox is told
  told : Said p.sizes k'
  told = w.kernel.rules.words

  post-lighter : (c : Call) → c.object < p.sizes.mailboxes → Lighter (post_tried p i c)
  unfolding post_tried post_done
  post-lighter c there =
      chosen Lighter (eqb (mailbox_at p c.object).reset 0)
      (λ a. chosen Lighter (eqb (placed_for (mailbox_at p c.object) c.kind (slots_at p.sizes c.object)).slot no_slot)
      (λ b. enqueue-lighter (writers_place c.object) c) (λ b. finish-released (readers_place c.object) (readers-told k' p.sizes w.sizes told c.object there) 0))
      (λ a. finish-lighter was_reset 0)

  fetch-lighter : (c : Call) → c.object < p.sizes.mailboxes → Lighter (fetch_tried p i c)
  unfolding fetch_tried fetch_done
  fetch-lighter c there =
      chosen Lighter (eqb (mailbox_at p c.object).reset 0)
      (λ a. chosen Lighter (eqb (fetched (mailbox_at p c.object).positions (slots_at p.sizes c.object)).slot no_slot)
      (λ b. enqueue-lighter (readers_place c.object) c)
      (λ b. finish-released (writers_place c.object) (writers-told k' p.sizes w.sizes told c.object there)
      (message_at (mailbox_at p c.object) (fetched (mailbox_at p c.object).positions (slots_at p.sizes c.object)).slot)))
      (λ a. finish-lighter was_reset 0)

  hand-lighter : (o : ℕ) → Lighter (handed_over p i o)
  unfolding handed_over
  hand-lighter o = finish-lighter ok (top_of (pool_at p o))

  -- EVERY CONTINUED CALL LOWERS THE WEIGHT
  on-lighter : Lighter (went_on p i)
  unfolding went_on
  on-lighter =
      chosen Lighter (answered_only (thread_at k' i)) (λ e. finish-lighter (thread_at k' i).message 0)
      (λ e. chosen Lighter (eqb (thread_at k' i).call.kind 14) (λ n. flags-lighter (thread_at k' i).call.operand)
      (λ n. chosen Lighter (eqb (thread_at k' i).call.kind 17)
      (λ f. fetch-lighter (thread_at k' i).call
      (mailbox-there p w i d e n (λ x. absurd (omega (arith, eqb-true (thread_at k' i).call.kind 17 f, x)))))
      (λ f. chosen Lighter (eqb (thread_at k' i).call.kind 20) (λ g. hand-lighter (thread_at k' i).call.object)
      (λ g. post-lighter (thread_at k' i).call (mailbox-there p w i d e n (eqb-false (thread_at k' i).call.kind 20 g))))))

-- ---- settling

-- tables that have not settled have a running thread whose call is to be continued
unsettled-due : (z : Sizes) (p : Plant) → Whole z p → is_settled p ≡ false → Due p.sizes p.kernel (running_in p)
unsettled-due z p w e =
    let v = subst (λ (y : Sizes). Whole y p) (sym w.same) w in
    elim (first-ready-cases p.kernel p.sizes.threads v.sizes.threads.1 v.kernel.rules.words.ready) [
      | inl f ↦ record {
        within = f.below;
        is-ready = eqb-true (thread_at p.kernel (running_in p)).state ready f.passes;
        unfinished = eqb-false (thread_at p.kernel (running_in p)).call.kind 0 e;
      }
      | inr f ↦ contrary
          (rw (f.0, thread-blank p.kernel nobody (omega (arith, w.kernel.rules.sized.threads)))) e
    ]

-- settling: a chain that leaves the tables whole, and no call of the running thread to be continued
pub record Settled (z : Sizes) (p h : Plant) : Type 0 where
  pub tries : Tries z p h
  pub ended : is_settled h ≡ true

tries-then : {z : Sizes} {p j h : Plant} → Tries z p j → Tries z j h → Tries z p h
tries-then a b =
    record {
      notes = a.notes ++ b.notes;
      done = record { chained = after a.done.chained b.done.chained; whole = b.done.whole };
    }

tries-none : {z : Sizes} {p : Plant} → Whole z p → Tries z p p
tries-none w = record { notes = []; done = record { chained = rested; whole = w } }

-- one call continued, of tables whose sizes are z
continue-at : (z : Sizes) (p : Plant) → Whole z p → is_settled p ≡ false
    → Tries z p (continued p (running_in p)) × (weight z.threads (continued p (running_in p)).kernel < weight z.threads p.kernel)
continue-at z p w e =
    subst (λ (y : Sizes). Tries y p (continued p (running_in p)) ×
    (weight y.threads (continued p (running_in p)).kernel < weight y.threads p.kernel))
    w.same
    (let v = subst (λ (y : Sizes). Whole y p) (sym w.same) w in
    let d = unsettled-due z p w e in
    let i = running_in p in
    let began = caused-done p.sizes p (thread_at p.kernel i).call.kind v in
    let q = caused p (thread_at p.kernel i).call.kind in
    let at : Due q.sizes q.kernel i = record { within = d.within; is-ready = d.is-ready; unfinished = d.unfinished } in (
      tries-then (record { notes = []; done = began }) (on-tries q began.whole i at),
      on-lighter q began.whole i at,
    ))

-- a budget, spent call by call
pub spent_all : (p : Plant) → settled 0 p ≡ p
unfolding settled
spent_all p = refl

spent-none : (b : ℕ) (p : Plant) → is_settled p ≡ true → settled (suc b) p ≡ p
unfolding settled
spent-none b p e = rw (e, settled)

spent-one : (b : ℕ) (p : Plant) → is_settled p ≡ false → settled (suc b) p ≡ settled b (continued p (running_in p))
unfolding settled
spent-one b p e = rw (e, settled)

-- settling ends with a budget of b, for tables that weigh no more
abbrev EndsWithin : Sizes → ℕ → Type 0
EndsWithin y b = (p : Plant) → Whole y p → weight y.threads p.kernel ≤ b → Settled y p (settled b p)

ends-none : (y : Sizes) → EndsWithin y 0
ends-none y p w h =
    rw (spent_all p)
    (record {
      tries = tries-none w;
      ended = split (is_settled p) (λ e. e) (λ e. absurd (omega (arith, (continue-at y p w e).1)));
    })

ends_more : (y : Sizes) (b : ℕ) → EndsWithin y b → EndsWithin y (suc b)
ends_more y b r p w h =
    split (is_settled p)
    (λ e. rw (spent-none b p e) (record { tries = tries-none w; ended = e }))
    (λ e.
    let x = continue-at y p w e in
    let s = r (continued p (running_in p)) x.0.done.whole (omega (arith, x.1)) in
    rw (spent-one b p e) (record { tries = tries-then x.0 s.tries; ended = s.ended }))

-- SETTLING ENDS, with a budget of the weight
settle-within : (y : Sizes) (b : ℕ) → EndsWithin y b
settle-within y zero = ends-none y
settle-within y (suc b) = ends_more y b (settle-within y b)

-- SETTLING ENDS WITHIN TWICE THE THREADS, with the running thread having no unfinished call
pub settle-ends : (z : Sizes) (p : Plant) → Whole z p → Settled z p (settled (budget_of z.threads) p)
settle-ends z p w =
    settle-within z (budget_of z.threads) p w
    (rw (used_all z.threads w.sizes.threads.1) (weight-le z.threads p.kernel))
