-- What an accepted step does before settling is its row of document 01's table.
use Rattle.std.specs.Prelude.{ℕ, zero, suc, ◌+◌, ◌-◌, ◌%◌, ◌≤◌, ◌<◌, ◌≡◌, refl, ◌≢◌, true, false, cond, eqb, leb, ℤ, pos, negsuc}
use Rattle.std.proofs.Common.{arith, sym, ◌∙◌, subst, inl, inr, eqb-true, eq-eqb, ne_eqb, leb-true, lt-ltb, le-ltb}
use Rattle.std.proofs.Math.Path.{ap}
use Rattle.std.specs.Int.Signed.{lt_z}
use Rattle.kernel.specs.declared.clock.Clock.{Clock}
use Rattle.kernel.specs.declared.records.Thread.{Thread}
use Rattle.kernel.specs.declared.records.Kernel.{Kernel}
use Rattle.kernel.specs.Numbers.{nobody, ready, timed_out, was_reset}
use Rattle.kernel.specs.Places.{queue_place, writers_place, readers_place}
use Rattle.kernel.specs.Tables.{thread_at, counter_at, with_thread}
use Rattle.kernel.specs.Queue.{enqueued, released_first, released_all}
use Rattle.kernel.specs.Semaphore.{signalled, reset_to}
use Rattle.kernel.specs.Reference.{suspended_on, resumed}
use Rattle.kernel.specs.Delay.{slept_for, slept_until}
use Rattle.kernel.specs.Event.{event_signalled}
use Rattle.kernel.specs.Ticking.{counted_off, ticked_one, ticked}
use Rattle.kernel.proofs.Cases.{next, split, same_or, in-or-out, chosen, contrary, both-means}
use Rattle.kernel.proofs.TablesLaws.{Sized, SameSizes, sizes-refl, used_all, sized-kept}
use Rattle.kernel.proofs.CountersLaws.{below_top}
use Rattle.kernel.proofs.WaitersLaws.{TellsAt}
use Rattle.kernel.proofs.QueueLaws.{release-first-sizes, release-all-sizes}
use Rattle.kernel.proofs.SemaphoreLaws.{signal-sizes, reset-sizes}
use Rattle.kernel.proofs.ReferenceLaws.{resume-sizes}
use Rattle.kernel.proofs.EventLaws.{event-signal-sizes}
use Rattle.kernel.proofs.TickingLaws.{tick-later, tick-sizes}
use Rattle.library.specs.declared.calls.Step.{Step}
use Rattle.library.specs.declared.tables.Plant.{Plant}
use Rattle.library.specs.declared.tables.Tables.{Tables}
use Rattle.library.specs.Acting.{message_of, kernel_waits, acted}
use Rattle.library.specs.Binary.{binary_signalled}
use Rattle.library.specs.Ring.{emptied}
use Rattle.library.specs.Mailbox.{both_released, mailbox_reset, mailbox_resumed}
use Rattle.library.specs.Pool.{absent, free, out, mark_at, put_back}
use Rattle.library.specs.Settling.{is_box_call}
use Rattle.library.specs.Tables.{opened, mailbox_at, pool_at, with_kernel, with_mailbox, with_pool}
use Rattle.rules.specs.PlaceRules.{in_use}
use Rattle.steps.specs.Refusal.{refusal_of}
use Rattle.steps.specs.Stepping.{started}
use Rattle.promises.specs.Together.Good.{GoodSizes, GoodThread}
use Rattle.promises.specs.Kept.Tallies.{Tallies, wake-tallies, row-tallies, release-all-tallies}
use Rattle.promises.specs.Kept.CounterRule.{semaphore-place, queue-place}
use Rattle.promises.specs.Kept.WordRule.{semaphore-told, queue-told, pool-told, readers-told}
use Rattle.promises.specs.Kept.Moving.{release-all-chained}
use Rattle.promises.specs.Kept.Chain.{queueing-place, chain-sound}
use Rattle.promises.specs.Kept.PoolKept.{push-is}
use Rattle.promises.specs.Kept.Whole.{Whole}
use Rattle.promises.specs.Kept.Accepting.{Accepted, refusal-none, accepted-as, waits-thread}
use Rattle.promises.specs.Meant.Waiters.{rule-below}
use Rattle.promises.specs.Meant.Kinds.{object-byte, message-up, message-down, Rows, rows, at_once_with, at_once}
use Rattle.promises.specs.Meant.Callers.{caller_runs}
use Rattle.promises.specs.Paper.World.{World, found, box_to, pool_to, ended, fall_asleep, signed, kept}
use Rattle.promises.specs.Paper.Rows.{
  in_reset,
  at_work,
  on_top,
  TickOf,
  Ticks,
  Signal,
  BinarySignal,
  Waits,
  SemaphoreWait,
  Release,
  ReleaseAll,
  Resume,
  EventSignal,
  EventWait,
  Post,
  Fetch,
  Alloc,
  Act,
}
use Rattle.promises.specs.Meant.Moves.{
  world_of,
  alike_same,
  found-is,
  at-put,
  Raisable,
  Joinable,
  thread-world,
  counter-world,
  box-world,
  pool-world,
  wake-world,
  finish-world,
  sleep-world,
}
use Rattle.promises.specs.Meant.Calls.{There, InUse, queue-join, waits-is, semaphore-wait-is, signal-is, binary-is, release-is, release-all-is, resume-is, event-signal-is, event-wait-is, writers, readers, told-writers, post_is, fetch-is, pool-row, pool-used, at-pool, alloc-is}

-- ---- 1: tick

-- one tick more is one row more
tick-next : (k : Kernel) (n : ℕ) → suc n ≤ 16 → ticked k (suc n) ≡ ticked_one n (ticked k n)
unfolding ticked
tick-next k n h = rw (used_all (suc n) h, used_all n (omega arith))

tick-none : (k : Kernel) → ticked k 0 ≡ k
unfolding ticked
tick-none k = refl

module _ (p : Plant) (z : Sized p.kernel) (few : p.sizes.threads ≤ 16) (g : GoodSizes p.sizes)
    (good : (i : ℕ) → i < p.sizes.threads → GoodThread p.sizes (thread_at p.kernel i))
    (rule : (q : ℕ) → q < 36 → in_use p.sizes q ≡ true → Tallies p.sizes.threads q p.kernel) (by : p.kernel.cause ≡ 8) where
  abbrev k : Kernel
  k = p.kernel

  abbrev at : ℕ → Plant
  at n = with_kernel p (ticked k n)

  sized-at : (n : ℕ) → Sized (ticked k n)
  sized-at n = sized-kept (tick-sizes k n) z

  by-at : (n : ℕ) → (ticked k n).cause ≡ 8
  by-at n = (tick-sizes k n).cause ∙ by

  -- the row that is next is as it was
  next_row : (n : ℕ) → suc n ≤ 16 → thread_at (ticked k n) n ≡ thread_at k n
  next_row n h = tick-later k n n (rw (used_all n (omega arith)) (omega arith))

  -- the counter rule holds on the way
  rule-at : (n : ℕ) → n ≤ p.sizes.threads → (q : ℕ) → q < 36 → in_use p.sizes q ≡ true → Tallies p.sizes.threads q (ticked k n)
  rule-at zero h q l u = rw (tick-none k) (rule q l u)
  rule-at (suc n) h q l u =
      let before = rule-at n (omega arith) q l u in
      rw (tick-next k n (omega arith))
      (split (eqb (thread_at (ticked k n) n).remaining 1)
      (λ e. rw e (wake-tallies (ticked k n) n timed_out p.sizes.threads q h before))
      (λ e. rw e (row-tallies (ticked k n) p.sizes.threads q n (counted_off (thread_at (ticked k n) n)) (λ x. refl) before)))

  -- a queued thread's place is in use
  queued-at : (i : ℕ) → i < p.sizes.threads → (thread_at k i).state ≡ 3
      → ((thread_at k i).place < 36) × (in_use p.sizes (thread_at k i).place ≡ true)
  queued-at i h e =
      let t = thread_at k i in
      let asleep : t.state ≢ ready = λ x. absurd (omega (arith, e, x)) in
      let row = good i h in
      let call = row.unready-call asleep in
      rw (row.unready-place asleep)
      (queueing-place p.sizes g k t.call.kind (row.kind call) t.call.object (row.object call)
      (sym (row.unready-state asleep) ∙ e))

  room : (n : ℕ) → n < p.sizes.threads → Raisable (ticked k n) n
  room n h =
      rw (next_row n (omega arith))
      (λ e.
      let x = queued-at n h e in (
        x.0,
        below_top (counter_at (ticked k n) (thread_at k n).place) 0 (omega arith)
            (rule-below (ticked k n) p.sizes.threads (thread_at k n).place n (rule-at n (omega arith) (thread_at k n).place x.0 x.1) h
            (record { state = rw (next_row n (omega arith)) e; place = rw (next_row n (omega arith)) refl })),
      ))

  -- of one thread
  tick-of : (n : ℕ) → n < p.sizes.threads → TickOf (world_of (at n)) n (world_of (with_kernel p (ticked_one n (ticked k n))))
  tick-of n h =
      let t = thread_at (ticked k n) n in
      same_or t.remaining 1
      (λ e. TickOf.last e (rw (eq-eqb t.remaining 1 e) (wake-world (at n) (sized-at n) n timed_out (omega arith) (room n h) 8 (by-at n))))
      (λ d. same_or t.remaining 0
      (λ e. TickOf.no-ticks e (rw (ne_eqb t.remaining 1 d) (none e)))
      (λ o. TickOf.falls (omega arith) (rw (ne_eqb t.remaining 1 d) (thread-world (at n) (sized-at n) n (omega arith) (counted_off t)))))
    where
      same_row : (t : Thread) → t.remaining ≡ 0 → counted_off t ≡ t
      same_row t e = let z : t.remaining - 1 ≡ t.remaining = omega arith in
          λ x. record {
            state = t.state;
            place = t.place;
            remaining = z x;
            pending = t.pending;
            awaited = t.awaited;
            message = t.message;
            call = t.call;
            answer = t.answer;
            cause = t.cause;
            step = t.step;
          }

      none : (thread_at (ticked k n) n).remaining ≡ 0
          → world_of (with_kernel p (with_thread (ticked k n) n (counted_off (thread_at (ticked k n) n)))) ≡ world_of (at n)
      none e =
          rw (same_row (thread_at (ticked k n) n) e)
          (thread-world (at n) (sized-at n) n (omega arith) (thread_at (ticked k n) n) ∙ alike_same (record {
            sizes = refl;
            thread = λ j. sym (at-put (thread_at (ticked k n)) (thread_at (ticked k n)) n (thread_at (ticked k n) n) refl (λ i d. refl) j);
            counter = λ j. refl;
            holder = λ j. refl;
            box = λ j. refl;
            pool = λ j. refl;
            step = refl;
            woken = λ j. refl;
            finished = λ j. refl;
            answer = refl;
          }))

  pub ticks-is : (n : ℕ) → n ≤ p.sizes.threads → Ticks (world_of p) n (world_of (at n))
  ticks-is zero h = rw (tick-none k)
  ticks-is (suc n) h = (world_of (at n), ticks-is n (omega arith), rw (tick-next k n (omega arith)) (tick-of n h))

-- ---- the table

last-kind : (k : ℕ) → 22 ≤ k → k ≤ 22 → k ≡ 22
last-kind k a b = omega arith

-- "The operand a is read as signed 32-bit where it is a message"
signed_is : (s : Step) → s.a < 4294967296 → message_of s ≡ signed s.a
signed_is s h =
    in-or-out s.a 2147483648 (λ l. message-up s l ∙ rw (lt-ltb s.a 2147483648 l))
    (λ l. message-down s l h ∙ rw (le-ltb s.a 2147483648 l))

module _ (t : Tables) (c : Clock) (s : Step) (w : Whole t.sizes (started t s)) (word : s.a < 4294967296)
    (e : refusal_of (opened t) c s ≡ 0) where
  abbrev p : Plant
  p = started t s

  abbrev kern : Kernel
  kern = p.kernel

  abbrev n : ℕ
  n = t.sizes.threads

  abbrev o : ℕ
  o = s.object

  abbrev h : Plant
  h = acted p c.time s

  z : Sized kern
  z = w.kernel.rules.sized

  low : n ≤ 16
  low = w.sizes.threads.1

  accepts : Accepted p c s
  accepts = accepted-as (opened t) c s s.kind (refusal-none (opened t) c s e)

  row : Rows p h kern n s.caller o c.time s
  row = rows p c.time s

  -- an interrupt, or a thread with a row
  who : There s.caller
  who = elim (caller_runs p c s accepts) [ inl b ↦ inl b | inr f ↦ inr (omega (arith, f.thread, low)) ]

  -- 2, 6, 9, 11, 12, 14 are a thread's
  thread : kernel_waits s.kind ≡ true → s.caller < 16
  thread k = elim who [ inl b ↦ absurd (waits-thread p c s accepts k b) | inr f ↦ f ]

  -- 15, 16, 17, 20 with a timeout too
  boxed : kernel_waits s.kind ≡ false → is_box_call s.kind ≡ true
      → s.timeout ≢ 0 → s.caller < 16
  boxed k b d =
      elim who [
        | inl i ↦ contrary (rw (eq-eqb s.caller nobody i, k, b) at accepts.context) (ne_eqb s.timeout 0 d)
        | inr f ↦ f
      ]

  semaphore : o < t.sizes.semaphores → InUse p o
  semaphore l =
      let x = semaphore-place kern t.sizes w.sizes o l in
      let m : o < 36 = omega (arith, x.0) in
      (m, w.kernel.rules.places o m x.1)

  queue : o < t.sizes.queues → InUse p (20 + o)
  queue l =
      let q : 20 + o ≡ queue_place o = omega (arith, w.sizes.queues, l) in
      let x = queue-place kern t.sizes w.sizes o l (20 + o) q in
      let m : 20 + o < 36 = omega (arith, x.1.0) in
      (m, w.kernel.rules.places (20 + o) m x.1.1)

  at-queue : o < t.sizes.queues → queue_place o ≡ 20 + o
  at-queue l = omega (arith, w.sizes.queues, l)

  -- their words tell who waits there
  told-semaphore : o < t.sizes.semaphores → TellsAt n kern o
  told-semaphore = semaphore-told kern t.sizes w.sizes w.kernel.rules.words o

  told-queue : o < t.sizes.queues → TellsAt n kern (20 + o)
  told-queue l = subst (TellsAt n kern) (at-queue l) (queue-told kern t.sizes w.sizes w.kernel.rules.words o l)

  -- what is told of the world at work is told of what the step finds
  from : (P : World → Type 0) → P (world_of p) → P (found t)
  from P x = subst P (found-is t) x

  -- the cause at work is the kind's
  named : (c : ℕ) → kern.cause ≡ c → (P : ℕ → Type 0) → P kern.cause → P c
  named c by P x = subst P by x

  -- an effect, and the end of the call
  at-once-with : (m : ℤ) (x : Plant) → Sized x.kernel → h ≡ at_once_with x s.caller m → world_of h ≡ ended (world_of x) s.caller m 0
  at-once-with m x y b = ap world_of b ∙ finish-world x y s.caller m 0 who

  at-once : (x : Plant) → Sized x.kernel → h ≡ at_once x s.caller → world_of h ≡ ended (world_of x) s.caller (pos 0) 0
  at-once = at-once-with (pos 0)

  kernel-at-once : (x : Kernel) → SameSizes kern x → h ≡ at_once (with_kernel p x) s.caller
      → world_of h ≡ ended (world_of (with_kernel p x)) s.caller (pos 0) 0
  kernel-at-once x y b = at-once (with_kernel p x) (sized-kept y z) b

  abbrev Row : ℕ → Type 0
  Row = Act t c.time s (world_of h)

  row-1 : s.kind ≡ 1 → Row 1
  row-1 k =
      Act.tick (world_of (with_kernel p (ticked kern n)))
      (subst (λ (v : World). Ticks v n (world_of (with_kernel p (ticked kern n)))) (found-is t)
      (ticks-is p z low w.sizes w.kernel.rows w.kernel.rules.places (rw k) n (omega arith)))
      (kernel-at-once (ticked kern n) (tick-sizes kern n) (row.tick k))

  row-2 : s.kind ≡ 2 → Row 2
  row-2 k =
      Act.semaphore-wait
      (from (λ v. SemaphoreWait v s.caller o (kept 2 o 0 s.timeout) (world_of h))
      (rw (row.semaphore-wait k)
      (semaphore-wait-is p z low s.caller o (kept 2 o 0 s.timeout) (thread (rw k)) (semaphore (rw k at accepts.object)))))

  row-3 : s.kind ≡ 3 → Row 3
  row-3 k =
      let done = signalled kern o in
      Act.signal (world_of (with_kernel p done.kernel)) done.counted
      (from (λ v. Signal v o (world_of (with_kernel p (signalled kern o).kernel)) (signalled kern o).counted)
      (signal-is p z (rw k) low o (told-semaphore (rw k at accepts.object)) (semaphore (rw k at accepts.object))))
      (at-once-with (cond done.counted (pos 0) (pos 1)) (with_kernel p done.kernel) (sized-kept (signal-sizes kern o) z) (row.signal k))

  row-4 : s.kind ≡ 4 → Row 4
  unfolding reset_to
  row-4 k =
      let u = semaphore (rw k at accepts.object) in
      let v = released_all kern o was_reset in
      Act.reset (world_of (with_kernel p v))
      (from (λ v. ReleaseAll v o (negsuc 1) 7 n (world_of (with_kernel p (released_all kern o was_reset))))
      (named 7 (rw k) (λ x. ReleaseAll (world_of p) o (negsuc 1) x n (world_of (with_kernel p (released_all kern o was_reset))))
      (release-all-is p z low o (told-semaphore (rw k at accepts.object)) was_reset u)))
      (kernel-at-once (reset_to kern o (pos s.a)) (reset-sizes kern o (pos s.a))
      (row.reset k (leb-true s.a 2147483647 (rw k at accepts.value)))
      ∙ ap (λ (x : World). ended x s.caller (pos 0) 0)
      (counter-world (with_kernel p v) (sized-kept (release-all-sizes kern o was_reset) z) o u.0 (pos s.a)))

  row-5 : s.kind ≡ 5 → Row 5
  row-5 k =
      Act.binary-signal (world_of (with_kernel p (binary_signalled kern o)))
      (from (λ v. BinarySignal v o (world_of (with_kernel p (binary_signalled kern o))))
      (binary-is p z (rw k) low o (told-semaphore (rw k at accepts.object)) (semaphore (rw k at accepts.object))))
      (kernel-at-once (binary_signalled kern o) binary-sizes (row.binary-signal k))
    where
      binary-sizes : SameSizes kern (binary_signalled kern o)
      binary-sizes =
          unfold binary_signalled in
          chosen (SameSizes kern) (lt_z (counter_at kern o) (pos 1)) (λ e. signal-sizes kern o) (λ e. sizes-refl kern)

  row-6 : s.kind ≡ 6 → Row 6
  unfolding enqueued
  row-6 k =
      let l : o < t.sizes.queues = rw k at accepts.object in
      Act.queue-wait
      (from (λ v. Waits v s.caller 3 (20 + o) (kept 6 o 0 s.timeout) (world_of h))
      (rw (row.queue-wait k, at-queue l)
      (waits-is p z s.caller 3 (20 + o) (kept 6 o 0 s.timeout) who (λ d. thread (rw k)) (queue-join p (20 + o) low (queue l)))))

  row-7 : s.kind ≡ 7 → Row 7
  row-7 k =
      let l : o < t.sizes.queues = rw k at accepts.object in
      let v = released_first kern (20 + o) (signed s.a) in
      Act.release-first (world_of (with_kernel p v))
      (from (λ x. Release x (20 + o) (signed s.a) 2 (world_of (with_kernel p (released_first kern (20 + o) (signed s.a)))))
      (named 2 (rw k) (λ x. Release (world_of p) (20 + o) (signed s.a) x (world_of (with_kernel p (released_first kern (20 + o) (signed s.a)))))
      (release-is p z low (20 + o) (told-queue l) (signed s.a) (queue l))))
      (kernel-at-once v (release-first-sizes kern (20 + o) (signed s.a)) (row.release-first k ∙ rw (at-queue l, signed_is s word)))

  row-8 : s.kind ≡ 8 → Row 8
  row-8 k =
      let l : o < t.sizes.queues = rw k at accepts.object in
      let v = released_all kern (20 + o) (signed s.a) in
      Act.release-all (world_of (with_kernel p v))
      (from (λ x. ReleaseAll x (20 + o) (signed s.a) 2 n (world_of (with_kernel p (released_all kern (20 + o) (signed s.a)))))
      (named 2 (rw k) (λ x. ReleaseAll (world_of p) (20 + o) (signed s.a) x n (world_of (with_kernel p (released_all kern (20 + o) (signed s.a)))))
      (release-all-is p z low (20 + o) (told-queue l) (signed s.a) (queue l))))
      (kernel-at-once v (release-all-sizes kern (20 + o) (signed s.a)) (row.release-all k ∙ rw (at-queue l, signed_is s word)))

  row-9 : s.kind ≡ 9 → Row 9
  unfolding suspended_on
  row-9 k =
      let l : o < t.sizes.references = rw k at accepts.object in
      Act.suspend
      (from (λ v. Waits v s.caller 2 o (kept 9 o 0 s.timeout) (world_of h))
      (rw (row.suspend k)
      (waits-is p z s.caller 2 o (kept 9 o 0 s.timeout) who (λ d. thread (rw k))
      (λ x. absurd (omega arith), λ x. omega (arith, l, w.sizes.references)))))

  row-10 : s.kind ≡ 10 → Row 10
  row-10 k =
      let v = resumed kern o (signed s.a) in
      Act.resume (world_of (with_kernel p v))
      (from (λ x. Resume x o (signed s.a) (world_of (with_kernel p (resumed kern o (signed s.a)))))
      (resume-is p w (rw k) o (signed s.a) (rw k at accepts.object)))
      (kernel-at-once v (resume-sizes kern o (signed s.a)) (row.resume k ∙ rw (signed_is s word)))

  -- a plain sleep joins nothing
  alone : Joinable kern 1 0
  alone = (λ x. absurd (omega arith), λ x. absurd (omega arith))

  row-11 : s.kind ≡ 11 → Row 11
  unfolding slept_for
  row-11 k =
      Act.sleep-for
      (ap world_of (row.sleep-for k) ∙ sleep-world p z s.caller 1 0 (kept 11 0 0 s.timeout) (thread (rw k)) alone
      ∙ ap (λ (v : World). fall_asleep v s.caller 1 0 (kept 11 0 0 s.timeout)) (found-is t))

  row-12 : s.kind ≡ 12 → Row 12
  unfolding slept_until
  row-12 k =
      let call = kept 12 0 s.a ((s.a + (4294967296 - c.time.0)) % 4294967296) in
      Act.sleep-until
      (ap world_of (row.sleep-until k) ∙ sleep-world p z s.caller 1 0 call (thread (rw k)) alone
      ∙ ap (λ (v : World). fall_asleep v s.caller 1 0 (kept 12 0 s.a ((s.a + (4294967296 - c.time.0)) % 4294967296))) (found-is t))

  row-13 : s.kind ≡ 13 → Row 13
  row-13 k =
      let l : o < n = rw k at accepts.object in
      let v = event_signalled kern o s.a in
      Act.event-signal (world_of (with_kernel p v))
      (from (λ x. EventSignal x o s.a (world_of (with_kernel p (event_signalled kern o s.a))))
      (event-signal-is p z o (omega (arith, l, low)) (rw k) s.a))
      (kernel-at-once v (event-signal-sizes kern o s.a) (row.event-signal k))

  row-14 : s.kind ≡ 14 → Row 14
  row-14 k =
      Act.event-wait
      (from (λ v. EventWait v s.caller (kept 14 0 s.a s.timeout) (world_of h))
      (rw (row.event-wait k) (event-wait-is p z s.caller (thread (rw k)) (kept 14 0 s.a s.timeout))))

  row-15 : s.kind ≡ 15 → Row 15
  row-15 k =
      Act.post
      (from (λ v. Post v s.caller (kept 15 o s.a s.timeout) (world_of h))
      (rw (row.post k)
      (post_is p w s.caller (kept 15 o s.a s.timeout) (rw k at accepts.object) who (boxed (rw k) (rw k)) (rw k) (inl refl))))

  row-16 : s.kind ≡ 16 → Row 16
  row-16 k =
      Act.post-ahead
      (from (λ v. Post v s.caller (kept 16 o s.a s.timeout) (world_of h))
      (rw (row.post-ahead k)
      (post_is p w s.caller (kept 16 o s.a s.timeout) (rw k at accepts.object) who (boxed (rw k) (rw k)) (rw k) (inr refl))))

  row-17 : s.kind ≡ 17 → Row 17
  row-17 k =
      Act.fetch
      (from (λ v. Fetch v s.caller (kept 17 o 0 s.timeout) (world_of h))
      (rw (row.fetch k)
      (fetch-is p w s.caller (kept 17 o 0 s.timeout) (rw k at accepts.object) who (boxed (rw k) (rw k)) (rw k))))

  row-18 : s.kind ≡ 18 → Row 18
  unfolding mailbox_reset both_released emptied
  row-18 k =
      let l : o < t.sizes.mailboxes = rw k at accepts.object in
      let c0 = kept 18 o 0 0 in
      let u = writers p w s.caller c0 l who (λ d. absurd (d refl)) in
      let y = readers p w s.caller c0 l who (λ d. absurd (d refl)) in
      let v = released_all kern (28 + o) was_reset in
      let x = released_all v (32 + o) was_reset in
      let b = in_reset (mailbox_at p o) in
      let a : writers_place o ≡ 28 + o = omega (arith, w.sizes.mailboxes, l) in
      let d : readers_place o ≡ 32 + o = omega (arith, w.sizes.mailboxes, l) in
      let told = told-writers p w s.caller c0 l who (λ d. absurd (d refl)) in
      let left = chain-sound t.sizes w.sizes (release-all-chained t.sizes w.sizes kern (28 + o) told was_reset (λ h. refl)) w.kernel in
      let by-reset : v.cause ≡ 7 = (release-all-sizes kern (28 + o) was_reset).cause ∙ (rw k) in
      let zv = sized-kept (release-all-sizes kern (28 + o) was_reset) z in
      let zx = sized-kept (release-all-sizes v (32 + o) was_reset) zv in
      Act.mailbox-reset (world_of (with_kernel p v)) (world_of (with_kernel p x))
      (from (λ q. ReleaseAll q (28 + o) (negsuc 1) 7 n (world_of (with_kernel p (released_all kern (28 + o) was_reset))))
      (named 7 (rw k) (λ x. ReleaseAll (world_of p) (28 + o) (negsuc 1) x n (world_of (with_kernel p (released_all kern (28 + o) was_reset))))
      (release-all-is p z low (28 + o) told was_reset u)))
      (subst (λ (x : ℕ). ReleaseAll (world_of (with_kernel p v)) (32 + o) (negsuc 1) x n (world_of (with_kernel p (released_all v (32 + o) was_reset)))) by-reset
      (release-all-is (with_kernel p v) zv low (32 + o) (subst (TellsAt n v) d (readers-told v t.sizes w.sizes left.rules.words o l))
      was_reset (y.0, release-all-tallies kern (28 + o) was_reset n low told (32 + o) y.1)))
      (at-once (with_mailbox (with_kernel p x) o b) zx (row.mailbox-reset k ∙ rw (a, d))
      ∙ ap (λ (q : World). ended q s.caller (pos 0) 0)
      (box-world (with_kernel p x) o b (omega (arith, w.boxes, w.sizes.mailboxes, l))))

  row-19 : s.kind ≡ 19 → Row 19
  unfolding mailbox_resumed
  row-19 k =
      let l : o < t.sizes.mailboxes = rw k at accepts.object in
      let b = at_work (mailbox_at p o) in
      Act.mailbox-resume
      (at-once (with_mailbox p o b) z (row.mailbox-resume k)
      ∙ ap (λ (q : World). ended q s.caller (pos 0) 0)
      (box-world p o b (omega (arith, w.boxes, w.sizes.mailboxes, l)) ∙ ap (λ (q : World). box_to q o (at_work (mailbox_at p o))) (found-is t)))

  row-20 : s.kind ≡ 20 → Row 20
  row-20 k =
      Act.alloc
      (from (λ v. Alloc v s.caller (kept 20 o 0 s.timeout) (world_of h))
      (rw (row.alloc k)
      (alloc-is p w s.caller (kept 20 o 0 s.timeout) (rw k at accepts.object) who (boxed (rw k) (rw k)))))

  -- 21 and 22: an object that is not free is put on top
  module _ (by : kern.cause ≡ 1) (l : o < t.sizes.pools) (small : s.a ≤ 31) (unlisted : mark_at (pool_at p o) s.a ≢ free)
      (puts : h ≡ at_once (put_back p o s.a) s.caller) where
    abbrev after : World
    after = world_of (with_kernel p (signalled kern (16 + o)).kernel)

    put-signals : Signal (found t) (16 + o) after (signalled kern (16 + o)).counted
    put-signals =
        from (λ v. Signal v (16 + o) (world_of (with_kernel p (signalled kern (16 + o)).kernel)) (signalled kern (16 + o)).counted)
        (signal-is p z by low (16 + o)
        (subst (TellsAt n kern) (at-pool p w o l) (pool-told kern t.sizes w.sizes w.kernel.rules.words o l)) (pool-used p w o l))

    put_is : world_of h ≡ ended (pool_to after o (on_top (pool_at p o) s.a)) s.caller (pos 0) 0
    unfolding put_back
    put_is =
        at-once (with_pool (with_kernel p (signalled kern (16 + o)).kernel) o (on_top (pool_at p o) s.a))
        (sized-kept (signal-sizes kern (16 + o)) z)
        (puts ∙ rw (at-pool p w o l, push-is (pool_at p o) (w.pools.listed o l) (w.pools.sized o l) s.a (omega arith) unlisted))
        ∙ ap (λ (q : World). ended q s.caller (pos 0) 0)
        (pool-world (with_kernel p (signalled kern (16 + o)).kernel) o (on_top (pool_at p o) s.a) (pool-row p w o l))

  row-21 : s.kind ≡ 21 → Row 21
  row-21 k =
      let l : o < t.sizes.pools = rw k at accepts.object in
      let small = leb-true s.a 31 (rw k at accepts.value) in
      let mark = eqb-true (mark_at (pool_at p o) s.a) out (rw (k, object-byte s small) at accepts.state) in
      let puts = row.free k small in
      let not_free : mark_at (pool_at p o) s.a ≢ free = λ x. absurd (omega (arith, mark, x)) in
      Act.free (after (rw k) l small not_free puts) _ (put-signals (rw k) l small not_free puts) (put_is (rw k) l small not_free puts)

  row-22 : s.kind ≡ 22 → Row 22
  row-22 k =
      let l : o < t.sizes.pools = rw k at accepts.object in
      let small = leb-true s.a 31 (rw k at accepts.value) in
      let mark = eqb-true (mark_at (pool_at p o) s.a) absent (rw (k, object-byte s small) at accepts.state) in
      let puts = row.add k small in
      let not_free : mark_at (pool_at p o) s.a ≢ free = λ x. absurd (omega (arith, mark, x)) in
      Act.add (after (rw k) l small not_free puts) _ (put-signals (rw k) l small not_free puts) (put_is (rw k) l small not_free puts)

  -- each kind is its row
  pub act-is : Row s.kind
  act-is =
      let k = s.kind in
      let bounds = both-means (leb 1 k) (leb k 22) accepts.kind in
      next k 1 (leb-true 1 k bounds.0) (λ x. subst Row (sym x) (row-1 x)) (λ l2.
      next k 2 l2 (λ x. subst Row (sym x) (row-2 x)) (λ l3.
      next k 3 l3 (λ x. subst Row (sym x) (row-3 x)) (λ l4.
      next k 4 l4 (λ x. subst Row (sym x) (row-4 x)) (λ l5.
      next k 5 l5 (λ x. subst Row (sym x) (row-5 x)) (λ l6.
      next k 6 l6 (λ x. subst Row (sym x) (row-6 x)) (λ l7.
      next k 7 l7 (λ x. subst Row (sym x) (row-7 x)) (λ l8.
      next k 8 l8 (λ x. subst Row (sym x) (row-8 x)) (λ l9.
      next k 9 l9 (λ x. subst Row (sym x) (row-9 x)) (λ l10.
      next k 10 l10 (λ x. subst Row (sym x) (row-10 x)) (λ l11.
      next k 11 l11 (λ x. subst Row (sym x) (row-11 x)) (λ l12.
      next k 12 l12 (λ x. subst Row (sym x) (row-12 x)) (λ l13.
      next k 13 l13 (λ x. subst Row (sym x) (row-13 x)) (λ l14.
      next k 14 l14 (λ x. subst Row (sym x) (row-14 x)) (λ l15.
      next k 15 l15 (λ x. subst Row (sym x) (row-15 x)) (λ l16.
      next k 16 l16 (λ x. subst Row (sym x) (row-16 x)) (λ l17.
      next k 17 l17 (λ x. subst Row (sym x) (row-17 x)) (λ l18.
      next k 18 l18 (λ x. subst Row (sym x) (row-18 x)) (λ l19.
      next k 19 l19 (λ x. subst Row (sym x) (row-19 x)) (λ l20.
      next k 20 l20 (λ x. subst Row (sym x) (row-20 x)) (λ l21.
      next k 21 l21 (λ x. subst Row (sym x) (row-21 x)) (λ l22.
      let x = last-kind k l22 (leb-true k 22 bounds.1) in subst Row (sym x) (row-22 x))))))))))))))))))))))
