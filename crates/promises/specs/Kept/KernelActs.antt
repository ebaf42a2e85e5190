-- Every accepted step of kinds 1 to 14 is a chain of moves that leaves the tables whole.
use Rattle.std.specs.Prelude.{ℕ, suc, ◌≤◌, ◌<◌, ◌≡◌, ◌≢◌, Bool, cond, ◌||◌, List, [], ◌∷◌, eqb, leb, ltb, ℤ, pos}
use Rattle.std.proofs.Common.{arith, ◌∙◌, inl, to_z}
use Rattle.std.proofs.Math.Path.{refl, sym}
use Rattle.std.proofs.Math.Logic.{inr}
use Rattle.std.proofs.Math.Bool.{true, false}
use Rattle.std.specs.Int.Bits.{bit_and}
use Rattle.std.specs.Int.Signed.{lt_z}
use Rattle.std.specs.Int.{w32}
use borrow.Author.Tests.{eqb-true, eqb-false, eq-eqb, ne_eqb, leb-true, le-ltb}
use Rattle.kernel.specs.declared.clock.Clock.{Clock}
use Rattle.kernel.specs.declared.records.Call.{Call}
use Rattle.kernel.specs.declared.records.Kernel.{Kernel}
use Rattle.kernel.specs.Numbers.{nobody, nowhere, ready, queued, suspended, sleeping, awaiting, ok, immediate, infinite}
use Rattle.kernel.specs.Places.{queue_place, pool_place}
use Rattle.kernel.specs.Time.{differed}
use Rattle.kernel.specs.Tables.{thread_at, counter_at, holder_at}
use Rattle.kernel.specs.Moves.{slept, finished, awaited_by}
use Rattle.kernel.specs.Waiters.{first_ready}
use Rattle.kernel.specs.Queue.{enqueued, released_first, released_all}
use Rattle.kernel.specs.Semaphore.{waited, signalled, reset_to}
use Rattle.kernel.specs.Ticking.{ticked}
use Rattle.kernel.specs.Event.{event_signalled, event_waited}
use Rattle.kernel.specs.Reference.{suspended_on, resumed}
use Rattle.kernel.specs.Delay.{slept_for, slept_until}
use Rattle.kernel.proofs.Cases.{split, chosen, contrary, both-means}
use Rattle.kernel.proofs.WaitersLaws.{TellsAt, first-ready-cases}
use Rattle.kernel.proofs.SemaphoreLaws.{signal-top}
use Rattle.library.specs.declared.calls.Step.{Step}
use Rattle.library.specs.declared.sizes.Sizes.{Sizes}
use Rattle.library.specs.declared.tables.Plant.{Plant}
use Rattle.library.specs.Binary.{binary_signalled}
use Rattle.library.specs.Calls.{call_of, object_of, operand_of}
use Rattle.library.specs.Acting.{message_of, signal_message, signal_acted, call_made, effected, kernel_waits, answers_itself, acted_on_kernel}
use Rattle.library.specs.Tables.{with_kernel}
use Rattle.library.proofs.Signed.{lower}
use Rattle.rules.specs.RowRules.{call_limit, wait_state, wait_place}
use Rattle.steps.specs.Refusal.{object_limit, is_span}
use Rattle.promises.specs.Together.Tests.{either-means, neither-means}
use Rattle.promises.specs.Together.Good.{CallKind, GoodSizes}
use Rattle.promises.specs.Together.Hanging.{test-hangs}
use Rattle.promises.specs.Kept.Tallies.{Tallies}
use Rattle.promises.specs.Kept.CounterRule.{semaphore-place, queue-place}
use Rattle.promises.specs.Kept.WordRule.{semaphore-told, queue-told}
use Rattle.promises.specs.Kept.Accepting.{Accepted, waits-thread}
use Rattle.promises.specs.Kept.Rows.{Idle, CallSound}
use Rattle.promises.specs.Kept.Chain.{Sleeper, Note, sleep_of, signal_at, take_at, Chained, rested, after, nil-right, count_in, is_slept}
use Rattle.promises.specs.Kept.Owed.{is_signal, is_take}
use Rattle.promises.specs.Kept.Moving.{
  Caller,
  finish-chained,
  tick-chained,
  sleep-chained,
  block-chained,
  release-first-chained,
  release-all-chained,
  signal-chained,
  binary-chained,
  reset-chained,
  wait-chained,
  resume-chained,
  event-wait-chained,
  event-signal-chained,
}
use Rattle.promises.specs.Kept.Whole.{Whole, Done, kernel-done, Stepper, idle-free, stepper-caller, stepper-kept}

-- what an accepted step does before settling
pub record Acts (z : Sizes) (p : Plant) (s : Step) (h : Plant) : Type 0 where
  pub notes : List Note
  pub done : Done z p h notes

-- the same of the kernel's tables: notes that put nobody but a caller to sleep, and touch no pool
pub record KernelActs (z : Sizes) (p : Plant) (s : Step) (k : Kernel) : Type 0 where
  pub notes : List Note
  pub chained : Chained z p.kernel k notes
  pub takes : (q : ℕ) → count_in (is_take (pool_place q)) notes ≡ 0
  pub signals : (q : ℕ) → count_in (is_signal (pool_place q)) notes ≡ 0

-- .. and nobody at all
pub record Effects (z : Sizes) (p : Plant) (s : Step) (k : Kernel) : Type 0 where
  pub acts : KernelActs z p s k
  pub awake : (i : ℕ) → count_in (is_slept i) acts.notes ≡ 0

-- a semaphore is no pool
no-pool : (o q : ℕ) → o < 16 → eqb o (pool_place q) ≡ false
no-pool o q h = ne_eqb o (pool_place q) (λ e. absurd (omega arith))

-- a number up to 2147483647 is not negative as a message
not_negative : (a : ℕ) → a ≤ 2147483647 → lt_z (to_z w32 a) (pos 0) ≡ false
not_negative a h = rw (lower a (omega arith)) (le-ltb a 0 (omega arith))

-- of the kinds to 14 that answer 0 and 0, only the event signal is left
next : (n m : ℕ) → n ≢ m → m ≤ n → suc m ≤ n
next n m d h = omega arith

last : (n : ℕ) → n ≢ 14 → n ≤ 14 → 13 ≤ n → n ≡ 13
last n d h l = omega arith

left-thirteen : (n : ℕ) → n ≤ 14 → 1 ≤ n → answers_itself n ≡ false
    → n ≢ 1 → n ≢ 4 → n ≢ 5 → n ≢ 7 → n ≢ 8 → n ≢ 10 → n ≡ 13
left-thirteen n h l w n1 n4 n5 n7 n8 n10 =
    let s = neither-means (eqb n 3) (kernel_waits n) w in
    let a = neither-means (eqb n 2) (eqb n 6 || (eqb n 9 || (eqb n 11 || (eqb n 12 || eqb n 14)))) s.1 in
    let b = neither-means (eqb n 6) (eqb n 9 || (eqb n 11 || (eqb n 12 || eqb n 14))) a.1 in
    let c = neither-means (eqb n 9) (eqb n 11 || (eqb n 12 || eqb n 14)) b.1 in
    let d = neither-means (eqb n 11) (eqb n 12 || eqb n 14) c.1 in
    let e = neither-means (eqb n 12) (eqb n 14) d.1 in
    last n (eqb-false n 14 e.1) h
    (next n 12 (eqb-false n 12 e.0)
    (next n 11 (eqb-false n 11 d.0)
    (next n 10 n10
    (next n 9 (eqb-false n 9 c.0)
    (next n 8 n8
    (next n 7 n7
    (next n 6 (eqb-false n 6 b.0) (next n 5 n5 (next n 4 n4 (next n 3 (eqb-false n 3 s.0) (next n 2 (eqb-false n 2 a.0) (next n 1 n1 l))))))))))))

-- and of the others, only the event wait
left-fourteen : (n : ℕ) → answers_itself n ≡ true → eqb n 2 ≡ false → eqb n 3 ≡ false → eqb n 6 ≡ false → eqb n 9 ≡ false → eqb n 11 ≡ false
    → eqb n 12 ≡ false → n ≡ 14
left-fourteen n w a s b c d e = eqb-true n 14 (rw (a, s, b, c, d, e) at w)

module _ (p : Plant) (c : Clock) (s : Step) (a : Accepted p c s) (w : Whole p.sizes p) where
  abbrev z : Sizes
  z = p.sizes

  abbrev k : Kernel
  k = p.kernel

  abbrev n : ℕ
  n = p.sizes.threads

  g : GoodSizes z
  g = w.sizes

  -- the caller is an interrupt, or the running thread, which has no unfinished call
  pub stepper : Stepper z k s.caller
  stepper =
      elim (either-means (eqb s.caller nobody) (eqb s.caller (first_ready k)) a.caller) [
        | inl e ↦ inl (eqb-true s.caller nobody e)
        | inr e ↦ rw (eqb-true s.caller (first_ready k) e)
            (elim (first-ready-cases k n g.threads.1 w.kernel.rules.words.ready) [
              | inl f ↦ inr (
                f.below,
                record {
                  is-ready = eqb-true (thread_at k (first_ready k)).state ready f.passes;
                  no-call = (test-hangs p c a.hangs).running;
                },
              )
              | inr f ↦ inl f.0
            ])
      ]

  -- who may sleep is a thread
  pub sleeper : s.caller ≢ nobody → (s.caller < n) × Idle (thread_at k s.caller)
  sleeper d = elim stepper [ inl e ↦ absurd (d e) | inr x ↦ x ]

  -- the object of a step of kind m is in the configuration
  pub object-of : (m : ℕ) → s.kind ≡ m → s.object < object_limit z m
  object-of m e = rw e at a.object

  -- ---- 1, 3, 4, 5, 7, 8, 10, 13

  -- nothing but wakings
  plainly : (h : Kernel) → Chained z k h [] → Effects z p s h
  unfolding count_in
  plainly h x =
      record {
        acts = record { notes = []; chained = x; takes = λ q. refl; signals = λ q. refl };
        awake = λ i. refl;
      }

  -- a signal at a semaphore
  signalling : (h : Kernel) → s.object < 16 → Chained z k h (signal_at s.object ∷ []) → Effects z p s h
  unfolding count_in
  signalling h l x =
      record {
        acts =
            record {
              notes =
                  signal_at s.object ∷ [];
              chained = x;
              takes = λ q. refl;
              signals = λ q. rw (no-pool s.object q l);
            };
        awake = λ i. refl;
      }

  -- a semaphore of the configuration
  module _ (in-range : s.object < z.semaphores) where
    low : s.object < 16
    low = (semaphore-place k z g s.object in-range).0

    told : TellsAt n k s.object
    told = semaphore-told k z g w.kernel.rules.words s.object in-range

    tally : Tallies n s.object k
    tally = w.kernel.rules.places s.object (omega (arith, low)) (semaphore-place k z g s.object in-range).1

  -- 3: at the top nothing happens
  signal-acts : s.kind ≡ 3 → Effects z p s (signalled k s.object).kernel
  signal-acts e =
      let l = object-of 3 e in
      split (lt_z (counter_at k s.object) (pos 2147483647))
      (λ b. signalling (signalled k s.object).kernel (low l)
      (signal-chained z g k s.object (omega (arith, low l)) (told l) (tally l) b))
      (λ b. plainly (signalled k s.object).kernel (rw (signal-top k s.object b) rested))

  -- 5
  binary-acts : s.kind ≡ 5 → Effects z p s (binary_signalled k s.object)
  binary-acts e =
      let l = object-of 5 e in
      let x = binary-chained z g k s.object (omega (arith, low l)) (told l) (tally l) in
      split (lt_z (counter_at k s.object) (pos 1))
      (λ b. signalling (binary_signalled k s.object) (low l) (rw b at x))
      (λ b. plainly (binary_signalled k s.object) (rw b at x))

  -- 4: "reset above 2147483647" is refused
  reset-acts : s.kind ≡ 4 → Effects z p s (reset_to k s.object (message_of s))
  reset-acts e =
      plainly (reset_to k s.object (message_of s))
      (reset-chained z g k s.object (told (object-of 4 e)) (message_of s) (low (object-of 4 e))
      (not_negative s.a (leb-true s.a 2147483647 (rw e at a.value))))

  queue : s.object < z.queues → TellsAt n k (queue_place s.object)
  queue = queue-told k z g w.kernel.rules.words s.object

  far : (o : ℕ) → queue_place o < 20 → ⊥
  far o h = omega arith

  -- 10
  resume-acts : s.kind ≡ 10 → Effects z p s (resumed k s.object (message_of s))
  resume-acts e =
      let r = w.kernel.rules.references s.object (object-of 10 e) in
      plainly (resumed k s.object (message_of s))
      (resume-chained z g k s.object (message_of s) w.kernel.rules.sized r.within
      (λ d.
      eqb-true (thread_at k (holder_at k s.object)).state suspended
      (both-means (eqb (thread_at k (holder_at k s.object)).state suspended)
      (eqb (thread_at k (holder_at k s.object)).place s.object)
      (sym (r.holds (holder_at k s.object) (r.within d)) ∙ eq-eqb (holder_at k s.object) (holder_at k s.object) refl)).0))

  effect : s.kind ≤ 14 → answers_itself s.kind ≡ false → Effects z p s (effected k n s)
  unfolding effected count_in
  effect h x =
      chosen (Effects z p s) (eqb s.kind 1)
      (λ e. plainly (ticked k n) (tick-chained z g k))
      (λ e1. chosen (Effects z p s) (eqb s.kind 4) (λ e. reset-acts (eqb-true s.kind 4 e))
      (λ e4. chosen (Effects z p s) (eqb s.kind 5) (λ e. binary-acts (eqb-true s.kind 5 e))
      (λ e5. chosen (Effects z p s) (eqb s.kind 7)
      (λ e. plainly (released_first k (queue_place s.object) (message_of s))
      (release-first-chained z g k w.kernel.rules.sized (queue_place s.object) (queue (object-of 7 (eqb-true s.kind 7 e))) (message_of s)
      (λ l. absurd (far s.object l))))
      (λ e7. chosen (Effects z p s) (eqb s.kind 8)
      (λ e. plainly (released_all k (queue_place s.object) (message_of s))
      (release-all-chained z g k (queue_place s.object) (queue (object-of 8 (eqb-true s.kind 8 e))) (message_of s)
      (λ l. absurd (far s.object l))))
      (λ e8. chosen (Effects z p s) (eqb s.kind 10) (λ e. resume-acts (eqb-true s.kind 10 e))
      (λ e10.
      let is =
      left-thirteen s.kind h (leb-true 1 s.kind (both-means (leb 1 s.kind) (leb s.kind 22) a.kind).0) x
      (eqb-false s.kind 1 e1) (eqb-false s.kind 4 e4) (eqb-false s.kind 5 e5)
      (eqb-false s.kind 7 e7) (eqb-false s.kind 8 e8) (eqb-false s.kind 10 e10) in
      let l = object-of 13 is in
      plainly (event_signalled k s.object s.a)
      (event-signal-chained z g k s.object s.a w.kernel.rules.sized l)))))))

  -- ---- 2, 6, 9, 11, 12, 14

  -- a call that sleeps, or is answered at once
  waiting : (h : Kernel) (i : ℕ) (b : Bool) → Chained z k h (cond b [] (sleep_of i ∷ [])) → KernelActs z p s h
  unfolding count_in
  waiting h i true x = record { notes = []; chained = x; takes = λ q. refl; signals = λ q. refl }
  waiting h i false x = record { notes = sleep_of i ∷ []; chained = x; takes = λ q. refl; signals = λ q. refl }

  -- the call that a step keeps fits
  pub kept-fits : CallKind s.kind → object_of s < call_limit z s.kind → s.timeout ≢ 0 → CallSound z (call_of s)
  kept-fits f o t = record { kind = f; object = o; timeout = some s.timeout t; operand = λ e. rw e }
    where
      some : (t : ℕ) → t ≢ 0 → 1 ≤ t
      some t d = omega arith

  module _ (thread : s.caller ≢ nobody) where
    me : s.caller < n
    me = (sleeper thread).0

    idle : Idle (thread_at k s.caller)
    idle = (sleeper thread).1

    asks : Caller z k s.caller
    asks = stepper-caller z k s.caller stepper

    -- what it takes to sleep, in each state
    sleeper-in : (call : Call) → CallSound z call
        → (wait_state call.kind ≡ queued → lt_z (pos 0) (counter_at k (wait_place call.kind call.object)) ≡ false)
        → (wait_state call.kind ≡ suspended → holder_at k (wait_place call.kind call.object) ≡ nobody)
        → (wait_state call.kind ≡ awaiting → bit_and (thread_at k s.caller).pending (awaited_by call) ≡ 0)
        → Sleeper z k s.caller call
    sleeper-in call f q r e =
        record {
          within = me;
          is-ready = idle.is-ready;
          fits = f;
          counter = q;
          holder = r;
          flags = e;
          unpromised = (idle-free (thread_at k s.caller) idle).unpromised;
        }

    wait-acts : s.kind ≡ 2 → KernelActs z p s (waited k s.caller s.object (call_of s))
    wait-acts e =
        let l = object-of 2 e in
        let x =
        wait-chained z g k s.caller s.object (call_of s) (omega (arith, low l)) (rw e) (rw e)
        (λ t b. sleeper-in (call_of s) (kept-fits (inl e) (rw e l) t) (λ v. rw e b) (λ v. absurd (omega (arith, rw e at v)))
        (λ v. absurd (omega (arith, rw e at v))))
        asks in
        split (lt_z (pos 0) (counter_at k s.object))
        (λ b. record {
          notes = take_at s.object ∷ [];
          chained = rw b at x;
          takes = λ q. unfold count_in in rw (no-pool s.object q (low l));
          signals = λ q. unfold count_in in refl;
        })
        (λ b. waiting (waited k s.caller s.object (call_of s)) s.caller (eqb s.timeout immediate) (rw b at x))

    queue-acts : s.kind ≡ 6 → KernelActs z p s (enqueued k s.caller (queue_place s.object) (call_of s))
    unfolding enqueued
    queue-acts e =
        let l = object-of 6 e in
        let x = queue-place k z g s.object l (queue_place s.object) refl in
        let level = (w.kernel.rules.places (queue_place s.object) (omega (arith, x.1.0)) x.1.1).level x.0 in
        waiting _ s.caller (eqb s.timeout immediate)
        (block-chained z g k s.caller queued (queue_place s.object) (call_of s) (rw e) (rw e)
        (λ t. sleeper-in (call_of s) (kept-fits (inr (inl e)) (rw e l) t) (λ v. rw e level) (λ v. absurd (omega (arith, rw e at v)))
        (λ v. absurd (omega (arith, rw e at v))))
        asks)

    -- 9: "suspend on a held reference" is refused
    suspend-acts : s.kind ≡ 9 → KernelActs z p s (suspended_on k s.caller s.object (call_of s))
    unfolding suspended_on
    suspend-acts e =
        let l = object-of 9 e in
        let empty = eqb-true (holder_at k s.object) nobody (rw e at a.state) in
        waiting _ s.caller (eqb s.timeout immediate)
        (block-chained z g k s.caller suspended s.object (call_of s) (rw e) (rw e)
        (λ t. sleeper-in (call_of s) (kept-fits (inr (inr (inl e))) (rw e l) t) (λ v. absurd (omega (arith, rw e at v)))
        (λ v. rw e empty) (λ v. absurd (omega (arith, rw e at v))))
        asks)

    -- 11 and 12: "sleep, for or until, of 0 or 4294967295 ticks" is refused
    span : (t : ℕ) → is_span t ≡ true → 1 ≤ t
    span t e = leb-true 1 t (both-means (leb 1 t) (ltb t infinite) e).0

    nap-acts : (call : Call) → CallSound z call → wait_state call.kind ≡ sleeping → wait_place call.kind call.object ≡ nowhere
        → KernelActs z p s (slept k s.caller sleeping nowhere call)
    nap-acts call f st pl =
        waiting _ s.caller false
        (sleep-chained z g k s.caller sleeping nowhere call (sym st) (sym pl)
        (sleeper-in call f (λ v. absurd (omega (arith, st ∙ refl, v))) (λ v. absurd (omega (arith, st, v)))
        (λ v. absurd (omega (arith, st, v)))))

    sleep-for-acts : s.kind ≡ 11 → KernelActs z p s (slept_for k s.caller (record { 0 = s.timeout }))
    unfolding slept_for
    sleep-for-acts e =
        nap-acts (record { kind = 11; object = 0; operand = 0; timeout = s.timeout })
        (record {
          kind = inr (inr (inr (inl refl)));
          object = omega arith;
          timeout = span s.timeout
              (rw e at a.value);
          operand = λ v. refl;
        })
        refl refl

    sleep-until-acts : s.kind ≡ 12 → KernelActs z p s (slept_until k s.caller c.time (record { 0 = s.a }))
    unfolding slept_until
    sleep-until-acts e =
        nap-acts (record { kind = 12; object = 0; operand = s.a; timeout = (differed c.time (record { 0 = s.a })).0 })
        (record {
          kind = inr (inr (inr (inr (inl refl))));
          object = omega arith;
          timeout = span (differed c.time (record { 0 = s.a })).0 (rw e at a.value);
          operand = λ v. contrary refl v;
        })
        refl refl

    event-acts : s.kind ≡ 14 → KernelActs z p s (event_waited k s.caller (call_of s))
    event-acts e =
        let x =
        event-wait-chained z g k s.caller (call_of s) w.kernel.rules.sized me (idle-free (thread_at k s.caller) idle) e
        (λ t b. sleeper-in (call_of s)
        (kept-fits (inr (inr (inr (inr (inr (inl (rw e (omega arith, omega arith)))))))) (rw e (omega arith)) t)
        (λ v. absurd (omega (arith, rw e at v))) (λ v. absurd (omega (arith, rw e at v))) (λ v. rw e (rw e at b))) in
        split (eqb (bit_and (thread_at k s.caller).pending (operand_of s)) 0)
        (λ b. waiting _ s.caller (eqb s.timeout immediate) (rw b at x))
        (λ b. waiting _ s.caller true (rw b at x))

  -- "A thread's call that doesn't sleep finishes at once"
  at-once : (m : ℤ) (h : Kernel) → Effects z p s h → KernelActs z p s (finished h s.caller m 0)
  at-once answer h x =
      let m = x.acts.notes in
      let i = s.caller in
      record {
        notes = m;
        chained = rw (nil-right m) at
            (after x.acts.chained
            (finish-chained z g h i answer 0
            (stepper-caller z h i (stepper-kept z k h i m g w.kernel x.acts.chained (x.awake i) stepper))));
        takes = x.acts.takes;
        signals = x.acts.signals;
      }

  -- a kind that may sleep is a thread's
  by-thread : {m : ℕ} → s.kind ≡ m → kernel_waits m ≡ true → s.caller ≢ nobody
  by-thread e v = waits-thread p c s a (rw e v)

  -- 2, 3, 6, 9, 11, 12, 14
  call-made : answers_itself s.kind ≡ true → KernelActs z p s (call_made k c.time s)
  unfolding call_made signal_acted
  call-made x =
      chosen (KernelActs z p s) (eqb s.kind 2) (λ e. let is = eqb-true s.kind 2 e in wait-acts (by-thread is refl) is)
      (λ e2. chosen (KernelActs z p s) (eqb s.kind 3)
      (λ e. at-once (signal_message (signalled k s.object).counted) (signalled k s.object).kernel (signal-acts (eqb-true s.kind 3 e)))
      (λ e3. chosen (KernelActs z p s) (eqb s.kind 6) (λ e. let is = eqb-true s.kind 6 e in queue-acts (by-thread is refl) is)
      (λ e6. chosen (KernelActs z p s) (eqb s.kind 9) (λ e. let is = eqb-true s.kind 9 e in suspend-acts (by-thread is refl) is)
      (λ e9. chosen (KernelActs z p s) (eqb s.kind 11) (λ e. let is = eqb-true s.kind 11 e in sleep-for-acts (by-thread is refl) is)
      (λ e11. chosen (KernelActs z p s) (eqb s.kind 12) (λ e. let is = eqb-true s.kind 12 e in sleep-until-acts (by-thread is refl) is)
      (λ e12. let is = left-fourteen s.kind x e2 e3 e6 e9 e11 e12 in event-acts (by-thread is refl) is))))))

  -- an accepted step of the kernel part
  pub kernel-acts : s.kind ≤ 14 → Acts z p s (with_kernel p (acted_on_kernel k n c.time s))
  unfolding acted_on_kernel
  kernel-acts h =
      let x = chosen (KernelActs z p s) (answers_itself s.kind) call-made (λ v. at-once ok (effected k n s) (effect h v)) in
      record {
        notes = x.notes;
        done = kernel-done z p (acted_on_kernel k n c.time s) x.notes w x.chained (λ q there. x.takes q ∙ sym (x.signals q));
      }
