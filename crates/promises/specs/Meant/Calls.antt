-- What the parts of a step do to tables whose rules hold, in the words of `StepOf`: for the step's own call and for a continued one.
use Rattle.std.specs.Prelude.{ℕ, zero, suc, ◌+◌, ◌-◌, ◌≤◌, ◌<◌, ◌≡◌, refl, ◌≢◌, ◌⊎◌, false, length, get_or, ℤ, negsuc, ◌+ℤ◌, ◌-ℤ◌}
use Rattle.std.proofs.Common.{arith, sym, ◌∙◌}
use Rattle.std.proofs.Math.Path.{ap, subst}
use Rattle.std.proofs.Math.Logic.{inl, inr}
use Rattle.std.specs.Int.Bits.{bit_and, bit_or}
use Rattle.std.proofs.Math.IntN.{pos}
use Rattle.std.specs.Int.Signed.{lt_z}
use borrow.Author.Tests.{eq-eqb, ne_eqb, lt-ltb}
use Rattle.kernel.specs.declared.records.Call.{Call}
use Rattle.kernel.specs.declared.records.Thread.{Thread}
use Rattle.kernel.specs.declared.records.Kernel.{Kernel}
use Rattle.kernel.specs.Numbers.{queued, awaiting, ok, was_reset, timed_out}
use Rattle.kernel.specs.Places.{pool_place, writers_place, readers_place}
use Rattle.kernel.specs.Walk.{each}
use Rattle.kernel.specs.Tables.{thread_at, counter_at, holder_at, with_thread, with_counter}
use Rattle.kernel.specs.Moves.{woken, finished, blocked}
use Rattle.kernel.specs.Waiters.{first_waiter}
use Rattle.kernel.specs.Queue.{enqueued, released_first, released_all}
use Rattle.kernel.specs.Semaphore.{taken, waited, signalled}
use Rattle.kernel.specs.Reference.{resumed}
use Rattle.kernel.specs.Event.{with_pending, flagged, took_flags, event_signalled, event_waited}
use Rattle.kernel.proofs.Cases.{split, same_or, in-or-out, contrary}
use Rattle.kernel.proofs.TablesLaws.{Sized, SameSizes, sizes-refl, sizes-trans, sized-kept, counter-sizes, thread-sizes, thread-same}
use Rattle.kernel.proofs.CountersLaws.{down-exact, below_top}
use Rattle.kernel.proofs.WalkLaws.{Least as FirstOf}
use Rattle.kernel.proofs.WaitersLaws.{waits, TellsAt, first-waiter-cases}
use Rattle.kernel.proofs.MovesLaws.{wake-sizes, wake-past}
use Rattle.kernel.proofs.SemaphoreLaws.{signal-top}
use Rattle.kernel.proofs.QueueLaws.{walked_one, release-first-sizes, release-all-walk}
use Rattle.library.specs.declared.tables.Mailbox.{Mailbox}
use Rattle.library.specs.declared.tables.Plant.{Plant}
use Rattle.library.specs.Binary.{binary_signalled}
use Rattle.library.specs.Ring.{posted, posted_ahead}
use Rattle.library.specs.Mailbox.{post_done, post_tried, fetch_done, fetch_tried}
use Rattle.library.specs.Pool.{popped, handed_over, alloc_tried}
use Rattle.library.specs.Sizes.{slots_at}
use Rattle.library.specs.Tables.{mailbox_at, pool_at, with_kernel, with_mailbox}
use Rattle.promises.specs.Together.Good.{Good}
use Rattle.promises.specs.Kept.Tallies.{Tallies, wake-tallies}
use Rattle.promises.specs.Kept.CounterRule.{pool-place, writers-place, readers-place}
use Rattle.promises.specs.Kept.WordRule.{writers-told, readers-told}
use Rattle.promises.specs.Kept.RingKept.{after-mod}
use Rattle.promises.specs.Kept.Whole.{Whole, whole-good}
use Rattle.promises.specs.Meant.Waiters.{waiting-waits, waits-waiting, rule-below, rule-high, signal-finds}
use Rattle.promises.specs.Meant.Mailboxes.{BoxThere, good-box, full-waits, room-done, empty-waits, message-done}
use Rattle.promises.specs.Meant.Pools.{counter-stocked}
use Rattle.promises.specs.Paper.World.{World, box_to, pool_to, made_ready, ended}
use Rattle.promises.specs.Paper.Rows.{
  took_flags as took_of,
  flagged as flagged_of,
  written,
  written_ahead,
  taken_from,
  top_in,
  without_top,
  top_taken,
  Signal,
  BinarySignal,
  Waits,
  SemaphoreWait,
  Release,
  ReleaseOf,
  ReleaseAll,
  Resume,
  EventSignal,
  EventWait,
  Post,
  Fetch,
  Alloc,
}
use Rattle.promises.specs.Meant.Moves.{
  world_of,
  Raisable,
  Joinable,
  thread-world,
  counter-world,
  box-world,
  pool-world,
  wake-world,
  finish-world,
  sleep-world,
}

-- who calls: an interrupt, or a thread with a row
abbrev pub There : ℕ → Type 0
There i = (i ≡ 255) ⊎ (i < 16)

-- a place in use, whose counter tells who waits
abbrev pub InUse : Plant → ℕ → Type 0
InUse p q = (q < 36) × Tallies p.sizes.threads q p.kernel

-- a waiter's counter has room for its +1
waiter-room : (p : Plant) (q i : ℕ) → i < p.sizes.threads → InUse p q → (thread_at p.kernel i).place ≡ q → Raisable p.kernel i
waiter-room p q i h u e s =
    rw e (
      u.0,
      below_top (counter_at p.kernel q) 0 (omega arith)
          (rule-below p.kernel p.sizes.threads q i u.1 h (record { state = s; place = e })),
    )

pub queue-join : (p : Plant) (q : ℕ) → p.sizes.threads ≤ 16 → InUse p q → Joinable p.kernel 3 q
queue-join p q few u = (λ e. (u.0, rule-high p.kernel p.sizes.threads q few u.1), λ e. absurd (omega arith))

-- who fails the test does not wait
waits-not : (k : Kernel) (q i : ℕ) → waits k q i ≡ false → (thread_at k i).state ≡ 3 → (thread_at k i).place ≡ q → ⊥
waits-not k q i e s x = contrary (waiting-waits {k = k} {p = q} {i = i} (record { state = s; place = x })) e

module _ (p : Plant) (z : Sized p.kernel) where
  abbrev k : Kernel
  k = p.kernel

  abbrev n : ℕ
  n = p.sizes.threads

  -- ---- waits

  pub waits-is : (i s q : ℕ) (c : Call) → There i → (c.timeout ≢ 0 → i < 16) → Joinable k s q
      → Waits (world_of p) i s q c (world_of (with_kernel p (blocked k i s q c)))
  unfolding blocked
  waits-is i s q c who thread join =
      same_or c.timeout 0
      (λ e. Waits.now e (rw (eq-eqb c.timeout 0 e) (finish-world p z i timed_out 0 who)))
      (λ d. Waits.later d (rw (ne_eqb c.timeout 0 d) (sleep-world p z i s q c (thread d) join)))

  pub semaphore-wait-is : n ≤ 16 → (i q : ℕ) (c : Call) → i < 16 → InUse p q
      → SemaphoreWait (world_of p) i q c (world_of (with_kernel p (waited k i q c)))
  unfolding waited enqueued taken
  semaphore-wait-is few i q c here u =
      split (lt_z (pos 0) (counter_at k q))
      (λ e. SemaphoreWait.above e
      (rw (e, down-exact (counter_at k q) (rule-high k n q few u.1))
      (finish-world (with_kernel p (with_counter k q (counter_at k q -ℤ pos 1))) (sized-kept (counter-sizes k q _) z) i ok 0 (inr here)
      ∙ ap (λ (w : World). ended w i (pos 0) 0) (counter-world p z q u.0 (counter_at k q -ℤ pos 1)))))
      (λ e. SemaphoreWait.not-above e (rw e (waits-is i queued q c (inr here) (λ d. here) (queue-join p q few u))))

  -- ---- releases

  pub signal-is : k.cause ≡ 1 → n ≤ 16 → (q : ℕ) → TellsAt n k q → InUse p q
      → Signal (world_of p) q (world_of (with_kernel p (signalled k q).kernel)) (signalled k q).counted
  unfolding signalled released_first
  signal-is by few q told u =
      split (lt_z (counter_at k q) (pos 0))
      (λ e.
      let w = signal-finds k z n q few told u.1 e in
      let i = first_waiter k q in
      rw (below_top (counter_at k q) 0 (omega arith) e)
      (Signal.wakes e i
      (record {
        thread = w.thread;
        waits = (w.waits.state, w.waits.place);
        highest = λ j h s x. w.highest j h (record { state = s; place = x });
      })
      (rw e (wake-world p z i (pos 0) (omega (arith, w.thread, few)) (waiter-room p q i w.thread u w.waits.place) 1 by))))
      (λ e. split (lt_z (counter_at k q) (pos 2147483647))
      (λ b. rw b (Signal.raises e b (rw e (counter-world p z q u.0 (counter_at k q +ℤ pos 1)))))
      (λ b. subst (Signal (world_of p) q (world_of (with_kernel p (signalled k q).kernel))) (sym b)
      (Signal.at_top b (ap (λ (x : Kernel). world_of (with_kernel p x)) (signal-top k q b)))))

  pub binary-is : k.cause ≡ 1 → n ≤ 16 → (q : ℕ) → TellsAt n k q → InUse p q → BinarySignal (world_of p) q (world_of (with_kernel p (binary_signalled k q)))
  unfolding binary_signalled
  binary-is by few q told u =
      split (lt_z (counter_at k q) (pos 1))
      (λ e. BinarySignal.signals e (signalled k q).counted (rw e (signal-is by few q told u)))
      (λ e. BinarySignal.nothing e (rw e))

  -- a thread that is not there is not made ready
  nobody-woken : (m : ℤ) → woken k 255 m ≡ k
  nobody-woken m = wake-past k 255 m (omega (arith, z.threads)) (omega (arith, z.woken)) (omega arith)

  pub release-is : n ≤ 16 → (q : ℕ) → TellsAt n k q → (m : ℤ) → InUse p q
      → Release (world_of p) q m k.cause (world_of (with_kernel p (released_first k q m)))
  unfolding released_first
  release-is few q told m u =
      elim (first-waiter-cases k n few q told) [
        | inl f ↦ found f
        | inr f ↦ Release.nobody (λ i h. waits-not k q i (f.1 i h.thread) h.waits.0 h.waits.1)
            (ap (λ (i : ℕ). world_of (with_kernel p (woken k i m))) f.0 ∙ ap (λ (x : Kernel). world_of (with_kernel p x)) (nobody-woken m))
      ]
    where
      found : FirstOf (waits k q) n (first_waiter k q)
          → Release (world_of p) q m k.cause (world_of (with_kernel p (woken k (first_waiter k q) m)))
      found f =
          let i = first_waiter k q in
          let w = waits-waiting k q i f.passes in
          Release.first i
          (record {
            thread = f.below;
            waits = (w.state, w.place);
            highest = λ j h. waits-not k q j (f.least j h);
          })
          (wake-world p z i m (omega (arith, f.below)) (waiter-room p q i f.below u w.place) k.cause refl)

-- one thread of a release of all
release-of-is : (p : Plant) → Sized p.kernel → p.sizes.threads ≤ 16 → (q : ℕ) (m : ℤ) (i : ℕ) → i < p.sizes.threads → InUse p q
    → ReleaseOf (world_of p) q m p.kernel.cause i (world_of (with_kernel p (walked_one q m i p.kernel)))
release-of-is p z few q m i h u =
    split (waits p.kernel q i)
    (λ e.
    let w = waits-waiting p.kernel q i e in
    ReleaseOf.waits w.state w.place (rw e (wake-world p z i m (omega arith) (waiter-room p q i h u w.place) p.kernel.cause refl)))
    (λ e. ReleaseOf.elsewhere (apart e) (rw e))
  where
    apart : waits p.kernel q i ≡ false → ((thread_at p.kernel i).state ≢ 3) ⊎ ((thread_at p.kernel i).place ≢ q)
    apart e =
        same_or (thread_at p.kernel i).state 3
        (λ s. inr (waits-not p.kernel q i e s)) inl

module _ (p : Plant) (z : Sized p.kernel) (few : p.sizes.threads ≤ 16) (q : ℕ) (told : TellsAt p.sizes.threads p.kernel q) (m : ℤ)
    (u : InUse p q) where
  abbrev up_to : ℕ → Kernel
  up_to j = each j (walked_one q m) p.kernel

  same-to : (j : ℕ) → SameSizes p.kernel (up_to j)
  same-to zero = sizes-refl p.kernel
  same-to (suc j) =
      split (waits (up_to j) q j) (λ e. rw e (sizes-trans (same-to j) (wake-sizes (up_to j) j m))) (λ e. rw e (same-to j))

  sized-to : (j : ℕ) → Sized (up_to j)
  sized-to j = sized-kept (same-to j) z

  tallied-to : (r : ℕ) → Tallies p.sizes.threads r p.kernel → (j : ℕ) → j ≤ p.sizes.threads → Tallies p.sizes.threads r (up_to j)
  tallied-to r g zero h = g
  tallied-to r g (suc j) h =
      let before = tallied-to r g j (omega arith) in
      split (waits (up_to j) q j) (λ e. rw e (wake-tallies (up_to j) j m p.sizes.threads r h before)) (λ e. rw e before)

  all-to : (j : ℕ) → j ≤ p.sizes.threads → ReleaseAll (world_of p) q m p.kernel.cause j (world_of (with_kernel p (up_to j)))
  all-to zero h = refl
  all-to (suc j) h = (
    world_of (with_kernel p (up_to j)),
    all-to j (omega arith),
    subst (λ (c : ℕ). ReleaseOf (world_of (with_kernel p (up_to j))) q m c j (world_of (with_kernel p (up_to (suc j))))) (same-to j).cause
        (release-of-is (with_kernel p (up_to j)) (sized-to j) few q m j h (u.0, tallied-to q u.1 j (omega arith))),
  )

  pub release-all-is : ReleaseAll (world_of p) q m p.kernel.cause p.sizes.threads (world_of (with_kernel p (released_all p.kernel q m)))
  release-all-is =
      rw (release-all-walk p.kernel q m p.sizes.threads few told) (all-to p.sizes.threads (omega arith))

-- ---- references and events

module _ (p : Plant) (w : Whole p.sizes p) where
  abbrev k₁ : Kernel
  k₁ = p.kernel

  pub sized : Sized k₁
  sized = w.kernel.rules.sized

  pub few : p.sizes.threads ≤ 16
  few = w.sizes.threads.1

  pub good : Good p
  good = whole-good p p.sizes w

  pub resume-is : k₁.cause ≡ 3 → (r : ℕ) (m : ℤ) → r < p.sizes.references → Resume (world_of p) r m (world_of (with_kernel p (resumed k₁ r m)))
  unfolding resumed
  resume-is by r m h =
      same_or (holder_at k₁ r) 255
      (λ e. Resume.empty e
      (ap (λ (i : ℕ). world_of (with_kernel p (woken k₁ i m))) e ∙ ap (λ (x : Kernel). world_of (with_kernel p x)) (nobody-woken p sized m)))
      (λ d. Resume.held d (wake-world p sized (holder_at k₁ r) m (omega (arith, within d, few)) (λ s. absurd (omega (arith, s, state d))) 3 by))
    where
      within : holder_at k₁ r ≢ 255 → holder_at k₁ r < p.sizes.threads
      within d = elim (good.references.holder r h) [ inl e ↦ absurd (d e) | inr l ↦ l ]

      state : holder_at k₁ r ≢ 255 → (thread_at k₁ (holder_at k₁ r)).state ≡ 2
      state d = ((good.references.holds r h (holder_at k₁ r) (within d)).0 refl).0

-- the pending flags of a mask are taken
pub took-is : (p : Plant) → Sized p.kernel → (i : ℕ) → i < 16 → (mask : ℕ)
    → world_of (with_kernel p (took_flags p.kernel i mask)) ≡ took_of (world_of p) i mask
unfolding took_flags
took-is p z i here mask =
    let k = p.kernel in
    let u = with_pending (thread_at k i) ((thread_at k i).pending - bit_and (thread_at k i).pending mask) in
    finish-world (with_kernel p (with_thread k i u)) (sized-kept (thread-sizes k i u) z) i (pos 0) (bit_and (thread_at k i).pending mask)
    (inr here)
    ∙ ap (λ (w : World). ended w i (pos 0) (bit_and (thread_at k i).pending mask)) (thread-world p z i here u)

module _ (p : Plant) (z : Sized p.kernel) (i : ℕ) (here : i < 16) where
  abbrev k₂ : Kernel
  k₂ = p.kernel

  flagged-is : (a : ℕ) → world_of (with_kernel p (with_thread k₂ i (flagged (thread_at k₂ i) a)))
      ≡ flagged_of (world_of p) i a
  flagged-is a = thread-world p z i here (flagged (thread_at k₂ i) a)

  came-is : k₂.cause ≡ 4 → (a : ℕ) → (thread_at k₂ i).state ≡ 4
      → world_of (with_kernel p (woken (with_thread k₂ i (flagged (thread_at k₂ i) a)) i ok)) ≡ made_ready (flagged_of (world_of p) i a) i (pos 0) 4
  came-is by a s =
      let told = with_thread k₂ i (flagged (thread_at k₂ i) a) in
      let y = sized-kept (thread-sizes k₂ i (flagged (thread_at k₂ i) a)) z in
      let row : thread_at told i ≡ flagged (thread_at k₂ i) a =
      thread-same k₂ i (flagged (thread_at k₂ i) a) (rw z.threads here) in
      wake-world (with_kernel p told) y i (pos 0) here (λ x. absurd (omega (arith, s, ap (λ (t : Thread). t.state) row, x))) 4 by
      ∙ ap (λ (w : World). made_ready w i (pos 0) 4) (flagged-is a)

  pub event-signal-is : k₂.cause ≡ 4 → (a : ℕ) → EventSignal (world_of p) i a (world_of (with_kernel p (event_signalled k₂ i a)))
  unfolding event_signalled
  event-signal-is by a =
      same_or (thread_at k₂ i).state 4
      (λ s. same_or (bit_and (bit_or (thread_at k₂ i).pending a) (thread_at k₂ i).awaited) 0
      (λ e. EventSignal.only-flagged (inr e) (rw (eq-eqb (thread_at k₂ i).state 4 s, eq-eqb (bit_and (bit_or (thread_at k₂ i).pending a) (thread_at k₂ i).awaited) 0 e) (flagged-is a)))
      (λ d. EventSignal.comes s d
      (rw (eq-eqb (thread_at k₂ i).state 4 s, ne_eqb (bit_and (bit_or (thread_at k₂ i).pending a) (thread_at k₂ i).awaited) 0 d) (came-is by a s))))
      (λ d. EventSignal.only-flagged (inl d) (rw (ne_eqb (thread_at k₂ i).state 4 d) (flagged-is a)))

  pub event-wait-is : (c : Call) → EventWait (world_of p) i c (world_of (with_kernel p (event_waited k₂ i c)))
  unfolding event_waited
  event-wait-is c =
      same_or (bit_and (thread_at k₂ i).pending c.operand) 0
      (λ e. EventWait.finds-none e
      (rw (eq-eqb (bit_and (thread_at k₂ i).pending c.operand) 0 e)
      (waits-is p z i awaiting 0 c (inr here) (λ d. here) (λ x. absurd (omega arith), λ x. absurd (omega arith)))))
      (λ d. EventWait.finds d (rw (ne_eqb (bit_and (thread_at k₂ i).pending c.operand) 0 d) (took-is p z i here c.operand)))

-- ---- mailboxes

module _ (p : Plant) (w : Whole p.sizes p) (i : ℕ) (c : Call) (there : c.object < p.sizes.mailboxes) (who : There i)
    (thread : c.timeout ≢ 0 → i < 16) where
  abbrev b : ℕ
  b = c.object

  abbrev box : Mailbox
  box = mailbox_at p b

  abbrev slots : ℕ
  slots = slots_at p.sizes b

  box-there : BoxThere p b
  box-there = good-box p b (good p w) w.boxes (w.messages b (omega (arith, there, w.sizes.mailboxes))) there

  pub writers : InUse p (28 + b)
  writers =
      let e : 28 + b ≡ writers_place b = omega (arith, box-there.number) in
      let x = writers-place p.kernel p.sizes w.sizes b there (28 + b) e in
      let l : 28 + b < 36 = omega (arith, x.1.0) in
      (l, w.kernel.rules.places (28 + b) l x.1.1)

  pub readers : InUse p (32 + b)
  readers =
      let e : 32 + b ≡ readers_place b = omega (arith, box-there.number) in
      let x = readers-place p.kernel p.sizes w.sizes b there (32 + b) e in
      let l : 32 + b < 36 = omega (arith, x.1.0) in
      (l, w.kernel.rules.places (32 + b) l x.1.1)

  -- their places, as the meanings number them
  at-writers : writers_place b ≡ 28 + b
  at-writers = omega (arith, box-there.number)

  at-readers : readers_place b ≡ 32 + b
  at-readers = omega (arith, box-there.number)

  -- their words tell who waits there
  pub told-writers : TellsAt p.sizes.threads p.kernel (28 + b)
  told-writers =
      subst (TellsAt p.sizes.threads p.kernel) at-writers
      (writers-told p.kernel p.sizes w.sizes w.kernel.rules.words b there)

  told-readers : TellsAt p.sizes.threads p.kernel (32 + b)
  told-readers =
      subst (TellsAt p.sizes.threads p.kernel) at-readers
      (readers-told p.kernel p.sizes w.sizes w.kernel.rules.words b there)

  -- a release, the end of the call, and the mailbox
  served : (o : ℕ) → p.kernel.cause ≡ o → (q : ℕ) → TellsAt p.sizes.threads p.kernel q → InUse p q → (d : ℕ) (x : Mailbox) (h : Plant)
      → h ≡ with_mailbox
      (with_kernel p (finished (released_first p.kernel q ok) i ok d)) b x
      → (v : World) × Release (world_of p) q (pos 0) o v × (world_of h ≡ ended (box_to v b x) i (pos 0) d)
  served o by q told u d x h e =
      let k = released_first p.kernel q ok in (
        world_of (with_kernel p k),
        subst (λ (y : ℕ). Release (world_of p) q (pos 0) y (world_of (with_kernel p (released_first p.kernel q ok)))) by
            (release-is p (sized p w) (few p w) q told (pos 0) u),
        ap world_of e ∙ box-world (with_kernel p (finished k i ok d)) b x box-there.row
            ∙ ap (λ (v : World). box_to v b x)
            (finish-world (with_kernel p k) (sized-kept (release-first-sizes p.kernel q ok) (sized p w)) i (pos 0) d who),
      )

  asleep-at : (q r : ℕ) → q ≡ r → InUse p r → Waits (world_of p) i 3 r c (world_of (with_kernel p (enqueued p.kernel i q c)))
  unfolding enqueued
  asleep-at q r e u = rw e (waits-is p (sized p w) i 3 r c who thread (queue-join p r (few p w) u))

  reset-is : (h : Plant) → h ≡ with_kernel p (finished p.kernel i was_reset 0) → world_of h ≡ ended (world_of p) i (negsuc 1) 0
  reset-is h e = ap world_of e ∙ finish-world p (sized p w) i (negsuc 1) 0 who

  post-reset : box.reset ≢ 0 → post_tried p i c ≡ with_kernel p (finished p.kernel i was_reset 0)
  unfolding post_tried
  post-reset d = rw (ne_eqb box.reset 0 d)

  behind-is : box.reset ≡ 0 → box.positions.count < slots → c.kind ≢ 16
      → post_tried p i c
      ≡ with_mailbox
      (with_kernel p (finished (released_first p.kernel (32 + b) ok) i ok 0)) b
      (written box slots c.operand)
  unfolding post_done posted
  behind-is works room d =
      room-done p i c box-there works room
      ∙ rw (ne_eqb c.kind 16 d, lt-ltb box.positions.count slots room, at-readers, after-mod box.positions.write slots box-there.good.write)

  ahead-is : box.reset ≡ 0 → box.positions.count < slots → c.kind ≡ 16
      → post_tried p i c
      ≡ with_mailbox
      (with_kernel p (finished (released_first p.kernel (32 + b) ok) i ok 0)) b
      (written_ahead box slots c.operand)
  unfolding post_done posted_ahead
  ahead-is works room e =
      room-done p i c box-there works room
      ∙ rw (eq-eqb c.kind 16 e, lt-ltb box.positions.count slots room, at-readers)
      (same_or box.positions.read 0 (λ x. rw (x)) (λ x. rw (ne_eqb box.positions.read 0 x, lt-ltb 0 box.positions.read (omega arith))))

  pub post_is : p.kernel.cause ≡ 5 → (c.kind ≡ 15) ⊎ (c.kind ≡ 16) → Post (world_of p) i c (world_of (post_tried p i c))
  post_is by kind =
      same_or box.reset 0
      (λ works. in-or-out box.positions.count slots
      (λ room. goes_in works room kind)
      (λ full.
      let e : box.positions.count ≡ slots = omega (arith, box-there.good.count) in
      Post.no_room works full
      (subst (λ (h : Plant). Waits (world_of p) i 3 (28 + b) c (world_of h)) (sym (full-waits p i c box-there works e))
      (asleep-at (writers_place b) (28 + b) at-writers writers))))
      (λ d. Post.in-reset d (reset-is (post_tried p i c) (post-reset d)))
    where
      goes_in : box.reset ≡ 0 → box.positions.count < slots → (c.kind ≡ 15) ⊎ (c.kind ≡ 16)
          → Post (world_of p) i c (world_of (post_tried p i c))
      goes_in works room (inl e) =
          let x = served 5 by (32 + b) told-readers readers 0 (written box slots c.operand) (post_tried p i c) (behind-is works room (λ y. absurd (omega (arith, e, y)))) in
          Post.behind works room e x.0 x.1 x.2
      goes_in works room (inr e) =
          let x = served 5 by (32 + b) told-readers readers 0 (written_ahead box slots c.operand) (post_tried p i c) (ahead-is works room e) in
          Post.ahead works room e x.0 x.1 x.2

  fetch-reset : box.reset ≢ 0 → fetch_tried p i c ≡ with_kernel p (finished p.kernel i was_reset 0)
  unfolding fetch_tried
  fetch-reset d = rw (ne_eqb box.reset 0 d)

  taken_is : box.reset ≡ 0 → 0 < box.positions.count
      → fetch_tried p i c
      ≡ with_mailbox
      (with_kernel p
      (finished (released_first p.kernel (28 + b) ok) i ok (get_or box.messages box.positions.read 0))) b
      (taken_from box slots)
  unfolding fetch_done
  taken_is works some =
      message-done p i c box-there works some ∙ rw (at-writers, after-mod box.positions.read slots box-there.good.read)

  pub fetch-is : p.kernel.cause ≡ 6 → Fetch (world_of p) i c (world_of (fetch_tried p i c))
  fetch-is by =
      same_or box.reset 0
      (λ works. in-or-out 0 box.positions.count
      (λ some.
      let x =
      served 6 by (28 + b) told-writers writers (get_or box.messages box.positions.read 0) (taken_from box slots) (fetch_tried p i c)
      (taken_is works some) in
      Fetch.message works some x.0 x.1 x.2)
      (λ none.
      let e : box.positions.count ≡ 0 = omega arith in
      Fetch.no-message works e
      (subst (λ (h : Plant). Waits (world_of p) i 3 (32 + b) c (world_of h)) (sym (empty-waits p i c box-there works e))
      (asleep-at (readers_place b) (32 + b) at-readers readers))))
      (λ d. Fetch.in-reset d (reset-is (fetch_tried p i c) (fetch-reset d)))

-- ---- pools

-- the top is taken, of a pool that has one
pub top-is : (p : Plant) → Sized p.kernel → (i : ℕ) → There i → (q : ℕ) → q < length p.pools → 0 < (pool_at p q).length
    → world_of (handed_over p i q) ≡ top_taken (world_of p) i q
unfolding handed_over popped
top-is p z i who q row some =
    rw (lt-ltb 0 (pool_at p q).length some)
    (pool-world (with_kernel p (finished p.kernel i ok (top_in (pool_at p q)))) q (without_top (pool_at p q)) row
    ∙ ap (λ (v : World). pool_to v q (without_top (pool_at p q))) (finish-world p z i (pos 0) (top_in (pool_at p q)) who))

module _ (p : Plant) (w : Whole p.sizes p) (q : ℕ) (there : q < p.sizes.pools) where
  pub pool-row : q < length p.pools
  pool-row = omega (arith, w.rows, w.sizes.pools, there)

  pub pool-used : InUse p (16 + q)
  pool-used =
      let e : 16 + q ≡ pool_place q = omega (arith, w.sizes.pools, there) in
      let x = pool-place p.kernel p.sizes w.sizes q there (16 + q) e in
      let l : 16 + q < 36 = omega (arith, x.1.0) in
      (l, w.kernel.rules.places (16 + q) l x.1.1)

  pub at-pool : pool_place q ≡ 16 + q
  at-pool = omega (arith, w.sizes.pools, there)

pub alloc-is : (p : Plant) (w : Whole p.sizes p) (i : ℕ) (c : Call) → c.object < p.sizes.pools → There i
    → (c.timeout ≢ 0 → i < 16) → Alloc (world_of p) i c (world_of (alloc_tried p i c))
unfolding alloc_tried taken enqueued
alloc-is p w i c there who thread =
    let k = p.kernel in
    let q = c.object in
    let u = pool-used p w q there in
    let x = counter_at k (16 + q) in
    rw (at-pool p w q there)
    (split (lt_z (pos 0) (counter_at k (16 + q)))
    (λ e. Alloc.above e
    (rw (e, down-exact x (rule-high k p.sizes.threads (16 + q) (few p w) u.1))
    (top-is (with_kernel p (with_counter k (16 + q) (x -ℤ pos 1))) (sized-kept (counter-sizes k (16 + q) _) (sized p w)) i who q
    (pool-row p w q there) (counter-stocked p (good p w) q there (rw (at-pool p w q there) e))
    ∙ ap (λ (v : World). top_taken v i q) (counter-world p (sized p w) (16 + q) u.0 (x -ℤ pos 1)))))
    (λ e. Alloc.not-above e (rw e (waits-is p (sized p w) i 3 (16 + q) c who thread (queue-join p (16 + q) (few p w) u)))))
