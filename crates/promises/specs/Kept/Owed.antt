-- What a pool owes: the units of its semaphore and the objects that it has promised. A signal owes one more, a unit taken one less,
-- and no other move changes it; so the free list, which a free and an add lengthen and a taking shortens, has that length.
use Rattle.std.specs.Prelude.{ℕ, zero, suc, ◌+◌, ◌<◌, ◌≡◌, ◌≢◌, Bool, true, false, ◌&&◌, List, eqb, length, get_or, ℤ, pos, negsuc}
use native.Mathlib.Omega.{arith}
use Rattle.std.proofs.Math.Path.{refl}
use Rattle.std.proofs.Common.{sym, ap, ◌∙◌}
use Rattle.std.proofs.Math.Bool.{and-true}
use Rattle.std.proofs.Math.IntN.{+ℤ_one, -ℤ_one}
use Rattle.std.specs.Int.Signed.{lt_z}
use borrow.Author.Tests.{eqb-true, eq-eqb, ne_eqb, ltb-false, le-ltb}
use Rattle.kernel.specs.declared.records.Call.{Call}
use Rattle.kernel.specs.declared.records.Thread.{Thread}
use Rattle.kernel.specs.declared.records.Kernel.{Kernel}
use Rattle.kernel.specs.Numbers.{nobody, ready, queued, ok, timed_out}
use Rattle.kernel.specs.Counters.{up, down}
use Rattle.kernel.specs.Places.{pool_place}
use Rattle.kernel.specs.Walk.{bit, count_of}
use Rattle.kernel.specs.Tables.{thread_at, counter_at, with_thread, with_counter}
use Rattle.kernel.specs.Moves.{readied, asleep, answered, woken, slept, finished}
use Rattle.kernel.specs.Waiters.{is_ready, queued_at}
use Rattle.kernel.specs.Semaphore.{taken}
use Rattle.kernel.specs.Event.{with_pending}
use Rattle.kernel.specs.Ticking.{counted_off, ticked}
use Rattle.kernel.proofs.Cases.{split, same_or, contrary, both-means, second-fails}
use Rattle.kernel.proofs.WalkLaws.{Least, count-agree, count-change, count-some}
use Rattle.kernel.proofs.CountersLaws.{debt-below, up-exact, down-not-above}
use Rattle.kernel.proofs.TablesLaws.{used_all, thread-kept, counter-same, counter-other}
use Rattle.kernel.proofs.MovesLaws.{
  wake-row,
  wake-others,
  wake-counter,
  wake-counter-others,
  wake-sizes,
  sleep-row,
  sleep-others,
  sleep-counter,
  finish-row,
  finish-others,
  finish-counters,
}
use Rattle.kernel.proofs.WaitersLaws.{waits, queued-place}
use Rattle.kernel.proofs.TickingLaws.{aged, aged-last, aged-counted, tick-row, tick-keeps}
use Rattle.library.specs.declared.sizes.Sizes.{Sizes}
use Rattle.library.specs.Signs.{same}
use Rattle.rules.specs.RowRules.{call_limit, wait_state, wait_place}
use Rattle.rules.specs.PoolRules.{is_promised, promised_by, promised_count}
use Rattle.promises.specs.Together.Good.{GoodSizes, GoodThread}
use Rattle.promises.specs.Kept.Tallies.{Tallies, wake-tallies, row-tallies}
use Rattle.promises.specs.Kept.CounterRule.{pool-place}
use Rattle.promises.specs.Kept.PoolKept.{stock}
use Rattle.promises.specs.Kept.Rows.{each-kind, waits-unready}
use Rattle.promises.specs.Kept.Chain.{
  Waken,
  Sleeper,
  Finisher,
  Hander,
  Note,
  sleep_of,
  signal_at,
  take_at,
  Move,
  Chain,
  count_in,
  count-append,
  Sound,
  move-sound,
  queued-unready,
}

abbrev pub is_signal : ℕ → Note → Bool
is_signal p (sleep_of i) = false
is_signal p (signal_at q) = eqb q p
is_signal p (take_at q) = false

abbrev pub is_take : ℕ → Note → Bool
is_take p (sleep_of i) = false
is_take p (signal_at q) = false
is_take p (take_at q) = eqb q p

-- ---- the units of a semaphore

stock-up-below : (c : ℤ) → lt_z c (pos 0) ≡ true → stock (up c) ≡ stock c
stock-up-below (pos n) e = contrary e (le-ltb n 0 (omega arith))
stock-up-below (negsuc zero) e = refl
stock-up-below (negsuc (suc n)) e = rw +ℤ_one

stock-up : (c : ℤ) → lt_z c (pos 0) ≡ false → lt_z c (pos 2147483647) ≡ true → stock (up c) ≡ stock c + 1
stock-up (pos n) e b = rw (up-exact (pos n) b)
stock-up (negsuc n) e b = contrary refl e

stock-down : (c : ℤ) → lt_z (pos 0) c ≡ true → stock (down c) + 1 ≡ stock c
stock-down (pos zero) e = contrary e refl
stock-down (pos (suc n)) e = rw -ℤ_one (omega arith)
stock-down (negsuc n) e = contrary e refl

stock-level : (c : ℤ) → lt_z (pos 0) c ≡ false → stock c ≡ 0
stock-level (pos n) e = omega (arith, ltb-false 0 n e)
stock-level (negsuc n) e = refl

-- ---- whom a pool has promised an object

module _ (z : Sizes) (g : GoodSizes z) (q : ℕ) (there : q < z.pools) where
  abbrev n : ℕ
  n = z.threads

  -- the pool's place
  abbrev at : ℕ
  at = pool_place q

  low : q < 4
  low = omega (arith, g.pools)

  -- who is queued there is in an alloc of this pool
  alloc-kind : (t : Thread) → GoodThread z t → queued_at at t ≡ true → (t.call.kind ≡ 20) × (t.call.object ≡ q)
  alloc-kind t f e =
      let b = both-means (eqb t.state queued) (eqb t.place at) e in
      let u = queued-unready at t e in
      each-kind (λ m. (o : ℕ) → o < call_limit z m → wait_state m ≡ queued → wait_place m o ≡ at → (m ≡ 20) × (o ≡ q))
      (λ o h s p. absurd (omega (arith, low, g.semaphores)))
      (λ o h s p. absurd (omega (arith, low)))
      (λ o h s p. absurd (omega (arith, s)))
      (λ o h s p. absurd (omega (arith, s)))
      (λ o h s p. absurd (omega (arith, s)))
      (λ o h s p. absurd (omega (arith, s)))
      (λ o h s p. absurd (omega (arith, low)))
      (λ o h s p. absurd (omega (arith, low)))
      (λ o h s p. absurd (omega (arith, low)))
      (λ o h s p. (refl, omega (arith, low, g.pools)))
      t.call.kind (f.kind (f.unready-call u)) t.call.object (f.object (f.unready-call u))
      (sym (f.unready-state u) ∙ eqb-true t.state queued b.0) (sym (f.unready-place u) ∙ eqb-true t.place at b.1)

  -- and who sleeps in one is queued there
  alloc-queued : (t : Thread) → GoodThread z t → t.state ≢ ready → t.call.kind ≡ 20 → t.call.object ≡ q → queued_at at t ≡ true
  alloc-queued t f u e o = rw (f.unready-state u, f.unready-place u, e, o, eq-eqb at at refl)

  -- so a waking promises an object exactly to a waiter of the pool, with 0
  promised-readied : (t : Thread) (m : ℤ) (c n : ℕ) → GoodThread z t → t.state ≢ ready
      → promised_by q (readied t m c n) ≡ queued_at at t && same m ok
  promised-readied t m c n f u =
      split (queued_at at t)
      (λ e. let k = alloc-kind t f e in rw (e, k.0, k.1, eq-eqb q q refl) (and-true (same m ok)))
      (λ e. rw e
      (same_or t.call.kind 20
      (λ k. same_or t.call.object q (λ o. contrary (alloc-queued t f u k o) e)
      (λ d. rw (ne_eqb t.call.object q d) (second-fails (is_promised (readied t m c n)) refl)))
      (λ d. rw (ne_eqb t.call.kind 20 d))))

  unready-unpromised : (t : Thread) → t.state ≢ ready → promised_by q t ≡ false
  unready-unpromised t u = rw (ne_eqb t.state ready u)

  -- how many objects are promised to the threads
  abbrev promised : Kernel → ℕ
  promised k = count_of (λ i. promised_by q (thread_at k i)) n

  -- the units of its semaphore, and the objects promised
  abbrev pub owed : Kernel → ℕ
  owed k = stock (counter_at k at) + promised k

  pub owed-is : (k : Kernel) → stock (counter_at k at) + promised_count k n q ≡ owed k
  unfolding promised_count
  owed-is k = rw (used_all n g.threads.1)

  -- ---- what each move does to it

  -- the place is one of the table, and in use
  place : (k : Kernel) → Sound z k → (at < length k.counters) × Tallies n at k
  place k s =
      let x = pool-place k z g q there at refl in
      (omega (arith, x.1.0, s.rules.sized.counters), s.rules.places at (omega (arith, x.1.0)) x.1.1)

  -- a waking raises only a counter below 0
  wake-stock : (k : Kernel) (i : ℕ) (m : ℤ) → i < n → at < length k.counters → Tallies n at k
      → stock (counter_at (woken k i m) at) ≡ stock (counter_at k at)
  wake-stock k i m l h t =
      split (queued_at at (thread_at k i))
      (λ e. rw (wake-counter k i m at h, e)
      (stock-up-below (counter_at k at) (debt-below (counter_at k at) (omega (arith, t.tally, count-some (waits k at) n i l e)))))
      (λ e. rw (wake-counter-others k i m at e))

  row_in : (k : Kernel) → Sound z k → (i : ℕ) → i < n → i < length k.threads
  row_in k s i l = omega (arith, s.rules.sized.threads, g.threads.1)

  wake-owed : (k : Kernel) (i : ℕ) (m : ℤ) → Sound z k → i < n → (thread_at k i).state ≢ ready
      → owed (woken k i m) ≡ owed k + bit (waits k at i && same m ok)
  wake-owed k i m s l u =
      let x = place k s in
      omega (
        arith,
        wake-stock k i m l x.0 x.1,
        rw (unready-unpromised (thread_at k i) u, wake-row k i m (row_in k s i l), promised-readied (thread_at k i) m k.cause k.steps (s.rows i l) u)
            at (count-change (λ j. promised_by q (thread_at (woken k i m) j)) (λ j. promised_by q (thread_at k j)) n i l
            (λ j h d. ap (promised_by q) (wake-others k i m j d))),
      )

  -- without an object promised, or with one
  finish-owed : (k : Kernel) (i : ℕ) (m : ℤ) (d : ℕ) → Sound z k → i < n
      → owed (finished k i m d) + bit (promised_by q (thread_at k i)) ≡ owed k
  finish-owed k i m d s l =
      let someone : i ≢ nobody = omega (arith, g.threads.1) in
      omega (
        arith,
        ap (λ (c : List ℤ). stock (get_or c at (pos 0))) (finish-counters k i m d),
        rw (finish-row k i m d someone (row_in k s i l), none (thread_at k i))
            at (count-change (λ j. promised_by q (thread_at (finished k i m d) j)) (λ j. promised_by q (thread_at k j)) n i l
            (λ j h e. ap (promised_by q) (finish-others k i m d j e))),
      )
    where
      none : (t : Thread) → promised_by q (answered t (record { message = m; datum = d })) ≡ false
      none t = rw (second-fails (is_ready t) refl)

  -- nobody to whom an object is promised goes to sleep, and a counter above 0 is not slept on
  sleep-owed : (k : Kernel) (i : ℕ) (c : Call) → Sound z k → Sleeper z k i c
      → owed (slept k i (wait_state c.kind) (wait_place c.kind c.object) c) ≡ owed k
  sleep-owed k i c s w =
      omega (
        arith,
        stocks (place k s).0,
        rw (
          w.unpromised,
          sleep-row k i st pl c low-row (row_in k s i w.within),
          unready-unpromised
              (asleep (thread_at k i) st pl c) (waits-unready c.kind w.fits.kind),
        )
            at (count-change (λ j. promised_by q (thread_at (slept k i st pl c) j)) (λ j. promised_by q (thread_at k j)) n i w.within
            (λ j h e. ap (promised_by q) (sleep-others k i st pl c j e))),
      )
    where
      st : ℕ
      st = wait_state c.kind

      pl : ℕ
      pl = wait_place c.kind c.object

      low-row : i < 16
      low-row = omega (arith, w.within, g.threads.1)

      stocks : at < length k.counters → stock (counter_at (slept k i st pl c) at) ≡ stock (counter_at k at)
      stocks h =
          rw (sleep-counter k i st pl c low-row at h)
          (split (eqb st queued && eqb pl at)
          (λ e.
          let b = both-means (eqb st queued) (eqb pl at) e in
          let z = rw (eqb-true pl at b.1) at (w.counter (eqb-true st queued b.0)) in
          rw e (stock-level (down (counter_at k at)) (down-not-above (counter_at k at) z) ∙ sym (stock-level (counter_at k at) z)))
          (λ e. rw e))

  -- a tick promises nothing: it wakes with -1
  tick-owed : (k : Kernel) → Sound z k → owed (ticked k n) ≡ owed k
  tick-owed k s =
      let x = place k s in
      omega (
        arith,
        (tick-keeps k n (λ h. (stock (counter_at h at) ≡ stock (counter_at k at)) × ((at < length h.counters) × Tallies n at h))
            (λ i l h p. (
              wake-stock h i timed_out l p.1.0 p.1.1 ∙ p.0,
              (rw (wake-sizes h i timed_out).counters p.1.0, wake-tallies h i timed_out n at l p.1.1),
            ))
            (λ i h p. (p.0, (p.1.0, row-tallies h n at i (counted_off (thread_at h i)) (λ r. refl) p.1.1)))
            (refl, x)).0,
        count-agree (λ i. promised_by q (thread_at (ticked k n) i)) (λ i. promised_by q (thread_at k i)) n
            (λ i l. ap (promised_by q) (tick-row k n i (rw (used_all n g.threads.1) l)) ∙ same-promise k.cause k.steps (thread_at k i) (s.rows i l)),
      )
    where
      same-promise : (c n : ℕ) (t : Thread) → GoodThread z t → promised_by q (aged c n t) ≡ promised_by q t
      same-promise c n t f =
          same_or t.remaining 1
          (λ e.
          let u : t.state ≢ ready = λ r. absurd (none (f.ready-ticks r) e) in
          rw (aged-last c n t e) (promised-readied t timed_out c n f u ∙ second-fails (queued_at at t) refl ∙ sym (unready-unpromised t u)))
          (λ d. rw (aged-counted c n t d))
        where
          none : t.remaining ≡ 0 → t.remaining ≡ 1 → ⊥
          none a b = omega arith

  -- what a counter change does
  counter-owed : (k : Kernel) (p : ℕ) (c : ℤ) → p ≢ at → owed (with_counter k p c) ≡ owed k
  counter-owed k p c d = rw (counter-other k p c at (λ e. d (sym e)))

  quiet-owed : (k : Kernel) (i : ℕ) (m : ℤ) → Sound z k → Waken z k i m → owed (woken k i m) ≡ owed k
  quiet-owed k i m s w = omega (arith, wake-owed k i m s w.within w.asleep, none)
    where
      none : bit (waits k at i && same m ok) ≡ 0
      none =
          split (waits k at i)
          (λ e. rw (e, w.cause at (omega (arith, low)) e))
          (λ e. rw e)

  pass-owed : (k : Kernel) (p i : ℕ) → Sound z k → Least (waits k p) n i → owed (woken k i ok) ≡ owed k + bit (eqb p at)
  pass-owed k p i s f =
      wake-owed k i ok s f.below (queued-unready p (thread_at k i) f.passes)
      ∙ rw (queued-place p at (thread_at k i) f.passes, and-true (eqb p at))

  raise-owed : (k : Kernel) (p : ℕ) → Sound z k → lt_z (counter_at k p) (pos 0) ≡ false → lt_z (counter_at k p) (pos 2147483647) ≡ true
      → owed (with_counter k p (up (counter_at k p))) ≡ owed k + bit (eqb p at)
  raise-owed k p s e b =
      same_or p at
      (λ a. rw (a, eq-eqb at at refl, counter-same k at (up (counter_at k at)) (place k s).0)
      (omega (arith, stock-up (counter_at k at) (rw a at e) (rw a at b))))
      (λ d. rw (ne_eqb p at d) (omega (arith, counter-owed k p (up (counter_at k p)) d)))

  take-owed : (k : Kernel) (p : ℕ) → Sound z k → lt_z (pos 0) (counter_at k p) ≡ true → owed (taken k p) + bit (eqb p at) ≡ owed k
  unfolding taken
  take-owed k p s e =
      same_or p at
      (λ a. rw (a, eq-eqb at at refl, counter-same k at (down (counter_at k at)) (place k s).0)
      (omega (arith, stock-down (counter_at k at) (rw a at e))))
      (λ d. rw (ne_eqb p at d) (omega (arith, counter-owed k p (down (counter_at k p)) d)))

  -- the object of an alloc to whom one is promised is a pool
  hand-owed : (k : Kernel) (i d : ℕ) → Sound z k → Hander z k i
      → owed (finished k i ok d) + bit (eqb (pool_place (thread_at k i).call.object) at) ≡ owed k
  hand-owed k i d s f = rw (sym same-pool) (finish-owed k i ok d s f.within)
    where
      t : Thread
      t = thread_at k i

      kind : t.call.kind ≡ 20
      kind =
          eqb-true t.call.kind 20
          (both-means (eqb t.call.kind 20) (same t.message ok)
          (both-means (is_ready t) (eqb t.call.kind 20 && same t.message ok) f.promised).1).0

      object : t.call.object < z.pools
      object = rw kind at ((s.rows i f.within).object (omega (arith, kind)))

      same-pool : promised_by q t ≡ eqb (pool_place t.call.object) at
      same-pool =
          rw f.promised
          (same_or t.call.object q (λ e. rw (e, eq-eqb q q refl, eq-eqb at at refl))
          (λ d. rw (ne_eqb t.call.object q d) (sym (ne_eqb (pool_place t.call.object) at (apart d)))))
        where
          apart : t.call.object ≢ q → pool_place t.call.object ≢ at
          apart d = omega (arith, object, g.pools, low)

  flags-owed : (k : Kernel) (i f : ℕ) → owed (with_thread k i (with_pending (thread_at k i) f)) ≡ owed k
  flags-owed k i f =
      ap (λ (x : ℕ). stock (counter_at k at) + x)
      (count-agree (λ j. promised_by q (thread_at (with_thread k i (with_pending (thread_at k i) f)) j)) (λ j. promised_by q (thread_at k j)) n
      (λ j l. thread-kept k i (with_pending (thread_at k i) f) (promised_by q) refl j))

  unpromised-owed : (k : Kernel) (i : ℕ) (m : ℤ) (d : ℕ) → Sound z k → Finisher z k i → owed (finished k i m d) ≡ owed k
  unpromised-owed k i m d s f = omega (arith, rw f.unpromised at (finish-owed k i m d s f.within))

  elsewhere : {p : ℕ} → p < 16 → p ≢ at
  elsewhere l = omega arith

  -- A SIGNAL OWES ONE MORE, A UNIT TAKEN ONE LESS, and nothing else changes what a pool owes
  move-owed : {k h : Kernel} {ms : List Note} → Move z k h ms → Sound z k
      → owed h + count_in (is_take at) ms ≡ owed k + count_in (is_signal at) ms
  unfolding count_in
  move-owed {k} (Move.wakes i m w) s = omega (arith, quiet-owed k i m s w)
  move-owed {k} (Move.passes p i l f) s = omega (arith, pass-owed k p i s f)
  move-owed {k} (Move.raises p l e b) s = omega (arith, raise-owed k p s e b)
  move-owed {k} Move.ages s = omega (arith, tick-owed k s)
  move-owed {k} (Move.sleeps i a w) s = omega (arith, sleep-owed k i a s w)
  move-owed {k} (Move.takes p l e) s = omega (arith, take-owed k p s e)
  move-owed {k} (Move.sets p v w) s = omega (arith, counter-owed k p v (elsewhere w.semaphore))
  move-owed {k} (Move.finishes i m d f) s = omega (arith, unpromised-owed k i m d s f)
  move-owed {k} (Move.hands i d f) s = omega (arith, hand-owed k i d s f)
  move-owed (Move.answers a) s = refl
  move-owed {k} (Move.flags i f e) s = omega (arith, flags-owed k i f)
  move-owed Move.begins s = refl
  move-owed (Move.causes c l) s = refl

  pub chain-owed : {h k : Kernel} {ms : List Note} → Chain z h k ms → Sound z k
      → owed h + count_in (is_take at) ms ≡ owed k + count_in (is_signal at) ms
  chain-owed Chain.stop s = unfold count_in in refl
  chain-owed (Chain.on {ms = ms} {ns = ns} m c) s =
      omega (
        arith,
        move-owed m s,
        chain-owed c (move-sound z g m s),
        count-append (is_take at) ms ns,
        count-append (is_signal at) ms ns,
      )
