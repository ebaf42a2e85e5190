-- Every operation on a mailbox or a pool is a chain of moves that leaves the tables whole: a step's, and a continued call's.
use Rattle.std.specs.Prelude.{ℕ, ◌+◌, ◌≤◌, ◌<◌, ◌≡◌, ◌≢◌, true, false, eqb, length, ℤ, pos}
use Rattle.std.proofs.Common.{arith, sym, ap, ◌∙◌, subst, inl, inr}
use Rattle.std.proofs.Math.Path.{refl}
use mathlib.Core.List.{List, [], ◌∷◌}
use Rattle.std.specs.Int.Signed.{lt_z}
use borrow.Author.Tests.{eq-eqb, ne_eqb}
use Rattle.kernel.specs.declared.records.Call.{Call}
use Rattle.kernel.specs.declared.records.Kernel.{Kernel}
use Rattle.kernel.specs.Numbers.{ready, queued, ok, was_reset, immediate}
use Rattle.kernel.specs.Places.{pool_place, writers_place, readers_place}
use Rattle.kernel.specs.Tables.{used_rows, thread_at, counter_at}
use Rattle.kernel.specs.Moves.{finished}
use Rattle.kernel.specs.Waiters.{first_waiter}
use Rattle.kernel.specs.Queue.{enqueued, released_first, released_all}
use Rattle.kernel.specs.Semaphore.{taken}
use Rattle.kernel.proofs.Cases.{split, same_or, chosen}
use Rattle.kernel.proofs.WalkLaws.{count-some}
use Rattle.kernel.proofs.TablesLaws.{used_all}
use Rattle.kernel.proofs.WaitersLaws.{TellsAt, first-waiter-cases}
use Rattle.kernel.proofs.QueueLaws.{release-first-others}
use Rattle.library.specs.declared.sizes.Sizes.{Sizes}
use Rattle.library.specs.declared.tables.Plant.{Plant}
use Rattle.library.specs.Sizes.{slots_at}
use Rattle.library.specs.Ring.{no_slot, fetched}
use Rattle.library.specs.Tables.{mailbox_at, pool_at}
use Rattle.library.specs.Mailbox.{placed_for, post_done, post_tried, fetch_done, fetch_tried, both_released, mailbox_reset, mailbox_resumed}
use Rattle.library.specs.Pool.{free, mark_at, top_of, handed_over, alloc_tried, put_back}
use Rattle.rules.specs.RowRules.{wait_state, wait_place}
use Rattle.rules.specs.PoolRules.{is_promised, promised_by, promised_count}
use Rattle.promises.specs.Together.Good.{GoodSizes, GoodPool}
use Rattle.promises.specs.Kept.Tallies.{Tallies}
use Rattle.promises.specs.Kept.CounterRule.{pool-place, writers-place, readers-place}
use Rattle.promises.specs.Kept.RingKept.{MailboxesKept, post-tried-kept, fetch-tried-kept, reset-kept, resume-kept}
use Rattle.promises.specs.Kept.PoolKept.{
  stock-below,
  PoolsKept,
  stocked,
  promised-stocked,
  hand-over-kept,
  hand-over-popped,
  alloc-above,
  alloc-not-above,
  alloc-kept,
  alloc-popped,
  put-back-kept,
  put-back-pushed,
}
use Rattle.promises.specs.Kept.Rows.{CallSound}
use Rattle.promises.specs.Kept.WordRule.{pool-told, writers-told, readers-told}
use Rattle.promises.specs.Kept.Chain.{
  chain-sound,
  Sleeper,
  Note,
  sleep_of,
  signal_at,
  take_at,
  Move,
  Chained,
  one,
  rested,
  after,
  count_in,
  Sound,
  queued-unready,
}
use Rattle.promises.specs.Kept.Owed.{is_signal, is_take}
use Rattle.promises.specs.Kept.Moving.{
  Caller,
  Free,
  finish-chained,
  block-chained,
  take-chained,
  release-first-chained,
  release-all-chained,
  signal-chained,
}
use Rattle.promises.specs.Kept.Whole.{Whole, Done, InStep, done, kernel-done, whole-good}

-- notes that are no signal, and take no pool anything
pub record Quiet (z : Sizes) (k h : Kernel) : Type 0 where
  pub notes : List Note
  pub chained : Chained z k h notes
  pub takes : (q : ℕ) → count_in (is_take (pool_place q)) notes ≡ 0
  pub signals : (q : ℕ) → count_in (is_signal (pool_place q)) notes ≡ 0

-- what an operation that is no signal leaves
pub record Tries (z : Sizes) (p h : Plant) : Type 0 where
  pub notes : List Note
  pub done : Done z p h notes

-- who tries a call: it may finish, and may sleep if it has a timeout
pub record Tryer (z : Sizes) (k : Kernel) (i : ℕ) (c : Call) : Type 0 where
  pub asks : Caller z k i
  pub sleeps : c.timeout ≢ 0 → (i < z.threads) × (Free (thread_at k i) × CallSound z c)

module _ (z : Sizes) (g : GoodSizes z) (k : Kernel) (s : Sound z k) where
  abbrev n : ℕ
  n = z.threads

  -- nothing but wakings and finished calls
  silent : (h : Kernel) → Chained z k h [] → Quiet z k h
  unfolding count_in
  silent h c = record { notes = []; chained = c; takes = λ q. refl; signals = λ q. refl }

  -- the sleep of a call on a place whose counter is not above 0
  enqueue-quiet : (i p : ℕ) (c : Call) → Tryer z k i c → queued ≡ wait_state c.kind → p ≡ wait_place c.kind c.object
      → lt_z (pos 0) (counter_at k p) ≡ false → Quiet z k (enqueued k i p c)
  unfolding enqueued count_in
  enqueue-quiet i p c t e f level =
      let x = block-chained z g k i queued p c e f dozing t.asks in
      split (eqb c.timeout immediate)
      (λ b. silent _ (rw b at x))
      (λ b. record { notes = sleep_of i ∷ []; chained = rw b at x; takes = λ q. refl; signals = λ q. refl })
    where
      dozing : c.timeout ≢ 0 → Sleeper z k i c
      dozing d =
          let y = t.sleeps d in
          record {
            within = y.0;
            is-ready = y.1.0.is-ready;
            fits = y.1.1;
            counter = λ v. rw (sym f) level;
            holder = λ v. absurd (omega (arith, e, v));
            flags = λ v. absurd (omega (arith, e, v));
            unpromised = y.1.0.unpromised;
          }

  -- a release of others leaves a ready thread as it was
  pub released-row : (i p : ℕ) → TellsAt n k p → (m : ℤ) → i < n → (thread_at k i).state ≡ ready → thread_at (released_first k p m) i ≡ thread_at k i
  released-row i p told m l r = release-first-others k p m i other
    where
      other : i ≢ first_waiter k p
      other e =
          elim (first-waiter-cases k n g.threads.1 p told) [
            | inl w ↦ queued-unready p (thread_at k (first_waiter k p)) w.passes (rw (sym e) r)
            | inr w ↦ absurd (omega (arith, l, g.threads.1, e, w.0))
          ]

  released-caller : (i p : ℕ) → TellsAt n k p → (m : ℤ) → Caller z k i → Caller z (released_first k p m) i
  released-caller i p told m (inl e) = inl e
  released-caller i p told m (inr f) = inr (f.0, rw (released-row i p told m f.0 f.1.is-ready) f.1)

  -- the first of the other side's waiters is released, and the call finishes
  release-quiet : (i p : ℕ) → TellsAt n k p → (d : ℕ) → 20 ≤ p → Caller z k i → Quiet z k (finished (released_first k p ok) i ok d)
  release-quiet i p told d l c =
      silent _
      (after (release-first-chained z g k s.rules.sized p told ok (λ h. absurd (omega arith)))
      (finish-chained z g (released_first k p ok) i ok d (released-caller i p told ok c)))

  -- a mailbox's queues are in use, and never above 0
  module _ (o : ℕ) (there : o < z.mailboxes) where
    writers-level : lt_z (pos 0) (counter_at k (writers_place o)) ≡ false
    writers-level =
        let x = writers-place k z g o there (writers_place o) refl in
        (s.rules.places (writers_place o) (omega (arith, x.1.0)) x.1.1).level (omega (arith, x.0))

    readers-level : lt_z (pos 0) (counter_at k (readers_place o)) ≡ false
    readers-level =
        let x = readers-place k z g o there (readers_place o) refl in
        (s.rules.places (readers_place o) x.1.0 x.1.1).level (omega (arith, x.0))

-- ---- mailboxes

module _ (p : Plant) (w : Whole p.sizes p) where
  abbrev z : Sizes
  z = p.sizes

  abbrev k : Kernel
  k = p.kernel

  g : GoodSizes z
  g = w.sizes

  -- mailboxes kept, and a chain that touches no pool
  boxes-done : (h : Plant) (ms : List Note) → MailboxesKept p h → Chained z k h.kernel ms
      → ((q : ℕ) → count_in (is_take (pool_place q)) ms ≡ 0) → ((q : ℕ) → count_in (is_signal (pool_place q)) ms ≡ 0) → Done z p h ms
  boxes-done h ms m c a b =
      done z p h ms w c m.sizes m.good (m.boxes ∙ w.boxes) (λ b l. m.messages b ∙ w.messages b l)
      (record {
        listed = λ o l. rw m.pools (w.pools.listed o (rw m.sizes at l));
        sized = λ o l. rw m.pools (w.pools.sized o (rw m.sizes at l));
      })
      (ap length m.pools ∙ w.rows)
      (λ o l. rw (m.pools, a o, b o))

  boxes-tries : (h : Plant) → MailboxesKept p h → Quiet z k h.kernel → Tries z p h
  boxes-tries h m q =
      record { notes = q.notes; done = boxes-done h q.notes m q.chained q.takes q.signals }

  module _ (i : ℕ) (c : Call) (t : Tryer z k i c) (there : c.object < z.mailboxes) where
    post-quiet : queued ≡ wait_state c.kind → writers_place c.object ≡ wait_place c.kind c.object
        → Quiet z k (post_tried p i c).kernel
    unfolding post_tried post_done
    post-quiet e f =
        chosen (λ (h : Plant). Quiet z k h.kernel) (eqb (mailbox_at p c.object).reset 0)
        (λ a. chosen (λ (h : Plant). Quiet z k h.kernel)
        (eqb (placed_for (mailbox_at p c.object) c.kind (slots_at z c.object)).slot no_slot)
        (λ b. enqueue-quiet z g k w.kernel i (writers_place c.object) c t e f (writers-level z g k w.kernel c.object there))
        (λ b. release-quiet z g k w.kernel i (readers_place c.object) (readers-told k z g w.kernel.rules.words c.object there) 0 (omega arith)
        t.asks))
        (λ a. silent z g k w.kernel _ (finish-chained z g k i was_reset 0 t.asks))

    pub post-tries : queued ≡ wait_state c.kind → writers_place c.object ≡ wait_place c.kind c.object
        → Tries z p (post_tried p i c)
    post-tries e f = boxes-tries (post_tried p i c) (post-tried-kept p w.mailboxes i c there) (post-quiet e f)

    fetch-quiet : queued ≡ wait_state c.kind → readers_place c.object ≡ wait_place c.kind c.object
        → Quiet z k (fetch_tried p i c).kernel
    unfolding fetch_tried fetch_done
    fetch-quiet e f =
        chosen (λ (h : Plant). Quiet z k h.kernel) (eqb (mailbox_at p c.object).reset 0)
        (λ a. chosen (λ (h : Plant). Quiet z k h.kernel)
        (eqb (fetched (mailbox_at p c.object).positions (slots_at z c.object)).slot no_slot)
        (λ b. enqueue-quiet z g k w.kernel i (readers_place c.object) c t e f (readers-level z g k w.kernel c.object there))
        (λ b. release-quiet z g k w.kernel i (writers_place c.object) (writers-told k z g w.kernel.rules.words c.object there) _ (omega arith)
        t.asks))
        (λ a. silent z g k w.kernel _ (finish-chained z g k i was_reset 0 t.asks))

    pub fetch-tries : queued ≡ wait_state c.kind → readers_place c.object ≡ wait_place c.kind c.object
        → Tries z p (fetch_tried p i c)
    fetch-tries e f = boxes-tries (fetch_tried p i c) (fetch-tried-kept p w.mailboxes i c there) (fetch-quiet e f)

  -- "Reset empties .. and releases both queues with -2"
  pub reset-acts : (o : ℕ) → o < z.mailboxes → Done z p (mailbox_reset p o) []
  unfolding mailbox_reset both_released count_in
  reset-acts o l =
      boxes-done (mailbox_reset p o) [] (reset-kept p w.mailboxes o l)
      (after first
      (release-all-chained z g v (readers_place o)
      (readers-told v z g (chain-sound z g first w.kernel).rules.words o l) was_reset (λ h. refl)))
      (λ q. refl) (λ q. refl)
    where
      v : Kernel
      v = released_all k (writers_place o) was_reset

      first : Chained z k v []
      first = release-all-chained z g k (writers_place o) (writers-told k z g w.kernel.rules.words o l) was_reset (λ h. refl)

  -- "resume clears the state"
  pub resume-acts : (o : ℕ) → o < z.mailboxes → Done z p (mailbox_resumed p o) []
  unfolding mailbox_resumed count_in
  resume-acts o l = boxes-done (mailbox_resumed p o) [] (resume-kept p w.mailboxes o l) rested (λ q. refl) (λ q. refl)

  -- ---- pools

  -- two pools have two places
  pool-places : (o q : ℕ) → o < z.pools → q < z.pools → eqb (pool_place o) (pool_place q) ≡ eqb o q
  pool-places o q a b =
      same_or o q (λ e. rw (e, eq-eqb (pool_place q) (pool_place q) refl, eq-eqb q q refl))
      (λ d. ne_eqb (pool_place o) (pool_place q) (apart d) ∙ sym (ne_eqb o q d))
    where
      apart : o ≢ q → pool_place o ≢ pool_place q
      apart d = omega (arith, a, b, g.pools)

  -- pools kept but for one, which is shorter or longer by what the notes say
  pools-done : (h : Plant) (o : ℕ) (ms : List Note) → PoolsKept p h o → Chained z k h.kernel ms → InStep z p h ms → Done z p h ms
  pools-done h o ms m c l =
      done z p h ms w c m.sizes (λ b r. rw (m.mailboxes, m.sizes) (w.mailboxes b (rw m.sizes at r)))
      (ap length m.mailboxes ∙ w.boxes) (λ b r. rw m.mailboxes (w.messages b r)) m.all (m.pools ∙ w.rows) l

  -- one taken off a pool
  took-step : (h : Plant) (o : ℕ) → o < z.pools → PoolsKept p h o → (pool_at h o).length + 1 ≡ (pool_at p o).length
      → InStep z p h (take_at (pool_place o) ∷ [])
  unfolding count_in
  took-step h o there m f q l =
      rw (pool-places o q there l)
      (same_or q o (λ e. rw (e, eq-eqb o o refl) (omega (arith, f)))
      (λ d. rw (ne_eqb o q (λ e. d (sym e)), m.others q d)))

  -- one put on it
  put_step : (h : Plant) (o : ℕ) → o < z.pools → PoolsKept p h o → (pool_at h o).length ≡ (pool_at p o).length + 1
      → InStep z p h (signal_at (pool_place o) ∷ [])
  unfolding count_in
  put_step h o there m f q l =
      rw (pool-places o q there l)
      (same_or q o (λ e. rw (e, eq-eqb o o refl) (omega (arith, f)))
      (λ d. rw (ne_eqb o q (λ e. d (sym e)), m.others q d)))

  module _ (o : ℕ) (there : o < z.pools) where
    good-pool : GoodPool (pool_at p o) (counter_at k (pool_place o)) (promised_count k z.threads o)
    good-pool = (whole-good p z w).pools o there

    place-low : pool_place o < 20
    place-low = (pool-place k z g o there (pool_place o) refl).1.0

    tally : Tallies z.threads (pool_place o) k
    tally =
        let x = pool-place k z g o there (pool_place o) refl in w.kernel.rules.places (pool_place o) (omega (arith, x.1.0)) x.1.1

    -- "pool, message 0: it takes the top"
    pub hand-tries : (i : ℕ) → i < z.threads → is_promised (thread_at k i) ≡ true → (thread_at k i).call.object ≡ o
        → Tries z p (handed_over p i o)
    unfolding handed_over promised_count
    hand-tries i l e f =
        record {
          notes = take_at (pool_place o) ∷ [];
          done = pools-done (handed_over p i o) o (take_at (pool_place o) ∷ []) kept chain
              (took-step (handed_over p i o) o there kept (hand-over-popped p w.pools o there i some).fewer);
        }
      where
        some : 0 < (pool_at p o).length
        some = promised-stocked good-pool counted
          where
            counted : 0 < promised_count k z.threads o
            counted =
                count-some (λ j. promised_by o (thread_at k j)) (used_rows z.threads) i (rw (used_all z.threads g.threads.1) l)
                (rw (e, f, eq-eqb o o refl))

        kept : PoolsKept p (handed_over p i o) o
        kept = hand-over-kept p w.pools o there i some

        chain : Chained z k (handed_over p i o).kernel (take_at (pool_place o) ∷ [])
        chain =
            subst (λ (q : ℕ). Chained z k (finished k i ok (top_of (pool_at p o))) (take_at (pool_place q) ∷ [])) f
            (one (Move.hands i (top_of (pool_at p o)) (record { within = l; promised = e })))

    -- "Free and add put the object on top and signal"
    pub put-acts : (x : ℕ) → x < 32 → mark_at (pool_at p o) x ≢ free → Done z p (put_back p o x) (signal_at (pool_place o) ∷ [])
    unfolding put_back
    put-acts x l f =
        pools-done (put_back p o x) o (signal_at (pool_place o) ∷ []) kept chain
        (put_step (put_back p o x) o there kept
        (put-back-pushed p w.pools o there x l f (omega (arith, there, g.pools, w.rows))).more)
      where
        kept : PoolsKept p (put_back p o x) o
        kept = put-back-kept p w.pools o there x l f

        chain : Chained z k (put_back p o x).kernel (signal_at (pool_place o) ∷ [])
        chain =
            signal-chained z g k (pool_place o) place-low (pool-told k z g w.kernel.rules.words o there) tally
            (stock-below (counter_at k (pool_place o)) (omega (arith, w.lengths o there, (w.pools.listed o there).length)))

  -- "Alloc waits on the counter, then takes the top as its datum"
  pub alloc-tries : (i : ℕ) (c : Call) → Tryer z k i c → c.kind ≡ 20 → c.object < z.pools → Tries z p (alloc_tried p i c)
  alloc-tries i c t e there =
      split (lt_z (pos 0) (counter_at k at))
      (λ b. record {
        notes = take_at at ∷ [];
        done = pools-done (alloc_tried p i c) c.object (take_at at ∷ []) kept (above b)
            (took-step (alloc_tried p i c) c.object there kept (alloc-popped p i c w.pools there b (some b)).fewer);
      })
      (λ b.
      let x = enqueue-quiet z g k w.kernel i at c t (rw e) (rw e) b in
      rw (alloc-not-above p i c b)
      (record {
        notes = x.notes;
        done = kernel-done z p (enqueued k i at c) x.notes w x.chained (λ q l. x.takes q ∙ sym (x.signals q));
      }))
    where
      at : ℕ
      at = pool_place c.object

      some : lt_z (pos 0) (counter_at k at) ≡ true → 0 < (pool_at p c.object).length
      some b = stocked (good-pool c.object there) b

      kept : PoolsKept p (alloc_tried p i c) c.object
      kept = alloc-kept p i c w.pools there some

      above : lt_z (pos 0) (counter_at k at) ≡ true → Chained z k (alloc_tried p i c).kernel (take_at at ∷ [])
      above b =
          rw (alloc-above p i c b)
          (unfold handed_over taken in after (take-chained z g k at (place-low c.object there) b)
          (finish-chained z g (taken k at) i ok _ t.asks))
