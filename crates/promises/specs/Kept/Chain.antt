-- Whatever a step does, it does by a chain of moves: a thread is made ready, a thread goes to sleep, a tick passes, a signal comes, a call
-- finishes, or something changes that concerns no wait. What each move keeps is proved here once; of a step only that it is a chain.
use Rattle.std.specs.Prelude.{ℕ, ◌+◌, ◌≤◌, ◌<◌, ◌≡◌, ◌≢◌, Bool, true, false, ◌&&◌, List, [], ◌∷◌, ◌++◌, eqb, length, ℤ, pos}
use Rattle.std.proofs.Common.{arith, sym, ap, ◌∙◌, subst}
use Rattle.std.proofs.Math.Path.{refl}
use Rattle.std.specs.Int.Bits.{bit_and}
use Rattle.std.specs.Int.Signed.{lt_z}
use borrow.Author.Tests.{eqb-true, eq-eqb, ne_eqb}
use Rattle.kernel.specs.declared.records.Answer.{Answer}
use Rattle.kernel.specs.declared.records.Call.{Call}
use Rattle.kernel.specs.declared.records.Thread.{Thread}
use Rattle.kernel.specs.declared.records.Kernel.{Kernel}
use Rattle.kernel.specs.Numbers.{nobody, ready, queued, suspended, awaiting, ok, timed_out, was_reset}
use Rattle.kernel.specs.Records.{begun, ended}
use Rattle.kernel.specs.Counters.{up, down}
use Rattle.kernel.specs.Places.{pool_place, queue_place, writers_place, readers_place}
use Rattle.kernel.specs.Tables.{thread_at, counter_at, holder_at, with_thread, with_counter, with_answer, with_cause}
use Rattle.kernel.specs.Moves.{readied, asleep, answered, awaited_by, woken, slept, finished}
use Rattle.kernel.specs.Walk.{bit}
use Rattle.kernel.specs.Waiters.{queued_at}
use Rattle.kernel.specs.Semaphore.{taken}
use Rattle.kernel.specs.Event.{with_pending}
use Rattle.kernel.specs.Ticking.{ticked}
use Rattle.kernel.proofs.Cases.{split, same_or, contrary, both-means}
use Rattle.kernel.proofs.WalkLaws.{Least, None, count_none}
use Rattle.kernel.proofs.CountersLaws.{debt, debt-none, raised-none, lowered_none}
use Rattle.kernel.proofs.TablesLaws.{
  Sized,
  sized-kept,
  thread-sizes,
  counter-sizes,
  answer-sizes,
  thread-same,
  thread-other,
  counter-same,
  counter-other,
  used_all,
}
use Rattle.kernel.proofs.MovesLaws.{
  wake-row,
  wake-others,
  wake-sizes,
  sleep-row,
  sleep-others,
  sleep-sizes,
  finish-row,
  finish-others,
  finish-sizes,
  finish-words,
}
use Rattle.kernel.proofs.WaitersLaws.{waits}
use Rattle.kernel.proofs.TickingLaws.{aged, aged-last, aged-counted, tick-row, tick-sizes}
use Rattle.library.specs.declared.sizes.Sizes.{Sizes}
use Rattle.library.specs.Signs.{same}
use Rattle.rules.specs.RowRules.{call_limit, wait_state, wait_place}
use Rattle.rules.specs.PlaceRules.{in_use}
use Rattle.rules.specs.PoolRules.{is_promised}
use Rattle.promises.specs.Together.Good.{CallKind, GoodSizes, GoodThread}
use Rattle.promises.specs.Kept.Tallies.{
  Tallies,
  same-tallies,
  row-tallies,
  wake-tallies,
  sleep-tallies,
  sleep-unqueued-tallies,
  finish-tallies,
  tick-tallies,
}
use Rattle.promises.specs.Kept.Holds.{
  Holds,
  same-holds,
  row-holds,
  wake-holds,
  sleep-holds,
  sleep-unsuspended-holds,
  finish-holds,
  counter_holds,
  tick-holds,
}
use Rattle.promises.specs.Kept.WordRule.{
  Said,
  same-said,
  row-said,
  wake-said,
  sleep-said,
  finish-said,
  tick-said,
  Placed,
  Rest,
  rest-same,
  rest-trans,
  wake-rest,
  sleep-rest,
  tick-rest,
}
use Rattle.promises.specs.Kept.CounterRule.{semaphore-place, pool-place, queue-place, writers-place, readers-place}
use Rattle.promises.specs.Kept.Rows.{
  CallSound,
  each-kind,
  waits-unready,
  readied-good,
  asleep-good,
  answered-good,
  counted-good,
  flags-good,
  Idle,
}

-- who is queued is not ready
pub queued-unready : (p : ℕ) (t : Thread) → queued_at p t ≡ true → t.state ≢ ready
queued-unready p t e r =
    absurd (apart-states (sym (eqb-true t.state queued (both-means (eqb t.state queued) (eqb t.place p) e).0) ∙ r))
  where
    apart-states : queued ≡ ready → ⊥
    apart-states e = omega arith

-- ---- what a move needs

-- thread i may be made ready with m; from a semaphore, otherwise than by a signal or its last tick, only a reset does so
pub record Waken (z : Sizes) (k : Kernel) (i : ℕ) (m : ℤ) : Type 0 where
  pub within : i < z.threads
  pub asleep : (thread_at k i).state ≢ ready
  pub cause : (p : ℕ) → p < 20 → queued_at p (thread_at k i) ≡ true → m ≡ was_reset

-- thread i may go to sleep in the call c: it runs, and what it waits for is not to be had
pub record Sleeper (z : Sizes) (k : Kernel) (i : ℕ) (c : Call) : Type 0 where
  pub within : i < z.threads
  pub is-ready : (thread_at k i).state ≡ ready
  pub fits : CallSound z c
  pub counter : wait_state c.kind ≡ queued → lt_z (pos 0) (counter_at k (wait_place c.kind c.object)) ≡ false
  pub holder : wait_state c.kind ≡ suspended → holder_at k (wait_place c.kind c.object) ≡ nobody
  pub flags : wait_state c.kind ≡ awaiting → bit_and (thread_at k i).pending (awaited_by c) ≡ 0
  -- and no object is promised to it
  pub unpromised : is_promised (thread_at k i) ≡ false

-- thread i's call may finish, and is no alloc with an object promised
pub record Finisher (z : Sizes) (k : Kernel) (i : ℕ) : Type 0 where
  pub within : i < z.threads
  pub is-ready : (thread_at k i).state ≡ ready
  pub unpromised : is_promised (thread_at k i) ≡ false

-- thread i's alloc, woken with 0, takes its object
pub record Hander (z : Sizes) (k : Kernel) (i : ℕ) : Type 0 where
  pub within : i < z.threads
  pub promised : is_promised (thread_at k i) ≡ true

-- nobody waits at the semaphore p, and its counter becomes c
pub record Setter (z : Sizes) (k : Kernel) (p : ℕ) (c : ℤ) : Type 0 where
  pub semaphore : p < 16
  pub none : None (waits k p) z.threads
  pub value : lt_z c (pos 0) ≡ false

-- ---- moves

-- what others must know of a move: who went to sleep, at which place a signal came, where a unit was taken
pub data Note : Type 0 where
  sleep_of : ℕ → Note
  signal_at : ℕ → Note
  take_at : ℕ → Note

-- one move of the kernel's tables, from k to h
pub data Move (z : Sizes) (k : Kernel) : Kernel → List Note → Type 0 where
  wakes : (i : ℕ) (m : ℤ) → Waken z k i m → Move z k (woken k i m) []
  -- a signal with waiters wakes the first
  passes : (p i : ℕ) → p < 20 → Least (waits k p) z.threads i → Move z k (woken k i ok) (signal_at p ∷ [])
  -- and without waiters raises the counter
  raises : (p : ℕ) → p < 20 → lt_z (counter_at k p) (pos 0) ≡ false → lt_z (counter_at k p) (pos 2147483647) ≡ true
      → Move z k (with_counter k p (up (counter_at k p))) (signal_at p ∷ [])
  ages : Move z k (ticked k z.threads) []
  sleeps : (i : ℕ) (c : Call) → Sleeper z k i c → Move z k (slept k i (wait_state c.kind) (wait_place c.kind c.object) c) (sleep_of i ∷ [])
  takes : (p : ℕ) → p < 20 → lt_z (pos 0) (counter_at k p) ≡ true → Move z k (taken k p) (take_at p ∷ [])
  sets : (p : ℕ) (c : ℤ) → Setter z k p c → Move z k (with_counter k p c) []
  finishes : (i : ℕ) (m : ℤ) (d : ℕ) → Finisher z k i → Move z k (finished k i m d) []
  hands : (i d : ℕ) → Hander z k i → Move z k (finished k i ok d) (take_at (pool_place (thread_at k i).call.object) ∷ [])
  -- an interrupt's answer
  answers : (a : Answer) → Move z k (with_answer k a) []
  -- other pending flags, none of them awaited
  flags : (i f : ℕ) → ((thread_at k i).state ≡ awaiting → bit_and f (thread_at k i).awaited ≡ 0)
      → Move z k (with_thread k i (with_pending (thread_at k i) f)) []
  -- a step is over, and the next begins
  begins : Move z k (begun (ended k)) []
  -- another call is at work
  causes : (c : ℕ) → c ≤ 8 → Move z k (with_cause k c) []

-- from k to h, move by move, with all notes on the way
pub data Chain (z : Sizes) (h : Kernel) : Kernel → List Note → Type 0 where
  stop : Chain z h h []
  on : {k j : Kernel} {ms ns : List Note} → Move z k j ms → Chain z h j ns → Chain z h k (ms ++ ns)

-- from k to h
abbrev pub Chained : Sizes → Kernel → Kernel → List Note → Type 0
Chained z k h ms = Chain z h k ms

pub nil-right : (ms : List Note) → ms ++ [] ≡ ms
nil-right [] = refl
nil-right (m ∷ ms) = ap (λ (r : List Note). m ∷ r) (nil-right ms)

notes-assoc : (a b c : List Note) → (a ++ b) ++ c ≡ a ++ (b ++ c)
notes-assoc [] b c = refl
notes-assoc (m ∷ a) b c = ap (λ (r : List Note). m ∷ r) (notes-assoc a b c)

-- a single move
pub one : {z : Sizes} {k h : Kernel} {ms : List Note} → Move z k h ms → Chain z h k ms
one {z} {k} {h} {ms} m = subst (Chain z h k) (nil-right ms) (Chain.on m Chain.stop)

-- nothing happens
pub rested : {z : Sizes} {k : Kernel} → Chained z k k []
rested = Chain.stop

-- one chain after another
pub after : {z : Sizes} {g h k : Kernel} {ms ns : List Note} → Chain z h k ms → Chain z g h ns → Chain z g k (ms ++ ns)
after Chain.stop d = d
after {z} {g} {h} {k} {ns = ns} (Chain.on {ms = a} {ns = b} m c) d =
    subst (Chain z g k) (sym (notes-assoc a b ns)) (Chain.on m (after c d))

-- how many notes pass a test
unfoldable pub count_in : (Note → Bool) → List Note → ℕ
count_in f [] = 0
count_in f (m ∷ ms) = bit (f m) + count_in f ms

pub count-append : (f : Note → Bool) (ms ns : List Note) → count_in f (ms ++ ns) ≡ count_in f ms + count_in f ns
unfolding count_in
count-append f [] ns = omega arith
count-append f (m ∷ ms) ns = omega (arith, count-append f ms ns)

abbrev pub is_slept : ℕ → Note → Bool
is_slept i (sleep_of j) = eqb j i
is_slept i (signal_at p) = false
is_slept i (take_at p) = false

-- ---- lengths

module _ (k : Kernel) where
  -- the flags of a step begin anew
  begun_sized : Sized k → Sized (begun (ended k))
  begun_sized s = record { threads = s.threads; counters = s.counters; references = s.references; woken = refl; finished = refl; waiting = s.waiting; cause = omega arith }

  -- another cause of the list
  caused-sized : (c : ℕ) → c ≤ 8 → Sized k → Sized (with_cause k c)
  caused-sized c l s =
      record {
        threads = s.threads;
        counters = s.counters;
        references = s.references;
        woken = s.woken;
        finished = s.finished;
        waiting = s.waiting;
        cause = l;
      }

-- ---- one thread's record, in each move

promised-ready : (t : Thread) → is_promised t ≡ true → t.state ≡ ready
promised-ready t e = eqb-true t.state ready (both-means (eqb t.state ready) (eqb t.call.kind 20 && same t.message ok) e).0

-- what holds of record i after a move of record j: of the changed one if it is j's, else as before
module _ (P : Thread → Type 0) (k : Kernel) (i : ℕ) (here : i < length k.threads) where
  woken-row : (j : ℕ) (m : ℤ) → (i ≡ j → P (readied (thread_at k i) m k.cause k.steps)) → P (thread_at k i) → P (thread_at (woken k j m) i)
  woken-row j m f g =
      same_or i j (λ e. rw (sym e, wake-row k i m here) (f e)) (λ d. rw (wake-others k j m i d) g)

  slept-row : (j s q : ℕ) (c : Call) → (i ≡ j → i < 16) → (i ≡ j → P (asleep (thread_at k i) s q c)) → P (thread_at k i)
      → P (thread_at (slept k j s q c) i)
  slept-row j s q c low f g =
      same_or i j (λ e. rw (sym e, sleep-row k i s q c (low e) here) (f e)) (λ d. rw (sleep-others k j s q c i d) g)

  finished-row : (j : ℕ) (m : ℤ) (d : ℕ) → j ≢ nobody → (i ≡ j → P (answered (thread_at k i) (record { message = m; datum = d })))
      → P (thread_at k i) → P (thread_at (finished k j m d) i)
  finished-row j m d n f g =
      same_or i j (λ e. rw (sym e, finish-row k i m d (rw e n) here) (f e)) (λ x. rw (finish-others k j m d i x) g)

  flagged-row : (j f : ℕ) → (i ≡ j → P (with_pending (thread_at k i) f)) → P (thread_at k i)
      → P (thread_at (with_thread k j (with_pending (thread_at k j) f)) i)
  flagged-row j f h g =
      same_or i j (λ e. rw (sym e, thread-same k i (with_pending (thread_at k i) f) here) (h e))
      (λ d. rw (thread-other k j (with_pending (thread_at k j) f) i d) g)

-- a tick's record
aged-good : (z : Sizes) (c n : ℕ) (t : Thread) → c ≤ 8 → GoodThread z t → GoodThread z (aged c n t)
aged-good z c n t l g =
    same_or t.remaining 1 (λ e. rw (aged-last c n t e) (readied-good z t timed_out c n l g))
    (λ d. rw (aged-counted c n t d) (counted-good z t d g))

module _ (z : Sizes) (few : z.threads ≤ 16) (i : ℕ) (within : i < z.threads) where
  below : {k : Kernel} → Sized k → i < length k.threads
  below s = omega (arith, s.threads)

  low : {j : ℕ} → i ≡ j → i < 16
  low e = omega arith

  someone : {j : ℕ} → j < z.threads → j ≢ nobody
  someone h = omega arith

  aging : (k : Kernel) → thread_at (ticked k z.threads) i ≡ aged k.cause k.steps (thread_at k i)
  aging k = tick-row k z.threads i (rw (used_all z.threads few) within)

  -- A RECORD THAT HANGS TOGETHER STAYS SO
  pub move-good : {k h : Kernel} {ms : List Note} → Move z k h ms → Sized k → GoodThread z (thread_at k i) → GoodThread z (thread_at h i)
  unfolding taken
  move-good {k} (Move.wakes j m w) s g = woken-row (GoodThread z) k i (below s) j m (λ e. readied-good z (thread_at k i) m k.cause k.steps s.cause g) g
  move-good {k} (Move.passes p j l f) s g = woken-row (GoodThread z) k i (below s) j ok (λ e. readied-good z (thread_at k i) ok k.cause k.steps s.cause g) g
  move-good (Move.raises p l e b) s g = g
  move-good {k} Move.ages s g = rw (aging k) (aged-good z k.cause k.steps (thread_at k i) s.cause g)
  move-good {k} (Move.sleeps j c w) s g =
      slept-row (GoodThread z) k i (below s) j (wait_state c.kind) (wait_place c.kind c.object) c low
      (λ e. asleep-good z (thread_at k i) c w.fits (rw e w.flags) g.cause) g
  move-good (Move.takes p l e) s g = g
  move-good (Move.sets p c w) s g = g
  move-good {k} (Move.finishes j m d f) s g =
      finished-row (GoodThread z) k i (below s) j m d (someone f.within)
      (λ e. answered-good z (thread_at k i) m d (rw e f.is-ready) g) g
  move-good {k} (Move.hands j d f) s g =
      finished-row (GoodThread z) k i (below s) j ok d (someone f.within)
      (λ e. answered-good z (thread_at k i) ok d (rw e (promised-ready (thread_at k j) f.promised)) g) g
  move-good (Move.answers a) s g = g
  move-good {k} (Move.flags j f e) s g = flagged-row (GoodThread z) k i (below s) j f (λ x. flags-good z (thread_at k i) f (rw x e) g) g
  move-good Move.begins s g = g
  move-good (Move.causes c l) s g = g

  -- WHO HAS NO CALL HAS NONE UNTIL IT SLEEPS IN ONE
  pub move-idle : {k h : Kernel} {ms : List Note} → Move z k h ms → Sized k → GoodThread z (thread_at k i) → count_in (is_slept i) ms ≡ 0
      → Idle (thread_at k i) → Idle (thread_at h i)
  unfolding taken count_in
  move-idle {k} (Move.wakes j m w) s g o a = woken-row Idle k i (below s) j m (λ e. absurd (w.asleep (rw (sym e) a.is-ready))) a
  move-idle {k} (Move.passes p j l f) s g o a =
      woken-row Idle k i (below s) j ok (λ e. absurd (queued-unready p (thread_at k j) f.passes (rw (sym e) a.is-ready))) a
  move-idle (Move.raises p l e b) s g o a = a
  move-idle {k} Move.ages s g o a =
      rw (aging k)
      (rw (aged-counted k.cause k.steps (thread_at k i) (λ e. omega (arith, e, g.ready-ticks a.is-ready)))
      (record { is-ready = a.is-ready; no-call = a.no-call }))
  move-idle {k} (Move.sleeps j c w) s g o a =
      slept-row Idle k i (below s) j (wait_state c.kind) (wait_place c.kind c.object) c low
      (λ e. absurd (omega (arith, rw (sym e, eq-eqb i i refl) at o))) a
  move-idle (Move.takes p l e) s g o a = a
  move-idle (Move.sets p c w) s g o a = a
  move-idle {k} (Move.finishes j m d f) s g o a =
      finished-row Idle k i (below s) j m d (someone f.within) (λ e. record { is-ready = a.is-ready; no-call = refl }) a
  move-idle {k} (Move.hands j d f) s g o a =
      finished-row Idle k i (below s) j ok d (someone f.within) (λ e. record { is-ready = a.is-ready; no-call = refl }) a
  move-idle (Move.answers b) s g o a = a
  move-idle {k} (Move.flags j f e) s g o a =
      flagged-row Idle k i (below s) j f (λ x. record { is-ready = a.is-ready; no-call = a.no-call }) a
  move-idle Move.begins s g o a = a
  move-idle (Move.causes c l) s g o a = a

-- ---- the rules of places and references

-- the lengths, and the rules of every place and reference in use, and of the words
pub record Rules (z : Sizes) (k : Kernel) : Type 0 where
  pub sized : Sized k
  pub places : (q : ℕ) → q < 36 → in_use z q ≡ true → Tallies z.threads q k
  pub references : (r : ℕ) → r < z.references → Holds z.threads r k
  pub words : Said z k

module _ (z : Sizes) (g : GoodSizes z) where
  abbrev n : ℕ
  n = z.threads

  -- a call that queues does so at a place in use
  pub queueing-place : (k : Kernel) (kind : ℕ) → CallKind kind → (o : ℕ) → o < call_limit z kind → wait_state kind ≡ queued
      → (wait_place kind o < 36) × (in_use z (wait_place kind o) ≡ true)
  queueing-place k =
      each-kind (λ m. (o : ℕ) → o < call_limit z m → wait_state m ≡ queued → (wait_place m o < 36) × (in_use z (wait_place m o) ≡ true))
      (λ o h w. let x = semaphore-place k z g o h in (omega (arith, x.0), x.1))
      (λ o h w. let x = queue-place k z g o h (queue_place o) refl in (omega (arith, x.1.0), x.1.1))
      (λ o h w. absurd (omega (arith, w)))
      (λ o h w. absurd (omega (arith, w)))
      (λ o h w. absurd (omega (arith, w)))
      (λ o h w. absurd (omega (arith, w)))
      (λ o h w. let x = writers-place k z g o h (writers_place o) refl in (omega (arith, x.1.0), x.1.1))
      (λ o h w. let x = writers-place k z g o h (writers_place o) refl in (omega (arith, x.1.0), x.1.1))
      (λ o h w. let x = readers-place k z g o h (readers_place o) refl in (omega (arith, x.1.0), x.1.1))
      (λ o h w. let x = pool-place k z g o h (pool_place o) refl in (omega (arith, x.1.0), x.1.1))

  -- one that is suspended is so on a reference
  suspending-place : (kind : ℕ) → CallKind kind → (o : ℕ) → o < call_limit z kind → wait_state kind ≡ suspended → wait_place kind o < 8
  suspending-place =
      each-kind (λ m. (o : ℕ) → o < call_limit z m → wait_state m ≡ suspended → wait_place m o < 8)
      (λ o h w. absurd (omega (arith, w))) (λ o h w. absurd (omega (arith, w))) (λ o h w. omega (arith, h, g.references))
      (λ o h w. absurd (omega (arith, w))) (λ o h w. absurd (omega (arith, w))) (λ o h w. absurd (omega (arith, w)))
      (λ o h w. absurd (omega (arith, w))) (λ o h w. absurd (omega (arith, w))) (λ o h w. absurd (omega (arith, w)))
      (λ o h w. absurd (omega (arith, w)))

  -- a place of another counter, and no wait changed
  counter-tallies : (k : Kernel) (p q : ℕ) (c : ℤ) → debt (counter_at (with_counter k p c) q) ≡ debt (counter_at k q) → p < 20
      → Tallies n q k → Tallies n q (with_counter k p c)
  counter-tallies k p q c e l t =
      record { tally = t.tally ∙ sym e; level = λ v. rw (counter-other k p c q (apart_from v)) (t.level v) }
    where
      apart_from : 20 ≤ q → q ≢ p
      apart_from v = omega arith

  wake-rules : (k : Kernel) (i : ℕ) (m : ℤ) → i < n → Rules z k → Rules z (woken k i m)
  wake-rules k i m l r =
      record {
        sized = sized-kept (wake-sizes k i m) r.sized;
        places = λ q h u. wake-tallies k i m n q l (r.places q h u);
        references = λ o h. wake-holds k i m n o (omega (arith, g.threads.1)) l (r.references o h);
        words = wake-said z g.threads.1 k i m l r.sized r.words;
      }

  -- a counter changed at a semaphore, that owes as much as before
  counter-rules : (k : Kernel) (p : ℕ) (c : ℤ) → p < 20 → ((q : ℕ) → debt (counter_at (with_counter k p c) q) ≡ debt (counter_at k q))
      → Rules z k → Rules z (with_counter k p c)
  counter-rules k p c l e r =
      record {
        sized = sized-kept (counter-sizes k p c) r.sized;
        places = λ q h u. counter-tallies k p q c (e q) l (r.places q h u);
        references = λ o h. counter_holds k p c n o (r.references o h);
        words = same-said z k (with_counter k p c) refl (λ j. refl) (λ j. refl) r.words;
      }

  sleep-rules : (k : Kernel) (i : ℕ) (c : Call) → Sleeper z k i c → Rules z k
      → Rules z (slept k i (wait_state c.kind) (wait_place c.kind c.object) c)
  sleep-rules k i c s r =
      let rows : i < length k.threads = omega (arith, s.within, g.threads.1, r.sized.threads) in
      let p = wait_place c.kind c.object in
      record {
        sized = sized-kept (sleep-sizes k i (wait_state c.kind) p c) r.sized;
        places = λ q h u.
            same_or (wait_state c.kind) queued
            (λ e.
            let at = queueing-place k c.kind s.fits.kind c.object s.fits.object e in
            rw e (sleep-tallies k i p c n q s.is-ready g.threads.1 s.within rows
            (omega (arith, at.0, r.sized.counters)) (s.counter e)
            (r.places p at.0 at.1) (r.places q h u)))
            (λ d. sleep-unqueued-tallies k i p c n q s.is-ready (wait_state c.kind) (ne_eqb (wait_state c.kind) queued d)
            (r.places q h u));
        references = λ o h.
            same_or (wait_state c.kind) suspended
            (λ e.
            let at = suspending-place c.kind s.fits.kind c.object s.fits.object e in
            rw e (sleep-holds k i p c n o s.is-ready g.threads.1 s.within rows (omega (arith, at, r.sized.references))
            (s.holder e) (r.references o h)))
            (λ d. sleep-unsuspended-holds k i p c n o s.is-ready (wait_state c.kind)
            (ne_eqb (wait_state c.kind) suspended d) (r.references o h));
        words =
            sleep-said z g.threads.1 k i (wait_state c.kind) p c s.within s.is-ready
            (ne_eqb (wait_state c.kind) ready (waits-unready c.kind s.fits.kind)) r.sized r.words;
      }

  finish-rules : (k : Kernel) (i : ℕ) (m : ℤ) (d : ℕ) → Rules z k → Rules z (finished k i m d)
  finish-rules k i m d r =
      record {
        sized = sized-kept (finish-sizes k i m d) r.sized;
        places = λ q h u. finish-tallies k i m d n q (r.places q h u);
        references = λ o h. finish-holds k i m d n o (r.references o h);
        words = finish-said z k i m d r.words;
      }

  tick-rules : (k : Kernel) → Rules z k → Rules z (ticked k n)
  tick-rules k r =
      record {
        sized = sized-kept (tick-sizes k n) r.sized;
        places = λ q h u. tick-tallies k n q (r.places q h u);
        references = λ o h. tick-holds k n o (omega (arith, g.threads.1)) (r.references o h);
        words = tick-said z g.threads.1 k r.sized r.words;
      }

  flags-rules : (k : Kernel) (i f : ℕ) → Rules z k → Rules z (with_thread k i (with_pending (thread_at k i) f))
  flags-rules k i f r =
      record {
        sized = sized-kept (thread-sizes k i (with_pending (thread_at k i) f)) r.sized;
        places = λ q h u. row-tallies k n q i (with_pending (thread_at k i) f) (λ p. refl) (r.places q h u);
        references = λ o h. row-holds k n o i (with_pending (thread_at k i) f) refl (r.references o h);
        words = row-said z k i (with_pending (thread_at k i) f) refl refl r.words;
      }

  -- a semaphore that nobody waits at owes nothing, before and after
  set-rules : (k : Kernel) (p : ℕ) (c : ℤ) → Setter z k p c → Rules z k → Rules z (with_counter k p c)
  set-rules k p c s r =
      record {
        sized = sized-kept (counter-sizes k p c) r.sized;
        places = λ q h u.
            same_or q p
            (λ e. rw e
            (record {
              tally =
                  count_none (waits k p) n s.none
                  ∙ sym (ap debt (counter-same k p c (omega (arith, s.semaphore, r.sized.counters))) ∙ debt-none c s.value);
              level = λ v. absurd (omega (arith, s.semaphore));
            }))
            (λ d. same-tallies k (with_counter k p c) n q (λ i. refl) (counter-other k p c q d) (r.places q h u));
        references = λ o h. counter_holds k p c n o (r.references o h);
        words = same-said z k (with_counter k p c) refl (λ j. refl) (λ j. refl) r.words;
      }

  begin-rules : (k : Kernel) → Rules z k → Rules z (begun (ended k))
  begin-rules k r =
      record {
        sized = begun_sized k r.sized;
        places = λ q h u. same-tallies k (begun (ended k)) n q (λ i. refl) refl (r.places q h u);
        references = λ o h. same-holds k (begun (ended k)) n o (λ i. refl) refl (r.references o h);
        words = same-said z k (begun (ended k)) refl (λ j. refl) (λ j. refl) r.words;
      }

  cause-rules : (k : Kernel) (c : ℕ) → c ≤ 8 → Rules z k → Rules z (with_cause k c)
  cause-rules k c l r =
      record {
        sized = caused-sized k c l r.sized;
        places = λ q h u. same-tallies k (with_cause k c) n q (λ i. refl) refl (r.places q h u);
        references = λ o h. same-holds k (with_cause k c) n o (λ i. refl) refl (r.references o h);
        words = same-said z k (with_cause k c) refl (λ j. refl) (λ j. refl) r.words;
      }

  answer-rules : (k : Kernel) (a : Answer) → Rules z k → Rules z (with_answer k a)
  answer-rules k a r =
      record {
        sized = sized-kept (answer-sizes k a) r.sized;
        places = λ q h u. same-tallies k (with_answer k a) n q (λ i. refl) refl (r.places q h u);
        references = λ o h. same-holds k (with_answer k a) n o (λ i. refl) refl (r.references o h);
        words = same-said z k (with_answer k a) refl (λ j. refl) (λ j. refl) r.words;
      }

  take-rules : (k : Kernel) (p : ℕ) → p < 20 → lt_z (pos 0) (counter_at k p) ≡ true → Rules z k → Rules z (taken k p)
  unfolding taken
  take-rules k p l e r = counter-rules k p (down (counter_at k p)) l (λ q. lowered_none k p q e) r

  -- THE RULES OF COUNTERS, REFERENCES AND WORDS ARE KEPT
  pub move-rules : {k h : Kernel} {ms : List Note} → Move z k h ms → Rules z k → Rules z h
  move-rules {k} (Move.wakes i m w) r = wake-rules k i m w.within r
  move-rules {k} (Move.passes p i l f) r = wake-rules k i ok f.below r
  move-rules {k} (Move.raises p l e b) r = counter-rules k p (up (counter_at k p)) l (λ q. raised-none k p q e) r
  move-rules {k} Move.ages r = tick-rules k r
  move-rules {k} (Move.sleeps i c w) r = sleep-rules k i c w r
  move-rules {k} (Move.takes p l e) r = take-rules k p l e r
  move-rules {k} (Move.sets p c w) r = set-rules k p c w r
  move-rules {k} (Move.finishes i m d f) r = finish-rules k i m d r
  move-rules {k} (Move.hands i d f) r = finish-rules k i ok d r
  move-rules {k} (Move.answers a) r = answer-rules k a r
  move-rules {k} (Move.flags i f e) r = flags-rules k i f r
  move-rules {k} Move.begins r = begin-rules k r
  move-rules {k} (Move.causes c l) r = cause-rules k c l r

-- all rules of the kernel's tables
pub record Sound (z : Sizes) (k : Kernel) : Type 0 where
  pub rules : Rules z k
  pub rows : (i : ℕ) → i < z.threads → GoodThread z (thread_at k i)

module _ (z : Sizes) (g : GoodSizes z) where
  -- A MOVE KEEPS ALL RULES OF THE KERNEL'S TABLES, and so does a chain
  pub move-sound : {k h : Kernel} {ms : List Note} → Move z k h ms → Sound z k → Sound z h
  move-sound m s =
      record {
        rules = move-rules z g m s.rules;
        rows = λ i l. move-good z g.threads.1 i l m s.rules.sized (s.rows i l);
      }

  pub chain-sound : {h k : Kernel} {ms : List Note} → Chain z h k ms → Sound z k → Sound z h
  chain-sound Chain.stop s = s
  chain-sound (Chain.on m c) s = chain-sound c (move-sound m s)

  -- who is good waits at a place in use
  good_placed : (k : Kernel) → Sound z k → Placed z k
  good_placed k s i l q u =
      split (queued_at q (thread_at k i)) (λ e. contrary (used e) u) (λ e. e)
    where
      used : queued_at q (thread_at k i) ≡ true → in_use z q ≡ true
      used e =
          let t = thread_at k i in
          let good = s.rows i l in
          let both = both-means (eqb t.state queued) (eqb t.place q) e in
          let away = queued-unready q t e in
          let place : wait_place t.call.kind t.call.object ≡ q = sym (good.unready-place away) ∙ eqb-true t.place q both.1 in
          let call = good.unready-call away in
          rw place at
          (queueing-place z g k t.call.kind (good.kind call) t.call.object (good.object call)
          (sym (good.unready-state away) ∙ eqb-true t.state queued both.0)).1

  -- A MOVE LEAVES THE WORDS OF PLACES THAT ARE NOT IN USE, and so does a chain
  move-rest : {k h : Kernel} {ms : List Note} → Move z k h ms → Sound z k → Rest z k h
  unfolding taken
  move-rest {k} (Move.wakes i m w) s = wake-rest z k i m w.within (good_placed k s)
  move-rest {k} (Move.passes p i l f) s = wake-rest z k i ok f.below (good_placed k s)
  move-rest {k} (Move.raises p l e b) s = rest-same z k (with_counter k p (up (counter_at k p))) refl
  move-rest {k} Move.ages s = tick-rest z g.threads.1 k s.rules.sized (good_placed k s)
  move-rest {k} (Move.sleeps i c w) s =
      sleep-rest z k i (wait_state c.kind) (wait_place c.kind c.object) c (omega (arith, w.within, g.threads.1))
      (λ e. (queueing-place z g k c.kind w.fits.kind c.object w.fits.object (eqb-true (wait_state c.kind) queued e)).1)
  move-rest {k} (Move.takes p l e) s = rest-same z k (taken k p) refl
  move-rest {k} (Move.sets p c w) s = rest-same z k (with_counter k p c) refl
  move-rest {k} (Move.finishes i m d f) s = rest-same z k (finished k i m d) (finish-words k i m d)
  move-rest {k} (Move.hands i d f) s = rest-same z k (finished k i ok d) (finish-words k i ok d)
  move-rest {k} (Move.answers a) s = rest-same z k (with_answer k a) refl
  move-rest {k} (Move.flags i f e) s = rest-same z k (with_thread k i (with_pending (thread_at k i) f)) refl
  move-rest {k} Move.begins s = rest-same z k (begun (ended k)) refl
  move-rest {k} (Move.causes c l) s = rest-same z k (with_cause k c) refl

  pub chain-rest : {h k : Kernel} {ms : List Note} → Chain z h k ms → Sound z k → Rest z k h
  chain-rest {k = k} Chain.stop s = rest-same z k k refl
  chain-rest (Chain.on m c) s = rest-trans (move-rest m s) (chain-rest c (move-sound m s))

  pub chain-idle : (i : ℕ) → i < z.threads → {h k : Kernel} {ms : List Note} → Chain z h k ms → Sound z k → count_in (is_slept i) ms ≡ 0
      → Idle (thread_at k i) → Idle (thread_at h i)
  chain-idle i l Chain.stop s o a = a
  chain-idle i l (Chain.on {ms = ms} {ns = ns} m c) s o a =
      let e = count-append (is_slept i) ms ns in
      chain-idle i l c (move-sound m s) (omega (arith, o, e))
      (move-idle z g.threads.1 i l m s.rules.sized (s.rows i l) (omega (arith, o, e)) a)
