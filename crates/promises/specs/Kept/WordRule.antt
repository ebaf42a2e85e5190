-- The rule of ONE word, kept by every move of the kernel part, and so that of all; no other word's rule is needed. Who is made ready has its bit set in the ready
-- word and taken off its place's; who goes to sleep the other way round; and nobody else's bit changes.
use Rattle.std.specs.Prelude.{ℕ, ◌≤◌, ◌<◌, ◌≡◌, refl, ◌≢◌, Bool, true, false, ◌&&◌, eqb, length, ℤ}
use Rattle.std.proofs.Common.{arith, sym, ap, ◌∙◌, eqb-true, lt-ltb}
use Rattle.kernel.specs.declared.records.Call.{Call}
use Rattle.kernel.specs.declared.records.Thread.{Thread}
use Rattle.kernel.specs.declared.records.Kernel.{Kernel}
use Rattle.kernel.specs.Numbers.{ready, queued, timed_out}
use Rattle.kernel.specs.Places.{semaphore_place, pool_place, queue_place, writers_place, readers_place}
use Rattle.kernel.specs.Tables.{used_rows, thread_at, with_thread}
use Rattle.kernel.specs.Moves.{woken, slept, finished}
use Rattle.kernel.specs.Ticking.{counted_off, ticked}
use Rattle.kernel.specs.Waiters.{is_ready, queued_at}
use Rattle.kernel.specs.Words.{word_of, with_bit, without_bit, waiting_at}
use Rattle.kernel.proofs.Cases.{split, same_or, contrary, first-fails}
use Rattle.kernel.proofs.TablesLaws.{Sized, sized-kept, thread-sizes, thread-kept, used_all}
use Rattle.kernel.proofs.MovesLaws.{
  wake-row,
  wake-others,
  wake-words,
  wake-sizes,
  sleep-row,
  sleep-others,
  sleep-words,
  finish-kept,
  finish-words,
}
use Rattle.kernel.proofs.TickingLaws.{tick-keeps}
use Rattle.kernel.proofs.WaitersLaws.{Tells, TellsAt}
use Rattle.kernel.proofs.WordsLaws.{
  word-digit,
  same_digits,
  with-same,
  with-other,
  without-same,
  without_other,
  ready-waiting,
  ready-elsewhere,
  asleep-waiting,
  asleep-elsewhere,
}
use Rattle.library.specs.declared.sizes.Sizes.{Sizes}
use Rattle.rules.specs.PlaceRules.{in_use}
use Rattle.rules.specs.WordRules.{ready_word, waiting_word}
use Rattle.promises.specs.Together.Good.{GoodSizes, GoodWords}
use Rattle.promises.specs.Kept.CounterRule.{semaphore-place, pool-place, queue-place, writers-place, readers-place}

-- the rule stays where nobody's test changes
same-tells : (n : ℕ) (test : Thread → Bool) (k h : Kernel) (w : ℕ) → ((j : ℕ) → test (thread_at h j) ≡ test (thread_at k j))
    → Tells n test k w → Tells n test h w
same-tells n test k h w e g j = rw (e j) (g j)

-- where nobody's but that of i, who then passes
with-tells : (n : ℕ) (test : Thread → Bool) (k h : Kernel) (w i : ℕ) → i < 16 → i < n → test (thread_at h i) ≡ true
    → ((j : ℕ) → j ≢ i → thread_at h j ≡ thread_at k j) → Tells n test k w → Tells n test h (with_bit w i)
with-tells n test k h w i few within passes others g j =
    same_or j i (λ e. rw (e, passes, lt-ltb i n within) (with-same w i few)) (λ d. rw (others j d) (with-other w i j d ∙ g j))

-- .. or does not
without-tells : (n : ℕ) (test : Thread → Bool) (k h : Kernel) (w i : ℕ) → i < 16 → i < n → test (thread_at h i) ≡ false
    → ((j : ℕ) → j ≢ i → thread_at h j ≡ thread_at k j) → Tells n test k w → Tells n test h (without_bit w i)
without-tells n test k h w i few within fails others g j =
    same_or j i (λ e. rw (e, fails, lt-ltb i n within) (without-same w i few)) (λ d. rw (others j d) (without_other w i j d ∙ g j))

-- ---- a waking

module _ (k : Kernel) (i : ℕ) (m : ℤ) (n : ℕ) (few : n ≤ 16) (within : i < n) (here : i < length k.threads) where
  low : i < 16
  low = omega arith

  wake-tells : Tells n is_ready k k.words.ready → Tells n is_ready (woken k i m) (woken k i m).words.ready
  wake-tells g =
      rw (wake-words k i m)
      (with-tells n is_ready k (woken k i m) k.words.ready i low within (rw (wake-row k i m here)) (wake-others k i m) g)

  wake-tells-at : (q : ℕ) → q < length k.words.waiting → TellsAt n k q
      → Tells n (queued_at q) (woken k i m) (waiting_at (woken k i m).words q)
  wake-tells-at q h g =
      rw (wake-words k i m, ready-waiting k.words i (thread_at k i).state (thread_at k i).place q h)
      (split (queued_at q (thread_at k i))
      (λ e. rw e (without-tells n (queued_at q) k (woken k i m) (waiting_at k.words q) i low within (rw (wake-row k i m here)) (wake-others k i m) g))
      (λ e. rw e
      (same-tells n (queued_at q) k (woken k i m) (waiting_at k.words q)
      (λ j. same_or j i (λ s. rw (s, wake-row k i m here, e)) (λ d. ap (queued_at q) (wake-others k i m j d))) g)))

-- ---- a sleep, of a ready thread, in any state but ready

module _ (k : Kernel) (i s p : ℕ) (c : Call) (n : ℕ) (few : n ≤ 16) (within : i < n) (here : i < length k.threads)
    (is-ready : (thread_at k i).state ≡ ready) where
  down-low : i < 16
  down-low = omega arith

  sleep-tells : eqb s ready ≡ false → Tells n is_ready k k.words.ready
      → Tells n is_ready (slept k i s p c) (slept k i s p c).words.ready
  sleep-tells e g =
      rw (sleep-words k i s p c down-low)
      (without-tells n is_ready k (slept k i s p c) k.words.ready i down-low within (rw (sleep-row k i s p c down-low here) e)
      (sleep-others k i s p c) g)

  sleep-tells-at : (q : ℕ) → q < length k.words.waiting → TellsAt n k q
      → Tells n (queued_at q) (slept k i s p c) (waiting_at (slept k i s p c).words q)
  sleep-tells-at q h g =
      rw (sleep-words k i s p c down-low, asleep-waiting k.words i s p q h)
      (split (eqb s queued && eqb p q)
      (λ e. rw e
      (with-tells n (queued_at q) k (slept k i s p c) (waiting_at k.words q) i down-low within
      (rw (sleep-row k i s p c down-low here) e) (sleep-others k i s p c) g))
      (λ e. rw e
      (same-tells n (queued_at q) k (slept k i s p c) (waiting_at k.words q)
      (λ j. same_or j i (λ a. rw (a, sleep-row k i s p c down-low here, e, is-ready)) (λ d. ap (queued_at q) (sleep-others k i s p c j d)))
      g)))

-- ---- all words

-- the ready word, and the word of each place in use
pub record Said (z : Sizes) (k : Kernel) : Type 0 where
  pub ready : Tells z.threads is_ready k k.words.ready
  pub waiting : (q : ℕ) → q < 36 → in_use z q ≡ true → TellsAt z.threads k q

-- they stay where no word and nobody's wait changes
pub same-said : (z : Sizes) (k h : Kernel) → h.words ≡ k.words → ((j : ℕ) → (thread_at h j).state ≡ (thread_at k j).state)
    → ((j : ℕ) → (thread_at h j).place ≡ (thread_at k j).place) → Said z k → Said z h
same-said z k h e s p g =
    record {
      ready = rw e (same-tells z.threads is_ready k h k.words.ready (λ j. rw (s j)) g.ready);
      waiting = λ q l u.
          rw e (same-tells z.threads (queued_at q) k h (waiting_at k.words q) (λ j. rw (s j, p j)) (g.waiting q l u));
    }

-- one row written, that waits as before
pub row-said : (z : Sizes) (k : Kernel) (i : ℕ) (t : Thread) → t.state ≡ (thread_at k i).state → t.place ≡ (thread_at k i).place
    → Said z k → Said z (with_thread k i t)
row-said z k i t s p =
    same-said z k (with_thread k i t) refl (thread-kept k i t (λ x. x.state) s) (thread-kept k i t (λ x. x.place) p)

module _ (z : Sizes) (few : z.threads ≤ 16) where
  pub wake-said : (k : Kernel) (i : ℕ) (m : ℤ) → i < z.threads → Sized k → Said z k → Said z (woken k i m)
  wake-said k i m l s g =
      let here : i < length k.threads = omega (arith, s.threads) in
      record {
        ready = wake-tells k i m z.threads few l here g.ready;
        waiting = λ q h u. wake-tells-at k i m z.threads few l here q (omega (arith, s.waiting)) (g.waiting q h u);
      }

  pub sleep-said : (k : Kernel) (i s p : ℕ) (c : Call) → i < z.threads → (thread_at k i).state ≡ ready → eqb s ready ≡ false → Sized k
      → Said z k → Said z (slept k i s p c)
  sleep-said k i s p c l r e d g =
      let here : i < length k.threads = omega (arith, d.threads) in
      record {
        ready = sleep-tells k i s p c z.threads few l here r e g.ready;
        waiting = λ q h u. sleep-tells-at k i s p c z.threads few l here r q (omega (arith, d.waiting)) (g.waiting q h u);
      }

  pub tick-said : (k : Kernel) → Sized k → Said z k → Said z (ticked k z.threads)
  tick-said k s g =
      (tick-keeps k z.threads (λ h. Sized h × Said z h)
      (λ i l h x. (sized-kept (wake-sizes h i timed_out) x.0, wake-said h i timed_out l x.0 x.1))
      (λ i h x. (
        sized-kept (thread-sizes h i (counted_off (thread_at h i))) x.0,
        row-said z h i (counted_off (thread_at h i)) refl refl x.1,
      ))
      (s, g)).1

pub finish-said : (z : Sizes) (k : Kernel) (i : ℕ) (m : ℤ) (d : ℕ) → Said z k → Said z (finished k i m d)
finish-said z k i m d =
    same-said z k (finished k i m d) (finish-words k i m d) (finish-kept k i m d (λ x. x.state) (λ a. refl))
    (finish-kept k i m d (λ x. x.place) (λ a. refl))

-- ---- places that are not in use

-- no thread waits at one
abbrev pub Placed : Sizes → Kernel → Type 0
Placed z k = (i : ℕ) → i < z.threads → (q : ℕ) → in_use z q ≡ false → queued_at q (thread_at k i) ≡ false

-- their words, and the filler, are as they were
pub record Rest (z : Sizes) (k h : Kernel) : Type 0 where
  pub waiting : (q : ℕ) → in_use z q ≡ false → waiting_at h.words q ≡ waiting_at k.words q
  pub filler : h.words.unused ≡ k.words.unused

pub rest-same : (z : Sizes) (k h : Kernel) → h.words ≡ k.words → Rest z k h
rest-same z k h e = record { waiting = λ q u. rw e; filler = rw e }

pub rest-trans : {z : Sizes} {k h g : Kernel} → Rest z k h → Rest z h g → Rest z k g
rest-trans a b = record { waiting = λ q u. b.waiting q u ∙ a.waiting q u; filler = b.filler ∙ a.filler }

module _ (z : Sizes) (k : Kernel) (i : ℕ) where
  pub wake-rest : (m : ℤ) → i < z.threads → Placed z k → Rest z k (woken k i m)
  wake-rest m l p =
      record {
        waiting = λ q u. rw (wake-words k i m) (ready-elsewhere k.words i (thread_at k i).state (thread_at k i).place q (p i l q u));
        filler = rw (wake-words k i m);
      }

  pub sleep-rest : (s p : ℕ) (c : Call) → i < 16 → (eqb s queued ≡ true → in_use z p ≡ true) → Rest z k (slept k i s p c)
  sleep-rest s p c l e =
      record {
        waiting = λ q u. rw (sleep-words k i s p c l) (asleep-elsewhere k.words i s p q (elsewhere q u));
        filler = rw (sleep-words k i s p c l);
      }
    where
      elsewhere : (q : ℕ) → in_use z q ≡ false → eqb s queued && eqb p q ≡ false
      elsewhere q u =
          split (eqb s queued)
          (λ a. split (eqb p q) (λ b. contrary (rw (eqb-true p q b) at (e a)) u) (λ b. rw (a, b)))
          (λ a. first-fails (eqb p q) a)

  wake-placed : (m : ℤ) → i < length k.threads → Placed z k → Placed z (woken k i m)
  wake-placed m h p j l q u =
      same_or j i (λ e. rw (e, wake-row k i m h)) (λ d. rw (wake-others k i m j d) (p j l q u))

pub tick-rest : (z : Sizes) → z.threads ≤ 16 → (k : Kernel) → Sized k → Placed z k → Rest z k (ticked k z.threads)
tick-rest z few k s p =
    (tick-keeps k z.threads (λ h. Sized h × (Placed z h × Rest z k h))
    (λ i l h x.
    let here : i < length h.threads = omega (arith, x.0.threads) in (
      sized-kept (wake-sizes h i timed_out) x.0,
      (wake-placed z h i timed_out here x.1.0, rest-trans x.1.1 (wake-rest z h i timed_out l x.1.0)),
    ))
    (λ i h x. (
      sized-kept (thread-sizes h i (counted_off (thread_at h i))) x.0,
      (λ j l q u. thread-kept h i (counted_off (thread_at h i)) (queued_at q) refl j ∙ x.1.0 j l q u, rest-trans x.1.1 (rest-same z h (with_thread h i (counted_off (thread_at h i))) refl)),
    ))
    (s, (p, rest-same z k k refl))).1.1

-- ---- the rule in its two forms: the walk's word, and its digits

module _ (k : Kernel) (z : Sizes) (s : GoodSizes z) where
  rows-used : used_rows z.threads ≡ z.threads
  rows-used = used_all z.threads s.threads.1

  -- a word that is the walk's tells what the walk does, and the other way round
  pub walk-tells : (test : Thread → Bool) (w : ℕ) → w ≡ word_of (λ i. test (thread_at k i)) (used_rows z.threads) → Tells z.threads test k w
  walk-tells test w e j = rw (e, rows-used) (word-digit (λ i. test (thread_at k i)) z.threads j)

  pub tells-walk : (test : Thread → Bool) (w : ℕ) → Tells z.threads test k w → w ≡ word_of (λ i. test (thread_at k i)) (used_rows z.threads)
  tells-walk test w g =
      rw rows-used
      (same_digits w (word_of (λ i. test (thread_at k i)) z.threads)
      (λ j. g j ∙ sym (word-digit (λ i. test (thread_at k i)) z.threads j)))

  pub words-said : GoodWords k z → Said z k
  unfolding ready_word waiting_word
  words-said g =
      record {
        ready = walk-tells is_ready k.words.ready g.ready;
        waiting = λ q h u. walk-tells (queued_at q) (waiting_at k.words q) (g.waiting q h u);
      }

  pub said-words : Said z k → GoodWords k z
  unfolding ready_word waiting_word
  said-words g =
      record {
        ready = tells-walk is_ready k.words.ready g.ready;
        waiting = λ q h u. tells-walk (queued_at q) (waiting_at k.words q) (g.waiting q h u);
      }

-- ---- the word of an object's place tells who waits there

module _ (k : Kernel) (z : Sizes) (g : GoodSizes z) (s : Said z k) (o : ℕ) where
  pub semaphore-told : o < z.semaphores → TellsAt z.threads k (semaphore_place o)
  semaphore-told l = let x = semaphore-place k z g o l in s.waiting o (omega (arith, x.0)) x.1

  pub pool-told : o < z.pools → TellsAt z.threads k (pool_place o)
  pool-told l = let x = pool-place k z g o l (pool_place o) refl in s.waiting (pool_place o) (omega (arith, x.1.0)) x.1.1

  pub queue-told : o < z.queues → TellsAt z.threads k (queue_place o)
  queue-told l = let x = queue-place k z g o l (queue_place o) refl in s.waiting (queue_place o) (omega (arith, x.1.0)) x.1.1

  pub writers-told : o < z.mailboxes → TellsAt z.threads k (writers_place o)
  writers-told l = let x = writers-place k z g o l (writers_place o) refl in s.waiting (writers_place o) (omega (arith, x.1.0)) x.1.1

  pub readers-told : o < z.mailboxes → TellsAt z.threads k (readers_place o)
  readers-told l = let x = readers-place k z g o l (readers_place o) refl in s.waiting (readers_place o) (omega (arith, x.1.0)) x.1.1
