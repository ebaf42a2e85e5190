-- The test that the code runs says exactly that the tables hang together, and fresh tables do: every row of them is blank.
use Rattle.std.specs.Prelude.{ℕ, zero, suc, ◌≤◌, ◌<◌, ◌≡◌, refl, ◌↔◌, true, leb, pos, get_or, replicate, Option}
use Rattle.std.proofs.Common.{not-suc-le-zero, arith, ap, ◌∙◌, inl}
use Rattle.std.proofs.Math.Nat.{zero-mod}
use Rattle.std.proofs.Math.Path.{sym}
use borrow.Author.Tests.{eqb-true, eq-eqb, leb-true, le-leb}
use Rattle.kernel.specs.declared.clock.Clock.{Clock}
use Rattle.kernel.specs.declared.records.Thread.{Thread}
use Rattle.kernel.specs.declared.records.Kernel.{Kernel}
use Rattle.kernel.specs.Numbers.{nobody}
use Rattle.kernel.specs.Places.{pool_place, queue_place, writers_place, readers_place}
use Rattle.kernel.specs.Records.{blank, fresh_records, begun}
use Rattle.kernel.specs.Tables.{used_rows, thread_at, counter_at}
use Rattle.kernel.specs.Units.{frequency_of, frequency_fits}
use Rattle.kernel.specs.Walk.{count_of}
use Rattle.kernel.specs.Waiters.{is_ready, queued_at, first_ready, running_free}
use Rattle.kernel.specs.Words.{fresh_words}
use Rattle.kernel.proofs.Cases.{split, both_true, both-means}
use Rattle.kernel.proofs.WalkLaws.{count_none, all-at, all_of}
use Rattle.kernel.proofs.WordsLaws.{word-all, word-agree, word_none}
use Rattle.library.specs.declared.sizes.Sizes.{Sizes}
use Rattle.library.specs.declared.tables.Plant.{Plant}
use Rattle.library.specs.Sizes.{slots_at, sizes_fit}
use Rattle.library.specs.Tables.{blank_mailbox, blank_pool, opened}
use Rattle.library.specs.Fresh.{fresh_tables, fresh_clock, made}
use Rattle.library.proofs.RingLaws.{Fitting}
use Rattle.rules.specs.RowRules.{row_fits, rows_fit}
use Rattle.rules.specs.PlaceRules.{queued_count, counters_fit}
use Rattle.rules.specs.ReferenceRules.{references_fit}
use Rattle.rules.specs.MailboxRules.{mailboxes_fit}
use Rattle.rules.specs.PoolRules.{occurrences, promised_by, promised_count, pools_fit}
use Rattle.rules.specs.WordRules.{ready_word, waiting_word, words_fit}
use Rattle.rules.specs.Hanging.{hangs_together}
use Rattle.promises.specs.Together.Tests.{used_all}
use Rattle.promises.specs.Together.Good.{
  GoodSizes,
  GoodThread,
  SemaphoreCounter,
  QueueCounter,
  GoodReferences,
  GoodPool,
  GoodWords,
  Good,
  RulesHold,
}
use Rattle.promises.specs.Together.RowTests.{row-good, good-row}
use Rattle.promises.specs.Together.PlaceTests.{sizes-good, good-sizes, counters-good, good-counters, references-good, good-references}
use Rattle.promises.specs.Together.WordTests.{words-good, good-words}
use Rattle.promises.specs.Together.BoxTests.{mailboxes-good, good-mailboxes, pools-good, good-pools}

-- ---- the test and the statements

module _ (k : Kernel) (z : Sizes) (s : GoodSizes z) where
  rows-good : rows_fit k z ≡ true → (i : ℕ) → i < z.threads → GoodThread z (thread_at k i)
  unfolding rows_fit
  rows-good e i h =
      row-good z (thread_at k i)
      (all-at (λ i. row_fits (thread_at k i) z) z.threads i (rw (used_all 16 z.threads s.threads.1) at e) h)

  good-rows : ((i : ℕ) → i < z.threads → GoodThread z (thread_at k i)) → rows_fit k z ≡ true
  unfolding rows_fit
  good-rows g =
      rw (used_all 16 z.threads s.threads.1)
      (all_of (λ i. row_fits (thread_at k i) z) z.threads (λ i h. good-row z (thread_at k i) (g i h)))

-- "1 to 1,000,000"
frequency-good : (f : ℕ) → frequency_fits f ≡ true → (1 ≤ f) × (f ≤ 1000000)
frequency-good f e = let x = both-means (leb 1 f) (leb f 1000000) e in (leb-true 1 f x.0, leb-true f 1000000 x.1)

module _ (p : Plant) (c : Clock) where
  -- tables that pass the test hang together
  pub test-hangs : hangs_together p c ≡ true → RulesHold p c
  unfolding hangs_together
  test-hangs e =
      let a = both-means (sizes_fit p.sizes) _ e in
      let b = both-means (frequency_fits c.frequency) _ a.1 in
      let d = both-means (rows_fit p.kernel p.sizes) _ b.1 in
      let f = both-means (counters_fit p.kernel p.sizes) _ d.1 in
      let g = both-means (references_fit p.kernel p.sizes) _ f.1 in
      let h = both-means (mailboxes_fit p) _ g.1 in
      let i = both-means (pools_fit p) _ h.1 in
      let j = both-means (running_free p.kernel) (words_fit p.kernel p.sizes) i.1 in
      let s = sizes-good p.sizes a.0 in
      record {
        good = record {
          sizes = s;
          counters = counters-good p.kernel p.sizes s f.0;
          references = references-good p.kernel p.sizes s g.0;
          mailboxes = mailboxes-good p s h.0;
          pools = pools-good p s i.0;
          threads = rows-good p.kernel p.sizes s d.0;
          words = words-good p.kernel p.sizes j.1;
        };
        frequency = frequency-good c.frequency b.0;
        running = eqb-true (thread_at p.kernel (first_ready p.kernel)).call.kind 0 j.0;
      }

  -- tables that hang together pass the test
  pub hangs-test : RulesHold p c → hangs_together p c ≡ true
  unfolding hangs_together
  hangs-test g =
      let s = g.good.sizes in
      both_true (good-sizes p.sizes s)
      (both_true (both_true (le-leb 1 c.frequency g.frequency.0) (le-leb c.frequency 1000000 g.frequency.1))
      (both_true (good-rows p.kernel p.sizes s g.good.threads)
      (both_true (good-counters p.kernel p.sizes g.good.counters)
      (both_true (good-references p.kernel p.sizes s g.good.references)
      (both_true (good-mailboxes p s g.good.mailboxes)
      (both_true (good-pools p s g.good.pools)
      (both_true (eq-eqb (thread_at p.kernel (first_ready p.kernel)).call.kind 0 g.running)
      (good-words p.kernel p.sizes g.good.words))))))))

  -- the Bool test and the record of statements say the same
  pub hangs-exactly : (hangs_together p c ≡ true) ↔ RulesHold p c
  hangs-exactly = (test-hangs, hangs-test)

-- ---- fresh tables

-- every row of a table of blanks is blank, past its end too
pub all-blank : {A : Type 0} (n : ℕ) (a : A) (i : ℕ) → get_or (replicate n a) i a ≡ a
all-blank zero a i = refl
all-blank (suc n) a zero = refl
all-blank (suc n) a (suc i) = all-blank n a i

-- a blank record is good, whatever the sizes
blank-good : (z : Sizes) → GoodThread z blank
blank-good z =
    record {
      object = λ n. absurd (n refl);
      ready-ticks = λ h. refl;
      infinite-ticks = λ h. refl;
      ticks = λ n. absurd (n refl);
      kind = λ n. absurd (n refl);
      timeout = λ n. absurd (n refl);
      unready-call = λ n. absurd (n refl);
      unready-state = λ n. absurd (n refl);
      unready-place = λ n. absurd (n refl);
      ready-place = λ h. refl;
      no-call = λ h. (refl, (refl, refl));
      operand = λ n. absurd (n refl);
      awaited = refl;
      none-pending = λ h. absurd (omega (arith, h));
      cause = omega arith;
    }

-- ---- the kernel part of fresh tables of m threads, as a step finds it

module _ (m : ℕ) where
  abbrev fresh : Kernel
  fresh = begun (fresh_records (fresh_words m))

  -- nobody is queued anywhere
  none-queued : (n p : ℕ) → queued_count fresh n p ≡ 0
  unfolding queued_count
  none-queued n p = count_none (λ i. queued_at p (thread_at fresh i)) (used_rows n) (λ i h. rw (all-blank 16 blank i))

  -- nothing is promised
  none-promised : (n q : ℕ) → promised_count fresh n q ≡ 0
  unfolding promised_count
  none-promised n q = count_none (λ i. promised_by q (thread_at fresh i)) (used_rows n) (λ i h. rw (all-blank 16 blank i))

  module _ (n p : ℕ) where
    fresh-semaphore : SemaphoreCounter (counter_at fresh p) (queued_count fresh n p)
    fresh-semaphore =
        record { waiters = λ l. absurd (omega (arith, none-queued n p)); none = λ h. rw (all-blank 36 (pos 0) p) }

    fresh-queue : QueueCounter (counter_at fresh p) (queued_count fresh n p)
    fresh-queue =
        record { waiters = λ l. absurd (omega (arith, none-queued n p)); none = λ h. all-blank 36 (pos 0) p }

  -- no thread is suspended, and no reference holds any
  fresh-references : (z : Sizes) → GoodSizes z → GoodReferences fresh z
  fresh-references z s =
      record {
        holder = λ r h. inl (all-blank 8 nobody r);
        holds = λ r h i l. (
          λ e. absurd (omega (arith, sym (all-blank 8 nobody r) ∙ e, s.threads.1)),
          λ e. absurd (omega (arith, rw (all-blank 16 blank i) at e.0)),
        );
      }

  -- every bit of n threads' word is set, and nobody waits
  fresh-good-words : (z : Sizes) → z.threads ≡ m → GoodWords fresh z
  unfolding ready_word waiting_word
  fresh-good-words z e =
      record {
        ready =
            rw e (sym (word-all (used_rows m)) ∙ sym (word-agree (λ i. is_ready (thread_at fresh i)) (λ i. true) (used_rows m)
            (λ i h. rw (all-blank 16 blank i))));
        waiting = λ p h u.
            all-blank 36 0 p
            ∙ sym (word_none (λ i. queued_at p (thread_at fresh i)) (used_rows z.threads) (λ i l. rw (all-blank 16 blank i)));
      }

-- "mailboxes empty"
fresh-mailbox : (slots : ℕ) → 1 ≤ slots → Fitting blank_mailbox.positions slots
fresh-mailbox slots h = record { count = omega arith; read = h; write = h; follows = sym (zero-mod slots) }

-- "pool objects absent"
fresh-pool : GoodPool blank_pool (pos 0) 0
unfolding occurrences count_of
fresh-pool =
    record {
      length = omega arith;
      once = λ o h e. absurd (omega (arith, sym (all-blank 32 0 o) ∙ e));
      no_other = λ o h e. refl;
      objects = λ j h. absurd (not-suc-le-zero h);
      promises = refl;
      marks = λ o h. inl (all-blank 32 0 o);
    }

module _ (z : Sizes) (s : GoodSizes z) where
  -- fresh tables are good
  pub fresh-good : Good (opened (fresh_tables z))
  fresh-good =
      record {
        sizes = s;
        counters = record {
          semaphores = λ i h. fresh-semaphore z.threads z.threads i;
          pools = λ i h. fresh-semaphore z.threads z.threads (pool_place i);
          queues = λ i h. fresh-queue z.threads z.threads (queue_place i);
          writers = λ i h. fresh-queue z.threads z.threads (writers_place i);
          readers = λ i h. fresh-queue z.threads z.threads (readers_place i);
        };
        references = fresh-references z.threads z s;
        mailboxes = λ m h. rw (all-blank 4 blank_mailbox m) (fresh-mailbox (slots_at z m) (s.slots m h).0);
        pools = λ q h.
            rw (all-blank 4 blank_pool q, all-blank 36 (pos 0) (pool_place q), none-promised z.threads z.threads q) fresh-pool;
        threads = λ i h. rw (all-blank 16 blank i) (blank-good z);
        words = fresh-good-words z.threads z refl;
      }

-- "Fresh tables pass": of every legal size, at every legal frequency
pub fresh-hangs : (z : Sizes) (f : ℕ) → sizes_fit z ≡ true → frequency_fits f ≡ true
    → hangs_together (opened (fresh_tables z)) (fresh_clock f) ≡ true
fresh-hangs z f e h =
    hangs-test (opened (fresh_tables z)) (fresh_clock f)
    (record {
      good = fresh-good z (sizes-good z e);
      frequency = frequency-good f h;
      running = ap (λ (t : Thread). t.call.kind) (all-blank 16 blank (first_ready (fresh z.threads)));
    })

-- what `made` makes, it makes so that it passes
pub made-hangs : (z : Sizes) (r : Option ℕ) → (made z r).code ≡ 0 → hangs_together (opened (made z r).tables) (made z r).clock ≡ true
unfolding made
made-hangs z r h =
    split (sizes_fit z)
    (λ e.
    split (frequency_fits (frequency_of r))
    (λ f. rw (e, f) (fresh-hangs z (frequency_of r) e f))
    (λ f. absurd (omega (arith, rw (e, f) at h))))
    (λ e. absurd (omega (arith, rw e at h)))
