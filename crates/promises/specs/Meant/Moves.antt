-- The moves of the meanings, in the words of `StepOf`.
use Rattle.std.specs.Prelude.{ℕ, ◌<◌, ◌≡◌, refl, ◌≢◌, ◌⊎◌, true, false, eqb, length, get_or, ℤ, pos, negsuc, ◌+ℤ◌, ◌-ℤ◌}
use Rattle.std.proofs.Common.{arith, sym, ◌∙◌, subst, inl, inr, get_or-set_same, get_or-set_other, eqb-true, eq-eqb, ne_eqb}
use Rattle.std.specs.Int.Signed.{lt_z}
use Rattle.kernel.specs.declared.records.Call.{Call}
use Rattle.kernel.specs.declared.records.Thread.{Thread}
use Rattle.kernel.specs.declared.records.Kernel.{Kernel}
use Rattle.kernel.specs.Numbers.{nobody}
use Rattle.kernel.specs.Tables.{thread_at, counter_at, holder_at, with_thread, with_counter}
use Rattle.kernel.specs.Moves.{woken, slept, finished}
use Rattle.kernel.proofs.Cases.{split, same_or, first-fails, second-fails}
use Rattle.kernel.proofs.TablesLaws.{woken_at, finished_at, Sized, thread-same, thread-other, counter-same, counter-other}
use Rattle.kernel.proofs.CountersLaws.{up-exact, down-exact}
use Rattle.kernel.proofs.MovesLaws.{
  wake-row,
  wake-others,
  wake-counter,
  wake-counter-others,
  wake-holder,
  wake-flag,
  wake-flag-others,
  wake-finished,
  wake-answer,
  wake-sizes,
  finish-row,
  finish-others,
  finish-flag,
  finish-flag-others,
  finish-answer,
  finish-counters,
  finish-references,
  finish-woken,
  finish-sizes,
  sleep-row,
  sleep-others,
  sleep-counter,
  sleep-counter-others,
  sleep-holder,
  sleep-holder-others,
  sleep-woken,
  sleep-finished,
  sleep-answer,
  sleep-sizes,
}
use Rattle.library.specs.declared.tables.Plant.{Plant}
use Rattle.library.specs.declared.tables.Tables.{Tables}
use Rattle.library.specs.declared.tables.Mailbox.{Mailbox}
use Rattle.library.specs.declared.tables.Pool.{Pool}
use Rattle.library.specs.Tables.{blank_mailbox, blank_pool, opened, mailbox_at, pool_at, with_kernel, with_mailbox, with_pool}
use Rattle.promises.specs.Together.Hanging.{all-blank}
use Rattle.promises.specs.Paper.World.{
  World,
  no_thread,
  no_box,
  no_pool,
  found,
  put,
  counter_to,
  thread_to,
  box_to,
  pool_to,
  made_ready,
  ended,
  fall_asleep,
}

-- ---- worlds

-- the world of tables at work
abbrev pub world_of : Plant → World
world_of p =
    record {
      sizes = p.sizes;
      thread = λ i. get_or p.kernel.threads i no_thread;
      counter = λ q. get_or p.kernel.counters q (pos 0);
      holder = λ r. get_or p.kernel.references r 255;
      box = λ m. get_or p.mailboxes m no_box;
      pool = λ q. get_or p.pools q no_pool;
      step = p.kernel.steps;
      woken = λ i. get_or p.kernel.woken i false;
      finished = λ i. get_or p.kernel.finished i false;
      answer = p.kernel.answer;
    }

-- worlds with the same entries are one
pub record Alike (w v : World) : Type 0 where
  pub sizes : w.sizes ≡ v.sizes
  pub thread : (i : ℕ) → w.thread i ≡ v.thread i
  pub counter : (p : ℕ) → w.counter p ≡ v.counter p
  pub holder : (r : ℕ) → w.holder r ≡ v.holder r
  pub box : (m : ℕ) → w.box m ≡ v.box m
  pub pool : (q : ℕ) → w.pool q ≡ v.pool q
  pub step : w.step ≡ v.step
  pub woken : (i : ℕ) → w.woken i ≡ v.woken i
  pub finished : (i : ℕ) → w.finished i ≡ v.finished i
  pub answer : w.answer ≡ v.answer

pub alike_same : {w v : World} → Alike w v → w ≡ v
alike_same a =
    λ x. record {
      sizes = a.sizes x;
      thread = λ i. a.thread i x;
      counter = λ i. a.counter i x;
      holder = λ i. a.holder i x;
      box = λ i. a.box i x;
      pool = λ i. a.pool i x;
      step = a.step x;
      woken = λ i. a.woken i x;
      finished = λ i. a.finished i x;
      answer = a.answer x;
    }

-- a step begins with what it finds
pub found-is : (t : Tables) → world_of (opened t) ≡ found t
found-is t =
    alike_same (record {
      sizes = refl;
      thread = λ i. refl;
      counter = λ i. refl;
      holder = λ i. refl;
      box = λ i. refl;
      pool = λ i. refl;
      step = refl;
      woken = all-blank 16 false;
      finished = all-blank 16 false;
      answer = refl;
    })

-- a table that has a at i, and else is f
pub at-put : {A : Type 0} (f g : ℕ → A) (i : ℕ) (a : A) → g i ≡ a → ((j : ℕ) → j ≢ i → g j ≡ f j) → (j : ℕ) → g j ≡ put f i a j
at-put f g i a e h j = same_or j i (λ x. rw (x, eq-eqb i i refl) e) (λ d. rw (ne_eqb j i d) (h j d))

-- ---- the moves, as the paper's words

-- a queued thread's counter has room for its +1
abbrev pub Raisable : Kernel → ℕ → Type 0
Raisable k i = (thread_at k i).state ≡ 3
    → ((thread_at k i).place < 36) × (lt_z (counter_at k (thread_at k i).place) (pos 2147483647) ≡ true)

-- the paper's "counter less 1" of a sleep in a queue, and a reference's row
abbrev pub Joinable : Kernel → ℕ → ℕ → Type 0
Joinable k s q = (s ≡ 3 → (q < 36) × (lt_z (negsuc 2147483647) (counter_at k q) ≡ true)) × (s ≡ 2 → q < 8)

-- one entry written
pub thread-world : (p : Plant) → Sized p.kernel → (i : ℕ) → i < 16 → (u : Thread)
    → world_of (with_kernel p (with_thread p.kernel i u)) ≡ thread_to (world_of p) i u
thread-world p z i here u =
    alike_same (record {
      sizes = refl;
      thread = at-put (thread_at p.kernel) (thread_at (with_thread p.kernel i u)) i u
          (thread-same p.kernel i u (rw z.threads here)) (thread-other p.kernel i u);
      counter = λ j. refl;
      holder = λ j. refl;
      box = λ j. refl;
      pool = λ j. refl;
      step = refl;
      woken = λ j. refl;
      finished = λ j. refl;
      answer = refl;
    })

pub counter-world : (p : Plant) → Sized p.kernel → (q : ℕ) → q < 36 → (c : ℤ)
    → world_of (with_kernel p (with_counter p.kernel q c)) ≡ counter_to (world_of p) q c
counter-world p z q within c =
    alike_same (record {
      sizes = refl;
      thread = λ j. refl;
      counter = at-put (counter_at p.kernel) (counter_at (with_counter p.kernel q c)) q c
          (counter-same p.kernel q c (rw z.counters within)) (counter-other p.kernel q c);
      holder = λ j. refl;
      box = λ j. refl;
      pool = λ j. refl;
      step = refl;
      woken = λ j. refl;
      finished = λ j. refl;
      answer = refl;
    })

pub box-world : (p : Plant) (m : ℕ) (b : Mailbox) → m < length p.mailboxes → world_of (with_mailbox p m b) ≡ box_to (world_of p) m b
box-world p m b row =
    alike_same (record {
      sizes = refl;
      thread = λ j. refl;
      counter = λ j. refl;
      holder = λ j. refl;
      box = at-put (mailbox_at p) (mailbox_at (with_mailbox p m b)) m b (get_or-set_same p.mailboxes m b blank_mailbox row)
          (λ j d. get_or-set_other p.mailboxes m j b blank_mailbox d);
      pool = λ j. refl;
      step = refl;
      woken = λ j. refl;
      finished = λ j. refl;
      answer = refl;
    })

pub pool-world : (p : Plant) (q : ℕ) (x : Pool) → q < length p.pools → world_of (with_pool p q x) ≡ pool_to (world_of p) q x
pool-world p q x row =
    alike_same (record {
      sizes = refl;
      thread = λ j. refl;
      counter = λ j. refl;
      holder = λ j. refl;
      box = λ j. refl;
      pool = at-put (pool_at p) (pool_at (with_pool p q x)) q x (get_or-set_same p.pools q x blank_pool row)
          (λ j d. get_or-set_other p.pools q j x blank_pool d);
      step = refl;
      woken = λ j. refl;
      finished = λ j. refl;
      answer = refl;
    })

module _ (p : Plant) (z : Sized p.kernel) (i : ℕ) where
  abbrev k : Kernel
  k = p.kernel

  module _ (m : ℤ) (here : i < 16) (room : Raisable k i) where
    abbrev q : ℕ
    q = (thread_at k i).place

    wake-counters-world : (j : ℕ) → counter_at (woken k i m) j ≡ (made_ready (world_of p) i m k.cause).counter j
    wake-counters-world j =
        split (eqb (thread_at k i).state 3)
        (λ e.
        let r = room (eqb-true (thread_at k i).state 3 e) in
        rw e
        (at-put (counter_at k) (counter_at (woken k i m)) q (counter_at k q +ℤ pos 1)
        (wake-counter k i m q (rw z.counters r.0) ∙ rw (e, eq-eqb q q refl) (up-exact (counter_at k q) r.1))
        (λ j d. wake-counter-others k i m j (second-fails (eqb (thread_at k i).state 3) (ne_eqb q j (λ x. d (sym x))))) j))
        (λ e. rw e (wake-counter-others k i m j (first-fails (eqb q j) e)))

    wake-holders-world : (j : ℕ) → holder_at (woken k i m) j ≡ (made_ready (world_of p) i m k.cause).holder j
    wake-holders-world j =
        split (eqb (thread_at k i).state 2)
        (λ e. rw e
        (at-put (holder_at k) (holder_at (woken k i m)) q 255 (wake-holder k i m q ∙ rw (e, eq-eqb q q refl))
        (λ j d. wake-holder k i m j ∙ rw (e, ne_eqb q j (λ x. d (sym x)))) j))
        (λ e. rw e (wake-holder k i m j ∙ rw e))

    wake-by : world_of (with_kernel p (woken k i m)) ≡ made_ready (world_of p) i m k.cause
    wake-by =
        alike_same (record {
          sizes = refl;
          thread = at-put (thread_at k) (thread_at (woken k i m)) i _ (wake-row k i m (rw z.threads here)) (wake-others k i m);
          counter = wake-counters-world;
          holder = wake-holders-world;
          box = λ j. refl;
          pool = λ j. refl;
          step = (wake-sizes k i m).steps;
          woken = at-put (woken_at k) (woken_at (woken k i m)) i true (wake-flag k i m (rw z.woken here)) (wake-flag-others k i m);
          finished = λ j. rw (wake-finished k i m);
          answer = wake-answer k i m;
        })

    pub wake-world : (c : ℕ) → k.cause ≡ c → world_of (with_kernel p (woken k i m)) ≡ made_ready (world_of p) i m c
    wake-world c by = subst (λ (x : ℕ). world_of (with_kernel p (woken k i m)) ≡ made_ready (world_of p) i m x) by wake-by

  module _ (m : ℤ) (d : ℕ) where
    finish-thread : i < 16 → world_of (with_kernel p (finished k i m d)) ≡ ended (world_of p) i m d
    finish-thread here =
        let someone : i ≢ nobody = omega arith in
        alike_same (record {
          sizes = refl;
          thread = λ j. rw (ne_eqb i 255 someone)
              (at-put (thread_at k) (thread_at (finished k i m d)) i _ (finish-row k i m d someone (rw z.threads here))
              (finish-others k i m d) j);
          counter = λ j. rw (finish-counters k i m d);
          holder = λ j. rw (finish-references k i m d);
          box = λ j. refl;
          pool = λ j. refl;
          step = (finish-sizes k i m d).steps;
          woken = λ j. rw (finish-woken k i m d);
          finished = λ j. rw (ne_eqb i 255 someone)
              (at-put (finished_at k) (finished_at (finished k i m d)) i true (finish-flag k i m d someone (rw z.finished here))
              (finish-flag-others k i m d) j);
          answer = rw (ne_eqb i 255 someone) (finish-answer k i m d someone);
        })

    finish-interrupts : i ≡ 255 → world_of (with_kernel p (finished k i m d)) ≡ ended (world_of p) i m d
    unfolding finished
    finish-interrupts e = rw e

    pub finish-world : (i ≡ 255) ⊎ (i < 16) → world_of (with_kernel p (finished k i m d)) ≡ ended (world_of p) i m d
    finish-world (inl e) = finish-interrupts e
    finish-world (inr h) = finish-thread h

  -- to go to sleep
  module _ (s q : ℕ) (c : Call) (here : i < 16) (join : Joinable k s q) where
    sleep-counters-world : (j : ℕ) → counter_at (slept k i s q c) j ≡ (fall_asleep (world_of p) i s q c).counter j
    sleep-counters-world j =
        split (eqb s 3)
        (λ e.
        let r = join.0 (eqb-true s 3 e) in
        rw e
        (at-put (counter_at k) (counter_at (slept k i s q c)) q (counter_at k q -ℤ pos 1)
        (sleep-counter k i s q c here q (rw z.counters r.0) ∙ rw (e, eq-eqb q q refl) (down-exact (counter_at k q) r.1))
        (λ j d. sleep-counter-others k i s q c j (second-fails (eqb s 3) (ne_eqb q j (λ x. d (sym x))))) j))
        (λ e. rw e (sleep-counter-others k i s q c j (first-fails (eqb q j) e)))

    sleep-holders-world : (j : ℕ) → holder_at (slept k i s q c) j ≡ (fall_asleep (world_of p) i s q c).holder j
    sleep-holders-world j =
        split (eqb s 2)
        (λ e. rw e
        (at-put (holder_at k) (holder_at (slept k i s q c)) q i
        (sleep-holder k i s q c here q (rw z.references (join.1 (eqb-true s 2 e))) ∙ rw (e, eq-eqb q q refl))
        (λ j d. sleep-holder-others k i s q c j (second-fails (eqb s 2) (ne_eqb q j (λ x. d (sym x))))) j))
        (λ e. rw e (sleep-holder-others k i s q c j (first-fails (eqb q j) e)))

    pub sleep-world : world_of (with_kernel p (slept k i s q c)) ≡ fall_asleep (world_of p) i s q c
    sleep-world =
        alike_same (record {
          sizes = refl;
          thread = at-put (thread_at k) (thread_at (slept k i s q c)) i _ (sleep-row k i s q c here (rw z.threads here))
              (sleep-others k i s q c);
          counter = sleep-counters-world;
          holder = sleep-holders-world;
          box = λ j. refl;
          pool = λ j. refl;
          step = (sleep-sizes k i s q c).steps;
          woken = λ j. rw (sleep-woken k i s q c);
          finished = λ j. rw (sleep-finished k i s q c);
          answer = sleep-answer k i s q c;
        })
