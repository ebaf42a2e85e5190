-- The row that the search for a broken rule finds is the first that breaks it, as the paper tells the rule: the test of a rule fails exactly
-- in the rows that break it, in tables whose sizes are right.
use Prim.Native.Nat.{ℕ, ◌+◌, ◌≤◌, ◌<◌}
use Rattle.std.proofs.Common.{arith, sym, ap, ◌∙◌, subst}
use Rattle.std.specs.Prelude.{◌≡◌, ◌≢◌, ◌↔◌, Bool, true, not, cond, ◌&&◌, eqb, leb, ltb, pos, length}
use Rattle.std.proofs.Math.Path.{refl}
use Rattle.std.proofs.Math.Logic.{inl, inr}
use Rattle.std.proofs.Math.Bool.{false}
use Rattle.std.specs.Int.Bits.{bit_and}
use borrow.Author.Tests.{eqb-true, eqb-false, eq-eqb, leb-true, le-leb, not-true}
use Rattle.kernel.specs.declared.clock.Clock.{Clock}
use Rattle.kernel.specs.declared.records.Thread.{Thread}
use Rattle.kernel.specs.declared.records.Kernel.{Kernel}
use Rattle.kernel.specs.Numbers.{nobody}
use Rattle.kernel.specs.Moves.{awaited_by}
use Rattle.kernel.specs.Tables.{used_rows, thread_at, counter_at}
use Rattle.kernel.specs.Units.{frequency_fits}
use Rattle.kernel.specs.Waiters.{is_ready as ready_test, queued_at, call_free}
use Rattle.kernel.specs.Walk.{first_from}
use Rattle.kernel.specs.Words.{word_of, first_of, waiting_at}
use Rattle.kernel.proofs.Cases.{split, same_or, in-or-out, contrary, both_true, both-means}
use Rattle.kernel.proofs.TablesLaws.{thread-blank, used_all as rows-used}
use Rattle.kernel.proofs.WaitersLaws.{first_walk}
use Rattle.kernel.proofs.WalkLaws.{first-cases}
use Rattle.library.specs.declared.sizes.Sizes.{Sizes}
use Rattle.library.specs.declared.tables.Plant.{Plant}
use Rattle.library.specs.declared.tables.Tables.{Tables}
use Rattle.library.specs.Sizes.{sizes_fit, slots_at}
use Rattle.library.specs.Tables.{opened, mailbox_at}
use Rattle.library.proofs.RingLaws.{fit-means, fit_of}
use Rattle.rules.specs.Limits.{first_bad}
use Rattle.rules.specs.RowRules.{wait_state, call_fits, wait_fits, ticks_fit, awaited_fit, none_pending, flags_fit, cause_fits, row_fits}
use Rattle.rules.specs.PlaceRules.{in_use, counter_fits, place_agrees, queued_count}
use Rattle.rules.specs.ReferenceRules.{holder_fits}
use Rattle.rules.specs.MailboxRules.{mailbox_fits}
use Rattle.rules.specs.PoolRules.{pool_agrees, promised_count}
use Rattle.rules.specs.WordRules.{ready_word, waiting_word, ready_fits, word_agrees}
use Rattle.rules.specs.Finding.{wholly, row_keeps, bad_row, bad_at}
use Rattle.promises.specs.Paper.World.{World, found, no_answer, First}
use Rattle.promises.specs.Paper.Together.{SizesFit, CallFits, WaitFits, TicksFit, AwaitedFit, number, is_queued, SemaphoreFits, QueueFits}
use Rattle.promises.specs.Paper.Together.{PositionsFit, is_promised, PoolFits, is_ready, InUse, WordOf}
use Rattle.promises.specs.Paper.Broken.{HolderFits, BreaksRule}
use Rattle.promises.specs.Together.Tests.{not-of, used_all}
use Rattle.promises.specs.Together.Good.{GoodSizes}
use Rattle.promises.specs.Together.RowTests.{row-good, good-row, parts, waits-of, nowhere-of, no-ticks-of, ticks-of, neither, none-pending-of, of-waits, of-ticks, of-met}
use Rattle.promises.specs.Together.PlaceTests as places
use Rattle.promises.specs.Together.BoxTests.{pool-good, good-pool}
use Rattle.promises.specs.Kept.WordRule.{walk-tells, tells-walk}
use Rattle.promises.specs.Meant.Only.{first-only}
use Rattle.promises.specs.Meant.Sizes.{fit-limits, limits-fit}
use Rattle.promises.specs.Meant.Together as rules
use Rattle.promises.specs.Meant.Words.{used-test, test-used, bit-one}

-- ---- a test and what it says

-- what does not hold is not passed, and what is not passed does not hold
fails : {A : Type 0} (b : Bool) → (b ≡ true) ↔ A → (A → ⊥) → b ≡ false
fails b exactly n = split b (λ e. absurd (n (exactly.0 e))) (λ e. e)

lacks : {A : Type 0} {b : Bool} → (b ≡ true) ↔ A → b ≡ false → A → ⊥
lacks exactly e a = contrary (exactly.1 a) e

-- ---- the first row that breaks a rule

-- r is the first of the rows that break a rule, or nobody
pub data FirstIn (B : ℕ → Type 0) (r : ℕ) : Type 0 where
  some : r < 255 → B r → ((j : ℕ) → j < r → B j → ⊥) → FirstIn B r
  none : r ≡ nobody → ((j : ℕ) → B j → ⊥) → FirstIn B r

-- a search for the first row that fails a test finds it, if the test fails just in the rows that break the rule
first-bad : (B : ℕ → Type 0) (f : ℕ → Bool) (n : ℕ) → n ≤ 36 → ((j : ℕ) → j < n → f j ≡ false → B j)
    → ((j : ℕ) → B j → (j < n) × (f j ≡ false)) → FirstIn B (first_bad f n)
first-bad B f n few breaks back =
    elim (first-cases (λ i. not (f i)) n) [
      | inl x ↦ FirstIn.some (omega (arith, x.below)) (breaks (first_bad f n) x.below (not-true (f (first_bad f n)) x.passes))
          (λ j l b. contrary (not-of (back j b).1) (x.least j l))
      | inr x ↦ FirstIn.none x.0 (λ j b. contrary (not-of (back j b).1) (x.1 j (back j b).0))
    ]

-- a rule that says A of each of n rows
first-of : (B A : ℕ → Type 0) (f : ℕ → Bool) (n : ℕ) → n ≤ 36 → ((j : ℕ) → j < n → (f j ≡ true) ↔ A j)
    → ((j : ℕ) → j < n → (A j → ⊥) → B j) → ((j : ℕ) → B j → (j < n) × (A j → ⊥)) → FirstIn B (first_bad f n)
first-of B A f n few exactly breaks back =
    first-bad B f n few (λ j l e. breaks j l (lacks (exactly j l) e))
    (λ j b. let x = back j b in (x.0, fails (f j) (exactly j x.0) x.1))

-- a rule about the tables as a whole
first-wholly : (B : ℕ → Type 0) (A : Type 0) (b : Bool) → (b ≡ true) ↔ A → ((A → ⊥) → B 0) → ((j : ℕ) → B j → A → ⊥) → FirstIn B (wholly b)
first-wholly B A b exactly breaks back =
    split b (λ e. rw e (FirstIn.none refl (λ j x. back j x (exactly.0 e))))
    (λ e. rw e (FirstIn.some (omega arith) (breaks (lacks exactly e)) (λ j l x. absurd (omega arith))))

-- ---- a thread's record, rule by rule

module _ (z : Sizes) (s : GoodSizes z) (t : Thread) where
  ticks-exactly : (ticks_fit t ≡ true) ↔ TicksFit t
  ticks-exactly = (
    λ e.
        rules.ticks-fit z t (λ h. no-ticks-of z t e (rw h)) (λ h. no-ticks-of z t e (split (ready_test t) (λ r. rw r) (λ r. rw (r, h))))
        (λ n h. ticks-of z t e (neither z t n h)),
    λ f. of-ticks z t (rules.no-ticks z t f) (rules.some-ticks z t f),
  )

  -- a ready record in this call, which is right in all else
  abbrev in-call : Thread
  in-call =
      record {
        state = 0;
        place = 0;
        remaining = 0;
        pending = 0;
        awaited = awaited_by t.call;
        message = pos 0;
        call = t.call;
        answer = no_answer;
        cause = 0;
        step = 0;
      }

  call-exactly : (call_fits t z ≡ true) ↔ CallFits z t.call
  unfolding row_fits call_fits wait_fits ticks_fit flags_fit
  call-exactly = (
    λ e.
        (rules.thread-fits z in-call
        (row-good z in-call
        (both_true e (both_true refl (both_true refl (both_true (both_true (eq-eqb (awaited_by t.call) (awaited_by t.call) refl) refl) refl)))))
        s).call,
    λ f.
        (parts z in-call
        (good-row z in-call
        (rules.good-thread z in-call
        (record {
          call = f;
          wait = WaitFits.ready refl refl;
          ticks = TicksFit.none (inl refl) refl;
          awaited = rules.awaited-fit z in-call refl;
          none-pending = λ e. absurd (omega (arith, e));
          cause = omega arith;
        })
        s))
        ).0,
  )

  wait-exactly : CallFits z t.call → (wait_fits t ≡ true) ↔ WaitFits t
  wait-exactly call = (
    λ e.
        rules.wait-fits z t call s (nowhere-of z t e)
        (λ n. let x = waits-of z t e n in record { call = λ h. n (x.0 ∙ ap wait_state h); state = x.0; place = x.1 }),
    λ f. of-waits z t (rules.rests z t f) (λ n. let u = rules.unready z t call s f n in (u.state, u.place)),
  )

  awaited-exactly : (awaited_fit t ≡ true) ↔ AwaitedFit t
  awaited-exactly = (
    λ e. rules.awaited-fit z t (eqb-true t.awaited (awaited_by t.call) e),
    λ f. eq-eqb t.awaited (awaited_by t.call) (rules.awaited z t f),
  )

  pending-exactly : (none_pending t ≡ true) ↔ (t.state ≡ 4 → bit_and t.pending t.awaited ≡ 0)
  pending-exactly = (none-pending-of z t, λ f. not-of (of-met z t f))

  cause-exactly : (cause_fits t ≡ true) ↔ (t.cause ≤ 8)
  cause-exactly = (leb-true t.cause 8, le-leb t.cause 8)

-- ---- the rules by their numbers

module _ (t : Tables) (c : Clock) where
  abbrev p : Plant
  p = opened t

  abbrev k : Kernel
  k = (opened t).kernel

  abbrev z : Sizes
  z = t.sizes

  abbrev n : ℕ
  n = t.sizes.threads

  abbrev w : World
  w = found t

  -- the first row that breaks a rule is the one that the search finds
  abbrev pub RuleFound : ℕ → Type 0
  RuleFound rule = FirstIn (BreaksRule t c rule) (bad_at p c rule)

  pub sizes-rule : RuleFound 1
  unfolding bad_at
  sizes-rule = first-wholly (BreaksRule t c 1) (SizesFit z) (sizes_fit z) (fit-limits z, limits-fit z) BreaksRule.sizes back
    where
      back : (j : ℕ) → BreaksRule t c 1 j → SizesFit z → ⊥
      back j (BreaksRule.sizes m) = m

  pub frequency-rule : RuleFound 2
  unfolding bad_at
  frequency-rule =
      first-wholly (BreaksRule t c 2) ((1 ≤ c.frequency) × (c.frequency ≤ 1000000)) (frequency_fits c.frequency) (
        λ e.
            let x = both-means (leb 1 c.frequency) (leb c.frequency 1000000) e in
            (leb-true 1 c.frequency x.0, leb-true c.frequency 1000000 x.1),
        λ h. both_true (le-leb 1 c.frequency h.0) (le-leb c.frequency 1000000 h.1),
      )
      BreaksRule.frequency back
    where
      back : (j : ℕ) → BreaksRule t c 2 j → (1 ≤ c.frequency) × (c.frequency ≤ 1000000) → ⊥
      back j (BreaksRule.frequency m) = m

  -- what comes after the sizes is asked of tables whose sizes are right
  module _ (s : GoodSizes z) where
    -- ---- 3: counters

    semaphore-exactly : (q : ℕ) → q < 20
        → (counter_fits q (counter_at k q) (queued_count k n q) ≡ true) ↔ SemaphoreFits (w.counter q) (number (is_queued w q) n)
    semaphore-exactly q h = (
      λ e. rules.at-semaphore t c s q q refl (places.semaphore-of q (counter_at k q) (queued_count k n q) h e),
      λ f. places.of-semaphore q (counter_at k q) (queued_count k n q) h (rules.of-semaphore t c s q q refl f),
    )

    queue-exactly : (q : ℕ) → 20 ≤ q
        → (counter_fits q (counter_at k q) (queued_count k n q) ≡ true) ↔ QueueFits (w.counter q) (number (is_queued w q) n)
    queue-exactly q h = (
      λ e. rules.at-queue t c s q q refl (places.queue-of q (counter_at k q) (queued_count k n q) h e),
      λ f. places.of-queue q (counter_at k q) (queued_count k n q) h (rules.of-queue t c s q q refl f),
    )

    pub counters-rule : RuleFound 3
    unfolding bad_at
    counters-rule = first-bad (BreaksRule t c 3) (place_agrees k z) 36 (omega arith) breaks back
      where
        unfits : ℕ → Type 0
        unfits q = counter_fits q (counter_at k q) (queued_count k n q) ≡ false

        by_place : (j : ℕ) → InUse z j → unfits j → BreaksRule t c 3 j
        by_place j (InUse.semaphore l) e = BreaksRule.semaphore j l (lacks (semaphore-exactly j (omega (arith, s.semaphores))) e)
        by_place j (InUse.pool q l x) e =
            subst (BreaksRule t c 3) (sym x)
            (BreaksRule.pool-counter q l (lacks (semaphore-exactly (16 + q) (omega (arith, s.pools))) (subst unfits x e)))
        by_place j (InUse.queue q l x) e =
            subst (BreaksRule t c 3) (sym x) (BreaksRule.queue q l (lacks (queue-exactly (20 + q) (omega arith)) (subst unfits x e)))
        by_place j (InUse.writers m l x) e =
            subst (BreaksRule t c 3) (sym x) (BreaksRule.writers m l (lacks (queue-exactly (28 + m) (omega arith)) (subst unfits x e)))
        by_place j (InUse.readers m l x) e =
            subst (BreaksRule t c 3) (sym x) (BreaksRule.readers m l (lacks (queue-exactly (32 + m) (omega arith)) (subst unfits x e)))

        breaks : (j : ℕ) → j < 36 → place_agrees k z j ≡ false → BreaksRule t c 3 j
        breaks j h e = split (in_use z j) (λ u. by_place j (test-used k z s j u) (rw u at e)) (λ u. contrary refl (rw u at e))

        at : (j : ℕ) → InUse z j → unfits j → (j < 36) × (place_agrees k z j ≡ false)
        at j used e = let u = used-test k z s j used in (u.0, rw u.1 e)

        back : (j : ℕ) → BreaksRule t c 3 j → (j < 36) × (place_agrees k z j ≡ false)
        back j (BreaksRule.semaphore i l m) =
            at i (InUse.semaphore l) (fails (counter_fits i (counter_at k i) (queued_count k n i)) (semaphore-exactly i (omega (arith, s.semaphores))) m)
        back j (BreaksRule.pool-counter q l m) =
            at (16 + q) (InUse.pool q l refl)
            (fails (counter_fits (16 + q) (counter_at k (16 + q)) (queued_count k n (16 + q))) (semaphore-exactly (16 + q) (omega (arith, s.pools))) m)
        back j (BreaksRule.queue q l m) =
            at (20 + q) (InUse.queue q l refl)
            (fails (counter_fits (20 + q) (counter_at k (20 + q)) (queued_count k n (20 + q))) (queue-exactly (20 + q) (omega arith)) m)
        back j (BreaksRule.writers b l m) =
            at (28 + b) (InUse.writers b l refl)
            (fails (counter_fits (28 + b) (counter_at k (28 + b)) (queued_count k n (28 + b))) (queue-exactly (28 + b) (omega arith)) m)
        back j (BreaksRule.readers b l m) =
            at (32 + b) (InUse.readers b l refl)
            (fails (counter_fits (32 + b) (counter_at k (32 + b)) (queued_count k n (32 + b))) (queue-exactly (32 + b) (omega arith)) m)

    -- ---- 4 to 6: references, mailboxes, pools

    pub references-rule : RuleFound 4
    unfolding bad_at
    references-rule =
        rw (used_all 8 z.references s.references)
        (first-of (BreaksRule t c 4) (HolderFits w) (holder_fits k n) z.references (omega (arith, s.references))
        (λ r l. (places.holder-of k z s r, λ f. places.of-holder k z s r f.0 f.1)) BreaksRule.reference back)
      where
        back : (j : ℕ) → BreaksRule t c 4 j → (j < z.references) × (HolderFits w j → ⊥)
        back j (BreaksRule.reference r l m) = (l, m)

    pub mailboxes-rule : RuleFound 5
    unfolding bad_at
    mailboxes-rule =
        rw (used_all 4 z.mailboxes s.mailboxes)
        (first-of (BreaksRule t c 5) (λ m. PositionsFit (w.box m).positions (slots_at z m)) (mailbox_fits p.mailboxes z) z.mailboxes
        (omega (arith, s.mailboxes))
        (λ m l. (
          λ e. rules.fit-paper (fit-means (mailbox_at p m).positions (slots_at z m) e),
          λ f. fit_of (mailbox_at p m).positions (slots_at z m) (rules.paper-fit f),
        ))
        BreaksRule.mailbox back)
      where
        back : (j : ℕ) → BreaksRule t c 5 j → (j < z.mailboxes) × (PositionsFit (w.box j).positions (slots_at z j) → ⊥)
        back j (BreaksRule.mailbox m l x) = (l, x)

    pool-exactly : (q : ℕ) → q < z.pools
        → (pool_agrees p q ≡ true) ↔ PoolFits (w.pool q) (w.counter (16 + q)) (number (is_promised w q) n)
    pool-exactly q l =
        rw (rules.pool-at t c s q l, rules.promised-are t c s q) (
          λ e. rules.pool-fits (w.pool q) (w.counter (16 + q)) (promised_count k n q) (pool-good (w.pool q) (w.counter (16 + q)) (promised_count k n q) e),
          λ f. good-pool (w.pool q) (w.counter (16 + q)) (promised_count k n q) (rules.fits-pool (w.pool q) (w.counter (16 + q)) (promised_count k n q) f),
        )

    pub pools-rule : RuleFound 6
    unfolding bad_at
    pools-rule =
        rw (used_all 4 z.pools s.pools)
        (first-of (BreaksRule t c 6) (λ q. PoolFits (w.pool q) (w.counter (16 + q)) (number (is_promised w q) n)) (pool_agrees p) z.pools
        (omega (arith, s.pools)) pool-exactly BreaksRule.pool back)
      where
        back : (j : ℕ) → BreaksRule t c 6 j
            → (j < z.pools) × (PoolFits (w.pool j) (w.counter (16 + j)) (number (is_promised w j) n) → ⊥)
        back j (BreaksRule.pool q l x) = (l, x)

    -- ---- 7 to 11 and 15: the threads' records

    row-rule : (rule : ℕ) (A : ℕ → Type 0) → ((i : ℕ) → i < n → (row_keeps z rule (thread_at k i) ≡ true) ↔ A i)
        → ((i : ℕ) → i < n → (A i → ⊥) → BreaksRule t c rule i) → ((j : ℕ) → BreaksRule t c rule j → (j < n) × (A j → ⊥))
        → FirstIn (BreaksRule t c rule) (bad_row k.threads z rule)
    row-rule rule A exactly breaks back =
        rw (rows-used n s.threads.1)
        (first-of (BreaksRule t c rule) A (λ i. row_keeps z rule (thread_at k i)) n (omega (arith, s.threads.1)) exactly breaks back)

    pub ticks-rule : RuleFound 7
    unfolding bad_at
    ticks-rule = row-rule 7 (λ i. TicksFit (w.thread i)) (λ i l. ticks-exactly z s (thread_at k i)) BreaksRule.ticks back
      where
        back : (j : ℕ) → BreaksRule t c 7 j → (j < n) × (TicksFit (w.thread j) → ⊥)
        back j (BreaksRule.ticks i l m) = (l, m)

    pub call-rule : RuleFound 8
    unfolding bad_at
    call-rule = row-rule 8 (λ i. CallFits z (w.thread i).call) (λ i l. call-exactly z s (thread_at k i)) BreaksRule.call back
      where
        back : (j : ℕ) → BreaksRule t c 8 j → (j < n) × (CallFits z (w.thread j).call → ⊥)
        back j (BreaksRule.call i l m) = (l, m)

    -- where no call breaks its rule, each fits
    calls-fit : ((j : ℕ) → BreaksRule t c 8 j → ⊥) → (i : ℕ) → i < n → CallFits z (w.thread i).call
    calls-fit kept i l =
        split (call_fits (thread_at k i) z) (call-exactly z s (thread_at k i)).0
        (λ e. absurd (kept i (BreaksRule.call i l (lacks (call-exactly z s (thread_at k i)) e))))

    pub wait-rule : ((j : ℕ) → BreaksRule t c 8 j → ⊥) → RuleFound 9
    unfolding bad_at
    wait-rule kept =
        row-rule 9 (λ i. WaitFits (w.thread i)) (λ i l. wait-exactly z s (thread_at k i) (calls-fit kept i l)) BreaksRule.wait back
      where
        back : (j : ℕ) → BreaksRule t c 9 j → (j < n) × (WaitFits (w.thread j) → ⊥)
        back j (BreaksRule.wait i l m) = (l, m)

    pub awaited-rule : RuleFound 10
    unfolding bad_at
    awaited-rule = row-rule 10 (λ i. AwaitedFit (w.thread i)) (λ i l. awaited-exactly z s (thread_at k i)) BreaksRule.awaited back
      where
        back : (j : ℕ) → BreaksRule t c 10 j → (j < n) × (AwaitedFit (w.thread j) → ⊥)
        back j (BreaksRule.awaited i l m) = (l, m)

    pub pending-rule : RuleFound 11
    unfolding bad_at
    pending-rule =
        row-rule 11 (λ i. (w.thread i).state ≡ 4 → bit_and (w.thread i).pending (w.thread i).awaited ≡ 0)
        (λ i l. pending-exactly z s (thread_at k i))
        (λ i l m.
        same_or (w.thread i).state 4 (λ e. BreaksRule.pending i l e (λ x. m (λ h. x))) (λ d. absurd (m (λ e. absurd (d e))))) back
      where
        back : (j : ℕ) → BreaksRule t c 11 j
            → (j < n) × (((w.thread j).state ≡ 4 → bit_and (w.thread j).pending (w.thread j).awaited ≡ 0) → ⊥)
        back j (BreaksRule.pending i l e m) = (l, λ f. m (f e))

    pub cause-rule : RuleFound 15
    unfolding bad_at
    cause-rule =
        row-rule 15 (λ i. (w.thread i).cause ≤ 8) (λ i l. cause-exactly z s (thread_at k i))
        (λ i l m. in-or-out 8 (w.thread i).cause (BreaksRule.cause i l) (λ h. absurd (m h))) back
      where
        back : (j : ℕ) → BreaksRule t c 15 j → (j < n) × ((w.thread j).cause ≤ 8 → ⊥)
        back j (BreaksRule.cause i l m) = (l, λ h. omega arith)

    -- ---- 12: the running thread

    -- the walk's word names the first that is ready
    walk_first : first_of (ready_word k n) ≡ first_from (λ i. ready_test (thread_at k i)) 0 n
    unfolding ready_word
    walk_first = first_walk k n s.threads.1 ready_test (ready_word k n) (walk-tells k z s ready_test (ready_word k n) refl)

    pub running-rule : length t.kernel.threads ≡ 16 → RuleFound 12
    unfolding bad_at
    running-rule rows =
        rw walk_first
        (elim (first-cases (λ i. ready_test (thread_at k i)) n) [
          | inl x ↦ thread (first_from (λ i. ready_test (thread_at k i)) 0 n) (record {
            thread = x.below;
            is-ready = eqb-true (w.thread (first_from (λ i. ready_test (thread_at k i)) 0 n)).state 0 x.passes;
            first = λ j l. eqb-false (w.thread j).state 0 (x.least j l);
          })
          | inr x ↦ rw (x.0, thread-blank k 255 (omega (arith, rows)))
              (FirstIn.none refl (λ j b. idle (λ i l. eqb-false (w.thread i).state 0 (x.1 i l)) j b))
        ])
      where
        thread : (r : ℕ) → First w r → FirstIn (BreaksRule t c 12) (cond (call_free k.threads r) nobody r)
        thread r f =
            split (call_free k.threads r)
            (λ e. rw e (FirstIn.none refl (free (eqb-true (w.thread r).call.kind 0 e))))
            (λ e. rw e (FirstIn.some (omega (arith, f.thread, s.threads.1)) (BreaksRule.running r f (eqb-false (w.thread r).call.kind 0 e)) one))
          where
            free : (w.thread r).call.kind ≡ 0 → (j : ℕ) → BreaksRule t c 12 j → ⊥
            free e j (BreaksRule.running i g m) = m (ap (λ (x : ℕ). (w.thread x).call.kind) (first-only w i r g f) ∙ e)

            one : (j : ℕ) → j < r → BreaksRule t c 12 j → ⊥
            one j l (BreaksRule.running i g m) = f.first i l g.is-ready

        idle : ((i : ℕ) → i < n → (w.thread i).state ≢ 0) → (j : ℕ) → BreaksRule t c 12 j → ⊥
        idle asleep j (BreaksRule.running i g m) = asleep i g.thread g.is-ready

    -- ---- 13 and 14: the words

    word-exactly : (test : Thread → Bool) (m : ℕ)
        → (eqb m (word_of (λ i. test (thread_at k i)) (used_rows n)) ≡ true) ↔ WordOf (λ i. test (thread_at k i)) n m
    word-exactly test m = (
      λ e i.
          walk-tells k z s test m (eqb-true m (word_of (λ i. test (thread_at k i)) (used_rows n)) e) i
          ∙ bit-one (ltb i n && test (thread_at k i)),
      λ f.
          eq-eqb m (word_of (λ i. test (thread_at k i)) (used_rows n))
          (tells-walk k z s test m (λ i. f i ∙ sym (bit-one (ltb i n && test (thread_at k i))))),
    )

    pub ready-rule : RuleFound 13
    unfolding bad_at ready_fits ready_word
    ready-rule =
        first-wholly (BreaksRule t c 13) (WordOf (is_ready w) n t.kernel.words.ready) (ready_fits k n) (word-exactly ready_test k.words.ready)
        BreaksRule.ready-word back
      where
        back : (j : ℕ) → BreaksRule t c 13 j → WordOf (is_ready w) n t.kernel.words.ready → ⊥
        back j (BreaksRule.ready-word m) = m

    pub waiting-rule : RuleFound 14
    unfolding bad_at waiting_word
    waiting-rule = first-bad (BreaksRule t c 14) (word_agrees k z) 36 (omega arith) breaks back
      where
        breaks : (j : ℕ) → j < 36 → word_agrees k z j ≡ false → BreaksRule t c 14 j
        breaks j h e =
            split (in_use z j)
            (λ u. BreaksRule.waiting-word j (test-used k z s j u) (lacks (word-exactly (queued_at j) (waiting_at k.words j)) (rw u at e)))
            (λ u. contrary refl (rw u at e))

        back : (j : ℕ) → BreaksRule t c 14 j → (j < 36) × (word_agrees k z j ≡ false)
        back j (BreaksRule.waiting-word q used m) =
            let u = used-test k z s q used in
            (u.0, rw u.1 (fails (eqb (waiting_at k.words q) (waiting_word k n q)) (word-exactly (queued_at q) (waiting_at k.words q)) m))
