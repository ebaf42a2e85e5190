-- What signals answer. A call that finishes at once keeps its answer, for settling continues unfinished calls alone; and none of these touches
-- the counter of a semaphore. At the top nobody is woken, so that there is nothing to settle.
use Rattle.std.specs.Prelude.{ℕ, ◌+◌, ◌/◌, ◌%◌, ◌^◌, ◌≤◌, ◌<◌, ◌≡◌, ◌≢◌, ◌⊎◌, Bool, true, cond, eqb, ℤ, pos, ◌+ℤ◌}
use Rattle.std.proofs.Common.{arith, ◌∙◌, inl, inr, eq-eqb, ne_eqb}
use Rattle.std.proofs.Math.Path.{refl, sym, ap, subst}
use Rattle.std.proofs.Math.Bool.{false}
use Rattle.std.specs.Int.Signed.{lt_z}
use Rattle.kernel.specs.declared.clock.Clock.{Clock}
use Rattle.kernel.specs.declared.records.Answer.{Answer}
use Rattle.kernel.specs.declared.records.Call.{Call}
use Rattle.kernel.specs.declared.records.Kernel.{Kernel}
use Rattle.kernel.specs.declared.records.Thread.{Thread}
use Rattle.kernel.specs.Moves.{finished}
use Rattle.kernel.specs.Semaphore.{signalled}
use Rattle.kernel.specs.Tables.{thread_at, counter_at}
use Rattle.kernel.proofs.Cases.{split, same_or, contrary}
use Rattle.kernel.proofs.CountersLaws.{top-not-below}
use Rattle.kernel.proofs.MovesLaws.{finish-interrupt}
use Rattle.kernel.proofs.SemaphoreLaws.{signal-top}
use Rattle.kernel.proofs.TablesLaws.{thread-blank}
use Rattle.library.specs.declared.calls.Step.{Step}
use Rattle.library.specs.declared.tables.Plant.{Plant}
use Rattle.library.specs.declared.tables.Tables.{Tables}
use Rattle.library.specs.Acting.{acted}
use Rattle.library.specs.Settling.{running_in}
use Rattle.library.specs.Tables.{closed, with_kernel}
use Rattle.steps.specs.declared.stepping.Stepped.{Stepped}
use Rattle.steps.specs.Stepping.{budget_of, outcome_of, done_with, started, stepped}
use Rattle.promises.specs.Paper.World.{World, found, no_call, ended, First, Running}
use Rattle.promises.specs.Paper.Host.{Host}
use Rattle.promises.specs.Paper.Rows.{Signal, BinarySignal, Waits, Release, Post, Fetch, Act}
use Rattle.promises.specs.Paper.Settling.{Continued}
use Rattle.promises.specs.Paper.Step.{ResultOf}
use Rattle.promises.specs.Paper.Waking.{row_of, in_mask}
use Rattle.promises.specs.Paper.Signals.{AnswersWith, risen_in, answered_in, AtTop, Counts, SignalTold}
use Rattle.promises.specs.Kept.Whole.{Whole, whole-good}
use Rattle.promises.specs.Meant.Kinds.{rows}
use Rattle.promises.specs.Meant.Settling.{settle-stops}
use Rattle.promises.specs.Meant.Moves.{world_of}
use Rattle.promises.specs.Meant.Calls.{sized}
use Rattle.promises.specs.Meant.Step.{settled-keeps, result-is, running-is, h, hangs, acted-whole, settled-whole, own}
use Rattle.promises.specs.Runs.Answers.{step-done}
use Rattle.promises.specs.Runs.Keeping.{put_same, put_other, KeepsOn}
use Rattle.promises.specs.Runs.OneRow.{ended-own, ended-finished, ended-state, mail-other, Stands, Steady, RowOn, row_on}
use Rattle.promises.specs.Runs.Accepted.{accepted, together, caller-first, semaphore-there, someone, x₀, act}
use Rattle.promises.specs.Runs.OneStep.{bit_in, act-step, settle-keeps}
use Rattle.promises.specs.Runs.GoingOn.{first-stays}

-- ---- what a continued call leaves of the counters of semaphores and pools

module _ (p : ℕ) (near : p < 20) where
  release-counter : {w x : World} {q : ℕ} {m : ℤ} {o : ℕ} → q ≢ p → Release w q m o x → x.counter p ≡ w.counter p
  release-counter {w} d (Release.first i h e) =
      ap (λ (y : World). y.counter p) e
      ∙ rw (h.waits.0, h.waits.1) (put_other w.counter _ p _ (λ z. d (sym z)))
  release-counter d (Release.nobody h e) = ap (λ (y : World). y.counter p) e

  waits-counter : {w x : World} {i q : ℕ} {c : Call} → q ≢ p → Waits w i 3 q c x → x.counter p ≡ w.counter p
  waits-counter d (Waits.now a e) = ap (λ (y : World). y.counter p) e
  waits-counter {w} {q = q} d (Waits.later a e) = ap (λ (y : World). y.counter p) e ∙ put_other w.counter q p _ (λ z. d (sym z))

  far : (n o : ℕ) → 20 ≤ n → n + o ≢ p
  far n o l e = omega arith

  post-counter : {w x : World} {i : ℕ} {c : Call} → Post w i c x → x.counter p ≡ w.counter p
  post-counter (Post.in-reset a e) = ap (λ (y : World). y.counter p) e
  post-counter {c = c} (Post.behind a l b v r e) = ap (λ (y : World). y.counter p) e ∙ release-counter (far 32 c.object (omega arith)) r
  post-counter {c = c} (Post.ahead a l b v r e) = ap (λ (y : World). y.counter p) e ∙ release-counter (far 32 c.object (omega arith)) r
  post-counter {c = c} (Post.no_room a l r) = waits-counter (far 28 c.object (omega arith)) r

  fetch-counter : {w x : World} {i : ℕ} {c : Call} → Fetch w i c x → x.counter p ≡ w.counter p
  fetch-counter (Fetch.in-reset a e) = ap (λ (y : World). y.counter p) e
  fetch-counter {c = c} (Fetch.message a l v r e) = ap (λ (y : World). y.counter p) e ∙ release-counter (far 28 c.object (omega arith)) r
  fetch-counter {c = c} (Fetch.no-message a l r) = waits-counter (far 32 c.object (omega arith)) r

  continued-counter : {w x : World} {i : ℕ} → Continued w i x → x.counter p ≡ w.counter p
  continued-counter (Continued.flags k m e) = ap (λ (y : World). y.counter p) e
  continued-counter (Continued.posts k m r) = post-counter r
  continued-counter (Continued.fetches k m r) = fetch-counter r
  continued-counter (Continued.takes k m e) = ap (λ (y : World). y.counter p) e
  continued-counter (Continued.answers k e) = ap (λ (y : World). y.counter p) e

-- ---- a signal

-- who is ready stays so
signal-ready : {w x : World} {p : ℕ} {b : Bool} (i : ℕ) → Signal w p x b → (w.thread i).state ≡ 0 → (x.thread i).state ≡ 0
signal-ready i (Signal.raises a l e) z = ap (λ (y : World). (y.thread i).state) e ∙ z
signal-ready {w} i (Signal.wakes a k f e) z =
    ap (λ (y : World). (y.thread i).state) e
    ∙ same_or i k (λ d. rw (d, eq-eqb k k refl)) (λ d. ap (λ (u : Thread). u.state) (put_other w.thread k i _ d) ∙ z)
signal-ready i (Signal.at_top a e) z = ap (λ (y : World). (y.thread i).state) e ∙ z

binary-ready : {w x : World} {p : ℕ} (i : ℕ) → BinarySignal w p x → (w.thread i).state ≡ 0 → (x.thread i).state ≡ 0
binary-ready i (BinarySignal.signals a b r) z = signal-ready i r z
binary-ready i (BinarySignal.nothing a e) z = ap (λ (y : World). (y.thread i).state) e ∙ z

-- "counter +1"
signal-counter : {w x : World} {p : ℕ} → Signal w p x true → x.counter p ≡ w.counter p +ℤ pos 1
signal-counter {w} {p = p} (Signal.raises a l e) = ap (λ (y : World). y.counter p) e ∙ put_same w.counter p _
signal-counter {w} {p = p} (Signal.wakes a k f e) =
    ap (λ (y : World). y.counter p) e ∙ rw (f.waits.0, f.waits.1) (put_same w.counter p _)

-- below the top it counts, and at the top not
signal-counts : {w x : World} {p : ℕ} {b : Bool} → Signal w p x b → b ≡ lt_z (w.counter p) (pos 2147483647)
signal-counts (Signal.raises a l e) = sym l
signal-counts {w} {p = p} (Signal.wakes a k f e) =
    split (lt_z (w.counter p) (pos 2147483647)) (λ l. sym l) (λ l. contrary a (top-not-below (w.counter p) l))
signal-counts (Signal.at_top a e) = sym a

-- which the meaning says too
uncounted : (k : Kernel) (p : ℕ) → lt_z (counter_at k p) (pos 2147483647) ≡ false → (signalled k p).counted ≡ false
unfolding signalled
uncounted k p e = e

-- at the top it leaves all
signal-leaves : {w x : World} {p : ℕ} → Signal w p x false → x ≡ w
signal-leaves (Signal.at_top a e) = e

-- ---- one accepted step

module _ (t : Tables) (c : Clock) (s : Step) (host : Host t c s) (e : (stepped t c s).outcome.code ≡ 0) where
  abbrev j : ℕ
  j = s.caller

  caller-ready : j ≢ 255 → ((found t).thread j).state ≡ 0
  caller-ready z = (caller-first t c s host e z).is-ready

  -- the row that the step is
  abbrev Acts : ℕ → Type 0
  Acts = Act t c.time s (x₀ t c s host e)

  -- what it has made of the tables, before it settles and after
  whole : Whole (acted (started t s) c.time s).sizes (acted (started t s) c.time s)
  whole = own t c s host (accepted t c s host e) (acted-whole t c s host (accepted t c s host e))

  res : ResultOf (world_of (h t c s host)) j (outcome_of (h t c s host).kernel j)
  res = result-is (h t c s host) (settled-whole t c s host (accepted t c s host e)) j

  -- ---- a call that finished at once

  -- of the record and the bits of a thread whose call has ended with a
  record Done (a : Answer) (r : Thread) (w f : Bool) : Type 0 where
    is-ready : r.state ≡ 0
    no-call : r.call.kind ≡ 0
    answer : r.answer ≡ a
    finished : f ≡ true

  module _ (a : Answer) where
    -- settling leaves it: such a call is neither woken nor continued
    done_on : (z : j ≢ 255) → RowOn t s j z (Done a)
    done_on z =
        record {
          wakes = λ m o n b d. absurd (n d.is-ready);
          ends_on = λ m b r n g d. absurd (n d.no-call);
          takes-on = λ r k m d. absurd (omega (arith, k, d.no-call));
          sleeps-on = λ q r b m g u d. absurd ((mail-other b).1 d.no-call);
        }

    -- an interrupt's answer stays too
    told-on : KeepsOn t s (λ w. w.answer ≡ a)
    told-on =
        record {
          moves = record { counter = λ w p b d. d; box = λ w b x d. d; pool = λ w q x d. d; wakes = λ w i m o n b d. d };
          ends_on = λ w r m b l z n g d. rw (ne_eqb r 255 (someone t c s host e r l)) d;
          takes-on = λ w r l z k m d. rw (ne_eqb r 255 (someone t c s host e r l)) d;
          sleeps-on = λ w r q l z b m g u d. d;
        }

  -- WHAT A CALL THAT FINISHES AT ONCE ANSWERS
  pub answers_with : (m : ℤ) (v : World) → x₀ t c s host e ≡ ended v j m 0 → (j ≢ 255 → (v.thread j).state ≡ 0) → AnswersWith s (stepped t c s) m
  unfolding done_with outcome_of
  answers_with m v x is-ready =
      subst (λ (q : Stepped). AnswersWith s q m) (sym (step-done t c s e)) (same_or j 255 interrupt thread)
    where
      a : Answer
      a = record { message = m; datum = 0 }

      w : World
      w = world_of (h t c s host)

      interrupt : j ≡ 255 → AnswersWith s (done_with (h t c s host) c s) m
      interrupt z =
          let kept : w.answer ≡ a = settle-keeps t c s host e (λ u. u.answer ≡ a) (told-on a) (ap (λ (y : World). y.answer) x ∙ rw z) in
          record {
            message = res.message ∙ rw (eq-eqb j 255 z) (ap (λ (b : Answer). b.message) kept);
            datum = res.datum ∙ rw (eq-eqb j 255 z) (ap (λ (b : Answer). b.datum) kept);
            last = λ n. absurd (n z);
            finished = λ n. absurd (n z);
          }

      thread : j ≢ 255 → AnswersWith s (done_with (h t c s host) c s) m
      thread z =
          let P = Stands t s j z (Done a) in
          let d : P w = (settle-keeps t c s host e (Steady t s j z (Done a)) (row_on t s j z (Done a) (done_on a z)) (act-step t c s host e, subst P (sym x) (begun z))).1 in
          record {
            message = res.message ∙ rw (ne_eqb j 255 z) (ap (λ (b : Answer). b.message) d.answer);
            datum = res.datum ∙ rw (ne_eqb j 255 z) (ap (λ (b : Answer). b.datum) d.answer);
            last = λ n. d.answer;
            finished = λ n. rw (bit_in _ j (w.finished j) (res.finished j)) d.finished;
          }
        where
          begun : (z : j ≢ 255) → Stands t s j z (Done a) (ended v j m 0)
          begun z =
              rw (ended-own v j m 0 z, ended-finished v j m 0 z)
              (record { is-ready = is-ready z; no-call = refl; answer = refl; finished = refl })

  -- ---- at the top

  -- what a step finds, but that its own call has ended with 1 and 0
  abbrev w₁ : World
  w₁ = ended (found t) j (pos 1) 0

  module _ (kind : s.kind ≡ 3) (top : lt_z ((found t).counter s.object) (pos 2147483647) ≡ false) where
    abbrev k : Kernel
    k = (started t s).kernel

    abbrev left : Plant
    left = with_kernel (started t s) (finished k j (pos 1) 0)

    -- the act leaves all else
    acted-top : acted (started t s) c.time s ≡ left
    acted-top = (rows (started t s) c.time s).signal kind ∙ by
      where
        by : with_kernel (started t s) (finished (signalled k s.object).kernel j (cond (signalled k s.object).counted (pos 0) (pos 1)) 0) ≡ left
        by = rw (signal-top k s.object top, uncounted k s.object top)

    act-top : x₀ t c s host e ≡ w₁
    act-top = by (subst Acts kind (act t c s host e))
      where
        by : Acts 3 → x₀ t c s host e ≡ w₁
        by (Act.signal v true r q) = contrary (sym (signal-counts r)) top
        by (Act.signal v false r q) = q ∙ ap (λ (w : World). ended w j (pos 1) 0) (signal-leaves r)

    -- who runs is as before
    same-state : (i : ℕ) → (w₁.thread i).state ≡ ((found t).thread i).state
    same-state = ended-state (found t) j (pos 1) 0

    first-same : {r : ℕ} → First w₁ r → First (found t) r
    first-same {r} f = first-stays w₁ (found t) r refl (λ i. sym (same-state i)) f

    running-same : {r : ℕ} → Running w₁ r → Running (found t) r
    running-same (Running.thread f) = Running.thread (first-same f)
    running-same (Running.idle n z) = Running.idle (λ i l y. n i l (same-state i ∙ y)) z

    -- and has no call to be continued
    quiet : {r : ℕ} → First w₁ r → (w₁.thread r).call.kind ≡ 0
    quiet {r} f =
        let free = (together t c s host e).running r (first-same f) in
        split (eqb j 255) (λ z. rw z free)
        (λ z. rw z (same_or r j (λ y. rw (y, eq-eqb j j refl)) (λ y. rw (ne_eqb r j y) free)))

    settled-top : h t c s host ≡ left
    settled-top =
        let p = acted (started t s) c.time s in
        settle-stops p (budget_of t.sizes.threads)
        (free (subst (λ (w : World). Running w (running_in p)) act-top (running-is p (whole-good p p.sizes whole))))
        ∙ acted-top
      where
        free : {r : ℕ} → Running w₁ r → (thread_at (acted (started t s) c.time s).kernel r).call.kind ≡ 0
        free {r} (Running.thread f) = ap (λ (w : World). (w.thread r).call.kind) act-top ∙ quiet f
        free (Running.idle n z) =
            rw (z, thread-blank (acted (started t s) c.time s).kernel 255 (omega (arith, (sized (acted (started t s) c.time s) whole).threads)))

    -- a calling thread has no call, and awaits nothing
    no-call : j ≢ 255 → ((row_of t j).call ≡ no_call) × ((row_of t j).awaited ≡ 0)
    no-call z =
        let f = caller-first t c s host e z in
        let none = (together t c s host e).running j f in
        let g = (hangs t c s host (accepted t c s host e)).together.good.threads j f.thread in
        let n = g.no-call none in
        (λ x. record { kind = none x; object = n.0 x; operand = n.1.0 x; timeout = n.1.1 x }, g.awaited ∙ rw none)

    left-thread : j ≢ 255 → closed left ≡ answered_in t j (pos 1)
    unfolding finished
    left-thread z =
        let q = no-call z in
        rw (ne_eqb j 255 z, q.0, q.1)

    left-interrupt : j ≡ 255 → closed left ≡ risen_in t
    left-interrupt z = rw (finish-interrupt k j (pos 1) 0 z)

    pub at_top : AtTop t c s (stepped t c s)
    unfolding done_with outcome_of
    at_top =
        record {
          answers = answers_with (pos 1) (found t) act-top caller-ready;
          nobody-woken = λ i. subst (λ (q : Stepped). in_mask i q.outcome.woken ≡ false) (sym (step-done t c s e)) (bit_in _ i false (woken i));
          no-other-finished = λ i n.
              subst (λ (q : Stepped). in_mask i q.outcome.finished ≡ false) (sym (step-done t c s e)) (bit_in _ i false (others i n));
          running =
              subst (λ (q : Stepped). Running (found t) q.outcome.running) (sym (step-done t c s e))
              (running-same (subst (λ (w : World). Running w (outcome_of (h t c s host).kernel j).running) world res.running));
          thread = λ z. ap (λ (q : Stepped). q.tables) (step-done t c s e) ∙ ap closed settled-top ∙ left-thread z;
          interrupt = λ z. ap (λ (q : Stepped). q.tables) (step-done t c s e) ∙ ap closed settled-top ∙ left-interrupt z;
          clock = ap (λ (q : Stepped). q.clock) (step-done t c s e) ∙ rw kind;
        }
      where
        world : world_of (h t c s host) ≡ w₁
        world = ap world_of (settled-top ∙ sym acted-top) ∙ act-top

        woken : (i : ℕ) → (outcome_of (h t c s host).kernel j).woken / 2 ^ i % 2 ≡ 0
        woken i = res.woken i ∙ ap (λ (w : World). cond (w.woken i) 1 0) world

        others : (i : ℕ) → i ≢ j → (outcome_of (h t c s host).kernel j).finished / 2 ^ i % 2 ≡ 0
        others i n =
            res.finished i ∙ ap (λ (w : World). cond (w.finished i) 1 0) world
            ∙ split (eqb j 255) (λ z. rw z) (λ z. rw (z, ne_eqb i j n))

  -- ---- below it

  -- no continued call touches the counter of a semaphore
  counter-after : (p : ℕ) → p < 20 → (found (stepped t c s).tables).counter p ≡ (x₀ t c s host e).counter p
  unfolding done_with
  counter-after p near =
      ap (λ (q : Stepped). (found q.tables).counter p) (step-done t c s e)
      ∙ settled-keeps (λ w. w.counter p ≡ (x₀ t c s host e).counter p) (λ q v i f n x r y. continued-counter p near r ∙ y)
      (budget_of t.sizes.threads) (acted (started t s) c.time s) whole refl

  below_top : Acts 3 → s.object < 20 → lt_z ((found t).counter s.object) (pos 2147483647) ≡ true → Counts t s (stepped t c s)
  below_top (Act.signal v false r q) near low = contrary low (sym (signal-counts r))
  below_top (Act.signal v true r q) near low =
      record {
        answers = answers_with (pos 0) v q (λ z. signal-ready j r (caller-ready z));
        counter = counter-after s.object near ∙ ap (λ (w : World). w.counter s.object) q ∙ signal-counter r;
      }

  -- 5, 21, 22
  binary-answers : Acts 5 → AnswersWith s (stepped t c s) (pos 0)
  binary-answers (Act.binary-signal v r q) = answers_with (pos 0) v q (λ n. binary-ready j r (caller-ready n))

  free-answers : Acts 21 → AnswersWith s (stepped t c s) (pos 0)
  free-answers (Act.free v b r q) = answers_with (pos 0) _ q (λ n. signal-ready j r (caller-ready n))

  add-answers : Acts 22 → AnswersWith s (stepped t c s) (pos 0)
  add-answers (Act.add v b r q) = answers_with (pos 0) _ q (λ n. signal-ready j r (caller-ready n))

  callers-answer : (s.kind ≡ 5) ⊎ (s.kind ≡ 21) ⊎ (s.kind ≡ 22) → AnswersWith s (stepped t c s) (pos 0)
  callers-answer (inl z) = binary-answers (subst Acts z (act t c s host e))
  callers-answer (inr (inl z)) = free-answers (subst Acts z (act t c s host e))
  callers-answer (inr (inr z)) = add-answers (subst Acts z (act t c s host e))

  -- WHAT AN ACCEPTED SIGNAL ANSWERS
  pub signal-is-told : SignalTold t c s (stepped t c s)
  signal-is-told =
      record {
        at_top = at_top;
        counts = λ k.
            below_top (subst Acts k (act t c s host e))
            (omega (arith, (together t c s host e).sizes.semaphores, semaphore-there t c s host e (omega (arith, k)) (omega (arith, k))));
        callers = callers-answer;
      }
