-- One accepted step, of any thread: what it makes of one that slept before it, of one that was ready, and of the flags of each.
use Rattle.std.specs.Prelude.{ℕ, ◌-◌, ◌/◌, ◌%◌, ◌^◌, ◌<◌, ◌≡◌, refl, ◌≢◌, Bool, true, false, cond, pos}
use Rattle.std.proofs.Common.{arith, sym}
use Rattle.std.proofs.Math.Path.{subst}
use borrow.Author.Tests.{eq-eqb, ne_eqb}
use Rattle.kernel.specs.declared.clock.Clock.{Clock}
use Rattle.kernel.specs.declared.records.Thread.{Thread}
use Rattle.kernel.specs.Tables.{thread_at}
use Rattle.kernel.proofs.Cases.{same_or}
use Rattle.library.specs.declared.calls.Step.{Step}
use Rattle.library.specs.declared.tables.Plant.{Plant}
use Rattle.library.specs.declared.tables.Tables.{Tables}
use Rattle.library.specs.Acting.{acted}
use Rattle.steps.specs.declared.stepping.Stepped.{Stepped}
use Rattle.steps.specs.Stepping.{budget_of, outcome_of, done_with, started, stepped}
use Rattle.promises.specs.Paper.World.{World, risen, found, First}
use Rattle.promises.specs.Paper.Host.{Host}
use Rattle.promises.specs.Paper.Rows.{top_in, Act}
use Rattle.promises.specs.Paper.Settling.{Continued}
use Rattle.promises.specs.Paper.Together.{WaitFits, TicksFit, ThreadFits}
use Rattle.promises.specs.Paper.Waking.{row_of, in_mask, SleeperAfter, ReadyAfter, WakerAfter}
use Rattle.promises.specs.Paper.Flags.{FlagsAfter}
use Rattle.promises.specs.Paper.Causes.{why_of, WhyAfter}
use Rattle.promises.specs.Kept.Whole.{Whole}
use Rattle.promises.specs.Runs.Answers.{step-done}
use Rattle.promises.specs.Runs.Accepted.{accepted, together, caller-first, x₀, act, acts, someone, fits, apart}
use Rattle.promises.specs.Runs.Turns.{Fair, fair-on}
use Rattle.promises.specs.Runs.FirstTurn.{mails-good, act-fair}
use Rattle.promises.specs.Runs.Keeping.{KeepsOn, KeepsAct, Keeps, both-on, continue-keeps}
use Rattle.promises.specs.Runs.Tried.{Kept, kept-keeps}
use Rattle.promises.specs.Runs.Closed.{Closed, closed-act, closed_on}
use Rattle.promises.specs.Runs.OneRow.{Steady, RowOn, row_on, step_kept}
use Rattle.promises.specs.Runs.Sleepers.{life-keeps}
use Rattle.promises.specs.Runs.Wakers.{calm-keeps, calm-after}
use Rattle.promises.specs.Runs.Ready.{ready-act, acted-after, ready-on}
use Rattle.promises.specs.Runs.Causes.{sleeper-why, why-on, why-act}
use Rattle.promises.specs.Runs.Flags.{ready-flags, sleeper-flags, flags-keep, caller-flags}
use Rattle.promises.specs.Meant.Pools.{promise-stocked}
use Rattle.promises.specs.Meant.Moves.{world_of}
use Rattle.promises.specs.Meant.Calls.{good}
use Rattle.promises.specs.Meant.Step.{settled-keeps, result-is, h, acted-whole, settled-whole, own}

-- a bit of a mask is its test
pub bit_in : (mask : ℕ) (i : ℕ) (b : Bool) → mask / 2 ^ i % 2 ≡ cond b 1 0 → in_mask i mask ≡ b
bit_in mask i true e = rw e
bit_in mask i false e = rw e

-- the top of a pool that has promised an object to a woken thread is an object's number
module _ (p : Plant) (w : Whole p.sizes p) (r : ℕ) (f : First (world_of p) r) (call : (thread_at p.kernel r).call.kind ≢ 0) where
  top-object : (thread_at p.kernel r).call.kind ≡ 20 → (thread_at p.kernel r).message ≡ pos 0
      → top_in ((world_of p).pool (thread_at p.kernel r).call.object) < 32
  top-object e m =
      let g = good p w in
      let o = (thread_at p.kernel r).call.object in
      let there : o < p.sizes.pools = rw e at ((g.threads r f.thread).object call) in
      (g.pools o there).objects (((world_of p).pool o).length - 1)
      (omega (arith, promise-stocked p g o there r f.thread f.is-ready e m refl))

  timed : (thread_at p.kernel r).call.timeout ≢ 0
  timed z = omega (arith, z, ((good p w).threads r f.thread).timeout call)

-- WHAT EACH MOVE KEEPS, AN ACCEPTED STEP KEEPS
module _ (t : Tables) (c : Clock) (s : Step) (host : Host t c s) (e : (stepped t c s).outcome.code ≡ 0) where
  -- the tables after the step's own act
  abbrev begun : World
  begun = x₀ t c s host e

  kept-act : Kept t s begun
  kept-act = acts t c s host e (Kept t s) (kept-keeps t s).act

  -- what each continued call keeps, settling keeps; and whoever it has woken stays awake
  settles : (P : World → Type 0) → KeepsOn t s P → P begun → Fair t.sizes.threads (world_of (h t c s host)) × P (world_of (h t c s host))
  settles P k q = (all.0, all.2.1)
    where
      R : World → Type 0
      R w = Kept t s w × P w

      Q : World → Type 0
      Q w = Fair t.sizes.threads w × Closed s w × R w

      closed : Closed s begun
      closed k = closed-act (subst (Act t c.time s begun) k (act t c s host e))

      continues : (p : Plant) → Whole p.sizes p → (i : ℕ) → First (world_of p) i → (thread_at p.kernel i).call.kind ≢ 0 → (x : World)
          → Continued (world_of p) i x → Q (world_of p) → Q x
      continues p w i f call x h q =
          let within : i < t.sizes.threads = rw q.2.0.sizes at f.thread in
          let fair = fair-on t.sizes.threads (world_of p) i within (mails-good p (good p w)) f call q.0 h in (
            fair.0,
            λ k. closed_on s.object h (q.1 k),
            continue-keeps t s R (both-on t s (Kept t s) P (kept-keeps t s).on k) (world_of p) i within f.is-ready call (timed p w i f call)
                (q.2.0.tried i within) (top-object p w i f call) (λ k a e. q.1 k (subst (λ (o : ℕ). ((world_of p).box o).reset ≡ 0) e a)) h fair.1 q.2,
          )

      all : Q (world_of (h t c s host))
      all =
          settled-keeps Q continues (budget_of t.sizes.threads) (acted (started t s) c.time s)
          (own t c s host (accepted t c s host e) (acted-whole t c s host (accepted t c s host e))) (act-fair t c s host e, closed, (kept-act, q))

  pub settle-keeps : (P : World → Type 0) → KeepsOn t s P → P begun → P (world_of (h t c s host))
  settle-keeps P k q = (settles P k q).1

  -- what the act leaves, and settling keeps
  act-settles : (P Q : World → Type 0) → KeepsAct t s P → ((w : World) → P w → Q w) → KeepsOn t s Q → Q (world_of (h t c s host))
  act-settles P Q a f k = settle-keeps Q k (f begun (acts t c s host e P a))

  step_keeps : (P : World → Type 0) → Keeps t s P → P (world_of (h t c s host))
  step_keeps P k = act-settles P P k.act (λ w q. q) k.on

  -- the act leaves the step's number
  pub act-step : begun.step ≡ (found t).step
  act-step = acts t c s host e (λ w. w.step ≡ (found t).step) (step_kept t s).act

  -- "The step number .. rises by 1 at the start of each accepted step"
  pub steps-after : (stepped t c s).tables.kernel.steps ≡ risen t.kernel.steps
  unfolding done_with
  steps-after =
      subst (λ (q : Stepped). q.tables.kernel.steps ≡ (found t).step) (sym (step-done t c s e))
      (step_keeps (λ w. w.step ≡ (found t).step) (step_kept t s))

  -- the sizes stay
  pub sizes-after : (stepped t c s).tables.sizes ≡ t.sizes
  unfolding done_with
  sizes-after =
      subst (λ (q : Stepped). q.tables.sizes ≡ t.sizes) (sym (step-done t c s e)) (step_keeps (Kept t s) (kept-keeps t s)).sizes

  -- what holds of a record after the step's own act, and is kept, holds of it in the tables after the step
  pub rows-after : (i : ℕ) (P : Thread → Type 0) → KeepsOn t s (λ w. (w.step ≡ (found t).step) × P (w.thread i)) → P (begun.thread i) → P (row_of (stepped t c s).tables i)
  unfolding done_with
  rows-after i P k q =
      subst (λ (r : Stepped). P (row_of r.tables i)) (sym (step-done t c s e)) (settle-keeps (λ w. (w.step ≡ (found t).step) × P (w.thread i)) k (act-step, q)).1

  -- who was woken by the step's own act is in the mask
  pub woken-seen : (j : ℕ) → begun.woken j ≡ true → in_mask j (stepped t c s).outcome.woken ≡ true
  unfolding done_with outcome_of
  woken-seen j a =
      let x : World = world_of (h t c s host) in
      let r = result-is (h t c s host) (settled-whole t c s host (accepted t c s host e)) s.caller in
      subst (λ (q : Stepped). in_mask j q.outcome.woken ≡ true) (sym (step-done t c s e))
      (rw (bit_in _ j (x.woken j) (r.woken j)) (settle-keeps (λ w. w.woken j ≡ true) stays a))
    where
      stays : KeepsOn t s (λ w. w.woken j ≡ true)
      stays =
          record {
            moves = record {
              counter = λ w p c q. q;
              box = λ w b x q. q;
              pool = λ w p x q. q;
              wakes = λ w i m b n d q. same_or j i (λ z. rw (z, eq-eqb i i refl)) (λ z. rw (ne_eqb j i z) q);
            };
            ends_on = λ w r m d l z n g q. q;
            takes-on = λ w r l z g m q. q;
            sleeps-on = λ w r p l z b m g u q. q;
          }

  -- ---- of one thread

  abbrev u : Tables
  u = (stepped t c s).tables

  module _ (i : ℕ) (within : i < t.sizes.threads) where
    abbrev is-thread : i ≢ 255
    is-thread = someone t c s host e i within

    its-fit : ThreadFits t.sizes (row_of t i)
    its-fit = fits t c s host e i within

    -- what holds of it where settling has ended, holds of its record in the tables after the step, and of its bits in the result
    told : (P : Thread → Bool → Bool → Type 0) → let x = world_of (h t c s host) in P (x.thread i) (x.woken i) (x.finished i)
        → P (row_of u i) (in_mask i (stepped t c s).outcome.woken) (in_mask i (stepped t c s).outcome.finished)
    unfolding done_with outcome_of
    told P q =
        let x : World = world_of (h t c s host) in
        let r = result-is (h t c s host) (settled-whole t c s host (accepted t c s host e)) s.caller in
        subst (λ (q : Stepped). P (row_of q.tables i) (in_mask i q.outcome.woken) (in_mask i q.outcome.finished))
        (sym (step-done t c s e)) (rw (bit_in _ i (x.woken i) (r.woken i), bit_in _ i (x.finished i) (r.finished i)) q)

    -- its bit is whether it was woken
    pub woken-is : in_mask i (stepped t c s).outcome.woken ≡ (world_of (h t c s host)).woken i
    woken-is = told (λ b w f. w ≡ (world_of (h t c s host)).woken i) refl

    -- what the act leaves of its record, and each move of a continued call keeps
    pub row_told : (P : Thread → Bool → Bool → Type 0) → RowOn t s i is-thread P → P (begun.thread i) (begun.woken i) (begun.finished i)
        → P (row_of u i) (in_mask i (stepped t c s).outcome.woken) (in_mask i (stepped t c s).outcome.finished)
    row_told P k q = told P (settle-keeps (Steady t s i is-thread P) (row_on t s i is-thread P k) (act-step, q)).1

    -- whoever is woken is ready after the step
    pub awake-after : in_mask i (stepped t c s).outcome.woken ≡ true → (row_of u i).state ≡ 0
    awake-after = told (λ b w f. w ≡ true → b.state ≡ 0) (λ w. ((settles (λ x. x.step ≡ (found t).step) (step_kept t s).on act-step).0 i within w).0)

    -- a thread that slept
    pub sleeper-after : (row_of t i).state ≢ 0
        → SleeperAfter t s i (row_of u i) (in_mask i (stepped t c s).outcome.woken) (in_mask i (stepped t c s).outcome.finished)
    sleeper-after n =
        told (SleeperAfter t s i)
        (step_keeps (Steady t s i is-thread (SleeperAfter t s i)) (life-keeps t s i is-thread within n (apart t c s host e i within n))).1

    no-ticks : (row_of t i).state ≡ 0 → (row_of t i).remaining ≡ 0
    no-ticks z = none its-fit.ticks
      where
        none : TicksFit (row_of t i) → (row_of t i).remaining ≡ 0
        none (TicksFit.none h r) = r
        none (TicksFit.some n m l q) = absurd (n z)

    -- why it woke, whether it slept or not
    pub why-after : WhyAfter t s i (why_of (row_of u i)) (in_mask i (stepped t c s).outcome.woken)
    why-after =
        same_or (row_of t i).state 0
        (λ z. told (λ b w f. WhyAfter t s i (why_of b) w)
        (act-settles _ _ (why-act t s i is-thread z (no-ticks z)) (λ w q. (q.0, q.1.stood)) (why-on t s i is-thread z (no-ticks z))).1.why)
        (λ n. sleeper-why n (sleeper-after n))

    -- a thread that was ready
    pub waker-after : (row_of t i).state ≡ 0 → WakerAfter t s i (row_of u i) (in_mask i (stepped t c s).outcome.woken)
    waker-after z =
        told (λ b w f. WakerAfter t s i b w)
        (calm-after t s i is-thread z (no-ticks z)
        (step_keeps _ (calm-keeps t s i is-thread z (no-ticks z))).1)

    -- whoever calls has no call to be continued
    no-call : s.caller ≡ i → (row_of t i).call.kind ≡ 0
    no-call z = (together t c s host e).running i (subst (First (found t)) z (caller-first t c s host e (rw z is-thread)))

    no_place : (row_of t i).state ≡ 0 → (row_of t i).place ≡ 0
    no_place z = nowhere its-fit.wait
      where
        nowhere : WaitFits (row_of t i) → (row_of t i).place ≡ 0
        nowhere (WaitFits.ready e p) = p
        nowhere (WaitFits.sleeps e b p) = p
        nowhere (WaitFits.events e b p) = p
        nowhere (WaitFits.reference e b p) = absurd (omega (arith, b, z))
        nowhere (WaitFits.semaphore e b p) = absurd (omega (arith, b, z))
        nowhere (WaitFits.pool e b p) = absurd (omega (arith, b, z))
        nowhere (WaitFits.queue e b p) = absurd (omega (arith, b, z))
        nowhere (WaitFits.writer e b p) = absurd (omega (arith, b, z))
        nowhere (WaitFits.reader e b p) = absurd (omega (arith, b, z))

    -- a thread that was ready, and is not the caller
    ready-after : (row_of t i).state ≡ 0 → i ≢ s.caller
        → ReadyAfter t s i (row_of u i) (in_mask i (stepped t c s).outcome.woken) (in_mask i (stepped t c s).outcome.finished)
    ready-after z n =
        told (ReadyAfter t s i)
        (act-settles _ _ (ready-act t s i is-thread n z (no-ticks z) (no_place z) its-fit.awaited)
        (acted-after t s i is-thread n z (no-ticks z) (no_place z) its-fit.awaited)
        (ready-on t s i is-thread n z (no-ticks z) (no_place z) its-fit.awaited)).1

    -- a thread that was woken before, and not continued yet
    pub woken-after : (row_of t i).state ≡ 0 → (row_of t i).call.kind ≢ 0
        → ReadyAfter t s i (row_of u i) (in_mask i (stepped t c s).outcome.woken) (in_mask i (stepped t c s).outcome.finished)
    woken-after z k = ready-after z (λ e. k (no-call (sym e)))

    -- the caller
    own-flags : i ≡ s.caller → FlagsAfter t s i (row_of u i) (in_mask i (stepped t c s).outcome.finished)
    own-flags x =
        let z = same_or (row_of t i).state 0 (λ y. y) (λ n. absurd (apart t c s host e i within n x)) in
        let v : World = world_of (h t c s host) in
        let me : s.caller ≢ 255 = rw x at is-thread in
        let is-ready : (row_of t s.caller).state ≡ 0 = rw x at z in
        let ticks : (row_of t s.caller).remaining ≡ 0 = rw x at (no-ticks z) in
        let call : (row_of t s.caller).call.kind ≡ 0 = rw x at (no-call (sym x)) in
        told (λ b w f. FlagsAfter t s i b f)
        (subst (λ (j : ℕ). FlagsAfter t s j (v.thread j) (v.finished j)) (sym x)
        (caller-flags t s me is-ready ticks call (step_keeps _ (flags-keep t s me is-ready ticks call)).1))

    -- and the flags of each
    pub flags_of : FlagsAfter t s i (row_of u i) (in_mask i (stepped t c s).outcome.finished)
    flags_of =
        same_or i s.caller own-flags
        (λ x. same_or (row_of t i).state 0 (λ z. ready-flags t s i (λ e. x (sym e)) z (ready-after z x))
        (λ n. sleeper-flags t s i (λ e. x (sym e)) (sleeper-after n)))
