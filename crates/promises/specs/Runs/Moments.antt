-- Runs, step by step: from tables that hang together every step leaves such tables, a sleep that is not woken goes on, one tick shorter at
-- each accepted tick, and a waiter has fewer before it with each signal. So the one ends by its last tick and the other by its turn.
use Rattle.std.specs.Prelude.{ℕ, ◌+◌, ◌^◌, ◌≤◌, ◌<◌, ◌≡◌, refl, ◌≢◌, Bool, true, false, cond, ◌&&◌, eqb, pos}
use Rattle.std.proofs.Common.{arith, sym, ap, ◌∙◌, subst, inl, inr, eq-eqb, ne_eqb}
use Rattle.std.proofs.Math.Nat.{zero-div}
use mathlib.Core.List.{List, [], ◌∷◌, tail-eq_of_cons-eq}
use Rattle.kernel.specs.declared.clock.Clock.{Clock}
use Rattle.kernel.specs.declared.records.Thread.{Thread}
use Rattle.kernel.proofs.Cases.{split, same_or, contrary}
use Rattle.library.specs.declared.calls.Step.{Step}
use Rattle.library.specs.declared.tables.Tables.{Tables}
use Rattle.steps.specs.Stepping.{stepped}
use Rattle.steps.proofs.StepLaws.{Untouched, step-refused}
use Rattle.promises.specs.Paper.World.{World, risen, found, Left, First, Running}
use Rattle.promises.specs.Paper.Together.{TicksFit, AwaitedFit, HangTogether}
use Rattle.promises.specs.Paper.Host.{HostStep, Host, HostSteps, Going}
use Rattle.promises.specs.Paper.Waking.{row_of, in_mask, WokenBy, slept_on, SleeperAfter, Due}
use Rattle.promises.specs.Paper.Causes.{Wakes, cause_for, cause_fell, message_by, Why, why_of, WhyAfter}
use Rattle.promises.specs.Paper.Step.{ClockAfter, StepOf}
use Rattle.promises.specs.Paper.Run.{is_tick, ticks_in, signals_at, signals_in, joins_at, joins_in, higher, WokenIn, TurnOf, WakingOf, TurnAt, begun_with}
use Rattle.promises.specs.Paper.History.{Turns}
use Rattle.promises.specs.Paper.Settling.{Settles}
use Rattle.promises.specs.Paper.EachThread.{EachThread, Throughout}
use Rattle.promises.specs.Code.Steps.{moment_of, moments}
use Rattle.promises.specs.Together.Tests.{neither-means}
use Rattle.promises.specs.Kept.Steps.{Hangs, step-hangs}
use Rattle.promises.specs.Runs.Keeping.{queued-asleep}
use Rattle.promises.specs.Runs.Accepted.{unbroken}
use Rattle.promises.specs.Runs.OneStep.{sizes-after, steps-after, awake-after, why-after, sleeper-after, waker-after, woken-after, flags_of}
use Rattle.promises.specs.Runs.Places.{cause-for, message-by, fell-cause}
use Rattle.promises.specs.Runs.GoingOn.{first-stays, goes-running}
use Rattle.promises.specs.Runs.Due.{due-woken, woken-due, quiet-due}
use Rattle.promises.specs.Runs.Waiters.{turns-on, waits-on, turn-of}
use Rattle.promises.specs.Runs.OwnSleep.{begun-timeout}
use Rattle.promises.specs.Meant.Together.{rules-together, together-rules}
use Rattle.promises.specs.Meant.Step.{host-sized, sized-host, step_is}

module _ (t : Tables) (c : Clock) (g : Going t c) where
  hangs : Hangs t c
  hangs = record { together = together-rules t c g.tables.threads g.together; sized = host-sized t g.tables }

  -- every step leaves them so
  module _ (s : Step) (h : HostStep s) where
    pub host : Host t c s
    host = record { tables = g.tables; time = g.time; step = h }

    time-kept : StepOf t c s (stepped t c s) → (stepped t c s).clock.time.0 < 4294967296
    time-kept (StepOf.refused n b f r) = rw r.clock g.time
    time-kept (StepOf.accepted n w x is a z l u d r) = by d
      where
        by : {d : Clock} → ClockAfter c s.kind d → d.time.0 < 4294967296
        by (ClockAfter.next k b e) = rw e (omega (arith, b))
        by (ClockAfter.wraps k b e) = rw e (omega arith)
        by (ClockAfter.stays k e) = rw e g.time

    pub going_on : Going (stepped t c s).tables (stepped t c s).clock
    going_on =
        let n = step-hangs t c s hangs in
        record {
          together = rules-together (stepped t c s).tables (stepped t c s).clock n.together;
          tables = sized-host (stepped t c s).tables n.sized;
          time = time-kept (step_is t c s host);
        }

-- nobody is in the mask 0, and no flag in the set 0
pub no-bit : (i : ℕ) → in_mask i 0 ≡ false
no-bit i = rw (zero-div (2 ^ i))

-- ---- a. a timed sleep ends

-- the remaining ticks of a thread that sleeps with a timeout are not 0
timed-left : {a : Thread} → TicksFit a → a.state ≢ 0 → a.call.timeout ≢ 4294967295 → 1 ≤ a.remaining
timed-left (TicksFit.none (inl e) r) n m = absurd (n e)
timed-left (TicksFit.none (inr e) r) n m = absurd (m e)
timed-left (TicksFit.some x y l u) n m = l

-- the waking of a sleeper that is in the woken mask, with the message that its record has then
waking : {t : Tables} {s : Step} {i : ℕ} {b : Thread} {w f : Bool} → SleeperAfter t s i b w f → w ≡ true
    → WokenBy t s i (row_of t i) b.message b.cause
waking (SleeperAfter.on u e x y) z = contrary z x
waking {t} {s} {i} (SleeperAfter.ready m o b e x y) z = rw e b
waking {t} {s} {i} (SleeperAfter.done m u o d f b g e x y) z = rw e b

-- and what goes on of one that is not
sleeping : {t : Tables} {s : Step} {i : ℕ} {b : Thread} {w f : Bool} → SleeperAfter t s i b w f → w ≡ false → b ≡ slept_on s i (row_of t i)
sleeping (SleeperAfter.on u e x y) z = e
sleeping (SleeperAfter.ready m o b e x y) z = contrary x z
sleeping (SleeperAfter.done m u o d f b g e x y) z = contrary x z

module _ (t : Tables) (c : Clock) (g : Going t c) (s : Step) (h : HostStep s) where
  -- after an accepted step that does not wake it, a timed sleeper has as many ticks left as before, less this one
  left_after : (stepped t c s).outcome.code ≡ 0 → (i : ℕ) → i < t.sizes.threads → (row_of t i).state ≢ 0 → (row_of t i).call.timeout ≢ 4294967295
      → row_of (stepped t c s).tables i ≡ slept_on s i (row_of t i)
      → (row_of (stepped t c s).tables i).remaining + cond (is_tick (moment_of t c s)) 1 0 ≡ (row_of t i).remaining
  left_after e i l n m on =
      let u = (stepped t c s).tables in
      let a = row_of t i in
      let r = ap (λ (b : Thread). b.remaining) on in
      let z : (row_of u i).state ≢ 0 = λ x. n (sym (ap (λ (b : Thread). b.state) on) ∙ x) in
      let y : (row_of u i).call.timeout ≢ 4294967295 = λ x. m (sym (ap (λ (b : Thread). b.call.timeout) on) ∙ x) in
      let w : i < u.sizes.threads = rw (sizes-after t c s (host t c g s h) e) l in
      let some = timed-left ((going_on t c g s h).together.threads i w).ticks z y in
      rw (eq-eqb (stepped t c s).outcome.code 0 e)
      (split (eqb s.kind 1) (λ k. rw k (omega (arith, rw k at r, some))) (λ k. rw k (omega (arith, rw k at r))))

  -- a refused step leaves all, and wakes nobody
  module _ (d : (stepped t c s).outcome.code ≢ 0) where
    same : Untouched t c (stepped t c s)
    same = step-refused t c s d

    none-woken : (i : ℕ) → in_mask i (stepped t c s).outcome.woken ≡ false
    none-woken i = rw same.nobody-woken (no-bit i)

-- a sleep that begins in an accepted step has the timeout that it began with
pub begun : (t : Tables) (c : Clock) (g : Going t c) (s : Step) (h : HostStep s) → (stepped t c s).outcome.code ≡ 0 → (i : ℕ) → i < t.sizes.threads
    → (row_of t i).state ≡ 0 → (row_of (stepped t c s).tables i).state ≢ 0
    → (i < (stepped t c s).tables.sizes.threads) × ((row_of (stepped t c s).tables i).call.timeout ≡ begun_with t c s i)
begun t c g s h e i l z n =
    let ht = host t c g s h in
    let there : i < (stepped t c s).tables.sizes.threads = rw (sizes-after t c s ht e) l in
    (there, begun-timeout t c s ht e i l z n ((going_on t c g s h).together.threads i there).wait)

pub sleeps-end : (ss : List Step) → HostSteps ss → (t : Tables) (c : Clock) → Going t c → (i : ℕ) → i < t.sizes.threads
    → (row_of t i).state ≢ 0 → (row_of t i).call.timeout ≢ 4294967295 → (row_of t i).remaining ≤ ticks_in (moments t c ss)
    → WokenIn i (WakingOf i) (moments t c ss)
sleeps-end [] hs t c g i l n m r = absurd (omega (arith, r, timed-left (g.together.threads i l).ticks n m))
sleeps-end (s ∷ ss) (HostSteps.more h hs) t c g i l n m r =
    same_or (stepped t c s).outcome.code 0
    (λ e.
    let after = sleeper-after t c s (host t c g s h) e i l n in
    split (in_mask i (stepped t c s).outcome.woken) (λ w. WokenIn.now e w (waking after w))
    (λ w.
    let on = sleeping after w in
    let u = (stepped t c s).tables in
    let st : (row_of u i).state ≢ 0 = λ z. n (sym (ap (λ (a : Thread). a.state) on) ∙ z) in
    let tm : (row_of u i).call.timeout ≢ 4294967295 = λ z. m (sym (ap (λ (a : Thread). a.call.timeout) on) ∙ z) in
    WokenIn.later w
    (sleeps-end ss hs u (stepped t c s).clock (going_on t c g s h) i (rw (sizes-after t c s (host t c g s h) e) l) st tm
    (omega (arith, r, left_after t c g s h e i l n m on)))))
    (λ d.
    let q = same t c g s h d in
    let r' : (row_of t i).remaining ≤ 0 + ticks_in (moments t c ss) = rw (ne_eqb (stepped t c s).outcome.code 0 d, q.tables, q.clock) at r in
    WokenIn.later (none-woken t c g s h d i)
    (subst (λ (v : Tables). WokenIn i (WakingOf i) (moments v (stepped t c s).clock ss)) (sym q.tables)
    (subst (λ (k : Clock). WokenIn i (WakingOf i) (moments t k ss)) (sym q.clock) (sleeps-end ss hs t c g i l n m (omega (arith, r'))))))

-- ---- c. a waiter's turn comes

-- a waiter at p that a step wakes, and why
module _ (t : Tables) (c : Clock) (g : Going t c) (s : Step) (h : HostStep s) (e : (stepped t c s).outcome.code ≡ 0) where
  pub turn-woken : (p : ℕ) → p < 20 → (i : ℕ) → i < t.sizes.threads → (row_of t i).state ≡ 3 → (row_of t i).place ≡ p
      → in_mask i (stepped t c s).outcome.woken ≡ true
      → TurnOf p (row_of t i) s (row_of (stepped t c s).tables i).message (row_of (stepped t c s).tables i).cause
  turn-woken p near i l st pl w =
      let ht = host t c g s h in
      turn-of t c s ht e p near i st pl (waking (sleeper-after t c s ht e i l (queued-asleep st)) w)

  -- and of whoever slept
  pub sleeper-woken : (i : ℕ) → i < t.sizes.threads → (row_of t i).state ≢ 0 → in_mask i (stepped t c s).outcome.woken ≡ true
      → ((row_of (stepped t c s).tables i).cause ≡ cause_for s (row_of t i))
      × ((row_of (stepped t c s).tables i).message ≡ message_by s (row_of (stepped t c s).tables i).cause)
  sleeper-woken i l n w =
      let ht = host t c g s h in
      let b = waking (sleeper-after t c s ht e i l n) w in
      (cause-for t c s ht e b, message-by t c s ht e b)

  -- of whoever fell asleep in the step
  pub faller-woken : (i : ℕ) → i < t.sizes.threads → (row_of t i).state ≡ 0 → in_mask i (stepped t c s).outcome.woken ≡ true
      → ((row_of (stepped t c s).tables i).cause ≡ cause_fell s i (row_of t i)) × ((row_of (stepped t c s).tables i).message ≡ pos 0)
      × ((row_of (stepped t c s).tables i).step ≡ risen t.kernel.steps)
  faller-woken i l z w = by (why-after t c s (host t c g s h) e i l)
    where
      b : Thread
      b = row_of (stepped t c s).tables i

      by : WhyAfter t s i (why_of b) (in_mask i (stepped t c s).outcome.woken)
          → (b.cause ≡ cause_fell s i (row_of t i)) × (b.message ≡ pos 0) × (b.step ≡ risen t.kernel.steps)
      by (WhyAfter.same q y) = contrary w q
      by (WhyAfter.woke q (Wakes.slept n v) y) = absurd (n z)
      by (WhyAfter.woke q (Wakes.fell n f v) y) =
          let x = fell-cause t c s (host t c g s h) e i l f v in
          (ap (λ (r : Why). r.cause) y ∙ x.0, ap (λ (r : Why). r.message) y ∙ x.1, ap (λ (r : Why). r.step) y)

pub turn-comes : (p : ℕ) → p < 20 → (ss : List Step) → HostSteps ss → (t : Tables) (c : Clock) → Going t c → (i : ℕ) → i < t.sizes.threads
    → (row_of t i).state ≡ 3 → (row_of t i).place ≡ p → joins_in p i (moments t c ss) ≡ false → higher t p i < signals_in p (moments t c ss)
    → WokenIn i (TurnAt p i) (moments t c ss)
turn-comes p near [] hs t c g i l st pl none r = absurd (omega arith)
turn-comes p near (s ∷ ss) (HostSteps.more h hs) t c g i l st pl none r =
    let no = neither-means (eqb (stepped t c s).outcome.code 0 && joins_at p i s) (joins_in p i (moments (stepped t c s).tables (stepped t c s).clock ss)) none in
    same_or (stepped t c s).outcome.code 0
    (λ e.
    let ht = host t c g s h in
    let u = (stepped t c s).tables in
    let alone : joins_at p i s ≡ false = rw (eq-eqb (stepped t c s).outcome.code 0 e) at no.0 in
    split (in_mask i (stepped t c s).outcome.woken)
    (λ w. WokenIn.now e w (turn-woken t c g s h e p near i l st pl w))
    (λ w.
    let on = waits-on t c s ht e p near i l alone st pl w in
    let fewer = turns-on t c s ht e p near i l alone st pl w in
    let r' : higher t p i < cond (signals_at p t s) 1 0 + signals_in p (moments u (stepped t c s).clock ss) = rw (eq-eqb (stepped t c s).outcome.code 0 e) at r in
    WokenIn.later w
    (turn-comes p near ss hs u (stepped t c s).clock (going_on t c g s h) i (rw (sizes-after t c s ht e) l) on.0 on.1 no.1
    (omega (arith, r', fewer)))))
    (λ d.
    let q = same t c g s h d in
    let r' : higher t p i < 0 + signals_in p (moments t c ss) = rw (ne_eqb (stepped t c s).outcome.code 0 d, q.tables, q.clock) at r in
    WokenIn.later (none-woken t c g s h d i)
    (subst (λ (v : Tables). WokenIn i (TurnAt p i) (moments v (stepped t c s).clock ss)) (sym q.tables)
    (subst (λ (k : Clock). WokenIn i (TurnAt p i) (moments t k ss)) (sym q.clock)
    (turn-comes p near ss hs t c g i l st pl (rw (q.tables, q.clock) at no.1) (omega (arith, r'))))))

-- ---- b. each step, and each thread

quiet : (t : Tables) (c : Clock) (s : Step) (x : Host t c s) (e : (stepped t c s).outcome.code ≡ 0) (i : ℕ) → i < t.sizes.threads → {is : List ℕ}
    → Turns (moment_of t c s) is → is ≡ s.caller ∷ [] → in_mask i (stepped t c s).outcome.woken ≡ true → Due t s i
quiet t c s x e i l (Turns.refused d) z w = absurd (d e)
quiet t c s x e i l (Turns.accepted d v y js a k) z w =
    quiet-due t c s x e i l v y a (subst (Settles y v) (tail-eq_of_cons-eq z) k) w

-- whoever runs is the first ready thread of tables that hang together
module _ (t : Tables) (c : Clock) (g : Going t c) (s : Step) (h : HostStep s) (e : (stepped t c s).outcome.code ≡ 0) where
  runs-first : (i : ℕ) → i ≢ 255 → {x : World} → Left x (stepped t c s).tables → Running x i → First (found (stepped t c s).tables) i
  runs-first i n l (Running.idle a z) = absurd (n z)
  runs-first i n {x} l (Running.thread f) = first-stays x (found (stepped t c s).tables) i l.sizes (λ j. ap (λ (r : Thread). r.state) (l.threads j)) f

  runs-free : (i : ℕ) → (stepped t c s).outcome.running ≡ i → i ≢ 255
      → ((row_of (stepped t c s).tables i).call.kind ≡ 0) × ((row_of (stepped t c s).tables i).awaited ≡ 0)
  runs-free i r n = by (step_is t c s (host t c g s h))
    where
      next : HangTogether (found (stepped t c s).tables) (stepped t c s).tables.kernel.words (stepped t c s).clock
      next = (going_on t c g s h).together

      none : {a : Thread} → AwaitedFit a → a.call.kind ≡ 0 → a.awaited ≡ 0
      none (AwaitedFit.mask k q) z = absurd (omega (arith, k, z))
      none (AwaitedFit.none k q) z = q

      by : StepOf t c s (stepped t c s) → ((row_of (stepped t c s).tables i).call.kind ≡ 0) × ((row_of (stepped t c s).tables i).awaited ≡ 0)
      by (StepOf.refused m b f q) = absurd (unbroken t c s (host t c g s h) e m b)
      by (StepOf.accepted b w x is act settles l u d o) =
          let f = runs-first i n l (subst (Running x) r o.running) in
          let z = next.running i f in
          (z, none (next.threads i f.thread).awaited z)

pub each_step : (ss : List Step) → HostSteps ss → (t : Tables) (c : Clock) → Going t c → Throughout EachThread (moments t c ss)
each_step [] hs t c g = Throughout.none
each_step (s ∷ ss) (HostSteps.more h hs) t c g =
    Throughout.more
    (λ e. record {
      slept = sleeper-after t c s (host t c g s h) e;
      ready = waker-after t c s (host t c g s h) e;
      woken-before = woken-after t c s (host t c g s h) e;
      due = due-woken t c s (host t c g s h) e;
      only-due = woken-due t c s (host t c g s h) e;
      quiet-due = λ u i l w. quiet t c s (host t c g s h) e i l u refl w;
      awake = awake-after t c s (host t c g s h) e;
      why = why-after t c s (host t c g s h) e;
      number = steps-after t c s (host t c g s h) e;
      flags = flags_of t c s (host t c g s h) e;
      runs = runs-free t c g s h e;
      goes_on = goes-running t c s (host t c g s h) e;
    })
    (each_step ss hs (stepped t c s).tables (stepped t c s).clock (going_on t c g s h))
