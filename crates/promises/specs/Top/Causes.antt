-- DOCUMENT 02, 7/13: WHY A THREAD WOKE. From any tables that hang together, over any steps, refused ones included: the cause and the number in
-- each thread's record are those of its last waking, and the step number counts the accepted steps; and from fresh tables. What each step
-- makes of them is in `one-waking`, and which causes a waiter's turn has in `turn-of-semaphore` (Top.Demands).
use Rattle.std.specs.Prelude.{ℕ, ◌≤◌, ◌<◌, ◌≡◌, refl, ◌≢◌, true, false, List, pos, Option}
use Rattle.std.proofs.Common.{arith, ap, ◌∙◌, subst, inl, inr, eq-eqb, ne_eqb}
use Rattle.kernel.specs.declared.clock.Clock.{Clock}
use Rattle.kernel.specs.declared.records.Thread.{Thread}
use Rattle.library.specs.declared.calls.Step.{Step}
use Rattle.library.specs.declared.sizes.Sizes.{Sizes}
use Rattle.library.specs.declared.tables.Tables.{Tables}
use Rattle.library.specs.Fresh.{made}
use Rattle.steps.specs.Stepping.{stepped}
use Rattle.promises.specs.Paper.World.{risen}
use Rattle.promises.specs.Paper.Fresh.{FreshTables, Legal}
use Rattle.promises.specs.Paper.Host.{HostStep, HostSteps, Going}
use Rattle.promises.specs.Paper.Waking.{row_of, in_mask, OwnWait}
use Rattle.promises.specs.Paper.Run.{Moment, is_accepted, how_many, any_of, TurnOf}
use Rattle.promises.specs.Paper.Causes.{cause_for, message_by, Why, why_of, not_yet, numbered, LastWaking, FallsAt, place_of, cause_fell}
use Rattle.promises.specs.Paper.World.{found, kept, First}
use Rattle.promises.specs.Paper.Together.{WaitFits}
use Rattle.promises.specs.Paper.History.{call_by}
use Rattle.promises.specs.Code.Steps.{ran, moments, fresh_moments, fresh_ran, called_by, moment_of}
use Rattle.promises.specs.Meant.Fresh.{made-legal}
use Rattle.promises.specs.Runs.Moments.{turn-woken, sleeper-woken, host, faller-woken}
use Rattle.promises.specs.Runs.LastWakings.{last-wakings, steps-numbered, numbered-count, numbered-stays, unwoken-same, fresh-why}
use Rattle.promises.specs.Runs.Accepted.{caller-first}
use Rattle.promises.specs.Top.Demands.{fresh-going, run-going}

module _ (t : Tables) (c : Clock) (g : Going t c) (ss : List Step) (hs : HostSteps ss) where
  -- "Each thread record shall carry the cause of its last waking .. and the number of that step"
  pub why-told : (i : ℕ) → i < t.sizes.threads
      → LastWaking i (why_of (row_of (ran t c ss).tables i)) t.kernel.steps (why_of (row_of t i)) (moments t c ss)
  why-told = last-wakings ss hs t c g

  -- "The step number .. rises by 1 at the start of each accepted step; at 4294967295 it stays there"
  pub steps-told : (ran t c ss).tables.kernel.steps ≡ numbered t.kernel.steps (moments t c ss)
  steps-told = steps-numbered ss hs t c g

  -- no "cause outside the list" comes about
  pub causes-listed : (i : ℕ) → i < (ran t c ss).tables.sizes.threads → (row_of (ran t c ss).tables i).cause ≤ 8
  causes-listed i l = ((run-going ss hs t c g).together.threads i l).cause

-- "with 0 unless its timeout or a reset made it ready sooner": whoever waits at a semaphore or a pool, and is woken by a step, has the cause
-- beside the message. `turn-read` (Top.RuledOut) reads it off: 0 and signal, -1 and tick, or -2 and reset
module _ (t : Tables) (c : Clock) (g : Going t c) (s : Step) (h : HostStep s) (accepted : (stepped t c s).outcome.code ≡ 0) where
  pub waiter-told : (p : ℕ) → p < 20 → (i : ℕ) → i < t.sizes.threads → (row_of t i).state ≡ 3 → (row_of t i).place ≡ p
      → in_mask i (stepped t c s).outcome.woken ≡ true
      → TurnOf p (row_of t i) s (row_of (stepped t c s).tables i).message (row_of (stepped t c s).tables i).cause
  waiter-told = turn-woken t c g s h accepted

  -- of whoever slept: cause and message follow from the sleep and from the step, so that `why-told` leaves nothing to choose
  pub sleeper-told : (i : ℕ) → i < t.sizes.threads → (row_of t i).state ≢ 0 → in_mask i (stepped t c s).outcome.woken ≡ true
      → ((row_of (stepped t c s).tables i).cause ≡ cause_for s (row_of t i))
      × ((row_of (stepped t c s).tables i).message ≡ message_by s (row_of (stepped t c s).tables i).cause)
  sleeper-told = sleeper-woken t c g s h accepted

  -- and of whoever was ready: it fell asleep in this very step, in a mailbox call, and the other side has served it
  pub faller-told : (i : ℕ) → i < t.sizes.threads → (row_of t i).state ≡ 0 → in_mask i (stepped t c s).outcome.woken ≡ true
      → ((row_of (stepped t c s).tables i).cause ≡ cause_fell s i (row_of t i)) × ((row_of (stepped t c s).tables i).message ≡ pos 0)
      × ((row_of (stepped t c s).tables i).step ≡ risen t.kernel.steps)
  faller-told = faller-woken t c g s h accepted

-- ---- where a thread waited that a step has woken, as `./listing --why` prints it

-- the call of i in a moment, whatever its kind: the step's own, if it is the caller, else the one that its record had kept
pub call-told : (m : Moment) (i : ℕ) → called_by m i ≡ call_by m i
call-told m i = refl

module _ (t : Tables) (c : Clock) (g : Going t c) (s : Step) (h : HostStep s) (accepted : (stepped t c s).outcome.code ≡ 0) (i : ℕ) (l : i < t.sizes.threads) where
  abbrev m : Moment
  m = moment_of t c s

  -- the caller runs
  runs : s.caller ≡ i → First (found t) i
  runs e =
      subst (First (found t)) e (caller-first t c s (host t c g s h) accepted (λ z. omega (arith, z, e, l, g.together.sizes.threads.1)))

  -- who slept before the step waited in that call
  pub slept-at : (row_of t i).state ≢ 0 → (row_of t i).place ≡ place_of (call_by m i)
  slept-at asleep = rw (ne_eqb s.caller i (λ e. asleep (runs e).is-ready)) (place (row_of t i) asleep (g.together.threads i l).wait)
    where
      place : (a : Thread) → a.state ≢ 0 → WaitFits a → a.place ≡ place_of a.call
      place a n (WaitFits.ready e p) = absurd (n e)
      place a n (WaitFits.sleeps (inl k) e p) = rw k p
      place a n (WaitFits.sleeps (inr k) e p) = rw k p
      place a n (WaitFits.reference k e p) = rw k p
      place a n (WaitFits.semaphore k e p) = rw k p
      place a n (WaitFits.pool k e p) = rw k p
      place a n (WaitFits.queue k e p) = rw k p
      place a n (WaitFits.writer (inl k) e p) = rw k p
      place a n (WaitFits.writer (inr k) e p) = rw k p
      place a n (WaitFits.reader k e p) = rw k p
      place a n (WaitFits.events k e p) = rw k p

  -- and so did who fell asleep in it
  pub fell-at : {state place : ℕ} → FallsAt t s i state place → place ≡ place_of (call_by m i)
  fell-at (FallsAt.own e w) = rw (eq-eqb s.caller i e) (own w)
    where
      own : {state place : ℕ} → OwnWait s state place → place ≡ place_of (kept s.kind s.object s.a s.timeout)
      own (OwnWait.semaphore k x) = rw k
      own (OwnWait.queue k x) = rw k
      own (OwnWait.reference k x) = rw k
      own (OwnWait.sleeps (inl k)) = rw k
      own (OwnWait.sleeps (inr k)) = rw k
      own (OwnWait.events k x) = rw k
      own (OwnWait.writer (inl k) x) = rw k
      own (OwnWait.writer (inr k) x) = rw k
      own (OwnWait.reader k x) = rw k
      own (OwnWait.pool k x) = rw k
  fell-at (FallsAt.writer (inl k)) = rw (ne_eqb s.caller i (λ e. omega (arith, k, g.together.running i (runs e))), k)
  fell-at (FallsAt.writer (inr k)) = rw (ne_eqb s.caller i (λ e. omega (arith, k, g.together.running i (runs e))), k)
  fell-at (FallsAt.reader k) = rw (ne_eqb s.caller i (λ e. omega (arith, k, g.together.running i (runs e))), k)

-- ---- from fresh tables

module _ (y : Sizes) (r : Option ℕ) (legal : Legal y r) (ss : List Step) (hs : HostSteps ss) where
  abbrev pub run : List Moment
  run = fresh_moments y r ss

  abbrev pub end : Tables
  end = (fresh_ran y r ss).tables

  fresh : FreshTables y (made y r).tables
  fresh = (made-legal y r legal).tables

  -- "none yet", and "0 before any"
  pub why-fresh : (i : ℕ) → i < y.threads → LastWaking i (why_of (row_of end i)) 0 not_yet run
  why-fresh i l =
      subst (λ (n : ℕ). LastWaking i (why_of (row_of end i)) n not_yet run) fresh.steps
      (subst (λ (x : Why). LastWaking i (why_of (row_of end i)) (made y r).tables.kernel.steps x run) (fresh-why y (made y r).tables fresh i)
      (why-told (made y r).tables (made y r).clock (fresh-going y r legal) ss hs i (rw fresh.sizes l)))

  pub never-woken : (i : ℕ) → i < y.threads → any_of (λ m. in_mask i m.result.woken) run ≡ false → why_of (row_of end i) ≡ not_yet
  never-woken i l none = unwoken-same (why-fresh i l) none

  -- the step number is the number of accepted steps, up to its end
  steps-run : end.kernel.steps ≡ numbered 0 run
  steps-run =
      steps-told (made y r).tables (made y r).clock (fresh-going y r legal) ss hs ∙ ap (λ (n : ℕ). numbered n run) fresh.steps

  pub steps-fresh : how_many is_accepted run ≤ 4294967295 → end.kernel.steps ≡ how_many is_accepted run
  steps-fresh l = steps-run ∙ numbered-count 0 run (omega (arith, l)) ∙ omega arith

  pub steps-end : 4294967295 ≤ how_many is_accepted run → end.kernel.steps ≡ 4294967295
  steps-end l = steps-run ∙ numbered-stays 0 run (omega arith) (omega (arith, l))
