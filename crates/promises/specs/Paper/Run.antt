-- A RUN, AS A HOST SEES IT: the steps, their results, and the tables between two steps; what is counted in it, and when a thread was woken.
-- It is told of any kernel k, which makes something of tables, clock and step: these words are the same for a right one and a wrong one.
use Rattle.std.specs.Prelude.{ℕ, ◌+◌, ◌<◌, ◌≡◌, ◌⊎◌, Bool, true, false, cond, not, ◌&&◌, ◌||◌, List, [], ◌∷◌, eqb, ltb, ℤ, pos, negsuc}
use Rattle.std.specs.Int.Signed.{lt_z}
use Rattle.kernel.specs.declared.clock.Clock.{Clock}
use Rattle.kernel.specs.declared.records.Thread.{Thread}
use Rattle.library.specs.declared.calls.Step.{Step}
use Rattle.library.specs.declared.tables.Tables.{Tables}
use Rattle.steps.specs.declared.stepping.Outcome.{Outcome}
use Rattle.steps.specs.declared.stepping.Stepped.{Stepped}
use Rattle.promises.specs.Paper.World.{found}
use Rattle.promises.specs.Paper.Together.{number, is_queued}
use Rattle.promises.specs.Paper.Waking.{row_of, in_mask, WokenBy, span_of}

-- one step of a run, with the tables before and after it, and the clock that it finds
pub record Moment : Type 0 where
  pub before : Tables
  pub clock : Clock
  pub step : Step
  pub result : Outcome
  pub after : Tables

-- a step with the tables that it finds and leaves
abbrev pub moment_by : (Tables → Clock → Step → Stepped) → Tables → Clock → Step → Moment
moment_by k t c s = record { before = t; clock = c; step = s; result = (k t c s).outcome; after = (k t c s).tables }

-- the moments of a run over some steps, refused ones included: each finds the tables and the clock that the one before it left
abbrev pub moments_by : (Tables → Clock → Step → Stepped) → Tables → Clock → List Step → List Moment
moments_by k t c [] = []
moments_by k t c (s ∷ ss) = moment_by k t c s ∷ moments_by k (k t c s).tables (k t c s).clock ss

-- what a run leaves: tables, clock, and the result of each step
pub record Ran : Type 0 where
  pub tables : Tables
  pub clock : Clock
  pub outcomes : List Outcome

-- one step, and the steps after it
abbrev pub ran_on : Outcome → Ran → Ran
ran_on o r = record { tables = r.tables; clock = r.clock; outcomes = o ∷ r.outcomes }

abbrev pub ran_by : (Tables → Clock → Step → Stepped) → Tables → Clock → List Step → Ran
ran_by k t c [] = record { tables = t; clock = c; outcomes = [] }
ran_by k t c (s ∷ ss) = ran_on (k t c s).outcome (ran_by k (k t c s).tables (k t c s).clock ss)

abbrev pub is_accepted : Moment → Bool
is_accepted m = eqb m.result.code 0

-- how many moments pass a test
abbrev pub how_many : (Moment → Bool) → List Moment → ℕ
how_many f [] = 0
how_many f (m ∷ ms) = cond (f m) 1 0 + how_many f ms

-- whether any does
abbrev pub any_of : (Moment → Bool) → List Moment → Bool
any_of f [] = false
any_of f (m ∷ ms) = f m || any_of f ms

-- accepted ticks
abbrev pub is_tick : Moment → Bool
is_tick m = is_accepted m && eqb m.step.kind 1

abbrev pub ticks_in : List Moment → ℕ
ticks_in ms = how_many is_tick ms

-- a signal at the place p (a semaphore's number, 16 and more for a pool): 3; 5, which acts "if the counter is below 1"; 21 and 22, which
-- "put the object on top and signal"
abbrev pub signals_at : ℕ → Tables → Step → Bool
signals_at p t s =
    (eqb s.kind 3 && eqb s.object p)
    || ((eqb s.kind 5 && (eqb s.object p && lt_z ((found t).counter p) (pos 1)))
    || ((eqb s.kind 21 || eqb s.kind 22) && eqb (16 + s.object) p))

abbrev pub signals_in : ℕ → List Moment → ℕ
signals_in p ms = how_many (λ m. is_accepted m && signals_at p m.before m.step) ms

-- a thread of higher priority than i that begins to wait at p: 2 and 20, where the timeout is not 0
abbrev pub joins_at : ℕ → ℕ → Step → Bool
joins_at p i s =
    ltb s.caller i
    && (not (eqb s.timeout 0) && ((eqb s.kind 2 && eqb s.object p) || (eqb s.kind 20 && eqb (16 + s.object) p)))

abbrev pub joins_in : ℕ → ℕ → List Moment → Bool
joins_in p i ms = any_of (λ m. is_accepted m && joins_at p i m.step) ms

-- the waiters at p of higher priority than i
abbrev pub higher : Tables → ℕ → ℕ → ℕ
higher t p i = number (is_queued (found t) p) i

-- thread i is woken in some moment of a run, and in none before it; P says of that moment and of the message and the cause in i's record
-- what holds then
pub data WokenIn (i : ℕ) (P : Moment → ℤ → ℕ → Type 0) : List Moment → Type 0 where
  now : {m : Moment} {ms : List Moment} → m.result.code ≡ 0 → in_mask i m.result.woken ≡ true → P m (row_of m.after i).message (row_of m.after i).cause
      → WokenIn i P (m ∷ ms)
  later : {m : Moment} {ms : List Moment} → in_mask i m.result.woken ≡ false → WokenIn i P ms → WokenIn i P (m ∷ ms)

-- the waking of a waiter at a semaphore or a pool, whose record was a: "with 0 unless its timeout or a reset made it ready sooner".
-- Its record names the cause: 0 is with 1 signal, -1 with 8 tick, -2 with 7 reset
pub data TurnOf (p : ℕ) (a : Thread) (s : Step) : ℤ → ℕ → Type 0 where
  signal : (s.kind ≡ 3) ⊎ (s.kind ≡ 5) → s.object ≡ p → TurnOf p a s (pos 0) 1
  object : (s.kind ≡ 21) ⊎ (s.kind ≡ 22) → 16 + s.object ≡ p → TurnOf p a s (pos 0) 1
  last-tick : s.kind ≡ 1 → a.remaining ≡ 1 → TurnOf p a s (negsuc 0) 8
  -- of a semaphore only
  reset : s.kind ≡ 4 → s.object ≡ p → p < 16 → TurnOf p a s (negsuc 1) 7

-- the timeout of a sleep that thread i begins in the step s, on the tables t: of the step's own call, if i is its caller; else of the mailbox call
-- that its record kept, which sleeps again "with its FULL timeout"
abbrev pub begun_with : Tables → Clock → Step → ℕ → ℕ
begun_with t c s i = cond (eqb s.caller i) (span_of c.time s) (row_of t i).call.timeout

-- of thread i, woken in the moment m: its waking is one that the papers give it there
abbrev pub WakingOf : ℕ → Moment → ℤ → ℕ → Type 0
WakingOf i m x o = WokenBy m.before m.step i (row_of m.before i) x o

-- of a waiter i at p: it is its turn
abbrev pub TurnAt : ℕ → ℕ → Moment → ℤ → ℕ → Type 0
TurnAt p i m x o = TurnOf p (row_of m.before i) m.step x o
