-- DEMAND 3 a, of sleeps, from the step in which they begin and from fresh tables: what rests on `sleep-ends` (Top.Demands). It stands apart from the
-- other theorems so that an edit of that statement is refused for itself.
use Rattle.std.specs.Prelude.{ℕ, ◌≤◌, ◌<◌, ◌≡◌, ◌≢◌, List, Option}
use Rattle.kernel.specs.declared.clock.Clock.{Clock}
use Rattle.library.specs.declared.calls.Step.{Step}
use Rattle.library.specs.declared.sizes.Sizes.{Sizes}
use Rattle.library.specs.declared.tables.Tables.{Tables}
use Rattle.library.specs.Fresh.{made}
use Rattle.steps.specs.Stepping.{stepped}
use Rattle.promises.specs.Paper.Host.{HostSteps, Going, HostStep}
use Rattle.promises.specs.Paper.Waking.{row_of}
use Rattle.promises.specs.Paper.Run.{ticks_in, WokenIn, WakingOf, begun_with}
use Rattle.promises.specs.Paper.Fresh.{Legal}
use Rattle.promises.specs.Code.Steps.{moments, fresh_ran}
use Rattle.promises.specs.Runs.Moments.{going_on, begun}
use Rattle.promises.specs.Top.Demands.{sleep-ends, fresh-going, run-going}

-- a, from the step in which a sleep begins: its caller's own, with that step's timeout (12's interval), or a mailbox call's that sleeps again, with
-- its full one
module _ (t : Tables) (c : Clock) (g : Going t c) (s : Step) (h : HostStep s) (accepted : (stepped t c s).outcome.code ≡ 0) (ss : List Step) (hs : HostSteps ss) where
  abbrev pub u : Tables
  u = (stepped t c s).tables

  abbrev pub d : Clock
  d = (stepped t c s).clock

  pub begun-ends : (i : ℕ) → i < t.sizes.threads → (row_of t i).state ≡ 0 → (row_of u i).state ≢ 0 → begun_with t c s i ≤ 4294967294
      → begun_with t c s i ≤ ticks_in (moments u d ss) → WokenIn i (WakingOf i) (moments u d ss)
  begun-ends i l z n m r =
      let x = begun t c g s h accepted i l z n in
      sleep-ends u d (going_on t c g s h) ss hs i x.0 n (rw x.1 m) (rw x.1 r)

-- ---- from fresh tables of the sizes y, after any steps xs, over any steps ss

module _ (y : Sizes) (r : Option ℕ) (legal : Legal y r) (xs : List Step) (hx : HostSteps xs) where
  abbrev pub t₁ : Tables
  t₁ = (fresh_ran y r xs).tables

  abbrev pub c₁ : Clock
  c₁ = (fresh_ran y r xs).clock

  going : Going t₁ c₁
  going = run-going xs hx (made y r).tables (made y r).clock (fresh-going y r legal)

  module _ (ss : List Step) (hs : HostSteps ss) (i : ℕ) (within : i < t₁.sizes.threads) where
    -- "a sleep with timeout t ends by its t-th later accepted tick"
    pub demand-3a : (row_of t₁ i).state ≢ 0 → (row_of t₁ i).call.timeout ≤ 4294967294 → (row_of t₁ i).call.timeout ≤ ticks_in (moments t₁ c₁ ss)
        → WokenIn i (WakingOf i) (moments t₁ c₁ ss)
    demand-3a = sleep-ends t₁ c₁ going ss hs i within

    -- the same from the step in which it begins, which leaves s the tables u and the clock d
    pub demand-3a-begun : (s : Step) → HostStep s → (stepped t₁ c₁ s).outcome.code ≡ 0 → (row_of t₁ i).state ≡ 0
        → (row_of (stepped t₁ c₁ s).tables i).state ≢ 0 → begun_with t₁ c₁ s i ≤ 4294967294
        → begun_with t₁ c₁ s i ≤ ticks_in (moments (stepped t₁ c₁ s).tables (stepped t₁ c₁ s).clock ss)
        → WokenIn i (WakingOf i) (moments (stepped t₁ c₁ s).tables (stepped t₁ c₁ s).clock ss)
    demand-3a-begun s h e = begun-ends t₁ c₁ going s h e ss hs i within
