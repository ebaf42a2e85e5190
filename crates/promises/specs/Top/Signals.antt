-- DOCUMENT 02, 6/13: SIGNAL AT THE TOP. What a signal answers is promised of any tables, clock and step of a host; that a pool's counter never
-- gets there of any run, refused steps included, from any tables that hang together, and so from fresh ones.
use Rattle.std.specs.Prelude.{ℕ, ◌+◌, ◌≤◌, ◌<◌, ◌≡◌, refl, false, List, ℤ, pos, negsuc, Option}
use Rattle.std.proofs.Common.{arith, inl, inr, le-ltb}
use Rattle.std.specs.Int.Signed.{lt_z}
use Rattle.kernel.specs.declared.clock.Clock.{Clock}
use Rattle.kernel.proofs.Cases.{same_or}
use Rattle.kernel.proofs.CountersLaws.{below_top}
use Rattle.library.specs.declared.calls.Step.{Step}
use Rattle.library.specs.declared.sizes.Sizes.{Sizes}
use Rattle.library.specs.declared.tables.Pool.{Pool}
use Rattle.library.specs.declared.tables.Tables.{Tables}
use Rattle.library.specs.Fresh.{made}
use Rattle.steps.specs.Stepping.{stepped}
use Rattle.promises.specs.Paper.World.{found}
use Rattle.promises.specs.Paper.Host.{Host, HostSteps, Going}
use Rattle.promises.specs.Paper.Refusals.{Broken}
use Rattle.promises.specs.Paper.Together.{larger, PoolFits}
use Rattle.promises.specs.Paper.Waking.{row_of}
use Rattle.promises.specs.Paper.Signals.{Counts, SignalTold}
use Rattle.promises.specs.Paper.Fresh.{Legal}
use Rattle.promises.specs.Code.Steps.{ran, fresh_ran}
use Rattle.promises.specs.Runs.Waiters.{waited-low}
use Rattle.promises.specs.Runs.Signals.{signal-is-told}
use Rattle.promises.specs.Top.Demands.{demand-1, fresh-going, run-going}

-- ---- one step

module _ (t : Tables) (c : Clock) (s : Step) (host : Host t c s) where
  -- "Refusals: the first case of 7 is struck out": a plain signal is refused with 1 to 5 alone
  pub signal-refusals : s.kind ≡ 3 → (stepped t c s).outcome.code ≤ 5
  signal-refusals k =
      same_or (stepped t c s).outcome.code 0 (λ e. omega (arith, e)) (λ n. by (((demand-1 t c s host).refused _ n).0 refl).0)
    where
      by : {n : ℕ} → Broken t c s n → n ≤ 5
      by (Broken.tables a) = omega arith
      by (Broken.no_kind a) = omega arith
      by (Broken.other-kind a) = omega arith
      by (Broken.caller a b) = omega arith
      by (Broken.tick a b) = omega arith
      by (Broken.wait a b) = omega arith
      by (Broken.box-wait a b d) = omega arith
      by (Broken.semaphore a b d) = omega arith
      by (Broken.queue a b d) = omega arith
      by (Broken.reference a b d) = omega arith
      by (Broken.thread a b) = omega arith
      by (Broken.mailbox a b d) = omega arith
      by (Broken.pool a b d) = omega arith
      by (Broken.reset a b) = absurd (omega (arith, k, a))
      by (Broken.pool-object (inl a) b) = absurd (omega (arith, k, a))
      by (Broken.pool-object (inr a) b) = absurd (omega (arith, k, a))
      by (Broken.mask a b) = absurd (omega (arith, k, a))
      by (Broken.sleep-for a b) = absurd (omega (arith, k, a))
      by (Broken.sleep-until a b) = absurd (omega (arith, k, a))
      by (Broken.suspend a b) = absurd (omega (arith, k, a))
      by (Broken.free a b d) = absurd (omega (arith, k, a))
      by (Broken.add a b d) = absurd (omega (arith, k, a))

  -- "answers message 1 in place of 0", at the top and nowhere else
  pub signal-told : (stepped t c s).outcome.code ≡ 0 → SignalTold t c s (stepped t c s)
  signal-told e = signal-is-told t c s host e

  -- of those that demand 3c counts: as long as a thread waits there, each plain signal that is accepted counts. None of them is at the top
  pub waiter-counts : (stepped t c s).outcome.code ≡ 0 → s.kind ≡ 3 → (i : ℕ) → i < t.sizes.threads → (row_of t i).state ≡ 3
      → (row_of t i).place ≡ s.object → Counts t s (stepped t c s)
  waiter-counts e k i l q p =
      (signal-told e).counts k (below_top ((found t).counter s.object) 0 (omega arith) (waited-low t c s host e s.object i l q p refl k))

-- ---- "a pool never gets there"

-- the larger of a counter and 0 is at most 32, and so is the counter
low : (c : ℤ) → larger c ≤ 32 → lt_z (pos 32) c ≡ false
low (pos m) l = le-ltb 32 m l
low (negsuc m) l = refl

pool-low : {c : ℤ} {x : Pool} {n : ℕ} → PoolFits x c n → lt_z (pos 32) c ≡ false
pool-low {c} g = low c (omega (arith, g.length, g.promises))

module _ (t : Tables) (c : Clock) (g : Going t c) (ss : List Step) (hs : HostSteps ss) where
  pub pools-low : (q : ℕ) → q < (ran t c ss).tables.sizes.pools → lt_z (pos 32) ((found (ran t c ss).tables).counter (16 + q)) ≡ false
  pools-low q l = pool-low ((run-going ss hs t c g).together.pools q l)

pub pools-low-fresh : (y : Sizes) (r : Option ℕ) (legal : Legal y r) (ss : List Step) → HostSteps ss → (q : ℕ)
    → q < (fresh_ran y r ss).tables.sizes.pools
    → lt_z (pos 32) ((found (fresh_ran y r ss).tables).counter (16 + q)) ≡ false
pools-low-fresh y r legal ss hs = pools-low (made y r).tables (made y r).clock (fresh-going y r legal) ss hs
