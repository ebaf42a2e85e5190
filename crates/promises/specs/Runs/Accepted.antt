-- What an accepted step finds: tables that hang together, a caller that runs, an object that is there; and what its own act leaves before settling.
use Rattle.std.specs.Prelude.{ℕ, ◌≤◌, ◌<◌, ◌≡◌, refl, ◌≢◌}
use Rattle.std.proofs.Common.{arith, sym, ◌∙◌, inl, inr}
use Rattle.kernel.specs.declared.clock.Clock.{Clock}
use Rattle.kernel.proofs.Cases.{in-or-out}
use Rattle.library.specs.declared.calls.Step.{Step}
use Rattle.library.specs.declared.tables.Tables.{Tables}
use Rattle.library.specs.Acting.{acted}
use Rattle.library.specs.Tables.{opened}
use Rattle.steps.specs.Refusal.{refusal_of}
use Rattle.steps.specs.Stepping.{started, stepped}
use Rattle.steps.proofs.StepLaws.{step-code}
use Rattle.promises.specs.Paper.World.{World, found, First}
use Rattle.promises.specs.Paper.Host.{Host}
use Rattle.promises.specs.Paper.Rows.{Act}
use Rattle.promises.specs.Paper.Together.{ThreadFits, HangTogether}
use Rattle.promises.specs.Paper.Refusals.{Broken}
use Rattle.promises.specs.Paper.Waking.{row_of, SleeperAfter}
use Rattle.promises.specs.Kept.Accepting.{refusal-none}
use Rattle.promises.specs.Meant.Together.{rules-together}
use Rattle.promises.specs.Meant.Callers.{caller_runs}
use Rattle.promises.specs.Meant.Refusals.{first-broken}
use Rattle.promises.specs.Meant.Moves.{world_of}
use Rattle.promises.specs.Meant.Rows.{act-is}
use Rattle.promises.specs.Meant.Step.{hangs, begun-whole}
use Rattle.promises.specs.Runs.Keeping.{KeepsAct, act-keeps}
use Rattle.promises.specs.Runs.OneRow.{Steady}
use Rattle.promises.specs.Runs.Sleepers.{life-keeps}

module _ (t : Tables) (c : Clock) (s : Step) (host : Host t c s) (e : (stepped t c s).outcome.code ≡ 0) where
  pub accepted : refusal_of (opened t) c s ≡ 0
  accepted = sym (step-code t c s) ∙ e

  pub unbroken : (m : ℕ) → Broken t c s m → ⊥
  unbroken = (first-broken t c s host.tables.threads host.step.object).none accepted

  -- its tables hang together
  pub together : HangTogether (found t) t.kernel.words c
  together = rules-together t c (hangs t c s host accepted).together

  -- a calling thread is the one that runs
  pub caller-first : s.caller ≢ 255 → First (found t) s.caller
  caller-first z =
      elim (caller_runs (opened t) c s (refusal-none (opened t) c s accepted)) [
        | inl x ↦ absurd (z x)
        | inr f ↦ record { thread = f.thread; is-ready = f.is-ready; first = f.first }
      ]

  -- the object that it names is there
  pub semaphore-there : 2 ≤ s.kind → s.kind ≤ 5 → s.object < t.sizes.semaphores
  semaphore-there a b = in-or-out s.object t.sizes.semaphores (λ l. l) (λ l. absurd (unbroken 5 (Broken.semaphore a b l)))

  pub queue-there : 6 ≤ s.kind → s.kind ≤ 8 → s.object < t.sizes.queues
  queue-there a b = in-or-out s.object t.sizes.queues (λ l. l) (λ l. absurd (unbroken 5 (Broken.queue a b l)))

  pub mailbox-there : 15 ≤ s.kind → s.kind ≤ 19 → s.object < t.sizes.mailboxes
  mailbox-there a b = in-or-out s.object t.sizes.mailboxes (λ l. l) (λ l. absurd (unbroken 5 (Broken.mailbox a b l)))

  pub pool-there : 20 ≤ s.kind → s.kind ≤ 22 → s.object < t.sizes.pools
  pool-there a b = in-or-out s.object t.sizes.pools (λ l. l) (λ l. absurd (unbroken 5 (Broken.pool a b l)))

  -- whom a reference holds is suspended on it
  pub held : (i : ℕ) → s.kind ≡ 10 → (found t).holder s.object ≡ i → i ≢ 255
      → (((found t).thread i).state ≡ 2) × (((found t).thread i).place ≡ s.object)
  held i k x d =
      let there : s.object < t.sizes.references = in_use in
      elim (together.holder s.object there) [
        | inl a ↦ absurd (d (sym x ∙ a))
        | inr a ↦ (together.holds s.object there i (rw x at a)).0 x
      ]
    where
      in_use : s.object < t.sizes.references
      in_use =
          in-or-out s.object t.sizes.references (λ l. l)
          (λ l. absurd (unbroken 5 (Broken.reference (omega (arith, k)) (omega (arith, k)) l)))

  -- the tables after the step's own act
  abbrev pub x₀ : World
  x₀ = world_of (acted (started t s) c.time s)

  pub act : Act t c.time s x₀ s.kind
  act = act-is t c s (begun-whole t c s host accepted) host.step.operand accepted

  -- what each move of the act keeps, it leaves
  pub acts : (P : World → Type 0) → KeepsAct t s P → P x₀
  acts P k = act-keeps t s P k c.time held refl act

  pub few : t.sizes.threads ≤ 16
  few = (hangs t c s host accepted).together.good.sizes.threads.1

  -- ---- of one thread

  module _ (i : ℕ) (within : i < t.sizes.threads) where
    pub someone : i ≢ 255
    someone z = omega (arith, z, within, few)

    pub fits : ThreadFits t.sizes (row_of t i)
    fits = together.threads i within

    -- a thread that sleeps is not the caller, for it does not run
    pub apart : (row_of t i).state ≢ 0 → i ≢ s.caller
    apart n z = n (rw z (caller-first (rw z at someone)).is-ready)

    -- how it stands before settling
    pub sleeper-acted : (row_of t i).state ≢ 0 → SleeperAfter t s i (x₀.thread i) (x₀.woken i) (x₀.finished i)
    sleeper-acted n = (acts (Steady t s i someone (SleeperAfter t s i)) (life-keeps t s i someone within n (apart n)).act).1
