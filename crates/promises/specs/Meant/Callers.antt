-- An accepted step has what its row asks for: its tables hang together, and its caller is the running thread or an interrupt.
use Rattle.std.specs.Prelude.{ℕ, ◌≤◌, ◌≡◌, ◌⊎◌, eqb}
use Rattle.std.proofs.Common.{◌∙◌, inl, inr, eqb-true}
use Rattle.kernel.specs.declared.clock.Clock.{Clock}
use Rattle.kernel.specs.declared.records.Kernel.{Kernel}
use Rattle.kernel.specs.Numbers.{nobody}
use Rattle.kernel.specs.Waiters.{first_ready}
use Rattle.library.specs.declared.calls.Step.{Step}
use Rattle.library.specs.declared.tables.Plant.{Plant}
use Rattle.promises.specs.Together.Tests.{either-means}
use Rattle.promises.specs.Together.Good.{RulesHold}
use Rattle.promises.specs.Together.Hanging.{test-hangs}
use Rattle.promises.specs.Kept.Accepting.{Accepted}
use Rattle.promises.specs.Meant.Settling.{FirstReady, NobodyReady, running-first}

module _ (p : Plant) (c : Clock) (s : Step) (a : Accepted p c s) where
  abbrev k : Kernel
  k = p.kernel

  abbrev n : ℕ
  n = p.sizes.threads

  abbrev i : ℕ
  i = s.caller

  -- its tables hang together
  pub whole : RulesHold p c
  whole = test-hangs p c a.hangs

  -- with at most 16 threads
  pub few : n ≤ 16
  few = whole.good.sizes.threads.1

  -- 3: the caller is an interrupt, or the first ready thread
  pub caller_runs : (i ≡ nobody) ⊎ FirstReady k n i
  caller_runs =
      elim (either-means (eqb i nobody) (eqb i (first_ready k)) a.caller) [
        | inl b ↦ inl (eqb-true i nobody b)
        | inr b ↦ of-running (eqb-true i (first_ready k) b) (running-first p whole.good)
      ]
    where
      of-running : i ≡ first_ready k → FirstReady k n (first_ready k) ⊎ NobodyReady k n (first_ready k) → (i ≡ nobody) ⊎ FirstReady k n i
      of-running e (inl f) = inr (rw e f)
      of-running e (inr f) = inl (e ∙ f.nobody)
