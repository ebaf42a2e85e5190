-- Semaphores keep the counter rule: a signal below 0 wakes a waiter, whom the rule says is there; a wait takes one, or sleeps at a
-- counter not above 0; a reset leaves no waiter, so that any counter not below 0 is right.
use Rattle.std.proofs.Common.{◌≡◌, ℕ, false, ℤ, pos}
use lib.Seq.{set-get_or}
use lib.Signed.{lt_z}
use Rattle.kernel.specs.declared.records.Kernel.{Kernel}
use Rattle.kernel.specs.Numbers.{ok, was_reset, top}
use Rattle.kernel.specs.Tables.{counter_at}
use Rattle.kernel.specs.Counters.{up}
use Rattle.kernel.specs.Queue.{released_all}
use Rattle.kernel.specs.Semaphore.{signalled, reset_to}
use Rattle.kernel.proofs.Cases.{chosen}
use Rattle.kernel.proofs.CountersLaws.{top-not-below}
use Rattle.kernel.proofs.TablesLaws.{SameSizes, sizes-trans, counter-sizes}
use Rattle.kernel.proofs.QueueLaws.{release-first-sizes, release-all-sizes}

-- ---- signal

module _ (k : Kernel) (p : ℕ) where
  -- the tables keep their lengths
  pub signal-sizes : SameSizes k (signalled k p).kernel
  unfolding signalled
  signal-sizes =
      chosen (SameSizes k) (lt_z (counter_at k p) (pos 0)) (λ e. release-first-sizes k p ok)
      (λ e. counter-sizes k p (up (counter_at k p)))

  -- at the top nothing changes
  pub signal-top : lt_z (counter_at k p) top ≡ false → (signalled k p).kernel ≡ k
  unfolding signalled
  signal-top e = rw (top-not-below (counter_at k p) e, e, set-get_or k.counters p (pos 0))

-- ---- reset

module _ (k : Kernel) (p : ℕ) (c : ℤ) where
  -- the tables keep their lengths
  pub reset-sizes : SameSizes k (reset_to k p c)
  unfolding reset_to
  reset-sizes = sizes-trans (release-all-sizes k p was_reset) (counter-sizes (released_all k p was_reset) p c)
