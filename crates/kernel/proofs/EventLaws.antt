-- A signal of event flags touches one thread's row.
use Rattle.std.proofs.Common.{ℕ}
use Rattle.kernel.specs.declared.records.Thread.{Thread}
use Rattle.kernel.specs.declared.records.Kernel.{Kernel}
use Rattle.kernel.specs.Numbers.{ok}
use Rattle.kernel.specs.Tables.{thread_at, with_thread}
use Rattle.kernel.specs.Event.{flagged, is_met, event_signalled}
use Rattle.kernel.proofs.Cases.{chosen}
use Rattle.kernel.proofs.TablesLaws.{SameSizes, sizes-trans, thread-sizes}
use Rattle.kernel.proofs.MovesLaws.{wake-sizes}

module _ (k : Kernel) (i mask : ℕ) where
  abbrev row : Thread
  row = flagged (thread_at k i) mask

  abbrev told : Kernel
  told = with_thread k i row

  -- the tables keep their lengths
  pub event-signal-sizes : SameSizes k (event_signalled k i mask)
  unfolding event_signalled
  event-signal-sizes =
      chosen (SameSizes k) (is_met row)
      (λ e. sizes-trans (thread-sizes k i row) (wake-sizes told i ok))
      (λ e. thread-sizes k i row)
