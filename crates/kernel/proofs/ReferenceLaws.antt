-- Reference r holds i exactly if i is suspended on r, as an equation of two tests. Who is made ready leaves both sides, who is
-- suspended on an empty reference joins both, and nobody else's side changes.
use Rattle.std.proofs.Common.{◌≡◌, ℕ, false, length, ℤ}
use Rattle.kernel.specs.declared.records.Kernel.{Kernel}
use Rattle.kernel.specs.Tables.{thread_at, holder_at}
use Rattle.kernel.specs.Moves.{woken}
use Rattle.kernel.specs.Reference.{resumed}
use Rattle.kernel.proofs.Cases.{in-or-out}
use Rattle.kernel.proofs.TablesLaws.{SameSizes, thread-blank}
use Rattle.kernel.proofs.MovesLaws.{suspended_at, wake-row, wake-sizes}

-- ---- a waking

module _ (k : Kernel) (i : ℕ) (m : ℤ) where
  -- who is made ready is suspended on nothing
  pub wake-unsuspended : (r : ℕ) → suspended_at r (thread_at (woken k i m) i) ≡ false
  wake-unsuspended r =
      in-or-out i (length k.threads) (λ h. rw (wake-row k i m h))
      (λ h. rw (thread-blank (woken k i m) i (rw (wake-sizes k i m).threads h)))

-- ---- resume

module _ (k : Kernel) (r : ℕ) (m : ℤ) where
  -- the tables keep their lengths
  pub resume-sizes : SameSizes k (resumed k r m)
  unfolding resumed
  resume-sizes = wake-sizes k (holder_at k r) m
