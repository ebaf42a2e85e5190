-- Causes of a waking, with document 02's numbers.
use Rattle.std.specs.Prelude.{ℕ, ◌≡◌, ◌<◌, Result, MatchResult}
use Rattle.kernel.specs.declared.refusals.Refusal.{Refusal}
use Rattle.kernel.specs.declared.refusals.Refusal.TheVariants.{Tables}
use Rattle.kernel.specs.declared.causes.Cause.{Cause}
use Rattle.kernel.specs.declared.causes.Cause.TheVariants

-- the number of a cause
abbrev pub cause_number : Cause → ℕ
cause_number TheVariants.None = 0
cause_number TheVariants.Signal = 1
cause_number TheVariants.Release = 2
cause_number TheVariants.Resume = 3
cause_number TheVariants.Event = 4
cause_number TheVariants.Post = 5
cause_number TheVariants.Fetch = 6
cause_number TheVariants.Reset = 7
cause_number TheVariants.Tick = 8

-- the cause with this number, or refusal 1 for a number that is none's
abbrev pub Decodes : ℕ → Result Cause Refusal → Type 0
Decodes n r = MatchResult r (λ cause. cause_number cause ≡ n) (λ why. (why ≡ Tables) × (8 < n))
