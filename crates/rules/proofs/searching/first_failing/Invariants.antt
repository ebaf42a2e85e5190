-- The invariant: the first row that fails is the first from i on.
use Rattle.std.proofs.Common.{◌≡◌, ℕ, Bool, ◌<◌, ◌-◌, not}
use Rattle.kernel.specs.Walk.{first_from}
use Rattle.rules.specs.Limits.{first_bad}
use Rattle.rules.proofs.searching.first_failing.Given as goal

abbrev pub invariant-loop-i : goal.invariant-loop-i
invariant-loop-i g l =
    (f : ℕ → Bool) → ((j : ℕ) → j < l.n → (b : Bool) → goal.F-post g l.fits j b → b ≡ f j) → first_bad f l.n ≡ first_from (λ j. not (f j)) l.i (l.n - l.i)
