-- The test of a ring's positions says exactly what the rules of positions say.
use Prim.Native.Nat.{ℕ, ◌+◌, ◌%◌, ◌≤◌, ◌<◌}
use native.Mathlib.Omega.{arith}
use mathlib.Core.Path.{◌≡◌}
use mathlib.Core.Bool.{true}
use Rattle.library.specs.declared.ring.Positions.{Positions}
use Rattle.library.specs.Ring.{positions_fit}

-- the rules, for a ring of so many slots
pub record Fitting (q : Positions) (slots : ℕ) : Type 0 where
  -- "places, counts (a mailbox's 0 to its slots) .. are in range"
  pub count : q.count ≤ slots
  pub read : q.read < slots
  pub write : q.write < slots
  -- "A mailbox's write place is its read place plus its count, modulo slots"
  pub follows : q.write ≡ (q.read + q.count) % slots

module _ (q : Positions) (slots : ℕ) where
  pub fit-means : positions_fit q slots ≡ true → Fitting q slots
  unfolding positions_fit
  fit-means e = record {
    count = grind arith;
    read = grind arith;
    write = grind arith;
    follows = grind arith;
  }

  pub fit_of : Fitting q slots → positions_fit q slots ≡ true
  unfolding positions_fit
  fit_of g = let a = g.count in let b = g.read in let c = g.write in let d = g.follows in grind arith
