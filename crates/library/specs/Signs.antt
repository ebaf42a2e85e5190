-- Signed counters and messages compared.
use Rattle.std.specs.Prelude.{ℕ, Bool, not, ◌&&◌, ℤ, pos, ◌-ℤ◌}
use Rattle.std.specs.Int.Signed.{lt_z}

-- neither is below the other
abbrev pub same : ℤ → ℤ → Bool
same a b = not (lt_z a b) && not (lt_z b a)

-- -n
abbrev pub minus : ℕ → ℤ
minus n = pos 0 -ℤ pos n
