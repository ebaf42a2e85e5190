-- Signed numbers of 32 bits by their bits.
use Prim.Native.Nat.{ℕ, ◌<◌}
use mathlib.Core.Path.{◌≡◌}
use lib.IntN.{pos}
use mir.Syntax.{w32}
use mir.Val.{to_z}
use borrow.Author.Tests.{lt-ltb}

-- the lower half of the bits stands for the numbers themselves
pub lower : (n : ℕ) → n < 2147483648 → to_z w32 n ≡ pos n
lower n h = rw (lt-ltb n 2147483648 h)
