-- Signed numbers of 32 bits, read back from their bits.
use Rattle.std.proofs.Common.{◌≡◌, ◌<◌, ℤ, to_z-of_z, w32, to_z, of_z}
use lib.Signed.{mag}

-- a signed number that crosses a call is read back from its bits
pub signed : {z : ℤ} → mag z < 2147483648 → to_z w32 (of_z w32 z) ≡ z
signed h = to_z-of_z {w = w32} (record { sfits = h })
