-- A mask of flags, digit by digit.
use Rattle.std.specs.Prelude.{ℕ, zero, suc, ◌+◌, ◌*◌, ◌/◌, ◌%◌, ◌^◌, ◌≡◌, Bool, false, List, [], ◌∷◌, get_or}
use Rattle.std.proofs.Common.{arith}
use Rattle.kernel.specs.Walk.{bit}
use Rattle.kernel.proofs.WalkLaws.{bit_le}
use Rattle.kernel.proofs.WordsLaws.{digit-none, digit_low, digit-half}
use Rattle.steps.specs.Stepping.{mask_of}

-- bit i of a mask is flag i
pub mask-digit : (l : List Bool) (i : ℕ) → mask_of l / 2 ^ i % 2 ≡ bit (get_or l i false)
unfolding mask_of
mask-digit [] i = digit-none i
mask-digit (b ∷ l) zero = rw (digit_low (mask_of l * 2 + bit b)) (omega (arith, bit_le b))
mask-digit (b ∷ l) (suc i) =
    let half : (mask_of l * 2 + bit b) / 2 ≡ mask_of l = omega (arith, bit_le b) in
    rw (digit-half (mask_of l * 2 + bit b) i, half) (mask-digit l i)
