-- Flags as a word: its size, and one flag more in front.
use Prim.Native.Nat.{ℕ, zero, suc, ◌+◌, ◌*◌, ◌-◌, ◌≤◌, ◌<◌, ◌^◌}
use native.Mathlib.Nat.{pow-suc, lt_of_lt_of_le}
use native.Mathlib.Omega.{arith}
use mathlib.Core.Path.{◌≡◌}
use mathlib.Core.Bool.{Bool, true, false}
use mathlib.Core.List.{List, [], ◌∷◌}
use lib.ListN.{length, get_or, drop, length-drop}
use lib.Seq.{drop-cons}
use lib.Pow.{pow_mono}
use Rattle.std.specs.Int.{from_bool}
use Rattle.kernel.specs.Walk.{bit}
use Rattle.kernel.proofs.WalkLaws.{bit_le}
use Rattle.steps.specs.Stepping.{mask_of}

-- a flag as a number
pub flag_le : (b : Bool) → from_bool b ≤ 1
flag_le true = omega arith
flag_le false = omega arith

mask_lt : (l : List Bool) → mask_of l < 2 ^ length l
unfolding mask_of
mask_lt [] = omega arith
mask_lt (b ∷ l) = rw pow-suc (omega (arith, mask_lt l, bit_le b))

-- a word of fewer than sixteen flags has room for one more
pub mask-room : (l : List Bool) (i : ℕ) → length l ≡ 16 → 0 < i → mask_of (drop i l) < 32768
mask-room l i e h =
    let short : length (drop i l) ≤ 15 = rw length-drop (omega arith) in
    lt_of_lt_of_le (mask_lt (drop i l)) (pow_mono short)

-- the flag before i comes in front of those from i on
pub mask-more : (l : List Bool) (i : ℕ) → length l ≡ 16 → 0 < i → i ≤ 16 → mask_of (drop i l) * 2 + bit (get_or l (i - 1) false) ≡ mask_of (drop (i - 1) l)
unfolding mask_of
mask-more l zero e h g = absurd (omega arith)
mask-more l (suc i) e h g =
    let back : suc i - 1 ≡ i = omega arith in
    rw (back, drop-cons l i false (omega arith))
