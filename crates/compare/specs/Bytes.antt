-- A number as bytes, the lowest first.
use Rattle.std.specs.Prelude.{ℕ, zero, suc, ◌+◌, ◌*◌, ◌/◌, ◌%◌, ◌<◌, cond, List, [], ◌∷◌, leb, length, get_or}
use Rattle.std.proofs.lemmas.List.Edits.{sets}

-- each is one of the 256 that a byte can be
abbrev pub Bytes : List ℕ → Type 0
Bytes l = (i : ℕ) → get_or l i 0 < 256

-- the lowest w bytes of a number
unfoldable pub bytes_of : ℕ → ℕ → List ℕ
bytes_of zero x = []
bytes_of (suc w) x = x % 256 ∷ bytes_of w (x / 256)

-- the number that the w bytes from a place on make; past the end stand zeros
unfoldable pub number_at : ℕ → List ℕ → ℕ → ℕ
number_at zero l at = 0
number_at (suc w) l at = get_or l at 0 + 256 * number_at w l (suc at)

-- the list with the number's w bytes from a place on; nothing is written where they do not fit
unfoldable pub number_put : ℕ → List ℕ → ℕ → ℕ → List ℕ
number_put w l at x = cond (leb (at + w) (length l)) (sets l at (bytes_of w x)) l
