-- A number as k bytes, "big-endian".
use Rattle.std.specs.Prelude.{ℕ, zero, suc, ◌+◌, ◌*◌, ◌/◌, ◌%◌, cond, List, [], ◌∷◌, ◌++◌, leb, length, get_or}
use Rattle.std.proofs.lemmas.List.Edits.{sets}

-- the last k bytes of a number, the highest first
abbrev pub bytes_n : ℕ → ℕ → List ℕ
bytes_n zero x = []
bytes_n (suc k) x = bytes_n k (x / 256) ++ (x % 256 ∷ [])

-- the number that the k bytes from a place on make; past the end stand zeros
unfoldable pub get_n : ℕ → List ℕ → ℕ → ℕ
get_n zero l at = 0
get_n (suc k) l at = get_n k l at * 256 + get_or l (at + k) 0

-- the bytes with some from a place on; nothing is written where they do not fit
abbrev pub put_bytes : List ℕ → ℕ → List ℕ → List ℕ
put_bytes l at bytes = cond (leb (at + length bytes) (length l)) (sets l at bytes) l

-- the bytes with the number's k from a place on; nothing is written where they do not fit
unfoldable pub put_n : ℕ → List ℕ → ℕ → ℕ → List ℕ
put_n k l at x = cond (leb (at + k) (length l)) (sets l at (bytes_n k x)) l
