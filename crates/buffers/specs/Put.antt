-- Bytes at a place of a lent buffer. What does not fit is not written.
use Rattle.std.specs.Prelude.{ℕ, zero, suc, ◌+◌, ◌≡◌, cond, List, [], ◌++◌, ltb, length}
use Rattle.std.proofs.lemmas.List.Edits.{sets}
use Rattle.buffers.specs.declared.putting.Sheet.{Sheet}

-- the place behind k bytes from a place on, in a buffer of n: at most the buffer's end
unfoldable pub after : ℕ → ℕ → ℕ → ℕ
after n at zero = at
after n at (suc k) = after n (cond (ltb at n) (at + 1) at) k

-- the buffer l has become l' by the bytes at a place, and r is the place behind them
pub record Put (l l' : List ℕ) (at r : ℕ) (bytes : List ℕ) : Type 0 where
  pub buffer : l' ≡ sets l at bytes
  pub end : r ≡ after (length l) at (length bytes)

-- the bytes have been put on a sheet at its place, and it is still the same buffer's
pub record Puts (s t : Sheet) (bytes : List ℕ) : Type 0 where
  pub same : t.out.ghost_name ≡ s.out.ghost_name
  pub put : Put s.out.now t.out.now s.at t.at bytes

-- the texts of the numbers below n, one behind the other
unfoldable pub rows : ℕ → (ℕ → List ℕ) → List ℕ
rows zero f = []
rows (suc n) f = rows n f ++ f n
