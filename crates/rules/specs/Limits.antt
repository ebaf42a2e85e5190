-- How many rows of a table are in use, as `used_rows` of the kernel part is for the threads; and what is said of each of them.
use Rattle.std.specs.Prelude.{ℕ, zero, suc, Bool, cond, not, List, [], ◌∷◌, ltb}
use Rattle.kernel.specs.Walk.{first_from}

-- n, or all the rows that there are
abbrev pub used_of : ℕ → ℕ → ℕ
used_of rows n = cond (ltb n rows) n rows

-- a number for each index below n, in order
unfoldable pub tabled : (ℕ → ℕ) → ℕ → List ℕ
tabled f zero = []
tabled f (suc n) = f 0 ∷ tabled (λ i. f (suc i)) n

-- the first of n rows that fails a test, or nobody
abbrev pub first_bad : (ℕ → Bool) → ℕ → ℕ
first_bad fits n = first_from (λ i. not (fits i)) 0 n
