-- Numbers in decimal: a byte a digit, 48 for 0, the highest first.
use Rattle.std.specs.Prelude.{ℕ, zero, suc, ◌+◌, ◌/◌, ◌%◌, cond, List, [], ◌∷◌, ◌++◌, ltb}

-- at most so many digits
unfoldable pub digits_n : ℕ → ℕ → List ℕ
digits_n zero n = []
digits_n (suc f) n = cond (ltb n 10) ((48 + n) ∷ []) (digits_n f (n / 10) ++ ((48 + n % 10) ∷ []))

-- a number has fewer digits than its successor says
unfoldable pub decimal : ℕ → List ℕ
decimal n = digits_n (suc n) n
