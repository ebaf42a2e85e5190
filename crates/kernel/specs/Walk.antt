-- Walks over indexes: a body run for each, the first that passes a test, whether all pass, how many pass. For any test and any number of indexes.
use Rattle.std.specs.Prelude.{ℕ, zero, suc, ◌+◌, Bool, true, false, cond, ◌&&◌}
use Rattle.kernel.specs.Numbers.{nobody}

-- a body run for the indexes 0 to n - 1, in this order
abbrev pub each : {A : Type 0} → ℕ → (ℕ → A → A) → A → A
each zero f a = a
each (suc n) f a = f n (each n f a)

-- the first of the n indexes from i on that passes, or nobody
unfoldable pub first_from : (ℕ → Bool) → ℕ → ℕ → ℕ
first_from f i zero = nobody
first_from f i (suc n) = cond (f i) i (first_from f (suc i) n)

-- all of the n indexes from i on pass
unfoldable pub all_from : (ℕ → Bool) → ℕ → ℕ → Bool
all_from f i zero = true
all_from f i (suc n) = f i && all_from f (suc i) n

abbrev pub bit : Bool → ℕ
bit true = 1
bit false = 0

-- how many of the indexes below n pass
unfoldable pub count_of : (ℕ → Bool) → ℕ → ℕ
count_of f zero = 0
count_of f (suc n) = count_of f n + bit (f n)
