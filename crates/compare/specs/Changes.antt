-- What differs between two readings of numbered fields, and what a list of differences makes of the first. For any fields and any number
-- of them: nothing here knows what a table is.
use Rattle.std.specs.Prelude.{ℕ, zero, suc, ◌<◌, Bool, cond, not, ◌&&◌, List, [], ◌∷◌, ◌++◌, eqb, length, get_or}

-- the fields of one set of tables, in the order of the docs: what each holds, and whether it counts
pub record Reading : Type 0 where
  pub value : ℕ → ℕ
  pub counts : ℕ → Bool

-- "one entry for each field that differs, with .. the field, old and new"
pub record Change : Type 0 where
  pub at : ℕ
  pub old : ℕ
  pub new : ℕ

-- "one used only in the second is listed .., one used only in the first not at all"; one used in both where it holds something else
abbrev pub differs : Reading → Reading → ℕ → Bool
differs a b k = b.counts k && not (a.counts k && eqb (a.value k) (b.value k))

-- ".. with old 0"
abbrev pub change_at : Reading → Reading → ℕ → Change
change_at a b k = record { at = k; old = cond (a.counts k) (a.value k) 0; new = b.value k }

-- the list of the first n fields, in their order
unfoldable pub changes : Reading → Reading → ℕ → List Change
changes a b zero = []
changes a b (suc n) = changes a b n ++ cond (differs a b n) (change_at a b n ∷ []) []

-- a list applied, entry by entry; store x k v is x with v in the field k
unfoldable pub applied : {A : Type 0} → (A → ℕ → ℕ → A) → A → List Change → A
applied store x [] = x
applied store x (e ∷ l) = applied store (store x e.at e.new) l

-- the entries stand in the order of their fields, and so none stands there twice
pub record Ordered (l : List Change) (n : ℕ) : Type 0 where
  pub below : (i : ℕ) → i < length l → (d : Change) → (get_or l i d).at < n
  pub rising : (i j : ℕ) → i < j → j < length l → (d : Change) → (get_or l i d).at < (get_or l j d).at
