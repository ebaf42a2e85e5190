-- The laws of lists of differences, at the fields of the tables: each field lies at a place of its own, so a store into one shows in no other.
use Prim.Native.Nat.{ℕ, ◌%◌, ◌≤◌, ◌<◌}
use native.Mathlib.Nat.{mod-lt, mod-eq_of_lt}
use native.Mathlib.Omega.{arith}
use mathlib.Core.Path.{◌≡◌, refl, ◌∙◌}
use mathlib.Core.Logic.{◌≢◌}
use mathlib.Core.Bool.{true}
use lib.Dec.{leb}
use borrow.Author.Tests.{leb-true}
use Rattle.kernel.specs.Walk.{all_from}
use Rattle.kernel.proofs.WalkLaws.{all-at}
use Rattle.compare.specs.declared.cells.Kept.{Kept}
use Rattle.compare.specs.Changes.{Ordered}
use Rattle.compare.specs.Cells.{cell_count, cell_at}
use Rattle.compare.specs.Held.{limit_of, Held, AllWithin}
use Rattle.compare.specs.Order.{fields, cell_of, reading_of}
use Rattle.compare.specs.Compared.{changed}
use Rattle.compare.specs.Applied.{stored_in, applied_to}
use Rattle.compare.proofs.ChangesLaws.{After, applying-gives, changes-ordered}
use Rattle.compare.proofs.CellsLaws.{cell-own, cell_other, cell-held}
use Rattle.compare.proofs.OrderLaws.{cell-inside, cells-apart}

some-width : all_from (λ i. leb 1 (limit_of i)) 0 cell_count ≡ true
unfolding limit_of all_from
some-width = refl

-- each place holds some number
pub limit-some : (i : ℕ) → i < cell_count → 0 < limit_of i
limit-some i h = leb-true 1 (limit_of i) (all-at (λ i. leb 1 (limit_of i)) cell_count i some-width h)

-- a store into the field k of the order, of any number
module _ (x : Kept) (k v : ℕ) (held : Held x) (l : k < fields) where
  cut_fits : v % limit_of (cell_of k) < limit_of (cell_of k)
  cut_fits = mod-lt v (limit-some (cell_of k) (cell-inside k l))

  pub field-held : Held (stored_in x k v)
  field-held = cell-held x held (cell_of k) (v % limit_of (cell_of k)) cut_fits (cell-inside k l)

  pub field-own : cell_at (stored_in x k v) (cell_of k) ≡ v % limit_of (cell_of k)
  field-own = cell-own x held (cell_of k) (v % limit_of (cell_of k)) cut_fits (cell-inside k l)

  pub field-other : (j : ℕ) → j < fields → j ≢ k → cell_at (stored_in x k v) (cell_of j) ≡ cell_at x (cell_of j)
  field-other j m d =
      cell_other x held (cell_of k) (v % limit_of (cell_of k)) cut_fits (cell-inside k l) (cell_of j) (cell-inside j m) (cells-apart j k m l d)

  -- and at no other place, whether a field lies there or not
  pub field-elsewhere : (i : ℕ) → i < cell_count → i ≢ cell_of k → cell_at (stored_in x k v) i ≡ cell_at x i
  field-elsewhere i h d = cell_other x held (cell_of k) (v % limit_of (cell_of k)) cut_fits (cell-inside k l) i h d

module _ (a b : Kept) (held : Held a) (narrow : AllWithin b) (n : ℕ) (few : n ≤ fields) where
  -- the fields that count hold what the second's hold, and all others what the first's held
  applied-fields : After (λ x k. cell_at x (cell_of k)) stored_in Held (λ k v. v < limit_of (cell_of k)) n
      (λ x k v h l s. field-held x k v h (omega arith))
      (λ x k v h l s. field-own x k v h (omega arith) ∙ mod-eq_of_lt s)
      (λ x k v j h l s m d. field-other x k v h (omega arith) j (omega arith) d)
      a held (reading_of a) (reading_of b) (λ k l. refl) (λ k l. narrow (cell_of k) (cell-inside k (omega arith)))
      n (applied_to a (changed a b n))
  unfolding applied_to changed
  applied-fields =
      applying-gives (λ x k. cell_at x (cell_of k)) stored_in Held (λ k v. v < limit_of (cell_of k)) n
      (λ x k v h l s. field-held x k v h (omega arith))
      (λ x k v h l s. field-own x k v h (omega arith) ∙ mod-eq_of_lt s)
      (λ x k v j h l s m d. field-other x k v h (omega arith) j (omega arith) d)
      a held (reading_of a) (reading_of b) (λ k l. refl) (λ k l. narrow (cell_of k) (cell-inside k (omega arith)))
      n (omega arith)

  -- "Applying the list to the first .. must give the second"
  pub applying : (k : ℕ) → k < n → (reading_of b).counts k ≡ true → cell_at (applied_to a (changed a b n)) (cell_of k) ≡ cell_at b (cell_of k)
  applying k l c = applied-fields.done k l c

  pub applying-held : Held (applied_to a (changed a b n))
  applying-held = applied-fields.holds

-- "in the order threads, .."; none twice
pub in_order : (a b : Kept) (n : ℕ) → Ordered (changed a b n) n
unfolding changed
in_order a b n = changes-ordered (reading_of a) (reading_of b) n
