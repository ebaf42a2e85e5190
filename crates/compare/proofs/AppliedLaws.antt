-- A list applied, in the form in which code meets it: one entry more.
use Prim.Native.Nat.{ℕ, ◌+◌, ◌*◌}
use native.Mathlib.Numerals.{add-one}
use mathlib.Core.Path.{◌≡◌, ◌∙◌}
use mathlib.Core.Bool.{not}
use mathlib.Core.List.{List}
use lib.ListN.{get_or}
use Rattle.kernel.specs.Walk.{bit, count_of}
use Rattle.compare.specs.declared.cells.Kept.{Kept}
use Rattle.compare.specs.Order.{called, place_named}
use Rattle.compare.specs.Applied.{is_field, stored_named, applied_numbers, passed_over}

module _ (l : List ℕ) (i k : ℕ) (named : k ≡ place_named (called (get_or l (i * 5) 0) (get_or l (i * 5 + 1) 0) (get_or l (i * 5 + 2) 0))) where
  pub apply-next : (a r s : Kept) → r ≡ applied_numbers a l i → s ≡ stored_named r k (get_or l (i * 5 + 4) 0) → s ≡ applied_numbers a l (i + 1)
  unfolding applied_numbers
  apply-next a r s so_far e = e ∙ rw (add-one i, so_far, named)

  pub passed-next : (n p : ℕ) → n ≡ passed_over l i → p ≡ bit (not (is_field k)) → n + p ≡ passed_over l (i + 1)
  unfolding count_of
  passed-next n p so_far e = rw (add-one i, so_far, e, named)
