-- What a list makes of tables: entry i is the five numbers from 5 * i on, and its new number is stored in the field that it names. Any list
-- and any tables have a result: an entry that names no field is passed over, a number too large for its field is cut to its width.
use Rattle.std.specs.Prelude.{ℕ, ◌+◌, ◌*◌, ◌/◌, ◌%◌, Bool, cond, not, List, ltb, length, get_or}
use Rattle.kernel.specs.Walk.{each, count_of}
use Rattle.compare.specs.declared.cells.Kept.{Kept}
use Rattle.compare.specs.declared.applying.Applied.{Applied}
use Rattle.compare.specs.Changes.{Change, applied}
use Rattle.compare.specs.Cells.{stored}
use Rattle.compare.specs.Held.{limit_of}
use Rattle.compare.specs.Order.{fields, called, place_named, cell_of}
use Rattle.compare.specs.Renewed.{renewed}

-- v stored in the field k of the order
abbrev pub stored_in : Kept → ℕ → ℕ → Kept
stored_in a k v = stored a (cell_of k) (v % limit_of (cell_of k))

-- a list of changes, entry by entry
unfoldable pub applied_to : Kept → List Change → Kept
applied_to a l = applied stored_in a l

-- which field entry i names
abbrev pub place_at : List ℕ → ℕ → ℕ
place_at l i = place_named (called (get_or l (i * 5) 0) (get_or l (i * 5 + 1) 0) (get_or l (i * 5 + 2) 0))

abbrev pub is_field : ℕ → Bool
is_field k = ltb k fields

unfoldable pub stored_named : Kept → ℕ → ℕ → Kept
stored_named a k v = cond (is_field k) (stored_in a k v) a

-- the first n entries
unfoldable pub applied_numbers : Kept → List ℕ → ℕ → Kept
applied_numbers a l n = each n (λ i x. stored_named x (place_at l i) (get_or l (i * 5 + 4) 0)) a

-- how many of them were passed over
abbrev pub passed_over : List ℕ → ℕ → ℕ
passed_over l n = count_of (λ i. not (is_field (place_at l i))) n

unfoldable pub applied_list : Kept → List ℕ → Applied
applied_list a l = record { kept = renewed (applied_numbers a l (length l / 5)); passed = passed_over l (length l / 5) }
