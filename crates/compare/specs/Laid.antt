-- What is kept as the bytes in which it lies: each number at its place, one behind the other without a gap.
use Rattle.std.specs.Prelude.{ℕ, zero, suc, ◌+◌, ◌-◌, ◌%◌, cond, List, [], ◌∷◌, ◌++◌, eqb, ltb, get_or}
use Rattle.kernel.specs.Walk.{each}
use Rattle.library.specs.Fresh.{fresh_tables, fresh_clock}
use Rattle.library.specs.Sizes.{no_sizes}
use Rattle.compare.specs.declared.cells.Kept.{Kept}
use Rattle.compare.specs.Cells.{counters_at, references_at, words_at, steps_at, mailboxes_at, pools_at, sizes_at, clock_at, cell_at, stored}
use Rattle.compare.specs.Bytes.{bytes_of, number_at, number_put}

-- ---- how many bytes the number at a place has

abbrev pub thread_widths : List ℕ
thread_widths = 2 ∷ 2 ∷ 4 ∷ 4 ∷ 4 ∷ 4 ∷ 2 ∷ 2 ∷ 4 ∷ 4 ∷ 4 ∷ 4 ∷ 4 ∷ 4 ∷ []

abbrev pub thread_width : ℕ → ℕ
thread_width f = get_or thread_widths f 4

abbrev pub box_width : ℕ → ℕ
box_width f = cond (ltb f 4) 2 4

abbrev pub pool_width : ℕ → ℕ
pool_width f = cond (eqb f 0) 2 1

unfoldable pub width_of : ℕ → ℕ
width_of i =
    cond (ltb i counters_at) (thread_width (i % 14))
    (cond (ltb i references_at) 4
    (cond (ltb i words_at) 1
    (cond (ltb i steps_at) 2
    (cond (ltb i mailboxes_at) 4
    (cond (ltb i pools_at) (box_width ((i - mailboxes_at) % 20))
    (cond (ltb i sizes_at) (pool_width ((i - pools_at) % 65)) (cond (ltb i clock_at) 2 4)))))))

-- where it begins
unfoldable pub offset_of : ℕ → ℕ
offset_of zero = 0
offset_of (suc i) = offset_of i + width_of i

-- so many bytes have the tables, and the clock
abbrev pub tables_length : ℕ
tables_length = 1572

abbrev pub clock_length : ℕ
clock_length = 8

-- the bytes of the first n places
unfoldable pub image_of : Kept → ℕ → List ℕ
image_of a zero = []
image_of a (suc n) = image_of a n ++ bytes_of (width_of n) (cell_at a n)

-- ---- read and written

-- the tables of no sizes, and a clock of no frequency
unfoldable pub blank_kept : Kept
blank_kept = record { tables = fresh_tables no_sizes; clock = fresh_clock 0 }

-- the numbers of the first n places, as they lie among the tables' bytes
unfoldable pub places_read : List ℕ → ℕ → Kept
places_read l n = each n (λ i a. stored a i (number_at (width_of i) l (offset_of i))) blank_kept

-- the tables' numbers, then the clock's two
unfoldable pub kept_of : List ℕ → List ℕ → Kept
kept_of t c = stored (stored (places_read t clock_at) clock_at (number_at 4 c 0)) (clock_at + 1) (number_at 4 c 4)

-- the numbers of the first n places, as they lie from a place on; one that passes the end is left out
unfoldable pub places_put : Kept → ℕ → List ℕ → ℕ → List ℕ
places_put a n l from = each n (λ i x. number_put (width_of i) x (from + offset_of i) (cell_at a i)) l

abbrev pub tables_put : Kept → List ℕ → List ℕ
tables_put a t = places_put a clock_at t 0

unfoldable pub clock_put : Kept → List ℕ → List ℕ
clock_put a c = number_put 4 (number_put 4 c 0 (cell_at a clock_at)) 4 (cell_at a (clock_at + 1))
