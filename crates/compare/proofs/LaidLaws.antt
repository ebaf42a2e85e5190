-- The bytes of what is kept: the widths of places, where each number lies, and what is read and written there.
use Prim.Native.Nat.{ℕ, zero, suc, ◌+◌, ◌*◌, ◌^◌, ◌≤◌}
use native.Mathlib.Numerals.{add-one}
use native.Mathlib.Omega.{arith}
use mathlib.Core.Path.{◌≡◌, refl, sym, ap, ◌∙◌}
use mathlib.Core.Bool.{Bool, true, ◌||◌}
use mathlib.Core.List.{List, ◌++◌, append_assoc, append-nil}
use lib.Dec.{eqb}
use lib.ListN.{length, take, drop, length-append, take-append-drop}
use lib.Seq.{sets, length-take-le}
use borrow.Author.Tests.{eqb-true, ne_eqb, le-ltb}
use Rattle.kernel.specs.Walk.{all_from}
use Rattle.kernel.proofs.Cases.{in-or-out, same_or}
use Rattle.kernel.proofs.WalkLaws.{all-at}
use Rattle.compare.specs.declared.cells.Kept.{Kept}
use Rattle.compare.specs.Cells.{
  counters_at,
  references_at,
  words_at,
  steps_at,
  mailboxes_at,
  pools_at,
  sizes_at,
  clock_at,
  cell_count,
  cell_at,
  stored,
}
use Rattle.compare.specs.Held.{limit_of}
use Rattle.compare.specs.Bytes.{bytes_of, number_at, number_put}
use Rattle.compare.specs.Compared.{written}
use Rattle.compare.specs.Laid.{width_of, offset_of, tables_length, clock_length, image_of, places_read, places_put}
use Rattle.compare.proofs.CellsLaws.{wide-clock}
use Rattle.compare.proofs.BytesLaws.{length-bytes, length-put, put-fits}
use Rattle.compare.proofs.ListLaws.{write-more}

-- ---- widths

-- past the tables all numbers are of four bytes
pub clock-width : (i : ℕ) → clock_at ≤ i → width_of i ≡ 4
unfolding width_of
clock-width i g = rw (le-ltb i counters_at (omega arith), le-ltb i references_at (omega arith), le-ltb i words_at (omega arith), le-ltb i steps_at (omega arith), le-ltb i mailboxes_at (omega arith), le-ltb i pools_at (omega arith), le-ltb i sizes_at (omega arith), le-ltb i clock_at (omega arith))

widths-limits : all_from (λ i. eqb (limit_of i) (256 ^ width_of i)) 0 clock_at ≡ true
unfolding width_of limit_of all_from
widths-limits = refl

-- so many bytes are what a place holds
pub limit-width : (i : ℕ) → limit_of i ≡ 256 ^ width_of i
limit-width i =
    in-or-out i clock_at
    (λ h. eqb-true (limit_of i) (256 ^ width_of i) (all-at (λ i. eqb (limit_of i) (256 ^ width_of i)) clock_at i widths-limits h))
    (λ g. wide-clock i g ∙ ap (λ (w : ℕ). 256 ^ w) (sym (clock-width i g)))

abbrev is_width : ℕ → Bool
is_width w = eqb w 1 || (eqb w 2 || eqb w 4)

widths-few : all_from (λ i. is_width (width_of i)) 0 clock_at ≡ true
unfolding width_of all_from
widths-few = refl

width_few : (i : ℕ) → is_width (width_of i) ≡ true
width_few i = in-or-out i clock_at (λ h. all-at (λ i. is_width (width_of i)) clock_at i widths-few h) (λ g. ap is_width (clock-width i g))

-- a width that is not 1 and not 2 is 4, in the form in which code meets it
pub width_four : (w i : ℕ) → w ≡ width_of i → (w ≡ 1 → ⊥) → (w ≡ 2 → ⊥) → w ≡ 4
width_four w i e one two =
    let few : is_width w ≡ true = ap is_width e ∙ width_few i in
    eqb-true w 4 (rw (ne_eqb w 1 one, ne_eqb w 2 two) at few)

pub width-le : (i : ℕ) → width_of i ≤ 4
width-le i =
    let w = width_of i in
    same_or w 1 (λ e. omega arith) (λ one. same_or w 2 (λ e. omega arith) (λ two. omega (arith, width_four w i refl one two)))

pub offset-le : (i : ℕ) → offset_of i ≤ 4 * i
unfolding offset_of
offset-le zero = omega arith
offset-le (suc i) = omega (arith, offset-le i, width-le i)

pub offset-next : (i : ℕ) → offset_of (i + 1) ≡ offset_of i + width_of i
unfolding offset_of
offset-next i = rw (add-one i)

-- ---- one place more, in the form in which code meets it

pub read_next : (l : List ℕ) (i at v : ℕ) (a r : Kept) → at ≡ offset_of i → a ≡ places_read l i → v ≡ number_at (width_of i) l at
    → r ≡ stored a i v → r ≡ places_read l (i + 1)
unfolding places_read
read_next l i at v a r place so_far number e = rw (e, number, place, so_far, add-one i)

pub put_next : (a : Kept) (i from at x : ℕ) (l s r : List ℕ) → at ≡ from + offset_of i → s ≡ places_put a i l from → x ≡ cell_at a i
    → r ≡ number_put (width_of i) s at x → r ≡ places_put a (i + 1) l from
unfolding places_put
put_next a i from at x l s r place so_far number e = rw (e, number, place, so_far, add-one i)

pub length-places : (a : Kept) (n : ℕ) (l : List ℕ) (from : ℕ) → length (places_put a n l from) ≡ length l
unfolding places_put
length-places a zero l from = refl
length-places a (suc n) l from =
    length-put (width_of n) (places_put a n l from) (from + offset_of n) (cell_at a n) ∙ length-places a n l from

-- ---- the bytes in a row

pub length-image : (a : Kept) (n : ℕ) → length (image_of a n) ≡ offset_of n
unfolding image_of offset_of
length-image a zero = refl
length-image a (suc n) =
    length-append (image_of a n) (bytes_of (width_of n) (cell_at a n)) ∙ omega (arith, length-image a n, length-bytes (width_of n) (cell_at a n))

pub tables_end : offset_of clock_at ≡ tables_length
unfolding offset_of width_of
tables_end = refl

pub time-end : offset_of (clock_at + 1) ≡ tables_length + 4
unfolding offset_of width_of
time-end = refl

pub all_end : offset_of cell_count ≡ tables_length + clock_length
unfolding offset_of width_of
all_end = refl

-- with room for them, the numbers of the first n places stand as their bytes in a row
pub image-put : (a : Kept) (n : ℕ) (l : List ℕ) (from : ℕ) → from + offset_of n ≤ length l
    → places_put a n l from ≡ written (take from l ++ image_of a n) l
unfolding places_put image_of offset_of
image-put a zero l from h =
    sym (ap (λ (x : List ℕ). written x l) (append-nil (take from l))
    ∙ ap (λ (k : ℕ). take from l ++ drop k l) (length-take-le from l (omega arith))
    ∙ take-append-drop from l)
image-put a (suc n) l from h =
    let front = take from l ++ image_of a n in
    let bs = bytes_of (width_of n) (cell_at a n) in
    let size : length bs ≡ width_of n = length-bytes (width_of n) (cell_at a n) in
    let long : length front ≡ from + offset_of n =
    length-append (take from l) (image_of a n) ∙ omega (arith, length-take-le from l (omega arith), length-image a n) in
    let room : from + offset_of n + width_of n ≤ length (places_put a n l from) = omega (arith, length-places a n l from) in
    sym (put-fits (width_of n) (places_put a n l from) (from + offset_of n) (cell_at a n) room)
    ∙ ap (λ (x : List ℕ). sets x (from + offset_of n) bs) (image-put a n l from (omega arith))
    ∙ ap (λ (k : ℕ). sets (written front l) k bs) (sym long)
    ∙ write-more front bs l (omega arith)
    ∙ ap (λ (x : List ℕ). written x l) (append_assoc (take from l) (image_of a n) bs)
