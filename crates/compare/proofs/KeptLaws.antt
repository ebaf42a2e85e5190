-- What is read of bytes: each place holds the number that lies there, all is within its width, and written again it gives the same bytes.
use Prim.Native.Nat.{ℕ, zero, suc, ◌+◌, ◌≤◌, ◌<◌}
use native.Mathlib.Nat.{add-zero}
use native.Mathlib.Omega.{arith}
use mathlib.Core.Path.{◌≡◌, refl, sym, ap, ap₂, ◌∙◌, subst⁻¹}
use mathlib.Core.Bool.{true}
use mathlib.Core.List.{List, ◌++◌, append_assoc, append-nil}
use lib.Dec.{ltb}
use lib.IntN.{pos}
use lib.ListN.{length, get_or, take, drop, length-append, get_or-replicate, drop_of_length-le}
use lib.Seq.{take_all, take-add}
use borrow.Author.Tests.{ltb-true}
use Rattle.kernel.specs.Records.{blank}
use Rattle.kernel.specs.Walk.{all_from}
use Rattle.kernel.proofs.Cases.{in-or-out, same_or}
use Rattle.kernel.proofs.WalkLaws.{all-at}
use Rattle.library.specs.Sizes.{no_sizes}
use Rattle.library.specs.Tables.{blank_mailbox, blank_pool}
use Rattle.compare.specs.declared.cells.Kept.{Kept}
use Rattle.compare.specs.Cells.{
  clock_at,
  cell_count,
  thread_cells,
  box_head,
  sizes_head,
  thread_cell,
  box_cell,
  pool_cell,
  word_cell,
  size_cell,
  clock_cell,
  cell_at,
  stored,
}
use Rattle.compare.specs.Held.{halves, thread_limit, limit_of, Within, Signed, HeldThread, HeldBox, HeldPool, HeldSizes, Held, AllWithin}
use Rattle.compare.specs.Bytes.{Bytes, bytes_of, number_at}
use Rattle.compare.specs.Compared.{written}
use Rattle.compare.specs.Laid.{width_of, offset_of, tables_length, clock_length, image_of, blank_kept, places_read, kept_of, tables_put, clock_put}
use Rattle.compare.proofs.CellsLaws.{cell-own, cell_other, cell-held, wide-clock}
use Rattle.compare.proofs.BytesLaws.{length-bytes, number-left, number-right, number-bytes, number-below, bytes-number, bytes-append, bytes_left, bytes-right, bytes-bytes, put-pair}
use Rattle.compare.proofs.LaidLaws.{limit-width, clock-width, tables_end, time-end, all_end, length-places, length-image, image-put}
use Rattle.compare.proofs.ToldLaws.{kept-told}

-- ---- nothing kept is a host's

-- n numbers that are computed are within their limits
within : (n : ℕ) (limit : ℕ → ℕ) (v : List ℕ) → all_from (λ f. ltb (get_or v f 0) (limit f)) 0 n ≡ true → Within n limit v
within n limit v e f h = ltb-true (get_or v f 0) (limit f) (all-at (λ f. ltb (get_or v f 0) (limit f)) n f e h)

blank-thread : HeldThread blank
unfolding all_from
blank-thread = record { cells = within 14 thread_limit (thread_cells blank) refl; message = omega arith; answer = omega arith }

blank-box : HeldBox blank_mailbox
unfolding all_from
blank-box = record { head = within 4 (λ f. halves) (box_head blank_mailbox) refl; messages = refl }

blank-sizes : HeldSizes no_sizes
unfolding all_from
blank-sizes = record { head = within 6 (λ f. halves) (sizes_head no_sizes) refl; slots = refl }

pub blank-held : Held blank_kept
unfolding blank_kept
blank-held =
    record {
      threads = refl;
      thread-rows = λ i h. subst⁻¹ HeldThread (get_or-replicate 16 i blank blank h) blank-thread;
      counters = refl;
      counter-rows = λ p h. subst⁻¹ Signed (get_or-replicate 36 p (pos 0) (pos 0) h) (omega arith);
      references = refl;
      waiting = refl;
      mailboxes = refl;
      box-rows = λ m h. subst⁻¹ HeldBox (get_or-replicate 4 m blank_mailbox blank_mailbox h) blank-box;
      pools = refl;
      pool-rows = λ q h. subst⁻¹ HeldPool (get_or-replicate 4 q blank_pool blank_pool h) (record { list = refl; marks = refl });
      sizes = blank-sizes;
    }

blank-cells : all_from (λ i. ltb (cell_at blank_kept i) (limit_of i)) 0 cell_count ≡ true
unfolding all_from cell_at limit_of blank_kept thread_cell box_cell pool_cell word_cell size_cell clock_cell
blank-cells = refl

pub blank-within : AllWithin blank_kept
blank-within i h =
    ltb-true (cell_at blank_kept i) (limit_of i) (all-at (λ i. ltb (cell_at blank_kept i) (limit_of i)) cell_count i blank-cells h)

-- ---- where the numbers lie

offset-grows : (i n : ℕ) → i ≤ n → offset_of i ≤ offset_of n
unfolding offset_of
offset-grows i zero h = let same : i ≡ 0 = omega arith in rw same (omega arith)
offset-grows i (suc n) h =
    same_or i (suc n) (λ e. rw e (omega arith)) (λ d. omega (arith, offset-grows i n (omega arith)))

-- a number ends before the next place
number-ends : (i n : ℕ) → i < n → offset_of i + width_of i ≤ offset_of n
unfolding offset_of
number-ends i n h = offset-grows (suc i) n h

-- ---- what is read

-- a number of so many bytes is within the width of its place
fits : (i : ℕ) (l : List ℕ) (at : ℕ) → Bytes l → number_at (width_of i) l at < limit_of i
fits i l at b = rw (limit-width i) (number-below (width_of i) l at b)

fits-clock : (i : ℕ) (l : List ℕ) (at : ℕ) → Bytes l → clock_at ≤ i → number_at 4 l at < limit_of i
fits-clock i l at b h = rw (wide-clock i h) (number-below 4 l at b)

places-held : (l : List ℕ) → Bytes l → (n : ℕ) → n ≤ clock_at → Held (places_read l n)
unfolding places_read
places-held l b zero h = blank-held
places-held l b (suc n) h =
    cell-held (places_read l n) (places-held l b n (omega arith)) n (number_at (width_of n) l (offset_of n)) (fits n l (offset_of n) b) (omega arith)

places-cell : (l : List ℕ) → Bytes l → (n : ℕ) → n ≤ clock_at → (i : ℕ) → i < n
    → cell_at (places_read l n) i ≡ number_at (width_of i) l (offset_of i)
unfolding places_read
places-cell l b zero h i u = absurd (omega arith)
places-cell l b (suc n) h i u =
    let before = places_read l n in
    let held = places-held l b n (omega arith) in
    let v = number_at (width_of n) l (offset_of n) in
    same_or i n
    (λ e. rw e (cell-own before held n v (fits n l (offset_of n) b) (omega arith)))
    (λ d. cell_other before held n v (fits n l (offset_of n) b) (omega arith) i (omega arith) d ∙ places-cell l b n (omega arith) i (omega arith))

module _ (t c : List ℕ) (bt : Bytes t) (bc : Bytes c) where
  abbrev tables : Kept
  tables = places_read t clock_at

  abbrev timed : Kept
  timed = stored tables clock_at (number_at 4 c 0)

  tables-held : Held tables
  tables-held = places-held t bt clock_at (omega arith)

  first_fits : number_at 4 c 0 < limit_of clock_at
  first_fits = fits-clock clock_at c 0 bc (omega arith)

  second_fits : number_at 4 c 4 < limit_of (clock_at + 1)
  second_fits = fits-clock (clock_at + 1) c 4 bc (omega arith)

  timed-held : Held timed
  timed-held = cell-held tables tables-held clock_at (number_at 4 c 0) first_fits (omega arith)

  pub kept-held : Held (kept_of t c)
  unfolding kept_of
  kept-held = cell-held timed timed-held (clock_at + 1) (number_at 4 c 4) second_fits (omega arith)

  -- each number of the tables is the one that lies at its place
  pub kept-cell : (i : ℕ) → i < clock_at → cell_at (kept_of t c) i ≡ number_at (width_of i) t (offset_of i)
  unfolding kept_of
  kept-cell i h =
      cell_other timed timed-held (clock_at + 1) (number_at 4 c 4) second_fits (omega arith) i (omega arith) (omega arith)
      ∙ cell_other tables tables-held clock_at (number_at 4 c 0) first_fits (omega arith) i (omega arith) (omega arith)
      ∙ places-cell t bt clock_at (omega arith) i h

  -- and of the clock
  pub kept-time : cell_at (kept_of t c) clock_at ≡ number_at 4 c 0
  unfolding kept_of
  kept-time =
      cell_other timed timed-held (clock_at + 1) (number_at 4 c 4) second_fits (omega arith) clock_at (omega arith) (omega arith)
      ∙ cell-own tables tables-held clock_at (number_at 4 c 0) first_fits (omega arith)

  pub kept-frequency : cell_at (kept_of t c) (clock_at + 1) ≡ number_at 4 c 4
  unfolding kept_of
  kept-frequency = cell-own timed timed-held (clock_at + 1) (number_at 4 c 4) second_fits (omega arith)

  pub kept-within : AllWithin (kept_of t c)
  kept-within i h =
      in-or-out i clock_at
      (λ l. rw (kept-cell i l) (fits i t (offset_of i) bt))
      (λ l.
      same_or i clock_at
      (λ e. rw (e, kept-time) first_fits)
      (λ d. let last : i ≡ clock_at + 1 = omega arith in rw (last, kept-frequency) second_fits))

  -- tables and clock in a row: each number lies where its offset says
  kept-lies : length t ≡ tables_length → (i : ℕ) → i < cell_count → cell_at (kept_of t c) i ≡ number_at (width_of i) (t ++ c) (offset_of i)
  kept-lies long i h =
      in-or-out i clock_at
      (λ l. kept-cell i l ∙ sym (number-left (width_of i) t c (offset_of i) (omega (arith, long, tables_end, number-ends i clock_at l))))
      (λ l.
      same_or i clock_at
      (λ e. rw (e, kept-time, clock-width clock_at (omega arith), tables_end) (sym (number-right 4 t c tables_length 0 long)))
      (λ d.
      let last : i ≡ clock_at + 1 = omega arith in
      rw (last, kept-frequency, clock-width (clock_at + 1) (omega arith), time-end) (sym (number-right 4 t c tables_length 4 long))))

-- ---- bytes in a row and the numbers that lie there

-- numbers that lie in a list have its bytes
image-read : (a : Kept) (l : List ℕ) → Bytes l → (n : ℕ) → offset_of n ≤ length l
    → ((i : ℕ) → i < n → cell_at a i ≡ number_at (width_of i) l (offset_of i)) → image_of a n ≡ take (offset_of n) l
unfolding image_of offset_of
image-read a l b zero h lies = refl
image-read a l b (suc n) h lies =
    ap₂ (λ (x y : List ℕ). x ++ y) (image-read a l b n (omega arith) (λ i u. lies i (omega arith)))
    (ap (bytes_of (width_of n)) (lies n (omega arith)) ∙ bytes-number (width_of n) l (offset_of n) b (omega arith))
    ∙ sym (take-add (offset_of n) (width_of n) l)

-- and bytes of numbers are read as these
image-cell : (a : Kept) → AllWithin a → (n : ℕ) → n ≤ cell_count → (i : ℕ) → i < n → number_at (width_of i) (image_of a n) (offset_of i) ≡ cell_at a i
unfolding image_of
image-cell a small zero h i u = absurd (omega arith)
image-cell a small (suc n) h i u =
    let bs = bytes_of (width_of n) (cell_at a n) in
    same_or i n
    (λ e.
    let last : number_at (width_of n) (image_of a n ++ bs) (offset_of n + 0) ≡ cell_at a n =
    number-right (width_of n) (image_of a n) bs (offset_of n) 0 (length-image a n)
    ∙ number-bytes (width_of n) (cell_at a n) (rw (limit-width n) at (small n (omega arith))) in
    rw (e, ← add-zero (offset_of n)) last)
    (λ d.
    number-left (width_of i) (image_of a n) bs (offset_of i) (omega (arith, length-image a n, number-ends i n (omega arith)))
    ∙ image-cell a small n (omega arith) i (omega arith))

pub image-bytes : (a : Kept) (n : ℕ) → Bytes (image_of a n)
unfolding image_of
image-bytes a zero i = omega arith
image-bytes a (suc n) i =
    bytes-append (image_of a n) (bytes_of (width_of n) (cell_at a n)) (image-bytes a n) (bytes-bytes (width_of n) (cell_at a n)) i

-- what is kept is read of its own bytes
pub kept_again : (a : Kept) → Held a → AllWithin a → (t c : List ℕ) → length t ≡ tables_length → t ++ c ≡ image_of a cell_count → kept_of t c ≡ a
kept_again a held small t c long e =
    let all : Bytes (t ++ c) = subst⁻¹ Bytes e (image-bytes a cell_count) in
    let bt : Bytes t = bytes_left t c all in
    let bc : Bytes c = bytes-right t c all in
    kept-told (kept_of t c) a (kept-held t c bt bc) held
    (λ i h.
    kept-lies t c bt bc long i h
    ∙ ap (λ (l : List ℕ). number_at (width_of i) l (offset_of i)) e
    ∙ image-cell a small cell_count (omega arith) i h)

module _ (t c : List ℕ) (bt : Bytes t) (bc : Bytes c) (tables-long : length t ≡ tables_length) (clock-long : length c ≡ clock_length) where
  -- what is read has the bytes that it was read of
  pub image-again : image_of (kept_of t c) cell_count ≡ t ++ c
  image-again =
      let long : length (t ++ c) ≡ tables_length + clock_length = length-append t c ∙ omega arith in
      image-read (kept_of t c) (t ++ c) (bytes-append t c bt bc) cell_count (omega (arith, all_end)) (kept-lies t c bt bc tables-long)
      ∙ ap (λ (n : ℕ). take n (t ++ c)) all_end
      ∙ take_all (tables_length + clock_length) (t ++ c) (omega arith)

  tables-image : image_of (kept_of t c) clock_at ≡ t
  tables-image =
      image-read (kept_of t c) t bt clock_at (omega (arith, tables_end)) (kept-cell t c bt bc)
      ∙ ap (λ (n : ℕ). take n t) tables_end
      ∙ take_all tables_length t (omega arith)

  -- and written over others of their lengths these are there again
  pub tables-put-again : (over : List ℕ) → length over ≡ tables_length → tables_put (kept_of t c) over ≡ t
  tables-put-again over long =
      image-put (kept_of t c) clock_at over 0 (omega (arith, tables_end))
      ∙ ap (λ (x : List ℕ). written x over) tables-image
      ∙ ap (λ (x : List ℕ). t ++ x) (drop_of_length-le over {i = length t} (omega arith))
      ∙ append-nil t

  pub clock-put-again : (over : List ℕ) → length over ≡ clock_length → clock_put (kept_of t c) over ≡ c
  unfolding clock_put
  clock-put-again over long =
      let one : bytes_of 4 (number_at 4 c 0) ≡ take 4 c = bytes-number 4 c 0 bc (omega arith) in
      let two : bytes_of 4 (number_at 4 c 4) ≡ take 4 (drop 4 c) = bytes-number 4 c 4 bc (omega arith) in
      let both : take 4 c ++ take 4 (drop 4 c) ≡ c = sym (take-add 4 4 c) ∙ take_all 8 c (omega arith) in
      rw (kept-time t c bt bc, kept-frequency t c bt bc)
      (put-pair over (number_at 4 c 0) (number_at 4 c 4) (omega arith)
      ∙ ap₂ (λ (x y : List ℕ). written (x ++ y) over) one two
      ∙ ap (λ (x : List ℕ). written x over) both
      ∙ ap (λ (x : List ℕ). c ++ x) (drop_of_length-le over {i = length c} (omega arith))
      ∙ append-nil c)

-- what is written over a host's bytes is read there
module _ (a : Kept) (held : Held a) (small : AllWithin a) (t c : List ℕ) (tables-long : length t ≡ tables_length) (clock-long : length c ≡ clock_length) where
  tables-bytes : tables_put a t ≡ image_of a clock_at
  tables-bytes =
      let long : length (image_of a clock_at) ≡ tables_length = length-image a clock_at ∙ tables_end in
      image-put a clock_at t 0 (omega (arith, tables_end))
      ∙ ap (λ (x : List ℕ). image_of a clock_at ++ x) (drop_of_length-le t {i = length (image_of a clock_at)} (omega arith))
      ∙ append-nil (image_of a clock_at)

  clock-bytes : clock_put a c ≡ bytes_of 4 (cell_at a clock_at) ++ bytes_of 4 (cell_at a (clock_at + 1))
  unfolding clock_put
  clock-bytes =
      let two = bytes_of 4 (cell_at a clock_at) ++ bytes_of 4 (cell_at a (clock_at + 1)) in
      let long : length two ≡ 8 = length-append (bytes_of 4 (cell_at a clock_at)) (bytes_of 4 (cell_at a (clock_at + 1))) ∙ omega (arith, length-bytes 4 (cell_at a clock_at), length-bytes 4 (cell_at a (clock_at + 1))) in
      put-pair c (cell_at a clock_at) (cell_at a (clock_at + 1)) (omega arith)
      ∙ ap (λ (x : List ℕ). two ++ x) (drop_of_length-le c {i = length two} (omega arith))
      ∙ append-nil two

  whole-image : tables_put a t ++ clock_put a c ≡ image_of a cell_count
  whole-image =
      ap₂ (λ (x y : List ℕ). x ++ y) tables-bytes clock-bytes
      ∙ sym (append_assoc (image_of a clock_at) (bytes_of 4 (cell_at a clock_at)) (bytes_of 4 (cell_at a (clock_at + 1))))
      ∙ last
    where
      last : image_of a clock_at ++ bytes_of 4 (cell_at a clock_at) ++ bytes_of 4 (cell_at a (clock_at + 1)) ≡ image_of a cell_count
      last = unfold image_of width_of in refl

  pub put-read : kept_of (tables_put a t) (clock_put a c) ≡ a
  put-read = kept_again a held small (tables_put a t) (clock_put a c) (length-places a clock_at t 0 ∙ tables-long) whole-image

  -- and it is bytes
  pub put-bytes : Bytes (tables_put a t) × Bytes (clock_put a c)
  put-bytes =
      let all : Bytes (tables_put a t ++ clock_put a c) = subst⁻¹ Bytes whole-image (image-bytes a cell_count) in
      (bytes_left (tables_put a t) (clock_put a c) all, bytes-right (tables_put a t) (clock_put a c) all)

  pub clock-put-long : length (clock_put a c) ≡ clock_length
  clock-put-long =
      ap length clock-bytes ∙ length-append (bytes_of 4 (cell_at a clock_at)) (bytes_of 4 (cell_at a (clock_at + 1)))
      ∙ omega (arith, length-bytes 4 (cell_at a clock_at), length-bytes 4 (cell_at a (clock_at + 1)))
