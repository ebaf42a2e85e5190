-- A file of what is kept: what is written is the head and the bytes as they lie, and what is read of it is what was kept.
use Prim.Native.Nat.{ℕ, zero, suc, ◌+◌, ◌^◌, ◌≤◌, ◌<◌}
use native.Mathlib.Omega.{arith}
use mathlib.Core.Path.{◌≡◌, sym, ap, ap₂, ◌∙◌, subst⁻¹}
use mathlib.Core.List.{List, ◌++◌, append_assoc}
use lib.Dec.{eqb, ltb}
use lib.ListN.{length, take, drop, length-append, length-drop, take-append-drop}
use lib.Seq.{length-take-le, take_at, drop_at, take_all, take-add, drop-drop}
use borrow.Author.Tests.{le-ltb, eq-eqb, eqb-true, ltb-false}
use Rattle.kernel.proofs.Cases.{split}
use Rattle.compare.specs.declared.cells.Kept.{Kept}
use Rattle.compare.specs.Told.{Loaded}
use Rattle.compare.specs.Cells.{cell_count}
use Rattle.compare.specs.Held.{Held, AllWithin}
use Rattle.compare.specs.Bytes.{Bytes, bytes_of, number_at, number_put}
use Rattle.compare.specs.Compared.{written}
use Rattle.compare.specs.Laid.{tables_length, clock_length, places_put, kept_of}
use Rattle.compare.specs.Checksum.{base, sums_of, checksum_of}
use Rattle.compare.specs.Saved.{
  layout,
  head_length,
  body_length,
  file_length,
  body_of,
  head_of,
  file_of,
  saved,
  body_in,
  load_code,
  read_anyway,
  loaded,
}
use Rattle.compare.proofs.BytesLaws.{length-bytes, number-left, number-right, number-bytes, bytes-number, bytes_left, bytes-right, bytes-part, put-pair}
use Rattle.compare.proofs.LaidLaws.{length-image, all_end, image-put, length-places}
use Rattle.compare.proofs.KeptLaws.{kept_again, image-again}

body-long : (a : Kept) → length (body_of a) ≡ body_length
body-long a = length-image a cell_count ∙ all_end

head-long : (x y : ℕ) → length (bytes_of 4 x ++ bytes_of 4 y) ≡ head_length
head-long x y = length-append (bytes_of 4 x) (bytes_of 4 y) ∙ omega (arith, length-bytes 4 x, length-bytes 4 y)

-- ---- saving, in the form in which code meets it: p is the list with the numbers, q with the layout too, r with the whole head

module _ (a : Kept) (l p : List ℕ) (room : file_length ≤ length l) (numbers : p ≡ places_put a cell_count l head_length) where
  long : length p ≡ length l
  long = ap length numbers ∙ length-places a cell_count l head_length

  -- behind the head stand the bytes as they lie, and the rest as it was
  behind : drop head_length p ≡ body_of a ++ drop file_length l
  behind =
      let front = take head_length l in
      let size : length front ≡ head_length = length-take-le head_length l (omega arith) in
      let end : length (front ++ body_of a) ≡ file_length = length-append front (body_of a) ∙ omega (arith, size, body-long a) in
      ap (drop head_length) (numbers ∙ image-put a cell_count l head_length (omega (arith, all_end)))
      ∙ ap (λ (n : ℕ). drop head_length (front ++ body_of a ++ drop n l)) end
      ∙ ap (drop head_length) (append_assoc front (body_of a) (drop file_length l))
      ∙ drop_at front (body_of a ++ drop file_length l) head_length size

  body-put : take body_length (drop head_length p) ≡ body_of a
  body-put = ap (take body_length) behind ∙ take_at (body_of a) (drop file_length l) body_length (body-long a)

  pub save-done : (q r : List ℕ) (sum : ℕ) → sum ≡ checksum_of (take body_length (drop head_length p)) → q ≡ number_put 4 p 0 layout
      → r ≡ number_put 4 q 4 sum → r ≡ saved a l
  unfolding saved file_of
  save-done q r sum summed first second =
      let head = bytes_of 4 layout ++ bytes_of 4 sum in
      let size : length head ≡ head_length = head-long layout sum in
      let ended : r ≡ written head p =
      second ∙ ap (λ (x : List ℕ). number_put 4 x 4 sum) first ∙ put-pair p layout sum (omega (arith, long)) in
      rw (le-ltb (length l) file_length room)
      (ended
      ∙ ap (λ (n : ℕ). head ++ drop n p) size
      ∙ ap (λ (x : List ℕ). head ++ x) behind
      ∙ sym (append_assoc head (body_of a) (drop file_length l))
      ∙ ap (λ (n : ℕ). bytes_of 4 layout ++ bytes_of 4 n ++ body_of a ++ drop file_length l) (summed ∙ ap checksum_of body-put))

-- ---- the file

pub length-file : (a : Kept) → length (file_of a) ≡ file_length
unfolding file_of
length-file a =
    length-append (head_of (body_of a)) (body_of a) ∙ omega (arith, head-long layout (checksum_of (body_of a)), body-long a)

-- what is saved is the file, and behind it the rest as it was
pub saved-file : (a : Kept) (l : List ℕ) → file_length ≤ length l → saved a l ≡ file_of a ++ drop file_length l
unfolding saved
saved-file a l h = rw (le-ltb (length l) file_length h)

sums-below : (l : List ℕ) (n : ℕ) → ((sums_of l n).low < base) × ((sums_of l n).high < base)
sums-below l zero = (omega arith, omega arith)
sums-below l (suc n) = (omega arith, omega arith)

-- a checksum has four bytes
pub checksum-below : (l : List ℕ) → checksum_of l < 256 ^ 4
unfolding checksum_of
checksum-below l = let s = sums-below l (length l) in omega (arith, s.0, s.1)

-- what a file that is not refused is
pub record Accepted (l : List ℕ) : Type 0 where
  pub layout_is : number_at 4 l 0 ≡ layout
  pub long : length l ≡ file_length
  pub sum_is : number_at 4 l 4 ≡ checksum_of (body_in l)

pub accepts : (l : List ℕ) → Accepted l → load_code l ≡ 0
unfolding load_code
accepts l h =
    rw (
      le-ltb (length l) 4 (omega (arith, h.long)),
      eq-eqb (number_at 4 l 0) layout h.layout_is,
      le-ltb (length l) file_length (omega (arith, h.long)),
      le-ltb file_length (length l) (omega (arith, h.long)),
      eq-eqb (number_at 4 l 4) (checksum_of (body_in l)) h.sum_is,
    )

pub accepted : (l : List ℕ) → load_code l ≡ 0 → Accepted l
unfolding load_code
accepted l e =
    split (ltb (length l) 4) (λ t. absurd (omega (arith, rw t at e)))
    (λ t.
    split (eqb (number_at 4 l 0) layout)
    (λ u.
    split (ltb (length l) file_length) (λ v. absurd (omega (arith, rw (t, u, v) at e)))
    (λ v.
    split (ltb file_length (length l)) (λ w. absurd (omega (arith, rw (t, u, v, w) at e)))
    (λ w.
    split (eqb (number_at 4 l 4) (checksum_of (body_in l)))
    (λ x.
    record {
      layout_is = eqb-true (number_at 4 l 0) layout u;
      long = omega (arith, ltb-false (length l) file_length v, ltb-false file_length (length l) w);
      sum_is = eqb-true (number_at 4 l 4) (checksum_of (body_in l)) x;
    })
    (λ x. absurd (omega (arith, rw (t, u, v, w, x) at e))))))
    (λ u. absurd (omega (arith, rw (t, u) at e))))

-- ---- a file read and written

tables-part : (l : List ℕ) → Accepted l → length (take tables_length (drop head_length l)) ≡ tables_length
tables-part l h = length-take-le tables_length (drop head_length l) (omega (arith, length-drop head_length l, h.long))

-- its two parts are what stands behind its head
parts : (l : List ℕ) → take tables_length (drop head_length l) ++ take clock_length (drop (head_length + tables_length) l) ≡ body_in l
parts l =
    ap (λ (x : List ℕ). take tables_length (drop head_length l) ++ take clock_length x) (sym (drop-drop tables_length head_length l))
    ∙ sym (take-add tables_length clock_length (drop head_length l))

-- a file that is not refused gives what the bytes behind its head say
pub accepted-kept : (l : List ℕ) → Accepted l
    → (loaded l).kept ≡ kept_of (take tables_length (drop head_length l)) (take clock_length (drop (head_length + tables_length) l))
unfolding loaded read_anyway
accepted-kept l h = rw (eq-eqb (load_code l) 0 (accepts l h), le-ltb (length l) file_length (omega (arith, h.long)))

module _ (a : Kept) where
  file-body : drop head_length (file_of a) ≡ body_of a
  unfolding file_of
  file-body = drop_at (head_of (body_of a)) (body_of a) head_length (head-long layout (checksum_of (body_of a)))

  body-in : body_in (file_of a) ≡ body_of a
  body-in = ap (take body_length) file-body ∙ take_all body_length (body_of a) (omega (arith, body-long a))

  file-accepted : Accepted (file_of a)
  unfolding file_of
  file-accepted =
      let sum = checksum_of (body_of a) in
      let one = bytes_of 4 layout in
      let two = bytes_of 4 sum in
      let size : length one ≡ 4 = length-bytes 4 layout in
      let head : length (one ++ two) ≡ head_length = head-long layout sum in
      record {
        layout_is =
            number-left 4 (one ++ two) (body_of a) 0 (omega arith)
            ∙ number-left 4 one two 0 (omega arith)
            ∙ number-bytes 4 layout (omega arith);
        long = length-file a;
        sum_is =
            number-left 4 (one ++ two) (body_of a) 4 (omega arith)
            ∙ number-right 4 one two 4 0 size
            ∙ number-bytes 4 sum (checksum-below (body_of a))
            ∙ ap checksum_of (sym body-in);
      }

  pub file-loaded : Held a → AllWithin a → loaded (file_of a) ≡ record { code = 0; kept = a }
  unfolding loaded
  file-loaded held small =
      let l = file_of a in
      let kept : (loaded l).kept ≡ a =
      accepted-kept l file-accepted
      ∙ kept_again a held small (take tables_length (drop head_length l)) (take clock_length (drop (head_length + tables_length) l)) (tables-part l file-accepted)
      (parts l ∙ body-in) in
      ap₂ (λ (n : ℕ) (x : Kept). made n x) (accepts l file-accepted) kept
    where
      made : ℕ → Kept → Loaded
      made n x = record { code = n; kept = x }

  -- what was saved is loaded again, whatever stood in the room for it
  pub saved-loaded : Held a → AllWithin a → (l : List ℕ) → file_length ≤ length l
      → loaded (take file_length (saved a l)) ≡ record { code = 0; kept = a }
  saved-loaded held small l h =
      ap loaded (ap (take file_length) (saved-file a l h) ∙ take_at (file_of a) (drop file_length l) file_length (length-file a))
      ∙ file-loaded held small

-- bytes that are read are saved as they lie
pub saved-as-it-lies : (t c : List ℕ) → Bytes t → Bytes c → length t ≡ tables_length → length c ≡ clock_length
    → file_of (kept_of t c) ≡ head_of (t ++ c) ++ (t ++ c)
unfolding file_of
saved-as-it-lies t c bt bc lt lc = ap (λ (b : List ℕ). head_of b ++ b) (image-again t c bt bc lt lc)

-- what is loaded is saved as the same bytes
pub loaded-saved : (l : List ℕ) → Bytes l → (loaded l).code ≡ 0 → file_of (loaded l).kept ≡ l
unfolding loaded
loaded-saved l b e =
    let h : Accepted l = accepted l e in
    let t = take tables_length (drop head_length l) in
    let c = take clock_length (drop (head_length + tables_length) l) in
    let bl : Bytes (take head_length l ++ drop head_length l) = subst⁻¹ Bytes (take-append-drop head_length l) b in
    let body : body_in l ≡ drop head_length l = take_all body_length (drop head_length l) (omega (arith, length-drop head_length l, h.long)) in
    let all : t ++ c ≡ drop head_length l = parts l ∙ body in
    let bb : Bytes (t ++ c) = subst⁻¹ Bytes all (bytes-right (take head_length l) (drop head_length l) bl) in
    let lt : length t ≡ tables_length = tables-part l h in
    let lc : length c ≡ clock_length = length-take-le clock_length (drop (head_length + tables_length) l) (omega (arith, length-drop (head_length + tables_length) l, h.long)) in
    let one : bytes_of 4 layout ≡ take 4 l = ap (bytes_of 4) (sym h.layout_is) ∙ bytes-number 4 l 0 b (omega (arith, h.long)) in
    let two : bytes_of 4 (checksum_of (body_in l)) ≡ take 4 (drop 4 l) = ap (bytes_of 4) (sym h.sum_is) ∙ bytes-number 4 l 4 b (omega (arith, h.long)) in
    let head : head_of (body_in l) ≡ take head_length l = ap₂ (λ (x y : List ℕ). x ++ y) one two ∙ sym (take-add 4 4 l) in
    ap file_of (accepted-kept l h)
    ∙ saved-as-it-lies t c (bytes_left t c bb) (bytes-right t c bb) lt lc
    ∙ ap (λ (x : List ℕ). head_of x ++ x) (parts l)
    ∙ ap₂ (λ (x y : List ℕ). x ++ y) head body
    ∙ take-append-drop head_length l

-- ---- what is read of any bytes is a host's

module _ (l : List ℕ) (b : Bytes l) where
  tables-bytes : Bytes (take tables_length (drop head_length l))
  tables-bytes = bytes-part tables_length head_length l b

  clock-bytes : Bytes (take clock_length (drop (head_length + tables_length) l))
  clock-bytes = bytes-part clock_length (head_length + tables_length) l b
