-- A file of what is kept: the layout's number, the checksum of the bytes behind it, and these bytes, the tables' and the clock's.
use Rattle.std.specs.Prelude.{ℕ, ◌+◌, cond, List, ◌++◌, eqb, ltb, length, take, drop}
use Rattle.compare.specs.declared.cells.Kept.{Kept}
use Rattle.compare.specs.Told.{Loaded}
use Rattle.compare.specs.Cells.{cell_count}
use Rattle.compare.specs.Bytes.{bytes_of, number_at}
use Rattle.compare.specs.Laid.{tables_length, clock_length, image_of, blank_kept, kept_of}
use Rattle.compare.specs.Checksum.{checksum_of}

abbrev pub layout : ℕ
layout = 3

abbrev pub head_length : ℕ
head_length = 8

abbrev pub body_length : ℕ
body_length = tables_length + clock_length

abbrev pub file_length : ℕ
file_length = head_length + body_length

-- ---- saving

abbrev pub body_of : Kept → List ℕ
body_of a = image_of a cell_count

abbrev pub head_of : List ℕ → List ℕ
head_of body = bytes_of 4 layout ++ bytes_of 4 (checksum_of body)

unfoldable pub file_of : Kept → List ℕ
file_of a = head_of (body_of a) ++ body_of a

-- 16 where the room is too small
abbrev pub save_code : List ℕ → ℕ
save_code l = cond (ltb (length l) file_length) 16 0

-- the file in front, and the rest as it was; nothing where the room is too small
unfoldable pub saved : Kept → List ℕ → List ℕ
saved a l = cond (ltb (length l) file_length) l (file_of a ++ drop file_length l)

-- ---- loading

-- the bytes behind the head
abbrev pub body_in : List ℕ → List ℕ
body_in l = take body_length (drop head_length l)

-- 11 fewer than 4 bytes or another layout, 12 too few bytes, 13 too many, 6 a checksum that is not the bytes' own
unfoldable pub load_code : List ℕ → ℕ
load_code l =
    cond (ltb (length l) 4) 11
    (cond (eqb (number_at 4 l 0) layout)
    (cond (ltb (length l) file_length) 12
    (cond (ltb file_length (length l)) 13 (cond (eqb (number_at 4 l 4) (checksum_of (body_in l))) 0 6)))
    11)

-- what the bytes behind the head say, whatever head there is; nothing where they are too few
unfoldable pub read_anyway : List ℕ → Kept
read_anyway l =
    cond (ltb (length l) file_length) blank_kept
    (kept_of (take tables_length (drop head_length l)) (take clock_length (drop (head_length + tables_length) l)))

unfoldable pub loaded : List ℕ → Loaded
loaded l = record { code = load_code l; kept = cond (eqb (load_code l) 0) (read_anyway l) blank_kept }
