-- A row: a word or a number, items behind blanks, and the line's end.
use Rattle.std.specs.Prelude.{ℕ, cond, List, [], ◌∷◌, ◌++◌, map, replicate, ℤ, pos, ◌==◌, int_lt, slice_index, slice_index_or, unsigned_abs}
use Rattle.std.specs.Int.{w32}
use Rattle.std.proofs.Common.{to_z}
use Rattle.library.specs.Mailbox.{message_at}
use Rattle.library.specs.Pool.{listed_at, mark_at}
use Rattle.text.specs.declared.items.Item.{Item}
use Rattle.text.specs.declared.items.Item.TheVariants.{Nothing, End, Dash, Plain, Number, Long, Signed, Lettered, Cause}
use Rattle.text.specs.declared.items.Cells.{Cells}
use Rattle.text.specs.declared.items.Cells.TheVariants.{Empty, Messages, Objects, Marks}
use Rattle.text.specs.declared.items.Line.{Line}
use Rattle.buffers.specs.Put.{rows}
use Rattle.buffers.specs.Decimal.{decimal}

-- a letter of a word, or nothing for a zero
abbrev pub letter : ℕ → List ℕ
letter b = cond (b == 0) [] (b ∷ [])

-- a word: its 9 bytes, without the zeros with which it is filled up
unfoldable pub word_text : List ℕ → List ℕ
word_text w = rows 9 (λ i. letter (slice_index w i))

-- a number with its sign, `-` before one below 0
abbrev pub signed_text : ℤ → List ℕ
signed_text m = cond (int_lt m (pos 0)) (45 ∷ decimal (unsigned_abs m)) (decimal (unsigned_abs m))

-- `signal`, `release`, `resume`, `event`, `post`, `fetch`, `reset`, `tick`; `none` for another
abbrev pub cause_word : ℕ → List ℕ
cause_word n =
    cond (n == 1) (115 ∷ 105 ∷ 103 ∷ 110 ∷ 97 ∷ 108 ∷ 0 ∷ 0 ∷ 0 ∷ [])
    (cond (n == 2) (114 ∷ 101 ∷ 108 ∷ 101 ∷ 97 ∷ 115 ∷ 101 ∷ 0 ∷ 0 ∷ [])
    (cond (n == 3) (114 ∷ 101 ∷ 115 ∷ 117 ∷ 109 ∷ 101 ∷ 0 ∷ 0 ∷ 0 ∷ [])
    (cond (n == 4) (101 ∷ 118 ∷ 101 ∷ 110 ∷ 116 ∷ 0 ∷ 0 ∷ 0 ∷ 0 ∷ [])
    (cond (n == 5) (112 ∷ 111 ∷ 115 ∷ 116 ∷ 0 ∷ 0 ∷ 0 ∷ 0 ∷ 0 ∷ [])
    (cond (n == 6) (102 ∷ 101 ∷ 116 ∷ 99 ∷ 104 ∷ 0 ∷ 0 ∷ 0 ∷ 0 ∷ [])
    (cond (n == 7) (114 ∷ 101 ∷ 115 ∷ 101 ∷ 116 ∷ 0 ∷ 0 ∷ 0 ∷ 0 ∷ [])
    (cond (n == 8) (116 ∷ 105 ∷ 99 ∷ 107 ∷ 0 ∷ 0 ∷ 0 ∷ 0 ∷ 0 ∷ []) (110 ∷ 111 ∷ 110 ∷ 101 ∷ 0 ∷ 0 ∷ 0 ∷ 0 ∷ 0 ∷ []))))))))

-- an item behind a blank, 32, but for a plain number; the line's end is 10
abbrev pub field : Item → List ℕ
field Nothing = []
field End = 10 ∷ []
field Dash = 32 ∷ 45 ∷ []
field (Plain n) = decimal n
field (Number n) = 32 ∷ decimal n
field (Long n) = 32 ∷ decimal n
field (Signed m) = 32 ∷ signed_text m
field (Lettered b n) = 32 ∷ b ∷ decimal n
field (Cause n) = 32 ∷ word_text (cause_word n)

abbrev pub fields : List Item → List ℕ
fields [] = []
fields (x ∷ xs) = field x ++ fields xs

-- how many things a row lists: so many messages or free objects, or 32 marks
abbrev pub cells_in : Cells → ℕ
cells_in Empty = 0
cells_in (Messages b n) = n
cells_in (Objects p n) = n
cells_in (Marks p) = 32

-- what it lists at j
abbrev pub cell_of : Cells → ℕ → Item
cell_of Empty j = Nothing
cell_of (Messages b n) j = Signed (to_z w32 (message_at b j))
cell_of (Objects p n) j = Number (listed_at p j)
cell_of (Marks p) j = Number (mark_at p j)

-- all that it lists
abbrev pub cells_text : Cells → List ℕ
cells_text x = rows (cells_in x) (λ j. field (cell_of x j))

-- a row: its word, its items, what it lists, and its end
unfoldable pub row_text : Line → List ℕ
row_text r = word_text r.word ++ (fields r.items ++ (cells_text r.cells ++ field r.end))

-- some items, filled up with none to fifteen; more are left out
abbrev pub padded : List Item → List Item
padded xs = map (λ i. slice_index_or xs i Nothing) (0 ∷ 1 ∷ 2 ∷ 3 ∷ 4 ∷ 5 ∷ 6 ∷ 7 ∷ 8 ∷ 9 ∷ 10 ∷ 11 ∷ 12 ∷ 13 ∷ 14 ∷ [])

-- a row of a word and up to fifteen items, which lists something
abbrev pub listed : List ℕ → List Item → Cells → Line
listed word xs cells = record { word = word; items = padded xs; cells = cells; end = End }

-- a row of a word and up to seven items, which lists something
abbrev pub listing : List ℕ → Item → Item → Item → Item → Item → Item → Item → Cells → Line
listing word a b c d e f g cells =
    record {
      word = word;
      items = a ∷ b ∷ c ∷ d ∷ e ∷ f ∷ g ∷ Nothing ∷ Nothing ∷ Nothing ∷ Nothing ∷ Nothing ∷ Nothing ∷ Nothing ∷ Nothing ∷ [];
      cells = cells;
      end = End;
    }

-- one that lists nothing
abbrev pub row : List ℕ → Item → Item → Item → Item → Item → Item → Item → Line
row word a b c d e f g = listing word a b c d e f g Empty

-- one of which nothing is shown
abbrev pub no_row : Line
no_row = record { word = replicate 9 0; items = replicate 15 Nothing; cells = Empty; end = Nothing }

-- a row without a word: a number first, and up to six items
abbrev pub numbered : ℕ → Item → Item → Item → Item → Item → Item → Line
numbered n a b c d e f = row (replicate 9 0) (Plain n) a b c d e f

-- a row of a word and up to two items
abbrev pub brief : List ℕ → Item → Item → Line
brief word a b = row word a b Nothing Nothing Nothing Nothing Nothing
