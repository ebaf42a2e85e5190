-- A LIST AS TEXT: a line an entry, `WORD NUMBER FIELD OLD NEW`.
use Rattle.std.specs.Prelude.{ℕ, ◌+◌, ◌-◌, ◌*◌, ◌/◌, Bool, cond, ◌&&◌, List, [], ◌∷◌, ◌++◌, ltb, leb, length, get_or}
use Rattle.buffers.specs.Put.{rows}
use Rattle.buffers.specs.Decimal.{decimal}
use Rattle.lists.specs.declared.printing.Entry.{Entry}
use Rattle.lists.specs.Words.{object_word, field_word, is_signed}

-- 32 bits in decimal; where they are signed, `-`, 45, and what is missing to 2³² from 2³¹ on
unfoldable pub value_text : Bool → ℕ → List ℕ
value_text signed v = cond (signed && leb 2147483648 v) (45 ∷ decimal (4294967296 - v)) (decimal v)

-- the words have their blank behind them; a blank is 32, the line's end 10
unfoldable pub entry_text : Entry → List ℕ
entry_text x =
    let signed = is_signed x.object x.field in
    object_word x.object
    ++ (decimal x.number
    ++ (32 ∷ (field_word x.object x.field ++ (value_text signed x.old ++ (32 ∷ (value_text signed x.new ++ (10 ∷ [])))))))

abbrev pub entry_of : ℕ → ℕ → ℕ → ℕ → ℕ → Entry
entry_of o n f old new = record { object = o; number = n; field = f; old = old; new = new }

-- entry i of a list of numbers, five an entry
unfoldable pub entry_in : List ℕ → ℕ → Entry
entry_in l i =
    cond (ltb i (length l / 5)) (entry_of (get_or l (i * 5) 0) (get_or l (i * 5 + 1) 0) (get_or l (i * 5 + 2) 0) (get_or l (i * 5 + 3) 0) (get_or l (i * 5 + 4) 0))
    (entry_of 0 0 0 0 0)

unfoldable pub list_text : List ℕ → List ℕ
list_text l = rows (length l / 5) (λ i. entry_text (entry_in l i))
