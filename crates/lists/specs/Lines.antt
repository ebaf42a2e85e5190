-- A LIST READ FROM ITS TEXT, line by line. A line that is no entry (1), that names no field (2), or for which the list has no room (3) stops the
-- reading; empty lines are passed over.
use Rattle.std.specs.Prelude.{ℕ, ◌+◌, Bool, true, false, cond, not, ◌||◌, List, [], ◌∷◌, eqb, ltb, leb, length, get_or}
use Rattle.std.proofs.lemmas.List.Edits.{sets}
use Rattle.kernel.specs.Walk.{each}
use Rattle.compare.specs.Order.{fields, called, place_named}
use Rattle.lists.specs.declared.printing.Entry.{Entry}
use Rattle.lists.specs.Telling.{Lines, Turn, no_entry}
use Rattle.lists.specs.Reading.{past, entry_read}

abbrev pub numbers_of : Entry → List ℕ
numbers_of x = x.object ∷ x.number ∷ x.field ∷ x.old ∷ x.new ∷ []

unfoldable pub entry_stored : List ℕ → ℕ → Entry → List ℕ
entry_stored l at x = cond (leb (at + 5) (length l)) (sets l at (numbers_of x)) l

unfoldable pub judged : Bool → Entry → Bool → ℕ
judged fine x room = cond fine (cond (eqb (place_named (called x.object x.number x.field)) fields) 2 (cond room 0 3)) 1

abbrev pub line_after : ℕ → ℕ
line_after n = cond (ltb n 4294967295) (n + 1) n

abbrev pub lines : ℕ → ℕ → ℕ → ℕ → Lines
lines at line to code = record { at = at; line = line; to = to; code = code }

abbrev pub turn : Lines → Bool → Entry → Turn
turn next stores entry = record { next = next; stores = stores; entry = entry }

-- the line at a place, with so much room in the list; at the end, and where reading has stopped, all stays
unfoldable pub line_at : List ℕ → Lines → ℕ → Turn
line_at s x room =
    let e = entry_read s x.at in
    let code = judged e.fine e.entry (leb (x.to + 5) room) in
    cond (not (eqb x.code 0) || leb (length s) x.at) (turn x false no_entry)
    (cond (eqb (get_or s x.at 10) 10) (turn (lines (past s x.at) (line_after x.line) x.to 0) false no_entry)
    (cond (eqb code 0) (turn (lines e.at (line_after x.line) (x.to + 5) 0) true e.entry) (turn (lines x.at x.line x.to code) false no_entry)))

unfoldable pub kept_line : List ℕ → ℕ → Turn → List ℕ
kept_line l at t = cond t.stores (entry_stored l at t.entry) l

-- a text under way, with the list
pub record Reading : Type 0 where
  pub lines : Lines
  pub list : List ℕ

-- one line more
unfoldable pub turned : List ℕ → Reading → Reading
turned s r =
    let t = line_at s r.lines (length r.list) in
    record { lines = t.next; list = kept_line r.list r.lines.to t }

-- as many lines as there are bytes, and so all of them
unfoldable pub list_read : List ℕ → List ℕ → Reading
list_read s l = each (length s) (λ i r. turned s r) (record { lines = lines 0 1 0 0; list = l })
