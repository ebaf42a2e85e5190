-- The list of what differs between two sets of tables with their clocks, and the refusals of a comparison.
use Rattle.std.specs.Prelude.{ℕ, ◌-◌, ◌*◌, Bool, true, false, cond, List, [], ◌∷◌, ◌++◌, eqb, leb, ltb, length, drop}
use Rattle.kernel.specs.Walk.{all_from, count_of}
use Rattle.library.specs.declared.sizes.Sizes.{Sizes}
use Rattle.library.specs.Tables.{opened}
use Rattle.rules.specs.Hanging.{hangs_together}
use Rattle.compare.specs.declared.cells.Kept.{Kept}
use Rattle.compare.specs.Told.{Compared}
use Rattle.compare.specs.Changes.{Change, differs, changes}
use Rattle.compare.specs.Cells.{size_cell}
use Rattle.compare.specs.Order.{fields, named, reading_of}

-- what differs among the first n fields
unfoldable pub changed : Kept → Kept → ℕ → List Change
changed a b n = changes (reading_of a) (reading_of b) n

-- ---- the list as numbers, "five a place": object, number, field, old, new

abbrev pub entry : Change → List ℕ
entry e = (named e.at).object ∷ (named e.at).number ∷ (named e.at).field ∷ e.old ∷ e.new ∷ []

unfoldable pub numbers : List Change → List ℕ
numbers [] = []
numbers (e ∷ l) = entry e ++ numbers l

-- the room with a list in front, and the rest as it was
abbrev pub written : List ℕ → List ℕ → List ℕ
written l room = l ++ drop (length l) room

-- how many fields differ
abbrev pub change_count : Kept → Kept → ℕ → ℕ
change_count a b n = count_of (differs (reading_of a) (reading_of b)) n

-- "16 if the list's room is too small, with nothing written"
abbrev pub has_room : Kept → Kept → ℕ → ℕ → Bool
has_room a b n room = leb (change_count a b n * 5) room

abbrev pub answered : ℕ → ℕ → Compared
answered code entries = record { code = code; entries = entries }

unfoldable pub listing : Kept → Kept → ℕ → ℕ → Compared
listing a b n room = cond (has_room a b n room) (answered 0 (change_count a b n)) (answered 16 0)

unfoldable pub listed : Kept → Kept → ℕ → List ℕ → List ℕ
listed a b n room = cond (has_room a b n (length room)) (written (numbers (changed a b n)) room) room

-- ---- the refusals

-- the slots of a mailbox that is not in use are no part of the sizes
abbrev pub unused_slot : Sizes → ℕ → Bool
unused_slot z f = cond (ltb f 6) false (leb z.mailboxes (f - 6))

-- number f of the sizes is the same
abbrev pub size_same : Sizes → Sizes → ℕ → Bool
size_same y z f = cond (unused_slot z f) true (eqb (size_cell y f) (size_cell z f))

unfoldable pub sizes_same : Sizes → Sizes → Bool
sizes_same y z = all_from (size_same y z) 0 10

-- "1 for tables that don't hang together, first input before second; 5 if the sizes or slots differ"
unfoldable pub refused : Kept → Kept → ℕ
refused a b =
    cond (hangs_together (opened a.tables) a.clock)
    (cond (hangs_together (opened b.tables) b.clock) (cond (sizes_same a.tables.sizes b.tables.sizes) 0 5) 1)
    1

unfoldable pub compared : Kept → Kept → ℕ → Compared
compared a b room = cond (eqb (refused a b) 0) (listing a b fields room) (answered (refused a b) 0)

unfoldable pub compared_list : Kept → Kept → List ℕ → List ℕ
compared_list a b room = cond (eqb (refused a b) 0) (listed a b fields room) room
