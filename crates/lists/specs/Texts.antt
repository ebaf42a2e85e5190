-- TWO SETS OF TABLES COMPARED, AS TEXT, and a text applied to tables. The list has room for an entry of each of the 611 fields.
use Rattle.std.specs.Prelude.{ℕ, ◌*◌, min, cond, List, eqb, take, replicate}
use Rattle.compare.specs.declared.cells.Kept.{Kept}
use Rattle.compare.specs.Compared.{compared, compared_list}
use Rattle.compare.specs.Applied.{applied_list}
use Rattle.lists.specs.Telling.{Amended}
use Rattle.lists.specs.Printing.{list_text}
use Rattle.lists.specs.Lines.{list_read}

abbrev pub room : List ℕ
room = replicate 3055 0

-- the comparison's refusal, or 0
unfoldable pub told_code : Kept → Kept → ℕ
told_code a b = (compared a b 3055).code

-- the entries that it lists
unfoldable pub told_text : Kept → Kept → List ℕ
told_text a b = list_text (take (min ((compared a b 3055).entries * 5) 3055) (compared_list a b room))

-- the entries of a text, applied if there is no other line
unfoldable pub applied_text : Kept → List ℕ → Amended
applied_text a s =
    let r = list_read s room in
    record {
      kept = cond (eqb r.lines.code 0) (applied_list a (take (min r.lines.to 3055) r.list)).kept a;
      lines = r.lines;
    }
