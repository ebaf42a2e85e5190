-- How a text under way, a line and amended tables are told: with a code, which is 0, or the number of why reading stopped.
use Rattle.std.specs.Prelude.{ℕ, Bool, true, false, Result, Ok, Err, Option, Some, None}
use Rattle.kernel.specs.declared.refusals.Refusal.{Refusal}
use Rattle.compare.specs.declared.cells.Kept.{Kept}
use Rattle.lists.specs.declared.printing.Entry.{Entry}
use Rattle.lists.specs.declared.lines.BadLine.{BadLine}
use Rattle.lists.specs.declared.lines.BadLine.TheVariants.{NoEntry, NoField, NoRoom}
use Rattle.lists.specs.declared.lines.Lines as code-lines
use Rattle.lists.specs.declared.lines.Turn as code-turn
use Rattle.lists.specs.declared.texts.Amended as code-amended
use Rattle.lists.specs.Printing.{entry_of}

-- the number of what is wrong with a line
abbrev pub number : BadLine → ℕ
number NoEntry = 1
number NoField = 2
number NoRoom = 3

-- 0, or the number of why reading stopped
abbrev pub stop_of : Option BadLine → ℕ
stop_of None = 0
stop_of (Some why) = number why

-- a text under way: the place in it and the number of the line there; the place in the list; and why reading stopped, or 0
pub record Lines : Type 0 where
  pub at : ℕ
  pub line : ℕ
  pub to : ℕ
  pub code : ℕ

abbrev pub told_lines : code-lines.Lines → Lines
told_lines x = record { at = x.at; line = x.line; to = x.to; code = stop_of x.stopped }

-- one line: what is known behind it, and whether the entry beside it is to be stored
pub record Turn : Type 0 where
  pub next : Lines
  pub stores : Bool
  pub entry : Entry

abbrev pub no_entry : Entry
no_entry = entry_of 0 0 0 0 0

abbrev pub is_stored : Option Entry → Bool
is_stored None = false
is_stored (Some x) = true

abbrev pub entry_or_none : Option Entry → Entry
entry_or_none None = no_entry
entry_or_none (Some x) = x

abbrev pub told_turn : code-turn.Turn → Turn
told_turn t = record { next = told_lines t.next; stores = is_stored t.entry; entry = entry_or_none t.entry }

-- tables after a list, and where its reading ended, or stopped
pub record Amended : Type 0 where
  pub kept : Kept
  pub lines : Lines

abbrev pub told_amended : code-amended.Amended → Amended
told_amended x = record { kept = x.kept; lines = told_lines x.lines }

-- the place behind the text of a comparison; nothing is told of a refused one
abbrev pub end_of : Result ℕ Refusal → ℕ
end_of (Ok end) = end
end_of (Err why) = 0
