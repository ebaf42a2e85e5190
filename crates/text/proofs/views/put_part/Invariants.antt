-- Each turn puts one row more behind the heading.
use Rattle.buffers.specs.Put.{Puts, rows}
use Rattle.text.specs.Parts.{part_number}
use Rattle.text.specs.Rows.{row_text}
use Rattle.text.specs.Views.{row_of}
use Rattle.text.proofs.views.put_part.Given as goal

abbrev pub invariant-loop-i : goal.invariant-loop-i
invariant-loop-i l = Puts l.initial.sheet l.sheet (rows l.i (λ j. row_text (row_of l.x (part_number l.part) j)))
