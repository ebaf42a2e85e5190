-- Each turn puts one letter more.
use Rattle.std.proofs.Common.{get_or}
use Rattle.buffers.specs.Put.{Puts, rows}
use Rattle.text.specs.Rows.{letter}
use Rattle.text.proofs.items.put_letters.Given as goal

abbrev pub invariant-loop-b : goal.invariant-loop-b
invariant-loop-b l = Puts l.initial.sheet l.sheet (rows l.b-index (λ j. letter (get_or l.b-items j 0)))
