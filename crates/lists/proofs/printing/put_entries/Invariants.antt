-- Each turn puts one entry more.
use Rattle.buffers.specs.Put.{Puts, rows}
use Rattle.lists.specs.Printing.{entry_text, entry_in}
use Rattle.lists.proofs.printing.put_entries.Given as goal

abbrev pub invariant-loop-i : goal.invariant-loop-i
invariant-loop-i l = Puts l.initial.sheet l.sheet (rows l.i (λ k. entry_text (entry_in l.list k)))
