-- Each turn puts one thing more.
use Rattle.buffers.specs.Put.{Puts, rows}
use Rattle.text.specs.Rows.{field, cell_of}
use Rattle.text.proofs.items.put_cells.Given as goal

abbrev pub invariant-loop-j : goal.invariant-loop-j
invariant-loop-j l = Puts l.initial.sheet l.sheet (rows l.j (λ k. field (cell_of l.cells k)))
