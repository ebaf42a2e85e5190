-- Each turn puts one part more.
use Rattle.std.proofs.Common.{◌+◌, ◌%◌}
use Rattle.buffers.specs.Put.{Puts, rows}
use Rattle.text.specs.Views.{part_text}
use Rattle.text.proofs.views.put_parts.Given as goal

abbrev pub invariant-loop-i : goal.invariant-loop-i
invariant-loop-i l = Puts l.initial.sheet l.sheet (rows l.i (λ j. part_text l.x ((l.from + j) % 256)))
