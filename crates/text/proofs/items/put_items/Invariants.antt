-- Each turn puts one item more.
use Rattle.std.proofs.Common.{take}
use Rattle.buffers.specs.Put.{Puts}
use Rattle.text.specs.Rows.{fields}
use Rattle.text.proofs.items.put_items.Given as goal

abbrev pub invariant-loop-x : goal.invariant-loop-x
invariant-loop-x l = Puts l.initial.sheet l.sheet (fields (take l.x-index l.items))
