-- Each turn writes one byte more of the word.
use Rattle.std.proofs.Common.{take}
use Rattle.buffers.specs.Put.{Puts}
use Rattle.buffers.proofs.putting.Sheet.put_word.Given as goal

abbrev pub invariant-loop-b : goal.invariant-loop-b
invariant-loop-b l = Puts l.initial.self l.self (take l.b-index l.word)
