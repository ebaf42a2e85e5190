-- Each turn tries one word more.
use Rattle.std.proofs.Common.{◌≡◌, drop}
use Rattle.lists.specs.Words.{object_word}
use Rattle.lists.specs.Reading.{tried_word, last_of}
use Rattle.lists.proofs.reading.read_object.Given as goal

abbrev pub invariant-loop-o : goal.invariant-loop-o
invariant-loop-o l = l.p ≡ last_of (λ k. tried_word (drop l.at l.s) l.at k (object_word k)) l.at l.o
