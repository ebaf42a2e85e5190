-- Each turn tries one word more.
use Rattle.std.proofs.Common.{◌≡◌, drop}
use Rattle.lists.specs.Words.{field_word}
use Rattle.lists.specs.Reading.{tried_word, last_of}
use Rattle.lists.proofs.reading.read_field.Given as goal

abbrev pub invariant-loop-f : goal.invariant-loop-f
invariant-loop-f l = l.p ≡ last_of (λ k. tried_word (drop l.at l.s) l.at k (field_word l.o k)) l.at l.f
