-- A word that stands there ends within the text.
use Rattle.std.proofs.Common.{sym, ◌∙◌, arith}
use Rattle.lists.proofs.ReadingLaws.{begins-room}
use Rattle.lists.proofs.reading.word_part.Goals as goal

pub overflow_add-result : goal.overflow_add-result
overflow_add-result c =
    let a = c.args in
    omega (arith, begins-room a.s.now a.word.now a.at (sym c.stands.ensures ∙ c.if-stands.true))
