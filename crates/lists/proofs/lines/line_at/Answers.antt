-- An entry that is taken has room.
use Rattle.std.proofs.Common.{◌+◌, sym, ap, ◌∙◌, arith, leb-true}
use Rattle.lists.specs.Telling.{stop_of}
use Rattle.lists.proofs.LinesLaws.{judged-room}
use Rattle.lists.proofs.lines.line_at.Goals as goal

pub overflow_add-result : goal.overflow_add-result
overflow_add-result c =
    let a = c.args in
    let e = c.read_entry-e.result in
    let room = judged-room e.fine e.entry c.has_room.result (sym c.judge.ensures ∙ ap stop_of c.in-None.is) in
    omega (arith, leb-true (a.x.to + 5) a.room (sym c.has_room.ensures ∙ room))
