-- What is stored is what the step by value gave, by whether it was accepted and advances the clock.
use Rattle.host.proofs.RequestLaws.{tables-is, result-is, kept_tables, kept-clock, ticked-clock, other-clock}
use Rattle.host.proofs.request.nil_step.Goals as goal

pub returns-then-done-2 : goal.returns-then-done-2
returns-then-done-2 c =
    let h = c.args.tables.now in
    let k = c.args.clock.now in
    let q = c.args.request.now in
    let e = c.answer-done.ensures in
    (tables-is h k q _ e, ticked-clock h k q _ e _ c.if-done-2.true c.tick.ensures, result-is h k q _ e)

pub returns-else-done-2 : goal.returns-else-done-2
returns-else-done-2 c =
    let h = c.args.tables.now in
    let k = c.args.clock.now in
    let q = c.args.request.now in
    let e = c.answer-done.ensures in
    (tables-is h k q _ e, other-clock h k q _ e c.if-done.true c.if-done-2.false, result-is h k q _ e)

pub returns-else-done : goal.returns-else-done
returns-else-done c =
    let h = c.args.tables.now in
    let k = c.args.clock.now in
    let q = c.args.request.now in
    let e = c.answer-done.ensures in
    (kept_tables h k q _ e c.if-done.false, kept-clock h k q _ e c.if-done.false, result-is h k q _ e)
