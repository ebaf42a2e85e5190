-- What is left of the reads, from the place reached, ends where all of them do, and leaves known what they do. A read that moves nothing is the
-- last.
use Rattle.std.proofs.Common.{◌≡◌, ◌+◌, ◌-◌, ◌<◌, ◌∙◌, sym, arith}
use Rattle.text.proofs.EndingLaws.{none_left, stays, read_more}
use Rattle.text.proofs.ViewLaws.{seen-on, seen-none, seen-last}
use Rattle.text.proofs.printing.print_records.Goals as goal

pub loop-number-preserved : goal.loop-number-preserved
loop-number-preserved g c =
    let at = c.loop-number in
    let next = c.list_next-x.ensures in
    let some : 0 < 5000 - at.number = omega arith in
    let less : 5000 - (at.number + 1) ≡ 5000 - at.number - 1 = omega arith in
    rw less
    (record {
      to = read_more (5000 - at.number) _ at.x.at _ next.at some ∙ at.invariant.to;
      seen = seen-on _ (5000 - at.number) _ _ at.x.seen _ at.x.at _ next.seen next.at c.if-x-at.false some ∙ at.invariant.seen;
    })

pub returns-then-x-at : goal.returns-then-x-at
returns-then-x-at g c =
    let at = c.loop-number in
    let next = c.list_next-x.ensures in
    let some : 0 < 5000 - at.number = omega arith in
    let last = sym next.at ∙ c.if-x-at.true in (
      c.if-x-at.true ∙ sym (stays (5000 - at.number) _ _ last) ∙ at.invariant.to,
      seen-last _ (5000 - at.number) _ _ at.x.seen _ at.x.at next.seen last some ∙ at.invariant.seen,
    )

pub returns : goal.returns
returns g c =
    let at = c.loop-number in
    let none : 5000 - at.number ≡ 0 = omega (arith, c.loop-number-test.false) in
    (sym (none_left (5000 - at.number) _ _ none) ∙ at.invariant.to, sym (seen-none _ (5000 - at.number) _ _ _ _ none) ∙ at.invariant.seen)
