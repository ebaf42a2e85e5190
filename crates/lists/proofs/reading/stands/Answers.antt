-- One letter more is compared; a word that is longer than what is left does not stand there.
use Rattle.std.proofs.Common.{◌∙◌, sym, true, refl, arith, eq-eqb}
use Rattle.kernel.specs.Walk.{all_from}
use Rattle.lists.proofs.ReadingLaws.{letters-more, letters-all, letter-differs, no_room}
use Rattle.lists.proofs.reading.stands.Goals as goal

pub returns-then-left-word : goal.returns-then-left-word
returns-then-left-word c =
    let a = c.args in
    no_room a.s.now a.word.now a.at (rw c.left.ensures at c.if-left-word.true)

pub loop-i-init : goal.loop-i-init
unfolding all_from
loop-i-init c = record { room = rw c.left.ensures at c.if-left-word.false; letters = refl }

pub loop-i-preserved : goal.loop-i-preserved
loop-i-preserved c =
    let a = c.args in
    let loop = c.loop-i in
    record {
      room = loop.invariant.room;
      letters = sym (eq-eqb _ _ c.if-s-at.false) ∙ letters-more a.s.now a.word.now a.at loop.i true loop.invariant.letters;
    }

pub returns-then-s-at : goal.returns-then-s-at
returns-then-s-at c =
    let a = c.args in
    letter-differs a.s.now a.word.now a.at c.loop-i.i c.loop-i-test.true c.if-s-at.true

pub returns : goal.returns
returns c =
    let a = c.args in
    let inv = c.loop-i.invariant in
    letters-all a.s.now a.word.now a.at c.loop-i.i true inv.room (omega arith) c.loop-i-test.false inv.letters
