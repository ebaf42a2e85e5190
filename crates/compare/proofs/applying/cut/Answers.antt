-- A place of w bytes has room for 256 ^ w numbers; 32 bits are four bytes.
use Rattle.std.proofs.Common.{sym, arith}
use Rattle.std.proofs.Math.Nat.{mod-eq_of_lt}
use Rattle.compare.proofs.LaidLaws.{limit-width, width_four}
use Rattle.compare.proofs.applying.cut.Goals as goal

pub returns-then-w-eq1 : goal.returns-then-w-eq1
returns-then-w-eq1 c = rw (limit-width c.args.i, ← c.width_of-w.ensures, c.if-w-eq1.true)

pub returns-then-w-eq2 : goal.returns-then-w-eq2
returns-then-w-eq2 c = rw (limit-width c.args.i, ← c.width_of-w.ensures, c.if-w-eq2.true)

pub returns-else-w-eq2 : goal.returns-else-w-eq2
returns-else-w-eq2 c =
    let four = width_four _ c.args.i c.width_of-w.ensures c.if-w-eq1.false c.if-w-eq2.false in
    rw (limit-width c.args.i, ← c.width_of-w.ensures, four) (sym (mod-eq_of_lt (omega arith)))
