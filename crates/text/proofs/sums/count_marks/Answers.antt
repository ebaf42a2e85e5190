-- Each turn looks at one object more.
use Rattle.std.proofs.Common.{arith, eq-eqb, ne_eqb}
use Rattle.text.proofs.RowLaws.{count_none, count-hit, count-miss}
use Rattle.text.proofs.sums.count_marks.Goals as goal
use Rattle.text.proofs.sums.count_marks.Goals.{then-mark_at-mark, else-mark_at-mark}

pub loop-i-init : goal.loop-i-init
loop-i-init c = record { few = omega arith; counted = count_none _ }

pub loop-i-preserved : goal.loop-i-preserved
loop-i-preserved c =
    let at = c.loop-i in
    elim c.if-mark_at-mark.branch [
      | then-mark_at-mark w ↦
          record {
            few = omega (arith, w.n-is, at.invariant.few);
            counted = count-hit _ at.i _ _ at.invariant.counted (rw (← c.mark_at.ensures) (eq-eqb _ _ w.if-mark_at-mark.true)) w.n-is;
          }
      | else-mark_at-mark w ↦
          record {
            few = omega (arith, w.n-is, at.invariant.few);
            counted = count-miss _ at.i _ _ at.invariant.counted (rw (← c.mark_at.ensures) (ne_eqb _ _ w.if-mark_at-mark.false)) w.n-is;
          }
    ]
