-- An entry more is applied, and counted if it names no field.
use Rattle.std.proofs.Common.{◌+◌, refl, arith, not}
use Rattle.kernel.specs.Walk.{count_of}
use Rattle.kernel.proofs.WalkLaws.{count-le}
use Rattle.compare.specs.Applied.{applied_numbers, place_at, is_field}
use Rattle.compare.proofs.AppliedLaws.{apply-next, passed-next}
use Rattle.compare.proofs.applying.apply.Goals as goal

pub loop-i-init : goal.loop-i-init
unfolding applied_numbers count_of
loop-i-init c = record { entries = refl; applied = refl; passed = refl }

pub overflow_add-passed : goal.overflow_add-passed
overflow_add-passed c =
    let turn = c.loop-i in
    let l = c.args.list.now in
    let more = passed-next l turn.i _ c.place_of-k.ensures _ _ turn.invariant.passed c.one_passed-passed.ensures in
    omega (arith, more, count-le (λ i. not (is_field (place_at l i))) (turn.i + 1))

pub loop-i-preserved : goal.loop-i-preserved
loop-i-preserved c =
    let turn = c.loop-i in
    let l = c.args.list.now in
    let named = c.place_of-k.ensures in
    record {
      entries = refl;
      applied = apply-next l turn.i _ named _ _ _ turn.invariant.applied c.store_named-r.ensures;
      passed = passed-next l turn.i _ named _ _ turn.invariant.passed c.one_passed-passed.ensures;
    }
