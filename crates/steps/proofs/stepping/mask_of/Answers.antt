-- The word of fewer than sixteen flags has room for one more.
use Rattle.std.proofs.Common.{◌≡◌, ◌-◌, false, length, get_or, arith, rules}
use Rattle.steps.proofs.Masks.{flag_le, mask-room}
use Rattle.steps.proofs.stepping.mask_of.Goals as goal

pub overflow_mul-w : goal.overflow_mul-w
overflow_mul-w c =
    let sized : length c.args.flags ≡ 16 = search rules in
    record { fits = omega (arith, c.loop-i.invariant.word, mask-room c.args.flags c.loop-i.i sized c.loop-i-test.true) }

pub overflow_add-w : goal.overflow_add-w
overflow_add-w c =
    let sized : length c.args.flags ≡ 16 = search rules in
    let room = mask-room c.args.flags c.loop-i.i sized c.loop-i-test.true in
    record { fits = omega (arith, c.loop-i.invariant.word, room, c.from.ensures, flag_le (get_or c.args.flags (c.loop-i.i - 1) false)) }
