-- A record that was not refused lies within the trace, so its body can be handed on.
use Rattle.std.proofs.Common.{sym, arith}
use Rattle.trace.proofs.Framing.{stands}
use Rattle.trace.proofs.decoding.read_step.Goals as goal

pub overflow_add-from : goal.overflow_add-from
overflow_add-from c =
    omega (arith, (stands c.args.s.now c.args.at (sym c.in_default.ensures)).within)

pub overflow_add-to : goal.overflow_add-to
overflow_add-to c =
    omega (arith, (stands c.args.s.now c.args.at (sym c.in_default.ensures)).within)

pub slice_bounds-decode_step-end : goal.slice_bounds-decode_step-end
slice_bounds-decode_step-end c = (stands c.args.s.now c.args.at (sym c.in_default.ensures)).within
