-- A length that was not refused lies within the trace, with its body.
use Rattle.std.proofs.Common.{sym}
use Rattle.trace.proofs.Framing.{opens}
use Rattle.trace.proofs.decoding.read_head.Goals as goal

pub slice_bounds-decode_sizes-end : goal.slice_bounds-decode_sizes-end
slice_bounds-decode_sizes-end c =
    rw c.read_u16.ensures (opens c.args.s.now (sym c.in_default.ensures)).within
