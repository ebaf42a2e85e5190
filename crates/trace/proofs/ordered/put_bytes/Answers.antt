-- The part that is copied is the run of bytes.
use Rattle.trace.proofs.Widths.{part-put}
use Rattle.trace.proofs.ordered.put_bytes.Goals as goal

pub returns-then-bytes-len : goal.returns-then-bytes-len
returns-then-bytes-len c = part-put _ _ _ _ c.if-at-len.true c.if-bytes-len.true c.copy_from_slice.ensures.after
