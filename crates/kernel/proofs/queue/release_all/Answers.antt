-- After sixteen turns all are released.
use Rattle.std.proofs.Common.{◌∙◌, arith}
use Rattle.kernel.proofs.Signed.{signed}
use Rattle.kernel.proofs.QueueLaws.{release-all-turns}
use Rattle.kernel.proofs.queue.release_all.Goals as goal

pub returns : goal.returns
returns c =
    c.loop-i.invariant
    ∙ release-all-turns c.args.k c.args.place c.args.m _ c.loop-i.i _ c.waiting_at-word.ensures (omega arith)
    (signed c.ranges.m.sfits)
