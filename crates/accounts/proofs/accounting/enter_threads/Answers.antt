-- A turn is what the callees ensure; after sixteen the walk is whole.
use Rattle.std.proofs.Common.{◌≡◌, add-one, arith}
use Rattle.accounts.specs.Accounting.{threads_entered}
use Rattle.accounts.proofs.accounting.enter_threads.Goals as goal
use Rattle.accounts.proofs.accounting.enter_threads.Goals.{then-has_bit, else-has_bit}

pub loop-i-preserved : goal.loop-i-preserved
loop-i-preserved c =
    elim c.if-has_bit.branch [
      | then-has_bit w ↦ rw (add-one, w.r-is, w.enter_answered-r.ensures, w.call_by-call.ensures, ← c.has_bit.ensures, w.if-has_bit.true, ← c.loop-i.invariant)
      | else-has_bit w ↦ rw (add-one, w.r-is, ← c.has_bit.ensures, w.if-has_bit.false, ← c.loop-i.invariant)
    ]

pub returns : goal.returns
unfolding threads_entered
returns c =
    let end : c.loop-i.i ≡ 16 = omega arith in
    rw (c.loop-i.invariant, end)
