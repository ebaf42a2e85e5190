-- The invariant: r is what i turns of the meaning give.
use Rattle.std.proofs.Common.{◌≡◌}
use Rattle.kernel.specs.Walk.{each}
use Rattle.accounts.specs.Accounting.{thread_entered}
use Rattle.accounts.proofs.accounting.enter_threads.Given as goal

abbrev pub invariant-loop-i : goal.invariant-loop-i
invariant-loop-i l =
    l.r ≡ each l.i (thread_entered l.number l.mailboxes l.old l.s l.finished l.new) l.initial.r
