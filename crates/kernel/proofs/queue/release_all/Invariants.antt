-- The invariant: r is what i turns of the meaning give.
use Rattle.std.proofs.Common.{◌≡◌}
use Rattle.kernel.specs.Queue.{released_one}
use Rattle.kernel.specs.Walk.{each}
use Rattle.kernel.proofs.queue.release_all.Given as goal

abbrev pub invariant-loop-i : goal.invariant-loop-i
invariant-loop-i l = l.r ≡ each l.i (released_one l.word l.fn.m) l.initial.r
