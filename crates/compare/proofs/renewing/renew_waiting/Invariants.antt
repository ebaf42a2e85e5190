-- The invariant: the words of the first p places are made anew.
use Rattle.std.proofs.Common.{◌≡◌}
use Rattle.kernel.specs.Walk.{each}
use Rattle.compare.specs.Renewed.{word_anew}
use Rattle.compare.proofs.renewing.renew_waiting.Given as goal

abbrev pub invariant-loop-p : goal.invariant-loop-p
invariant-loop-p l = l.r ≡ each l.p (word_anew l.z l.right) l.initial.r
