-- The invariant: r is what i turns of the meaning give.
use Rattle.std.proofs.Common.{◌≡◌, ◌≤◌}
use Rattle.kernel.specs.Ticking.{ticked_one}
use Rattle.kernel.specs.Walk.{each}
use Rattle.kernel.proofs.ticking.tick.Given as goal

abbrev pub invariant-loop-i : goal.invariant-loop-i
invariant-loop-i l = record { few : l.end ≤ 16; turns : l.r ≡ each l.i ticked_one l.initial.r }
