-- The invariant: w is the word of the flags from i on. Each turn puts one flag in front.
use Rattle.std.proofs.Common.{◌≡◌, ◌≤◌, drop}
use Rattle.steps.specs.Stepping.{mask_of}
use Rattle.steps.proofs.stepping.mask_of.Given as goal

abbrev pub invariant-loop-i : goal.invariant-loop-i
invariant-loop-i l = record { in_range : l.i ≤ 16; word : l.w ≡ mask_of (drop l.i l.flags) }
