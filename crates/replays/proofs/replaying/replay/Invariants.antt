-- The invariant: what is still to be read makes of x what all reads make of the beginning.
use Rattle.std.proofs.Common.{◌≡◌, ◌-◌}
use Rattle.replays.specs.Replaying.{told_replayed, replay_from, replayed}
use Rattle.replays.proofs.replaying.replay.Given as goal

abbrev pub invariant-loop-i : goal.invariant-loop-i
invariant-loop-i l = replay_from (5000 - l.i) l.s (told_replayed l.x) ≡ replayed l.s
