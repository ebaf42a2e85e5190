-- Two answers that satisfy one public statement coincide: the contract of each public function of the crate fixes its whole result.
use Rattle.kernel.proofs.Unique.{coincide, Fixes}
use Rattle.replays.proofs.ToldLaws.{replayed-one}
use Rattle.replays.proofs.replaying.replay.Reads as replaying-replay
use Rattle.replays.proofs.replaying.replay.Kinds as replaying-replay-kinds

pub replaying-replay-one : Fixes 1 replaying-replay-kinds.ps replaying-replay-kinds.r replaying-replay.Post
replaying-replay-one κs a e x y p q = replayed-one (coincide p q)
