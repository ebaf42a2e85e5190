-- At the end nothing is read; else one read more is made.
use Rattle.std.proofs.Common.{◌-◌, ◌∙◌, sym, arith}
use Rattle.replays.proofs.ReplayLaws.{replay-done, replay-more, replay-none}
use Rattle.replays.proofs.ToldLaws.{over-is}
use Rattle.replays.specs.Replaying.{told_replayed}
use Rattle.replays.proofs.replaying.replay.Goals as goal

pub returns-then-is_some : goal.returns-then-is_some
returns-then-is_some c =
    let loop = c.loop-i in
    replay-done (5000 - loop.i) _ (told_replayed loop.x) (over-is loop.x.end ∙ sym c.is_some.ensures ∙ c.if-is_some.true) ∙ loop.invariant

pub loop-i-preserved : goal.loop-i-preserved
loop-i-preserved c =
    let loop = c.loop-i in
    replay-more loop.i _ (told_replayed loop.x) _ _ (over-is loop.x.end ∙ sym c.is_some.ensures ∙ c.if-is_some.false) (omega arith) c.read_at.ensures c.read_on-x.ensures ∙ loop.invariant

pub returns : goal.returns
returns c =
    let loop = c.loop-i in
    replay-none (5000 - loop.i) _ _ _ (omega arith) loop.invariant
