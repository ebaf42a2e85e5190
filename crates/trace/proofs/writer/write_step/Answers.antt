-- Where nothing is refused there is room for the record, and the stores are its bytes in one run.
use Rattle.std.proofs.Common.{length, refl}
use Rattle.trace.proofs.Room.{room}
use Rattle.trace.proofs.Runs.{step_run}
use Rattle.trace.specs.Writer.{step_written}
use Rattle.trace.proofs.writer.write_step.Goals as goal

pub returns-clause-buffer : goal.returns-clause-buffer
unfolding step_written
returns-clause-buffer c =
    let a = c.args in
    let free = room (length a.buf.now) a.at 13 _ c.in_ok-judge_room.ensures refl in
    rw (← c.in_ok-judge_room.ensures)
    (step_run a.buf.now a.at a.step _ _ _ free.within c.write_u16.ensures c.write_u32.ensures c.write_u32-2.ensures)
