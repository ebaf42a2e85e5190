-- A refusal and the reset state stop a write; else the bytes are carried, as many as fit, and the positions move on within the buffer.
use Rattle.std.proofs.Common.{rules, ◌+◌, ◌≡◌, ◌∙◌, length, ap, arith, Err}
use Rattle.std.proofs.Math.Nat.{mod-lt}
use Rattle.pipes.specs.Told.{told_moved}
use Rattle.pipes.proofs.CarryingLaws.{least-min}
use Rattle.pipes.proofs.TransferLaws.{refused, in-reset, at-work, write-stops, write_goes}
use Rattle.pipes.proofs.transfer.write_pipe.Goals as goal

pub returns-in_err-judge-clause-answer : goal.returns-in_err-judge-clause-answer
returns-in_err-judge-clause-answer c =
    let a = c.args in
    let why = c.in_err-judge.field-0.0 in
    let told : c.from_residual.result ≡ Err why = search rules in
    let s = refused a.t a.i (length a.buffer.now) why c.in_err-judge.ensures in
    (write-stops a.t a.i a.buffer.now a.offered.now s.0 _ (ap (told_moved a.t) told ∙ s.1)).0

pub returns-in_err-judge-clause-buffer : goal.returns-in_err-judge-clause-buffer
returns-in_err-judge-clause-buffer c =
    let a = c.args in
    let s = refused a.t a.i (length a.buffer.now) c.in_err-judge.field-0.0 c.in_err-judge.ensures in
    (write-stops a.t a.i a.buffer.now a.offered.now s.0 _ s.1).1

pub returns-then-p-ne0-clause-answer : goal.returns-then-p-ne0-clause-answer
returns-then-p-ne0-clause-answer c =
    let a = c.args in
    let s = in-reset a.t a.i (length a.buffer.now) _ c.in_ok-judge.ensures c.pipe_at-p.ensures c.if-p-ne0.true in
    (write-stops a.t a.i a.buffer.now a.offered.now s.0 _ s.1).0

pub returns-then-p-ne0-clause-buffer : goal.returns-then-p-ne0-clause-buffer
returns-then-p-ne0-clause-buffer c =
    let a = c.args in
    let s = in-reset a.t a.i (length a.buffer.now) _ c.in_ok-judge.ensures c.pipe_at-p.ensures c.if-p-ne0.true in
    (write-stops a.t a.i a.buffer.now a.offered.now s.0 _ s.1).1

pub overflow_sub-n : goal.overflow_sub-n
overflow_sub-n c = (at-work c.args.t c.args.i (length c.args.buffer.now) _ c.in_ok-judge.ensures c.pipe_at-p.ensures).0.count

pub nonzero_rem-next : goal.nonzero_rem-next
nonzero_rem-next c = (at-work c.args.t c.args.i (length c.args.buffer.now) _ c.in_ok-judge.ensures c.pipe_at-p.ensures).1

pub overflow_cast-next : goal.overflow_cast-next
overflow_cast-next c =
    let w = at-work c.args.t c.args.i (length c.args.buffer.now) _ c.in_ok-judge.ensures c.pipe_at-p.ensures in
    omega (arith, w.2, mod-lt (c.pipe_at-p.result.positions.write + c.min-k.result) w.1)

pub overflow_cast-next-2 : goal.overflow_cast-next-2
overflow_cast-next-2 c =
    let w = at-work c.args.t c.args.i (length c.args.buffer.now) _ c.in_ok-judge.ensures c.pipe_at-p.ensures in
    omega (arith, w.2, (least-min _ _ _ c.min-k.ensures).second)

pub overflow_add-next-2 : goal.overflow_add-next-2
overflow_add-next-2 c =
    let w = at-work c.args.t c.args.i (length c.args.buffer.now) _ c.in_ok-judge.ensures c.pipe_at-p.ensures in
    omega (arith, w.2, w.0.count, (least-min _ _ _ c.min-k.ensures).second)

pub overflow_cast-k : goal.overflow_cast-k
overflow_cast-k c =
    let w = at-work c.args.t c.args.i (length c.args.buffer.now) _ c.in_ok-judge.ensures c.pipe_at-p.ensures in
    omega (arith, w.2, (least-min _ _ _ c.min-k.ensures).second)

pub returns-clause-answer : goal.returns-clause-answer
returns-clause-answer c =
    let a = c.args in
    (write_goes a.t a.i a.buffer.now a.offered.now _ c.in_ok-judge.ensures c.pipe_at-p.ensures c.if-p-ne0.false _ _ _ c.min-k.ensures c.carry.ensures
    c.go_on.ensures).0

pub returns-clause-buffer : goal.returns-clause-buffer
returns-clause-buffer c =
    let a = c.args in
    (write_goes a.t a.i a.buffer.now a.offered.now _ c.in_ok-judge.ensures c.pipe_at-p.ensures c.if-p-ne0.false _ _ _ c.min-k.ensures c.carry.ensures
    c.go_on.ensures).1
