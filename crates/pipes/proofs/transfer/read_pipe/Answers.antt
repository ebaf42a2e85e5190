-- A refusal and the reset state stop a read; else the bytes are carried, as many as are there, and the positions move on within the buffer.
use Rattle.std.proofs.Common.{rules, ◌+◌, ◌≡◌, ◌∙◌, length, ap, arith, Err}
use Rattle.std.proofs.Math.Nat.{mod-lt}
use Rattle.pipes.specs.Told.{told_moved}
use Rattle.pipes.proofs.TransferLaws.{refused, in-reset, at-work, read-stops, read_goes}
use Rattle.pipes.proofs.transfer.read_pipe.Goals as goal

pub returns-in_err-judge-clause-answer : goal.returns-in_err-judge-clause-answer
returns-in_err-judge-clause-answer c =
    let a = c.args in
    let why = c.in_err-judge.field-0.0 in
    let told : c.from_residual.result ≡ Err why = search rules in
    let s = refused a.t a.i (length a.buffer.now) why c.in_err-judge.ensures in
    (read-stops a.t a.i a.buffer.now a.target.now s.0 _ (ap (told_moved a.t) told ∙ s.1)).0

pub returns-in_err-judge-clause-target : goal.returns-in_err-judge-clause-target
returns-in_err-judge-clause-target c =
    let a = c.args in
    let s = refused a.t a.i (length a.buffer.now) c.in_err-judge.field-0.0 c.in_err-judge.ensures in
    (read-stops a.t a.i a.buffer.now a.target.now s.0 _ s.1).1

pub returns-then-p-ne0-clause-answer : goal.returns-then-p-ne0-clause-answer
returns-then-p-ne0-clause-answer c =
    let a = c.args in
    let s = in-reset a.t a.i (length a.buffer.now) _ c.in_ok-judge.ensures c.pipe_at-p.ensures c.if-p-ne0.true in
    (read-stops a.t a.i a.buffer.now a.target.now s.0 _ s.1).0

pub returns-then-p-ne0-clause-target : goal.returns-then-p-ne0-clause-target
returns-then-p-ne0-clause-target c =
    let a = c.args in
    let s = in-reset a.t a.i (length a.buffer.now) _ c.in_ok-judge.ensures c.pipe_at-p.ensures c.if-p-ne0.true in
    (read-stops a.t a.i a.buffer.now a.target.now s.0 _ s.1).1

pub nonzero_rem-next : goal.nonzero_rem-next
nonzero_rem-next c = (at-work c.args.t c.args.i (length c.args.buffer.now) _ c.in_ok-judge.ensures c.pipe_at-p.ensures).1

pub overflow_cast-next : goal.overflow_cast-next
overflow_cast-next c =
    let w = at-work c.args.t c.args.i (length c.args.buffer.now) _ c.in_ok-judge.ensures c.pipe_at-p.ensures in
    omega (arith, w.2, mod-lt (c.pipe_at-p.result.positions.read + c.min-k.result) w.1)

pub returns-clause-answer : goal.returns-clause-answer
returns-clause-answer c =
    let a = c.args in
    (read_goes a.t a.i a.buffer.now a.target.now _ c.in_ok-judge.ensures c.pipe_at-p.ensures c.if-p-ne0.false _ _ _ c.min-k.ensures c.carry.ensures
    c.go_on.ensures).0

pub returns-clause-target : goal.returns-clause-target
returns-clause-target c =
    let a = c.args in
    (read_goes a.t a.i a.buffer.now a.target.now _ c.in_ok-judge.ensures c.pipe_at-p.ensures c.if-p-ne0.false _ _ _ c.min-k.ensures c.carry.ensures
    c.go_on.ensures).1
