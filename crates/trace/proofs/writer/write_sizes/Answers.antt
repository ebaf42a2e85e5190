-- Where nothing is refused the sizes are bytes, there is room for them, and the stores are the version byte and record 0 in one run.
use Rattle.std.proofs.Common.{◌≡◌, ◌+◌, ◌∙◌, length, refl, sym, arith, rules}
use Rattle.trace.proofs.Room.{room}
use Rattle.trace.proofs.SizesLaws.{limits}
use Rattle.trace.proofs.Runs.{fixed-run, slot-more, head-run}
use Rattle.trace.specs.Writer.{sizes_written}
use Rattle.trace.proofs.writer.write_sizes.Goals as goal

pub overflow_cast-buf : goal.overflow_cast-buf
overflow_cast-buf c = omega (arith, (limits c.args.sizes (sym c.sizes_fit.ensures ∙ c.if-not-sizes_fit.false)).threads)

pub overflow_cast-buf-2 : goal.overflow_cast-buf-2
overflow_cast-buf-2 c = omega (arith, (limits c.args.sizes (sym c.sizes_fit.ensures ∙ c.if-not-sizes_fit.false)).semaphores)

pub overflow_cast-buf-3 : goal.overflow_cast-buf-3
overflow_cast-buf-3 c = omega (arith, (limits c.args.sizes (sym c.sizes_fit.ensures ∙ c.if-not-sizes_fit.false)).queues)

pub overflow_cast-buf-4 : goal.overflow_cast-buf-4
overflow_cast-buf-4 c = omega (arith, (limits c.args.sizes (sym c.sizes_fit.ensures ∙ c.if-not-sizes_fit.false)).references)

pub overflow_cast-buf-5 : goal.overflow_cast-buf-5
overflow_cast-buf-5 c = omega (arith, (limits c.args.sizes (sym c.sizes_fit.ensures ∙ c.if-not-sizes_fit.false)).mailboxes)

pub overflow_cast-buf-6 : goal.overflow_cast-buf-6
overflow_cast-buf-6 c = omega (arith, (limits c.args.sizes (sym c.sizes_fit.ensures ∙ c.if-not-sizes_fit.false)).pools)

pub loop-i-init : goal.loop-i-init
loop-i-init c =
    let a = c.args in
    let fit = sym c.sizes_fit.ensures ∙ c.if-not-sizes_fit.false in
    let free = room (length a.buf.now) 0 (9 + a.sizes.mailboxes) _ c.in_ok-judge_room.ensures refl in
    let four : length a.sizes.slots ≡ 4 = search rules in
    fixed-run a.buf.now a.sizes (limits a.sizes fit) four free _ c.write_u16.ensures

pub loop-i-preserved : goal.loop-i-preserved
loop-i-preserved c =
    let a = c.args in
    let fit = sym c.sizes_fit.ensures ∙ c.if-not-sizes_fit.false in
    let free = room (length a.buf.now) 0 (9 + a.sizes.mailboxes) _ c.in_ok-judge_room.ensures refl in
    let four : length a.sizes.slots ≡ 4 = search rules in
    slot-more a.buf.now a.sizes (limits a.sizes fit) four free _ _ _ c.loop-i.invariant c.write_slot.ensures

pub returns-clause-buffer : goal.returns-clause-buffer
unfolding sizes_written
returns-clause-buffer c =
    let a = c.args in
    let fit = sym c.sizes_fit.ensures ∙ c.if-not-sizes_fit.false in
    let free = room (length a.buf.now) 0 (9 + a.sizes.mailboxes) _ c.in_ok-judge_room.ensures refl in
    let four : length a.sizes.slots ≡ 4 = search rules in
    let all : c.loop-i.i ≡ 4 = omega (arith, c.loop-i.auto.i-end, c.loop-i-test.false) in
    rw (fit, ← c.in_ok-judge_room.ensures)
    (head-run a.buf.now a.sizes (limits a.sizes fit) four free _ (rw all at c.loop-i.invariant))
