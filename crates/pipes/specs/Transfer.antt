-- The two transfers: what each answers, and what it leaves of the table, of the buffer and of the target.
use Rattle.std.specs.Prelude.{ℕ, ◌+◌, ◌-◌, Bool, cond, ◌&&◌, List, eqb, pos, length}
use Rattle.kernel.specs.Numbers.{was_reset}
use Rattle.library.specs.declared.ring.Positions.{Positions}
use Rattle.pipes.specs.declared.table.Pipes.{Pipes}
use Rattle.pipes.specs.Told.{Moved}
use Rattle.pipes.specs.Carrying.{smaller_of, ring_place, carried}
use Rattle.pipes.specs.Table.{pipe_at, with_pipe}
use Rattle.pipes.specs.Judging.{pipe_refusal}

-- bytes may move: nothing refuses it, and the pipe is not in "its reset state, where both transfers answer -2 and move nothing"
unfoldable pub goes_ahead : Pipes → ℕ → ℕ → Bool
goes_ahead t i n = eqb (pipe_refusal t i n) 0 && eqb (pipe_at t i).reset 0

-- where none may: a refusal answers "0 moved", the reset state -2
unfoldable pub stopped : Pipes → ℕ → ℕ → Moved
stopped t i n =
    record { pipes = t; code = pipe_refusal t i n; moved = cond (eqb (pipe_refusal t i n) 0) was_reset (pos 0) }

-- "the answer is the number moved"
unfoldable pub gone_on : Pipes → ℕ → Positions → ℕ → Moved
gone_on t i q k = record { pipes = with_pipe t i (record { positions = q; reset = 0 }); code = 0; moved = pos k }

-- "a write copies the smaller of what is offered and what is free": of m bytes, into a buffer of n
abbrev pub write_count : Positions → ℕ → ℕ → ℕ
write_count q n m = smaller_of m (n - q.count)

-- "a read the smaller of the target's length and what is there"
abbrev pub read_count : Positions → ℕ → ℕ
read_count q m = smaller_of m q.count

-- the positions after k bytes came in, and after k went out
abbrev pub filled : Positions → ℕ → ℕ → Positions
filled q n k = record { read = q.read; write = ring_place n q.write k; count = q.count + k }

abbrev pub drained : Positions → ℕ → ℕ → Positions
drained q n k = record { read = ring_place n q.read k; write = q.write; count = q.count - k }

-- a write of m bytes into a buffer of n, and the buffer b after a write of l
unfoldable pub write_answer : Pipes → ℕ → ℕ → ℕ → Moved
write_answer t i n m =
    cond (goes_ahead t i n)
    (gone_on t i (filled (pipe_at t i).positions n (write_count (pipe_at t i).positions n m)) (write_count (pipe_at t i).positions n m))
    (stopped t i n)

unfoldable pub buffer_written : Pipes → ℕ → List ℕ → List ℕ → List ℕ
buffer_written t i b l =
    cond (goes_ahead t i (length b)) (carried (write_count (pipe_at t i).positions (length b) (length l)) l 0 b (pipe_at t i).positions.write) b

-- a read to a target of m bytes from a buffer of n, and the target g after a read from b
unfoldable pub read_answer : Pipes → ℕ → ℕ → ℕ → Moved
read_answer t i n m =
    cond (goes_ahead t i n)
    (gone_on t i (drained (pipe_at t i).positions n (read_count (pipe_at t i).positions m)) (read_count (pipe_at t i).positions m))
    (stopped t i n)

unfoldable pub target_read : Pipes → ℕ → List ℕ → List ℕ → List ℕ
target_read t i b g =
    cond (goes_ahead t i (length b)) (carried (read_count (pipe_at t i).positions (length g)) b (pipe_at t i).positions.read g 0) g
