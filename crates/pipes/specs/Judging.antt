-- The refusals of a call on a pipe, in their order.
use Rattle.std.specs.Prelude.{ℕ, Bool, cond, ◌&&◌, leb, ltb}
use Rattle.library.specs.Ring.{positions_fit}
use Rattle.pipes.specs.declared.table.Pipes.{Pipes}
use Rattle.pipes.specs.Table.{pipe_at}

-- "up to 4 pipes": pipe i is there
abbrev pub is_there : Pipes → ℕ → Bool
is_there t i = leb t.number 4 && ltb i t.number

-- "a lent buffer of 1 to 256 bytes"
abbrev pub length_fits : ℕ → Bool
length_fits n = leb 1 n && leb n 256

-- "5 for a pipe that isn't there or a buffer length outside 1 to 256; then 6 if its places or count don't fit the buffer as a mailbox's
-- fit its slots"
unfoldable pub pipe_refusal : Pipes → ℕ → ℕ → ℕ
pipe_refusal t i n = cond (is_there t i) (cond (length_fits n) (cond (positions_fit (pipe_at t i).positions n) 0 6) 5) 5
