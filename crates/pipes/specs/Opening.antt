-- Pipes set up fresh, reset and resumed. A refusal leaves the table as it was.
use Rattle.std.specs.Prelude.{ℕ, cond, eqb, leb, replicate}
use Rattle.pipes.specs.declared.table.Pipes.{Pipes}
use Rattle.pipes.specs.Told.{Opened}
use Rattle.pipes.specs.Table.{blank_pipe, pipe_at, with_pipe}
use Rattle.pipes.specs.Judging.{pipe_refusal}

-- "up to 4 pipes", all empty; 14, as for a size out of its limits
unfoldable pub pipes_fresh : Pipes → ℕ → Opened
pipes_fresh t number =
    cond (leb number 4) (record { pipes = record { pipes = replicate 4 blank_pipe; number = number }; code = 0 })
    (record { pipes = t; code = 14 })

-- the table as a call leaves it, if nothing refuses the call
abbrev pub unless_refused : Pipes → ℕ → ℕ → Pipes → Opened
unless_refused t i n after =
    cond (eqb (pipe_refusal t i n) 0) (record { pipes = after; code = 0 }) (record { pipes = t; code = pipe_refusal t i n })

-- "Reset empties a pipe, returns both places to 0 and sets its reset state"
unfoldable pub pipe_reset : Pipes → ℕ → ℕ → Opened
pipe_reset t i n = unless_refused t i n (with_pipe t i (record { positions = record { read = 0; write = 0; count = 0 }; reset = 1 }))

-- "resume clears it"
unfoldable pub pipe_resumed : Pipes → ℕ → ℕ → Opened
pipe_resumed t i n = unless_refused t i n (with_pipe t i (record { positions = (pipe_at t i).positions; reset = 0 }))
