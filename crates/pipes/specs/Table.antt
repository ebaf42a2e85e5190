-- The pipes of a host, read and written by their numbers.
use Rattle.std.specs.Prelude.{ℕ, List, get_or, set}
use Rattle.pipes.specs.declared.table.Pipe.{Pipe}
use Rattle.pipes.specs.declared.table.Pipes.{Pipes}

-- an empty pipe
abbrev pub blank_pipe : Pipe
blank_pipe = record { positions = record { read = 0; write = 0; count = 0 }; reset = 0 }

-- the record of pipe i
abbrev pub pipe_in : List Pipe → ℕ → Pipe
pipe_in pipes i = get_or pipes i blank_pipe

abbrev pub pipe_at : Pipes → ℕ → Pipe
pipe_at t i = pipe_in t.pipes i

-- the table with pipe i's record anew
abbrev pub with_pipe : Pipes → ℕ → Pipe → Pipes
with_pipe t i p = record { pipes = set t.pipes i p; number = t.number }
