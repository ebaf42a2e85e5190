-- Calls on pipes, by the functions of crates/pipes.
use Rattle.std.specs.Prelude.{ℕ, List}
use Rattle.pipes.specs.declared.table.Pipes.{Pipes}
use Rattle.pipes.specs.Opening.{pipes_fresh, pipe_reset, pipe_resumed}
use Rattle.pipes.specs.Transfer.{write_answer, buffer_written, read_answer, target_read}
use Rattle.promises.specs.Paper.Pipes.{PipeCall, PipeMoment, PipeCode, pipe_moment_by, pipe_moments_by, pipes_ran_by}

abbrev pub pipe_code : PipeCode
pipe_code =
    record {
      write = write_answer;
      buffer = buffer_written;
      read = read_answer;
      target = target_read;
      reset = pipe_reset;
      resume = pipe_resumed;
    }

-- so many fresh pipes, whatever stood there
abbrev pub fresh_pipes : Pipes → ℕ → Pipes
fresh_pipes u number = (pipes_fresh u number).pipes

abbrev pub pipe_moment : Pipes → PipeCall → PipeMoment
pipe_moment = pipe_moment_by pipe_code

abbrev pub pipe_moments : Pipes → List PipeCall → List PipeMoment
pipe_moments = pipe_moments_by pipe_code

abbrev pub pipes_ran : Pipes → List PipeCall → Pipes
pipes_ran = pipes_ran_by pipe_code
