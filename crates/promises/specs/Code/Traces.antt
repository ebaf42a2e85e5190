-- Traces written and read, by the functions of crates/trace. A step's values are not judged, so the answer to it has no need of them.
use Rattle.trace.specs.Decoding.{next_read}
use Rattle.trace.specs.Writer.{sizes_answer, sizes_written, step_answer, step_written}
use Rattle.promises.specs.Paper.Traces.{TraceCode}

abbrev pub trace_code : TraceCode
trace_code =
    record {
      sizes_answer = sizes_answer;
      sizes_buffer = sizes_written;
      step_answer = λ x. step_answer;
      step_buffer = step_written;
      read = next_read;
    }
