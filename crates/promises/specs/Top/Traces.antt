-- DEMAND 2, ITS LAST SENTENCE: "a trace of steps is written and read back as the same steps". `RoundTrip` (`Paper.Traces`) says it of any
-- functions; here it is of those that contracts cite, `trace_code`. It follows from what each of them does by itself.
use Rattle.promises.specs.Paper.Traces.{TraceCodeOf, RoundTrip}
use Rattle.promises.specs.Code.Traces.{trace_code}
use Rattle.promises.specs.Meant.Reader.{read_is}
use Rattle.promises.specs.Meant.Writer.{sizes-write-is, step-write-is}
use Rattle.promises.specs.Meant.Traces.{round_trip}

pub each-call : TraceCodeOf trace_code
each-call = record { sizes = sizes-write-is; steps = step-write-is; reads = read_is }

pub demand-2-traces : RoundTrip trace_code
demand-2-traces = round_trip trace_code each-call
