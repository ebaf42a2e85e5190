-- A read of a trace as a host gets it.
use Rattle.std.specs.Prelude.{ℕ, List}
use Rattle.library.specs.declared.calls.Step.{Step}
use Rattle.trace.specs.Told.{Found}
use Rattle.trace.specs.Decoding.{found_code, number_at, next_read}
use Rattle.host.specs.declared.request.Request.{Request}
use Rattle.host.specs.declared.reads.ReadResult.{ReadResult}

-- no step
abbrev pub no_request : Request
no_request = record { kind = 0; caller = 0; object = 0; unused = 0; a = 0; timeout = 0 }

-- a step's five fields
abbrev pub request_of : Step → Request
request_of s =
    record { kind = s.kind; caller = s.caller; object = s.object; unused = 0; a = s.a; timeout = s.timeout }

-- "A refused read gives .. no step"
abbrev pub request_in : Found → Request
request_in Found.Opened = no_request
request_in (Found.Stepped s) = request_of s
request_in Found.Ended = no_request
request_in (Found.Refused code number) = no_request

-- 1 for sizes, 2 for a step, 0 for neither
abbrev pub found_number : Found → ℕ
found_number Found.Opened = 1
found_number (Found.Stepped s) = 2
found_number Found.Ended = 0
found_number (Found.Refused code number) = 0

-- "the number, the record's number and no step, and moves no reader", or what stands at the place
abbrev pub read_at : List ℕ → ℕ → ReadResult
read_at s at =
    record {
      next = (next_read s at).next;
      number = number_at at;
      step = request_in (next_read s at).found;
      sizes = (next_read s at).sizes;
      found = found_number (next_read s at).found;
      code = found_code (next_read s at).found;
    }
