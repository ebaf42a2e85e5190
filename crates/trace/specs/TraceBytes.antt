-- The bytes of a trace: "A trace begins with one version byte, 1. Records follow, length first: two bytes big-endian, then the body."
use Rattle.std.specs.Prelude.{ℕ, List, [], ◌∷◌, ◌++◌, length, take}
use Rattle.library.specs.declared.calls.Step.{Step}
use Rattle.library.specs.declared.sizes.Sizes.{Sizes}
use Rattle.trace.specs.Ordered.{bytes_n}

-- "longer than 60,000 bytes"
abbrev pub longest : ℕ
longest = 60000

-- "length first: two bytes big-endian, then the body"
abbrev pub framed : List ℕ → List ℕ
framed body = bytes_n 2 (length body) ++ body

-- "Record 0 is T, S, Q, R, M, P and M bytes of slots"
abbrev pub sizes_body : Sizes → List ℕ
sizes_body z =
    z.threads ∷ z.semaphores ∷ z.queues ∷ z.references ∷ z.mailboxes ∷ z.pools ∷ take z.mailboxes z.slots

-- "one version byte, 1", and record 0
unfoldable pub head_of : Sizes → List ℕ
head_of z = 1 ∷ framed (sizes_body z)

-- "kind, caller, object (a byte each), a, timeout (four each, big-endian)"
abbrev pub step_body : Step → List ℕ
step_body x = x.kind ∷ x.caller ∷ x.object ∷ (bytes_n 4 x.a ++ bytes_n 4 x.timeout)

-- "Each later body is 11 bytes"
unfoldable pub record_of : Step → List ℕ
record_of x = framed (step_body x)

-- the records of steps, one after the other
abbrev pub records_of : List Step → List ℕ
records_of [] = []
records_of (x ∷ xs) = record_of x ++ records_of xs

-- the trace of sizes and steps
unfoldable pub trace_of : Sizes → List Step → List ℕ
trace_of z xs = head_of z ++ records_of xs
