-- What stands at a place of a trace. "Refusals: 15 longer than 60,000 bytes; 11 empty or another version; 12 the input ends inside a
-- length or body, or before record 0; 13 wrong length; 14 a size out of its limits; in that order, per record."
use Rattle.std.specs.Prelude.{ℕ, Result, Ok, Err, Option, Some, None, ◌+◌, ◌-◌, ◌/◌, Bool, true, cond, List, [], ◌∷◌, eqb, ltb, length, get_or, take, drop}
use Rattle.library.specs.declared.calls.Step.{Step}
use Rattle.library.specs.declared.sizes.Sizes.{Sizes}
use Rattle.trace.specs.declared.decoding.Record.{Record}
use Rattle.trace.specs.declared.decoding.Record.TheVariants as read
use Rattle.trace.specs.declared.decoding.BadRecord.{BadRecord}
use Rattle.trace.specs.declared.decoding.Read as declared
use Rattle.kernel.specs.Told.{number}
use Rattle.trace.specs.Told.{Found, Read}
use Rattle.trace.specs.Ordered.{get_n}
use Rattle.library.specs.Sizes.{sizes_fit, no_sizes}
use Rattle.trace.specs.TraceBytes.{longest}

-- the refusal's number in each case, 0 where nothing is refused
abbrev pub found_code : Found → ℕ
found_code Found.Opened = 0
found_code (Found.Stepped x) = 0
found_code Found.Ended = 0
found_code (Found.Refused code number) = code

-- what a read of the code found, as it is told
abbrev pub told_found : Result (Option Record) BadRecord → Found
told_found (Ok (Some (read.Sizes z))) = Found.Opened
told_found (Ok (Some (read.Step s))) = Found.Stepped s
told_found (Ok None) = Found.Ended
told_found (Err bad) = Found.Refused (number bad.why) bad.number

-- the sizes beside it: record 0's, else none
abbrev pub told_sizes : Result (Option Record) BadRecord → Sizes
told_sizes (Ok (Some (read.Sizes z))) = z
told_sizes (Ok (Some (read.Step s))) = no_sizes
told_sizes (Ok None) = no_sizes
told_sizes (Err bad) = no_sizes

-- how a read of the code is told
abbrev pub told_read : declared.Read → Read
told_read r = record { found = told_found r.found; sizes = told_sizes r.found; next = r.next }

-- the record's number, from its place: record 0's length is 8 to 12 bytes after the version byte, a later record's 13
abbrev pub number_at : ℕ → ℕ
number_at at = cond (ltb at 9) 0 ((at - 9) / 13 + 1)

-- "the input ends inside a length or body"
unfoldable pub ends_inside : List ℕ → ℕ → Bool
ends_inside s at = cond (ltb (length s) (at + 2)) true (ltb (length s) (at + 2 + get_n 2 s at))

-- 15, 11, 12 and 13 of record 0, in that order. "Record 0's right length is 6 plus its M byte; below 6 is wrong"
unfoldable pub length_refusal : List ℕ → ℕ
length_refusal s =
    cond (ltb longest (length s))
    15
    (cond (eqb (get_or s 0 0) 1) (cond (ends_inside s 1) 12 (cond (eqb (get_n 2 s 1) (6 + get_or s 7 0)) 0 13)) 11)

-- 12 and 13 of a later record, in that order. "Each later body is 11 bytes"
unfoldable pub step_refusal : List ℕ → ℕ → ℕ
step_refusal s at = cond (ends_inside s at) 12 (cond (eqb (get_n 2 s at) 11) 0 13)

-- "T, S, Q, R, M, P and M bytes of slots"; past the body's end stand zeros
unfoldable pub decoded_sizes : List ℕ → Sizes
decoded_sizes l =
    record {
      threads = get_or l 0 0;
      semaphores = get_or l 1 0;
      queues = get_or l 2 0;
      references = get_or l 3 0;
      mailboxes = get_or l 4 0;
      pools = get_or l 5 0;
      slots = get_or l 6 0 ∷ get_or l 7 0 ∷ get_or l 8 0 ∷ get_or l 9 0 ∷ [];
    }

-- "kind, caller, object (a byte each), a, timeout (four each, big-endian)"
unfoldable pub decoded_step : List ℕ → Step
decoded_step l =
    record { kind = get_or l 0 0; caller = get_or l 1 0; object = get_or l 2 0; a = get_n 4 l 3; timeout = get_n 4 l 7 }

-- nothing was read: the place stays
abbrev pub stopped_read : Found → ℕ → Read
stopped_read f at = record { found = f; sizes = no_sizes; next = at }

-- "A refused read gives the number, the record's number and no step, and moves no reader"
abbrev pub refused_read : ℕ → ℕ → Read
refused_read code at = stopped_read (Found.Refused code (number_at at)) at

-- the read of a refusal's number: 0 is what stands there, any other a refusal
abbrev pub read_of : ℕ → ℕ → Read → Read
read_of code at r = cond (eqb code 0) r (refused_read code at)

-- the sizes in record 0
abbrev pub head_sizes : List ℕ → Sizes
head_sizes s = decoded_sizes (take (get_n 2 s 1) (drop 3 s))

-- 15, 11, 12, 13 and then 14, "a size out of its limits"
abbrev pub head_refusal : List ℕ → ℕ
head_refusal s = cond (eqb (length_refusal s) 0) (cond (sizes_fit (head_sizes s)) 0 14) (length_refusal s)

-- the version byte and record 0
unfoldable pub opened_read : List ℕ → Read
opened_read s = read_of (head_refusal s) 0 (record { found = Found.Opened; sizes = head_sizes s; next = 3 + get_n 2 s 1 })

-- a later record, or the end: "a body is handed to the step decoder as the part of the trace it is"
unfoldable pub stepped_read : List ℕ → ℕ → Read
stepped_read s at =
    cond (eqb at (length s))
    (stopped_read Found.Ended at)
    (read_of (step_refusal s at) at
    (record { found = Found.Stepped (decoded_step (take 11 (drop (at + 2) s))); sizes = no_sizes; next = at + 13 }))

-- the refusal's number at a place, 0 where a record stands there or the trace ends
abbrev pub refusal_at : List ℕ → ℕ → ℕ
refusal_at s at = cond (eqb at 0) (head_refusal s) (cond (eqb at (length s)) 0 (step_refusal s at))

-- what stands at a place of a trace
unfoldable pub next_read : List ℕ → ℕ → Read
next_read s at = cond (eqb at 0) (opened_read s) (stepped_read s at)
