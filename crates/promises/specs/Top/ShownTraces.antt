-- A trace of two steps, by computation: written into a buffer of 40 bytes, read back, and written again into one of 38. So the chains of
-- `demand-2-traces` are met, and it speaks of them.
use Rattle.std.specs.Prelude.{ℕ, zero, suc, ◌<◌, ◌≡◌, refl, Bool, true, ◌&&◌, List, [], ◌∷◌, ◌++◌, ltb, replicate}
use Rattle.std.proofs.Common.{arith, ltb-true}
use Rattle.kernel.specs.Walk.{all_from}
use Rattle.kernel.proofs.Cases.{both-means}
use Rattle.library.specs.declared.calls.Step.{Step}
use Rattle.library.specs.declared.sizes.Sizes.{Sizes}
use Rattle.library.specs.Sizes.{sizes_fit}
use Rattle.trace.specs.Ordered.{get_n}
use Rattle.trace.specs.TraceBytes.{head_of, record_of}
use Rattle.trace.specs.Decoding.{ends_inside, length_refusal, step_refusal, decoded_sizes, decoded_step, opened_read, stepped_read, next_read}
use Rattle.trace.specs.Writer.{sizes_answer, sizes_written, step_answer, step_written}
use Rattle.promises.specs.Paper.Reader.{byte}
use Rattle.promises.specs.Paper.Writer.{AnyStep}
use Rattle.promises.specs.Paper.Traces.{StepsWritten, TraceWritten, StepsRead, TraceRead, AnySteps}
use Rattle.promises.specs.Code.Traces.{trace_code}
use Rattle.promises.specs.Meant.Sizes.{fit-limits}
use Rattle.promises.specs.Top.Traces.{demand-2-traces}

-- two threads, a semaphore and a mailbox of three slots; for one that is not there stand 99
abbrev given : Sizes
given = record { threads = 2; semaphores = 1; queues = 0; references = 0; mailboxes = 1; pools = 0; slots = 3 ∷ 99 ∷ 0 ∷ 0 ∷ [] }

-- they come back with 0 for it
abbrev held : Sizes
held = record { threads = 2; semaphores = 1; queues = 0; references = 0; mailboxes = 1; pools = 0; slots = 3 ∷ 0 ∷ 0 ∷ 0 ∷ [] }

-- any values of the five fields: kind 255 is no kind, and caller 77 no thread
abbrev wait : Step
wait = record { kind = 2; caller = 0; object = 9; a = 16909060; timeout = 4294967295 }

abbrev strange : Step
strange = record { kind = 255; caller = 77; object = 200; a = 4278190081; timeout = 84281096 }

abbrev steps : List Step
steps = wait ∷ strange ∷ []

steps-any : AnySteps steps
steps-any = AnySteps.more first (AnySteps.more second AnySteps.none)
  where
    first : AnyStep wait
    first = record { kind = omega arith; caller = omega arith; object = omega arith; a = omega arith; timeout = omega arith }

    second : AnyStep strange
    second = record { kind = omega arith; caller = omega arith; object = omega arith; a = omega arith; timeout = omega arith }

abbrev bytes : List ℕ
bytes =
    (1 ∷ 0 ∷ 7 ∷ 2 ∷ 1 ∷ 0 ∷ 0 ∷ 1 ∷ 0 ∷ 3 ∷ [])
    ++ (0 ∷ 11 ∷ 2 ∷ 0 ∷ 9 ∷ 1 ∷ 2 ∷ 3 ∷ 4 ∷ 255 ∷ 255 ∷ 255 ∷ 255 ∷ [])
    ++ (0 ∷ 11 ∷ 255 ∷ 77 ∷ 200 ∷ 255 ∷ 0 ∷ 0 ∷ 1 ∷ 5 ∷ 6 ∷ 7 ∷ 8 ∷ [])

-- it can be written, by the demand
pub writes-shown : (k : List ℕ) × TraceWritten trace_code given steps (replicate 40 7) 36 k
unfolding all_from sizes_fit
writes-shown = demand-2-traces.writes given steps (replicate 40 7) (fit-limits given refl) (omega arith) (omega arith)

-- and is, by the functions themselves
pub written-shown : TraceWritten trace_code given steps (replicate 40 7) 36 (bytes ++ replicate 4 7)
unfolding all_from sizes_fit sizes_answer sizes_written head_of step_answer step_written record_of
written-shown = TraceWritten.written 10 refl (StepsWritten.more refl (StepsWritten.more refl StepsWritten.none))

-- read back, by the demand
pub read-shown : TraceRead trace_code bytes held steps
read-shown = demand-2-traces.back given steps (replicate 40 7) (bytes ++ replicate 4 7) 36 steps-any written-shown

-- and by the functions themselves
pub read-computed : TraceRead trace_code bytes held steps
unfolding all_from sizes_fit get_n ends_inside length_refusal step_refusal decoded_sizes decoded_step opened_read stepped_read next_read
read-computed = TraceRead.read refl refl (StepsRead.more refl (StepsRead.more refl (StepsRead.ended refl)))

abbrev all_bytes : List ℕ → Bool
all_bytes [] = true
all_bytes (b ∷ l) = ltb b 256 && all_bytes l

all-bytes : (l : List ℕ) → all_bytes l ≡ true → (i : ℕ) → byte l i < 256
all-bytes [] e i = omega arith
all-bytes (b ∷ l) e zero = ltb-true b 256 (both-means (ltb b 256) (all_bytes l) e).0
all-bytes (b ∷ l) e (suc i) = all-bytes l (both-means (ltb b 256) (all_bytes l) e).1 i

-- written again, in front of what the buffer held
pub again-shown : TraceWritten trace_code held steps (replicate 38 9) 36 (bytes ++ replicate 2 9)
again-shown = demand-2-traces.again bytes held steps (replicate 38 9) (all-bytes bytes refl) read-computed (omega arith)
