-- Time, fresh tables, traces and the boundary, by computation: a case for each arm of each relation, and for the hypotheses of the theorems
-- that have some, so that they speak of something.
use Rattle.std.specs.Prelude.{ℕ, zero, suc, ◌<◌, ◌≡◌, refl, List, [], ◌∷◌, ◌++◌, length, get_or, drop, replicate, Some, None}
use Rattle.std.proofs.Common.{arith}
use Rattle.kernel.specs.declared.time.SystemTime.{SystemTime}
use Rattle.kernel.specs.declared.time.Interval.{Interval}
use Rattle.kernel.specs.declared.clock.Clock.{Clock}
use Rattle.kernel.specs.declared.units.Unit.TheVariants.{Seconds, Milliseconds, Microseconds}
use Rattle.kernel.specs.Told.{Ticks, Units}
use Rattle.kernel.specs.Time.{added, differed, in_range, advanced}
use Rattle.kernel.specs.Units.{in_ticks, of_ticks}
use Rattle.kernel.specs.Walk.{bit, all_from}
use Rattle.library.specs.declared.calls.Step.{Step}
use Rattle.library.specs.declared.sizes.Sizes.{Sizes}
use Rattle.library.specs.Sizes.{sizes_fit}
use Rattle.library.specs.Tables.{blank_mailbox}
use Rattle.library.specs.Fresh.{made}
use Rattle.trace.specs.Told.{Read, Written}
use Rattle.trace.specs.Ordered.{get_n}
use Rattle.trace.specs.TraceBytes.{head_of, record_of}
use Rattle.trace.specs.Decoding.{ends_inside, length_refusal, step_refusal, decoded_sizes, decoded_step, opened_read, stepped_read, next_read}
use Rattle.trace.specs.Writer.{sizes_answer, sizes_written, step_answer, step_written}
use Rattle.host.specs.declared.request.Request.{Request}
use Rattle.host.specs.declared.reads.ReadResult.{ReadResult}
use Rattle.host.specs.Setup.{prepared, clock_set}
use Rattle.host.specs.Times.{added_time, differed_time, in_range_number, ticks_code, ticks_in, units_code, units_of}
use Rattle.host.specs.Reads.{read_at}
use Rattle.host.specs.Request.{step_of}
use Rattle.host.specs.Writes.{place_written}
use Rattle.promises.specs.Paper.Together.{SizesFit}
use Rattle.promises.specs.Paper.Fresh.{nothing}
use Rattle.promises.specs.Paper.Answers.{found_said}
use Rattle.promises.specs.Paper.Reader.{Gives, Reached, NumberOf}
use Rattle.promises.specs.Paper.Writer.{AnyStep, written_said}
use Rattle.promises.specs.Paper.Traces.{sizes_held}
use Rattle.promises.specs.Meant.Sizes.{fit-limits}
use Rattle.promises.specs.Meant.Reader.{read_is, reached-number}
use Rattle.promises.specs.Meant.Writer.{step-write-is, sizes-write-is, record-stands, head-stands}
use Rattle.promises.specs.Paper.Host.{Host}
use Rattle.promises.specs.Meant.Encoding.{step-read-back, sizes-read-back}

-- ---- time

abbrev at : ℕ → SystemTime
at n = record { 0 = n }

abbrev for : ℕ → Interval
for n = record { 0 = n }

-- sums and differences within and across the wrap, a time in range and one that is not, the tick, and its wrap
pub times-shown : (added (at 3) (for 4)).0
    ∷ (added (at 4294967295) (for 2)).0
    ∷ (differed (at 3) (at 10)).0
    ∷ (differed (at 10) (at 3)).0
    ∷ bit (in_range (at 5) (at 3) (at 10))
    ∷ bit (in_range (at 10) (at 3) (at 10))
    ∷ (advanced (at 7)).0
    ∷ (advanced (at 4294967295)).0
    ∷ []
    ≡ 7 ∷ 1 ∷ 7 ∷ 4294967289 ∷ 1 ∷ 0 ∷ 8 ∷ 0 ∷ []
times-shown = refl

abbrev ticks_row : Ticks → List ℕ
ticks_row r = r.code ∷ r.interval.0 ∷ []

abbrev units_row : Units → List ℕ
units_row r = r.code ∷ r.value ∷ []

-- to ticks: frequencies 0 and 1,000,001, where none is given, and where 1000 is, the longest result, and one above it
pub ticks-shown : ticks_row (in_ticks Seconds 1 (Some 0))
    ∷ ticks_row (in_ticks Seconds 1 (Some 1000001))
    ∷ ticks_row (in_ticks Seconds 2 None)
    ∷ ticks_row (in_ticks Seconds 2 (Some 1000))
    ∷ ticks_row (in_ticks Seconds 4294967294 (Some 1))
    ∷ ticks_row (in_ticks Seconds 4294967295 (Some 1))
    ∷ ticks_row (in_ticks Milliseconds 1 (Some 3))
    ∷ ticks_row (in_ticks Microseconds 1000001 (Some 1))
    ∷ []
    ≡ (6 ∷ 0 ∷ []) ∷ (6 ∷ 0 ∷ []) ∷ (0 ∷ 20000 ∷ []) ∷ (0 ∷ 2000 ∷ []) ∷ (0 ∷ 4294967294 ∷ []) ∷ (6 ∷ 0 ∷ []) ∷ (0 ∷ 1 ∷ []) ∷ (0 ∷ 2 ∷ []) ∷ []
unfolding in_ticks
ticks-shown = refl

-- from ticks: the same, infinite, and a result above 32 bits
pub units-shown : units_row (of_ticks Seconds (for 1) (Some 0))
    ∷ units_row (of_ticks Seconds (for 1) (Some 1000001))
    ∷ units_row (of_ticks Seconds (for 4294967295) None)
    ∷ units_row (of_ticks Seconds (for 10001) None)
    ∷ units_row (of_ticks Seconds (for 10001) (Some 1000))
    ∷ units_row (of_ticks Microseconds (for 4294967294) (Some 1))
    ∷ []
    ≡ (6 ∷ 0 ∷ []) ∷ (6 ∷ 0 ∷ []) ∷ (6 ∷ 0 ∷ []) ∷ (0 ∷ 2 ∷ []) ∷ (0 ∷ 11 ∷ []) ∷ (0 ∷ 4294967294000000 ∷ []) ∷ []
unfolding of_ticks
units-shown = refl

-- ---- sizes and fresh tables

-- two threads, a semaphore and a mailbox of three slots; what stands for the three that are not there is free
abbrev two : Sizes
two =
    record { threads = 2; semaphores = 1; queues = 0; references = 0; mailboxes = 1; pools = 0; slots = 3 ∷ 0 ∷ 99 ∷ 0 ∷ [] }

-- as it is read back
abbrev two-read : Sizes
two-read =
    record { threads = 2; semaphores = 1; queues = 0; references = 0; mailboxes = 1; pools = 0; slots = 3 ∷ 0 ∷ 0 ∷ 0 ∷ [] }

-- seventeen threads
abbrev many : Sizes
many =
    record { threads = 17; semaphores = 1; queues = 0; references = 0; mailboxes = 0; pools = 0; slots = 0 ∷ 0 ∷ 0 ∷ 0 ∷ [] }

two-limits : SizesFit two
unfolding sizes_fit
two-limits = fit-limits two refl

-- a size, then the frequency; both together give 14
pub made-codes-shown : (made many (Some 0)).code ∷ (made two (Some 0)).code ∷ (made two (Some 1000001)).code ∷ (made two (Some 50)).code ∷ []
    ≡ 14 ∷ 6 ∷ 6 ∷ 0 ∷ []
unfolding all_from sizes_fit made
made-codes-shown = refl

-- the clock's frequency: where none is given, and as given
pub made-frequencies-shown : (made two None).clock.frequency ∷ (made two (Some 1000)).clock.frequency ∷ (made two (Some 1000000)).clock.frequency ∷ []
    ≡ 10000 ∷ 1000 ∷ 1000000 ∷ []
unfolding all_from sizes_fit made
made-frequencies-shown = refl

-- ---- reading

-- what a read says: the refusal, what it gives, the place after it, the values
abbrev said : Read → List ℕ
said r = (found_said r.found).code ∷ (found_said r.found).gives ∷ r.next ∷ (found_said r.found).values

abbrev head : List ℕ
head = 1 ∷ 0 ∷ 7 ∷ 2 ∷ 1 ∷ 0 ∷ 0 ∷ 1 ∷ 0 ∷ 3 ∷ []

abbrev body : List ℕ
body = 0 ∷ 11 ∷ 2 ∷ 0 ∷ 9 ∷ 1 ∷ 2 ∷ 3 ∷ 4 ∷ 255 ∷ 255 ∷ 255 ∷ 255 ∷ []

-- at the beginning: too long, empty, another version, inside the length, inside the body, a wrong length, a size, and record 0
pub heads-shown : said (next_read (replicate 60001 1) 0)
    ∷ said (next_read [] 0)
    ∷ said (next_read (2 ∷ []) 0)
    ∷ said (next_read (1 ∷ 0 ∷ []) 0)
    ∷ said (next_read (1 ∷ 0 ∷ 6 ∷ 2 ∷ []) 0)
    ∷ said (next_read (1 ∷ 0 ∷ 5 ∷ 2 ∷ 1 ∷ 0 ∷ 0 ∷ 0 ∷ []) 0)
    ∷ said (next_read (1 ∷ 0 ∷ 6 ∷ 17 ∷ 1 ∷ 0 ∷ 0 ∷ 0 ∷ 0 ∷ []) 0)
    ∷ said (next_read head 0)
    ∷ []
    ≡ (15 ∷ 0 ∷ 0 ∷ 0 ∷ [])
    ∷ (11 ∷ 0 ∷ 0 ∷ 0 ∷ [])
    ∷ (11 ∷ 0 ∷ 0 ∷ 0 ∷ [])
    ∷ (12 ∷ 0 ∷ 0 ∷ 0 ∷ [])
    ∷ (12 ∷ 0 ∷ 0 ∷ 0 ∷ [])
    ∷ (13 ∷ 0 ∷ 0 ∷ 0 ∷ [])
    ∷ (14 ∷ 0 ∷ 0 ∷ 0 ∷ [])
    ∷ (0 ∷ 1 ∷ 10 ∷ [])
    ∷ []
unfolding all_from sizes_fit get_n ends_inside length_refusal decoded_sizes opened_read stepped_read next_read
heads-shown = refl

pub sizes-shown : (next_read head 0).sizes ≡ two-read
unfolding all_from sizes_fit get_n ends_inside length_refusal decoded_sizes opened_read stepped_read next_read
sizes-shown = refl

-- behind record 0: the end, inside the length, inside the body, a wrong length, past the end, and a step
pub records-shown : said (next_read head 10)
    ∷ said (next_read (head ++ (0 ∷ [])) 10)
    ∷ said (next_read (head ++ (0 ∷ 11 ∷ 2 ∷ [])) 10)
    ∷ said (next_read (head ++ (0 ∷ 1 ∷ 2 ∷ [])) 10)
    ∷ said (next_read head 24)
    ∷ said (next_read (head ++ body) 10)
    ∷ []
    ≡ (0 ∷ 0 ∷ 10 ∷ [])
    ∷ (12 ∷ 0 ∷ 10 ∷ 1 ∷ [])
    ∷ (12 ∷ 0 ∷ 10 ∷ 1 ∷ [])
    ∷ (13 ∷ 0 ∷ 10 ∷ 1 ∷ [])
    ∷ (12 ∷ 0 ∷ 24 ∷ 2 ∷ [])
    ∷ (0 ∷ 2 ∷ 23 ∷ 2 ∷ 0 ∷ 9 ∷ 16909060 ∷ 4294967295 ∷ [])
    ∷ []
unfolding get_n ends_inside step_refusal decoded_step opened_read stepped_read next_read
records-shown = refl

-- a reader that has read record 0 stands before record 1
pub reached-shown : Reached (head ++ body) 1 10
unfolding all_from sizes_fit get_n ends_inside length_refusal decoded_sizes opened_read stepped_read next_read
reached-shown = Reached.on Reached.begin (next_read (head ++ body) 0) (read_is (head ++ body) 0) (λ e. omega (arith, e))

pub number-shown : NumberOf 10 1
number-shown = reached-number reached-shown

-- ---- writing

-- the refusal, what it gives, the values, and the first bytes of the buffer
abbrev row : Written → List ℕ → List ℕ
row w k = (written_said w).code ∷ (written_said w).gives ∷ (written_said w).values ++ k

-- sizes: a size out of its limits, a buffer that is too short, and record 0
pub sizes-written-shown : row (sizes_answer many (replicate 3 7)) (sizes_written many (replicate 3 7))
    ∷ row (sizes_answer two (replicate 9 7)) (sizes_written two (replicate 9 7))
    ∷ row (sizes_answer two (replicate 12 7)) (sizes_written two (replicate 12 7))
    ∷ []
    ≡ (14 ∷ 0 ∷ 7 ∷ 7 ∷ 7 ∷ [])
    ∷ (16 ∷ 0 ∷ 7 ∷ 7 ∷ 7 ∷ 7 ∷ 7 ∷ 7 ∷ 7 ∷ 7 ∷ 7 ∷ [])
    ∷ (0 ∷ 3 ∷ 10 ∷ 1 ∷ 0 ∷ 7 ∷ 2 ∷ 1 ∷ 0 ∷ 0 ∷ 1 ∷ 0 ∷ 3 ∷ 7 ∷ 7 ∷ [])
    ∷ []
unfolding all_from sizes_fit sizes_answer sizes_written head_of
sizes-written-shown = refl

abbrev wait : Step
wait = record { kind = 2; caller = 0; object = 9; a = 16909060; timeout = 4294967295 }

-- a step: past 60,000 bytes, past the buffer, and its record
pub steps-written-shown : row (step_answer 59988 (7 ∷ [])) (step_written wait 59988 (7 ∷ []))
    ∷ row (step_answer 10 (replicate 22 7)) (drop 21 (step_written wait 10 (replicate 22 7)))
    ∷ row (step_answer 10 (replicate 24 7)) (drop 9 (step_written wait 10 (replicate 24 7)))
    ∷ []
    ≡ (15 ∷ 0 ∷ 7 ∷ [])
    ∷ (16 ∷ 0 ∷ 7 ∷ [])
    ∷ (0 ∷ 3 ∷ 23 ∷ 7 ∷ (body ++ (7 ∷ [])))
    ∷ []
unfolding step_answer step_written record_of
steps-written-shown = refl

-- ---- what is written is read back

abbrev after : List ℕ
after = step_written wait 10 (head ++ replicate 13 7)

-- the step's five fields have any values of their widths
wait-any : AnyStep wait
wait-any = record { kind = omega arith; caller = omega arith; object = omega arith; a = omega arith; timeout = omega arith }

pub step-back-shown : Gives (next_read after 10)
    (record { code = 0; gives = 2; values = 2 ∷ 0 ∷ 9 ∷ 16909060 ∷ 4294967295 ∷ [] }) nothing 23
unfolding step_answer step_written record_of
step-back-shown =
    step-read-back wait 10 (head ++ replicate 13 7) after wait-any (omega arith) (omega arith)
    (record-stands (step-write-is wait 10 (head ++ replicate 13 7)) refl)
    (next_read after 10) (read_is after 10)

-- a mailbox that is not there has 99 slots in `two`, and is read back with 0
abbrev opening : List ℕ
opening = sizes_written two (replicate 12 7)

pub sizes-back-shown : (next_read opening 0).sizes ≡ sizes_held two
unfolding all_from sizes_fit sizes_answer sizes_written head_of
sizes-back-shown =
    (sizes-read-back two (replicate 12 7) opening two-limits (omega arith) (omega arith)
    (head-stands (sizes-write-is two (replicate 12 7)) refl)
    (next_read opening 0) (read_is opening 0)).1.0

-- ---- the boundary

abbrev request : Request
request = record { kind = 2; caller = 0; object = 0; unused = 170; a = 5; timeout = 6 }

four-boxes : (m : ℕ) → m < 4 → length (get_or (replicate 4 blank_mailbox) m blank_mailbox).messages ≡ 16
four-boxes zero h = refl
four-boxes (suc zero) h = refl
four-boxes (suc (suc zero)) h = refl
four-boxes (suc (suc (suc zero))) h = refl
four-boxes (suc (suc (suc (suc m)))) h = absurd (omega arith)

-- fresh tables meet what is asked of a host's
pub host-shown : Host (made two None).tables (made two None).clock (step_of request)
unfolding all_from sizes_fit made
host-shown =
    record {
      tables = record {
        threads = refl;
        counters = refl;
        references = refl;
        waiting = refl;
        mailboxes = refl;
        messages = four-boxes;
        pools = refl;
        lists = λ q h. absurd (omega arith);
        marks = λ q h. absurd (omega arith);
      };
      time = omega arith;
      step = record { object = omega arith; operand = omega arith };
    }

-- set-up: a size, the frequency, and fresh tables; the time that stood there is kept at a refusal
abbrev old : Clock
old = record { time = record { 0 = 5 }; frequency = 9 }

abbrev clock_row : Clock → List ℕ
clock_row c = c.time.0 ∷ c.frequency ∷ []

pub set-up-shown : ((prepared many 1000).code ∷ clock_row (clock_set many 1000 old))
    ∷ ((prepared two 0).code ∷ clock_row (clock_set two 0 old))
    ∷ ((prepared two 1000).code ∷ clock_row (clock_set two 1000 old))
    ∷ []
    ≡ (14 ∷ 5 ∷ 9 ∷ []) ∷ (6 ∷ 5 ∷ 9 ∷ []) ∷ (0 ∷ 0 ∷ 1000 ∷ []) ∷ []
unfolding all_from sizes_fit made
set-up-shown = refl

abbrev read_row : ReadResult → List ℕ
read_row x =
    x.code ∷ x.found ∷ x.number ∷ x.next ∷ x.sizes.threads ∷ x.step.kind ∷ x.step.object ∷ x.step.unused ∷ x.step.a ∷ x.step.timeout ∷ []

-- a read: a refusal, record 0, a step, the end
pub reads-shown : read_row (read_at (2 ∷ []) 0)
    ∷ read_row (read_at (head ++ body) 0)
    ∷ read_row (read_at (head ++ body) 10)
    ∷ read_row (read_at (head ++ body) 23)
    ∷ []
    ≡ (11 ∷ 0 ∷ 0 ∷ 0 ∷ 0 ∷ 0 ∷ 0 ∷ 0 ∷ 0 ∷ 0 ∷ [])
    ∷ (0 ∷ 1 ∷ 0 ∷ 10 ∷ 2 ∷ 0 ∷ 0 ∷ 0 ∷ 0 ∷ 0 ∷ [])
    ∷ (0 ∷ 2 ∷ 1 ∷ 23 ∷ 0 ∷ 2 ∷ 9 ∷ 0 ∷ 16909060 ∷ 4294967295 ∷ [])
    ∷ (0 ∷ 0 ∷ 2 ∷ 23 ∷ 0 ∷ 0 ∷ 0 ∷ 0 ∷ 0 ∷ 0 ∷ [])
    ∷ []
unfolding all_from sizes_fit get_n ends_inside length_refusal step_refusal decoded_sizes decoded_step opened_read stepped_read next_read
reads-shown = refl

-- a write moves the host's place, a refused one leaves it
pub places-shown : place_written (step_answer 10 (replicate 24 7)) 99 ∷ place_written (step_answer 10 (replicate 22 7)) 99 ∷ [] ≡ 23 ∷ 99 ∷ []
unfolding step_answer
places-shown = refl

-- time for a host: a sum, a difference, in range and not, and conversions each way, refused and not
pub host-times-shown : added_time 4294967295 2
    ∷ differed_time 10 3
    ∷ in_range_number 5 3 10
    ∷ in_range_number 10 3 10
    ∷ ticks_code Seconds 1 0
    ∷ ticks_in Milliseconds 1 3
    ∷ units_code Seconds 4294967295 1000
    ∷ units_of Seconds 1001 1000
    ∷ []
    ≡ 1 ∷ 4294967289 ∷ 1 ∷ 0 ∷ 6 ∷ 1 ∷ 6 ∷ 2 ∷ []
unfolding in_ticks of_ticks
host-times-shown = refl
