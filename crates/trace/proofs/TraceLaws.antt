-- Traces: what is written is read back, what is read is written back, and where a reader stands.
use Prim.Native.Nat.{ℕ, zero, suc, ◌+◌, ◌*◌, ◌≤◌}
use native.Mathlib.Omega.{arith}
use mathlib.Core.Path.{◌≡◌, refl, sym}
use mathlib.Core.Bool.{true, false}
use mathlib.Core.List.{List, [], ◌∷◌, ◌++◌}
use lib.Dec.{eqb}
use lib.ListN.{length, take, drop, length-append}
use lib.Seq.{take-append_seam}
use borrow.Author.Tests.{eqb-true, ne_eqb, le-ltb}
use Rattle.library.specs.declared.calls.Step.{Step}
use Rattle.library.specs.declared.sizes.Sizes.{Sizes}
use Rattle.library.specs.Sizes.{sizes_fit}
use Rattle.trace.specs.Told.{Found, Written}
use Rattle.trace.specs.TraceBytes.{longest, head_of, record_of, records_of, trace_of}
use Rattle.trace.specs.Decoding.{found_code, number_at, head_refusal, step_refusal, refused_read, refusal_at, opened_read, stepped_read, next_read}
use Rattle.trace.specs.Writer.{written_code, write_answer, room_refusal, sizes_refusal, sizes_written, step_written}
use Rattle.trace.specs.Traces.{read_all, written_all, AllEncode, Tabled, Bytes}
use Rattle.trace.proofs.AgainLaws.{ReadToItsEnd, read_whole, trace-again, head-tabled}
use Rattle.kernel.proofs.Cases.{split}
use Rattle.trace.proofs.ReadingLaws.{all_read}
use Rattle.trace.proofs.SizesLaws.{Limits, limits}
use Rattle.trace.proofs.WritingLaws.{length-record, length-head, all-written}

-- ---- "a trace of steps is written and read back as the same steps"

pub record RoundTrip (z : Sizes) (xs : List Step) (l : List ℕ) : Type 0 where
  -- every record is accepted, and the buffer holds the trace, and behind it what it held before
  pub written : written_all z xs l ≡ record { answer = Written.Upto (length (trace_of z xs)); buffer = trace_of z xs ++ drop (length (trace_of z xs)) l }
  -- what was written is read back as the same sizes and the same steps, and then the end
  pub read : read_all (take (length (trace_of z xs)) (written_all z xs l).buffer) ≡ record { sizes = z; steps = xs; stop = Found.Ended }

pub round_trip : (z : Sizes) (xs : List Step) (l : List ℕ) → sizes_fit z ≡ true → Tabled z → AllEncode xs
    → length (trace_of z xs) ≤ longest → length (trace_of z xs) ≤ length l → RoundTrip z xs l
round_trip z xs l fit t es h g =
    let w = all-written z xs l fit t.four h g in
    record {
      written = w;
      read = rw (w, take-append_seam) (all_read z xs fit t es h);
    }

-- ---- what is read, written again, gives the same bytes

pub read_again : (s : List ℕ) → Bytes s → (read_all s).stop ≡ Found.Ended → trace_of (read_all s).sizes (read_all s).steps ≡ s
read_again s b e = trace-again s b (read_whole s e)

-- and so it is written, into any buffer that holds it
pub written-again : (s l : List ℕ) → Bytes s → (read_all s).stop ≡ Found.Ended → length s ≤ length l
    → written_all (read_all s).sizes (read_all s).steps l ≡ record { answer = Written.Upto (length s); buffer = s ++ drop (length s) l }
written-again s l b e h =
    let k : ReadToItsEnd s = read_whole s e in
    let same : trace_of (read_all s).sizes (read_all s).steps ≡ s = trace-again s b k in
    let fit : sizes_fit (read_all s).sizes ≡ true = rw k.sizes k.start.fit in
    let four : length (read_all s).sizes.slots ≡ 4 = rw k.sizes (head-tabled s k.start).four in
    rw same at (all-written (read_all s).sizes (read_all s).steps l fit four (rw same k.start.opens.short) (rw same h))

-- ---- places

length-records : (xs : List Step) → length (records_of xs) ≡ 13 * length xs
length-records [] = refl
length-records (x ∷ xs) = omega (arith, length-append (record_of x) (records_of xs), length-record x, length-records xs)

-- the record's number follows from its place: behind k steps stands record k + 1
pub numbered : (z : Sizes) (xs : List Step) → sizes_fit z ≡ true → length z.slots ≡ 4 → number_at (length (trace_of z xs)) ≡ suc (length xs)
unfolding trace_of
numbered z xs fit four =
    let small : Limits z = limits z fit in
    let at : length (head_of z ++ records_of xs) ≡ 9 + z.mailboxes + 13 * length xs =
    omega (arith, length-append (head_of z) (records_of xs), length-head z small four, length-records xs) in
    rw (le-ltb (length (head_of z ++ records_of xs)) 9 (omega arith)) (omega (arith, small.mailboxes))

-- "A refused read gives the number, the record's number and no step, and moves no reader"
pub refused-read : (s : List ℕ) (at : ℕ) → (refusal_at s at ≡ 0 → ⊥) → next_read s at ≡ refused_read (refusal_at s at) at
unfolding next_read opened_read stepped_read
refused-read s zero h = split (eqb (head_refusal s) 0) (λ t. absurd (h (eqb-true (head_refusal s) 0 t))) (λ f. rw f)
refused-read s (suc at) h =
    let later : eqb (suc at) 0 ≡ false = ne_eqb (suc at) 0 (λ z. omega arith) in
    split (eqb (suc at) (length s))
    (λ t. absurd ((rw (later, t) at h) refl))
    (λ f. split (eqb (step_refusal s (suc at)) 0)
    (λ t. absurd ((rw (later, f) at h) (eqb-true (step_refusal s (suc at)) 0 t)))
    (λ g. rw (later, f, g)))

-- any other read gives no number
pub code_read : (s : List ℕ) (at : ℕ) → found_code (next_read s at).found ≡ refusal_at s at
unfolding next_read opened_read stepped_read
code_read s zero =
    split (eqb (head_refusal s) 0) (λ t. rw t (sym (eqb-true (head_refusal s) 0 t))) (λ f. rw f)
code_read s (suc at) =
    let later : eqb (suc at) 0 ≡ false = ne_eqb (suc at) 0 (λ z. omega arith) in
    split (eqb (suc at) (length s))
    (λ t. rw (later, t))
    (λ f. split (eqb (step_refusal s (suc at)) 0)
    (λ t. rw (later, f, t) (sym (eqb-true (step_refusal s (suc at)) 0 t)))
    (λ g. rw (later, f, g)))

-- ---- "The writer refuses, writing nothing"

-- an answer gives the refusal's number
pub code-answered : (code next : ℕ) → written_code (write_answer code next) ≡ code
code-answered code next = split (eqb code 0) (λ t. rw t (sym (eqb-true code 0 t))) (λ f. rw f)

pub sizes-unwritten : (z : Sizes) (l : List ℕ) → (sizes_refusal z l ≡ 0 → ⊥) → sizes_written z l ≡ l
unfolding sizes_written
sizes-unwritten z l h = rw (ne_eqb (sizes_refusal z l) 0 h)

pub step-unwritten : (x : Step) (at : ℕ) (l : List ℕ) → (room_refusal (length l) at 13 ≡ 0 → ⊥) → step_written x at l ≡ l
unfolding step_written
step-unwritten x at l h = rw (ne_eqb (room_refusal (length l) at 13) 0 h)
