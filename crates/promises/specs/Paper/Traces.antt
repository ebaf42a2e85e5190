-- A TRACE WRITTEN AND READ BACK: chains of writes and chains of reads, by the functions of any code, and what the demand asks of them: "a trace
-- of steps is written and read back as the same steps".
use Rattle.std.specs.Prelude.{ℕ, ◌+◌, ◌*◌, ◌≤◌, ◌<◌, ◌≡◌, cond, List, [], ◌∷◌, ◌++◌, ltb, length, get_or, take, drop}
use Rattle.library.specs.declared.calls.Step.{Step}
use Rattle.library.specs.declared.sizes.Sizes.{Sizes}
use Rattle.trace.specs.Told.{Read, Written}
use Rattle.promises.specs.Paper.Together.{SizesFit}
use Rattle.promises.specs.Paper.Answers.{found_said}
use Rattle.promises.specs.Paper.Reader.{byte, ReadOf}
use Rattle.promises.specs.Paper.Writer.{WriteOfSizes, WriteOfStep, AnyStep, written_said}

-- what the functions of any code give: to sizes, and to a step at a place, the answer and the buffer then; and what a read at a place of a
-- trace gives
pub record TraceCode : Type 0 where
  pub sizes_answer : Sizes → List ℕ → Written
  pub sizes_buffer : Sizes → List ℕ → List ℕ
  pub step_answer : Step → ℕ → List ℕ → Written
  pub step_buffer : Step → ℕ → List ℕ → List ℕ
  pub read : List ℕ → ℕ → Read

-- each call is the paper's, taken by itself
pub record TraceCodeOf (f : TraceCode) : Type 0 where
  pub sizes : (z : Sizes) (l : List ℕ) → WriteOfSizes z l (f.sizes_answer z l) (f.sizes_buffer z l)
  pub steps : (x : Step) (at : ℕ) (l : List ℕ) → WriteOfStep x at l (f.step_answer x at l) (f.step_buffer x at l)
  pub reads : (s : List ℕ) (at : ℕ) → ReadOf s at (f.read s at)

-- ---- CHAINS

-- steps are written, each at the place where the record before it ended, into the buffer as it was left: from a place of the buffer l up to
-- the place `end` of the buffer k. None is refused
pub data StepsWritten (f : TraceCode) : List Step → ℕ → List ℕ → ℕ → List ℕ → Type 0 where
  none : {at : ℕ} {l : List ℕ} → StepsWritten f [] at l at l
  more : {x : Step} {xs : List Step} {at next end : ℕ} {l k : List ℕ}
      → written_said (f.step_answer x at l) ≡ record { code = 0; gives = 3; values = next ∷ [] }
      → StepsWritten f xs next (f.step_buffer x at l) end k → StepsWritten f (x ∷ xs) at l end k

-- sizes first, at the buffer's start, and then the steps
pub data TraceWritten (f : TraceCode) (z : Sizes) (xs : List Step) (l : List ℕ) (end : ℕ) (k : List ℕ) : Type 0 where
  written : (at : ℕ) → written_said (f.sizes_answer z l) ≡ record { code = 0; gives = 3; values = at ∷ [] }
      → StepsWritten f xs at (f.sizes_buffer z l) end k → TraceWritten f z xs l end k

-- from a place on the steps are read, each where the reader stands after the one before it, and then the end. None is refused
pub data StepsRead (f : TraceCode) (s : List ℕ) : ℕ → List Step → Type 0 where
  ended : {at : ℕ} → found_said (f.read s at).found ≡ record { code = 0; gives = 0; values = [] } → StepsRead f s at []
  more : {at : ℕ} {x : Step} {xs : List Step}
      → found_said (f.read s at).found
      ≡ record { code = 0; gives = 2; values = x.kind ∷ x.caller ∷ x.object ∷ x.a ∷ x.timeout ∷ [] }
      → StepsRead f s (f.read s at).next xs → StepsRead f s at (x ∷ xs)

-- record 0 first, at the trace's start, and then the steps
pub data TraceRead (f : TraceCode) (s : List ℕ) (z : Sizes) (xs : List Step) : Type 0 where
  read : found_said (f.read s 0).found ≡ record { code = 0; gives = 1; values = [] } → (f.read s 0).sizes ≡ z
      → StepsRead f s (f.read s 0).next xs → TraceRead f s z xs

-- ---- THE ROUND TRIP

-- each of several steps has values of its fields' widths
pub data AnySteps : List Step → Type 0 where
  none : AnySteps []
  more : {x : Step} {xs : List Step} → AnyStep x → AnySteps xs → AnySteps (x ∷ xs)

-- so many bytes: the version byte, two of length, T, S, Q, R, M, P and M of slots; and 13 a step
abbrev pub trace_length : Sizes → List Step → ℕ
trace_length z xs = 9 + z.mailboxes + 13 * length xs

-- the sizes that a trace holds: it has "M bytes of slots", so that slots of mailboxes that are not there do not come back: they are read as 0
abbrev pub sizes_held : Sizes → Sizes
sizes_held z =
    record {
      threads = z.threads;
      semaphores = z.semaphores;
      queues = z.queues;
      references = z.references;
      mailboxes = z.mailboxes;
      pools = z.pools;
      slots = cond (ltb 0 z.mailboxes) (get_or z.slots 0 0) 0
          ∷ cond (ltb 1 z.mailboxes) (get_or z.slots 1 0) 0
          ∷ cond (ltb 2 z.mailboxes) (get_or z.slots 2 0) 0
          ∷ cond (ltb 3 z.mailboxes) (get_or z.slots 3 0) 0
          ∷ [];
    }

pub record RoundTrip (f : TraceCode) : Type 0 where
  -- sizes in their limits and any steps can be written, where they are not above 60,000 bytes and the buffer has room
  pub writes : (z : Sizes) (xs : List Step) (l : List ℕ) → SizesFit z → trace_length z xs ≤ 60000 → trace_length z xs ≤ length l
      → (k : List ℕ) × TraceWritten f z xs l (trace_length z xs) k
  -- "a trace of steps is written and read back as the same steps": the bytes up to where the last record ended are read as the sizes, the
  -- steps, and then the end; and as nothing else
  pub back : (z : Sizes) (xs : List Step) (l k : List ℕ) (end : ℕ) → AnySteps xs → TraceWritten f z xs l end k
      → TraceRead f (take end k) (sizes_held z) xs
  pub back-only : (z y : Sizes) (xs ys : List Step) (l k : List ℕ) (end : ℕ) → AnySteps xs → TraceWritten f z xs l end k
      → TraceRead f (take end k) y ys → (y ≡ sizes_held z) × (ys ≡ xs)
  -- and bytes that are read up to their end, written again, are the same bytes, in front of what the buffer held; and no others
  pub again : (s : List ℕ) (z : Sizes) (xs : List Step) (l : List ℕ) → ((i : ℕ) → byte s i < 256) → TraceRead f s z xs → length s ≤ length l
      → TraceWritten f z xs l (length s) (s ++ drop (length s) l)
  pub again-only : (s : List ℕ) (z : Sizes) (xs : List Step) (l k : List ℕ) (end : ℕ) → ((i : ℕ) → byte s i < 256) → TraceRead f s z xs
      → TraceWritten f z xs l end k → take end k ≡ s
