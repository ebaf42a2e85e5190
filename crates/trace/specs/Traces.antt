-- Whole traces, record by record: all that a reader finds in one, and all that a writer leaves of sizes and steps.
use Rattle.std.specs.Prelude.{ℕ, zero, suc, ◌<◌, ◌≤◌, ◌^◌, ◌≡◌, List, [], ◌∷◌, length, get_or}
use Rattle.library.specs.declared.calls.Step.{Step}
use Rattle.library.specs.declared.sizes.Sizes.{Sizes}
use Rattle.trace.specs.Told.{Found, Read, Written}
use Rattle.trace.specs.Decoding.{next_read}
use Rattle.library.specs.Sizes.{slots_at, no_sizes}
use Rattle.trace.specs.Writer.{sizes_answer, sizes_written, step_answer, step_written}

-- ---- reading

-- what reads from a place on have found: record 0's sizes, the steps, and what stopped them
pub record Reading : Type 0 where
  pub sizes : Sizes
  pub steps : List Step
  pub stop : Found

-- nothing but a stop
abbrev pub stopped : Found → Reading
stopped f = record { sizes = no_sizes; steps = []; stop = f }

-- one read, and the reads after it: the end and a refusal stop them
abbrev pub read_on : Read → Found → Reading → Reading
read_on r Found.Opened rest = record { sizes = r.sizes; steps = rest.steps; stop = rest.stop }
read_on r (Found.Stepped x) rest = record { sizes = rest.sizes; steps = x ∷ rest.steps; stop = rest.stop }
read_on r Found.Ended rest = stopped Found.Ended
read_on r (Found.Refused code number) rest = stopped (Found.Refused code number)

-- at most n reads from a place on; a refusal without a number where they do not come to a stop
unfoldable pub read_from : ℕ → List ℕ → ℕ → Reading
read_from zero s at = stopped (Found.Refused 0 0)
read_from (suc n) s at = let rest = read_from n s (next_read s at).next in read_on (next_read s at) (next_read s at).found rest

-- all of a trace: a record is longer than a byte, so these reads come to a stop (`comes-to-a-stop` in proofs/ReadingLaws.antt)
unfoldable pub read_all : List ℕ → Reading
read_all s = read_from (suc (length s)) s 0

-- ---- writing

-- a writer between two records: its last answer, and the buffer
pub record Writing : Type 0 where
  pub answer : Written
  pub buffer : List ℕ

-- one step more; after a refusal nothing is written
abbrev pub written_on : Written → List ℕ → Step → Writing
written_on (Written.Upto at) l x = record { answer = step_answer at l; buffer = step_written x at l }
written_on (Written.Refused code) l x = record { answer = Written.Refused code; buffer = l }

-- steps, one after the other
unfoldable pub written_from : Writing → List Step → Writing
written_from w [] = w
written_from w (x ∷ xs) = written_from (written_on w.answer w.buffer x) xs

-- sizes and steps, into a buffer
unfoldable pub written_all : Sizes → List Step → List ℕ → Writing
written_all z xs l = written_from (record { answer = sizes_answer z l; buffer = sizes_written z l }) xs

-- ---- which values there are: what the machine's widths allow

-- "kind, caller, object (a byte each), a, timeout (four each ..)"; "Any values of the five fields encode"
pub record Encodes (x : Step) : Type 0 where
  pub kind : x.kind < 256
  pub caller : x.caller < 256
  pub object : x.object < 256
  pub a : x.a < 2 ^ 32
  pub timeout : x.timeout < 2 ^ 32

-- every step of a list encodes
pub data AllEncode : List Step → Type 0 where
  none : AllEncode []
  more : {x : Step} {xs : List Step} → Encodes x → AllEncode xs → AllEncode (x ∷ xs)

-- a table of four mailboxes' slots, with 0 for those that are not there
pub record Tabled (z : Sizes) : Type 0 where
  pub four : length z.slots ≡ 4
  pub absent : (i : ℕ) → z.mailboxes ≤ i → slots_at z i ≡ 0

-- a slice of bytes
abbrev pub Bytes : List ℕ → Type 0
Bytes s = (i : ℕ) → get_or s i 0 < 256
