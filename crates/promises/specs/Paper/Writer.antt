-- WRITING A TRACE, AS DOCUMENT 01 TELLS IT: relations between what is to be written, the buffer before, and the answer and the buffer after.
use Rattle.std.specs.Prelude.{ℕ, ◌+◌, ◌/◌, ◌%◌, ◌≤◌, ◌<◌, ◌≡◌, List, [], ◌∷◌, length, get_or}
use Rattle.library.specs.declared.calls.Step.{Step}
use Rattle.library.specs.declared.sizes.Sizes.{Sizes}
use Rattle.trace.specs.Told.{Written}
use Rattle.promises.specs.Paper.Together.{SizesFit}
use Rattle.promises.specs.Paper.Answers.{Said}
use Rattle.promises.specs.Paper.Reader.{byte}

-- what a writer answers: the place after the record, or "The writer refuses, .. with 14 .., 15 .., 16"
abbrev pub written_said : Written → Said
written_said (Written.Upto next) = record { code = 0; gives = 3; values = next ∷ [] }
written_said (Written.Refused code) = record { code = code; gives = 0; values = [] }

-- ---- what is written, byte by byte: the buffer is l before and k after

-- "A trace begins with one version byte, 1. Records follow, length first: two bytes big-endian, then the body. Record 0 is T, S, Q, R, M,
-- P and M bytes of slots": 6 + M is below 256, so the length's first byte is 0
pub record HeadIn (z : Sizes) (l k : List ℕ) : Type 0 where
  pub size : length k ≡ length l
  pub version : byte k 0 ≡ 1
  pub length_high : byte k 1 ≡ 0
  pub length-low : byte k 2 ≡ 6 + z.mailboxes
  pub threads : byte k 3 ≡ z.threads
  pub semaphores : byte k 4 ≡ z.semaphores
  pub queues : byte k 5 ≡ z.queues
  pub references : byte k 6 ≡ z.references
  pub mailboxes : byte k 7 ≡ z.mailboxes
  pub pools : byte k 8 ≡ z.pools
  pub slots : (m : ℕ) → m < z.mailboxes → byte k (9 + m) ≡ get_or z.slots m 0
  -- and nothing else
  pub behind : (i : ℕ) → 9 + z.mailboxes ≤ i → byte k i ≡ byte l i

-- "four each, big-endian": the number n at a place
pub record FourIn (k : List ℕ) (at n : ℕ) : Type 0 where
  pub first : byte k at ≡ n / 16777216 % 256
  pub second : byte k (at + 1) ≡ n / 65536 % 256
  pub third : byte k (at + 2) ≡ n / 256 % 256
  pub last : byte k (at + 3) ≡ n % 256

-- "two bytes big-endian"
pub record TwoIn (k : List ℕ) (at n : ℕ) : Type 0 where
  pub first : byte k at ≡ n / 256 % 256
  pub last : byte k (at + 1) ≡ n % 256

-- a number of so many bytes is written at a place, where there is room for it, and nothing else
pub data NumberWritten (wide : ℕ) (l : List ℕ) (at : ℕ) (In : List ℕ → Type 0) (k : List ℕ) : Type 0 where
  written : at + wide ≤ length l → length k ≡ length l → ((i : ℕ) → i < at → byte k i ≡ byte l i) → In k
      → ((i : ℕ) → at + wide ≤ i → byte k i ≡ byte l i) → NumberWritten wide l at In k
  no_room : length l < at + wide → k ≡ l → NumberWritten wide l at In k

-- "Each later body is 11 bytes: kind, caller, object (a byte each), a, timeout (four each, big-endian)"
pub record RecordIn (x : Step) (at : ℕ) (l k : List ℕ) : Type 0 where
  pub size : length k ≡ length l
  pub before : (i : ℕ) → i < at → byte k i ≡ byte l i
  pub length_high : byte k at ≡ 0
  pub length-low : byte k (at + 1) ≡ 11
  pub kind : byte k (at + 2) ≡ x.kind
  pub caller : byte k (at + 3) ≡ x.caller
  pub object : byte k (at + 4) ≡ x.object
  pub a : FourIn k (at + 5) x.a
  pub timeout : FourIn k (at + 9) x.timeout
  pub behind : (i : ℕ) → at + 13 ≤ i → byte k i ≡ byte l i

-- ---- refusals

-- record 0 of the sizes z, into the buffer l, breaks the rule of this number
pub data SizesUnfit (z : Sizes) (l : List ℕ) : ℕ → Type 0 where
  -- "14 for such a size", that is one "out of its limits"
  size : (SizesFit z → ⊥) → SizesUnfit z l 14
  -- "15 above 60,000 bytes"
  long : 60000 < 9 + z.mailboxes → SizesUnfit z l 15
  -- "16 if its buffer is too short"
  short : length l < 9 + z.mailboxes → SizesUnfit z l 16

-- a step's record at a place does: "Any values of the five fields encode", so none is judged
pub data StepUnfit (at : ℕ) (l : List ℕ) : ℕ → Type 0 where
  long : 60000 < at + 13 → StepUnfit at l 15
  short : length l < at + 13 → StepUnfit at l 16

-- ".. in that order": n is the first number whose rule is broken
pub record LeastOf (Unfit : ℕ → Type 0) (n : ℕ) : Type 0 where
  pub unfit : Unfit n
  pub none_before : (m : ℕ) → m < n → Unfit m → ⊥

-- ---- ONE RECORD WRITTEN: "The writer refuses, writing nothing, with .. in that order"; else the answer is the place behind the record

pub data WriteOfSizes (z : Sizes) (l : List ℕ) (w : Written) (k : List ℕ) : Type 0 where
  refused : (n : ℕ) → LeastOf (SizesUnfit z l) n → written_said w ≡ record { code = n; gives = 0; values = [] } → k ≡ l
      → WriteOfSizes z l w k
  written : ((n : ℕ) → SizesUnfit z l n → ⊥) → written_said w ≡ record { code = 0; gives = 3; values = (9 + z.mailboxes) ∷ [] }
      → HeadIn z l k → WriteOfSizes z l w k

pub data WriteOfStep (x : Step) (at : ℕ) (l : List ℕ) (w : Written) (k : List ℕ) : Type 0 where
  refused : (n : ℕ) → LeastOf (StepUnfit at l) n → written_said w ≡ record { code = n; gives = 0; values = [] } → k ≡ l
      → WriteOfStep x at l w k
  written : ((n : ℕ) → StepUnfit at l n → ⊥) → written_said w ≡ record { code = 0; gives = 3; values = (at + 13) ∷ [] }
      → RecordIn x at l k → WriteOfStep x at l w k

-- ---- which values encode

-- "Any values of the five fields": a byte each, and 32 bits each
pub record AnyStep (x : Step) : Type 0 where
  pub kind : x.kind < 256
  pub caller : x.caller < 256
  pub object : x.object < 256
  pub a : x.a < 4294967296
  pub timeout : x.timeout < 4294967296
