-- READING A TRACE, AS DOCUMENT 01 TELLS IT: a relation between ANY bytes, a place in them, and what a read there gives. At place 0 stand the
-- version byte and record 0, at any other a later record, or the end.
use Rattle.std.specs.Prelude.{ℕ, suc, ◌+◌, ◌*◌, ◌≤◌, ◌<◌, ◌≡◌, ◌≢◌, cond, List, [], ◌∷◌, eqb, ltb, length, get_or}
use Rattle.library.specs.declared.calls.Step.{Step}
use Rattle.library.specs.declared.sizes.Sizes.{Sizes}
use Rattle.trace.specs.Told.{Read}
use Rattle.promises.specs.Paper.Together.{SizesFit}
use Rattle.promises.specs.Paper.Fresh.{nothing}
use Rattle.promises.specs.Paper.Answers.{Said, found_said}

-- ---- bytes

-- the byte at a place; past the end stand zeros
abbrev pub byte : List ℕ → ℕ → ℕ
byte s at = get_or s at 0

-- "two bytes big-endian"
abbrev pub two : List ℕ → ℕ → ℕ
two s at = byte s at * 256 + byte s (at + 1)

-- "four each, big-endian"
abbrev pub four : List ℕ → ℕ → ℕ
four s at = byte s at * 16777216 + byte s (at + 1) * 65536 + byte s (at + 2) * 256 + byte s (at + 3)

-- "Record 0 is T, S, Q, R, M, P and M bytes of slots", behind the version byte and two bytes of length; absent mailboxes have 0 slots
abbrev pub sizes_in : List ℕ → Sizes
sizes_in s =
    record {
      threads = byte s 3;
      semaphores = byte s 4;
      queues = byte s 5;
      references = byte s 6;
      mailboxes = byte s 7;
      pools = byte s 8;
      slots = cond (ltb 0 (byte s 7)) (byte s 9) 0
          ∷ cond (ltb 1 (byte s 7)) (byte s 10) 0
          ∷ cond (ltb 2 (byte s 7)) (byte s 11) 0
          ∷ cond (ltb 3 (byte s 7)) (byte s 12) 0
          ∷ [];
    }

-- a body by itself, as the decoders are handed it: "T, S, Q, R, M, P and M bytes of slots"
abbrev pub sizes_of_body : List ℕ → Sizes
sizes_of_body b =
    record {
      threads = byte b 0;
      semaphores = byte b 1;
      queues = byte b 2;
      references = byte b 3;
      mailboxes = byte b 4;
      pools = byte b 5;
      slots = byte b 6 ∷ byte b 7 ∷ byte b 8 ∷ byte b 9 ∷ [];
    }

-- "kind, caller, object (a byte each), a, timeout (four each, big-endian)"
abbrev pub step_of_body : List ℕ → Step
step_of_body b = record { kind = byte b 0; caller = byte b 1; object = byte b 2; a = four b 3; timeout = four b 7 }

-- the record's number, from its place: record 0 ends at 9 to 13, and each later record is 13 bytes long
pub data NumberOf (at : ℕ) : ℕ → Type 0 where
  head : at < 9 → NumberOf at 0
  later : (k : ℕ) → 9 + 13 * k ≤ at → at < 22 + 13 * k → NumberOf at (suc k)

-- ---- refusals

-- the version byte or record 0 breaks the rule of this number
pub data HeadBroken (s : List ℕ) : ℕ → Type 0 where
  -- "15 longer than 60,000 bytes"
  long : 60000 < length s → HeadBroken s 15
  -- "11 empty or another version"
  empty : length s ≡ 0 → HeadBroken s 11
  version : byte s 0 ≢ 1 → HeadBroken s 11
  -- "12 the input ends inside a length or body, or before record 0"
  in-length : length s < 3 → HeadBroken s 12
  in-body : length s < 3 + two s 1 → HeadBroken s 12
  -- "13 wrong length": "Record 0's right length is 6 plus its M byte; below 6 is wrong"
  wrong-length : two s 1 ≢ 6 + byte s 7 → HeadBroken s 13
  -- "14 a size out of its limits"
  size : (SizesFit (sizes_in s) → ⊥) → HeadBroken s 14

-- and a later record at a place. 15 and 11 are of the trace as a whole, and record 0's alone: a listing stops with "its number (0 for 15 and
-- 11)". A reader that they refuse stands at place 0 still, so none that begins there meets them later; a host may name any place, and is
-- answered there by 12 and 13 alone, in a trace above 60,000 bytes too
pub data RecordBroken (s : List ℕ) (at : ℕ) : ℕ → Type 0 where
  in-length : length s < at + 2 → RecordBroken s at 12
  in-body : length s < at + 2 + two s at → RecordBroken s at 12
  -- "Each later body is 11 bytes"
  wrong-length : two s at ≢ 11 → RecordBroken s at 13

-- "in that order": 15, 11, 12, 13, 14
abbrev pub order : ℕ → ℕ
order n = cond (eqb n 15) 10 n

-- n is the first number whose rule is broken
pub record FirstOf (Broken : ℕ → Type 0) (n : ℕ) : Type 0 where
  pub broken : Broken n
  pub none_before : (m : ℕ) → order m < order n → Broken m → ⊥

-- ---- ONE READ

-- what a read gives: what it found, record 0's sizes (else none), and the reader's place after it
pub record Gives (r : Read) (what : Said) (sizes : Sizes) (next : ℕ) : Type 0 where
  pub found : found_said r.found ≡ what
  pub sized : r.sizes ≡ sizes
  pub place : r.next ≡ next

-- at the beginning
pub data HeadRead (s : List ℕ) (r : Read) : Type 0 where
  -- "A refused read gives the number, the record's number and no step, and moves no reader"
  refused : (n : ℕ) → FirstOf (HeadBroken s) n → Gives r (record { code = n; gives = 0; values = 0 ∷ [] }) nothing 0 → HeadRead s r
  opened : ((n : ℕ) → HeadBroken s n → ⊥) → Gives r (record { code = 0; gives = 1; values = [] }) (sizes_in s) (9 + byte s 7) → HeadRead s r

-- behind record 0
pub data LaterRead (s : List ℕ) (at : ℕ) (r : Read) : Type 0 where
  -- only the exact end is a clean end
  ended : at ≡ length s → Gives r (record { code = 0; gives = 0; values = [] }) nothing at → LaterRead s at r
  refused : at ≢ length s → (n number : ℕ) → FirstOf (RecordBroken s at) n → NumberOf at number
      → Gives r (record { code = n; gives = 0; values = number ∷ [] }) nothing at → LaterRead s at r
  -- "kind, caller, object (a byte each), a, timeout (four each, big-endian)", behind two bytes of length
  stepped : at ≢ length s → ((n : ℕ) → RecordBroken s at n → ⊥)
      → Gives r
      (record {
        code = 0;
        gives = 2;
        values = byte s (at + 2) ∷ byte s (at + 3) ∷ byte s (at + 4) ∷ four s (at + 5) ∷ four s (at + 9) ∷ [];
      })
      nothing (at + 13)
      → LaterRead s at r

pub data ReadOf (s : List ℕ) (at : ℕ) (r : Read) : Type 0 where
  head : at ≡ 0 → HeadRead s r → ReadOf s at r
  later : at ≢ 0 → LaterRead s at r → ReadOf s at r

-- ---- READING ON

-- "A trace reader keeps hold of the trace and its place in it": after n records read from the beginning it stands at a place
pub data Reached (s : List ℕ) : ℕ → ℕ → Type 0 where
  begin : Reached s 0 0
  on : {n at : ℕ} → Reached s n at → (r : Read) → ReadOf s at r → ((found_said r.found).gives ≢ 0) → Reached s (suc n) r.next
