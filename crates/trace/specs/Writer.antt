-- The writer: "The writer refuses, writing nothing, with 14 for such a size, 15 above 60,000 bytes, 16 if its buffer is too short, in
-- that order."
use Rattle.std.specs.Prelude.{ℕ, ◌+◌, ◌%◌, cond, List, eqb, ltb, length, set}
use Rattle.std.proofs.lemmas.List.Edits.{sets}
use Rattle.library.specs.declared.calls.Step.{Step}
use Rattle.library.specs.declared.sizes.Sizes.{Sizes}
use Rattle.library.specs.Sizes.{slots_at, sizes_fit}
use Rattle.trace.specs.Told.{Written}
use Rattle.trace.specs.TraceBytes.{longest, head_of, record_of}

-- the refusal's number in each case, 0 where the record was written
abbrev pub written_code : Written → ℕ
written_code (Written.Upto next) = 0
written_code (Written.Refused code) = code

-- the answer of a number: 0 is the place after the record, any other a refusal
abbrev pub write_answer : ℕ → ℕ → Written
write_answer code next = cond (eqb code 0) (Written.Upto next) (Written.Refused code)

-- "15 above 60,000 bytes, 16 if its buffer is too short": n bytes from a place on, in a buffer of so many
abbrev pub room_refusal : ℕ → ℕ → ℕ → ℕ
room_refusal len at n = cond (ltb longest (at + n)) 15 (cond (ltb len (at + n)) 16 0)

-- the slots of mailbox i, where there is one, at their place
abbrev pub slot_written : Sizes → ℕ → List ℕ → List ℕ
slot_written z i l = cond (ltb i z.mailboxes) (set l (9 + i) (slots_at z i % 256)) l

-- "14 for such a size", then 15 and 16
abbrev pub sizes_refusal : Sizes → List ℕ → ℕ
sizes_refusal z l = cond (sizes_fit z) (room_refusal (length l) 0 (9 + z.mailboxes)) 14

-- the answer to sizes: the place of record 1, or a refusal
unfoldable pub sizes_answer : Sizes → List ℕ → Written
sizes_answer z l = write_answer (sizes_refusal z l) (9 + z.mailboxes)

-- the buffer with the version byte and record 0 at its start; a refusal writes nothing
unfoldable pub sizes_written : Sizes → List ℕ → List ℕ
sizes_written z l = cond (eqb (sizes_refusal z l) 0) (sets l 0 (head_of z)) l

-- the answer to a step at a place: the place behind its record, or a refusal
unfoldable pub step_answer : ℕ → List ℕ → Written
step_answer at l = write_answer (room_refusal (length l) at 13) (at + 13)

-- the buffer with the step's record at a place; a refusal writes nothing
unfoldable pub step_written : Step → ℕ → List ℕ → List ℕ
step_written x at l = cond (eqb (room_refusal (length l) at 13) 0) (sets l at (record_of x)) l
