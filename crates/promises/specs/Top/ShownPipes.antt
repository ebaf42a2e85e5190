-- A label printer's pipe over a buffer of 5 bytes, by computation: pieces across the buffer's end, a full pipe, a refused call that is lent
-- another buffer, a reset with the answer -2, and on. So the hypotheses of `bytes-always` are met, and its lists are not empty. And one beside
-- a pipe that is lent another buffer at each call: what is promised of the one holds, whatever is done to the other.
use Rattle.std.specs.Prelude.{ℕ, ◌≡◌, refl, List, [], ◌∷◌, ◌++◌, ℤ, pos, negsuc, replicate}
use Rattle.std.proofs.Common.{arith}
use Rattle.library.specs.Ring.{positions_fit}
use Rattle.pipes.specs.declared.table.Pipes.{Pipes}
use Rattle.pipes.specs.Carrying.{carried}
use Rattle.pipes.specs.Judging.{pipe_refusal}
use Rattle.pipes.specs.Opening.{pipes_fresh, pipe_reset, pipe_resumed}
use Rattle.pipes.specs.Transfer.{goes_ahead, stopped, gone_on, write_answer, buffer_written, read_answer, target_read}
use Rattle.promises.specs.Paper.Pipes.{no_pipe, pipe_of, PipeCall, PipeMoment, buffer_after, OwnLent, Lending, in_pipe, Told}
use Rattle.promises.specs.Code.Pipes.{fresh_pipes, pipe_moment, pipe_moments, pipes_ran}
use Rattle.promises.specs.Top.Pipes.{since, bytes-always}

-- no table yet, and two pipes are asked for
abbrev before : Pipes
before = record { pipes = replicate 4 no_pipe; number = 0 }

-- pipe 1's own buffer
abbrev own : List ℕ
own = 0 ∷ 0 ∷ 0 ∷ 0 ∷ 0 ∷ []

-- the calls: after the first the buffer is the one that the last left
abbrev calls : List PipeCall
calls =
    PipeCall.write 1 (0 ∷ 0 ∷ 0 ∷ 0 ∷ 0 ∷ []) (11 ∷ 12 ∷ 13 ∷ [])
    ∷ PipeCall.read 1 (11 ∷ 12 ∷ 13 ∷ 0 ∷ 0 ∷ []) (0 ∷ 0 ∷ [])
    ∷ PipeCall.write 1 (11 ∷ 12 ∷ 13 ∷ 0 ∷ 0 ∷ []) (14 ∷ 15 ∷ 16 ∷ 17 ∷ 18 ∷ [])
    ∷ PipeCall.write 1 [] (99 ∷ [])
    ∷ PipeCall.read 1 (16 ∷ 17 ∷ 13 ∷ 14 ∷ 15 ∷ []) (0 ∷ 0 ∷ 0 ∷ 0 ∷ [])
    ∷ []

abbrev later : List PipeCall
later =
    PipeCall.reset 1 (16 ∷ 17 ∷ 13 ∷ 14 ∷ 15 ∷ [])
    ∷ PipeCall.read 1 (16 ∷ 17 ∷ 13 ∷ 14 ∷ 15 ∷ []) (0 ∷ [])
    ∷ PipeCall.resume 1 (16 ∷ 17 ∷ 13 ∷ 14 ∷ 15 ∷ [])
    ∷ PipeCall.write 1 (16 ∷ 17 ∷ 13 ∷ 14 ∷ 15 ∷ []) (21 ∷ [])
    ∷ []

-- what is seen of a call: the refusal, the number moved, and a target
pub record Seen : Type 0 where
  pub code : ℕ
  pub moved : ℤ
  pub target : List ℕ

abbrev seen : List PipeMoment → List Seen
seen [] = []
seen (m ∷ ms) = record { code = m.code; moved = m.moved; target = m.target } ∷ seen ms

-- 3 bytes; 2 of them; 4 of 5, two behind the end and two at the start; refused; 4 of the 5 that are there; reset; -2; resumed; 1 byte
pub calls_seen : seen (pipe_moments (fresh_pipes before 2) (calls ++ later))
    ≡ record { code = 0; moved = pos 3; target = [] }
    ∷ record { code = 0; moved = pos 2; target = 11 ∷ 12 ∷ [] }
    ∷ record { code = 0; moved = pos 4; target = [] }
    ∷ record { code = 5; moved = pos 0; target = [] }
    ∷ record { code = 0; moved = pos 4; target = 13 ∷ 14 ∷ 15 ∷ 16 ∷ [] }
    ∷ record { code = 0; moved = pos 0; target = [] }
    ∷ record { code = 0; moved = negsuc 1; target = 0 ∷ [] }
    ∷ record { code = 0; moved = pos 0; target = [] }
    ∷ record { code = 0; moved = pos 1; target = [] }
    ∷ []
unfolding positions_fit carried pipe_refusal pipes_fresh pipe_reset pipe_resumed goes_ahead stopped gone_on write_answer buffer_written read_answer target_read
calls_seen = refl

-- code 5 is a refusal, and pipe 0 is not pipe 2
refusal : {A : Type 0} → ◌≡◌ {A = ℕ} 5 0 → A
refusal e = absurd (omega arith)

apart : {A : Type 0} → ◌≡◌ {A = ℕ} 0 2 → A
apart e = absurd (omega arith)

-- each accepted call was lent the buffer that the last one left
pub lending-shown : Lending 1 own (pipe_moments (fresh_pipes before 2) calls)
unfolding positions_fit carried pipe_refusal pipes_fresh pipe_reset pipe_resumed goes_ahead stopped gone_on write_answer buffer_written read_answer target_read
lending-shown =
    Lending.more (λ e z. refl)
    (Lending.more (λ e z. refl) (Lending.more (λ e z. refl) (Lending.more (λ e z. refusal z) (Lending.more (λ e z. refl) Lending.none))))

-- what was written, and what was read of it
pub story-shown : since before 2 (omega arith) 1 own (omega arith) calls lending-shown
    ≡ record { written = 11 ∷ 12 ∷ 13 ∷ 14 ∷ 15 ∷ 16 ∷ 17 ∷ []; read = 11 ∷ 12 ∷ 13 ∷ 14 ∷ 15 ∷ 16 ∷ [] }
unfolding positions_fit carried pipe_refusal pipes_fresh pipe_reset pipe_resumed goes_ahead stopped gone_on write_answer buffer_written read_answer target_read
story-shown = refl

-- the one that is left is in the pipe
pub left-shown : in_pipe (pipe_of (pipes_ran (fresh_pipes before 2) calls) 1).positions (buffer_after 1 own (pipe_moments (fresh_pipes before 2) calls)) ≡ 17 ∷ []
unfolding positions_fit carried pipe_refusal pipes_fresh pipe_reset pipe_resumed goes_ahead stopped gone_on write_answer buffer_written read_answer target_read
left-shown = refl

pub bytes-shown : Told (since before 2 (omega arith) 1 own (omega arith) calls lending-shown)
    (pipe_of (pipes_ran (fresh_pipes before 2) calls) 1).positions (buffer_after 1 own (pipe_moments (fresh_pipes before 2) calls))
bytes-shown = bytes-always before 2 (omega arith) 1 own (omega arith) calls lending-shown

-- ---- two pipes, of which one is lent another buffer each time

-- pipe 2 gets a buffer of three bytes, then one of five, then one of four; pipe 0 its own four bytes
abbrev beside : List PipeCall
beside =
    PipeCall.write 2 (0 ∷ 0 ∷ 0 ∷ []) (51 ∷ 52 ∷ [])
    ∷ PipeCall.write 0 (0 ∷ 0 ∷ 0 ∷ 0 ∷ []) (1 ∷ 2 ∷ 3 ∷ [])
    ∷ PipeCall.read 2 (77 ∷ 78 ∷ 79 ∷ 80 ∷ 81 ∷ []) (0 ∷ [])
    ∷ PipeCall.read 0 (1 ∷ 2 ∷ 3 ∷ 0 ∷ []) (0 ∷ 0 ∷ [])
    ∷ PipeCall.write 2 (9 ∷ 9 ∷ 9 ∷ 9 ∷ []) (53 ∷ [])
    ∷ PipeCall.write 0 (1 ∷ 2 ∷ 3 ∷ 0 ∷ []) (4 ∷ 5 ∷ [])
    ∷ []

-- all are accepted, and pipe 2 gives a byte that nobody wrote to it
pub beside-seen : seen (pipe_moments (fresh_pipes before 3) beside)
    ≡ record { code = 0; moved = pos 2; target = [] }
    ∷ record { code = 0; moved = pos 3; target = [] }
    ∷ record { code = 0; moved = pos 1; target = 77 ∷ [] }
    ∷ record { code = 0; moved = pos 2; target = 1 ∷ 2 ∷ [] }
    ∷ record { code = 0; moved = pos 1; target = [] }
    ∷ record { code = 0; moved = pos 2; target = [] }
    ∷ []
unfolding positions_fit carried pipe_refusal pipes_fresh pipe_reset pipe_resumed goes_ahead stopped gone_on write_answer buffer_written read_answer target_read
beside-seen = refl

-- what a call lends to pipe 2 is nothing to pipe 0's buffer c, whatever it is
pub elsewhere-free : (t : Pipes) (b l c : List ℕ) → OwnLent 0 c (pipe_moment t (PipeCall.write 2 b l))
elsewhere-free t b l c e z = apart e

-- pipe 0 was lent its own buffer, as the last call on it left it
pub beside-lent : Lending 0 (0 ∷ 0 ∷ 0 ∷ 0 ∷ []) (pipe_moments (fresh_pipes before 3) beside)
unfolding positions_fit carried pipe_refusal pipes_fresh pipe_reset pipe_resumed goes_ahead stopped gone_on write_answer buffer_written read_answer target_read
beside-lent =
    Lending.more (λ e z. apart e)
    (Lending.more (λ e z. refl)
    (Lending.more (λ e z. apart e) (Lending.more (λ e z. refl) (Lending.more (λ e z. apart e) (Lending.more (λ e z. refl) Lending.none)))))

-- so its bytes are told
pub beside-told : Told (since before 3 (omega arith) 0 (0 ∷ 0 ∷ 0 ∷ 0 ∷ []) (omega arith) beside beside-lent)
    (pipe_of (pipes_ran (fresh_pipes before 3) beside) 0).positions
    (buffer_after 0 (0 ∷ 0 ∷ 0 ∷ 0 ∷ []) (pipe_moments (fresh_pipes before 3) beside))
beside-told = bytes-always before 3 (omega arith) 0 (0 ∷ 0 ∷ 0 ∷ 0 ∷ []) (omega arith) beside beside-lent

-- which are these
pub beside-story : since before 3 (omega arith) 0 (0 ∷ 0 ∷ 0 ∷ 0 ∷ []) (omega arith) beside beside-lent
    ≡ record { written = 1 ∷ 2 ∷ 3 ∷ 4 ∷ 5 ∷ []; read = 1 ∷ 2 ∷ [] }
unfolding positions_fit carried pipe_refusal pipes_fresh pipe_reset pipe_resumed goes_ahead stopped gone_on write_answer buffer_written read_answer target_read
beside-story = refl

-- each refusal: no such pipe, a table of five, no buffer, one of 257 bytes, a write place that does not follow; and five fresh pipes
abbrev unfit : Pipes
unfit = record { pipes = replicate 4 (record { positions = record { read = 0; write = 1; count = 0 }; reset = 0 }); number = 1 }

abbrev five : Pipes
five = record { pipes = replicate 4 no_pipe; number = 5 }

pub refusals-shown : (pipe_reset (fresh_pipes before 2) 2 5).code
    ∷ (pipe_reset five 0 5).code
    ∷ (pipe_reset (fresh_pipes before 2) 0 0).code
    ∷ (pipe_reset (fresh_pipes before 2) 0 257).code
    ∷ (pipe_reset unfit 0 5).code
    ∷ (pipes_fresh before 5).code
    ∷ []
    ≡ 5 ∷ 5 ∷ 5 ∷ 5 ∷ 6 ∷ 14 ∷ []
unfolding positions_fit pipe_refusal pipes_fresh pipe_reset
refusals-shown = refl
