-- PIPES, OF DOCUMENT 02: what each call on a pipe answers, and what it leaves of the table, of the buffer and of the target; and what over
-- any calls became of the bytes. Told once for every length of a buffer.
use Rattle.std.specs.Prelude.{ℕ, zero, suc, ◌+◌, ◌-◌, ◌%◌, ◌≤◌, ◌<◌, ◌≡◌, ◌≢◌, Bool, false, cond, ◌&&◌, List, [], ◌∷◌, ◌++◌, eqb, ℤ, pos, negsuc, length, get_or, take}
use Rattle.library.specs.declared.ring.Positions.{Positions}
use Rattle.pipes.specs.declared.table.Pipe.{Pipe}
use Rattle.pipes.specs.declared.table.Pipes.{Pipes}
use Rattle.pipes.specs.Told.{Opened, Moved}
use Rattle.promises.specs.Paper.Together.{PositionsFit}
use Rattle.promises.specs.Paper.Writer.{LeastOf}

-- ---- how pipes are read

-- an empty pipe
abbrev pub no_pipe : Pipe
no_pipe = record { positions = record { read = 0; write = 0; count = 0 }; reset = 0 }

-- the record of pipe i
abbrev pub pipe_of : Pipes → ℕ → Pipe
pipe_of t i = get_or t.pipes i no_pipe

-- what a host's type fixes
abbrev pub HostPipes : Pipes → Type 0
HostPipes t = length t.pipes ≡ 4

-- "A transfer that passes the buffer's end goes on at its start": the place j places on from p
abbrev pub on_from : List ℕ → ℕ → ℕ → ℕ
on_from b p j = (p + j) % length b

-- ---- refusals, for all four calls

-- a call on pipe i with a buffer of n bytes breaks the rule of this number
pub data PipeUnfit (t : Pipes) (i n : ℕ) : ℕ → Type 0 where
  -- "5 for a pipe that isn't there": there are "up to 4"
  absent : t.number ≤ i → PipeUnfit t i n 5
  too_many : 4 < t.number → PipeUnfit t i n 5
  -- ".. or a buffer length outside 1 to 256"
  no_buffer : n ≡ 0 → PipeUnfit t i n 5
  long : 256 < n → PipeUnfit t i n 5
  -- "then 6 if its places or count don't fit the buffer as a mailbox's fit its slots"
  unfit : (PositionsFit (pipe_of t i).positions n → ⊥) → PipeUnfit t i n 6

-- none is broken
abbrev pub PipeFits : Pipes → ℕ → ℕ → Type 0
PipeFits t i n = (m : ℕ) → PipeUnfit t i n m → ⊥

-- ---- what a call leaves

-- the table u is t but for the record of pipe i, which is p
pub record OnlyPipe (t : Pipes) (i : ℕ) (p : Pipe) (u : Pipes) : Type 0 where
  pub number : u.number ≡ t.number
  pub table : HostPipes u
  pub record_of : pipe_of u i ≡ p
  pub others : (j : ℕ) → j ≢ i → pipe_of u j ≡ pipe_of t j

-- the bytes e are d but for k places: at place `to j` stands the byte that s has at `from j`, for each j below k
pub record BytesMoved (k : ℕ) (s : List ℕ) (from : ℕ → ℕ) (d : List ℕ) (to : ℕ → ℕ) (e : List ℕ) : Type 0 where
  pub size : length e ≡ length d
  pub moved : (j : ℕ) → j < k → get_or e (to j) 0 ≡ get_or s (from j) 0
  -- "bytes outside its one or two runs stay unchanged"
  pub others : (x : ℕ) → ((j : ℕ) → j < k → x ≢ to j) → get_or e x 0 ≡ get_or d x 0

-- "the smaller of"
pub data SmallerOf (a b : ℕ) : ℕ → Type 0 where
  first : a ≤ b → SmallerOf a b a
  second : b ≤ a → SmallerOf a b b

-- ---- ONE TRANSFER

-- what a transfer moves: at most so many bytes, from places of one list of bytes to places of another, and where the positions are after k
pub record Transfer : Type 0 where
  pub wanted : ℕ
  pub possible : ℕ
  pub source : List ℕ
  pub from : ℕ → ℕ
  pub into : List ℕ
  pub to : ℕ → ℕ
  pub after : ℕ → Positions

-- "a write copies the smaller of what is offered and what is free": of the bytes l to the pipe p, whose buffer is b
abbrev pub writing : Positions → List ℕ → List ℕ → Transfer
writing p b l =
    record {
      wanted = length l;
      possible = length b - p.count;
      source = l;
      from = λ j. j;
      into = b;
      to = on_from b p.write;
      after = λ k. record { read = p.read; write = on_from b p.write k; count = p.count + k };
    }

-- "a read the smaller of the target's length and what is there": to the target g
abbrev pub reading : Positions → List ℕ → List ℕ → Transfer
reading p b g =
    record {
      wanted = length g;
      possible = p.count;
      source = b;
      from = on_from b p.read;
      into = g;
      to = λ j. j;
      after = λ k. record { read = on_from b p.read k; write = p.write; count = p.count - k };
    }

-- the transfer x on pipe i, with a buffer of n bytes: the answer is m, and the bytes that it writes to are e then
pub data TransferOf (t : Pipes) (i n : ℕ) (x : Transfer) (m : Moved) (e : List ℕ) : Type 0 where
  -- "both answer 0 moved and change no byte of pipe, buffer or target"
  refused : (c : ℕ) → LeastOf (PipeUnfit t i n) c → m ≡ record { pipes = t; code = c; moved = pos 0 } → e ≡ x.into → TransferOf t i n x m e
  -- "its reset state, where both transfers answer -2 and move nothing"
  in-reset : PipeFits t i n → (pipe_of t i).reset ≢ 0 → m ≡ record { pipes = t; code = 0; moved = negsuc 1 } → e ≡ x.into → TransferOf t i n x m e
  -- "the answer is the number moved"
  moves : PipeFits t i n → (pipe_of t i).reset ≡ 0 → (k : ℕ) → SmallerOf x.wanted x.possible k
      → BytesMoved k x.source x.from x.into x.to e → m.code ≡ 0 → m.moved ≡ pos k
      → OnlyPipe t i (record { positions = x.after k; reset = 0 }) m.pipes → TransferOf t i n x m e

abbrev pub PipeWriteOf : Pipes → ℕ → List ℕ → List ℕ → Moved → List ℕ → Type 0
PipeWriteOf t i b l m c = TransferOf t i (length b) (writing (pipe_of t i).positions b l) m c

abbrev pub PipeReadOf : Pipes → ℕ → List ℕ → List ℕ → Moved → List ℕ → Type 0
PipeReadOf t i b g m h = TransferOf t i (length b) (reading (pipe_of t i).positions b g) m h

-- ---- RESET, RESUME, FRESH

-- a call that leaves the record p to pipe i, if nothing refuses it
pub data RecordSet (t : Pipes) (i n : ℕ) (p : Pipe) (o : Opened) : Type 0 where
  refused : (m : ℕ) → LeastOf (PipeUnfit t i n) m → o ≡ record { pipes = t; code = m } → RecordSet t i n p o
  done : PipeFits t i n → o.code ≡ 0 → OnlyPipe t i p o.pipes → RecordSet t i n p o

-- "Reset empties a pipe, returns both places to 0 and sets its reset state", which is 1
abbrev pub PipeResetOf : Pipes → ℕ → ℕ → Opened → Type 0
PipeResetOf t i n o = RecordSet t i n (record { positions = record { read = 0; write = 0; count = 0 }; reset = 1 }) o

-- "resume clears it"
abbrev pub PipeResumeOf : Pipes → ℕ → ℕ → Opened → Type 0
PipeResumeOf t i n o = RecordSet t i n (record { positions = (pipe_of t i).positions; reset = 0 }) o

-- "up to 4 pipes", all empty; a number out of its limits is refused with 14, as a size is
pub data PipesFreshOf (t : Pipes) (number : ℕ) (o : Opened) : Type 0 where
  refused : 4 < number → o ≡ record { pipes = t; code = 14 } → PipesFreshOf t number o
  made : number ≤ 4 → o.code ≡ 0 → o.pipes.number ≡ number → HostPipes o.pipes → ((i : ℕ) → pipe_of o.pipes i ≡ no_pipe) → PipesFreshOf t number o

-- ---- ANY CALLS, AS A HOST SEES THEM

-- a call on a pipe, with the buffer that is lent to it, and what is offered or the target
pub data PipeCall : Type 0 where
  write : (pipe : ℕ) (buffer offered : List ℕ) → PipeCall
  read : (pipe : ℕ) (buffer target : List ℕ) → PipeCall
  reset : (pipe : ℕ) (buffer : List ℕ) → PipeCall
  resume : (pipe : ℕ) (buffer : List ℕ) → PipeCall

abbrev pub pipe_named : PipeCall → ℕ
pipe_named (PipeCall.write i b l) = i
pipe_named (PipeCall.read i b g) = i
pipe_named (PipeCall.reset i b) = i
pipe_named (PipeCall.resume i b) = i

abbrev pub buffer_lent : PipeCall → List ℕ
buffer_lent (PipeCall.write i b l) = b
buffer_lent (PipeCall.read i b g) = b
buffer_lent (PipeCall.reset i b) = b
buffer_lent (PipeCall.resume i b) = b

-- one call, with the answer, and what it left: the table, the buffer, and of a read the target
pub record PipeMoment : Type 0 where
  pub call : PipeCall
  pub code : ℕ
  pub moved : ℤ
  pub after : Pipes
  pub buffer : List ℕ
  pub target : List ℕ

-- what the functions of any pipe code give: by the lengths of buffer and bytes, the answer to a write and to a read; by the bytes, the buffer
-- that a write leaves and the target that a read leaves; by the buffer's length, the answer to a reset and to a resume. No other call writes
-- to a buffer
pub record PipeCode : Type 0 where
  pub write : Pipes → ℕ → ℕ → ℕ → Moved
  pub buffer : Pipes → ℕ → List ℕ → List ℕ → List ℕ
  pub read : Pipes → ℕ → ℕ → ℕ → Moved
  pub target : Pipes → ℕ → List ℕ → List ℕ → List ℕ
  pub reset : Pipes → ℕ → ℕ → Opened
  pub resume : Pipes → ℕ → ℕ → Opened

-- a call on the table t, with what this code answers and leaves
abbrev pub pipe_moment_by : PipeCode → Pipes → PipeCall → PipeMoment
pipe_moment_by f t (PipeCall.write i b l) =
    record {
      call = PipeCall.write i b l;
      code = (f.write t i (length b) (length l)).code;
      moved = (f.write t i (length b) (length l)).moved;
      after = (f.write t i (length b) (length l)).pipes;
      buffer = f.buffer t i b l;
      target = [];
    }
pipe_moment_by f t (PipeCall.read i b g) =
    record {
      call = PipeCall.read i b g;
      code = (f.read t i (length b) (length g)).code;
      moved = (f.read t i (length b) (length g)).moved;
      after = (f.read t i (length b) (length g)).pipes;
      buffer = b;
      target = f.target t i b g;
    }
pipe_moment_by f t (PipeCall.reset i b) =
    record {
      call = PipeCall.reset i b;
      code = (f.reset t i (length b)).code;
      moved = pos 0;
      after = (f.reset t i (length b)).pipes;
      buffer = b;
      target = [];
    }
pipe_moment_by f t (PipeCall.resume i b) =
    record {
      call = PipeCall.resume i b;
      code = (f.resume t i (length b)).code;
      moved = pos 0;
      after = (f.resume t i (length b)).pipes;
      buffer = b;
      target = [];
    }

-- the moments of some calls, each on the table that the last one left, and the table after them
abbrev pub pipe_moments_by : PipeCode → Pipes → List PipeCall → List PipeMoment
pipe_moments_by f t [] = []
pipe_moments_by f t (c ∷ cs) = pipe_moment_by f t c ∷ pipe_moments_by f (pipe_moment_by f t c).after cs

abbrev pub pipes_ran_by : PipeCode → Pipes → List PipeCall → Pipes
pipes_ran_by f t [] = t
pipes_ran_by f t (c ∷ cs) = pipes_ran_by f (pipe_moment_by f t c).after cs

-- an accepted call on pipe i
abbrev pub on_pipe : ℕ → PipeMoment → Bool
on_pipe i m = eqb m.code 0 && eqb i (pipe_named m.call)

-- pipe i's own buffer, which was b, after some calls: no other call writes to it
abbrev pub buffer_after : ℕ → List ℕ → List PipeMoment → List ℕ
buffer_after i b [] = b
buffer_after i b (m ∷ ms) = buffer_after i (cond (on_pipe i m) m.buffer b) ms

-- a call on pipe i, if it is accepted, was lent the buffer b
abbrev pub OwnLent : ℕ → List ℕ → PipeMoment → Type 0
OwnLent i b m = i ≡ pipe_named m.call → m.code ≡ 0 → buffer_lent m.call ≡ b

-- what a host promises of pipe i, whose own buffer is b: each accepted call on it was lent this buffer, as the last one left it. What is lent
-- to a refused call, or to one on another pipe, is anything
pub data Lending (i : ℕ) : List ℕ → List PipeMoment → Type 0 where
  none : {b : List ℕ} → Lending i b []
  more : {b : List ℕ} {m : PipeMoment} {ms : List PipeMoment} → OwnLent i b m → Lending i (cond (on_pipe i m) m.buffer b) ms → Lending i b (m ∷ ms)

-- as many bytes as an answer says; none for -2
abbrev pub as_many_as : ℤ → List ℕ → List ℕ
as_many_as (pos k) l = take k l
as_many_as (negsuc k) l = []

-- the bytes that a call put into pipe i, and those that it took out
abbrev pub put_by : ℕ → PipeCall → ℤ → List ℕ
put_by i (PipeCall.write j b l) z = cond (eqb i j) (as_many_as z l) []
put_by i (PipeCall.read j b g) z = []
put_by i (PipeCall.reset j b) z = []
put_by i (PipeCall.resume j b) z = []

abbrev pub taken_by : ℕ → PipeCall → ℤ → List ℕ → List ℕ
taken_by i (PipeCall.write j b l) z h = []
taken_by i (PipeCall.read j b g) z h = cond (eqb i j) (as_many_as z h) []
taken_by i (PipeCall.reset j b) z h = []
taken_by i (PipeCall.resume j b) z h = []

abbrev pub resets : ℕ → PipeCall → Bool
resets i (PipeCall.write j b l) = false
resets i (PipeCall.read j b g) = false
resets i (PipeCall.reset j b) = eqb i j
resets i (PipeCall.resume j b) = false

-- what was written to a pipe and what was read from it since its last reset
pub record Story : Type 0 where
  pub written : List ℕ
  pub read : List ℕ

abbrev pub story_on : ℕ → Story → PipeMoment → Story
story_on i s m =
    cond (resets i m.call && eqb m.code 0) (record { written = []; read = [] })
    (record { written = s.written ++ put_by i m.call m.moved; read = s.read ++ taken_by i m.call m.moved m.target })

abbrev pub story : ℕ → Story → List PipeMoment → Story
story i s [] = s
story i s (m ∷ ms) = story i (story_on i s m) ms

-- the first k values of f
abbrev pub listed : (ℕ → ℕ) → ℕ → List ℕ
listed f zero = []
listed f (suc k) = listed f k ++ (f k ∷ [])

-- the bytes that are in a pipe, from its read place on, in the order in which they come out
abbrev pub in_pipe : Positions → List ℕ → List ℕ
in_pipe p b = listed (λ j. get_or b (on_from b p.read j) 0) p.count

-- "what was read is what was written, in order, each byte once; what is still in the pipe is the rest": what was read, and then what is in
-- the pipe, is what was written; and the count is what was written less what was read
pub record Told (s : Story) (p : Positions) (b : List ℕ) : Type 0 where
  pub in_order : s.read ++ in_pipe p b ≡ s.written
  pub counted : length s.read + p.count ≡ length s.written
