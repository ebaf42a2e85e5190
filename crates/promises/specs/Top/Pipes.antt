-- PIPES, OF DOCUMENT 02: each call is what `Paper.Pipes` tells and nothing else, for any table, any buffer and any lengths; and over any calls
-- every byte that was read is one that was written, in order and once. What they cite of the code is what each function is proved to give.
use Rattle.std.specs.Prelude.{ℕ, ◌≤◌, ◌≡◌, refl, List, [], length, take, drop}
use Rattle.std.proofs.Math.Nat.{zero-mod}
use Rattle.std.proofs.Common.{arith, sym, ap, ◌∙◌}
use Rattle.std.proofs.Math.Seq.{take-append_seam, drop-append_seam}
use Rattle.pipes.specs.declared.table.Pipes.{Pipes}
use Rattle.pipes.specs.Told.{Opened, Moved}
use Rattle.pipes.specs.Opening.{pipes_fresh, pipe_reset, pipe_resumed}
use Rattle.pipes.specs.Transfer.{write_answer, buffer_written, read_answer, target_read}
use Rattle.promises.specs.Paper.Together.{PositionsFit}
use Rattle.promises.specs.Paper.Pipes.{
  pipe_of,
  HostPipes,
  PipeWriteOf,
  PipeReadOf,
  PipeResetOf,
  PipeResumeOf,
  PipesFreshOf,
  PipeCall,
  buffer_after,
  Lending,
  Story,
  story,
  in_pipe,
  Told,
}
use Rattle.promises.specs.Code.Pipes.{fresh_pipes, pipe_moments, pipes_ran}
use Rattle.promises.specs.Meant.Pipes.{
  pipe-write-is,
  pipe-read-is,
  transfer-one,
  pipe-reset-is,
  pipe-resume-is,
  record-set-one,
  pipes-fresh-is,
  pipes-fresh-one,
}
use Rattle.promises.specs.Runs.Pipes.{Going, counts, pipe-going}

-- ---- ONE CALL

module _ (t : Pipes) (h : HostPipes t) (i : ℕ) (b : List ℕ) where
  -- a write of the bytes l: the answer, and the buffer then
  pub pipe-write : (l : List ℕ) → PipeWriteOf t i b l (write_answer t i (length b) (length l)) (buffer_written t i b l)
      × ((m : Moved) (c : List ℕ) → PipeWriteOf t i b l m c → (m ≡ write_answer t i (length b) (length l)) × (c ≡ buffer_written t i b l))
  pipe-write l = (pipe-write-is t h i b l, λ m c w. transfer-one w (pipe-write-is t h i b l))

  -- a read to the target g: the answer, and the target then; no read writes to the buffer
  pub pipe-read : (g : List ℕ) → PipeReadOf t i b g (read_answer t i (length b) (length g)) (target_read t i b g)
      × ((m : Moved) (e : List ℕ) → PipeReadOf t i b g m e → (m ≡ read_answer t i (length b) (length g)) × (e ≡ target_read t i b g))
  pipe-read g = (pipe-read-is t h i b g, λ m e w. transfer-one w (pipe-read-is t h i b g))

module _ (t : Pipes) (h : HostPipes t) (i n : ℕ) where
  pub pipe-reset : PipeResetOf t i n (pipe_reset t i n) × ((o : Opened) → PipeResetOf t i n o → o ≡ pipe_reset t i n)
  pipe-reset = (pipe-reset-is t h i n, λ o w. record-set-one w (pipe-reset-is t h i n))

  pub pipe-resume : PipeResumeOf t i n (pipe_resumed t i n) × ((o : Opened) → PipeResumeOf t i n o → o ≡ pipe_resumed t i n)
  pipe-resume = (pipe-resume-is t h i n, λ o w. record-set-one w (pipe-resume-is t h i n))

pub pipe-fresh : (t : Pipes) (number : ℕ) → PipesFreshOf t number (pipes_fresh t number) × ((o : Opened) → PipesFreshOf t number o → o ≡ pipes_fresh t number)
pipe-fresh t number = (pipes-fresh-is t number, λ o w. pipes-fresh-one w (pipes-fresh-is t number))

-- ---- ANY CALLS

-- from any table, refused calls included: of a pipe that fits its own buffer, with what is in it counted as written
module _ (t : Pipes) (h : HostPipes t) (i : ℕ) (b : List ℕ) (f : PositionsFit (pipe_of t i).positions (length b))
    (cs : List PipeCall) (lent : Lending i b (pipe_moments t cs)) where
  abbrev pub then : Story
  then = story i (record { written = in_pipe (pipe_of t i).positions b; read = [] }) (pipe_moments t cs)

  going : Going (pipes_ran t cs) i (buffer_after i b (pipe_moments t cs)) then
  going =
      let s : Story = record { written = in_pipe (pipe_of t i).positions b; read = [] } in
      pipe-going cs t i b s (record { host = h; fits = f; told = counts s (pipe_of t i).positions b refl }) lent

  -- "what was read is what was written, in order, each byte once, since the last reset; what is still in the pipe is the rest"
  pub bytes-told : Told then (pipe_of (pipes_ran t cs) i).positions (buffer_after i b (pipe_moments t cs))
  bytes-told = going.told

  -- the same, from the front: what was read is the front of what was written, and what is in the pipe the rest
  pub bytes_read : then.read ≡ take (length then.read) then.written
  bytes_read =
      let now = (pipe_of (pipes_ran t cs) i).positions in
      sym (ap (take (length then.read)) (sym bytes-told.in_order) ∙ take-append_seam then.read (in_pipe now (buffer_after i b (pipe_moments t cs))))

  pub bytes_left : in_pipe (pipe_of (pipes_ran t cs) i).positions (buffer_after i b (pipe_moments t cs)) ≡ drop (length then.read) then.written
  bytes_left =
      let now = (pipe_of (pipes_ran t cs) i).positions in
      sym (ap (drop (length then.read)) (sym bytes-told.in_order) ∙ drop-append_seam then.read (in_pipe now (buffer_after i b (pipe_moments t cs))))

  -- and the record fits its buffer still: refusal 6 comes from outside alone
  pub fits_on : PositionsFit (pipe_of (pipes_ran t cs) i).positions (length (buffer_after i b (pipe_moments t cs)))
  fits_on = going.fits

-- "from fresh pipes": nothing was there
module _ (u : Pipes) (number : ℕ) (few : number ≤ 4) (i : ℕ) (b : List ℕ) (some : 1 ≤ length b)
    (cs : List PipeCall) (lent : Lending i b (pipe_moments (fresh_pipes u number) cs)) where
  abbrev pub since : Story
  since = story i (record { written = []; read = [] }) (pipe_moments (fresh_pipes u number) cs)

  fresh-going : Going (fresh_pipes u number) i b (record { written = []; read = [] })
  fresh-going = by (pipes-fresh-is u number)
    where
      by : PipesFreshOf u number (pipes_fresh u number) → Going (fresh_pipes u number) i b (record { written = []; read = [] })
      by (PipesFreshOf.refused l e) = absurd (omega (arith, l, few))
      by (PipesFreshOf.made l c n h e) =
          record {
            host = h;
            fits = rw (e i) (record { count = omega arith; read = some; write = some; follows = sym (zero-mod (length b)) });
            told = rw (e i) (record { in_order = refl; counted = refl });
          }

  on : Going (pipes_ran (fresh_pipes u number) cs) i (buffer_after i b (pipe_moments (fresh_pipes u number) cs)) since
  on = pipe-going cs (fresh_pipes u number) i b (record { written = []; read = [] }) fresh-going lent

  pub bytes-always : Told since (pipe_of (pipes_ran (fresh_pipes u number) cs) i).positions (buffer_after i b (pipe_moments (fresh_pipes u number) cs))
  bytes-always = on.told

  pub fits-always : PositionsFit (pipe_of (pipes_ran (fresh_pipes u number) cs) i).positions (length (buffer_after i b (pipe_moments (fresh_pipes u number) cs)))
  fits-always = on.fits
