-- Calls on pipes, one after the other: what was read since the last reset, and then what is in the pipe, is what was written. A write puts
-- its bytes behind those that are there, at places where none of them lies; a read takes the first; a reset begins anew.
use Rattle.std.specs.Prelude.{ℕ, zero, suc, ◌+◌, ◌-◌, ◌≤◌, ◌<◌, ◌≡◌, refl, ◌≢◌, Bool, true, false, cond, ◌&&◌, List, [], ◌∷◌, ◌++◌, eqb, length, get_or, take}
use Rattle.std.proofs.Common.{mod-lt, add-suc, add-zero, arith, sym, ap, ◌∙◌, subst, append_assoc, append-nil, length-append, take-suc, eq-eqb, ne_eqb}
use Rattle.std.proofs.Math.Nat.{zero-mod}
use Rattle.kernel.proofs.Cases.{same_or}
use Rattle.library.specs.declared.ring.Positions.{Positions}
use Rattle.pipes.specs.declared.table.Pipe.{Pipe}
use Rattle.pipes.specs.declared.table.Pipes.{Pipes}
use Rattle.pipes.specs.Told.{Opened, Moved}
use Rattle.pipes.specs.Opening.{pipe_reset, pipe_resumed}
use Rattle.pipes.specs.Transfer.{write_answer, buffer_written, read_answer, target_read}
use Rattle.pipes.proofs.CarryingLaws.{place-on, places-apart}
use Rattle.promises.specs.Paper.Together.{PositionsFit}
use Rattle.promises.specs.Paper.Writer.{LeastOf}
use Rattle.promises.specs.Paper.Pipes.{
  pipe_of,
  HostPipes,
  on_from,
  PipeUnfit,
  BytesMoved,
  SmallerOf,
  Transfer,
  writing,
  reading,
  TransferOf,
  RecordSet,
  PipeResetOf,
  PipeResumeOf,
  PipeCall,
  PipeMoment,
  on_pipe,
  buffer_after,
  OwnLent,
  Lending,
  as_many_as,
  Story,
  story_on,
  story,
  listed,
  in_pipe,
  Told,
}
use Rattle.promises.specs.Code.Pipes.{pipe_moment, pipe_moments, pipes_ran}
use Rattle.promises.specs.Meant.Pipes.{unfit-number, pipe-write-is, pipe-read-is, pipe-reset-is, pipe-resume-is}

-- ---- lists of values

pub length-listed : (f : ℕ → ℕ) (k : ℕ) → length (listed f k) ≡ k
length-listed f zero = refl
length-listed f (suc k) = length-append (listed f k) (f k ∷ []) ∙ omega (arith, length-listed f k)

pub listed_same : (f g : ℕ → ℕ) (k : ℕ) → ((j : ℕ) → j < k → f j ≡ g j) → listed f k ≡ listed g k
listed_same f g zero h = refl
listed_same f g (suc k) h = rw (listed_same f g k (λ j l. h j (omega arith)), h k (omega arith))

pub listed_more : (f : ℕ → ℕ) (a k : ℕ) → listed f (a + k) ≡ listed f a ++ listed (λ j. f (a + j)) k
listed_more f a zero = rw (add-zero a) (sym (append-nil (listed f a)))
listed_more f a (suc k) =
    rw (add-suc a k, listed_more f a k) (append_assoc (listed f a) (listed (λ j. f (a + j)) k) (f (a + k) ∷ []))

listed-take : (l : List ℕ) (k : ℕ) → k ≤ length l → listed (λ j. get_or l j 0) k ≡ take k l
listed-take l zero h = refl
listed-take l (suc k) h = rw (listed-take l k (omega arith)) (sym (take-suc l k 0 (omega arith)))

-- ---- one pipe

pub smaller-le : {a b k : ℕ} → SmallerOf a b k → (k ≤ a) × (k ≤ b)
smaller-le (SmallerOf.first h) = (omega arith, h)
smaller-le (SmallerOf.second h) = (h, omega arith)

-- the count follows from the order
pub counts : (s : Story) (p : Positions) (b : List ℕ) → s.read ++ in_pipe p b ≡ s.written → Told s p b
counts s p b e =
    record {
      in_order = e;
      counted =
          ap (λ (n : ℕ). length s.read + n) (sym (length-listed (λ j. get_or b (on_from b p.read j) 0) p.count))
          ∙ sym (length-append s.read (in_pipe p b))
          ∙ ap length e;
    }

module _ (p : Positions) (b : List ℕ) (f : PositionsFit p (length b)) where
  some : 0 < length b
  some = omega (arith, f.read)

  -- the write place, and those on from it, are behind what is there
  behind : (j : ℕ) → on_from b p.write j ≡ on_from b p.read (p.count + j)
  behind j = rw f.follows (place-on (length b) p.read p.count j)

  module _ (l c : List ℕ) (k : ℕ) (s : SmallerOf (length l) (length b - p.count) k) (m : BytesMoved k l (λ j. j) b (on_from b p.write) c) where
    pub filled-fits : PositionsFit ((writing p b l).after k) (length c)
    filled-fits =
        rw m.size
        (record {
          count = omega (arith, (smaller-le s).1, f.count);
          read = f.read;
          write = mod-lt (p.write + k) some;
          follows = behind k;
        })

    -- the bytes that were there are there, and behind them those that were written
    pub filled-bytes : in_pipe ((writing p b l).after k) c ≡ in_pipe p b ++ take k l
    filled-bytes =
        let at : ℕ → ℕ = λ j. get_or c (on_from c p.read j) 0 in
        let here : (j : ℕ) → j < p.count → at j ≡ get_or b (on_from b p.read j) 0 =
        λ j h. rw m.size
        (m.others (on_from b p.read j)
        (λ x g e. places-apart (length b) p.read j (p.count + x) (omega arith) (omega (arith, (smaller-le s).1, f.count)) (e ∙ behind x))) in
        let there : (j : ℕ) → j < k → at (p.count + j) ≡ get_or l j 0 =
        λ j h. rw m.size (ap (λ (x : ℕ). get_or c x 0) (sym (behind j)) ∙ m.moved j h) in
        listed_more at p.count k
        ∙ ap (λ (x : List ℕ). x ++ listed (λ j. at (p.count + j)) k) (listed_same at (λ j. get_or b (on_from b p.read j) 0) p.count here)
        ∙ ap (λ (x : List ℕ). in_pipe p b ++ x)
        (listed_same (λ j. at (p.count + j)) (λ j. get_or l j 0) k there ∙ listed-take l k (smaller-le s).0)

  module _ (g h : List ℕ) (k : ℕ) (s : SmallerOf (length g) p.count k) (m : BytesMoved k b (on_from b p.read) g (λ j. j) h) where
    -- k bytes and the rest are all
    rest : k + (p.count - k) ≡ p.count
    rest = omega (arith, (smaller-le s).1)

    pub drained-fits : PositionsFit ((reading p b g).after k) (length b)
    drained-fits =
        record {
          count = omega (arith, f.count);
          read = mod-lt (p.read + k) some;
          write = f.write;
          follows = f.follows ∙ sym (place-on (length b) p.read k (p.count - k) ∙ ap (on_from b p.read) rest);
        }

    -- the bytes that were there are those that were read, and then those that are there
    pub drained-bytes : take k h ++ in_pipe ((reading p b g).after k) b ≡ in_pipe p b
    drained-bytes =
        let at : ℕ → ℕ = λ j. get_or b (on_from b p.read j) 0 in
        let out : take k h ≡ listed at k =
        sym (listed-take h k (omega (arith, (smaller-le s).0, m.size))) ∙ listed_same (λ j. get_or h j 0) at k (λ j l. m.moved j l) in
        let left : in_pipe ((reading p b g).after k) b ≡ listed (λ j. at (k + j)) (p.count - k) =
        listed_same (λ j. get_or b (on_from b (on_from b p.read k) j) 0) (λ j. at (k + j)) (p.count - k)
        (λ j l. ap (λ (x : ℕ). get_or b x 0) (place-on (length b) p.read k j)) in
        ap (λ (x : List ℕ). x ++ in_pipe ((reading p b g).after k) b) out
        ∙ ap (λ (x : List ℕ). listed at k ++ x) left
        ∙ sym (listed_more at k (p.count - k))
        ∙ ap (listed at) rest

-- ---- one call

-- what is known of pipe i between two calls
pub record Going (t : Pipes) (i : ℕ) (b : List ℕ) (s : Story) : Type 0 where
  pub host : HostPipes t
  pub fits : PositionsFit (pipe_of t i).positions (length b)
  pub told : Told s (pipe_of t i).positions b

-- a call that leaves the pipe and its story goes on from them
same-story : {t u : Pipes} {i : ℕ} {b : List ℕ} {s : Story} → Going t i b s → HostPipes u → (pipe_of u i).positions ≡ (pipe_of t i).positions
    → Going u i b (record { written = s.written ++ []; read = s.read ++ [] })
same-story {t} {u} {i} {b} {s} g h e =
    record {
      host = h;
      fits = rw e g.fits;
      told = rw (e, append-nil s.written, append-nil s.read) g.told;
    }

-- the story of a pipe goes on
abbrev longer : Story → List ℕ → List ℕ → Story
longer s w r = record { written = s.written ++ w; read = s.read ++ r }

-- a refusal has a number
pub numbered : {t : Pipes} {i n c : ℕ} → LeastOf (PipeUnfit t i n) c → c ≢ 0
numbered f e = omega (arith, unfit-number f.unfit)

-- a transfer on pipe j leaves a host's table, and every other pipe
module _ {t : Pipes} {j n : ℕ} {x : Transfer} {m : Moved} {e : List ℕ} (h : HostPipes t) where
  pub host-after : TransferOf t j n x m e → HostPipes m.pipes
  host-after (TransferOf.refused c p a r) = rw a h
  host-after (TransferOf.in-reset p z a r) = rw a h
  host-after (TransferOf.moves p z k s y u v o) = o.table

  pub other_after : (i : ℕ) → i ≢ j → TransferOf t j n x m e → pipe_of m.pipes i ≡ pipe_of t i
  other_after i d (TransferOf.refused c p a r) = rw a
  other_after i d (TransferOf.in-reset p z a r) = rw a
  other_after i d (TransferOf.moves p z k s y u v o) = o.others i d

-- a transfer on pipe i itself, whose own buffer is c
module _ (t : Pipes) (i : ℕ) (b c : List ℕ) (s : Story) (g : Going t i c s) (m : Moved) (own : m.code ≡ 0 → b ≡ c) where
  -- one that moves nothing
  still : (e : List ℕ) → HostPipes m.pipes → m.pipes ≡ t → (m.code ≡ 0 → e ≡ c)
      → Going m.pipes i (cond (eqb m.code 0) e c) (longer s [] [])
  still e h a same =
      let left : cond (eqb m.code 0) e c ≡ c =
      same_or m.code 0 (λ z. rw (eq-eqb m.code 0 z) (same z)) (λ z. rw (ne_eqb m.code 0 z)) in
      rw left (same-story g h (rw a))

  write-on : (l e : List ℕ) → TransferOf t i (length b) (writing (pipe_of t i).positions b l) m e
      → Going m.pipes i (cond (eqb m.code 0) e c) (longer s (as_many_as m.moved l) [])
  write-on l e w = by w
    where
      by : TransferOf t i (length b) (writing (pipe_of t i).positions b l) m e
          → Going m.pipes i (cond (eqb m.code 0) e c) (longer s (as_many_as m.moved l) [])
      by (TransferOf.refused n p a r) =
          rw (ap (λ (x : Moved). x.moved) a)
          (still e (host-after g.host w) (ap (λ (x : Moved). x.pipes) a) (λ z. absurd (numbered p (sym (ap (λ (x : Moved). x.code) a) ∙ z))))
      by (TransferOf.in-reset p z a r) =
          rw (ap (λ (x : Moved). x.moved) a)
          (still e (host-after g.host w) (ap (λ (x : Moved). x.pipes) a) (λ y. r ∙ own y))
      by (TransferOf.moves p z k y x u v o) =
          let q = (pipe_of t i).positions in
          let f : PositionsFit q (length b) = rw (own u) g.fits in
          let now = ap (λ (x : Pipe). x.positions) o.record_of in
          let was : s.read ++ in_pipe q b ≡ s.written = rw (own u) g.told.in_order in
          let all : (s.read ++ []) ++ in_pipe ((writing q b l).after k) e ≡ s.written ++ take k l =
          rw (append-nil s.read, filled-bytes q b f l e k y x)
          (sym (append_assoc s.read (in_pipe q b) (take k l)) ∙ ap (λ (z : List ℕ). z ++ take k l) was) in
          rw (eq-eqb m.code 0 u, v)
          (record {
            host = o.table;
            fits = rw now (filled-fits q b f l e k y x);
            told = rw now (counts (longer s (take k l) []) ((writing q b l).after k) e all);
          })

  read-on : (d e : List ℕ) → TransferOf t i (length b) (reading (pipe_of t i).positions b d) m e
      → Going m.pipes i (cond (eqb m.code 0) b c) (longer s [] (as_many_as m.moved e))
  read-on d e w = by w
    where
      by : TransferOf t i (length b) (reading (pipe_of t i).positions b d) m e
          → Going m.pipes i (cond (eqb m.code 0) b c) (longer s [] (as_many_as m.moved e))
      by (TransferOf.refused n p a r) =
          rw (ap (λ (x : Moved). x.moved) a) (still b (host-after g.host w) (ap (λ (x : Moved). x.pipes) a) own)
      by (TransferOf.in-reset p z a r) =
          rw (ap (λ (x : Moved). x.moved) a) (still b (host-after g.host w) (ap (λ (x : Moved). x.pipes) a) own)
      by (TransferOf.moves p z k y x u v o) =
          let q = (pipe_of t i).positions in
          let f : PositionsFit q (length b) = rw (own u) g.fits in
          let now = ap (λ (x : Pipe). x.positions) o.record_of in
          let was : s.read ++ in_pipe q b ≡ s.written = rw (own u) g.told.in_order in
          let all : (s.read ++ take k e) ++ in_pipe ((reading q b d).after k) b ≡ s.written ++ [] =
          rw (append-nil s.written)
          (append_assoc s.read (take k e) (in_pipe ((reading q b d).after k) b)
          ∙ ap (λ (z : List ℕ). s.read ++ z) (drained-bytes q b f d e k y x)
          ∙ was) in
          rw (eq-eqb m.code 0 u, v)
          (record {
            host = o.table;
            fits = rw now (drained-fits q b f d e k y x);
            told = rw now (counts (longer s [] (take k e)) ((reading q b d).after k) b all);
          })

-- a record that is set, on pipe j: as for a transfer
module _ {t : Pipes} {j n : ℕ} {p : Pipe} {o : Opened} (h : HostPipes t) where
  pub host-set : RecordSet t j n p o → HostPipes o.pipes
  host-set (RecordSet.refused c f a) = rw a h
  host-set (RecordSet.done f u q) = q.table

  pub other-set : (i : ℕ) → i ≢ j → RecordSet t j n p o → pipe_of o.pipes i ≡ pipe_of t i
  other-set i d (RecordSet.refused c f a) = rw a
  other-set i d (RecordSet.done f u q) = q.others i d

-- one call: what is known of pipe i, whose own buffer is c, is known of it afterwards
module _ (t : Pipes) (i : ℕ) (c : List ℕ) (s : Story) (g : Going t i c s) where
  abbrev Next : PipeMoment → Type 0
  Next m = Going m.after i (cond (on_pipe i m) m.buffer c) (story_on i s m)

  -- a call on another pipe: whatever buffer it was lent, this pipe's record and its own buffer stay
  elsewhere : (x : Bool) (e : List ℕ) (u : Pipes) → HostPipes u → pipe_of u i ≡ pipe_of t i
      → Going u i (cond (x && false) e c) (longer s [] [])
  elsewhere true e u h same = same-story g h (ap (λ (p : Pipe). p.positions) same)
  elsewhere false e u h same = same-story g h (ap (λ (p : Pipe). p.positions) same)

  -- one on this pipe: its buffer
  here : {u : Pipes} {q : Story} (x : Bool) (e : List ℕ) → Going u i (cond x e c) q → Going u i (cond (x && eqb i i) e c) q
  here true e z = rw (eq-eqb i i refl) z
  here false e z = z

  abbrev Own : PipeCall → Type 0
  Own k = OwnLent i c (pipe_moment t k)

  write-here : (b l : List ℕ) → Own (PipeCall.write i b l) → Next (pipe_moment t (PipeCall.write i b l))
  write-here b l own =
      let m = write_answer t i (length b) (length l) in
      let on = write-on t i b c s g m (own refl) l (buffer_written t i b l) (pipe-write-is t g.host i b l) in
      here (eqb m.code 0) (buffer_written t i b l) (rw (eq-eqb i i refl) on)

  write-next : (j : ℕ) (b l : List ℕ) → Own (PipeCall.write j b l) → Next (pipe_moment t (PipeCall.write j b l))
  write-next j b l own =
      let m = write_answer t j (length b) (length l) in
      let w = pipe-write-is t g.host j b l in
      same_or i j
      (λ e. subst (λ (x : ℕ). Own (PipeCall.write x b l) → Next (pipe_moment t (PipeCall.write x b l))) e (write-here b l) own)
      (λ d. rw (ne_eqb i j d) (elsewhere (eqb m.code 0) (buffer_written t j b l) m.pipes (host-after g.host w) (other_after g.host i d w)))

  read_here : (b d : List ℕ) → Own (PipeCall.read i b d) → Next (pipe_moment t (PipeCall.read i b d))
  read_here b d own =
      let m = read_answer t i (length b) (length d) in
      let on = read-on t i b c s g m (own refl) d (target_read t i b d) (pipe-read-is t g.host i b d) in
      here (eqb m.code 0) b (rw (eq-eqb i i refl) on)

  read_next : (j : ℕ) (b d : List ℕ) → Own (PipeCall.read j b d) → Next (pipe_moment t (PipeCall.read j b d))
  read_next j b d own =
      let m = read_answer t j (length b) (length d) in
      let w = pipe-read-is t g.host j b d in
      same_or i j
      (λ e. subst (λ (x : ℕ). Own (PipeCall.read x b d) → Next (pipe_moment t (PipeCall.read x b d))) e (read_here b d) own)
      (λ n. rw (ne_eqb i j n) (elsewhere (eqb m.code 0) b m.pipes (host-after g.host w) (other_after g.host i n w)))

  reset-here : (b : List ℕ) → Own (PipeCall.reset i b) → Next (pipe_moment t (PipeCall.reset i b))
  reset-here b own = by (pipe_reset t i (length b)) (own refl) (pipe-reset-is t g.host i (length b))
    where
      by : (o : Opened) → (o.code ≡ 0 → b ≡ c) → PipeResetOf t i (length b) o
          → Going o.pipes i (cond (eqb o.code 0 && eqb i i) b c)
          (cond (eqb i i && eqb o.code 0) (record { written = []; read = [] }) (longer s [] []))
      by o own (RecordSet.refused n f a) =
          let code = numbered f in
          let no : o.code ≢ 0 = λ z. code (sym (ap (λ (x : Opened). x.code) a) ∙ z) in
          rw (eq-eqb i i refl, ne_eqb o.code 0 no) (same-story g (rw a g.host) (rw a))
      by o own (RecordSet.done f u q) =
          let now = ap (λ (x : Pipe). x.positions) q.record_of in
          let some : 0 < length b = rw (own u) (omega (arith, g.fits.read)) in
          rw (eq-eqb i i refl, eq-eqb o.code 0 u)
          (record {
            host = q.table;
            fits = rw now (record { count = omega arith; read = some; write = some; follows = sym (zero-mod (length b)) });
            told = rw now (record { in_order = refl; counted = refl });
          })

  resume-here : (b : List ℕ) → Own (PipeCall.resume i b) → Next (pipe_moment t (PipeCall.resume i b))
  resume-here b own = by (pipe_resumed t i (length b)) (own refl) (pipe-resume-is t g.host i (length b))
    where
      by : (o : Opened) → (o.code ≡ 0 → b ≡ c) → PipeResumeOf t i (length b) o
          → Going o.pipes i (cond (eqb o.code 0 && eqb i i) b c) (longer s [] [])
      by o own (RecordSet.refused n f a) =
          let code = numbered f in
          let no : o.code ≢ 0 = λ z. code (sym (ap (λ (x : Opened). x.code) a) ∙ z) in
          rw (ne_eqb o.code 0 no) (same-story g (rw a g.host) (rw a))
      by o own (RecordSet.done f u q) =
          rw (eq-eqb o.code 0 u, eq-eqb i i refl, own u) (same-story g q.table (ap (λ (x : Pipe). x.positions) q.record_of))

  set-elsewhere : (j : ℕ) (b : List ℕ) {p : Pipe} (o : Opened) → i ≢ j → RecordSet t j (length b) p o
      → Going o.pipes i (cond (eqb o.code 0 && false) b c) (longer s [] [])
  set-elsewhere j b o d r = elsewhere (eqb o.code 0) b o.pipes (host-set g.host r) (other-set g.host i d r)

  -- every call
  pub call_next : (k : PipeCall) → Own k → Next (pipe_moment t k)
  call_next (PipeCall.write j b l) own = write-next j b l own
  call_next (PipeCall.read j b d) own = read_next j b d own
  call_next (PipeCall.reset j b) own =
      same_or i j (λ e. subst (λ (x : ℕ). Own (PipeCall.reset x b) → Next (pipe_moment t (PipeCall.reset x b))) e (reset-here b) own)
      (λ d. rw (ne_eqb i j d) (set-elsewhere j b (pipe_reset t j (length b)) d (pipe-reset-is t g.host j (length b))))
  call_next (PipeCall.resume j b) own =
      same_or i j (λ e. subst (λ (x : ℕ). Own (PipeCall.resume x b) → Next (pipe_moment t (PipeCall.resume x b))) e (resume-here b) own)
      (λ d. rw (ne_eqb i j d) (set-elsewhere j b (pipe_resumed t j (length b)) d (pipe-resume-is t g.host j (length b))))

-- ---- any calls

pub pipe-going : (cs : List PipeCall) (t : Pipes) (i : ℕ) (b : List ℕ) (s : Story) → Going t i b s → Lending i b (pipe_moments t cs)
    → Going (pipes_ran t cs) i (buffer_after i b (pipe_moments t cs)) (story i s (pipe_moments t cs))
pipe-going [] t i b s g l = g
pipe-going (c ∷ cs) t i b s g (Lending.more own l) =
    let m = pipe_moment t c in
    pipe-going cs m.after i (cond (on_pipe i m) m.buffer b) (story_on i s m) (call_next t i b s g c own) l
