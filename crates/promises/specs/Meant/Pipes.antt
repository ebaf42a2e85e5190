-- What the calls on pipes are proved to give is what document 02 tells of them, byte by byte, and it leaves no choice.
use Rattle.std.specs.Prelude.{ℕ, zero, suc, ◌+◌, ◌-◌, ◌%◌, ◌≤◌, ◌<◌, ◌≡◌, ◌≢◌, true, false, cond, List, [], ◌∷◌, eqb, leb, ltb}
use Rattle.std.proofs.Math.Nat.{mod-eq_of_lt}
use Rattle.std.proofs.Common.{zero-add, arith, sym, ◌∙◌, subst, length-set, get_or-set_same, get_or-set_other, ext_get_or}
use Rattle.std.proofs.Math.Path.{refl, ap}
use Rattle.std.proofs.Math.IntN.{pos, negsuc}
use Rattle.std.proofs.Math.ListN.{length, get_or}
use borrow.Author.Tests.{eq-eqb, ne_eqb, lt-leb, le-leb, ltb-true, ltb-false, leb-true, leb-false}
use Rattle.kernel.proofs.Cases.{split, same_or, in-or-out, both-means, contrary}
use Rattle.library.specs.Ring.{positions_fit}
use Rattle.library.proofs.RingLaws.{fit_of}
use Rattle.pipes.specs.declared.table.Pipe.{Pipe}
use Rattle.pipes.specs.declared.table.Pipes.{Pipes}
use Rattle.pipes.specs.Told.{Opened, Moved}
use Rattle.pipes.specs.Table.{pipe_at, with_pipe}
use Rattle.pipes.specs.Carrying.{smaller_of, carried}
use Rattle.pipes.specs.Judging.{is_there, length_fits, pipe_refusal}
use Rattle.pipes.specs.Opening.{pipes_fresh, pipe_reset, pipe_resumed}
use Rattle.pipes.specs.Transfer.{goes_ahead, stopped, gone_on, write_count, read_count, write_answer, buffer_written, read_answer, target_read}
use Rattle.pipes.proofs.CarryingLaws.{length-carried, carried-at, carried-off, least}
use Rattle.pipes.proofs.TransferLaws.{Unrefused, unrefused}
use Rattle.promises.specs.Paper.Writer.{LeastOf}
use Rattle.promises.specs.Meant.Together.{fit-paper, paper-fit}
use Rattle.promises.specs.Meant.Writer.{least-one}
use Rattle.promises.specs.Paper.Pipes.{
  no_pipe,
  pipe_of,
  HostPipes,
  PipeUnfit,
  PipeFits,
  OnlyPipe,
  BytesMoved,
  SmallerOf,
  Transfer,
  writing,
  reading,
  TransferOf,
  PipeWriteOf,
  PipeReadOf,
  RecordSet,
  PipeResetOf,
  PipeResumeOf,
  PipesFreshOf,
}

-- ---- refusals

-- there are two numbers
pub unfit-number : {t : Pipes} {i n m : ℕ} → PipeUnfit t i n m → 5 ≤ m
unfit-number (PipeUnfit.absent h) = omega arith
unfit-number (PipeUnfit.too_many h) = omega arith
unfit-number (PipeUnfit.no_buffer h) = omega arith
unfit-number (PipeUnfit.long h) = omega arith
unfit-number (PipeUnfit.unfit h) = omega arith

module _ (t : Pipes) (i n : ℕ) where
  -- what nothing refuses breaks no rule
  pub accepted-fits : pipe_refusal t i n ≡ 0 → PipeFits t i n
  accepted-fits e m u = by (unrefused t i n e) u
    where
      by : Unrefused t i n → {m : ℕ} → PipeUnfit t i n m → ⊥
      by g (PipeUnfit.absent h) = omega (arith, g.there)
      by g (PipeUnfit.too_many h) = omega (arith, g.few)
      by g (PipeUnfit.no_buffer h) = omega (arith, g.some)
      by g (PipeUnfit.long h) = omega (arith, g.long)
      by g (PipeUnfit.unfit h) = h (fit-paper g.fits)

  -- a rule of number 5 is broken where the pipe is not there or the length is not a buffer's
  only-five : is_there t i ≡ true → length_fits n ≡ true → PipeUnfit t i n 5 → ⊥
  only-five x y u =
      let a = both-means (leb t.number 4) (ltb i t.number) x in
      let b = both-means (leb 1 n) (leb n 256) y in
      by (leb-true t.number 4 a.0) (ltb-true i t.number a.1) (leb-true 1 n b.0) (leb-true n 256 b.1) refl u
    where
      by : t.number ≤ 4 → i < t.number → 1 ≤ n → n ≤ 256 → {m : ℕ} → m ≡ 5 → PipeUnfit t i n m → ⊥
      by few there some long e (PipeUnfit.absent h) = omega arith
      by few there some long e (PipeUnfit.too_many h) = omega arith
      by few there some long e (PipeUnfit.no_buffer h) = omega arith
      by few there some long e (PipeUnfit.long h) = omega arith
      by few there some long e (PipeUnfit.unfit h) = omega arith

  not_there : is_there t i ≡ false → PipeUnfit t i n 5
  not_there x =
      split (leb t.number 4)
      (λ a. PipeUnfit.absent (ltb-false i t.number (rw a at x)))
      (λ a. PipeUnfit.too_many (leb-false t.number 4 a))

  no_length : length_fits n ≡ false → PipeUnfit t i n 5
  no_length y =
      split (leb 1 n)
      (λ a. PipeUnfit.long (leb-false n 256 (rw a at y)))
      (λ a. PipeUnfit.no_buffer (omega (arith, leb-false 1 n a)))

  -- 5 is the first number that there is
  five : PipeUnfit t i n 5 → LeastOf (PipeUnfit t i n) 5
  five u = record { unfit = u; none_before = λ m l v. absurd (omega (arith, unfit-number v)) }

  -- what is refused is refused by the first rule that it breaks
  pub refused-least : pipe_refusal t i n ≢ 0 → LeastOf (PipeUnfit t i n) (pipe_refusal t i n)
  unfolding pipe_refusal
  refused-least d =
      split (is_there t i)
      (λ x.
      split (length_fits n)
      (λ y.
      split (positions_fit (pipe_at t i).positions n)
      (λ z. absurd (d (rw (x, y, z))))
      (λ z.
      rw (x, y, z)
      (record {
        unfit = PipeUnfit.unfit (λ f. contrary (fit_of (pipe_at t i).positions n (paper-fit f)) z);
        none_before = λ m l u. only-five x y (five-of m l u);
      })))
      (λ y. rw (x, y) (five (no_length y))))
      (λ x. rw x (five (not_there x)))
    where
      five-of : (m : ℕ) → m < 6 → PipeUnfit t i n m → PipeUnfit t i n 5
      five-of m l u = let e : m ≡ 5 = omega (arith, unfit-number u) in rw e at u

-- ---- bytes

smaller-is : (a b : ℕ) → SmallerOf a b (smaller_of a b)
smaller-is a b = in-or-out b a (λ l. rw (lt-leb a b l) (SmallerOf.second (omega arith))) (λ l. rw (le-leb a b l) (SmallerOf.first l))

smaller-one : {a b k j : ℕ} → SmallerOf a b k → SmallerOf a b j → k ≡ j
smaller-one (SmallerOf.first h) (SmallerOf.first g) = refl
smaller-one (SmallerOf.first h) (SmallerOf.second g) = omega arith
smaller-one (SmallerOf.second h) (SmallerOf.first g) = omega arith
smaller-one (SmallerOf.second h) (SmallerOf.second g) = refl

-- whether a place is among the first k of f
among : {C : Type 0} (k : ℕ) (f : ℕ → ℕ) (x : ℕ) → ((j : ℕ) → j < k → x ≡ f j → C) → (((j : ℕ) → j < k → x ≢ f j) → C) → C
among zero f x is not-one = not-one (λ j l. absurd (omega arith))
among {C} (suc k) f x is not-one =
    same_or x (f k) (λ e. is k (omega arith) e)
    (λ d. among k f x (λ j l e. is j (omega arith) e) (λ off. not-one (λ j l. same_or j k (λ e. rw e d) (λ h. off j (omega arith)))))

bytes_one : {k : ℕ} {s : List ℕ} {from : ℕ → ℕ} {d : List ℕ} {to : ℕ → ℕ} {e f : List ℕ} → BytesMoved k s from d to e → BytesMoved k s from d to f → e ≡ f
bytes_one {k} {s} {from} {d} {to} {e} {f} a b =
    ext_get_or 0 e f (a.size ∙ sym b.size)
    (λ x l.
    among k to x (λ j h w. rw w (a.moved j h ∙ sym (b.moved j h))) (λ none. a.others x none ∙ sym (b.others x none)))

-- ---- the table

-- one record is set anew
only_set : (t : Pipes) (i : ℕ) (p : Pipe) → HostPipes t → i < 4 → OnlyPipe t i p (with_pipe t i p)
only_set t i p h l =
    record {
      number = refl;
      table = length-set t.pipes i p ∙ h;
      record_of = get_or-set_same t.pipes i p no_pipe (rw h l);
      others = λ j d. get_or-set_other t.pipes i j p no_pipe d;
    }

pipes-one : (u v : Pipes) → HostPipes u → HostPipes v → u.number ≡ v.number → ((j : ℕ) → pipe_of u j ≡ pipe_of v j) → u ≡ v
pipes-one u v h g n f =
    let rows : u.pipes ≡ v.pipes = ext_get_or no_pipe u.pipes v.pipes (h ∙ sym g) (λ j l. f j) in
    let parts : ◌≡◌ {A = Pipes} (record { pipes = u.pipes; number = u.number }) (record { pipes = v.pipes; number = v.number }) = rw (rows, n) in
    parts

only_one : {t : Pipes} {i : ℕ} {p : Pipe} {u v : Pipes} → OnlyPipe t i p u → OnlyPipe t i p v → u ≡ v
only_one {t} {i} {p} {u} {v} a b =
    pipes-one u v a.table b.table (a.number ∙ sym b.number)
    (λ j. same_or j i (λ e. rw e (a.record_of ∙ sym b.record_of)) (λ d. a.others j d ∙ sym (b.others j d)))

-- ---- transfers

module _ (t : Pipes) (h : HostPipes t) (i : ℕ) (b : List ℕ) where
  inside : pipe_refusal t i (length b) ≡ 0 → i < 4
  inside e = let g = unrefused t i (length b) e in omega (arith, g.few, g.there)

  -- what both transfers have in common: x is what would move, k bytes of it, and e what is written to then
  transfer-is : (x : Transfer) (k : ℕ) (e : List ℕ) (m : Moved) (c : List ℕ) → SmallerOf x.wanted x.possible k
      → (pipe_refusal t i (length b) ≡ 0 → BytesMoved k x.source x.from x.into x.to e)
      → m ≡ cond (goes_ahead t i (length b)) (gone_on t i (x.after k) k) (stopped t i (length b)) → c ≡ cond (goes_ahead t i (length b)) e x.into
      → TransferOf t i (length b) x m c
  unfolding goes_ahead gone_on stopped
  transfer-is x k e m c s y em ec =
      same_or (pipe_refusal t i (length b)) 0
      (λ r.
      same_or (pipe_at t i).reset 0
      (λ z.
      let free = eq-eqb (pipe_refusal t i (length b)) 0 r in
      let live = eq-eqb (pipe_at t i).reset 0 z in
      let m2 : m ≡ record { pipes = with_pipe t i (record { positions = x.after k; reset = 0 }); code = 0; moved = pos k } = rw (free, live) at em in
      let c2 : c ≡ e = rw (free, live) at ec in
      rw (m2, c2)
      (TransferOf.moves (accepted-fits t i (length b) r) z k s (y r) refl refl (only_set t i (record { positions = x.after k; reset = 0 }) h (inside r))))
      (λ z.
      let free = eq-eqb (pipe_refusal t i (length b)) 0 r in
      let still = ne_eqb (pipe_at t i).reset 0 z in
      let m2 : m ≡ record { pipes = t; code = 0; moved = negsuc 1 } = rw (free, still, r) at em in
      let c2 : c ≡ x.into = rw (free, still) at ec in
      TransferOf.in-reset (accepted-fits t i (length b) r) z m2 c2))
      (λ d.
      let no = ne_eqb (pipe_refusal t i (length b)) 0 d in
      let m2 : m ≡ record { pipes = t; code = pipe_refusal t i (length b); moved = pos 0 } = rw no at em in
      let c2 : c ≡ x.into = rw no at ec in
      TransferOf.refused (pipe_refusal t i (length b)) (refused-least t i (length b) d) m2 c2)

  pub pipe-write-is : (l : List ℕ) → PipeWriteOf t i b l (write_answer t i (length b) (length l)) (buffer_written t i b l)
  unfolding write_answer buffer_written
  pipe-write-is l =
      let p = (pipe_at t i).positions in
      let k = write_count p (length b) (length l) in
      let few = least (length l) (length b - p.count) k refl in
      transfer-is (writing p b l) k (carried k l 0 b p.write) (write_answer t i (length b) (length l)) (buffer_written t i b l)
      (smaller-is (length l) (length b - p.count))
      (λ r. record {
        size = length-carried k l 0 b p.write;
        moved = λ j g.
            carried-at k l 0 b p.write (omega (arith, few.second)) j g
            ∙ ap (λ (x : ℕ). get_or l x 0) (ap (λ (x : ℕ). x % length l) (zero-add j) ∙ mod-eq_of_lt (omega (arith, few.first)));
        others = carried-off k l 0 b p.write;
      })
      refl refl

  pub pipe-read-is : (g : List ℕ) → PipeReadOf t i b g (read_answer t i (length b) (length g)) (target_read t i b g)
  unfolding read_answer target_read
  pipe-read-is g =
      let p = (pipe_at t i).positions in
      let k = read_count p (length g) in
      let few = least (length g) p.count k refl in
      let at : (j : ℕ) → j < k → (0 + j) % length g ≡ j = λ j l. ap (λ (x : ℕ). x % length g) (zero-add j) ∙ mod-eq_of_lt (omega (arith, few.first)) in
      transfer-is (reading p b g) k (carried k b p.read g 0) (read_answer t i (length b) (length g)) (target_read t i b g)
      (smaller-is (length g) p.count)
      (λ r. record {
        size = length-carried k b p.read g 0;
        moved = λ j l. ap (λ (x : ℕ). get_or (carried k b p.read g 0) x 0) (sym (at j l)) ∙ carried-at k b p.read g 0 few.first j l;
        others = λ x none. carried-off k b p.read g 0 x (λ j l e. none j l (e ∙ at j l));
      })
      refl refl

moved-one : (m n : Moved) → m.pipes ≡ n.pipes → m.code ≡ n.code → m.moved ≡ n.moved → m ≡ n
moved-one m n p c z =
    let parts : ◌≡◌ {A = Moved} (record { pipes = m.pipes; code = m.code; moved = m.moved }) (record { pipes = n.pipes; code = n.code; moved = n.moved }) =
    rw (p, c, z) in
    parts

pub transfer-one : {t : Pipes} {i n : ℕ} {x : Transfer} {m o : Moved} {e f : List ℕ} → TransferOf t i n x m e → TransferOf t i n x o f → (m ≡ o) × (e ≡ f)
transfer-one {t} {i} {n} (TransferOf.refused c p a s) (TransferOf.refused d q b r) =
    (a ∙ ap (λ (y : ℕ). record { pipes = t; code = y; moved = pos 0 }) (least-one (PipeUnfit t i n) c d p q) ∙ sym b, s ∙ sym r)
transfer-one (TransferOf.refused c p a s) (TransferOf.in-reset q z b r) = absurd (q c p.unfit)
transfer-one (TransferOf.refused c p a s) (TransferOf.moves q z k w y u v o) = absurd (q c p.unfit)
transfer-one (TransferOf.in-reset q z b r) (TransferOf.refused c p a s) = absurd (q c p.unfit)
transfer-one (TransferOf.in-reset q z b r) (TransferOf.in-reset p y a s) = (b ∙ sym a, r ∙ sym s)
transfer-one (TransferOf.in-reset p y a s) (TransferOf.moves q z k w v u o g) = absurd (y z)
transfer-one (TransferOf.moves q z k w y u v o) (TransferOf.refused c p a s) = absurd (q c p.unfit)
transfer-one (TransferOf.moves q z k w v u o g) (TransferOf.in-reset p y a s) = absurd (y z)
transfer-one {t} {i} {n} {x} {m} {o} {e} {f} (TransferOf.moves q z k w y u v p) (TransferOf.moves q' z' k' w' y' u' v' p') =
    let same : k' ≡ k = smaller-one w' w in (
      moved-one m o
          (only_one p (subst (λ (j : ℕ). OnlyPipe t i (record { positions = x.after j; reset = 0 }) o.pipes) same p'))
          (u ∙ sym u') (v ∙ ap pos (sym same) ∙ sym v'),
      bytes_one y (subst (λ (j : ℕ). BytesMoved j x.source x.from x.into x.to f) same y'),
    )

-- ---- reset, resume, fresh

module _ (t : Pipes) (h : HostPipes t) (i n : ℕ) where
  record_is : (p : Pipe) (o : Opened)
      → o ≡ cond (eqb (pipe_refusal t i n) 0) (record { pipes = with_pipe t i p; code = 0 }) (record { pipes = t; code = pipe_refusal t i n })
      → RecordSet t i n p o
  record_is p o e =
      same_or (pipe_refusal t i n) 0
      (λ r.
      let g = unrefused t i n r in
      let o2 : o ≡ record { pipes = with_pipe t i p; code = 0 } = rw (eq-eqb (pipe_refusal t i n) 0 r) at e in
      rw o2 (RecordSet.done (accepted-fits t i n r) refl (only_set t i p h (omega (arith, g.few, g.there)))))
      (λ d. RecordSet.refused (pipe_refusal t i n) (refused-least t i n d) (rw (ne_eqb (pipe_refusal t i n) 0 d) at e))

  pub pipe-reset-is : PipeResetOf t i n (pipe_reset t i n)
  unfolding pipe_reset
  pipe-reset-is = record_is (record { positions = record { read = 0; write = 0; count = 0 }; reset = 1 }) (pipe_reset t i n) refl

  pub pipe-resume-is : PipeResumeOf t i n (pipe_resumed t i n)
  unfolding pipe_resumed
  pipe-resume-is = record_is (record { positions = (pipe_at t i).positions; reset = 0 }) (pipe_resumed t i n) refl

opened_one : (m n : Opened) → m.pipes ≡ n.pipes → m.code ≡ n.code → m ≡ n
opened_one m n p c =
    let parts : ◌≡◌ {A = Opened} (record { pipes = m.pipes; code = m.code }) (record { pipes = n.pipes; code = n.code }) = rw (p, c) in parts

pub record-set-one : {t : Pipes} {i n : ℕ} {p : Pipe} {o q : Opened} → RecordSet t i n p o → RecordSet t i n p q → o ≡ q
record-set-one {t} {i} {n} (RecordSet.refused m a e) (RecordSet.refused k b f) =
    e ∙ ap (λ (y : ℕ). record { pipes = t; code = y }) (least-one (PipeUnfit t i n) m k a b) ∙ sym f
record-set-one (RecordSet.refused m a e) (RecordSet.done b c f) = absurd (b m a.unfit)
record-set-one (RecordSet.done b c f) (RecordSet.refused m a e) = absurd (b m a.unfit)
record-set-one {o = o} {q = q} (RecordSet.done b c f) (RecordSet.done a d g) = opened_one o q (only_one f g) (c ∙ sym d)

pub pipes-fresh-is : (t : Pipes) (number : ℕ) → PipesFreshOf t number (pipes_fresh t number)
unfolding pipes_fresh
pipes-fresh-is t number =
    in-or-out 4 number
    (λ l. let no = lt-leb number 4 l in PipesFreshOf.refused l (rw no))
    (λ l.
    rw (le-leb number 4 l)
    (PipesFreshOf.made l refl refl refl all-empty))
  where
    all-empty : (i : ℕ) → get_or (no_pipe ∷ no_pipe ∷ no_pipe ∷ no_pipe ∷ []) i no_pipe ≡ no_pipe
    all-empty zero = refl
    all-empty (suc zero) = refl
    all-empty (suc (suc zero)) = refl
    all-empty (suc (suc (suc zero))) = refl
    all-empty (suc (suc (suc (suc i)))) = refl

pub pipes-fresh-one : {t : Pipes} {number : ℕ} {o q : Opened} → PipesFreshOf t number o → PipesFreshOf t number q → o ≡ q
pipes-fresh-one (PipesFreshOf.refused l e) (PipesFreshOf.refused k f) = e ∙ sym f
pipes-fresh-one (PipesFreshOf.refused l e) (PipesFreshOf.made k a b c d) = absurd (omega arith)
pipes-fresh-one (PipesFreshOf.made k a b c d) (PipesFreshOf.refused l e) = absurd (omega arith)
pipes-fresh-one {o = o} {q = q} (PipesFreshOf.made k a b c d) (PipesFreshOf.made l e f g h) =
    opened_one o q (pipes-one o.pipes q.pipes c g (b ∙ sym f) (λ j. d j ∙ sym (h j))) (a ∙ sym e)
