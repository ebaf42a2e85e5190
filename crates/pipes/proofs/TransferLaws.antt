-- What is known of a pipe where a transfer goes ahead, and that the code's way is then the meaning's.
use Prim.Native.Nat.{ℕ, min, ◌-◌, ◌≤◌, ◌<◌}
use native.Mathlib.Omega.{arith}
use mathlib.Core.Path.{◌≡◌, refl, sym, ◌∙◌}
use mathlib.Core.Logic.{◌≢◌}
use mathlib.Core.Bool.{true, false}
use mathlib.Core.List.{List}
use lib.Dec.{eqb, leb, ltb}
use lib.ListN.{length}
use borrow.Author.Tests.{ltb-true, leb-true, ne_eqb, lt-ltb, le-ltb}
use Rattle.kernel.proofs.Cases.{split, in-or-out, both-means}
use Rattle.std.proofs.Common.{Ok, Err}
use Rattle.kernel.specs.declared.refusals.Refusal.{Refusal}
use Rattle.kernel.specs.Numbers.{was_reset}
use Rattle.kernel.specs.Told.{number}
use Rattle.kernel.proofs.ToldLaws.{number-some}
use Rattle.library.specs.Ring.{positions_fit}
use Rattle.library.proofs.RingLaws.{Fitting, fit-means}
use Rattle.pipes.specs.declared.table.Pipe.{Pipe}
use Rattle.pipes.specs.declared.table.Pipes.{Pipes}
use Rattle.pipes.specs.Told.{Moved, told_moved}
use Rattle.pipes.specs.Table.{pipe_at}
use Rattle.pipes.specs.Carrying.{carried, carried_between}
use Rattle.pipes.specs.Judging.{is_there, length_fits, pipe_refusal}
use Rattle.pipes.specs.Transfer.{goes_ahead, stopped, gone_on, filled, drained, write_answer, buffer_written, read_answer, target_read}
use Rattle.pipes.proofs.CarryingLaws.{least-min, smaller-min}

-- a call that nothing refuses
pub record Unrefused (t : Pipes) (i n : ℕ) : Type 0 where
  pub few : t.number ≤ 4
  pub there : i < t.number
  pub some : 1 ≤ n
  pub long : n ≤ 256
  pub fits : Fitting (pipe_at t i).positions n

pub unrefused : (t : Pipes) (i n : ℕ) → pipe_refusal t i n ≡ 0 → Unrefused t i n
unfolding pipe_refusal
unrefused t i n e =
    split (is_there t i)
    (λ x.
    split (length_fits n)
    (λ y.
    split (positions_fit (pipe_at t i).positions n)
    (λ z.
    let a = both-means (leb t.number 4) (ltb i t.number) x in
    let b = both-means (leb 1 n) (leb n 256) y in
    record {
      few = leb-true t.number 4 a.0;
      there = ltb-true i t.number a.1;
      some = leb-true 1 n b.0;
      long = leb-true n 256 b.1;
      fits = fit-means (pipe_at t i).positions n z;
    })
    (λ z. absurd (omega (arith, rw (x, y, z) at e))))
    (λ y. absurd (omega (arith, rw (x, y) at e))))
    (λ x. absurd (omega (arith, rw x at e)))

-- bytes of a slice that has them are carried, though the slice may be empty
pub carried-out : (k : ℕ) (s d : List ℕ) (p : ℕ) → k ≤ length s → p < length d → carried_between k s 0 d p ≡ carried k s 0 d p
unfolding carried
carried-out k s d p h l =
    in-or-out 0 (length s) (λ w. rw (lt-ltb p (length d) l, lt-ltb 0 (length s) w))
    (λ w. let none : k ≡ 0 = omega arith in rw (lt-ltb p (length d) l, le-ltb 0 (length s) w, none))

pub carried-in : (k : ℕ) (s d : List ℕ) (q : ℕ) → k ≤ length d → q < length s → carried_between k s q d 0 ≡ carried k s q d 0
unfolding carried
carried-in k s d q h l =
    in-or-out 0 (length d) (λ w. rw (lt-ltb q (length s) l, lt-ltb 0 (length d) w))
    (λ w. let none : k ≡ 0 = omega arith in rw (lt-ltb q (length s) l, le-ltb 0 (length d) w, none))

-- ---- in the form in which code meets them

-- a refusal stops a transfer, and so does the reset state
module _ (t : Pipes) (i n : ℕ) where
  pub refused : (why : Refusal) → number why ≡ pipe_refusal t i n → (goes_ahead t i n ≡ false) × (told_moved t (Err why) ≡ stopped t i n)
  unfolding goes_ahead stopped
  refused why e =
      let no : eqb (number why) 0 ≡ false = ne_eqb (number why) 0 (λ z. omega (arith, number-some why, z)) in
      rw (← e, no) (refl, refl)

  module _ (p : Pipe) (e : 0 ≡ pipe_refusal t i n) (ep : p ≡ pipe_at t i) where
    pub in-reset : p.reset ≢ 0 → (goes_ahead t i n ≡ false) × (told_moved t (Ok (record { pipes = t; moved = was_reset })) ≡ stopped t i n)
    unfolding goes_ahead stopped
    in-reset h = rw (← e, ← ep, ne_eqb p.reset 0 h) (refl, refl)

    pub ahead : p.reset ≡ 0 → goes_ahead t i n ≡ true
    unfolding goes_ahead
    ahead h = rw (← e, ← ep, h) refl

    pub at-work : Fitting p.positions n × (1 ≤ n) × (n ≤ 256)
    at-work = let g = unrefused t i n (sym e) in rw ep (g.fits, g.some, g.long)

-- what is stopped leaves what it would write to as it was
module _ (t : Pipes) (i : ℕ) (b l : List ℕ) (h : goes_ahead t i (length b) ≡ false) (m : Moved) (e : m ≡ stopped t i (length b)) where
  pub write-stops : (m ≡ write_answer t i (length b) (length l)) × (b ≡ buffer_written t i b l)
  unfolding write_answer buffer_written
  write-stops = rw h (e, refl)

  pub read-stops : (m ≡ read_answer t i (length b) (length l)) × (l ≡ target_read t i b l)
  unfolding read_answer target_read
  read-stops = rw h (e, refl)

-- one that goes ahead, with k bytes, leaves e of what it writes to
module _ (t : Pipes) (i : ℕ) (b l : List ℕ) (p : Pipe) (e0 : 0 ≡ pipe_refusal t i (length b)) (ep : p ≡ pipe_at t i) (r : p.reset ≡ 0) (k : ℕ) (e : List ℕ) (m : Moved) where
  pub write_goes : k ≡ min (length l) (length b - p.positions.count) → e ≡ carried_between k l 0 b p.positions.write
      → m ≡ gone_on t i (filled p.positions (length b) k) k → (m ≡ write_answer t i (length b) (length l)) × (e ≡ buffer_written t i b l)
  unfolding write_answer buffer_written
  write_goes ek ee em =
      let few = (least-min (length l) (length b - p.positions.count) k ek).first in
      let bytes = ee ∙ carried-out k l b p.positions.write few (at-work t i (length b) p e0 ep).0.write in
      let es = ek ∙ smaller-min (length l) (length b - p.positions.count) in
      rw (ahead t i (length b) p e0 ep r) (em ∙ rw (es, ep), bytes ∙ rw (es, ep))

  pub read_goes : k ≡ min (length l) p.positions.count → e ≡ carried_between k b p.positions.read l 0
      → m ≡ gone_on t i (drained p.positions (length b) k) k → (m ≡ read_answer t i (length b) (length l)) × (e ≡ target_read t i b l)
  unfolding read_answer target_read
  read_goes ek ee em =
      let few = (least-min (length l) p.positions.count k ek).first in
      let bytes = ee ∙ carried-in k b l p.positions.read few (at-work t i (length b) p e0 ep).0.read in
      let es = ek ∙ smaller-min (length l) p.positions.count in
      rw (ahead t i (length b) p e0 ep r) (em ∙ rw (es, ep), bytes ∙ rw (es, ep))
