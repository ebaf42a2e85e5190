-- What passes a thread by that was ready before the step: ticks, and flags that come. Its record stays as it is, but for the flags.
use Rattle.std.specs.Prelude.{ℕ, zero, suc, ◌≡◌, refl, ◌≢◌, true, false}
use Rattle.std.proofs.Common.{arith, sym, ap, ◌∙◌, subst, eq-eqb, ne_eqb}
use Rattle.std.specs.Int.Bits.{bit_or}
use Rattle.kernel.specs.declared.records.Thread.{Thread}
use Rattle.kernel.proofs.Cases.{same_or}
use Rattle.library.specs.declared.calls.Step.{Step}
use Rattle.library.specs.declared.tables.Tables.{Tables}
use Rattle.promises.specs.Paper.World.{World, found}
use Rattle.promises.specs.Paper.Rows.{TickOf, Ticks, pending_to, flagged, EventSignal}
use Rattle.promises.specs.Paper.Waking.{row_of, heard, ready_on}
use Rattle.promises.specs.Runs.Keeping.{put_same, put_other}

module _ (t : Tables) (s : Step) (i : ℕ) (was-ready : (row_of t i).state ≡ 0) (no-ticks : (row_of t i).remaining ≡ 0) where
  abbrev b : Thread
  b = row_of t i

  -- as it was
  pub record Passed (w : World) : Type 0 where
    pub row : w.thread i ≡ ready_on s i b
    pub woken : w.woken i ≡ false
    pub finished : w.finished i ≡ false

  -- no flags have come for it
  unheard : heard s i b ≡ b.pending → b ≡ ready_on s i b
  unheard e =
      λ x. record {
        state = b.state;
        place = b.place;
        remaining = b.remaining;
        pending = sym e x;
        awaited = b.awaited;
        message = b.message;
        call = b.call;
        answer = b.answer;
        cause = b.cause;
        step = b.step;
      }

  pub found_passed : s.kind ≢ 13 → Passed (found t)
  found_passed n = record { row = unheard (rw (ne_eqb s.kind 13 n)); woken = refl; finished = refl }

  tick-passes : (w x : World) (j : ℕ) → TickOf w j x → Passed w → Passed x
  tick-passes w x j (TickOf.no-ticks z e) h = rw e h
  tick-passes w x j (TickOf.falls l e) h =
      let n : i ≢ j = λ y. absurd (omega (arith, l, rw y at (ap (λ (r : Thread). r.remaining) h.row ∙ no-ticks))) in
      subst Passed (sym e) (record { row = put_other w.thread j i _ n ∙ h.row; woken = h.woken; finished = h.finished })
  tick-passes w x j (TickOf.last l e) h =
      let n : i ≢ j = λ y. absurd (omega (arith, l, rw y at (ap (λ (r : Thread). r.remaining) h.row ∙ no-ticks))) in
      subst Passed (sym e)
      (record { row = put_other w.thread j i _ n ∙ h.row; woken = put_other w.woken j i true n ∙ h.woken; finished = h.finished })

  ticks-from : (n : ℕ) (x : World) → Passed (found t) → Ticks (found t) n x → Passed x
  ticks-from zero x p e = rw e p
  ticks-from (suc n) x p h = tick-passes h.0 x n h.2 (ticks-from n h.0 p h.1)

  pub ticks-passed : (v : World) → s.kind ≡ 1 → Ticks (found t) t.sizes.threads v → Passed v
  ticks-passed v k h = ticks-from t.sizes.threads v (found_passed (λ e. omega (arith, k, e))) h

  module _ (kind : s.kind ≡ 13) where
    events-own : (x : World) → s.object ≡ i → EventSignal (found t) i s.a x → Passed x
    events-own x o (EventSignal.comes g h e) = absurd (omega (arith, g, was-ready))
    events-own x o (EventSignal.only-flagged g e) =
        let come : bit_or b.pending s.a ≡ heard s i b = rw (kind, o, eq-eqb i i refl) in
        subst Passed (sym e)
        (record { row = put_same (found t).thread i _ ∙ ap (pending_to b) come; woken = refl; finished = refl })

    events-other : (x : World) (j : ℕ) → i ≢ j → heard s i b ≡ b.pending → EventSignal (found t) j s.a x → Passed x
    events-other x j n g (EventSignal.comes y h e) =
        let v = flagged (found t) j s.a in
        subst Passed (sym e)
        (record {
          row = put_other v.thread j i _ n ∙ put_other (found t).thread j i _ n ∙ unheard g;
          woken = put_other (found t).woken j i true n;
          finished = refl;
        })
    events-other x j n g (EventSignal.only-flagged h e) =
        subst Passed (sym e) (record { row = put_other (found t).thread j i _ n ∙ unheard g; woken = refl; finished = refl })

    pub events-passed : (x : World) → EventSignal (found t) s.object s.a x → Passed x
    events-passed x h =
        same_or s.object i (λ e. events-own x e (subst (λ (j : ℕ). EventSignal (found t) j s.a x) e h))
        (λ d. events-other x s.object (λ e. d (sym e)) (rw (kind, ne_eqb s.object i d)) h)
