-- What one accepted step makes of a thread that slept before it: its record is touched only in the ways that `SleeperAfter` names.
use Rattle.std.specs.Prelude.{ℕ, zero, suc, ◌-◌, ◌≤◌, ◌<◌, ◌≡◌, refl, ◌≢◌, ◌⊎◌, Bool, true, false, cond, eqb, ℤ, pos, negsuc}
use Rattle.std.proofs.Common.{arith, sym, ap, ◌∙◌, subst, inl, inr, eq-eqb, ne_eqb}
use Rattle.std.specs.Int.Bits.{bit_or}
use Rattle.kernel.specs.declared.records.Call.{Call}
use Rattle.kernel.specs.declared.records.Thread.{Thread}
use Rattle.kernel.proofs.Cases.{same_or, contrary}
use Rattle.library.specs.declared.calls.Step.{Step}
use Rattle.library.specs.declared.tables.Tables.{Tables}
use Rattle.promises.specs.Paper.World.{World, found, ready_with, call_ended}
use Rattle.promises.specs.Paper.Rows.{TickOf, Ticks, flagged, EventSignal}
use Rattle.promises.specs.Paper.Settling.{IsOther}
use Rattle.promises.specs.Paper.Waking.{
  row_of,
  IsPost,
  IsMailing,
  Served,
  CalledOut,
  LastTick,
  WokenBy,
  heard,
  slept_on,
  AnswerOf,
  woken_row,
  SleeperAfter,
  SideOf,
}
use Rattle.promises.specs.Runs.Keeping.{put_same, put_other, Ends, Keeps}
use Rattle.promises.specs.Runs.OneRow.{flags_taken, not-mail, Stands, Steady, row_stays, ready-stays, RowOn, row_keeps}

-- a thread without a call has no event wait
pub no-event : {n : ℕ} → n ≡ 0 → n ≢ 14
no-event e x = omega arith

-- the answer of a continued call that takes no flags: r is the woken record, with the call of a
pub ends-answer : (a r : Thread) → r.call ≡ a.call → (f : ℕ) {x : ℤ} {d : ℕ} → Ends r x d → AnswerOf a f r.message x d f
ends-answer a r c f (Ends.message (inl h)) = AnswerOf.message (inl (subst (λ (k : Call). IsOther k.kind) c h))
ends-answer a r c f (Ends.message (inr h)) = AnswerOf.message (inr h)
ends-answer a r c f (Ends.object e z o h) = AnswerOf.object (sym (ap (λ (k : Call). k.kind) c) ∙ e) z o h
ends-answer a r c f (Ends.in-reset e z) = AnswerOf.in-reset (subst (λ (k : Call). IsMailing k.kind) c e) z
ends-answer a r c f (Ends.posted e z) = AnswerOf.posted (subst (λ (k : Call). IsPost k.kind) c e) z
ends-answer a r c f (Ends.fetched e z x) = AnswerOf.fetched (sym (ap (λ (k : Call). k.kind) c) ∙ e) z x

-- in the step of its last tick a thread is woken by that tick alone
pub last-by : {t : Tables} {s : Step} {i : ℕ} {a : Thread} {m : ℤ} {c : ℕ} → LastTick s a → WokenBy t s i a m c → (m ≡ negsuc 0) × (c ≡ 8)
last-by v (WokenBy.last-tick k r) = (refl, refl)
last-by v (WokenBy.events k o st f) = absurd (omega (arith, k, v.0))
last-by v (WokenBy.call u b) = absurd (u v)

-- whoever is called out is queued or suspended
pub called-state : {t : Tables} {s : Step} {st pl : ℕ} {m : ℤ} {c : ℕ} → CalledOut t s st pl m c → (st ≡ 2) ⊎ (st ≡ 3)
called-state (CalledOut.signal a b c) = inr b
called-state (CalledOut.reset a b c) = inr b
called-state (CalledOut.release a b c) = inr b
called-state (CalledOut.resume a b c) = inl b
called-state (CalledOut.served (Served.post b z a c d)) = inr c
called-state (CalledOut.served (Served.fetch b z a c d)) = inr c
called-state (CalledOut.box-reset a b c) = inr b
called-state (CalledOut.object a b c) = inr b

-- a call of another kind has no side
pub not-side : {c : Call} {k : ℕ} → c.kind ≡ k → k ≢ 15 → k ≢ 16 → k ≢ 17 → {q : ℕ} → SideOf c q → ⊥
not-side e x y z (SideOf.writers h) = not-mail e x y z (inl h)
not-side e x y z (SideOf.readers h) = not-mail e x y z (inr h)

module _ (t : Tables) (s : Step) (i : ℕ) (someone : i ≢ 255) (within : i < t.sizes.threads) (before : (row_of t i).state ≢ 0) (apart : i ≢ s.caller) where
  abbrev a : Thread
  a = row_of t i

  -- how thread i stands in a world
  abbrev pub Life : World → Type 0
  Life = Stands t s i someone (SleeperAfter t s i)

  -- the number of the step
  abbrev num : ℕ
  num = (found t).step

  -- a record that is ready is one that was woken
  not_on : {r : Thread} → r ≡ slept_on s i a → r.state ≢ 0
  not_on e z = before (sym (ap (λ (u : Thread). u.state) e) ∙ z)

  module _ {r : Thread} {w f : Bool} where
    -- it is called out, where it has slept until now: so its last tick has not come
    rouse : (m : ℤ) (o : ℕ) → r.state ≢ 0 → CalledOut t s r.state r.place m o → SleeperAfter t s i r w f → SleeperAfter t s i (ready_with r m o num) true f
    rouse m o n c (SleeperAfter.on u e p q) =
        SleeperAfter.ready m o (WokenBy.call u (subst (λ (v : Thread). CalledOut t s v.state v.place m o) e c))
        (ap (λ (v : Thread). ready_with v m o num) e) refl q
    rouse m o n c (SleeperAfter.ready x y b e p q) = absurd (n (ap (λ (u : Thread). u.state) e))
    rouse m o n c (SleeperAfter.done x y v d f b g e p q) = absurd (n (ap (λ (u : Thread). u.state) e))

    -- ---- its call is continued

    ends-own : (x : ℤ) (d : ℕ) → r.state ≡ 0 → r.call.kind ≢ 0 → Ends r x d → SleeperAfter t s i r w f
        → SleeperAfter t s i (call_ended r x d) w true
    ends-own x d z n h (SleeperAfter.on u e p q) = absurd (not_on e z)
    ends-own x d z n h (SleeperAfter.ready m o b e p q) =
        SleeperAfter.done m x o d (heard s i a) b
        (ends-answer a (woken_row s i a m o num a.answer) refl (heard s i a) (subst (λ (u : Thread). Ends u x d) e h))
        (ap (λ (u : Thread). call_ended u x d) e) p refl
    ends-own x d z n h (SleeperAfter.done m y o c f b g e p q) = absurd (n (ap (λ (u : Thread). u.call.kind) e))

    -- its event wait "clears and answers all pending flags in its mask"
    takes-own : r.state ≡ 0 → r.call.kind ≡ 14 → r.message ≡ pos 0 → SleeperAfter t s i r w f
        → SleeperAfter t s i (flags_taken r r.call.operand) w true
    takes-own z k h (SleeperAfter.on u e p q) = absurd (not_on e z)
    takes-own z k h (SleeperAfter.ready m o b e p q) =
        SleeperAfter.done m (pos 0) o _ _ b
        (AnswerOf.events (sym (ap (λ (u : Thread). u.call.kind) e) ∙ k) (sym (ap (λ (u : Thread). u.message) e) ∙ h))
        (ap (λ (u : Thread). flags_taken u u.call.operand) e) p refl
    takes-own z k h (SleeperAfter.done m y o c f b g e p q) = absurd (no-event (ap (λ (u : Thread). u.call.kind) e) k)

    -- it is not tried again, for it was woken in this step
    not-tried : r.state ≡ 0 → w ≡ false → SleeperAfter t s i r w f → ⊥
    not-tried z u (SleeperAfter.on l e p o) = not_on e z
    not-tried z u (SleeperAfter.ready m k b e p o) = contrary p u
    not-tried z u (SleeperAfter.done m y k c f b x e p o) = contrary p u

  life-on : RowOn t s i someone (SleeperAfter t s i)
  life-on =
      record {
        wakes = λ m o n c l. rouse m o n (CalledOut.served c) l;
        ends_on = ends-own;
        takes-on = takes-own;
        sleeps-on = λ q z g m side u l. absurd (not-tried z u l);
      }

  -- ---- a tick, and flags that come

  -- not touched yet
  record Untouched (w : World) : Type 0 where
    row : w.thread i ≡ a
    woken : w.woken i ≡ false
    finished : w.finished i ≡ false
    step : w.step ≡ num

  found-untouched : Untouched (found t)
  found-untouched = record { row = refl; woken = refl; finished = refl; step = refl }

  -- a sleep that nothing shortens and no flags come to
  on-as : s.kind ≢ 1 → heard s i a ≡ a.pending → a ≡ slept_on s i a
  on-as n h =
      λ x. record {
        state = a.state;
        place = a.place;
        remaining = level x;
        pending = sym h x;
        awaited = a.awaited;
        message = a.message;
        call = a.call;
        answer = a.answer;
        cause = a.cause;
        step = a.step;
      }
    where
      level : a.remaining ≡ cond (eqb s.kind 1) (a.remaining - 1) a.remaining
      level = rw (ne_eqb s.kind 1 n)

  heard-none : s.kind ≢ 13 → heard s i a ≡ a.pending
  heard-none n = rw (ne_eqb s.kind 13 n)

  begins : s.kind ≢ 1 → s.kind ≢ 13 → Life (found t)
  begins n m = SleeperAfter.on (λ x. n x.0) (on-as n (heard-none m)) refl refl

  module _ (kind : s.kind ≡ 1) where
    unheard : heard s i a ≡ a.pending
    unheard = heard-none (λ e. omega (arith, kind, e))

    -- a tick shorter
    shorter : (n : ℕ) → n ≡ a.remaining - 1 → n ≡ (slept_on s i a).remaining
    shorter n e = e ∙ rw kind

    tick-own : (w x : World) → Untouched w → TickOf w i x → Life x
    tick-own w x u (TickOf.no-ticks z e) =
        let none : a.remaining ≡ 0 = sym (ap (λ (v : Thread). v.remaining) u.row) ∙ z in
        rw e
        (SleeperAfter.on (λ v. omega (arith, none, v.1)) (u.row ∙ (λ y. record {
          state = a.state;
          place = a.place;
          remaining = shorter a.remaining (omega (arith, none)) y;
          pending = sym unheard y;
          awaited = a.awaited;
          message = a.message;
          call = a.call;
          answer = a.answer;
          cause = a.cause;
          step = a.step;
        })) u.woken u.finished)
    tick-own w x u (TickOf.falls z e) =
        rw e
        (SleeperAfter.on (λ v. omega (arith, more, v.1)) (put_same w.thread i _ ∙ (λ y. record {
          state = (u.row y).state;
          place = (u.row y).place;
          remaining = less y;
          pending = (ap (λ (v : Thread). v.pending) u.row ∙ sym unheard) y;
          awaited = (u.row y).awaited;
          message = (u.row y).message;
          call = (u.row y).call;
          answer = (u.row y).answer;
          cause = (u.row y).cause;
          step = (u.row y).step;
        })) u.woken u.finished)
      where
        more : 1 < a.remaining
        more = rw (← ap (λ (v : Thread). v.remaining) u.row) z

        less : (w.thread i).remaining - 1 ≡ (slept_on s i a).remaining
        less = shorter ((w.thread i).remaining - 1) (ap (λ (v : Thread). v.remaining - 1) u.row)
    tick-own w x u (TickOf.last z e) =
        let last : a.remaining ≡ 1 = sym (ap (λ (v : Thread). v.remaining) u.row) ∙ z in
        rw e
        (SleeperAfter.ready (negsuc 0) 8 (WokenBy.last-tick kind last)
        (put_same w.thread i _ ∙ (λ y. record {
          state = 0;
          place = 0;
          remaining = 0;
          pending = (ap (λ (v : Thread). v.pending) u.row ∙ sym unheard) y;
          awaited = (u.row y).awaited;
          message = negsuc 0;
          call = (u.row y).call;
          answer = (u.row y).answer;
          cause = 8;
          step = u.step y;
        })) (put_same w.woken i true) u.finished)

    -- another thread's tick
    tick-untouched : (w x : World) (j : ℕ) → i ≢ j → TickOf w j x → Untouched w → Untouched x
    tick-untouched w x j n (TickOf.no-ticks z e) u = rw e u
    tick-untouched w x j n (TickOf.falls z e) u =
        rw e (record { row = put_other w.thread j i _ n ∙ u.row; woken = u.woken; finished = u.finished; step = u.step })
    tick-untouched w x j n (TickOf.last z e) u =
        rw e (record { row = put_other w.thread j i _ n ∙ u.row; woken = put_other w.woken j i true n ∙ u.woken; finished = u.finished; step = u.step })

    tick-stays : (w x : World) (j : ℕ) → i ≢ j → TickOf w j x → Life w → Life x
    tick-stays w x j n (TickOf.no-ticks z e) l = rw e l
    tick-stays w x j n (TickOf.falls z e) l =
        subst Life (sym e) (row_stays t s i someone (SleeperAfter t s i) w j n _ l)
    tick-stays w x j n (TickOf.last z e) l = subst Life (sym e) (ready-stays t s i someone (SleeperAfter t s i) w j n (negsuc 0) 8 l)

    -- "in index order": its turn is still to come, or has come
    ticks-life : (n : ℕ) (x : World) → Ticks (found t) n x → (n ≤ i → Untouched x) × (i < n → Life x)
    ticks-life zero x e = (λ l. rw e found-untouched, λ l. absurd (omega arith))
    ticks-life (suc n) x h =
        let rest = ticks-life n h.0 h.1 in (
          λ l. tick-untouched h.0 x n (λ e. omega (arith, l, e)) h.2 (rest.0 (omega arith)),
          λ l. same_or i n (λ e. tick-own h.0 x (rest.0 (omega (arith, e))) (subst (λ (j : ℕ). TickOf h.0 j x) (sym e) h.2))
              (λ d. tick-stays h.0 x n d h.2 (rest.1 (omega arith))),
        )

  -- flags come for it, or for another
  module _ (kind : s.kind ≡ 13) where
    unticked : s.kind ≢ 1
    unticked e = omega (arith, kind, e)

    abbrev f : ℕ
    f = bit_or a.pending s.a

    own-heard : s.object ≡ i → heard s i a ≡ f
    own-heard e = rw (kind, e, eq-eqb i i refl)

    event-own : (x : World) → s.object ≡ i → EventSignal (found t) i s.a x → Life x
    event-own x o (EventSignal.comes g h e) =
        subst Life (sym e)
        (SleeperAfter.ready (pos 0) 4 (WokenBy.events kind o g h)
        (put_same (flagged (found t) i s.a).thread i _ ∙ ap (λ (u : Thread). ready_with u (pos 0) 4 num) (put_same (found t).thread i _)
        ∙ (λ y. record {
          state = 0;
          place = 0;
          remaining = 0;
          pending = sym (own-heard o) y;
          awaited = a.awaited;
          message = pos 0;
          call = a.call;
          answer = a.answer;
          cause = 4;
          step = num;
        })) (put_same (found t).woken i true) refl)
    event-own x o (EventSignal.only-flagged g e) =
        subst Life (sym e)
        (SleeperAfter.on (λ v. unticked v.0) (put_same (found t).thread i _ ∙ (λ y. record {
          state = a.state;
          place = a.place;
          remaining = level y;
          pending = sym (own-heard o) y;
          awaited = a.awaited;
          message = a.message;
          call = a.call;
          answer = a.answer;
          cause = a.cause;
          step = a.step;
        })) refl refl)
      where
        level : a.remaining ≡ cond (eqb s.kind 1) (a.remaining - 1) a.remaining
        level = rw (ne_eqb s.kind 1 unticked)

    other-life : s.object ≢ i → Life (found t)
    other-life n = SleeperAfter.on (λ x. unticked x.0) (on-as unticked (rw (kind, ne_eqb s.object i n))) refl refl

    event-other : (x : World) (j : ℕ) → i ≢ j → EventSignal (found t) j s.a x → Life (found t) → Life x
    event-other x j n (EventSignal.comes g h e) l =
        subst Life (sym e)
        (ready-stays t s i someone (SleeperAfter t s i) (flagged (found t) j s.a) j n (pos 0) 4
        (row_stays t s i someone (SleeperAfter t s i) (found t) j n _ l))
    event-other x j n (EventSignal.only-flagged g e) l = subst Life (sym e) (row_stays t s i someone (SleeperAfter t s i) (found t) j n _ l)

    events : (x : World) → EventSignal (found t) s.object s.a x → Life x
    events x h =
        same_or s.object i (λ e. event-own x e (subst (λ (j : ℕ). EventSignal (found t) j s.a x) e h))
        (λ d. event-other x s.object (λ e. d (sym e)) h (other-life d))

  pub life-keeps : Keeps t s (Steady t s i someone (SleeperAfter t s i))
  life-keeps =
      row_keeps t s i someone (SleeperAfter t s i) life-on
      (record {
        wakes = rouse;
        begins = begins;
        ticks = λ v e h. (ticks-life e t.sizes.threads v h).1 within;
        events = λ v e h. events e v h;
        ends = λ e m d o l. absurd (apart (sym e));
        takes = λ e k n z l. absurd (apart (sym e));
        sleeps = λ e st pl c o k n b l. absurd (apart (sym e));
      })
