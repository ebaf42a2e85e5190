-- One thread's record through the moves of a step. The moves of other threads leave it as it is, with its bits in the result; so whoever
-- shows what each move makes of the record that it is about has a `Keeps`.
use Rattle.std.specs.Prelude.{ℕ, zero, suc, ◌-◌, ◌≡◌, refl, ◌≢◌, Bool, true, false, eqb, ℤ, pos}
use Rattle.std.proofs.Common.{arith, sym, ap, ◌∙◌, subst, inl, inr, eq-eqb, ne_eqb}
use Rattle.std.specs.Int.Bits.{bit_and}
use Rattle.kernel.specs.declared.records.Call.{Call}
use Rattle.kernel.specs.declared.records.Thread.{Thread}
use Rattle.kernel.proofs.Cases.{split, same_or}
use Rattle.library.specs.declared.calls.Step.{Step}
use Rattle.library.specs.declared.tables.Tables.{Tables}
use Rattle.promises.specs.Paper.World.{World, found, put, thread_to, ready_with, made_ready, call_ended, ended, asleep, fall_asleep}
use Rattle.promises.specs.Paper.Rows.{TickOf, Ticks, pending_to, took_flags, EventSignal}
use Rattle.promises.specs.Paper.Waking.{row_of, IsMailing, Served, CalledOut, OwnWait, SideOf}
use Rattle.promises.specs.Runs.Keeping.{put_same, put_other, put-part, Ends, own_flags, OwnEnd, Moves, KeepsOn, KeepsAct, Keeps}

-- a call that ends touches no record but its own
module _ (w : World) (j : ℕ) (m : ℤ) (d : ℕ) where
  pub ended-other : (i : ℕ) → i ≢ j → (ended w j m d).thread i ≡ w.thread i
  ended-other i n = split (eqb j 255) (λ e. rw e) (λ e. rw (e, ne_eqb i j n))

  pub ended-unfinished : (i : ℕ) → i ≢ j → (ended w j m d).finished i ≡ w.finished i
  ended-unfinished i n = split (eqb j 255) (λ e. rw e) (λ e. rw (e, ne_eqb i j n))

  pub ended-own : j ≢ 255 → (ended w j m d).thread j ≡ call_ended (w.thread j) m d
  ended-own n = rw (ne_eqb j 255 n, eq-eqb j j refl)

  pub ended-finished : j ≢ 255 → (ended w j m d).finished j ≡ true
  ended-finished n = rw (ne_eqb j 255 n, eq-eqb j j refl)

  -- nor a state
  pub ended-state : (i : ℕ) → ((ended w j m d).thread i).state ≡ (w.thread i).state
  ended-state i = split (eqb j 255) (λ e. rw e) (λ e. rw e (put-part (λ (v : Thread). v.state) w.thread j (call_ended (w.thread j) m d) refl i))

  -- whatever holds of its own record then, and held of this one, holds of it
  pub ended-row : (P : Thread → Type 0) (i : ℕ) → P (call_ended (w.thread j) m d) → P (w.thread i) → P ((ended w j m d).thread i)
  ended-row P i own was =
      split (eqb j 255) (λ e. rw e was)
      (λ e. rw e
      (same_or i j (λ z. subst (λ (k : ℕ). P (put w.thread j (call_ended (w.thread j) m d) k)) (sym z) (subst P (sym (put_same w.thread j _)) own))
      (λ n. subst P (sym (put_other w.thread j i _ n)) was)))

-- a record whose pending flags in a mask were taken
abbrev pub flags_taken : Thread → ℕ → Thread
flags_taken r a = call_ended (pending_to r (r.pending - bit_and r.pending a)) (pos 0) (bit_and r.pending a)

-- nor do flags that are taken
module _ (w : World) (j a : ℕ) where
  abbrev f : ℕ
  f = (w.thread j).pending

  abbrev u : Thread
  u = pending_to (w.thread j) (f - bit_and f a)

  pub took-other : (i : ℕ) → i ≢ j → (took_flags w j a).thread i ≡ w.thread i
  took-other i n = ended-other (thread_to w j u) j (pos 0) (bit_and f a) i n ∙ put_other w.thread j i u n

  pub took-unfinished : (i : ℕ) → i ≢ j → (took_flags w j a).finished i ≡ w.finished i
  took-unfinished i n = ended-unfinished (thread_to w j u) j (pos 0) (bit_and f a) i n

  pub took-own : j ≢ 255 → (took_flags w j a).thread j ≡ flags_taken (w.thread j) a
  took-own n =
      ended-own (thread_to w j u) j (pos 0) (bit_and f a) n ∙ ap (λ (r : Thread). call_ended r (pos 0) (bit_and f a)) (put_same w.thread j u)

  pub took-finished : j ≢ 255 → (took_flags w j a).finished j ≡ true
  took-finished n = ended-finished (thread_to w j u) j (pos 0) (bit_and f a) n

-- a mailbox call is no event wait
pub mail-other : {n : ℕ} → IsMailing n → (n ≢ 14) × (n ≢ 0)
mail-other (inl (inl e)) = (λ x. omega arith, λ x. omega arith)
mail-other (inl (inr e)) = (λ x. omega arith, λ x. omega arith)
mail-other (inr e) = (λ x. omega arith, λ x. omega arith)

-- nor of any other kind
pub not-mail : {n k : ℕ} → n ≡ k → k ≢ 15 → k ≢ 16 → k ≢ 17 → IsMailing n → ⊥
not-mail e x y z (inl (inl h)) = x (sym e ∙ h)
not-mail e x y z (inl (inr h)) = y (sym e ∙ h)
not-mail e x y z (inr h) = z (sym e ∙ h)

-- a tick and an event signal leave the step's number
tick-step : {w x : World} {i : ℕ} → TickOf w i x → x.step ≡ w.step
tick-step (TickOf.no-ticks a e) = ap (λ (v : World). v.step) e
tick-step (TickOf.falls a e) = ap (λ (v : World). v.step) e
tick-step (TickOf.last a e) = ap (λ (v : World). v.step) e

ticks-step : (w : World) (n : ℕ) (x : World) → Ticks w n x → x.step ≡ w.step
ticks-step w zero x e = ap (λ (v : World). v.step) e
ticks-step w (suc n) x h = tick-step h.2 ∙ ticks-step w n h.0 h.1

event-step : {w : World} {i a : ℕ} (x : World) → EventSignal w i a x → x.step ≡ w.step
event-step x (EventSignal.comes g h e) = ap (λ (v : World). v.step) e
event-step x (EventSignal.only-flagged g e) = ap (λ (v : World). v.step) e

-- P of thread i's record, of whether it was woken, and of whether its call finished
module _ (t : Tables) (s : Step) (i : ℕ) (someone : i ≢ 255) (P : Thread → Bool → Bool → Type 0) where
  abbrev pub Stands : World → Type 0
  Stands w = P (w.thread i) (w.woken i) (w.finished i)

  -- ---- another's moves

  pub same_row : (w x : World) → x.thread i ≡ w.thread i → x.woken i ≡ w.woken i → x.finished i ≡ w.finished i → Stands w → Stands x
  same_row w x a b c h = rw (a, b, c) h

  module _ (w : World) (j : ℕ) (apart : i ≢ j) where
    pub row_stays : (u : Thread) → Stands w → Stands (thread_to w j u)
    row_stays u = same_row w (thread_to w j u) (put_other w.thread j i u apart) refl refl

    pub ready-stays : (m : ℤ) (b : ℕ) → Stands w → Stands (made_ready w j m b)
    ready-stays m b =
        same_row w (made_ready w j m b) (put_other w.thread j i (ready_with (w.thread j) m b w.step) apart)
        (put_other w.woken j i true apart) refl

    ended-stays : (m : ℤ) (d : ℕ) → Stands w → Stands (ended w j m d)
    ended-stays m d = same_row w (ended w j m d) (ended-other w j m d i apart) refl (ended-unfinished w j m d i apart)

    took-stays : (a : ℕ) → Stands w → Stands (took_flags w j a)
    took-stays a = same_row w (took_flags w j a) (took-other w j a i apart) refl (took-unfinished w j a i apart)

    sleep-stays : (st pl : ℕ) (c : Call) → Stands w → Stands (fall_asleep w j st pl c)
    sleep-stays st pl c = same_row w (fall_asleep w j st pl c) (put_other w.thread j i (asleep (w.thread j) st pl c) apart) refl refl

  -- ---- its own

  -- what each move of a continued call keeps of a record r
  pub record RowOn : Type 0 where
    pub wakes : {r : Thread} {w f : Bool} (m : ℤ) (c : ℕ) → r.state ≢ 0 → Served t s r.state r.place m c → P r w f
        → P (ready_with r m c (found t).step) true f
    pub ends_on : {r : Thread} {w f : Bool} (m : ℤ) (d : ℕ) → r.state ≡ 0 → r.call.kind ≢ 0 → Ends r m d → P r w f
        → P (call_ended r m d) w true
    pub takes-on : {r : Thread} {w f : Bool} → r.state ≡ 0 → r.call.kind ≡ 14 → r.message ≡ pos 0 → P r w f
        → P (flags_taken r r.call.operand) w true
    pub sleeps-on : {r : Thread} {w f : Bool} (q : ℕ) → r.state ≡ 0 → IsMailing r.call.kind → r.message ≡ pos 0 → SideOf r.call q
        → w ≡ false → P r w f → P (asleep r 3 q r.call) w f

  -- and of the step's own act; three of them if it is the caller
  pub record RowAct : Type 0 where
    pub wakes : {r : Thread} {w f : Bool} (m : ℤ) (c : ℕ) → r.state ≢ 0 → CalledOut t s r.state r.place m c → P r w f
        → P (ready_with r m c (found t).step) true f
    pub begins : s.kind ≢ 1 → s.kind ≢ 13 → Stands (found t)
    pub ticks : (v : World) → s.kind ≡ 1 → Ticks (found t) t.sizes.threads v → Stands v
    pub events : (v : World) → s.kind ≡ 13 → EventSignal (found t) s.object s.a v → Stands v
    pub ends : {r : Thread} {w f : Bool} → s.caller ≡ i → (m : ℤ) (d : ℕ) → OwnEnd t s m d → P r w f → P (call_ended r m d) w true
    pub takes : {w f : Bool} → s.caller ≡ i → s.kind ≡ 14 → own_flags t s ≢ 0 → f ≡ false → P (row_of t i) w f → P (flags_taken (row_of t i) s.a) w true
    pub sleeps : {r : Thread} {w f : Bool} → s.caller ≡ i → (st pl : ℕ) (c : Call) → OwnWait s st pl → c.kind ≡ s.kind
        → (s.kind ≡ 14 → own_flags t s ≡ 0) → (IsMailing c.kind → c.object ≡ s.object) → P r w f → P (asleep r st pl c) w f

  -- it does so through the step, whose number stays
  abbrev pub Steady : World → Type 0
  Steady w = (w.step ≡ (found t).step) × Stands w

  module _ (C : ℕ → ℕ → ℤ → ℕ → Type 0)
      (wakes : (r : Thread) (w f : Bool) (m : ℤ) (c : ℕ) → r.state ≢ 0 → C r.state r.place m c → P r w f → P (ready_with r m c (found t).step) true f) where
    own-ready : (w : World) (m : ℤ) (b : ℕ) → (w.thread i).state ≢ 0 → C (w.thread i).state (w.thread i).place m b → Steady w
        → Stands (made_ready w i m b)
    own-ready w m b n c h =
        rw (put_same w.thread i (ready_with (w.thread i) m b w.step), put_same w.woken i true, h.0) (wakes _ _ _ m b n c h.1)

    row-moves : Moves t s C Steady
    row-moves =
        record {
          counter = λ w p c h. h;
          box = λ w b x h. h;
          pool = λ w q x h. h;
          wakes = λ w j m b n c h. (
            h.0,
            same_or i j
                (λ e. subst (λ (k : ℕ). Stands (made_ready w k m b)) e
                (own-ready w m b (rw e n) (subst (λ (k : ℕ). C (w.thread k).state (w.thread k).place m b) (sym e) c) h))
                (λ d. ready-stays w j d m b h.1),
          );
        }

  own-ended : (w : World) (m : ℤ) (d : ℕ) → P (call_ended (w.thread i) m d) (w.woken i) true → Stands (ended w i m d)
  own-ended w m d h = rw (ended-own w i m d someone, ended-finished w i m d someone) h

  own-took : (w : World) (a : ℕ) → P (flags_taken (w.thread i) a) (w.woken i) true → Stands (took_flags w i a)
  own-took w a h = rw (took-own w i a someone, took-finished w i a someone) h

  own-asleep : (w : World) (st pl : ℕ) (c : Call) → P (asleep (w.thread i) st pl c) (w.woken i) (w.finished i) → Stands (fall_asleep w i st pl c)
  own-asleep w st pl c h = rw (put_same w.thread i (asleep (w.thread i) st pl c)) h

  -- OF A CONTINUED CALL
  pub row_on : RowOn → KeepsOn t s Steady
  row_on k =
      record {
        moves = row-moves (Served t s) (λ r w f m c n b h. k.wakes m c n b h);
        ends_on = λ w r m d l z n g h. (
          h.0,
          same_or i r
              (λ e. subst (λ (j : ℕ). Stands (ended w j m d)) e
              (own-ended w m d (k.ends_on m d (rw e z) (rw e n) (subst (λ (j : ℕ). Ends (w.thread j) m d) (sym e) g) h.1)))
              (λ x. ended-stays w r x m d h.1),
        );
        takes-on = λ w r l z g m h. (
          h.0,
          same_or i r
              (λ e. subst (λ (j : ℕ). Stands (took_flags w j (w.thread j).call.operand)) e
              (own-took w (w.thread i).call.operand (k.takes-on (rw e z) (rw e g) (rw e m) h.1)))
              (λ x. took-stays w r x (w.thread r).call.operand h.1),
        );
        sleeps-on = λ w r q l z g m side u h. (
          h.0,
          same_or i r
              (λ e. subst (λ (j : ℕ). Stands (fall_asleep w j 3 q (w.thread j).call)) e
              (own-asleep w 3 q (w.thread i).call
              (k.sleeps-on q (rw e z) (subst (λ (j : ℕ). IsMailing (w.thread j).call.kind) (sym e) g) (rw e m)
              (subst (λ (j : ℕ). SideOf (w.thread j).call q) (sym e) side) (rw e u) h.1)))
              (λ d. sleep-stays w r d 3 q (w.thread r).call h.1),
        );
      }

  -- OF THE STEP'S OWN ACT
  pub row-act : RowAct → KeepsAct t s Steady
  row-act a =
      record {
        moves = row-moves (CalledOut t s) (λ r w f m c n b h. a.wakes m c n b h);
        begins = λ n m. (refl, a.begins n m);
        ticks = λ v e h. (ticks-step (found t) t.sizes.threads v h, a.ticks v e h);
        events = λ v e h. (event-step v h, a.events v e h);
        ends = λ w m d o h. (
          h.0,
          same_or s.caller i
              (λ e. subst (λ (j : ℕ). Stands (ended w j m d)) (sym e) (own-ended w m d (a.ends e m d o h.1)))
              (λ n. ended-stays w s.caller (λ e. n (sym e)) m d h.1),
        );
        takes = λ k n h. (
          refl,
          same_or s.caller i
              (λ e. subst (λ (j : ℕ). Stands (took_flags (found t) j s.a)) (sym e) (own-took (found t) s.a (a.takes e k n refl h.1)))
              (λ d. took-stays (found t) s.caller (λ e. d (sym e)) s.a h.1),
        );
        sleeps = λ w st pl c o k none mail h. (
          h.0,
          same_or s.caller i
              (λ e. subst (λ (j : ℕ). Stands (fall_asleep w j st pl c)) (sym e) (own-asleep w st pl c (a.sleeps e st pl c o k none mail h.1)))
              (λ d. sleep-stays w s.caller (λ e. d (sym e)) st pl c h.1),
        );
      }

  -- AND OF THE WHOLE STEP
  pub row_keeps : RowOn → RowAct → Keeps t s Steady
  row_keeps k a = record { act = row-act a; on = row_on k }

-- the step's number stays
pub step_kept : (t : Tables) (s : Step) → Keeps t s (λ w. w.step ≡ (found t).step)
step_kept t s =
    record {
      act = record {
        moves = moves _;
        begins = λ n m. refl;
        ticks = λ v e h. ticks-step (found t) t.sizes.threads v h;
        events = λ v e h. event-step v h;
        ends = λ w m d o h. h;
        takes = λ k n h. h;
        sleeps = λ w st pl c o k none tried h. h;
      };
      on = record {
        moves = moves _;
        ends_on = λ w r m d l z n g h. h;
        takes-on = λ w r l z g m h. h;
        sleeps-on = λ w r q l z g m side u h. h;
      };
    }
  where
    moves : (C : ℕ → ℕ → ℤ → ℕ → Type 0) → Moves t s C (λ w. w.step ≡ (found t).step)
    moves C = record { counter = λ w p c h. h; box = λ w b x h. h; pool = λ w q x h. h; wakes = λ w j m b n c h. h }
