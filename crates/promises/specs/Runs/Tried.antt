-- Whose mailbox call it is that a step tries: its own, or one that a record kept.
use Rattle.std.specs.Prelude.{ℕ, zero, suc, ◌-◌, ◌<◌, ◌≡◌, refl, eqb, ℤ, pos, negsuc}
use Rattle.std.proofs.Common.{sym, ap, ◌∙◌, subst}
use Rattle.std.specs.Int.Bits.{bit_and, bit_or}
use Rattle.kernel.specs.declared.records.Call.{Call}
use Rattle.kernel.specs.declared.records.Thread.{Thread}
use Rattle.kernel.proofs.Cases.{split, same_or}
use Rattle.library.specs.declared.calls.Step.{Step}
use Rattle.library.specs.declared.tables.Tables.{Tables}
use Rattle.promises.specs.Paper.World.{
  World,
  no_call,
  found,
  put,
  thread_to,
  ready_with,
  made_ready,
  call_ended,
  ended,
  asleep,
  fall_asleep,
}
use Rattle.promises.specs.Paper.Rows.{TickOf, Ticks, pending_to, took_flags, flagged, EventSignal}
use Rattle.promises.specs.Paper.Waking.{IsMailing, Tried}
use Rattle.promises.specs.Runs.Keeping.{put_same, put_other, Moves, Keeps}
use Rattle.promises.specs.Runs.OneRow.{mail-other}

module _ (t : Tables) (s : Step) where
  -- the sizes are the tables', and every mailbox call in the records is one that the step tries
  pub record Kept (w : World) : Type 0 where
    pub sizes : w.sizes ≡ t.sizes
    pub tried : (j : ℕ) → j < t.sizes.threads → IsMailing (w.thread j).call.kind
        → Tried t s (w.thread j).call.kind (w.thread j).call.object

  -- what a move may do to a call: nothing, end it, or begin one that the step tries
  data CallAfter (c d : Call) : Type 0 where
    same : d ≡ c → CallAfter c d
    none : d ≡ no_call → CallAfter c d
    begun : (IsMailing d.kind → Tried t s d.kind d.object) → CallAfter c d

  kept_on : (w x : World) → x.sizes ≡ w.sizes → ((j : ℕ) → CallAfter (w.thread j).call (x.thread j).call) → Kept w → Kept x
  kept_on w x z h k = record { sizes = z ∙ k.sizes; tried = λ j l m. one j l (h j) m }
    where
      one : (j : ℕ) → j < t.sizes.threads → CallAfter (w.thread j).call (x.thread j).call → IsMailing (x.thread j).call.kind
          → Tried t s (x.thread j).call.kind (x.thread j).call.object
      one j l (CallAfter.same e) m =
          subst (λ (c : Call). Tried t s c.kind c.object) (sym e) (k.tried j l (subst (λ (c : Call). IsMailing c.kind) e m))
      one j l (CallAfter.none e) m = absurd ((mail-other m).1 (ap (λ (c : Call). c.kind) e))
      one j l (CallAfter.begun b) m = b m

  -- one record changes
  row_kept : (f : ℕ → Thread) (i : ℕ) (u : Thread) → CallAfter (f i).call u.call → (j : ℕ)
      → CallAfter (f j).call (put f i u j).call
  row_kept f i u h j =
      same_or j i
      (λ e. subst (λ (k : ℕ). CallAfter (f k).call (put f i u k).call) (sym e)
      (subst (λ (v : Thread). CallAfter (f i).call v.call) (sym (put_same f i u)) h))
      (λ d. CallAfter.same (ap (λ (v : Thread). v.call) (put_other f i j u d)))

  ended-kept : (w : World) (r : ℕ) (m : ℤ) (d : ℕ) → Kept w → Kept (ended w r m d)
  ended-kept w r m d =
      kept_on w (ended w r m d) refl
      (λ j. split (eqb r 255) (λ e. CallAfter.same (rw e))
      (λ e. rw e (row_kept w.thread r (call_ended (w.thread r) m d) (CallAfter.none refl) j)))

  thread-kept : (w : World) (i : ℕ) (u : Thread) → CallAfter (w.thread i).call u.call → Kept w → Kept (thread_to w i u)
  thread-kept w i u h = kept_on w (thread_to w i u) refl (row_kept w.thread i u h)

  ready-kept : (w : World) (i : ℕ) (m : ℤ) (c : ℕ) → Kept w → Kept (made_ready w i m c)
  ready-kept w i m c =
      kept_on w (made_ready w i m c) refl (row_kept w.thread i (ready_with (w.thread i) m c w.step) (CallAfter.same refl))

  sleep-kept : (w : World) (i st pl : ℕ) (c : Call) → (IsMailing c.kind → Tried t s c.kind c.object) → Kept w
      → Kept (fall_asleep w i st pl c)
  sleep-kept w i st pl c h = kept_on w (fall_asleep w i st pl c) refl (row_kept w.thread i (asleep (w.thread i) st pl c) (CallAfter.begun h))

  took-kept : (w : World) (i a : ℕ) → Kept w → Kept (took_flags w i a)
  took-kept w i a k =
      let u : Thread = pending_to (w.thread i) ((w.thread i).pending - bit_and (w.thread i).pending a) in
      ended-kept (thread_to w i u) i (pos 0) (bit_and (w.thread i).pending a) (thread-kept w i u (CallAfter.same refl) k)

  flag-kept : (w : World) (i a : ℕ) → Kept w → Kept (flagged w i a)
  flag-kept w i a = thread-kept w i (pending_to (w.thread i) (bit_or (w.thread i).pending a)) (CallAfter.same refl)

  to-kept : {x y : World} → x ≡ y → Kept y → Kept x
  to-kept e k = subst Kept (sym e) k

  tick-kept : (w x : World) (i : ℕ) → TickOf w i x → Kept w → Kept x
  tick-kept w x i (TickOf.no-ticks a e) k = to-kept e k
  tick-kept w x i (TickOf.falls a e) k = to-kept e (thread-kept w i _ (CallAfter.same refl) k)
  tick-kept w x i (TickOf.last a e) k = to-kept e (ready-kept w i (negsuc 0) 8 k)

  ticks-kept : (n : ℕ) (w x : World) → Ticks w n x → Kept w → Kept x
  ticks-kept zero w x e k = to-kept e k
  ticks-kept (suc n) w x h k = tick-kept h.0 x n h.2 (ticks-kept n w h.0 h.1 k)

  event-kept : (w x : World) (i a : ℕ) → EventSignal w i a x → Kept w → Kept x
  event-kept w x i a (EventSignal.comes g h e) k =
      to-kept e (ready-kept (flagged w i a) i (pos 0) 4 (flag-kept w i a k))
  event-kept w x i a (EventSignal.only-flagged g e) k = to-kept e (flag-kept w i a k)

  found-kept : Kept (found t)
  found-kept = record { sizes = refl; tried = λ j l m. Tried.kept j l refl refl }

  kept-moves : (C : ℕ → ℕ → ℤ → ℕ → Type 0) → Moves t s C Kept
  kept-moves C =
      record {
        counter = λ w p c k. record { sizes = k.sizes; tried = k.tried };
        box = λ w b x k. record { sizes = k.sizes; tried = k.tried };
        pool = λ w q x k. record { sizes = k.sizes; tried = k.tried };
        wakes = λ w j m c a b k. ready-kept w j m c k;
      }

  pub kept-keeps : Keeps t s Kept
  kept-keeps =
      record {
        act = record {
          moves = kept-moves _;
          begins = λ a b. found-kept;
          ticks = λ v e h. ticks-kept t.sizes.threads (found t) v h found-kept;
          events = λ v e h. event-kept (found t) v s.object s.a h found-kept;
          ends = λ w m d h k. ended-kept w s.caller m d k;
          takes = λ e h k. took-kept (found t) s.caller s.a k;
          sleeps = λ w st pl c may e f b k. sleep-kept w s.caller st pl c (λ m. Tried.own (sym e) (sym (b m))) k;
        };
        on = record {
          moves = kept-moves _;
          ends_on = λ w r m d l a b e k. ended-kept w r m d k;
          takes-on = λ w r l a e m k. took-kept w r (w.thread r).call.operand k;
          sleeps-on = λ w r q l a b m side u k. sleep-kept w r 3 q (w.thread r).call (k.tried r l) k;
        };
      }
