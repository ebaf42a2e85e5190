-- What one accepted step makes of a thread that was ready before it: it is woken only if it fell asleep in this very step (`WakerAfter`).
use Rattle.std.specs.Prelude.{ℕ, ◌<◌, ◌≡◌, refl, ◌≢◌, ◌⊎◌, Bool, true, false, ℤ, pos}
use Rattle.std.proofs.Common.{arith, sym, ap, ◌∙◌, subst, inl, inr}
use Rattle.kernel.specs.declared.records.Call.{Call}
use Rattle.kernel.specs.declared.records.Thread.{Thread}
use Rattle.library.specs.declared.calls.Step.{Step}
use Rattle.library.specs.declared.tables.Tables.{Tables}
use Rattle.promises.specs.Paper.World.{World, no_call, found, ready_with, call_ended, asleep}
use Rattle.promises.specs.Paper.Rows.{pending_to}
use Rattle.promises.specs.Paper.Waking.{row_of, IsMailing, OwnWait, WakerAfter, SideOf}
use Rattle.promises.specs.Runs.Keeping.{queued-asleep, Keeps}
use Rattle.promises.specs.Runs.OneRow.{mail-other, Stands, Steady, row_keeps}
use Rattle.promises.specs.Runs.Passing.{Passed, found_passed, ticks-passed, events-passed}

-- a side's queue is no semaphore's
side-far : {c : Call} {q : ℕ} → SideOf c q → q < 20 → ⊥
side-far (SideOf.writers e) h = omega arith
side-far (SideOf.readers e) h = omega arith

module _ (t : Tables) (s : Step) (i : ℕ) (someone : i ≢ 255) (was-ready : (row_of t i).state ≡ 0) (no-ticks : (row_of t i).remaining ≡ 0) where
  abbrev b : Thread
  b = row_of t i

  -- how it stands: ready still, not woken, and its call is what it was or has ended; or asleep in this step, and perhaps woken again
  pub data Calm (r : Thread) (woken : Bool) : Type 0 where
    ready : r.state ≡ 0 → woken ≡ false → r.remaining ≡ 0 → ((r.call ≡ b.call) × (r.message ≡ b.message)) ⊎ (r.call ≡ no_call)
        → Calm r woken
    own : s.caller ≡ i → (st pl : ℕ) → OwnWait s st pl → (r.state ≡ 3 → r.place < 20 → OwnWait s 3 r.place) → Calm r woken
    tried : IsMailing b.call.kind → b.message ≡ pos 0 → (r.state ≡ 3 → r.place < 20 → ⊥) → Calm r woken

  abbrev P : Thread → Bool → Bool → Type 0
  P r w f = Calm r w

  abbrev pub Calmly : World → Type 0
  Calmly = Stands t s i someone P

  passed : (w : World) → Passed t s i was-ready no-ticks w → Calmly w
  passed w p =
      Calm.ready (ap (λ (u : Thread). u.state) p.row ∙ was-ready) p.woken (ap (λ (u : Thread). u.remaining) p.row ∙ no-ticks)
      (inl (ap (λ (u : Thread). u.call) p.row, ap (λ (u : Thread). u.message) p.row))

  module _ {r : Thread} {w : Bool} where
    -- its call ends: it stays where it is
    ended-calm : (m : ℤ) (d g : ℕ) → Calm r w → Calm (call_ended (pending_to r g) m d) w
    ended-calm m d g (Calm.ready z u k c) = Calm.ready z u k (inr refl)
    ended-calm m d g (Calm.own c st pl o h) = Calm.own c st pl o h
    ended-calm m d g (Calm.tried x e h) = Calm.tried x e h

    -- it is woken, if it fell asleep before
    woken-calm : (m : ℤ) (o v : ℕ) → r.state ≢ 0 → Calm r w → Calm (ready_with r m o v) true
    woken-calm m x v n (Calm.ready z u k c) = absurd (n z)
    woken-calm m x v n (Calm.own c st pl o h) = Calm.own c st pl o (λ e. absurd (queued-asleep e refl))
    woken-calm m x v n (Calm.tried g k h) = Calm.tried g k (λ e. absurd (queued-asleep e refl))

    -- a mailbox call, tried again, sleeps again
    again-calm : (q : ℕ) → IsMailing r.call.kind → r.message ≡ pos 0 → SideOf r.call q → Calm r w → Calm (asleep r 3 q r.call) w
    again-calm q g m side (Calm.ready z u k (inl c)) =
        Calm.tried (subst (λ (k : Call). IsMailing k.kind) c.0 g) (sym c.1 ∙ m) (λ e l. side-far side l)
    again-calm q g m side (Calm.ready z u k (inr c)) = absurd ((mail-other g).1 (ap (λ (k : Call). k.kind) c))
    again-calm q g m side (Calm.own c st pl o h) = Calm.own c st pl o (λ e l. absurd (side-far side l))
    again-calm q g m side (Calm.tried x y h) = Calm.tried x y (λ e l. side-far side l)

  pub calm-keeps : Keeps t s (Steady t s i someone P)
  calm-keeps =
      row_keeps t s i someone P
      (record {
        wakes = λ m o n c h. woken-calm m o (found t).step n h;
        ends_on = λ {r} m d z n e h. ended-calm m d r.pending h;
        takes-on = λ z k m h. ended-calm (pos 0) _ _ h;
        sleeps-on = λ q z g m side u h. again-calm q g m side h;
      })
      (record {
        wakes = λ m o n c h. woken-calm m o (found t).step n h;
        begins = λ x y. passed (found t) (found_passed t s i was-ready no-ticks y);
        ticks = λ v e h. passed v (ticks-passed t s i was-ready no-ticks v e h);
        events = λ v e h. passed v (events-passed t s i was-ready no-ticks e v h);
        ends = λ {r} e m d o h. ended-calm m d r.pending h;
        takes = λ e k n z h. ended-calm (pos 0) _ _ h;
        sleeps = λ e st pl c o k n b h. Calm.own e st pl o (λ x l. subst (λ (j : ℕ). OwnWait s j pl) x o);
      })

  pub calm-after : {r : Thread} {w : Bool} → Calm r w → WakerAfter t s i r w
  calm-after (Calm.ready z u k c) = WakerAfter.unwoken z u
  calm-after (Calm.own c st pl o h) = WakerAfter.own-sleep c st pl o h
  calm-after (Calm.tried g m h) = WakerAfter.tried-again g m h
