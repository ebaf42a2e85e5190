-- What one accepted step makes of the flags of a thread: of any but the caller it follows from `SleeperAfter` and `ReadyAfter`, of the caller
-- from what becomes of its own call.
use Rattle.std.specs.Prelude.{ℕ, ◌-◌, ◌≡◌, refl, ◌≢◌, ◌⊎◌, Bool, true, false, ◌&&◌, eqb, ℤ, pos, negsuc}
use Rattle.std.proofs.Common.{arith, sym, ap, ◌∙◌, subst, inl, inr, eq-eqb, ne_eqb}
use Rattle.std.proofs.Math.Bool.{and-false}
use Rattle.std.specs.Int.Bits.{bit_and}
use Rattle.std.proofs.Math.IntN.{pos-ne-negsuc}
use Rattle.kernel.specs.declared.records.Call.{Call}
use Rattle.kernel.specs.declared.records.Thread.{Thread}
use Rattle.kernel.proofs.Cases.{same_or, contrary}
use Rattle.library.specs.declared.calls.Step.{Step}
use Rattle.library.specs.declared.tables.Tables.{Tables}
use Rattle.promises.specs.Paper.World.{World, found, ready_with, call_ended, asleep}
use Rattle.promises.specs.Paper.Waking.{row_of, IsMailing, CalledOut, heard, AnswerOf, SleeperAfter, ReadyAfter, OwnWait}
use Rattle.promises.specs.Paper.Flags.{awaits_flags, GoesOn, FlagsAfter}
use Rattle.promises.specs.Runs.Keeping.{own_flags, OwnEnd, Keeps}
use Rattle.promises.specs.Runs.OneRow.{flags_taken, mail-other, Stands, Steady, row_keeps}
use Rattle.promises.specs.Runs.Passing.{Passed, found_passed, ticks-passed, events-passed}
use Rattle.promises.specs.Runs.Sleepers.{no-event, called-state, not-side}

-- ---- any thread but the caller

module _ (t : Tables) (s : Step) (i : ℕ) (apart : s.caller ≢ i) where
  abbrev a : Thread
  a = row_of t i

  -- its kept call is an event wait, or not
  kept-awaits : awaits_flags t s i ≡ eqb a.call.kind 14
  kept-awaits = rw (ne_eqb s.caller i apart)

  no-wait : a.call.kind ≢ 14 → (f : Bool) → (awaits_flags t s i && f) ≡ false
  no-wait n f = rw (kept-awaits, ne_eqb a.call.kind 14 n)

  -- whose call did not finish keeps its flags
  unfinished : {b : Thread} {f : Bool} → b.pending ≡ heard s i a → f ≡ false → FlagsAfter t s i b f
  unfinished p q = FlagsAfter.stays (rw q (and-false (awaits_flags t s i))) p

  module _ (b : Thread) (f : Bool) (m : ℤ) (q : f ≡ true) where
    answered : {x : ℤ} {d e : ℕ} → (a.call.kind ≡ 14 → GoesOn t s i a.call.operand m) → AnswerOf a (heard s i a) m x d e
        → b.pending ≡ e → b.answer ≡ record { message = x; datum = d } → FlagsAfter t s i b f
    answered go (AnswerOf.message h) p r =
        same_or a.call.kind 14
        (λ k. FlagsAfter.late a.call.operand m (go k) (elim h [ inl n ↦ absurd (n.0 k) | inr n ↦ n ]) q r p)
        (λ n. FlagsAfter.stays (no-wait n f) p)
    answered go (AnswerOf.events k z) p r = FlagsAfter.taken a.call.operand (subst (GoesOn t s i a.call.operand) z (go k)) q r p
    answered go (AnswerOf.object k z o l) p r = FlagsAfter.stays (no-wait (λ e. omega (arith, k, e)) f) p
    answered go (AnswerOf.in-reset k z) p r = FlagsAfter.stays (no-wait (mail-other k).0 f) p
    answered go (AnswerOf.posted k z) p r = FlagsAfter.stays (no-wait (mail-other (inl k)).0 f) p
    answered go (AnswerOf.fetched k z x) p r = FlagsAfter.stays (no-wait (mail-other (inr k)).0 f) p

  -- of whom was ready
  pub ready-flags : a.state ≡ 0 → {b : Thread} {w f : Bool} → ReadyAfter t s i b w f → FlagsAfter t s i b f
  ready-flags z (ReadyAfter.on e p q) = unfinished (ap (λ (u : Thread). u.pending) e) q
  ready-flags z {b} {w} {f} (ReadyAfter.done x d g h e p q) =
      answered b f a.message q (λ k. GoesOn.woken apart z k) h (ap (λ (u : Thread). u.pending) e) (ap (λ (u : Thread). u.answer) e)
  ready-flags z (ReadyAfter.again pl side m e p q) = unfinished (ap (λ (u : Thread). u.pending) e) q
  ready-flags z (ReadyAfter.ready-again pl c side m by e p q) = unfinished (ap (λ (u : Thread). u.pending) e) q
  ready-flags z {b} {w} {f} (ReadyAfter.done-again pl c x d side m by h e p q) =
      FlagsAfter.stays (no-wait (λ k. not-side k (λ y. omega arith) (λ y. omega arith) (λ y. omega arith) side) f) (ap (λ (u : Thread). u.pending) e)

  -- and of whom slept
  pub sleeper-flags : {b : Thread} {w f : Bool} → SleeperAfter t s i b w f → FlagsAfter t s i b f
  sleeper-flags (SleeperAfter.on u e p q) = unfinished (ap (λ (u : Thread). u.pending) e) q
  sleeper-flags (SleeperAfter.ready m o by e p q) = unfinished (ap (λ (u : Thread). u.pending) e) q
  sleeper-flags {b} {w} {f} (SleeperAfter.done m x o d g by h e p q) =
      answered b f m q (λ k. GoesOn.wakes apart k by) h (ap (λ (u : Thread). u.pending) e) (ap (λ (u : Thread). u.answer) e)

-- ---- the caller

-- an event wait sleeps in state 4
own-state : {s : Step} {st pl : ℕ} → OwnWait s st pl → s.kind ≡ 14 → (st ≡ 4) × (s.timeout ≢ 0)
own-state (OwnWait.semaphore e n) k = absurd (omega (arith, e, k))
own-state (OwnWait.queue e n) k = absurd (omega (arith, e, k))
own-state (OwnWait.reference e n) k = absurd (omega (arith, e, k))
own-state (OwnWait.sleeps (inl e)) k = absurd (omega (arith, e, k))
own-state (OwnWait.sleeps (inr e)) k = absurd (omega (arith, e, k))
own-state (OwnWait.events e n) k = (refl, n)
own-state (OwnWait.writer (inl e) n) k = absurd (omega (arith, e, k))
own-state (OwnWait.writer (inr e) n) k = absurd (omega (arith, e, k))
own-state (OwnWait.reader e n) k = absurd (omega (arith, e, k))
own-state (OwnWait.pool e n) k = absurd (omega (arith, e, k))

module _ (t : Tables) (s : Step) (someone : s.caller ≢ 255) (was-ready : (row_of t s.caller).state ≡ 0)
    (no-ticks : (row_of t s.caller).remaining ≡ 0) (no-call : (row_of t s.caller).call.kind ≡ 0) where
  abbrev i : ℕ
  i = s.caller

  abbrev b : Thread
  b = row_of t i

  abbrev f : ℕ
  f = heard s i b

  -- how its record r and its finished bit stand in a world. Its unfinished call is none, or the step's own; an event wait sleeps, and
  -- nothing but a signal of events wakes it
  pub data Flagged (r : Thread) (finished : Bool) : Type 0 where
    waits : r.pending ≡ f → finished ≡ false → (r.call.kind ≡ 0) ⊎ ((r.call.kind ≡ s.kind) × (s.kind ≡ 14 → r.state ≡ 4))
        → Flagged r finished
    taken : s.kind ≡ 14 → own_flags t s ≢ 0 → finished ≡ true → r.answer ≡ record { message = pos 0; datum = bit_and f s.a }
        → r.pending ≡ f - bit_and f s.a → r.call.kind ≡ 0 → Flagged r finished
    late : s.kind ≡ 14 → own_flags t s ≡ 0 → s.timeout ≡ 0 → finished ≡ true → r.answer ≡ record { message = negsuc 0; datum = 0 }
        → r.pending ≡ f → r.call.kind ≡ 0 → Flagged r finished
    done : s.kind ≢ 14 → finished ≡ true → r.pending ≡ f → r.call.kind ≢ 14 → Flagged r finished

  abbrev P : Thread → Bool → Bool → Type 0
  P r w q = Flagged r q

  abbrev pub Flags : World → Type 0
  Flags = Stands t s i someone P

  -- nothing has happened to it yet
  passed : (w : World) → Passed t s i was-ready no-ticks w → Flags w
  passed w p =
      Flagged.waits (ap (λ (u : Thread). u.pending) p.row) p.finished (inl (ap (λ (u : Thread). u.call.kind) p.row ∙ no-call))

  -- the step's own call ends, and it has taken no flags
  ended-with : (r : Thread) (m : ℤ) (d : ℕ) → OwnEnd t s m d → r.pending ≡ f → Flagged (call_ended r m d) true
  ended-with r m d o p =
      same_or s.kind 14
      (λ k. let x = o k in Flagged.late k x.2 x.3 refl (λ y. record { message = x.0 y; datum = x.1 y }) p refl)
      (λ n. Flagged.done n refl p (no-event refl))

  module _ {r : Thread} {q : Bool} where
    own-ends : (m : ℤ) (d : ℕ) → OwnEnd t s m d → Flagged r q → Flagged (call_ended r m d) true
    own-ends m d o (Flagged.taken k n e g p c) = absurd (n (o k).2)
    own-ends m d o (Flagged.waits p e g) = ended-with r m d o p
    own-ends m d o (Flagged.late k z l e g p c) = ended-with r m d o p
    own-ends m d o (Flagged.done n e p c) = ended-with r m d o p

    -- a call that is continued is not an event wait
    ends_on : (m : ℤ) (d : ℕ) → r.state ≡ 0 → r.call.kind ≢ 0 → Flagged r q → Flagged (call_ended r m d) true
    ends_on m d z n (Flagged.waits p e (inl k)) = absurd (n k)
    ends_on m d z n (Flagged.waits p e (inr k)) = Flagged.done (λ x. absurd (omega (arith, z, k.1 x))) refl p (no-event refl)
    ends_on m d z n (Flagged.taken k x e g p c) = absurd (n c)
    ends_on m d z n (Flagged.late k x l e g p c) = absurd (n c)
    ends_on m d z n (Flagged.done x e p c) = Flagged.done x refl p (no-event refl)

    no_takes : r.state ≡ 0 → r.call.kind ≡ 14 → Flagged r q → ⊥
    no_takes z k (Flagged.waits p e (inl c)) = no-event c k
    no_takes z k (Flagged.waits p e (inr c)) = omega (arith, z, c.1 (sym c.0 ∙ k))
    no_takes z k (Flagged.taken x n e g p c) = no-event c k
    no_takes z k (Flagged.late x y l e g p c) = no-event c k
    no_takes z k (Flagged.done x e p c) = c k

    -- it falls asleep, in the step's own call or in a mailbox call that was tried again
    own-sleeps : (st pl : ℕ) (c : Call) → OwnWait s st pl → c.kind ≡ s.kind → (s.kind ≡ 14 → own_flags t s ≡ 0) → Flagged r q
        → Flagged (asleep r st pl c) q
    own-sleeps st pl c o k none (Flagged.waits p e g) = Flagged.waits p e (inr (k, λ x. (own-state o x).0))
    own-sleeps st pl c o k none (Flagged.taken x n e g p y) = absurd (n (none x))
    own-sleeps st pl c o k none (Flagged.late x z l e g p y) = absurd ((own-state o x).1 l)
    own-sleeps st pl c o k none (Flagged.done n e p y) = Flagged.done n e p (λ x. n (sym k ∙ x))

    sleeps-on : (pl : ℕ) → IsMailing r.call.kind → Flagged r q → Flagged (asleep r 3 pl r.call) q
    sleeps-on pl g (Flagged.waits p e (inl k)) = absurd ((mail-other g).1 k)
    sleeps-on pl g (Flagged.waits p e (inr k)) = Flagged.waits p e (inr (k.0, λ x. absurd ((mail-other g).0 (k.0 ∙ x))))
    sleeps-on pl g (Flagged.taken x n e h p k) = absurd ((mail-other g).1 k)
    sleeps-on pl g (Flagged.late x z l e h p k) = absurd ((mail-other g).1 k)
    sleeps-on pl g (Flagged.done n e p k) = Flagged.done n e p k

    -- it is woken, if it fell asleep before
    wakes : (m : ℤ) (o v : ℕ) → CalledOut t s r.state r.place m o → Flagged r q → Flagged (ready_with r m o v) q
    wakes m o v c (Flagged.waits p e (inl k)) = Flagged.waits p e (inl k)
    wakes m o v c (Flagged.waits p e (inr k)) =
        Flagged.waits p e
        (inr (k.0, λ x. elim (called-state c) [ inl y ↦ absurd (omega (arith, y, k.1 x)) | inr y ↦ absurd (omega (arith, y, k.1 x)) ]))
    wakes m o v c (Flagged.taken x n e g p k) = Flagged.taken x n e g p k
    wakes m o v c (Flagged.late x z l e g p k) = Flagged.late x z l e g p k
    wakes m o v c (Flagged.done n e p k) = Flagged.done n e p k

  -- it takes flags at once, or not at all
  own-takes : s.kind ≡ 14 → own_flags t s ≢ 0 → {q : Bool} → q ≡ false → Flagged b q → Flagged (flags_taken b s.a) true
  own-takes k n z (Flagged.waits p q g) =
      Flagged.taken k n refl (ap (λ (x : ℕ). record { message = pos 0; datum = bit_and x s.a }) p) (ap (λ (x : ℕ). x - bit_and x s.a) p) refl
  own-takes k n z (Flagged.taken g x q r p e) = contrary q z
  own-takes k n z (Flagged.late g x l q r p e) = contrary q z
  own-takes k n z (Flagged.done g q p e) = contrary q z

  pub flags-keep : Keeps t s (Steady t s i someone P)
  flags-keep =
      row_keeps t s i someone P
      (record {
        wakes = λ m o n c h. wakes m o (found t).step (CalledOut.served c) h;
        ends_on = λ m d z n g h. ends_on m d z n h;
        takes-on = λ z k m h. absurd (no_takes z k h);
        sleeps-on = λ q z g m side u h. sleeps-on q g h;
      })
      (record {
        wakes = λ m o n c h. wakes m o (found t).step c h;
        begins = λ x y. passed (found t) (found_passed t s i was-ready no-ticks y);
        ticks = λ v e h. passed v (ticks-passed t s i was-ready no-ticks v e h);
        events = λ v e h. passed v (events-passed t s i was-ready no-ticks e v h);
        ends = λ e m d o h. own-ends m d o h;
        takes = λ e k n z h. own-takes k n z h;
        sleeps = λ e st pl c o k none b h. own-sleeps st pl c o k none h;
      })

  own-awaits : s.kind ≢ 14 → (q : Bool) → (awaits_flags t s i && q) ≡ false
  own-awaits n q = rw (eq-eqb i i refl, ne_eqb s.kind 14 n)

  -- OF THE CALLER
  pub caller-flags : {r : Thread} {q : Bool} → Flagged r q → FlagsAfter t s i r q
  caller-flags (Flagged.waits p e g) = FlagsAfter.stays (rw e (and-false (awaits_flags t s i))) p
  caller-flags (Flagged.taken k n e r p g) = FlagsAfter.taken s.a (GoesOn.finds refl k n) e r p
  caller-flags (Flagged.late k z l e r p g) = FlagsAfter.late s.a (negsuc 0) (GoesOn.finds-none refl k z l) (λ x. pos-ne-negsuc 0 0 (sym x)) e r p
  caller-flags {r} {q} (Flagged.done n e p g) = FlagsAfter.stays (own-awaits n q) p
