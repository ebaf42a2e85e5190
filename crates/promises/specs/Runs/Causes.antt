-- What one accepted step makes of what a thread's record says of its last waking: of who slept it follows from `SleeperAfter`, of who was ready
-- from where it may fall asleep in the step.
use Rattle.std.specs.Prelude.{ℕ, ◌≡◌, refl, ◌≢◌, Bool, true, false, ◌||◌, eqb, ℤ, pos}
use Rattle.std.proofs.Common.{arith, sym, ap, ◌∙◌, subst, inl, inr}
use Rattle.kernel.specs.declared.records.Call.{Call}
use Rattle.kernel.specs.declared.records.Thread.{Thread}
use Rattle.kernel.proofs.Cases.{contrary}
use Rattle.library.specs.declared.calls.Step.{Step}
use Rattle.library.specs.declared.tables.Tables.{Tables}
use Rattle.promises.specs.Paper.World.{World, found, ready_with, call_ended}
use Rattle.promises.specs.Paper.Rows.{pending_to}
use Rattle.promises.specs.Paper.Waking.{row_of, IsMailing, Served, CalledOut, SleeperAfter, OwnWait, SideOf}
use Rattle.promises.specs.Paper.Causes.{FallsAt, Wakes, why_of, WhyAfter}
use Rattle.promises.specs.Runs.Keeping.{KeepsOn, KeepsAct}
use Rattle.promises.specs.Runs.OneRow.{Steady, row_on, row-act}
use Rattle.promises.specs.Runs.Passing.{Passed, found_passed, ticks-passed, events-passed}
use Rattle.promises.specs.Runs.Sleepers.{not-side}

-- of who slept
pub sleeper-why : {t : Tables} {s : Step} {i : ℕ} {b : Thread} {w f : Bool} → (row_of t i).state ≢ 0 → SleeperAfter t s i b w f
    → WhyAfter t s i (why_of b) w
sleeper-why n (SleeperAfter.on u e p q) = WhyAfter.same p (ap why_of e)
sleeper-why n (SleeperAfter.ready m c by e p q) = WhyAfter.woke p (Wakes.slept n by) (ap why_of e)
sleeper-why n (SleeperAfter.done m x c d f by h e p q) = WhyAfter.woke p (Wakes.slept n by) (ap why_of e)

-- a call without a kind has no side
no-side : {c : Call} {q : ℕ} → c.kind ≡ 0 → SideOf c q → ⊥
no-side z = not-side z (λ x. omega arith) (λ x. omega arith) (λ x. omega arith)

-- the step's own mailbox call, tried again, falls asleep where it did
own-again : (s : Step) (c : Call) → c.kind ≡ s.kind → (IsMailing c.kind → c.object ≡ s.object) → {st pl : ℕ} → OwnWait s st pl
    → {q : ℕ} → SideOf c q → OwnWait s 3 q
own-again s c k o (OwnWait.writer e n) (SideOf.writers b) = rw (o (inl b)) (OwnWait.writer e n)
own-again s c k o (OwnWait.writer (inl e) n) (SideOf.readers b) = absurd (omega (arith, e, k, b))
own-again s c k o (OwnWait.writer (inr e) n) (SideOf.readers b) = absurd (omega (arith, e, k, b))
own-again s c k o (OwnWait.reader e n) (SideOf.readers b) = rw (o (inr b)) (OwnWait.reader e n)
own-again s c k o (OwnWait.reader e n) (SideOf.writers (inl b)) = absurd (omega (arith, e, k, b))
own-again s c k o (OwnWait.reader e n) (SideOf.writers (inr b)) = absurd (omega (arith, e, k, b))
own-again s c k o (OwnWait.semaphore e n) b = absurd (not-side (k ∙ e) (λ x. omega arith) (λ x. omega arith) (λ x. omega arith) b)
own-again s c k o (OwnWait.queue e n) b = absurd (not-side (k ∙ e) (λ x. omega arith) (λ x. omega arith) (λ x. omega arith) b)
own-again s c k o (OwnWait.reference e n) b = absurd (not-side (k ∙ e) (λ x. omega arith) (λ x. omega arith) (λ x. omega arith) b)
own-again s c k o (OwnWait.sleeps (inl e)) b = absurd (not-side (k ∙ e) (λ x. omega arith) (λ x. omega arith) (λ x. omega arith) b)
own-again s c k o (OwnWait.sleeps (inr e)) b = absurd (not-side (k ∙ e) (λ x. omega arith) (λ x. omega arith) (λ x. omega arith) b)
own-again s c k o (OwnWait.events e n) b = absurd (not-side (k ∙ e) (λ x. omega arith) (λ x. omega arith) (λ x. omega arith) b)
own-again s c k o (OwnWait.pool e n) b = absurd (not-side (k ∙ e) (λ x. omega arith) (λ x. omega arith) (λ x. omega arith) b)

-- a step of a kind that calls nobody out wakes others only where it serves the other side of a mailbox
abbrev calling : ℕ → Bool
calling n = (((eqb n 3 || eqb n 4) || (eqb n 5 || eqb n 7)) || ((eqb n 8 || eqb n 10) || (eqb n 18 || eqb n 21))) || eqb n 22

module _ {t : Tables} {s : Step} {state place : ℕ} where
  only-serves : {n : ℕ} {m : ℤ} {c : ℕ} → s.kind ≡ n → calling n ≡ false → CalledOut t s state place m c → Served t s state place m c
  only-serves e q (CalledOut.served x) = x
  only-serves e q (CalledOut.signal (inl k) a b) = contrary refl (rw (sym e ∙ k) at q)
  only-serves e q (CalledOut.signal (inr k) a b) = contrary refl (rw (sym e ∙ k) at q)
  only-serves e q (CalledOut.reset k a b) = contrary refl (rw (sym e ∙ k) at q)
  only-serves e q (CalledOut.release (inl k) a b) = contrary refl (rw (sym e ∙ k) at q)
  only-serves e q (CalledOut.release (inr k) a b) = contrary refl (rw (sym e ∙ k) at q)
  only-serves e q (CalledOut.resume k a b) = contrary refl (rw (sym e ∙ k) at q)
  only-serves e q (CalledOut.box-reset k a b) = contrary refl (rw (sym e ∙ k) at q)
  only-serves e q (CalledOut.object (inl k) a b) = contrary refl (rw (sym e ∙ k) at q)
  only-serves e q (CalledOut.object (inr k) a b) = contrary refl (rw (sym e ∙ k) at q)

  -- so does one whose own call may sleep
  own-serves : {st pl : ℕ} {m : ℤ} {c : ℕ} → OwnWait s st pl → CalledOut t s state place m c → Served t s state place m c
  own-serves (OwnWait.semaphore e n) = only-serves e refl
  own-serves (OwnWait.queue e n) = only-serves e refl
  own-serves (OwnWait.reference e n) = only-serves e refl
  own-serves (OwnWait.sleeps (inl e)) = only-serves e refl
  own-serves (OwnWait.sleeps (inr e)) = only-serves e refl
  own-serves (OwnWait.events e n) = only-serves e refl
  own-serves (OwnWait.writer (inl e) n) = only-serves e refl
  own-serves (OwnWait.writer (inr e) n) = only-serves e refl
  own-serves (OwnWait.reader e n) = only-serves e refl
  own-serves (OwnWait.pool e n) = only-serves e refl

module _ (t : Tables) (s : Step) (i : ℕ) (someone : i ≢ 255) (was-ready : (row_of t i).state ≡ 0) (no-ticks : (row_of t i).remaining ≡ 0) where
  abbrev a : Thread
  a = row_of t i

  -- how its record r and its woken bit stand in a world: where it sleeps, if it does, it fell asleep in this step; and so would its call,
  -- tried again
  pub record Stood (r : Thread) (woken finished : Bool) : Type 0 where
    pub at : r.state ≢ 0 → FallsAt t s i r.state r.place
    pub again : (q : ℕ) → SideOf r.call q → FallsAt t s i 3 q
    pub why : WhyAfter t s i (why_of r) woken

  kept-side : (q : ℕ) → SideOf a.call q → FallsAt t s i 3 q
  kept-side q (SideOf.writers e) = FallsAt.writer e
  kept-side q (SideOf.readers e) = FallsAt.reader e

  -- before settling: it has fallen asleep in the step's own call, or not at all
  pub record Acted (r : Thread) (woken finished : Bool) : Type 0 where
    pub stood : Stood r woken finished
    pub own : r.state ≢ 0 → (s.caller ≡ i) × OwnWait s r.state r.place

  -- nothing has happened to it yet
  passed : (w : World) → Passed t s i was-ready no-ticks w → Acted (w.thread i) (w.woken i) (w.finished i)
  passed w p =
      record {
        stood = record {
          at = λ n. absurd (asleep n);
          again = λ q b. kept-side q (subst (λ (u : Thread). SideOf u.call q) p.row b);
          why = WhyAfter.same p.woken (ap why_of p.row);
        };
        own = λ n. absurd (asleep n);
      }
    where
      asleep : (w.thread i).state ≢ 0 → ⊥
      asleep n = n (ap (λ (u : Thread). u.state) p.row ∙ was-ready)

  -- it is served, after it fell asleep
  served : {r : Thread} {w f : Bool} (m : ℤ) (c : ℕ) → r.state ≢ 0 → Served t s r.state r.place m c → Stood r w f
      → Stood (ready_with r m c (found t).step) true f
  served m c n b h = record { at = λ x. absurd (x refl); again = h.again; why = WhyAfter.woke refl (Wakes.fell was-ready (h.at n) b) refl }

  -- its call ends
  ends : {r : Thread} {w f : Bool} (m : ℤ) (d pending : ℕ) → Stood r w f → Stood (call_ended (pending_to r pending) m d) w true
  ends m d pending h = record { at = h.at; again = λ q b. absurd (no-side refl b); why = h.why }

  pub why-on : KeepsOn t s (Steady t s i someone Stood)
  why-on =
      row_on t s i someone Stood
      (record {
        wakes = served;
        ends_on = λ {r} m d z n e h. ends m d r.pending h;
        takes-on = λ z k m h. ends (pos 0) _ _ h;
        sleeps-on = λ q z g m side u h. record { at = λ n. h.again q side; again = h.again; why = h.why };
      })

  pub why-act : KeepsAct t s (Steady t s i someone Acted)
  why-act =
      row-act t s i someone Acted
      (record {
        wakes = λ m c n b h. record { stood = served m c n (own-serves (h.own n).1 b) h.stood; own = λ x. absurd (x refl) };
        begins = λ x y. passed (found t) (found_passed t s i was-ready no-ticks y);
        ticks = λ v e h. passed v (ticks-passed t s i was-ready no-ticks v e h);
        events = λ v e h. passed v (events-passed t s i was-ready no-ticks e v h);
        ends = λ {r} e m d o h. record { stood = ends m d r.pending h.stood; own = h.own };
        takes = λ e k n z h. record { stood = ends (pos 0) _ _ h.stood; own = h.own };
        sleeps = λ e st pl c o k n b h.
            record {
              stood = record { at = λ x. FallsAt.own e o; again = λ q y. FallsAt.own e (own-again s c k b o y); why = h.stood.why };
              own = λ x. (e, o);
            };
      })
