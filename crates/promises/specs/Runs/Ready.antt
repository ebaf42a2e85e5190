-- What one accepted step makes of a thread that an earlier step woke, and whose call was not continued yet: it stays as it is, or its call
-- ends with the answer that follows from that waking, or is a mailbox's, is tried again and sleeps again at its side, where it may be served and go on.
use Rattle.std.specs.Prelude.{ℕ, ◌≡◌, refl, ◌≢◌, Bool, true, false, cond, eqb, ℤ, pos}
use Rattle.std.proofs.Common.{arith, sym, ap, ◌∙◌, subst, ne_eqb}
use Rattle.kernel.specs.declared.records.Thread.{Thread}
use Rattle.kernel.proofs.Cases.{contrary}
use Rattle.library.specs.declared.calls.Step.{Step}
use Rattle.library.specs.declared.tables.Tables.{Tables}
use Rattle.promises.specs.Paper.World.{World, no_call, no_answer, found, ready_with, call_ended, asleep}
use Rattle.promises.specs.Paper.Rows.{pending_to}
use Rattle.promises.specs.Paper.Together.{AwaitedFit}
use Rattle.promises.specs.Paper.Waking.{row_of, IsMailing, Served, heard, AnswerOf, woken_row, done_row, SideOf, again_row, ready_on, ReadyAfter}
use Rattle.promises.specs.Runs.Keeping.{queued-asleep, Ends, KeepsOn, KeepsAct}
use Rattle.promises.specs.Runs.OneRow.{flags_taken, mail-other, Steady, row_on, row-act}
use Rattle.promises.specs.Runs.Passing.{Passed, found_passed, ticks-passed, events-passed}
use Rattle.promises.specs.Runs.Sleepers.{no-event, ends-answer, not-side}

-- who is served is woken with 0
served-zero : {t : Tables} {s : Step} {st pl : ℕ} {m : ℤ} {c : ℕ} → Served t s st pl m c → m ≡ pos 0
served-zero (Served.post b z a x y) = refl
served-zero (Served.fetch b z a x y) = refl

module _ (t : Tables) (s : Step) (i : ℕ) (someone : i ≢ 255) (apart : i ≢ s.caller) (was-ready : (row_of t i).state ≡ 0)
    (no-ticks : (row_of t i).remaining ≡ 0) (no_place : (row_of t i).place ≡ 0) (awaits : AwaitedFit (row_of t i)) where
  abbrev a : Thread
  a = row_of t i

  -- the number of the step
  abbrev num : ℕ
  num = (found t).step

  -- before settling: nothing has happened to it, but that flags have come
  abbrev pub Acted : Thread → Bool → Bool → Type 0
  Acted r w f = (r ≡ ready_on s i a) × (w ≡ false) × (f ≡ false)

  passed : (w : World) → Passed t s i was-ready no-ticks w → Acted (w.thread i) (w.woken i) (w.finished i)
  passed w p = (p.row, p.woken, p.finished)

  -- its record, ended: it is ready, nowhere, and has no ticks
  ended-row : (x : ℤ) (d g : ℕ) → call_ended (pending_to a g) x d ≡ done_row a.message a.cause a.step x d g
  ended-row x d g =
      λ y. record {
        state = was-ready y;
        place = no_place y;
        remaining = no-ticks y;
        pending = g;
        awaited = 0;
        message = a.message;
        call = no_call;
        answer = record { message = x; datum = d };
        cause = a.cause;
        step = a.step;
      }

  awaited-is : cond (eqb a.call.kind 14) a.call.operand 0 ≡ a.awaited
  awaited-is = by awaits
    where
      by : AwaitedFit a → cond (eqb a.call.kind 14) a.call.operand 0 ≡ a.awaited
      by (AwaitedFit.mask e h) = rw e (sym h)
      by (AwaitedFit.none d h) = rw (ne_eqb a.call.kind 14 d) (sym h)

  -- its record, asleep again: its waking was with 0
  again-row : (q : ℕ) → a.message ≡ pos 0 → asleep (ready_on s i a) 3 q a.call ≡ again_row s i a q
  again-row q e =
      λ y. record {
        state = 3;
        place = q;
        remaining = cond (eqb a.call.timeout 4294967295) 0 a.call.timeout;
        pending = heard s i a;
        awaited = awaited-is y;
        message = e y;
        call = a.call;
        answer = no_answer;
        cause = a.cause;
        step = a.step;
      }

  -- one that sleeps is not ready
  not-asleep : {r : Thread} {p : ℕ} → r ≡ again_row s i a p → r.state ≢ 0
  not-asleep e = queued-asleep (ap (λ (u : Thread). u.state) e)

  -- a side has its own kinds
  not-event : {p : ℕ} → SideOf a.call p → a.call.kind ≢ 14
  not-event side k = not-side k (λ y. omega arith) (λ y. omega arith) (λ y. omega arith) side

  -- it is served, if it fell asleep before
  rouse : {r : Thread} {f : Bool} {pl : ℕ} (m : ℤ) (o : ℕ) → SideOf a.call pl → a.message ≡ pos 0 → r ≡ again_row s i a pl → Served t s r.state r.place m o
      → f ≡ false → ReadyAfter t s i (ready_with r m o num) true f
  rouse {r} {f} {pl} m o side x e by q =
      let zero = served-zero by in
      let there : Served t s 3 pl m o = subst (λ (u : Thread). Served t s u.state u.place m o) e by in
      subst (λ (y : ℤ). ReadyAfter t s i (ready_with r y o num) true f) (sym zero)
      (ReadyAfter.ready-again pl o side x (subst (λ (y : ℤ). Served t s 3 pl y o) zero there) (ap (λ (u : Thread). ready_with u (pos 0) o num) e) refl q)

  module _ {r : Thread} {w f : Bool} where
    ends-own : (x : ℤ) (d : ℕ) → r.state ≡ 0 → r.call.kind ≢ 0 → Ends r x d → ReadyAfter t s i r w f → ReadyAfter t s i (call_ended r x d) w true
    ends-own x d z n h (ReadyAfter.on e p q) =
        ReadyAfter.done x d (heard s i a) (ends-answer a (ready_on s i a) refl (heard s i a) (subst (λ (u : Thread). Ends u x d) e h))
        (ap (λ (u : Thread). call_ended u x d) e ∙ ended-row x d (heard s i a)) p refl
    ends-own x d z n h (ReadyAfter.done y c g k e p q) = absurd (n (ap (λ (u : Thread). u.call.kind) e))
    ends-own x d z n h (ReadyAfter.again pl side m e p q) = absurd (not-asleep e z)
    ends-own x d z n h (ReadyAfter.ready-again pl c side m by e p q) =
        ReadyAfter.done-again pl c x d side m by
        (ends-answer a (woken_row s i a (pos 0) c num no_answer) refl (heard s i a) (subst (λ (u : Thread). Ends u x d) e h))
        (ap (λ (u : Thread). call_ended u x d) e) p refl
    ends-own x d z n h (ReadyAfter.done-again pl c y o side m by k e p q) = absurd (n (ap (λ (u : Thread). u.call.kind) e))

    takes-own : r.state ≡ 0 → r.call.kind ≡ 14 → r.message ≡ pos 0 → ReadyAfter t s i r w f
        → ReadyAfter t s i (flags_taken r r.call.operand) w true
    takes-own z k m (ReadyAfter.on e p q) =
        ReadyAfter.done (pos 0) _ _
        (AnswerOf.events (sym (ap (λ (u : Thread). u.call.kind) e) ∙ k) (sym (ap (λ (u : Thread). u.message) e) ∙ m))
        (ap (λ (u : Thread). flags_taken u u.call.operand) e ∙ ended-row (pos 0) _ _) p refl
    takes-own z k m (ReadyAfter.done y c g h e p q) = absurd (no-event (ap (λ (u : Thread). u.call.kind) e) k)
    takes-own z k m (ReadyAfter.again pl side o e p q) = absurd (not-asleep e z)
    takes-own z k m (ReadyAfter.ready-again pl c side o by e p q) = absurd (not-event side (sym (ap (λ (u : Thread). u.call.kind) e) ∙ k))
    takes-own z k m (ReadyAfter.done-again pl c y o side g by h e p q) = absurd (no-event (ap (λ (u : Thread). u.call.kind) e) k)

    -- a mailbox call, tried again, sleeps again, if it was not woken in this step
    sleeps-own : (q : ℕ) → r.state ≡ 0 → IsMailing r.call.kind → r.message ≡ pos 0 → SideOf r.call q → w ≡ false → ReadyAfter t s i r w f
        → ReadyAfter t s i (asleep r 3 q r.call) w f
    sleeps-own q z g m side u (ReadyAfter.on e p o) =
        let m0 = sym (ap (λ (u : Thread). u.message) e) ∙ m in
        ReadyAfter.again q (subst (λ (u : Thread). SideOf u.call q) e side) m0 (ap (λ (u : Thread). asleep u 3 q u.call) e ∙ again-row q m0) p o
    sleeps-own q z g m side u (ReadyAfter.done y c f k e p o) = absurd ((mail-other g).1 (ap (λ (u : Thread). u.call.kind) e))
    sleeps-own q z g m side u (ReadyAfter.again pl k x e p o) = absurd (not-asleep e z)
    sleeps-own q z g m side u (ReadyAfter.ready-again pl c k x by e p o) = contrary p u
    sleeps-own q z g m side u (ReadyAfter.done-again pl c y d k x by h e p o) = contrary p u

    woken-own : (m : ℤ) (o : ℕ) → r.state ≢ 0 → Served t s r.state r.place m o → ReadyAfter t s i r w f → ReadyAfter t s i (ready_with r m o num) true f
    woken-own m o n by (ReadyAfter.on e p z) = absurd (n (ap (λ (u : Thread). u.state) e ∙ was-ready))
    woken-own m o n by (ReadyAfter.done y c f k e p z) = absurd (n (ap (λ (u : Thread). u.state) e))
    woken-own m o n by (ReadyAfter.again pl side x e p z) = rouse m o side x e by z
    woken-own m o n by (ReadyAfter.ready-again pl c side x b e p z) = absurd (n (ap (λ (u : Thread). u.state) e))
    woken-own m o n by (ReadyAfter.done-again pl c y d side x b h e p z) = absurd (n (ap (λ (u : Thread). u.state) e))

  -- the step's own act leaves it
  pub ready-act : KeepsAct t s (Steady t s i someone Acted)
  ready-act =
      row-act t s i someone Acted
      (record {
        wakes = λ m o n c h. absurd (n (ap (λ (u : Thread). u.state) h.0 ∙ was-ready));
        begins = λ x y. passed (found t) (found_passed t s i was-ready no-ticks y);
        ticks = λ v e h. passed v (ticks-passed t s i was-ready no-ticks v e h);
        events = λ v e h. passed v (events-passed t s i was-ready no-ticks e v h);
        ends = λ e m d o h. absurd (apart (sym e));
        takes = λ e k n z h. absurd (apart (sym e));
        sleeps = λ e st pl c o k n b h. absurd (apart (sym e));
      })

  -- and settling begins so
  pub acted-after : (w : World) → Steady t s i someone Acted w → Steady t s i someone (ReadyAfter t s i) w
  acted-after w h = (h.0, ReadyAfter.on h.1.0 h.1.1 h.1.2)

  pub ready-on : KeepsOn t s (Steady t s i someone (ReadyAfter t s i))
  ready-on =
      row_on t s i someone (ReadyAfter t s i)
      (record { wakes = woken-own; ends_on = ends-own; takes-on = takes-own; sleeps-on = sleeps-own })
