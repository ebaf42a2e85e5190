-- The history of a step and of a run. The step's own call does something, and then each continued call, one after the other: their events in
-- this order make of mailboxes and pools what the step has made of them, and of each thread they are just what the result shows.
use Rattle.std.specs.Prelude.{ℕ, zero, suc, ◌+◌, ◌-◌, ◌%◌, ◌≤◌, ◌<◌, ◌≡◌, ◌≢◌, ◌⊎◌, Bool, true, false, ◌&&◌, ◌||◌, eqb, ℤ, pos, negsuc, length, get_or}
use Rattle.std.proofs.Common.{arith, ap, ◌∙◌, inl, inr, get_or-set_same, get_or-set_other}
use Rattle.std.proofs.Math.Path.{refl, sym, subst}
use Rattle.std.proofs.Math.Bool.{cond}
use mathlib.Core.List.{List, [], ◌∷◌, ◌++◌, append-nil}
use Rattle.std.specs.Int.Signed.{lt_z}
use borrow.Author.Tests.{eq-eqb, ne_eqb, lt-ltb, le-ltb}
use Rattle.kernel.specs.declared.clock.Clock.{Clock}
use Rattle.kernel.specs.declared.records.Call.{Call}
use Rattle.kernel.specs.Tables.{thread_at}
use Rattle.kernel.proofs.Cases.{split, same_or, in-or-out, contrary}
use Rattle.library.specs.declared.calls.Step.{Step}
use Rattle.library.specs.declared.tables.Mailbox.{Mailbox}
use Rattle.library.specs.declared.tables.Plant.{Plant}
use Rattle.library.specs.declared.tables.Pool.{Pool}
use Rattle.library.specs.declared.tables.Tables.{Tables}
use Rattle.library.specs.Acting.{acted}
use Rattle.library.specs.Tables.{closed, pool_at}
use Rattle.steps.specs.declared.stepping.Stepped.{Stepped}
use Rattle.steps.specs.Stepping.{budget_of, outcome_of, done_with, started, stepped}
use Rattle.steps.proofs.StepLaws.{step-refused}
use Rattle.promises.specs.Paper.World.{World, found, box_to, pool_to, ended, signed, kept, First}
use Rattle.promises.specs.Paper.Host.{Host, HostStep, HostSteps, Going}
use Rattle.promises.specs.Paper.Rows.{Waits, SemaphoreWait, EventWait, slots_of, in_reset, at_work, on_top, Alloc, Post, Fetch, Act}
use Rattle.promises.specs.Paper.Settling.{IsOther, Continued}
use Rattle.promises.specs.Paper.Refusals.{KernelWait, BoxWait, Broken}
use Rattle.promises.specs.Paper.Together.{number, larger, is_promised, is_zero}
use Rattle.promises.specs.Paper.Waking.{IsPost, in_mask}
use Rattle.promises.specs.Paper.Run.{Moment}
use Rattle.promises.specs.Paper.History.{Event, is_counted, events_of, shown_by, those, is_of, Turns, in_turn, Shown, is_own, OwnFirst, History}
use Rattle.promises.specs.Paper.Ledger.{message_at, in_box, mark_in}
use Rattle.promises.specs.Code.Steps.{ran, moment_of, moments}
use Rattle.promises.specs.Together.Good.{CallKind}
use Rattle.promises.specs.Kept.PoolKept.{pop_kept}
use Rattle.promises.specs.Kept.Whole.{Whole}
use Rattle.promises.specs.Meant.Together.{fit-paper}
use Rattle.promises.specs.Meant.Pools.{promise-stocked}
use Rattle.promises.specs.Meant.Moves.{world_of, found-is}
use Rattle.promises.specs.Meant.Calls.{good, few}
use Rattle.promises.specs.Meant.Settling.{turns}
use Rattle.promises.specs.Meant.Step.{settled-turns, settles-so, result-is, h, order, begun-whole, acted-whole, settled-whole, own}
use Rattle.promises.specs.Runs.Answers.{step-done}
use Rattle.promises.specs.Runs.Keeping.{put_same, put_other}
use Rattle.promises.specs.Runs.Pipes.{length-listed}
use Rattle.promises.specs.Runs.Accepted.{accepted, unbroken, together, caller-first, pool-there, act}
use Rattle.promises.specs.Runs.OneStep.{bit_in}
use Rattle.promises.specs.Runs.Moments.{host, going_on}
use Rattle.promises.specs.Runs.Accounts.{not-zero}
use Rattle.promises.specs.Runs.Dealing.{those-append, Dealt, dealt-still, dealt-none, dealt-as, dealt-both, dealt-reset, dealt-freed, dealt-added}
use Rattle.promises.specs.Runs.Deeds.{Calm, calm-same, counter-calm, ticks-calm, release-calm, release-all-calm, signal-calm, binary-calm, resume-calm, event-calm, calm-on, answer_of, Fit, Own, Does, does-as, does-to, no-event, uncounted, ends-does, ends-calm, sleeps-does, waits-does, took-does, post-does, fetch-does, take-does}
use Rattle.promises.specs.Runs.Boxes.{content}
use Rattle.promises.specs.Runs.Seen.{turns_same, did-own, own-call, call_in, Seen, act-seen, seen-on, turn_on}

-- ---- a continued call

-- mailboxes and pools of tables at work
fit-plant : (p : Plant) → Whole p.sizes p → Fit (world_of p)
fit-plant p w =
    record {
      boxes = λ b there. fit-paper (w.mailboxes b there);
      few = λ b there. (w.sizes.slots b there).1;
      messages = λ b there. w.messages b (omega (arith, there, w.sizes.mailboxes));
      tops = λ q there some.
          let x = pop_kept (pool_at p q) (w.pools.listed q there) (w.pools.sized q there) some in
          (rw (lt-ltb 0 (pool_at p q).length some) at x.object, rw (lt-ltb 0 (pool_at p q).length some) at x.was);
      marks = λ q there. (w.pools.sized q there).marks;
    }

-- of the kinds of unfinished calls, the others do not count
other-uncounted : (k : ℕ) → CallKind k → IsOther k → is_counted k ≡ false
other-uncounted k (inl e) n = rw e
other-uncounted k (inr (inl e)) n = rw e
other-uncounted k (inr (inr (inl e))) n = rw e
other-uncounted k (inr (inr (inr (inl e)))) n = rw e
other-uncounted k (inr (inr (inr (inr (inl e))))) n = rw e
other-uncounted k (inr (inr (inr (inr (inr (inl l)))))) n =
    absurd (same_or k 14 n.0 (λ a. same_or k 15 n.1 (λ b. same_or k 16 n.2 (λ c. n.3 (omega (arith, l.0, l.1))))))
other-uncounted k (inr (inr (inr (inr (inr (inr e)))))) n = absurd (n.4 e)

module _ (n : ℕ) (t : Tables) (p : Plant) (w : Whole p.sizes p) (i : ℕ) (f : First (world_of p) i) (call : (thread_at p.kernel i).call.kind ≢ 0) where
  abbrev c : Call
  c = (thread_at p.kernel i).call

  pub a-thread : i ≢ 255
  a-thread z = omega (arith, z, f.thread, few p w)

  in-box : (c.kind ≡ 15) ⊎ (c.kind ≡ 16) ⊎ (c.kind ≡ 17) → c.object < p.sizes.mailboxes
  in-box (inl e) = rw e at (((good p w).threads i f.thread).object call)
  in-box (inr (inl e)) = rw e at (((good p w).threads i f.thread).object call)
  in-box (inr (inr e)) = rw e at (((good p w).threads i f.thread).object call)

  pub continued-does : (x : World) → Continued (world_of p) i x → Does n t i c (world_of p) x
  continued-does x (Continued.flags k m e) = does-to n t i c (world_of p) _ x e (took-does n t i c (world_of p) c.operand (rw k))
  continued-does x (Continued.posts (inl k) m h) =
      post-does n t i c (world_of p) (fit-plant p w) (in-box (inl k)) (λ z. a-thread) x (inl k) h
  continued-does x (Continued.posts (inr k) m h) =
      post-does n t i c (world_of p) (fit-plant p w) (in-box (inr (inl k))) (λ z. a-thread) x (inr k) h
  continued-does x (Continued.fetches k m h) =
      fetch-does n t i c (world_of p) (fit-plant p w) (in-box (inr (inr k))) (λ z. a-thread) x k h
  continued-does x (Continued.takes k m e) =
      let there : c.object < p.sizes.pools = rw k at (((good p w).threads i f.thread).object call) in
      does-to n t i c (world_of p) _ x e
      (take-does n t i c (world_of p) (world_of p) (fit-plant p w) there k (calm-same (world_of p))
      (promise-stocked p (good p w) c.object there i f.thread f.is-ready k m refl))
  continued-does x (Continued.answers (inl o) e) =
      does-to n t i c (world_of p) _ x e
      (ends-calm n t i c (world_of p) (world_of p) (calm-same (world_of p)) ((world_of p).thread i).message 0
      (uncounted n t i c (record { message = ((world_of p).thread i).message; datum = 0 })
      (other-uncounted c.kind (((good p w).threads i f.thread).kind call) o)))
  continued-does x (Continued.answers (inr d) e) =
      does-to n t i c (world_of p) _ x e
      (ends-calm n t i c (world_of p) (world_of p) (calm-same (world_of p)) ((world_of p).thread i).message 0
      (no-event n t i c ((world_of p).thread i).message 0 (not-zero ((world_of p).thread i).message d)))

-- ---- which events come first

-- one event more, of a call that is continued
first_on : (es fs : List Event) → OwnFirst es → those is_own fs ≡ [] → OwnFirst (es ++ fs)
first_on es [] p z = rw (append-nil es) p
first_on es (f ∷ fs) OwnFirst.none z = OwnFirst.first f (rest (is_own f) refl z)
  where
    rest : (b : Bool) → is_own f ≡ b → those is_own (f ∷ fs) ≡ [] → those is_own fs ≡ []
    rest true e z = absurd (omega (arith, ap length (rw e at z)))
    rest false e z = rw e at z
first_on es (f ∷ fs) (OwnFirst.first e {es = gs} h) z = OwnFirst.first e (those-append is_own gs (f ∷ fs) ∙ rw (h, z))

-- a step's own call is one event at most
own_first : (n : ℕ) (t : Tables) (i : ℕ) (c : Call) (w x : World) (es : List Event) → Own n t i c w es x → OwnFirst es
own_first n t i c w x es (Own.over e f z) = subst OwnFirst (sym e) (one (is_counted c.kind && is_zero (answer_of x i).message) refl)
  where
    one : (b : Bool) → (is_counted c.kind && is_zero (answer_of x i).message) ≡ b → OwnFirst (events_of n t i c (answer_of x i))
    one true e = rw e (OwnFirst.first _ refl)
    one false e = rw e OwnFirst.none
own_first n t i c w x es (Own.on e m f z) = subst OwnFirst (sym e) OwnFirst.none

-- and a call that is continued is neither a reset nor a free nor an add
continued-kind : (k : ℕ) → CallKind k → (eqb k 18 || (eqb k 21 || eqb k 22)) ≡ false
continued-kind k (inl e) = rw e
continued-kind k (inr (inl e)) = rw e
continued-kind k (inr (inr (inl e))) = rw e
continued-kind k (inr (inr (inr (inl e)))) = rw e
continued-kind k (inr (inr (inr (inr (inl e))))) = rw e
continued-kind k (inr (inr (inr (inr (inr (inl l)))))) =
    rw (ne_eqb k 18 (λ z. omega (arith, z, l.1)), ne_eqb k 21 (λ z. omega (arith, z, l.1)), ne_eqb k 22 (λ z. omega (arith, z, l.1)))
continued-kind k (inr (inr (inr (inr (inr (inr e)))))) = rw e

continued-not-own : (n : ℕ) (t : Tables) (p : Plant) (w : Whole p.sizes p) (i : ℕ) (f : First (world_of p) i) (call : (thread_at p.kernel i).call.kind ≢ 0)
    (x : World) (es : List Event) → Own n t i (thread_at p.kernel i).call (world_of p) es x → those is_own es ≡ []
continued-not-own n t p w i f call x es (Own.over e g z) = rw e (one (is_counted (thread_at p.kernel i).call.kind && is_zero (answer_of x i).message) refl)
  where
    one : (b : Bool) → (is_counted (thread_at p.kernel i).call.kind && is_zero (answer_of x i).message) ≡ b
        → those is_own (events_of n t i (thread_at p.kernel i).call (answer_of x i)) ≡ []
    one true e = rw (e, ne_eqb i 255 (a-thread n t p w i f call), continued-kind (thread_at p.kernel i).call.kind (((good p w).threads i f.thread).kind call))
    one false e = rw e
continued-not-own n t p w i f call x es (Own.on e m g z) = rw e

-- ---- ONE STEP

-- the events of a moment from w to x, by these turns
record OfMoment (n : ℕ) (m : Moment) (is : List ℕ) (w x : World) : Type 0 where
  pub turns : Turns m is
  pub shown : Shown n m (in_turn (shown_by n m) is)
  pub own_first : OwnFirst (in_turn (shown_by n m) is)
  pub dealt : Dealt w (in_turn (shown_by n m) is) x

module _ (n : ℕ) (t : Tables) (c : Clock) (s : Step) (host : Host t c s) (e : (stepped t c s).outcome.code ≡ 0) where
  ok : (m : ℕ) → Broken t c s m → ⊥
  ok = unbroken t c s host e

  abbrev w₀ : World
  w₀ = found t

  abbrev j : ℕ
  j = s.caller

  abbrev mine : Call
  mine = own-call n t s

  fit_found : Fit w₀
  fit_found = subst Fit (found-is t) (fit-plant (started t s) (begun-whole t c s host (accepted t c s host e)))

  -- 2, 6, 9, 11, 12 and 14 are a thread's
  by-thread : KernelWait s.kind → j ≢ 255
  by-thread k z = ok 4 (Broken.wait z k)

  -- and so is a mailbox's or a pool's call that may sleep
  by-thread-later : BoxWait s.kind → s.timeout ≢ 0 → j ≢ 255
  by-thread-later k d z = ok 4 (Broken.box-wait z k d)

  in-boxes : 15 ≤ s.kind → s.kind ≤ 19 → s.object < t.sizes.mailboxes
  in-boxes a b = in-or-out s.object t.sizes.mailboxes (λ l. l) (λ l. absurd (ok 5 (Broken.mailbox a b l)))

  -- a row whose call does not count: it wakes, and finishes at once
  wakes-with : (m : ℤ) {k : ℕ} → s.kind ≡ k → is_counted k ≡ false → (v x : World) → Calm w₀ v → x ≡ ended v j m 0 → Does n t j mine w₀ x
  wakes-with m q u v x k z =
      does-to n t j mine w₀ (ended v j m 0) x z
      (ends-calm n t j mine w₀ v k m 0 (uncounted n t j mine (record { message = m; datum = 0 }) (rw q u)))

  wakes : {k : ℕ} → s.kind ≡ k → is_counted k ≡ false → (v x : World) → Calm w₀ v → x ≡ ended v j (pos 0) 0 → Does n t j mine w₀ x
  wakes = wakes-with (pos 0)

  -- or is kept otherwise than the step names it
  uncounted-as : {k : ℕ} → s.kind ≡ k → is_counted k ≡ false → (d : Call) → d.kind ≡ k → (x : World) → Does n t j d w₀ x → Does n t j mine w₀ x
  uncounted-as q u d z x =
      does-as n t j d mine w₀ x (λ a. uncounted n t j d a (rw z u) ∙ sym (uncounted n t j mine a (rw q u)))

  waits : {k : ℕ} → s.kind ≡ k → is_counted k ≡ false → KernelWait s.kind → (d : Call) → d.kind ≡ k → (st pl : ℕ) (x : World)
      → Waits w₀ j st pl d x → Does n t j mine w₀ x
  waits q u k d z st pl x h = uncounted-as q u d z x (waits-does n t j d w₀ st pl x (λ y. by-thread k) h)

  -- "counter above 0: less 1, answer 0"
  semaphore-does : (x : World) → s.kind ≡ 2 → SemaphoreWait w₀ j s.object (kept 2 s.object 0 s.timeout) x → Does n t j mine w₀ x
  semaphore-does x q (SemaphoreWait.above a z) = wakes q refl _ x (counter-calm w₀ _ refl refl refl refl refl refl) z
  semaphore-does x q (SemaphoreWait.not-above a h) = waits q refl (inl q) (kept 2 s.object 0 s.timeout) refl 3 s.object x h

  event-wait-does : (x : World) → s.kind ≡ 14 → EventWait w₀ j (kept 14 0 s.a s.timeout) x → Does n t j mine w₀ x
  event-wait-does x q (EventWait.finds a z) = does-to n t j mine w₀ _ x z (took-does n t j mine w₀ s.a (rw q))
  event-wait-does x q (EventWait.finds-none a h) =
      waits q refl (inr (inr (inr (inr (inr q))))) (kept 14 0 s.a s.timeout) refl 4 0 x h

  -- "Reset empties": what was in the mailbox is lost
  reset-does : (v u x : World) → s.kind ≡ 18 → Calm w₀ v → Calm v u
      → x ≡ ended (box_to u s.object (in_reset (w₀.box s.object))) j (pos 0) 0 → Does n t j mine w₀ x
  reset-does v u x q a b z =
      let o = s.object in
      let k = calm-on a b in
      let y = box_to u o (in_reset (w₀.box o)) in
      let ev : Event = record { step = n; who = j; kind = s.kind; object = o; value = (w₀.box o).positions.count } in
      does-to n t j mine w₀ _ x z
      (ends-does n t j mine w₀ u y (ev ∷ []) k refl refl refl
      (dealt-reset w₀ y ev k.sizes k.pools (λ i d. put_other u.box o i _ d ∙ ap (λ (f : ℕ → Mailbox). f i) k.boxes) q
      (ap (content (slots_of u o)) (put_same u.box o (in_reset (w₀.box o))))
      (sym (length-listed (message_at w₀ o) (w₀.box o).positions.count)))
      (pos 0) 0 (rw q))

  -- "resume clears the state", and no message
  mail-resume-does : (x : World) → s.kind ≡ 19 → x ≡ ended (box_to w₀ s.object (at_work (w₀.box s.object))) j (pos 0) 0 → Does n t j mine w₀ x
  mail-resume-does x q z =
      let o = s.object in
      let b = at_work (w₀.box o) in
      let y = box_to w₀ o b in
      let same : (i : ℕ) → in_box y i ≡ in_box w₀ i = λ i.
      same_or i o
      (λ d. subst (λ (r : ℕ). in_box y r ≡ in_box w₀ r) (sym d) (ap (content (slots_of w₀ o)) (put_same w₀.box o b)))
      (λ d. ap (content (slots_of w₀ i)) (put_other w₀.box o i b d)) in
      does-to n t j mine w₀ _ x z
      (ends-does n t j mine w₀ w₀ y [] (calm-same w₀) refl refl refl (dealt-still w₀ y refl same refl) (pos 0) 0
      (sym (uncounted n t j mine (record { message = pos 0; datum = 0 }) (rw q))))

  -- a counter above 0 has an object
  some-object : 20 ≤ s.kind → s.kind ≤ 22 → lt_z (pos 0) (w₀.counter (16 + s.object)) ≡ true → 0 < (w₀.pool s.object).length
  some-object a b x =
      above (w₀.pool s.object).length (number (is_promised w₀ s.object) t.sizes.threads) (w₀.counter (16 + s.object)) x
      ((together t c s host e).pools s.object (pool-there t c s host e a b)).promises
    where
      above : (l k : ℕ) (m : ℤ) → lt_z (pos 0) m ≡ true → l ≡ larger m + k → 0 < l
      above l k (pos zero) x z = contrary x refl
      above l k (pos (suc m)) x z = omega (arith, z)
      above l k (negsuc m) x z = contrary x refl

  alloc-does : (x : World) → s.kind ≡ 20 → Alloc w₀ j (kept 20 s.object 0 s.timeout) x → Does n t j mine w₀ x
  alloc-does x q h = does-as n t j d mine w₀ x (λ a. rw q) (by h)
    where
      d : Call
      d = kept 20 s.object 0 s.timeout

      by : Alloc w₀ j d x → Does n t j d w₀ x
      by (Alloc.above a z) =
          does-to n t j d w₀ _ x z
          (take-does n t j d w₀ _ fit_found (pool-there t c s host e (omega (arith, q)) (omega (arith, q))) refl (counter-calm w₀ _ refl refl refl refl refl refl)
          (some-object (omega (arith, q)) (omega (arith, q)) a))
      by (Alloc.not-above a h) =
          waits-does n t j d w₀ 3 (16 + s.object) x (by-thread-later (inr (inr (inr q)))) h

  -- "Free and add put the object on top"
  abbrev put_back : Event
  put_back = record { step = n; who = j; kind = s.kind; object = s.object; value = s.a }

  module _ (puts : (s.kind ≡ 21) ⊎ (s.kind ≡ 22)) (v : World) (k : Calm w₀ v) where
    small : s.a ≤ 31
    small = in-or-out 31 s.a (λ l. absurd (ok 6 (Broken.pool-object puts l))) (λ l. l)

    a-pool : s.object < t.sizes.pools
    a-pool =
        elim puts [
          | inl k ↦ pool-there t c s host e (omega (arith, k)) (omega (arith, k))
          | inr k ↦ pool-there t c s host e (omega (arith, k)) (omega (arith, k))
        ]

    abbrev topped : World
    topped = pool_to v s.object (on_top (w₀.pool s.object) s.a)

    topped-now : topped.pool s.object ≡ on_top (w₀.pool s.object) s.a
    topped-now = put_same v.pool s.object (on_top (w₀.pool s.object) s.a)

    topped-others : (q : ℕ) → q ≢ s.object → topped.pool q ≡ w₀.pool q
    topped-others q d = put_other v.pool s.object q _ d ∙ ap (λ (f : ℕ → Pool). f q) k.pools

    topped-rest : (a : ℕ) → a ≢ s.a → mark_in topped s.object a ≡ mark_in w₀ s.object a
    topped-rest a d =
        ap (λ (p : Pool). get_or p.marks a 0) topped-now ∙ get_or-set_other (w₀.pool s.object).marks s.a a 1 0 d

    topped-mark : mark_in topped s.object s.a ≡ 1
    topped-mark =
        ap (λ (p : Pool). get_or p.marks s.a 0) topped-now
        ∙ get_or-set_same (w₀.pool s.object).marks s.a 1 0 (rw (fit_found.marks s.object a-pool) (omega (arith, small)))

    is-event : put_back ∷ [] ≡ events_of n t j mine (record { message = pos 0; datum = 0 })
    is-event = elim puts [ inl e ↦ rw e | inr e ↦ rw e ]

    put-does : (x : World) → Dealt w₀ (put_back ∷ []) topped → x ≡ ended topped j (pos 0) 0 → Does n t j mine w₀ x
    put-does x dealt z = does-to n t j mine w₀ _ x z (ends-does n t j mine w₀ v topped (put_back ∷ []) k refl refl refl dealt (pos 0) 0 is-event)

    -- which is out, if it is freed
    free-does : (x : World) → s.kind ≡ 21 → x ≡ ended topped j (pos 0) 0 → Does n t j mine w₀ x
    free-does x q =
        let was : mark_in w₀ s.object s.a ≡ 2 = same_or (mark_in w₀ s.object s.a) 2 (λ y. y) (λ d. absurd (ok 7 (Broken.free q small d))) in
        put-does x (dealt-freed w₀ topped put_back k.sizes k.boxes topped-others topped-rest q was topped-mark)

    -- and absent, if it is added
    add-does : (x : World) → s.kind ≡ 22 → x ≡ ended topped j (pos 0) 0 → Does n t j mine w₀ x
    add-does x q =
        let was : mark_in w₀ s.object s.a ≡ 0 = same_or (mark_in w₀ s.object s.a) 0 (λ y. y) (λ d. absurd (ok 7 (Broken.add q small d))) in
        put-does x (dealt-added w₀ topped put_back k.sizes k.boxes topped-others topped-rest q was topped-mark)

  -- a mailbox's call, as the step names it
  post-own : (k : ℕ) (x : World) → s.kind ≡ k → IsPost k → Post w₀ j (kept k s.object s.a s.timeout) x → Does n t j mine w₀ x
  post-own k x q p h =
      let d = kept k s.object s.a s.timeout in
      does-as n t j d mine w₀ x (λ a. rw q)
      (post-does n t j d w₀ fit_found (in-boxes (low q p) (high q p)) (by-thread-later (later q p)) x p h)
    where
      low : s.kind ≡ k → IsPost k → 15 ≤ s.kind
      low q (inl e) = omega (arith, q, e)
      low q (inr e) = omega (arith, q, e)

      high : s.kind ≡ k → IsPost k → s.kind ≤ 19
      high q (inl e) = omega (arith, q, e)
      high q (inr e) = omega (arith, q, e)

      later : s.kind ≡ k → IsPost k → BoxWait s.kind
      later q (inl e) = inl (q ∙ e)
      later q (inr e) = inr (inl (q ∙ e))

  fetch-own : (x : World) → s.kind ≡ 17 → Fetch w₀ j (kept 17 s.object 0 s.timeout) x → Does n t j mine w₀ x
  fetch-own x q h =
      let d = kept 17 s.object 0 s.timeout in
      does-as n t j d mine w₀ x (λ a. rw q)
      (fetch-does n t j d w₀ fit_found (in-boxes (omega (arith, q)) (omega (arith, q))) (by-thread-later (inr (inr (inl q)))) x refl h)

  -- EACH ROW OF THE TABLE
  act-does : {k : ℕ} → s.kind ≡ k → (x : World) → Act t c.time s x k → Does n t j mine w₀ x
  act-does q x (Act.tick v h z) = wakes q refl v x (ticks-calm t.sizes.threads w₀ v h) z
  act-does q x (Act.semaphore-wait h) = semaphore-does x q h
  act-does q x (Act.signal v b h z) = wakes-with _ q refl v x (signal-calm h) z
  act-does q x (Act.reset v h z) =
      wakes q refl _ x
      (calm-on (release-all-calm w₀ s.object (negsuc 1) 7 t.sizes.threads v h) (counter-calm v _ refl refl refl refl refl refl)) z
  act-does q x (Act.binary-signal v h z) = wakes q refl v x (binary-calm h) z
  act-does q x (Act.queue-wait h) = waits q refl (inr (inl q)) (kept 6 s.object 0 s.timeout) refl 3 (20 + s.object) x h
  act-does q x (Act.release-first v h z) = wakes q refl v x (release-calm h) z
  act-does q x (Act.release-all v h z) =
      wakes q refl v x (release-all-calm w₀ (20 + s.object) (signed s.a) 2 t.sizes.threads v h) z
  act-does q x (Act.suspend h) = waits q refl (inr (inr (inl q))) (kept 9 s.object 0 s.timeout) refl 2 s.object x h
  act-does q x (Act.resume v h z) = wakes q refl v x (resume-calm h) z
  act-does q x (Act.sleep-for z) =
      let d = kept 11 0 0 s.timeout in
      uncounted-as q refl d refl x (does-to n t j d w₀ _ x z (sleeps-does n t j d w₀ 1 0 (by-thread (inr (inr (inr (inl q)))))))
  act-does q x (Act.sleep-until z) =
      let d = kept 12 0 s.a ((s.a + (4294967296 - c.time.0)) % 4294967296) in
      uncounted-as q refl d refl x (does-to n t j d w₀ _ x z (sleeps-does n t j d w₀ 1 0 (by-thread (inr (inr (inr (inr (inl q))))))))
  act-does q x (Act.event-signal v h z) = wakes q refl v x (event-calm h) z
  act-does q x (Act.event-wait h) = event-wait-does x q h
  act-does q x (Act.post h) = post-own 15 x q (inl refl) h
  act-does q x (Act.post-ahead h) = post-own 16 x q (inr refl) h
  act-does q x (Act.fetch h) = fetch-own x q h
  act-does q x (Act.mailbox-reset v u h g z) =
      reset-does v u x q (release-all-calm w₀ (28 + s.object) (negsuc 1) 7 t.sizes.threads v h)
      (release-all-calm v (32 + s.object) (negsuc 1) 7 t.sizes.threads u g) z
  act-does q x (Act.mailbox-resume z) = mail-resume-does x q z
  act-does q x (Act.alloc h) = alloc-does x q h
  act-does q x (Act.free v b h z) = free-does (inl q) v (signal-calm h) x q z
  act-does q x (Act.add v b h z) = add-does (inr q) v (signal-calm h) x q z

  -- the step's own call, and then each that is continued
  abbrev pub Told : World → List ℕ → Type 0
  Told x is = (es : List Event) × Dealt w₀ es x × Seen n t s x es × OwnFirst es × (es ≡ in_turn (λ i. those (is_of i) es) is)

  pub act-told : Told (world_of (acted (started t s) c.time s)) (j ∷ [])
  act-told =
      let x = world_of (acted (started t s) c.time s) in
      let d = act-does refl x (act t c s host e) in
      let mine-alone = did-own n t j mine w₀ x d.0 d.1.own in (
        d.0,
        d.1.dealt,
        act-seen n t s (λ z. (caller-first t c s host e z).thread) x d.0 d.1,
        own_first n t j mine w₀ x d.0 d.1.own,
        sym (append-nil (those (is_of j) d.0) ∙ mine-alone),
      )

  pub continue-told : (p : Plant) → Whole p.sizes p → (i : ℕ) → First (world_of p) i → (thread_at p.kernel i).call.kind ≢ 0 → (x : World)
      → Continued (world_of p) i x → (is : List ℕ) → Told (world_of p) is → Told x (is ++ (i ∷ []))
  continue-told p w i f call x g is (es, d, seen, firsts, so) =
      let k = continued-does n t p w i f call x g in
      let inside : i < t.sizes.threads = rw d.sizes at f.thread in (
        es ++ k.0,
        dealt-both w₀ (world_of p) x es k.0 d k.1.dealt,
        seen-on n t s (world_of p) x es k.0 seen i (a-thread n t p w i f call) inside call k.1,
        first_on es k.0 firsts (continued-not-own n t p w i f call x k.0 k.1.own),
        turn_on n t s (world_of p) x es k.0 seen i (a-thread n t p w i f call) inside call k.1 is so,
      )

  abbrev x₁ : World
  x₁ = world_of (h t c s host)

  -- whose turns they are
  abbrev by-turns : List ℕ
  by-turns = j ∷ order t c s host

  step-told : Told x₁ by-turns
  step-told =
      settled-turns Told continue-told (budget_of t.sizes.threads) (acted (started t s) c.time s)
      (own t c s host (accepted t c s host e) (acted-whole t c s host (accepted t c s host e))) (j ∷ []) act-told

  -- what is seen in the world where settling has ended is what the result shows
  abbrev ending : Stepped → Moment
  ending r = record { before = t; clock = c; step = s; result = r.outcome; after = r.tables }

  done-shown : (es : List Event) → Seen n t s x₁ es → Shown n (ending (done_with (h t c s host) c s)) es
  unfolding done_with outcome_of
  done-shown es seen i =
      let r = result-is (h t c s host) (settled-whole t c s host (accepted t c s host e)) s.caller in
      same_or i 255
      (λ z. rw z (seen.interrupt ∙ shown-interrupt))
      (λ z.
      in-or-out i t.sizes.threads
      (λ l. rw (ne_eqb i 255 z, lt-ltb i t.sizes.threads l, bit_in _ i (x₁.finished i) (r.finished i)) (seen.thread i z))
      (λ l. rw (ne_eqb i 255 z, le-ltb i t.sizes.threads l) (rw (seen.within i z l) at (seen.thread i z))))
    where
      shown-interrupt : cond (eqb j 255) (events_of n t 255 mine x₁.answer) []
          ≡ cond (eqb j 255) (events_of n t 255 (call_in n t s 255) (record {
            message = (outcome_of (h t c s host).kernel j).message;
            datum = (outcome_of (h t c s host).kernel j).datum;
          })) []
      shown-interrupt = split (eqb j 255) (λ z. rw z) (λ z. rw z)

  -- ALL THAT AN ACCEPTED STEP DOES
  accepted-told : OfMoment n (moment_of t c s) by-turns (found t) (found (stepped t c s).tables)
  unfolding done_with
  accepted-told =
      let es = step-told.0 in
      let k = h t c s host in
      let m = moment_of t c s in
      let back = sym (step-done t c s e) in
      let shown : Shown n m es = subst (λ (r : Stepped). Shown n (ending r) es) back (done-shown es step-told.2) in
      let dealt : Dealt w₀ es (found (stepped t c s).tables) =
      subst (λ (r : Stepped). Dealt w₀ es (found r.tables)) back (dealt-as w₀ x₁ (found (closed k)) es refl refl refl step-told.1) in
      let so : es ≡ in_turn (shown_by n m) by-turns = step-told.4 ∙ turns_same (λ i. those (is_of i) es) (shown_by n m) shown by-turns in
      record {
        turns = Turns.accepted e (world_of (acted (started t s) c.time s)) x₁ (order t c s host) (act t c s host e) (settles-so t c s host (accepted t c s host e));
        shown = subst (Shown n m) so shown;
        own_first = subst OwnFirst so step-told.3;
        dealt = subst (λ (fs : List Event). Dealt w₀ fs (found (stepped t c s).tables)) so dealt;
      }

  -- and no bit of the result stands for anybody but a thread
  pub finished-within : (i : ℕ) → i ≢ 255 → t.sizes.threads ≤ i → in_mask i (stepped t c s).outcome.finished ≡ false
  unfolding done_with outcome_of
  finished-within i z l =
      let r = result-is (h t c s host) (settled-whole t c s host (accepted t c s host e)) s.caller in
      subst (λ (q : Stepped). in_mask i q.outcome.finished ≡ false) (sym (step-done t c s e))
      (rw (bit_in _ i (x₁.finished i) (r.finished i)) (step-told.2.within i z l))

-- ---- A RUN

-- a refused step shows nothing, and leaves the tables
refused-shown : (n : ℕ) (m : Moment) → m.result.code ≢ 0 → Shown n m []
refused-shown n m d i = rw (ne_eqb m.result.code 0 d)

-- whose calls are at work in a step, in their order
unfoldable pub turns_of : Tables → Clock → Step → List ℕ
turns_of t c s =
    cond (eqb (stepped t c s).outcome.code 0) (s.caller ∷ turns (budget_of t.sizes.threads) (acted (started t s) c.time s)) []

-- THE EVENTS OF A RUN, its first step the n-th, computed
unfoldable pub events_in : ℕ → Tables → Clock → List Step → List Event
events_in n t c [] = []
events_in n t c (s ∷ ss) =
    in_turn (shown_by n (moment_of t c s)) (turns_of t c s) ++ events_in (suc n) (stepped t c s).tables (stepped t c s).clock ss

step-recorded : (n : ℕ) (t : Tables) (c : Clock) → Going t c → (s : Step) → HostStep s
    → OfMoment n (moment_of t c s) (turns_of t c s) (found t) (found (stepped t c s).tables)
unfolding turns_of
step-recorded n t c g s x =
    let m = moment_of t c s in
    let u = (stepped t c s).tables in
    same_or (stepped t c s).outcome.code 0
    (λ e. rw (eq-eqb (stepped t c s).outcome.code 0 e) (accepted-told n t c s (host t c g s x) e))
    (λ d.
    let same : u ≡ t = (step-refused t c s d).tables in
    rw (ne_eqb (stepped t c s).outcome.code 0 d)
    (record {
      turns = Turns.refused d;
      shown = refused-shown n m d;
      own_first = OwnFirst.none;
      dealt = subst (λ (v : Tables). Dealt (found t) [] (found v)) (sym same) (dealt-none (found t) (found t) refl refl refl);
    }))

-- are its history, and make of mailboxes and pools what it makes of them
pub recorded : (ss : List Step) → HostSteps ss → (n : ℕ) (t : Tables) (c : Clock) → Going t c
    → History n (moments t c ss) (events_in n t c ss) × Dealt (found t) (events_in n t c ss) (found (ran t c ss).tables)
unfolding events_in
recorded [] hs n t c g = (History.none, dealt-none (found t) (found t) refl refl refl)
recorded (s ∷ ss) (HostSteps.more x hs) n t c g =
    let u = (stepped t c s).tables in
    let d = (stepped t c s).clock in
    let rest = recorded ss hs (suc n) u d (going_on t c g s x) in
    let now = step-recorded n t c g s x in
    let es = in_turn (shown_by n (moment_of t c s)) (turns_of t c s) in (
      History.more (turns_of t c s) (events_in (suc n) u d ss) now.turns now.shown now.own_first rest.0,
      dealt-both (found t) (found u) (found (ran u d ss).tables) es (events_in (suc n) u d ss) now.dealt rest.1,
    )
