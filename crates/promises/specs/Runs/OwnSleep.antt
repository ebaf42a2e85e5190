-- A thread that an accepted step of its own leaves asleep sleeps in that step's call, with the step's timeout, all of it still to come. Each
-- row of the table either ends the caller's call or puts the caller to sleep in it; and a call that is tried again keeps its fields.
use Rattle.std.specs.Prelude.{ℕ, ◌+◌, ◌-◌, ◌%◌, ◌<◌, ◌≡◌, refl, ◌≢◌, Bool, cond, eqb, ℤ, pos}
use Rattle.std.proofs.Common.{arith, sym, ap, ◌∙◌, subst, inl, inr, ne_eqb, eq-eqb}
use Rattle.kernel.specs.declared.clock.Clock.{Clock}
use Rattle.kernel.specs.declared.time.SystemTime.{SystemTime}
use Rattle.kernel.specs.declared.records.Call.{Call}
use Rattle.kernel.specs.declared.records.Thread.{Thread}
use Rattle.kernel.proofs.Cases.{same_or}
use Rattle.library.specs.declared.calls.Step.{Step}
use Rattle.library.specs.declared.tables.Tables.{Tables}
use Rattle.steps.specs.Stepping.{stepped}
use Rattle.promises.specs.Paper.World.{World, found, ended, asleep, fall_asleep, kept}
use Rattle.promises.specs.Paper.Host.{Host}
use Rattle.promises.specs.Paper.Rows.{Waits, SemaphoreWait, EventWait, Post, Fetch, Alloc, Act}
use Rattle.promises.specs.Paper.Waking.{row_of, span_of, FellAsleep, ReadyAfter, WakerAfter}
use Rattle.promises.specs.Paper.Run.{begun_with}
use Rattle.promises.specs.Paper.Together.{WaitFits}
use Rattle.promises.specs.Runs.Keeping.{put_same, KeepsOn}
use Rattle.promises.specs.Runs.OneRow.{ended-own, Stands, Steady, row_on, mail-other}
use Rattle.promises.specs.Runs.Accepted.{act, few}
use Rattle.promises.specs.Runs.OneStep.{rows-after, waker-after, woken-after}

module _ (t : Tables) (now : SystemTime) (s : Step) (i : ℕ) (someone : i ≢ 255) where
  -- a record whose call is unfinished has it from the step, and its ticks if it sleeps
  pub record OwnCall (b : Thread) : Type 0 where
    pub kind : b.call.kind ≡ s.kind
    pub timeout : b.call.timeout ≡ span_of now s
    pub ticks : b.state ≢ 0 → b.remaining ≡ cond (eqb (span_of now s) 4294967295) 0 (span_of now s)

  abbrev P : Thread → Bool → Bool → Type 0
  P b w f = b.call.kind ≢ 0 → OwnCall b

  abbrev pub Owned : World → Type 0
  Owned = Stands t s i someone P

  -- its call has ended
  owned-end : (w : World) (m : ℤ) (d : ℕ) → Owned (ended w i m d)
  owned-end w m d n = absurd (n (ap (λ (b : Thread). b.call.kind) (ended-own w i m d someone)))

  -- it sleeps in a call of the step's kind and timeout
  owned-sleep : (w : World) (st pl : ℕ) (c : Call) → c.kind ≡ s.kind → c.timeout ≡ span_of now s → Owned (fall_asleep w i st pl c)
  owned-sleep w st pl c k d n =
      let e = put_same w.thread i (asleep (w.thread i) st pl c) in
      rw e (record { kind = k; timeout = d; ticks = λ x. rw d })

  owned-keeps : KeepsOn t s (Steady t s i someone P)
  owned-keeps =
      row_on t s i someone P
      (record {
        wakes = λ m b n c o k. let b = o k in record { kind = b.kind; timeout = b.timeout; ticks = λ x. absurd (x refl) };
        ends_on = λ m d z n e o k. absurd (k refl);
        takes-on = λ z k m o n. absurd (n refl);
        sleeps-on = λ q z g m e u o k. let b = o k in record { kind = b.kind; timeout = b.timeout; ticks = λ x. rw b.timeout };
      })

  -- ---- the rows

  module _ (caller : s.caller ≡ i) where
    to : {x y : World} → x ≡ y → Owned y → Owned x
    to e o = subst Owned (sym e) o

    done : {x : World} (v : World) (m : ℤ) (d : ℕ) → x ≡ ended v s.caller m d → Owned x
    done v m d e = to e (subst (λ (k : ℕ). Owned (ended v k m d)) (sym caller) (owned-end v m d))

    -- a call with the step's kind and timeout
    module _ (c : Call) (k : c.kind ≡ s.kind) (d : c.timeout ≡ span_of now s) where
      sleeps : {x : World} (w : World) (st pl : ℕ) → x ≡ fall_asleep w s.caller st pl c → Owned x
      sleeps w st pl e = to e (subst (λ (j : ℕ). Owned (fall_asleep w j st pl c)) (sym caller) (owned-sleep w st pl c k d))

      waits : {w x : World} {st pl : ℕ} → Waits w s.caller st pl c x → Owned x
      waits {w} (Waits.now a e) = done w _ 0 e
      waits {w} {x} {st} {pl} (Waits.later a e) = sleeps w st pl e

      post : {w x : World} → Post w s.caller c x → Owned x
      post {w} (Post.in-reset a e) = done w _ 0 e
      post (Post.behind a l b v r e) = done _ (pos 0) 0 e
      post (Post.ahead a l b v r e) = done _ (pos 0) 0 e
      post (Post.no_room a l h) = waits h

      fetch : {w x : World} → Fetch w s.caller c x → Owned x
      fetch {w} (Fetch.in-reset a e) = done w _ 0 e
      fetch (Fetch.message a l v r e) = done _ (pos 0) _ e
      fetch (Fetch.no-message a l h) = waits h

      alloc : {w x : World} → Alloc w s.caller c x → Owned x
      alloc (Alloc.above a e) = done _ (pos 0) _ e
      alloc (Alloc.not-above a h) = waits h

      semaphore : {w x : World} {p : ℕ} → SemaphoreWait w s.caller p c x → Owned x
      semaphore (SemaphoreWait.above a e) = done _ (pos 0) 0 e
      semaphore (SemaphoreWait.not-above a h) = waits h

      event-wait : {w x : World} → EventWait w s.caller c x → Owned x
      event-wait (EventWait.finds a e) = done _ (pos 0) _ e
      event-wait (EventWait.finds-none a h) = waits h

    span : {n : ℕ} → s.kind ≡ n → n ≢ 12 → s.timeout ≡ span_of now s
    span k n = rw (ne_eqb s.kind 12 (λ e. n (sym k ∙ e)))

    row-owned : {n : ℕ} → s.kind ≡ n → {x : World} → Act t now s x n → Owned x
    row-owned q (Act.tick v h e) = done v (pos 0) 0 e
    row-owned q (Act.semaphore-wait h) = semaphore (kept 2 s.object 0 s.timeout) (sym q) (span q (λ x. omega arith)) h
    row-owned q (Act.signal v b h e) = done v _ 0 e
    row-owned q (Act.reset v h e) = done _ (pos 0) 0 e
    row-owned q (Act.binary-signal v h e) = done v (pos 0) 0 e
    row-owned q (Act.queue-wait h) = waits (kept 6 s.object 0 s.timeout) (sym q) (span q (λ x. omega arith)) h
    row-owned q (Act.release-first v h e) = done v (pos 0) 0 e
    row-owned q (Act.release-all v h e) = done v (pos 0) 0 e
    row-owned q (Act.suspend h) = waits (kept 9 s.object 0 s.timeout) (sym q) (span q (λ x. omega arith)) h
    row-owned q (Act.resume v h e) = done v (pos 0) 0 e
    row-owned q (Act.sleep-for e) = sleeps (kept 11 0 0 s.timeout) (sym q) (span q (λ x. omega arith)) (found t) 1 0 e
    row-owned q (Act.sleep-until e) =
        sleeps (kept 12 0 s.a ((s.a + (4294967296 - now.0)) % 4294967296)) (sym q) (rw q) (found t) 1 0 e
    row-owned q (Act.event-signal v h e) = done v (pos 0) 0 e
    row-owned q (Act.event-wait h) = event-wait (kept 14 0 s.a s.timeout) (sym q) (span q (λ x. omega arith)) h
    row-owned q (Act.post h) = post (kept 15 s.object s.a s.timeout) (sym q) (span q (λ x. omega arith)) h
    row-owned q (Act.post-ahead h) = post (kept 16 s.object s.a s.timeout) (sym q) (span q (λ x. omega arith)) h
    row-owned q (Act.fetch h) = fetch (kept 17 s.object 0 s.timeout) (sym q) (span q (λ x. omega arith)) h
    row-owned q (Act.mailbox-reset v u h g e) = done _ (pos 0) 0 e
    row-owned q (Act.mailbox-resume e) = done _ (pos 0) 0 e
    row-owned q (Act.alloc h) = alloc (kept 20 s.object 0 s.timeout) (sym q) (span q (λ x. omega arith)) h
    row-owned q (Act.free v b h e) = done _ (pos 0) 0 e
    row-owned q (Act.add v b h e) = done _ (pos 0) 0 e

-- WHO FALLS ASLEEP IN A STEP OF ITS OWN
module _ (t : Tables) (c : Clock) (s : Step) (host : Host t c s) (e : (stepped t c s).outcome.code ≡ 0) where
  pub fell-asleep : s.caller < t.sizes.threads → (row_of (stepped t c s).tables s.caller).call.kind ≢ 0
      → (row_of (stepped t c s).tables s.caller).state ≢ 0 → FellAsleep c.time s (row_of (stepped t c s).tables s.caller)
  fell-asleep l k n =
      let someone : s.caller ≢ 255 = λ z. absurd (omega (arith, z, l, few t c s host e)) in
      let i = s.caller in
      let o = rows-after t c s host e i (λ b. b.call.kind ≢ 0 → OwnCall t c.time s i someone b) (owned-keeps t c.time s i someone)
      (row-owned t c.time s i someone refl refl (act t c s host e)) k in
      record { kind = o.kind; timeout = o.timeout; ticks = o.ticks n }

  -- a thread that is not ready has a call
  calls : {a : Thread} → WaitFits a → a.state ≢ 0 → a.call.kind ≢ 0
  calls (WaitFits.ready x p) n z = n x
  calls (WaitFits.sleeps (inl x) b p) n z = omega (arith, x, z)
  calls (WaitFits.sleeps (inr x) b p) n z = omega (arith, x, z)
  calls (WaitFits.reference x b p) n z = omega (arith, x, z)
  calls (WaitFits.semaphore x b p) n z = omega (arith, x, z)
  calls (WaitFits.pool x b p) n z = omega (arith, x, z)
  calls (WaitFits.queue x b p) n z = omega (arith, x, z)
  calls (WaitFits.writer (inl x) b p) n z = omega (arith, x, z)
  calls (WaitFits.writer (inr x) b p) n z = omega (arith, x, z)
  calls (WaitFits.reader x b p) n z = omega (arith, x, z)
  calls (WaitFits.events x b p) n z = omega (arith, x, z)

  -- THE TIMEOUT OF A SLEEP THAT BEGINS IN THE STEP, of its own call or of a mailbox call that was tried again
  pub begun-timeout : (i : ℕ) → i < t.sizes.threads → (row_of t i).state ≡ 0 → (row_of (stepped t c s).tables i).state ≢ 0
      → WaitFits (row_of (stepped t c s).tables i) → (row_of (stepped t c s).tables i).call.timeout ≡ begun_with t c s i
  begun-timeout i l z n fit =
      let u = (stepped t c s).tables in
      same_or s.caller i
      (λ x. rw (eq-eqb s.caller i x)
      (subst (λ (j : ℕ). (row_of u j).call.timeout ≡ span_of c.time s) x
      (fell-asleep (subst (λ (j : ℕ). j < t.sizes.threads) (sym x) l) (subst (λ (j : ℕ). (row_of u j).call.kind ≢ 0) (sym x) (calls fit n))
      (subst (λ (j : ℕ). (row_of u j).state ≢ 0) (sym x) n)).timeout))
      (λ x. rw (ne_eqb s.caller i x) (waked (waker-after t c s host e i l z) x))
    where
      again : {b : Thread} {w f : Bool} → ReadyAfter t s i b w f → b.state ≢ 0 → b.call.timeout ≡ (row_of t i).call.timeout
      again (ReadyAfter.on x p q) k = ap (λ (u : Thread). u.call.timeout) x
      again (ReadyAfter.done y d f a x p q) k = absurd (k (ap (λ (u : Thread). u.state) x))
      again (ReadyAfter.again pl side m x p q) k = ap (λ (u : Thread). u.call.timeout) x
      again (ReadyAfter.ready-again pl o side m by x p q) k = absurd (k (ap (λ (u : Thread). u.state) x))
      again (ReadyAfter.done-again pl o y d side m by a x p q) k = absurd (k (ap (λ (u : Thread). u.state) x))

      waked : {w : Bool} → WakerAfter t s i (row_of (stepped t c s).tables i) w → s.caller ≢ i
          → (row_of (stepped t c s).tables i).call.timeout ≡ (row_of t i).call.timeout
      waked (WakerAfter.unwoken a p) x = absurd (n a)
      waked (WakerAfter.own-sleep o st pl w a) x = absurd (x o)
      waked (WakerAfter.tried-again b m a) x = again (woken-after t c s host e i l z (λ k. (mail-other b).1 k)) n
