-- The cause of a waking follows from where the thread waited, and from the step: no step leaves a choice.
use Rattle.std.specs.Prelude.{ℕ, ◌+◌, ◌≤◌, ◌<◌, ◌≡◌, refl, ◌≢◌, true, false, cond, eqb, ltb, ℤ, pos}
use Rattle.std.proofs.Common.{arith, sym, ap, ◌∙◌, subst, inl, inr, eq-eqb, ne_eqb, lt-ltb, le-ltb}
use Rattle.kernel.specs.declared.clock.Clock.{Clock}
use Rattle.kernel.specs.declared.records.Call.{Call}
use Rattle.kernel.specs.declared.records.Thread.{Thread}
use Rattle.kernel.proofs.Cases.{same_or}
use Rattle.library.specs.declared.calls.Step.{Step}
use Rattle.library.specs.declared.sizes.Sizes.{Sizes}
use Rattle.library.specs.declared.tables.Tables.{Tables}
use Rattle.steps.specs.Stepping.{stepped}
use Rattle.promises.specs.Paper.World.{found, First}
use Rattle.promises.specs.Paper.Host.{Host}
use Rattle.promises.specs.Paper.Together.{CallFits}
use Rattle.promises.specs.Paper.Waking.{row_of, IsMailing, Tried, Served, CalledOut, WokenBy, OwnWait}
use Rattle.promises.specs.Paper.Causes.{FallsAt, cause_fell, resets_at, queue_cause, cause_for, message_by}
use Rattle.promises.specs.Runs.Accepted.{together, caller-first, semaphore-there, queue-there, mailbox-there, pool-there, someone, fits}
use Rattle.promises.specs.Runs.OneRow.{mail-other, not-mail}

-- the cause by state and place
abbrev called_cause : Step → ℕ → ℕ → ℕ
called_cause s state p = cond (eqb state 4) 4 (cond (eqb state 2) 3 (queue_cause s p))

-- a mailbox call that a record keeps is of a mailbox that is there
mail-there : {z : Sizes} {c : Call} → CallFits z c → IsMailing c.kind → c.object < z.mailboxes
mail-there (CallFits.none e) g = absurd ((mail-other g).1 (ap (λ (c : Call). c.kind) e))
mail-there (CallFits.semaphore x o a b) g = absurd (not-mail x (λ y. omega arith) (λ y. omega arith) (λ y. omega arith) g)
mail-there (CallFits.queue x o a b) g = absurd (not-mail x (λ y. omega arith) (λ y. omega arith) (λ y. omega arith) g)
mail-there (CallFits.reference x o a b) g = absurd (not-mail x (λ y. omega arith) (λ y. omega arith) (λ y. omega arith) g)
mail-there (CallFits.sleep-for x o a b) g = absurd (not-mail x (λ y. omega arith) (λ y. omega arith) (λ y. omega arith) g)
mail-there (CallFits.sleep-until x o b) g = absurd (not-mail x (λ y. omega arith) (λ y. omega arith) (λ y. omega arith) g)
mail-there (CallFits.events x o b) g = absurd (not-mail x (λ y. omega arith) (λ y. omega arith) (λ y. omega arith) g)
mail-there (CallFits.post x o b) g = o
mail-there (CallFits.fetch x o a b) g = o
mail-there (CallFits.alloc x o a b) g = absurd (not-mail x (λ y. omega arith) (λ y. omega arith) (λ y. omega arith) g)

mail-kinds : {n : ℕ} → IsMailing n → (15 ≤ n) × (n ≤ 19)
mail-kinds (inl (inl e)) = (omega arith, omega arith)
mail-kinds (inl (inr e)) = (omega arith, omega arith)
mail-kinds (inr e) = (omega arith, omega arith)

-- a place that is at neither side of the mailbox that the step resets
not-reset : (s : Step) (p : ℕ) → (s.kind ≡ 18 → p ≢ 28 + s.object) → (s.kind ≡ 18 → p ≢ 32 + s.object) → resets_at s p ≡ false
not-reset s p a b =
    same_or s.kind 18 (λ k. rw (k, ne_eqb p (28 + s.object) (a k), ne_eqb p (32 + s.object) (b k))) (λ d. rw (ne_eqb s.kind 18 d))

module _ (t : Tables) (c : Clock) (s : Step) (host : Host t c s) (e : (stepped t c s).outcome.code ≡ 0) where
  few : (t.sizes.semaphores ≤ 16) × (t.sizes.queues ≤ 8) × (t.sizes.mailboxes ≤ 4) × (t.sizes.pools ≤ 4)
  few = let z = (together t c s host e).sizes in (z.semaphores, z.queues, z.mailboxes, z.pools)

  tried-there : {n b : ℕ} → IsMailing n → Tried t s n b → b < 4
  tried-there g (Tried.own k o) = omega (arith, o, few.2, mailbox-there t c s host e (rw k (mail-kinds g).0) (rw k (mail-kinds g).1))
  tried-there g (Tried.kept j l k o) = omega (arith, o, few.2, mail-there (fits t c s host e j l).call (subst IsMailing (sym k) g))

  reset-there : s.kind ≡ 18 → s.object < 4
  reset-there k = omega (arith, few.2, mailbox-there t c s host e (omega (arith, k)) (omega (arith, k)))

  at-semaphore : (p : ℕ) → 2 ≤ s.kind → s.kind ≤ 5 → p ≡ s.object → ltb p 16 ≡ true
  at-semaphore p a b x = lt-ltb p 16 (omega (arith, x, few.0, semaphore-there t c s host e a b))

  module _ {state p : ℕ} where
    -- a mailbox's side
    at_side : state ≡ 3 → 28 ≤ p → (s.kind ≡ 18 → p ≢ 28 + s.object) → (s.kind ≡ 18 → p ≢ 32 + s.object) → (n : ℕ)
        → n ≡ cond (ltb p 32) 6 5 → n ≡ called_cause s state p
    at_side q l a b n h =
        h ∙ rw (q, le-ltb p 16 (omega (arith, l)), le-ltb p 20 (omega (arith, l)), le-ltb p 28 l, not-reset s p a b)

    served-at : {m : ℤ} {o : ℕ} → Served t s state p m o → o ≡ called_cause s state p
    served-at (Served.post b z k q x) =
        at_side q (omega (arith, x)) (λ y w. omega (arith, x, w, reset-there y)) (λ y w. z y (omega (arith, x, w))) 5
        (rw (le-ltb p 32 (omega (arith, x))))
    served-at (Served.fetch b z k q x) =
        let l : b < 4 = tried-there (inr refl) k in
        at_side q (omega (arith, x)) (λ y w. z y (omega (arith, x, w))) (λ y w. omega (arith, x, w, l)) 6 (rw (lt-ltb p 32 (omega (arith, x, l))))

    queued : state ≡ 3 → p ≡ 20 + s.object → s.object < t.sizes.queues → 2 ≡ called_cause s state p
    queued q x l = rw (q, le-ltb p 16 (omega (arith, x)), le-ltb p 20 (omega (arith, x)), lt-ltb p 28 (omega (arith, x, l, few.1)))

    pooled : state ≡ 3 → p ≡ 16 + s.object → s.object < t.sizes.pools → 1 ≡ called_cause s state p
    pooled q x l = rw (q, le-ltb p 16 (omega (arith, x)), lt-ltb p 20 (omega (arith, x, l, few.3)))

    called_at : {m : ℤ} {o : ℕ} → CalledOut t s state p m o → o ≡ called_cause s state p
    called_at (CalledOut.signal (inl k) q x) = rw (q, k, at-semaphore p (omega (arith, k)) (omega (arith, k)) x)
    called_at (CalledOut.signal (inr k) q x) = rw (q, k, at-semaphore p (omega (arith, k)) (omega (arith, k)) x)
    called_at (CalledOut.reset k q x) = rw (q, k, at-semaphore p (omega (arith, k)) (omega (arith, k)) x)
    called_at (CalledOut.release (inl k) q x) = queued q x (queue-there t c s host e (omega (arith, k)) (omega (arith, k)))
    called_at (CalledOut.release (inr k) q x) = queued q x (queue-there t c s host e (omega (arith, k)) (omega (arith, k)))
    called_at (CalledOut.resume k q x) = rw q
    called_at (CalledOut.served b) = served-at b
    called_at (CalledOut.box-reset k q (inl x)) =
        rw (q, k, le-ltb p 16 (omega (arith, x)), le-ltb p 20 (omega (arith, x)), le-ltb p 28 (omega (arith, x)), eq-eqb p (28 + s.object) x)
    called_at (CalledOut.box-reset k q (inr x)) =
        rw (
          q,
          k,
          le-ltb p 16 (omega (arith, x)),
          le-ltb p 20 (omega (arith, x)),
          le-ltb p 28 (omega (arith, x)),
          ne_eqb p (28 + s.object) (λ w. omega (arith, x, w)),
          eq-eqb p (32 + s.object) x,
        )
    called_at (CalledOut.object (inl k) q x) = pooled q x (pool-there t c s host e (omega (arith, k)) (omega (arith, k)))
    called_at (CalledOut.object (inr k) q x) = pooled q x (pool-there t c s host e (omega (arith, k)) (omega (arith, k)))

  -- WHY A SLEEPER WAKES
  pub cause-for : {i : ℕ} {a : Thread} {m : ℤ} {o : ℕ} → WokenBy t s i a m o → o ≡ cause_for s a
  cause-for (WokenBy.last-tick k r) = rw (k, r)
  cause-for (WokenBy.events k o q f) = rw (k, q)
  cause-for {a = a} (WokenBy.call u b) =
      called_at b
      ∙ same_or s.kind 1 (λ k. rw (k, ne_eqb a.remaining 1 (λ r. u (k, r)))) (λ d. rw (ne_eqb s.kind 1 d))

  pub message-by : {i : ℕ} {a : Thread} {m : ℤ} {o : ℕ} → WokenBy t s i a m o → m ≡ message_by s o
  message-by (WokenBy.last-tick k r) = refl
  message-by (WokenBy.events k o q f) = refl
  message-by (WokenBy.call u (CalledOut.signal k q x)) = refl
  message-by (WokenBy.call u (CalledOut.reset k q x)) = refl
  message-by (WokenBy.call u (CalledOut.release k q x)) = refl
  message-by (WokenBy.call u (CalledOut.resume k q x)) = refl
  message-by (WokenBy.call u (CalledOut.served (Served.post b z k q x))) = refl
  message-by (WokenBy.call u (CalledOut.served (Served.fetch b z k q x))) = refl
  message-by (WokenBy.call u (CalledOut.box-reset k q x)) = refl
  message-by (WokenBy.call u (CalledOut.object k q x)) = refl

  -- who is served, by the side where it waits
  served-writer : (b : ℕ) {st : ℕ} {m : ℤ} {o : ℕ} → b < 4 → Served t s st (28 + b) m o → (o ≡ 6) × (m ≡ pos 0)
  served-writer b l (Served.post d z k q x) = absurd (omega (arith, l, x))
  served-writer b l (Served.fetch d z k q x) = (refl, refl)

  served-reader : (b : ℕ) {st : ℕ} {m : ℤ} {o : ℕ} → Served t s st (32 + b) m o → (o ≡ 5) × (m ≡ pos 0)
  served-reader b (Served.post d z k q x) = (refl, refl)
  served-reader b (Served.fetch d z k q x) = absurd (omega (arith, x, tried-there (inr refl) k))

  -- who is served waits at a mailbox's side
  served-far : {st pl : ℕ} {m : ℤ} {o : ℕ} → Served t s st pl m o → (st ≡ 3) × (28 ≤ pl)
  served-far (Served.post d z k q x) = (q, omega (arith, x))
  served-far (Served.fetch d z k q x) = (q, omega (arith, x))

  -- WHY ONE WAKES THAT FELL ASLEEP IN THE STEP
  module _ (i : ℕ) (within : i < t.sizes.threads) where
    abbrev a : Thread
    a = row_of t i

    fell-own : s.caller ≡ i → {st pl : ℕ} {m : ℤ} {o : ℕ} → OwnWait s st pl → Served t s st pl m o → (o ≡ cause_fell s i a) × (m ≡ pos 0)
    fell-own z (OwnWait.semaphore k d) b = absurd (omega (arith, (served-far b).1, few.0, semaphore-there t c s host e (omega (arith, k)) (omega (arith, k))))
    fell-own z (OwnWait.queue k d) b = absurd (omega (arith, (served-far b).1, few.1, queue-there t c s host e (omega (arith, k)) (omega (arith, k))))
    fell-own z (OwnWait.reference k d) b = absurd (omega (arith, (served-far b).0))
    fell-own z (OwnWait.sleeps k) b = absurd (omega (arith, (served-far b).0))
    fell-own z (OwnWait.events k d) b = absurd (omega (arith, (served-far b).0))
    fell-own z (OwnWait.writer (inl k) d) b = rw (eq-eqb s.caller i z, k) (served-writer s.object (tried-there (inl (inl k)) (Tried.own refl refl)) b)
    fell-own z (OwnWait.writer (inr k) d) b = rw (eq-eqb s.caller i z, k) (served-writer s.object (tried-there (inl (inr k)) (Tried.own refl refl)) b)
    fell-own z (OwnWait.reader k d) b = rw (eq-eqb s.caller i z, k) (served-reader s.object b)
    fell-own z (OwnWait.pool k d) b = absurd (omega (arith, (served-far b).1, few.3, pool-there t c s host e (omega (arith, k)) (omega (arith, k))))

    -- whoever calls has no call to be continued
    not-caller : a.call.kind ≢ 0 → s.caller ≢ i
    not-caller n z = n ((together t c s host e).running i (subst (First (found t)) z (caller-first t c s host e (rw z (someone t c s host e i within)))))

    kept-call : IsMailing a.call.kind → eqb s.caller i ≡ false
    kept-call g = ne_eqb s.caller i (not-caller (mail-other g).1)

    pub fell-cause : {st pl : ℕ} {m : ℤ} {o : ℕ} → FallsAt t s i st pl → Served t s st pl m o → (o ≡ cause_fell s i a) × (m ≡ pos 0)
    fell-cause (FallsAt.own z w) b = fell-own z w b
    fell-cause (FallsAt.writer (inl k)) b = rw (kept-call (inl (inl k)), k) (served-writer a.call.object (tried-there (inl (inl k)) (Tried.kept i within refl refl)) b)
    fell-cause (FallsAt.writer (inr k)) b = rw (kept-call (inl (inr k)), k) (served-writer a.call.object (tried-there (inl (inr k)) (Tried.kept i within refl refl)) b)
    fell-cause (FallsAt.reader k) b = rw (kept-call (inr k), k) (served-reader a.call.object b)
