-- The waiters at a semaphore or a pool: a signal wakes the highest of them, nobody joins them but by a wait of its own, and so the number of
-- those before a waiter falls with each signal.
use Rattle.std.specs.Prelude.{ℕ, zero, suc, ◌+◌, ◌≤◌, ◌<◌, ◌≡◌, refl, ◌≢◌, Bool, true, false, cond, ◌&&◌, ◌||◌, eqb, ℤ, pos}
use Rattle.std.proofs.Common.{arith, sym, ap, ◌∙◌, subst, inl, inr, eqb-true, eq-eqb, ne_eqb, lt-ltb}
use Rattle.std.specs.Int.Signed.{lt_z}
use Rattle.kernel.specs.declared.clock.Clock.{Clock}
use Rattle.kernel.specs.declared.records.Thread.{Thread}
use Rattle.kernel.proofs.Cases.{split, same_or, in-or-out, contrary, both-means}
use Rattle.kernel.proofs.CountersLaws.{below_more, top-not-below}
use Rattle.library.specs.declared.calls.Step.{Step}
use Rattle.library.specs.declared.tables.Tables.{Tables}
use Rattle.steps.specs.Stepping.{stepped}
use Rattle.promises.specs.Paper.World.{World, found, made_ready, Highest}
use Rattle.promises.specs.Paper.Host.{Host}
use Rattle.promises.specs.Paper.Rows.{Signal, BinarySignal, Act}
use Rattle.promises.specs.Paper.Together.{number, is_queued, SemaphoreFits}
use Rattle.promises.specs.Paper.Waking.{row_of, in_mask, Served, CalledOut, WokenBy, SleeperAfter, OwnWait, WakerAfter}
use Rattle.promises.specs.Paper.Run.{signals_at, joins_at, higher, TurnOf}
use Rattle.promises.specs.Together.Tests.{either-means}
use Rattle.promises.specs.Runs.Keeping.{put_same, queued-asleep}
use Rattle.promises.specs.Runs.Accepted.{together, semaphore-there, pool-there, x₀, act}
use Rattle.promises.specs.Runs.OneStep.{woken-seen, sleeper-after, waker-after}

-- ---- counting

-- one that passes is counted
pub number-some : (f : ℕ → Bool) (n i : ℕ) → i < n → f i ≡ true → 1 ≤ number f n
number-some f zero i l e = absurd (omega arith)
number-some f (suc n) i l e =
    same_or i n (λ s. rw (← s, e) (omega arith)) (λ d. omega (arith, number-some f n i (omega arith) e))

-- whoever passes g passes f
module _ (f g : ℕ → Bool) where
  number-le : (n : ℕ) → ((j : ℕ) → j < n → g j ≡ true → f j ≡ true) → number g n ≤ number f n
  number-le zero h = omega arith
  number-le (suc n) h =
      let rest = number-le n (λ j l. h j (omega arith)) in
      split (g n) (λ e. rw (e, h n (omega arith) e) (omega (arith, rest)))
      (λ e. rw e (split (f n) (λ d. rw d (omega (arith, rest))) (λ d. rw d (omega (arith, rest)))))

  -- and one that passes f does not pass g
  number-less : (n i : ℕ) → ((j : ℕ) → j < n → g j ≡ true → f j ≡ true) → i < n → f i ≡ true → g i ≡ false → number g n + 1 ≤ number f n
  number-less zero i h l a b = absurd (omega arith)
  number-less (suc n) i h l a b =
      same_or i n (λ s. rw (← s, a, b) (omega (arith, number-le i (λ j k. h j (omega (arith, k, s))))))
      (λ d.
      let rest = number-less n i (λ j k. h j (omega arith)) (omega arith) a b in
      split (g n) (λ e. rw (e, h n (omega arith) e) (omega (arith, rest)))
      (λ e. rw e (split (f n) (λ x. rw x (omega (arith, rest))) (λ x. rw x (omega (arith, rest))))))

-- a counter with a waiter is below 0
pub owes : {c : ℤ} {n : ℕ} → SemaphoreFits c n → 1 ≤ n → lt_z c (pos 0) ≡ true
owes (SemaphoreFits.waiters e) l = rw e
owes (SemaphoreFits.none e) l = absurd (omega arith)

module _ (t : Tables) (c : Clock) (s : Step) (host : Host t c s) (e : (stepped t c s).outcome.code ≡ 0) where
  abbrev n : ℕ
  n = t.sizes.threads

  -- ---- a signal wakes the first

  module _ (p i : ℕ) (within : i < n) (queued : (row_of t i).state ≡ 3) (place : (row_of t i).place ≡ p) where
    waits : is_queued (found t) p i ≡ true
    waits = rw (queued, place, eq-eqb p p refl)

    -- the first of the waiters at p, which is i or is above it, and is woken
    pub record FirstWoken : Type 0 where
      pub first : ℕ
      pub above : first ≤ i
      pub waited : is_queued (found t) p first ≡ true
      pub woken : in_mask first (stepped t c s).outcome.woken ≡ true

    found_first : (j : ℕ) → Highest (found t) p j → (x₀ t c s host e).woken j ≡ true → FirstWoken
    found_first j h w =
        record {
          first = j;
          above = in-or-out i j (λ l. absurd (h.highest i l queued place)) (λ l. l);
          waited = rw (h.waits.0, h.waits.1, eq-eqb p p refl);
          woken = woken-seen t c s host e j w;
        }

    woken-in : (v x : World) (j : ℕ) (m : ℤ) (o : ℕ) (w : World) → v ≡ made_ready w j m o → x.woken ≡ v.woken → x.woken j ≡ true
    woken-in v x j m o w a b = ap (λ (f : ℕ → Bool). f j) b ∙ ap (λ (y : World). y.woken j) a ∙ put_same w.woken j true

    of-signal : (v : World) {b : Bool} → lt_z ((found t).counter p) (pos 0) ≡ true → Signal (found t) p v b → (x₀ t c s host e).woken ≡ v.woken → FirstWoken
    of-signal v below (Signal.raises a l q) z = contrary below a
    of-signal v below (Signal.at_top a q) z = contrary below (top-not-below ((found t).counter p) a)
    of-signal v below (Signal.wakes a j h q) z = found_first j h (woken-in v (x₀ t c s host e) j (pos 0) 1 (found t) q z)

    of-binary : (v : World) → lt_z ((found t).counter p) (pos 0) ≡ true → BinarySignal (found t) p v → (x₀ t c s host e).woken ≡ v.woken → FirstWoken
    of-binary v below (BinarySignal.signals a n h) z = of-signal v below h z
    of-binary v below (BinarySignal.nothing a q) z = contrary (below_more ((found t).counter p) 0 1 (omega arith) below) a

    -- the rows that signal
    data SignalRow : ℕ → Type 0 where
      plain : s.object ≡ p → s.object < t.sizes.semaphores → SignalRow 3
      binary : s.object ≡ p → s.object < t.sizes.semaphores → SignalRow 5
      freed : 16 + s.object ≡ p → s.object < t.sizes.pools → SignalRow 21
      added : 16 + s.object ≡ p → s.object < t.sizes.pools → SignalRow 22

    low : s.object ≡ p → s.object < t.sizes.semaphores → lt_z ((found t).counter p) (pos 0) ≡ true
    low o l = owes ((together t c s host e).semaphores p (rw o at l)) (number-some (is_queued (found t) p) n i within waits)

    low-pool : 16 + s.object ≡ p → s.object < t.sizes.pools → lt_z ((found t).counter p) (pos 0) ≡ true
    low-pool o l =
        owes (subst (λ (r : ℕ). SemaphoreFits ((found t).counter r) (number (is_queued (found t) r) n)) o ((together t c s host e).pool-counters s.object l))
        (number-some (is_queued (found t) p) n i within waits)

    by_row : {k : ℕ} {x : World} → SignalRow k → Act t c.time s x k → x₀ t c s host e ≡ x → FirstWoken
    by_row (SignalRow.plain o l) (Act.signal v b h q) z =
        of-signal v (low o l) (subst (λ (r : ℕ). Signal (found t) r v b) o h) (ap (λ (y : World). y.woken) (z ∙ q))
    by_row (SignalRow.binary o l) (Act.binary-signal v h q) z =
        of-binary v (low o l) (subst (λ (r : ℕ). BinarySignal (found t) r v) o h) (ap (λ (y : World). y.woken) (z ∙ q))
    by_row (SignalRow.freed o l) (Act.free v b h q) z =
        of-signal v (low-pool o l) (subst (λ (r : ℕ). Signal (found t) r v b) o h) (ap (λ (y : World). y.woken) (z ∙ q))
    by_row (SignalRow.added o l) (Act.add v b h q) z =
        of-signal v (low-pool o l) (subst (λ (r : ℕ). Signal (found t) r v b) o h) (ap (λ (y : World). y.woken) (z ∙ q))

    -- a plain signal where somebody waits finds the counter below 0
    pub waited-low : s.object ≡ p → s.kind ≡ 3 → lt_z ((found t).counter p) (pos 0) ≡ true
    waited-low o k = low o (semaphore-there t c s host e (omega (arith, k)) (omega (arith, k)))

    at_row : {k : ℕ} → s.kind ≡ k → SignalRow k → FirstWoken
    at_row {k} z r = by_row r (subst (λ (m : ℕ). Act t c.time s (x₀ t c s host e) m) z (act t c s host e)) refl

    -- "the highest-priority waiter is made ready with 0"
    pub signal-wakes : signals_at p t s ≡ true → FirstWoken
    signal-wakes g =
        elim (either-means (eqb s.kind 3 && eqb s.object p) _ g) [
          | inl a ↦
              let b = both-means (eqb s.kind 3) (eqb s.object p) a in
              let k = eqb-true s.kind 3 b.0 in
              at_row k (SignalRow.plain (eqb-true s.object p b.1) (semaphore-there t c s host e (omega (arith, k)) (omega (arith, k))))
          | inr a ↦ elim (either-means (eqb s.kind 5 && (eqb s.object p && lt_z ((found t).counter p) (pos 1))) _ a) [
            | inl b ↦
                let d = both-means (eqb s.kind 5) (eqb s.object p && lt_z ((found t).counter p) (pos 1)) b in
                let k = eqb-true s.kind 5 d.0 in
                let o = eqb-true s.object p (both-means (eqb s.object p) (lt_z ((found t).counter p) (pos 1)) d.1).0 in
                at_row k (SignalRow.binary o (semaphore-there t c s host e (omega (arith, k)) (omega (arith, k))))
            | inr b ↦
                let d = both-means (eqb s.kind 21 || eqb s.kind 22) (eqb (16 + s.object) p) b in
                let o = eqb-true (16 + s.object) p d.1 in
                elim (either-means (eqb s.kind 21) (eqb s.kind 22) d.0) [
                  | inl x ↦ let k = eqb-true s.kind 21 x in at_row k (SignalRow.freed o (pool-there t c s host e (omega (arith, k)) (omega (arith, k))))
                  | inr x ↦ let k = eqb-true s.kind 22 x in at_row k (SignalRow.added o (pool-there t c s host e (omega (arith, k)) (omega (arith, k))))
                ]
          ]
        ]

  -- ---- nobody joins but by a wait of its own

  abbrev u : Tables
  u = (stepped t c s).tables

  module _ (p : ℕ) (near : p < 20) where
    -- thread j queued at p
    queued-at : (w : Tables) (j : ℕ) → is_queued (found w) p j ≡ true → ((row_of w j).state ≡ 3) × ((row_of w j).place ≡ p)
    queued-at w j g =
        let b = both-means (eqb (row_of w j).state 3) (eqb (row_of w j).place p) g in
        (eqb-true (row_of w j).state 3 b.0, eqb-true (row_of w j).place p b.1)

    -- the wait of the step's own call, as `joins_at` has it
    joins : (i : ℕ) → s.caller < i → {q : ℕ} → OwnWait s 3 q → q ≡ p → joins_at p i s ≡ true
    joins i l (OwnWait.semaphore k d) x = rw (lt-ltb s.caller i l, ne_eqb s.timeout 0 d, k, x, eq-eqb p p refl)
    joins i l (OwnWait.queue k d) x = absurd (omega (arith, near, x))
    joins i l (OwnWait.writer k d) x = absurd (omega (arith, near, x))
    joins i l (OwnWait.reader k d) x = absurd (omega (arith, near, x))
    joins i l (OwnWait.pool k d) x = rw (lt-ltb s.caller i l, ne_eqb s.timeout 0 d, k, x, eq-eqb p p refl)

    module _ (i : ℕ) (within : i < n) (none : joins_at p i s ≡ false) where
      -- who waits at p above i after the step waited there before it
      stayed : (j : ℕ) → j < i → is_queued (found u) p j ≡ true → is_queued (found t) p j ≡ true
      stayed j l g =
          let q = queued-at u j g in
          same_or (row_of t j).state 0 (λ z. absurd (ready-before q (waker-after t c s host e j (omega arith) z)))
          (λ d. slept q (sleeper-after t c s host e j (omega arith) d))
        where
          ready-before : ((row_of u j).state ≡ 3) × ((row_of u j).place ≡ p) → {b : Bool} → WakerAfter t s j (row_of u j) b → ⊥
          ready-before q (WakerAfter.unwoken z w) = queued-asleep q.0 z
          ready-before q (WakerAfter.own-sleep a st pl o h) =
              contrary (joins i (omega (arith, a, l)) (h q.0 (omega (arith, near, q.1))) q.1) none
          ready-before q (WakerAfter.tried-again a m h) = h q.0 (omega (arith, near, q.1))

          slept : ((row_of u j).state ≡ 3) × ((row_of u j).place ≡ p) → {a b : Bool} → SleeperAfter t s j (row_of u j) a b
              → is_queued (found t) p j ≡ true
          slept q (SleeperAfter.on u x w f) =
              let st : (row_of t j).state ≡ 3 = sym (ap (λ (r : Thread). r.state) x) ∙ q.0 in
              let pl : (row_of t j).place ≡ p = sym (ap (λ (r : Thread). r.place) x) ∙ q.1 in
              rw (st, pl, eq-eqb p p refl)
          slept q (SleeperAfter.ready m o b x w f) = absurd (queued-asleep q.0 (ap (λ (r : Thread). r.state) x))
          slept q (SleeperAfter.done m y o v f b g x w z) = absurd (queued-asleep q.0 (ap (λ (r : Thread). r.state) x))

      -- with a signal there is one fewer
      module _ (queued : (row_of t i).state ≡ 3) (place : (row_of t i).place ≡ p) (unwoken : in_mask i (stepped t c s).outcome.woken ≡ false) where
        gone : (w : FirstWoken p i within queued place) → is_queued (found u) p w.first ≡ false
        gone w =
            let j = w.first in
            let q = queued-at t j w.waited in
            by (sleeper-after t c s host e j (omega (arith, w.above)) (λ z. absurd (omega (arith, z, q.0)))) w.woken
          where
            by : {j : ℕ} {a b : Bool} → SleeperAfter t s j (row_of u j) a b → a ≡ true → is_queued (found u) p j ≡ false
            by (SleeperAfter.on u x v f) w = contrary w v
            by (SleeperAfter.ready m o b x v f) w = rw (ap (λ (r : Thread). r.state) x)
            by (SleeperAfter.done m y o d f b g x v z) w = rw (ap (λ (r : Thread). r.state) x)

        pub turns-on : higher u p i + cond (signals_at p t s) 1 0 ≤ higher t p i
        turns-on =
            split (signals_at p t s)
            (λ g.
            let w = signal-wakes p i within queued place g in
            let d : w.first ≢ i = λ z. contrary (rw z at w.woken) unwoken in
            rw g (number-less (is_queued (found t) p) (is_queued (found u) p) i w.first stayed (omega (arith, w.above, d)) w.waited (gone w)))
            (λ g. rw g (omega (arith, number-le (is_queued (found t) p) (is_queued (found u) p) i stayed)))

        -- it waits on
        pub waits-on : ((row_of u i).state ≡ 3) × ((row_of u i).place ≡ p)
        waits-on = by (sleeper-after t c s host e i within (λ z. absurd (omega (arith, z, queued)))) unwoken
          where
            by : {a b : Bool} → SleeperAfter t s i (row_of u i) a b → a ≡ false → ((row_of u i).state ≡ 3) × ((row_of u i).place ≡ p)
            by (SleeperAfter.on u x v f) w = (ap (λ (r : Thread). r.state) x ∙ queued, ap (λ (r : Thread). r.place) x ∙ place)
            by (SleeperAfter.ready m o b x v f) w = contrary v w
            by (SleeperAfter.done m y o d f b g x v z) w = contrary v w

    -- what wakes a waiter at p
    pub turn-of : (i : ℕ) {a : Thread} → a.state ≡ 3 → a.place ≡ p → {m : ℤ} {o : ℕ} → WokenBy t s i a m o → TurnOf p a s m o
    turn-of i q x (WokenBy.last-tick k r) = TurnOf.last-tick k r
    turn-of i q x (WokenBy.events k o st f) = absurd (omega (arith, q, st))
    turn-of i q x (WokenBy.call u (CalledOut.signal k st pl)) = TurnOf.signal k (sym pl ∙ x)
    turn-of i q x (WokenBy.call u (CalledOut.reset k st pl)) =
        TurnOf.reset k (sym pl ∙ x)
        (omega (
          arith,
          sym pl ∙ x,
          semaphores,
          semaphore-there t c s host e (omega (arith, k)) (omega (arith, k)),
        ))
      where
        semaphores : t.sizes.semaphores ≤ 16
        semaphores = (together t c s host e).sizes.semaphores
    turn-of i q x (WokenBy.call u (CalledOut.release k st pl)) = absurd (omega (arith, near, pl, x))
    turn-of i q x (WokenBy.call u (CalledOut.resume k st pl)) = absurd (omega (arith, q, st))
    turn-of i q x (WokenBy.call u (CalledOut.served (Served.post b z k st pl))) = absurd (omega (arith, near, pl, x))
    turn-of i q x (WokenBy.call u (CalledOut.served (Served.fetch b z k st pl))) = absurd (omega (arith, near, pl, x))
    turn-of i q x (WokenBy.call u (CalledOut.box-reset k st (inl pl))) = absurd (omega (arith, near, pl, x))
    turn-of i q x (WokenBy.call u (CalledOut.box-reset k st (inr pl))) = absurd (omega (arith, near, pl, x))
    turn-of i q x (WokenBy.call u (CalledOut.object k st pl)) = TurnOf.object k (sym pl ∙ x)
