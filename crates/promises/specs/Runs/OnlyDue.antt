-- The step's own act wakes nobody who is not due: each row wakes whoever is first at its place, or all there, or the one that it is about.
use Rattle.std.specs.Prelude.{ℕ, zero, suc, ◌+◌, ◌≤◌, ◌<◌, ◌≡◌, refl, ◌≢◌, ◌⊎◌, Bool, true, false, ℤ, pos, negsuc}
use Rattle.std.proofs.Common.{arith, sym, ap, ◌∙◌, subst, inl, inr}
use Rattle.std.specs.Int.Bits.{bit_and, bit_or}
use Rattle.kernel.specs.declared.clock.Clock.{Clock}
use Rattle.kernel.specs.declared.records.Call.{Call}
use Rattle.kernel.specs.declared.records.Thread.{Thread}
use Rattle.kernel.proofs.Cases.{same_or, contrary}
use Rattle.library.specs.declared.calls.Step.{Step}
use Rattle.library.specs.declared.tables.Tables.{Tables}
use Rattle.steps.specs.Stepping.{stepped}
use Rattle.promises.specs.Paper.World.{World, found, made_ready, signed, kept, Highest}
use Rattle.promises.specs.Paper.Host.{Host}
use Rattle.promises.specs.Paper.Rows.{
  TickOf,
  Ticks,
  Signal,
  BinarySignal,
  Waits,
  SemaphoreWait,
  Release,
  ReleaseOf,
  ReleaseAll,
  Resume,
  EventSignal,
  EventWait,
  Post,
  Fetch,
  Alloc,
  Act,
}
use Rattle.promises.specs.Paper.Waking.{row_of, IsPost, ReleasesAll, ReleasesFirst, Due}
use Rattle.promises.specs.Runs.Keeping.{put_same, put_other}
use Rattle.promises.specs.Runs.Accepted.{held, x₀, someone}

-- ---- all who wait at a place

module _ (i : ℕ) (w : World) (p : ℕ) (m : ℤ) (c : ℕ) where
  -- its turn is still to come
  pub all-later : (n : ℕ) (x : World) → ReleaseAll w p m c n x → n ≤ i → x.thread i ≡ w.thread i
  all-later zero x e l = rw e
  all-later (suc n) x r l = by r.2 ∙ all-later n r.0 r.1 (omega arith)
    where
      by : {v : World} → ReleaseOf v p m c n x → x.thread i ≡ v.thread i
      by {v} (ReleaseOf.waits a b e) = rw e (put_other v.thread n i _ (λ z. omega (arith, z, l)))
      by (ReleaseOf.elsewhere a e) = rw e

  -- whoever is woken by it waited there
  all-waited : (n : ℕ) (x : World) → ReleaseAll w p m c n x → x.woken i ≡ true
      → (w.woken i ≡ true) ⊎ (((w.thread i).state ≡ 3) × ((w.thread i).place ≡ p))
  all-waited zero x e h = inl (subst (λ (y : World). y.woken i ≡ true) e h)
  all-waited (suc n) x r h =
      same_or i n
      (λ z. now (all-later n r.0 r.1 (omega (arith, z))) (subst (λ (k : ℕ). ReleaseOf r.0 p m c k x) (sym z) r.2) (all-waited n r.0 r.1))
      (λ z. all-waited n r.0 r.1 (before r.2 z))
    where
      now : {v : World} → v.thread i ≡ w.thread i → ReleaseOf v p m c i x
          → (v.woken i ≡ true → (w.woken i ≡ true) ⊎ (((w.thread i).state ≡ 3) × ((w.thread i).place ≡ p)))
          → (w.woken i ≡ true) ⊎ (((w.thread i).state ≡ 3) × ((w.thread i).place ≡ p))
      now same (ReleaseOf.waits a b e) rest = inr (ap (λ (u : Thread). u.state) (sym same) ∙ a, ap (λ (u : Thread). u.place) (sym same) ∙ b)
      now same (ReleaseOf.elsewhere a e) rest = rest (subst (λ (y : World). y.woken i ≡ true) e h)

      before : {v : World} → ReleaseOf v p m c n x → i ≢ n → v.woken i ≡ true
      before {v} (ReleaseOf.waits a b e) z = sym (put_other v.woken n i true z) ∙ subst (λ (y : World). y.woken i ≡ true) e h
      before (ReleaseOf.elsewhere a e) z = subst (λ (y : World). y.woken i ≡ true) e h

  -- and who waits still is as it was
  all_left : (n : ℕ) (x : World) → ReleaseAll w p m c n x → (x.thread i).state ≡ 3 → x.thread i ≡ w.thread i
  all_left zero x e h = rw e
  all_left (suc n) x r h = by r.2 (all_left n r.0 r.1)
    where
      by : {v : World} → ReleaseOf v p m c n x → ((v.thread i).state ≡ 3 → v.thread i ≡ w.thread i) → x.thread i ≡ w.thread i
      by {v} (ReleaseOf.elsewhere a e) rest = let same = ap (λ (y : World). y.thread i) e in same ∙ rest (ap (λ (u : Thread). u.state) (sym same) ∙ h)
      by {v} (ReleaseOf.waits a b e) rest =
          same_or i n
          (λ z.
          let is : (x.thread i).state ≡ 0 = ap (λ (y : World). (y.thread i).state) e ∙ subst (λ (k : ℕ). ((made_ready v k m c).thread i).state ≡ 0) z (ap (λ (u : Thread). u.state) (put_same v.thread i _)) in
          absurd (omega (arith, is, h)))
          (λ z. let same = ap (λ (y : World). y.thread i) e ∙ put_other v.thread n i _ z in same ∙ rest (ap (λ (u : Thread). u.state) (sym same) ∙ h))

module _ (t : Tables) (c : Clock) (s : Step) (host : Host t c s) (e : (stepped t c s).outcome.code ≡ 0) (i : ℕ) (within : i < t.sizes.threads) where
  abbrev w₀ : World
  w₀ = found t

  abbrev x : World
  x = x₀ t c s host e

  -- a tick has its turn for each: before it, nothing has happened to i
  ticks-woken : (n : ℕ) (v : World) → Ticks w₀ n v → (n ≤ i → v.thread i ≡ w₀.thread i) × (v.woken i ≡ true → (row_of t i).remaining ≡ 1)
  ticks-woken zero v z = (λ l. ap (λ (y : World). y.thread i) z, λ h. contrary (subst (λ (y : World). y.woken i ≡ true) z h) refl)
  ticks-woken (suc n) v h =
      let rest = ticks-woken n h.0 h.1 in (
        λ l. same h.2 (λ z. omega (arith, z, l)) ∙ rest.0 (omega arith),
        λ k. woken h.2 rest.1 (λ z. rest.0 (omega (arith, z))) k,
      )
    where
      same : {y : World} → TickOf y n v → i ≢ n → v.thread i ≡ y.thread i
      same (TickOf.no-ticks a z) d = ap (λ (y : World). y.thread i) z
      same {y} (TickOf.falls a z) d = ap (λ (y : World). y.thread i) z ∙ put_other y.thread n i _ d
      same {y} (TickOf.last a z) d = ap (λ (y : World). y.thread i) z ∙ put_other y.thread n i _ d

      woken : {y : World} → TickOf y n v → (y.woken i ≡ true → (row_of t i).remaining ≡ 1) → (i ≡ n → y.thread i ≡ w₀.thread i) → v.woken i ≡ true
          → (row_of t i).remaining ≡ 1
      woken (TickOf.no-ticks a z) rest l k = rest (subst (λ (y : World). y.woken i ≡ true) z k)
      woken (TickOf.falls a z) rest l k = rest (subst (λ (y : World). y.woken i ≡ true) z k)
      woken {y} (TickOf.last a z) rest l k =
          same_or i n
          (λ d. ap (λ (u : Thread). u.remaining) (sym (l d)) ∙ subst (λ (j : ℕ). (y.thread j).remaining ≡ 1) (sym d) a)
          (λ d. rest (sym (put_other y.woken n i true d) ∙ subst (λ (y : World). y.woken i ≡ true) z k))

  module _ (woken : x.woken i ≡ true) where
    -- who was left alone was not woken
    none : {A : Type 0} {y : World} → x ≡ y → y.woken i ≡ false → A
    none z h = contrary woken (ap (λ (v : World). v.woken i) z ∙ h)

    -- what the act woke, in a world with the same wakings
    there : {y : World} → x ≡ y → y.woken i ≡ true
    there z = subst (λ (y : World). y.woken i ≡ true) z woken

    waits-none : {A : Type 0} {st pl : ℕ} {d : Call} → Waits w₀ s.caller st pl d x → A
    waits-none (Waits.now a z) = none z refl
    waits-none (Waits.later a z) = none z refl

    -- it is the one
    the_one : {v : World} (j : ℕ) (m : ℤ) (o p : ℕ) → Highest w₀ p j → v ≡ made_ready w₀ j m o → v.woken i ≡ true → Highest w₀ p i
    the_one j m o p h z k =
        same_or i j (λ d. subst (Highest w₀ p) (sym d) h)
        (λ d. contrary (subst (λ (y : World). y.woken i ≡ true) z k) (put_other w₀.woken j i true d))

    signal-due : {v : World} {p : ℕ} {b : Bool} → Signal w₀ p v b → v.woken i ≡ true → Highest w₀ p i
    signal-due (Signal.raises a l z) k = contrary (subst (λ (y : World). y.woken i ≡ true) z k) refl
    signal-due (Signal.at_top a z) k = contrary (subst (λ (y : World). y.woken i ≡ true) z k) refl
    signal-due {p = p} (Signal.wakes a j h z) k = the_one j (pos 0) 1 p h z k

    release-due : {v : World} {p : ℕ} {m : ℤ} {o : ℕ} → Release w₀ p m o v → v.woken i ≡ true → Highest w₀ p i
    release-due {p = p} {m} {o} (Release.first j h z) k = the_one j m o p h z k
    release-due (Release.nobody n z) k = contrary (subst (λ (y : World). y.woken i ≡ true) z k) refl

    all-due : (v : World) {p : ℕ} (m : ℤ) (o : ℕ) → ReleasesAll s p → ReleaseAll w₀ p m o t.sizes.threads v → v.woken i ≡ true → Due t s i
    all-due v {p} m o r g k =
        elim (all-waited i w₀ p m o t.sizes.threads v g k) [ inl h ↦ contrary h refl | inr h ↦ Due.all p r h.0 h.1 ]

    post-due : (n : ℕ) → IsPost s.kind → Post w₀ s.caller (kept n s.object s.a s.timeout) x → Due t s i
    post-due n p (Post.in-reset a z) = none z refl
    post-due n p (Post.behind a l o v g z) = Due.first (32 + s.object) (ReleasesFirst.post p a l) (release-due g (there z))
    post-due n p (Post.ahead a l o v g z) = Due.first (32 + s.object) (ReleasesFirst.post p a l) (release-due g (there z))
    post-due n p (Post.no_room a l h) = waits-none h

    -- EACH ROW OF THE TABLE
    pub act-due : {k : ℕ} → s.kind ≡ k → Act t c.time s x k → Due t s i
    act-due q (Act.tick v h z) = Due.last-tick q ((ticks-woken t.sizes.threads v h).1 (there z))
    act-due q (Act.semaphore-wait (SemaphoreWait.above a z)) = none z refl
    act-due q (Act.semaphore-wait (SemaphoreWait.not-above a h)) = waits-none h
    act-due q (Act.signal v b g z) = Due.first s.object (ReleasesFirst.signal (inl q)) (signal-due g (there z))
    act-due q (Act.reset v g z) = all-due v (negsuc 1) 7 (ReleasesAll.reset q) g (there z)
    act-due q (Act.binary-signal v (BinarySignal.signals a n g) z) = Due.first s.object (ReleasesFirst.signal (inr q)) (signal-due g (there z))
    act-due q (Act.binary-signal v (BinarySignal.nothing a y) z) = none z (ap (λ (y : World). y.woken i) y)
    act-due q (Act.queue-wait h) = waits-none h
    act-due q (Act.release-first v g z) = Due.first (20 + s.object) (ReleasesFirst.release q) (release-due g (there z))
    act-due q (Act.release-all v g z) = all-due v (signed s.a) 2 (ReleasesAll.release q) g (there z)
    act-due q (Act.suspend h) = waits-none h
    act-due q (Act.resume v (Resume.held d y) z) =
        same_or i (w₀.holder s.object)
        (λ j. let h = held t c s host e i q (sym j) (someone t c s host e i within) in Due.resume q h.0 h.1)
        (λ j. none z (ap (λ (y : World). y.woken i) y ∙ put_other w₀.woken (w₀.holder s.object) i true j))
    act-due q (Act.resume v (Resume.empty d y) z) = none z (ap (λ (y : World). y.woken i) y)
    act-due q (Act.sleep-for z) = none z refl
    act-due q (Act.sleep-until z) = none z refl
    act-due q (Act.event-signal v (EventSignal.comes g h y) z) =
        same_or s.object i
        (λ o. Due.events q o (subst (λ (j : ℕ). (w₀.thread j).state ≡ 4) o g)
        (subst (λ (j : ℕ). bit_and (bit_or (w₀.thread j).pending s.a) (w₀.thread j).awaited ≢ 0) o h))
        (λ d. none z (ap (λ (y : World). y.woken i) y ∙ put_other w₀.woken s.object i true (λ r. d (sym r))))
    act-due q (Act.event-signal v (EventSignal.only-flagged g y) z) = none z (ap (λ (y : World). y.woken i) y)
    act-due q (Act.event-wait (EventWait.finds a z)) = none z refl
    act-due q (Act.event-wait (EventWait.finds-none a h)) = waits-none h
    act-due q (Act.post h) = post-due 15 (inl q) h
    act-due q (Act.post-ahead h) = post-due 16 (inr q) h
    act-due q (Act.fetch (Fetch.in-reset a z)) = none z refl
    act-due q (Act.fetch (Fetch.message a l v g z)) = Due.first (28 + s.object) (ReleasesFirst.fetch q a l) (release-due g (there z))
    act-due q (Act.fetch (Fetch.no-message a l h)) = waits-none h
    act-due q (Act.mailbox-reset v u g h z) =
        let n = t.sizes.threads in
        elim (all-waited i v (32 + s.object) (negsuc 1) 7 n u h (there z)) [
          | inl k ↦ all-due v (negsuc 1) 7 (ReleasesAll.writers q) g k
          | inr k ↦
              let same = all_left i w₀ (28 + s.object) (negsuc 1) 7 n v g k.0 in
              Due.all (32 + s.object) (ReleasesAll.readers q) (ap (λ (r : Thread). r.state) (sym same) ∙ k.0)
              (ap (λ (r : Thread). r.place) (sym same) ∙ k.1)
        ]
    act-due q (Act.mailbox-resume z) = none z refl
    act-due q (Act.alloc (Alloc.above a z)) = none z refl
    act-due q (Act.alloc (Alloc.not-above a h)) = waits-none h
    act-due q (Act.free v b g z) = Due.first (16 + s.object) (ReleasesFirst.object (inl q)) (signal-due g (there z))
    act-due q (Act.add v b g z) = Due.first (16 + s.object) (ReleasesFirst.object (inr q)) (signal-due g (there z))
