-- Two answers that are what document 01 tells of one step coincide.
use Rattle.std.specs.Prelude.{ℕ, zero, suc, ◌+◌, ◌≤◌, ◌<◌, ◌≡◌, refl, ◌≢◌, ◌⊎◌, Bool, cond, List, [], ◌∷◌, length, get_or, ℤ, pos, negsuc}
use Rattle.std.proofs.Common.{arith, sym, ap, ◌∙◌, subst, inl, inr}
use Rattle.kernel.specs.declared.clock.Clock.{Clock}
use Rattle.kernel.specs.declared.time.SystemTime.{SystemTime}
use Rattle.kernel.specs.declared.records.Call.{Call}
use Rattle.kernel.specs.declared.records.Words.{Words}
use Rattle.kernel.proofs.Cases.{same_or, in-or-out, contrary}
use Rattle.kernel.proofs.CountersLaws.{top-not-below}
use Rattle.library.specs.declared.calls.Step.{Step}
use Rattle.library.specs.declared.tables.Tables.{Tables}
use Rattle.steps.specs.declared.stepping.Outcome.{Outcome}
use Rattle.steps.specs.declared.stepping.Stepped.{Stepped}
use Rattle.promises.specs.Paper.World.{
  World,
  no_thread,
  no_box,
  no_pool,
  found,
  Left,
  counter_to,
  box_to,
  pool_to,
  made_ready,
  ended,
  signed,
  Highest,
  First,
  Running,
}
use Rattle.promises.specs.Paper.Rows.{
  written,
  written_ahead,
  taken_from,
  slots_of,
  in_reset,
  on_top,
  TickOf,
  Ticks,
  Signal,
  BinarySignal,
  Waits,
  SemaphoreWait,
  Release,
  ReleaseOf,
  ReleaseAll,
  Resume,
  EventSignal,
  EventWait,
  Post,
  Fetch,
  Alloc,
  Act,
}
use Rattle.promises.specs.Paper.Settling.{IsOther, Continued, Settles}
use Rattle.promises.specs.Paper.Refusals.{RefusedWith, Broken}
use Rattle.promises.specs.Paper.Step.{WordsLeft, ClockAfter, ResultOf, StepOf}
use Rattle.promises.specs.Meant.Words.{mask-only, ready-only, waiting-only}

-- ---- general

-- lists of one length with the same entries are one list
pub list-only : {A : Type 0} (d : A) (l m : List A) → length l ≡ length m → ((i : ℕ) → get_or l i d ≡ get_or m i d) → l ≡ m
list-only d [] [] e f = refl
list-only d [] (b ∷ m) e f = absurd (omega arith)
list-only d (a ∷ l) [] e f = absurd (omega arith)
list-only d (a ∷ l) (b ∷ m) e f = rw (f 0, list-only d l m (omega arith) (λ i. f (suc i)))

-- the least index of which something holds is one
least-only : (P : ℕ → Type 0) (i j : ℕ) → P i → P j → ((k : ℕ) → k < i → P k → ⊥) → ((k : ℕ) → k < j → P k → ⊥) → i ≡ j
least-only P i j a b f g = same_or i j (λ e. e) (λ d. in-or-out i j (λ l. absurd (g i l a)) (λ l. absurd (f j (omega arith) b)))

-- ---- who

pub first-only : (w : World) (i j : ℕ) → First w i → First w j → i ≡ j
first-only w i j a b = least-only (λ k. (w.thread k).state ≡ 0) i j a.is-ready b.is-ready a.first b.first

pub highest-only : (w : World) (p i j : ℕ) → Highest w p i → Highest w p j → i ≡ j
highest-only w p i j a b =
    least-only (λ k. ((w.thread k).state ≡ 3) × ((w.thread k).place ≡ p)) i j a.waits b.waits
    (λ k l x. a.highest k l x.0 x.1) (λ k l x. b.highest k l x.0 x.1)

pub running-only : (w : World) (r q : ℕ) → Running w r → Running w q → r ≡ q
running-only w r q (Running.thread a) (Running.thread b) = first-only w r q a b
running-only w r q (Running.thread a) (Running.idle f e) = absurd (f r a.thread a.is-ready)
running-only w r q (Running.idle f e) (Running.thread b) = absurd (f q b.thread b.is-ready)
running-only w r q (Running.idle f e) (Running.idle g d) = e ∙ sym d

-- ---- the acts

tick-of-only : (w : World) (i : ℕ) (x y : World) → TickOf w i x → TickOf w i y → x ≡ y
tick-of-only w i x y (TickOf.no-ticks a e) (TickOf.no-ticks b d) = e ∙ sym d
tick-of-only w i x y (TickOf.no-ticks a e) (TickOf.falls b d) = absurd (omega arith)
tick-of-only w i x y (TickOf.no-ticks a e) (TickOf.last b d) = absurd (omega arith)
tick-of-only w i x y (TickOf.falls a e) (TickOf.no-ticks b d) = absurd (omega arith)
tick-of-only w i x y (TickOf.falls a e) (TickOf.falls b d) = e ∙ sym d
tick-of-only w i x y (TickOf.falls a e) (TickOf.last b d) = absurd (omega arith)
tick-of-only w i x y (TickOf.last a e) (TickOf.no-ticks b d) = absurd (omega arith)
tick-of-only w i x y (TickOf.last a e) (TickOf.falls b d) = absurd (omega arith)
tick-of-only w i x y (TickOf.last a e) (TickOf.last b d) = e ∙ sym d

ticks-only : (w : World) (n : ℕ) (x y : World) → Ticks w n x → Ticks w n y → x ≡ y
ticks-only w zero x y a b = a ∙ sym b
ticks-only w (suc n) x y a b =
    tick-of-only b.0 n x y (subst (λ (v : World). TickOf v n x) (ticks-only w n a.0 b.0 a.1 b.1) a.2) b.2

signal-only : (w : World) (p : ℕ) (x y : World) (n m : Bool) → Signal w p x n → Signal w p y m → (x ≡ y) × (n ≡ m)
signal-only w p x y n m (Signal.raises a l e) (Signal.raises b h d) = (e ∙ sym d, refl)
signal-only w p x y n m (Signal.raises a l e) (Signal.wakes b j g d) = contrary b a
signal-only w p x y n m (Signal.raises a l e) (Signal.at_top b d) = contrary l b
signal-only w p x y n m (Signal.wakes a i f e) (Signal.raises b h d) = contrary a b
signal-only w p x y n m (Signal.wakes a i f e) (Signal.wakes b j g d) =
    (e ∙ ap (λ (k : ℕ). made_ready w k (pos 0) 1) (highest-only w p i j f g) ∙ sym d, refl)
signal-only w p x y n m (Signal.wakes a i f e) (Signal.at_top b d) = contrary a (top-not-below (w.counter p) b)
signal-only w p x y n m (Signal.at_top a e) (Signal.raises b h d) = contrary h a
signal-only w p x y n m (Signal.at_top a e) (Signal.wakes b j g d) = contrary b (top-not-below (w.counter p) a)
signal-only w p x y n m (Signal.at_top a e) (Signal.at_top b d) = (e ∙ sym d, refl)

binary-only : (w : World) (p : ℕ) (x y : World) → BinarySignal w p x → BinarySignal w p y → x ≡ y
binary-only w p x y (BinarySignal.signals a n e) (BinarySignal.signals b m d) = (signal-only w p x y n m e d).0
binary-only w p x y (BinarySignal.signals a n e) (BinarySignal.nothing b d) = contrary a b
binary-only w p x y (BinarySignal.nothing a e) (BinarySignal.signals b m d) = contrary b a
binary-only w p x y (BinarySignal.nothing a e) (BinarySignal.nothing b d) = e ∙ sym d

waits-only : (w : World) (i s p : ℕ) (c : Call) (x y : World) → Waits w i s p c x → Waits w i s p c y → x ≡ y
waits-only w i s p c x y (Waits.now a e) (Waits.now b d) = e ∙ sym d
waits-only w i s p c x y (Waits.now a e) (Waits.later b d) = absurd (b a)
waits-only w i s p c x y (Waits.later a e) (Waits.now b d) = absurd (a b)
waits-only w i s p c x y (Waits.later a e) (Waits.later b d) = e ∙ sym d

semaphore-only : (w : World) (i p : ℕ) (c : Call) (x y : World) → SemaphoreWait w i p c x → SemaphoreWait w i p c y → x ≡ y
semaphore-only w i p c x y (SemaphoreWait.above a e) (SemaphoreWait.above b d) = e ∙ sym d
semaphore-only w i p c x y (SemaphoreWait.above a e) (SemaphoreWait.not-above b d) = contrary a b
semaphore-only w i p c x y (SemaphoreWait.not-above a e) (SemaphoreWait.above b d) = contrary b a
semaphore-only w i p c x y (SemaphoreWait.not-above a e) (SemaphoreWait.not-above b d) = waits-only w i 3 p c x y e d

release-only : (w : World) (p : ℕ) (m : ℤ) (c : ℕ) (x y : World) → Release w p m c x → Release w p m c y → x ≡ y
release-only w p m c x y (Release.first i f e) (Release.first j g d) = e ∙ ap (λ (k : ℕ). made_ready w k m c) (highest-only w p i j f g) ∙ sym d
release-only w p m c x y (Release.first i f e) (Release.nobody g d) = absurd (g i f)
release-only w p m c x y (Release.nobody f e) (Release.first j g d) = absurd (f j g)
release-only w p m c x y (Release.nobody f e) (Release.nobody g d) = e ∙ sym d

not-elsewhere : {a b : Type 0} → a → b → (a → ⊥) ⊎ (b → ⊥) → ⊥
not-elsewhere x y (inl f) = f x
not-elsewhere x y (inr f) = f y

release-of-only : (w : World) (p : ℕ) (m : ℤ) (c i : ℕ) (x y : World) → ReleaseOf w p m c i x → ReleaseOf w p m c i y → x ≡ y
release-of-only w p m c i x y (ReleaseOf.waits a b e) (ReleaseOf.waits f g d) = e ∙ sym d
release-of-only w p m c i x y (ReleaseOf.waits a b e) (ReleaseOf.elsewhere f d) = absurd (not-elsewhere a b f)
release-of-only w p m c i x y (ReleaseOf.elsewhere a e) (ReleaseOf.waits f g d) = absurd (not-elsewhere f g a)
release-of-only w p m c i x y (ReleaseOf.elsewhere a e) (ReleaseOf.elsewhere f d) = e ∙ sym d

release-all-only : (w : World) (p : ℕ) (m : ℤ) (c n : ℕ) (x y : World) → ReleaseAll w p m c n x → ReleaseAll w p m c n y → x ≡ y
release-all-only w p m c zero x y a b = a ∙ sym b
release-all-only w p m c (suc n) x y a b =
    release-of-only b.0 p m c n x y
    (subst (λ (v : World). ReleaseOf v p m c n x) (release-all-only w p m c n a.0 b.0 a.1 b.1) a.2) b.2

resume-only : (w : World) (r : ℕ) (m : ℤ) (x y : World) → Resume w r m x → Resume w r m y → x ≡ y
resume-only w r m x y (Resume.held a e) (Resume.held b d) = e ∙ sym d
resume-only w r m x y (Resume.held a e) (Resume.empty b d) = absurd (a b)
resume-only w r m x y (Resume.empty a e) (Resume.held b d) = absurd (b a)
resume-only w r m x y (Resume.empty a e) (Resume.empty b d) = e ∙ sym d

not-flagged : {a b : Type 0} → a → (b → ⊥) → (a → ⊥) ⊎ b → ⊥
not-flagged x y (inl f) = f x
not-flagged x y (inr f) = y f

event-signal-only : (w : World) (i a : ℕ) (x y : World) → EventSignal w i a x → EventSignal w i a y → x ≡ y
event-signal-only w i a x y (EventSignal.comes f g e) (EventSignal.comes h k d) = e ∙ sym d
event-signal-only w i a x y (EventSignal.comes f g e) (EventSignal.only-flagged h d) = absurd (not-flagged f g h)
event-signal-only w i a x y (EventSignal.only-flagged f e) (EventSignal.comes h k d) = absurd (not-flagged h k f)
event-signal-only w i a x y (EventSignal.only-flagged f e) (EventSignal.only-flagged h d) = e ∙ sym d

event-wait-only : (w : World) (i : ℕ) (c : Call) (x y : World) → EventWait w i c x → EventWait w i c y → x ≡ y
event-wait-only w i c x y (EventWait.finds a e) (EventWait.finds b d) = e ∙ sym d
event-wait-only w i c x y (EventWait.finds a e) (EventWait.finds-none b d) = absurd (a b)
event-wait-only w i c x y (EventWait.finds-none a e) (EventWait.finds b d) = absurd (b a)
event-wait-only w i c x y (EventWait.finds-none a e) (EventWait.finds-none b d) = waits-only w i 4 0 c x y e d

post-only : (w : World) (i : ℕ) (c : Call) (x y : World) → Post w i c x → Post w i c y → x ≡ y
post-only w i c x y (Post.in-reset a e) (Post.in-reset b d) = e ∙ sym d
post-only w i c x y (Post.in-reset a e) (Post.behind b l k u r d) = absurd (a b)
post-only w i c x y (Post.in-reset a e) (Post.ahead b l k u r d) = absurd (a b)
post-only w i c x y (Post.in-reset a e) (Post.no_room b l d) = absurd (a b)
post-only w i c x y (Post.behind a l k v r e) (Post.in-reset b d) = absurd (b a)
post-only w i c x y (Post.behind a l k v r e) (Post.behind b m f u q d) =
    e
    ∙ ap (λ (z : World). ended (box_to z c.object (written (w.box c.object) (slots_of w c.object) c.operand)) i (pos 0) 0)
    (release-only w (32 + c.object) (pos 0) 5 v u r q)
    ∙ sym d
post-only w i c x y (Post.behind a l k v r e) (Post.ahead b m f u q d) = absurd (omega arith)
post-only w i c x y (Post.behind a l k v r e) (Post.no_room b m d) = absurd (omega arith)
post-only w i c x y (Post.ahead a l k v r e) (Post.in-reset b d) = absurd (b a)
post-only w i c x y (Post.ahead a l k v r e) (Post.behind b m f u q d) = absurd (omega arith)
post-only w i c x y (Post.ahead a l k v r e) (Post.ahead b m f u q d) =
    e
    ∙ ap (λ (z : World). ended (box_to z c.object (written_ahead (w.box c.object) (slots_of w c.object) c.operand)) i (pos 0) 0)
    (release-only w (32 + c.object) (pos 0) 5 v u r q)
    ∙ sym d
post-only w i c x y (Post.ahead a l k v r e) (Post.no_room b m d) = absurd (omega arith)
post-only w i c x y (Post.no_room a l e) (Post.in-reset b d) = absurd (b a)
post-only w i c x y (Post.no_room a l e) (Post.behind b m f u q d) = absurd (omega arith)
post-only w i c x y (Post.no_room a l e) (Post.ahead b m f u q d) = absurd (omega arith)
post-only w i c x y (Post.no_room a l e) (Post.no_room b m d) = waits-only w i 3 (28 + c.object) c x y e d

fetch-only : (w : World) (i : ℕ) (c : Call) (x y : World) → Fetch w i c x → Fetch w i c y → x ≡ y
fetch-only w i c x y (Fetch.in-reset a e) (Fetch.in-reset b d) = e ∙ sym d
fetch-only w i c x y (Fetch.in-reset a e) (Fetch.message b l u r d) = absurd (a b)
fetch-only w i c x y (Fetch.in-reset a e) (Fetch.no-message b l d) = absurd (a b)
fetch-only w i c x y (Fetch.message a l v r e) (Fetch.in-reset b d) = absurd (b a)
fetch-only w i c x y (Fetch.message a l v r e) (Fetch.message b m u q d) =
    e
    ∙ ap (λ (z : World). ended (box_to z c.object (taken_from (w.box c.object) (slots_of w c.object))) i (pos 0)
    (get_or (w.box c.object).messages (w.box c.object).positions.read 0))
    (release-only w (28 + c.object) (pos 0) 6 v u r q)
    ∙ sym d
fetch-only w i c x y (Fetch.message a l v r e) (Fetch.no-message b m d) = absurd (omega arith)
fetch-only w i c x y (Fetch.no-message a l e) (Fetch.in-reset b d) = absurd (b a)
fetch-only w i c x y (Fetch.no-message a l e) (Fetch.message b m u q d) = absurd (omega arith)
fetch-only w i c x y (Fetch.no-message a l e) (Fetch.no-message b m d) = waits-only w i 3 (32 + c.object) c x y e d

alloc-only : (w : World) (i : ℕ) (c : Call) (x y : World) → Alloc w i c x → Alloc w i c y → x ≡ y
alloc-only w i c x y (Alloc.above a e) (Alloc.above b d) = e ∙ sym d
alloc-only w i c x y (Alloc.above a e) (Alloc.not-above b d) = contrary a b
alloc-only w i c x y (Alloc.not-above a e) (Alloc.above b d) = contrary b a
alloc-only w i c x y (Alloc.not-above a e) (Alloc.not-above b d) = waits-only w i 3 (16 + c.object) c x y e d

module _ (t : Tables) (now : SystemTime) (s : Step) where
  -- the step's own call finishes with 0 and 0
  abbrev done : World → World
  done v = ended v s.caller (pos 0) 0

  abbrev w₀ : World
  w₀ = found t

  abbrev i : ℕ
  i = s.caller

  abbrev o : ℕ
  o = s.object

  -- of one kind: the rows exclude each other by their number
  pub act-only : (n : ℕ) (x y : World) → Act t now s x n → Act t now s y n → x ≡ y
  act-only n x y (Act.tick v a e) (Act.tick u b d) = e ∙ ap done (ticks-only w₀ t.sizes.threads v u a b) ∙ sym d
  act-only n x y (Act.semaphore-wait a) (Act.semaphore-wait b) = semaphore-only w₀ i o _ x y a b
  act-only n x y (Act.signal v j a e) (Act.signal u k b d) =
      let same = signal-only w₀ o v u j k a b in
      e ∙ ap (λ (z : World). ended z i (cond j (pos 0) (pos 1)) 0) same.0 ∙ ap (λ (f : Bool). ended u i (cond f (pos 0) (pos 1)) 0) same.1
      ∙ sym d
  act-only n x y (Act.reset v a e) (Act.reset u b d) =
      e ∙ ap (λ (z : World). done (counter_to z o (pos s.a))) (release-all-only w₀ o (negsuc 1) 7 t.sizes.threads v u a b) ∙ sym d
  act-only n x y (Act.binary-signal v a e) (Act.binary-signal u b d) = e ∙ ap done (binary-only w₀ o v u a b) ∙ sym d
  act-only n x y (Act.queue-wait a) (Act.queue-wait b) = waits-only w₀ i 3 (20 + o) _ x y a b
  act-only n x y (Act.release-first v a e) (Act.release-first u b d) = e ∙ ap done (release-only w₀ (20 + o) _ 2 v u a b) ∙ sym d
  act-only n x y (Act.release-all v a e) (Act.release-all u b d) = e ∙ ap done (release-all-only w₀ (20 + o) (signed s.a) 2 t.sizes.threads v u a b) ∙ sym d
  act-only n x y (Act.suspend a) (Act.suspend b) = waits-only w₀ i 2 o _ x y a b
  act-only n x y (Act.resume v a e) (Act.resume u b d) = e ∙ ap done (resume-only w₀ o _ v u a b) ∙ sym d
  act-only n x y (Act.sleep-for e) (Act.sleep-for d) = e ∙ sym d
  act-only n x y (Act.sleep-until e) (Act.sleep-until d) = e ∙ sym d
  act-only n x y (Act.event-signal v a e) (Act.event-signal u b d) = e ∙ ap done (event-signal-only w₀ o s.a v u a b) ∙ sym d
  act-only n x y (Act.event-wait a) (Act.event-wait b) = event-wait-only w₀ i _ x y a b
  act-only n x y (Act.post a) (Act.post b) = post-only w₀ i _ x y a b
  act-only n x y (Act.post-ahead a) (Act.post-ahead b) = post-only w₀ i _ x y a b
  act-only n x y (Act.fetch a) (Act.fetch b) = fetch-only w₀ i _ x y a b
  act-only n x y (Act.mailbox-reset v u a b e) (Act.mailbox-reset k l f g d) =
      let first = release-all-only w₀ (28 + o) (negsuc 1) 7 t.sizes.threads v k a f in
      let second =
      release-all-only k (32 + o) (negsuc 1) 7 t.sizes.threads u l
      (subst (λ (z : World). ReleaseAll z (32 + o) (negsuc 1) 7 t.sizes.threads u) first b) g in
      e ∙ ap (λ (z : World). done (box_to z o (in_reset (w₀.box o)))) second ∙ sym d
  act-only n x y (Act.mailbox-resume e) (Act.mailbox-resume d) = e ∙ sym d
  act-only n x y (Act.alloc a) (Act.alloc b) = alloc-only w₀ i _ x y a b
  act-only n x y (Act.free v j a e) (Act.free u k b d) =
      e ∙ ap (λ (z : World). done (pool_to z o (on_top (w₀.pool o) s.a))) (signal-only w₀ (16 + o) v u j k a b).0 ∙ sym d
  act-only n x y (Act.add v j a e) (Act.add u k b d) =
      e ∙ ap (λ (z : World). done (pool_to z o (on_top (w₀.pool o) s.a))) (signal-only w₀ (16 + o) v u j k a b).0 ∙ sym d

-- ---- settling

-- the bullets exclude each other
not-other : {n : ℕ} {m : ℤ} → IsOther n ⊎ (m ≢ pos 0) → (n ≡ 14) ⊎ ((n ≡ 15) ⊎ ((n ≡ 16) ⊎ ((n ≡ 17) ⊎ (n ≡ 20)))) → m ≡ pos 0 → ⊥
not-other (inl f) (inl e) z = f.0 e
not-other (inl f) (inr (inl e)) z = f.1 e
not-other (inl f) (inr (inr (inl e))) z = f.2 e
not-other (inl f) (inr (inr (inr (inl e)))) z = f.3 e
not-other (inl f) (inr (inr (inr (inr e)))) z = f.4 e
not-other (inr f) e z = f z

either : {n : ℕ} → (n ≡ 15) ⊎ (n ≡ 16) → (n ≡ 14) ⊎ ((n ≡ 15) ⊎ ((n ≡ 16) ⊎ ((n ≡ 17) ⊎ (n ≡ 20))))
either (inl e) = inr (inl e)
either (inr e) = inr (inr (inl e))

not-post : {n : ℕ} → (n ≡ 15) ⊎ (n ≡ 16) → (n ≤ 14) ⊎ (17 ≤ n) → ⊥
not-post (inl e) (inl h) = omega arith
not-post (inl e) (inr h) = omega arith
not-post (inr e) (inl h) = omega arith
not-post (inr e) (inr h) = omega arith

continued-only : (w : World) (i : ℕ) (x y : World) → Continued w i x → Continued w i y → x ≡ y
continued-only w i x y (Continued.flags a z e) (Continued.flags b o d) = e ∙ sym d
continued-only w i x y (Continued.flags a z e) (Continued.posts b o d) = absurd (not-post b (inl (omega arith)))
continued-only w i x y (Continued.flags a z e) (Continued.fetches b o d) = absurd (omega arith)
continued-only w i x y (Continued.flags a z e) (Continued.takes b o d) = absurd (omega arith)
continued-only w i x y (Continued.flags a z e) (Continued.answers b d) = absurd (not-other b (inl a) z)
continued-only w i x y (Continued.posts a z e) (Continued.flags b o d) = absurd (not-post a (inl (omega arith)))
continued-only w i x y (Continued.posts a z e) (Continued.posts b o d) = post-only w i (w.thread i).call x y e d
continued-only w i x y (Continued.posts a z e) (Continued.fetches b o d) = absurd (not-post a (inr (omega arith)))
continued-only w i x y (Continued.posts a z e) (Continued.takes b o d) = absurd (not-post a (inr (omega arith)))
continued-only w i x y (Continued.posts a z e) (Continued.answers b d) = absurd (not-other b (either a) z)
continued-only w i x y (Continued.fetches a z e) (Continued.flags b o d) = absurd (omega arith)
continued-only w i x y (Continued.fetches a z e) (Continued.posts b o d) = absurd (not-post b (inr (omega arith)))
continued-only w i x y (Continued.fetches a z e) (Continued.fetches b o d) = fetch-only w i (w.thread i).call x y e d
continued-only w i x y (Continued.fetches a z e) (Continued.takes b o d) = absurd (omega arith)
continued-only w i x y (Continued.fetches a z e) (Continued.answers b d) = absurd (not-other b (inr (inr (inr (inl a)))) z)
continued-only w i x y (Continued.takes a z e) (Continued.flags b o d) = absurd (omega arith)
continued-only w i x y (Continued.takes a z e) (Continued.posts b o d) = absurd (not-post b (inr (omega arith)))
continued-only w i x y (Continued.takes a z e) (Continued.fetches b o d) = absurd (omega arith)
continued-only w i x y (Continued.takes a z e) (Continued.takes b o d) = e ∙ sym d
continued-only w i x y (Continued.takes a z e) (Continued.answers b d) = absurd (not-other b (inr (inr (inr (inr a)))) z)
continued-only w i x y (Continued.answers a e) (Continued.flags b o d) = absurd (not-other a (inl b) o)
continued-only w i x y (Continued.answers a e) (Continued.posts b o d) = absurd (not-other a (either b) o)
continued-only w i x y (Continued.answers a e) (Continued.fetches b o d) = absurd (not-other a (inr (inr (inr (inl b)))) o)
continued-only w i x y (Continued.answers a e) (Continued.takes b o d) = absurd (not-other a (inr (inr (inr (inr b)))) o)
continued-only w i x y (Continued.answers a e) (Continued.answers b d) = e ∙ sym d

-- where it ends, and whose calls were continued, in which order
pub settles-only : (x y w : World) (is js : List ℕ) → Settles x w is → Settles y w js → (x ≡ y) × (is ≡ js)
settles-only x y w [] [] (Settles.ends a e) (Settles.ends b d) = (e ∙ sym d, refl)
settles-only x y w [] (j ∷ js) (Settles.ends a e) (Settles.goes r f m v c l) = absurd (m (a j f))
settles-only x y w (i ∷ is) [] (Settles.goes r f m v c l) (Settles.ends b d) = absurd (m (b i f))
settles-only x y w (i ∷ is) (j ∷ js) (Settles.goes p f m v c l) (Settles.goes q g h u d r) =
    let rest = settles-only x y v is js l (subst (λ (z : World). Settles y z js) (sym same) r) in
    (rest.0, rw (first-only w i j f g, rest.1))
  where
    same : v ≡ u
    same = continued-only w i v u c (subst (λ (k : ℕ). Continued w k u) (sym (first-only w i j f g)) d)

-- ---- clock and result

clock-only : (c : Clock) (kind : ℕ) (d e : Clock) → ClockAfter c kind d → ClockAfter c kind e → d ≡ e
clock-only c kind d e (ClockAfter.next a l x) (ClockAfter.next b m y) = x ∙ sym y
clock-only c kind d e (ClockAfter.next a l x) (ClockAfter.wraps b m y) = absurd (omega arith)
clock-only c kind d e (ClockAfter.next a l x) (ClockAfter.stays b y) = absurd (b a)
clock-only c kind d e (ClockAfter.wraps a l x) (ClockAfter.next b m y) = absurd (omega arith)
clock-only c kind d e (ClockAfter.wraps a l x) (ClockAfter.wraps b m y) = x ∙ sym y
clock-only c kind d e (ClockAfter.wraps a l x) (ClockAfter.stays b y) = absurd (b a)
clock-only c kind d e (ClockAfter.stays a x) (ClockAfter.next b m y) = absurd (a b)
clock-only c kind d e (ClockAfter.stays a x) (ClockAfter.wraps b m y) = absurd (a b)
clock-only c kind d e (ClockAfter.stays a x) (ClockAfter.stays b y) = x ∙ sym y

outcome-only : (o q : Outcome) → o.code ≡ q.code → o.running ≡ q.running → o.woken ≡ q.woken → o.finished ≡ q.finished
    → o.message ≡ q.message → o.datum ≡ q.datum → o ≡ q
outcome-only o q a b c d e f = λ i. record { code = a i; running = b i; woken = c i; finished = d i; message = e i; datum = f i }

result-only : (w : World) (caller : ℕ) (o q : Outcome) → ResultOf w caller o → ResultOf w caller q → o ≡ q
result-only w caller o q a b =
    outcome-only o q (a.code ∙ sym b.code) (running-only w o.running q.running a.running b.running)
    (mask-only w.woken o.woken q.woken a.woken b.woken)
    (mask-only w.finished o.finished q.finished a.finished b.finished)
    (a.message ∙ sym b.message) (a.datum ∙ sym b.datum)

left-only : (w : World) (g : Words) (u v : Tables) → Left w u → Left w v → WordsLeft w g u.kernel.words → WordsLeft w g v.kernel.words
    → u ≡ v
left-only w g u v a b x y =
    let threads = list-only no_thread u.kernel.threads v.kernel.threads (a.thread-rows ∙ sym b.thread-rows) (λ i. a.threads i ∙ sym (b.threads i)) in
    let counters = list-only (pos 0) u.kernel.counters v.kernel.counters (a.counter-rows ∙ sym b.counter-rows) (λ i. a.counters i ∙ sym (b.counters i)) in
    let references = list-only 255 u.kernel.references v.kernel.references (a.reference-rows ∙ sym b.reference-rows) (λ i. a.references i ∙ sym (b.references i)) in
    let boxes = list-only no_box u.mailboxes v.mailboxes (a.box-rows ∙ sym b.box-rows) (λ i. a.boxes i ∙ sym (b.boxes i)) in
    let pools = list-only no_pool u.pools v.pools (a.pool-rows ∙ sym b.pool-rows) (λ i. a.pools i ∙ sym (b.pools i)) in
    let sizes = a.sizes ∙ sym b.sizes in
    let ready = ready-only w g u.kernel.words v.kernel.words x y in
    let waiting = list-only 0 u.kernel.words.waiting v.kernel.words.waiting (x.places ∙ sym y.places) (waiting-only w g u.kernel.words v.kernel.words x y) in
    let filler = x.filler ∙ sym y.filler in
    let steps = a.steps ∙ sym b.steps in
    λ i. record {
      kernel = record {
        threads = threads i;
        counters = counters i;
        references = references i;
        words = record { ready = ready i; waiting = waiting i; unused = filler i };
        steps = steps i;
      };
      mailboxes = boxes i;
      pools = pools i;
      sizes = sizes i;
    }

stepped-only : (r q : Stepped) → r.tables ≡ q.tables → r.clock ≡ q.clock → r.outcome ≡ q.outcome → r ≡ q
stepped-only r q a b c = λ i. record { tables = a i; clock = b i; outcome = c i }

refused-only : (t : Tables) (c : Clock) (n : ℕ) (r q : Stepped) → RefusedWith t c n r → RefusedWith t c n q → r ≡ q
refused-only t c n r q a b =
    stepped-only r q (a.tables ∙ sym b.tables) (a.clock ∙ sym b.clock)
    (outcome-only r.outcome q.outcome (a.code ∙ sym b.code)
    (same_or n 1 (λ e. a.no-running e ∙ sym (b.no-running e))
    (λ d. running-only (found t) r.outcome.running q.outcome.running (a.running d) (b.running d)))
    (a.woken ∙ sym b.woken) (a.finished ∙ sym b.finished) (a.message ∙ sym b.message) (a.datum ∙ sym b.datum))

-- TWO ANSWERS TO ONE STEP COINCIDE
pub step-only : (t : Tables) (c : Clock) (s : Step) (r q : Stepped) → StepOf t c s r → StepOf t c s q → r ≡ q
step-only t c s r q (StepOf.refused n a f x) (StepOf.refused m b g y) =
    refused-only t c n r q x (subst (λ (k : ℕ). RefusedWith t c k q) (sym (least-only (Broken t c s) n m a b f g)) y)
step-only t c s r q (StepOf.refused n a f x) (StepOf.accepted none w v m b l y g k o) = absurd (none n a)
step-only t c s r q (StepOf.accepted none w v m b l y g k o) (StepOf.refused n a f x) = absurd (none n a)
step-only t c s r q (StepOf.accepted none w v n a l y g k o) (StepOf.accepted still u z j b m x f d e) =
    stepped-only r q (left-only v t.kernel.words r.tables q.tables y (rw same.0 x) g (rw same.0 f)) (clock-only c s.kind r.clock q.clock k d)
    (result-only v s.caller r.outcome q.outcome o (rw same.0 e))
  where
    same : (v ≡ z) × (n ≡ j)
    same = settles-only v z w n j l (subst (λ (y : World). Settles z y j) (sym (act-only t c.time s s.kind w u a b)) m)
