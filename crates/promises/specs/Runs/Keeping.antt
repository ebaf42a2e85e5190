-- What every move of a step keeps, the step keeps. The rows of the table and the continued calls are made of few moves: a counter, a mailbox
-- or a pool changes, a thread is woken, a call ends, a thread falls asleep. Whoever shows that each of these keeps something (`Keeps`) has
-- it of all 22 rows and of settling.
use Rattle.std.specs.Prelude.{ℕ, zero, suc, ◌+◌, ◌-◌, ◌%◌, ◌<◌, ◌≡◌, refl, ◌≢◌, ◌⊎◌, Bool, false, ℤ, pos, negsuc}
use Rattle.std.proofs.Common.{arith, sym, ap, ◌∙◌, subst, inl, inr, eq-eqb, ne_eqb}
use Rattle.std.specs.Int.Bits.{bit_and}
use Rattle.kernel.specs.declared.time.SystemTime.{SystemTime}
use Rattle.kernel.specs.declared.records.Call.{Call}
use Rattle.kernel.specs.declared.records.Thread.{Thread}
use Rattle.kernel.proofs.Cases.{same_or}
use Rattle.library.specs.declared.calls.Step.{Step}
use Rattle.library.specs.declared.tables.Mailbox.{Mailbox}
use Rattle.library.specs.declared.tables.Pool.{Pool}
use Rattle.library.specs.declared.tables.Tables.{Tables}
use Rattle.promises.specs.Paper.World.{
  World,
  found,
  put,
  counter_to,
  box_to,
  pool_to,
  made_ready,
  ended,
  fall_asleep,
  signed,
  kept,
  Highest,
}
use Rattle.promises.specs.Paper.Rows.{
  Ticks,
  Signal,
  BinarySignal,
  Waits,
  SemaphoreWait,
  Release,
  ReleaseOf,
  ReleaseAll,
  Resume,
  took_flags,
  EventSignal,
  EventWait,
  Post,
  Fetch,
  top_in,
  Alloc,
  Act,
}
use Rattle.promises.specs.Paper.Settling.{IsOther, Continued}
use Rattle.promises.specs.Paper.Waking.{IsPost, IsMailing, Tried, Served, CalledOut, OwnWait, SideOf}

-- ---- one entry of a table, and the others

pub put_same : {A : Type 0} (f : ℕ → A) (i : ℕ) (a : A) → put f i a i ≡ a
put_same f i a = rw (eq-eqb i i refl)

pub put_other : {A : Type 0} (f : ℕ → A) (i j : ℕ) (a : A) → j ≢ i → put f i a j ≡ f j
put_other f i j a d = rw (ne_eqb j i d)

-- one entry changes, but not this part of it: so it does of none
pub put-part : {A B : Type 0} (g : A → B) (f : ℕ → A) (i : ℕ) (a : A) → g a ≡ g (f i) → (j : ℕ) → g (put f i a j) ≡ g (f j)
put-part g f i a e j = same_or j i (λ x. rw x (ap g (put_same f i a) ∙ e)) (λ d. ap g (put_other f i j a d))

-- who is queued is not ready
pub queued-asleep : {n : ℕ} → n ≡ 3 → n ≢ 0
queued-asleep e z = omega arith

-- ---- what each move keeps

-- a woken call that is continued ends with m and d
pub data Ends (b : Thread) : ℤ → ℕ → Type 0 where
  message : IsOther b.call.kind ⊎ (b.message ≢ pos 0) → Ends b b.message 0
  object : b.call.kind ≡ 20 → b.message ≡ pos 0 → (o : ℕ) → o < 32 → Ends b (pos 0) o
  in-reset : IsMailing b.call.kind → b.message ≡ pos 0 → Ends b (negsuc 1) 0
  posted : IsPost b.call.kind → b.message ≡ pos 0 → Ends b (pos 0) 0
  fetched : b.call.kind ≡ 17 → b.message ≡ pos 0 → (x : ℕ) → Ends b (pos 0) x

-- P is kept by each move that the step's own act and a continued call share; C is who calls out a thread, by its state and place
pub record Moves (t : Tables) (s : Step) (C : ℕ → ℕ → ℤ → ℕ → Type 0) (P : World → Type 0) : Type 0 where
  pub counter : (w : World) (p : ℕ) (c : ℤ) → P w → P (counter_to w p c)
  pub box : (w : World) (b : ℕ) (x : Mailbox) → P w → P (box_to w b x)
  pub pool : (w : World) (q : ℕ) (x : Pool) → P w → P (pool_to w q x)
  pub wakes : (w : World) (j : ℕ) (m : ℤ) (c : ℕ) → (w.thread j).state ≢ 0 → C (w.thread j).state (w.thread j).place m c → P w
      → P (made_ready w j m c)

-- and by each that a continued call makes, which wakes others only where it serves: thread r's call ends, takes flags or
-- sleeps again, if it was not woken in this step
pub record KeepsOn (t : Tables) (s : Step) (P : World → Type 0) : Type 0 where
  pub moves : Moves t s (Served t s) P
  pub ends_on : (w : World) (r : ℕ) (m : ℤ) (d : ℕ) → r < t.sizes.threads → (w.thread r).state ≡ 0 → (w.thread r).call.kind ≢ 0
      → Ends (w.thread r) m d → P w → P (ended w r m d)
  pub takes-on : (w : World) (r : ℕ) → r < t.sizes.threads → (w.thread r).state ≡ 0 → (w.thread r).call.kind ≡ 14
      → (w.thread r).message ≡ pos 0 → P w → P (took_flags w r (w.thread r).call.operand)
  pub sleeps-on : (w : World) (r q : ℕ) → r < t.sizes.threads → (w.thread r).state ≡ 0 → IsMailing (w.thread r).call.kind
      → (w.thread r).message ≡ pos 0 → SideOf (w.thread r).call q → w.woken r ≡ false → P w → P (fall_asleep w r 3 q (w.thread r).call)

-- the flags that the step's own event wait finds
abbrev pub own_flags : Tables → Step → ℕ
own_flags t s = bit_and ((found t).thread s.caller).pending s.a

-- what the step's own call may end with, beside flags that it takes: an event wait ends so only where it finds none, with timeout 0
abbrev pub OwnEnd : Tables → Step → ℤ → ℕ → Type 0
OwnEnd t s m d = s.kind ≡ 14 → (m ≡ negsuc 0) × (d ≡ 0) × (own_flags t s ≡ 0) × (s.timeout ≡ 0)

-- or by each that the step's own act makes
pub record KeepsAct (t : Tables) (s : Step) (P : World → Type 0) : Type 0 where
  pub moves : Moves t s (CalledOut t s) P
  -- what the step finds, but for a tick and an event signal, which are told as a whole
  pub begins : s.kind ≢ 1 → s.kind ≢ 13 → P (found t)
  pub ticks : (v : World) → s.kind ≡ 1 → Ticks (found t) t.sizes.threads v → P v
  pub events : (v : World) → s.kind ≡ 13 → EventSignal (found t) s.object s.a v → P v
  -- the step's own call ends, takes flags, or sleeps
  pub ends : (w : World) (m : ℤ) (d : ℕ) → OwnEnd t s m d → P w → P (ended w s.caller m d)
  pub takes : s.kind ≡ 14 → own_flags t s ≢ 0 → P (found t) → P (took_flags (found t) s.caller s.a)
  pub sleeps : (w : World) (st pl : ℕ) (c : Call) → OwnWait s st pl → c.kind ≡ s.kind → (s.kind ≡ 14 → own_flags t s ≡ 0)
      → (IsMailing c.kind → c.object ≡ s.object) → P w → P (fall_asleep w s.caller st pl c)

-- and so by the whole step
pub record Keeps (t : Tables) (s : Step) (P : World → Type 0) : Type 0 where
  pub act : KeepsAct t s P
  pub on : KeepsOn t s P

-- what is kept apart is kept together
pub both-on : (t : Tables) (s : Step) (P Q : World → Type 0) → KeepsOn t s P → KeepsOn t s Q → KeepsOn t s (λ w. P w × Q w)
both-on t s P Q k l =
    record {
      moves = record {
        counter = λ w p c h. (k.moves.counter w p c h.0, l.moves.counter w p c h.1);
        box = λ w b x h. (k.moves.box w b x h.0, l.moves.box w b x h.1);
        pool = λ w q x h. (k.moves.pool w q x h.0, l.moves.pool w q x h.1);
        wakes = λ w j m b n c h. (k.moves.wakes w j m b n c h.0, l.moves.wakes w j m b n c h.1);
      };
      ends_on = λ w r m d g z n e h. (k.ends_on w r m d g z n e h.0, l.ends_on w r m d g z n e h.1);
      takes-on = λ w r g z e m h. (k.takes-on w r g z e m h.0, l.takes-on w r g z e m h.1);
      sleeps-on = λ w r q g z b m e u h. (k.sleeps-on w r q g z b m e u h.0, l.sleeps-on w r q g z b m e u h.1);
    }

module _ (t : Tables) (s : Step) (P : World → Type 0) {C : ℕ → ℕ → ℤ → ℕ → Type 0} (k : Moves t s C P) where
  to : {x y : World} → x ≡ y → P y → P x
  to e h = subst P (sym e) h

  -- the first of the waiters at p
  highest-keeps : (w : World) (p i : ℕ) (m : ℤ) (c : ℕ) → Highest w p i → ((st pl : ℕ) → st ≡ 3 → pl ≡ p → C st pl m c) → P w
      → P (made_ready w i m c)
  highest-keeps w p i m c h by = k.wakes w i m c (queued-asleep h.waits.0) (by (w.thread i).state (w.thread i).place h.waits.0 h.waits.1)

  release-keeps : {w x : World} (p : ℕ) (m : ℤ) (c : ℕ) → Release w p m c x → ((st pl : ℕ) → st ≡ 3 → pl ≡ p → C st pl m c) → P w → P x
  release-keeps {w} p m c (Release.first i h e) by g = to e (highest-keeps w p i m c h by g)
  release-keeps p m c (Release.nobody h e) by g = to e g

  -- a post that is tried is of one of two kinds
  posts : (c : Call) → (IsMailing c.kind → Tried t s c.kind c.object) → IsMailing c.kind → IsPost c.kind
      → Tried t s 15 c.object ⊎ Tried t s 16 c.object
  posts c tried box (inl e) = inl (subst (λ (n : ℕ). Tried t s n c.object) e (tried box))
  posts c tried box (inr e) = inr (subst (λ (n : ℕ). Tried t s n c.object) e (tried box))

-- ---- settling

module _ (t : Tables) (s : Step) (P : World → Type 0) (k : KeepsOn t s P) where
  -- thread r's call is continued. Its mailbox call is one that the step tries, its timeout is not 0, a top is an object's number, and the mailbox that the step
  -- resets is not at work
  module _ (w : World) (r : ℕ) (thread : r < t.sizes.threads) (is-ready : (w.thread r).state ≡ 0) (call : (w.thread r).call.kind ≢ 0)
      (timed : (w.thread r).call.timeout ≢ 0) (tried : IsMailing (w.thread r).call.kind → Tried t s (w.thread r).call.kind (w.thread r).call.object)
      (top : (w.thread r).call.kind ≡ 20 → (w.thread r).message ≡ pos 0 → top_in (w.pool (w.thread r).call.object) < 32)
      (shut : s.kind ≡ 18 → (w.box (w.thread r).call.object).reset ≡ 0 → (w.thread r).call.object ≢ s.object) where
    abbrev c : Call
    c = (w.thread r).call

    -- whoever is released is another
    released-row : {v : World} {p : ℕ} {m : ℤ} {b : ℕ} → Release w p m b v → v.thread r ≡ w.thread r
    released-row (Release.first i h e) = ap (λ (x : World). x.thread r) e ∙ put_other w.thread i r _ (λ x. queued-asleep (rw (← x) at h.waits.0) is-ready)
    released-row (Release.nobody h e) = ap (λ (x : World). x.thread r) e

    -- its call ends in a world that has its record as it was
    ends_at : (v : World) (m : ℤ) (d : ℕ) → v.thread r ≡ w.thread r → Ends (w.thread r) m d → P v → P (ended v r m d)
    ends_at v m d e h = k.ends_on v r m d thread (rw e is-ready) (rw e call) (rw e h)

    -- it sleeps again: so it was not woken in this step
    sleeps-at : (q : ℕ) → IsMailing c.kind → (w.thread r).message ≡ pos 0 → SideOf c q → {x : World} → Waits w r 3 q c x
        → ((x.thread r).state ≢ 0 → w.woken r ≡ false) → P w → P x
    sleeps-at q b m side (Waits.now a e) u g = absurd (timed a)
    sleeps-at q b m side {x} (Waits.later a e) u g =
        let sleeps : (x.thread r).state ≡ 3 = ap (λ (y : World). (y.thread r).state) e ∙ ap (λ (y : Thread). y.state) (put_same w.thread r _) in
        to t s P k.moves e (k.sleeps-on w r q thread is-ready b m side (u (queued-asleep sleeps)) g)

    on_post : {x : World} → IsPost c.kind → (w.thread r).message ≡ pos 0 → Post w r c x → ((x.thread r).state ≢ 0 → w.woken r ≡ false) → P w → P x
    on_post p m (Post.in-reset a e) u g = to t s P k.moves e (ends_at w (negsuc 1) 0 refl (Ends.in-reset (inl p) m) g)
    on_post p m (Post.behind a l b v h e) u g =
        to t s P k.moves e
        (ends_at (box_to v c.object _) (pos 0) 0 (released-row h) (Ends.posted p m)
        (k.moves.box v c.object _
        (release-keeps t s P k.moves (32 + c.object) (pos 0) 5 h (λ st pl x y. Served.post c.object (λ z. shut z a) (posts t s P k.moves c tried (inl p) p) x y) g)))
    on_post p m (Post.ahead a l b v h e) u g =
        to t s P k.moves e
        (ends_at (box_to v c.object _) (pos 0) 0 (released-row h) (Ends.posted p m)
        (k.moves.box v c.object _
        (release-keeps t s P k.moves (32 + c.object) (pos 0) 5 h (λ st pl x y. Served.post c.object (λ z. shut z a) (posts t s P k.moves c tried (inl p) p) x y) g)))
    on_post p m (Post.no_room a l h) u g = sleeps-at (28 + c.object) (inl p) m (SideOf.writers p) h u g

    on-fetch : {x : World} → c.kind ≡ 17 → (w.thread r).message ≡ pos 0 → Fetch w r c x → ((x.thread r).state ≢ 0 → w.woken r ≡ false) → P w → P x
    on-fetch p m (Fetch.in-reset a e) u g = to t s P k.moves e (ends_at w (negsuc 1) 0 refl (Ends.in-reset (inr p) m) g)
    on-fetch p m (Fetch.message a l v h e) u g =
        to t s P k.moves e
        (ends_at (box_to v c.object _) (pos 0) _ (released-row h) (Ends.fetched p m _)
        (k.moves.box v c.object _
        (release-keeps t s P k.moves (28 + c.object) (pos 0) 6 h
        (λ st pl x y. Served.fetch c.object (λ z. shut z a) (subst (λ (n : ℕ). Tried t s n c.object) p (tried (inr p))) x y) g)))
    on-fetch p m (Fetch.no-message a l h) u g = sleeps-at (32 + c.object) (inr p) m (SideOf.readers p) h u g

    -- EACH CONTINUED CALL KEEPS IT
    pub continue-keeps : {x : World} → Continued w r x → ((x.thread r).state ≢ 0 → w.woken r ≡ false) → P w → P x
    continue-keeps (Continued.flags p m e) u g = to t s P k.moves e (k.takes-on w r thread is-ready p m g)
    continue-keeps (Continued.posts p m h) u g = on_post p m h u g
    continue-keeps (Continued.fetches p m h) u g = on-fetch p m h u g
    continue-keeps (Continued.takes p m e) u g =
        to t s P k.moves e (ends_at (pool_to w c.object _) (pos 0) _ refl (Ends.object p m _ (top p m)) (k.moves.pool w c.object _ g))
    continue-keeps (Continued.answers h e) u g = to t s P k.moves e (ends_at w (w.thread r).message 0 refl (Ends.message h) g)

module _ (t : Tables) (s : Step) (P : World → Type 0) (k : KeepsAct t s P) where
  release-all-keeps : {w : World} (p : ℕ) (m : ℤ) (c n : ℕ) {x : World} → ReleaseAll w p m c n x
      → ((st pl : ℕ) → st ≡ 3 → pl ≡ p → CalledOut t s st pl m c) → P w → P x
  release-all-keeps p m c zero e by g = to t s P k.moves e g
  release-all-keeps p m c (suc n) r by g = one r.2 (release-all-keeps p m c n r.1 by g)
    where
      one : {v x : World} → ReleaseOf v p m c n x → P v → P x
      one {v} (ReleaseOf.waits a b e) h = to t s P k.moves e (k.moves.wakes v n m c (queued-asleep a) (by (v.thread n).state (v.thread n).place a b) h)
      one (ReleaseOf.elsewhere a e) h = to t s P k.moves e h

  signal-keeps : {w x : World} {b : Bool} (p : ℕ) → Signal w p x b → ((st pl : ℕ) → st ≡ 3 → pl ≡ p → CalledOut t s st pl (pos 0) 1) → P w → P x
  signal-keeps {w} p (Signal.raises a l e) by g = to t s P k.moves e (k.moves.counter w p _ g)
  signal-keeps {w} p (Signal.wakes a i h e) by g = to t s P k.moves e (highest-keeps t s P k.moves w p i (pos 0) 1 h by g)
  signal-keeps p (Signal.at_top a e) by g = to t s P k.moves e g

  binary-keeps : {w x : World} (p : ℕ) → BinarySignal w p x → ((st pl : ℕ) → st ≡ 3 → pl ≡ p → CalledOut t s st pl (pos 0) 1) → P w → P x
  binary-keeps p (BinarySignal.signals a n h) by g = signal-keeps p h by g
  binary-keeps p (BinarySignal.nothing a e) by g = to t s P k.moves e g

  -- the step's own call waits
  module _ (c : Call) (kind : c.kind ≡ s.kind) (same : IsMailing c.kind → c.object ≡ s.object) where
    tried : IsMailing c.kind → Tried t s c.kind c.object
    tried m = Tried.own (sym kind) (sym (same m))

    waits-keeps : {w x : World} (st pl : ℕ) → (s.kind ≡ 14 → (own_flags t s ≡ 0) × (c.timeout ≡ s.timeout))
        → (c.timeout ≢ 0 → OwnWait s st pl) → Waits w s.caller st pl c x → P w → P x
    waits-keeps {w} st pl none own (Waits.now a e) g =
        to t s P k.moves e (k.ends w (negsuc 0) 0 (λ q. (refl, refl, (none q).0, sym (none q).1 ∙ a)) g)
    waits-keeps {w} st pl none own (Waits.later a e) g = to t s P k.moves e (k.sleeps w st pl c (own a) kind (λ q. (none q).0) same g)

    -- of another kind than an event wait
    module _ (plain : s.kind ≢ 14) where
      other : {m : ℤ} {d : ℕ} → OwnEnd t s m d
      other q = absurd (plain q)

      semaphore-keeps : {w x : World} (p : ℕ) → (c.timeout ≢ 0 → OwnWait s 3 p) → SemaphoreWait w s.caller p c x → P w → P x
      semaphore-keeps {w} p own (SemaphoreWait.above a e) g = to t s P k.moves e (k.ends (counter_to w p _) (pos 0) 0 other (k.moves.counter w p _ g))
      semaphore-keeps p own (SemaphoreWait.not-above a h) g = waits-keeps 3 p (λ y. absurd (plain y)) own h g

      alloc_keeps : {w x : World} → (c.timeout ≢ 0 → OwnWait s 3 (16 + c.object)) → Alloc w s.caller c x → P w → P x
      alloc_keeps {w} own (Alloc.above a e) g =
          let v : World = counter_to w (16 + c.object) _ in
          to t s P k.moves e (k.ends (pool_to v c.object _) (pos 0) _ other (k.moves.pool v c.object _ (k.moves.counter w (16 + c.object) _ g)))
      alloc_keeps own (Alloc.not-above a h) g = waits-keeps 3 (16 + c.object) (λ y. absurd (plain y)) own h g

      module _ (box : IsMailing c.kind) where
        no-reset : IsMailing c.kind → s.kind ≡ 18 → c.object ≢ s.object
        no-reset (inl (inl e)) z = absurd (omega (arith, e, kind, z))
        no-reset (inl (inr e)) z = absurd (omega (arith, e, kind, z))
        no-reset (inr e) z = absurd (omega (arith, e, kind, z))

        post-keeps : {w x : World} → (c.timeout ≢ 0 → OwnWait s 3 (28 + c.object)) → IsPost c.kind → Post w s.caller c x → P w → P x
        post-keeps {w} own p (Post.in-reset a e) g = to t s P k.moves e (k.ends w (negsuc 1) 0 other g)
        post-keeps own p (Post.behind a l b v r e) g =
            to t s P k.moves e (k.ends (box_to v c.object _) (pos 0) 0 other (k.moves.box v c.object _ (release-keeps t s P k.moves (32 + c.object) (pos 0) 5 r (λ st pl x y. CalledOut.served (Served.post c.object (no-reset box) (posts t s P k.moves c tried box p) x y)) g)))
        post-keeps own p (Post.ahead a l b v r e) g =
            to t s P k.moves e (k.ends (box_to v c.object _) (pos 0) 0 other (k.moves.box v c.object _ (release-keeps t s P k.moves (32 + c.object) (pos 0) 5 r (λ st pl x y. CalledOut.served (Served.post c.object (no-reset box) (posts t s P k.moves c tried box p) x y)) g)))
        post-keeps own p (Post.no_room a l h) g = waits-keeps 3 (28 + c.object) (λ y. absurd (plain y)) own h g

        fetch-keeps : {w x : World} → (c.timeout ≢ 0 → OwnWait s 3 (32 + c.object)) → c.kind ≡ 17 → Fetch w s.caller c x → P w → P x
        fetch-keeps {w} own p (Fetch.in-reset a e) g = to t s P k.moves e (k.ends w (negsuc 1) 0 other g)
        fetch-keeps own p (Fetch.message a l v r e) g =
            to t s P k.moves e (k.ends (box_to v c.object _) (pos 0) _ other (k.moves.box v c.object _ (release-keeps t s P k.moves (28 + c.object) (pos 0) 6 r (λ st pl x y. CalledOut.served (Served.fetch c.object (no-reset box) (subst (λ (n : ℕ). Tried t s n c.object) p (tried box)) x y)) g)))
        fetch-keeps own p (Fetch.no-message a l h) g = waits-keeps 3 (32 + c.object) (λ y. absurd (plain y)) own h g

  -- ---- the rows

  module _ (now : SystemTime) where
    abbrev w₀ : World
    w₀ = found t

    -- what the step finds, by its kind
    start : {n : ℕ} → s.kind ≡ n → n ≢ 1 → n ≢ 13 → P w₀
    start e a b = k.begins (λ x. a (sym e ∙ x)) (λ x. b (sym e ∙ x))

    no-wait : {n : ℕ} → s.kind ≡ n → n ≢ 14 → s.kind ≢ 14
    no-wait e a x = a (sym e ∙ x)

    -- the step's own call finishes at once, with m and 0
    done-with : (m : ℤ) {n : ℕ} → s.kind ≡ n → n ≢ 14 → {v x : World} → x ≡ ended v s.caller m 0 → P v → P x
    done-with m q a {v} e h = to t s P k.moves e (k.ends v m 0 (λ y. absurd (no-wait q a y)) h)

    done : {n : ℕ} → s.kind ≡ n → n ≢ 14 → {v x : World} → x ≡ ended v s.caller (pos 0) 0 → P v → P x
    done = done-with (pos 0)

    no-mail : {n : ℕ} → (n ≡ 15 → ⊥) → (n ≡ 16 → ⊥) → (n ≡ 17 → ⊥) → {o : ℕ} → IsMailing n → o ≡ s.object
    no-mail a b c (inl (inl e)) = absurd (a e)
    no-mail a b c (inl (inr e)) = absurd (b e)
    no-mail a b c (inr e) = absurd (c e)

    resume-keeps : {x : World} → s.kind ≡ 10 → ((i : ℕ) → w₀.holder s.object ≡ i → i ≢ 255 → ((w₀.thread i).state ≡ 2) × ((w₀.thread i).place ≡ s.object))
        → Resume w₀ s.object (signed s.a) x → P w₀ → P x
    resume-keeps e held (Resume.held a h) g =
        let i = w₀.holder s.object in
        let x = held i refl a in
        to t s P k.moves h (k.moves.wakes w₀ i (signed s.a) 3 (two x.0) (CalledOut.resume e x.0 x.1) g)
      where
        two : {n : ℕ} → n ≡ 2 → n ≢ 0
        two e z = omega arith
    resume-keeps e held (Resume.empty a h) g = to t s P k.moves h g

    event-wait-keeps : {x : World} → s.kind ≡ 14 → EventWait w₀ s.caller (kept 14 0 s.a s.timeout) x → P w₀ → P x
    event-wait-keeps q (EventWait.finds a e) g = to t s P k.moves e (k.takes q a g)
    event-wait-keeps q (EventWait.finds-none a h) g =
        waits-keeps (kept 14 0 s.a s.timeout) (sym q) (no-mail (λ x. omega arith) (λ x. omega arith) (λ x. omega arith)) 4 0
        (λ y. (a, refl)) (OwnWait.events q) h g

    -- EACH ROW OF THE TABLE KEEPS IT
    pub act-keeps : ((i : ℕ) → s.kind ≡ 10 → w₀.holder s.object ≡ i → i ≢ 255 → ((w₀.thread i).state ≡ 2) × ((w₀.thread i).place ≡ s.object))
        → {n : ℕ} → s.kind ≡ n → {x : World} → Act t now s x n → P x
    act-keeps held q (Act.tick v h e) = done q (λ x. omega arith) e (k.ticks v q h)
    act-keeps held q (Act.semaphore-wait h) =
        semaphore-keeps (kept 2 s.object 0 s.timeout) (sym q) (no-mail (λ x. omega arith) (λ x. omega arith) (λ x. omega arith)) (no-wait q (λ x. omega arith))
        s.object (OwnWait.semaphore q) h (start q (λ x. omega arith) (λ x. omega arith))
    act-keeps held q (Act.signal v b h e) =
        done-with _ q (λ x. omega arith) e (signal-keeps s.object h (λ st pl x y. CalledOut.signal (inl q) x y) (start q (λ x. omega arith) (λ x. omega arith)))
    act-keeps held q (Act.reset v h e) =
        done q (λ x. omega arith) e
        (k.moves.counter v s.object (pos s.a)
        (release-all-keeps s.object (negsuc 1) 7 t.sizes.threads h (λ st pl x y. CalledOut.reset q x y)
        (start q (λ x. omega arith) (λ x. omega arith))))
    act-keeps held q (Act.binary-signal v h e) =
        done q (λ x. omega arith) e (binary-keeps s.object h (λ st pl x y. CalledOut.signal (inr q) x y) (start q (λ x. omega arith) (λ x. omega arith)))
    act-keeps held q (Act.queue-wait h) =
        waits-keeps (kept 6 s.object 0 s.timeout) (sym q) (no-mail (λ x. omega arith) (λ x. omega arith) (λ x. omega arith))
        3 (20 + s.object) (λ y. absurd (no-wait q (λ x. omega arith) y)) (OwnWait.queue q) h (start q (λ x. omega arith) (λ x. omega arith))
    act-keeps held q (Act.release-first v h e) =
        done q (λ x. omega arith) e
        (release-keeps t s P k.moves (20 + s.object) (signed s.a) 2 h (λ st pl x y. CalledOut.release (inl q) x y)
        (start q (λ x. omega arith) (λ x. omega arith)))
    act-keeps held q (Act.release-all v h e) =
        done q (λ x. omega arith) e
        (release-all-keeps (20 + s.object) (signed s.a) 2 t.sizes.threads h (λ st pl x y. CalledOut.release (inr q) x y)
        (start q (λ x. omega arith) (λ x. omega arith)))
    act-keeps held q (Act.suspend h) =
        waits-keeps (kept 9 s.object 0 s.timeout) (sym q) (no-mail (λ x. omega arith) (λ x. omega arith) (λ x. omega arith))
        2 s.object (λ y. absurd (no-wait q (λ x. omega arith) y)) (OwnWait.reference q) h (start q (λ x. omega arith) (λ x. omega arith))
    act-keeps held q (Act.resume v h e) = done q (λ x. omega arith) e (resume-keeps q (λ i. held i q) h (start q (λ x. omega arith) (λ x. omega arith)))
    act-keeps held q (Act.sleep-for e) =
        to t s P k.moves e
        (k.sleeps w₀ 1 0 (kept 11 0 0 s.timeout) (OwnWait.sleeps (inl q)) (sym q) (λ y. absurd (no-wait q (λ x. omega arith) y))
        (no-mail (λ x. omega arith) (λ x. omega arith) (λ x. omega arith)) (start q (λ x. omega arith) (λ x. omega arith)))
    act-keeps held q (Act.sleep-until e) =
        to t s P k.moves e
        (k.sleeps w₀ 1 0 (kept 12 0 s.a ((s.a + (4294967296 - now.0)) % 4294967296)) (OwnWait.sleeps (inr q)) (sym q) (λ y. absurd (no-wait q (λ x. omega arith) y))
        (no-mail (λ x. omega arith) (λ x. omega arith) (λ x. omega arith)) (start q (λ x. omega arith) (λ x. omega arith)))
    act-keeps held q (Act.event-signal v h e) = done q (λ x. omega arith) e (k.events v q h)
    act-keeps held q (Act.event-wait h) = event-wait-keeps q h (start q (λ x. omega arith) (λ x. omega arith))
    act-keeps held q (Act.post h) =
        post-keeps (kept 15 s.object s.a s.timeout) (sym q) (λ m. refl) (no-wait q (λ x. omega arith)) (inl (inl refl)) (OwnWait.writer (inl q)) (inl refl) h
        (start q (λ x. omega arith) (λ x. omega arith))
    act-keeps held q (Act.post-ahead h) =
        post-keeps (kept 16 s.object s.a s.timeout) (sym q) (λ m. refl) (no-wait q (λ x. omega arith)) (inl (inr refl)) (OwnWait.writer (inr q)) (inr refl) h
        (start q (λ x. omega arith) (λ x. omega arith))
    act-keeps held q (Act.fetch h) =
        fetch-keeps (kept 17 s.object 0 s.timeout) (sym q) (λ m. refl) (no-wait q (λ x. omega arith)) (inr refl) (OwnWait.reader q) refl h
        (start q (λ x. omega arith) (λ x. omega arith))
    act-keeps held q (Act.mailbox-reset v u h g e) =
        done q (λ x. omega arith) e
        (k.moves.box u s.object _
        (release-all-keeps (32 + s.object) (negsuc 1) 7 t.sizes.threads g (λ st pl x y. CalledOut.box-reset q x (inr y))
        (release-all-keeps (28 + s.object) (negsuc 1) 7 t.sizes.threads h (λ st pl x y. CalledOut.box-reset q x (inl y))
        (start q (λ x. omega arith) (λ x. omega arith)))))
    act-keeps held q (Act.mailbox-resume e) = done q (λ x. omega arith) e (k.moves.box w₀ s.object _ (start q (λ x. omega arith) (λ x. omega arith)))
    act-keeps held q (Act.alloc h) =
        alloc_keeps (kept 20 s.object 0 s.timeout) (sym q) (no-mail (λ x. omega arith) (λ x. omega arith) (λ x. omega arith)) (no-wait q (λ x. omega arith))
        (OwnWait.pool q) h (start q (λ x. omega arith) (λ x. omega arith))
    act-keeps held q (Act.free v b h e) =
        done q (λ x. omega arith) e
        (k.moves.pool v s.object _
        (signal-keeps (16 + s.object) h (λ st pl x y. CalledOut.object (inl q) x y) (start q (λ x. omega arith) (λ x. omega arith))))
    act-keeps held q (Act.add v b h e) =
        done q (λ x. omega arith) e
        (k.moves.pool v s.object _
        (signal-keeps (16 + s.object) h (λ st pl x y. CalledOut.object (inr q) x y) (start q (λ x. omega arith) (λ x. omega arith))))
