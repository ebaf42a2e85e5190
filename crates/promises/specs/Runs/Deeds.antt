-- One call, the step's own or one that is continued: what it wakes on the way leaves calls, answers, mailboxes and pools; then it finishes,
-- and is an event just if it does so with 0 and counts; or it sleeps, and is none.
use Rattle.std.specs.Prelude.{ℕ, zero, suc, ◌+◌, ◌-◌, ◌≤◌, ◌<◌, ◌≡◌, refl, ◌≢◌, Bool, true, false, cond, List, [], ◌∷◌, eqb, ℤ, pos, negsuc, length, get_or}
use Rattle.std.proofs.Common.{sym, ap, ◌∙◌, subst, get_or-set_same, get_or-set_other, ne_eqb}
use Rattle.std.specs.Int.Bits.{bit_and}
use Rattle.kernel.specs.declared.records.Answer.{Answer}
use Rattle.kernel.specs.declared.records.Call.{Call}
use Rattle.kernel.specs.declared.records.Thread.{Thread}
use Rattle.kernel.proofs.Cases.{split, same_or}
use Rattle.library.specs.declared.sizes.Sizes.{Sizes}
use Rattle.library.specs.declared.tables.Mailbox.{Mailbox}
use Rattle.library.specs.declared.tables.Pool.{Pool}
use Rattle.library.specs.declared.tables.Tables.{Tables}
use Rattle.promises.specs.Paper.World.{World, thread_to, box_to, pool_to, ready_with, made_ready, call_ended, ended, asleep, fall_asleep}
use Rattle.promises.specs.Paper.Rows.{
  TickOf,
  Ticks,
  Signal,
  BinarySignal,
  Waits,
  Release,
  ReleaseOf,
  ReleaseAll,
  Resume,
  pending_to,
  took_flags,
  flagged,
  EventSignal,
  slots_of,
  written,
  written_ahead,
  taken_from,
  Post,
  Fetch,
  top_in,
  without_top,
  top_taken,
}
use Rattle.promises.specs.Paper.Together.{PositionsFit, is_zero}
use Rattle.promises.specs.Paper.Waking.{IsPost}
use Rattle.promises.specs.Paper.History.{Event, is_counted, events_of}
use Rattle.promises.specs.Paper.Ledger.{in_box, mark_in}
use Rattle.promises.specs.Runs.Keeping.{put_same, put_other, put-part}
use Rattle.promises.specs.Runs.OneRow.{ended-other, ended-unfinished, ended-own, ended-finished}
use Rattle.promises.specs.Runs.Boxes.{content, content-behind, content-ahead, content-taken}
use Rattle.promises.specs.Runs.Dealing.{
  Dealt,
  dealt-none,
  dealt-as,
  dealt-behind,
  dealt-ahead,
  dealt-first,
  dealt-taken,
}

-- ---- what is woken on the way

-- nothing that a history is read off changes
pub record Calm (w v : World) : Type 0 where
  pub sizes : v.sizes ≡ w.sizes
  pub boxes : v.box ≡ w.box
  pub pools : v.pool ≡ w.pool
  pub calls : (j : ℕ) → (v.thread j).call ≡ (w.thread j).call
  pub answers : (j : ℕ) → (v.thread j).answer ≡ (w.thread j).answer
  pub finished : (j : ℕ) → v.finished j ≡ w.finished j
  pub answer : v.answer ≡ w.answer

pub calm-same : (w : World) → Calm w w
calm-same w =
    record { sizes = refl; boxes = refl; pools = refl; calls = λ j. refl; answers = λ j. refl; finished = λ j. refl; answer = refl }

calm-to : {w v x : World} → x ≡ v → Calm w v → Calm w x
calm-to {w} e c = subst (Calm w) (sym e) c

pub calm-on : {w v x : World} → Calm w v → Calm v x → Calm w x
calm-on a b =
    record {
      sizes = b.sizes ∙ a.sizes;
      boxes = b.boxes ∙ a.boxes;
      pools = b.pools ∙ a.pools;
      calls = λ j. b.calls j ∙ a.calls j;
      answers = λ j. b.answers j ∙ a.answers j;
      finished = λ j. b.finished j ∙ a.finished j;
      answer = b.answer ∙ a.answer;
    }

-- one record changes, but neither its call nor its last answer
pub calm-thread : (w : World) (i : ℕ) (u : Thread) → u.call ≡ (w.thread i).call → u.answer ≡ (w.thread i).answer → Calm w (thread_to w i u)
calm-thread w i u c a =
    record {
      sizes = refl;
      boxes = refl;
      pools = refl;
      calls = put-part (λ (v : Thread). v.call) w.thread i u c;
      answers = put-part (λ (v : Thread). v.answer) w.thread i u a;
      finished = λ j. refl;
      answer = refl;
    }

calm-ready : (w : World) (i : ℕ) (m : ℤ) (c : ℕ) → Calm w (made_ready w i m c)
calm-ready w i m c =
    record {
      sizes = refl;
      boxes = refl;
      pools = refl;
      calls = put-part (λ (v : Thread). v.call) w.thread i (ready_with (w.thread i) m c w.step) refl;
      answers = put-part (λ (v : Thread). v.answer) w.thread i (ready_with (w.thread i) m c w.step) refl;
      finished = λ j. refl;
      answer = refl;
    }

tick_calm : (w x : World) (i : ℕ) → TickOf w i x → Calm w x
tick_calm w x i (TickOf.no-ticks a e) = calm-to e (calm-same w)
tick_calm w x i (TickOf.falls a e) = calm-to e (calm-thread w i _ refl refl)
tick_calm w x i (TickOf.last a e) = calm-to e (calm-ready w i (negsuc 0) 8)

pub ticks-calm : (n : ℕ) (w x : World) → Ticks w n x → Calm w x
ticks-calm zero w x e = calm-to e (calm-same w)
ticks-calm (suc n) w x h = calm-on (ticks-calm n w h.0 h.1) (tick_calm h.0 x n h.2)

pub release-calm : {w : World} {p : ℕ} {m : ℤ} {c : ℕ} {x : World} → Release w p m c x → Calm w x
release-calm {w} {p} {m} {c} (Release.first i h e) = calm-to e (calm-ready w i m c)
release-calm {w} (Release.nobody h e) = calm-to e (calm-same w)

pub release-all-calm : (w : World) (p : ℕ) (m : ℤ) (c n : ℕ) (x : World) → ReleaseAll w p m c n x → Calm w x
release-all-calm w p m c zero x e = calm-to e (calm-same w)
release-all-calm w p m c (suc n) x r = calm-on (release-all-calm w p m c n r.0 r.1) (one r.2)
  where
    one : {v y : World} → ReleaseOf v p m c n y → Calm v y
    one {v} (ReleaseOf.waits a b e) = calm-to e (calm-ready v n m c)
    one {v} (ReleaseOf.elsewhere a e) = calm-to e (calm-same v)

-- a counter changes
pub counter-calm : (w : World) (x : World) → x.sizes ≡ w.sizes → x.box ≡ w.box → x.pool ≡ w.pool → x.thread ≡ w.thread
    → x.finished ≡ w.finished → x.answer ≡ w.answer → Calm w x
counter-calm w x z b p t f a =
    record {
      sizes = z;
      boxes = b;
      pools = p;
      calls = λ j. ap (λ (g : ℕ → Thread). (g j).call) t;
      answers = λ j. ap (λ (g : ℕ → Thread). (g j).answer) t;
      finished = λ j. ap (λ (g : ℕ → Bool). g j) f;
      answer = a;
    }

pub signal-calm : {w : World} {p : ℕ} {x : World} {b : Bool} → Signal w p x b → Calm w x
signal-calm {w} {p} (Signal.raises a l e) = calm-to e (counter-calm w _ refl refl refl refl refl refl)
signal-calm {w} (Signal.wakes a i h e) = calm-to e (calm-ready w i (pos 0) 1)
signal-calm {w} (Signal.at_top a e) = calm-to e (calm-same w)

pub binary-calm : {w : World} {p : ℕ} {x : World} → BinarySignal w p x → Calm w x
binary-calm (BinarySignal.signals a n h) = signal-calm h
binary-calm {w} (BinarySignal.nothing a e) = calm-to e (calm-same w)

pub resume-calm : {w : World} {r : ℕ} {m : ℤ} {x : World} → Resume w r m x → Calm w x
resume-calm {w} {r} {m} (Resume.held a e) = calm-to e (calm-ready w (w.holder r) m 3)
resume-calm {w} (Resume.empty a e) = calm-to e (calm-same w)

pub event-calm : {w : World} {i a : ℕ} {x : World} → EventSignal w i a x → Calm w x
event-calm {w} {i} {a} (EventSignal.comes g h e) =
    calm-to e (calm-on (calm-thread w i _ refl refl) (calm-ready (flagged w i a) i (pos 0) 4))
event-calm {w} {i} {a} (EventSignal.only-flagged g e) = calm-to e (calm-thread w i _ refl refl)

-- ---- one call

-- a thread's last answer, or an interrupt's
abbrev pub answer_of : World → ℕ → Answer
answer_of w i = cond (eqb i 255) w.answer (w.thread i).answer

-- what mailboxes and pools of tables that hang together are like, in the middle of a step too
pub record Fit (w : World) : Type 0 where
  pub boxes : (b : ℕ) → b < w.sizes.mailboxes → PositionsFit (w.box b).positions (slots_of w b)
  pub few : (b : ℕ) → b < w.sizes.mailboxes → slots_of w b ≤ 16
  pub messages : (b : ℕ) → b < w.sizes.mailboxes → length (w.box b).messages ≡ 16
  pub tops : (q : ℕ) → q < w.sizes.pools → 0 < (w.pool q).length → (top_in (w.pool q) < 32) × (mark_in w q (top_in (w.pool q)) ≡ 1)
  pub marks : (q : ℕ) → q < w.sizes.pools → length (w.pool q).marks ≡ 32

module _ (n : ℕ) (t : Tables) where
  -- the call c of i is over, or goes on: then it is the same to a history
  pub data Own (i : ℕ) (c : Call) (w : World) (es : List Event) (x : World) : Type 0 where
    over : es ≡ events_of n t i c (answer_of x i) → (i ≢ 255 → x.finished i ≡ true) → (i ≢ 255 → (x.thread i).call.kind ≡ 0) → Own i c w es x
    on : es ≡ [] → i ≢ 255 → x.finished i ≡ w.finished i → ((a : Answer) → events_of n t i (x.thread i).call a ≡ events_of n t i c a)
        → Own i c w es x

  -- what the call c of i has made of a world, by some events
  pub record Did (i : ℕ) (c : Call) (w : World) (es : List Event) (x : World) : Type 0 where
    pub dealt : Dealt w es x
    pub calls : (j : ℕ) → j ≢ i → (x.thread j).call ≡ (w.thread j).call
    pub answers : (j : ℕ) → j ≢ i → (x.thread j).answer ≡ (w.thread j).answer
    pub finished : (j : ℕ) → j ≢ i → x.finished j ≡ w.finished j
    pub answer : i ≢ 255 → x.answer ≡ w.answer
    pub own : Own i c w es x

  -- some events of it
  abbrev pub Does : ℕ → Call → World → World → Type 0
  Does i c w x = (es : List Event) × Did i c w es x

  -- a call that is the same to a history
  pub does-as : (i : ℕ) (c d : Call) (w x : World) → ((a : Answer) → events_of n t i c a ≡ events_of n t i d a) → Does i c w x → Does i d w x
  does-as i c d w x h (es, k) = (
    es,
    record {
      dealt = k.dealt;
      calls = k.calls;
      answers = k.answers;
      finished = k.finished;
      answer = k.answer;
      own = as_own k.own;
    },
  )
    where
      as_own : Own i c w es x → Own i d w es x
      as_own (Own.over e f z) = Own.over (e ∙ h (answer_of x i)) f z
      as_own (Own.on e m f z) = Own.on e m f (λ a. z a ∙ h a)

  pub does-to : (i : ℕ) (c : Call) (w x y : World) → y ≡ x → Does i c w x → Does i c w y
  does-to i c w x y e d = subst (Does i c w) (sym e) d

  -- an answer that is not 0 is no event
  pub no-event : (i : ℕ) (c : Call) (m : ℤ) (d : ℕ) → is_zero m ≡ false → events_of n t i c (record { message = m; datum = d }) ≡ []
  no-event i c m d e = split (is_counted c.kind) (λ k. rw (k, e)) (λ k. rw k)

  -- nor is a call that does not count
  pub uncounted : (i : ℕ) (c : Call) (a : Answer) → is_counted c.kind ≡ false → events_of n t i c a ≡ []
  uncounted i c a e = rw e

  -- IT ENDS with m and d, in a world v that differs from w by its events
  pub ends-does : (i : ℕ) (c : Call) (w v y : World) (es : List Event) → Calm w v → y.thread ≡ v.thread → y.finished ≡ v.finished
      → y.answer ≡ v.answer → Dealt w es y → (m : ℤ) (d : ℕ) → es ≡ events_of n t i c (record { message = m; datum = d })
      → Does i c w (ended y i m d)
  ends-does i c w v y es k yt yf ya h m d e = (
    es,
    record {
      dealt = dealt-as w y (ended y i m d) es refl refl refl h;
      calls = λ j z. ap (λ (r : Thread). r.call) (ended-other y i m d j z ∙ ap (λ (g : ℕ → Thread). g j) yt) ∙ k.calls j;
      answers = λ j z. ap (λ (r : Thread). r.answer) (ended-other y i m d j z ∙ ap (λ (g : ℕ → Thread). g j) yt) ∙ k.answers j;
      finished = λ j z. ended-unfinished y i m d j z ∙ ap (λ (g : ℕ → Bool). g j) yf ∙ k.finished j;
      answer = λ z. rw (ne_eqb i 255 z) (ya ∙ k.answer);
      own = Own.over (e ∙ sym (ap (events_of n t i c) is)) (ended-finished y i m d) (λ z. ap (λ (r : Thread). r.call.kind) (ended-own y i m d z));
    },
  )
    where
      is : answer_of (ended y i m d) i ≡ record { message = m; datum = d }
      is =
          same_or i 255 (λ z. rw z)
          (λ z. rw (ne_eqb i 255 z) (ap (λ (r : Thread). r.answer) (put_same y.thread i (call_ended (y.thread i) m d))))

  -- with nothing done to mailboxes and pools
  pub ends-calm : (i : ℕ) (c : Call) (w v : World) → Calm w v → (m : ℤ) (d : ℕ) → events_of n t i c (record { message = m; datum = d }) ≡ []
      → Does i c w (ended v i m d)
  ends-calm i c w v k m d e =
      ends-does i c w v v [] k refl refl refl (dealt-none w v k.sizes k.boxes k.pools) m d (sym e)

  -- IT SLEEPS
  pub sleeps-does : (i : ℕ) (c : Call) (w : World) (st pl : ℕ) → i ≢ 255 → Does i c w (fall_asleep w i st pl c)
  sleeps-does i c w st pl me =
      let u = asleep (w.thread i) st pl c in (
        [],
        record {
          dealt = dealt-none w (fall_asleep w i st pl c) refl refl refl;
          calls = λ j z. ap (λ (r : Thread). r.call) (put_other w.thread i j u z);
          answers = λ j z. ap (λ (r : Thread). r.answer) (put_other w.thread i j u z);
          finished = λ j z. refl;
          answer = λ z. refl;
          own = Own.on refl me refl (λ a. ap (λ (r : Thread). events_of n t i r.call a) (put_same w.thread i u));
        },
      )

  -- "a timeout of 0 answers -1 at once", or it sleeps
  pub waits-does : (i : ℕ) (c : Call) (w : World) (st pl : ℕ) (x : World) → (c.timeout ≢ 0 → i ≢ 255) → Waits w i st pl c x → Does i c w x
  waits-does i c w st pl x me (Waits.now a e) = does-to i c w _ x e (ends-calm i c w w (calm-same w) (negsuc 0) 0 (no-event i c (negsuc 0) 0 refl))
  waits-does i c w st pl x me (Waits.later a e) = does-to i c w _ x e (sleeps-does i c w st pl (me a))

  -- flags are no matter of mailboxes and pools
  pub took-does : (i : ℕ) (c : Call) (w : World) (a : ℕ) → is_counted c.kind ≡ false → Does i c w (took_flags w i a)
  took-does i c w a e =
      let f = (w.thread i).pending in
      ends-calm i c w (thread_to w i (pending_to (w.thread i) (f - bit_and f a))) (calm-thread w i _ refl refl) (pos 0) (bit_and f a)
      (uncounted i c (record { message = pos 0; datum = bit_and f a }) e)

  -- ---- mailboxes

  module _ (i : ℕ) (c : Call) (w : World) (fit : Fit w) (there : c.object < w.sizes.mailboxes) (me : c.timeout ≢ 0 → i ≢ 255) where
    abbrev o : ℕ
    o = c.object

    abbrev slots : ℕ
    slots = slots_of w o

    -- a mailbox becomes z, where nothing else has changed
    box-now : (v : World) → Calm w v → (z : Mailbox) → in_box (box_to v o z) o ≡ content slots z
    box-now v k z =
        ap (λ (y : Mailbox). content (slots_of v o) y) (put_same v.box o z)
        ∙ ap (λ (y : Sizes). content (get_or y.slots o 0) z) k.sizes

    box-others : (v : World) → Calm w v → (z : Mailbox) → (b : ℕ) → b ≢ o → (box_to v o z).box b ≡ w.box b
    box-others v k z b d = put_other v.box o b z d ∙ ap (λ (f : ℕ → Mailbox). f b) k.boxes

    pub post-does : (x : World) → IsPost c.kind → Post w i c x → Does i c w x
    post-does x p (Post.in-reset a e) = does-to i c w _ x e (ends-calm i c w w (calm-same w) (negsuc 1) 0 (no-event i c (negsuc 1) 0 refl))
    post-does x p (Post.behind a l k v r e) =
        let q = release-calm r in
        let z = written (w.box o) slots c.operand in
        let ev : Event = record { step = n; who = i; kind = c.kind; object = o; value = c.operand } in
        does-to i c w _ x e
        (ends-does i c w v (box_to v o z) (ev ∷ []) q refl refl refl
        (dealt-behind w (box_to v o z) ev q.sizes q.pools (box-others v q z) k
        (box-now v q z ∙ content-behind (w.box o) slots (fit.boxes o there) (fit.few o there) (fit.messages o there) l c.operand))
        (pos 0) 0 (rw k))
    post-does x p (Post.ahead a l k v r e) =
        let q = release-calm r in
        let z = written_ahead (w.box o) slots c.operand in
        let ev : Event = record { step = n; who = i; kind = c.kind; object = o; value = c.operand } in
        does-to i c w _ x e
        (ends-does i c w v (box_to v o z) (ev ∷ []) q refl refl refl
        (dealt-ahead w (box_to v o z) ev q.sizes q.pools (box-others v q z) k
        (box-now v q z ∙ content-ahead (w.box o) slots (fit.boxes o there) (fit.few o there) (fit.messages o there) l c.operand))
        (pos 0) 0 (rw k))
    post-does x p (Post.no_room a l h) = waits-does i c w 3 (28 + o) x me h

    pub fetch-does : (x : World) → c.kind ≡ 17 → Fetch w i c x → Does i c w x
    fetch-does x k (Fetch.in-reset a e) = does-to i c w _ x e (ends-calm i c w w (calm-same w) (negsuc 1) 0 (no-event i c (negsuc 1) 0 refl))
    fetch-does x k (Fetch.message a l v r e) =
        let q = release-calm r in
        let z = taken_from (w.box o) slots in
        let d = get_or (w.box o).messages (w.box o).positions.read 0 in
        let ev : Event = record { step = n; who = i; kind = c.kind; object = o; value = d } in
        does-to i c w _ x e
        (ends-does i c w v (box_to v o z) (ev ∷ []) q refl refl refl
        (dealt-first w (box_to v o z) ev q.sizes q.pools (box-others v q z) k
        (content-taken (w.box o) slots (fit.boxes o there) (fit.few o there) (fit.messages o there) l
        ∙ ap (λ (y : List ℕ). d ∷ y) (sym (box-now v q z))))
        (pos 0) d (rw k))
    fetch-does x k (Fetch.no-message a l h) = waits-does i c w 3 (32 + o) x me h

  -- ---- pools

  -- the call takes the top of the pool, in a world v that differs from w in counters and threads that are woken
  pub take-does : (i : ℕ) (c : Call) (w v : World) → Fit w → c.object < w.sizes.pools → c.kind ≡ 20 → Calm w v → 0 < (w.pool c.object).length
      → Does i c w (top_taken v i c.object)
  take-does i c w v fit there k q some =
      let o = c.object in
      let y = w.pool o in
      let same : v.pool o ≡ y = ap (λ (f : ℕ → Pool). f o) q.pools in
      let d = top_in y in
      let top = fit.tops o there some in
      let z = without_top y in
      let u = pool_to v o z in
      let ev : Event = record { step = n; who = i; kind = c.kind; object = o; value = d } in
      let now : u.pool o ≡ z = put_same v.pool o z in
      let dealt : Dealt w (ev ∷ []) u =
      dealt-taken w u ev q.sizes q.boxes (λ p a. put_other v.pool o p z a ∙ ap (λ (f : ℕ → Pool). f p) q.pools)
      (λ a b. ap (λ (p : Pool). get_or p.marks a 0) now ∙ get_or-set_other y.marks d a 2 0 b)
      k top.1
      (ap (λ (p : Pool). get_or p.marks d 0) now ∙ get_or-set_same y.marks d 2 0 (rw (fit.marks o there) top.0)) in
      let done = ends-does i c w v u (ev ∷ []) q refl refl refl dealt (pos 0) d (rw k) in
      subst (λ (p : Pool). Does i c w (ended (pool_to v o (without_top p)) i (pos 0) (top_in p))) (sym same) done
