-- Settling, turn by turn. A continued call ends, and perhaps serves the first who waits at the other side of its mailbox; or it sleeps again, for
-- want of what it asks. Whoever is served is next and finds what it waited for, or waits behind the thread that served it, which has no call now: so
-- no thread that was woken in the step sleeps again in it.
use Rattle.std.specs.Prelude.{ℕ, ◌+◌, ◌≤◌, ◌<◌, ◌≡◌, refl, ◌≢◌, Bool, true, false, not, ℤ, pos}
use Rattle.std.proofs.Common.{arith, sym, ap, ◌∙◌, subst, inl, inr}
use Rattle.kernel.specs.declared.records.Call.{Call}
use Rattle.kernel.specs.declared.records.Thread.{Thread}
use Rattle.kernel.proofs.Cases.{split, same_or, in-or-out, contrary}
use Rattle.library.specs.declared.tables.Mailbox.{Mailbox}
use Rattle.promises.specs.Paper.World.{World, thread_to, box_to, pool_to, ready_with, made_ready, ended, asleep, fall_asleep, Highest, First}
use Rattle.promises.specs.Paper.Rows.{Waits, Release, pending_to, slots_of, Post, Fetch}
use Rattle.promises.specs.Paper.Settling.{Continued}
use Rattle.promises.specs.Paper.Waking.{IsPost, IsMailing}
use Rattle.promises.specs.Meant.Only.{first-only}
use Rattle.promises.specs.Runs.Keeping.{put_same, put_other, queued-asleep}
use Rattle.promises.specs.Runs.OneRow.{ended-other, ended-own, ended-state, mail-other}

-- ---- the two sides of a mailbox: true is the readers', false the writers'

abbrev pub side_at : Bool → ℕ → ℕ
side_at true b = 32 + b
side_at false b = 28 + b

-- a call on a side of the mailbox b
abbrev pub CallsOn : Bool → ℕ → Call → Type 0
CallsOn true b c = (c.kind ≡ 17) × (c.object ≡ b)
CallsOn false b c = IsPost c.kind × (c.object ≡ b)

-- a mailbox of n slots is at work and has what the side waits for: a message, or room
abbrev pub Finds : Bool → Mailbox → ℕ → Type 0
Finds true y n = (y.reset ≡ 0) × (0 < y.positions.count) × (y.positions.count ≤ n)
Finds false y n = (y.reset ≡ 0) × (y.positions.count < n)

-- or has it not
abbrev pub Lacks : Bool → Mailbox → ℕ → Type 0
Lacks true y n = y.positions.count ≡ 0
Lacks false y n = n ≤ y.positions.count

-- thread l waits at the place p
abbrev pub WaitsAt : World → ℕ → ℕ → Type 0
WaitsAt w p l = ((w.thread l).state ≡ 3) × ((w.thread l).place ≡ p)

finds-lacks : (side : Bool) (y : Mailbox) (n : ℕ) → Finds side y n → Lacks side y n → ⊥
finds-lacks true y n f l = omega (arith, f.1, l)
finds-lacks false y n f l = omega (arith, f.1, l)

no-post : {n : ℕ} → n ≡ 17 → IsPost n → ⊥
no-post e (inl k) = omega arith
no-post e (inr k) = omega arith

-- a call is on one side of one mailbox
one-call : (side that : Bool) (b d : ℕ) (c : Call) → CallsOn side b c → CallsOn that d c → (side ≡ that) × (b ≡ d)
one-call true true b d c h k = (refl, sym h.1 ∙ k.1)
one-call true false b d c h k = absurd (no-post h.0 k.0)
one-call false true b d c h k = absurd (no-post k.0 h.0)
one-call false false b d c h k = (refl, sym h.1 ∙ k.1)

-- so what holds of one side of one mailbox holds wherever the call is
pub on-side : (P : Bool → ℕ → Type 0) (that : Bool) (d : ℕ) (c : Call) → CallsOn that d c → P that d → (side : Bool) (b : ℕ) → CallsOn side b c → P side b
on-side P that d c own h side b k =
    let e = one-call side that b d c k own in
    subst (λ (y : Bool). P y b) (sym e.0) (subst (λ (y : ℕ). P that y) (sym e.1) h)

-- and is a mailbox's
pub on-mail : (side : Bool) (b : ℕ) (c : Call) → CallsOn side b c → IsMailing c.kind
on-mail true b c h = inr h.0
on-mail false b c h = inl h.0

-- what settling finds: few threads, mailboxes with no more messages than slots, and calls that fit where their threads wait
pub record Mails (w : World) : Type 0 where
  pub few : w.sizes.threads ≤ 16
  pub boxes : (l : ℕ) → l < w.sizes.threads → (side : Bool) (b : ℕ) → CallsOn side b (w.thread l).call
      → (b < 4) × ((w.box b).positions.count ≤ slots_of w b)
  pub seats : (l : ℕ) → l < w.sizes.threads → (that : Bool) (d : ℕ) → d < 4 → WaitsAt w (side_at that d) l → CallsOn that d (w.thread l).call

-- ---- one turn

-- what the continued call of thread i, which runs in w, leaves in v
pub data Went (w v : World) (i : ℕ) : Type 0 where
  -- it ends, and no other record is touched
  alone : (u : World) (m : ℤ) (d : ℕ) → u.sizes ≡ w.sizes → u.woken ≡ w.woken → (u.thread i).state ≡ 0 → ((l : ℕ) → l ≢ i → u.thread l ≡ w.thread l)
      → v ≡ ended u i m d → Went w v i
  -- it ends, and thread j is served, at the other side of its mailbox, which becomes y
  serves : (side : Bool) (b j o d : ℕ) (y : Mailbox) → CallsOn side b (w.thread i).call → Highest w (side_at (not side) b) j
      → Finds (not side) y (slots_of w b) → v ≡ ended (box_to (made_ready w j (pos 0) o) b y) i (pos 0) d → Went w v i
  sleeps : (side : Bool) (b : ℕ) → CallsOn side b (w.thread i).call → (w.thread i).message ≡ pos 0 → Lacks side (w.box b) (slots_of w b)
      → v ≡ fall_asleep w i 3 (side_at side b) (w.thread i).call → Went w v i

module _ (w : World) (i : ℕ) (is-ready : (w.thread i).state ≡ 0) where
  abbrev c : Call
  c = (w.thread i).call

  plainly : {x : World} (m : ℤ) (d : ℕ) → x ≡ ended w i m d → Went w x i
  plainly m d e = Went.alone w m d refl refl is-ready (λ l n. refl) e

  -- it serves the other side, with or without a waiter there
  served : {v x : World} (side : Bool) (b : ℕ) → CallsOn side b c → (y : Mailbox) → Finds (not side) y (slots_of w b) → (o d : ℕ)
      → Release w (side_at (not side) b) (pos 0) o v → x ≡ ended (box_to v b y) i (pos 0) d → Went w x i
  served side b mine y finds o d (Release.first j h e) r =
      Went.serves side b j o d y mine h finds (r ∙ ap (λ (q : World). ended (box_to q b y) i (pos 0) d) e)
  served side b mine y finds o d (Release.nobody h e) r =
      Went.alone (box_to w b y) (pos 0) d refl refl is-ready (λ l n. refl) (r ∙ ap (λ (q : World). ended (box_to q b y) i (pos 0) d) e)

  waits : {x : World} (side : Bool) (b : ℕ) → CallsOn side b c → (w.thread i).message ≡ pos 0 → Lacks side (w.box b) (slots_of w b)
      → Waits w i 3 (side_at side b) c x → Went w x i
  waits side b mine m l (Waits.now a e) = plainly _ 0 e
  waits side b mine m l (Waits.later a e) = Went.sleeps side b mine m l e

  posts : {x : World} → IsPost c.kind → (w.thread i).message ≡ pos 0 → Post w i c x → Went w x i
  posts k m (Post.in-reset a e) = plainly _ 0 e
  posts k m (Post.behind a l n v r e) = served false c.object (k, refl) _ (a, omega arith, omega arith) 5 0 r e
  posts k m (Post.ahead a l n v r e) = served false c.object (k, refl) _ (a, omega arith, omega arith) 5 0 r e
  posts k m (Post.no_room a l h) = waits false c.object (k, refl) m l h

  fetches : {x : World} → (w.box c.object).positions.count ≤ slots_of w c.object → c.kind ≡ 17 → (w.thread i).message ≡ pos 0 → Fetch w i c x → Went w x i
  fetches q k m (Fetch.in-reset a e) = plainly _ 0 e
  fetches q k m (Fetch.message a l v r e) = served true c.object (k, refl) _ (a, omega (arith, l, q)) 6 _ r e
  fetches q k m (Fetch.no-message a l h) = waits true c.object (k, refl) m l h

  -- its own record changes before its call ends
  changed : {x : World} (u : Thread) (m : ℤ) (d : ℕ) → u.state ≡ 0 → x ≡ ended (thread_to w i u) i m d → Went w x i
  changed u m d z e =
      Went.alone (thread_to w i u) m d refl refl (ap (λ (r : Thread). r.state) (put_same w.thread i u) ∙ z) (λ l n. put_other w.thread i l u n) e

  -- WHAT A TURN LEAVES
  pub went : {x : World} → (c.kind ≡ 17 → (w.box c.object).positions.count ≤ slots_of w c.object) → Continued w i x → Went w x i
  went q (Continued.flags k m e) = changed (pending_to (w.thread i) _) (pos 0) _ is-ready e
  went q (Continued.posts k m h) = posts k m h
  went q (Continued.fetches k m h) = fetches (q k) k m h
  went q (Continued.takes k m e) = Went.alone (pool_to w c.object _) (pos 0) _ refl refl is-ready (λ l n. refl) e
  went q (Continued.answers h e) = plainly _ 0 e

-- ---- who was woken

-- a record has no mailbox call to try again
abbrev pub Quiet : Thread → Type 0
Quiet a = (side : Bool) (b : ℕ) → CallsOn side b a.call → a.message ≡ pos 0 → ⊥

-- why a woken thread k sleeps no more in this step
pub data Sure (w : World) (k : ℕ) : Type 0 where
  quiet : Quiet (w.thread k) → Sure w k
  -- it is next, and finds what it waited for
  next : First w k → ((side : Bool) (b : ℕ) → CallsOn side b (w.thread k).call → Finds side (w.box b) (slots_of w b)) → Sure w k
  -- a ready thread before it has no call: settling ends there
  over : (f : ℕ) → f < k → (w.thread f).state ≡ 0 → (w.thread f).call.kind ≡ 0 → Sure w k

-- each of the first n threads that the step has woken is ready, and sure of it
abbrev pub Fair : ℕ → World → Type 0
Fair n w = (k : ℕ) → k < n → w.woken k ≡ true → ((w.thread k).state ≡ 0) × Sure w k

-- one turn of thread i
module _ (n : ℕ) (w : World) (i : ℕ) (within : i < n) (g : Mails w) (f : First w i) (call : (w.thread i).call.kind ≢ 0) (fair : Fair n w) where
  someone : i ≢ 255
  someone e = omega (arith, e, f.thread, g.few)

  -- its call ends: it has none now
  own-ended : (u : World) (m : ℤ) (d : ℕ) → (u.thread i).state ≡ 0 → let v = ended u i m d in ((v.thread i).state ≡ 0) × ((v.thread i).call.kind ≡ 0)
  own-ended u m d z = (ended-state u i m d i ∙ z, ap (λ (r : Thread). r.call.kind) (ended-own u i m d someone))

  -- another is as sure as it was, if no other ready record is touched
  stays : (v : World) → ((l : ℕ) → l ≢ i → (w.thread l).state ≡ 0 → v.thread l ≡ w.thread l) → (k : ℕ) → k ≢ i → ((w.thread k).state ≡ 0) × Sure w k
      → ((v.thread k).state ≡ 0) × Sure v k
  stays v same k d (z, h) = (ap (λ (r : Thread). r.state) (same k d z) ∙ z, sure h)
    where
      sure : Sure w k → Sure v k
      sure (Sure.quiet q) = Sure.quiet (subst Quiet (sym (same k d z)) q)
      sure (Sure.next h q) = absurd (d (first-only w k i h f))
      sure (Sure.over j l y q) =
          let e = same j (λ x. call (subst (λ (a : ℕ). (w.thread a).call.kind ≡ 0) x q)) y in
          Sure.over j l (ap (λ (r : Thread). r.state) e ∙ y) (ap (λ (r : Thread). r.call.kind) e ∙ q)

  -- it ends
  ends-fair : (u v : World) (m : ℤ) (d : ℕ) → (u.thread i).state ≡ 0 → v ≡ ended u i m d
      → ((k : ℕ) → k ≢ i → k < n → (ended u i m d).woken k ≡ true → (((ended u i m d).thread k).state ≡ 0) × Sure (ended u i m d) k)
      → Fair n v × ((v.thread i).state ≢ 0 → w.woken i ≡ false)
  ends-fair u v m d z e others =
      let x : World = ended u i m d in
      let own = own-ended u m d z in
      subst (λ (y : World). Fair n y × ((y.thread i).state ≢ 0 → w.woken i ≡ false)) (sym e) (
        λ k l b.
            same_or k i
            (λ q. subst (λ (j : ℕ). ((x.thread j).state ≡ 0) × Sure x j) (sym q) (own.0, Sure.quiet (λ side a h y. (mail-other (on-mail side a _ h)).1 own.1)))
            (λ q. others k q l b),
        λ a. absurd (a own.0),
      )

  -- thread j is served
  module _ (side : Bool) (b j o d : ℕ) (y : Mailbox) (mine : CallsOn side b (w.thread i).call) (h : Highest w (side_at (not side) b) j)
      (finds : Finds (not side) y (slots_of w b)) where
    abbrev u : World
    u = box_to (made_ready w j (pos 0) o) b y

    abbrev v : World
    v = ended u i (pos 0) d

    abbrev r : Thread
    r = ready_with (w.thread j) (pos 0) o w.step

    apart : i ≢ j
    apart e = queued-asleep h.waits.0 (subst (λ (l : ℕ). (w.thread l).state ≡ 0) e f.is-ready)

    other : (l : ℕ) → l ≢ i → l ≢ j → v.thread l ≡ w.thread l
    other l a e = ended-other u i (pos 0) d l a ∙ put_other w.thread j l r e

    its : v.thread j ≡ r
    its = ended-other u i (pos 0) d j (λ e. apart (sym e)) ∙ put_same w.thread j r

    ready-still : (u.thread i).state ≡ 0
    ready-still = ap (λ (a : Thread). a.state) (put_other w.thread j i r apart) ∙ f.is-ready

    its-call : CallsOn (not side) b (v.thread j).call
    its-call =
        subst (λ (a : Thread). CallsOn (not side) b a.call) (sym its)
        (g.seats j h.thread (not side) b (g.boxes i f.thread side b mine).0 h.waits)

    -- it is next and finds what it waited for, or waits behind i
    its-turn : Sure v j
    its-turn =
        in-or-out j i
        (λ l. Sure.next (record {
          thread = h.thread;
          is-ready = ap (λ (a : Thread). a.state) its;
          first = λ k a z.
              f.first k (omega (arith, a, l)) (sym (ap (λ (a : Thread). a.state) (other k (λ e. omega (arith, e, a, l)) (λ e. omega (arith, e, a)))) ∙ z);
        })
        (on-side (λ that a. Finds that (v.box a) (slots_of w a)) (not side) b (v.thread j).call its-call
        (subst (λ (a : Mailbox). Finds (not side) a (slots_of w b)) (sym (put_same w.box b y)) finds)))
        (λ l. let own = own-ended u (pos 0) d ready-still in Sure.over i (omega (arith, l, apart)) own.0 own.1)

    serves-fair : (x : World) → x ≡ v → Fair n x × ((x.thread i).state ≢ 0 → w.woken i ≡ false)
    serves-fair x e =
        ends-fair u x (pos 0) d ready-still e
        (λ k q l a.
        same_or k j (λ p. subst (λ (k : ℕ). ((v.thread k).state ≡ 0) × Sure v k) (sym p) (ap (λ (a : Thread). a.state) its, its-turn))
        (λ p. stays v (λ l m z. other l m (λ e. queued-asleep h.waits.0 (subst (λ (a : ℕ). (w.thread a).state ≡ 0) e z))) k q
        (fair k l (sym (put_other w.woken j k true p) ∙ a))))

  -- it sleeps: so it was not woken in this step
  fresh : (side : Bool) (b : ℕ) → CallsOn side b (w.thread i).call → (w.thread i).message ≡ pos 0 → Lacks side (w.box b) (slots_of w b) → Sure w i → ⊥
  fresh side b mine m lack (Sure.quiet q) = q side b mine m
  fresh side b mine m lack (Sure.next h q) = finds-lacks side (w.box b) (slots_of w b) (q side b mine) lack
  fresh side b mine m lack (Sure.over j l z q) = f.first j l z

  sleeps-fair : (side : Bool) (b : ℕ) → CallsOn side b (w.thread i).call → (w.thread i).message ≡ pos 0 → Lacks side (w.box b) (slots_of w b) → (x : World)
      → x ≡ fall_asleep w i 3 (side_at side b) (w.thread i).call → Fair n x × ((x.thread i).state ≢ 0 → w.woken i ≡ false)
  sleeps-fair side b mine m lack x e =
      let v : World = fall_asleep w i 3 (side_at side b) (w.thread i).call in
      subst (λ (y : World). Fair n y × ((y.thread i).state ≢ 0 → w.woken i ≡ false)) (sym e) (
        λ k l a.
            same_or k i (λ q. contrary (subst (λ (j : ℕ). w.woken j ≡ true) q a) unwoken)
            (λ q. stays v (λ l d z. put_other w.thread i l (asleep (w.thread i) 3 (side_at side b) (w.thread i).call) d) k q (fair k l a)),
        λ a. unwoken,
      )
    where
      unwoken : w.woken i ≡ false
      unwoken = split (w.woken i) (λ y. absurd (fresh side b mine m lack (fair i within y).1)) (λ y. y)

  went-fair : {v : World} → Went w v i → Fair n v × ((v.thread i).state ≢ 0 → w.woken i ≡ false)
  went-fair {v} (Went.alone u m d sized bits z same e) =
      ends-fair u v m d z e
      (λ k q l a.
      stays (ended u i m d) (λ l p y. ended-other u i m d l p ∙ same l p) k q (fair k l (sym (ap (λ (f : ℕ → Bool). f k) bits) ∙ a)))
  went-fair {v} (Went.serves side b j o d y mine h finds e) = serves-fair side b j o d y mine h finds v e
  went-fair {v} (Went.sleeps side b mine m lack e) = sleeps-fair side b mine m lack v e

  -- A TURN IS FAIR, and whoever sleeps in it was not woken in this step
  pub fair-on : {v : World} → Continued w i v → Fair n v × ((v.thread i).state ≢ 0 → w.woken i ≡ false)
  fair-on c = went-fair (went w i f.is-ready (λ k. (g.boxes i f.thread true _ (k, refl)).1) c)
