-- Counting in a history: its events are, step by step, those that the results show, so that sums over them can be read off the results; each
-- call stands in it once; and a ledger moves postings, but keeps them.
use Rattle.std.specs.Prelude.{ℕ, zero, suc, ◌+◌, ◌≤◌, ◌<◌, ◌≡◌, refl, ◌≢◌, ◌⊎◌, Bool, true, false, cond, ◌&&◌, ◌||◌, List, [], ◌∷◌, ◌++◌, eqb, ltb, length}
use Rattle.std.proofs.Common.{arith, sym, ap, ◌∙◌, subst, inl, inr, eqb-true, eq-eqb, ne_eqb, lt-ltb, le-ltb}
use Rattle.std.proofs.Math.Bool.{and-true, and-false}
use Rattle.kernel.specs.declared.records.Answer.{Answer}
use Rattle.kernel.specs.declared.records.Call.{Call}
use Rattle.kernel.proofs.Cases.{split, same_or, in-or-out, both-means}
use Rattle.promises.specs.Paper.World.{World}
use Rattle.promises.specs.Paper.Together.{is_zero}
use Rattle.promises.specs.Paper.Run.{Moment}
use Rattle.promises.specs.Paper.History.{
  Event,
  call_by,
  answer_by,
  finishes,
  is_counted,
  events_of,
  shown_by,
  those,
  is_of,
  in_turn,
  Shown,
  History,
  gathered,
  shown,
  shown_in,
  total,
  posted,
  each,
}
use Rattle.promises.specs.Paper.Ledger.{message_at, Ledger, postings, first_given, entered, ledger, times}
use Rattle.promises.specs.Runs.Dealing.{total-append}

-- ---- sums

pub total-same : (f g : Event → ℕ) → ((e : Event) → f e ≡ g e) → (es : List Event) → total f es ≡ total g es
total-same f g h [] = refl
total-same f g h (e ∷ es) = omega (arith, h e, total-same f g h es)

-- as many as pass
pub length-those : (f : Event → Bool) (es : List Event) → length (those f es) ≡ total (each f) es
length-those f [] = refl
length-those f (e ∷ es) = split (f e) (λ h. rw h (omega (arith, length-those f es))) (λ h. rw h (omega (arith, length-those f es)))

-- a sum over those that pass
total-those : (f : Event → Bool) (g : Event → ℕ) (es : List Event) → total g (those f es) ≡ total (λ e. cond (f e) (g e) 0) es
total-those f g [] = refl
total-those f g (e ∷ es) = split (f e) (λ h. rw h (omega (arith, total-those f g es))) (λ h. rw h (omega (arith, total-those f g es)))

total-less : (f g : Event → ℕ) → ((e : Event) → f e ≤ g e) → (es : List Event) → total f es ≤ total g es
total-less f g h [] = omega arith
total-less f g h (e ∷ es) = omega (arith, h e, total-less f g h es)

-- ---- a history shows what the results show

gathered-same : (f g : ℕ → List Event) → ((i : ℕ) → f i ≡ g i) → (n : ℕ) → gathered f n ≡ gathered g n
gathered-same f g h zero = refl
gathered-same f g h (suc n) = rw (gathered-same f g h n, h n)

module _ (f : Event → ℕ) where
  -- one event more, where it is one of a thread below n
  gathered-more : (e : Event) (es : List Event) (n : ℕ)
      → total f (gathered (λ i. those (is_of i) (e ∷ es)) n) ≡ total f (gathered (λ i. those (is_of i) es) n) + cond (ltb e.who n) (f e) 0
  gathered-more e es zero = rw (le-ltb e.who 0 (omega arith))
  gathered-more e es (suc n) =
      let all = gathered (λ i. those (is_of i) (e ∷ es)) n in
      let old = gathered (λ i. those (is_of i) es) n in
      let a = total-append f all (those (is_of n) (e ∷ es)) in
      let b = total-append f old (those (is_of n) es) in
      let c = gathered-more e es n in
      same_or e.who n
      (λ z.
      let here : those (is_of n) (e ∷ es) ≡ e ∷ those (is_of n) es = rw (eq-eqb e.who n z) in
      let x : total f (those (is_of n) (e ∷ es)) ≡ f e + total f (those (is_of n) es) = ap (total f) here in
      let y : total f all ≡ total f old + 0 = rw (le-ltb e.who n (omega (arith, z))) at c in
      rw (lt-ltb e.who (suc n) (omega (arith, z))) (omega (arith, a, b, x, y)))
      (λ d.
      let x : those (is_of n) (e ∷ es) ≡ those (is_of n) es = rw (ne_eqb e.who n d) in
      in-or-out e.who n
      (λ l.
      let y : total f all ≡ total f old + f e = rw (lt-ltb e.who n l) at c in
      rw (lt-ltb e.who (suc n) (omega (arith, l))) (omega (arith, a, b, ap (total f) x, y)))
      (λ l.
      let y : total f all ≡ total f old + 0 = rw (le-ltb e.who n l) at c in
      rw (le-ltb e.who (suc n) (above l d)) (omega (arith, a, b, ap (total f) x, y))))
    where
      above : {m k : ℕ} → k ≤ m → m ≢ k → suc k ≤ m
      above {m} {k} l d = in-or-out k m (λ h. h) (λ h. absurd (d (omega arith)))

  -- events of threads below n and of an interrupt, and of nobody else
  total-split : (n : ℕ) → n ≤ 255 → (es : List Event) → ((i : ℕ) → i ≢ 255 → n ≤ i → those (is_of i) es ≡ [])
      → total f es ≡ total f (those (is_of 255) es) + total f (gathered (λ i. those (is_of i) es) n)
  total-split n few [] h = none n
    where
      none : (k : ℕ) → total f [] ≡ total f [] + total f (gathered (λ i. those (is_of i) []) k)
      none zero = refl
      none (suc k) = omega (arith, none k, total-append f (gathered (λ i. those (is_of i) []) k) [])
  total-split n few (e ∷ es) h =
      let rest = total-split n few es (λ i d l. tail i (h i d l)) in
      let more = gathered-more e es n in
      same_or e.who 255
      (λ z.
      let here : those (is_of 255) (e ∷ es) ≡ e ∷ those (is_of 255) es = rw (eq-eqb e.who 255 z) in
      let y : total f (gathered (λ i. those (is_of i) (e ∷ es)) n) ≡ total f (gathered (λ i. those (is_of i) es) n) + 0 =
      rw (le-ltb e.who n (omega (arith, z, few))) at more in
      omega (arith, rest, ap (total f) here, y))
      (λ d.
      let x : those (is_of 255) (e ∷ es) ≡ those (is_of 255) es = rw (ne_eqb e.who 255 d) in
      in-or-out e.who n
      (λ l.
      let y : total f (gathered (λ i. those (is_of i) (e ∷ es)) n) ≡ total f (gathered (λ i. those (is_of i) es) n) + f e =
      rw (lt-ltb e.who n l) at more in
      omega (arith, rest, ap (total f) x, y))
      (λ l. absurd (some (h e.who d l))))
    where
      tail : (i : ℕ) → those (is_of i) (e ∷ es) ≡ [] → those (is_of i) es ≡ []
      tail i z = same_or e.who i (λ y. absurd (omega (arith, ap length (rw (eq-eqb e.who i y) at z)))) (λ y. rw (ne_eqb e.who i y) at z)

      some : those (is_of e.who) (e ∷ es) ≡ [] → ⊥
      some z = omega (arith, ap length (rw (eq-eqb e.who e.who refl) at z))

  -- ONE STEP
  pub total-shown : (n : ℕ) (m : Moment) (es : List Event) → m.before.sizes.threads ≤ 255 → Shown n m es → total f es ≡ total f (shown n m)
  total-shown n m es few h =
      let k = m.before.sizes.threads in
      total-split k few es (λ i d l. h i ∙ absent i d l)
      ∙ sym (total-append f (shown_by n m 255) (gathered (shown_by n m) k)
      ∙ rw (h 255, gathered-same (shown_by n m) (λ i. those (is_of i) es) (λ i. sym (h i)) k))
    where
      absent : (i : ℕ) → i ≢ 255 → m.before.sizes.threads ≤ i → shown_by n m i ≡ []
      absent i d l = rw (unfinished i d l)
        where
          unfinished : (i : ℕ) → i ≢ 255 → m.before.sizes.threads ≤ i → finishes m i ≡ false
          unfinished i d l = rw (ne_eqb i 255 d, le-ltb i m.before.sizes.threads l) (and-false (eqb m.result.code 0))

-- each moment has so few threads
pub data Few : List Moment → Type 0 where
  none : Few []
  more : {m : Moment} {ms : List Moment} → m.before.sizes.threads ≤ 255 → Few ms → Few (m ∷ ms)

-- A RUN: a sum over its history is one over what the results show
pub total-history : (f : Event → ℕ) {n : ℕ} {ms : List Moment} {es : List Event} → Few ms → History n ms es → total f es ≡ total f (shown_in n ms)
total-history f Few.none History.none = refl
total-history f {n} (Few.more {m} {ms} few fs) (History.more is gs turns s o h) =
    let es = in_turn (shown_by n m) is in
    total-append f es gs
    ∙ sym (total-append f (shown n m) (shown_in (suc n) ms) ∙ rw (sym (total-shown f n m es few s), sym (total-history f {n = suc n} fs h)))

-- ---- each call once

module _ (p : Event) where
  abbrev is-p : Event → Bool
  is-p e = eqb e.step p.step && eqb e.who p.who

  -- a posting stands among the events of its thread
  times-of : (es : List Event) → times p es ≡ total (each (λ e. eqb e.step p.step)) (those (is_of p.who) es)
  times-of es =
      total-same (each is-p) (λ e. cond (is_of p.who e) (each (λ a. eqb a.step p.step) e) 0)
      (λ e. swap (eqb e.step p.step) (eqb e.who p.who)) es
      ∙ sym (total-those (is_of p.who) (each (λ a. eqb a.step p.step)) es)
    where
      swap : (a b : Bool) → ◌≡◌ {A = ℕ} (cond (a && b) 1 0) (cond b (cond a 1 0) 0)
      swap true true = refl
      swap true false = refl
      swap false true = refl
      swap false false = refl

  -- what a moment shows of a thread is at most one event, of that step
  shown-once : (n : ℕ) (m : Moment) (i : ℕ) → (total (each (λ e. eqb e.step p.step)) (shown_by n m i) ≡ 0)
      ⊎ ((total (each (λ e. eqb e.step p.step)) (shown_by n m i) ≡ 1) × (n ≡ p.step))
  shown-once n m i = split (finishes m i) (λ h. rw h (events (call_by m i) (answer_by m i))) (λ h. rw h (inl refl))
    where
      events : (c : Call) (a : Answer) → (total (each (λ e. eqb e.step p.step)) (events_of n m.before i c a) ≡ 0)
          ⊎ ((total (each (λ e. eqb e.step p.step)) (events_of n m.before i c a) ≡ 1) × (n ≡ p.step))
      events c a =
          split (is_counted c.kind && is_zero a.message)
          (λ h. rw h (split (eqb n p.step) (λ e. inr (rw e, eqb-true n p.step e)) (λ e. inl (rw e)))) (λ h. rw h (inl refl))

  moment-once : (n : ℕ) (m : Moment) (es : List Event) → Shown n m es → (times p es ≡ 0) ⊎ ((times p es ≡ 1) × (n ≡ p.step))
  moment-once n m es h = rw (times-of es, h p.who) (shown-once n m p.who)

  -- no event of a history is of an earlier step
  history-later : {n : ℕ} {ms : List Moment} {es : List Event} → p.step < n → History n ms es → times p es ≡ 0
  history-later l History.none = refl
  history-later {n} l (History.more {m = m} is fs turns s o h) =
      let es = in_turn (shown_by n m) is in
      let rest = history-later (omega (arith, l)) h in
      let both = total-append (each is-p) es fs in
      elim (moment-once n m es s) [ inl z ↦ omega (arith, both, z, rest) | inr z ↦ absurd (omega (arith, l, z.1)) ]

  pub history-once : {n : ℕ} {ms : List Moment} {es : List Event} → History n ms es → times p es ≤ 1
  history-once History.none = omega arith
  history-once {n} (History.more {m = m} is fs turns s o h) =
      let es = in_turn (shown_by n m) is in
      let both = total-append (each is-p) es fs in
      elim (moment-once n m es s) [
        | inl z ↦ omega (arith, both, z, history-once h)
        | inr z ↦ omega (arith, both, z.0, history-later (omega (arith, z.1)) h)
      ]

  -- the postings that were there before are of a step 0, each of its place
  postings-once : (w : World) (b n : ℕ) → (times p (postings w b n) ≡ 0) ⊎ ((times p (postings w b n) ≡ 1) × (p.step ≡ 0) × (p.who < n))
  postings-once w b zero = inl refl
  postings-once w b (suc n) =
      let one : Event = record { step = 0; who = n; kind = 15; object = b; value = message_at w b n } in
      let all : times p (postings w b (suc n)) ≡ times p (postings w b n) + cond (is-p one) 1 0 =
      total-append (each is-p) (postings w b n) (one ∷ []) ∙ omega arith in
      elim (postings-once w b n) [
        | inl z ↦
            split (is-p one)
            (λ h. inr (rw h at all ∙ omega (arith, z), first h, omega (arith, second h)))
            (λ h. inl (rw h at all ∙ omega (arith, z)))
        | inr z ↦ inr (rw (other n z.2) at all ∙ omega (arith, z.0), z.1, omega (arith, z.2))
      ]
    where
      first : (eqb 0 p.step && eqb n p.who) ≡ true → p.step ≡ 0
      first h = sym (eqb-true 0 p.step (both-means (eqb 0 p.step) (eqb n p.who) h).0)

      second : (eqb 0 p.step && eqb n p.who) ≡ true → p.who ≡ n
      second h = sym (eqb-true n p.who (both-means (eqb 0 p.step) (eqb n p.who) h).1)

      other : (k : ℕ) → p.who < k → (eqb 0 p.step && eqb k p.who) ≡ false
      other k l = rw (ne_eqb k p.who (λ z. omega (arith, l, z))) (and-false (eqb 0 p.step))

  -- so all that were ever posted are different
  pub posted-once : (w : World) (b k : ℕ) {ms : List Moment} {es : List Event} → History 1 ms es
      → times p (postings w b k ++ those (posted b) es) ≤ 1
  posted-once w b k {ms} {es} h =
      let both = total-append (each is-p) (postings w b k) (those (posted b) es) in
      let fewer : times p (those (posted b) es) ≤ times p es =
      subst (λ (n : ℕ). n ≤ times p es) (sym (total-those (posted b) (each is-p) es))
      (total-less (λ e. cond (posted b e) (each is-p e) 0) (each is-p) (λ e. less (posted b e) (each is-p e)) es) in
      elim (postings-once w b k) [
        | inl z ↦ omega (arith, both, z, fewer, history-once h)
        | inr z ↦ omega (arith, both, z.0, fewer, history-later (omega (arith, z.1)) h)
      ]
    where
      less : (a : Bool) (n : ℕ) → cond a n 0 ≤ n
      less true n = omega arith
      less false n = omega arith

-- ---- a ledger keeps what is posted

module _ (g : Event → ℕ) where
  -- all that is in a ledger
  abbrev pub whole : Ledger → ℕ
  whole l = total g l.given + total g l.lost + total g l.present

  first-whole : (ps a l : List Event) → whole (first_given ps a l) ≡ total g a + total g l + total g ps
  first-whole [] a l = refl
  first-whole (p ∷ ps) a l = omega (arith, total-append g a (p ∷ []))

  entered-whole : (l : Ledger) (e : Event) → whole (entered l e) ≡ whole l + cond (eqb e.kind 15 || eqb e.kind 16) (g e) 0
  entered-whole l e =
      split (eqb e.kind 15) (λ h. rw h (omega (arith, total-append g l.present (e ∷ []))))
      (λ a. split (eqb e.kind 16) (λ h. rw (a, h) (omega arith))
      (λ b. split (eqb e.kind 17) (λ h. rw (a, b, h) (omega (arith, first-whole l.present l.given l.lost)))
      (λ c. split (eqb e.kind 18) (λ h. rw (a, b, c, h) (omega (arith, total-append g l.lost l.present)))
      (λ d. rw (a, b, c, d) (omega arith)))))

  pub ledger-whole : (b : ℕ) (l : Ledger) (es : List Event) → whole (ledger b l es) ≡ whole l + total g (those (posted b) es)
  ledger-whole b l [] = omega arith
  ledger-whole b l (e ∷ es) =
      let k = cond (eqb e.object b) (entered l e) l in
      let rest : whole (ledger b l (e ∷ es)) ≡ whole k + total g (those (posted b) es) = ledger-whole b k es in
      let now : whole k ≡ whole l + cond (posted b e) (g e) 0 =
      split (eqb e.object b) (λ h. rw h (entered-whole l e ∙ rw (and-true (eqb e.kind 15 || eqb e.kind 16))))
      (λ h. rw (h, and-false (eqb e.kind 15 || eqb e.kind 16)) (omega arith)) in
      let both : total g (those (posted b) (e ∷ es)) ≡ cond (posted b e) (g e) 0 + total g (those (posted b) es) =
      split (posted b e) (λ h. rw h) (λ h. rw h (omega arith)) in
      omega (arith, rest, now, both)

-- as many as there are
pub total-one : (es : List Event) → total (λ e. 1) es ≡ length es
total-one [] = refl
total-one (e ∷ es) = omega (arith, total-one es)
