-- Who has which object: in one step an object is handed over at most once, after it was freed or added; so whoever stands in the account is the
-- one to whom it was handed over last.
use Rattle.std.specs.Prelude.{ℕ, zero, suc, ◌+◌, ◌*◌, ◌<◌, ◌≡◌, refl, ◌≢◌, Bool, true, false, cond, ◌&&◌, ◌||◌, List, [], ◌∷◌, eqb, length, get_or}
use Rattle.std.proofs.Common.{zero-add, arith, sym, ap, ◌∙◌, subst, length-set, get_or-set_same, get_or-set_other, eqb-true, eq-eqb, ne_eqb, lt-ltb, le-ltb}
use Rattle.std.proofs.Math.Bool.{and-false}
use Rattle.kernel.proofs.Cases.{split, same_or, in-or-out, contrary, both-means}
use Rattle.kernel.specs.declared.clock.Clock.{Clock}
use Rattle.library.specs.declared.calls.Step.{Step}
use Rattle.library.specs.declared.tables.Tables.{Tables}
use Rattle.accounts.specs.declared.account.Account.{Account}
use Rattle.accounts.specs.Account.{fresh_account, object_place, set_if, entered}
use Rattle.promises.specs.Paper.Host.{HostSteps, Going}
use Rattle.promises.specs.Paper.Run.{Moment}
use Rattle.promises.specs.Paper.History.{Event, shown_by, those, in_turn, is_own, OwnFirst, History, shown, shown_in, total, each}
use Rattle.promises.specs.Paper.Ledger.{Standing, when_added, when_taken, when_freed, stood, standing, mark_of, standing_at, AccountOf}
use Rattle.promises.specs.Code.Steps.{tallied, moments}
use Rattle.promises.specs.Runs.Counting.{Few, total-shown}
use Rattle.promises.specs.Runs.Dealing.{standing-append}
use Rattle.promises.specs.Runs.Objects.{mistaken-stays}
use Rattle.promises.specs.Runs.Tallied.{entry_for, entered_all, entered-append, run_enters, posted-fresh, fetched-fresh, lost-fresh, added-fresh}
use Rattle.promises.specs.Runs.Ledgers.{run-few}
use Rattle.promises.specs.Together.Tests.{neither-means}

-- ---- the account

-- a table in which each alloc puts v of it at its object
abbrev placed : (Event → ℕ) → List ℕ → List Event → List ℕ
placed v l [] = l
placed v l (e ∷ es) = placed v (set_if (eqb e.kind 20) l (object_place e.object e.value) (v e)) es

takers-column : (es : List Event) (a : Account) → (entered_all a es).takers ≡ placed (λ e. e.who) a.takers es
unfolding entered
takers-column [] a = refl
takers-column (e ∷ es) a = takers-column es (entered a e.step (entry_for e))

steps-column : (es : List Event) (a : Account) → (entered_all a es).steps ≡ placed (λ e. e.step) a.steps es
unfolding entered
steps-column [] a = refl
steps-column (e ∷ es) a = steps-column es (entered a e.step (entry_for e))

-- ---- where an object is

-- the number and the thread of one that is out
abbrev out_step : Standing → ℕ
out_step Standing.absent = 0
out_step Standing.free = 0
out_step (Standing.out n i) = n
out_step Standing.mistaken = 0

abbrev out_who : Standing → ℕ
out_who Standing.absent = 0
out_who Standing.free = 0
out_who (Standing.out n i) = i
out_who Standing.mistaken = 0

-- what was out before a run was handed over in no step of it
pub before-run : (m n i : ℕ) → standing_at m ≡ Standing.out (suc n) i → ⊥
before-run zero n i e = omega (arith, ap out_step e)
before-run (suc zero) n i e = omega (arith, ap out_step e)
before-run (suc (suc m)) n i e = omega (arith, ap out_step e)

pub never-added : (n i : ℕ) → Standing.absent ≡ Standing.out (suc n) i → ⊥
never-added n i e = omega (arith, ap out_step e)

-- object o of pool q
module _ (q o : ℕ) (pool : q < 4) (object : o < 32) where
  abbrev place : ℕ
  place = q * 32 + o

  -- an event on it, and one that hands it over
  abbrev hits : Event → Bool
  hits e = eqb e.object q && eqb e.value o

  abbrev takes : Event → Bool
  takes e = eqb e.kind 20 && hits e

  abbrev of_take : (Event → ℕ) → Event → ℕ
  of_take v e = cond (takes e) (v e) 0

  set_if-length : (b : Bool) (l : List ℕ) (i x : ℕ) → length (set_if b l i x) ≡ length l
  set_if-length true l i x = length-set l i x
  set_if-length false l i x = refl

  -- two places are one only if pool and object are
  place_of : (a b : ℕ) → b < 32 → a * 32 + b ≡ q * 32 + o → (a ≡ q) × (b ≡ o)
  place_of a b l e = (omega (arith, object, l, e), omega (arith, object, l, e))

  placed_one : (v : Event → ℕ) (l : List ℕ) → length l ≡ 128 → (e : Event)
      → get_or (set_if (eqb e.kind 20) l (object_place e.object e.value) (v e)) place 0 ≡ cond (takes e) (v e) (get_or l place 0)
  placed_one v l long e =
      split (eqb e.kind 20)
      (λ k. in-or-out e.value 32
      (λ w. same_or (e.object * 32 + e.value) place
      (λ z.
      let both = place_of e.object e.value w z in
      rw (k, lt-ltb e.value 32 w, eq-eqb e.object q both.0, eq-eqb e.value o both.1, z)
      (get_or-set_same l place (v e) 0 (omega (arith, long, pool, object))))
      (λ d. rw (k, lt-ltb e.value 32 w, missed e.object e.value d) (get_or-set_other l _ place (v e) 0 (λ z. d (sym z)))))
      (λ w. rw (k, le-ltb e.value 32 w, ne_eqb e.value o (λ z. omega (arith, z, w, object)), and-false (eqb e.object q))
      (get_or-set_other l 128 place (v e) 0 (λ z. omega (arith, z, pool, object)))))
      (λ k. rw k)
    where
      missed : (a b : ℕ) → a * 32 + b ≢ place → (eqb a q && eqb b o) ≡ false
      missed a b d =
          split (eqb a q && eqb b o)
          (λ h. let x = both-means (eqb a q) (eqb b o) h in absurd (d (rw (eqb-true a q x.0, eqb-true b o x.1))))
          (λ h. h)

  -- nobody takes it, or one does
  placed-none : (v : Event → ℕ) (es : List Event) (l : List ℕ) → length l ≡ 128 → total (each takes) es ≡ 0 → get_or (placed v l es) place 0 ≡ get_or l place 0
  placed-none v [] l long z = refl
  placed-none v (e ∷ es) l long z =
      let k = set_if (eqb e.kind 20) l (object_place e.object e.value) (v e) in
      split (takes e)
      (λ h. absurd (omega (arith, rw h at z)))
      (λ h.
      let none : total (each takes) es ≡ 0 = omega (arith, rw h at z) in
      placed-none v es k (set_if-length (eqb e.kind 20) l _ (v e) ∙ long) none ∙ placed_one v l long e ∙ rw h)

  -- where none takes it, nothing is to be summed
  none_of : (v : Event → ℕ) (es : List Event) → total (each takes) es ≡ 0 → total (of_take v) es ≡ 0
  none_of v [] z = refl
  none_of v (e ∷ es) z =
      split (takes e) (λ h. absurd (omega (arith, rw h at z)))
      (λ h. let none : total (each takes) es ≡ 0 = omega (arith, rw h at z) in rw h (omega (arith, none_of v es none)))

  placed-once : (v : Event → ℕ) (es : List Event) (l : List ℕ) → length l ≡ 128 → total (each takes) es ≡ 1
      → get_or (placed v l es) place 0 ≡ total (of_take v) es
  placed-once v [] l long z = absurd (omega (arith, z))
  placed-once v (e ∷ es) l long z =
      let k = set_if (eqb e.kind 20) l (object_place e.object e.value) (v e) in
      let size : length k ≡ 128 = set_if-length (eqb e.kind 20) l _ (v e) ∙ long in
      split (takes e)
      (λ h.
      let none : total (each takes) es ≡ 0 = omega (arith, rw h at z) in
      let here : get_or k place 0 ≡ v e = placed_one v l long e ∙ rw h in
      placed-none v es k size none ∙ here ∙ rw h (omega (arith, none_of v es none)))
      (λ h.
      let rest : total (each takes) es ≡ 1 = omega (arith, rw h at z) in
      placed-once v es k size rest ∙ rw h (omega arith))

  -- ---- where it stands

  -- an alloc finds it free, and hands it over
  taken_free : (e : Event) (x : Standing) → when_taken e x ≢ Standing.mistaken → (x ≡ Standing.free) × (when_taken e x ≡ Standing.out e.step e.who)
  taken_free e Standing.absent h = absurd (h refl)
  taken_free e Standing.free h = (refl, refl)
  taken_free e (Standing.out n i) h = absurd (h refl)
  taken_free e Standing.mistaken h = absurd (h refl)

  out-taken : {n i : ℕ} → Standing.out n i ≡ Standing.free → ⊥
  out-taken e = omega (arith, ap mark_of e)

  -- one event
  abbrev after : Event → Standing → Standing
  after e x = cond (hits e) (stood x e) x

  unmistaken : (e : Event) (es : List Event) (x : Standing) → standing q o x (e ∷ es) ≢ Standing.mistaken → after e x ≢ Standing.mistaken
  unmistaken e es x h z = h (ap (λ (y : Standing). standing q o y es) z ∙ mistaken-stays q o es)

  -- what becomes of it where nothing is freed or added: it stays, or is handed over once
  data Handed (x : Standing) (es : List Event) : Type 0 where
    stays : total (each takes) es ≡ 0 → standing q o x es ≡ x → Handed x es
    once : total (each takes) es ≡ 1 → standing q o x es ≡ Standing.out (total (of_take (λ e. e.step)) es) (total (of_take (λ e. e.who)) es)
        → x ≡ Standing.free → Handed x es

  -- two that were handed over alike
  outs : {n m i j : ℕ} → n ≡ m → i ≡ j → Standing.out n i ≡ Standing.out m j
  outs a b = rw (a, b)

  -- an event that does not hand it over is not summed
  skip : (v : Event → ℕ) (e : Event) (es : List Event) → takes e ≡ false → total (of_take v) es ≡ total (of_take v) (e ∷ es)
  skip v e es h = sym (rw h (zero-add (total (of_take v) es)))

  -- and may leave it where it is
  passed : (e : Event) (es : List Event) (x : Standing) → takes e ≡ false → after e x ≡ x → Handed x es → Handed x (e ∷ es)
  passed e es x h a (Handed.stays z s) = Handed.stays (rw h (omega (arith, z))) (ap (λ (y : Standing). standing q o y es) a ∙ s)
  passed e es x h a (Handed.once z s f) =
      Handed.once (rw h (omega (arith, z)))
      (ap (λ (y : Standing). standing q o y es) a ∙ s ∙ outs (skip (λ e. e.step) e es h) (skip (λ e. e.who) e es h)) f

  -- one that hands it over is the only one
  handed : (e : Event) (es : List Event) (x : Standing) → takes e ≡ true → after e x ≢ Standing.mistaken → Handed (after e x) es → Handed x (e ∷ es)
  handed e es x h right rest =
      let both = both-means (eqb e.kind 20) (hits e) h in
      let is : after e x ≡ when_taken e x = rw (both.1, both.0) in
      let free = taken_free e x (λ z. right (is ∙ z)) in
      last (is ∙ free.1) free.0 rest
    where
      last : after e x ≡ Standing.out e.step e.who → x ≡ Standing.free → Handed (after e x) es → Handed x (e ∷ es)
      last is free (Handed.stays z s) =
          Handed.once (rw h (omega (arith, z)))
          (s ∙ is ∙ outs (rw h (omega (arith, none_of (λ e. e.step) es z))) (rw h (omega (arith, none_of (λ e. e.who) es z)))) free
      last is free (Handed.once z s f) = absurd (out-taken (sym is ∙ f))

  -- a free or an add
  abbrev is_put : Event → Bool
  is_put e = eqb e.kind 21 || eqb e.kind 22

  -- an event that is neither
  unput : (e : Event) (x : Standing) → is_put e ≡ false → takes e ≡ false → after e x ≡ x
  unput e x p h =
      let no = neither-means (eqb e.kind 21) (eqb e.kind 22) p in
      split (hits e)
      (λ k.
      let other : eqb e.kind 20 ≡ false = split (eqb e.kind 20) (λ y. contrary (rw (y, k)) h) (λ y. y) in
      rw (k, other, no.0, no.1))
      (λ k. rw k)

  -- such an event first, and then those of continued calls
  onward : (e : Event) (es : List Event) (x : Standing) → is_put e ≡ false → standing q o x (e ∷ es) ≢ Standing.mistaken
      → ((y : Standing) → standing q o y es ≢ Standing.mistaken → Handed y es) → Handed x (e ∷ es)
  onward e es x p right rest =
      split (takes e)
      (λ h. handed e es x h (unmistaken e es x right) (rest (after e x) right))
      (λ h.
      let a = unput e x p h in
      passed e es x h a (rest x (λ y. right (ap (λ (w : Standing). standing q o w es) a ∙ y))))

  no-put : (es : List Event) (x : Standing) → those is_own es ≡ [] → standing q o x es ≢ Standing.mistaken → Handed x es
  no-put [] x z right = Handed.stays refl refl
  no-put (e ∷ es) x z right =
      let mine : is_own e ≡ false = split (is_own e) (λ h. absurd (omega (arith, ap length (rw h at z)))) (λ h. h) in
      let tail : those is_own es ≡ [] = rw mine at z in
      let kinds = (neither-means (eqb e.who 255) (eqb e.kind 18 || is_put e) mine).1 in
      onward e es x (neither-means (eqb e.kind 18) (is_put e) kinds).1 right (λ y. no-put es y tail)

  -- a free and an add leave it free
  put-free : (e : Event) (x : Standing) → is_put e ≡ true → hits e ≡ true → after e x ≢ Standing.mistaken → (after e x ≡ Standing.free) × (takes e ≡ false)
  put-free e x p h right =
      same_or e.kind 21
      (λ k. let is : after e x ≡ when_freed x = rw (h, k) in (is ∙ freed x (λ z. right (is ∙ z)), rw k))
      (λ d.
      let k = eqb-true e.kind 22 (rw (ne_eqb e.kind 21 d) at p) in
      let is : after e x ≡ when_added x = rw (h, k) in
      (is ∙ brought x (λ z. right (is ∙ z)), rw k))
    where
      freed : (x : Standing) → when_freed x ≢ Standing.mistaken → when_freed x ≡ Standing.free
      freed Standing.absent h = absurd (h refl)
      freed Standing.free h = absurd (h refl)
      freed (Standing.out n i) h = refl
      freed Standing.mistaken h = absurd (h refl)

      brought : (x : Standing) → when_added x ≢ Standing.mistaken → when_added x ≡ Standing.free
      brought Standing.absent h = refl
      brought Standing.free h = absurd (h refl)
      brought (Standing.out n i) h = absurd (h refl)
      brought Standing.mistaken h = absurd (h refl)

  -- ONE STEP: who is out then was out before, or was handed over just now, once
  data Stepped (x : Standing) (es : List Event) : Type 0 where
    before : total (each takes) es ≡ 0 → ((n i : ℕ) → standing q o x es ≡ Standing.out n i → x ≡ Standing.out n i) → Stepped x es
    now : total (each takes) es ≡ 1 → standing q o x es ≡ Standing.out (total (of_take (λ e. e.step)) es) (total (of_take (λ e. e.who)) es) → Stepped x es

  any-handed : {x : Standing} {es : List Event} → Handed x es → Stepped x es
  any-handed (Handed.stays z s) = Stepped.before z (λ n i e. sym s ∙ e)
  any-handed (Handed.once z s f) = Stepped.now z s

  own_first : (es : List Event) (x : Standing) → OwnFirst es → standing q o x es ≢ Standing.mistaken → Stepped x es
  own_first es x OwnFirst.none right = Stepped.before refl (λ n i e. e)
  own_first es x (OwnFirst.first e {es = fs} tail) right =
      split (is_put e)
      (λ p. split (hits e)
      (λ h.
      let y = put-free e x p h (unmistaken e fs x right) in
      freed y.0 y.1 (no-put fs (after e x) tail right))
      (λ h.
      let a : after e x ≡ x = rw h in
      any-handed (passed e fs x (rw h (and-false (eqb e.kind 20))) a (no-put fs x tail (λ y. right (ap (λ (w : Standing). standing q o w fs) a ∙ y))))))
      (λ p. any-handed (onward e fs x p right (λ y. no-put fs y tail)))
    where
      freed : after e x ≡ Standing.free → takes e ≡ false → Handed (after e x) fs → Stepped x (e ∷ fs)
      freed f h (Handed.stays z s) = Stepped.before (rw h (omega (arith, z))) (λ n i k. absurd (out-taken (sym k ∙ s ∙ f)))
      freed f h (Handed.once z s g) =
          Stepped.now (rw h (omega (arith, z))) (s ∙ outs (skip (λ e. e.step) e fs h) (skip (λ e. e.who) e fs h))

  -- ---- A RUN

  -- the account has whoever took it in this run
  abbrev pub Has : Standing → Account → Type 0
  Has x a = (n i : ℕ) → x ≡ Standing.out (suc n) i → (get_or a.takers place 0 ≡ i) × (get_or a.steps place 0 ≡ suc n)

  pub record Sized (a : Account) : Type 0 where
    pub takers : length a.takers ≡ 128
    pub steps : length a.steps ≡ 128

  placed-length : (v : Event → ℕ) (es : List Event) (l : List ℕ) → length (placed v l es) ≡ length l
  placed-length v [] l = refl
  placed-length v (e ∷ es) l = placed-length v es _ ∙ set_if-length (eqb e.kind 20) l _ (v e)

  all-sized : (es : List Event) (a : Account) → Sized a → Sized (entered_all a es)
  all-sized es a z =
      record {
        takers = ap length (takers-column es a) ∙ placed-length (λ e. e.who) es a.takers ∙ z.takers;
        steps = ap length (steps-column es a) ∙ placed-length (λ e. e.step) es a.steps ∙ z.steps;
      }

  step-has : (es fs : List Event) (x : Standing) (a : Account) → ((f : Event → ℕ) → total f es ≡ total f fs) → Stepped x es → Sized a → Has x a
      → Has (standing q o x es) (entered_all a fs)
  step-has es fs x a same (Stepped.before z keeps) size h n i e =
      let none = sym (same (each takes)) ∙ z in
      let old = h n i (keeps (suc n) i e) in (
        ap (λ (l : List ℕ). get_or l place 0) (takers-column fs a) ∙ placed-none (λ e. e.who) fs a.takers size.takers none ∙ old.0,
        ap (λ (l : List ℕ). get_or l place 0) (steps-column fs a) ∙ placed-none (λ e. e.step) fs a.steps size.steps none ∙ old.1,
      )
  step-has es fs x a same (Stepped.now z is) size h n i e =
      let one = sym (same (each takes)) ∙ z in
      let out = sym is ∙ e in (
        ap (λ (l : List ℕ). get_or l place 0) (takers-column fs a) ∙ placed-once (λ e. e.who) fs a.takers size.takers one
            ∙ sym (same (of_take (λ e. e.who))) ∙ ap out_who out,
        ap (λ (l : List ℕ). get_or l place 0) (steps-column fs a) ∙ placed-once (λ e. e.step) fs a.steps size.steps one
            ∙ sym (same (of_take (λ e. e.step))) ∙ ap out_step out,
      )

  pub run-has : {n : ℕ} {ms : List Moment} {es : List Event} → Few ms → History n ms es → (x : Standing) (a : Account) → Sized a → Has x a
      → standing q o x es ≢ Standing.mistaken → Has (standing q o x es) (entered_all a (shown_in n ms))
  run-has Few.none History.none x a size h right = h
  run-has {n} (Few.more {m} {ms} few rest) (History.more is fs turns s p hist) x a size h right =
      let es = in_turn (shown_by n m) is in
      let y = standing q o x es in
      let mid : y ≢ Standing.mistaken = λ z. right (standing-append q o x es fs ∙ ap (λ (w : Standing). standing q o w fs) z ∙ mistaken-stays q o fs) in
      let now = step-has es (shown n m) x a (λ f. total-shown f n m es few s) (own_first es x p mid) size h in
      rw (standing-append q o x es fs, entered-append a (shown n m) (shown_in (suc n) ms))
      (run-has {n = suc n} rest hist y (entered_all a (shown n m)) (all-sized (shown n m) a size) now (λ z. right (standing-append q o x es fs ∙ z)))

-- WHAT IS PRINTED of a run with these events
pub printed : (ss : List Step) → HostSteps ss → (t : Tables) (c : Clock) → Going t c → (st : ℕ → ℕ → Standing)
    → ((q o n i : ℕ) → st q o ≡ Standing.out (suc n) i → ⊥) → (es : List Event) → History 1 (moments t c ss) es
    → ((q o : ℕ) → q < t.sizes.pools → standing q o (st q o) es ≢ Standing.mistaken)
    → AccountOf (tallied 1 fresh_account (moments t c ss)) t.sizes st (moments t c ss) es
printed ss hs t c g st unknown es hist right =
    let ms = moments t c ss in
    let shows = shown_in 1 ms in
    subst (λ (a : Account). AccountOf a t.sizes st ms es) (sym (run_enters ss hs 1 t c g fresh_account))
    (record {
      posted-sums = posted-fresh shows;
      fetched-sums = fetched-fresh shows;
      lost-sums = lost-fresh shows;
      added-sums = added-fresh shows;
      takers = λ q o n i there small e.
          run-has q o (omega (arith, there, g.together.sizes.pools)) small (run-few ss hs t c g) hist (st q o) fresh_account
          (record { takers = refl; steps = refl }) (λ n i e. absurd (unknown q o n i e)) (right q o there) n i e;
    })
