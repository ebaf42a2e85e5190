-- Whose events they are: in the middle of a step, of each thread those of the calls that it has finished, and of an interrupt those of the
-- step's own call. So they stay, whichever call is continued next.
use Rattle.std.specs.Prelude.{ℕ, ◌≤◌, ◌<◌, ◌≡◌, refl, ◌≢◌, Bool, true, false, cond, ◌&&◌, List, [], ◌∷◌, ◌++◌, eqb}
use Rattle.std.proofs.Common.{arith, sym, ap, ◌∙◌, subst, append-nil, append_assoc, eq-eqb, ne_eqb}
use Rattle.std.proofs.Math.Bool.{or-true}
use Rattle.kernel.specs.declared.records.Answer.{Answer}
use Rattle.kernel.specs.declared.records.Call.{Call}
use Rattle.kernel.proofs.Cases.{split, same_or, contrary}
use Rattle.library.specs.declared.calls.Step.{Step}
use Rattle.library.specs.declared.tables.Tables.{Tables}
use Rattle.promises.specs.Paper.World.{World, found, kept}
use Rattle.promises.specs.Paper.Together.{is_zero}
use Rattle.promises.specs.Paper.Waking.{row_of}
use Rattle.promises.specs.Paper.History.{Event, is_counted, events_of, those, is_of, is_among, in_turn}
use Rattle.promises.specs.Runs.Dealing.{those-append}
use Rattle.promises.specs.Runs.Deeds.{answer_of, Own, Did}

-- ---- turn by turn

-- who has the last turn is among those who have one, and nobody else is for it
among_self : (r : ℕ) (is : List ℕ) → is_among r (is ++ (r ∷ [])) ≡ true
among_self r [] = rw (eq-eqb r r refl)
among_self r (i ∷ is) = rw (among_self r is) (or-true (eqb i r))

among-other : (i r : ℕ) (is : List ℕ) → i ≢ r → is_among i (is ++ (r ∷ [])) ≡ is_among i is
among-other i r [] d = rw (ne_eqb r i (λ z. d (sym z)))
among-other i r (j ∷ js) d = rw (among-other i r js d)

-- one turn more, of one who showed nothing so far, and nobody else shows anything new
turn_last : (f g : ℕ → List Event) (r : ℕ) → ((i : ℕ) → i ≢ r → f i ≡ g i) → g r ≡ [] → (is : List ℕ)
    → in_turn f (is ++ (r ∷ [])) ≡ in_turn g is ++ f r
turn_last f g r same none [] = append-nil (f r)
turn_last f g r same none (i ∷ is) =
    let rest = turn_last f g r same none is in
    same_or i r
    (λ z.
    subst (λ (k : ℕ). in_turn f (k ∷ (is ++ (r ∷ []))) ≡ in_turn g (k ∷ is) ++ f r) (sym z)
    (rw (among_self r is, none, nothing (is_among r is)) rest))
    (λ d.
    rw (among-other i r is d, same i d, rest)
    (sym (append_assoc (cond (is_among i is) [] (g i)) (in_turn g is) (f r))))
  where
    nothing : (b : Bool) → ◌≡◌ {A = List Event} (cond b [] []) []
    nothing true = refl
    nothing false = refl

-- turns of the same events
pub turns_same : (f g : ℕ → List Event) → ((i : ℕ) → f i ≡ g i) → (is : List ℕ) → in_turn f is ≡ in_turn g is
turns_same f g h [] = refl
turns_same f g h (i ∷ is) = rw (h i, turns_same f g h is)

module _ (n : ℕ) (t : Tables) where
  -- a call's events are its own
  pub those-own : (i : ℕ) (c : Call) (a : Answer) → those (is_of i) (events_of n t i c a) ≡ events_of n t i c a
  those-own i c a = split (is_counted c.kind && is_zero a.message) (λ e. rw (e, eq-eqb i i refl)) (λ e. rw e)

  those-other : (i j : ℕ) (c : Call) (a : Answer) → j ≢ i → those (is_of i) (events_of n t j c a) ≡ []
  those-other i j c a d = split (is_counted c.kind && is_zero a.message) (λ e. rw (e, ne_eqb j i d)) (λ e. rw e)

  pub did-own : (i : ℕ) (c : Call) (w x : World) (es : List Event) → Own n t i c w es x → those (is_of i) es ≡ es
  did-own i c w x es (Own.over e f z) = rw e (those-own i c (answer_of x i))
  did-own i c w x es (Own.on e m f z) = rw e

  -- and nobody else's
  did-other : (i j : ℕ) (c : Call) (w x : World) (es : List Event) → j ≢ i → Own n t j c w es x → those (is_of i) es ≡ []
  did-other i j c w x es d (Own.over e f z) = rw e (those-other i j c (answer_of x j) d)
  did-other i j c w x es d (Own.on e m f z) = rw e

module _ (n : ℕ) (t : Tables) (s : Step) where
  -- the step's own call
  abbrev pub own-call : Call
  own-call = kept s.kind s.object s.a s.timeout

  -- the call that i may finish
  abbrev pub call_in : ℕ → Call
  call_in i = cond (eqb s.caller i) own-call (row_of t i).call

  -- in the middle of a step: of each thread the events so far are what it has finished, and an unfinished call is the one that it may finish
  pub record Seen (w : World) (es : List Event) : Type 0 where
    pub thread : (i : ℕ) → i ≢ 255 → those (is_of i) es ≡ cond (w.finished i) (events_of n t i (call_in i) (w.thread i).answer) []
    pub interrupt : those (is_of 255) es ≡ cond (eqb s.caller 255) (events_of n t 255 own-call w.answer) []
    pub same : (i : ℕ) → i ≢ 255 → w.finished i ≡ false → (a : Answer) → events_of n t i (w.thread i).call a ≡ events_of n t i (call_in i) a
    pub done : (i : ℕ) → i ≢ 255 → w.finished i ≡ true → (w.thread i).call.kind ≡ 0
    pub within : (i : ℕ) → i ≢ 255 → t.sizes.threads ≤ i → w.finished i ≡ false

  -- the step's own call has done something
  module _ (me : s.caller ≢ 255 → s.caller < t.sizes.threads) (x : World) (es : List Event) (d : Did n t s.caller own-call (found t) es x) where
    abbrev j : ℕ
    j = s.caller

    other-thread : (i : ℕ) → i ≢ j → x.finished i ≡ false
    other-thread i z = d.finished i z

    record OwnSeen (b : Bool) : Type 0 where
      pub is : x.finished j ≡ b
      pub events : es ≡ cond b (events_of n t j own-call (x.thread j).answer) []
      pub same : b ≡ false → (a : Answer) → events_of n t j (x.thread j).call a ≡ events_of n t j own-call a
      pub done : b ≡ true → (x.thread j).call.kind ≡ 0

    own-seen : j ≢ 255 → Own n t j own-call (found t) es x → (b : Bool) × OwnSeen b
    own-seen z (Own.over e f k) =
        (true, record { is = f z; events = e ∙ rw (ne_eqb j 255 z); same = λ y. absurd (no y); done = λ y. k z })
      where
        no : true ≡ false → ⊥
        no y = contrary refl y
    own-seen z (Own.on e m f k) = (false, record { is = f; events = e; same = λ y. k; done = λ y. absurd (no y) })
      where
        no : false ≡ true → ⊥
        no y = contrary y refl

    own-thread : (i : ℕ) → i ≡ j → i ≢ 255 → those (is_of i) es ≡ cond (x.finished i) (events_of n t i (call_in i) (x.thread i).answer) []
    own-thread i z y =
        subst (λ (r : ℕ). those (is_of r) es ≡ cond (x.finished r) (events_of n t r (call_in r) (x.thread r).answer) []) (sym z)
        (by (own-seen (rw z at y) d.own))
      where
        by : (b : Bool) × OwnSeen b → those (is_of j) es ≡ cond (x.finished j) (events_of n t j (call_in j) (x.thread j).answer) []
        by (true, k) = rw (k.events, k.is, eq-eqb j j refl) (those-own n t j own-call (x.thread j).answer)
        by (false, k) = rw (k.events, k.is)

    pub act-seen : Seen x es
    act-seen =
        record {
          thread = λ i y.
              same_or i j (λ z. own-thread i z y)
              (λ z. rw (other-thread i z) (did-other n t i j own-call (found t) x es (λ e. z (sym e)) d.own));
          interrupt =
              same_or j 255
              (λ z. by-interrupt z d.own)
              (λ z. rw (ne_eqb j 255 z) (did-other n t 255 j own-call (found t) x es z d.own));
          same = λ i y e a.
              same_or i j
              (λ z. own_same i z y e a)
              (λ z. rw (ne_eqb j i (λ r. z (sym r))) (ap (λ (c : Call). events_of n t i c a) (d.calls i z)));
          done = λ i y e.
              same_or i j (λ z. own-done i z y e) (λ z. contrary e (other-thread i z));
          within = λ i y l.
              other-thread i
              (λ z. absurd (omega (arith, l, rw z at l, me (rw z at y), z)));
        }
      where
        by-interrupt : j ≡ 255 → Own n t j own-call (found t) es x
            → those (is_of 255) es ≡ cond (eqb j 255) (events_of n t 255 own-call x.answer) []
        by-interrupt z (Own.over e f k) =
            rw (z, rw z at e) (those-own n t 255 own-call x.answer)
        by-interrupt z (Own.on e m f k) = absurd (m z)

        own_same : (i : ℕ) → i ≡ j → i ≢ 255 → x.finished i ≡ false → (a : Answer)
            → events_of n t i (x.thread i).call a ≡ events_of n t i (call_in i) a
        own_same i z y e a =
            subst (λ (r : ℕ). events_of n t r (x.thread r).call a ≡ events_of n t r (call_in r) a) (sym z)
            (rw (eq-eqb j j refl) (by (own-seen (rw z at y) d.own)))
          where
            by : (b : Bool) × OwnSeen b → events_of n t j (x.thread j).call a ≡ events_of n t j own-call a
            by (true, k) = contrary k.is (rw z at e)
            by (false, k) = k.same refl a

        own-done : (i : ℕ) → i ≡ j → i ≢ 255 → x.finished i ≡ true → (x.thread i).call.kind ≡ 0
        own-done i z y e = subst (λ (r : ℕ). (x.thread r).call.kind ≡ 0) (sym z) (by (own-seen (rw z at y) d.own))
          where
            by : (b : Bool) × OwnSeen b → (x.thread j).call.kind ≡ 0
            by (true, k) = k.done refl
            by (false, k) = contrary (rw z at e) k.is

  -- and then a call of r that is continued
  module _ (w x : World) (es fs : List Event) (seen : Seen w es) (r : ℕ) (someone : r ≢ 255) (inside : r < t.sizes.threads)
      (call : (w.thread r).call.kind ≢ 0) (d : Did n t r (w.thread r).call w fs x) where
    unfinished : w.finished r ≡ false
    unfinished = split (w.finished r) (λ e. absurd (call (seen.done r someone e))) (λ e. e)

    none_yet : those (is_of r) es ≡ []
    none_yet = rw unfinished at (seen.thread r someone)

    other-events : (i : ℕ) → i ≢ r → those (is_of i) (es ++ fs) ≡ those (is_of i) es
    other-events i z =
        those-append (is_of i) es fs
        ∙ rw (did-other n t i r (w.thread r).call w x fs (λ e. z (sym e)) d.own) (append-nil (those (is_of i) es))

    own-events : those (is_of r) (es ++ fs) ≡ those (is_of r) fs
    own-events = those-append (is_of r) es fs ∙ rw none_yet

    own-now : Own n t r (w.thread r).call w fs x
        → those (is_of r) (es ++ fs) ≡ cond (x.finished r) (events_of n t r (call_in r) (x.thread r).answer) []
    own-now (Own.over e f k) =
        own-events
        ∙ rw (f someone, rw (ne_eqb r 255 someone) at e)
        (those-own n t r (w.thread r).call (x.thread r).answer ∙ seen.same r someone unfinished (x.thread r).answer)
    own-now (Own.on e m f k) = own-events ∙ rw (e, f ∙ unfinished)

    own-same-now : Own n t r (w.thread r).call w fs x → x.finished r ≡ false → (a : Answer)
        → events_of n t r (x.thread r).call a ≡ events_of n t r (call_in r) a
    own-same-now (Own.over e f k) z a = contrary (f someone) z
    own-same-now (Own.on e m f k) z a = k a ∙ seen.same r someone unfinished a

    own-done-now : Own n t r (w.thread r).call w fs x → x.finished r ≡ true → (x.thread r).call.kind ≡ 0
    own-done-now (Own.over e f k) z = k someone
    own-done-now (Own.on e m f k) z = contrary z (f ∙ unfinished)

    pub seen-on : Seen x (es ++ fs)
    seen-on =
        record {
          thread = λ i y.
              same_or i r
              (λ z. subst (λ (q : ℕ). those (is_of q) (es ++ fs) ≡ cond (x.finished q) (events_of n t q (call_in q) (x.thread q).answer) []) (sym z)
              (own-now d.own))
              (λ z. other-events i z ∙ seen.thread i y ∙ rw (d.finished i z, d.answers i z));
          interrupt = other-events 255 (λ e. someone (sym e)) ∙ seen.interrupt ∙ rw (d.answer someone);
          same = λ i y e a.
              same_or i r
              (λ z. subst (λ (q : ℕ). events_of n t q (x.thread q).call a ≡ events_of n t q (call_in q) a) (sym z) (own-same-now d.own (rw z at e) a))
              (λ z. ap (λ (c : Call). events_of n t i c a) (d.calls i z) ∙ seen.same i y (sym (d.finished i z) ∙ e) a);
          done = λ i y e.
              same_or i r
              (λ z. subst (λ (q : ℕ). (x.thread q).call.kind ≡ 0) (sym z) (own-done-now d.own (rw z at e)))
              (λ z. ap (λ (c : Call). c.kind) (d.calls i z) ∙ seen.done i y (sym (d.finished i z) ∙ e));
          within = λ i y l.
              d.finished i (λ z. absurd (omega (arith, l, z, inside))) ∙ seen.within i y l;
        }

    -- its turn is the next
    pub turn_on : (is : List ℕ) → es ≡ in_turn (λ i. those (is_of i) es) is → es ++ fs ≡ in_turn (λ i. those (is_of i) (es ++ fs)) (is ++ (r ∷ []))
    turn_on is so =
        sym
        (turn_last (λ i. those (is_of i) (es ++ fs)) (λ i. those (is_of i) es) r other-events none_yet is
        ∙ rw (sym so, own-events, did-own n t r (w.thread r).call w x fs d.own))
