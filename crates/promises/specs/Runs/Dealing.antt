-- What events make of mailboxes and pools: an event on a mailbox changes its ledger as it changes what the mailbox holds, one on a pool where
-- an object stands as it changes its mark; and so do several, one after the other.
use Rattle.std.specs.Prelude.{ℕ, ◌+◌, ◌<◌, ◌≡◌, refl, ◌≢◌, ◌⊎◌, Bool, false, cond, ◌&&◌, eqb, length, get_or}
use Rattle.std.proofs.Common.{arith, sym, ap, ◌∙◌, subst, inl, inr, length-append, eq-eqb, ne_eqb}
use Rattle.std.proofs.Math.Bool.{and-false}
use mathlib.Core.List.{List, [], ◌∷◌, ◌++◌, append_assoc, append-nil, head-eq_of_cons-eq, tail-eq_of_cons-eq}
use Rattle.kernel.proofs.Cases.{split, same_or}
use Rattle.library.specs.declared.sizes.Sizes.{Sizes}
use Rattle.library.specs.declared.tables.Mailbox.{Mailbox}
use Rattle.library.specs.declared.tables.Pool.{Pool}
use Rattle.promises.specs.Paper.World.{World}
use Rattle.promises.specs.Paper.Rows.{slots_of}
use Rattle.promises.specs.Paper.History.{Event, those, total, fetched, lost_at}
use Rattle.promises.specs.Paper.Ledger.{
  in_box,
  Ledger,
  first_given,
  entered,
  ledger,
  values,
  BoxTold,
  Standing,
  when_added,
  when_taken,
  when_freed,
  stood,
  standing,
  mark_in,
  mark_of,
}
use Rattle.promises.specs.Runs.Boxes.{content}

-- ---- lists of events

pub those-append : (f : Event → Bool) (es fs : List Event) → those f (es ++ fs) ≡ those f es ++ those f fs
those-append f [] fs = refl
those-append f (e ∷ es) fs = split (f e) (λ h. rw (h, those-append f es fs)) (λ h. rw (h, those-append f es fs))

pub total-append : (f : Event → ℕ) (es fs : List Event) → total f (es ++ fs) ≡ total f es + total f fs
total-append f [] fs = omega arith
total-append f (e ∷ es) fs = omega (arith, total-append f es fs)

pub values-append : (es fs : List Event) → values (es ++ fs) ≡ values es ++ values fs
values-append [] fs = refl
values-append (e ∷ es) fs = rw (values-append es fs)

pub values_length : (es : List Event) → length (values es) ≡ length es
values_length [] = refl
values_length (e ∷ es) = rw (values_length es)

pub ledger-append : (b : ℕ) (l : Ledger) (es fs : List Event) → ledger b l (es ++ fs) ≡ ledger b (ledger b l es) fs
ledger-append b l [] fs = refl
ledger-append b l (e ∷ es) fs = ledger-append b (cond (eqb e.object b) (entered l e) l) es fs

pub standing-append : (q o : ℕ) (x : Standing) (es fs : List Event) → standing q o x (es ++ fs) ≡ standing q o (standing q o x es) fs
standing-append q o x [] fs = refl
standing-append q o x (e ∷ es) fs = standing-append q o (cond (eqb e.object q && eqb e.value o) (stood x e) x) es fs

-- ---- from one world to another, by some events

pub record Dealt (w : World) (es : List Event) (x : World) : Type 0 where
  pub sizes : x.sizes ≡ w.sizes
  pub boxes : (b : ℕ) → b < w.sizes.mailboxes → (l : Ledger) → values l.present ≡ in_box w b → BoxTold b l es (ledger b l es) x
  pub objects : (q o : ℕ) → q < w.sizes.pools → (s : Standing) → mark_of s ≡ mark_in w q o → mark_of (standing q o s es) ≡ mark_in x q o

-- what a mailbox holds goes by its record and the sizes
pub box-same : (w x : World) (b : ℕ) → x.sizes ≡ w.sizes → x.box b ≡ w.box b → in_box x b ≡ in_box w b
box-same w x b z e = ap (λ (y : Sizes). content (get_or y.slots b 0) (x.box b)) z ∙ ap (content (slots_of w b)) e

-- no event on a mailbox: its ledger stays
box-still : (w x : World) (b : ℕ) (l : Ledger) (es : List Event) → in_box x b ≡ in_box w b → those (fetched b) es ≡ []
    → total (lost_at b) es ≡ 0 → values l.present ≡ in_box w b → BoxTold b l es l x
box-still w x b l es same f z e =
    record {
      present = e ∙ sym same;
      handed = rw f (sym (append-nil (values l.given)));
      lost = rw z (omega arith);
    }

-- nothing happens
pub dealt-still : (w x : World) → x.sizes ≡ w.sizes → ((b : ℕ) → in_box x b ≡ in_box w b) → x.pool ≡ w.pool → Dealt w [] x
dealt-still w x z h p =
    record {
      sizes = z;
      boxes = λ n there l e. box-still w x n l [] (h n) refl refl e;
      objects = λ q o there s e. e ∙ sym (ap (λ (f : ℕ → Pool). get_or (f q).marks o 0) p);
    }

pub dealt-none : (w x : World) → x.sizes ≡ w.sizes → x.box ≡ w.box → x.pool ≡ w.pool → Dealt w [] x
dealt-none w x z b p = dealt-still w x z (λ n. box-same w x n z (ap (λ (f : ℕ → Mailbox). f n) b)) p

-- one after the other
both_told : (b : ℕ) (l : Ledger) (es fs : List Event) (k h : Ledger) (v x : World) → BoxTold b l es k v → BoxTold b k fs h x → BoxTold b l (es ++ fs) h x
both_told b l es fs k h v x a c =
    record {
      present = c.present;
      handed =
          c.handed
          ∙ rw (a.handed, those-append (fetched b) es fs, values-append (those (fetched b) es) (those (fetched b) fs))
          (append_assoc (values l.given) (values (those (fetched b) es)) (values (those (fetched b) fs)));
      lost = omega (arith, a.lost, c.lost, total-append (lost_at b) es fs);
    }

pub dealt-both : (w v x : World) (es fs : List Event) → Dealt w es v → Dealt v fs x → Dealt w (es ++ fs) x
dealt-both w v x es fs a c =
    record {
      sizes = c.sizes ∙ a.sizes;
      boxes = λ b h l e.
          let told = a.boxes b h l e in
          rw (ledger-append b l es fs)
          (both_told b l es fs (ledger b l es) (ledger b (ledger b l es) fs) v x told (c.boxes b (rw a.sizes h) (ledger b l es) told.present));
      objects = λ q o h s e. rw (standing-append q o s es fs) (c.objects q o (rw a.sizes h) (standing q o s es) (a.objects q o h s e));
    }

-- in a world with the same mailboxes and pools
pub dealt-as : (w y x : World) (es : List Event) → x.sizes ≡ y.sizes → x.box ≡ y.box → x.pool ≡ y.pool → Dealt w es y → Dealt w es x
dealt-as w y x es z b p h =
    record {
      sizes = z ∙ h.sizes;
      boxes = λ n there l e.
          let k = h.boxes n there l e in
          record {
            present = k.present ∙ sym (box-same y x n z (ap (λ (f : ℕ → Mailbox). f n) b));
            handed = k.handed;
            lost = k.lost;
          };
      objects = λ q o there s e. h.objects q o there s e ∙ sym (ap (λ (f : ℕ → Pool). get_or (f q).marks o 0) p);
    }

-- ---- one event on a mailbox

-- an empty list has no first
no-head : {A : Type 0} {a : ℕ} {y : List ℕ} → [] ≡ (a ∷ y) → A
no-head e = absurd (omega (arith, ap length e))

-- "mailbox post; post ahead; fetch", "mailbox reset"
abbrev OfBox : ℕ → Type 0
OfBox k = (k ≡ 15) ⊎ ((k ≡ 16) ⊎ ((k ≡ 17) ⊎ (k ≡ 18)))

module _ (w x : World) (e : Event) (same-sizes : x.sizes ≡ w.sizes) (same-pool : x.pool ≡ w.pool)
    (others : (b : ℕ) → b ≢ e.object → x.box b ≡ w.box b) where
  abbrev o : ℕ
  o = e.object

  -- no object stands elsewhere for it
  stood-box : OfBox e.kind → (s : Standing) → stood s e ≡ s
  stood-box (inl k) s = rw k
  stood-box (inr (inl k)) s = rw k
  stood-box (inr (inr (inl k))) s = rw k
  stood-box (inr (inr (inr k))) s = rw k

  -- nor does another mailbox know of it
  elsewhere : (b : ℕ) → b ≢ o → (l : Ledger) → values l.present ≡ in_box w b → BoxTold b l (e ∷ []) (ledger b l (e ∷ [])) x
  elsewhere b d l h =
      let n : eqb o b ≡ false = ne_eqb o b (λ z. d (sym z)) in
      rw n
      (box-still w x b l (e ∷ []) (box-same w x b same-sizes (others b d)) (not-those (fetched b) (rw n (and-false (eqb e.kind 17))))
      (rw (n, and-false (eqb e.kind 18))) h)
    where
      not-those : (f : Event → Bool) → f e ≡ false → those f (e ∷ []) ≡ []
      not-those f z = rw z

  -- so what it makes of its own mailbox is all
  dealt-box : OfBox e.kind → ((l : Ledger) → values l.present ≡ in_box w o → BoxTold o l (e ∷ []) (entered l e) x) → Dealt w (e ∷ []) x
  dealt-box k h =
      record {
        sizes = same-sizes;
        boxes = λ b there l z.
            same_or b o
            (λ d. subst (λ (a : ℕ). BoxTold a l (e ∷ []) (ledger a l (e ∷ [])) x) (sym d) (rw (eq-eqb o o refl) (h l (rw d at z))))
            (λ d. elsewhere b d l z);
        objects = λ q a there s z.
            let still : standing q a s (e ∷ []) ≡ s = split (eqb o q && eqb e.value a) (λ h. rw h (stood-box k s)) (λ h. rw h) in
            rw still (z ∙ sym (ap (λ (f : ℕ → Pool). get_or (f q).marks a 0) same-pool));
      }

  -- what the kind says of the event by itself
  record Only (fetches : List Event) (loss : ℕ) : Type 0 where
    pub fetched-is : those (fetched o) (e ∷ []) ≡ fetches
    pub lost-is : total (lost_at o) (e ∷ []) ≡ loss

  only-post : (e.kind ≡ 15) ⊎ (e.kind ≡ 16) → Only [] 0
  only-post (inl k) = record { fetched-is = rw k; lost-is = rw k }
  only-post (inr k) = record { fetched-is = rw k; lost-is = rw k }

  -- a post puts one behind
  pub dealt-behind : e.kind ≡ 15 → in_box x o ≡ in_box w o ++ (e.value ∷ []) → Dealt w (e ∷ []) x
  dealt-behind k h = dealt-box (inl k) told
    where
      told : (l : Ledger) → values l.present ≡ in_box w o → BoxTold o l (e ∷ []) (entered l e) x
      told l z =
          let is : entered l e ≡ record { present = l.present ++ (e ∷ []); given = l.given; lost = l.lost } = rw k in
          let only = only-post (inl k) in
          rw is
          (record {
            present = values-append l.present (e ∷ []) ∙ ap (λ (y : List ℕ). y ++ (e.value ∷ [])) z ∙ sym h;
            handed = rw only.fetched-is (sym (append-nil (values l.given)));
            lost = omega (arith, only.lost-is);
          })

  -- a post ahead one before all
  pub dealt-ahead : e.kind ≡ 16 → in_box x o ≡ e.value ∷ in_box w o → Dealt w (e ∷ []) x
  dealt-ahead k h = dealt-box (inr (inl k)) told
    where
      told : (l : Ledger) → values l.present ≡ in_box w o → BoxTold o l (e ∷ []) (entered l e) x
      told l z =
          let is : entered l e ≡ record { present = e ∷ l.present; given = l.given; lost = l.lost } = rw k in
          let only = only-post (inr k) in
          rw is
          (record {
            present = ap (λ (y : List ℕ). e.value ∷ y) z ∙ sym h;
            handed = rw only.fetched-is (sym (append-nil (values l.given)));
            lost = omega (arith, only.lost-is);
          })

  -- a fetch takes the first, whose message it hands over
  pub dealt-first : e.kind ≡ 17 → in_box w o ≡ e.value ∷ in_box x o → Dealt w (e ∷ []) x
  dealt-first k h = dealt-box (inr (inr (inl k))) (λ l z. rw (is l) (told l.present l.given l.lost (z ∙ h)))
    where
      is : (l : Ledger) → entered l e ≡ first_given l.present l.given l.lost
      is l = rw k

      only : Only (e ∷ []) 0
      only = record { fetched-is = rw (k, eq-eqb o o refl); lost-is = rw k }

      told : (ps g l : List Event) → values ps ≡ e.value ∷ in_box x o
          → BoxTold o (record { present = ps; given = g; lost = l }) (e ∷ []) (first_given ps g l) x
      told [] g l z = no-head z
      told (p ∷ ps) g l z =
          record {
            present = tail-eq_of_cons-eq z;
            handed = values-append g (p ∷ []) ∙ rw (only.fetched-is, head-eq_of_cons-eq z);
            lost = omega (arith, only.lost-is);
          }

  -- a reset loses all, as many as there are
  pub dealt-reset : e.kind ≡ 18 → in_box x o ≡ [] → e.value ≡ length (in_box w o) → Dealt w (e ∷ []) x
  dealt-reset k h v = dealt-box (inr (inr (inr k))) told
    where
      only : Only [] e.value
      only = record { fetched-is = rw k; lost-is = rw (k, eq-eqb o o refl) (omega arith) }

      told : (l : Ledger) → values l.present ≡ in_box w o → BoxTold o l (e ∷ []) (entered l e) x
      told l z =
          let is : entered l e ≡ record { present = []; given = l.given; lost = l.lost ++ l.present } = rw k in
          let all : length l.present ≡ e.value = sym (values_length l.present) ∙ ap length z ∙ sym v in
          rw is
          (record {
            present = sym h;
            handed = rw only.fetched-is (sym (append-nil (values l.given)));
            lost = omega (arith, only.lost-is, length-append l.lost l.present, all);
          })

-- ---- one event on a pool

-- "pool alloc; free; add"
abbrev OfPool : ℕ → Type 0
OfPool k = (k ≡ 20) ⊎ ((k ≡ 21) ⊎ (k ≡ 22))

module _ (w x : World) (e : Event) (same-sizes : x.sizes ≡ w.sizes) (same-box : x.box ≡ w.box)
    (others : (q : ℕ) → q ≢ e.object → x.pool q ≡ w.pool q)
    (rest : (a : ℕ) → a ≢ e.value → mark_in x e.object a ≡ mark_in w e.object a) where
  abbrev p : ℕ
  p = e.object

  abbrev v : ℕ
  v = e.value

  -- no ledger knows of it
  still-box : OfPool e.kind → (b : ℕ) → b < w.sizes.mailboxes → (l : Ledger) → values l.present ≡ in_box w b
      → BoxTold b l (e ∷ []) (ledger b l (e ∷ [])) x
  still-box k b there l z =
      let same = box-same w x b same-sizes (ap (λ (f : ℕ → Mailbox). f b) same-box) in
      let kept : ledger b l (e ∷ []) ≡ l = split (eqb p b) (λ h. rw h (no-entry k)) (λ h. rw h) in
      rw kept (box-still w x b l (e ∷ []) same (no-fetch k) (no-loss k) z)
    where
      no-entry : OfPool e.kind → entered l e ≡ l
      no-entry (inl k) = rw k
      no-entry (inr (inl k)) = rw k
      no-entry (inr (inr k)) = rw k

      no-fetch : OfPool e.kind → those (fetched b) (e ∷ []) ≡ []
      no-fetch (inl k) = rw k
      no-fetch (inr (inl k)) = rw k
      no-fetch (inr (inr k)) = rw k

      no-loss : OfPool e.kind → total (lost_at b) (e ∷ []) ≡ 0
      no-loss (inl k) = rw k
      no-loss (inr (inl k)) = rw k
      no-loss (inr (inr k)) = rw k

  -- so what it makes of its own object is all
  dealt-object : OfPool e.kind → ((s : Standing) → mark_of s ≡ mark_in w p v → mark_of (stood s e) ≡ mark_in x p v) → Dealt w (e ∷ []) x
  dealt-object k h =
      record {
        sizes = same-sizes;
        boxes = still-box k;
        objects = λ q a there s z.
            same_or q p
            (λ d. subst (λ (y : ℕ). mark_of (standing y a s (e ∷ [])) ≡ mark_in x y a) (sym d)
            (same_or a v
            (λ c. subst (λ (y : ℕ). mark_of (standing p y s (e ∷ [])) ≡ mark_in x p y) (sym c)
            (rw (eq-eqb p p refl, eq-eqb v v refl) (h s (rw (d, c) at z))))
            (λ c. rw (eq-eqb p p refl, ne_eqb v a (λ y. c (sym y))) (rw d at z ∙ sym (rest a c)))))
            (λ d. rw (ne_eqb p q (λ y. d (sym y))) (z ∙ sym (ap (λ (y : Pool). get_or y.marks a 0) (others q d))));
      }

  -- an alloc takes a free one
  pub dealt-taken : e.kind ≡ 20 → mark_in w p v ≡ 1 → mark_in x p v ≡ 2 → Dealt w (e ∷ []) x
  dealt-taken k was now = dealt-object (inl k) (λ s z. ap mark_of (is s) ∙ takes s (z ∙ was) ∙ sym now)
    where
      is : (s : Standing) → stood s e ≡ when_taken e s
      is s = rw k

      takes : (s : Standing) → mark_of s ≡ 1 → mark_of (when_taken e s) ≡ 2
      takes Standing.absent h = absurd (omega (arith, h))
      takes Standing.free h = refl
      takes (Standing.out n i) h = absurd (omega (arith, h))
      takes Standing.mistaken h = absurd (omega (arith, h))

  -- a free puts back one that is out
  pub dealt-freed : e.kind ≡ 21 → mark_in w p v ≡ 2 → mark_in x p v ≡ 1 → Dealt w (e ∷ []) x
  dealt-freed k was now = dealt-object (inr (inl k)) (λ s z. ap mark_of (is s) ∙ frees s (z ∙ was) ∙ sym now)
    where
      is : (s : Standing) → stood s e ≡ when_freed s
      is s = rw k

      frees : (s : Standing) → mark_of s ≡ 2 → mark_of (when_freed s) ≡ 1
      frees Standing.absent h = absurd (omega (arith, h))
      frees Standing.free h = absurd (omega (arith, h))
      frees (Standing.out n i) h = refl
      frees Standing.mistaken h = absurd (omega (arith, h))

  -- an add brings one that was absent
  pub dealt-added : e.kind ≡ 22 → mark_in w p v ≡ 0 → mark_in x p v ≡ 1 → Dealt w (e ∷ []) x
  dealt-added k was now = dealt-object (inr (inr k)) (λ s z. ap mark_of (is s) ∙ adds s (z ∙ was) ∙ sym now)
    where
      is : (s : Standing) → stood s e ≡ when_added s
      is s = rw k

      adds : (s : Standing) → mark_of s ≡ 0 → mark_of (when_added s) ≡ 1
      adds Standing.absent h = refl
      adds Standing.free h = absurd (omega (arith, h))
      adds (Standing.out n i) h = absurd (omega (arith, h))
      adds Standing.mistaken h = absurd (omega (arith, h))
