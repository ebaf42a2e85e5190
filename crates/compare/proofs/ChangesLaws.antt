-- The list of differences, applied to the first, gives the second; its entries rise, and are of all fields that differ.
-- By induction over the fields: a field's entry comes last, and those before it are of fields before it.
use Prim.Native.Nat.{ℕ, zero, suc, ◌≤◌, ◌<◌}
use native.Mathlib.Nat.{le_refl}
use native.Mathlib.Omega.{arith}
use mathlib.Core.Path.{◌≡◌, refl, ◌∙◌}
use mathlib.Core.Logic.{◌≢◌}
use mathlib.Core.Bool.{Bool, true, false, cond, not, ◌&&◌}
use mathlib.Core.List.{List, [], ◌∷◌, ◌++◌, append-nil}
use lib.Dec.{eqb}
use lib.ListN.{length, get_or, length-append, get_or-append}
use lib.Seq.{get_or-append_seam}
use borrow.Author.Tests.{eqb-true}
use Rattle.kernel.proofs.Cases.{split, same_or, in-or-out, contrary, both-means}
use Rattle.compare.specs.Changes.{Reading, Change, differs, change_at, changes, applied, Ordered}

-- a list that is applied in two parts
pub applied-append : {A : Type 0} (store : A → ℕ → ℕ → A) (x : A) (l m : List Change)
    → applied store x (l ++ m) ≡ applied store (applied store x l) m
unfolding applied
applied-append store x [] m = refl
applied-append store x (e ∷ l) m = applied-append store (store x e.at e.new) l m

-- a field that does not differ, and counts, counts in the first too, and holds the same
pub agrees : (a b : Reading) (k : ℕ) → differs a b k ≡ false → b.counts k ≡ true → (a.counts k ≡ true) × (a.value k ≡ b.value k)
agrees a b k e c = go (a.counts k) (eqb (a.value k) (b.value k)) refl refl
  where
    go : (s t : Bool) → a.counts k ≡ s → eqb (a.value k) (b.value k) ≡ t → (a.counts k ≡ true) × (a.value k ≡ b.value k)
    go true true p q = (p, eqb-true (a.value k) (b.value k) q)
    go true false p q = let d : differs a b k ≡ true = rw (c, p, q) in contrary d e
    go false t p q = let d : differs a b k ≡ true = rw (c, p) in contrary d e

-- one that differs counts
pub differs-counts : (a b : Reading) (k : ℕ) → differs a b k ≡ true → b.counts k ≡ true
differs-counts a b k e = (both-means (b.counts k) (not (a.counts k && eqb (a.value k) (b.value k))) e).0

-- ---- applied to the first, the list gives the second

-- what reads fields and stores into them: a store shows in its own field and in no other, of what holds its numbers
module _ {A : Type 0} (read : A → ℕ → ℕ) (store : A → ℕ → ℕ → A) (Holds : A → Type 0) (Fits : ℕ → ℕ → Type 0) (n : ℕ)
    (keeps : (x : A) (k v : ℕ) → Holds x → k < n → Fits k v → Holds (store x k v))
    (own : (x : A) (k v : ℕ) → Holds x → k < n → Fits k v → read (store x k v) k ≡ v)
    (other : (x : A) (k v j : ℕ) → Holds x → k < n → Fits k v → j < n → j ≢ k → read (store x k v) j ≡ read x j)
    (x : A) (held : Holds x) (a b : Reading) (same : (k : ℕ) → k < n → read x k ≡ a.value k)
    (fit : (k : ℕ) → k < n → Fits k (b.value k)) where
  -- the entries of the first m fields have been applied
  pub record After (m : ℕ) (y : A) : Type 0 where
    pub holds : Holds y
    pub done : (k : ℕ) → k < m → b.counts k ≡ true → read y k ≡ b.value k
    pub not_yet : (k : ℕ) → k < n → m ≤ k → read y k ≡ read x k
    pub unused : (k : ℕ) → k < n → b.counts k ≡ false → read y k ≡ read x k

  -- field m is stored, or stands as it should already
  after_store : (m : ℕ) (y : A) → m < n → differs a b m ≡ true → After m y → After (suc m) (store y m (b.value m))
  after_store m y l e h =
      let fits = fit m l in
      record {
        holds = keeps y m (b.value m) h.holds l fits;
        done = λ k s c.
            same_or k m (λ w. rw w (own y m (b.value m) h.holds l fits))
            (λ w. other y m (b.value m) k h.holds l fits (omega arith) w ∙ h.done k (omega arith) c);
        not_yet = λ k s g. other y m (b.value m) k h.holds l fits s (omega arith) ∙ h.not_yet k s (omega arith);
        unused = λ k s c.
            same_or k m (λ w. contrary (differs-counts a b m e) (rw w at c))
            (λ w. other y m (b.value m) k h.holds l fits s w ∙ h.unused k s c);
      }

  after-skip : (m : ℕ) (y : A) → m < n → differs a b m ≡ false → After m y → After (suc m) y
  after-skip m y l e h =
      record {
        holds = h.holds;
        done = λ k s c.
            same_or k m
            (λ w. rw w (h.not_yet m l (le_refl m) ∙ same m l ∙ (agrees a b m e (rw w at c)).1))
            (λ w. h.done k (omega arith) c);
        not_yet = λ k s g. h.not_yet k s (omega arith);
        unused = h.unused;
      }

  -- "Applying the list to the first .. must give the second"
  pub applying-gives : (m : ℕ) → m ≤ n → After m (applied store x (changes a b m))
  unfolding applied changes
  applying-gives zero l =
      record { holds = held; done = λ k s c. absurd (omega arith); not_yet = λ k s g. refl; unused = λ k s c. refl }
  applying-gives (suc m) l =
      let so_far = applying-gives m (omega arith) in
      split (differs a b m)
      (λ e. rw (e, applied-append store x (changes a b m) (change_at a b m ∷ [])) (after_store m (applied store x (changes a b m)) (omega arith) e so_far))
      (λ e. rw (e, applied-append store x (changes a b m) []) (after-skip m (applied store x (changes a b m)) (omega arith) e so_far))

-- what every store of a field keeps, the list keeps
pub applying-keeps : {A : Type 0} (store : A → ℕ → ℕ → A) (P : A → Type 0) (n : ℕ) → ((x : A) (k v : ℕ) → k < n → P x → P (store x k v))
    → (a b : Reading) (x : A) → P x → (m : ℕ) → m ≤ n → P (applied store x (changes a b m))
unfolding applied changes
applying-keeps store P n keeps a b x p zero l = p
applying-keeps store P n keeps a b x p (suc m) l =
    let so_far = applying-keeps store P n keeps a b x p m (omega arith) in
    split (differs a b m)
    (λ e. rw (e, applied-append store x (changes a b m) (change_at a b m ∷ [])) (keeps (applied store x (changes a b m)) m (b.value m) (omega arith) so_far))
    (λ e. rw (e, applied-append store x (changes a b m) []) so_far)

-- ---- in order, nothing twice

rises : (l : List Change) (n : ℕ) (c : Change) → Ordered l n → c.at ≡ n → Ordered (l ++ (c ∷ [])) (suc n)
rises l n c o e =
    record {
      below = λ i h d.
          in-or-out i (length l)
          (λ w. rw (get_or-append l (c ∷ []) d i w) (omega (arith, o.below i w d)))
          (λ w.
          let last : i ≡ length l = omega (arith, length-append l (c ∷ [])) in
          rw (last, get_or-append_seam l c [] d) (omega arith));
      rising = λ i j s h d.
          let first : i < length l = omega (arith, length-append l (c ∷ [])) in
          in-or-out j (length l)
          (λ w. rw (get_or-append l (c ∷ []) d i first, get_or-append l (c ∷ []) d j w) (o.rising i j s w d))
          (λ w.
          let last : j ≡ length l = omega (arith, length-append l (c ∷ [])) in
          rw (last, get_or-append_seam l c [] d, get_or-append l (c ∷ []) d i first, e) (o.below i first d));
    }

wider : (l : List Change) (n : ℕ) → Ordered l n → Ordered (l ++ []) (suc n)
wider l n o =
    rw (append-nil l) (record { below = λ i h d. omega (arith, o.below i h d); rising = o.rising })

-- the fields of the entries rise
pub changes-ordered : (a b : Reading) (n : ℕ) → Ordered (changes a b n) n
unfolding changes
changes-ordered a b zero = record { below = λ i h d. absurd (omega arith); rising = λ i j s h d. absurd (omega arith) }
changes-ordered a b (suc n) =
    split (differs a b n)
    (λ e. rw e (rises (changes a b n) n (change_at a b n) (changes-ordered a b n) refl))
    (λ e. rw e (wider (changes a b n) n (changes-ordered a b n)))

-- ---- the entries are of the fields that differ, and of all of them

pub record Of (a b : Reading) (n : ℕ) (e : Change) : Type 0 where
  pub inside : e.at < n
  pub other : differs a b e.at ≡ true
  pub is : e ≡ change_at a b e.at

of-wider : {a b : Reading} {n : ℕ} {e : Change} → Of a b n e → Of a b (suc n) e
of-wider o = record { inside = omega (arith, o.inside); other = o.other; is = o.is }

pub changes-are : (a b : Reading) (n i : ℕ) (d : Change) → i < length (changes a b n) → Of a b n (get_or (changes a b n) i d)
unfolding changes
changes-are a b zero i d h = absurd (omega arith)
changes-are a b (suc n) i d h =
    split (differs a b n)
    (λ e.
    let long : i < length (changes a b n ++ (change_at a b n ∷ [])) = rw e at h in
    rw e
    (in-or-out i (length (changes a b n))
    (λ l. rw (get_or-append (changes a b n) (change_at a b n ∷ []) d i l) (of-wider (changes-are a b n i d l)))
    (λ l.
    let last : i ≡ length (changes a b n) = omega (arith, long, length-append (changes a b n) (change_at a b n ∷ [])) in
    rw (last, get_or-append_seam (changes a b n) (change_at a b n) [] d) (record { inside = omega arith; other = e; is = refl }))))
    (λ e.
    let long : i < length (changes a b n) = rw (e, append-nil (changes a b n)) at h in
    rw (e, append-nil (changes a b n)) (of-wider (changes-are a b n i d long)))

-- a change stands in a list
pub record Stands (l : List Change) (d e : Change) : Type 0 where
  pub at : ℕ
  pub inside : at < length l
  pub is : get_or l at d ≡ e

stands-before : {l : List Change} {d e : Change} (m : List Change) → Stands l d e → Stands (l ++ m) d e
stands-before {l} {d} m s =
    record { at = s.at; inside = omega (arith, s.inside, length-append l m); is = get_or-append l m d s.at s.inside ∙ s.is }

pub changes-all : (a b : Reading) (n k : ℕ) (d : Change) → k < n → differs a b k ≡ true → Stands (changes a b n) d (change_at a b k)
unfolding changes
changes-all a b zero k d h e = absurd (omega arith)
changes-all a b (suc n) k d h e =
    same_or k n
    (λ w.
    let here : differs a b n ≡ true = rw w at e in
    rw (w, here)
    (record {
      at = length (changes a b n);
      inside = omega (arith, length-append (changes a b n) (change_at a b n ∷ []));
      is = get_or-append_seam (changes a b n) (change_at a b n) [] d;
    }))
    (λ w. stands-before (cond (differs a b n) (change_at a b n ∷ []) []) (changes-all a b n k d (omega arith) e))
