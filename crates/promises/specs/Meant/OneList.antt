-- The paper leaves no choice: two lists of what differs have the same entries, since both rise and both have all of them.
use Rattle.std.specs.Prelude.{ℕ, zero, suc, ◌+◌, ◌*◌, ◌/◌, ◌%◌, ◌≤◌, ◌<◌, ◌≡◌, refl, ◌≢◌, List, get_or}
use Rattle.std.proofs.Common.{arith, sym, ap, ◌∙◌, subst, ext_get_or}
use Rattle.kernel.specs.declared.clock.Clock.{Clock}
use Rattle.kernel.proofs.Cases.{same_or, in-or-out}
use Rattle.library.specs.declared.tables.Tables.{Tables}
use Rattle.promises.specs.Meant.Compare.{same-entry}
use Rattle.promises.specs.Paper.Compare.{holds, Entry, entry_at, Differs, Before, Listed, ListOf, CompareOf}

-- ---- the order

-- two entries of one field
pub record SameName (e g : Entry) : Type 0 where
  pub object : e.object ≡ g.object
  pub number : e.number ≡ g.number
  pub field : e.field ≡ g.field

same_back : {e g : Entry} → SameName e g → SameName g e
same_back s = record { object = sym s.object; number = sym s.number; field = sym s.field }

not_same : {e g : Entry} → Before e g → SameName e g → ⊥
not_same (Before.by-object h) s = omega (arith, s.object)
not_same (Before.by_number o h) s = omega (arith, s.number)
not_same (Before.by_field o n h) s = omega (arith, s.field)

-- nothing stands before what stands before it
not-both : {e g : Entry} → Before e g → Before g e → ⊥
not-both (Before.by-object h) (Before.by-object l) = omega arith
not-both (Before.by-object h) (Before.by_number o l) = omega arith
not-both (Before.by-object h) (Before.by_field o n l) = omega arith
not-both (Before.by_number o h) (Before.by-object l) = omega arith
not-both (Before.by_number o h) (Before.by_number p l) = omega arith
not-both (Before.by_number o h) (Before.by_field p n l) = omega arith
not-both (Before.by_field o n h) (Before.by-object l) = omega arith
not-both (Before.by_field o n h) (Before.by_number p l) = omega arith
not-both (Before.by_field o n h) (Before.by_field p q l) = omega arith

before_same : {e g k : Entry} → Before e g → SameName g k → Before e k
before_same (Before.by-object h) s = Before.by-object (omega (arith, s.object))
before_same (Before.by_number o h) s = Before.by_number (o ∙ s.object) (omega (arith, s.number))
before_same (Before.by_field o n h) s = Before.by_field (o ∙ s.object) (n ∙ s.number) (omega (arith, s.field))

joined : {x y z : Entry} → SameName x y → SameName y z → SameName x z
joined p q = record { object = p.object ∙ q.object; number = p.number ∙ q.number; field = p.field ∙ q.field }

-- ---- one field, one old number

module _ (t : Tables) (c : Clock) (u : Tables) (d : Clock) where
  old-one : {o n f v w : ℕ} → Differs t c u d o n f v → Differs t c u d o n f w → v ≡ w
  old-one (Differs.changed x y z) (Differs.changed p q r) = refl
  old-one (Differs.changed x y z) (Differs.only-second p q) = absurd (p x)
  old-one (Differs.only-second x y) (Differs.changed p q r) = absurd (x p)
  old-one (Differs.only-second x y) (Differs.only-second p q) = refl

  -- an entry of one list stands in the other
  module _ (k : ℕ) (e : ℕ → Entry) (j : ℕ) (g : ℕ → Entry) (a : ListOf t c u d k e) (b : ListOf t c u d j g) where
    there : (i : ℕ) → i < k → Listed j g (e i).object (e i).number (e i).field
    there i h = b.complete (e i).object (e i).number (e i).field (e i).old (a.old i h)

    name-there : (i : ℕ) (h : i < k) → SameName (g (there i h).at) (e i)
    name-there i h = record { object = (there i h).object; number = (there i h).number; field = (there i h).field }

  -- the i-th entries are of one field, if all before them are
  module _ (k : ℕ) (e : ℕ → Entry) (j : ℕ) (g : ℕ → Entry) (a : ListOf t c u d k e) (b : ListOf t c u d j g) where
    abbrev At : ℕ → Type 0
    At i = (i < j) × SameName (e i) (g i)

    -- else the other list has something before it, which this one has too, and only later
    later : (n i : ℕ) → ((m : ℕ) → m < n → m < k → At m) → i < suc n → (h : i < k) → i ≤ (there k e j g a b i h).at
        → (there k e j g a b i h).at ≢ i → ⊥
    later n i so_far s h l w =
        let p = there k e j g a b i h in
        let x = name-there k e j g a b i h in
        let inside : i < j = omega (arith, p.inside) in
        let q = there j g k e b a i inside in
        let y = name-there j g k e b a i inside in
        let first : Before (g i) (e i) = before_same (b.rising i p.at (omega arith) p.inside) x in
        in-or-out q.at i
        (λ m. not_same (b.rising q.at i m inside) (joined (same_back (so_far q.at (omega arith) q.inside).1) y))
        (λ m. same_or q.at i
        (λ v. not_same first (same_back (rw v at y)))
        (λ v. not-both first (before_same (a.rising i q.at (omega arith) q.inside) y)))

    pub same_at : (n i : ℕ) → i < n → i < k → At i
    same_at zero i s h = absurd (omega arith)
    same_at (suc n) i s h =
        let p = there k e j g a b i h in
        let x = name-there k e j g a b i h in
        in-or-out p.at i
        (λ l. absurd (not_same (a.rising p.at i l h) (joined (same_at n p.at (omega arith) (omega arith)).1 x)))
        (λ l. same_or p.at i
        (λ w. (rw w at p.inside, rw w at (same_back x)))
        (λ w. absurd (later n i (same_at n) s h l w)))

  module _ (k : ℕ) (e : ℕ → Entry) (j : ℕ) (g : ℕ → Entry) (a : ListOf t c u d k e) (b : ListOf t c u d j g) where
    -- as many entries ..
    pub length-one : k ≡ j
    length-one = omega (arith, no-fewer k e j g a b, no-fewer j g k e b a)
      where
        no-fewer : (k : ℕ) (e : ℕ → Entry) (j : ℕ) (g : ℕ → Entry) → ListOf t c u d k e → ListOf t c u d j g → k ≤ j
        no-fewer zero e j g a b = omega arith
        no-fewer (suc k) e j g a b = omega (arith, (same_at (suc k) e j g a b (suc k) k (omega arith) (omega arith)).0)

    -- .. and each the same
    pub entry-one : (i : ℕ) → i < k → e i ≡ g i
    entry-one i h =
        let x = same_at k e j g a b k i h h in
        let s = x.1 in
        let old : (e i).old ≡ (g i).old
        = old-one (a.old i h) (subst (λ (n : ℕ). Differs t c u d (e i).object (e i).number n (g i).old) (sym s.field)
        (subst (λ (n : ℕ). Differs t c u d (e i).object n (g i).field (g i).old) (sym s.number)
        (subst (λ (n : ℕ). Differs t c u d n (g i).number (g i).field (g i).old) (sym s.object) (b.old i x.0)))) in
        let new : (e i).new ≡ (g i).new
        = a.new i h
        ∙ ap (λ (n : ℕ). holds u d n (e i).number (e i).field) s.object
        ∙ ap (λ (n : ℕ). holds u d (g i).object n (e i).field) s.number
        ∙ ap (holds u d (g i).object (g i).number) s.field
        ∙ sym (b.new i x.0) in
        same-entry s.object s.number s.field old new

-- ---- the whole of it

-- two lists of numbers have the same entries
numbers-one : (k : ℕ) (r s : List ℕ) → ((i : ℕ) → i < k → entry_at r i ≡ entry_at s i) → (p : ℕ) → p < k * 5 → get_or r p 0 ≡ get_or s p 0
numbers-one k r s same p h =
    let i = p / 5 in
    let e = same i (omega arith) in
    let at0 : i * 5 + p % 5 ≡ p = omega arith in
    same_or (p % 5) 0 (λ w. let on : i * 5 ≡ p = omega arith in rw on at (ap (λ (x : Entry). x.object) e))
    (λ d0. same_or (p % 5) 1 (λ w. let on : i * 5 + 1 ≡ p = omega arith in rw on at (ap (λ (x : Entry). x.number) e))
    (λ d1. same_or (p % 5) 2 (λ w. let on : i * 5 + 2 ≡ p = omega arith in rw on at (ap (λ (x : Entry). x.field) e))
    (λ d2. same_or (p % 5) 3 (λ w. let on : i * 5 + 3 ≡ p = omega arith in rw on at (ap (λ (x : Entry). x.old) e))
    (λ d3. let on : i * 5 + 4 ≡ p = omega arith in rw on at (ap (λ (x : Entry). x.new) e)))))

-- what a comparison gives: a code, a number of entries, and the room
pub record Same (m k : ℕ) (r : List ℕ) (n j : ℕ) (s : List ℕ) : Type 0 where
  pub code : m ≡ n
  pub entries : k ≡ j
  pub room : r ≡ s

module _ {t : Tables} {c : Clock} {u : Tables} {d : Clock} {l : List ℕ} where
  pub compare-one : {m k n j : ℕ} {r s : List ℕ} → CompareOf t c u d l m k r → CompareOf t c u d l n j s → Same m k r n j s
  compare-one (CompareOf.first x) (CompareOf.first y) = record { code = refl; entries = refl; room = refl }
  compare-one (CompareOf.first x) (CompareOf.second y z) = absurd (x y)
  compare-one (CompareOf.first x) (CompareOf.sizes y z w) = absurd (x y)
  compare-one (CompareOf.first x) (CompareOf.no_room y z w k e a h) = absurd (x y)
  compare-one (CompareOf.first x) (CompareOf.listed y z w k r a h p q) = absurd (x y)
  compare-one (CompareOf.second x y) (CompareOf.first z) = absurd (z x)
  compare-one (CompareOf.second x y) (CompareOf.second z w) = record { code = refl; entries = refl; room = refl }
  compare-one (CompareOf.second x y) (CompareOf.sizes z w v) = absurd (y w)
  compare-one (CompareOf.second x y) (CompareOf.no_room z w v k e a h) = absurd (y w)
  compare-one (CompareOf.second x y) (CompareOf.listed z w v k r a h p q) = absurd (y w)
  compare-one (CompareOf.sizes x y z) (CompareOf.first w) = absurd (w x)
  compare-one (CompareOf.sizes x y z) (CompareOf.second w v) = absurd (v y)
  compare-one (CompareOf.sizes x y z) (CompareOf.sizes w v o) = record { code = refl; entries = refl; room = refl }
  compare-one (CompareOf.sizes x y z) (CompareOf.no_room w v o k e a h) = absurd (z o)
  compare-one (CompareOf.sizes x y z) (CompareOf.listed w v o k r a h p q) = absurd (z o)
  compare-one (CompareOf.no_room x y z k e a h) (CompareOf.first w) = absurd (w x)
  compare-one (CompareOf.no_room x y z k e a h) (CompareOf.second w v) = absurd (v y)
  compare-one (CompareOf.no_room x y z k e a h) (CompareOf.sizes w v o) = absurd (o z)
  compare-one (CompareOf.no_room x y z k e a h) (CompareOf.no_room w v o j g b i) = record { code = refl; entries = refl; room = refl }
  compare-one (CompareOf.no_room x y z k e a h) (CompareOf.listed w v o j r b i p q) =
      absurd (omega (arith, length-one t c u d k e j (entry_at r) a b))
  compare-one (CompareOf.listed x y z k r a h p q) (CompareOf.first w) = absurd (w x)
  compare-one (CompareOf.listed x y z k r a h p q) (CompareOf.second w v) = absurd (v y)
  compare-one (CompareOf.listed x y z k r a h p q) (CompareOf.sizes w v o) = absurd (o z)
  compare-one (CompareOf.listed x y z k r a h p q) (CompareOf.no_room w v o j g b i) =
      absurd (omega (arith, length-one t c u d k (entry_at r) j g a b))
  compare-one (CompareOf.listed x y z k r a h p q) (CompareOf.listed w v o j s b i m n) =
      let same = length-one t c u d k (entry_at r) j (entry_at s) a b in
      record {
        code = refl;
        entries = same;
        room =
            ext_get_or 0 r s (p ∙ sym m)
            (λ g inside. in-or-out g (k * 5)
            (numbers-one k r s (entry-one t c u d k (entry_at r) j (entry_at s) a b) g)
            (λ f. q g f ∙ sym (n g (omega (arith, same)))));
      }
