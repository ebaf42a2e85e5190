-- The list of a comparison is the paper's: its entries are the fields that differ, in the paper's order, and no other list is.
use Rattle.std.specs.Prelude.{ℕ, ◌+◌, ◌-◌, ◌*◌, ◌≤◌, ◌<◌, ◌≡◌, refl, ◌≢◌, true, false, drop}
use native.Mathlib.Omega.{arith}
use Rattle.std.proofs.Common.{sym, ◌∙◌, subst}
use Rattle.std.proofs.Math.Path.{ap, subst⁻¹}
use mathlib.Core.List.{List, [], ◌∷◌, ◌++◌}
use Rattle.std.proofs.Math.ListN.{length, get_or}
use Rattle.std.proofs.Math.Seq.{get_or-append-add, get_or-drop}
use borrow.Author.Tests.{lt-ltb, le-ltb, le-leb, lt-leb, eqb-true, eq-eqb, ne_eqb}
use Rattle.kernel.specs.declared.clock.Clock.{Clock}
use Rattle.kernel.proofs.Cases.{split, same_or, in-or-out, contrary}
use Rattle.kernel.proofs.WalkLaws.{all-at, all_of}
use Rattle.library.specs.declared.sizes.Sizes.{Sizes}
use Rattle.library.specs.declared.tables.Tables.{Tables}
use Rattle.library.specs.Tables.{opened}
use Rattle.rules.specs.Hanging.{hangs_together}
use Rattle.compare.specs.declared.cells.Kept.{Kept}
use Rattle.compare.specs.declared.order.Name.{Name}
use Rattle.compare.specs.Told.{Compared}
use Rattle.compare.specs.Changes.{Change, differs, change_at}
use Rattle.compare.specs.Cells.{sizes_head, size_cell}
use Rattle.compare.specs.Held.{Held}
use Rattle.compare.specs.Order.{fields, called, named, place_named, value_of, counts_of, reading_of}
use Rattle.compare.specs.Compared.{changed, numbers, written, change_count, listing, listed, unused_slot, size_same, sizes_same, refused, compared, compared_list}
use Rattle.compare.proofs.ChangesLaws.{Of, changes-are, Stands, changes-all, differs-counts}
use Rattle.compare.proofs.OrderLaws.{name_back, Rises, names-rise}
use Rattle.compare.proofs.ListLaws.{numbers-length, written-length}
use Rattle.compare.proofs.ReadBackLaws.{numbers-long, entry_read}
use Rattle.compare.proofs.ComparedLaws.{in_order}
use Rattle.promises.specs.Together.Hanging.{test-hangs, hangs-test}
use Rattle.promises.specs.Paper.Compare.{holds, Counts, SameSizes, Entry, entry_at, Differs, Before, ListOf, Whole, CompareOf}
use Rattle.promises.specs.Meant.Together.{rules-together, together-rules}
use Rattle.promises.specs.Meant.Equal.{Ranged}
use Rattle.promises.specs.Meant.Fields.{field_is, counts-is, counts-found}

-- ---- entries

-- what stands where there is no entry
abbrev no_change : Change
no_change = record { at = 0; old = 0; new = 0 }

-- a change as the paper's entry
abbrev told : Change → Entry
told e = record { object = (named e.at).object; number = (named e.at).number; field = (named e.at).field; old = e.old; new = e.new }

pub same-entry : {x y : Entry} → x.object ≡ y.object → x.number ≡ y.number → x.field ≡ y.field → x.old ≡ y.old → x.new ≡ y.new → x ≡ y
same-entry {x} {y} o n f p q =
    ap (λ (z : ℕ). made z x.number x.field x.old x.new) o
    ∙ ap (λ (z : ℕ). made y.object z x.field x.old x.new) n
    ∙ ap (λ (z : ℕ). made y.object y.number z x.old x.new) f
    ∙ ap (λ (z : ℕ). made y.object y.number y.field z x.new) p
    ∙ ap (made y.object y.number y.field y.old) q
  where
    made : ℕ → ℕ → ℕ → ℕ → ℕ → Entry
    made o n f p q = record { object = o; number = n; field = f; old = p; new = q }

-- names are told apart
same_name : {j k : ℕ} → j < fields → k < fields → named j ≡ named k → j ≡ k
same_name {j} {k} h l e = sym (name_back j h) ∙ ap place_named e ∙ name_back k l

rises-before : {x y : Entry} → Rises (called x.object x.number x.field) (called y.object y.number y.field) → Before x y
rises-before {x} {y} r =
    same_or x.object y.object
    (λ o. same_or x.number y.number
    (λ n. Before.by_field o n (r.field o n))
    (λ n. Before.by_number o (omega (arith, r.number o))))
    (λ o. Before.by-object (omega (arith, r.object)))

module _ (a b : Kept) (ha : Held a) (hb : Held b) (ra : Ranged a) (rb : Ranged b) where
  abbrev list : List Change
  list = changed a b fields

  -- which fields are listed, and with which old number
  field-differs : (k : ℕ) → k < fields → differs (reading_of a) (reading_of b) k ≡ true
      → Differs a.tables a.clock b.tables b.clock (named k).object (named k).number (named k).field (change_at (reading_of a) (reading_of b) k).old
  field-differs k h e =
      let second = counts-is b rb k h (differs-counts (reading_of a) (reading_of b) k e) in
      split (counts_of a k)
      (λ c.
      let other : value_of a k ≢ value_of b k = λ s. contrary e (rw (differs-counts (reading_of a) (reading_of b) k e, c, eq-eqb (value_of a k) (value_of b k) s)) in
      rw (c, field_is a ha k h)
      (Differs.changed (counts-is a ra k h c) second (λ s. other (field_is a ha k h ∙ s ∙ sym (field_is b hb k h)))))
      (λ c.
      rw c
      (Differs.only-second
      (λ x.
      let f = counts-found a ra x in
      contrary f.counts (rw (same_name f.inside h f.name) c))
      second))

  -- and each that the paper lists
  differs-listed : {o n f v : ℕ} → Differs a.tables a.clock b.tables b.clock o n f v → (k : ℕ) → k < fields → named k ≡ called o n f
      → counts_of b k ≡ true → differs (reading_of a) (reading_of b) k ≡ true
  differs-listed {o} {n} {f} (Differs.changed x y d) k h e c =
      let fa = counts-found a ra x in
      let ca : counts_of a k ≡ true = rw (same_name h fa.inside (e ∙ sym fa.name)) fa.counts in
      let va : value_of a k ≡ holds a.tables a.clock o n f = field_is a ha k h ∙ ap (λ (x : Name). holds a.tables a.clock x.object x.number x.field) e in
      let vb : value_of b k ≡ holds b.tables b.clock o n f = field_is b hb k h ∙ ap (λ (x : Name). holds b.tables b.clock x.object x.number x.field) e in
      rw (c, ca, ne_eqb (value_of a k) (value_of b k) (λ s. d (sym va ∙ s ∙ vb)))
  differs-listed {o} {n} {f} (Differs.only-second x y) k h e c =
      split (counts_of a k)
      (λ ca. absurd (x (subst (λ (z : Name). Counts a.tables z.object z.number z.field) e (counts-is a ra k h ca))))
      (λ ca. rw (c, ca))

  second-counts : {o n f v : ℕ} → Differs a.tables a.clock b.tables b.clock o n f v → Counts b.tables o n f
  second-counts (Differs.changed x y d) = y
  second-counts (Differs.only-second x y) = y

  module _ (rest : List ℕ) where
    abbrev room : List ℕ
    room = numbers list ++ rest

    entry-told : (i : ℕ) → i < length list → entry_at room i ≡ told (get_or list i no_change)
    entry-told i h =
        let first : i * 5 ≡ i * 5 + 0 = omega arith in
        same-entry (ap (λ (p : ℕ). get_or room p 0) first ∙ entry_read list rest i 0 no_change h (omega arith))
        (entry_read list rest i 1 no_change h (omega arith))
        (entry_read list rest i 2 no_change h (omega arith))
        (entry_read list rest i 3 no_change h (omega arith))
        (entry_read list rest i 4 no_change h (omega arith))

    of : (i : ℕ) → i < length list → Of (reading_of a) (reading_of b) fields (get_or list i no_change)
    unfolding changed
    of i h = changes-are (reading_of a) (reading_of b) fields i no_change h

    pub list-is : ListOf a.tables a.clock b.tables b.clock (length list) (entry_at room)
    list-is =
        record {
          old = λ i h.
              let e = get_or list i no_change in
              subst⁻¹ (λ (x : Entry). Differs a.tables a.clock b.tables b.clock x.object x.number x.field x.old) (entry-told i h)
              (subst⁻¹ (λ (x : Change). Differs a.tables a.clock b.tables b.clock (named e.at).object (named e.at).number (named e.at).field x.old) (of i h).is
              (field-differs e.at (of i h).inside (of i h).other));
          new = λ i h.
              let e = get_or list i no_change in
              subst⁻¹ (λ (x : Entry). x.new ≡ holds b.tables b.clock x.object x.number x.field) (entry-told i h)
              (ap (λ (x : Change). x.new) (of i h).is ∙ field_is b hb e.at (of i h).inside);
          rising = λ i j l h.
              let g : i < length list = omega arith in
              rw (entry-told i g, entry-told j h)
              (rises-before (names-rise (get_or list i no_change).at (get_or list j no_change).at ((in_order a b fields).rising i j l h no_change) (of j h).inside));
          complete = λ o n f v x.
              let k = counts-found b rb (second-counts x) in
              let s = stands k.at k.inside (differs-listed x k.at k.inside k.name k.counts) in
              let e : entry_at room s.at ≡ told (change_at (reading_of a) (reading_of b) k.at) = entry-told s.at s.inside ∙ ap told s.is in
              record {
                at = s.at;
                inside = s.inside;
                object = ap (λ (y : Entry). y.object) e ∙ ap (λ (y : Name). y.object) k.name;
                number = ap (λ (y : Entry). y.number) e ∙ ap (λ (y : Name). y.number) k.name;
                field = ap (λ (y : Entry). y.field) e ∙ ap (λ (y : Name). y.field) k.name;
              };
        }
      where
        stands : (k : ℕ) → k < fields → differs (reading_of a) (reading_of b) k ≡ true → Stands list no_change (change_at (reading_of a) (reading_of b) k)
        stands k h d = unfold changed in changes-all (reading_of a) (reading_of b) fields k no_change h d

-- ---- the refusals

whole-if : (t : Tables) (c : Clock) → hangs_together (opened t) c ≡ true → Whole t c
whole-if t c e = rules-together t c (test-hangs (opened t) c e)

-- tables of a host that hang together pass the test
whole-test : (a : Kept) → Held a → Whole a.tables a.clock → hangs_together (opened a.tables) a.clock ≡ true
whole-test a held h = hangs-test (opened a.tables) a.clock (together-rules a.tables a.clock held.threads h)

pub whole-ranged : (a : Kept) → Whole a.tables a.clock → Ranged a
whole-ranged a h =
    let z = h.sizes in
    record {
      threads = z.threads.1;
      semaphores = z.semaphores;
      queues = z.queues;
      references = z.references;
      mailboxes = z.mailboxes;
      pools = z.pools;
      slots = λ m u. (z.slots m u).1;
      read = λ m u. (h.mailboxes m u).read;
      count = λ m u. (h.mailboxes m u).count;
      lengths = λ q u. (h.pools q u).length;
    }

module _ (y z : Sizes) (few : z.mailboxes ≤ 4) where
  -- number f of the sizes, where the test was passed
  size-told : sizes_same y z ≡ true → (f : ℕ) → f < 10 → unused_slot z f ≡ false → size_cell y f ≡ size_cell z f
  unfolding sizes_same
  size-told e f h u = eqb-true (size_cell y f) (size_cell z f) (rw u at (all-at (size_same y z) 10 f e h))

  slot-told : (m : ℕ) → m < z.mailboxes → unused_slot z (6 + m) ≡ false
  slot-told m h =
      let on : 6 + m - 6 ≡ m = omega arith in
      rw (le-ltb (6 + m) 6 (omega arith), on, lt-leb z.mailboxes m h)

  pub sizes-told : sizes_same y z ≡ true → SameSizes y z
  unfolding size_cell
  sizes-told e =
      record {
        threads = size-told e 0 (omega arith) refl;
        semaphores = size-told e 1 (omega arith) refl;
        queues = size-told e 2 (omega arith) refl;
        references = size-told e 3 (omega arith) refl;
        mailboxes = size-told e 4 (omega arith) refl;
        pools = size-told e 5 (omega arith) refl;
        slots = λ m h.
            let on : 6 + m - 6 ≡ m = omega arith in
            rw (le-ltb (6 + m) 6 (omega arith), on) at (size-told e (6 + m) (omega arith) (slot-told m h));
      }

  heads-same : SameSizes y z → sizes_head y ≡ sizes_head z
  heads-same s =
      ap (λ (n : ℕ). n ∷ y.semaphores ∷ y.queues ∷ y.references ∷ y.mailboxes ∷ y.pools ∷ []) s.threads
      ∙ ap (λ (n : ℕ). z.threads ∷ n ∷ y.queues ∷ y.references ∷ y.mailboxes ∷ y.pools ∷ []) s.semaphores
      ∙ ap (λ (n : ℕ). z.threads ∷ z.semaphores ∷ n ∷ y.references ∷ y.mailboxes ∷ y.pools ∷ []) s.queues
      ∙ ap (λ (n : ℕ). z.threads ∷ z.semaphores ∷ z.queues ∷ n ∷ y.mailboxes ∷ y.pools ∷ []) s.references
      ∙ ap (λ (n : ℕ). z.threads ∷ z.semaphores ∷ z.queues ∷ z.references ∷ n ∷ y.pools ∷ []) s.mailboxes
      ∙ ap (λ (n : ℕ). z.threads ∷ z.semaphores ∷ z.queues ∷ z.references ∷ z.mailboxes ∷ n ∷ []) s.pools

  pub told-sizes : SameSizes y z → sizes_same y z ≡ true
  unfolding sizes_same size_cell
  told-sizes s =
      all_of (size_same y z) 10
      (λ f h. in-or-out f 6
      (λ l. rw (lt-ltb f 6 l) (eq-eqb (get_or (sizes_head y) f 0) (get_or (sizes_head z) f 0) (ap (λ (v : List ℕ). get_or v f 0) (heads-same s))))
      (λ l. in-or-out (f - 6) z.mailboxes
      (λ g. rw (le-ltb f 6 l, lt-leb z.mailboxes (f - 6) g) (eq-eqb (get_or y.slots (f - 6) 0) (get_or z.slots (f - 6) 0) (s.slots (f - 6) g)))
      (λ g. rw (le-ltb f 6 l, le-leb z.mailboxes (f - 6) g))))

-- ---- the comparison

module _ (a b : Kept) (ha : Held a) (hb : Held b) (l : List ℕ) where
  abbrev t : Tables
  t = a.tables

  abbrev u : Tables
  u = b.tables

  abbrev Is : Compared → List ℕ → Type 0
  Is x r = CompareOf t a.clock u b.clock l x.code x.entries r

  -- as many entries as fields that differ
  count_long : length (changed a b fields) ≡ change_count a b fields
  count_long = omega (arith, numbers-length a b fields, numbers-long (changed a b fields))

  module _ (wa : Whole t a.clock) (wb : Whole u b.clock) (s : SameSizes t.sizes u.sizes) where
    is : (rest : List ℕ) → ListOf t a.clock u b.clock (change_count a b fields) (entry_at (numbers (changed a b fields) ++ rest))
    is rest =
        rw count_long at (list-is a b ha hb (whole-ranged a wa) (whole-ranged b wb) rest)

    listed-is : Is (listing a b fields (length l)) (listed a b fields l)
    unfolding listing listed
    listed-is =
        in-or-out (length l) (change_count a b fields * 5)
        (λ h. rw (lt-leb (change_count a b fields * 5) (length l) h)
        (CompareOf.no_room wa wb s (change_count a b fields) (entry_at (numbers (changed a b fields) ++ [])) (is []) h))
        (λ h. rw (le-leb (change_count a b fields * 5) (length l) h)
        (CompareOf.listed wa wb s (change_count a b fields) (written (numbers (changed a b fields)) l) (is (drop (length (numbers (changed a b fields))) l)) h
        (written-length (numbers (changed a b fields)) l (omega (arith, numbers-length a b fields))) behind))
      where
        behind : (j : ℕ) → change_count a b fields * 5 ≤ j → get_or (written (numbers (changed a b fields)) l) j 0 ≡ get_or l j 0
        behind j h =
            let n = length (numbers (changed a b fields)) in
            let on : n + (j - n) ≡ j = omega (arith, numbers-length a b fields) in
            ap (λ (i : ℕ). get_or (written (numbers (changed a b fields)) l) i 0) (sym on)
            ∙ get_or-append-add (numbers (changed a b fields)) (drop n l) (j - n) 0
            ∙ get_or-drop n l (j - n) 0
            ∙ ap (λ (i : ℕ). get_or l i 0) on

  pub compare-is : Is (compared a b (length l)) (compared_list a b l)
  unfolding compared compared_list refused
  compare-is =
      split (hangs_together (opened t) a.clock)
      (λ ea.
      let wa = whole-if t a.clock ea in
      split (hangs_together (opened u) b.clock)
      (λ eb.
      let wb = whole-if u b.clock eb in
      let few = wb.sizes.mailboxes in
      split (sizes_same t.sizes u.sizes)
      (λ es. rw (ea, eb, es) (listed-is wa wb (sizes-told t.sizes u.sizes few es)))
      (λ es. rw (ea, eb, es) (CompareOf.sizes wa wb (λ s. contrary (told-sizes t.sizes u.sizes few s) es))))
      (λ eb. rw (ea, eb) (CompareOf.second wa (λ h. contrary (whole-test b hb h) eb))))
      (λ ea. rw ea (CompareOf.first (λ h. contrary (whole-test a ha h) ea)))
