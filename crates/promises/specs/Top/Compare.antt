-- COMPARING TABLES, OF DOCUMENT 02: the list is what `Paper.Compare` tells and no other is; applied to the first it gives the second; it is
-- empty exactly for equal tables; and any list can be applied to any tables. A host lends tables and clocks as the bytes in which they lie.
use Rattle.std.specs.Prelude.{ℕ, ◌*◌, ◌/◌, ◌≡◌, refl, ◌↔◌, List, [], ◌∷◌, length, take, drop}
use Rattle.std.proofs.Common.{arith, sym, ap, ◌∙◌, subst, eq-eqb, ne_eqb}
use Rattle.std.proofs.Math.Path.{subst⁻¹}
use Rattle.std.proofs.Math.Seq.{take-append_seam}
use Rattle.kernel.proofs.Cases.{same_or, in-or-out}
use Rattle.library.specs.declared.tables.Tables.{Tables}
use Rattle.kernel.specs.declared.clock.Clock.{Clock}
use Rattle.compare.specs.declared.cells.Kept.{Kept}
use Rattle.compare.specs.Told.{Compared}
use Rattle.compare.specs.Laid.{kept_of, tables_put, clock_put}
use Rattle.compare.specs.Order.{fields}
use Rattle.compare.specs.Compared.{changed, numbers, compared}
use Rattle.compare.specs.Held.{Held, AllWithin}
use Rattle.compare.specs.Changes.{Change, applied}
use Rattle.compare.specs.Cells.{clock_at}
use Rattle.compare.specs.Applied.{applied_to, applied_numbers, applied_list}
use Rattle.compare.proofs.KeptLaws.{kept-held, kept-within, put-read, put-bytes, clock-put-long}
use Rattle.compare.proofs.LaidLaws.{length-places}
use Rattle.compare.proofs.ListLaws.{numbers-length, compare-accepted}
use Rattle.compare.proofs.ReadBackLaws.{numbers-long}
use Rattle.host.specs.Comparing.{entries_kept}
use Rattle.promises.specs.Paper.Compare.{SameSizes, Equal, entry_at, ListOf, CompareOf, Whole}
use Rattle.promises.specs.Paper.Saved.{Lies}
use Rattle.promises.specs.Paper.Comparing.{Lent, EntriesAt, CompareCall, ApplyCall, Gives, EqualBytes}
use Rattle.promises.specs.Code.Compare.{compared_lent, list_lent, entries_lent, applied_lent}
use Rattle.promises.specs.Meant.Lies.{lies-is, lies-one}
use Rattle.promises.specs.Meant.Compare.{compare-is}
use Rattle.promises.specs.Meant.Applying.{apply-is, after-held, after-within, renewed-held, renewed-within}
use Rattle.promises.specs.Meant.Rejoined.{rows-equal, rejoined, same-words, equal-none}
use Rattle.promises.specs.Meant.OneList.{compare-one}

-- ---- ONE COMPARISON

-- the number that a host asked for
entries_at : (x : Compared) (before : ℕ) → EntriesAt x.code x.entries before (entries_kept x before)
entries_at x before =
    same_or x.code 0
    (λ e. rw (eq-eqb x.code 0 e) (EntriesAt.told e))
    (λ d. rw (ne_eqb x.code 0 d) (EntriesAt.kept d))

-- a comparison that was not refused: both hang together, and the list is told
record Accepted (t : Tables) (c : Clock) (u : Tables) (d : Clock) (k : ℕ) (r : List ℕ) : Type 0 where
  first : Whole t c
  second : Whole u d
  sizes : SameSizes t.sizes u.sizes
  list : ListOf t c u d k (entry_at r)

accepted-is : {t : Tables} {c : Clock} {u : Tables} {d : Clock} {l r : List ℕ} {n k : ℕ} → CompareOf t c u d l n k r → n ≡ 0 → Accepted t c u d k r
accepted-is (CompareOf.first x) e = absurd (omega arith)
accepted-is (CompareOf.second x y) e = absurd (omega arith)
accepted-is (CompareOf.sizes x y z) e = absurd (omega arith)
accepted-is (CompareOf.no_room x y z k g a h) e = absurd (omega arith)
accepted-is (CompareOf.listed x y z k r a h p q) e = record { first = x; second = y; sizes = z; list = a }

applied-none : (a : Kept) (m : List Change) → length m ≡ 0 → applied_to a m ≡ a
unfolding applied_to applied
applied-none a [] e = refl
applied-none a (x ∷ m) e = absurd (omega arith)

-- what a list leaves of lent bytes
module _ (t c : List ℕ) (lent : Lent t c) (l : List ℕ) where
  abbrev y : Kept
  y = (applied_lent t c l).kept

  old-held : Held (kept_of t c)
  old-held = kept-held t c lent.tables.bytes lent.clock.bytes

  old-within : AllWithin (kept_of t c)
  old-within = kept-within t c lent.tables.bytes lent.clock.bytes

  y-held : Held y
  unfolding applied_list
  y-held = renewed-held (applied_numbers (kept_of t c) l (length l / 5)) (after-held (kept_of t c) old-held l (length l / 5)) (after-within (kept_of t c) old-held old-within l (length l / 5))

  y-within : AllWithin y
  unfolding applied_list
  y-within = renewed-within (applied_numbers (kept_of t c) l (length l / 5)) (after-held (kept_of t c) old-held l (length l / 5)) (after-within (kept_of t c) old-held old-within l (length l / 5))

  put-lent : Lent (tables_put y t) (clock_put y c)
  put-lent =
      let bytes = put-bytes y y-held y-within t c lent.tables.size lent.clock.size in
      record {
        tables = record { size = length-places y clock_at t 0 ∙ lent.tables.size; bytes = bytes.0 };
        clock = record { size = clock-put-long y y-held y-within t c lent.tables.size lent.clock.size; bytes = bytes.1 };
      }

  put-lies : Lies (tables_put y t) (clock_put y c) y.tables y.clock
  put-lies =
      subst (λ (v : Kept). Lies (tables_put y t) (clock_put y c) v.tables v.clock)
      (put-read y y-held y-within t c lent.tables.size lent.clock.size)
      (lies-is (tables_put y t) (clock_put y c) put-lent.tables.bytes put-lent.clock.bytes)

module _ (t c u d : List ℕ) (first : Lent t c) (second : Lent u d) where
  abbrev a : Kept
  a = kept_of t c

  abbrev b : Kept
  b = kept_of u d

  ha : Held a
  ha = kept-held t c first.tables.bytes first.clock.bytes

  hb : Held b
  hb = kept-held u d second.tables.bytes second.clock.bytes

  a-lies : Lies t c a.tables a.clock
  a-lies = lies-is t c first.tables.bytes first.clock.bytes

  b-lies : Lies u d b.tables b.clock
  b-lies = lies-is u d second.tables.bytes second.clock.bytes

  is_call : (l : List ℕ) (before : ℕ)
      → CompareCall t c u d l before (compared_lent t c u d l).code (entries_kept (compared_lent t c u d l) before) (list_lent t c u d l)
  is_call l before =
      record {
        first = a.tables;
        first-clock = a.clock;
        first-lies = a-lies;
        second = b.tables;
        second-clock = b.clock;
        second-lies = b-lies;
        entries = (compared a b (length l)).entries;
        is-comparison = compare-is a b ha hb l;
        number = entries_at (compared a b (length l)) before;
      }

  number-one : {m j k i p q before : ℕ} → EntriesAt m k before p → EntriesAt j i before q → m ≡ j → k ≡ i → p ≡ q
  number-one (EntriesAt.told e) (EntriesAt.told f) g h = h
  number-one (EntriesAt.told e) (EntriesAt.kept f) g h = absurd (f (sym g ∙ e))
  number-one (EntriesAt.kept e) (EntriesAt.told f) g h = absurd (e (g ∙ f))
  number-one (EntriesAt.kept e) (EntriesAt.kept f) g h = refl

  only-call : (l : List ℕ) (before code n : ℕ) (r : List ℕ) → CompareCall t c u d l before code n r
      → (code ≡ (compared_lent t c u d l).code) × (n ≡ entries_kept (compared_lent t c u d l) before) × (r ≡ list_lent t c u d l)
  only-call l before code n r x =
      let first-is = lies-one x.first-lies a-lies in
      let second_is = lies-one x.second-lies b-lies in
      let there : CompareOf a.tables a.clock b.tables b.clock l code x.entries r
      = subst (λ (v : Clock). CompareOf a.tables a.clock b.tables v l code x.entries r) second_is.1
      (subst (λ (v : Tables). CompareOf a.tables a.clock v x.second-clock l code x.entries r) second_is.0
      (subst (λ (v : Clock). CompareOf a.tables v x.second x.second-clock l code x.entries r) first-is.1
      (subst (λ (v : Tables). CompareOf v x.first-clock x.second x.second-clock l code x.entries r) first-is.0 x.is-comparison))) in
      let same = compare-one there (compare-is a b ha hb l) in
      (same.code, number-one x.number (entries_at (compared a b (length l)) before) same.code same.entries, same.room)

  -- nil_compare is the paper's comparison of the tables that lie there, and nothing else is
  pub compare-told : (l : List ℕ) (before : ℕ)
      → CompareCall t c u d l before (compared_lent t c u d l).code (entries_kept (compared_lent t c u d l) before) (list_lent t c u d l)
      × ((code n : ℕ) (r : List ℕ) → CompareCall t c u d l before code n r
      → (code ≡ (compared_lent t c u d l).code) × (n ≡ entries_kept (compared_lent t c u d l) before) × (r ≡ list_lent t c u d l))
  compare-told l before = (is_call l before, only-call l before)

  -- ---- ITS LIST

  module _ (l : List ℕ) (accepted : (compared_lent t c u d l).code ≡ 0) where
    both-whole : Accepted a.tables a.clock b.tables b.clock (compared_lent t c u d l).entries (list_lent t c u d l)
    both-whole = accepted-is (compare-is a b ha hb l) accepted

    list-is : entries_lent t c u d l ≡ numbers (changed a b fields)
    list-is =
        let x = compare-accepted a b l accepted in
        let long : (compared_lent t c u d l).entries * 5 ≡ length (numbers (changed a b fields)) = ap (λ (n : ℕ). n * 5) x.0 ∙ sym (numbers-length a b fields) in
        ap (λ (n : ℕ). take n (list_lent t c u d l)) long
        ∙ ap (take (length (numbers (changed a b fields)))) x.1
        ∙ take-append_seam (numbers (changed a b fields)) (drop (length (numbers (changed a b fields))) l)

    abbrev made : Kept
    made = (applied_lent t c (entries_lent t c u d l)).kept

    made-equal : Equal made.tables made.clock b.tables b.clock
    made-equal =
        subst⁻¹ (λ (m : List ℕ). Equal (applied_list a m).kept.tables (applied_list a m).kept.clock b.tables b.clock) list-is
        (rejoined a b ha hb (kept-within u d second.tables.bytes second.clock.bytes) both-whole.second both-whole.sizes)

    -- "Applying the list to the first and making the words of 1/13 anew must give the second": by nil_apply, over the first's bytes
    pub compare-gives : Gives (tables_put (applied_lent t c (entries_lent t c u d l)).kept t) (clock_put (applied_lent t c (entries_lent t c u d l)).kept c) u d
    compare-gives =
        let words = (apply-is a (entries_lent t c u d l) ha).words both-whole.first.sizes in
        record {
          made = made.tables;
          made-clock = made.clock;
          made-lies = put-lies t c first (entries_lent t c u d l);
          second = b.tables;
          second-clock = b.clock;
          second-lies = b-lies;
          equal = made-equal;
          words = same-words made.tables made.clock b.tables b.clock made-equal (record { ready = words.ready; waiting = words.waiting }) both-whole.second.words;
        }

    -- "Equal tables give an empty list, and only they do"
    pub compare-empty : ((compared_lent t c u d l).entries ≡ 0) ↔ EqualBytes t c u d
    compare-empty = (there, back)
      where
        there : (compared_lent t c u d l).entries ≡ 0 → EqualBytes t c u d
        there none =
            record {
              first = a.tables;
              first-clock = a.clock;
              first-lies = a-lies;
              second = b.tables;
              second-clock = b.clock;
              second-lies = b-lies;
              equal =
                  subst (λ (x : Kept). Equal x.tables x.clock b.tables b.clock)
                  (applied-none a (changed a b fields) (omega (arith, none, (compare-accepted a b l accepted).0, numbers-length a b fields, numbers-long (changed a b fields))))
                  (rows-equal a b ha hb (kept-within u d second.tables.bytes second.clock.bytes) both-whole.second both-whole.sizes);
            }

        same : EqualBytes t c u d → Equal a.tables a.clock b.tables b.clock
        same x =
            let first-is = lies-one x.first-lies a-lies in
            let second_is = lies-one x.second-lies b-lies in
            subst (λ (v : Clock). Equal a.tables a.clock b.tables v) second_is.1
            (subst (λ (v : Tables). Equal a.tables a.clock v x.second-clock) second_is.0
            (subst (λ (v : Clock). Equal a.tables v x.second x.second-clock) first-is.1
            (subst (λ (v : Tables). Equal v x.first-clock x.second x.second-clock) first-is.0 x.equal)))

        back : EqualBytes t c u d → (compared_lent t c u d l).entries ≡ 0
        back x =
            in-or-out 0 (compared_lent t c u d l).entries
            (λ h.
            let ranged = both-whole.second in
            absurd
            (equal-none a.tables a.clock b.tables b.clock (same x)
            (λ q g. ((ha.pool-rows q (omega (arith, ranged.sizes.pools))).list, (hb.pool-rows q (omega (arith, ranged.sizes.pools))).list))
            (λ q g. (ranged.pools q g).length) (both-whole.list.old 0 h)))
            (λ h. omega arith)

-- ---- ANY LIST, ANY TABLES

module _ (t c : List ℕ) (lent : Lent t c) (l : List ℕ) where
  -- nil_apply does what the paper says of applying, to the tables that lie there, and leaves bytes
  pub apply-told : ApplyCall t c l (tables_put (applied_lent t c l).kept t) (clock_put (applied_lent t c l).kept c) (applied_lent t c l).passed
  apply-told =
      let a = kept_of t c in
      record {
        lent = put-lent t c lent l;
        old = a.tables;
        old-clock = a.clock;
        old-lies = lies-is t c lent.tables.bytes lent.clock.bytes;
        new = (applied_list a l).kept.tables;
        new-clock = (applied_list a l).kept.clock;
        new-lies = put-lies t c lent l;
        is-applied = apply-is a l (kept-held t c lent.tables.bytes lent.clock.bytes);
      }
