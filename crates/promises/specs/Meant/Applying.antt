-- What a list makes of tables is what the paper says, whatever tables and list they are.
use Prim.Native.Nat.{ℕ, zero, suc, ◌+◌, ◌-◌, ◌*◌, ◌/◌, ◌%◌, ◌≤◌, ◌<◌}
use Rattle.std.proofs.Common.{mod-lt, lt_of_lt_of_le, arith, ◌∙◌, length-set, get_or-set_same, get_or-set_other}
use Rattle.std.proofs.Math.Nat.{pow-le-pow_right}
use Rattle.std.specs.Prelude.{◌≡◌, ◌≢◌, Bool, true, false, ◌&&◌, ◌||◌, eqb, ltb}
use Rattle.std.proofs.Math.Path.{refl, sym, ap, subst, subst⁻¹}
use Rattle.std.proofs.Math.Bool.{not}
use mathlib.Core.List.{List}
use Rattle.std.proofs.Math.ListN.{length, get_or}
use borrow.Author.Tests.{lt-ltb, le-ltb, ltb-true, eqb-true, eq-eqb, ne_eqb}
use Rattle.kernel.specs.declared.records.Words.{Words}
use Rattle.kernel.specs.Waiters.{is_ready, queued_at}
use Rattle.kernel.specs.Tables.{used_rows, row_in}
use Rattle.kernel.specs.Words.{word_of, waiting_at}
use Rattle.kernel.specs.Walk.{each, all_from}
use Rattle.kernel.proofs.Cases.{split, same_or, in-or-out, contrary, both-means, both_true}
use Rattle.kernel.proofs.Loops.{used_le}
use Rattle.kernel.proofs.WalkLaws.{all-at, count-agree}
use Rattle.kernel.proofs.WordsLaws.{word_lt}
use Rattle.library.specs.declared.sizes.Sizes.{Sizes}
use Rattle.library.specs.declared.tables.Tables.{Tables}
use Rattle.library.specs.Tables.{opened}
use Rattle.rules.specs.PlaceRules.{in_use}
use Rattle.rules.specs.Walking.{walked}
use Rattle.rules.proofs.WalkingLaws.{tabled-at}
use Rattle.compare.specs.declared.cells.Kept.{Kept}
use Rattle.compare.specs.declared.order.Name.{Name}
use Rattle.compare.specs.Cells.{words_at, steps_at, word_cell, with_words, cell_at}
use Rattle.compare.specs.Held.{limit_of, Held, AllWithin}
use Rattle.compare.specs.Order.{fields, called, named, row_at, place_named, cell_of, value_of}
use Rattle.compare.specs.Renewed.{word_anew, waiting_anew, words_anew, renewed}
use Rattle.compare.specs.Applied.{stored_in, place_at, stored_named, applied_numbers, applied_list}
use Rattle.compare.proofs.CellsLaws.{store-sizes-kept, store-words-kept, read-words, wide-words, before-words, after-words}
use Rattle.compare.proofs.OrderLaws.{place-back, cell-inside, cell-no-size, cell-no-word}
use Rattle.compare.proofs.ComparedLaws.{limit-some, field-held, field-own, field-other, field-elsewhere}
use Rattle.promises.specs.Kept.WordRule.{Said, walk-tells}
use Rattle.promises.specs.Paper.World.{World, found}
use Rattle.promises.specs.Paper.Together.{SizesFit, WordsAgree, InUse}
use Rattle.promises.specs.Paper.Compare.{holds, is_field, room_of, entry_at, is_entry, held_after, WordsAnew, ApplyOf}
use Rattle.promises.specs.Meant.Together.{sizes-good, number-count}
use Rattle.promises.specs.Meant.Moves.{found-is}
use Rattle.promises.specs.Meant.Words.{test-used, said-agree}
use Rattle.promises.specs.Meant.Fields.{field_is}

-- ---- names

-- what a row's place says of its number and field
row-test : (first rows width n f : ℕ) → (n < rows → f < width → first + n * width + f < fields)
    → ltb (row_at first rows width n f) fields ≡ ltb n rows && ltb f width
row-test first rows width n f inside =
    in-or-out n rows
    (λ h. in-or-out f width
    (λ l. rw (lt-ltb n rows h, lt-ltb f width l) (lt-ltb (first + n * width + f) fields (inside h l)))
    (λ l. rw (lt-ltb n rows h, le-ltb f width l)))
    (λ h. rw (le-ltb n rows h))

-- a name has a place exactly if the docs list it
pub field-test : (o n f : ℕ) → ltb (place_named (called o n f)) fields ≡ is_field o n f
unfolding place_named
field-test o n f =
    same_or o 0 (λ e. rw e (row-test 0 16 14 n f (λ h l. omega arith) ∙ or-false (ltb n 16 && ltb f 14)))
    (λ d0. same_or o 1 (λ e. rw e (row-test 224 8 1 n f (λ h l. omega arith) ∙ or-false (ltb n 8 && ltb f 1)))
    (λ d1. same_or o 2 (λ e. rw e (row-test 232 8 1 n f (λ h l. omega arith) ∙ or-false (ltb n 8 && ltb f 1)))
    (λ d2. same_or o 3 (λ e. rw e (row-test 240 16 1 n f (λ h l. omega arith) ∙ or-false (ltb n 16 && ltb f 1)))
    (λ d3. same_or o 4 (λ e. rw e (row-test 256 4 22 n f (λ h l. omega arith) ∙ or-false (ltb n 4 && ltb f 22)))
    (λ d4. same_or o 5 (λ e. rw e (row-test 344 4 66 n f (λ h l. omega arith) ∙ or-false (ltb n 4 && ltb f 66)))
    (λ d5. same_or o 6 (λ e. rw e (row-test 608 1 2 n f (λ h l. omega arith) ∙ or-false (ltb n 1 && ltb f 2)))
    (λ d6. same_or o 7 (λ e. rw e (row-test 610 1 1 n f (λ h l. omega arith)))
    (λ d7. rw (ne_eqb o 0 d0, ne_eqb o 1 d1, ne_eqb o 2 d2, ne_eqb o 3 d3, ne_eqb o 4 d4, ne_eqb o 5 d5, ne_eqb o 6 d6, ne_eqb o 7 d7)))))))))
  where
    or-false : (b : Bool) → b ≡ b || false
    or-false true = refl
    or-false false = refl

rooms : all_from (λ k. eqb (limit_of (cell_of k)) (room_of (named k).object (named k).field)) 0 fields ≡ true
unfolding limit_of cell_of named all_from
rooms = refl

room-is : (k : ℕ) → k < fields → limit_of (cell_of k) ≡ room_of (named k).object (named k).field
room-is k h = eqb-true (limit_of (cell_of k)) _ (all-at (λ k. eqb (limit_of (cell_of k)) (room_of (named k).object (named k).field)) fields k rooms h)

-- ---- one entry after the other

module _ (a : Kept) (held : Held a) (l : List ℕ) where
  abbrev after : ℕ → Kept
  after i = applied_numbers a l i

  next : (i : ℕ) → after (suc i) ≡ stored_named (after i) (place_at l i) (get_or l (i * 5 + 4) 0)
  unfolding applied_numbers
  next i = refl

  -- an entry that names a field is stored there; else nothing changes
  stored_there : (x : Kept) (k v : ℕ) → k < fields → stored_named x k v ≡ stored_in x k v
  unfolding stored_named
  stored_there x k v h = rw (lt-ltb k fields h)

  passed-by : (x : Kept) (k v : ℕ) → fields ≤ k → stored_named x k v ≡ x
  unfolding stored_named
  passed-by x k v h = rw (le-ltb k fields h)

  pub after-held : (i : ℕ) → Held (after i)
  unfolding applied_numbers
  after-held zero = held
  after-held (suc i) =
      let x = after i in
      let k = place_at l i in
      let v = get_or l (i * 5 + 4) 0 in
      in-or-out k fields
      (λ h. subst⁻¹ Held (stored_there x k v h) (field-held x k v (after-held i) h))
      (λ h. subst⁻¹ Held (passed-by x k v h) (after-held i))

  pub after-sizes : (i : ℕ) → (after i).tables.sizes ≡ a.tables.sizes
  unfolding applied_numbers
  after-sizes zero = refl
  after-sizes (suc i) =
      let x = after i in
      let k = place_at l i in
      let v = get_or l (i * 5 + 4) 0 in
      in-or-out k fields
      (λ h. ap (λ (y : Kept). y.tables.sizes) (stored_there x k v h) ∙ store-sizes-kept x (cell_of k) (v % limit_of (cell_of k)) (cell-no-size k h) ∙ after-sizes i)
      (λ h. ap (λ (y : Kept). y.tables.sizes) (passed-by x k v h) ∙ after-sizes i)

  -- no entry touches the words
  pub entries-words : (i : ℕ) → (after i).tables.kernel.words ≡ a.tables.kernel.words
  unfolding applied_numbers
  entries-words zero = refl
  entries-words (suc i) =
      let x = after i in
      let k = place_at l i in
      let v = get_or l (i * 5 + 4) 0 in
      in-or-out k fields
      (λ h. ap (λ (y : Kept). y.tables.kernel.words) (stored_there x k v h) ∙ store-words-kept x (cell_of k) (v % limit_of (cell_of k)) (cell-no-word k h) ∙ entries-words i)
      (λ h. ap (λ (y : Kept). y.tables.kernel.words) (passed-by x k v h) ∙ entries-words i)

  module _ (o n f : ℕ) (is : is_field o n f ≡ true) where
    abbrev k : ℕ
    k = place_named (called o n f)

    k-inside : k < fields
    k-inside = ltb-true k fields (field-test o n f ∙ is)

    k-name : named k ≡ called o n f
    k-name = place-back (called o n f) k-inside

    value-is : (x : Kept) → Held x → value_of x k ≡ holds x.tables x.clock o n f
    value-is x h = field_is x h k k-inside ∙ ap (λ (y : Name). holds x.tables x.clock y.object y.number y.field) k-name

    k-room : limit_of (cell_of k) ≡ room_of o f
    k-room = room-is k k-inside ∙ ap (λ (y : Name). room_of y.object y.field) k-name

    -- an entry that names the field, and one that does not
    entry-same : (i : ℕ) → is_entry l i o n f ≡ true → place_at l i ≡ k
    entry-same i e =
        let x = both-means (eqb (entry_at l i).object o) _ e in
        let y = both-means (eqb (entry_at l i).number n) _ x.1 in
        let eo = eqb-true (entry_at l i).object o x.0 in
        let en = eqb-true (entry_at l i).number n y.0 in
        let ef = eqb-true (entry_at l i).field f y.1 in
        ap (λ (z : ℕ). place_named (called z (entry_at l i).number (entry_at l i).field)) eo
        ∙ ap (λ (z : ℕ). place_named (called o z (entry_at l i).field)) en
        ∙ ap (λ (z : ℕ). place_named (called o n z)) ef

    entry_other : (i : ℕ) → is_entry l i o n f ≡ false → place_at l i ≢ k
    entry_other i e s =
        let inside : place_at l i < fields = rw s k-inside in
        let name : called (entry_at l i).object (entry_at l i).number (entry_at l i).field ≡ called o n f
        = sym (place-back (called (entry_at l i).object (entry_at l i).number (entry_at l i).field) inside) ∙ ap named s ∙ k-name in
        contrary (both_true (eq-eqb (entry_at l i).object o (ap (λ (y : Name). y.object) name))
        (both_true (eq-eqb (entry_at l i).number n (ap (λ (y : Name). y.number) name)) (eq-eqb (entry_at l i).field f (ap (λ (y : Name). y.field) name)))) e

    value_after : (i : ℕ) → value_of (after i) k ≡ held_after l i o n f (value_of a k)
    unfolding applied_numbers
    value_after zero = refl
    value_after (suc i) =
        let x = after i in
        let p = place_at l i in
        let v = get_or l (i * 5 + 4) 0 in
        split (is_entry l i o n f)
        (λ e.
        let s = entry-same i e in
        rw e
        (ap (λ (y : Kept). value_of y k) (stored_there x p v (rw s k-inside))
        ∙ ap (λ (q : ℕ). cell_at (stored_in x q v) (cell_of k)) s
        ∙ field-own x k v (after-held i) k-inside
        ∙ ap (λ (w : ℕ). v % w) k-room))
        (λ e.
        rw e
        (in-or-out p fields
        (λ h.
        ap (λ (y : Kept). value_of y k) (stored_there x p v h)
        ∙ field-other x p v (after-held i) h k k-inside (λ s. entry_other i e (sym s))
        ∙ value_after i)
        (λ h. ap (λ (y : Kept). value_of y k) (passed-by x p v h) ∙ value_after i)))

    pub holds_after : (i : ℕ) → holds (after i).tables (after i).clock o n f ≡ held_after l i o n f (holds a.tables a.clock o n f)
    holds_after i =
        sym (value-is (after i) (after-held i)) ∙ value_after i ∙ ap (held_after l i o n f) (value-is a held)

-- ---- the words made anew

module _ (z : Sizes) (right : List ℕ) (w : Words) where
  abbrev anew : ℕ → Words
  anew n = each n (word_anew z right) w

  anew-long : (n : ℕ) → length (anew n).waiting ≡ length w.waiting
  unfolding word_anew
  anew-long zero = refl
  anew-long (suc n) =
      split (in_use z n)
      (λ u. rw u (length-set (anew n).waiting n (get_or right n 0) ∙ anew-long n))
      (λ u. rw u (anew-long n))

  anew-ready : (n : ℕ) → ((anew n).ready ≡ w.ready) × ((anew n).unused ≡ w.unused)
  unfolding word_anew
  anew-ready zero = (refl, refl)
  anew-ready (suc n) = split (in_use z n) (λ u. rw u (anew-ready n)) (λ u. rw u (anew-ready n))

  -- the word of a place in use is the walk's
  anew-used : (n p : ℕ) → p < n → n ≤ 36 → length w.waiting ≡ 36 → in_use z p ≡ true → get_or (anew n).waiting p 0 ≡ get_or right p 0
  unfolding word_anew
  anew-used zero p h few long u = absurd (omega arith)
  anew-used (suc n) p h few long u =
      same_or p n
      (λ e. rw (e, rw e at u) (get_or-set_same (anew n).waiting n (get_or right n 0) 0 (omega (arith, anew-long n, long))))
      (λ d. split (in_use z n)
      (λ v. rw v (get_or-set_other (anew n).waiting n p (get_or right n 0) 0 d ∙ anew-used n p (omega arith) (omega arith) long u))
      (λ v. rw v (anew-used n p (omega arith) (omega arith) long u)))

  -- and that of another stays
  anew-other : (n p : ℕ) → in_use z p ≡ false → get_or (anew n).waiting p 0 ≡ get_or w.waiting p 0
  unfolding word_anew
  anew-other zero p u = refl
  anew-other (suc n) p u =
      same_or p n
      (λ e. rw (rw e at u) (anew-other n p u))
      (λ d. split (in_use z n)
      (λ v. rw v (get_or-set_other (anew n).waiting n p (get_or right n 0) 0 d ∙ anew-other n p u))
      (λ v. rw v (anew-other n p u)))

module _ (x : Kept) (held : Held x) (fit : SizesFit x.tables.sizes) where
  abbrev z : Sizes
  z = x.tables.sizes

  abbrev u : Tables
  u = (renewed x).tables

  words-said : Said z (opened u).kernel
  unfolding renewed waiting_anew
  words-said =
      record {
        ready = walk-tells (opened u).kernel z (sizes-good fit) is_ready u.kernel.words.ready (anew-ready z right start 36).0;
        waiting = λ p h used.
            walk-tells (opened u).kernel z (sizes-good fit) (queued_at p) (waiting_at u.kernel.words p)
            (anew-used z right start 36 p h (omega arith) held.waiting used ∙ tabled-at _ 36 p h);
      }
    where
      right : List ℕ
      right = (walked x.tables.kernel.threads z).waiting

      start : Words
      start =
          record {
            ready = (walked x.tables.kernel.threads z).ready;
            waiting = x.tables.kernel.words.waiting;
            unused = x.tables.kernel.words.unused;
          }

  words-agree : WordsAgree (found u) u.kernel.words
  unfolding renewed
  words-agree =
      subst (λ (y : World). WordsAgree y u.kernel.words) (found-is u) (said-agree (opened u) (sizes-good fit) words-said)

  -- a place that the paper says is not in use
  not-used : (p : ℕ) → (InUse z p → ⊥) → in_use z p ≡ false
  not-used p n =
      split (in_use z p) (λ e. absurd (n (test-used (opened u).kernel z (sizes-good fit) p e))) (λ e. e)

  pub renewed-words : WordsAnew x.tables u
  unfolding renewed waiting_anew
  renewed-words =
      record {
        ready = words-agree.ready;
        waiting = words-agree.waiting;
        unused = λ p n. anew-other z _ _ 36 p (not-used p n);
      }

-- ---- the whole of it

pub apply-is : (a : Kept) (l : List ℕ) → Held a
    → ApplyOf a.tables a.clock l (applied_list a l).kept.tables (applied_list a l).kept.clock (applied_list a l).passed
unfolding applied_list
apply-is a l held =
    record {
      fields = λ o n f is. unfold renewed in holds_after a held l o n f is k;
      sizes = unfold renewed in after-sizes a held l k;
      words = λ fit.
          let w = renewed-words x (after-held a held l k) (subst⁻¹ SizesFit (after-sizes a held l k) fit) in
          record {
            ready = w.ready;
            waiting = w.waiting;
            unused = λ p n. w.unused p n ∙ ap (λ (v : Words). get_or v.waiting p 0) (entries-words a held l k);
          };
      filling = filled;
      passed_over = count-agree _ _ k (λ i h. ap not (field-test (entry_at l i).object (entry_at l i).number (entry_at l i).field)) ∙ sym (number-count _ k);
    }
  where
    k : ℕ
    k = length l / 5

    x : Kept
    x = applied_numbers a l k

    filled : (renewed x).tables.kernel.words.unused ≡ a.tables.kernel.words.unused
    filled = unfold renewed waiting_anew in (anew-ready x.tables.sizes _ _ 36).1 ∙ ap (λ (v : Words). v.unused) (entries-words a held l k)

-- ---- what is applied is a host's still

within-stored : (x : Kept) (k v : ℕ) → Held x → AllWithin x → k < fields → AllWithin (stored_in x k v)
within-stored x k v held small l i h =
    same_or i (cell_of k)
    (λ e. rw (e, field-own x k v held l) (mod-lt v (limit-some (cell_of k) (cell-inside k l))))
    (λ d. rw (field-elsewhere x k v held l i h d) (small i h))

pub after-within : (a : Kept) → Held a → AllWithin a → (l : List ℕ) (i : ℕ) → AllWithin (applied_numbers a l i)
unfolding applied_numbers
after-within a held small l zero = small
after-within a held small l (suc i) =
    let x = applied_numbers a l i in
    let k = place_at l i in
    let v = get_or l (i * 5 + 4) 0 in
    in-or-out k fields
    (λ h. subst⁻¹ AllWithin (stored_there a held l x k v h) (within-stored x k v (after-held a held l i) (after-within a held small l i) h))
    (λ h. subst⁻¹ AllWithin (passed-by a held l x k v h) (after-within a held small l i))

-- a word of the walk has 16 bits
word_small : (f : ℕ → Bool) (n : ℕ) → word_of f (used_rows n) < 65536
word_small f n = lt_of_lt_of_le (word_lt f (used_rows n)) (pow-le-pow_right {n = 2} (omega arith) (used_le (used_rows n) n refl))

module _ (x : Kept) (held : Held x) (small : AllWithin x) where
  abbrev r : Kept
  r = renewed x

  abbrev walk : List ℕ
  walk = (walked x.tables.kernel.threads x.tables.sizes).waiting

  abbrev begun : Words
  begun =
      record {
        ready = (walked x.tables.kernel.threads x.tables.sizes).ready;
        waiting = x.tables.kernel.words.waiting;
        unused = x.tables.kernel.words.unused;
      }

  old-word : (f : ℕ) → f < 38 → word_cell x.tables.kernel.words f < 65536
  old-word f h =
      let i = words_at + f in
      let on : i - words_at ≡ f = omega arith in
      let small-there : cell_at x i < limit_of i = small i (omega arith) in
      let wide = wide-words i (omega arith) (omega arith) in
      let there = rw on at (read-words i x (omega arith) (omega arith)) in
      rw (there, wide) at small-there

  new_word : (f : ℕ) → f < 38 → word_cell r.tables.kernel.words f < 65536
  unfolding renewed waiting_anew word_cell
  new_word f h =
      same_or f 0
      (λ e. rw (eq-eqb f 0 e, (anew-ready x.tables.sizes walk begun 36).0) (word_small _ x.tables.sizes.threads))
      (λ d. in-or-out f 37
      (λ l. split (in_use x.tables.sizes (f - 1))
      (λ u. rw (ne_eqb f 0 d, lt-ltb f 37 l, anew-used x.tables.sizes walk begun 36 (f - 1) (omega arith) (omega arith) held.waiting u, tabled-at (λ p. word_of (λ i. queued_at p (row_in x.tables.kernel.threads i)) (used_rows x.tables.sizes.threads)) 36 (f - 1) (omega arith))
      (word_small _ x.tables.sizes.threads))
      (λ u. rw (ne_eqb f 0 d, lt-ltb f 37 l, anew-other x.tables.sizes walk begun 36 (f - 1) u) (rw (ne_eqb f 0 d, lt-ltb f 37 l) at (old-word f h))))
      (λ l. rw (ne_eqb f 0 d, le-ltb f 37 l, (anew-ready x.tables.sizes walk begun 36).1) (rw (ne_eqb f 0 d, le-ltb f 37 l) at (old-word f h))))

  pub renewed-within : AllWithin r
  unfolding renewed
  renewed-within i h =
      in-or-out i words_at
      (λ l. rw (before-words x i (words_anew x.tables.kernel.threads x.tables.sizes x.tables.kernel.words) l) (small i h))
      (λ g. in-or-out i steps_at
      (λ l.
      let there = read-words i (with_words x (words_anew x.tables.kernel.threads x.tables.sizes x.tables.kernel.words)) g l in
      rw (there, wide-words i g l) (new_word (i - words_at) (omega arith)))
      (λ g2. rw (after-words x i (words_anew x.tables.kernel.threads x.tables.sizes x.tables.kernel.words) g2) (small i h)))

  pub renewed-held : Held r
  unfolding renewed waiting_anew
  renewed-held =
      record {
        threads = held.threads;
        thread-rows = held.thread-rows;
        counters = held.counters;
        counter-rows = held.counter-rows;
        references = held.references;
        waiting = anew-long x.tables.sizes walk begun 36 ∙ held.waiting;
        mailboxes = held.mailboxes;
        box-rows = held.box-rows;
        pools = held.pools;
        pool-rows = held.pool-rows;
        sizes = held.sizes;
      }
