-- A printed entry is read back: its parts stand one behind the other, and each is read back from where it stands.
use Prim.Native.Nat.{ℕ, suc, ◌+◌, ◌<◌}
use native.Mathlib.Omega.{arith}
use mathlib.Core.Path.{◌≡◌, refl, sym, ap, ◌∙◌}
use mathlib.Core.Bool.{Bool, true, false, not, ◌&&◌}
use mathlib.Core.List.{List, [], ◌∷◌, ◌++◌, append_assoc}
use lib.Dec.{eqb, ltb}
use lib.ListN.{length, get_or, drop, length-append}
use borrow.Author.Tests.{ltb-true}
use Rattle.kernel.specs.Walk.{all_from}
use Rattle.kernel.proofs.Cases.{both-means}
use Rattle.kernel.proofs.WalkLaws.{all-at}
use Rattle.buffers.specs.Decimal.{decimal}
use Rattle.compare.specs.Order.{fields, named}
use Rattle.lists.specs.declared.printing.Entry.{Entry}
use Rattle.lists.specs.Words.{object_word, field_word, fields_of, is_signed}
use Rattle.lists.specs.Printing.{value_text, entry_text, entry_of}
use Rattle.lists.specs.Reading.{entry_read}
use Rattle.lists.proofs.NumberLaws.{behind, number-back, value-back}
use Rattle.lists.proofs.WordLaws.{object-back, field_back}

-- an entry of some field, whose numbers have 32 bits
pub record Fitting (x : Entry) : Type 0 where
  pub object : x.object < 8
  pub number : x.number < 4294967296
  pub field : x.field < fields_of x.object
  pub old : x.old < 4294967296
  pub new : x.new < 4294967296

abbrev signed : Entry → Bool
signed x = is_signed x.object x.field

abbrev old : Entry → List ℕ
old x = value_text (signed x) x.old

abbrev new : Entry → List ℕ
new x = value_text (signed x) x.new

-- the text from each part on, with what stands behind it
module _ (x : Entry) (r : List ℕ) where
  abbrev from_new : List ℕ
  from_new = new x ++ 10 ∷ r

  abbrev from_old : List ℕ
  from_old = old x ++ 32 ∷ from_new

  abbrev from_field : List ℕ
  from_field = field_word x.object x.field ++ from_old

  abbrev from_number : List ℕ
  from_number = decimal x.number ++ 32 ∷ from_field

flat : (x : Entry) (r : List ℕ) → entry_text x ++ r ≡ object_word x.object ++ from_number x r
unfolding entry_text
flat x r =
    append_assoc (object_word x.object) (from_number x []) r
    ∙ ap (λ (l : List ℕ). object_word x.object ++ l)
    (append_assoc (decimal x.number) (32 ∷ from_field x []) r
    ∙ ap (λ (l : List ℕ). decimal x.number ++ 32 ∷ l)
    (append_assoc (field_word x.object x.field) (from_old x []) r
    ∙ ap (λ (l : List ℕ). field_word x.object x.field ++ l)
    (append_assoc (old x) (32 ∷ from_new x []) r ∙ ap (λ (l : List ℕ). old x ++ 32 ∷ l) (append_assoc (new x) (10 ∷ []) r))))

-- the length of a line
pub entry-long : (x : Entry)
    → length (entry_text x)
    ≡ length (object_word x.object) + (length (decimal x.number) + suc (length (field_word x.object x.field) + (length (old x) + suc (length (new x) + 1))))
unfolding entry_text
entry-long x =
    rw (
      length-append (object_word x.object) (from_number x []),
      length-append (decimal x.number) (32 ∷ from_field x []),
      length-append (field_word x.object x.field) (from_old x []),
      length-append (old x) (32 ∷ from_new x []),
      length-append (new x) (10 ∷ []),
    )

pub entry-back : (s r : List ℕ) (at : ℕ) (x : Entry) → Fitting x → drop at s ≡ entry_text x ++ r
    → entry_read s at ≡ record { fine = true; entry = x; at = at + length (entry_text x) }
unfolding entry_read
entry-back s r at x fits e =
    let o = object_word x.object in
    let n = decimal x.number in
    let f = field_word x.object x.field in
    let a = at + length o in
    let b = a + length n + 1 in
    let c = b + length f in
    let d = c + length (old x) + 1 in
    let at-o : drop at s ≡ o ++ from_number x r = e ∙ flat x r in
    let at_n : drop a s ≡ n ++ 32 ∷ from_field x r = behind s o (from_number x r) at at-o in
    let at_f : drop b s ≡ f ++ from_old x r = behind s (32 ∷ []) (from_field x r) (a + length n) (behind s n (32 ∷ from_field x r) a at_n) in
    let at_old : drop c s ≡ old x ++ 32 ∷ from_new x r = behind s f (from_old x r) b at_f in
    let at_new : drop d s ≡ new x ++ 10 ∷ r =
    behind s (32 ∷ []) (from_new x r) (c + length (old x)) (behind s (old x) (32 ∷ from_new x r) c at_old) in
    let far : d + length (new x) + 1 ≡ at + length (entry_text x) = omega (arith, entry-long x) in
    rw (
      object-back s (from_number x r) at x.object fits.object at-o,
      number-back s (from_field x r) a 4294967295 32 x.number fits.number (omega (arith, fits.number)) refl at_n,
      field_back s (from_old x r) b x.object x.field fits.object fits.field at_f,
      value-back s (from_new x r) c 32 x.old fits.old refl (signed x) at_old,
      value-back s r d 10 x.new fits.new refl (signed x) at_new,
      far,
    )

-- no line of an entry is empty
words-begin : (rest : List ℕ) → all_from (λ o. not (eqb (get_or (object_word o ++ rest) 0 10) 10)) 0 8 ≡ true
unfolding all_from object_word
words-begin rest = refl

not-true : (b : Bool) → not b ≡ true → b ≡ false
not-true true e = sym e
not-true false e = refl

pub entry-begins : (x : Entry) (r : List ℕ) → x.object < 8 → eqb (get_or (entry_text x ++ r) 0 10) 10 ≡ false
entry-begins x r h =
    rw (flat x r)
    (not-true _ (all-at (λ o. not (eqb (get_or (object_word o ++ from_number x r) 0 10) 10)) 8 x.object (words-begin (from_number x r)) h))

-- ---- the entries of all fields

names-fit : all_from (λ k. ltb (named k).object 8 && (ltb (named k).number 16 && ltb (named k).field (fields_of (named k).object))) 0 fields ≡ true
unfolding all_from named fields_of
names-fit = refl

-- whatever 32 bits are its old and new
pub field_fits : (k old new : ℕ) → k < fields → old < 4294967296 → new < 4294967296
    → Fitting (entry_of (named k).object (named k).number (named k).field old new)
field_fits k old new h a b =
    let x = named k in
    let all = all-at (λ k. ltb (named k).object 8 && (ltb (named k).number 16 && ltb (named k).field (fields_of (named k).object))) fields k names-fit h in
    let o = both-means (ltb x.object 8) (ltb x.number 16 && ltb x.field (fields_of x.object)) all in
    let n = both-means (ltb x.number 16) (ltb x.field (fields_of x.object)) o.1 in
    record {
      object = ltb-true x.object 8 o.0;
      number = omega (arith, ltb-true x.number 16 n.0);
      field = ltb-true x.field (fields_of x.object) n.1;
      old = a;
      new = b;
    }
