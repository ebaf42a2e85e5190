-- The words are told apart: of all words of a kind exactly one stands where it is printed. This is computed for each pair of them, whatever
-- stands behind the word.
use Prim.Native.Nat.{ℕ, zero, suc, ◌+◌, ◌≤◌, ◌<◌}
use native.Mathlib.Omega.{arith}
use mathlib.Core.Path.{◌≡◌, refl, sym, ap, ◌∙◌}
use mathlib.Core.Logic.{◌≢◌}
use mathlib.Core.Bool.{Bool, true, false, cond, not}
use mathlib.Core.List.{List, ◌++◌}
use lib.Dec.{eqb, ltb, leb}
use lib.ListN.{length, get_or, drop, length-append}
use borrow.Author.Tests.{le-leb, lt-ltb, le-ltb, eq-eqb, ne_eqb}
use Rattle.kernel.specs.Walk.{all_from}
use Rattle.kernel.proofs.Cases.{split, same_or, in-or-out, second-fails}
use Rattle.kernel.proofs.WalkLaws.{all-at}
use Rattle.buffers.specs.Decimal.{digits_n, decimal}
use Rattle.lists.specs.declared.reading.Part.{Part}
use Rattle.lists.specs.Words.{object_word, thread_word, box_word, pool_word, field_word, fields_of}
use Rattle.lists.specs.Reading.{part, no_part, begins, word_part, tried_word, last_of, object_read, field_read}

-- the letters of a word stand in front of a text
unfoldable letters : List ℕ → List ℕ → Bool
letters l w = all_from (λ i. eqb (get_or l i 0) (get_or w i 0)) 0 (length w)

abbrev same : Bool → Bool → Bool
same a b = cond a b (not b)

same-means : (a b : Bool) → same a b ≡ true → a ≡ b
same-means true b e = sym e
same-means false true e = e
same-means false false e = refl

-- of n words k is the one whose letters stand in front of a text that it begins, and each is short
abbrev only_word : (ℕ → List ℕ) → ℕ → List ℕ → ℕ → Bool
only_word word n rest k = all_from (λ o. same (letters (word k ++ rest) (word o)) (eqb o k)) 0 n

objects-apart : (rest : List ℕ) → all_from (only_word object_word 8 rest) 0 8 ≡ true
unfolding all_from letters object_word
objects-apart rest = refl

objects-short : all_from (λ o. ltb (length (object_word o)) 32) 0 8 ≡ true
unfolding all_from object_word
objects-short = refl

fields-apart : (rest : List ℕ) → all_from (λ o. all_from (only_word (field_word o) (fields_of o) rest) 0 (fields_of o)) 0 8 ≡ true
unfolding all_from letters field_word fields_of thread_word box_word pool_word decimal digits_n
fields-apart rest = refl

fields-short : all_from (λ o. all_from (λ f. ltb (length (field_word o f)) 32) 0 (fields_of o)) 0 8 ≡ true
unfolding all_from field_word fields_of thread_word box_word pool_word decimal digits_n
fields-short = refl

-- ---- the word that stands there is found

-- one index more than k or another
ltb_next : (k m : ℕ) → m ≢ k → ltb k m ≡ ltb k (suc m)
ltb_next k m d =
    in-or-out k m (λ h. rw (lt-ltb k m h, lt-ltb k (suc m) (omega arith))) (λ h. rw (le-ltb k m h, le-ltb k (suc m) (omega arith)))

module _ (word : ℕ → List ℕ) (n k at : ℕ) (rest : List ℕ) (h : k < n) where
  abbrev tries : ℕ → Part
  tries o = tried_word (word k ++ rest) at o (word o)

  abbrev there : Part
  there = part true k (at + length (word k))

  tried_same : ltb (length (word k)) 32 ≡ true → letters (word k ++ rest) (word k) ≡ true → tries k ≡ there
  unfolding tried_word word_part begins letters
  tried_same short same =
      let long : length (word k) ≤ length (word k ++ rest) = rw (length-append (word k) rest) (omega arith) in
      rw (short, le-leb (length (word k)) (length (word k ++ rest)) long, same)

  tried_other : (o : ℕ) → letters (word k ++ rest) (word o) ≡ false → (tries o).fine ≡ false
  unfolding tried_word word_part begins letters
  tried_other o f =
      let none = second-fails (leb (length (word o)) (length (word k ++ rest))) f in
      split (ltb (length (word o)) 32) (λ t. rw (t, none)) (λ t. rw t)

  -- up to k nothing is found, and from then on k
  last_found : (m : ℕ) → ltb (length (word k)) 32 ≡ true → only_word word n rest k ≡ true → m ≤ n
      → last_of tries at m ≡ cond (ltb k m) there (no_part at)
  unfolding last_of
  last_found zero short only low = rw (le-ltb k 0 (omega arith))
  last_found (suc m) short only low =
      let before = last_found m short only (omega arith) in
      let told : letters (word k ++ rest) (word m) ≡ eqb m k =
      same-means (letters (word k ++ rest) (word m)) (eqb m k) (all-at (λ o. same (letters (word k ++ rest) (word o)) (eqb o k)) n m only (omega arith)) in
      same_or m k
      (λ q.
      let stands : letters (word k ++ rest) (word k) ≡ true = rw q at (told ∙ eq-eqb m k q) in
      let yes : tries m ≡ there = rw q (tried_same short stands) in
      rw (yes, lt-ltb k (suc m) (omega arith)))
      (λ d.
      let no : (tries m).fine ≡ false = tried_other m (told ∙ ne_eqb m k d) in
      rw no (before ∙ ap (λ (b : Bool). cond b there (no_part at)) (ltb_next k m d)))

  word-found : ltb (length (word k)) 32 ≡ true → only_word word n rest k ≡ true → last_of tries at n ≡ there
  word-found short only = rw (last_found n short only (omega arith), lt-ltb k n h)

pub object-back : (s rest : List ℕ) (at o : ℕ) → o < 8 → drop at s ≡ object_word o ++ rest → object_read s at ≡ part true o (at + length (object_word o))
unfolding object_read
object-back s rest at o h e =
    rw e
    (word-found object_word 8 o at rest h (all-at (λ k. ltb (length (object_word k)) 32) 8 o objects-short h)
    (all-at (only_word object_word 8 rest) 8 o (objects-apart rest) h))

pub field_back : (s rest : List ℕ) (at o f : ℕ) → o < 8 → f < fields_of o → drop at s ≡ field_word o f ++ rest
    → field_read s at o ≡ part true f (at + length (field_word o f))
unfolding field_read
field_back s rest at o f h l e =
    let short = all-at (λ k. all_from (λ g. ltb (length (field_word k g)) 32) 0 (fields_of k)) 8 o fields-short h in
    let apart = all-at (λ k. all_from (only_word (field_word k) (fields_of k) rest) 0 (fields_of k)) 8 o (fields-apart rest) h in
    rw e
    (word-found (field_word o) (fields_of o) f at rest l (all-at (λ g. ltb (length (field_word o g)) 32) (fields_of o) f short l)
    (all-at (only_word (field_word o) (fields_of o) rest) (fields_of o) f apart l))
