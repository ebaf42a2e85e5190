-- Parts of a line, in the form in which the code meets them.
use Prim.Native.Nat.{ℕ, zero, suc, ◌+◌, ◌-◌, ◌≤◌, ◌<◌}
use native.Mathlib.Omega.{arith}
use native.Mathlib.Numerals.{add-one}
use mathlib.Core.Path.{◌≡◌, refl, sym, ap, ◌∙◌}
use Rattle.std.proofs.Common.{◌≢◌, eqb-true}
use mathlib.Core.Bool.{Bool, true, false, ◌&&◌}
use mathlib.Core.List.{List, [], ◌∷◌}
use lib.Dec.{eqb}
use lib.ListN.{length, get_or, take, drop, length-drop}
use lib.Seq.{drop-cons, get_or-drop}
use borrow.Author.Tests.{lt-ltb, le-ltb, le-leb, lt-leb, leb-true}
use Rattle.kernel.specs.Walk.{all_from}
use Rattle.kernel.proofs.Cases.{split, in-or-out, contrary, both-means}
use Rattle.kernel.proofs.WalkLaws.{all-at, all_more}
use Rattle.buffers.specs.Put.{Put}
use Rattle.buffers.proofs.PutLaws.{whole-text, long-text, too_long}
use Rattle.lists.specs.declared.reading.Part.{Part}
use Rattle.lists.specs.Reading.{no_part, begins, word_part, tried_word, later, last_of, is_digit, grown, digits_from}

-- ---- bytes

-- within a list no other is read
pub inside : (l : List ℕ) (i d e : ℕ) → i < length l → get_or l i d ≡ get_or l i e
inside [] i d e h = absurd (omega arith)
inside (x ∷ l) zero d e h = refl
inside (x ∷ l) (suc i) d e h = inside l i d e (omega arith)

pub at-end : (l : List ℕ) (i d : ℕ) → length l ≤ i → d ≡ get_or l i d
at-end [] i d h = refl
at-end (x ∷ l) zero d h = absurd (omega arith)
at-end (x ∷ l) (suc i) d h = at-end l i d (omega arith)

-- ---- digits

-- a digit stands within the text
pub digit-inside : (s : List ℕ) (i : ℕ) → is_digit (get_or s i 10) ≡ true → i < length s
digit-inside s i t = in-or-out i (length s) (λ h. h) (λ h. contrary t (ap is_digit (sym (at-end s i 10 h))))

pub digits_more : (s : List ℕ) (v i b : ℕ) → b ≡ get_or s i 10 → is_digit b ≡ true → digits_from (grown v b) (i + 1) (drop (i + 1) s) ≡ digits_from v i (drop i s)
unfolding digits_from
digits_more s v i b e t =
    let h : i < length s = digit-inside s i (rw e at t) in
    let cut : drop i s ≡ b ∷ drop (i + 1) s = rw (add-one i, e) (drop-cons s i 10 h) in
    rw (cut, t)

pub digits-end : (s : List ℕ) (v i b : ℕ) → b ≡ get_or s i 10 → is_digit b ≡ false → record { value = v; at = i } ≡ digits_from v i (drop i s)
unfolding digits_from
digits-end s v i b e t =
    in-or-out i (length s)
    (λ h.
    let cut : drop i s ≡ b ∷ drop (i + 1) s = rw (add-one i, e) (drop-cons s i 10 h) in
    rw (cut, t))
    (λ h. rw (past_end s i h))
  where
    past_end : (l : List ℕ) (j : ℕ) → length l ≤ j → drop j l ≡ []
    past_end [] zero h = refl
    past_end [] (suc j) h = refl
    past_end (x ∷ l) zero h = absurd (omega arith)
    past_end (x ∷ l) (suc j) h = past_end l j (omega arith)

-- ---- words

-- the letters of a word, one more
pub letters-more : (s w : List ℕ) (at i : ℕ) (same : Bool) → same ≡ all_from (λ j. eqb (get_or (drop at s) j 0) (get_or w j 0)) 0 i
    → (same && eqb (get_or s (at + i) 0) (get_or w i 0)) ≡ all_from (λ j. eqb (get_or (drop at s) j 0) (get_or w j 0)) 0 (i + 1)
letters-more s w at i same e =
    rw (e, ← get_or-drop at s i 0) (sym (all_more (λ j. eqb (get_or (drop at s) j 0) (get_or w j 0)) i))

-- a letter that differs
pub letter-differs : (s w : List ℕ) (at i : ℕ) → i < length w → get_or s (at + i) 0 ≢ get_or w i 0 → false ≡ begins (drop at s) w
unfolding begins
letter-differs s w at i h d =
    split (begins (drop at s) w)
    (λ t.
    let all = (both-means _ _ t).1 in
    let here = all-at (λ j. eqb (get_or (drop at s) j 0) (get_or w j 0)) (length w) i all h in
    absurd (d (sym (get_or-drop at s i 0) ∙ eqb-true _ _ here)))
    (λ f. sym f)

pub letters-all : (s w : List ℕ) (at i : ℕ) (same : Bool) → length w ≤ length s - at → i ≤ length w → length w ≤ i
    → same ≡ all_from (λ j. eqb (get_or (drop at s) j 0) (get_or w j 0)) 0 i → same ≡ begins (drop at s) w
unfolding begins
letters-all s w at i same room low high e =
    let all : i ≡ length w = omega arith in
    rw (length-drop at s, le-leb _ _ room) (e ∙ ap (all_from (λ j. eqb (get_or (drop at s) j 0) (get_or w j 0)) 0) all)

pub no_room : (s w : List ℕ) (at : ℕ) → length s - at < length w → false ≡ begins (drop at s) w
unfolding begins
no_room s w at h = rw (length-drop at s, lt-leb _ _ h)

-- a word that stands at a place ends within the text
pub begins-room : (s w : List ℕ) (at : ℕ) → begins (drop at s) w ≡ true → length w ≤ length s - at
unfolding begins
begins-room s w at t =
    let some : length w ≤ length (drop at s) = leb-true (length w) (length (drop at s)) (both-means _ _ t).0 in
    rw (length-drop at s) at some

-- a word that was put into a buffer of 32 is tried
pub tried : (l m w : List ℕ) (n : ℕ) (s : List ℕ) (at k : ℕ) (p : Part) → length l ≡ 32 → Put l m 0 n w → n < 32
    → p ≡ word_part (drop at s) at k (take n m) → p ≡ tried_word (drop at s) at k w
unfolding tried_word
tried l m w n s at k p size put h e =
    let fits : n < length l = rw size h in
    let whole : take n m ≡ w = whole-text put fits in
    let short : length w < 32 = rw size at (long-text put fits) in
    rw (lt-ltb _ _ short) (e ∙ ap (word_part (drop at s) at k) whole)

pub not-tried : (l m w : List ℕ) (n : ℕ) (s : List ℕ) (at k : ℕ) (p : Part) → length l ≡ 32 → Put l m 0 n w → 32 ≤ n → p ≡ no_part at
    → p ≡ tried_word (drop at s) at k w
unfolding tried_word
not-tried l m w n s at k p size put h e =
    let long : 32 ≤ length w = rw size at (too_long put (rw size h)) in
    rw (le-ltb (length w) 32 long) e

-- ---- the last that is there

module _ (f : ℕ → Part) (at : ℕ) where
  pub last_none : (p : Part) → p ≡ no_part at → p ≡ last_of f at 0
  unfolding last_of
  last_none p e = e

  pub last_more : (i : ℕ) (p q r : Part) → p ≡ last_of f at i → q ≡ f i → r ≡ later p q → r ≡ last_of f at (i + 1)
  unfolding last_of
  last_more i p q r e g h = rw (add-one i, ← e, ← g) h
