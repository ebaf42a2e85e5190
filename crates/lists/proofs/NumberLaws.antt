-- What is printed of a number or a value is read back from where it stands, whatever stands behind it.
use Prim.Native.Nat.{ℕ, zero, suc, ◌+◌, ◌-◌, ◌*◌, ◌/◌, ◌%◌, ◌≤◌, ◌<◌}
use native.Mathlib.Omega.{arith}
use mathlib.Core.Path.{◌≡◌, refl, sym, ap, ◌∙◌}
use mathlib.Core.Bool.{Bool, true, false, ◌&&◌}
use mathlib.Core.List.{List, [], ◌∷◌, ◌++◌}
use lib.Dec.{eqb, ltb, leb}
use lib.ListN.{length, get_or, drop, length-append, length-drop}
use lib.Seq.{drop-drop, drop-append_seam, get_or-drop}
use borrow.Author.Tests.{lt-ltb, le-leb, eq-eqb, ne_eqb, ltb-true, ltb-false, leb-true, leb-false}
use Rattle.kernel.proofs.Cases.{split, contrary, both-means, both_true}
use Rattle.buffers.specs.Decimal.{digits_n, decimal}
use Rattle.lists.specs.Printing.{value_text}
use Rattle.lists.specs.Reading.{part, is_digit, grown, digits_from, number_read, value_read}

-- ---- a text at a place, and what stands behind it

-- behind a text stands the rest
pub behind : (s w r : List ℕ) (at : ℕ) → drop at s ≡ w ++ r → drop (at + length w) s ≡ r
behind s w r at e = sym (drop-drop (length w) at s) ∙ ap (drop (length w)) e ∙ drop-append_seam w r

-- a text that has a byte stands within
pub within : (s r : List ℕ) (b at : ℕ) → drop at s ≡ b ∷ r → at < length s
within s r b at e =
    let long : length s - at ≡ suc (length r) = sym (length-drop at s) ∙ ap length e in
    omega arith

-- the byte at a place
pub first : (s r : List ℕ) (b at d : ℕ) → drop at s ≡ b ∷ r → get_or s at d ≡ b
first s r b at d e =
    let here : at + 0 ≡ at = omega arith in
    ap (λ (k : ℕ). get_or s k d) (sym here) ∙ sym (get_or-drop at s 0 d) ∙ ap (λ (l : List ℕ). get_or l 0 d) e

-- ---- digits

-- all bytes of a text are digits
unfoldable pub all_digits : List ℕ → Bool
all_digits [] = true
all_digits (b ∷ l) = is_digit b && all_digits l

-- the number of some digits, behind those of v
unfoldable pub value_of : ℕ → List ℕ → ℕ
value_of v [] = v
value_of v (b ∷ l) = value_of (grown v b) l

digits_append : (a b : List ℕ) → all_digits a ≡ true → all_digits b ≡ true → all_digits (a ++ b) ≡ true
unfolding all_digits
digits_append [] b p q = q
digits_append (x ∷ a) b p q =
    let both = both-means (is_digit x) (all_digits a) p in
    both_true both.0 (digits_append a b both.1 q)

value-append : (a b : List ℕ) (v : ℕ) → value_of v (a ++ b) ≡ value_of (value_of v a) b
unfolding value_of
value-append [] b v = refl
value-append (x ∷ a) b v = value-append a b (grown v x)

-- a digit, by its number
digit-is : (d : ℕ) → d < 10 → is_digit (48 + d) ≡ true
digit-is d h = rw (le-leb 48 (48 + d) (omega arith), le-leb (48 + d) 57 (omega arith))

digit-grows : (v d : ℕ) → v < 4294967296 → grown v (48 + d) ≡ v * 10 + d
digit-grows v d h = let e : 48 + d - 48 ≡ d = omega arith in rw (lt-ltb v 4294967296 h, e)

module _ where
  printed-digits : (f n : ℕ) → all_digits (digits_n f n) ≡ true
  unfolding digits_n all_digits
  printed-digits zero n = refl
  printed-digits (suc f) n =
      split (ltb n 10)
      (λ t. rw (t, digit-is n (ltb-true n 10 t)))
      (λ t. rw t (digits_append (digits_n f (n / 10)) ((48 + n % 10) ∷ []) (printed-digits f (n / 10)) (rw (digit-is (n % 10) (omega arith)))))

  printed-value : (f n : ℕ) → n < f → n < 4294967296 → value_of 0 (digits_n f n) ≡ n
  unfolding digits_n value_of
  printed-value zero n h small = absurd (omega arith)
  printed-value (suc f) n h small =
      split (ltb n 10)
      (λ t. rw t (digit-grows 0 n (omega arith) ∙ omega arith))
      (λ t.
      let ten : 10 ≤ n = ltb-false n 10 t in
      let before : value_of 0 (digits_n f (n / 10)) ≡ n / 10 = printed-value f (n / 10) (omega arith) (omega arith) in
      let last : n / 10 * 10 + n % 10 ≡ n = omega arith in
      rw t (value-append (digits_n f (n / 10)) ((48 + n % 10) ∷ []) 0 ∙ ap (λ (v : ℕ). grown v (48 + n % 10)) before ∙ digit-grows (n / 10) (n % 10) (omega arith) ∙ last))

-- the digits of a text are read, up to a byte that is none
digits-read : (w r : List ℕ) (v i b : ℕ) → all_digits w ≡ true → is_digit b ≡ false → digits_from v i (w ++ b ∷ r) ≡ record { value = value_of v w; at = i + length w }
unfolding digits_from all_digits value_of
digits-read [] r v i b p q = let e : i + 0 ≡ i = omega arith in rw (q, e)
digits-read (x ∷ w) r v i b p q =
    let both = both-means (is_digit x) (all_digits w) p in
    let e : i + 1 + length w ≡ i + suc (length w) = omega arith in
    rw both.0 (digits-read w r (grown v x) (i + 1) b both.1 q ∙ ap (λ (k : ℕ). record { value = value_of (grown v x) w; at = k }) e)

-- ---- a number

some-digit : (n : ℕ) → 1 ≤ length (decimal n)
unfolding decimal digits_n
some-digit n =
    split (ltb n 10)
    (λ t. rw t (omega arith))
    (λ t. rw (t, length-append (digits_n n (n / 10)) ((48 + n % 10) ∷ [])) (omega arith))

decimal-digits : (n : ℕ) → all_digits (decimal n) ≡ true
unfolding decimal
decimal-digits n = printed-digits (suc n) n

decimal-value : (n : ℕ) → n < 4294967296 → value_of 0 (decimal n) ≡ n
unfolding decimal
decimal-value n h = printed-value (suc n) n (omega arith) h

module _ (s r : List ℕ) (at most end n : ℕ) (small : n < 4294967296) (low : n ≤ most) (no : is_digit end ≡ false) (e : drop at s ≡ decimal n ++ end ∷ r) where
  -- the place behind its digits
  abbrev edge : ℕ
  edge = at + length (decimal n)

  number_digits : digits_from 0 at (drop at s) ≡ record { value = n; at = edge }
  number_digits =
      ap (digits_from 0 at) e ∙ digits-read (decimal n) r 0 at end (decimal-digits n) no ∙ ap (λ (v : ℕ). record { value = v; at = edge }) (decimal-value n small)

  pub number-back : number_read s at most end ≡ part true n (edge + 1)
  unfolding number_read
  number-back =
      let rest : drop edge s ≡ end ∷ r = behind s (decimal n) (end ∷ r) at e in
      let some : at < edge = omega (arith, some-digit n) in
      rw (number_digits, lt-ltb at edge some, le-leb n most low, first s r end edge 10 rest, eq-eqb end end refl, lt-ltb edge (length s) (within s r end edge rest))

-- ---- a value

-- no number begins with `-`
no_sign : (s w r : List ℕ) (at : ℕ) → 1 ≤ length w → all_digits w ≡ true → drop at s ≡ w ++ r → eqb (get_or s at 10) 45 ≡ false
unfolding all_digits
no_sign s [] r at h p e = absurd (omega arith)
no_sign s (x ∷ w) r at h p e =
    let digit = (both-means (is_digit x) (all_digits w) p).0 in
    let low : 48 ≤ x = leb-true 48 x (both-means (leb 48 x) (leb x 57) digit).0 in
    rw (first s (w ++ r) x at 10 e) (ne_eqb x 45 (λ q. omega arith))

module _ (s r : List ℕ) (at end v : ℕ) (small : v < 4294967296) (no : is_digit end ≡ false) where
  value-below : (e : drop at s ≡ 45 ∷ decimal (4294967296 - v) ++ end ∷ r) → 2147483648 ≤ v
      → value_read s at true end ≡ part true v (at + length (45 ∷ decimal (4294967296 - v)) + 1)
  unfolding value_read
  value-below e h =
      let rest : drop (at + 1) s ≡ decimal (4294967296 - v) ++ end ∷ r = behind s (45 ∷ []) (decimal (4294967296 - v) ++ end ∷ r) at e in
      let there : at < length s = within s (decimal (4294967296 - v) ++ end ∷ r) 45 at e in
      let size = number-back s r (at + 1) 2147483648 end (4294967296 - v) (omega arith) (omega arith) no rest in
      let back : 4294967296 - (4294967296 - v) ≡ v = omega arith in
      let far : at + 1 + length (decimal (4294967296 - v)) + 1 ≡ at + suc (length (decimal (4294967296 - v))) + 1 = omega arith in
      rw (first s (decimal (4294967296 - v) ++ end ∷ r) 45 at 10 e, lt-ltb at (length s) there, size, le-leb 1 (4294967296 - v) (omega arith), back, far)

  value-above : (signed : Bool) (e : drop at s ≡ decimal v ++ end ∷ r) → (signed ≡ true → v < 2147483648)
      → value_read s at signed end ≡ part true v (at + length (decimal v) + 1)
  unfolding value_read
  value-above true e h = rw (no_sign s (decimal v) (end ∷ r) at (some-digit v) (decimal-digits v) e) (number-back s r at 2147483647 end v small (omega (arith, h refl)) no e)
  value-above false e h = number-back s r at 4294967295 end v small (omega arith) no e

  pub value-back : (signed : Bool) → drop at s ≡ value_text signed v ++ end ∷ r → value_read s at signed end ≡ part true v (at + length (value_text signed v) + 1)
  unfolding value_text
  value-back false e = value-above false e (λ q. contrary q refl)
  value-back true e =
      split (leb 2147483648 v)
      (λ t. rw t (value-below (rw t at e) (leb-true 2147483648 v t)))
      (λ t. rw t (value-above true (rw t at e) (λ q. let h : v < 2147483648 = leb-false 2147483648 v t in h)))
