-- Numbers as bytes, at any width w: by induction on w, since a number is its lowest byte and the number of the others.
use Prim.Native.Nat.{ℕ, zero, suc, ◌+◌, ◌-◌, ◌*◌, ◌/◌, ◌%◌, ◌^◌, ◌≤◌, ◌<◌}
use native.Mathlib.Nat.{add-zero, div-lt_iff_lt-mul, zero-lt-suc, pow-suc}
use native.Mathlib.Omega.{arith}
use mathlib.Core.Path.{◌≡◌, refl, sym, ap, ap₂, ◌∙◌, subst⁻¹}
use mathlib.Core.List.{List, [], ◌∷◌, ◌++◌}
use lib.ListN.{length, get_or, set, take, drop, length-take, get_or-append, get_or-eq_default}
use lib.Seq.{sets, drop-cons, length-sets, get_or-append-add, get_or-take, get_or-drop}
use borrow.Author.Tests.{le-leb, lt-leb}
use Rattle.kernel.proofs.Cases.{in-or-out}
use Rattle.compare.specs.Compared.{written}
use Rattle.compare.specs.Bytes.{Bytes, bytes_of, number_at, number_put}
use Rattle.compare.proofs.ListLaws.{write-more}

pub length-bytes : (w x : ℕ) → length (bytes_of w x) ≡ w
unfolding bytes_of
length-bytes zero x = refl
length-bytes (suc w) x = ap suc (length-bytes w (x / 256))

-- ---- reading

-- only the w bytes from the place on are read
pub number_same : (w : ℕ) (l m : List ℕ) (at to : ℕ) → ((j : ℕ) → j < w → get_or l (at + j) 0 ≡ get_or m (to + j) 0)
    → number_at w l at ≡ number_at w m to
unfolding number_at
number_same zero l m at to h = refl
number_same (suc w) l m at to h =
    let first : get_or l at 0 ≡ get_or m to 0 = rw (add-zero at, add-zero to) at (h 0 (omega arith)) in
    ap₂ (λ (b n : ℕ). b + 256 * n) first
    (number_same w l m (suc at) (suc to)
    (λ j i.
    let one : suc at + j ≡ at + suc j = omega arith in
    let other : suc to + j ≡ to + suc j = omega arith in
    rw (one, other) (h (suc j) (omega arith))))

-- the bytes of a number make it up
pub number-bytes : (w x : ℕ) → x < 256 ^ w → number_at w (bytes_of w x) 0 ≡ x
unfolding bytes_of number_at
number-bytes zero x h = omega arith
number-bytes (suc w) x h =
    let small : x / 256 < 256 ^ w = (div-lt_iff_lt-mul (zero-lt-suc 255)).1 (rw pow-suc at h) in
    let rest : number_at w (x % 256 ∷ bytes_of w (x / 256)) 1 ≡ x / 256 =
    number_same w (x % 256 ∷ bytes_of w (x / 256)) (bytes_of w (x / 256)) 1 0
    (λ j i. let one : 1 + j ≡ suc j = omega arith in let same : 0 + j ≡ j = omega arith in rw (one, same)) ∙ number-bytes w (x / 256) small in
    rw rest (omega arith)

-- what bytes make up has those bytes
pub bytes-number : (w : ℕ) (l : List ℕ) (at : ℕ) → Bytes l → at + w ≤ length l → bytes_of w (number_at w l at) ≡ take w (drop at l)
unfolding bytes_of number_at
bytes-number zero l at b h = refl
bytes-number (suc w) l at b h =
    let first : ℕ = get_or l at 0 in
    let small : first < 256 = b at in
    let n : ℕ = number_at w l (suc at) in
    let low : (first + 256 * n) % 256 ≡ first = omega arith in
    let high : (first + 256 * n) / 256 ≡ n = omega arith in
    ap₂ (λ (c m : ℕ). c ∷ bytes_of w m) low high
    ∙ ap (λ (m : List ℕ). first ∷ m) (bytes-number w l (suc at) b (omega arith))
    ∙ sym (ap (take (suc w)) (drop-cons l at 0 (omega arith)))

-- and is no larger than so many bytes can say
pub number-below : (w : ℕ) (l : List ℕ) (at : ℕ) → Bytes l → number_at w l at < 256 ^ w
unfolding number_at
number-below zero l at b = omega arith
number-below (suc w) l at b = rw pow-suc (omega (arith, b at, number-below w l (suc at) b))

-- of two lists in a row, the number that ends in the first, and one that stands in the second
pub number-left : (w : ℕ) (l m : List ℕ) (at : ℕ) → at + w ≤ length l → number_at w (l ++ m) at ≡ number_at w l at
number-left w l m at h = number_same w (l ++ m) l at at (λ j i. get_or-append l m 0 (at + j) (omega arith))

pub number-right : (w : ℕ) (l m : List ℕ) (at k : ℕ) → length l ≡ at → number_at w (l ++ m) (at + k) ≡ number_at w m k
number-right w l m at k e =
    number_same w (l ++ m) m (at + k) k
    (λ j i.
    let place : at + k + j ≡ length l + (k + j) = omega arith in
    ap (λ (n : ℕ). get_or (l ++ m) n 0) place ∙ get_or-append-add l m (k + j) 0)

-- ---- lists of bytes

pub bytes-append : (l m : List ℕ) → Bytes l → Bytes m → Bytes (l ++ m)
bytes-append l m bl bm i =
    in-or-out i (length l)
    (λ h. rw (get_or-append l m 0 i h) (bl i))
    (λ h.
    let place : i ≡ length l + (i - length l) = omega arith in
    subst⁻¹ (λ (n : ℕ). get_or (l ++ m) n 0 < 256) place (rw (get_or-append-add l m (i - length l) 0) (bm (i - length l))))

pub bytes_left : (l m : List ℕ) → Bytes (l ++ m) → Bytes l
bytes_left l m b i =
    in-or-out i (length l)
    (λ h. rw (get_or-append l m 0 i h) at (b i))
    (λ h. rw (get_or-eq_default l 0 h) (omega arith))

pub bytes-right : (l m : List ℕ) → Bytes (l ++ m) → Bytes m
bytes-right l m b i = rw (get_or-append-add l m i 0) at (b (length l + i))

-- a part of such a list is one
pub bytes-part : (n at : ℕ) (l : List ℕ) → Bytes l → Bytes (take n (drop at l))
bytes-part n at l b i =
    in-or-out i n
    (λ h. rw (get_or-take n (drop at l) i 0 h, get_or-drop at l i 0) (b (at + i)))
    (λ h.
    let short : length (take n (drop at l)) ≤ i = omega (arith, length-take n (drop at l)) in
    rw (get_or-eq_default (take n (drop at l)) 0 short) (omega arith))

pub bytes-bytes : (w x : ℕ) → Bytes (bytes_of w x)
unfolding bytes_of
bytes-bytes zero x i = omega arith
bytes-bytes (suc w) x zero = omega arith
bytes-bytes (suc w) x (suc i) = bytes-bytes w (x / 256) i

-- ---- writing

pub put-fits : (w : ℕ) (l : List ℕ) (at x : ℕ) → at + w ≤ length l → sets l at (bytes_of w x) ≡ number_put w l at x
unfolding number_put
put-fits w l at x h = simp (le-leb (at + w) (length l) h)

pub put-past : (w : ℕ) (l : List ℕ) (at x : ℕ) → length l < at + w → l ≡ number_put w l at x
unfolding number_put
put-past w l at x h = simp (lt-leb (at + w) (length l) h)

pub length-put : (w : ℕ) (l : List ℕ) (at x : ℕ) → length (number_put w l at x) ≡ length l
length-put w l at x =
    in-or-out (length l) (at + w)
    (λ h. ap length (sym (put-past w l at x h)))
    (λ h. ap length (sym (put-fits w l at x h)) ∙ length-sets l at (bytes_of w x))

-- two numbers of four bytes at the start
pub put-pair : (l : List ℕ) (x y : ℕ) → 8 ≤ length l → number_put 4 (number_put 4 l 0 x) 4 y ≡ written (bytes_of 4 x ++ bytes_of 4 y) l
put-pair l x y h =
    let one = bytes_of 4 x in
    let two = bytes_of 4 y in
    let four : length one ≡ 4 = length-bytes 4 x in
    let other : length two ≡ 4 = length-bytes 4 y in
    let first : number_put 4 l 0 x ≡ written one l = sym (put-fits 4 l 0 x (omega arith)) ∙ write-more [] one l (omega arith) in
    sym (put-fits 4 (number_put 4 l 0 x) 4 y (omega (arith, length-put 4 l 0 x)))
    ∙ ap (λ (m : List ℕ). sets m 4 two) first
    ∙ ap (λ (n : ℕ). sets (written one l) n two) (sym four)
    ∙ write-more one two l (omega arith)

-- ---- the three widths: a, b, c, d are the bytes at a place

pub get-one : (l : List ℕ) (at : ℕ) → get_or l at 0 ≡ number_at 1 l at
unfolding number_at
get-one l at = omega arith

module _ (l : List ℕ) (at a b : ℕ) (ea : a ≡ get_or l at 0) (eb : b ≡ get_or l (at + 1) 0) where
  pub get-two : a + 256 * b ≡ number_at 2 l at
  unfolding number_at
  get-two = let next : at + 1 ≡ suc at = omega arith in rw (ea, eb, next) (omega arith)

  pub get-four : (c d : ℕ) → c ≡ get_or l (at + 2) 0 → d ≡ get_or l (at + 3) 0 → a + 256 * (b + 256 * (c + 256 * d)) ≡ number_at 4 l at
  unfolding number_at
  get-four c d ec ed =
      let e₁ : at + 1 ≡ suc at = omega arith in
      let e₂ : at + 2 ≡ suc (suc at) = omega arith in
      let e₃ : at + 3 ≡ suc (suc (suc at)) = omega arith in
      rw (ea, eb, ec, ed, e₁, e₂, e₃) (omega arith)

-- ---- a byte more, in the form in which code meets it

-- before the last of four bytes there is room for one
pub byte-more : (i x b : ℕ) → i < 4 → x < 256 ^ i → b < 256 → x * 256 + b < 4294967296
byte-more zero x b h small byte = omega arith
byte-more (suc zero) x b h small byte = omega arith
byte-more (suc (suc zero)) x b h small byte = omega arith
byte-more (suc (suc (suc zero))) x b h small byte = omega arith
byte-more (suc (suc (suc (suc i)))) x b h small byte = absurd (omega arith)

module _ (w i p x : ℕ) (l : List ℕ) where
  -- what is still to be put of a number goes on behind its lowest byte
  pub put-turn : i < w → sets (set l (p + i) (x % 256)) (p + (i + 1)) (bytes_of (w - (i + 1)) (x / 256)) ≡ sets l (p + i) (bytes_of (w - i) x)
  unfolding bytes_of
  put-turn h =
      let more : w - i ≡ suc (w - (i + 1)) = omega arith in
      let next : p + (i + 1) ≡ suc (p + i) = omega arith in
      rw (more, next)

  -- of its last byte nothing is left
  pub put_done : w ≤ i → l ≡ sets l (p + i) (bytes_of (w - i) x)
  unfolding bytes_of
  put_done h = let none : w - i ≡ 0 = omega arith in rw none
