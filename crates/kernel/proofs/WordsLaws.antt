-- Words, digit by digit: a word is known by its digits, and the digits of a walk's word are the walk's answers. The first index that
-- passes is the number of trailing zeros, and how many pass is the number of ones. For any test and any number of indexes.
use Rattle.std.proofs.Common.{◌≡◌, ℕ, zero, suc, ◌+◌, ◌-◌, ◌*◌, ◌/◌, ◌%◌, ◌^◌, ◌<◌, ◌≤◌, min, max, Bool, true, false, cond, not, ◌&&◌, ◌||◌, eqb, ltb, ◌≢◌, List, length, get_or, set, sym, refl, ap, ◌∙◌, not-suc-le-zero, pow-suc, div-one, add-one, arith, length-set, get_or-set_other, get_or-set_same, pow_pos, le-ltb, lt-ltb, eq-eqb, ne_eqb}
use native.Mathlib.Nat.{zero-div, pow-succ', div-div-eq-div-mul, min-zero}
use lib.Bits.{bit_and, bit_or, bit_xor, differ, and_shr, or_shr, xor_shr, and_step, or_step, xor_step, xor_add_and, or_zero_r}
use lib.Count.{ones, ones_step, count_trailing_zeros}
use borrow.Author.Tests.{eqb-false}
use Rattle.kernel.specs.declared.records.Words.{Words}
use Rattle.kernel.specs.Numbers.{nobody, queued}
use Rattle.kernel.specs.Walk.{bit, count_of, first_from}
use Rattle.kernel.specs.Words.{digit, has_bit, word_of, ones_of, first_of, bit_value, with_bit, without_bit, waiting_at, noted_ready, noted_asleep}
use Rattle.kernel.proofs.Cases.{split, same_or, in-or-out, chosen}
use Rattle.kernel.proofs.WalkLaws.{None, bit_le, count-le, count-agree, search-agree}

-- ---- digits

-- the lowest digit
pub digit_low : (w : ℕ) → digit w 0 ≡ w % 2
digit_low w = rw (div-one w)

-- the others are those of the half
pub digit-half : (w i : ℕ) → digit w (suc i) ≡ digit (w / 2) i
digit-half w i = rw (pow-succ' 2 i, ← div-div-eq-div-mul w 2 (2 ^ i))

-- no word, no digit
pub digit-none : (i : ℕ) → digit 0 i ≡ 0
digit-none i = rw (zero-div (2 ^ i))

-- a word below 2 ^ n has no digit from n on
digit-past : (n w i : ℕ) → w < 2 ^ n → n ≤ i → digit w i ≡ 0
digit-past zero w i h g = let empty : w ≡ 0 = omega arith in rw empty (digit-none i)
digit-past (suc n) w zero h g = absurd (omega arith)
digit-past (suc n) w (suc i) h g = rw (digit-half w i) (digit-past n (w / 2) i (omega (arith, pow-suc 2 n)) (omega arith))

-- a digit is 0 or 1
pub digit-bit : (w i : ℕ) → digit w i ≡ bit (has_bit w i)
digit-bit w i = same_or (digit w i) 1 (λ e. rw e) (λ n. rw (ne_eqb (digit w i) 1 n) (omega arith))

-- what a digit is, its test says
pub digit-test : (w i : ℕ) (b : Bool) → digit w i ≡ bit b → has_bit w i ≡ b
digit-test w i true e = eq-eqb (digit w i) 1 e
digit-test w i false e = ne_eqb (digit w i) 1 (λ o. omega arith)

-- A WORD IS KNOWN BY ITS DIGITS
pub same_digits : (v w : ℕ) → ((i : ℕ) → digit v i ≡ digit w i) → v ≡ w
same_digits v w = up_to (v + w) v w (omega arith) (omega arith)
  where
    up_to : (n v w : ℕ) → v ≤ n → w ≤ n → ((i : ℕ) → digit v i ≡ digit w i) → v ≡ w
    up_to zero v w h g e = omega arith
    up_to (suc n) v w h g e =
        let low : v % 2 ≡ w % 2 = sym (digit_low v) ∙ (e 0 ∙ digit_low w) in
        let rest : v / 2 ≡ w / 2 =
        up_to n (v / 2) (w / 2) (omega arith) (omega arith) (λ i. sym (digit-half v i) ∙ (e (suc i) ∙ digit-half w i)) in
        omega (arith, low, rest)

-- ---- one bit

-- two digits make a digit by an operation of their own
module _ (p q : ℕ) (here : p < 2) (there : q < 2) where
  max-digit : (x : ℕ) → (x * 2 + max p q) % 2 ≡ max p q
  max-digit x = omega arith

  min-digit : (x : ℕ) → (x * 2 + min p q) % 2 ≡ min p q
  min-digit x = omega arith

differ-digit : (p q x : ℕ) → p < 2 → q < 2 → (x * 2 + differ p q) % 2 ≡ differ p q
differ-digit zero q x h g = omega arith
differ-digit (suc zero) zero x h g = omega arith
differ-digit (suc zero) (suc zero) x h g = omega arith
differ-digit (suc zero) (suc (suc q)) x h g = absurd (omega arith)
differ-digit (suc (suc p)) q x h g = absurd (omega arith)

module _ (a b i : ℕ) where
  below : (x : ℕ) → x % 2 < 2
  below x = omega arith

  or-digit : digit (bit_or a b) i ≡ max (digit a i) (digit b i)
  or-digit =
      rw (or_shr a b i, or_step (a / 2 ^ i) (b / 2 ^ i))
      (max-digit (digit a i) (digit b i) (below (a / 2 ^ i)) (below (b / 2 ^ i)) (bit_or (a / 2 ^ i / 2) (b / 2 ^ i / 2)))

  and-digit : digit (bit_and a b) i ≡ min (digit a i) (digit b i)
  and-digit =
      rw (and_shr a b i, and_step (a / 2 ^ i) (b / 2 ^ i))
      (min-digit (digit a i) (digit b i) (below (a / 2 ^ i)) (below (b / 2 ^ i)) (bit_and (a / 2 ^ i / 2) (b / 2 ^ i / 2)))

  xor-digit : digit (bit_xor a b) i ≡ differ (digit a i) (digit b i)
  xor-digit =
      rw (xor_shr a b i, xor_step (a / 2 ^ i) (b / 2 ^ i))
      (differ-digit (digit a i) (digit b i) (bit_xor (a / 2 ^ i / 2) (b / 2 ^ i / 2)) (below (a / 2 ^ i)) (below (b / 2 ^ i)))

-- ---- two words, bit by bit

or-bit : (p q : Bool) → max (bit p) (bit q) ≡ bit (p || q)
or-bit true true = refl
or-bit true false = refl
or-bit false true = refl
or-bit false false = refl

and-bit : (p q : Bool) → min (bit p) (bit q) ≡ bit (p && q)
and-bit true true = refl
and-bit true false = refl
and-bit false true = refl
and-bit false false = refl

less-bit : (p q : Bool) → differ (bit p) (min (bit p) (bit q)) ≡ bit (p && not q)
less-bit true true = refl
less-bit true false = refl
less-bit false true = refl
less-bit false false = refl

module _ (a b : ℕ) where
  and_again : bit_and a (bit_and a b) ≡ bit_and a b
  and_again = same_digits (bit_and a (bit_and a b)) (bit_and a b) (λ i. rw (and-digit a (bit_and a b) i, and-digit a b i) (omega arith))

  -- what is taken off a word by subtraction is what differs
  less-differs : a - bit_and a b ≡ bit_xor a (bit_and a b)
  less-differs = omega (arith, rw and_again at (xor_add_and a (bit_and a b)))

  module _ (i : ℕ) where
    -- two digits are their tests
    as_bits : (f : ℕ → ℕ → ℕ) → f (digit a i) (digit b i) ≡ f (bit (has_bit a i)) (bit (has_bit b i))
    as_bits f = ap (λ (x : ℕ). f x (digit b i)) (digit-bit a i) ∙ ap (f (bit (has_bit a i))) (digit-bit b i)

    pub or-test : has_bit (bit_or a b) i ≡ has_bit a i || has_bit b i
    or-test = digit-test (bit_or a b) i (has_bit a i || has_bit b i) (or-digit a b i ∙ as_bits max ∙ or-bit (has_bit a i) (has_bit b i))

    pub and-test : has_bit (bit_and a b) i ≡ has_bit a i && has_bit b i
    and-test = digit-test (bit_and a b) i (has_bit a i && has_bit b i) (and-digit a b i ∙ as_bits min ∙ and-bit (has_bit a i) (has_bit b i))

    pub less-test : has_bit (a - bit_and a b) i ≡ has_bit a i && not (has_bit b i)
    less-test =
        digit-test (a - bit_and a b) i (has_bit a i && not (has_bit b i))
        (ap (λ (x : ℕ). digit x i) less-differs ∙ xor-digit a (bit_and a b) i ∙ ap (differ (digit a i)) (and-digit a b i)
        ∙ as_bits (λ x y. differ x (min x y)) ∙ less-bit (has_bit a i) (has_bit b i))

-- ---- the bit of an index

-- 2 ^ i has the digit i
power-same : (i : ℕ) → digit (2 ^ i) i ≡ 1
power-same zero = refl
power-same (suc i) =
    let half : 2 ^ suc i / 2 ≡ 2 ^ i = rw (pow-suc 2 i) (omega arith) in
    rw (digit-half (2 ^ suc i) i, half) (power-same i)

-- and no other
power-other : (i j : ℕ) → j ≢ i → digit (2 ^ i) j ≡ 0
power-other zero zero n = absurd (n refl)
power-other zero (suc j) n = rw (digit-half 1 j) (digit-none j)
power-other (suc i) zero n = rw (digit_low (2 ^ suc i), pow-suc 2 i) (omega arith)
power-other (suc i) (suc j) n =
    let half : 2 ^ suc i / 2 ≡ 2 ^ i = rw (pow-suc 2 i) (omega arith) in
    rw (digit-half (2 ^ suc i) j, half) (power-other i j (λ e. n (ap suc e)))

pub value_same : (i : ℕ) → i < 16 → digit (bit_value i) i ≡ 1
value_same i h = rw (lt-ltb i 16 h) (power-same i)

pub value-other : (i j : ℕ) → j ≢ i → digit (bit_value i) j ≡ 0
value-other i j n = in-or-out i 16 (λ h. rw (lt-ltb i 16 h) (power-other i j n)) (λ h. rw (le-ltb i 16 h) (digit-none j))

differ_same : (p : ℕ) → p < 2 → differ p (min p 1) ≡ 0
differ_same zero h = refl
differ_same (suc zero) h = refl
differ_same (suc (suc p)) h = absurd (omega arith)

differ-none : (p : ℕ) → differ p (min p 0) ≡ p
differ-none zero = refl
differ-none (suc p) = rw (min-zero (suc p))

module _ (w i : ℕ) where
  digit_lt : (j : ℕ) → digit w j < 2
  digit_lt j = omega arith

  -- a bit that was set is there
  pub with-same : i < 16 → digit (with_bit w i) i ≡ 1
  with-same h = rw (or-digit w (bit_value i) i, value_same i h) (omega (arith, digit_lt i))

  -- one that was taken off is not
  pub without-same : i < 16 → digit (without_bit w i) i ≡ 0
  without-same h =
      rw (xor-digit w (bit_and w (bit_value i)) i, and-digit w (bit_value i) i, value_same i h) (differ_same (digit w i) (digit_lt i))

  module _ (j : ℕ) (n : j ≢ i) where
    -- and the others stay
    pub with-other : digit (with_bit w i) j ≡ digit w j
    with-other = rw (or-digit w (bit_value i) j, value-other i j n) (omega arith)

    pub without_other : digit (without_bit w i) j ≡ digit w j
    without_other =
        rw (xor-digit w (bit_and w (bit_value i)) j, and-digit w (bit_value i) j, value-other i j n) (differ-none (digit w j))

-- there is no bit from 16 on
pub with-past : (w i : ℕ) → 16 ≤ i → with_bit w i ≡ w
with-past w i h = rw (le-ltb i 16 h) (or_zero_r w)

-- ---- the words of a kernel

-- a word of the waiting, changed by g where b and at p
changed-waiting : (w : Words) (g : ℕ → ℕ) (b : Bool) (p q : ℕ) → q < length w.waiting
    → get_or (cond b (set w.waiting p (g (waiting_at w p))) w.waiting) q 0 ≡ cond (b && eqb p q) (g (waiting_at w q)) (waiting_at w q)
changed-waiting w g true p q h =
    same_or q p (λ e. rw (e, eq-eqb p p refl) (get_or-set_same w.waiting p (g (waiting_at w p)) 0 (rw e at h)))
    (λ n. rw (ne_eqb p q (λ e. n (sym e))) (get_or-set_other w.waiting p q (g (waiting_at w p)) 0 n))
changed-waiting w g false p q h = refl

-- .. and the others stay
other-waiting : (w : Words) (g : ℕ → ℕ) (b : Bool) (p q : ℕ) → b && eqb p q ≡ false
    → get_or (cond b (set w.waiting p (g (waiting_at w p))) w.waiting) q 0 ≡ waiting_at w q
other-waiting w g true p q z = get_or-set_other w.waiting p q (g (waiting_at w p)) 0 (λ e. eqb-false p q z (sym e))
other-waiting w g false p q z = refl

module _ (w : Words) (i s p : ℕ) where
  pub ready-length : length (noted_ready w i s p).waiting ≡ length w.waiting
  ready-length =
      chosen (λ (l : List ℕ). length l ≡ length w.waiting) (eqb s queued)
      (λ e. length-set w.waiting p (without_bit (waiting_at w p) i)) (λ e. refl)

  pub asleep-length : length (noted_asleep w i s p).waiting ≡ length w.waiting
  asleep-length =
      chosen (λ (l : List ℕ). length l ≡ length w.waiting) (eqb s queued)
      (λ e. length-set w.waiting p (with_bit (waiting_at w p) i)) (λ e. refl)

  module _ (q : ℕ) where
    -- only the word of its place changes
    pub ready-waiting : q < length w.waiting
        → waiting_at (noted_ready w i s p) q ≡ cond (eqb s queued && eqb p q) (without_bit (waiting_at w q) i) (waiting_at w q)
    ready-waiting = changed-waiting w (λ x. without_bit x i) (eqb s queued) p q

    pub asleep-waiting : q < length w.waiting
        → waiting_at (noted_asleep w i s p) q ≡ cond (eqb s queued && eqb p q) (with_bit (waiting_at w q) i) (waiting_at w q)
    asleep-waiting = changed-waiting w (λ x. with_bit x i) (eqb s queued) p q

    pub ready-elsewhere : eqb s queued && eqb p q ≡ false → waiting_at (noted_ready w i s p) q ≡ waiting_at w q
    ready-elsewhere = other-waiting w (λ x. without_bit x i) (eqb s queued) p q

    pub asleep-elsewhere : eqb s queued && eqb p q ≡ false → waiting_at (noted_asleep w i s p) q ≡ waiting_at w q
    asleep-elsewhere = other-waiting w (λ x. with_bit x i) (eqb s queued) p q

-- ---- the word of a walk

-- it is less than 2 ^ n
pub word_lt : (f : ℕ → Bool) (n : ℕ) → word_of f n < 2 ^ n
unfolding word_of
word_lt f zero = omega arith
word_lt f (suc n) = rw (pow-suc 2 n) (split (f n) (λ e. rw e (omega (arith, word_lt f n))) (λ e. rw e (omega (arith, word_lt f n))))

-- one index more is walked
pub word_more : (f : ℕ → Bool) (i : ℕ) → word_of f (i + 1) ≡ word_of f i + cond (f i) (2 ^ i) 0
unfolding word_of
word_more f i = rw add-one

-- its lowest bit is index 0, and its half the word of the rest
word-shift : (f : ℕ → Bool) (n : ℕ) → word_of f (suc n) ≡ word_of (λ i. f (suc i)) n * 2 + bit (f 0)
unfolding word_of
word-shift f zero = split (f 0) (λ e. rw e) (λ e. rw e)
word-shift f (suc n) =
    rw (word-shift f n, pow-suc 2 n) (split (f (suc n)) (λ e. rw e (omega arith)) (λ e. rw e (omega arith)))

word-half : (f : ℕ → Bool) (n : ℕ) → word_of f (suc n) / 2 ≡ word_of (λ i. f (suc i)) n
word-half f n = rw (word-shift f n) (omega (arith, bit_le (f 0)))

word_low : (f : ℕ → Bool) (n : ℕ) → word_of f (suc n) % 2 ≡ bit (f 0)
word_low f n = rw (word-shift f n) (omega (arith, bit_le (f 0)))

-- BIT i OF THE WORD IS WHETHER i PASSES
pub word_in : (f : ℕ → Bool) (n i : ℕ) → i < n → digit (word_of f n) i ≡ bit (f i)
word_in f zero i h = absurd (not-suc-le-zero h)
word_in f (suc n) zero h = digit_low (word_of f (suc n)) ∙ word_low f n
word_in f (suc n) (suc i) h = rw (digit-half (word_of f (suc n)) i, word-half f n) (word_in (λ j. f (suc j)) n i (omega arith))

-- and there is none from n on
pub word-past : (f : ℕ → Bool) (n i : ℕ) → n ≤ i → digit (word_of f n) i ≡ 0
unfolding word_of
word-past f zero i h = digit-none i
word-past f (suc n) zero h = absurd (omega arith)
word-past f (suc n) (suc i) h = rw (digit-half (word_of f (suc n)) i, word-half f n) (word-past (λ j. f (suc j)) n i (omega arith))

pub word-digit : (f : ℕ → Bool) (n i : ℕ) → digit (word_of f n) i ≡ bit (ltb i n && f i)
word-digit f n i = in-or-out i n (λ h. rw (lt-ltb i n h) (word_in f n i h)) (λ h. rw (le-ltb i n h) (word-past f n i h))

-- tests that agree below n have one word
pub word-agree : (f g : ℕ → Bool) (n : ℕ) → ((i : ℕ) → i < n → f i ≡ g i) → word_of f n ≡ word_of g n
unfolding word_of
word-agree f g zero h = refl
word-agree f g (suc n) h = rw (h n (omega arith), word-agree f g n (λ i l. h i (omega arith)))

-- if none passes, the word is empty
pub word_none : (f : ℕ → Bool) (n : ℕ) → None f n → word_of f n ≡ 0
unfolding word_of
word_none f zero e = refl
word_none f (suc n) e = rw (e n (omega arith), word_none f n (λ i l. e i (omega arith)))

-- ALL ONES
pub word-all : (n : ℕ) → word_of (λ i. true) n ≡ 2 ^ n - 1
unfolding word_of
word-all zero = refl
word-all (suc n) = rw (word-all n, pow-suc 2 n) (omega (arith, pow_pos n))

-- ---- ones and trailing zeros of a word with the digits of a test

-- counted from the other end
count-shift : (f : ℕ → Bool) (n : ℕ) → count_of f (suc n) ≡ bit (f 0) + count_of (λ i. f (suc i)) n
unfolding count_of
count-shift f zero = omega arith
count-shift f (suc n) = omega (arith, count-shift f n)

-- THE ONES ARE THE COUNT
pub ones-count : (f : ℕ → Bool) (n w : ℕ) → w < 2 ^ n → ((i : ℕ) → i < n → digit w i ≡ bit (f i)) → ones w ≡ count_of f n
unfolding count_of ones
ones-count f zero w h e = let empty : w ≡ 0 = omega arith in rw empty
ones-count f (suc n) w h e =
    let below : w / 2 < 2 ^ n = omega (arith, pow-suc 2 n) in
    rw (
      ones_step w,
      ones-count (λ i. f (suc i)) n (w / 2) below (λ i l. sym (digit-half w i) ∙ e (suc i) (omega arith)),
      count-shift f n,
    ) (ap (λ (x : ℕ). x + count_of (λ i. f (suc i)) n) (sym (digit_low w) ∙ e 0 (omega arith)))

-- what trailing zeros find, from index i on
abbrev found_from : ℕ → ℕ → ℕ → ℕ
found_from i n z = cond (ltb z n) (i + z) nobody

found-later : (i n z : ℕ) → found_from i (suc n) (suc z) ≡ found_from (suc i) n z
found-later i n z =
    in-or-out z n (λ h. rw (lt-ltb z n h, lt-ltb (suc z) (suc n) (omega arith)) (omega arith))
    (λ h. rw (le-ltb z n h, le-ltb (suc z) (suc n) (omega arith)))

zeros-from : (f : ℕ → Bool) (n i w : ℕ) → ((j : ℕ) → j < n → digit w j ≡ bit (f (i + j)))
    → found_from i n (count_trailing_zeros n w) ≡ first_from f i n
unfolding first_from count_trailing_zeros
zeros-from f zero i w e = refl
zeros-from f (suc n) i w e =
    let here : i + 0 ≡ i = omega arith in
    let low : w % 2 ≡ bit (f i) = sym (digit_low w) ∙ (e 0 (omega arith) ∙ ap (λ (j : ℕ). bit (f j)) here) in
    let rest =
    zeros-from f n (suc i) (w / 2)
    (λ j l.
    let next : i + suc j ≡ suc i + j = omega arith in
    sym (digit-half w j) ∙ (e (suc j) (omega arith) ∙ ap (λ (x : ℕ). bit (f x)) next)) in
    rw low
    (split (f i) (λ t. rw (t, lt-ltb 0 (suc n) (omega arith)) here) (λ t. rw t (found-later i n (count_trailing_zeros n (w / 2)) ∙ rest)))

-- THE TRAILING ZEROS ARE THE FIRST
pub zeros-first : (f : ℕ → Bool) (n w : ℕ) → ((i : ℕ) → i < n → digit w i ≡ bit (f i))
    → cond (ltb (count_trailing_zeros n w) n) (count_trailing_zeros n w) nobody ≡ first_from f 0 n
zeros-first f n w e =
    let whole : 0 + count_trailing_zeros n w ≡ count_trailing_zeros n w = omega arith in
    ap (λ (z : ℕ). cond (ltb (count_trailing_zeros n w) n) z nobody) (sym whole)
    ∙ zeros-from f n 0 w (λ i l. let same : 0 + i ≡ i = omega arith in rw same (e i l))

-- ---- where a word's digits end

-- those past n do not pass: they count for nothing
count_past : (f : ℕ → Bool) (n d : ℕ) → ((i : ℕ) → n ≤ i → f i ≡ false) → count_of f (d + n) ≡ count_of f n
unfolding count_of
count_past f n zero e = let same : 0 + n ≡ n = omega arith in rw same
count_past f n (suc d) e =
    let next : suc d + n ≡ suc (d + n) = omega arith in
    rw (next, e (d + n) (omega arith)) (omega (arith, count_past f n d e))

-- and are not found
first_past : (f : ℕ → Bool) (n d i : ℕ) → ((j : ℕ) → i + n ≤ j → f j ≡ false) → first_from f i (n + d) ≡ first_from f i n
unfolding first_from
first_past f zero zero i o = refl
first_past f zero (suc d) i o =
    let last : 0 + suc d ≡ suc (0 + d) = omega arith in
    rw (last, o i (omega arith)) (first_past f zero d (suc i) (λ j a. o j (omega arith)))
first_past f (suc n) d i o =
    let next : suc n + d ≡ suc (n + d) = omega arith in
    rw (next, first_past f n d (suc i) (λ j a. o j (omega arith)))

-- ---- in the form in which code meets them

-- "the number of ready threads is the number of ones"
pub ones-of : (w : ℕ) → w < 65536 → ones w ≡ ones_of w
unfolding ones_of
ones-of w h = ones-count (has_bit w) 16 w h (λ i l. digit-bit w i)

-- .. of which there are 16 at most
pub ones-le : (w : ℕ) → w < 65536 → ones w ≤ 16
unfolding ones_of
ones-le w h = rw (ones-of w h) (count-le (has_bit w) 16)

-- a word has no bit from 16 on
pub bit_past : (w i : ℕ) → w < 65536 → 16 ≤ i → has_bit w i ≡ false
bit_past w i h g = digit-test w i false (digit-past 16 w i h g)

-- "the number of trailing zeros"
pub first_some : (w : ℕ) → count_trailing_zeros 16 w < 16 → count_trailing_zeros 16 w ≡ first_of w
unfolding first_of
first_some w h = rw (lt-ltb (count_trailing_zeros 16 w) 16 h) at (zeros-first (has_bit w) 16 w (λ i l. digit-bit w i))

-- "an empty word means idle"
pub first-none : (w : ℕ) → 16 ≤ count_trailing_zeros 16 w → nobody ≡ first_of w
unfolding first_of
first-none w h = rw (le-ltb (count_trailing_zeros 16 w) 16 h) at (zeros-first (has_bit w) 16 w (λ i l. digit-bit w i))

-- what a bit counts, in range; v is what a callee gave
pub value_in : (i v : ℕ) → v ≡ bit_value i → i < 16 → v ≡ 2 ^ i
value_in i v e h = e ∙ rw (lt-ltb i 16 h)

-- ---- what a screen shows: where a word has the digits of a test, its ones and its trailing zeros are the walk's

module _ (f : ℕ → Bool) (n w : ℕ) (few : n ≤ 16) (told : (i : ℕ) → digit w i ≡ bit (ltb i n && f i)) where
  inside : (i : ℕ) → i < n → has_bit w i ≡ f i
  inside i l = digit-test w i (f i) (rw (lt-ltb i n l) at (told i))

  outside : (i : ℕ) → n ≤ i → has_bit w i ≡ false
  outside i l = digit-test w i false (rw (le-ltb i n l) at (told i))

  pub ones-agree : ones_of w ≡ count_of f n
  unfolding ones_of
  ones-agree =
      let whole : (16 - n) + n ≡ 16 = omega arith in
      ap (count_of (has_bit w)) (sym whole) ∙ (count_past (has_bit w) n (16 - n) outside ∙ count-agree (has_bit w) f n inside)

  pub first-agree : first_of w ≡ first_from f 0 n
  unfolding first_of
  first-agree =
      let whole : n + (16 - n) ≡ 16 = omega arith in
      ap (first_from (has_bit w) 0) (sym whole)
      ∙ (first_past (has_bit w) n (16 - n) 0 (λ j a. outside j (omega arith))
      ∙ search-agree (has_bit w) f 0 n (λ j a b. inside j (omega arith)))
