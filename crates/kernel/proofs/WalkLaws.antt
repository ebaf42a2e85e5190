-- What a search finds, how a count changes, and what a walk leaves: by induction over the indexes, for any test and any number of them.
use Rattle.std.proofs.Common.{◌≡◌, ℕ, zero, suc, ◌+◌, ◌<◌, ◌≤◌, Bool, true, false, ◌&&◌, ◌≢◌, ◌⊎◌, sym, refl, ap, ◌∙◌, inl, inr, le_refl, not-suc-le-zero, arith}
use Rattle.kernel.specs.Numbers.{nobody}
use Rattle.kernel.specs.Walk.{each, first_from, all_from, bit, count_of}
use Rattle.kernel.proofs.Cases.{split, same_or, both_true, both-means, same_tests}

-- r is the least of the indexes below n that pass
pub record Least (f : ℕ → Bool) (n r : ℕ) : Type 0 where
  pub below : r < n
  pub passes : f r ≡ true
  pub least : (i : ℕ) → i < r → f i ≡ false

-- none of the indexes below n passes
abbrev pub None : (ℕ → Bool) → ℕ → Type 0
None f n = (i : ℕ) → i < n → f i ≡ false

-- what a search of the n indexes from i on has found in r
abbrev Found : (ℕ → Bool) → ℕ → ℕ → ℕ → Type 0
Found f i n r =
    ((i ≤ r) × (r < i + n) × (f r ≡ true) × ((j : ℕ) → i ≤ j → j < r → f j ≡ false))
    ⊎ ((r ≡ nobody) × ((j : ℕ) → i ≤ j → j < i + n → f j ≡ false))

one_more : (f : ℕ → Bool) (i n r : ℕ) → f i ≡ false → Found f (suc i) n r → Found f i (suc n) r
one_more f i n r e (inl h) = inl (omega arith, omega arith, h.2, λ j a b. same_or j i (λ s. rw s e) (λ s. h.3 j (omega arith) b))
one_more f i n r e (inr h) = inr (h.0, λ j a b. same_or j i (λ s. rw s e) (λ s. h.1 j (omega arith) (omega arith)))

found : (f : ℕ → Bool) (i n : ℕ) → Found f i n (first_from f i n)
unfolding first_from
found f i zero = inr (refl, λ j a b. absurd (omega arith))
found f i (suc n) =
    split (f i) (λ e. rw e (inl (le_refl i, omega arith, e, λ j a b. absurd (omega arith))))
    (λ e. rw e (one_more f i n (first_from f (suc i) n) e (found f (suc i) n)))

module _ (f : ℕ → Bool) (n : ℕ) where
  -- the first of n is the least that passes; or it is nobody, and none passes
  pub first-cases : Least f n (first_from f 0 n) ⊎ ((first_from f 0 n ≡ nobody) × None f n)
  first-cases =
      elim (found f 0 n) [
        | inl h ↦ inl (record { below = omega arith; passes = h.2; least = λ i l. h.3 i (omega arith) l })
        | inr h ↦ inr (h.0, λ i l. h.1 i (omega arith) (omega arith))
      ]

-- tests that agree find the same
pub search-agree : (f g : ℕ → Bool) (i n : ℕ) → ((j : ℕ) → i ≤ j → j < i + n → f j ≡ g j) → first_from f i n ≡ first_from g i n
unfolding first_from
search-agree f g i zero h = refl
search-agree f g i (suc n) h =
    rw (h i (le_refl i) (omega arith), search-agree f g (suc i) n (λ j a b. h j (omega arith) (omega arith)))

-- a test counts for at most 1
pub bit_le : (b : Bool) → bit b ≤ 1
bit_le true = omega arith
bit_le false = omega arith

-- no more pass than there are
pub count-le : (f : ℕ → Bool) (n : ℕ) → count_of f n ≤ n
unfolding count_of
count-le f zero = omega arith
count-le f (suc n) = omega (arith, bit_le (f n), count-le f n)

-- tests that agree below n count the same
pub count-agree : (f g : ℕ → Bool) (n : ℕ) → ((i : ℕ) → i < n → f i ≡ g i) → count_of f n ≡ count_of g n
unfolding count_of
count-agree f g zero h = refl
count-agree f g (suc n) h = rw (h n (omega arith), count-agree f g n (λ i l. h i (omega arith)))

-- tests that agree below n but at i: one takes its bit at i off, the other puts its own on
pub count-change : (f g : ℕ → Bool) (n i : ℕ) → i < n → ((j : ℕ) → j < n → j ≢ i → f j ≡ g j)
    → count_of f n + bit (g i) ≡ count_of g n + bit (f i)
unfolding count_of
count-change f g zero i h a = absurd (not-suc-le-zero h)
count-change f g (suc n) i h a =
    same_or i n
    (λ e. rw e (omega (arith, count-agree f g n (λ j l. a j (omega arith) (omega arith)))))
    (λ e. rw (a n (omega arith) (λ s. e (sym s))) (omega (arith, count-change f g n i (omega arith) (λ j l. a j (omega arith)))))

-- one that passes is counted
pub count-some : (f : ℕ → Bool) (n i : ℕ) → i < n → f i ≡ true → 1 ≤ count_of f n
unfolding count_of
count-some f zero i h t = absurd (not-suc-le-zero h)
count-some f (suc n) i h t =
    same_or i n (λ e. rw (← e, t) (omega arith)) (λ e. omega (arith, count-some f n i (omega arith) t))

-- if none passes, the count is 0
pub count_none : (f : ℕ → Bool) (n : ℕ) → None f n → count_of f n ≡ 0
unfolding count_of
count_none f zero e = refl
count_none f (suc n) e = rw (e n (omega arith), count_none f n (λ i l. e i (omega arith)))

-- where any is counted there is a first
pub counted-first : (f : ℕ → Bool) (n : ℕ) → 1 ≤ count_of f n → Least f n (first_from f 0 n)
counted-first f n h = elim (first-cases f n) [ inl c ↦ c | inr c ↦ absurd (omega (arith, count_none f n c.1)) ]

-- all of the n indexes from i on pass: each does
all-from-at : (f : ℕ → Bool) (i n j : ℕ) → all_from f i n ≡ true → i ≤ j → j < i + n → f j ≡ true
unfolding all_from
all-from-at f i zero j e a b = absurd (omega arith)
all-from-at f i (suc n) j e a b =
    let x = both-means (f i) (all_from f (suc i) n) e in
    same_or j i (λ s. rw s x.0) (λ s. all-from-at f (suc i) n j x.1 (omega arith) (omega arith))

all-from-of : (f : ℕ → Bool) (i n : ℕ) → ((j : ℕ) → i ≤ j → j < i + n → f j ≡ true) → all_from f i n ≡ true
unfolding all_from
all-from-of f i zero h = refl
all-from-of f i (suc n) h =
    both_true (h i (omega arith) (omega arith)) (all-from-of f (suc i) n (λ j a b. h j (omega arith) (omega arith)))

-- all indexes below n pass: each does
pub all-at : (f : ℕ → Bool) (n i : ℕ) → all_from f 0 n ≡ true → i < n → f i ≡ true
all-at f n i e h = all-from-at f 0 n i e (omega arith) (omega arith)

-- and if each does, all pass
pub all_of : (f : ℕ → Bool) (n : ℕ) → ((i : ℕ) → i < n → f i ≡ true) → all_from f 0 n ≡ true
all_of f n h = all-from-of f 0 n (λ j a b. h j (omega arith))

-- one index more is tested
pub all_more : (f : ℕ → Bool) (n : ℕ) → all_from f 0 (n + 1) ≡ all_from f 0 n && f n
all_more f n =
    same_tests (all_from f 0 (n + 1)) (all_from f 0 n && f n)
    (λ e. both_true (all_of f n (λ i h. all-at f (n + 1) i e (omega arith))) (all-at f (n + 1) n e (omega arith)))
    (λ e.
    let x = both-means (all_from f 0 n) (f n) e in
    all_of f (n + 1) (λ i h. same_or i n (λ s. rw s x.1) (λ d. all-at f n i x.0 (omega arith))))

-- what the body keeps, the walk keeps
pub each_keeps : {A : Type 0} (P : A → Type 0) (f : ℕ → A → A) (n : ℕ) → ((i : ℕ) → i < n → (a : A) → P a → P (f i a))
    → (a : A) → P a → P (each n f a)
each_keeps P f zero h a p = p
each_keeps P f (suc n) h a p = h n (omega arith) (each n f a) (each_keeps P f n (λ i l. h i (omega arith)) a p)

-- bodies that agree walk alike
pub each-agree : {A : Type 0} (f g : ℕ → A → A) (n : ℕ) → ((i : ℕ) (a : A) → f i a ≡ g i a) → (a : A) → each n f a ≡ each n g a
each-agree f g zero h a = refl
each-agree f g (suc n) h a = h n (each n f a) ∙ ap (g n) (each-agree f g n h a)

-- a body that changes no row but its own; at a j reads row j
module _ {A B : Type 0} (at : A → ℕ → B) (f : ℕ → A → A) (other : (i j : ℕ) (a : A) → j ≢ i → at (f i a) j ≡ at a j) where
  -- a row that the walk does not come to is as it was
  pub each-later : (n j : ℕ) (a : A) → n ≤ j → at (each n f a) j ≡ at a j
  each-later zero j a h = refl
  each-later (suc n) j a h = other n j (each n f a) (omega arith) ∙ each-later n j a (omega arith)

  -- where the body changes its own row by g, the walk does so to each, once; P is what the body needs for that, and keeps
  module _ (P : A → Type 0) (g : B → B) (keeps : (i : ℕ) (a : A) → P a → P (f i a))
      (own : (i : ℕ) (a : A) → P a → at (f i a) i ≡ g (at a i)) where
    -- every row that the walk comes to is changed by g
    pub each_row : (n j : ℕ) (a : A) → P a → j < n → at (each n f a) j ≡ g (at a j)
    each_row zero j a p h = absurd (not-suc-le-zero h)
    each_row (suc n) j a p h =
        same_or j n
        (λ e. rw e (own n (each n f a) (each_keeps P f n (λ i l. keeps i) a p) ∙ ap g (each-later n n a (le_refl n))))
        (λ e. other n j (each n f a) e ∙ each_row n j a p (omega arith))
