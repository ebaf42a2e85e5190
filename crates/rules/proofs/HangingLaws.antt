-- Laws in the form in which the tests of hanging together meet them: bounds of used rows, loops that leave at the first failure,
-- and tallies, which count for many keys in one pass.
use Prim.Native.Nat.{ℕ, zero, suc, ◌+◌, ◌-◌, ◌^◌, ◌≤◌, ◌<◌}
use native.Mathlib.Nat.{pow-suc}
use native.Mathlib.Omega.{arith}
use mathlib.Core.Path.{◌≡◌, refl, sym, ap, ◌∙◌}
use mathlib.Core.Bool.{Bool, true, false, cond, not, ◌&&◌}
use mathlib.Core.List.{List}
use lib.Dec.{eqb, ltb}
use lib.IntN.{pos}
use lib.ListN.{length, get_or, set, replicate, length-set, length-replicate}
use lib.Pow.{pow_mono}
use lib.Seq.{get_or-set_same, get_or-set_other}
use borrow.Author.Tests.{ltb-true, eqb-true, eqb-false, ne_eqb, not-true, not-false}
use Rattle.std.specs.Prelude.{is_some, None, Some}
use Rattle.kernel.specs.Numbers.{nobody}
use Rattle.kernel.specs.Walk.{first_from, all_from, count_of}
use Rattle.kernel.specs.Words.{word_of, ones_of}
use Rattle.kernel.proofs.Cases.{split}
use Rattle.kernel.proofs.WalkLaws.{search-agree, count-le, count_none}
use Rattle.kernel.proofs.WordsLaws.{word_more, word_lt}
use Rattle.kernel.proofs.Loops.{first-here, first_next, all-fails, all-next, count-more}
use Rattle.library.specs.declared.sizes.Sizes.{Sizes}
use Rattle.library.specs.Signs.{same}
use Rattle.rules.specs.Limits.{used_of, first_bad}
use Rattle.rules.specs.PlaceRules.{in_use, place_fits}

-- no more rows are in use than there are; e is what a callee gave
pub used-of-le : (e rows n : ℕ) → e ≡ used_of rows n → e ≤ rows
used-of-le e rows n same = rw same (go (ltb n rows) refl)
  where
    go : (b : Bool) → ltb n rows ≡ b → used_of rows n ≤ rows
    go true t = rw t (omega (arith, ltb-true n rows t))
    go false t = rw t (omega arith)

-- a place at which nobody is queued and whose counter is 0 fits, in use or not
pub idle_fits : (z : Sizes) (p : ℕ) → place_fits z p (pos 0) (ones_of 0) ≡ true
unfolding ones_of count_of
idle_fits z p = split (in_use z p) (λ e. rw e (split (ltb p 20) (λ t. rw t) (λ t. rw t))) (λ e. rw e)

-- what a callee gave, r, is the test b; the code has tested that it is not r
pub passed : {r b : Bool} → r ≡ b → not r ≡ false → b ≡ true
passed {r} same test = sym same ∙ not-false r test

pub failed : {r b : Bool} → r ≡ b → not r ≡ true → b ≡ false
failed {r} same test = sym same ∙ not-true r test

module _ (f : ℕ → Bool) (i n : ℕ) (r : Bool) (within : i < n) (tested : r ≡ f i) where
  -- a loop that leaves at the first index that fails has come to i
  pub passes_on : not r ≡ false → all_from f i (n - i) ≡ all_from f (i + 1) (n - (i + 1))
  passes_on test = all-next f i n within (passed tested test)

  pub fails-here : not r ≡ true → all_from f i (n - i) ≡ false
  fails-here test = all-fails f i n within (failed tested test)

  -- .. and so has a search for the first index that fails
  pub finds-later : not r ≡ false → first_from (λ j. not (f j)) i (n - i) ≡ first_from (λ j. not (f j)) (i + 1) (n - (i + 1))
  finds-later test = first_next (λ j. not (f j)) i n within (ap not (sym tested) ∙ test)

  pub finds-here : not r ≡ true → first_from (λ j. not (f j)) i (n - i) ≡ i
  finds-here test = first-here (λ j. not (f j)) i n within (ap not (sym tested) ∙ test)

-- a search for the first index that fails finds none exactly if all pass
pub none-fails : (f : ℕ → Bool) (i n : ℕ) → i + n ≤ 255 → eqb (first_from (λ j. not (f j)) i n) nobody ≡ all_from f i n
unfolding first_from all_from
none-fails f i zero h = refl
none-fails f i (suc n) h =
    split (f i) (λ e. rw e (none-fails f (suc i) n (omega arith)))
    (λ e. rw e (ne_eqb i nobody (λ q. omega arith)))

-- an option that is none exactly if t says so; b is what was asked of it
pub none-asked : {A : Type 0} (t b : Bool) (x : A) → is_some (cond t None (Some x)) ≡ not b → b ≡ t
none-asked true true x e = refl
none-asked true false x e = e
none-asked false true x e = e
none-asked false false x e = refl

-- what such a search gives, r, is nobody exactly if all of the n pass
pub none-bad : (f : ℕ → Bool) (n r : ℕ) → n ≤ 255 → r ≡ first_bad f n → eqb r nobody ≡ all_from f 0 n
none-bad f n r h e = rw e (none-fails f 0 n (omega arith))

-- tests that agree below n fail first at the same index
pub bad-agree : (f g : ℕ → Bool) (n : ℕ) → ((j : ℕ) → j < n → f j ≡ g j) → first_bad f n ≡ first_bad g n
bad-agree f g n h = search-agree (λ j. not (f j)) (λ j. not (g j)) 0 n (λ j a b. ap not (h j (omega arith)))

-- a key that is past all n keys where the test fails: it is p exactly if the test holds and x is p; a is what a callee gave
pub keyed : (b : Bool) (x n a : ℕ) → a ≡ cond b x n → (p : ℕ) → p < n → (b && eqb x p) ≡ eqb a p
keyed b x n a same p h = rw same (go b)
  where
    go : (b : Bool) → (b && eqb x p) ≡ eqb (cond b x n) p
    go true = refl
    go false = sym (ne_eqb n p (λ e. omega arith))

-- a sum over the first n indexes that pass, each with its weight
pub record Sums (total : (ℕ → Bool) → ℕ → ℕ) (weight : ℕ → ℕ) : Type 0 where
  pub empty : (f : ℕ → Bool) → total f 0 ≡ 0
  pub more : (f : ℕ → Bool) (i : ℕ) → total f (i + 1) ≡ total f i + cond (f i) (weight i) 0

-- counts, where each weighs 1
pub counts : Sums count_of (λ i. 1)
counts = record { empty = λ f. count_none f 0 (λ i l. absurd (omega arith)); more = λ f i. rw (count-more f i) (split (f i) (λ e. rw e) (λ e. rw e)) }

-- words, where index i weighs 2 ^ i
pub words : Sums word_of (λ i. 2 ^ i)
unfolding word_of
words = record { empty = λ f. refl; more = word_more }

-- the word of i indexes has room for one bit more, as long as i is below 16
pub room : (f : ℕ → Bool) (i : ℕ) → i < 16 → word_of f i + 2 ^ i < 65536
room f i few = let most : 2 ^ suc i ≤ 65536 = pow_mono few in omega (arith, most, word_lt f i, pow-suc 2 i)

-- a walk's word, where index i passes and where it does not; v is what bit i counts
pub word-hit : (f : ℕ → Bool) (i w v : ℕ) → w ≡ word_of f i → v ≡ 2 ^ i → f i ≡ true → w + v ≡ word_of f (i + 1)
word-hit f i w v e g t = rw (e, g, word_more f i, t)

pub word-miss : (f : ℕ → Bool) (i w : ℕ) → w ≡ word_of f i → f i ≡ false → w ≡ word_of f (i + 1)
word-miss f i w e t = rw (e, word_more f i, t) (omega arith)

-- entry p of l sums up those of the first i indexes that pass the test of the key p, for n keys
pub record Tallied (total : (ℕ → Bool) → ℕ → ℕ) (test : ℕ → ℕ → Bool) (n : ℕ) (l : List ℕ) (i : ℕ) : Type 0 where
  pub sized : length l ≡ n
  pub entry : (p : ℕ) → p < n → get_or l p 0 ≡ total (test p) i

zeros : (n p : ℕ) → ◌≡◌ {A = ℕ} (get_or (replicate n 0) p 0) 0
zeros zero p = refl
zeros (suc n) zero = refl
zeros (suc n) (suc p) = zeros n p

module _ {total : (ℕ → Bool) → ℕ → ℕ} {weight : ℕ → ℕ} (sums : Sums total weight) (test : ℕ → ℕ → Bool) (n : ℕ) where
  -- before the first index
  pub tally-none : Tallied total test n (replicate n 0) 0
  tally-none = record { sized = length-replicate n 0; entry = λ p h. zeros n p ∙ sym (sums.empty (test p)) }

  module _ (l : List ℕ) (i at : ℕ) (so_far : Tallied total test n l i) (key : (p : ℕ) → p < n → test p i ≡ eqb at p) where
    -- index i has the key `at`
    pub tally-hit : at < n → Tallied total test n (set l at (get_or l at 0 + weight i)) (i + 1)
    tally-hit within =
        record {
          sized = length-set l at (get_or l at 0 + weight i) ∙ so_far.sized;
          entry = λ p h. rw (sums.more (test p) i, key p h) (go p h (eqb at p) refl);
        }
      where
        go : (p : ℕ) → p < n → (b : Bool) → eqb at p ≡ b
            → get_or (set l at (get_or l at 0 + weight i)) p 0 ≡ total (test p) i + cond b (weight i) 0
        go p h true e =
            rw (← eqb-true at p e)
            (get_or-set_same l at (get_or l at 0 + weight i) 0 (omega (arith, so_far.sized))
            ∙ ap (λ (m : ℕ). m + weight i) (so_far.entry at within))
        go p h false e =
            omega (
              arith,
              get_or-set_other l at p (get_or l at 0 + weight i) 0 (λ q. eqb-false at p e (sym q)),
              so_far.entry p h,
            )

    -- .. which is none of the n
    pub tally-miss : n ≤ at → Tallied total test n l (i + 1)
    tally-miss past =
        record {
          sized = so_far.sized;
          entry = λ p h. rw (sums.more (test p) i, key p h, ne_eqb at p (λ e. omega arith)) (omega (arith, so_far.entry p h));
        }

-- an entry is at most the number of indexes
pub tally-le : (test : ℕ → ℕ → Bool) (n : ℕ) (l : List ℕ) (i at : ℕ) → Tallied count_of test n l i → at < n → get_or l at 0 ≤ i
tally-le test n l i at so_far within = rw (so_far.entry at within) (count-le (test at) i)

-- a word has room for one bit more, as long as there are fewer than 16
pub word_room : (test : ℕ → ℕ → Bool) (n : ℕ) (l : List ℕ) (i at : ℕ) → Tallied word_of test n l i → at < n → i < 16
    → get_or l at 0 + 2 ^ i < 65536
word_room test n l i at so_far within few = rw (so_far.entry at within) (room (test at) i few)
