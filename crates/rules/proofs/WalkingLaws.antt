-- What the words of a walk say of its records: tables of words, counts by their ones, a holder by its bit alone. So the rules that go by
-- the words are those that go by the records.
use Prim.Native.Nat.{ℕ, zero, suc, ◌≤◌, ◌<◌}
use native.Mathlib.Nat.{not-suc-le-zero}
use native.Mathlib.Omega.{arith}
use mathlib.Core.Path.{◌≡◌, refl, sym, ap, ◌∙◌}
use mathlib.Core.Logic.{◌⊎◌, inl, inr}
use mathlib.Core.Bool.{Bool, true, false, cond, not}
use mathlib.Core.List.{List, [], ◌∷◌}
use lib.Dec.{eqb}
use lib.ListN.{length, get_or}
use borrow.Author.Tests.{eqb-true, eq-eqb, ne_eqb, lt-ltb, le-ltb, ltb-true}
use Rattle.kernel.specs.declared.records.Kernel.{Kernel}
use Rattle.kernel.specs.Numbers.{nobody}
use Rattle.kernel.specs.Places.{pool_place}
use Rattle.kernel.specs.Tables.{used_rows, thread_at, counter_at, holder_at}
use Rattle.kernel.specs.Waiters.{queued_at}
use Rattle.kernel.specs.Walk.{all_from, bit, count_of}
use Rattle.kernel.specs.Words.{digit, word_of, ones_of, bit_value, waiting_at}
use Rattle.kernel.proofs.Cases.{split, same_or, in-or-out, same_tests}
use Rattle.kernel.proofs.Loops.{used_le}
use Rattle.kernel.proofs.WalkLaws.{all-at, all_of}
use Rattle.kernel.proofs.WordsLaws.{word-digit, word_in, word-past, same_digits, ones-agree, value_same, value-other, digit-none}
use Rattle.library.specs.declared.sizes.Sizes.{Sizes}
use Rattle.library.specs.declared.tables.Plant.{Plant}
use Rattle.library.specs.Tables.{pool_at}
use Rattle.rules.specs.Limits.{used_of, tabled}
use Rattle.rules.specs.PlaceRules.{place_fits, queued_count, place_agrees, bad_place, bad_counter}
use Rattle.rules.specs.ReferenceRules.{suspended_at, is_holder, thread_agrees, holder_fits, bad_reference, holder_named, bad_holder}
use Rattle.rules.specs.PoolRules.{promised_by, promised_count, pool_fits, pool_agrees, bad_pool, bad_stock}
use Rattle.rules.specs.WordRules.{waiting_word, word_fits, word_agrees, bad_word, other_word}
use Rattle.rules.specs.Walking.{walked}
use Rattle.rules.proofs.HangingLaws.{bad-agree, used-of-le}

-- ---- tables

-- entry i of a table
pub tabled-at : (f : ℕ → ℕ) (n i : ℕ) → i < n → get_or (tabled f n) i 0 ≡ f i
unfolding tabled
tabled-at f zero i h = absurd (not-suc-le-zero h)
tabled-at f (suc n) zero h = refl
tabled-at f (suc n) (suc i) h = tabled-at (λ j. f (suc j)) n i (omega arith)

-- and the list with those entries is that table
pub tabled-is : (l : List ℕ) (f : ℕ → ℕ) (n : ℕ) → length l ≡ n → ((i : ℕ) → i < n → get_or l i 0 ≡ f i) → l ≡ tabled f n
unfolding tabled
tabled-is [] f zero s e = refl
tabled-is [] f (suc n) s e = absurd (omega (arith, s))
tabled-is (x ∷ l) f zero s e = absurd (omega (arith, s))
tabled-is (x ∷ l) f (suc n) s e =
    ap (λ (y : ℕ). y ∷ l) (e 0 (omega arith))
    ∙ ap (λ (r : List ℕ). f 0 ∷ r) (tabled-is l (λ j. f (suc j)) n (omega (arith, s)) (λ i h. e (suc i) (omega arith)))

-- ---- counts

-- as many pass as their word has ones
ones-counted : (f : ℕ → Bool) (n : ℕ) → ones_of (word_of f (used_rows n)) ≡ count_of f (used_rows n)
ones-counted f n = ones-agree f (used_rows n) (word_of f (used_rows n)) (used_le _ n refl) (word-digit f (used_rows n))

module _ (k : Kernel) (z : Sizes) where
  pub places-walked : bad_counter k.counters (walked k.threads z).waiting z ≡ bad_place k z
  unfolding queued_count
  places-walked =
      bad-agree (λ p. place_fits z p (counter_at k p) (ones_of (get_or (walked k.threads z).waiting p 0))) (place_agrees k z) 36
      (λ p h. ap (place_fits z p (counter_at k p))
      (ap ones_of (tabled-at (λ q. word_of (λ i. queued_at q (thread_at k i)) (used_rows z.threads)) 36 p h)
      ∙ ones-counted (λ i. queued_at p (thread_at k i)) z.threads))

  pub words-walked : other_word k.words.waiting (walked k.threads z).waiting z ≡ bad_word k z
  unfolding waiting_word
  words-walked =
      bad-agree (λ p. word_fits z p (waiting_at k.words p) (get_or (walked k.threads z).waiting p 0)) (word_agrees k z) 36
      (λ p h. ap (word_fits z p (waiting_at k.words p))
      (tabled-at (λ q. word_of (λ i. queued_at q (thread_at k i)) (used_rows z.threads)) 36 p h))

pub pools-walked : (p : Plant) → bad_stock p.pools p.kernel.counters (walked p.kernel.threads p.sizes).promised p.sizes ≡ bad_pool p
unfolding promised_count
pools-walked p =
    let k = p.kernel in
    let z = p.sizes in
    bad-agree
    (λ q. pool_fits (pool_at p q) (counter_at k (pool_place q)) (ones_of (get_or (walked k.threads z).promised q 0))) (pool_agrees p)
    (used_of 4 z.pools)
    (λ q h. ap (pool_fits (pool_at p q) (counter_at k (pool_place q)))
    (ap ones_of
    (tabled-at (λ o. word_of (λ i. promised_by o (thread_at k i)) (used_rows z.threads)) 4 q (omega (arith, used-of-le _ 4 z.pools refl)))
    ∙ ones-counted (λ i. promised_by q (thread_at k i)) z.threads))

-- ---- holders

-- the digits of a bit
value-digit : (h j : ℕ) → j < 16 → digit (bit_value h) j ≡ bit (eqb h j)
value-digit h j l =
    same_or h j (λ e. rw (e, eq-eqb j j refl) (value_same j l)) (λ d. rw (ne_eqb h j d) (value-other h j (λ e. d (sym e))))

bits-same : (a b : Bool) → bit a ≡ bit b → a ≡ b
bits-same true true e = refl
bits-same true false e = absurd (omega (arith, e))
bits-same false true e = absurd (omega (arith, e))
bits-same false false e = refl

-- two tests agree
agrees : (a b : Bool) → b ≡ a → cond a b (not b) ≡ true
agrees true b e = e
agrees false b e = rw e

agree : (a b : Bool) → cond a b (not b) ≡ true → b ≡ a
agree true b e = e
agree false true e = sym e
agree false false e = refl

-- one of n threads is one of those that have a row, or has no bit
holder-bit : (h n : ℕ) → is_holder h n ≡ true → (h < used_rows n) ⊎ (16 ≤ h)
holder-bit h n e =
    same_or h nobody (λ s. inr (omega arith))
    (λ d.
    let l : h < n = ltb-true h n (rw (ne_eqb h nobody d) at e) in
    in-or-out n 16 (λ few. rw (lt-ltb n 16 few) (inl l)) (λ many. in-or-out h 16 (λ low. rw (le-ltb n 16 many) (inl low)) inr))

module _ (k : Kernel) (n r : ℕ) where
  abbrev h : ℕ
  h = holder_at k r

  abbrev on : ℕ → Bool
  on i = suspended_at r (thread_at k i)

  abbrev m : ℕ
  m = used_rows n

  few : m ≤ 16
  few = used_le _ n refl

  -- the holder's bit alone: each thread agrees
  named-agrees : word_of on m ≡ bit_value h → all_from (thread_agrees k h r) 0 m ≡ true
  named-agrees e =
      all_of (thread_agrees k h r) m
      (λ i l. agrees (eqb h i) (on i)
      (bits-same (on i) (eqb h i)
      (sym (word_in on m i l) ∙ (ap (λ (w : ℕ). digit w i) e ∙ value-digit h i (omega (arith, few))))))

  -- and the other way round, for a holder that is one of the threads
  agrees-named : is_holder h n ≡ true → all_from (thread_agrees k h r) 0 m ≡ true → word_of on m ≡ bit_value h
  agrees-named holds e =
      same_digits (word_of on m) (bit_value h)
      (λ j. in-or-out j m
      (λ l. word_in on m j l
      ∙ (ap bit (agree (eqb h j) (on j) (all-at (thread_agrees k h r) m j e l)) ∙ sym (value-digit h j (omega (arith, few)))))
      (λ l. word-past on m j l ∙ sym (past j l)))
    where
      past : (j : ℕ) → m ≤ j → digit (bit_value h) j ≡ 0
      past j l =
          elim (holder-bit h n holds) [
            | inl low ↦ value-other h j (λ s. absurd (omega (arith, low, s)))
            | inr high ↦ rw (le-ltb h 16 high) (digit-none j)
          ]

  named : holder_named h (word_of on m) n ≡ holder_fits k n r
  unfolding holder_fits
  named =
      split (is_holder h n)
      (λ e. rw e
      (same_tests (eqb (word_of on m) (bit_value h)) (all_from (thread_agrees k h r) 0 m)
      (λ t. named-agrees (eqb-true (word_of on m) (bit_value h) t))
      (λ t. eq-eqb (word_of on m) (bit_value h) (agrees-named e t))))
      (λ e. rw e)

pub references-walked : (k : Kernel) (z : Sizes) → bad_holder k.references (walked k.threads z).suspended z ≡ bad_reference k z
references-walked k z =
    bad-agree (λ r. holder_named (holder_at k r) (get_or (walked k.threads z).suspended r 0) z.threads) (holder_fits k z.threads)
    (used_of 8 z.references)
    (λ r l.
    ap (λ (w : ℕ). holder_named (holder_at k r) w z.threads)
    (tabled-at (λ q. word_of (λ i. suspended_at q (thread_at k i)) (used_rows z.threads)) 8 r
    (omega (arith, used-of-le _ 8 z.references refl)))
    ∙ named k z.threads r)
