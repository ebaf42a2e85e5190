-- Rows of words: each has one text, and a row of the code is the paper's, item by item.
use Prim.Native.Nat.{ℕ, zero, suc}
use Rattle.std.proofs.Common.{arith, ◌∙◌, le-ltb}
use Rattle.std.specs.Prelude.{◌≡◌, cond, eqb, replicate, ℤ, pos, negsuc}
use Rattle.std.proofs.Math.Path.{refl, sym, ap}
use mathlib.Core.List.{List, [], ◌∷◌, ◌++◌, append_assoc, append-nil}
use Rattle.kernel.specs.declared.records.Call.{Call}
use Rattle.kernel.proofs.Cases.{split}
use Rattle.library.specs.declared.calls.Step.{Step}
use Rattle.library.specs.Sizes.{no_sizes}
use Rattle.steps.specs.Stepping.{stepped}
use Rattle.text.specs.declared.items.Item.{Item}
use Rattle.buffers.specs.Decimal.{decimal}
use Rattle.text.specs.declared.views.Seen.{Seen}
use Rattle.text.specs.declared.items.Item.TheVariants.{Nothing, Number, Signed, Cause}
use Rattle.buffers.specs.Put.{rows}
use Rattle.text.specs.Rows.{word_text, signed_text, cause_word, field, row_text, no_row, numbered}
use Rattle.text.specs.Why.{waited_item}
use Rattle.text.specs.Views.{step_row, rows_in, head_text, part_text, parts_text, fresh_seen, seen_after}
use Rattle.text.specs.Views as views
use Rattle.promises.specs.Paper.Waking.{row_of, in_mask}
use Rattle.promises.specs.Paper.Run.{Moment, moment_by}
use Rattle.promises.specs.Paper.Listing.{Word, WordText, signed_word, RowText, Row, RowsText, cause_letters, waited_word, waking_row, wakings, why_heading, WakingLines}
use Rattle.promises.specs.Paper.History.{call_by}
use Rattle.promises.specs.Meant.Listing.{in-decimal, decimal-one}

-- ---- a word's text

abbrev pub word_bytes : Word → List ℕ
word_bytes (Word.letters l) = l
word_bytes (Word.plain n) = decimal n
word_bytes (Word.minus n) = 45 ∷ decimal n
word_bytes (Word.lettered b n) = b ∷ decimal n

word-is : (w : Word) → WordText w (word_bytes w)
word-is (Word.letters l) = WordText.letters
word-is (Word.plain n) = WordText.plain (in-decimal n)
word-is (Word.minus n) = WordText.minus (in-decimal n)
word-is (Word.lettered b n) = WordText.lettered (in-decimal n)

word-one : {w : Word} {a : List ℕ} → WordText w a → a ≡ word_bytes w
word-one WordText.letters = refl
word-one (WordText.plain d) = decimal-one d
word-one (WordText.minus d) = ap (λ (l : List ℕ). 45 ∷ l) (decimal-one d)
word-one (WordText.lettered {b} d) = ap (λ (l : List ℕ). b ∷ l) (decimal-one d)

-- ---- a row's

abbrev pub row_bytes : Word → List Word → List ℕ
row_bytes w [] = word_bytes w ++ (10 ∷ [])
row_bytes w (v ∷ vs) = word_bytes w ++ (32 ∷ row_bytes v vs)

row_is : (w : Word) (vs : List Word) → RowText w vs (row_bytes w vs)
row_is w [] = RowText.last (word-is w)
row_is w (v ∷ vs) = RowText.more (word-is w) (row_is v vs)

row_one : {w : Word} {vs : List Word} {l : List ℕ} → RowText w vs l → l ≡ row_bytes w vs
row_one (RowText.last t) = ap (λ (a : List ℕ). a ++ (10 ∷ [])) (word-one t)
row_one (RowText.more {w} {rest = rest} t r) =
    ap (λ (a : List ℕ). a ++ (32 ∷ rest)) (word-one t) ∙ ap (λ (a : List ℕ). word_bytes w ++ (32 ∷ a)) (row_one r)

-- others behind blanks, as the code has them
abbrev pub others_text : List Word → List ℕ
others_text [] = []
others_text (w ∷ ws) = 32 ∷ word_bytes w ++ others_text ws

pub words_row : (w : Word) (ws : List Word) → (word_bytes w ++ others_text ws) ++ (10 ∷ []) ≡ row_bytes w ws
words_row w [] = ap (λ (l : List ℕ). l ++ (10 ∷ [])) (append-nil (word_bytes w))
words_row w (v ∷ vs) =
    append_assoc (word_bytes w) (32 ∷ word_bytes v ++ others_text vs) (10 ∷ []) ∙ ap (λ (l : List ℕ). word_bytes w ++ (32 ∷ l)) (words_row v vs)

-- ---- rows

abbrev pub rows_bytes : List Row → List ℕ
rows_bytes [] = []
rows_bytes (r ∷ rs) = row_bytes r.first r.others ++ rows_bytes rs

pub rows_is : (rs : List Row) → RowsText rs (rows_bytes rs)
rows_is [] = RowsText.none
rows_is (r ∷ rs) = RowsText.more (row_is r.first r.others) (rows_is rs)

pub rows-one : {rs : List Row} {l : List ℕ} → RowsText rs l → l ≡ rows_bytes rs
rows-one RowsText.none = refl
rows-one (RowsText.more {r} {b = b} t u) =
    ap (λ (l : List ℕ). l ++ b) (row_one t) ∙ ap (λ (l : List ℕ). row_bytes r.first r.others ++ l) (rows-one u)

pub rows_append : (a b : List Row) → rows_bytes (a ++ b) ≡ rows_bytes a ++ rows_bytes b
rows_append [] b = refl
rows_append (r ∷ a) b =
    ap (λ (l : List ℕ). row_bytes r.first r.others ++ l) (rows_append a b) ∙ sym (append_assoc (row_bytes r.first r.others) (rows_bytes a) (rows_bytes b))

-- ---- items

pub signed_is : (m : ℤ) → signed_text m ≡ word_bytes (signed_word m)
signed_is (pos n) = rw (le-ltb n 0 (omega arith))
signed_is (negsuc n) = refl

pub cause-is : (n : ℕ) → word_text (cause_word n) ≡ cause_letters n
unfolding rows word_text
cause-is n =
    split (eqb n 1) (λ t. rw t)
    (λ f. rw f (split (eqb n 2) (λ t. rw t)
    (λ f. rw f (split (eqb n 3) (λ t. rw t)
    (λ f. rw f (split (eqb n 4) (λ t. rw t)
    (λ f. rw f (split (eqb n 5) (λ t. rw t)
    (λ f. rw f (split (eqb n 6) (λ t. rw t)
    (λ f. rw f (split (eqb n 7) (λ t. rw t)
    (λ f. rw f (split (eqb n 8) (λ t. rw t) (λ f. rw f)))))))))))))))

pub waited-is : (c : Call) → field (waited_item c) ≡ 32 ∷ word_bytes (waited_word c)
waited-is c =
    split (eqb c.kind 2) (λ t. rw t)
    (λ f. rw f (split (eqb c.kind 6) (λ t. rw t)
    (λ f. rw f (split (eqb c.kind 9) (λ t. rw t)
    (λ f. rw f (split (eqb c.kind 15) (λ t. rw t)
    (λ f. rw f (split (eqb c.kind 16) (λ t. rw t)
    (λ f. rw f (split (eqb c.kind 17) (λ t. rw t)
    (λ f. rw f (split (eqb c.kind 20) (λ t. rw t) (λ f. rw f)))))))))))))

-- ---- why threads woke

pub why-heading : parts_text (fresh_seen no_sizes) 21 1 ≡ why_heading
unfolding rows rows_in head_text part_text parts_text
why-heading = refl

pub no-letters : word_text (replicate 9 0) ≡ []
unfolding rows word_text
no-letters = refl

pub no_rows : (f : ℕ → List ℕ) → rows 0 f ≡ []
unfolding rows
no_rows f = refl

pub no_text : row_text no_row ≡ []
unfolding rows word_text row_text
no_text = refl

waking-row : (n i c : ℕ) (a : Item) (w : Word) (m : ℤ) → field a ≡ 32 ∷ word_bytes w
    → row_text (numbered n (Number i) (Cause c) a (Signed m) Nothing Nothing)
    ≡ row_bytes (Word.plain n) (Word.plain i ∷ Word.letters (cause_letters c) ∷ w ∷ signed_word m ∷ [])
unfolding row_text
waking-row n i c a w m e =
    rw (no-letters, no_rows, cause-is c, e, signed_is m)
    (words_row (Word.plain n) (Word.plain i ∷ Word.letters (cause_letters c) ∷ w ∷ signed_word m ∷ []))

module _ (n : ℕ) (x : Seen) (s : Step) where
  abbrev now : Moment
  now = moment_by stepped x.tables x.clock s

  -- thread i's row, if the step has woken it
  waking-text : (i : ℕ)
      → row_text (views.row_of (seen_after n x s) 16 i) ≡ rows_bytes (cond (in_mask i now.result.woken) (waking_row now i ∷ []) [])
  unfolding views.waking_row step_row views.row_of seen_after
  waking-text i =
      split (in_mask i now.result.woken)
      (λ t.
      rw t
      (waking-row (row_of now.after i).step i (row_of now.after i).cause (waited_item (call_by now i)) (waited_word (call_by now i))
      (row_of now.after i).message (waited-is (call_by now i))
      ∙ sym (append-nil (row_bytes (waking_row now i).first (waking_row now i).others))))
      (λ f. rw f no_text)

  wakings-text : (k : ℕ) → rows k (λ i. row_text (views.row_of (seen_after n x s) 16 i)) ≡ rows_bytes (wakings now k)
  unfolding rows
  wakings-text zero = refl
  wakings-text (suc k) =
      ap (λ (l : List ℕ). l ++ row_text (views.row_of (seen_after n x s) 16 k)) (wakings-text k)
      ∙ ap (λ (l : List ℕ). rows_bytes (wakings now k) ++ l) (waking-text k)
      ∙ sym (rows_append (wakings now k) (cond (in_mask k now.result.woken) (waking_row now k ∷ []) []))

  one-part : parts_text (seen_after n x s) 16 1 ≡ rows 16 (λ i. row_text (views.row_of (seen_after n x s) 16 i))
  unfolding rows rows_in head_text part_text parts_text
  one-part = refl

  pub waking-lines : WakingLines n now (parts_text (seen_after n x s) 16 1)
  waking-lines = rw (one-part, wakings-text 16) (rows_is (wakings now 16))
