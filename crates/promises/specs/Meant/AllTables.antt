-- What is printed of all tables is the paper's, row by row: each item is its word, and each part its rows in order.
use Prim.Native.Nat.{ℕ, zero, suc, ◌+◌, ◌*◌, ◌/◌, ◌%◌, ◌-◌}
use Rattle.std.proofs.Common.{arith, sym, ◌∙◌, to_z}
use Rattle.std.specs.Prelude.{◌≡◌, cond, eqb, ltb, ℤ, pos, negsuc}
use Rattle.std.proofs.Math.Path.{refl, ap}
use mathlib.Core.List.{List, [], ◌∷◌, ◌++◌, append_assoc, append-nil}
use Rattle.std.proofs.Math.ListN.{get_or}
use mir.Syntax.{w32}
use Rattle.kernel.proofs.Cases.{split}
use Rattle.library.specs.declared.calls.Step.{Step}
use Rattle.library.specs.declared.tables.Tables.{Tables}
use Rattle.steps.specs.Stepping.{stepped}
use Rattle.text.specs.declared.items.Item.{Item}
use Rattle.text.specs.declared.items.Item.TheVariants.{Nothing, Number, Signed}
use Rattle.text.specs.declared.views.Seen.{Seen}
use Rattle.buffers.specs.Put.{rows}
use Rattle.text.specs.Rows.{word_text, field, row_text, brief}
use Rattle.text.specs.Tables.{place_item, wait_item, free_row, marks_row, word_row, table_row}
use Rattle.text.specs.Tables as tables
use Rattle.text.specs.Views.{step_line, step_row, rows_in, head_text, part_text, parts_text, seen_after}
use Rattle.text.specs.Views as views
use Rattle.promises.specs.Paper.World.{found, signed}
use Rattle.promises.specs.Paper.Waking.{row_of}
use Rattle.promises.specs.Paper.Run.{moment_by}
use Rattle.promises.specs.Paper.Listing.{Word, Row, signed_word, few, in_order, place_word, wait_word, listed_words, thread_row, pair_row, mailbox_row, pool_row}
use Rattle.promises.specs.Paper.Listing.{waiting_row, table_rows, all_rows, WholeLines}
use Rattle.promises.specs.Meant.Printing.{word_bytes, row_bytes, others_text, words_row, rows_bytes, rows_is, rows_append, signed_is, no_rows}
use Rattle.promises.specs.Meant.Accounting.{rows-in-order, alone, four-row}

-- ---- items

signed-field : (m : ℤ) → field (Signed m) ≡ 32 ∷ word_bytes (signed_word m)
signed-field m = ap (λ (l : List ℕ). 32 ∷ l) (signed_is m)

signed-read : (a : ℕ) → to_z w32 a ≡ signed a
signed-read a =
    let e : 4294967296 - suc a ≡ 4294967295 - a = omega arith in
    ap (λ (k : ℕ). cond (ltb a 2147483648) (pos a) (negsuc k)) e

place_is : (p : ℕ) → field (place_item p) ≡ 32 ∷ word_bytes (place_word p)
place_is p =
    split (ltb p 16) (λ t. rw t)
    (λ f. rw f (split (ltb p 20) (λ t. rw t)
    (λ f. rw f (split (ltb p 28) (λ t. rw t)
    (λ f. rw f (split (ltb p 32) (λ t. rw t) (λ f. rw f)))))))

wait-is : (state place : ℕ) → field (wait_item state place) ≡ 32 ∷ word_bytes (wait_word state place)
wait-is state place =
    split (eqb state 3) (λ t. rw t (place_is place))
    (λ f. rw f (split (eqb state 2) (λ t. rw t) (λ f. rw f)))

-- ---- rows

others-append : (ws vs : List Word) → others_text (ws ++ vs) ≡ others_text ws ++ others_text vs
others-append [] vs = refl
others-append (w ∷ ws) vs =
    ap (λ (l : List ℕ). 32 ∷ word_bytes w ++ l) (others-append ws vs) ∙ sym (append_assoc (32 ∷ word_bytes w) (others_text ws) (others_text vs))

-- what a row lists
listed-text : (n : ℕ) (f : ℕ → Item) (g : ℕ → Word) → ((j : ℕ) → field (f j) ≡ 32 ∷ word_bytes (g j))
    → rows n (λ j. field (f j)) ≡ others_text (listed_words n g)
unfolding rows
listed-text zero f g h = refl
listed-text (suc n) f g h =
    ap (λ (l : List ℕ). l ++ field (f n)) (listed-text n f g h) ∙ ap (λ (l : List ℕ). others_text (listed_words n g) ++ l) (h n ∙ sym (append-nil (32 ∷ word_bytes (g n))))
    ∙ sym (others-append (listed_words n g) (g n ∷ []))

list-row : (l : List ℕ) (ws vs : List Word) → l ++ (others_text ws ++ (others_text vs ++ (10 ∷ []))) ≡ row_bytes (Word.letters l) (ws ++ vs)
list-row l ws vs =
    ap (λ (k : List ℕ). l ++ k) (sym (append_assoc (others_text ws) (others_text vs) (10 ∷ [])))
    ∙ ap (λ (k : List ℕ). l ++ (k ++ (10 ∷ []))) (sym (others-append ws vs))
    ∙ sym (append_assoc l (others_text (ws ++ vs)) (10 ∷ [])) ∙ words_row (Word.letters l) (ws ++ vs)

pair-row : (w l : List ℕ) (a b : Item) (u v : Word) → word_text w ≡ l → field a ≡ 32 ∷ word_bytes u → field b ≡ 32 ∷ word_bytes v
    → row_text (brief w a b) ≡ rows_bytes (pair_row l u v ∷ [])
unfolding row_text
pair-row w l a b u v e f g = rw (no_rows, e, f, g) (list-row l (u ∷ v ∷ []) []) ∙ alone (row_bytes (Word.letters l) (u ∷ v ∷ []))

one-row : (w l : List ℕ) (a : Item) (u : Word) → word_text w ≡ l → field a ≡ 32 ∷ word_bytes u
    → row_text (brief w a Nothing) ≡ rows_bytes (record { first = Word.letters l; others = u ∷ [] } ∷ [])
unfolding row_text
one-row w l a u e f = rw (no_rows, e, f) (list-row l (u ∷ []) []) ∙ alone (row_bytes (Word.letters l) (u ∷ []))

thread-letters : word_text (116 ∷ 104 ∷ 114 ∷ 101 ∷ 97 ∷ 100 ∷ 0 ∷ 0 ∷ 0 ∷ []) ≡ 116 ∷ 104 ∷ 114 ∷ 101 ∷ 97 ∷ 100 ∷ []
unfolding rows word_text
thread-letters = refl

mailbox-letters : word_text (109 ∷ 97 ∷ 105 ∷ 108 ∷ 98 ∷ 111 ∷ 120 ∷ 0 ∷ 0 ∷ []) ≡ 109 ∷ 97 ∷ 105 ∷ 108 ∷ 98 ∷ 111 ∷ 120 ∷ []
unfolding rows word_text
mailbox-letters = refl

pool-letters : word_text (112 ∷ 111 ∷ 111 ∷ 108 ∷ 0 ∷ 0 ∷ 0 ∷ 0 ∷ 0 ∷ []) ≡ 112 ∷ 111 ∷ 111 ∷ 108 ∷ []
unfolding rows word_text
pool-letters = refl

marks-letters : word_text (109 ∷ 97 ∷ 114 ∷ 107 ∷ 115 ∷ 0 ∷ 0 ∷ 0 ∷ 0 ∷ []) ≡ 109 ∷ 97 ∷ 114 ∷ 107 ∷ 115 ∷ []
unfolding rows word_text
marks-letters = refl

-- fifteen texts, one behind the other, as they are grouped
regroup : (a0 a1 a2 a3 a4 a5 a6 a7 a8 a9 a10 a11 a12 a13 a14 : List ℕ)
    → (((((((((((((a0 ++ a1) ++ a2) ++ a3) ++ a4) ++ a5) ++ a6) ++ a7) ++ a8) ++ a9) ++ a10) ++ a11) ++ a12) ++ a13) ++ a14
    ≡ a0 ++ (a1 ++ ((a2 ++ (a3 ++ (a4 ++ (a5 ++ (a6 ++ (a7 ++ (a8 ++ (a9 ++ (a10 ++ (a11 ++ (a12))))))))))) ++ (a13 ++ a14)))
regroup a0 a1 a2 a3 a4 a5 a6 a7 a8 a9 a10 a11 a12 a13 a14 = simp append_assoc

-- ---- the parts of the view

module _ (y : Seen) where
  abbrev t : Tables
  t = y.tables

  thread-text : (i : ℕ) → row_text (views.row_of y 2 i) ≡ rows_bytes (thread_row t i ∷ [])
  unfolding row_text views.row_of table_row tables.thread_row
  thread-text i =
      rw (no_rows, thread-letters, wait-is (row_of t i).state (row_of t i).place, signed_is (row_of t i).message, signed_is (row_of t i).answer.message)
      (list-row (116 ∷ 104 ∷ 114 ∷ 101 ∷ 97 ∷ 100 ∷ []) (thread_row t i).others [])
      ∙ alone (row_bytes (thread_row t i).first (thread_row t i).others)

  semaphore-text : (i : ℕ)
      → row_text (views.row_of y 3 i)
      ≡ rows_bytes (pair_row (115 ∷ 101 ∷ 109 ∷ 97 ∷ 112 ∷ 104 ∷ 111 ∷ 114 ∷ 101 ∷ []) (Word.plain i) (signed_word ((found t).counter i)) ∷ [])
  unfolding rows word_text views.row_of table_row
  semaphore-text i = pair-row _ _ (Number i) (Signed ((found t).counter i)) (Word.plain i) (signed_word ((found t).counter i)) refl refl (signed-field ((found t).counter i))

  queue-text : (i : ℕ)
      → row_text (views.row_of y 4 i) ≡ rows_bytes (pair_row (113 ∷ 117 ∷ 101 ∷ 117 ∷ 101 ∷ []) (Word.plain i) (signed_word ((found t).counter (20 + i))) ∷ [])
  unfolding rows word_text views.row_of table_row
  queue-text i =
      pair-row (113 ∷ 117 ∷ 101 ∷ 117 ∷ 101 ∷ 0 ∷ 0 ∷ 0 ∷ 0 ∷ []) _ (Number i) (Signed ((found t).counter (20 + i))) (Word.plain i) (signed_word ((found t).counter (20 + i))) refl refl
      (signed-field ((found t).counter (20 + i)))

  reference-text : (i : ℕ)
      → row_text (views.row_of y 5 i)
      ≡ rows_bytes (pair_row (114 ∷ 101 ∷ 102 ∷ 101 ∷ 114 ∷ 101 ∷ 110 ∷ 99 ∷ 101 ∷ []) (Word.plain i) (Word.plain ((found t).holder i)) ∷ [])
  unfolding rows word_text views.row_of table_row
  reference-text i = pair-row (114 ∷ 101 ∷ 102 ∷ 101 ∷ 114 ∷ 101 ∷ 110 ∷ 99 ∷ 101 ∷ []) _ (Number i) (Number ((found t).holder i)) (Word.plain i) (Word.plain ((found t).holder i)) refl refl refl

  mailbox-text : (i : ℕ) → row_text (views.row_of y 6 i) ≡ rows_bytes (mailbox_row t i ∷ [])
  unfolding row_text views.row_of table_row tables.mailbox_row
  mailbox-text i =
      let slot : ℕ → ℕ = λ j. get_or ((found t).box i).messages j 0 in
      let first : List Word = Word.plain i ∷ Word.plain ((found t).box i).positions.read ∷ Word.plain ((found t).box i).positions.write
      ∷ Word.plain ((found t).box i).positions.count ∷ Word.plain (cond (eqb ((found t).box i).reset 0) 0 1)
      ∷ signed_word ((found t).counter (28 + i)) ∷ signed_word ((found t).counter (32 + i)) ∷ [] in
      let row : row_text (views.row_of y 6 i) ≡ row_bytes (mailbox_row t i).first (mailbox_row t i).others =
      rw (
        mailbox-letters,
        signed_is ((found t).counter (28 + i)),
        signed_is ((found t).counter (32 + i)),
        listed-text (few (get_or t.sizes.slots i 0) 16) (λ j. Signed (to_z w32 (slot j))) (λ j. signed_word (signed (slot j)))
            (λ j. signed-field (to_z w32 (slot j)) ∙ ap (λ (m : ℤ). 32 ∷ word_bytes (signed_word m)) (signed-read (slot j))),
      )
      (list-row (109 ∷ 97 ∷ 105 ∷ 108 ∷ 98 ∷ 111 ∷ 120 ∷ []) first (listed_words (few (get_or t.sizes.slots i 0) 16) (λ j. signed_word (signed (slot j))))) in
      row ∙ alone (row_bytes (mailbox_row t i).first (mailbox_row t i).others)

  pool-text : (i : ℕ) → row_text (views.row_of y 7 i) ≡ rows_bytes (pool_row t i ∷ [])
  unfolding row_text views.row_of table_row tables.pool_row free_row marks_row
  pool-text i =
      let p = (found t).pool (i / 2) in
      split (eqb (i % 2) 0)
      (λ e.
      let row : row_text (free_row (i / 2) p ((found t).counter (16 + i / 2))) ≡ row_bytes (Word.letters (112 ∷ 111 ∷ 111 ∷ 108 ∷ []))
      ((Word.plain (i / 2) ∷ signed_word ((found t).counter (16 + i / 2)) ∷ Word.plain p.length ∷ []) ++ listed_words (few p.length 32) (λ j. Word.plain (get_or p.list j 0))) =
      rw (
        pool-letters,
        signed_is ((found t).counter (16 + i / 2)),
        listed-text (few p.length 32) (λ j. Number (get_or p.list j 0)) (λ j. Word.plain (get_or p.list j 0)) (λ j. refl),
      )
      (list-row (112 ∷ 111 ∷ 111 ∷ 108 ∷ []) (Word.plain (i / 2) ∷ signed_word ((found t).counter (16 + i / 2)) ∷ Word.plain p.length ∷ [])
      (listed_words (few p.length 32) (λ j. Word.plain (get_or p.list j 0)))) in
      rw e
      (row
      ∙ alone
      (row_bytes (Word.letters (112 ∷ 111 ∷ 111 ∷ 108 ∷ []))
      ((Word.plain (i / 2) ∷ signed_word ((found t).counter (16 + i / 2)) ∷ Word.plain p.length ∷ []) ++ listed_words (few p.length 32) (λ j. Word.plain (get_or p.list j 0))))))
      (λ e.
      let row : row_text (marks_row (i / 2) p) ≡ row_bytes (Word.letters (109 ∷ 97 ∷ 114 ∷ 107 ∷ 115 ∷ []))
      ((Word.plain (i / 2) ∷ []) ++ listed_words 32 (λ j. Word.plain (get_or p.marks j 0))) =
      rw (marks-letters, listed-text 32 (λ j. Number (get_or p.marks j 0)) (λ j. Word.plain (get_or p.marks j 0)) (λ j. refl))
      (list-row (109 ∷ 97 ∷ 114 ∷ 107 ∷ 115 ∷ []) (Word.plain (i / 2) ∷ []) (listed_words 32 (λ j. Word.plain (get_or p.marks j 0)))) in
      rw e
      (row
      ∙ alone (row_bytes (Word.letters (109 ∷ 97 ∷ 114 ∷ 107 ∷ 115 ∷ [])) ((Word.plain (i / 2) ∷ []) ++ listed_words 32 (λ j. Word.plain (get_or p.marks j 0))))))

  ready-text : row_text (views.row_of y 8 0) ≡ rows_bytes (record { first = Word.letters (114 ∷ 101 ∷ 97 ∷ 100 ∷ 121 ∷ []); others = Word.plain t.kernel.words.ready ∷ [] } ∷ [])
  unfolding rows word_text views.row_of word_row
  ready-text = one-row (114 ∷ 101 ∷ 97 ∷ 100 ∷ 121 ∷ 0 ∷ 0 ∷ 0 ∷ 0 ∷ []) _ (Number t.kernel.words.ready) (Word.plain t.kernel.words.ready) refl refl

  -- who waits at a place
  at_place : (p : ℕ) → row_text (brief (119 ∷ 97 ∷ 105 ∷ 116 ∷ 105 ∷ 110 ∷ 103 ∷ 0 ∷ 0 ∷ []) (place_item p) (Number (get_or t.kernel.words.waiting p 0))) ≡ rows_bytes (waiting_row t p ∷ [])
  unfolding rows word_text
  at_place p =
      pair-row (119 ∷ 97 ∷ 105 ∷ 116 ∷ 105 ∷ 110 ∷ 103 ∷ 0 ∷ 0 ∷ []) _ (place_item p) (Number (get_or t.kernel.words.waiting p 0)) (place_word p)
      (Word.plain (get_or t.kernel.words.waiting p 0)) refl (place_is p) refl

  semaphore-words : (i : ℕ) → row_text (views.row_of y 9 i) ≡ rows_bytes (waiting_row t i ∷ [])
  unfolding views.row_of word_row
  semaphore-words i = at_place i

  queue-words : (i : ℕ) → row_text (views.row_of y 10 i) ≡ rows_bytes (waiting_row t (20 + i) ∷ [])
  unfolding views.row_of word_row
  queue-words i = at_place (20 + i)

  mailbox-words : (i : ℕ) → row_text (views.row_of y 11 i) ≡ rows_bytes (waiting_row t (28 + 4 * (i % 2) + i / 2) ∷ [])
  unfolding views.row_of word_row
  mailbox-words i = at_place (28 + 4 * (i % 2) + i / 2)

  pool-words : (i : ℕ) → row_text (views.row_of y 12 i) ≡ rows_bytes (waiting_row t (16 + i) ∷ [])
  unfolding views.row_of word_row
  pool-words i = at_place (16 + i)

  step-text : row_text (views.row_of y 0 0)
      ≡ rows_bytes
      (record {
        first = Word.plain y.number;
        others = Word.plain y.outcome.code ∷ Word.plain y.outcome.running ∷ Word.plain y.outcome.woken ∷ Word.plain y.outcome.finished ∷ [];
      }
      ∷ [])
  unfolding views.row_of step_row step_line
  step-text =
      four-row y.number y.outcome.code y.outcome.running y.outcome.woken y.outcome.finished
      ∙ alone (row_bytes (Word.plain y.number) (Word.plain y.outcome.code ∷ Word.plain y.outcome.running ∷ Word.plain y.outcome.woken ∷ Word.plain y.outcome.finished ∷ []))

  answer-text : row_text (views.row_of y 1 0) ≡ rows_bytes (pair_row (97 ∷ 110 ∷ 115 ∷ 119 ∷ 101 ∷ 114 ∷ []) (signed_word y.outcome.message) (Word.plain y.outcome.datum) ∷ [])
  unfolding rows word_text views.row_of step_row
  answer-text =
      pair-row (97 ∷ 110 ∷ 115 ∷ 119 ∷ 101 ∷ 114 ∷ 0 ∷ 0 ∷ 0 ∷ []) _ (Signed y.outcome.message) (Number y.outcome.datum) (signed_word y.outcome.message)
      (Word.plain y.outcome.datum) refl (signed-field y.outcome.message) refl

  clock-text : row_text (views.row_of y 13 0) ≡ rows_bytes (pair_row (99 ∷ 108 ∷ 111 ∷ 99 ∷ 107 ∷ []) (Word.plain y.clock.time.0) (Word.plain y.clock.frequency) ∷ [])
  unfolding rows word_text views.row_of step_row
  clock-text =
      pair-row (99 ∷ 108 ∷ 111 ∷ 99 ∷ 107 ∷ 0 ∷ 0 ∷ 0 ∷ 0 ∷ []) _ (Number y.clock.time.0) (Number y.clock.frequency) (Word.plain y.clock.time.0)
      (Word.plain y.clock.frequency) refl refl refl

  steps-text : row_text (views.row_of y 14 0) ≡ rows_bytes (record { first = Word.letters (115 ∷ 116 ∷ 101 ∷ 112 ∷ 115 ∷ []); others = Word.plain t.kernel.steps ∷ [] } ∷ [])
  unfolding rows word_text views.row_of step_row
  steps-text = one-row (115 ∷ 116 ∷ 101 ∷ 112 ∷ 115 ∷ 0 ∷ 0 ∷ 0 ∷ 0 ∷ []) _ (Number t.kernel.steps) (Word.plain t.kernel.steps) refl refl

  abbrev rows-0 : List Row
  rows-0 = (record {
    first = Word.plain y.number;
    others = Word.plain y.outcome.code ∷ Word.plain y.outcome.running ∷ Word.plain y.outcome.woken ∷ Word.plain y.outcome.finished ∷ [];
  }
      ∷ [])

  part-0 : part_text y 0 ≡ rows_bytes rows-0
  unfolding rows rows_in head_text part_text
  part-0 = step-text

  abbrev rows-1 : List Row
  rows-1 = (pair_row (97 ∷ 110 ∷ 115 ∷ 119 ∷ 101 ∷ 114 ∷ []) (signed_word y.outcome.message) (Word.plain y.outcome.datum) ∷ [])

  part-1 : part_text y 1 ≡ rows_bytes rows-1
  unfolding rows rows_in head_text part_text
  part-1 = answer-text

  abbrev rows-2 : List Row
  rows-2 = in_order (few t.sizes.threads 16) (λ i. thread_row t i ∷ [])

  part-2 : part_text y 2 ≡ rows_bytes rows-2
  unfolding rows_in head_text part_text
  part-2 = rows-in-order (few t.sizes.threads 16) (λ i. row_text (views.row_of y 2 i)) (λ i. thread_row t i ∷ []) thread-text

  abbrev rows-3 : List Row
  rows-3 = in_order (few t.sizes.semaphores 16) (λ i. pair_row (115 ∷ 101 ∷ 109 ∷ 97 ∷ 112 ∷ 104 ∷ 111 ∷ 114 ∷ 101 ∷ []) (Word.plain i) (signed_word ((found t).counter i)) ∷ [])

  part-3 : part_text y 3 ≡ rows_bytes rows-3
  unfolding rows_in head_text part_text
  part-3 = rows-in-order (few t.sizes.semaphores 16) (λ i. row_text (views.row_of y 3 i)) (λ i. pair_row (115 ∷ 101 ∷ 109 ∷ 97 ∷ 112 ∷ 104 ∷ 111 ∷ 114 ∷ 101 ∷ []) (Word.plain i) (signed_word ((found t).counter i)) ∷ []) semaphore-text

  abbrev rows-4 : List Row
  rows-4 = in_order (few t.sizes.queues 8) (λ i. pair_row (113 ∷ 117 ∷ 101 ∷ 117 ∷ 101 ∷ []) (Word.plain i) (signed_word ((found t).counter (20 + i))) ∷ [])

  part-4 : part_text y 4 ≡ rows_bytes rows-4
  unfolding rows_in head_text part_text
  part-4 = rows-in-order (few t.sizes.queues 8) (λ i. row_text (views.row_of y 4 i)) (λ i. pair_row (113 ∷ 117 ∷ 101 ∷ 117 ∷ 101 ∷ []) (Word.plain i) (signed_word ((found t).counter (20 + i))) ∷ []) queue-text

  abbrev rows-5 : List Row
  rows-5 = in_order (few t.sizes.references 8) (λ i. pair_row (114 ∷ 101 ∷ 102 ∷ 101 ∷ 114 ∷ 101 ∷ 110 ∷ 99 ∷ 101 ∷ []) (Word.plain i) (Word.plain ((found t).holder i)) ∷ [])

  part-5 : part_text y 5 ≡ rows_bytes rows-5
  unfolding rows_in head_text part_text
  part-5 = rows-in-order (few t.sizes.references 8) (λ i. row_text (views.row_of y 5 i)) (λ i. pair_row (114 ∷ 101 ∷ 102 ∷ 101 ∷ 114 ∷ 101 ∷ 110 ∷ 99 ∷ 101 ∷ []) (Word.plain i) (Word.plain ((found t).holder i)) ∷ []) reference-text

  abbrev rows-6 : List Row
  rows-6 = in_order (few t.sizes.mailboxes 4) (λ i. mailbox_row t i ∷ [])

  part-6 : part_text y 6 ≡ rows_bytes rows-6
  unfolding rows_in head_text part_text
  part-6 = rows-in-order (few t.sizes.mailboxes 4) (λ i. row_text (views.row_of y 6 i)) (λ i. mailbox_row t i ∷ []) mailbox-text

  abbrev rows-7 : List Row
  rows-7 = in_order (2 * few t.sizes.pools 4) (λ i. pool_row t i ∷ [])

  part-7 : part_text y 7 ≡ rows_bytes rows-7
  unfolding rows_in head_text part_text
  part-7 = rows-in-order (2 * few t.sizes.pools 4) (λ i. row_text (views.row_of y 7 i)) (λ i. pool_row t i ∷ []) pool-text

  abbrev rows-8 : List Row
  rows-8 = (record { first = Word.letters (114 ∷ 101 ∷ 97 ∷ 100 ∷ 121 ∷ []); others = Word.plain t.kernel.words.ready ∷ [] } ∷ [])

  part-8 : part_text y 8 ≡ rows_bytes rows-8
  unfolding rows rows_in head_text part_text
  part-8 = ready-text

  abbrev rows-9 : List Row
  rows-9 = in_order (few t.sizes.semaphores 16) (λ i. waiting_row t i ∷ [])

  part-9 : part_text y 9 ≡ rows_bytes rows-9
  unfolding rows_in head_text part_text
  part-9 = rows-in-order (few t.sizes.semaphores 16) (λ i. row_text (views.row_of y 9 i)) (λ i. waiting_row t i ∷ []) semaphore-words

  abbrev rows-10 : List Row
  rows-10 = in_order (few t.sizes.queues 8) (λ i. waiting_row t (20 + i) ∷ [])

  part-10 : part_text y 10 ≡ rows_bytes rows-10
  unfolding rows_in head_text part_text
  part-10 = rows-in-order (few t.sizes.queues 8) (λ i. row_text (views.row_of y 10 i)) (λ i. waiting_row t (20 + i) ∷ []) queue-words

  abbrev rows-11 : List Row
  rows-11 = in_order (2 * few t.sizes.mailboxes 4) (λ i. waiting_row t (28 + 4 * (i % 2) + i / 2) ∷ [])

  part-11 : part_text y 11 ≡ rows_bytes rows-11
  unfolding rows_in head_text part_text
  part-11 = rows-in-order (2 * few t.sizes.mailboxes 4) (λ i. row_text (views.row_of y 11 i)) (λ i. waiting_row t (28 + 4 * (i % 2) + i / 2) ∷ []) mailbox-words

  abbrev rows-12 : List Row
  rows-12 = in_order (few t.sizes.pools 4) (λ i. waiting_row t (16 + i) ∷ [])

  part-12 : part_text y 12 ≡ rows_bytes rows-12
  unfolding rows_in head_text part_text
  part-12 = rows-in-order (few t.sizes.pools 4) (λ i. row_text (views.row_of y 12 i)) (λ i. waiting_row t (16 + i) ∷ []) pool-words

  abbrev rows-13 : List Row
  rows-13 = (pair_row (99 ∷ 108 ∷ 111 ∷ 99 ∷ 107 ∷ []) (Word.plain y.clock.time.0) (Word.plain y.clock.frequency) ∷ [])

  part-13 : part_text y 13 ≡ rows_bytes rows-13
  unfolding rows rows_in head_text part_text
  part-13 = clock-text

  abbrev rows-14 : List Row
  rows-14 = (record { first = Word.letters (115 ∷ 116 ∷ 101 ∷ 112 ∷ 115 ∷ []); others = Word.plain t.kernel.steps ∷ [] } ∷ [])

  part-14 : part_text y 14 ≡ rows_bytes rows-14
  unfolding rows rows_in head_text part_text
  part-14 = steps-text

  all-parts : parts_text y 0 15
      ≡ (((((((((((((part_text y 0 ++ part_text y 1) ++ part_text y 2) ++ part_text y 3) ++ part_text y 4) ++ part_text y 5) ++ part_text y 6) ++ part_text y 7) ++ part_text y 8) ++ part_text y 9) ++ part_text y 10) ++ part_text y 11) ++ part_text y 12) ++ part_text y 13) ++ part_text y 14
  unfolding rows parts_text
  all-parts = refl

  -- one text behind another
  behind : (a b : List Row) (l m : List ℕ) → l ≡ rows_bytes a → m ≡ rows_bytes b → l ++ m ≡ rows_bytes (a ++ b)
  behind a b l m e f = ap (λ (k : List ℕ). k ++ m) e ∙ ap (λ (k : List ℕ). rows_bytes a ++ k) f ∙ sym (rows_append a b)

  tables-part : part_text y 2 ++ (part_text y 3 ++ (part_text y 4 ++ (part_text y 5 ++ (part_text y 6 ++ (part_text y 7 ++ (part_text y 8 ++ (part_text y 9 ++ (part_text y 10 ++ (part_text y 11 ++ (part_text y 12)))))))))) ≡ rows_bytes (table_rows t)
  tables-part = behind rows-2 (rows-3 ++ (rows-4 ++ (rows-5 ++ (rows-6 ++ (rows-7 ++ (rows-8 ++ (rows-9 ++ (rows-10 ++ (rows-11 ++ (rows-12)))))))))) (part_text y 2) (part_text y 3 ++ (part_text y 4 ++ (part_text y 5 ++ (part_text y 6 ++ (part_text y 7 ++ (part_text y 8 ++ (part_text y 9 ++ (part_text y 10 ++ (part_text y 11 ++ (part_text y 12)))))))))) part-2 (behind rows-3 (rows-4 ++ (rows-5 ++ (rows-6 ++ (rows-7 ++ (rows-8 ++ (rows-9 ++ (rows-10 ++ (rows-11 ++ (rows-12))))))))) (part_text y 3) (part_text y 4 ++ (part_text y 5 ++ (part_text y 6 ++ (part_text y 7 ++ (part_text y 8 ++ (part_text y 9 ++ (part_text y 10 ++ (part_text y 11 ++ (part_text y 12))))))))) part-3 (behind rows-4 (rows-5 ++ (rows-6 ++ (rows-7 ++ (rows-8 ++ (rows-9 ++ (rows-10 ++ (rows-11 ++ (rows-12)))))))) (part_text y 4) (part_text y 5 ++ (part_text y 6 ++ (part_text y 7 ++ (part_text y 8 ++ (part_text y 9 ++ (part_text y 10 ++ (part_text y 11 ++ (part_text y 12)))))))) part-4 (behind rows-5 (rows-6 ++ (rows-7 ++ (rows-8 ++ (rows-9 ++ (rows-10 ++ (rows-11 ++ (rows-12))))))) (part_text y 5) (part_text y 6 ++ (part_text y 7 ++ (part_text y 8 ++ (part_text y 9 ++ (part_text y 10 ++ (part_text y 11 ++ (part_text y 12))))))) part-5 (behind rows-6 (rows-7 ++ (rows-8 ++ (rows-9 ++ (rows-10 ++ (rows-11 ++ (rows-12)))))) (part_text y 6) (part_text y 7 ++ (part_text y 8 ++ (part_text y 9 ++ (part_text y 10 ++ (part_text y 11 ++ (part_text y 12)))))) part-6 (behind rows-7 (rows-8 ++ (rows-9 ++ (rows-10 ++ (rows-11 ++ (rows-12))))) (part_text y 7) (part_text y 8 ++ (part_text y 9 ++ (part_text y 10 ++ (part_text y 11 ++ (part_text y 12))))) part-7 (behind rows-8 (rows-9 ++ (rows-10 ++ (rows-11 ++ (rows-12)))) (part_text y 8) (part_text y 9 ++ (part_text y 10 ++ (part_text y 11 ++ (part_text y 12)))) part-8 (behind rows-9 (rows-10 ++ (rows-11 ++ (rows-12))) (part_text y 9) (part_text y 10 ++ (part_text y 11 ++ (part_text y 12))) part-9 (behind rows-10 (rows-11 ++ (rows-12)) (part_text y 10) (part_text y 11 ++ (part_text y 12)) part-10 (behind rows-11 (rows-12) (part_text y 11) (part_text y 12) part-11 (part-12))))))))))

  whole-text : parts_text y 0 15 ≡ rows_bytes (rows-0 ++ (rows-1 ++ (table_rows t ++ (rows-13 ++ rows-14))))
  whole-text =
      all-parts
      ∙ regroup (part_text y 0) (part_text y 1) (part_text y 2) (part_text y 3) (part_text y 4) (part_text y 5) (part_text y 6) (part_text y 7) (part_text y 8) (part_text y 9) (part_text y 10) (part_text y 11) (part_text y 12) (part_text y 13) (part_text y 14)
      ∙ behind rows-0 (rows-1 ++ (table_rows t ++ (rows-13 ++ rows-14))) (part_text y 0) (part_text y 1 ++ ((part_text y 2 ++ (part_text y 3 ++ (part_text y 4 ++ (part_text y 5 ++ (part_text y 6 ++ (part_text y 7 ++ (part_text y 8 ++ (part_text y 9 ++ (part_text y 10 ++ (part_text y 11 ++ (part_text y 12))))))))))) ++ (part_text y 13 ++ part_text y 14))) part-0
      (behind rows-1 (table_rows t ++ (rows-13 ++ rows-14)) (part_text y 1) ((part_text y 2 ++ (part_text y 3 ++ (part_text y 4 ++ (part_text y 5 ++ (part_text y 6 ++ (part_text y 7 ++ (part_text y 8 ++ (part_text y 9 ++ (part_text y 10 ++ (part_text y 11 ++ (part_text y 12))))))))))) ++ (part_text y 13 ++ part_text y 14)) part-1
      (behind (table_rows t) (rows-13 ++ rows-14) (part_text y 2 ++ (part_text y 3 ++ (part_text y 4 ++ (part_text y 5 ++ (part_text y 6 ++ (part_text y 7 ++ (part_text y 8 ++ (part_text y 9 ++ (part_text y 10 ++ (part_text y 11 ++ (part_text y 12))))))))))) (part_text y 13 ++ part_text y 14) tables-part
      (behind rows-13 rows-14 (part_text y 13) (part_text y 14) part-13 part-14)))

pub whole-lines : (n : ℕ) (x : Seen) (s : Step) → WholeLines stepped n (moment_by stepped x.tables x.clock s) (parts_text (seen_after n x s) 0 15)
unfolding seen_after
whole-lines n x s = rw (whole-text (seen_after n x s)) (rows_is (all_rows n (moment_by stepped x.tables x.clock s) (stepped x.tables x.clock s).clock))
