-- What is printed of an account is the paper's, row by row: the account that is printed is the run's, and the tables are those behind it.
use Prim.Native.Nat.{ℕ, zero, suc, ◌+◌, ◌*◌, ◌/◌, ◌%◌}
use Rattle.std.proofs.Common.{add-one, sym, subst, ◌∙◌}
use Rattle.std.specs.Prelude.{◌≡◌, get_or}
use Rattle.std.proofs.Math.Path.{refl, ap}
use Rattle.std.proofs.Math.Bool.{Bool}
use mathlib.Core.List.{List, [], ◌∷◌, ◌++◌, append_assoc, append-nil}
use Rattle.std.proofs.Math.Dec.{eqb}
use Rattle.kernel.specs.Walk.{count_of}
use Rattle.kernel.proofs.Cases.{split}
use Rattle.accounts.specs.declared.account.Account.{Account}
use Rattle.accounts.specs.Account.{fresh_account}
use Rattle.accounts.specs.Accounting.{accounted_step}
use Rattle.library.specs.declared.calls.Step.{Step}
use Rattle.library.specs.declared.sizes.Sizes.{Sizes}
use Rattle.library.specs.Told.{Made}
use Rattle.library.specs.declared.tables.Tables.{Tables}
use Rattle.library.specs.Fresh.{made}
use Rattle.steps.specs.Stepping.{stepped}
use Rattle.text.specs.declared.items.Item.TheVariants.{Nothing, Number}
use Rattle.text.specs.declared.views.Seen.{Seen}
use Rattle.buffers.specs.Put.{rows}
use Rattle.text.specs.Rows.{row_text, numbered}
use Rattle.text.specs.Sums.{object_row, mailbox_sums, pool_sums, sum_row}
use Rattle.text.specs.Views.{row_of, rows_in, head_text, part_text, parts_text, listed_rate, fresh_seen, seen_after}
use Rattle.promises.specs.Paper.Together.{number}
use Rattle.promises.specs.Paper.World.{found}
use Rattle.promises.specs.Paper.Run.{Moment, moments_by}
use Rattle.promises.specs.Paper.Ledger.{report_of}
use Rattle.promises.specs.Paper.Listing.{Word, Row, RowsText, few, in_order, mailbox_heading, pool_heading, object_heading}
use Rattle.promises.specs.Paper.Listing.{mailbox_sum, pool_sum, object_sum, account_rows, tables_after, AccountEnd}
use Rattle.promises.specs.Code.Steps.{tallied}
use Rattle.promises.specs.Meant.Together.{number-count}
use Rattle.promises.specs.Meant.Listing.{last_seen}
use Rattle.promises.specs.Runs.Frequency.{Alike}
use Rattle.promises.specs.Meant.Printing.{row_bytes, words_row, rows_bytes, rows_is, rows_append, no-letters, no_rows, no_text}

-- rows in order are the paper's, if each is
pub rows-in-order : (k : ℕ) (f : ℕ → List ℕ) (g : ℕ → List Row) → ((i : ℕ) → f i ≡ rows_bytes (g i)) → rows k f ≡ rows_bytes (in_order k g)
unfolding rows
rows-in-order zero f g h = refl
rows-in-order (suc k) f g h =
    ap (λ (l : List ℕ). l ++ f k) (rows-in-order k f g h) ∙ ap (λ (l : List ℕ). rows_bytes (in_order k g) ++ l) (h k) ∙ sym (rows_append (in_order k g) (g k))

pub four-row : (n a b c d : ℕ) → row_text (numbered n (Number a) (Number b) (Number c) (Number d) Nothing Nothing)
    ≡ row_bytes (Word.plain n) (Word.plain a ∷ Word.plain b ∷ Word.plain c ∷ Word.plain d ∷ [])
unfolding row_text
four-row n a b c d = rw (no-letters, no_rows) (words_row (Word.plain n) (Word.plain a ∷ Word.plain b ∷ Word.plain c ∷ Word.plain d ∷ []))

three-row : (n a b c : ℕ) → row_text (numbered n (Number a) (Number b) (Number c) Nothing Nothing Nothing)
    ≡ row_bytes (Word.plain n) (Word.plain a ∷ Word.plain b ∷ Word.plain c ∷ [])
unfolding row_text
three-row n a b c = rw (no-letters, no_rows) (words_row (Word.plain n) (Word.plain a ∷ Word.plain b ∷ Word.plain c ∷ []))

-- a row alone
pub alone : (l : List ℕ) → l ≡ l ++ []
alone l = sym (append-nil l)

module _ (y : Seen) where
  mailbox-text : (b : ℕ) → row_text (row_of y 17 b) ≡ rows_bytes (mailbox_sum y.account y.tables b ∷ [])
  unfolding row_of sum_row mailbox_sums
  mailbox-text b =
      four-row b (get_or y.account.posted b 0) (get_or y.account.fetched b 0) (get_or y.account.lost b 0) ((found y.tables).box b).positions.count
      ∙ alone (row_bytes (mailbox_sum y.account y.tables b).first (mailbox_sum y.account y.tables b).others)

  pool-text : (q : ℕ) → row_text (row_of y 18 q) ≡ rows_bytes (pool_sum y.account y.tables q ∷ [])
  unfolding row_of sum_row pool_sums
  pool-text q =
      let marked : ℕ → ℕ → Bool = λ m o. eqb (get_or ((found y.tables).pool q).marks o 0) m in
      three-row q (get_or y.account.added q 0) (count_of (marked 1) 32) (count_of (marked 2) 32)
      ∙ ap (λ (k : ℕ). row_bytes (Word.plain q) (Word.plain (get_or y.account.added q 0) ∷ Word.plain k ∷ Word.plain (count_of (marked 2) 32) ∷ [])) (sym (number-count (marked 1) 32))
      ∙ ap (λ (k : ℕ). row_bytes (Word.plain q) (Word.plain (get_or y.account.added q 0) ∷ Word.plain (number (marked 1) 32) ∷ Word.plain k ∷ [])) (sym (number-count (marked 2) 32))
      ∙ alone (row_bytes (pool_sum y.account y.tables q).first (pool_sum y.account y.tables q).others)

  object-text : (i : ℕ) → row_text (row_of y 19 i) ≡ rows_bytes (object_sum y.account y.tables i)
  unfolding row_of sum_row object_row
  object-text i =
      split (eqb (get_or ((found y.tables).pool (i / 32)).marks (i % 32) 0) 2)
      (λ t.
      rw t
      (three-row (i / 32) (i % 32) (get_or y.account.takers i 0) (get_or y.account.steps i 0)
      ∙ alone (row_bytes (Word.plain (i / 32)) (Word.plain (i % 32) ∷ Word.plain (get_or y.account.takers i 0) ∷ Word.plain (get_or y.account.steps i 0) ∷ []))))
      (λ e. rw e no_text)

  abbrev boxes : List Row
  boxes = in_order (few y.tables.sizes.mailboxes 4) (λ b. mailbox_sum y.account y.tables b ∷ [])

  abbrev pools : List Row
  pools = in_order (few y.tables.sizes.pools 4) (λ q. pool_sum y.account y.tables q ∷ [])

  abbrev objects : List Row
  objects = in_order (32 * few y.tables.sizes.pools 4) (λ i. object_sum y.account y.tables i)

  boxes-part : part_text y 17 ≡ rows_bytes (mailbox_heading ∷ boxes)
  unfolding rows_in head_text part_text
  boxes-part = ap (λ (l : List ℕ). row_bytes mailbox_heading.first mailbox_heading.others ++ l) (rows-in-order (few y.tables.sizes.mailboxes 4) (λ b. row_text (row_of y 17 b)) (λ b. mailbox_sum y.account y.tables b ∷ []) mailbox-text)

  pools-part : part_text y 18 ≡ rows_bytes (pool_heading ∷ pools)
  unfolding rows_in head_text part_text
  pools-part = ap (λ (l : List ℕ). row_bytes pool_heading.first pool_heading.others ++ l) (rows-in-order (few y.tables.sizes.pools 4) (λ q. row_text (row_of y 18 q)) (λ q. pool_sum y.account y.tables q ∷ []) pool-text)

  objects-part : part_text y 19 ≡ rows_bytes (object_heading ∷ objects)
  unfolding rows_in head_text part_text
  objects-part = ap (λ (l : List ℕ). row_bytes object_heading.first object_heading.others ++ l) (rows-in-order (32 * few y.tables.sizes.pools 4) (λ i. row_text (row_of y 19 i)) (λ i. object_sum y.account y.tables i) object-text)

  three-parts : parts_text y 17 3 ≡ (part_text y 17 ++ part_text y 18) ++ part_text y 19
  unfolding rows parts_text
  three-parts = refl

  account-text : parts_text y 17 3 ≡ rows_bytes (account_rows y.account y.tables)
  account-text =
      three-parts
      ∙ append_assoc (part_text y 17) (part_text y 18) (part_text y 19)
      ∙ ap (λ (l : List ℕ). l ++ (part_text y 18 ++ part_text y 19)) boxes-part
      ∙ ap (λ (l : List ℕ). rows_bytes (mailbox_heading ∷ boxes) ++ (l ++ part_text y 19)) pools-part
      ∙ ap (λ (l : List ℕ). rows_bytes (mailbox_heading ∷ boxes) ++ (rows_bytes (pool_heading ∷ pools) ++ l)) objects-part
      ∙ ap (λ (l : List ℕ). rows_bytes (mailbox_heading ∷ boxes) ++ l) (sym (rows_append (pool_heading ∷ pools) (object_heading ∷ objects)))
      ∙ sym (rows_append (mailbox_heading ∷ boxes) ((pool_heading ∷ pools) ++ (object_heading ∷ objects)))

-- the account and the tables behind the last step are the run's
last-account : (n : ℕ) (x : Seen) (ss : List Step)
    → (last_seen n x ss).account ≡ tallied n x.account (moments_by stepped x.tables x.clock ss)
unfolding seen_after
last-account n x [] = refl
last-account n x (s ∷ ss) =
    last-account (n + 1) (seen_after n x s) ss
    ∙ ap (λ (k : ℕ). tallied k (seen_after n x s).account (moments_by stepped (seen_after n x s).tables (seen_after n x s).clock ss)) (add-one n)

last-tables : (n : ℕ) (x : Seen) (ss : List Step) → (last_seen n x ss).tables ≡ tables_after x.tables (moments_by stepped x.tables x.clock ss)
unfolding seen_after
last-tables n x [] = refl
last-tables n x (s ∷ ss) = last-tables (n + 1) (seen_after n x s) ss

pub account-end : (z : Sizes) (xs : List Step)
    → AccountEnd (λ ms. tallied 1 fresh_account ms) (made z listed_rate) (moments_by stepped (made z listed_rate).tables (made z listed_rate).clock xs)
    (parts_text (last_seen 1 (fresh_seen z) xs) 17 3)
account-end z xs =
    let y : Seen = last_seen 1 (fresh_seen z) xs in
    let ms : List Moment = moments_by stepped (made z listed_rate).tables (made z listed_rate).clock xs in
    rw (account-text y)
    (subst (λ (t : Tables). RowsText (account_rows (tallied 1 fresh_account ms) (tables_after (made z listed_rate).tables ms)) (rows_bytes (account_rows y.account t))) (sym (last-tables 1 (fresh_seen z) xs))
    (subst (λ (a : Account). RowsText (account_rows (tallied 1 fresh_account ms) (tables_after (made z listed_rate).tables ms)) (rows_bytes (account_rows a (tables_after (made z listed_rate).tables ms)))) (sym (last-account 1 (fresh_seen z) xs))
    (rows_is (account_rows (tallied 1 fresh_account ms) (tables_after (made z listed_rate).tables ms)))))

-- of moments that are alike but for their clocks there is one account, and the same tables stand behind them
tally-alike : (n : ℕ) (a : Account) {ms ns : List Moment} → Alike ms ns → tallied n a ms ≡ tallied n a ns
tally-alike n a Alike.none = refl
tally-alike n a (Alike.more {m} r) = tally-alike (suc n) (accounted_step a n m.before m.step (report_of m.result) m.after) r

tables-alike : {t u : Tables} {ms ns : List Moment} → t ≡ u → Alike ms ns → tables_after t ms ≡ tables_after u ns
tables-alike e Alike.none = e
tables-alike e (Alike.more r) = tables-alike refl r

pub account-alike : (m o : Made) (ms ns : List Moment) (l : List ℕ) → m.tables ≡ o.tables → Alike ms ns
    → AccountEnd (λ xs. tallied 1 fresh_account xs) m ms l → AccountEnd (λ xs. tallied 1 fresh_account xs) o ns l
account-alike m o ms ns l e r x = rw (sym (tally-alike 1 fresh_account r), sym (tables-alike e r)) x
