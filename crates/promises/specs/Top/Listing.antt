-- THE LISTING'S TEXT: "The program prints in decimal the heading, a line per step (record number, code, running, woken, finished), and at a bad
-- record `stopped`, its number (0 for 15 and 11), the code; then it ends." `ListingTold` (`Paper.Listing`) says it of any kernel and any text;
-- here it is of `stepped` and of the text that crates/text puts into its buffer.
use Rattle.std.specs.Prelude.{ℕ, ◌≡◌, refl, List, [], ◌∷◌}
use Rattle.std.proofs.Common.{sym, ◌∙◌}
use Rattle.library.specs.declared.calls.Step.{Step}
use Rattle.library.specs.Sizes.{no_sizes, sizes_fit}
use Rattle.steps.specs.Refusal.{refusal_of}
use Rattle.steps.specs.Stepping.{mask_of, outcome_of, done_with, refused_with, stepped}
use Rattle.kernel.specs.Walk.{first_from, all_from, count_of}
use Rattle.kernel.specs.Words.{word_of, first_of}
use Rattle.kernel.specs.Waiters.{first_ready, first_waiter}
use Rattle.kernel.specs.Moves.{taken_off, put_on, woken, slept, finished, blocked}
use Rattle.kernel.specs.Queue.{enqueued, released_first, released_all}
use Rattle.kernel.specs.Semaphore.{taken, waited, signalled}
use Rattle.kernel.specs.Ticking.{ticked}
use Rattle.library.specs.Ring.{positions_fit}
use Rattle.library.specs.Fresh.{made}
use Rattle.library.specs.Acting.{signal_acted, call_made, effected, acted_on_kernel, acted}
use Rattle.library.specs.Settling.{went_on, settled}
use Rattle.rules.specs.RowRules.{call_fits, wait_fits, ticks_fit, flags_fit, row_fits, rows_fit}
use Rattle.rules.specs.PlaceRules.{queued_count, counters_fit}
use Rattle.rules.specs.WordRules.{ready_word, waiting_word, ready_fits, waiting_fits, words_fit}
use Rattle.rules.specs.ReferenceRules.{holder_fits, references_fit}
use Rattle.rules.specs.MailboxRules.{mailboxes_fit}
use Rattle.rules.specs.PoolRules.{promised_count, occurrences, entries_fit, objects_fit, pool_fits, pools_fit}
use Rattle.rules.specs.Hanging.{hangs_together}
use Rattle.trace.specs.Ordered.{get_n}
use Rattle.trace.specs.Decoding.{ends_inside, length_refusal, step_refusal, decoded_sizes, decoded_step, opened_read, stepped_read, next_read}
use Rattle.trace.specs.Traces.{read_from, read_all}
use Rattle.accounts.specs.Account.{fresh_account, entered}
use Rattle.accounts.specs.Accounting.{threads_entered, accounted_step}
use Rattle.text.specs.declared.views.Seen.{Seen}
use Rattle.text.specs.declared.views.View.TheVariants.{Lines, AllTables, Wakings, Sums}
use Rattle.buffers.specs.Put.{rows}
use Rattle.text.specs.Rows.{word_text, row_text}
use Rattle.buffers.specs.Decimal.{digits_n, decimal}
use Rattle.text.specs.Views.{step_line, step_row, row_of, rows_in, head_text, part_text, parts_text, fresh_seen, seen_after, records_text, view_text}
use Rattle.promises.specs.Paper.Time.{Possible}
use Rattle.promises.specs.Paper.Listing.{StepLine, list_heading, ListingTold, TablesTold, WhyTold, AccountTold}
use Rattle.promises.specs.Paper.Run.{moment_by}
use Rattle.promises.specs.Code.Listing.{listing_text, tables_text, why_text, account_text}
use Rattle.promises.specs.Code.Steps.{tallied}
use Rattle.promises.specs.Meant.Accounting.{account-end, account-alike}
use Rattle.promises.specs.Meant.AllTables.{whole-lines}
use Rattle.promises.specs.Meant.Printing.{rows-one, why-heading, waking-lines}
use Rattle.promises.specs.Top.Facts.{six_steps}
use Rattle.promises.specs.Meant.Listing.{line_text, line-is, line-one, numbers-line, last_seen, view-told, view-any}

heading-is : parts_text (fresh_seen no_sizes) 20 1 ≡ list_heading
unfolding rows rows_in head_text part_text parts_text
heading-is = refl

-- a step's part is its line
step-text : (n : ℕ) (x : Seen) (s : Step)
    → parts_text (seen_after n x s) 0 1
    ≡ line_text n ((seen_after n x s).outcome.code ∷ (seen_after n x s).outcome.running ∷ (seen_after n x s).outcome.woken ∷ (seen_after n x s).outcome.finished ∷ [])
unfolding rows word_text row_text step_line step_row row_of rows_in head_text part_text parts_text seen_after
step-text n x s =
    numbers-line n ((seen_after n x s).outcome.code ∷ (seen_after n x s).outcome.running ∷ (seen_after n x s).outcome.woken ∷ (seen_after n x s).outcome.finished ∷ [])

step-line-is : (n : ℕ) (x : Seen) (s : Step) → StepLine n (moment_by stepped x.tables x.clock s) (parts_text (seen_after n x s) 0 1)
unfolding seen_after
step-line-is n x s = rw (step-text n x s) (line-is n ((seen_after n x s).outcome.code ∷ (seen_after n x s).outcome.running ∷ (seen_after n x s).outcome.woken ∷ (seen_after n x s).outcome.finished ∷ []))

nothing-shown : (x : Seen) → parts_text x 0 0 ≡ []
unfolding rows parts_text
nothing-shown x = refl

-- the text of a listing is document 01's, of every trace, and no other; it is the same text at whatever frequency
pub listing-told : (f : ℕ) → Possible f → ListingTold f stepped listing_text
listing-told =
    view-any Lines _ _ _ heading-is step-line-is (λ z xs. nothing-shown (last_seen 1 (fresh_seen z) xs)) (λ n m a b p q. line-one p ∙ sym (line-one q))
    (λ m ms a b p q. p ∙ sym q) (λ n m d a p. p) (λ m o ms ns a e r p. p)

-- with all tables, where the program gives the frequency 1000: behind each step's line its answer and all tables, in the order and with the
-- fields of docs/LISTING.md; and no other text
pub tables-told : TablesTold 1000 stepped tables_text
tables-told =
    view-told AllTables _ _ _ heading-is whole-lines (λ z xs. nothing-shown (last_seen 1 (fresh_seen z) xs)) (λ n m a b p q. rows-one p ∙ sym (rows-one q))
    (λ m ms a b p q. p ∙ sym q)

-- why threads woke: a row for each thread that a step has woken, by step and thread, of every trace, and no other text
pub wakings-told : (f : ℕ) → Possible f → WhyTold f stepped why_text
wakings-told =
    view-any Wakings _ _ _ why-heading waking-lines (λ z xs. nothing-shown (last_seen 1 (fresh_seen z) xs)) (λ n m a b p q. rows-one p ∙ sym (rows-one q))
    (λ m ms a b p q. p ∙ sym q) (λ n m d a p. p) (λ m o ms ns a e r p. p)

-- the account: three headings, and after each its rows, of the account that the run comes to and of the tables behind it; and no other text.
-- That this account is the history's is `account-printed-fresh`
pub account-told : (f : ℕ) → Possible f → AccountTold f stepped (λ ms. tallied 1 fresh_account ms) account_text
account-told =
    view-any Sums _ _ _ (nothing-shown (fresh_seen no_sizes)) (λ n x s. nothing-shown (seen_after n x s)) account-end (λ n m a b p q. p ∙ sym q)
    (λ m ms a b p q. rows-one p ∙ sym (rows-one q)) (λ n m d a p. p) account-alike

-- ---- the example

-- document 01's heading and six lines, as it prints them
abbrev pub six_lines : List ℕ
six_lines =
    115 ∷ 116 ∷ 101 ∷ 112 ∷ 32 ∷ 99 ∷ 111 ∷ 100 ∷ 101 ∷ 32 ∷ 114 ∷ 117 ∷ 110 ∷ 32 ∷ 119 ∷ 111 ∷ 107 ∷ 101 ∷ 32 ∷ 100 ∷ 111 ∷ 110 ∷ 101 ∷ 10
    ∷ 49 ∷ 32 ∷ 48 ∷ 32 ∷ 49 ∷ 32 ∷ 48 ∷ 32 ∷ 48 ∷ 10
    ∷ 50 ∷ 32 ∷ 48 ∷ 32 ∷ 48 ∷ 32 ∷ 49 ∷ 32 ∷ 51 ∷ 10
    ∷ 51 ∷ 32 ∷ 48 ∷ 32 ∷ 49 ∷ 32 ∷ 48 ∷ 32 ∷ 48 ∷ 10
    ∷ 52 ∷ 32 ∷ 48 ∷ 32 ∷ 49 ∷ 32 ∷ 48 ∷ 32 ∷ 48 ∷ 10
    ∷ 53 ∷ 32 ∷ 48 ∷ 32 ∷ 48 ∷ 32 ∷ 49 ∷ 32 ∷ 49 ∷ 10
    ∷ 54 ∷ 32 ∷ 51 ∷ 32 ∷ 48 ∷ 32 ∷ 48 ∷ 32 ∷ 48 ∷ 10
    ∷ []

pub six-listed : listing_text six_steps ≡ six_lines
unfolding first_from all_from count_of word_of first_of first_ready first_waiter taken_off put_on woken slept finished blocked enqueued released_first released_all taken waited signalled ticked sizes_fit made signal_acted call_made effected acted_on_kernel acted went_on settled call_fits wait_fits ticks_fit flags_fit row_fits rows_fit queued_count counters_fit ready_word waiting_word ready_fits waiting_fits words_fit holder_fits references_fit positions_fit mailboxes_fit promised_count occurrences entries_fit objects_fit pool_fits pools_fit hangs_together refusal_of mask_of outcome_of done_with refused_with stepped get_n ends_inside length_refusal step_refusal decoded_sizes decoded_step opened_read stepped_read next_read read_from read_all entered threads_entered accounted_step digits_n decimal rows word_text row_text step_line step_row row_of rows_in head_text part_text parts_text seen_after records_text view_text
six-listed = refl

-- and of an empty trace: `stopped 0 11`
pub none-listed : listing_text [] ≡ 115 ∷ 116 ∷ 101 ∷ 112 ∷ 32 ∷ 99 ∷ 111 ∷ 100 ∷ 101 ∷ 32 ∷ 114 ∷ 117 ∷ 110 ∷ 32 ∷ 119 ∷ 111 ∷ 107 ∷ 101 ∷ 32 ∷ 100 ∷ 111 ∷ 110 ∷ 101 ∷ 10
    ∷ 115 ∷ 116 ∷ 111 ∷ 112 ∷ 112 ∷ 101 ∷ 100 ∷ 32 ∷ 48 ∷ 32 ∷ 49 ∷ 49 ∷ 10
    ∷ []
unfolding first_from all_from count_of word_of first_of first_ready first_waiter taken_off put_on woken slept finished blocked enqueued released_first released_all taken waited signalled ticked sizes_fit made signal_acted call_made effected acted_on_kernel acted went_on settled call_fits wait_fits ticks_fit flags_fit row_fits rows_fit queued_count counters_fit ready_word waiting_word ready_fits waiting_fits words_fit holder_fits references_fit positions_fit mailboxes_fit promised_count occurrences entries_fit objects_fit pool_fits pools_fit hangs_together refusal_of mask_of outcome_of done_with refused_with stepped get_n ends_inside length_refusal step_refusal decoded_sizes decoded_step opened_read stepped_read next_read read_from read_all entered threads_entered accounted_step digits_n decimal rows word_text row_text step_line step_row row_of rows_in head_text part_text parts_text seen_after records_text view_text
none-listed = refl
