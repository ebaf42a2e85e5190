-- The text of a trace. "The program prints in decimal the heading, a line per step (record number, code, running, woken, finished), and at a
-- bad record `stopped`, its number (0 for 15 and 11), the code; then it ends."
use Rattle.std.specs.Prelude.{◌≡◌, ℕ, zero, suc, ◌+◌, ◌*◌, ◌%◌, cond, List, [], ◌∷◌, ◌++◌, pos, ◌==◌, nat_lt, slice_index_or, Option, Some}
use Rattle.kernel.specs.Tables.{row_in}
use Rattle.kernel.specs.Words.{has_bit}
use Rattle.library.specs.declared.calls.Step.{Step}
use Rattle.library.specs.declared.sizes.Sizes.{Sizes}
use Rattle.library.specs.Fresh.{made}
use Rattle.library.specs.Sizes.{no_sizes}
use Rattle.accounts.specs.Account.{fresh_account}
use Rattle.accounts.specs.Accounting.{call_by, accounted_step}
use Rattle.accounts.specs.declared.accounting.Report.{Report}
use Rattle.steps.specs.declared.stepping.Outcome.{Outcome}
use Rattle.steps.specs.Stepping.{stepped}
use Rattle.trace.specs.Told.{Found, Read}
use Rattle.trace.specs.Decoding.{next_read}
use Rattle.trace.specs.Traces.{Reading, read_all}
use Rattle.text.specs.declared.items.Item.{Item}
use Rattle.text.specs.declared.items.Item.TheVariants.{Nothing, Number, Long, Signed, Cause}
use Rattle.text.specs.declared.items.Line.{Line}
use Rattle.text.specs.declared.views.View.{View}
use Rattle.text.specs.declared.views.View.TheVariants as view
use Rattle.text.specs.declared.views.Parts.{Parts}
use Rattle.text.specs.declared.views.Seen.{Seen}
use Rattle.text.specs.declared.views.Shown.{Shown}
use Rattle.text.specs.declared.views.Listing.{Listing}
use Rattle.buffers.specs.declared.putting.Sheet.{Sheet}
use Rattle.buffers.specs.Put.{Puts, rows}
use Rattle.text.specs.Rows.{row_text, no_row, numbered, brief}
use Rattle.text.specs.Tables.{least, word_row, table_row}
use Rattle.text.specs.Why.{waited_item}
use Rattle.text.specs.Sums.{sum_row}

-- ---- parts: what stands in their rows

-- `step thread cause object message`: of thread i, if the step has woken it
unfoldable pub waking_row : Seen → ℕ → Line
waking_row x i =
    let is = row_in x.tables.kernel.threads i in
    cond (has_bit x.outcome.woken i)
    (numbered is.step (Number i) (Cause is.cause) (waited_item (call_by x.step i (row_in x.found i).call)) (Signed is.message) Nothing
    Nothing)
    no_row

-- "a line per step (record number, code, running, woken, finished)", and two items more
unfoldable pub step_line : ℕ → Outcome → Item → Item → Line
step_line number o message datum =
    numbered number (Number o.code) (Number o.running) (Number o.woken) (Number o.finished) message datum

-- that line; `answer MESSAGE DATUM`; `clock TIME FREQUENCY`; `steps NUMBER`; the line with message and datum; and a waking
unfoldable pub step_row : Seen → ℕ → ℕ → Line
step_row x part i =
    let o = x.outcome in
    cond (part == 0) (step_line x.number o Nothing Nothing)
    (cond (part == 1) (brief (97 ∷ 110 ∷ 115 ∷ 119 ∷ 101 ∷ 114 ∷ 0 ∷ 0 ∷ 0 ∷ []) (Signed o.message) (Number o.datum))
    (cond (part == 13) (brief (99 ∷ 108 ∷ 111 ∷ 99 ∷ 107 ∷ 0 ∷ 0 ∷ 0 ∷ 0 ∷ []) (Number x.clock.time.0) (Number x.clock.frequency))
    (cond (part == 14) (brief (115 ∷ 116 ∷ 101 ∷ 112 ∷ 115 ∷ 0 ∷ 0 ∷ 0 ∷ 0 ∷ []) (Number x.tables.kernel.steps) Nothing)
    (cond (part == 15) (step_line x.number o (Signed o.message) (Number o.datum)) (waking_row x i)))))

-- row i of a part
unfoldable pub row_of : Seen → ℕ → ℕ → Line
row_of x part i =
    cond (nat_lt part 2) (step_row x part i)
    (cond (nat_lt part 8) (table_row x.tables part i)
    (cond (nat_lt part 13) (word_row x.tables.kernel.words part i)
    (cond (nat_lt part 17) (step_row x part i) (sum_row x.account x.tables part i))))

-- how many rows the parts have, from part 0 on, of so many threads, semaphores, queues, references, mailboxes and pools
abbrev pub counts : ℕ → ℕ → ℕ → ℕ → ℕ → ℕ → List ℕ
counts t s q r m p =
    1 ∷ 1 ∷ t ∷ s ∷ q ∷ r ∷ m ∷ 2 * p ∷ 1 ∷ s ∷ q ∷ 2 * m ∷ p ∷ 1 ∷ 1 ∷ 1 ∷ 16 ∷ m ∷ p ∷ 32 * p ∷ []

unfoldable pub rows_in : Sizes → ℕ → ℕ
rows_in z part =
    slice_index_or
    (counts (least z.threads 16) (least z.semaphores 16) (least z.queues 8) (least z.references 8) (least z.mailboxes 4)
    (least z.pools 4))
    part 0

-- what stands before a part's rows: `mailbox posted fetched lost present`, `pool added free out`, `pool object thread step`;
-- `step code run woke done`, `step thread cause object message`
unfoldable pub head_text : ℕ → List ℕ
head_text part =
    cond (part == 17)
    (109 ∷ 97 ∷ 105 ∷ 108 ∷ 98 ∷ 111 ∷ 120 ∷ 32 ∷ 112 ∷ 111 ∷ 115 ∷ 116 ∷ 101 ∷ 100 ∷ 32 ∷ 102 ∷ 101 ∷ 116 ∷ 99 ∷ 104 ∷ 101 ∷ 100 ∷ 32
    ∷ 108 ∷ 111 ∷ 115 ∷ 116 ∷ 32 ∷ 112 ∷ 114 ∷ 101 ∷ 115 ∷ 101 ∷ 110 ∷ 116 ∷ 10 ∷ [])
    (cond (part == 18)
    (112 ∷ 111 ∷ 111 ∷ 108 ∷ 32 ∷ 97 ∷ 100 ∷ 100 ∷ 101 ∷ 100 ∷ 32 ∷ 102 ∷ 114 ∷ 101 ∷ 101 ∷ 32 ∷ 111 ∷ 117 ∷ 116 ∷ 10 ∷ [])
    (cond (part == 19)
    (112 ∷ 111 ∷ 111 ∷ 108 ∷ 32 ∷ 111 ∷ 98 ∷ 106 ∷ 101 ∷ 99 ∷ 116 ∷ 32 ∷ 116 ∷ 104 ∷ 114 ∷ 101 ∷ 97 ∷ 100 ∷ 32 ∷ 115 ∷ 116 ∷ 101 ∷ 112
    ∷ 10 ∷ [])
    (cond (part == 20)
    (115 ∷ 116 ∷ 101 ∷ 112 ∷ 32 ∷ 99 ∷ 111 ∷ 100 ∷ 101 ∷ 32 ∷ 114 ∷ 117 ∷ 110 ∷ 32 ∷ 119 ∷ 111 ∷ 107 ∷ 101 ∷ 32 ∷ 100 ∷ 111 ∷ 110 ∷ 101
    ∷ 10 ∷ [])
    (cond (part == 21)
    (115 ∷ 116 ∷ 101 ∷ 112 ∷ 32 ∷ 116 ∷ 104 ∷ 114 ∷ 101 ∷ 97 ∷ 100 ∷ 32 ∷ 99 ∷ 97 ∷ 117 ∷ 115 ∷ 101 ∷ 32 ∷ 111 ∷ 98 ∷ 106 ∷ 101 ∷ 99 ∷ 116
    ∷ 32 ∷ 109 ∷ 101 ∷ 115 ∷ 115 ∷ 97 ∷ 103 ∷ 101 ∷ 10 ∷ [])
    []))))

-- a part
unfoldable pub part_text : Seen → ℕ → List ℕ
part_text x part = head_text part ++ rows (rows_in x.tables.sizes part) (λ i. row_text (row_of x part i))

-- n parts, one behind the other
unfoldable pub parts_text : Seen → ℕ → ℕ → List ℕ
parts_text x from n = rows n (λ i. part_text x ((from + i) % 256))

-- ---- the views: which parts stand before all records, behind each step's, and at the end
abbrev pub view_parts : View → Parts
view_parts view.Lines = record { head = 20; heads = 1; step = 0; steps = 1; end = 0; ends = 0 }
view_parts view.AllTables = record { head = 20; heads = 1; step = 0; steps = 15; end = 0; ends = 0 }
view_parts view.Wakings = record { head = 21; heads = 1; step = 16; steps = 1; end = 0; ends = 0 }
view_parts view.Sums = record { head = 0; heads = 0; step = 0; steps = 0; end = 17; ends = 3 }
view_parts view.Answers = record { head = 0; heads = 0; step = 15; steps = 1; end = 0; ends = 0 }

-- ---- records

-- "The listing program and the recorded plant traces now give 1000 themselves" (document 02): a trace has no frequency in it
abbrev pub listed_rate : Option ℕ
listed_rate = Some 1000

-- fresh tables of the sizes, at that frequency; no step yet
abbrev pub fresh_seen : Sizes → Seen
fresh_seen z =
    record {
      number = 0;
      step = record { kind = 0; caller = 0; object = 0; a = 0; timeout = 0 };
      found = (made z listed_rate).tables.kernel.threads;
      outcome = record { code = 0; running = 0; woken = 0; finished = 0; message = pos 0; datum = 0 };
      tables = (made z listed_rate).tables;
      clock = (made z listed_rate).clock;
      account = fresh_account;
    }

-- what a result reports of finished calls
abbrev pub report_of : Outcome → Report
report_of o = record { code = o.code; finished = o.finished; message = o.message; datum = o.datum }

-- one step more, which is record n
unfoldable pub seen_after : ℕ → Seen → Step → Seen
seen_after n x s =
    let y = stepped x.tables x.clock s in
    record {
      number = n;
      step = s;
      found = x.tables.kernel.threads;
      outcome = y.outcome;
      tables = y.tables;
      clock = y.clock;
      account = accounted_step x.account n x.tables s (report_of y.outcome) y.tables;
    }

-- "at a bad record `stopped`, its number (0 for 15 and 11), the code; then it ends"
abbrev pub stop_text : Found → List ℕ
stop_text Found.Opened = []
stop_text (Found.Stepped x) = []
stop_text Found.Ended = []
stop_text (Found.Refused code number) = row_text (brief (115 ∷ 116 ∷ 111 ∷ 112 ∷ 112 ∷ 101 ∷ 100 ∷ 0 ∷ 0 ∷ []) (Long number) (Number code))

-- the steps from record n on, and what stopped them
unfoldable pub records_text : Parts → ℕ → Seen → List Step → Found → List ℕ
records_text v n x [] stop = parts_text x v.end v.ends ++ stop_text stop
records_text v n x (s ∷ ss) stop = parts_text (seen_after n x s) v.step v.steps ++ records_text v (n + 1) (seen_after n x s) ss stop

abbrev pub reading_text : Parts → Reading → List ℕ
reading_text v r = records_text v 1 (fresh_seen r.sizes) r.steps r.stop

-- the whole text of a view of a trace
unfoldable pub view_text : View → List ℕ → List ℕ
view_text w s = parts_text (fresh_seen no_sizes) (view_parts w).head (view_parts w).heads ++ reading_text (view_parts w) (read_all s)

-- ---- record by record

-- a record's text, and what is known behind it
pub record Record : Type 0 where
  pub text : List ℕ
  pub seen : Seen
  pub at : ℕ

-- what is known behind record n, of which this was found, beside these sizes
abbrev pub seen_behind : ℕ → Seen → Sizes → Found → Seen
seen_behind n x z Found.Opened = fresh_seen z
seen_behind n x z (Found.Stepped s) = seen_after n x s
seen_behind n x z Found.Ended = x
seen_behind n x z (Found.Refused code number) = x

-- which parts are shown of it
abbrev pub shown_parts : Parts → Found → Shown
shown_parts v Found.Opened = record { from = 0; n = 0 }
shown_parts v (Found.Stepped s) = record { from = v.step; n = v.steps }
shown_parts v Found.Ended = record { from = v.end; n = v.ends }
shown_parts v (Found.Refused code number) = record { from = v.end; n = v.ends }

-- the record that a read found; n is its number
abbrev pub record_of : Parts → ℕ → Seen → Read → Record
record_of v n x r =
    let after = seen_behind n x r.sizes r.found in
    record {
      text = parts_text after (shown_parts v r.found).from (shown_parts v r.found).n ++ stop_text r.found;
      seen = after;
      at = r.next;
    }

-- the texts of at most so many records, from a record's number and place on; a read that moves no reader is the last
unfoldable pub text_from : Parts → ℕ → ℕ → List ℕ → Seen → ℕ → List ℕ
text_from v zero i s x at = []
text_from v (suc n) i s x at =
    let y = record_of v i x (next_read s at) in
    y.text ++ cond (y.at == at) [] (text_from v n (i + 1) s y.seen y.at)

-- what is known behind them
unfoldable pub seen_from : Parts → ℕ → ℕ → List ℕ → Seen → ℕ → Seen
seen_from v zero i s x at = x
seen_from v (suc n) i s x at =
    let y = record_of v i x (next_read s at) in
    cond (y.at == at) y.seen (seen_from v n (i + 1) s y.seen y.at)

-- a record's text has been put on the sheet, and r is the listing behind it
pub record Listed (s t : Sheet) (x r : Listing) (y : Record) : Type 0 where
  pub put : Puts s t y.text
  pub seen : r.seen ≡ y.seen
  pub at : r.at ≡ y.at
