-- WHAT IS PRINTED OF A TRACE, BYTE FOR BYTE, AS DOCUMENT 01 TELLS IT: "The program prints in decimal the heading, a line per step (record
-- number, code, running, woken, finished), and at a bad record `stopped`, its number (0 for 15 and 11), the code; then it ends." It is told of
-- any kernel k, over the steps that the paper's reader finds (Paper.Reader).
use Rattle.std.specs.Prelude.{ℕ, zero, suc, ◌+◌, ◌*◌, ◌/◌, ◌%◌, ◌<◌, ◌-◌, ◌≡◌, cond, List, [], ◌∷◌, ◌++◌, eqb, ltb, get_or, ℤ, pos, negsuc, Some}
use Rattle.kernel.specs.declared.clock.Clock.{Clock}
use Rattle.kernel.specs.declared.records.Call.{Call}
use Rattle.library.specs.declared.calls.Step.{Step}
use Rattle.library.specs.declared.sizes.Sizes.{Sizes}
use Rattle.library.specs.Told.{Made}
use Rattle.library.specs.declared.tables.Tables.{Tables}
use Rattle.steps.specs.declared.stepping.Stepped.{Stepped}
use Rattle.trace.specs.Told.{Read}
use Rattle.accounts.specs.declared.account.Account.{Account}
use Rattle.promises.specs.Paper.World.{found, signed}
use Rattle.promises.specs.Paper.Together.{number}
use Rattle.promises.specs.Paper.Answers.{found_said}
use Rattle.promises.specs.Paper.Fresh.{nothing, MadeOf}
use Rattle.promises.specs.Paper.Reader.{ReadOf}
use Rattle.promises.specs.Paper.Waking.{row_of, in_mask}
use Rattle.promises.specs.Paper.Run.{Moment, moments_by}
use Rattle.promises.specs.Paper.History.{call_by}

-- ---- NUMBERS AND LINES

-- "in decimal": a byte a digit, 48 for 0, the highest first, and none before it that says nothing
pub data InDecimal : ℕ → List ℕ → Type 0 where
  one : {n : ℕ} → n < 10 → InDecimal n ((48 + n) ∷ [])
  more : {n d : ℕ} {ds : List ℕ} → 0 < n → d < 10 → InDecimal n ds → InDecimal (n * 10 + d) (ds ++ ((48 + d) ∷ []))

-- a line of numbers: a blank, 32, between two, and the line's end, 10
pub data Line : List ℕ → List ℕ → Type 0 where
  last : {n : ℕ} {ds : List ℕ} → InDecimal n ds → Line (n ∷ []) (ds ++ (10 ∷ []))
  more : {n : ℕ} {ns ds rest : List ℕ} → InDecimal n ds → Line ns rest → Line (n ∷ ns) (ds ++ (32 ∷ rest))

-- ---- WHAT A TRACE HOLDS

-- how reading stops: at the end, or at a bad record, with its number and the code
pub data Stop : Type 0 where
  ended : Stop
  bad : (number code : ℕ) → Stop

-- the steps from a place on, each where the reader stands after the one before it, and how reading stops
pub data StepsFound (s : List ℕ) : ℕ → List Step → Stop → Type 0 where
  ended : {at : ℕ} (r : Read) → ReadOf s at r → found_said r.found ≡ record { code = 0; gives = 0; values = [] } → StepsFound s at [] Stop.ended
  bad : {at number code : ℕ} (r : Read) → ReadOf s at r → found_said r.found ≡ record { code = code; gives = 0; values = number ∷ [] }
      → StepsFound s at [] (Stop.bad number code)
  more : {at : ℕ} {x : Step} {xs : List Step} {stop : Stop} (r : Read) → ReadOf s at r
      → found_said r.found ≡ record { code = 0; gives = 2; values = x.kind ∷ x.caller ∷ x.object ∷ x.a ∷ x.timeout ∷ [] }
      → StepsFound s r.next xs stop → StepsFound s at (x ∷ xs) stop

-- record 0's sizes and the steps behind it; a trace that is bad there holds nothing
pub data TraceFound (s : List ℕ) : Sizes → List Step → Stop → Type 0 where
  bad : {number code : ℕ} (r : Read) → ReadOf s 0 r → found_said r.found ≡ record { code = code; gives = 0; values = number ∷ [] }
      → TraceFound s nothing [] (Stop.bad number code)
  opened : {xs : List Step} {stop : Stop} (r : Read) → ReadOf s 0 r → found_said r.found ≡ record { code = 0; gives = 1; values = [] }
      → StepsFound s r.next xs stop → TraceFound s r.sizes xs stop

-- ---- THE TEXT

-- "at a bad record `stopped`, its number .., the code"
pub data StopLine : Stop → List ℕ → Type 0 where
  none : StopLine Stop.ended []
  stopped : {number code : ℕ} {l : List ℕ} → Line (number ∷ code ∷ []) l
      → StopLine (Stop.bad number code) (115 ∷ 116 ∷ 111 ∷ 112 ∷ 112 ∷ 101 ∷ 100 ∷ 32 ∷ l)

-- the texts of moments, one behind the other; the first is record n
pub data EachText (each : ℕ → Moment → List ℕ → Type 0) : ℕ → List Moment → List ℕ → Type 0 where
  none : {n : ℕ} → EachText each n [] []
  more : {n : ℕ} {m : Moment} {ms : List Moment} {a b : List ℕ} → each n m a → EachText each (suc n) ms b → EachText each n (m ∷ ms) (a ++ b)

-- a view, from fresh tables at the frequency f: its heading, what stands for each step, what stands at the end, and where reading stopped
pub data Printed (f : ℕ) (heading : List ℕ) (each : ℕ → Moment → List ℕ → Type 0) (end : Made → List Moment → List ℕ → Type 0)
    (k : Tables → Clock → Step → Stepped) (s text : List ℕ) : Type 0 where
  printed : {z : Sizes} {xs : List Step} {stop : Stop} {m : Made} {a b c : List ℕ} → TraceFound s z xs stop → MadeOf z (Some f) m
      → EachText each 1 (moments_by k m.tables m.clock xs) a → end m (moments_by k m.tables m.clock xs) b → StopLine stop c
      → text ≡ heading ++ (a ++ (b ++ c)) → Printed f heading each end k s text

-- such a view is what g gives of every trace, and nothing else is such a view of it
pub record Told (f : ℕ) (heading : List ℕ) (each : ℕ → Moment → List ℕ → Type 0) (end : Made → List Moment → List ℕ → Type 0)
    (k : Tables → Clock → Step → Stepped) (g : List ℕ → List ℕ) : Type 0 where
  pub is : (s : List ℕ) → Printed f heading each end k s (g s)
  pub only : (s text : List ℕ) → Printed f heading each end k s text → text ≡ g s

-- ---- THE LISTING

-- `step code run woke done`
abbrev pub list_heading : List ℕ
list_heading =
    115 ∷ 116 ∷ 101 ∷ 112 ∷ 32 ∷ 99 ∷ 111 ∷ 100 ∷ 101 ∷ 32 ∷ 114 ∷ 117 ∷ 110 ∷ 32 ∷ 119 ∷ 111 ∷ 107 ∷ 101 ∷ 32 ∷ 100 ∷ 111 ∷ 110 ∷ 101 ∷ 10 ∷ []

-- "a line per step (record number, code, running, woken, finished)"
abbrev pub StepLine : ℕ → Moment → List ℕ → Type 0
StepLine n m l = Line (n ∷ m.result.code ∷ m.result.running ∷ m.result.woken ∷ m.result.finished ∷ []) l

-- "then it ends"
abbrev pub NoEnd : Made → List Moment → List ℕ → Type 0
NoEnd m ms l = l ≡ []

abbrev pub ListingTold : ℕ → (Tables → Clock → Step → Stepped) → (List ℕ → List ℕ) → Type 0
ListingTold f k g = Told f list_heading StepLine NoEnd k g

-- ---- ROWS OF WORDS, for the other views (docs/LISTING.md)

-- what stands in a row: letters, a number, one below 0 by its size, one with a letter before it
pub data Word : Type 0 where
  letters : List ℕ → Word
  plain : ℕ → Word
  minus : ℕ → Word
  lettered : ℕ → ℕ → Word

-- `-` is 45
pub data WordText : Word → List ℕ → Type 0 where
  letters : {l : List ℕ} → WordText (Word.letters l) l
  plain : {n : ℕ} {ds : List ℕ} → InDecimal n ds → WordText (Word.plain n) ds
  minus : {n : ℕ} {ds : List ℕ} → InDecimal n ds → WordText (Word.minus n) (45 ∷ ds)
  lettered : {b n : ℕ} {ds : List ℕ} → InDecimal n ds → WordText (Word.lettered b n) (b ∷ ds)

abbrev pub signed_word : ℤ → Word
signed_word (pos n) = Word.plain n
signed_word (negsuc n) = Word.minus (suc n)

-- a row: a word, and others behind blanks; and its line end
pub data RowText : Word → List Word → List ℕ → Type 0 where
  last : {w : Word} {a : List ℕ} → WordText w a → RowText w [] (a ++ (10 ∷ []))
  more : {w v : Word} {vs : List Word} {a rest : List ℕ} → WordText w a → RowText v vs rest → RowText w (v ∷ vs) (a ++ (32 ∷ rest))

pub record Row : Type 0 where
  pub first : Word
  pub others : List Word

-- rows, one behind the other
pub data RowsText : List Row → List ℕ → Type 0 where
  none : RowsText [] []
  more : {r : Row} {rs : List Row} {a b : List ℕ} → RowText r.first r.others a → RowsText rs b → RowsText (r ∷ rs) (a ++ b)

-- ---- WHY THREADS WOKE

-- `step thread cause object message`
abbrev pub why_heading : List ℕ
why_heading =
    115 ∷ 116 ∷ 101 ∷ 112 ∷ 32 ∷ 116 ∷ 104 ∷ 114 ∷ 101 ∷ 97 ∷ 100 ∷ 32 ∷ 99 ∷ 97 ∷ 117 ∷ 115 ∷ 101 ∷ 32 ∷ 111 ∷ 98 ∷ 106 ∷ 101 ∷ 99 ∷ 116 ∷ 32
    ∷ 109 ∷ 101 ∷ 115 ∷ 115 ∷ 97 ∷ 103 ∷ 101 ∷ 10 ∷ []

-- `signal`, `release`, `resume`, `event`, `post`, `fetch`, `reset`, `tick`: 1 to 8; `none` before the first waking
abbrev pub cause_letters : ℕ → List ℕ
cause_letters n =
    cond (eqb n 1) (115 ∷ 105 ∷ 103 ∷ 110 ∷ 97 ∷ 108 ∷ [])
    (cond (eqb n 2) (114 ∷ 101 ∷ 108 ∷ 101 ∷ 97 ∷ 115 ∷ 101 ∷ [])
    (cond (eqb n 3) (114 ∷ 101 ∷ 115 ∷ 117 ∷ 109 ∷ 101 ∷ [])
    (cond (eqb n 4) (101 ∷ 118 ∷ 101 ∷ 110 ∷ 116 ∷ [])
    (cond (eqb n 5) (112 ∷ 111 ∷ 115 ∷ 116 ∷ [])
    (cond (eqb n 6) (102 ∷ 101 ∷ 116 ∷ 99 ∷ 104 ∷ [])
    (cond (eqb n 7) (114 ∷ 101 ∷ 115 ∷ 101 ∷ 116 ∷ [])
    (cond (eqb n 8) (116 ∷ 105 ∷ 99 ∷ 107 ∷ []) (110 ∷ 111 ∷ 110 ∷ 101 ∷ []))))))))

-- where a call waits: s semaphore, q queue, r reference, w a mailbox's writers, f its readers, p pool; `-` for a sleep and for an event wait
abbrev pub waited_word : Call → Word
waited_word c =
    cond (eqb c.kind 2) (Word.lettered 115 c.object)
    (cond (eqb c.kind 6) (Word.lettered 113 c.object)
    (cond (eqb c.kind 9) (Word.lettered 114 c.object)
    (cond (eqb c.kind 15) (Word.lettered 119 c.object)
    (cond (eqb c.kind 16) (Word.lettered 119 c.object)
    (cond (eqb c.kind 17) (Word.lettered 102 c.object) (cond (eqb c.kind 20) (Word.lettered 112 c.object) (Word.letters (45 ∷ []))))))))

-- "step, thread, cause, object, message": the step's number, the cause and the message are in the thread's record after the step; it waited in the
-- step's own call, if it made the step, else in the one that its record had kept
abbrev pub waking_row : Moment → ℕ → Row
waking_row m i =
    record {
      first = Word.plain (row_of m.after i).step;
      others = Word.plain i ∷ Word.letters (cause_letters (row_of m.after i).cause) ∷ waited_word (call_by m i) ∷ signed_word (row_of m.after i).message ∷ [];
    }

-- of the threads below n that the step has woken
abbrev pub wakings : Moment → ℕ → List Row
wakings m zero = []
wakings m (suc i) = wakings m i ++ cond (in_mask i m.result.woken) (waking_row m i ∷ []) []

abbrev pub WakingLines : ℕ → Moment → List ℕ → Type 0
WakingLines n m l = RowsText (wakings m 16) l

abbrev pub WhyTold : ℕ → (Tables → Clock → Step → Stepped) → (List ℕ → List ℕ) → Type 0
WhyTold f k g = Told f why_heading WakingLines NoEnd k g

-- ---- THE ACCOUNT (docs/ACCOUNT.md), of the account that a run comes to

-- "rows within the sizes only": as many as the sizes say, and as the table has
abbrev pub few : ℕ → ℕ → ℕ
few n most = cond (ltb n most) n most

-- the rows of the numbers below n, in order
abbrev pub in_order : ℕ → (ℕ → List Row) → List Row
in_order zero f = []
in_order (suc i) f = in_order i f ++ f i

-- `mailbox posted fetched lost present`
abbrev pub mailbox_heading : Row
mailbox_heading =
    record {
      first = Word.letters (109 ∷ 97 ∷ 105 ∷ 108 ∷ 98 ∷ 111 ∷ 120 ∷ []);
      others = Word.letters (112 ∷ 111 ∷ 115 ∷ 116 ∷ 101 ∷ 100 ∷ []) ∷ Word.letters (102 ∷ 101 ∷ 116 ∷ 99 ∷ 104 ∷ 101 ∷ 100 ∷ [])
          ∷ Word.letters (108 ∷ 111 ∷ 115 ∷ 116 ∷ []) ∷ Word.letters (112 ∷ 114 ∷ 101 ∷ 115 ∷ 101 ∷ 110 ∷ 116 ∷ []) ∷ [];
    }

-- `pool added free out`
abbrev pub pool_heading : Row
pool_heading =
    record {
      first = Word.letters (112 ∷ 111 ∷ 111 ∷ 108 ∷ []);
      others = Word.letters (97 ∷ 100 ∷ 100 ∷ 101 ∷ 100 ∷ []) ∷ Word.letters (102 ∷ 114 ∷ 101 ∷ 101 ∷ []) ∷ Word.letters (111 ∷ 117 ∷ 116 ∷ []) ∷ [];
    }

-- `pool object thread step`
abbrev pub object_heading : Row
object_heading =
    record {
      first = Word.letters (112 ∷ 111 ∷ 111 ∷ 108 ∷ []);
      others = Word.letters (111 ∷ 98 ∷ 106 ∷ 101 ∷ 99 ∷ 116 ∷ []) ∷ Word.letters (116 ∷ 104 ∷ 114 ∷ 101 ∷ 97 ∷ 100 ∷ [])
          ∷ Word.letters (115 ∷ 116 ∷ 101 ∷ 112 ∷ []) ∷ [];
    }

-- "its number; the posts ..; the fetches ..; the messages lost ..; and how many are in it now"
abbrev pub mailbox_sum : Account → Tables → ℕ → Row
mailbox_sum a t b =
    record {
      first = Word.plain b;
      others = Word.plain (get_or a.posted b 0) ∷ Word.plain (get_or a.fetched b 0) ∷ Word.plain (get_or a.lost b 0)
          ∷ Word.plain ((found t).box b).positions.count ∷ [];
    }

-- "its number; the objects added; how many are free now, and how many are out"
abbrev pub pool_sum : Account → Tables → ℕ → Row
pool_sum a t q =
    record {
      first = Word.plain q;
      others = Word.plain (get_or a.added q 0) ∷ Word.plain (number (λ o. eqb (get_or ((found t).pool q).marks o 0) 1) 32)
          ∷ Word.plain (number (λ o. eqb (get_or ((found t).pool q).marks o 0) 2) 32) ∷ [];
    }

-- "For each object that is out, by pool and then by object: the pool, the object, the thread .., and the number of the record"
abbrev pub object_sum : Account → Tables → ℕ → List Row
object_sum a t i =
    cond (eqb (get_or ((found t).pool (i / 32)).marks (i % 32) 0) 2)
    (record {
      first = Word.plain (i / 32);
      others = Word.plain (i % 32) ∷ Word.plain (get_or a.takers i 0) ∷ Word.plain (get_or a.steps i 0) ∷ [];
    }
    ∷ [])
    []

-- "The three headings are always printed, and after each its lines"
abbrev pub account_rows : Account → Tables → List Row
account_rows a t =
    (mailbox_heading ∷ in_order (few t.sizes.mailboxes 4) (λ b. mailbox_sum a t b ∷ []))
    ++ ((pool_heading ∷ in_order (few t.sizes.pools 4) (λ q. pool_sum a t q ∷ []))
    ++ (object_heading ∷ in_order (32 * few t.sizes.pools 4) (λ i. object_sum a t i)))

-- the tables behind a run
abbrev pub tables_after : Tables → List Moment → Tables
tables_after t [] = t
tables_after t (m ∷ ms) = tables_after m.after ms

-- nothing for a step
abbrev pub NoText : ℕ → Moment → List ℕ → Type 0
NoText n m l = l ≡ []

abbrev pub AccountEnd : (List Moment → Account) → Made → List Moment → List ℕ → Type 0
AccountEnd tally m ms l = RowsText (account_rows (tally ms) (tables_after m.tables ms)) l

abbrev pub AccountTold : ℕ → (Tables → Clock → Step → Stepped) → (List Moment → Account) → (List ℕ → List ℕ) → Type 0
AccountTold f k tally g = Told f [] NoText (AccountEnd tally) k g

-- ---- ALL TABLES, after each step's line

-- PLACE: a place of the table of counters, s0 .., p0 .., q0 .., w0 .. (writers), f0 .. (readers)
abbrev pub place_word : ℕ → Word
place_word p =
    cond (ltb p 16) (Word.lettered 115 p)
    (cond (ltb p 20) (Word.lettered 112 (p - 16))
    (cond (ltb p 28) (Word.lettered 113 (p - 20)) (cond (ltb p 32) (Word.lettered 119 (p - 28)) (Word.lettered 102 (p - 32)))))

-- where a thread waits: r0 .. a reference if it is suspended, `-` nowhere
abbrev pub wait_word : ℕ → ℕ → Word
wait_word state place = cond (eqb state 3) (place_word place) (cond (eqb state 2) (Word.lettered 114 place) (Word.letters (45 ∷ [])))

-- the words of the numbers below n, in order
abbrev pub listed_words : ℕ → (ℕ → Word) → List Word
listed_words zero f = []
listed_words (suc i) f = listed_words i f ++ (f i ∷ [])

-- `thread I STATE PLACE REMAINING PENDING AWAITED MESSAGE KIND OBJECT OPERAND TIMEOUT LASTMESSAGE LASTDATUM CAUSE STEP`
abbrev pub thread_row : Tables → ℕ → Row
thread_row t i =
    record {
      first = Word.letters (116 ∷ 104 ∷ 114 ∷ 101 ∷ 97 ∷ 100 ∷ []);
      others = Word.plain i ∷ Word.plain (row_of t i).state ∷ wait_word (row_of t i).state (row_of t i).place ∷ Word.plain (row_of t i).remaining
          ∷ Word.plain (row_of t i).pending ∷ Word.plain (row_of t i).awaited ∷ signed_word (row_of t i).message ∷ Word.plain (row_of t i).call.kind
          ∷ Word.plain (row_of t i).call.object ∷ Word.plain (row_of t i).call.operand ∷ Word.plain (row_of t i).call.timeout
          ∷ signed_word (row_of t i).answer.message ∷ Word.plain (row_of t i).answer.datum ∷ Word.plain (row_of t i).cause ∷ Word.plain (row_of t i).step ∷ [];
    }

-- a row of a word and two others
abbrev pub pair_row : List ℕ → Word → Word → Row
pair_row l a b = record { first = Word.letters l; others = a ∷ b ∷ [] }

-- `mailbox I READ WRITE COUNT RESET WRITERS READERS SLOT0 SLOT1 ..`
abbrev pub mailbox_row : Tables → ℕ → Row
mailbox_row t i =
    record {
      first = Word.letters (109 ∷ 97 ∷ 105 ∷ 108 ∷ 98 ∷ 111 ∷ 120 ∷ []);
      others = (Word.plain i ∷ Word.plain ((found t).box i).positions.read ∷ Word.plain ((found t).box i).positions.write
          ∷ Word.plain ((found t).box i).positions.count ∷ Word.plain (cond (eqb ((found t).box i).reset 0) 0 1)
          ∷ signed_word ((found t).counter (28 + i)) ∷ signed_word ((found t).counter (32 + i)) ∷ [])
          ++ listed_words (few (get_or t.sizes.slots i 0) 16) (λ j. signed_word (signed (get_or ((found t).box i).messages j 0)));
    }

-- two rows a pool: `pool I COUNTER LENGTH BOTTOM .. TOP`, and `marks I MARK0 .. MARK31`
abbrev pub pool_row : Tables → ℕ → Row
pool_row t i =
    cond (eqb (i % 2) 0)
    (record {
      first = Word.letters (112 ∷ 111 ∷ 111 ∷ 108 ∷ []);
      others = (Word.plain (i / 2) ∷ signed_word ((found t).counter (16 + i / 2)) ∷ Word.plain ((found t).pool (i / 2)).length ∷ [])
          ++ listed_words (few ((found t).pool (i / 2)).length 32) (λ j. Word.plain (get_or ((found t).pool (i / 2)).list j 0));
    })
    (record {
      first = Word.letters (109 ∷ 97 ∷ 114 ∷ 107 ∷ 115 ∷ []);
      others = (Word.plain (i / 2) ∷ []) ++ listed_words 32 (λ j. Word.plain (get_or ((found t).pool (i / 2)).marks j 0));
    })

-- `waiting PLACE WORD`
abbrev pub waiting_row : Tables → ℕ → Row
waiting_row t p =
    pair_row (119 ∷ 97 ∷ 105 ∷ 116 ∷ 105 ∷ 110 ∷ 103 ∷ []) (place_word p) (Word.plain (get_or t.kernel.words.waiting p 0))

-- the rows within the sizes, table by table, in the order of docs/LISTING.md; "each mailbox's two sides `w0 f0 w1 f1 ..`"
abbrev pub table_rows : Tables → List Row
table_rows t =
    in_order (few t.sizes.threads 16) (λ i. thread_row t i ∷ [])
    ++ (in_order (few t.sizes.semaphores 16)
    (λ i. pair_row (115 ∷ 101 ∷ 109 ∷ 97 ∷ 112 ∷ 104 ∷ 111 ∷ 114 ∷ 101 ∷ []) (Word.plain i) (signed_word ((found t).counter i)) ∷ [])
    ++ (in_order (few t.sizes.queues 8) (λ i. pair_row (113 ∷ 117 ∷ 101 ∷ 117 ∷ 101 ∷ []) (Word.plain i) (signed_word ((found t).counter (20 + i))) ∷ [])
    ++ (in_order (few t.sizes.references 8)
    (λ i. pair_row (114 ∷ 101 ∷ 102 ∷ 101 ∷ 114 ∷ 101 ∷ 110 ∷ 99 ∷ 101 ∷ []) (Word.plain i) (Word.plain ((found t).holder i)) ∷ [])
    ++ (in_order (few t.sizes.mailboxes 4) (λ i. mailbox_row t i ∷ [])
    ++ (in_order (2 * few t.sizes.pools 4) (λ i. pool_row t i ∷ [])
    ++ ((record { first = Word.letters (114 ∷ 101 ∷ 97 ∷ 100 ∷ 121 ∷ []); others = Word.plain t.kernel.words.ready ∷ [] } ∷ [])
    ++ (in_order (few t.sizes.semaphores 16) (λ i. waiting_row t i ∷ [])
    ++ (in_order (few t.sizes.queues 8) (λ i. waiting_row t (20 + i) ∷ [])
    ++ (in_order (2 * few t.sizes.mailboxes 4) (λ i. waiting_row t (28 + 4 * (i % 2) + i / 2) ∷ [])
    ++ in_order (few t.sizes.pools 4) (λ i. waiting_row t (16 + i) ∷ []))))))))))

-- the step's line, `answer MESSAGE DATUM`, all tables, `clock TIME FREQUENCY`, `steps NUMBER`; the clock is the one behind the step
abbrev pub all_rows : ℕ → Moment → Clock → List Row
all_rows n m c =
    (record {
      first = Word.plain n;
      others = Word.plain m.result.code ∷ Word.plain m.result.running ∷ Word.plain m.result.woken ∷ Word.plain m.result.finished ∷ [];
    }
    ∷ [])
    ++ ((pair_row (97 ∷ 110 ∷ 115 ∷ 119 ∷ 101 ∷ 114 ∷ []) (signed_word m.result.message) (Word.plain m.result.datum) ∷ [])
    ++ (table_rows m.after
    ++ ((pair_row (99 ∷ 108 ∷ 111 ∷ 99 ∷ 107 ∷ []) (Word.plain c.time.0) (Word.plain c.frequency) ∷ [])
    ++ (record { first = Word.letters (115 ∷ 116 ∷ 101 ∷ 112 ∷ 115 ∷ []); others = Word.plain m.after.kernel.steps ∷ [] } ∷ []))))

abbrev pub WholeLines : (Tables → Clock → Step → Stepped) → ℕ → Moment → List ℕ → Type 0
WholeLines k n m l = RowsText (all_rows n m (k m.before m.clock m.step).clock) l

abbrev pub TablesTold : ℕ → (Tables → Clock → Step → Stepped) → (List ℕ → List ℕ) → Type 0
TablesTold f k g = Told f list_heading (WholeLines k) NoEnd k g
