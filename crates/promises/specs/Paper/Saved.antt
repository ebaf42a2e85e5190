-- SAVED TABLES, of document 02: how a host's tables and its clock lie as bytes, the file that is saved of them, and what is loaded of a file.
-- Where each field lies is what host/nil.h asserts; the file is the table of docs/COMPARE.md.
use Rattle.std.specs.Prelude.{ℕ, ◌+◌, ◌*◌, ◌/◌, ◌%◌, ◌≤◌, ◌<◌, ◌≡◌, ◌≢◌, List, [], ◌∷◌, ◌++◌, ℤ, pos, length, get_or, take, drop}
use Rattle.kernel.specs.declared.clock.Clock.{Clock}
use Rattle.kernel.specs.declared.records.Thread.{Thread}
use Rattle.kernel.specs.declared.records.Words.{Words}
use Rattle.library.specs.declared.sizes.Sizes.{Sizes}
use Rattle.library.specs.declared.tables.Mailbox.{Mailbox}
use Rattle.library.specs.declared.tables.Pool.{Pool}
use Rattle.library.specs.declared.tables.Tables.{Tables}
use Rattle.promises.specs.Paper.World.{signed, no_thread, no_box, no_pool}
use Rattle.promises.specs.Paper.Fresh.{FreshTables, FreshClock, nothing}
use Rattle.promises.specs.Paper.Compare.{bits}

-- ---- bytes

-- each number is one that a byte can be
abbrev pub AreBytes : List ℕ → Type 0
AreBytes l = (i : ℕ) → get_or l i 0 < 256

-- n bytes that a host lends
pub record BytesLent (n : ℕ) (l : List ℕ) : Type 0 where
  pub size : length l ≡ n
  pub bytes : AreBytes l

-- the number of one, of two and of four bytes at a place, the lowest first
abbrev pub one : List ℕ → ℕ → ℕ
one l at = get_or l at 0

abbrev pub two : List ℕ → ℕ → ℕ
two l at = one l at + 256 * one l (at + 1)

abbrev pub four : List ℕ → ℕ → ℕ
four l at = one l at + 256 * one l (at + 1) + 65536 * one l (at + 2) + 16777216 * one l (at + 3)

-- a number as four bytes, the lowest first
abbrev pub four_of : ℕ → List ℕ
four_of x = x % 256 ∷ x / 256 % 256 ∷ x / 65536 % 256 ∷ x / 16777216 % 256 ∷ []

-- ---- how a host's structs lie among the bytes l, each from a place on

-- nil_thread, 48 bytes
pub record ThreadLies (l : List ℕ) (at : ℕ) (t : Thread) : Type 0 where
  pub state : t.state ≡ two l at
  pub place : t.place ≡ two l (at + 2)
  pub remaining : t.remaining ≡ four l (at + 4)
  pub pending : t.pending ≡ four l (at + 8)
  pub awaited : t.awaited ≡ four l (at + 12)
  pub message : t.message ≡ signed (four l (at + 16))
  pub call-kind : t.call.kind ≡ two l (at + 20)
  pub call-object : t.call.object ≡ two l (at + 22)
  pub call-operand : t.call.operand ≡ four l (at + 24)
  pub call-timeout : t.call.timeout ≡ four l (at + 28)
  pub answer-message : t.answer.message ≡ signed (four l (at + 32))
  pub answer-datum : t.answer.datum ≡ four l (at + 36)
  pub cause : t.cause ≡ four l (at + 40)
  pub step : t.step ≡ four l (at + 44)

-- nil_words, 76 bytes
pub record WordsLie (l : List ℕ) (at : ℕ) (w : Words) : Type 0 where
  pub ready : w.ready ≡ two l at
  pub waiting-rows : length w.waiting ≡ 36
  pub waiting : (p : ℕ) → p < 36 → get_or w.waiting p 0 ≡ two l (at + 2 + 2 * p)
  pub unused : w.unused ≡ two l (at + 74)

-- nil_mailbox, 72 bytes
pub record BoxLies (l : List ℕ) (at : ℕ) (b : Mailbox) : Type 0 where
  pub read : b.positions.read ≡ two l at
  pub write : b.positions.write ≡ two l (at + 2)
  pub count : b.positions.count ≡ two l (at + 4)
  pub reset : b.reset ≡ two l (at + 6)
  pub message-rows : length b.messages ≡ 16
  pub messages : (s : ℕ) → s < 16 → get_or b.messages s 0 ≡ four l (at + 8 + 4 * s)

-- nil_pool, 66 bytes
pub record PoolLies (l : List ℕ) (at : ℕ) (x : Pool) : Type 0 where
  pub length-is : x.length ≡ two l at
  pub list-rows : length x.list ≡ 32
  pub list : (j : ℕ) → j < 32 → get_or x.list j 0 ≡ one l (at + 2 + j)
  pub mark-rows : length x.marks ≡ 32
  pub marks : (o : ℕ) → o < 32 → get_or x.marks o 0 ≡ one l (at + 34 + o)

-- nil_sizes, 20 bytes
pub record SizesLie (l : List ℕ) (at : ℕ) (z : Sizes) : Type 0 where
  pub threads : z.threads ≡ two l at
  pub semaphores : z.semaphores ≡ two l (at + 2)
  pub queues : z.queues ≡ two l (at + 4)
  pub references : z.references ≡ two l (at + 6)
  pub mailboxes : z.mailboxes ≡ two l (at + 8)
  pub pools : z.pools ≡ two l (at + 10)
  pub slot-rows : length z.slots ≡ 4
  pub slots : (m : ℕ) → m < 4 → get_or z.slots m 0 ≡ two l (at + 12 + 2 * m)

-- nil_tables, 1572 bytes
pub record TablesLie (l : List ℕ) (t : Tables) : Type 0 where
  pub thread-rows : length t.kernel.threads ≡ 16
  pub threads : (i : ℕ) → i < 16 → ThreadLies l (48 * i) (get_or t.kernel.threads i no_thread)
  pub counter-rows : length t.kernel.counters ≡ 36
  pub counters : (p : ℕ) → p < 36 → get_or t.kernel.counters p (pos 0) ≡ signed (four l (768 + 4 * p))
  pub reference-rows : length t.kernel.references ≡ 8
  pub references : (r : ℕ) → r < 8 → get_or t.kernel.references r 255 ≡ one l (912 + r)
  pub words : WordsLie l 920 t.kernel.words
  pub steps : t.kernel.steps ≡ four l 996
  pub box-rows : length t.mailboxes ≡ 4
  pub boxes : (m : ℕ) → m < 4 → BoxLies l (1000 + 72 * m) (get_or t.mailboxes m no_box)
  pub pool-rows : length t.pools ≡ 4
  pub pools : (q : ℕ) → q < 4 → PoolLies l (1288 + 66 * q) (get_or t.pools q no_pool)
  pub sizes : SizesLie l 1552 t.sizes

-- nil_clock, 8 bytes
pub record ClockLies (l : List ℕ) (c : Clock) : Type 0 where
  pub time : c.time.0 ≡ four l 0
  pub frequency : c.frequency ≡ four l 4

-- tables and clock, as a host lends them
pub record Lies (t c : List ℕ) (u : Tables) (d : Clock) : Type 0 where
  pub tables : TablesLie t u
  pub clock : ClockLies c d

-- ---- the checksum, of RFC 1950

-- "s1 is the sum of all bytes": of these bytes, on top of the s1 before them
abbrev pub last_sum : ℕ → List ℕ → ℕ
last_sum s [] = s
last_sum s (b ∷ l) = last_sum (s + b) l

-- "s2 is the sum of all s1 values", one after each byte
abbrev pub sum_of_sums : ℕ → List ℕ → ℕ
sum_of_sums s [] = 0
sum_of_sums s (b ∷ l) = (s + b) + sum_of_sums (s + b) l

-- "Both sums are done modulo 65521. s1 is initialized to 1, s2 to zero. The Adler-32 checksum is stored as s2*65536 + s1"
abbrev pub adler : List ℕ → ℕ
adler l = sum_of_sums 1 l % 65521 * 65536 + last_sum 1 l % 65521

-- ---- saving

-- the layout 3, the checksum of the bytes that follow, the tables' bytes and the clock's: 1588 in all
abbrev pub saved_file : List ℕ → List ℕ → List ℕ
saved_file t c = four_of 3 ++ four_of (adler (t ++ c)) ++ (t ++ c)

-- the tables' bytes t and the clock's c are saved into the room l: a code, and the room becomes another
pub data SaveOf (t c l : List ℕ) : ℕ → List ℕ → Type 0 where
  -- "16 for less room", and nothing is written
  no_room : length l < 1588 → SaveOf t c l 16 l
  -- the file in front, and the rest as it was
  saved : 1588 ≤ length l → SaveOf t c l 0 (saved_file t c ++ drop 1588 l)

-- a program saves the tables t and the clock c, which it has as records: the file is of bytes in which they lie
pub record KeptSaveOf (t : Tables) (c : Clock) (l : List ℕ) (code : ℕ) (k : List ℕ) : Type 0 where
  pub tables : List ℕ
  pub clock : List ℕ
  pub tables-lent : BytesLent 1572 tables
  pub clock-lent : BytesLent 8 clock
  pub lies : Lies tables clock t c
  pub file : SaveOf tables clock l code k

-- ---- loading

-- "Loading is refused, in this order, with 11 for fewer than 4 bytes or another layout number, 12 for fewer bytes than these, 13 for more, 6
-- where the checksum is not that of the bytes": the file f is refused with this number
pub data FileRefused (f : List ℕ) : ℕ → Type 0 where
  no-layout : length f < 4 → FileRefused f 11
  other-layout : 4 ≤ length f → four f 0 ≢ 3 → FileRefused f 11
  too_short : 4 ≤ length f → four f 0 ≡ 3 → length f < 1588 → FileRefused f 12
  too_long : four f 0 ≡ 3 → 1588 < length f → FileRefused f 13
  damaged : four f 0 ≡ 3 → length f ≡ 1588 → four f 4 ≢ adler (drop 8 f) → FileRefused f 6

-- a file that is not refused
pub record FileSound (f : List ℕ) : Type 0 where
  pub layout : four f 0 ≡ 3
  pub size : length f ≡ 1588
  pub checksum : four f 4 ≡ adler (drop 8 f)

-- the tables' and the clock's bytes in it, behind the head
abbrev pub tables_in : List ℕ → List ℕ
tables_in f = take 1572 (drop 8 f)

abbrev pub clock_in : List ℕ → List ℕ
clock_in f = drop 1580 f

-- a file is loaded into a host's tables t and its clock c: a code, and their bytes then. "A refusal writes nothing"
pub data LoadOf (f t c : List ℕ) : ℕ → List ℕ → List ℕ → Type 0 where
  refused : (n : ℕ) → FileRefused f n → LoadOf f t c n t c
  loaded : FileSound f → LoadOf f t c 0 (tables_in f) (clock_in f)

-- a file is loaded by a program, which is given records: a code, and tables and clock. A refusal gives those of no sizes, and of frequency 0
pub data KeptLoadOf (f : List ℕ) : ℕ → Tables → Clock → Type 0 where
  refused : (n : ℕ) {t : Tables} {c : Clock} → FileRefused f n → FreshTables nothing t → FreshClock 0 c → KeptLoadOf f n t c
  loaded : {t : Tables} {c : Clock} → FileSound f → Lies (tables_in f) (clock_in f) t c → KeptLoadOf f 0 t c

-- ---- what the types of a host fix of all that it keeps: a number is one that so many bits can tell

-- a signed number of 32 bits
abbrev pub IsSigned : ℤ → Type 0
IsSigned z = z ≡ signed (bits z)

pub record ThreadTyped (t : Thread) : Type 0 where
  pub state : t.state < 65536
  pub place : t.place < 65536
  pub remaining : t.remaining < 4294967296
  pub pending : t.pending < 4294967296
  pub awaited : t.awaited < 4294967296
  pub message : IsSigned t.message
  pub call-kind : t.call.kind < 65536
  pub call-object : t.call.object < 65536
  pub call-operand : t.call.operand < 4294967296
  pub call-timeout : t.call.timeout < 4294967296
  pub answer-message : IsSigned t.answer.message
  pub answer-datum : t.answer.datum < 4294967296
  pub cause : t.cause < 4294967296
  pub step : t.step < 4294967296

pub record BoxTyped (b : Mailbox) : Type 0 where
  pub read : b.positions.read < 65536
  pub write : b.positions.write < 65536
  pub count : b.positions.count < 65536
  pub reset : b.reset < 65536
  pub message-rows : length b.messages ≡ 16
  pub messages : (s : ℕ) → s < 16 → get_or b.messages s 0 < 4294967296

pub record PoolTyped (x : Pool) : Type 0 where
  pub length-is : x.length < 65536
  pub list-rows : length x.list ≡ 32
  pub list : (j : ℕ) → j < 32 → get_or x.list j 0 < 256
  pub mark-rows : length x.marks ≡ 32
  pub marks : (o : ℕ) → o < 32 → get_or x.marks o 0 < 256

pub record SizesTyped (z : Sizes) : Type 0 where
  pub threads : z.threads < 65536
  pub semaphores : z.semaphores < 65536
  pub queues : z.queues < 65536
  pub references : z.references < 65536
  pub mailboxes : z.mailboxes < 65536
  pub pools : z.pools < 65536
  pub slot-rows : length z.slots ≡ 4
  pub slots : (m : ℕ) → m < 4 → get_or z.slots m 0 < 65536

pub record HostTyped (t : Tables) (c : Clock) : Type 0 where
  pub thread-rows : length t.kernel.threads ≡ 16
  pub threads : (i : ℕ) → i < 16 → ThreadTyped (get_or t.kernel.threads i no_thread)
  pub counter-rows : length t.kernel.counters ≡ 36
  pub counters : (p : ℕ) → p < 36 → IsSigned (get_or t.kernel.counters p (pos 0))
  pub reference-rows : length t.kernel.references ≡ 8
  pub references : (r : ℕ) → r < 8 → get_or t.kernel.references r 255 < 256
  pub ready : t.kernel.words.ready < 65536
  pub waiting-rows : length t.kernel.words.waiting ≡ 36
  pub waiting : (p : ℕ) → p < 36 → get_or t.kernel.words.waiting p 0 < 65536
  pub unused : t.kernel.words.unused < 65536
  pub steps : t.kernel.steps < 4294967296
  pub box-rows : length t.mailboxes ≡ 4
  pub boxes : (m : ℕ) → m < 4 → BoxTyped (get_or t.mailboxes m no_box)
  pub pool-rows : length t.pools ≡ 4
  pub pools : (q : ℕ) → q < 4 → PoolTyped (get_or t.pools q no_pool)
  pub sizes : SizesTyped t.sizes
  pub time : c.time.0 < 4294967296
  pub frequency : c.frequency < 4294967296
