-- COMPARING TABLES, of document 02: which fields there are and which of them count, the list of what differs, and what it makes of tables.
-- A field is named by its object o, the object's number n and the field f; docs/COMPARE.md has the numbers.
use Rattle.std.specs.Prelude.{ℕ, zero, suc, ◌+◌, ◌-◌, ◌*◌, ◌/◌, ◌%◌, ◌≤◌, ◌<◌, ◌≡◌, ◌≢◌, Bool, true, cond, not, ◌&&◌, ◌||◌, List, [], ◌∷◌, ◌++◌, eqb, ltb, leb, ℤ, pos, negsuc, length, get_or}
use Rattle.kernel.specs.declared.clock.Clock.{Clock}
use Rattle.kernel.specs.declared.records.Thread.{Thread}
use Rattle.library.specs.declared.sizes.Sizes.{Sizes}
use Rattle.library.specs.declared.tables.Mailbox.{Mailbox}
use Rattle.library.specs.declared.tables.Pool.{Pool}
use Rattle.library.specs.declared.tables.Tables.{Tables}
use Rattle.promises.specs.Paper.World.{found}
use Rattle.promises.specs.Paper.Together.{SizesFit, HangTogether, InUse, WordOf, is_ready, is_queued, number}

-- ---- what a field holds

-- a signed number's 32 bits
abbrev pub bits : ℤ → ℕ
bits (pos n) = n
bits (negsuc n) = 4294967295 - n

-- a thread's 14 fields
abbrev pub thread_fields : Thread → List ℕ
thread_fields t =
    t.state
    ∷ t.place
    ∷ t.remaining
    ∷ t.pending
    ∷ t.awaited
    ∷ bits t.message
    ∷ t.call.kind
    ∷ t.call.object
    ∷ t.call.operand
    ∷ t.call.timeout
    ∷ bits t.answer.message
    ∷ t.answer.datum
    ∷ t.cause
    ∷ t.step
    ∷ []

-- a mailbox's 6 fields and 16 slots: the counters of its writers' and of its readers' queue are its own
abbrev pub box_fields : ℤ → ℤ → Mailbox → List ℕ
box_fields writers readers b =
    bits writers ∷ bits readers ∷ b.positions.read ∷ b.positions.write ∷ b.positions.count ∷ b.reset ∷ b.messages

-- a pool's 2 fields, 32 places of the free list and 32 marks: its counter is its own
abbrev pub pool_fields : ℤ → Pool → List ℕ
pool_fields counter x = bits counter ∷ x.length ∷ (x.list ++ x.marks)

-- "in the order threads, references, queues, semaphores, mailboxes, pools, clock, step number": objects 0 to 7
abbrev pub holds : Tables → Clock → ℕ → ℕ → ℕ → ℕ
holds t c o n f =
    cond (eqb o 0) (get_or (thread_fields ((found t).thread n)) f 0)
    (cond (eqb o 1) ((found t).holder n)
    (cond (eqb o 2) (bits ((found t).counter (20 + n)))
    (cond (eqb o 3) (bits ((found t).counter n))
    (cond (eqb o 4) (get_or (box_fields ((found t).counter (28 + n)) ((found t).counter (32 + n)) ((found t).box n)) f 0)
    (cond (eqb o 5) (get_or (pool_fields ((found t).counter (16 + n)) ((found t).pool n)) f 0)
    (cond (eqb o 6) (cond (eqb f 0) c.time.0 c.frequency) t.kernel.steps))))))

-- ---- which fields there are, and which count

-- a field that docs/COMPARE.md lists, whatever the sizes are: an object's rows, and the fields of a row
abbrev pub is_of : ℕ → ℕ → ℕ → ℕ → ℕ → ℕ → Bool
is_of object rows width o n f = eqb o object && (ltb n rows && ltb f width)

abbrev pub is_field : ℕ → ℕ → ℕ → Bool
is_field o n f =
    is_of 0 16 14 o n f
    || (is_of 1 8 1 o n f
    || (is_of 2 8 1 o n f
    || (is_of 3 16 1 o n f || (is_of 4 4 22 o n f || (is_of 5 4 66 o n f || (is_of 6 1 2 o n f || is_of 7 1 1 o n f))))))

-- how many numbers a field has room for: a thread's state, place and call's kind and object, a mailbox's places, count and reset state, and a
-- pool's length have 16 bits, references, list places and marks 8, all others 32
abbrev pub room_of : ℕ → ℕ → ℕ
room_of o f =
    cond (eqb o 0) (cond (ltb f 2 || (leb 6 f && ltb f 8)) 65536 4294967296)
    (cond (eqb o 1) 256
    (cond (eqb o 4) (cond (leb 2 f && ltb f 6) 65536 4294967296)
    (cond (eqb o 5) (cond (eqb f 0) 4294967296 (cond (eqb f 1) 65536 256)) 4294967296)))

-- rows in use; "Unused mailbox slots and free-list places beyond the length don't count"
pub data Counts (t : Tables) : ℕ → ℕ → ℕ → Type 0 where
  thread : {i f : ℕ} → i < t.sizes.threads → f < 14 → Counts t 0 i f
  reference : {r : ℕ} → r < t.sizes.references → Counts t 1 r 0
  queue : {q : ℕ} → q < t.sizes.queues → Counts t 2 q 0
  semaphore : {s : ℕ} → s < t.sizes.semaphores → Counts t 3 s 0
  mailbox : {m f : ℕ} → m < t.sizes.mailboxes → f < 6 → Counts t 4 m f
  -- the j-th message of a mailbox, from its read place on
  message : {m s : ℕ} → m < t.sizes.mailboxes → (j : ℕ) → j < ((found t).box m).positions.count
      → s ≡ (((found t).box m).positions.read + j) % get_or t.sizes.slots m 0 → Counts t 4 m (6 + s)
  pool : {q f : ℕ} → q < t.sizes.pools → f < 2 → Counts t 5 q f
  listed : {q j : ℕ} → q < t.sizes.pools → j < ((found t).pool q).length → Counts t 5 q (2 + j)
  mark : {q x : ℕ} → q < t.sizes.pools → x < 32 → Counts t 5 q (34 + x)
  clock : {f : ℕ} → f < 2 → Counts t 6 0 f
  steps : Counts t 7 0 0

-- ---- two sets of tables are equal in all that counts, row by row

-- the numbers of rows, and the slots of the mailboxes in use
pub record SameSizes (y z : Sizes) : Type 0 where
  pub threads : y.threads ≡ z.threads
  pub semaphores : y.semaphores ≡ z.semaphores
  pub queues : y.queues ≡ z.queues
  pub references : y.references ≡ z.references
  pub mailboxes : y.mailboxes ≡ z.mailboxes
  pub pools : y.pools ≡ z.pools
  pub slots : (m : ℕ) → m < z.mailboxes → get_or y.slots m 0 ≡ get_or z.slots m 0

-- a mailbox of so many slots: its places, count and reset state, and the messages from the read place on
pub record SameBox (slots : ℕ) (x b : Mailbox) : Type 0 where
  pub positions : x.positions ≡ b.positions
  pub reset : x.reset ≡ b.reset
  pub messages : (j : ℕ) → j < b.positions.count
      → get_or x.messages ((b.positions.read + j) % slots) 0 ≡ get_or b.messages ((b.positions.read + j) % slots) 0

-- a pool: its length, the list below it, and the marks
pub record SamePool (x b : Pool) : Type 0 where
  pub length : x.length ≡ b.length
  pub list : (j : ℕ) → j < b.length → get_or x.list j 0 ≡ get_or b.list j 0
  pub marks : (o : ℕ) → o < 32 → get_or x.marks o 0 ≡ get_or b.marks o 0

-- "Equal tables": all that counts of t and c is what it is of u and d. Words follow from the records (`WordsAgree`)
pub record Equal (t : Tables) (c : Clock) (u : Tables) (d : Clock) : Type 0 where
  pub sizes : SameSizes t.sizes u.sizes
  pub threads : (i : ℕ) → i < u.sizes.threads → (found t).thread i ≡ (found u).thread i
  pub references : (r : ℕ) → r < u.sizes.references → (found t).holder r ≡ (found u).holder r
  pub semaphores : (s : ℕ) → s < u.sizes.semaphores → (found t).counter s ≡ (found u).counter s
  pub pool-counters : (q : ℕ) → q < u.sizes.pools → (found t).counter (16 + q) ≡ (found u).counter (16 + q)
  pub queues : (q : ℕ) → q < u.sizes.queues → (found t).counter (20 + q) ≡ (found u).counter (20 + q)
  pub writers : (m : ℕ) → m < u.sizes.mailboxes → (found t).counter (28 + m) ≡ (found u).counter (28 + m)
  pub readers : (m : ℕ) → m < u.sizes.mailboxes → (found t).counter (32 + m) ≡ (found u).counter (32 + m)
  pub mailboxes : (m : ℕ) → m < u.sizes.mailboxes → SameBox (get_or u.sizes.slots m 0) ((found t).box m) ((found u).box m)
  pub pools : (q : ℕ) → q < u.sizes.pools → SamePool ((found t).pool q) ((found u).pool q)
  pub clock : c ≡ d
  pub steps : t.kernel.steps ≡ u.kernel.steps

-- and the words of the two are the same, where they are part of the tables
pub record SameWords (t u : Tables) : Type 0 where
  pub ready : t.kernel.words.ready ≡ u.kernel.words.ready
  pub waiting : (p : ℕ) → InUse u.sizes p → get_or t.kernel.words.waiting p 0 ≡ get_or u.kernel.words.waiting p 0

-- ---- the list

-- "one entry for each field that differs, with the object, its number, the field, old and new"
pub record Entry : Type 0 where
  pub object : ℕ
  pub number : ℕ
  pub field : ℕ
  pub old : ℕ
  pub new : ℕ

-- a list is numbers: entry i is the five from 5 i on
abbrev pub entry_at : List ℕ → ℕ → Entry
entry_at l i =
    record {
      object = get_or l (i * 5) 0;
      number = get_or l (i * 5 + 1) 0;
      field = get_or l (i * 5 + 2) 0;
      old = get_or l (i * 5 + 3) 0;
      new = get_or l (i * 5 + 4) 0;
    }

-- a field of the second that is listed, with its old value: it holds something else in the first; or "one used only in the second is listed
-- with old 0", whatever it holds. "one used only in the first not at all": it does not count in the second
pub data Differs (t : Tables) (c : Clock) (u : Tables) (d : Clock) (o n f : ℕ) : ℕ → Type 0 where
  changed : Counts t o n f → Counts u o n f → holds t c o n f ≢ holds u d o n f → Differs t c u d o n f (holds t c o n f)
  only-second : (Counts t o n f → ⊥) → Counts u o n f → Differs t c u d o n f 0

-- "in the order .., then by number, fields in an order set once in docs/"
pub data Before (e g : Entry) : Type 0 where
  by-object : e.object < g.object → Before e g
  by_number : e.object ≡ g.object → e.number < g.number → Before e g
  by_field : e.object ≡ g.object → e.number ≡ g.number → e.field < g.field → Before e g

-- one of k entries names a field
pub record Listed (k : ℕ) (entry : ℕ → Entry) (o n f : ℕ) : Type 0 where
  pub at : ℕ
  pub inside : at < k
  pub object : (entry at).object ≡ o
  pub number : (entry at).number ≡ n
  pub field : (entry at).field ≡ f

-- the list of what differs has k entries
pub record ListOf (t : Tables) (c : Clock) (u : Tables) (d : Clock) (k : ℕ) (entry : ℕ → Entry) : Type 0 where
  pub old : (i : ℕ) → i < k → Differs t c u d (entry i).object (entry i).number (entry i).field (entry i).old
  pub new : (i : ℕ) → i < k → (entry i).new ≡ holds u d (entry i).object (entry i).number (entry i).field
  pub rising : (i j : ℕ) → i < j → j < k → Before (entry i) (entry j)
  pub complete : (o n f v : ℕ) → Differs t c u d o n f v → Listed k entry o n f

-- tables and their clock hang together
abbrev pub Whole : Tables → Clock → Type 0
Whole t c = HangTogether (found t) t.kernel.words c

-- a comparison of t and c with u and d over the room l: a code and a number of entries, and the room becomes r. "Refusals: 1 for tables that
-- don't hang together, first input before second; 5 if the sizes or slots differ; 16 if the list's room is too small, with nothing written"
pub data CompareOf (t : Tables) (c : Clock) (u : Tables) (d : Clock) (l : List ℕ) : ℕ → ℕ → List ℕ → Type 0 where
  first : (Whole t c → ⊥) → CompareOf t c u d l 1 0 l
  second : Whole t c → (Whole u d → ⊥) → CompareOf t c u d l 1 0 l
  sizes : Whole t c → Whole u d → (SameSizes t.sizes u.sizes → ⊥) → CompareOf t c u d l 5 0 l
  no_room : Whole t c → Whole u d → SameSizes t.sizes u.sizes → (k : ℕ) (entry : ℕ → Entry) → ListOf t c u d k entry
      → length l < k * 5 → CompareOf t c u d l 16 0 l
  listed : Whole t c → Whole u d → SameSizes t.sizes u.sizes → (k : ℕ) (r : List ℕ) → ListOf t c u d k (entry_at r)
      → k * 5 ≤ length l → length r ≡ length l → ((j : ℕ) → k * 5 ≤ j → get_or r j 0 ≡ get_or l j 0) → CompareOf t c u d l 0 k r

-- ---- a list applied

-- entry k names the field
abbrev pub is_entry : List ℕ → ℕ → ℕ → ℕ → ℕ → Bool
is_entry l k o n f = eqb (entry_at l k).object o && (eqb (entry_at l k).number n && eqb (entry_at l k).field f)

-- what a field that held v holds after the first k entries: the new number of the last that names it, cut to the field's width
abbrev pub held_after : List ℕ → ℕ → ℕ → ℕ → ℕ → ℕ → ℕ
held_after l zero o n f v = v
held_after l (suc k) o n f v = cond (is_entry l k o n f) ((entry_at l k).new % room_of o f) (held_after l k o n f v)

-- "making the words of 1/13 anew": what a walk over the records gives; words of places that are not in use stay
pub record WordsAnew (t u : Tables) : Type 0 where
  pub ready : WordOf (is_ready (found u)) u.sizes.threads u.kernel.words.ready
  pub waiting : (p : ℕ) → InUse u.sizes p → WordOf (is_queued (found u) p) u.sizes.threads (get_or u.kernel.words.waiting p 0)
  pub unused : (p : ℕ) → (InUse u.sizes p → ⊥) → get_or u.kernel.words.waiting p 0 ≡ get_or t.kernel.words.waiting p 0

-- a list applied to any tables t and clock c, which become u and d; so many entries were passed over
pub record ApplyOf (t : Tables) (c : Clock) (l : List ℕ) (u : Tables) (d : Clock) (passed : ℕ) : Type 0 where
  pub fields : (o n f : ℕ) → is_field o n f ≡ true → holds u d o n f ≡ held_after l (length l / 5) o n f (holds t c o n f)
  pub sizes : u.sizes ≡ t.sizes
  -- where the sizes are in range; else no walk over the records is told of
  pub words : SizesFit t.sizes → WordsAnew t u
  pub filling : u.kernel.words.unused ≡ t.kernel.words.unused
  -- an entry that names no field is passed over
  pub passed_over : passed ≡ number (λ i. not (is_field (entry_at l i).object (entry_at l i).number (entry_at l i).field)) (length l / 5)
