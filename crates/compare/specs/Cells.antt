-- The numbers of what a host keeps, as they lie: each has a place and is read and stored by it.
-- A row is a list of numbers, and back; signed numbers are their bits. A number too large for its place is cut to its width.
use Rattle.std.specs.Prelude.{ℕ, ◌+◌, ◌-◌, ◌*◌, ◌/◌, ◌%◌, cond, List, [], ◌∷◌, eqb, ltb, get_or, set, ℤ}
use Rattle.std.specs.Int.{w32}
use Rattle.std.proofs.Common.{to_z, of_z}
use Rattle.kernel.specs.declared.clock.Clock.{Clock}
use Rattle.kernel.specs.declared.records.Thread.{Thread}
use Rattle.kernel.specs.declared.records.Words.{Words}
use Rattle.kernel.specs.declared.records.Records.{Records}
use Rattle.kernel.specs.Tables.{row_in, counter_in, holder_in}
use Rattle.library.specs.declared.sizes.Sizes.{Sizes}
use Rattle.library.specs.declared.tables.Mailbox.{Mailbox}
use Rattle.library.specs.declared.tables.Pool.{Pool}
use Rattle.library.specs.declared.tables.Tables.{Tables}
use Rattle.library.specs.Mailbox.{message_at, with_message}
use Rattle.library.specs.Pool.{listed_at, mark_at, with_listed, with_mark, with_length}
use Rattle.library.specs.Tables.{mailbox_in, pool_in}
use Rattle.compare.specs.declared.cells.Kept.{Kept}

-- ---- where each part begins, as they lie: 16 threads of 14 numbers, then ..

abbrev pub counters_at : ℕ
counters_at = 16 * 14

abbrev pub references_at : ℕ
references_at = counters_at + 36

abbrev pub words_at : ℕ
words_at = references_at + 8

abbrev pub steps_at : ℕ
steps_at = words_at + 38

abbrev pub mailboxes_at : ℕ
mailboxes_at = steps_at + 1

abbrev pub pools_at : ℕ
pools_at = mailboxes_at + 4 * 20

abbrev pub sizes_at : ℕ
sizes_at = pools_at + 4 * 65

abbrev pub clock_at : ℕ
clock_at = sizes_at + 10

abbrev pub cell_count : ℕ
cell_count = clock_at + 2

-- ---- widths

abbrev pub byte : ℕ → ℕ
byte x = x % 256

abbrev pub half : ℕ → ℕ
half x = x % 65536

-- ---- rows as lists of numbers, and back

abbrev pub thread_cells : Thread → List ℕ
thread_cells t =
    t.state
    ∷ t.place
    ∷ t.remaining
    ∷ t.pending
    ∷ t.awaited
    ∷ of_z w32 t.message
    ∷ t.call.kind
    ∷ t.call.object
    ∷ t.call.operand
    ∷ t.call.timeout
    ∷ of_z w32 t.answer.message
    ∷ t.answer.datum
    ∷ t.cause
    ∷ t.step
    ∷ []

abbrev pub thread_of : List ℕ → Thread
thread_of v =
    record {
      state = half (get_or v 0 0);
      place = half (get_or v 1 0);
      remaining = get_or v 2 0;
      pending = get_or v 3 0;
      awaited = get_or v 4 0;
      message = to_z w32 (get_or v 5 0);
      call = record { kind = half (get_or v 6 0); object = half (get_or v 7 0); operand = get_or v 8 0; timeout = get_or v 9 0 };
      answer = record { message = to_z w32 (get_or v 10 0); datum = get_or v 11 0 };
      cause = get_or v 12 0;
      step = get_or v 13 0;
    }

-- a mailbox without its messages: read and write place, count, reset state
abbrev pub box_head : Mailbox → List ℕ
box_head b = b.positions.read ∷ b.positions.write ∷ b.positions.count ∷ b.reset ∷ []

abbrev pub with_head : Mailbox → List ℕ → Mailbox
with_head b v =
    record {
      positions = record { read = half (get_or v 0 0); write = half (get_or v 1 0); count = half (get_or v 2 0) };
      reset = half (get_or v 3 0);
      messages = b.messages;
    }

abbrev pub sizes_head : Sizes → List ℕ
sizes_head z = z.threads ∷ z.semaphores ∷ z.queues ∷ z.references ∷ z.mailboxes ∷ z.pools ∷ []

abbrev pub with_sizes_head : Sizes → List ℕ → Sizes
with_sizes_head z v =
    record {
      threads = half (get_or v 0 0);
      semaphores = half (get_or v 1 0);
      queues = half (get_or v 2 0);
      references = half (get_or v 3 0);
      mailboxes = half (get_or v 4 0);
      pools = half (get_or v 5 0);
      slots = z.slots;
    }

abbrev pub with_slots : Sizes → ℕ → ℕ → Sizes
with_slots z m n =
    record {
      threads = z.threads;
      semaphores = z.semaphores;
      queues = z.queues;
      references = z.references;
      mailboxes = z.mailboxes;
      pools = z.pools;
      slots = set z.slots m n;
    }

-- ---- one number of a row

unfoldable pub thread_cell : Thread → ℕ → ℕ
thread_cell t f = get_or (thread_cells t) f 0

unfoldable pub thread_with : Thread → ℕ → ℕ → Thread
thread_with t f x = thread_of (set (thread_cells t) f x)

-- 0 to 3 the head, then the 16 slots
unfoldable pub box_cell : Mailbox → ℕ → ℕ
box_cell b f = cond (ltb f 4) (get_or (box_head b) f 0) (message_at b (f - 4))

unfoldable pub box_with : Mailbox → ℕ → ℕ → Mailbox
box_with b f x = cond (ltb f 4) (with_head b (set (box_head b) f x)) (with_message b (f - 4) x)

-- 0 the length, then the 32 places of the list, then the 32 marks
unfoldable pub pool_cell : Pool → ℕ → ℕ
pool_cell x f = cond (eqb f 0) x.length (cond (ltb f 33) (listed_at x (f - 1)) (mark_at x (f - 33)))

unfoldable pub pool_with : Pool → ℕ → ℕ → Pool
pool_with x f v =
    cond (eqb f 0) (with_length x (half v)) (cond (ltb f 33) (with_listed x (f - 1) (byte v)) (with_mark x (f - 33) (byte v)))

-- 0 the ready word, then a word for each place, then the filling
unfoldable pub word_cell : Words → ℕ → ℕ
word_cell w f = cond (eqb f 0) w.ready (cond (ltb f 37) (get_or w.waiting (f - 1) 0) w.unused)

unfoldable pub word_with : Words → ℕ → ℕ → Words
word_with w f v =
    cond (eqb f 0) (record { ready = half v; waiting = w.waiting; unused = w.unused })
    (cond (ltb f 37) (record { ready = w.ready; waiting = set w.waiting (f - 1) (half v); unused = w.unused })
    (record { ready = w.ready; waiting = w.waiting; unused = half v }))

-- 0 to 5 the numbers of rows, then the slots of the 4 mailboxes
unfoldable pub size_cell : Sizes → ℕ → ℕ
size_cell z f = cond (ltb f 6) (get_or (sizes_head z) f 0) (get_or z.slots (f - 6) 0)

unfoldable pub size_with : Sizes → ℕ → ℕ → Sizes
size_with z f v = cond (ltb f 6) (with_sizes_head z (set (sizes_head z) f v)) (with_slots z (f - 6) (half v))

unfoldable pub clock_cell : Clock → ℕ → ℕ
clock_cell c f = cond (eqb f 0) c.time.0 c.frequency

unfoldable pub clock_with : Clock → ℕ → ℕ → Clock
clock_with c f v =
    cond (eqb f 0) (record { time = record { 0 = v }; frequency = c.frequency }) (record { time = c.time; frequency = v })

-- ---- one number of all that is kept

-- the number at the place i: of the tables' parts as they lie, then of the clock
unfoldable pub cell_at : Kept → ℕ → ℕ
cell_at a i =
    cond (ltb i counters_at) (thread_cell (row_in a.tables.kernel.threads (i / 14)) (i % 14))
    (cond (ltb i references_at) (of_z w32 (counter_in a.tables.kernel.counters (i - counters_at)))
    (cond (ltb i words_at) (holder_in a.tables.kernel.references (i - references_at))
    (cond (ltb i steps_at) (word_cell a.tables.kernel.words (i - words_at))
    (cond (ltb i mailboxes_at) a.tables.kernel.steps
    (cond (ltb i pools_at) (box_cell (mailbox_in a.tables.mailboxes ((i - mailboxes_at) / 20)) ((i - mailboxes_at) % 20))
    (cond (ltb i sizes_at) (pool_cell (pool_in a.tables.pools ((i - pools_at) / 65)) ((i - pools_at) % 65))
    (cond (ltb i clock_at) (size_cell a.tables.sizes (i - sizes_at)) (clock_cell a.clock (i - clock_at)))))))))

-- one part made another
abbrev pub with_tables : Kept → Tables → Kept
with_tables a t = record { tables = t; clock = a.clock }

abbrev pub with_threads : Kept → List Thread → Kept
with_threads a l =
    record {
      tables = record {
        kernel = record {
          threads = l;
          counters = a.tables.kernel.counters;
          references = a.tables.kernel.references;
          words = a.tables.kernel.words;
          steps = a.tables.kernel.steps;
        };
        mailboxes = a.tables.mailboxes;
        pools = a.tables.pools;
        sizes = a.tables.sizes;
      };
      clock = a.clock;
    }

abbrev pub with_records : Kept → Records → Kept
with_records a r =
    record {
      tables = record { kernel = r; mailboxes = a.tables.mailboxes; pools = a.tables.pools; sizes = a.tables.sizes };
      clock = a.clock;
    }

abbrev pub with_counters : Kept → List ℤ → Kept
with_counters a l =
    with_records a
    (record {
      threads = a.tables.kernel.threads;
      counters = l;
      references = a.tables.kernel.references;
      words = a.tables.kernel.words;
      steps = a.tables.kernel.steps;
    })

abbrev pub with_references : Kept → List ℕ → Kept
with_references a l =
    with_records a
    (record {
      threads = a.tables.kernel.threads;
      counters = a.tables.kernel.counters;
      references = l;
      words = a.tables.kernel.words;
      steps = a.tables.kernel.steps;
    })

abbrev pub with_words : Kept → Words → Kept
with_words a w =
    with_records a
    (record {
      threads = a.tables.kernel.threads;
      counters = a.tables.kernel.counters;
      references = a.tables.kernel.references;
      words = w;
      steps = a.tables.kernel.steps;
    })

abbrev pub with_steps : Kept → ℕ → Kept
with_steps a n =
    with_records a
    (record {
      threads = a.tables.kernel.threads;
      counters = a.tables.kernel.counters;
      references = a.tables.kernel.references;
      words = a.tables.kernel.words;
      steps = n;
    })

abbrev pub with_mailboxes : Kept → List Mailbox → Kept
with_mailboxes a l =
    record {
      tables = record { kernel = a.tables.kernel; mailboxes = l; pools = a.tables.pools; sizes = a.tables.sizes };
      clock = a.clock;
    }

abbrev pub with_pools : Kept → List Pool → Kept
with_pools a l =
    record {
      tables = record { kernel = a.tables.kernel; mailboxes = a.tables.mailboxes; pools = l; sizes = a.tables.sizes };
      clock = a.clock;
    }

abbrev pub with_sizes : Kept → Sizes → Kept
with_sizes a z =
    record {
      tables = record { kernel = a.tables.kernel; mailboxes = a.tables.mailboxes; pools = a.tables.pools; sizes = z };
      clock = a.clock;
    }

abbrev pub with_clock : Kept → Clock → Kept
with_clock a c = record { tables = a.tables; clock = c }

-- one number of a table made another: that of place k, counted from the table's first number on
abbrev pub threads_with : List Thread → ℕ → ℕ → List Thread
threads_with l k v = set l (k / 14) (thread_with (row_in l (k / 14)) (k % 14) v)

abbrev pub boxes_with : List Mailbox → ℕ → ℕ → List Mailbox
boxes_with l k v = set l (k / 20) (box_with (mailbox_in l (k / 20)) (k % 20) v)

abbrev pub pools_with : List Pool → ℕ → ℕ → List Pool
pools_with l k v = set l (k / 65) (pool_with (pool_in l (k / 65)) (k % 65) v)

-- v stored at the place i
unfoldable pub stored : Kept → ℕ → ℕ → Kept
stored a i v =
    cond (ltb i counters_at) (with_threads a (threads_with a.tables.kernel.threads i v))
    (cond (ltb i references_at) (with_counters a (set a.tables.kernel.counters (i - counters_at) (to_z w32 v)))
    (cond (ltb i words_at) (with_references a (set a.tables.kernel.references (i - references_at) (byte v)))
    (cond (ltb i steps_at) (with_words a (word_with a.tables.kernel.words (i - words_at) v))
    (cond (ltb i mailboxes_at) (with_steps a v)
    (cond (ltb i pools_at) (with_mailboxes a (boxes_with a.tables.mailboxes (i - mailboxes_at) v))
    (cond (ltb i sizes_at) (with_pools a (pools_with a.tables.pools (i - pools_at) v))
    (cond (ltb i clock_at) (with_sizes a (size_with a.tables.sizes (i - sizes_at) v))
    (with_clock a (clock_with a.clock (i - clock_at) v)))))))))
