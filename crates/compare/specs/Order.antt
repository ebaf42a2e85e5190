-- THE ORDER OF THE FIELDS: "threads, references, queues, semaphores, mailboxes, pools, clock, step number, then by number, fields in an
-- order set once in docs/", which is docs/COMPARE.md. An entry names a field by object, number and field.
use Rattle.std.specs.Prelude.{ℕ, ◌+◌, ◌-◌, ◌*◌, ◌/◌, ◌%◌, Bool, true, cond, ◌&&◌, ◌||◌, eqb, ltb, leb}
use Rattle.library.specs.declared.ring.Positions.{Positions}
use Rattle.library.specs.Sizes.{slots_at}
use Rattle.library.specs.Tables.{mailbox_in, pool_in}
use Rattle.compare.specs.declared.cells.Kept.{Kept}
use Rattle.compare.specs.declared.order.Name.{Name}
use Rattle.compare.specs.Changes.{Reading}
use Rattle.compare.specs.Cells.{counters_at, references_at, steps_at, mailboxes_at, pools_at, clock_at, cell_at}

-- ---- where each object's fields begin in the order: 16 threads of 14 fields, 8 references, 8 queues, ..

abbrev pub references_from : ℕ
references_from = 16 * 14

abbrev pub queues_from : ℕ
queues_from = references_from + 8

abbrev pub semaphores_from : ℕ
semaphores_from = queues_from + 8

abbrev pub mailboxes_from : ℕ
mailboxes_from = semaphores_from + 16

abbrev pub pools_from : ℕ
pools_from = mailboxes_from + 4 * 22

abbrev pub clock_from : ℕ
clock_from = pools_from + 4 * 66

abbrev pub steps_from : ℕ
steps_from = clock_from + 2

-- how many fields there are
abbrev pub fields : ℕ
fields = steps_from + 1

-- ---- names

-- objects are 0 thread, 1 reference, 2 queue, 3 semaphore, 4 mailbox, 5 pool, 6 clock, 7 step number
abbrev pub called : ℕ → ℕ → ℕ → Name
called o n f = record { object = o; number = n; field = f }

-- the name of the field k
unfoldable pub named : ℕ → Name
named k =
    cond (ltb k references_from) (called 0 (k / 14) (k % 14))
    (cond (ltb k queues_from) (called 1 (k - references_from) 0)
    (cond (ltb k semaphores_from) (called 2 (k - queues_from) 0)
    (cond (ltb k mailboxes_from) (called 3 (k - semaphores_from) 0)
    (cond (ltb k pools_from) (called 4 ((k - mailboxes_from) / 22) ((k - mailboxes_from) % 22))
    (cond (ltb k clock_from) (called 5 ((k - pools_from) / 66) ((k - pools_from) % 66))
    (cond (ltb k steps_from) (called 6 0 (k - clock_from)) (called 7 0 (k - steps_from))))))))

-- and back: where an object's fields begin, how many rows it has and how many fields a row; `fields` for a name that no field has
abbrev pub row_at : ℕ → ℕ → ℕ → ℕ → ℕ → ℕ
row_at first rows width n f = cond (ltb n rows && ltb f width) (first + n * width + f) fields

unfoldable pub place_named : Name → ℕ
place_named x =
    cond (eqb x.object 0) (row_at 0 16 14 x.number x.field)
    (cond (eqb x.object 1) (row_at references_from 8 1 x.number x.field)
    (cond (eqb x.object 2) (row_at queues_from 8 1 x.number x.field)
    (cond (eqb x.object 3) (row_at semaphores_from 16 1 x.number x.field)
    (cond (eqb x.object 4) (row_at mailboxes_from 4 22 x.number x.field)
    (cond (eqb x.object 5) (row_at pools_from 4 66 x.number x.field)
    (cond (eqb x.object 6) (row_at clock_from 1 2 x.number x.field)
    (cond (eqb x.object 7) (row_at steps_from 1 1 x.number x.field) fields)))))))

-- ---- where the field k lies

-- a mailbox's first two fields are its writers' and its readers' counter, a pool's first is its counter
abbrev pub box_at : ℕ → ℕ → ℕ
box_at m f = cond (ltb f 2) (counters_at + 28 + 4 * f + m) (mailboxes_at + 20 * m + (f - 2))

abbrev pub pool_at : ℕ → ℕ → ℕ
pool_at q f = cond (eqb f 0) (counters_at + 16 + q) (pools_at + 65 * q + (f - 1))

unfoldable pub cell_of : ℕ → ℕ
cell_of k =
    cond (ltb k references_from) k
    (cond (ltb k queues_from) (references_at + (k - references_from))
    (cond (ltb k semaphores_from) (counters_at + 20 + (k - queues_from))
    (cond (ltb k mailboxes_from) (counters_at + (k - semaphores_from))
    (cond (ltb k pools_from) (box_at ((k - mailboxes_from) / 22) ((k - mailboxes_from) % 22))
    (cond (ltb k clock_from) (pool_at ((k - pools_from) / 66) ((k - pools_from) % 66))
    (cond (ltb k steps_from) (clock_at + (k - clock_from)) steps_at))))))

-- ---- which fields count

-- "Unused mailbox slots .. don't count": slot s is used if it is the read place plus less than the count, modulo slots
unfoldable pub slot_used : Positions → ℕ → ℕ → Bool
slot_used q slots s = ltb s slots && ltb ((s + (slots - q.read)) % slots) q.count

-- of a mailbox in use: the used slots, and all else
unfoldable pub box_counts : Kept → Name → Bool
box_counts a x =
    ltb x.number a.tables.sizes.mailboxes
    && (ltb x.field 6
    || slot_used (mailbox_in a.tables.mailboxes x.number).positions (slots_at a.tables.sizes x.number) (x.field - 6))

-- of a pool in use: the places of the list below its length, and all else
unfoldable pub pool_counts : Kept → Name → Bool
pool_counts a x =
    ltb x.number a.tables.sizes.pools
    && (ltb x.field 2 || (leb 34 x.field || ltb (x.field - 2) (pool_in a.tables.pools x.number).length))

-- rows in use; the clock and the step number always
unfoldable pub counts_named : Kept → Name → Bool
counts_named a x =
    cond (eqb x.object 0) (ltb x.number a.tables.sizes.threads)
    (cond (eqb x.object 1) (ltb x.number a.tables.sizes.references)
    (cond (eqb x.object 2) (ltb x.number a.tables.sizes.queues)
    (cond (eqb x.object 3) (ltb x.number a.tables.sizes.semaphores)
    (cond (eqb x.object 4) (box_counts a x)
    (cond (eqb x.object 5) (pool_counts a x) true)))))

-- what the field k holds, whether it counts, and what of it is listed as old
abbrev pub value_of : Kept → ℕ → ℕ
value_of a k = cell_at a (cell_of k)

abbrev pub counts_of : Kept → ℕ → Bool
counts_of a k = counts_named a (named k)

abbrev pub old_of : Kept → ℕ → ℕ
old_of a k = cond (counts_of a k) (value_of a k) 0

-- all fields of what is kept, in the order
abbrev pub reading_of : Kept → Reading
reading_of a = record { value = value_of a; counts = counts_of a }
