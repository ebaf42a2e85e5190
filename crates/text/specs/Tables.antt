-- The rows of all tables and of the words, in the order of docs/LISTING.md. A table is a part, by its number.
use Rattle.std.specs.Prelude.{ℕ, ◌+◌, ◌-◌, ◌*◌, ◌/◌, ◌%◌, cond, [], ◌∷◌, ℤ, ◌==◌, nat_lt}
use Rattle.kernel.specs.declared.records.Thread.{Thread}
use Rattle.kernel.specs.declared.records.Words.{Words}
use Rattle.kernel.specs.Tables.{row_in, counter_in, holder_in}
use Rattle.kernel.specs.Words.{waiting_at}
use Rattle.library.specs.declared.tables.Pool.{Pool}
use Rattle.library.specs.declared.tables.Tables.{Tables}
use Rattle.library.specs.Sizes.{slots_at}
use Rattle.library.specs.Tables.{mailbox_in, pool_in}
use Rattle.text.specs.declared.items.Item.{Item}
use Rattle.text.specs.declared.items.Item.TheVariants.{Nothing, End, Dash, Number, Signed, Lettered}
use Rattle.text.specs.declared.items.Cells.TheVariants.{Empty, Messages, Objects, Marks}
use Rattle.text.specs.declared.items.Line.{Line}
use Rattle.text.specs.Rows.{listing, brief}

-- "rows within the sizes only": as many as the sizes say, and as the table has
abbrev pub least : ℕ → ℕ → ℕ
least n most = cond (nat_lt n most) n most

-- a place of the table of counters: s, p, q, w (writers) or f (readers), and the object's number
abbrev pub place_item : ℕ → Item
place_item p =
    cond (nat_lt p 16) (Lettered 115 p)
    (cond (nat_lt p 20) (Lettered 112 (p - 16))
    (cond (nat_lt p 28) (Lettered 113 (p - 20)) (cond (nat_lt p 32) (Lettered 119 (p - 28)) (Lettered 102 (p - 32)))))

-- where a thread waits: r and a reference's number if it is suspended, a dash if it waits on no object
abbrev pub wait_item : ℕ → ℕ → Item
wait_item state place = cond (state == 3) (place_item place) (cond (state == 2) (Lettered 114 place) Dash)

-- `thread I STATE PLACE REMAINING PENDING AWAITED MESSAGE KIND OBJECT OPERAND TIMEOUT LASTMESSAGE LASTDATUM CAUSE STEP`
unfoldable pub thread_row : ℕ → Thread → Line
thread_row i t =
    record {
      word = 116 ∷ 104 ∷ 114 ∷ 101 ∷ 97 ∷ 100 ∷ 0 ∷ 0 ∷ 0 ∷ [];
      items =
          Number i ∷ Number t.state ∷ wait_item t.state t.place ∷ Number t.remaining ∷ Number t.pending ∷ Number t.awaited ∷ Signed t.message
          ∷ Number t.call.kind ∷ Number t.call.object ∷ Number t.call.operand ∷ Number t.call.timeout ∷ Signed t.answer.message
          ∷ Number t.answer.datum ∷ Number t.cause ∷ Number t.step ∷ [];
      cells = Empty;
      end = End;
    }

-- 0 or 1
abbrev pub reset_of : ℕ → ℕ
reset_of n = cond (n == 0) 0 1

-- `mailbox I READ WRITE COUNT RESET WRITERS READERS SLOT0 SLOT1 ..`
unfoldable pub mailbox_row : Tables → ℕ → Line
mailbox_row t i =
    let b = mailbox_in t.mailboxes i in
    listing (109 ∷ 97 ∷ 105 ∷ 108 ∷ 98 ∷ 111 ∷ 120 ∷ 0 ∷ 0 ∷ [])
    (Number i) (Number b.positions.read) (Number b.positions.write) (Number b.positions.count) (Number (reset_of b.reset))
    (Signed (counter_in t.kernel.counters (28 + i))) (Signed (counter_in t.kernel.counters (32 + i)))
    (Messages b (least (slots_at t.sizes i) 16))

-- `pool I COUNTER LENGTH BOTTOM .. TOP`
unfoldable pub free_row : ℕ → Pool → ℤ → Line
free_row n p count =
    listing (112 ∷ 111 ∷ 111 ∷ 108 ∷ 0 ∷ 0 ∷ 0 ∷ 0 ∷ 0 ∷ []) (Number n) (Signed count) (Number p.length) Nothing Nothing Nothing Nothing
    (Objects p (least p.length 32))

-- `marks I MARK0 .. MARK31`
unfoldable pub marks_row : ℕ → Pool → Line
marks_row n p =
    listing (109 ∷ 97 ∷ 114 ∷ 107 ∷ 115 ∷ 0 ∷ 0 ∷ 0 ∷ 0 ∷ []) (Number n) Nothing Nothing Nothing Nothing Nothing Nothing
    (Marks p)

-- two rows a pool
unfoldable pub pool_row : Tables → ℕ → Line
pool_row t i =
    let p = pool_in t.pools (i / 2) in
    cond (i % 2 == 0) (free_row (i / 2) p (counter_in t.kernel.counters (16 + i / 2))) (marks_row (i / 2) p)

-- the place of word i: "semaphores `s0 ..`, queues `q0 ..`, each mailbox's two sides `w0 f0 w1 f1 ..`, pools `p0 ..`"
abbrev pub word_place : ℕ → ℕ → ℕ
word_place part i = cond (part == 9) i (cond (part == 10) (20 + i) (cond (part == 11) (28 + 4 * (i % 2) + i / 2) (16 + i)))

-- `ready WORD`, and `waiting PLACE WORD`
unfoldable pub word_row : Words → ℕ → ℕ → Line
word_row w part i =
    cond (part == 8) (brief (114 ∷ 101 ∷ 97 ∷ 100 ∷ 121 ∷ 0 ∷ 0 ∷ 0 ∷ 0 ∷ []) (Number w.ready) Nothing)
    (brief (119 ∷ 97 ∷ 105 ∷ 116 ∷ 105 ∷ 110 ∷ 103 ∷ 0 ∷ 0 ∷ []) (place_item (word_place part i)) (Number (waiting_at w (word_place part i))))

-- `semaphore I COUNTER`, `queue I COUNTER`, `reference I HOLDER` and the rows above
unfoldable pub table_row : Tables → ℕ → ℕ → Line
table_row t part i =
    cond (part == 2) (thread_row i (row_in t.kernel.threads i))
    (cond (part == 3) (brief (115 ∷ 101 ∷ 109 ∷ 97 ∷ 112 ∷ 104 ∷ 111 ∷ 114 ∷ 101 ∷ []) (Number i) (Signed (counter_in t.kernel.counters i)))
    (cond (part == 4) (brief (113 ∷ 117 ∷ 101 ∷ 117 ∷ 101 ∷ 0 ∷ 0 ∷ 0 ∷ 0 ∷ []) (Number i) (Signed (counter_in t.kernel.counters (20 + i))))
    (cond (part == 5) (brief (114 ∷ 101 ∷ 102 ∷ 101 ∷ 114 ∷ 101 ∷ 110 ∷ 99 ∷ 101 ∷ []) (Number i) (Number (holder_in t.kernel.references i)))
    (cond (part == 6) (mailbox_row t i) (pool_row t i)))))
