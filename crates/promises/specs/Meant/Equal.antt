-- Fields that hold the same make rows that are the same: a row's numbers stand in a run of fields, and the row is told by its numbers.
use Rattle.std.specs.Prelude.{ℕ, ◌+◌, ◌-◌, ◌*◌, ◌/◌, ◌%◌, ◌≤◌, ◌<◌, ◌≡◌, true, ◌||◌, ltb, leb}
use Rattle.std.proofs.Math.Nat.{mod-lt, mod-eq-sub-mod}
use Rattle.std.proofs.Common.{mod-eq_of_lt, ◌∙◌}
use native.Mathlib.Omega.{arith}
use Rattle.std.proofs.Math.Path.{refl, sym, ap}
use Rattle.std.proofs.Math.Seq.{ext_get_or}
use borrow.Author.Tests.{lt-ltb, le-ltb, le-leb, lt-leb, ne_eqb}
use Rattle.kernel.proofs.Cases.{in-or-out}
use Rattle.library.specs.declared.ring.Positions.{Positions}
use Rattle.library.specs.Sizes.{slots_at}
use Rattle.kernel.specs.Tables.{row_in, counter_in, holder_in}
use Rattle.library.specs.Tables.{mailbox_in, pool_in}
use Rattle.compare.specs.declared.cells.Kept.{Kept}
use Rattle.compare.specs.Cells.{thread_cells, thread_of, thread_cell, box_cell, pool_cell, clock_cell, cell_at}
use Rattle.compare.specs.Held.{Held}
use Rattle.compare.specs.Cells.{counters_at, references_at, mailboxes_at, pools_at}
use Rattle.compare.specs.Order.{fields, called, box_at, slot_used, box_counts, pool_counts, counts_named, value_of, counts_of}
use Rattle.promises.specs.Paper.Compare.{SameBox, SamePool}
use Rattle.compare.proofs.RowLaws.{thread-told, positions-told, clock-told, bits-told}
use Rattle.compare.proofs.CellsLaws.{read-threads, read-counters, read-references, read-boxes, read-pools}
use Rattle.compare.proofs.OrderLaws.{
  Lies,
  thread-lies,
  reference-lies,
  queue-lies,
  semaphore-lies,
  box-lies,
  pool-lies,
  clock-lies,
  steps-lies,
}

-- a slot that is so many places behind the read place is used
pub slot-used : (q : Positions) (slots j : ℕ) → q.read < slots → q.count ≤ slots → j < q.count → slot_used q slots ((q.read + j) % slots) ≡ true
unfolding slot_used
slot-used q slots j r c l =
    let low : (q.read + j) % slots < slots = mod-lt (q.read + j) (omega arith) in
    rw (lt-ltb ((q.read + j) % slots) slots low)
    (in-or-out (q.read + j) slots
    (λ h.
    let around : q.read + j + (slots - q.read) ≡ slots + j = omega arith in
    let back : slots + j - slots ≡ j = omega arith in
    rw (mod-eq_of_lt h, around, mod-eq-sub-mod {n = slots + j} {m = slots} (omega arith), back, mod-eq_of_lt {n = j} {m = slots} (omega arith))
    (lt-ltb j q.count l))
    (λ h.
    let less : q.read + j - slots < slots = omega arith in
    let back : q.read + j - slots + (slots - q.read) ≡ j = omega arith in
    rw (mod-eq-sub-mod h, mod-eq_of_lt less, back, mod-eq_of_lt {n = j} {m = slots} (omega arith)) (lt-ltb j q.count l)))

module _ (x b : Kept) (hx : Held x) (hb : Held b) (same : (k : ℕ) → k < fields → counts_of b k ≡ true → value_of x k ≡ value_of b k) where
  -- the field of a name, where it lies
  lies_same : {k o n f c : ℕ} → Lies k o n f c → counts_named b (called o n f) ≡ true → cell_at x c ≡ cell_at b c
  lies_same {k} l counts = rw l.cell at (same k l.inside (ap (counts_named b) l.name ∙ counts))

  -- number f of thread i
  thread-number : (i f : ℕ) → i < 16 → i < b.tables.sizes.threads → f < 14
      → thread_cell (row_in x.tables.kernel.threads i) f ≡ thread_cell (row_in b.tables.kernel.threads i) f
  unfolding counts_named
  thread-number i f h u l =
      let k = i * 14 + f in
      let row : k / 14 ≡ i = omega arith in
      let field : k % 14 ≡ f = omega arith in
      let e = lies_same (thread-lies i f h l) (lt-ltb i b.tables.sizes.threads u) in
      rw (row, field) at (sym (read-threads k x (omega arith)) ∙ e ∙ read-threads k b (omega arith))

  pub thread-same : b.tables.sizes.threads ≤ 16 → (i : ℕ) → i < b.tables.sizes.threads
      → row_in x.tables.kernel.threads i ≡ row_in b.tables.kernel.threads i
  unfolding thread_cell
  thread-same few i u =
      let h : i < 16 = omega arith in
      let cells = ext_get_or 0 (thread_cells (row_in x.tables.kernel.threads i)) (thread_cells (row_in b.tables.kernel.threads i)) refl
      (λ f l. thread-number i f h u l) in
      sym (thread-told (row_in x.tables.kernel.threads i) (hx.thread-rows i h))
      ∙ ap thread_of cells
      ∙ thread-told (row_in b.tables.kernel.threads i) (hb.thread-rows i h)

  pub reference-same : b.tables.sizes.references ≤ 8 → (r : ℕ) → r < b.tables.sizes.references
      → holder_in x.tables.kernel.references r ≡ holder_in b.tables.kernel.references r
  unfolding counts_named
  reference-same few r u =
      let i = references_at + r in
      let row : i - references_at ≡ r = omega arith in
      let e = lies_same (reference-lies r (omega arith)) (lt-ltb r b.tables.sizes.references u) in
      rw row at (sym (read-references i x (omega arith) (omega arith)) ∙ e ∙ read-references i b (omega arith) (omega arith))

  -- the counter of the place p
  counter-same : (p : ℕ) → p < 36 → cell_at x (counters_at + p) ≡ cell_at b (counters_at + p)
      → counter_in x.tables.kernel.counters p ≡ counter_in b.tables.kernel.counters p
  counter-same p l e =
      let i = counters_at + p in
      let row : i - counters_at ≡ p = omega arith in
      bits-told (counter_in x.tables.kernel.counters p) (counter_in b.tables.kernel.counters p) (hx.counter-rows p l)
      (hb.counter-rows p l)
      (rw row at (sym (read-counters i x (omega arith) (omega arith)) ∙ e ∙ read-counters i b (omega arith) (omega arith)))

  pub semaphore-same : b.tables.sizes.semaphores ≤ 16 → (s : ℕ) → s < b.tables.sizes.semaphores
      → counter_in x.tables.kernel.counters s ≡ counter_in b.tables.kernel.counters s
  unfolding counts_named
  semaphore-same few s u = counter-same s (omega arith) (lies_same (semaphore-lies s (omega arith)) (lt-ltb s b.tables.sizes.semaphores u))

  pub queue-same : b.tables.sizes.queues ≤ 8 → (q : ℕ) → q < b.tables.sizes.queues
      → counter_in x.tables.kernel.counters (20 + q) ≡ counter_in b.tables.kernel.counters (20 + q)
  unfolding counts_named
  queue-same few q u = counter-same (20 + q) (omega arith) (lies_same (queue-lies q (omega arith)) (lt-ltb q b.tables.sizes.queues u))

  -- number f of pool q but its counter, which is the order's field f + 1
  pool-number : (q f : ℕ) → q < 4 → q < b.tables.sizes.pools → f < 65
      → ltb (f + 1) 2 || (leb 34 (f + 1) || ltb (f + 1 - 2) (pool_in b.tables.pools q).length) ≡ true
      → pool_cell (pool_in x.tables.pools q) f ≡ pool_cell (pool_in b.tables.pools q) f
  unfolding counts_named pool_counts
  pool-number q f h u l c =
      let i = pools_at + 65 * q + (f + 1 - 1) in
      let row : (i - pools_at) / 65 ≡ q = omega arith in
      let field : (i - pools_at) % 65 ≡ f = omega arith in
      let counter : (f + 1 ≡ 0) → ⊥ = λ e. omega arith in
      let e : cell_at x i ≡ cell_at b i
      = rw (ne_eqb (f + 1) 0 counter)
      at (lies_same (pool-lies q (f + 1) h (omega arith)) (rw (lt-ltb q b.tables.sizes.pools u) c)) in
      rw (row, field) at (sym (read-pools i x (omega arith) (omega arith)) ∙ e ∙ read-pools i b (omega arith) (omega arith))

  pub pool-counter-same : b.tables.sizes.pools ≤ 4 → (q : ℕ) → q < b.tables.sizes.pools
      → counter_in x.tables.kernel.counters (16 + q) ≡ counter_in b.tables.kernel.counters (16 + q)
  unfolding counts_named pool_counts
  pool-counter-same few q u =
      let place : counters_at + 16 + q ≡ counters_at + (16 + q) = omega arith in
      counter-same (16 + q) (omega arith)
      (rw place at (lies_same (pool-lies q 0 (omega arith) (omega arith)) (rw (lt-ltb q b.tables.sizes.pools u))))

  pub pool-same : b.tables.sizes.pools ≤ 4 → (q : ℕ) → q < b.tables.sizes.pools → (pool_in b.tables.pools q).length ≤ 32
      → SamePool (pool_in x.tables.pools q) (pool_in b.tables.pools q)
  unfolding pool_cell
  pool-same few q u short =
      let h : q < 4 = omega arith in
      record {
        length = pool-number q 0 h u (omega arith) refl;
        list = λ j l.
            let back : j + 1 - 1 ≡ j = omega arith in
            let place : j + 1 + 1 - 2 ≡ j = omega arith in
            rw (ne_eqb (j + 1) 0 (λ e. omega arith), lt-ltb (j + 1) 33 (omega arith), back)
            at (pool-number q (j + 1) h u (omega arith) (rw (le-ltb (j + 1 + 1) 2 (omega arith), lt-leb 34 (j + 1 + 1) (omega arith), place) (lt-ltb j (pool_in b.tables.pools q).length l)));
        marks = λ o l.
            let back : o + 33 - 33 ≡ o = omega arith in
            rw (ne_eqb (o + 33) 0 (λ e. omega arith), le-ltb (o + 33) 33 (omega arith), back)
            at (pool-number q (o + 33) h u (omega arith) (rw (le-ltb (o + 33 + 1) 2 (omega arith), le-leb 34 (o + 33 + 1) (omega arith))));
      }

  -- field f of mailbox m, if it counts
  box-field : (m f : ℕ) → m < 4 → m < b.tables.sizes.mailboxes → f < 22
      → ltb f 6 || slot_used (mailbox_in b.tables.mailboxes m).positions (slots_at b.tables.sizes m) (f - 6) ≡ true
      → cell_at x (box_at m f) ≡ cell_at b (box_at m f)
  unfolding counts_named box_counts
  box-field m f h u l c = lies_same (box-lies m f h l) (rw (lt-ltb m b.tables.sizes.mailboxes u) c)

  pub side_same : b.tables.sizes.mailboxes ≤ 4 → (m f : ℕ) → m < b.tables.sizes.mailboxes → f < 2
      → counter_in x.tables.kernel.counters (28 + 4 * f + m) ≡ counter_in b.tables.kernel.counters (28 + 4 * f + m)
  side_same few m f u l =
      let place : counters_at + 28 + 4 * f + m ≡ counters_at + (28 + 4 * f + m) = omega arith in
      counter-same (28 + 4 * f + m) (omega arith)
      (rw (lt-ltb f 2 l, place) at (box-field m f (omega arith) u (omega arith) (rw (lt-ltb f 6 (omega arith)))))

  -- number g of mailbox m as it lies, which is the order's field g + 2
  box-number : (m g : ℕ) → m < 4 → m < b.tables.sizes.mailboxes → g < 20
      → ltb (g + 2) 6 || slot_used (mailbox_in b.tables.mailboxes m).positions (slots_at b.tables.sizes m) (g + 2 - 6) ≡ true
      → box_cell (mailbox_in x.tables.mailboxes m) g ≡ box_cell (mailbox_in b.tables.mailboxes m) g
  box-number m g h u l c =
      let i = mailboxes_at + 20 * m + (g + 2 - 2) in
      let row : (i - mailboxes_at) / 20 ≡ m = omega arith in
      let field : (i - mailboxes_at) % 20 ≡ g = omega arith in
      let e : cell_at x i ≡ cell_at b i = rw (le-ltb (g + 2) 2 (omega arith)) at (box-field m (g + 2) h u (omega arith) c) in
      rw (row, field) at (sym (read-boxes i x (omega arith) (omega arith)) ∙ e ∙ read-boxes i b (omega arith) (omega arith))

  pub box-same : b.tables.sizes.mailboxes ≤ 4 → (m : ℕ) → m < b.tables.sizes.mailboxes
      → (mailbox_in b.tables.mailboxes m).positions.read < slots_at b.tables.sizes m
      → (mailbox_in b.tables.mailboxes m).positions.count ≤ slots_at b.tables.sizes m
      → slots_at b.tables.sizes m ≤ 16
      → SameBox (slots_at b.tables.sizes m) (mailbox_in x.tables.mailboxes m) (mailbox_in b.tables.mailboxes m)
  unfolding box_cell
  box-same few m u r c z =
      let h : m < 4 = omega arith in
      let read = box-number m 0 h u (omega arith) refl in
      let write = box-number m 1 h u (omega arith) refl in
      let count = box-number m 2 h u (omega arith) refl in
      let q = (mailbox_in b.tables.mailboxes m).positions in
      let slots = slots_at b.tables.sizes m in
      record {
        positions = positions-told read write count;
        reset = box-number m 3 h u (omega arith) refl;
        messages = λ j l.
            let s = (q.read + j) % slots in
            let low : s < slots = mod-lt (q.read + j) (omega arith) in
            let back : s + 4 - 4 ≡ s = omega arith in
            let place : s + 4 + 2 - 6 ≡ s = omega arith in
            rw (le-ltb (s + 4) 4 (omega arith), back)
            at (box-number m (s + 4) h u (omega arith) (rw (le-ltb (s + 4 + 2) 6 (omega arith), place) (slot-used q slots j r c l)));
      }

  pub clock-same : x.clock ≡ b.clock
  unfolding counts_named cell_at clock_cell
  clock-same = clock-told (lies_same (clock-lies 0 (omega arith)) refl) (lies_same (clock-lies 1 (omega arith)) refl)

  pub steps-same : x.tables.kernel.steps ≡ b.tables.kernel.steps
  unfolding counts_named cell_at
  steps-same = lies_same steps-lies refl

-- what tables that hang together say of sizes, positions and lengths
pub record Ranged (b : Kept) : Type 0 where
  pub threads : b.tables.sizes.threads ≤ 16
  pub semaphores : b.tables.sizes.semaphores ≤ 16
  pub queues : b.tables.sizes.queues ≤ 8
  pub references : b.tables.sizes.references ≤ 8
  pub mailboxes : b.tables.sizes.mailboxes ≤ 4
  pub pools : b.tables.sizes.pools ≤ 4
  pub slots : (m : ℕ) → m < b.tables.sizes.mailboxes → slots_at b.tables.sizes m ≤ 16
  pub read : (m : ℕ) → m < b.tables.sizes.mailboxes → (mailbox_in b.tables.mailboxes m).positions.read < slots_at b.tables.sizes m
  pub count : (m : ℕ) → m < b.tables.sizes.mailboxes → (mailbox_in b.tables.mailboxes m).positions.count ≤ slots_at b.tables.sizes m
  pub lengths : (q : ℕ) → q < b.tables.sizes.pools → (pool_in b.tables.pools q).length ≤ 32
