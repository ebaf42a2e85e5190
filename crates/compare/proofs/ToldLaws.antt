-- What is kept is told by its numbers: two that agree at every place are equal, part by part, a row by the run of its places.
use Prim.Native.Nat.{ℕ, ◌+◌, ◌-◌, ◌*◌, ◌/◌, ◌%◌, ◌<◌}
use native.Mathlib.Omega.{arith}
use mathlib.Core.Path.{◌≡◌, refl, sym, ap, ◌∙◌}
use mathlib.Core.List.{List}
use lib.IntN.{ℤ, pos}
use lib.ListN.{length}
use lib.Seq.{ext_get_or}
use borrow.Author.Tests.{lt-ltb, le-ltb, ne_eqb}
use Rattle.kernel.specs.declared.clock.Clock.{Clock}
use Rattle.kernel.specs.declared.records.Thread.{Thread}
use Rattle.kernel.specs.declared.records.Words.{Words}
use Rattle.kernel.specs.Numbers.{nobody}
use Rattle.kernel.specs.Records.{blank}
use Rattle.kernel.specs.Tables.{row_in, counter_in}
use Rattle.library.specs.declared.sizes.Sizes.{Sizes}
use Rattle.library.specs.declared.tables.Mailbox.{Mailbox}
use Rattle.library.specs.declared.tables.Pool.{Pool}
use Rattle.library.specs.Tables.{blank_mailbox, blank_pool, mailbox_in, pool_in}
use Rattle.compare.specs.declared.cells.Kept.{Kept}
use Rattle.compare.specs.Cells.{
  counters_at,
  references_at,
  words_at,
  steps_at,
  mailboxes_at,
  pools_at,
  sizes_at,
  clock_at,
  cell_count,
  thread_cells,
  thread_of,
  thread_cell,
  box_cell,
  pool_cell,
  word_cell,
  size_cell,
  clock_cell,
  cell_at,
}
use Rattle.compare.specs.Held.{HeldThread, HeldBox, HeldPool, HeldSizes, Held}
use Rattle.compare.proofs.RowLaws.{thread-told, clock-told, bits-told}
use Rattle.compare.proofs.CellsLaws.{
  read-threads,
  read-counters,
  read-references,
  read-words,
  read-steps,
  read-boxes,
  read-pools,
  read-sizes,
  read-clock,
}

-- ---- a row by its numbers

module _ (x y : Thread) (hx : HeldThread x) (hy : HeldThread y) (same : (f : ℕ) → f < 14 → thread_cell x f ≡ thread_cell y f) where
  thread-by-cells : x ≡ y
  unfolding thread_cell
  thread-by-cells =
      sym (thread-told x hx) ∙ ap thread_of (ext_get_or 0 (thread_cells x) (thread_cells y) refl same) ∙ thread-told y hy

abbrev box_of : ℕ → ℕ → ℕ → ℕ → List ℕ → Mailbox
box_of r w c s m = record { positions = record { read = r; write = w; count = c }; reset = s; messages = m }

module _ (x y : Mailbox) (hx : HeldBox x) (hy : HeldBox y) (same : (f : ℕ) → f < 20 → box_cell x f ≡ box_cell y f) where
  box-slots : x.messages ≡ y.messages
  unfolding box_cell
  box-slots =
      ext_get_or 0 x.messages y.messages (hx.messages ∙ sym hy.messages)
      (λ s l.
      let back : 4 + s - 4 ≡ s = omega arith in
      rw (le-ltb (4 + s) 4 (omega arith), back) at (same (4 + s) (omega (arith, hx.messages))))

  box-by-cells : x ≡ y
  unfolding box_cell
  box-by-cells =
      let read : x.positions.read ≡ y.positions.read = same 0 (omega arith) in
      let write : x.positions.write ≡ y.positions.write = same 1 (omega arith) in
      let count : x.positions.count ≡ y.positions.count = same 2 (omega arith) in
      let reset : x.reset ≡ y.reset = same 3 (omega arith) in
      let all : box_of x.positions.read x.positions.write x.positions.count x.reset x.messages ≡ y =
      rw (read, write, count, reset, box-slots) in
      all

abbrev pool_of : ℕ → List ℕ → List ℕ → Pool
pool_of n l m = record { length = n; list = l; marks = m }

module _ (x y : Pool) (hx : HeldPool x) (hy : HeldPool y) (same : (f : ℕ) → f < 65 → pool_cell x f ≡ pool_cell y f) where
  pool-list : x.list ≡ y.list
  unfolding pool_cell
  pool-list =
      ext_get_or 0 x.list y.list (hx.list ∙ sym hy.list)
      (λ i l.
      let back : 1 + i - 1 ≡ i = omega arith in
      rw (ne_eqb (1 + i) 0 (omega arith), lt-ltb (1 + i) 33 (omega (arith, hx.list)), back) at (same (1 + i) (omega (arith, hx.list))))

  pool-marks : x.marks ≡ y.marks
  unfolding pool_cell
  pool-marks =
      ext_get_or 0 x.marks y.marks (hx.marks ∙ sym hy.marks)
      (λ i l.
      let back : 33 + i - 33 ≡ i = omega arith in
      rw (ne_eqb (33 + i) 0 (omega arith), le-ltb (33 + i) 33 (omega arith), back) at (same (33 + i) (omega (arith, hx.marks))))

  pool-by-cells : x ≡ y
  unfolding pool_cell
  pool-by-cells =
      let long : x.length ≡ y.length = same 0 (omega arith) in
      let all : pool_of x.length x.list x.marks ≡ y = rw (long, pool-list, pool-marks) in
      all

abbrev words_of : ℕ → List ℕ → ℕ → Words
words_of r l u = record { ready = r; waiting = l; unused = u }

module _ (x y : Words) (hx : length x.waiting ≡ 36) (hy : length y.waiting ≡ 36)
    (same : (f : ℕ) → f < 38 → word_cell x f ≡ word_cell y f) where
  waiting-told : x.waiting ≡ y.waiting
  unfolding word_cell
  waiting-told =
      ext_get_or 0 x.waiting y.waiting (hx ∙ sym hy)
      (λ p l.
      let back : 1 + p - 1 ≡ p = omega arith in
      rw (ne_eqb (1 + p) 0 (omega arith), lt-ltb (1 + p) 37 (omega arith), back) at (same (1 + p) (omega arith)))

  words-by-cells : x ≡ y
  unfolding word_cell
  words-by-cells =
      let ready : x.ready ≡ y.ready = same 0 (omega arith) in
      let rest : x.unused ≡ y.unused = same 37 (omega arith) in
      let all : words_of x.ready x.waiting x.unused ≡ y = rw (ready, waiting-told, rest) in
      all

abbrev sizes_of : ℕ → ℕ → ℕ → ℕ → ℕ → ℕ → List ℕ → Sizes
sizes_of t s q r m p l =
    record { threads = t; semaphores = s; queues = q; references = r; mailboxes = m; pools = p; slots = l }

module _ (x y : Sizes) (hx : HeldSizes x) (hy : HeldSizes y) (same : (f : ℕ) → f < 10 → size_cell x f ≡ size_cell y f) where
  slots-told : x.slots ≡ y.slots
  unfolding size_cell
  slots-told =
      ext_get_or 0 x.slots y.slots (hx.slots ∙ sym hy.slots)
      (λ m l.
      let back : 6 + m - 6 ≡ m = omega arith in
      rw (le-ltb (6 + m) 6 (omega arith), back) at (same (6 + m) (omega (arith, hx.slots))))

  sizes-by-cells : x ≡ y
  unfolding size_cell
  sizes-by-cells =
      let threads : x.threads ≡ y.threads = same 0 (omega arith) in
      let semaphores : x.semaphores ≡ y.semaphores = same 1 (omega arith) in
      let queues : x.queues ≡ y.queues = same 2 (omega arith) in
      let references : x.references ≡ y.references = same 3 (omega arith) in
      let mailboxes : x.mailboxes ≡ y.mailboxes = same 4 (omega arith) in
      let pools : x.pools ≡ y.pools = same 5 (omega arith) in
      let all : sizes_of x.threads x.semaphores x.queues x.references x.mailboxes x.pools x.slots ≡ y =
      rw (threads, semaphores, queues, references, mailboxes, pools, slots-told) in
      all

clock-by-cells : (x y : Clock) → ((f : ℕ) → f < 2 → clock_cell x f ≡ clock_cell y f) → x ≡ y
unfolding clock_cell
clock-by-cells x y same = clock-told (same 0 (omega arith)) (same 1 (omega arith))

-- ---- all of it

abbrev kept_with : List Thread → List ℤ → List ℕ → Words → ℕ → List Mailbox → List Pool → Sizes → Clock → Kept
kept_with t c r w n m p z k =
    record {
      tables = record {
        kernel = record { threads = t; counters = c; references = r; words = w; steps = n };
        mailboxes = m;
        pools = p;
        sizes = z;
      };
      clock = k;
    }

module _ (a b : Kept) (ha : Held a) (hb : Held b) (same : (i : ℕ) → i < cell_count → cell_at a i ≡ cell_at b i) where
  same-threads : a.tables.kernel.threads ≡ b.tables.kernel.threads
  same-threads =
      ext_get_or blank a.tables.kernel.threads b.tables.kernel.threads (ha.threads ∙ sym hb.threads)
      (λ i h.
      let l : i < 16 = omega (arith, ha.threads) in
      thread-by-cells (row_in a.tables.kernel.threads i) (row_in b.tables.kernel.threads i) (ha.thread-rows i l) (hb.thread-rows i l)
      (λ f g.
      let k = i * 14 + f in
      let row : k / 14 ≡ i = omega arith in
      let field : k % 14 ≡ f = omega arith in
      rw (row, field) at (sym (read-threads k a (omega arith)) ∙ same k (omega arith) ∙ read-threads k b (omega arith))))

  same-counters : a.tables.kernel.counters ≡ b.tables.kernel.counters
  same-counters =
      ext_get_or (pos 0) a.tables.kernel.counters b.tables.kernel.counters (ha.counters ∙ sym hb.counters)
      (λ p h.
      let l : p < 36 = omega (arith, ha.counters) in
      let k = counters_at + p in
      let place : k - counters_at ≡ p = omega arith in
      bits-told (counter_in a.tables.kernel.counters p) (counter_in b.tables.kernel.counters p) (ha.counter-rows p l) (hb.counter-rows p l)
      (rw place at (sym (read-counters k a (omega arith) (omega arith)) ∙ same k (omega arith) ∙ read-counters k b (omega arith) (omega arith))))

  same_references : a.tables.kernel.references ≡ b.tables.kernel.references
  same_references =
      ext_get_or nobody a.tables.kernel.references b.tables.kernel.references (ha.references ∙ sym hb.references)
      (λ r h.
      let l : r < 8 = omega (arith, ha.references) in
      let k = references_at + r in
      let place : k - references_at ≡ r = omega arith in
      rw place at (sym (read-references k a (omega arith) (omega arith)) ∙ same k (omega arith) ∙ read-references k b (omega arith) (omega arith)))

  same-words : a.tables.kernel.words ≡ b.tables.kernel.words
  same-words =
      words-by-cells a.tables.kernel.words b.tables.kernel.words ha.waiting hb.waiting
      (λ f l.
      let k = words_at + f in
      let place : k - words_at ≡ f = omega arith in
      rw place at (sym (read-words k a (omega arith) (omega arith)) ∙ same k (omega arith) ∙ read-words k b (omega arith) (omega arith)))

  same-steps : a.tables.kernel.steps ≡ b.tables.kernel.steps
  same-steps =
      sym (read-steps steps_at a (omega arith) (omega arith)) ∙ same steps_at (omega arith) ∙ read-steps steps_at b (omega arith) (omega arith)

  same-boxes : a.tables.mailboxes ≡ b.tables.mailboxes
  same-boxes =
      ext_get_or blank_mailbox a.tables.mailboxes b.tables.mailboxes (ha.mailboxes ∙ sym hb.mailboxes)
      (λ m h.
      let l : m < 4 = omega (arith, ha.mailboxes) in
      box-by-cells (mailbox_in a.tables.mailboxes m) (mailbox_in b.tables.mailboxes m) (ha.box-rows m l) (hb.box-rows m l)
      (λ f g.
      let k = mailboxes_at + (m * 20 + f) in
      let row : (k - mailboxes_at) / 20 ≡ m = omega arith in
      let field : (k - mailboxes_at) % 20 ≡ f = omega arith in
      rw (row, field) at (sym (read-boxes k a (omega arith) (omega arith)) ∙ same k (omega arith) ∙ read-boxes k b (omega arith) (omega arith))))

  same-pools : a.tables.pools ≡ b.tables.pools
  same-pools =
      ext_get_or blank_pool a.tables.pools b.tables.pools (ha.pools ∙ sym hb.pools)
      (λ q h.
      let l : q < 4 = omega (arith, ha.pools) in
      pool-by-cells (pool_in a.tables.pools q) (pool_in b.tables.pools q) (ha.pool-rows q l) (hb.pool-rows q l)
      (λ f g.
      let k = pools_at + (q * 65 + f) in
      let row : (k - pools_at) / 65 ≡ q = omega arith in
      let field : (k - pools_at) % 65 ≡ f = omega arith in
      rw (row, field) at (sym (read-pools k a (omega arith) (omega arith)) ∙ same k (omega arith) ∙ read-pools k b (omega arith) (omega arith))))

  same-sizes : a.tables.sizes ≡ b.tables.sizes
  same-sizes =
      sizes-by-cells a.tables.sizes b.tables.sizes ha.sizes hb.sizes
      (λ f l.
      let k = sizes_at + f in
      let place : k - sizes_at ≡ f = omega arith in
      rw place at (sym (read-sizes k a (omega arith) (omega arith)) ∙ same k (omega arith) ∙ read-sizes k b (omega arith) (omega arith)))

  same-clock : a.clock ≡ b.clock
  same-clock =
      clock-by-cells a.clock b.clock
      (λ f l.
      let k = clock_at + f in
      let place : k - clock_at ≡ f = omega arith in
      rw place at (sym (read-clock k a (omega arith)) ∙ same k (omega arith) ∙ read-clock k b (omega arith)))

  pub kept-told : a ≡ b
  kept-told =
      let all : kept_with a.tables.kernel.threads a.tables.kernel.counters a.tables.kernel.references a.tables.kernel.words
      a.tables.kernel.steps a.tables.mailboxes a.tables.pools a.tables.sizes a.clock ≡ b =
      rw (same-threads, same-counters, same_references, same-words, same-steps, same-boxes, same-pools, same-sizes, same-clock) in
      all
