-- The fields of the order, as the paper names them: what each holds, and which count.
use Prim.Native.Nat.{ℕ, zero, suc, ◌+◌, ◌-◌, ◌*◌, ◌/◌, ◌%◌, ◌≤◌, ◌<◌}
use Rattle.std.proofs.Common.{mod-lt, mod-eq_of_lt, sym, ◌∙◌, of_z}
use Rattle.std.proofs.Math.Nat.{mod-eq-sub-mod}
use native.Mathlib.Omega.{arith}
use Rattle.std.specs.Prelude.{◌≡◌, ltb, ℤ, pos, negsuc}
use Rattle.std.proofs.Math.Path.{refl, ap, subst}
use Rattle.std.proofs.Math.Bool.{true}
use mathlib.Core.List.{List, [], ◌∷◌, ◌++◌}
use Rattle.std.proofs.Math.ListN.{length, get_or}
use Rattle.std.proofs.Math.Seq.{get_or-append-add}
use mir.Syntax.{w32}
use borrow.Author.Tests.{lt-ltb, le-ltb, ltb-true, le-leb, lt-leb, ne_eqb}
use Rattle.kernel.specs.declared.clock.Clock.{Clock}
use Rattle.kernel.specs.declared.records.Thread.{Thread}
use Rattle.kernel.specs.Tables.{row_in, counter_in}
use Rattle.kernel.proofs.Cases.{in-or-out, both-means}
use Rattle.library.specs.declared.ring.Positions.{Positions}
use Rattle.library.specs.declared.tables.Mailbox.{Mailbox}
use Rattle.library.specs.declared.tables.Pool.{Pool}
use Rattle.library.specs.declared.tables.Tables.{Tables}
use Rattle.library.specs.Sizes.{slots_at}
use Rattle.library.specs.Tables.{mailbox_in, pool_in}
use Rattle.compare.specs.declared.cells.Kept.{Kept}
use Rattle.compare.specs.declared.order.Name.{Name}
use Rattle.compare.specs.Cells.{counters_at, references_at, mailboxes_at, pools_at, steps_at, clock_at, box_head, thread_cell, box_cell, pool_cell, clock_cell, cell_at}
use Rattle.compare.specs.Held.{Signed, Held}
use Rattle.compare.specs.Order.{fields, called, named, box_at, pool_at, slot_used, box_counts, pool_counts, counts_named, value_of, counts_of}
use Rattle.compare.proofs.CellsLaws.{read-threads, read-counters, read-references, read-boxes, read-pools, read-clock, read-steps}
use Rattle.compare.proofs.OrderLaws.{
  Lies,
  thread-lies,
  reference-lies,
  queue-lies,
  semaphore-lies,
  box-lies,
  pool-lies,
  clock-lies,
  steps-lies,
  each-field,
}
use Rattle.promises.specs.Paper.World.{found}
use Rattle.promises.specs.Paper.Compare.{bits, holds, Counts}
use Rattle.promises.specs.Meant.Equal.{Ranged, slot-used}

-- ---- what a field holds

bits_are : (z : ℤ) → Signed z → of_z w32 z ≡ bits z
bits_are (pos n) h = omega arith
bits_are (negsuc n) h = omega arith

-- an entry of the first of two lists
pub before-seam : {A : Type 0} (l m : List A) (i : ℕ) (d : A) → i < length l → get_or (l ++ m) i d ≡ get_or l i d
before-seam [] m i d h = absurd (omega arith)
before-seam (x ∷ l) m zero d h = refl
before-seam (x ∷ l) m (suc i) d h = before-seam l m i d (omega arith)

module _ (a : Kept) (held : Held a) where
  abbrev t : Tables
  t = a.tables

  abbrev c : Clock
  c = a.clock

  counter-is : (p : ℕ) → p < 36 → cell_at a (counters_at + p) ≡ bits ((found t).counter p)
  counter-is p h =
      let i = counters_at + p in
      let row : i - counters_at ≡ p = omega arith in
      rw row at (read-counters i a (omega arith) (omega arith)) ∙ bits_are (counter_in t.kernel.counters p) (held.counter-rows p h)

  thread-is : (i f : ℕ) → i < 16 → f < 14 → cell_at a (i * 14 + f) ≡ holds t c 0 i f
  unfolding thread_cell
  thread-is i f h l =
      let k = i * 14 + f in
      let row : k / 14 ≡ i = omega arith in
      let field : k % 14 ≡ f = omega arith in
      let r = row_in t.kernel.threads i in
      rw (row, field) at (read-threads k a (omega arith))
      ∙ ap (λ (v : List ℕ). get_or v f 0)
      (ap (λ (x : ℕ). list_of r x (of_z w32 r.answer.message)) (bits_are r.message (held.thread-rows i h).message)
      ∙ ap (list_of r (bits r.message)) (bits_are r.answer.message (held.thread-rows i h).answer))
    where
      list_of : Thread → ℕ → ℕ → List ℕ
      list_of r x y =
          r.state
          ∷ r.place
          ∷ r.remaining
          ∷ r.pending
          ∷ r.awaited
          ∷ x
          ∷ r.call.kind
          ∷ r.call.object
          ∷ r.call.operand
          ∷ r.call.timeout
          ∷ y
          ∷ r.answer.datum
          ∷ r.cause
          ∷ r.step
          ∷ []

  box-row : (b : Mailbox) (g : ℕ) → box_cell b g ≡ get_or (box_head b ++ b.messages) g 0
  unfolding box_cell
  box-row b g =
      in-or-out g 4
      (λ h. rw (lt-ltb g 4 h) (sym (before-seam (box_head b) b.messages g 0 h)))
      (λ h.
      let on : 4 + (g - 4) ≡ g = omega arith in
      rw (le-ltb g 4 h) (sym (ap (λ (n : ℕ). get_or (box_head b ++ b.messages) n 0) (sym on) ∙ get_or-append-add (box_head b) b.messages (g - 4) 0)))

  box-is : (m f : ℕ) → m < 4 → f < 22 → cell_at a (box_at m f) ≡ holds t c 4 m f
  box-is m zero h l =
      let place : counters_at + 28 + 4 * 0 + m ≡ counters_at + (28 + m) = omega arith in
      ap (cell_at a) place ∙ counter-is (28 + m) (omega arith)
  box-is m (suc zero) h l =
      let place : counters_at + 28 + 4 * 1 + m ≡ counters_at + (32 + m) = omega arith in
      ap (cell_at a) place ∙ counter-is (32 + m) (omega arith)
  box-is m (suc (suc g)) h l =
      let i = mailboxes_at + 20 * m + (suc (suc g) - 2) in
      let row : (i - mailboxes_at) / 20 ≡ m = omega arith in
      let field : (i - mailboxes_at) % 20 ≡ g = omega arith in
      rw (le-ltb (suc (suc g)) 2 (omega arith))
      (rw (row, field) at (read-boxes i a (omega arith) (omega arith)) ∙ box-row (mailbox_in t.mailboxes m) g)

  pool-row : (x : Pool) (g : ℕ) → length x.list ≡ 32 → pool_cell x g ≡ get_or (x.length ∷ (x.list ++ x.marks)) g 0
  unfolding pool_cell
  pool-row x zero long = refl
  pool-row x (suc g) long =
      in-or-out g 32
      (λ h.
      let one : suc g - 1 ≡ g = omega arith in
      rw (ne_eqb (suc g) 0 (λ e. omega arith), lt-ltb (suc g) 33 (omega arith), one) (sym (before-seam x.list x.marks g 0 (omega arith))))
      (λ h.
      let two : suc g - 33 ≡ g - 32 = omega arith in
      let on : length x.list + (g - 32) ≡ g = omega arith in
      rw (ne_eqb (suc g) 0 (λ e. omega arith), le-ltb (suc g) 33 (omega arith), two)
      (sym (ap (λ (n : ℕ). get_or (x.list ++ x.marks) n 0) (sym on) ∙ get_or-append-add x.list x.marks (g - 32) 0)))

  pool-is : (q f : ℕ) → q < 4 → f < 66 → cell_at a (pool_at q f) ≡ holds t c 5 q f
  pool-is q zero h l =
      let place : counters_at + 16 + q ≡ counters_at + (16 + q) = omega arith in
      ap (cell_at a) place ∙ counter-is (16 + q) (omega arith)
  pool-is q (suc g) h l =
      let i = pools_at + 65 * q + (suc g - 1) in
      let row : (i - pools_at) / 65 ≡ q = omega arith in
      let field : (i - pools_at) % 65 ≡ g = omega arith in
      rw (ne_eqb (suc g) 0 (λ e. omega arith))
      (rw (row, field) at (read-pools i a (omega arith) (omega arith))
      ∙ pool-row (pool_in t.pools q) g (held.pool-rows q h).list)

  -- the field of the order that is called so, with the place where it lies
  lies-is : {k o n f p : ℕ} → Lies k o n f p → cell_at a p ≡ holds t c o n f
      → value_of a k ≡ holds t c (named k).object (named k).number (named k).field
  lies-is l e = ap (cell_at a) l.cell ∙ e ∙ ap (λ (x : Name). holds t c x.object x.number x.field) (sym l.name)

  -- every field holds what the paper says
  pub field_is : (k : ℕ) → k < fields → value_of a k ≡ holds t c (named k).object (named k).number (named k).field
  field_is =
      each-field (λ k. value_of a k ≡ holds t c (named k).object (named k).number (named k).field)
      (λ i f h l. lies-is (thread-lies i f h l) (thread-is i f h l))
      (λ r h. lies-is (reference-lies r h) (reference-is r h))
      (λ q h. lies-is (queue-lies q h) (counter-is (20 + q) (omega arith)))
      (λ s h. lies-is (semaphore-lies s h) (counter-is s (omega arith)))
      (λ m f h l. lies-is (box-lies m f h l) (box-is m f h l))
      (λ q f h l. lies-is (pool-lies q f h l) (pool-is q f h l))
      (λ f h. lies-is (clock-lies f h) (clock-is f h))
      (lies-is steps-lies (read-steps steps_at a (omega arith) (omega arith)))
    where
      reference-is : (r : ℕ) → r < 8 → cell_at a (references_at + r) ≡ holds t c 1 r 0
      reference-is r h =
          let row : references_at + r - references_at ≡ r = omega arith in
          rw row at (read-references (references_at + r) a (omega arith) (omega arith))

      clock-is : (f : ℕ) → f < 2 → cell_at a (clock_at + f) ≡ holds t c 6 0 f
      clock-is f h =
          let row : clock_at + f - clock_at ≡ f = omega arith in
          rw row at (read-clock (clock_at + f) a (omega arith)) ∙ unfold clock_cell in refl

-- ---- which fields count

-- a slot that is used is so many places behind the read place
slot-behind : (q : Positions) (slots s : ℕ) → q.read < slots → s < slots → s ≡ (q.read + (s + (slots - q.read)) % slots) % slots
slot-behind q slots s r l =
    in-or-out s q.read
    (λ h.
    let low : s + (slots - q.read) < slots = omega arith in
    let around : q.read + (s + (slots - q.read)) ≡ slots + s = omega arith in
    let back : slots + s - slots ≡ s = omega arith in
    rw (mod-eq_of_lt low, around, mod-eq-sub-mod {n = slots + s} {m = slots} (omega arith), back, mod-eq_of_lt l))
    (λ h.
    let high : slots ≤ s + (slots - q.read) = omega arith in
    let less : s + (slots - q.read) - slots < slots = omega arith in
    let on : q.read + (s + (slots - q.read) - slots) ≡ s = omega arith in
    rw (mod-eq-sub-mod high, mod-eq_of_lt less, on, mod-eq_of_lt l))

module _ (a : Kept) (ranged : Ranged a) where
  abbrev u : Tables
  u = a.tables

  abbrev Counted : ℕ → Type 0
  Counted k = counts_of a k ≡ true → Counts u (named k).object (named k).number (named k).field

  lies-counts : {k o n f p : ℕ} → Lies k o n f p → (counts_named a (called o n f) ≡ true → Counts u o n f) → Counted k
  lies-counts l h e =
      subst (λ (x : Name). Counts u x.object x.number x.field) (sym l.name) (h (ap (counts_named a) (sym l.name) ∙ e))

  box-counted : (m f : ℕ) → m < 4 → f < 22 → counts_named a (called 4 m f) ≡ true → Counts u 4 m f
  unfolding counts_named box_counts slot_used
  box-counted m f h l e =
      let both = both-means (ltb m u.sizes.mailboxes) _ e in
      let used = ltb-true m u.sizes.mailboxes both.0 in
      in-or-out f 6 (λ g. Counts.mailbox used g)
      (λ g.
      let q = (mailbox_in u.mailboxes m).positions in
      let slots = slots_at u.sizes m in
      let two = both-means (ltb (f - 6) slots) (ltb ((f - 6 + (slots - q.read)) % slots) q.count) (rw (le-ltb f 6 g) at both.1) in
      let inside = ltb-true (f - 6) slots two.0 in
      let on : 6 + (f - 6) ≡ f = omega arith in
      subst (Counts u 4 m) on
      (Counts.message used ((f - 6 + (slots - q.read)) % slots) (ltb-true _ q.count two.1) (slot-behind q slots (f - 6) (ranged.read m used) inside)))

  pool-counted : (q f : ℕ) → q < 4 → f < 66 → counts_named a (called 5 q f) ≡ true → Counts u 5 q f
  unfolding counts_named pool_counts
  pool-counted q f h l e =
      let both = both-means (ltb q u.sizes.pools) _ e in
      let used = ltb-true q u.sizes.pools both.0 in
      in-or-out f 2 (λ g. Counts.pool used g)
      (λ g. in-or-out f 34
      (λ k.
      let on : 2 + (f - 2) ≡ f = omega arith in
      subst (Counts u 5 q) on
      (Counts.listed used (ltb-true (f - 2) (pool_in u.pools q).length (rw (le-ltb f 2 g, lt-leb 34 f k) at both.1))))
      (λ k.
      let on : 34 + (f - 34) ≡ f = omega arith in
      subst (Counts u 5 q) on (Counts.mark used (omega arith))))

  -- what is taken to count does so by the paper
  pub counts-is : (k : ℕ) → k < fields → Counted k
  unfolding counts_named
  counts-is =
      each-field Counted
      (λ i f h l. lies-counts (thread-lies i f h l) (λ e. Counts.thread (ltb-true i u.sizes.threads e) l))
      (λ r h. lies-counts (reference-lies r h) (λ e. Counts.reference (ltb-true r u.sizes.references e)))
      (λ q h. lies-counts (queue-lies q h) (λ e. Counts.queue (ltb-true q u.sizes.queues e)))
      (λ s h. lies-counts (semaphore-lies s h) (λ e. Counts.semaphore (ltb-true s u.sizes.semaphores e)))
      (λ m f h l. lies-counts (box-lies m f h l) (box-counted m f h l))
      (λ q f h l. lies-counts (pool-lies q f h l) (pool-counted q f h l))
      (λ f h. lies-counts (clock-lies f h) (λ e. Counts.clock h))
      (lies-counts steps-lies (λ e. Counts.steps))

  -- a field of the order that is called so and counts
  pub record Found (o n f : ℕ) : Type 0 where
    pub at : ℕ
    pub inside : at < fields
    pub name : named at ≡ called o n f
    pub counts : counts_of a at ≡ true

  lies-found : {k o n f p : ℕ} → Lies k o n f p → counts_named a (called o n f) ≡ true → Found o n f
  lies-found {k} l e = record { at = k; inside = l.inside; name = l.name; counts = ap (counts_named a) l.name ∙ e }

  -- what counts by the paper is such a field
  pub counts-found : {o n f : ℕ} → Counts u o n f → Found o n f
  unfolding counts_named box_counts pool_counts
  counts-found (Counts.thread {i} {f} h l) =
      let few = ranged.threads in
      lies-found (thread-lies i f (omega arith) l) (lt-ltb i u.sizes.threads h)
  counts-found (Counts.reference {r} h) =
      let few = ranged.references in
      lies-found (reference-lies r (omega arith)) (lt-ltb r u.sizes.references h)
  counts-found (Counts.queue {q} h) =
      let few = ranged.queues in
      lies-found (queue-lies q (omega arith)) (lt-ltb q u.sizes.queues h)
  counts-found (Counts.semaphore {s} h) =
      let few = ranged.semaphores in
      lies-found (semaphore-lies s (omega arith)) (lt-ltb s u.sizes.semaphores h)
  counts-found (Counts.mailbox {m} {f} h l) =
      let few = ranged.mailboxes in
      lies-found (box-lies m f (omega arith) (omega arith)) (rw (lt-ltb m u.sizes.mailboxes h, lt-ltb f 6 l))
  counts-found (Counts.message {m} {s} h j l e) =
      let few = ranged.mailboxes in
      let wide = ranged.slots m h in
      let q = (mailbox_in u.mailboxes m).positions in
      let slots = slots_at u.sizes m in
      let used : slot_used q slots s ≡ true = rw e (slot-used q slots j (ranged.read m h) (ranged.count m h) l) in
      let low : s < slots = rw e (mod-lt (q.read + j) (omega (arith, ranged.read m h))) in
      let on : 6 + s - 6 ≡ s = omega arith in
      lies-found (box-lies m (6 + s) (omega arith) (omega arith)) (rw (lt-ltb m u.sizes.mailboxes h, le-ltb (6 + s) 6 (omega arith), on) used)
  counts-found (Counts.pool {q} {f} h l) =
      let few = ranged.pools in
      lies-found (pool-lies q f (omega arith) (omega arith)) (rw (lt-ltb q u.sizes.pools h, lt-ltb f 2 l))
  counts-found (Counts.listed {q} {j} h l) =
      let few = ranged.pools in
      let short = ranged.lengths q h in
      let on : 2 + j - 2 ≡ j = omega arith in
      lies-found (pool-lies q (2 + j) (omega arith) (omega arith))
      (rw (lt-ltb q u.sizes.pools h, le-ltb (2 + j) 2 (omega arith), lt-leb 34 (2 + j) (omega arith), on) (lt-ltb j (pool_in u.pools q).length l))
  counts-found (Counts.mark {q} {x} h l) =
      let few = ranged.pools in
      lies-found (pool-lies q (34 + x) (omega arith) (omega arith))
      (rw (lt-ltb q u.sizes.pools h, le-ltb (34 + x) 2 (omega arith), le-leb 34 (34 + x) (omega arith)))
  counts-found (Counts.clock {f} h) = lies-found (clock-lies f h) refl
  counts-found Counts.steps = lies-found steps-lies refl
