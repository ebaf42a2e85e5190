-- What a host's types fix is all that the laws of places ask: the lengths of its arrays, and each number within the width of its place.
use Rattle.std.specs.Prelude.{ℕ, ◌+◌, ◌-◌, ◌/◌, ◌%◌, ◌≤◌, ◌<◌, ◌≡◌, refl, Bool, List, eqb, ℤ, pos, negsuc, get_or}
use native.Mathlib.Omega.{arith}
use Rattle.std.proofs.Common.{sym, ap, ◌∙◌, of_z}
use Rattle.std.proofs.Math.Bool.{true}
use Rattle.std.proofs.Math.Dec.{ltb}
use mir.Syntax.{w32}
use borrow.Author.Tests.{lt-ltb, le-ltb, ltb-true, ltb-false, ne_eqb, eqb-true}
use Rattle.kernel.specs.declared.clock.Clock.{Clock}
use Rattle.kernel.specs.declared.records.Thread.{Thread}
use Rattle.kernel.specs.Walk.{all_from}
use Rattle.kernel.specs.Tables.{row_in}
use Rattle.kernel.proofs.Cases.{split, in-or-out, same_or}
use Rattle.kernel.proofs.WalkLaws.{all-at}
use Rattle.library.specs.declared.sizes.Sizes.{Sizes}
use Rattle.library.specs.declared.tables.Mailbox.{Mailbox}
use Rattle.library.specs.declared.tables.Pool.{Pool}
use Rattle.library.specs.declared.tables.Tables.{Tables}
use Rattle.compare.specs.declared.cells.Kept.{Kept}
use Rattle.compare.specs.Cells.{
  counters_at,
  references_at,
  words_at,
  steps_at,
  mailboxes_at,
  pools_at,
  sizes_at,
  clock_at,
  thread_cells,
  box_head,
  sizes_head,
  thread_cell,
  box_cell,
  pool_cell,
  word_cell,
  size_cell,
  clock_cell,
  cell_at,
}
use Rattle.compare.specs.Held.{halves, words, thread_limit, box_limit, pool_limit, limit_of, Within, Signed, HeldThread, HeldBox, HeldPool, HeldSizes, Held, AllWithin}
use Rattle.compare.proofs.CellsLaws.{
  read-threads,
  read-counters,
  read-references,
  read-words,
  read-steps,
  read-boxes,
  read-pools,
  read-sizes,
  read-clock,
  wide-clock,
}
use Rattle.promises.specs.Paper.World.{signed, no_box, no_pool}
use Rattle.promises.specs.Paper.Saved.{IsSigned, ThreadTyped, BoxTyped, PoolTyped, SizesTyped, HostTyped}

-- ---- signed numbers

is_negative : ℤ → ℕ
is_negative (pos n) = 0
is_negative (negsuc n) = 1

signed-typed : (z : ℤ) → IsSigned z → Signed z
unfolding is_negative
signed-typed (pos n) e =
    split (ltb n 2147483648) (λ t. ltb-true n 2147483648 t)
    (λ t. let w : is_negative (pos n) ≡ is_negative (signed n) = ap is_negative e in absurd (omega (arith, rw t at w)))
signed-typed (negsuc n) e =
    let x = 4294967295 - n in
    split (ltb x 2147483648)
    (λ t. let w : is_negative (negsuc n) ≡ is_negative (signed x) = ap is_negative e in absurd (omega (arith, rw t at w)))
    (λ t. omega (arith, ltb-false x 2147483648 t))

signed_below : (z : ℤ) → Signed z → of_z w32 z < words
signed_below (pos n) h = omega arith
signed_below (negsuc n) h = omega arith

-- ---- rows

within : (n : ℕ) (limit : ℕ → ℕ) (v : List ℕ) → all_from (λ f. ltb (get_or v f 0) (limit f)) 0 n ≡ true → Within n limit v
within n limit v e f h = ltb-true (get_or v f 0) (limit f) (all-at (λ f. ltb (get_or v f 0) (limit f)) n f e h)

module _ (t : Thread) (h : ThreadTyped t) where
  message-signed : Signed t.message
  message-signed = signed-typed t.message h.message

  answer-signed : Signed t.answer.message
  answer-signed = signed-typed t.answer.message h.answer-message

  thread-cells : all_from (λ f. ltb (get_or (thread_cells t) f 0) (thread_limit f)) 0 14 ≡ true
  unfolding all_from
  thread-cells =
      rw (
        lt-ltb t.state 65536 h.state,
        lt-ltb t.place 65536 h.place,
        lt-ltb t.remaining 4294967296 h.remaining,
        lt-ltb t.pending 4294967296 h.pending,
        lt-ltb t.awaited 4294967296 h.awaited,
        lt-ltb (of_z w32 t.message) 4294967296 (signed_below t.message message-signed),
        lt-ltb t.call.kind 65536 h.call-kind,
        lt-ltb t.call.object 65536 h.call-object,
        lt-ltb t.call.operand 4294967296 h.call-operand,
        lt-ltb t.call.timeout 4294967296 h.call-timeout,
        lt-ltb (of_z w32 t.answer.message) 4294967296 (signed_below t.answer.message answer-signed),
        lt-ltb t.answer.datum 4294967296 h.answer-datum,
        lt-ltb t.cause 4294967296 h.cause,
        lt-ltb t.step 4294967296 h.step,
      )

  thread-held : HeldThread t
  thread-held = record { cells = within 14 thread_limit (thread_cells t) thread-cells; message = message-signed; answer = answer-signed }

module _ (b : Mailbox) (h : BoxTyped b) where
  box-held : HeldBox b
  unfolding all_from
  box-held =
      let cells : all_from (λ f. ltb (get_or (box_head b) f 0) halves) 0 4 ≡ true =
      rw (
        lt-ltb b.positions.read 65536 h.read,
        lt-ltb b.positions.write 65536 h.write,
        lt-ltb b.positions.count 65536 h.count,
        lt-ltb b.reset 65536 h.reset,
      ) in
      record { head = within 4 (λ f. halves) (box_head b) cells; messages = h.message-rows }

  box-below : (f : ℕ) → f < 20 → box_cell b f < box_limit f
  unfolding box_cell
  box-below f l =
      in-or-out f 4
      (λ g. rw (lt-ltb f 4 g) (box-held.head f g))
      (λ g. rw (le-ltb f 4 g) (h.messages (f - 4) (omega arith)))

module _ (x : Pool) (h : PoolTyped x) where
  pool-held : HeldPool x
  pool-held = record { list = h.list-rows; marks = h.mark-rows }

  pool-below : (f : ℕ) → f < 65 → pool_cell x f < pool_limit f
  unfolding pool_cell
  pool-below f l =
      same_or f 0
      (λ e. rw e h.length-is)
      (λ n.
      in-or-out f 33
      (λ g. rw (ne_eqb f 0 n, lt-ltb f 33 g) (h.list (f - 1) (omega arith)))
      (λ g. rw (ne_eqb f 0 n, le-ltb f 33 g) (h.marks (f - 33) (omega arith))))

module _ (z : Sizes) (h : SizesTyped z) where
  sizes-held : HeldSizes z
  unfolding all_from
  sizes-held =
      let cells : all_from (λ f. ltb (get_or (sizes_head z) f 0) halves) 0 6 ≡ true =
      rw (
        lt-ltb z.threads 65536 h.threads,
        lt-ltb z.semaphores 65536 h.semaphores,
        lt-ltb z.queues 65536 h.queues,
        lt-ltb z.references 65536 h.references,
        lt-ltb z.mailboxes 65536 h.mailboxes,
        lt-ltb z.pools 65536 h.pools,
      ) in
      record { head = within 6 (λ f. halves) (sizes_head z) cells; slots = h.slot-rows }

  size_below : (f : ℕ) → f < 10 → size_cell z f < halves
  unfolding size_cell
  size_below f l =
      in-or-out f 6
      (λ g. rw (lt-ltb f 6 g) (sizes-held.head f g))
      (λ g. rw (le-ltb f 6 g) (h.slots (f - 6) (omega arith)))

-- ---- all of it

-- from the place `first` on, number k is of this width
abbrev are_of : ℕ → (ℕ → ℕ) → ℕ → Bool
are_of first limit k = eqb (limit_of (first + k)) (limit k)

threads-of : all_from (are_of 0 (λ k. thread_limit (k % 14))) 0 counters_at ≡ true
unfolding limit_of all_from
threads-of = refl

counters-of : all_from (are_of counters_at (λ k. words)) 0 36 ≡ true
unfolding limit_of all_from
counters-of = refl

references-of : all_from (are_of references_at (λ k. 256)) 0 8 ≡ true
unfolding limit_of all_from
references-of = refl

words_of : all_from (are_of words_at (λ k. halves)) 0 38 ≡ true
unfolding limit_of all_from
words_of = refl

steps_of : all_from (are_of steps_at (λ k. words)) 0 1 ≡ true
unfolding limit_of all_from
steps_of = refl

boxes-of : all_from (are_of mailboxes_at (λ k. box_limit (k % 20))) 0 80 ≡ true
unfolding limit_of all_from
boxes-of = refl

pools-of : all_from (are_of pools_at (λ k. pool_limit (k % 65))) 0 260 ≡ true
unfolding limit_of all_from
pools-of = refl

sizes-of : all_from (are_of sizes_at (λ k. halves)) 0 10 ≡ true
unfolding limit_of all_from
sizes-of = refl

module _ (t : Tables) (c : Clock) (h : HostTyped t c) where
  abbrev a : Kept
  a = record { tables = t; clock = c }

  pub typed-held : Held a
  typed-held =
      record {
        threads = h.thread-rows;
        thread-rows = λ i l. thread-held (row_in t.kernel.threads i) (h.threads i l);
        counters = h.counter-rows;
        counter-rows = λ p l. signed-typed (get_or t.kernel.counters p (pos 0)) (h.counters p l);
        references = h.reference-rows;
        waiting = h.waiting-rows;
        mailboxes = h.box-rows;
        box-rows = λ m l. box-held (get_or t.mailboxes m no_box) (h.boxes m l);
        pools = h.pool-rows;
        pool-rows = λ q l. pool-held (get_or t.pools q no_pool) (h.pools q l);
        sizes = sizes-held t.sizes h.sizes;
      }

  -- the numbers of one part
  part : (first n : ℕ) (limit : ℕ → ℕ) → all_from (are_of first limit) 0 n ≡ true → ((i : ℕ) → first ≤ i → i < first + n → cell_at a i < limit (i - first))
      → (i : ℕ) → first ≤ i → i < first + n → cell_at a i < limit_of i
  part first n limit e below i from to =
      let k = i - first in
      let place : first + k ≡ i = omega arith in
      let wide : limit_of i ≡ limit k = ap limit_of (sym place) ∙ eqb-true (limit_of (first + k)) (limit k) (all-at (are_of first limit) n k e (omega arith)) in
      rw wide (below i from to)

  words-below : (f : ℕ) → f < 38 → word_cell t.kernel.words f < halves
  unfolding word_cell
  words-below f l =
      same_or f 0
      (λ e. rw e h.ready)
      (λ n.
      in-or-out f 37
      (λ g. rw (ne_eqb f 0 n, lt-ltb f 37 g) (h.waiting (f - 1) (omega arith)))
      (λ g. rw (ne_eqb f 0 n, le-ltb f 37 g) h.unused))

  clock-below : (f : ℕ) → clock_cell c f < words
  unfolding clock_cell
  clock-below f = same_or f 0 (λ e. rw e h.time) (λ n. rw (ne_eqb f 0 n) h.frequency)

  pub typed-within : AllWithin a
  unfolding thread_cell
  typed-within i l =
      in-or-out i counters_at
      (λ u. part 0 counters_at (λ k. thread_limit (k % 14)) threads-of
      (λ i from to.
      let back : i - 0 ≡ i = omega arith in
      let low : i % 14 < 14 = omega arith in
      rw (back, read-threads i a (omega arith)) ((thread-held (row_in t.kernel.threads (i / 14)) (h.threads (i / 14) (omega arith))).cells (i % 14) low)) i (omega arith) (omega arith))
      (λ u. in-or-out i references_at
      (λ v. part counters_at 36 (λ k. words) counters-of
      (λ i from to. rw (read-counters i a from (omega arith)) (signed_below (get_or t.kernel.counters (i - counters_at) (pos 0)) (typed-held.counter-rows (i - counters_at) (omega arith)))) i u v)
      (λ v. in-or-out i words_at
      (λ w. part references_at 8 (λ k. 256) references-of
      (λ i from to. rw (read-references i a from (omega arith)) (h.references (i - references_at) (omega arith))) i v w)
      (λ w. in-or-out i steps_at
      (λ x. part words_at 38 (λ k. halves) words_of
      (λ i from to. rw (read-words i a from (omega arith)) (words-below (i - words_at) (omega arith))) i w x)
      (λ x. in-or-out i mailboxes_at
      (λ y. part steps_at 1 (λ k. words) steps_of (λ i from to. rw (read-steps i a from (omega arith)) h.steps) i x y)
      (λ y. in-or-out i pools_at
      (λ z. part mailboxes_at 80 (λ k. box_limit (k % 20)) boxes-of
      (λ i from to.
      let k = i - mailboxes_at in
      let low : k % 20 < 20 = omega arith in
      rw (read-boxes i a from (omega arith)) (box-below (get_or t.mailboxes (k / 20) no_box) (h.boxes (k / 20) (omega arith)) (k % 20) low)) i y z)
      (λ z. in-or-out i sizes_at
      (λ p. part pools_at 260 (λ k. pool_limit (k % 65)) pools-of
      (λ i from to.
      let k = i - pools_at in
      let low : k % 65 < 65 = omega arith in
      rw (read-pools i a from (omega arith)) (pool-below (get_or t.pools (k / 65) no_pool) (h.pools (k / 65) (omega arith)) (k % 65) low)) i z p)
      (λ p. in-or-out i clock_at
      (λ q. part sizes_at 10 (λ k. halves) sizes-of
      (λ i from to. rw (read-sizes i a from (omega arith)) (size_below t.sizes h.sizes (i - sizes_at) (omega arith))) i p q)
      (λ q. rw (read-clock i a q, wide-clock i q) (clock-below (i - clock_at))))))))))
