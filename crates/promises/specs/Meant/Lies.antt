-- Where each number lies among the bytes: the places of a row follow each other by their widths, so that a row's place and the number's own
-- are its offset; and tables that lie so are told by their bytes, field by field.
use Rattle.std.specs.Prelude.{ℕ, zero, suc, ◌+◌, ◌-◌, ◌*◌, ◌/◌, ◌%◌, ◌≤◌, ◌<◌, ◌≡◌, refl, Bool, true, cond, ◌&&◌, List, [], ◌∷◌, eqb, ltb, ℤ, pos, negsuc, length, get_or}
use Rattle.std.proofs.Common.{add-zero, ap, ap₂, ◌∙◌, ext_get_or, to_z, of_z}
use native.Mathlib.Omega.{arith}
use Rattle.std.proofs.Math.Path.{sym}
use Rattle.std.specs.Int.{w32}
use borrow.Author.Tests.{le-ltb, lt-ltb, ne_eqb, eqb-true}
use Rattle.kernel.specs.declared.clock.Clock.{Clock}
use Rattle.kernel.specs.declared.records.Thread.{Thread}
use Rattle.kernel.specs.declared.records.Words.{Words}
use Rattle.kernel.specs.Walk.{all_from}
use Rattle.kernel.specs.Tables.{row_in, counter_in, holder_in}
use Rattle.kernel.proofs.Cases.{both-means}
use Rattle.kernel.proofs.WalkLaws.{all-at}
use Rattle.kernel.proofs.Signed.{signed as read_back}
use Rattle.library.specs.declared.sizes.Sizes.{Sizes}
use Rattle.library.specs.declared.tables.Mailbox.{Mailbox}
use Rattle.library.specs.declared.tables.Pool.{Pool}
use Rattle.library.specs.declared.tables.Tables.{Tables}
use Rattle.library.specs.Tables.{mailbox_in, pool_in}
use Rattle.compare.specs.declared.cells.Kept.{Kept}
use Rattle.compare.specs.Cells.{
  counters_at,
  references_at,
  words_at,
  steps_at,
  mailboxes_at,
  pools_at,
  sizes_at,
  clock_at,
  thread_cell,
  box_cell,
  pool_cell,
  word_cell,
  size_cell,
  clock_cell,
  cell_at,
}
use Rattle.compare.specs.Held.{Signed, Held}
use Rattle.compare.specs.Bytes.{number_at}
use Rattle.compare.specs.Laid.{thread_width, box_width, pool_width, width_of, offset_of, kept_of}
use Rattle.compare.proofs.BytesLaws.{get-one, get-two, get-four}
use Rattle.compare.proofs.RowLaws.{clock-told}
use Rattle.compare.proofs.CellsLaws.{
  read-threads,
  read-counters,
  read-references,
  read-words,
  read-steps,
  read-boxes,
  read-pools,
  read-sizes,
  read-clock,
}
use Rattle.compare.proofs.KeptLaws.{kept-held, kept-cell, kept-time, kept-frequency}
use Rattle.promises.specs.Paper.World.{signed, no_thread, no_box, no_pool}
use Rattle.promises.specs.Paper.Saved.{
  AreBytes,
  one,
  two,
  four,
  ThreadLies,
  WordsLie,
  BoxLies,
  PoolLies,
  SizesLie,
  TablesLie,
  ClockLies,
  Lies,
}

-- ---- numbers and their bytes

pub two_is : (l : List ℕ) (at : ℕ) → number_at 2 l at ≡ two l at
two_is l at = sym (get-two l at (one l at) (one l (at + 1)) refl refl)

pub four_is : (l : List ℕ) (at : ℕ) → number_at 4 l at ≡ four l at
four_is l at =
    let a = one l at in
    let b = one l (at + 1) in
    let c = one l (at + 2) in
    let d = one l (at + 3) in
    let sum : a + 256 * (b + 256 * (c + 256 * d)) ≡ a + 256 * b + 65536 * c + 16777216 * d = omega arith in
    sym (get-four l at a b refl refl c d refl refl) ∙ sum

signed-read : (a : ℕ) → to_z w32 a ≡ signed a
signed-read a =
    let e : 4294967296 - suc a ≡ 4294967295 - a = omega arith in
    ap (λ (k : ℕ). cond (ltb a 2147483648) (pos a) (negsuc k)) e

-- a signed number of which the bits are known
signed_of : (z : ℤ) (a : ℕ) → Signed z → of_z w32 z ≡ a → z ≡ signed a
signed_of z a h e = sym (read_back h) ∙ ap (to_z w32) e ∙ signed-read a

-- ---- where the number of a place lies

abbrev thread_offset : ℕ → ℕ
thread_offset f = get_or (0 ∷ 2 ∷ 4 ∷ 8 ∷ 12 ∷ 16 ∷ 20 ∷ 22 ∷ 24 ∷ 28 ∷ 32 ∷ 36 ∷ 40 ∷ 44 ∷ []) f 0

abbrev threads_lie : ℕ → ℕ
threads_lie k = 48 * (k / 14) + thread_offset (k % 14)

abbrev box_offset : ℕ → ℕ
box_offset f = cond (ltb f 4) (2 * f) (8 + 4 * (f - 4))

abbrev boxes_lie : ℕ → ℕ
boxes_lie k = 1000 + 72 * (k / 20) + box_offset (k % 20)

abbrev pool_offset : ℕ → ℕ
pool_offset f = cond (eqb f 0) 0 (1 + f)

abbrev pools_lie : ℕ → ℕ
pools_lie k = 1288 + 66 * (k / 65) + pool_offset (k % 65)

lie_at : ℕ → ℕ
lie_at i =
    cond (ltb i counters_at) (threads_lie i)
    (cond (ltb i references_at) (768 + 4 * (i - counters_at))
    (cond (ltb i words_at) (912 + (i - references_at))
    (cond (ltb i steps_at) (920 + 2 * (i - words_at))
    (cond (ltb i mailboxes_at) 996
    (cond (ltb i pools_at) (boxes_lie (i - mailboxes_at))
    (cond (ltb i sizes_at) (pools_lie (i - pools_at)) (1552 + 2 * (i - sizes_at))))))))

abbrev follows : ℕ → Bool
follows i = eqb (lie_at i + width_of i) (lie_at (suc i))

each-follows : all_from follows 0 clock_at ≡ true
unfolding lie_at width_of all_from
each-follows = refl

offset-lies : (i : ℕ) → i ≤ clock_at → offset_of i ≡ lie_at i
unfolding offset_of lie_at
offset-lies zero h = refl
offset-lies (suc i) h =
    ap (λ (n : ℕ). n + width_of i) (offset-lies i (omega arith))
    ∙ eqb-true (lie_at i + width_of i) (lie_at (suc i)) (all-at follows clock_at i each-follows (omega arith))

-- from the place `first` on, number k has so many bytes and lies at its place
abbrev are_at : ℕ → (ℕ → ℕ) → (ℕ → ℕ) → ℕ → Bool
are_at first width at k = eqb (width_of (first + k)) (width k) && eqb (lie_at (first + k)) (at k)

threads-at : all_from (are_at 0 (λ k. thread_width (k % 14)) threads_lie) 0 counters_at ≡ true
unfolding lie_at width_of all_from
threads-at = refl

counters-at : all_from (are_at counters_at (λ k. 4) (λ k. 768 + 4 * k)) 0 36 ≡ true
unfolding lie_at width_of all_from
counters-at = refl

references-at : all_from (are_at references_at (λ k. 1) (λ k. 912 + k)) 0 8 ≡ true
unfolding lie_at width_of all_from
references-at = refl

words-at : all_from (are_at words_at (λ k. 2) (λ k. 920 + 2 * k)) 0 38 ≡ true
unfolding lie_at width_of all_from
words-at = refl

steps-at : all_from (are_at steps_at (λ k. 4) (λ k. 996)) 0 1 ≡ true
unfolding lie_at width_of all_from
steps-at = refl

boxes-at : all_from (are_at mailboxes_at (λ k. box_width (k % 20)) boxes_lie) 0 80 ≡ true
unfolding lie_at width_of all_from
boxes-at = refl

pools-at : all_from (are_at pools_at (λ k. pool_width (k % 65)) pools_lie) 0 260 ≡ true
unfolding lie_at width_of all_from
pools-at = refl

sizes-at : all_from (are_at sizes_at (λ k. 2) (λ k. 1552 + 2 * k)) 0 10 ≡ true
unfolding lie_at width_of all_from
sizes-at = refl

-- ---- what is read of bytes lies there

module _ (t c : List ℕ) (bt : AreBytes t) (bc : AreBytes c) where
  abbrev a : Kept
  a = kept_of t c

  held : Held a
  held = kept-held t c bt bc

  number : (first n : ℕ) (width at : ℕ → ℕ) → all_from (are_at first width at) 0 n ≡ true → first + n ≤ clock_at → (k : ℕ) → k < n
      → cell_at a (first + k) ≡ number_at (width k) t (at k)
  number first n width at e h k l =
      let both = both-means (eqb (width_of (first + k)) (width k)) (eqb (lie_at (first + k)) (at k)) (all-at (are_at first width at) n k e l) in
      let i = first + k in
      kept-cell t c bt bc i (omega arith)
      ∙ ap₂ (λ (w o : ℕ). number_at w t o) (eqb-true (width_of i) (width k) both.0)
      (offset-lies i (omega arith) ∙ eqb-true (lie_at i) (at k) both.1)

  thread-number : (i f : ℕ) → i < 16 → f < 14 → thread_cell (row_in a.tables.kernel.threads i) f ≡ number_at (thread_width f) t (48 * i + thread_offset f)
  thread-number i f h l =
      let k = i * 14 + f in
      let row : k / 14 ≡ i = omega arith in
      let field : k % 14 ≡ f = omega arith in
      let from : 0 + k ≡ k = omega arith in
      rw (row, field) at (sym (read-threads k a (omega arith)) ∙ (rw from at (number 0 counters_at (λ k. thread_width (k % 14)) threads_lie threads-at (omega arith) k (omega arith))))

  module _ (i : ℕ) (h : i < 16) where
    at-four : (f : ℕ) → f < 14 → thread_width f ≡ 4 → thread_cell (row_in a.tables.kernel.threads i) f ≡ four t (48 * i + thread_offset f)
    at-four f l w = thread-number i f h l ∙ ap (λ (n : ℕ). number_at n t (48 * i + thread_offset f)) w ∙ four_is t (48 * i + thread_offset f)

    at-two : (f : ℕ) → f < 14 → thread_width f ≡ 2 → thread_cell (row_in a.tables.kernel.threads i) f ≡ two t (48 * i + thread_offset f)
    at-two f l w = thread-number i f h l ∙ ap (λ (n : ℕ). number_at n t (48 * i + thread_offset f)) w ∙ two_is t (48 * i + thread_offset f)

    thread-lies : ThreadLies t (48 * i) (row_in a.tables.kernel.threads i)
    unfolding thread_cell
    thread-lies =
        let r = row_in a.tables.kernel.threads i in
        record {
          state = rw (add-zero (48 * i)) at (at-two 0 (omega arith) refl);
          place = at-two 1 (omega arith) refl;
          remaining = at-four 2 (omega arith) refl;
          pending = at-four 3 (omega arith) refl;
          awaited = at-four 4 (omega arith) refl;
          message = signed_of r.message (four t (48 * i + 16)) (held.thread-rows i h).message (at-four 5 (omega arith) refl);
          call-kind = at-two 6 (omega arith) refl;
          call-object = at-two 7 (omega arith) refl;
          call-operand = at-four 8 (omega arith) refl;
          call-timeout = at-four 9 (omega arith) refl;
          answer-message = signed_of r.answer.message (four t (48 * i + 32)) (held.thread-rows i h).answer (at-four 10 (omega arith) refl);
          answer-datum = at-four 11 (omega arith) refl;
          cause = at-four 12 (omega arith) refl;
          step = at-four 13 (omega arith) refl;
        }

  counter-lies : (p : ℕ) → p < 36 → counter_in a.tables.kernel.counters p ≡ signed (four t (768 + 4 * p))
  counter-lies p h =
      let k = counters_at + p in
      let place : k - counters_at ≡ p = omega arith in
      signed_of (counter_in a.tables.kernel.counters p) (four t (768 + 4 * p)) (held.counter-rows p h)
      ((rw place at (sym (read-counters k a (omega arith) (omega arith))))
      ∙ number counters_at 36 (λ k. 4) (λ k. 768 + 4 * k) counters-at (omega arith) p h
      ∙ four_is t (768 + 4 * p))

  reference-lies : (r : ℕ) → r < 8 → holder_in a.tables.kernel.references r ≡ one t (912 + r)
  reference-lies r h =
      let k = references_at + r in
      let place : k - references_at ≡ r = omega arith in
      (rw place at (sym (read-references k a (omega arith) (omega arith))))
      ∙ number references_at 8 (λ k. 1) (λ k. 912 + k) references-at (omega arith) r h
      ∙ sym (get-one t (912 + r))

  word_number : (f : ℕ) → f < 38 → word_cell a.tables.kernel.words f ≡ two t (920 + 2 * f)
  word_number f h =
      let k = words_at + f in
      let place : k - words_at ≡ f = omega arith in
      (rw place at (sym (read-words k a (omega arith) (omega arith))))
      ∙ number words_at 38 (λ k. 2) (λ k. 920 + 2 * k) words-at (omega arith) f h
      ∙ two_is t (920 + 2 * f)

  words-lie : WordsLie t 920 a.tables.kernel.words
  unfolding word_cell
  words-lie =
      record {
        ready = word_number 0 (omega arith);
        waiting-rows = held.waiting;
        waiting = λ p h.
            let back : 1 + p - 1 ≡ p = omega arith in
            let on : 920 + 2 * (1 + p) ≡ 920 + 2 + 2 * p = omega arith in
            rw (ne_eqb (1 + p) 0 (omega arith), lt-ltb (1 + p) 37 (omega arith), back, on) at (word_number (1 + p) (omega arith));
        unused = word_number 37 (omega arith);
      }

  steps-lie : a.tables.kernel.steps ≡ four t 996
  steps-lie =
      sym (read-steps steps_at a (omega arith) (omega arith))
      ∙ number steps_at 1 (λ k. 4) (λ k. 996) steps-at (omega arith) 0 (omega arith)
      ∙ four_is t 996

  box-number : (m f : ℕ) → m < 4 → f < 20 → box_cell (mailbox_in a.tables.mailboxes m) f ≡ number_at (box_width f) t (1000 + 72 * m + box_offset f)
  box-number m f h l =
      let j = m * 20 + f in
      let k = mailboxes_at + j in
      let row : (k - mailboxes_at) / 20 ≡ m = omega arith in
      let field : (k - mailboxes_at) % 20 ≡ f = omega arith in
      let row-of : j / 20 ≡ m = omega arith in
      let field_of : j % 20 ≡ f = omega arith in
      (rw (row, field) at (sym (read-boxes k a (omega arith) (omega arith))))
      ∙ (rw (row-of, field_of) at (number mailboxes_at 80 (λ k. box_width (k % 20)) boxes_lie boxes-at (omega arith) j (omega arith)))

  module _ (m : ℕ) (h : m < 4) where
    abbrev box-at : ℕ
    box-at = 1000 + 72 * m

    box-two : (f : ℕ) → f < 4 → box_cell (mailbox_in a.tables.mailboxes m) f ≡ two t (box-at + 2 * f)
    box-two f l = (rw (lt-ltb f 4 l) at (box-number m f h (omega arith))) ∙ two_is t (box-at + 2 * f)

    box-four : (s : ℕ) → s < 16 → box_cell (mailbox_in a.tables.mailboxes m) (4 + s) ≡ four t (box-at + 8 + 4 * s)
    box-four s l =
        let on : box-at + (8 + 4 * (4 + s - 4)) ≡ box-at + 8 + 4 * s = omega arith in
        (rw (le-ltb (4 + s) 4 (omega arith), on) at (box-number m (4 + s) h (omega arith))) ∙ four_is t (box-at + 8 + 4 * s)

    box-lies : BoxLies t box-at (mailbox_in a.tables.mailboxes m)
    unfolding box_cell
    box-lies =
        record {
          read = rw (add-zero box-at) at (box-two 0 (omega arith));
          write = box-two 1 (omega arith);
          count = box-two 2 (omega arith);
          reset = box-two 3 (omega arith);
          message-rows = (held.box-rows m h).messages;
          messages = λ s l.
              let back : 4 + s - 4 ≡ s = omega arith in
              rw (le-ltb (4 + s) 4 (omega arith), back) at (box-four s l);
        }

  pool-number : (q f : ℕ) → q < 4 → f < 65 → pool_cell (pool_in a.tables.pools q) f ≡ number_at (pool_width f) t (1288 + 66 * q + pool_offset f)
  pool-number q f h l =
      let j = q * 65 + f in
      let k = pools_at + j in
      let row : (k - pools_at) / 65 ≡ q = omega arith in
      let field : (k - pools_at) % 65 ≡ f = omega arith in
      let row-of : j / 65 ≡ q = omega arith in
      let field_of : j % 65 ≡ f = omega arith in
      (rw (row, field) at (sym (read-pools k a (omega arith) (omega arith))))
      ∙ (rw (row-of, field_of) at (number pools_at 260 (λ k. pool_width (k % 65)) pools_lie pools-at (omega arith) j (omega arith)))

  module _ (q : ℕ) (h : q < 4) where
    abbrev pool-at : ℕ
    pool-at = 1288 + 66 * q

    pool-byte : (f : ℕ) → 1 ≤ f → f < 65 → pool_cell (pool_in a.tables.pools q) f ≡ one t (pool-at + (1 + f))
    pool-byte f some l = (rw (ne_eqb f 0 (omega arith)) at (pool-number q f h l)) ∙ sym (get-one t (pool-at + (1 + f)))

    pool-lies : PoolLies t pool-at (pool_in a.tables.pools q)
    unfolding pool_cell
    pool-lies =
        record {
          length-is = rw (add-zero pool-at) at (pool-number q 0 h (omega arith) ∙ two_is t (pool-at + 0));
          list-rows = (held.pool-rows q h).list;
          list = λ j l.
              let back : 1 + j - 1 ≡ j = omega arith in
              let on : pool-at + (1 + (1 + j)) ≡ pool-at + 2 + j = omega arith in
              rw (ne_eqb (1 + j) 0 (omega arith), lt-ltb (1 + j) 33 (omega arith), back, on) at (pool-byte (1 + j) (omega arith) (omega arith));
          mark-rows = (held.pool-rows q h).marks;
          marks = λ o l.
              let back : 33 + o - 33 ≡ o = omega arith in
              let on : pool-at + (1 + (33 + o)) ≡ pool-at + 34 + o = omega arith in
              rw (ne_eqb (33 + o) 0 (omega arith), le-ltb (33 + o) 33 (omega arith), back, on) at (pool-byte (33 + o) (omega arith) (omega arith));
        }

  size_number : (f : ℕ) → f < 10 → size_cell a.tables.sizes f ≡ two t (1552 + 2 * f)
  size_number f h =
      let k = sizes_at + f in
      let place : k - sizes_at ≡ f = omega arith in
      (rw place at (sym (read-sizes k a (omega arith) (omega arith))))
      ∙ number sizes_at 10 (λ k. 2) (λ k. 1552 + 2 * k) sizes-at (omega arith) f h
      ∙ two_is t (1552 + 2 * f)

  sizes-lie : SizesLie t 1552 a.tables.sizes
  unfolding size_cell
  sizes-lie =
      record {
        threads = size_number 0 (omega arith);
        semaphores = size_number 1 (omega arith);
        queues = size_number 2 (omega arith);
        references = size_number 3 (omega arith);
        mailboxes = size_number 4 (omega arith);
        pools = size_number 5 (omega arith);
        slot-rows = held.sizes.slots;
        slots = λ m h.
            let back : 6 + m - 6 ≡ m = omega arith in
            let on : 1552 + 2 * (6 + m) ≡ 1552 + 12 + 2 * m = omega arith in
            rw (le-ltb (6 + m) 6 (omega arith), back, on) at (size_number (6 + m) (omega arith));
      }

  tables-lie : TablesLie t a.tables
  tables-lie =
      record {
        thread-rows = held.threads;
        threads = thread-lies;
        counter-rows = held.counters;
        counters = counter-lies;
        reference-rows = held.references;
        references = reference-lies;
        words = words-lie;
        steps = steps-lie;
        box-rows = held.mailboxes;
        boxes = box-lies;
        pool-rows = held.pools;
        pools = pool-lies;
        sizes = sizes-lie;
      }

  clock-lies : ClockLies c a.clock
  unfolding clock_cell
  clock-lies =
      record {
        time = sym (read-clock clock_at a (omega arith)) ∙ kept-time t c bt bc ∙ four_is c 0;
        frequency = sym (read-clock (clock_at + 1) a (omega arith)) ∙ kept-frequency t c bt bc ∙ four_is c 4;
      }

  pub lies-is : Lies t c a.tables a.clock
  lies-is = record { tables = tables-lie; clock = clock-lies }

-- ---- what lies in bytes is told by them

abbrev thread_with : ℕ → ℕ → ℕ → ℕ → ℕ → ℤ → ℕ → ℕ → ℕ → ℕ → ℤ → ℕ → ℕ → ℕ → Thread
thread_with state place remaining pending awaited message kind object operand timeout answer datum cause step =
    record {
      state = state;
      place = place;
      remaining = remaining;
      pending = pending;
      awaited = awaited;
      message = message;
      call = record { kind = kind; object = object; operand = operand; timeout = timeout };
      answer = record { message = answer; datum = datum };
      cause = cause;
      step = step;
    }

thread-one : {l : List ℕ} {at : ℕ} {x y : Thread} → ThreadLies l at x → ThreadLies l at y → x ≡ y
thread-one {x = x} {y = y} p q =
    let all : thread_with x.state x.place x.remaining x.pending x.awaited x.message x.call.kind x.call.object x.call.operand
    x.call.timeout x.answer.message x.answer.datum x.cause x.step ≡ y =
    rw (
      p.state ∙ sym q.state,
      p.place ∙ sym q.place,
      p.remaining ∙ sym q.remaining,
      p.pending ∙ sym q.pending,
      p.awaited ∙ sym q.awaited,
      p.message ∙ sym q.message,
      p.call-kind ∙ sym q.call-kind,
      p.call-object ∙ sym q.call-object,
      p.call-operand ∙ sym q.call-operand,
      p.call-timeout ∙ sym q.call-timeout,
      p.answer-message ∙ sym q.answer-message,
      p.answer-datum ∙ sym q.answer-datum,
      p.cause ∙ sym q.cause,
      p.step ∙ sym q.step,
    ) in
    all

-- rows of the same number, told one by one
rows-one : {A : Type 0} (d : A) (n : ℕ) {v w : List A} → length v ≡ n → length w ≡ n → ((i : ℕ) → i < n → get_or v i d ≡ get_or w i d) → v ≡ w
rows-one d n {v} {w} lv lw same = ext_get_or d v w (lv ∙ sym lw) (λ i h. same i (omega arith))

words-one : {l : List ℕ} {at : ℕ} {x y : Words} → WordsLie l at x → WordsLie l at y → x ≡ y
words-one {x = x} {y = y} p q =
    let waiting : x.waiting ≡ y.waiting = rows-one 0 36 p.waiting-rows q.waiting-rows (λ i h. p.waiting i h ∙ sym (q.waiting i h)) in
    let all : words_with x.ready x.waiting x.unused ≡ y = rw (p.ready ∙ sym q.ready, waiting, p.unused ∙ sym q.unused) in
    all
  where
    words_with : ℕ → List ℕ → ℕ → Words
    words_with r w u = record { ready = r; waiting = w; unused = u }

box-one : {l : List ℕ} {at : ℕ} {x y : Mailbox} → BoxLies l at x → BoxLies l at y → x ≡ y
box-one {x = x} {y = y} p q =
    let slots : x.messages ≡ y.messages = rows-one 0 16 p.message-rows q.message-rows (λ i h. p.messages i h ∙ sym (q.messages i h)) in
    let all : box_with x.positions.read x.positions.write x.positions.count x.reset x.messages ≡ y =
    rw (p.read ∙ sym q.read, p.write ∙ sym q.write, p.count ∙ sym q.count, p.reset ∙ sym q.reset, slots) in
    all
  where
    box_with : ℕ → ℕ → ℕ → ℕ → List ℕ → Mailbox
    box_with r w c s m = record { positions = record { read = r; write = w; count = c }; reset = s; messages = m }

pool-one : {l : List ℕ} {at : ℕ} {x y : Pool} → PoolLies l at x → PoolLies l at y → x ≡ y
pool-one {x = x} {y = y} p q =
    let list : x.list ≡ y.list = rows-one 0 32 p.list-rows q.list-rows (λ i h. p.list i h ∙ sym (q.list i h)) in
    let marks : x.marks ≡ y.marks = rows-one 0 32 p.mark-rows q.mark-rows (λ i h. p.marks i h ∙ sym (q.marks i h)) in
    let all : pool_with x.length x.list x.marks ≡ y = rw (p.length-is ∙ sym q.length-is, list, marks) in
    all
  where
    pool_with : ℕ → List ℕ → List ℕ → Pool
    pool_with n l m = record { length = n; list = l; marks = m }

sizes-one : {l : List ℕ} {at : ℕ} {x y : Sizes} → SizesLie l at x → SizesLie l at y → x ≡ y
sizes-one {x = x} {y = y} p q =
    let slots : x.slots ≡ y.slots = rows-one 0 4 p.slot-rows q.slot-rows (λ i h. p.slots i h ∙ sym (q.slots i h)) in
    let all : sizes_with x.threads x.semaphores x.queues x.references x.mailboxes x.pools x.slots ≡ y =
    rw (
      p.threads ∙ sym q.threads,
      p.semaphores ∙ sym q.semaphores,
      p.queues ∙ sym q.queues,
      p.references ∙ sym q.references,
      p.mailboxes ∙ sym q.mailboxes,
      p.pools ∙ sym q.pools,
      slots,
    ) in
    all
  where
    sizes_with : ℕ → ℕ → ℕ → ℕ → ℕ → ℕ → List ℕ → Sizes
    sizes_with t s q r m p l = record { threads = t; semaphores = s; queues = q; references = r; mailboxes = m; pools = p; slots = l }

tables-one : {l : List ℕ} {x y : Tables} → TablesLie l x → TablesLie l y → x ≡ y
tables-one {x = x} {y = y} p q =
    let threads : x.kernel.threads ≡ y.kernel.threads = rows-one no_thread 16 p.thread-rows q.thread-rows (λ i h. thread-one (p.threads i h) (q.threads i h)) in
    let counters : x.kernel.counters ≡ y.kernel.counters = rows-one (pos 0) 36 p.counter-rows q.counter-rows (λ i h. p.counters i h ∙ sym (q.counters i h)) in
    let references : x.kernel.references ≡ y.kernel.references = rows-one 255 8 p.reference-rows q.reference-rows (λ i h. p.references i h ∙ sym (q.references i h)) in
    let boxes : x.mailboxes ≡ y.mailboxes = rows-one no_box 4 p.box-rows q.box-rows (λ i h. box-one (p.boxes i h) (q.boxes i h)) in
    let pools : x.pools ≡ y.pools = rows-one no_pool 4 p.pool-rows q.pool-rows (λ i h. pool-one (p.pools i h) (q.pools i h)) in
    let all : tables_with x.kernel.threads x.kernel.counters x.kernel.references x.kernel.words x.kernel.steps x.mailboxes x.pools x.sizes ≡ y =
    rw (threads, counters, references, words-one p.words q.words, p.steps ∙ sym q.steps, boxes, pools, sizes-one p.sizes q.sizes) in
    all
  where
    tables_with : List Thread → List ℤ → List ℕ → Words → ℕ → List Mailbox → List Pool → Sizes → Tables
    tables_with t c r w n m p z =
        record {
          kernel = record { threads = t; counters = c; references = r; words = w; steps = n };
          mailboxes = m;
          pools = p;
          sizes = z;
        }

pub lies-one : {t c : List ℕ} {u v : Tables} {d e : Clock} → Lies t c u d → Lies t c v e → (u ≡ v) × (d ≡ e)
lies-one p q = (
  tables-one p.tables q.tables,
  clock-told (p.clock.time ∙ sym q.clock.time) (p.clock.frequency ∙ sym q.clock.frequency),
)
