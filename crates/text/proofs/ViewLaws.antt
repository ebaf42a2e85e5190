-- The records' texts, one after the other, are the view's; and the laws of one record and of the loop, as the code meets them.
use Rattle.std.proofs.Common.{◌≡◌, ℕ, zero, suc, ◌+◌, ◌-◌, ◌*◌, ◌<◌, ◌≤◌, ◌∙◌, eqb, ◌≢◌, List, [], ◌++◌, length, get_or, take, drop, refl, ap, subst, append-nil, arith, eq-eqb, ne_eqb, eqb-true}
use Rattle.std.proofs.lemmas.List.{get_or_past}
use borrow.Author.Tests.{eqb-false}
use Rattle.kernel.proofs.Cases.{split}
use Rattle.library.specs.declared.sizes.Sizes.{Sizes}
use Rattle.library.specs.Sizes.{no_sizes}
use Rattle.trace.specs.Told.{Found, Read}
use Rattle.trace.specs.Ordered.{get_n}
use Rattle.trace.specs.Decoding.{head_sizes, head_refusal, refused_read, step_refusal, decoded_step, opened_read, next_read}
use Rattle.trace.specs.Traces.{read_from, read_all}
use Rattle.trace.proofs.Framing.{Head, head, stands}
use Rattle.trace.proofs.ReadingLaws.{ends, steps_on, refuses}
use Rattle.text.specs.declared.views.View.{View}
use Rattle.text.specs.declared.views.Parts.{Parts}
use Rattle.text.specs.declared.views.Seen.{Seen}
use Rattle.text.specs.declared.views.Shown.{Shown}
use Rattle.text.specs.declared.views.Listing.{Listing}
use Rattle.buffers.specs.declared.putting.Sheet.{Sheet}
use Rattle.buffers.specs.Put.{Put, Puts, rows}
use Rattle.text.specs.Tables.{least}
use Rattle.text.specs.Views.{counts, part_text, head_text, rows_in, parts_text, view_parts, fresh_seen, seen_after, records_text, reading_text, view_text}
use Rattle.text.specs.Views.{Record, seen_behind, shown_parts, stop_text, record_of, text_from, seen_from, Listed}
use Rattle.buffers.proofs.PutLaws.{whole-text}
use Rattle.buffers.proofs.SheetLaws.{on}

-- ---- all records

none-shown : (x : Seen) (from : ℕ) → parts_text x from 0 ≡ []
unfolding parts_text rows
none-shown x from = refl

-- behind record 0, where the reads on both sides are enough for the bytes that are left
later : (v : Parts) (m n i : ℕ) (s : List ℕ) (x : Seen) (at : ℕ) → 0 < at → at ≤ length s → length s < at + 13 * m → length s < at + n
    → text_from v m i s x at ≡ records_text v i x (read_from n s at).steps (read_from n s at).stop
unfolding text_from read_from records_text
later v zero n i s x at h l g k = absurd (omega arith)
later v (suc m) zero i s x at h l g k = absurd (omega arith)
later v (suc m) (suc n) i s x at h l g k =
    split (eqb at (length s))
    (λ e. rw (ends s at h (eqb-true at (length s) e), eq-eqb at at refl, append-nil))
    (λ f.
    let here : at ≢ length s = eqb-false at (length s) f in
    split (eqb (step_refusal s at) 0)
    (λ e.
    let r : step_refusal s at ≡ 0 = eqb-true (step_refusal s at) 0 e in
    let y = decoded_step (take 11 (drop (at + 2) s)) in
    let moved : at + 13 ≢ at = λ z. omega arith in
    rw (
      steps_on s at h here r,
      ne_eqb (at + 13) at moved,
      later v m n (i + 1) s (seen_after i x y) (at + 13) (omega arith) (stands s at r).within (omega arith) (omega arith),
      append-nil,
    ))
    (λ g'. rw (refuses s at h here (eqb-false (step_refusal s at) 0 g'), eq-eqb at at refl, append-nil)))

-- what stands at a trace's start
pub opens : (s : List ℕ) → head_refusal s ≡ 0 → next_read s 0 ≡ record { found = Found.Opened; sizes = head_sizes s; next = 3 + get_n 2 s 1 }
unfolding next_read opened_read
opens s e = rw e

pub refused : (s : List ℕ) → head_refusal s ≢ 0 → next_read s 0 ≡ refused_read (head_refusal s) 0
unfolding next_read opened_read
refused s e = rw (ne_eqb (head_refusal s) 0 e)

from_start : (v : Parts) (m n : ℕ) (s : List ℕ) → 60000 < 13 * m → length s ≤ n
    → text_from v (suc m) 0 s (fresh_seen no_sizes) 0 ≡ reading_text v (read_from (suc n) s 0)
unfolding text_from read_from records_text
from_start v m n s g k =
    split (eqb (head_refusal s) 0)
    (λ e.
    let none : head_refusal s ≡ 0 = eqb-true (head_refusal s) 0 e in
    let h : Head s = head s none in
    let long : get_n 2 s 1 ≡ 6 + get_or s 7 0 = h.opens.sized in
    let within = h.opens.within in
    let short = h.opens.short in
    let moved : 3 + get_n 2 s 1 ≢ 0 = λ z. omega arith in
    rw (opens s none, ne_eqb (3 + get_n 2 s 1) 0 moved, none-shown (fresh_seen (head_sizes s)) 0)
    (later v m n 1 s (fresh_seen (head_sizes s)) (3 + get_n 2 s 1) (omega arith) within (omega arith) (omega arith)))
    (λ f. rw (refused s (eqb-false (head_refusal s) 0 f), append-nil))

-- 5000 records are more than a trace has
pub all-records : (v : Parts) (s : List ℕ) → text_from v 5000 0 s (fresh_seen no_sizes) 0 ≡ reading_text v (read_all s)
unfolding read_all
all-records v s = from_start v 4999 (length s) s (omega arith) (omega arith)

-- a view's text is its heading, and the records' texts one after the other
pub view-text : (w : View) (s : List ℕ)
    → parts_text (fresh_seen no_sizes) (view_parts w).head (view_parts w).heads ++ text_from (view_parts w) 5000 0 s (fresh_seen no_sizes) 0
    ≡ view_text w s
unfolding view_text
view-text w s = ap (λ (z : List ℕ). parts_text (fresh_seen no_sizes) (view_parts w).head (view_parts w).heads ++ z) (all-records (view_parts w) s)

-- what a program hands to the write call, where a record's text begins the buffer, is that text
pub record-written : {s t : Sheet} (x r : Listing) (y : Record) → Listed s t x r y → s.at ≡ 0 → t.at < length s.out.now → take t.at t.out.now ≡ y.text
record-written {s} {t} x r y h e room = whole-text (subst (λ (k : ℕ). Put s.out.now t.out.now k t.at y.text) e h.put.put) room

-- a number that is no part's has no rows, and no text
no-rows : (z : Sizes) (n : ℕ) → 21 < n → rows_in z n ≡ 0
unfolding rows_in
no-rows z n h =
    let past : 20 ≤ n = omega arith in
    get_or_past
    (counts (least z.threads 16) (least z.semaphores 16) (least z.queues 8) (least z.references 8) (least z.mailboxes 4) (least z.pools 4)) n
    0 past

pub no-part : (x : Seen) (n : ℕ) → 21 < n → part_text x n ≡ []
unfolding part_text head_text rows
no-part x n h =
    rw (
      ne_eqb n 17 (λ e. omega arith),
      ne_eqb n 18 (λ e. omega arith),
      ne_eqb n 19 (λ e. omega arith),
      ne_eqb n 20 (λ e. omega arith),
      ne_eqb n 21 (λ e. omega arith),
      no-rows x.tables.sizes n h,
    )

-- ---- what is known behind the records, as the loop meets it: one more; none more; and one that moves no reader, which is the last
pub seen-on : (v : Parts) (n i : ℕ) (s : List ℕ) (x y : Seen) (at next : ℕ) → y ≡ (record_of v i x (next_read s at)).seen
    → next ≡ (next_read s at).next → next ≢ at → 0 < n → seen_from v (n - 1) (i + 1) s y next ≡ seen_from v n i s x at
unfolding seen_from
seen-on v zero i s x y at next e f g h = absurd (omega (arith, h))
seen-on v (suc n) i s x y at next e f g h =
    let less : suc n - 1 ≡ n = omega arith in
    rw (less, e, f, ne_eqb (next_read s at).next at (λ k. g (f ∙ k)))

pub seen-none : (v : Parts) (n i : ℕ) (s : List ℕ) (x : Seen) (at : ℕ) → n ≡ 0 → seen_from v n i s x at ≡ x
unfolding seen_from
seen-none v zero i s x at e = refl
seen-none v (suc n) i s x at e = absurd (omega (arith, e))

pub seen-last : (v : Parts) (n i : ℕ) (s : List ℕ) (x y : Seen) (at : ℕ) → y ≡ (record_of v i x (next_read s at)).seen
    → (next_read s at).next ≡ at → 0 < n → y ≡ seen_from v n i s x at
unfolding seen_from
seen-last v zero i s x y at e f h = absurd (omega (arith, h))
seen-last v (suc n) i s x y at e f h = rw (e, eq-eqb (next_read s at).next at f)

-- ---- one record, as the code meets it: what is known behind it, its parts, and where reading stopped
pub next-listed : {s t u : Sheet} (x : Listing) (v : Parts) (n : ℕ) (a b : Read) (seen : Seen) (shown : Shown) → a ≡ b
    → seen ≡ seen_behind n x.seen a.sizes a.found → shown ≡ shown_parts v a.found
    → Puts s t (parts_text seen shown.from shown.n) → Puts t u (stop_text a.found)
    → Listed s u x (record { seen = seen; at = a.next }) (record_of v n x.seen b)
next-listed {s} {t} {u} x v n a b seen shown e f g p q =
    subst (λ (r : Read). Listed s u x (record { seen = seen; at = a.next }) (record_of v n x.seen r)) e
    (record { put = on (rw (f, g) at p) q; seen = f; at = refl })
