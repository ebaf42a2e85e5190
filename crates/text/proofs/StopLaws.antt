-- The listing stops where the reader does: each read moves on by 13 bytes at least, so 4615 records are the most that 60,000 bytes have, and
-- the 5000 reads of `print_trace` come to the end or to a bad record.
use Rattle.std.proofs.Common.{◌≡◌, ℕ, zero, suc, ◌+◌, ◌*◌, ◌<◌, ◌≤◌, eqb, ◌≢◌, ◌⊎◌, List, length, get_or, sym, refl, ap, ◌∙◌, inl, inr, arith, eqb-true}
use borrow.Author.Tests.{eqb-false}
use Rattle.kernel.proofs.Cases.{split}
use Rattle.trace.specs.Told.{Found, Read}
use Rattle.trace.specs.Ordered.{get_n}
use Rattle.trace.specs.Decoding.{found_code, head_refusal, step_refusal, opened_read, next_read}
use Rattle.trace.proofs.Framing.{Head, head, stands}
use Rattle.trace.proofs.ReadingLaws.{ends, steps_on, refuses}
use Rattle.text.specs.Ending.{place_read}
use Rattle.text.proofs.EndingLaws.{stays, read_more}

-- a reader that begins at a place has read n records, each of which moved it on
pub data Reads (s : List ℕ) : ℕ → ℕ → ℕ → Type 0 where
  none : {at : ℕ} → Reads s at 0 at
  more : {at n to : ℕ} → (next_read s at).next ≢ at → Reads s (next_read s at).next n to → Reads s at (suc n) to

-- there the reader stops: the trace ends, or the record is refused; and it is not moved
pub record Stops (s : List ℕ) (at : ℕ) : Type 0 where
  pub unmoved : (next_read s at).next ≡ at
  pub found : ((next_read s at).found ≡ Found.Ended) ⊎ (found_code (next_read s at).found ≢ 0)

-- so many records are read from a place on, and then the reader stops
pub record ListedTo (s : List ℕ) (from to : ℕ) : Type 0 where
  pub count : ℕ
  pub reads : Reads s from count to
  pub stops : Stops s to

-- a read that stops is where reading on stays
listed_here : (n : ℕ) (s : List ℕ) (at : ℕ) → Stops s at → ListedTo s at (place_read n s at)
listed_here n s at h = rw (stays n s at h.unmoved) (record { count = 0; reads = Reads.none; stops = h })

-- one that does not goes on
listed-on : (s : List ℕ) (at next to : ℕ) → (next_read s at).next ≡ next → next ≢ at → ListedTo s next to → ListedTo s at to
listed-on s at next to e d l =
    let rest : Reads s (next_read s at).next l.count to = rw e l.reads in
    record { count = suc l.count; reads = Reads.more {at = at} (rw e d) rest; stops = l.stops }

-- behind record 0, where the reads that are left are enough for the bytes that are left
later-listed : (n : ℕ) (s : List ℕ) (at : ℕ) → 0 < at → at ≤ length s → length s < at + 13 * n → ListedTo s at (place_read n s at)
unfolding place_read
later-listed zero s at h l g = absurd (omega arith)
later-listed (suc n) s at h l g =
    split (eqb at (length s))
    (λ t.
    let e = ends s at h (eqb-true at (length s) t) in
    listed_here (suc n) s at (record { unmoved = ap (λ (r : Read). r.next) e; found = inl (ap (λ (r : Read). r.found) e) }))
    (λ f.
    let here : at ≢ length s = eqb-false at (length s) f in
    split (eqb (step_refusal s at) 0)
    (λ t.
    let r : step_refusal s at ≡ 0 = eqb-true (step_refusal s at) 0 t in
    let e : (next_read s at).next ≡ at + 13 = ap (λ (r : Read). r.next) (steps_on s at h here r) in
    rw e (listed-on s at (at + 13) (place_read n s (at + 13)) e (λ z. omega arith)
    (later-listed n s (at + 13) (omega arith) (stands s at r).within (omega arith))))
    (λ g'.
    let no : step_refusal s at ≢ 0 = eqb-false (step_refusal s at) 0 g' in
    let e = refuses s at h here no in
    listed_here (suc n) s at
    (record { unmoved = ap (λ (r : Read). r.next) e; found = inr (λ z. no (sym (ap (λ (r : Read). found_code r.found) e) ∙ z)) })))

-- the 5000 reads of a listing stop where the reader stops
pub listing-stops : (s : List ℕ) → ListedTo s 0 (place_read 5000 s 0)
unfolding next_read opened_read
listing-stops s =
    split (eqb (head_refusal s) 0)
    (λ t.
    let h : Head s = head s (eqb-true (head_refusal s) 0 t) in
    let long : get_n 2 s 1 ≡ 6 + get_or s 7 0 = h.opens.sized in
    let e : (next_read s 0).next ≡ 3 + get_n 2 s 1 = rw t in
    let go : place_read 5000 s 0 ≡ place_read 4999 s (3 + get_n 2 s 1) =
    sym (read_more 5000 s 0 (next_read s 0).next refl (omega arith)) ∙ ap (place_read 4999 s) e in
    listed-on s 0 (3 + get_n 2 s 1) (place_read 5000 s 0) e (λ z. omega arith)
    (rw go (later-listed 4999 s (3 + get_n 2 s 1) (omega arith) h.opens.within (omega (arith, h.opens.short)))))
    (λ f.
    let no : head_refusal s ≢ 0 = eqb-false (head_refusal s) 0 f in
    listed_here 5000 s 0 (record { unmoved = rw f; found = inr (rw f no) }))

-- ---- how many records there can be

-- a read that moves a reader from behind record 0 read 13 bytes
moved_on : (s : List ℕ) (at : ℕ) → 0 < at → (next_read s at).next ≢ at → ((next_read s at).next ≡ at + 13) × (at + 13 ≤ length s)
moved_on s at h d =
    split (eqb at (length s))
    (λ t. absurd (d (ap (λ (r : Read). r.next) (ends s at h (eqb-true at (length s) t)))))
    (λ f.
    let here : at ≢ length s = eqb-false at (length s) f in
    split (eqb (step_refusal s at) 0)
    (λ t.
    let r : step_refusal s at ≡ 0 = eqb-true (step_refusal s at) 0 t in
    (ap (λ (x : Read). x.next) (steps_on s at h here r), (stands s at r).within))
    (λ g. absurd (d (ap (λ (r : Read). r.next) (refuses s at h here (eqb-false (step_refusal s at) 0 g))))))

later-room : {s : List ℕ} {at n to : ℕ} → 0 < at → at ≤ length s → Reads s at n to → at + 13 * n ≤ length s
later-room h l Reads.none = omega arith
later-room {s} {at} h l (Reads.more {n = n} d rest) =
    let on = moved_on s at h d in
    omega (arith, on.0, later-room (omega (arith, on.0)) (omega (arith, on.0, on.1)) rest)

head-moved : (s : List ℕ) → (next_read s 0).next ≢ 0 → (9 ≤ (next_read s 0).next) × (((next_read s 0).next ≤ length s) × (length s ≤ 60000))
unfolding next_read opened_read
head-moved s =
    split (eqb (head_refusal s) 0)
    (λ t. rw t
    (λ d.
    let h : Head s = head s (eqb-true (head_refusal s) 0 t) in
    (omega (arith, h.opens.sized), (h.opens.within, h.opens.short))))
    (λ f. rw f (λ d. absurd (d refl)))

-- no trace has more than 4615 records, so 4616 reads are enough for any
pub listed-few : {s : List ℕ} {n to : ℕ} → Reads s 0 n to → n ≤ 4615
listed-few Reads.none = omega arith
listed-few {s} (Reads.more {n = n} d rest) =
    let on = head-moved s d in
    omega (arith, on.0, on.1.1, later-room (omega (arith, on.0)) on.1.0 rest)

-- ---- there is one place where the reader stops

one-stop : {s : List ℕ} {from m n a b : ℕ} → Reads s from m a → Stops s a → Reads s from n b → Stops s b → a ≡ b
one-stop Reads.none h Reads.none g = refl
one-stop Reads.none h (Reads.more d rest) g = absurd (d h.unmoved)
one-stop (Reads.more d rest) h Reads.none g = absurd (d g.unmoved)
one-stop (Reads.more d rest) h (Reads.more e others) g = one-stop rest h others g

pub listed-one : {s : List ℕ} {from a b : ℕ} → ListedTo s from a → ListedTo s from b → a ≡ b
listed-one x y = one-stop x.reads x.stops y.reads y.stops
