-- A trace that is read up to its end is the trace of what was read: each record's bytes are the record of what it was read as.
use Prim.Native.Nat.{ℕ, zero, suc, ◌+◌, ◌<◌}
use native.Mathlib.Omega.{arith}
use mathlib.Core.Path.{◌≡◌, refl, sym, ap, ap₂, ◌∙◌}
use mathlib.Core.List.{List, [], ◌∷◌, ◌++◌}
use lib.Dec.{eqb, ltb}
use lib.ListN.{length, get_or, take, drop, length-drop, take-append-drop, get_or-eq_default}
use lib.Seq.{drop-length, drop-drop, take-add, length-take-le, get_or-take, get_or-drop}
use borrow.Author.Tests.{eqb-true, eqb-false, ltb-true, ltb-false}
use Rattle.trace.specs.Told.{Found}
use Rattle.trace.specs.Ordered.{bytes_n, get_n}
use Rattle.trace.specs.TraceBytes.{sizes_body, head_of, step_body, record_of, records_of, trace_of}
use Rattle.trace.specs.Decoding.{number_at, head_refusal, step_refusal, decoded_sizes, decoded_step, head_sizes, opened_read, next_read}
use Rattle.trace.specs.Traces.{read_from, read_all, Tabled, Bytes}
use Rattle.trace.proofs.BodyLaws.{step-encoded, sizes-encoded, sizes-tabled, take_short}
use Rattle.kernel.proofs.Cases.{split}
use Rattle.trace.proofs.Framing.{Stands, Head, head, stands}
use Rattle.trace.proofs.ReadingLaws.{ends, steps_on, refuses}
use Rattle.trace.proofs.SizesLaws.{limits}
use Rattle.trace.proofs.Widths.{bytes-get}

-- the bytes of a part
part_bytes : (s : List ℕ) (m n : ℕ) → Bytes s → Bytes (take n (drop m s))
part_bytes s m n b i =
    split (ltb i n)
    (λ t. rw (get_or-take n (drop m s) i 0 (ltb-true i n t), get_or-drop) (b (m + i)))
    (λ f. rw (get_or-eq_default (take n (drop m s)) 0 {n = i} (omega (arith, take_short n (drop m s), ltb-false i n f))) (omega arith))

first-of : (s : List ℕ) → 0 < length s → take 1 s ≡ get_or s 0 0 ∷ []
first-of [] h = absurd (omega arith)
first-of (x ∷ s) h = refl

-- a head that was read: its body is as long as its M byte says
module _ (s : List ℕ) (h : Head s) where
  abbrev body : List ℕ
  body = take (get_n 2 s 1) (drop 3 s)

  long : length body ≡ get_n 2 s 1
  long = length-take-le (get_n 2 s 1) (drop 3 s) (omega (arith, length-drop 3 s, h.opens.within))

  sized : length body ≡ 6 + get_or body 4 0
  sized =
      let boxes : get_or body 4 0 ≡ get_or s 7 0 =
      get_or-take (get_n 2 s 1) (drop 3 s) 4 0 (omega (arith, h.opens.sized)) ∙ get_or-drop 3 s 4 0 in
      omega (arith, long, h.opens.sized)

  -- so its sizes have a table of four
  pub head-tabled : Tabled (head_sizes s)
  head-tabled = sizes-tabled body sized

  -- and it is the head of its sizes
  head-again : Bytes s → head_of (head_sizes s) ≡ take (3 + get_n 2 s 1) s
  unfolding head_of decoded_sizes
  head-again b =
      let n : ℕ = get_n 2 s 1 in
      let same : sizes_body (head_sizes s) ≡ body = sizes-encoded body sized (limits (head_sizes s) h.fit).mailboxes in
      let numbered : bytes_n 2 (length body) ≡ take 2 (drop 1 s) = ap (bytes_n 2) long ∙ bytes-get 2 s 1 b (omega (arith, h.opens.within)) in
      let one : take 1 s ≡ 1 ∷ [] = first-of s (omega (arith, h.opens.within)) ∙ ap (λ (v : ℕ). v ∷ []) h.opens.version in
      let three : 3 + n ≡ 1 + (2 + n) = omega arith in
      let cut : take (3 + n) s ≡ take 1 s ++ (take 2 (drop 1 s) ++ body) =
      ap (λ (k : ℕ). take k s) three
      ∙ take-add 1 (2 + n) s
      ∙ ap (λ (l : List ℕ). take 1 s ++ l) (take-add 2 n (drop 1 s) ∙ ap (λ (l : List ℕ). take 2 (drop 1 s) ++ take n l) (drop-drop 2 1 s)) in
      ap (λ (l : List ℕ). 1 ∷ (bytes_n 2 (length l) ++ l)) same
      ∙ ap (λ (v : List ℕ). 1 ∷ (v ++ body)) numbered
      ∙ sym (cut ∙ ap (λ (v : List ℕ). v ++ (take 2 (drop 1 s) ++ body)) one)

-- a record that was read is the record of its step
record-again : (s : List ℕ) (at : ℕ) → Bytes s → Stands s at → record_of (decoded_step (take 11 (drop (at + 2) s))) ≡ take 13 (drop at s)
unfolding record_of
record-again s at b r =
    let body : List ℕ = take 11 (drop (at + 2) s) in
    let long : length body ≡ 11 = length-take-le 11 (drop (at + 2) s) (omega (arith, length-drop (at + 2) s, r.within)) in
    let same : step_body (decoded_step body) ≡ body = step-encoded body (part_bytes s (at + 2) 11 b) long in
    let numbered : bytes_n 2 11 ≡ take 2 (drop at s) = ap (bytes_n 2) (sym r.sized) ∙ bytes-get 2 s at b (omega (arith, r.within)) in
    ap₂ (λ (v w : List ℕ). v ++ w) numbered (same ∙ ap (take 11) (sym (drop-drop 2 at s))) ∙ sym (take-add 2 11 (drop at s))

not-ended : (code number : ℕ) → Found.Refused code number ≡ Found.Ended → ⊥
not-ended code number e = let z : ◌≡◌ {A = ℕ} 0 1 = cc in omega arith

-- steps that were read up to the end are the bytes from the place on
steps-again : (n : ℕ) (s : List ℕ) (at : ℕ) → Bytes s → 0 < at → (read_from n s at).stop ≡ Found.Ended → records_of (read_from n s at).steps ≡ drop at s
unfolding read_from
steps-again zero s at b h e = absurd (not-ended 0 0 e)
steps-again (suc n) s at b h e =
    split (eqb at (length s))
    (λ t.
    let there : at ≡ length s = eqb-true at (length s) t in
    rw (ends s at h there) (sym (ap (λ (k : ℕ). drop k s) there ∙ drop-length s)))
    (λ f.
    let before : at ≡ length s → ⊥ = eqb-false at (length s) f in
    split (eqb (step_refusal s at) 0)
    (λ t.
    let r : step_refusal s at ≡ 0 = eqb-true (step_refusal s at) 0 t in
    let q = steps_on s at h before r in
    rw q
    (ap₂ (λ (v w : List ℕ). v ++ w) (record-again s at b (stands s at r)) (steps-again n s (at + 13) b (omega arith) (rw q at e) ∙ sym (drop-drop 13 at s))
    ∙ take-append-drop 13 (drop at s)))
    (λ g. absurd (not-ended (step_refusal s at) (number_at at) (rw (refuses s at h before (eqb-false (step_refusal s at) 0 g)) at e))))

-- what is known of a trace that was read up to its end
pub record ReadToItsEnd (s : List ℕ) : Type 0 where
  pub start : Head s
  pub sizes : (read_all s).sizes ≡ head_sizes s
  pub steps : (read_all s).steps ≡ (read_from (length s) s (3 + get_n 2 s 1)).steps
  pub stop : (read_from (length s) s (3 + get_n 2 s 1)).stop ≡ Found.Ended

pub read_whole : (s : List ℕ) → (read_all s).stop ≡ Found.Ended → ReadToItsEnd s
unfolding read_all read_from next_read opened_read
read_whole s e =
    split (eqb (head_refusal s) 0)
    (λ t. record {
      start = head s (eqb-true (head_refusal s) 0 t);
      sizes = rw t;
      steps = rw t;
      stop = rw t at e;
    })
    (λ f. absurd (not-ended (head_refusal s) 0 (rw f at e)))

pub trace-again : (s : List ℕ) → Bytes s → ReadToItsEnd s → trace_of (read_all s).sizes (read_all s).steps ≡ s
unfolding trace_of
trace-again s b k =
    let n : ℕ = 3 + get_n 2 s 1 in
    rw (k.sizes, k.steps)
    (ap₂ (λ (v w : List ℕ). v ++ w) (head-again s k.start b) (steps-again (length s) s n b (omega arith) k.stop)
    ∙ take-append-drop n s)
