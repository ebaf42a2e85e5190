-- A trace is read as its sizes and its steps, and then the end: behind any bytes, a record's bytes are read as the record.
use Prim.Native.Nat.{ℕ, zero, suc, ◌+◌, ◌≤◌, ◌<◌}
use native.Mathlib.Omega.{arith}
use mathlib.Core.Path.{◌≡◌, refl, sym, ap, ◌∙◌}
use mathlib.Core.Bool.{true}
use mathlib.Core.List.{List, [], ◌∷◌, ◌++◌, append_assoc, append-nil}
use lib.Dec.{eqb}
use lib.ListN.{length, take, drop, length-append}
use lib.Seq.{take_at, drop-append-add, length-take-le}
use borrow.Author.Tests.{eq-eqb, ne_eqb, eqb-true, eqb-false}
use Rattle.library.specs.declared.calls.Step.{Step}
use Rattle.library.specs.declared.sizes.Sizes.{Sizes}
use Rattle.trace.specs.Told.{Found}
use Rattle.trace.specs.Ordered.{bytes_n, get_n}
use Rattle.library.specs.Sizes.{sizes_fit, no_sizes}
use Rattle.trace.specs.TraceBytes.{longest, sizes_body, head_of, step_body, record_of, records_of, trace_of}
use Rattle.trace.specs.Decoding.{number_at, head_refusal, step_refusal, decoded_step, stopped_read, refused_read, opened_read, stepped_read, next_read}
use Rattle.trace.specs.Traces.{read_from, read_all, Encodes, AllEncode, more, Tabled}
use Rattle.trace.proofs.BodyLaws.{step-decoded, sizes-decoded}
use Rattle.kernel.proofs.Cases.{split}
use Rattle.trace.proofs.Framing.{Opens, Stands, head, stands, opened, accepted}
use Rattle.trace.proofs.SizesLaws.{Limits, limits}
use Rattle.trace.proofs.Widths.{get-bytes}
use Rattle.trace.proofs.WritingLaws.{length-record, length-head}

-- behind any bytes, a record is read as its step
step-read : (p q : List ℕ) (x : Step) → 0 < length p → Encodes x
    → next_read (p ++ (record_of x ++ q)) (length p) ≡ record { found = Found.Stepped x; sizes = no_sizes; next = length (p ++ record_of x) }
unfolding next_read stepped_read record_of
step-read p q x h e =
    let s : List ℕ = p ++ (bytes_n 2 11 ++ (step_body x ++ q)) in
    let n : length s ≡ length p + (13 + length q) = omega (arith, length-append p (bytes_n 2 11 ++ (step_body x ++ q))) in
    let record-stands : Stands s (length p) = record { sized = get-bytes 2 p 11 (step_body x ++ q) (length p) refl (omega arith); within = omega arith } in
    let body : take 11 (drop (length p + 2) s) ≡ step_body x =
    ap (take 11) (drop-append-add p (bytes_n 2 11 ++ (step_body x ++ q)) 2) ∙ take_at (step_body x) q 11 refl in
    let next : length (p ++ record_of x) ≡ length p + 13 = length-append p (record_of x) in
    rw (ne_eqb (length p) 0 (λ z. omega arith), ne_eqb (length p) (length s) (λ z. omega arith), accepted s (length p) record-stands, body, step-decoded x e, next)

-- behind its last record, a trace ends
end_read : (p : List ℕ) → 0 < length p → next_read p (length p) ≡ record { found = Found.Ended; sizes = no_sizes; next = length p }
unfolding next_read stepped_read
end_read p h = rw (ne_eqb (length p) 0 (λ z. omega arith), eq-eqb (length p) (length p) refl)

-- a trace's head is read as its sizes
head_read : (z : Sizes) (q : List ℕ) → sizes_fit z ≡ true → Tabled z → length (head_of z ++ q) ≤ longest
    → next_read (head_of z ++ q) 0 ≡ record { found = Found.Opened; sizes = z; next = length (head_of z) }
unfolding next_read opened_read head_of
head_read z q fit t h =
    let small : Limits z = limits z fit in
    let n : ℕ = length (sizes_body z) in
    let s : List ℕ = 1 ∷ (bytes_n 2 n ++ sizes_body z ++ q) in
    let as_many : n ≡ 6 + z.mailboxes = omega (arith, length-take-le z.mailboxes z.slots (omega (arith, small.mailboxes, t.four))) in
    let sized : get_n 2 s 1 ≡ n = get-bytes 2 (1 ∷ []) n (sizes_body z ++ q) 1 refl (omega (arith, small.mailboxes)) in
    let long : length s ≡ 3 + n + length q = omega (arith, length-append (sizes_body z) q) in
    let head-opens : Opens s = record { short = h; version = refl; sized = sized ∙ as_many; within = omega arith } in
    let body : take n (sizes_body z ++ q) ≡ sizes_body z = take_at (sizes_body z) q n refl in
    let next : 3 + n ≡ length (head_of z) = omega arith in
    rw (opened s head-opens, sized, body, sizes-decoded z t, fit) (ap (λ (k : ℕ). record { found = Found.Opened; sizes = z; next = k }) next)

-- records behind any bytes are read as their steps, and then the end
steps-read : (n : ℕ) (p : List ℕ) (xs : List Step) → length xs < n → 0 < length p → AllEncode xs
    → read_from n (p ++ records_of xs) (length p) ≡ record { sizes = no_sizes; steps = xs; stop = Found.Ended }
unfolding read_from
steps-read zero p xs l h e = absurd (omega arith)
steps-read (suc n) p [] l h e = rw (append-nil, end_read p h)
steps-read (suc n) p (x ∷ xs) l h (more e es) =
    let p' : List ℕ = p ++ record_of x in
    let same : p ++ (record_of x ++ records_of xs) ≡ p' ++ records_of xs = sym (append_assoc p (record_of x) (records_of xs)) in
    let rest : read_from n (p ++ (record_of x ++ records_of xs)) (length p') ≡ record { sizes = no_sizes; steps = xs; stop = Found.Ended } =
    rw same (steps-read n p' xs (omega arith) (omega (arith, length-append p (record_of x))) es) in
    rw (step-read p (records_of xs) x h e, rest)

-- there are fewer records than bytes
fewer : (xs : List Step) → length xs ≤ length (records_of xs)
fewer [] = omega arith
fewer (x ∷ xs) = omega (arith, length-append (record_of x) (records_of xs), length-record x, fewer xs)

-- a trace is read as its sizes and its steps, and then the end
pub all_read : (z : Sizes) (xs : List Step) → sizes_fit z ≡ true → Tabled z → AllEncode xs → length (trace_of z xs) ≤ longest
    → read_all (trace_of z xs) ≡ record { sizes = z; steps = xs; stop = Found.Ended }
unfolding read_all read_from trace_of
all_read z xs fit t es h =
    let n : length (head_of z) ≡ 9 + z.mailboxes = length-head z (limits z fit) t.four in
    let m : length (head_of z ++ records_of xs) ≡ length (head_of z) + length (records_of xs) = length-append (head_of z) (records_of xs) in
    let rest : read_from (length (head_of z ++ records_of xs)) (head_of z ++ records_of xs) (length (head_of z)) ≡ record { sizes = no_sizes; steps = xs; stop = Found.Ended } =
    steps-read (length (head_of z ++ records_of xs)) (head_of z) xs (omega (arith, fewer xs)) (omega arith) es in
    rw (head_read z (records_of xs) fit t h, rest)

-- ---- reads come to a stop

-- the three things that stand at a place behind the head
module _ (s : List ℕ) (at : ℕ) (h : 0 < at) where
  pub ends : at ≡ length s → next_read s at ≡ stopped_read Found.Ended at
  unfolding next_read stepped_read
  ends e = rw (ne_eqb at 0 (λ z. omega arith), eq-eqb at (length s) e)

  pub steps_on : (at ≡ length s → ⊥) → step_refusal s at ≡ 0
      → next_read s at ≡ record { found = Found.Stepped (decoded_step (take 11 (drop (at + 2) s))); sizes = no_sizes; next = at + 13 }
  unfolding next_read stepped_read
  steps_on e r = rw (ne_eqb at 0 (λ z. omega arith), ne_eqb at (length s) e, r)

  pub refuses : (at ≡ length s → ⊥) → (step_refusal s at ≡ 0 → ⊥) → next_read s at ≡ refused_read (step_refusal s at) at
  unfolding next_read stepped_read
  refuses e r = rw (ne_eqb at 0 (λ z. omega arith), ne_eqb at (length s) e, ne_eqb (step_refusal s at) 0 r)

code_same : (code number : ℕ) → Found.Refused code number ≡ Found.Refused 0 0 → code ≡ 0
code_same code number e = cc

never : Found.Ended ≡ Found.Refused 0 0 → ⊥
never e = let z : ◌≡◌ {A = ℕ} 0 1 = cc in omega arith

-- reads that are not refused go on by a byte at least, so where there are more reads than bytes left, they end or are refused by a number
later-stop : (n : ℕ) (s : List ℕ) (at : ℕ) → 0 < at → at ≤ length s → length s < at + n → (read_from n s at).stop ≡ Found.Refused 0 0 → ⊥
unfolding read_from
later-stop zero s at h l g e = omega arith
later-stop (suc n) s at h l g e =
    split (eqb at (length s))
    (λ t. let q = rw (ends s at h (eqb-true at (length s) t)) at e in never q)
    (λ f.
    let before : at ≡ length s → ⊥ = eqb-false at (length s) f in
    split (eqb (step_refusal s at) 0)
    (λ t.
    let r : step_refusal s at ≡ 0 = eqb-true (step_refusal s at) 0 t in
    later-stop n s (at + 13) (omega arith) (stands s at r).within (omega arith) (rw (steps_on s at h before r) at e))
    (λ g'.
    let no : step_refusal s at ≡ 0 → ⊥ = eqb-false (step_refusal s at) 0 g' in
    no (code_same (step_refusal s at) (number_at at) (rw (refuses s at h before no) at e))))

pub comes-to-a-stop : (s : List ℕ) → (read_all s).stop ≡ Found.Refused 0 0 → ⊥
unfolding read_all read_from next_read opened_read
comes-to-a-stop s e =
    split (eqb (head_refusal s) 0)
    (λ t.
    let within : 3 + get_n 2 s 1 ≤ length s = (head s (eqb-true (head_refusal s) 0 t)).opens.within in
    later-stop (length s) s (3 + get_n 2 s 1) (omega arith) within (omega arith) (rw t at e))
    (λ f. eqb-false (head_refusal s) 0 f (code_same (head_refusal s) 0 (rw f at e)))
