-- What the writer leaves of sizes and steps is their trace: behind any bytes, a record is pasted as its bytes.
use Prim.Native.Nat.{ℕ, ◌+◌, ◌-◌, ◌≤◌}
use native.Mathlib.Omega.{arith}
use mathlib.Core.Path.{◌≡◌, refl, sym, ap, ap₂, ◌∙◌}
use mathlib.Core.Bool.{true}
use mathlib.Core.List.{List, [], ◌∷◌, ◌++◌, append_assoc, append-nil}
use lib.ListN.{length, drop, length-append, length-drop}
use lib.Seq.{sets, sets-eq, take-append_seam, drop-append-add, drop-drop, length-take-le}
use Rattle.library.specs.declared.calls.Step.{Step}
use Rattle.library.specs.declared.sizes.Sizes.{Sizes}
use Rattle.library.specs.Sizes.{sizes_fit}
use Rattle.trace.specs.Told.{Written}
use Rattle.trace.specs.TraceBytes.{longest, head_of, record_of, records_of, trace_of}
use Rattle.trace.specs.Writer.{room_refusal, sizes_answer, sizes_written, step_answer, step_written}
use Rattle.trace.specs.Traces.{written_from, written_all}
use Rattle.trace.proofs.Room.{fits}
use Rattle.trace.proofs.SizesLaws.{Limits, limits}

pub length-record : (x : Step) → length (record_of x) ≡ 13
unfolding record_of
length-record x = refl

pub length-head : (z : Sizes) → Limits z → length z.slots ≡ 4 → length (head_of z) ≡ 9 + z.mailboxes
unfolding head_of
length-head z small four = omega (arith, length-take-le z.mailboxes z.slots (omega (arith, small.mailboxes)))

-- ---- writing

-- bytes pasted behind bytes
pasted : (p q v : List ℕ) → length v ≤ length q → sets (p ++ q) (length p) v ≡ p ++ v ++ drop (length v) q
pasted p q v h =
    sets-eq v (p ++ q) (length p) (omega (arith, length-append p q))
    ∙ ap₂ (λ (a b : List ℕ). a ++ v ++ b) (take-append_seam p q) (drop-append-add p q (length v))

-- where nothing is refused, the answer is the place after the record, and the record is pasted
step-written : (p q : List ℕ) (x : Step) → length p + 13 ≤ longest → 13 ≤ length q
    → step_written x (length p) (p ++ q) ≡ p ++ record_of x ++ drop 13 q
unfolding step_written record_of
step-written p q x h g =
    let room : 0 ≡ room_refusal (length (p ++ q)) (length p) 13 = fits (length (p ++ q)) (length p) 13 h (omega (arith, length-append p q)) in
    rw (← room) (pasted p q (record_of x) g)

step-answered : (p q : List ℕ) → length p + 13 ≤ longest → 13 ≤ length q → step_answer (length p) (p ++ q) ≡ Written.Upto (length p + 13)
unfolding step_answer
step-answered p q h g =
    let room : 0 ≡ room_refusal (length (p ++ q)) (length p) 13 = fits (length (p ++ q)) (length p) 13 h (omega (arith, length-append p q)) in
    rw (← room)

-- steps are pasted as their records, one behind the other
steps-written : (p q : List ℕ) (xs : List Step) → length p + length (records_of xs) ≤ longest → length (records_of xs) ≤ length q
    → written_from (record { answer = Written.Upto (length p); buffer = p ++ q }) xs
    ≡ record { answer = Written.Upto (length (p ++ records_of xs)); buffer = p ++ records_of xs ++ drop (length (records_of xs)) q }
unfolding written_from
steps-written p q [] h g = rw append-nil
steps-written p q (x ∷ xs) h g =
    let n : length (record_of x ++ records_of xs) ≡ 13 + length (records_of xs) =
    length-append (record_of x) (records_of xs) ∙ ap (λ (k : ℕ). k + length (records_of xs)) (length-record x) in
    let p' : List ℕ = p ++ record_of x in
    let q' : List ℕ = drop 13 q in
    let next : length p' ≡ length p + 13 = length-append p (record_of x) ∙ ap (λ (k : ℕ). length p + k) (length-record x) in
    let left : length q' ≡ length q - 13 = length-drop 13 q in
    let same : p' ++ records_of xs ≡ p ++ (record_of x ++ records_of xs) = append_assoc p (record_of x) (records_of xs) in
    let behind : drop (length (records_of xs)) q' ≡ drop (length (record_of x ++ records_of xs)) q =
    drop-drop (length (records_of xs)) 13 q ∙ ap (λ (k : ℕ). drop k q) (sym n) in
    ap₂ (λ (a : Written) (b : List ℕ). written_from (record { answer = a; buffer = b }) xs)
    (step-answered p q (omega arith) (omega arith) ∙ ap Written.Upto (sym next))
    (step-written p q x (omega arith) (omega arith))
    ∙ steps-written p' q' xs (omega arith) (omega arith)
    ∙ ap₂ (λ (a b : List ℕ). record { answer = Written.Upto (length a); buffer = a ++ b }) same behind

-- sizes and steps are pasted as their trace
pub all-written : (z : Sizes) (xs : List Step) (l : List ℕ) → sizes_fit z ≡ true → length z.slots ≡ 4
    → length (trace_of z xs) ≤ longest → length (trace_of z xs) ≤ length l
    → written_all z xs l ≡ record { answer = Written.Upto (length (trace_of z xs)); buffer = trace_of z xs ++ drop (length (trace_of z xs)) l }
unfolding written_all trace_of sizes_answer sizes_written
all-written z xs l fit four h g =
    let n : length (head_of z) ≡ 9 + z.mailboxes = length-head z (limits z fit) four in
    let m : length (head_of z ++ records_of xs) ≡ length (head_of z) + length (records_of xs) = length-append (head_of z) (records_of xs) in
    let room : 0 ≡ room_refusal (length l) 0 (9 + z.mailboxes) = fits (length l) 0 (9 + z.mailboxes) (omega arith) (omega arith) in
    let left : length (drop (length (head_of z)) l) ≡ length l - length (head_of z) = length-drop (length (head_of z)) l in
    rw (fit, ← room, ← n)
    (ap (λ (b : List ℕ). written_from (record { answer = Written.Upto (length (head_of z)); buffer = b }) xs) (pasted [] l (head_of z) (omega arith))
    ∙ steps-written (head_of z) (drop (length (head_of z)) l) xs (omega arith) (omega arith)
    ∙ ap (λ (b : List ℕ). record { answer = Written.Upto (length (head_of z ++ records_of xs)); buffer = head_of z ++ records_of xs ++ b })
    (drop-drop (length (records_of xs)) (length (head_of z)) l ∙ ap (λ (k : ℕ). drop k l) (sym m)))
