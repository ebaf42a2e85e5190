-- Bodies: what is decoded is what was encoded, and encodes to the same bytes again. Each field is the bytes at its place.
use Prim.Native.Nat.{ℕ, zero, suc, ◌+◌, ◌≤◌}
use native.Mathlib.Omega.{arith}
use mathlib.Core.Path.{◌≡◌, refl, sym, ap, ap₂, ◌∙◌}
use mathlib.Core.List.{List, [], ◌∷◌, ◌++◌}
use lib.Dec.{ltb}
use lib.ListN.{length, get_or, take, drop, length-drop, get_or-eq_default}
use lib.Seq.{take-add, drop-drop, get_or-take, take_all}
use borrow.Author.Tests.{ltb-true, ltb-false}
use Rattle.library.specs.declared.calls.Step.{Step}
use Rattle.library.specs.declared.sizes.Sizes.{Sizes}
use Rattle.trace.specs.Ordered.{bytes_n, get_n}
use Rattle.trace.specs.TraceBytes.{sizes_body, step_body}
use Rattle.trace.specs.Decoding.{decoded_sizes, decoded_step}
use Rattle.trace.specs.Traces.{Encodes, Tabled, Bytes}
use Rattle.kernel.proofs.Cases.{split}
use Rattle.trace.proofs.Widths.{get-bytes, bytes-get}

-- ---- steps

-- a step's body is decoded as the step
pub step-decoded : (x : Step) → Encodes x → decoded_step (step_body x) ≡ x
unfolding decoded_step
step-decoded x e =
    ap₂ (λ (a t : ℕ). record { kind = x.kind; caller = x.caller; object = x.object; a = a; timeout = t })
    (get-bytes 4 (x.kind ∷ x.caller ∷ x.object ∷ []) x.a (bytes_n 4 x.timeout) 3 refl e.a)
    (get-bytes 4 (x.kind ∷ x.caller ∷ x.object ∷ bytes_n 4 x.a) x.timeout [] 7 refl e.timeout)

-- the first three elements, and the rest
three-and-rest : (l : List ℕ) → 3 ≤ length l → get_or l 0 0 ∷ get_or l 1 0 ∷ get_or l 2 0 ∷ drop 3 l ≡ l
three-and-rest [] h = absurd (omega arith)
three-and-rest (a ∷ []) h = absurd (omega arith)
three-and-rest (a ∷ b ∷ []) h = absurd (omega arith)
three-and-rest (a ∷ b ∷ c ∷ l) h = refl

-- a body of eleven bytes is the body of the step that it is decoded as
pub step-encoded : (l : List ℕ) → Bytes l → length l ≡ 11 → step_body (decoded_step l) ≡ l
unfolding decoded_step
step-encoded l b n =
    let rest : bytes_n 4 (get_n 4 l 3) ++ bytes_n 4 (get_n 4 l 7) ≡ drop 3 l =
    ap₂ (λ (p q : List ℕ). p ++ q) (bytes-get 4 l 3 b (omega arith)) (bytes-get 4 l 7 b (omega arith) ∙ ap (take 4) (sym (drop-drop 4 3 l)))
    ∙ sym (take-add 4 4 (drop 3 l))
    ∙ take_all 8 (drop 3 l) (omega (arith, length-drop 3 l)) in
    ap (λ (r : List ℕ). get_or l 0 0 ∷ get_or l 1 0 ∷ get_or l 2 0 ∷ r) rest ∙ three-and-rest l (omega arith)

-- ---- sizes

four-of : (l : List ℕ) → length l ≡ 4 → get_or l 0 0 ∷ get_or l 1 0 ∷ get_or l 2 0 ∷ get_or l 3 0 ∷ [] ≡ l
four-of [] n = absurd (omega arith)
four-of (a ∷ []) n = absurd (omega arith)
four-of (a ∷ b ∷ []) n = absurd (omega arith)
four-of (a ∷ b ∷ c ∷ []) n = absurd (omega arith)
four-of (a ∷ b ∷ c ∷ d ∷ []) n = refl
four-of (a ∷ b ∷ c ∷ d ∷ e ∷ l) n = absurd (omega arith)

pub take_short : (n : ℕ) (l : List ℕ) → length (take n l) ≤ n
take_short zero l = omega arith
take_short (suc n) [] = omega arith
take_short (suc n) (x ∷ l) = omega (arith, take_short n l)

-- mailbox i's slots stand among the first M, or are 0
slot_kept : (z : Sizes) → Tabled z → (i : ℕ) → get_or (take z.mailboxes z.slots) i 0 ≡ get_or z.slots i 0
slot_kept z t i =
    split (ltb i z.mailboxes)
    (λ e. get_or-take z.mailboxes z.slots i 0 (ltb-true i z.mailboxes e))
    (λ e.
    let past : z.mailboxes ≤ i = ltb-false i z.mailboxes e in
    get_or-eq_default (take z.mailboxes z.slots) 0 {n = i} (omega (arith, take_short z.mailboxes z.slots))
    ∙ sym (t.absent i past))

with-slots : Sizes → List ℕ → Sizes
with-slots z l =
    record {
      threads = z.threads;
      semaphores = z.semaphores;
      queues = z.queues;
      references = z.references;
      mailboxes = z.mailboxes;
      pools = z.pools;
      slots = l;
    }

-- the body of sizes is decoded as the sizes
pub sizes-decoded : (z : Sizes) → Tabled z → decoded_sizes (sizes_body z) ≡ z
unfolding decoded_sizes with-slots
sizes-decoded z t =
    let slot : (i : ℕ) → get_or (take z.mailboxes z.slots) i 0 ≡ get_or z.slots i 0 = slot_kept z t in
    let slots : List ℕ = take z.mailboxes z.slots in
    let same : get_or slots 0 0 ∷ get_or slots 1 0 ∷ get_or slots 2 0 ∷ get_or slots 3 0 ∷ [] ≡ z.slots =
    rw (slot 0, slot 1, slot 2, slot 3) (four-of z.slots t.four) in
    ap (with-slots z) same

-- up to four elements, and no more of the four
up-to-four : (l : List ℕ) → length l ≤ 4 → take (length l) (get_or l 0 0 ∷ get_or l 1 0 ∷ get_or l 2 0 ∷ get_or l 3 0 ∷ []) ≡ l
up-to-four [] h = refl
up-to-four (a ∷ []) h = refl
up-to-four (a ∷ b ∷ []) h = refl
up-to-four (a ∷ b ∷ c ∷ []) h = refl
up-to-four (a ∷ b ∷ c ∷ d ∷ []) h = refl
up-to-four (a ∷ b ∷ c ∷ d ∷ e ∷ l) h = absurd (omega arith)

-- a body of the right length is the body of the sizes that it is decoded as
pub sizes-encoded : (l : List ℕ) → length l ≡ 6 + get_or l 4 0 → get_or l 4 0 ≤ 4 → sizes_body (decoded_sizes l) ≡ l
unfolding decoded_sizes
sizes-encoded [] n m = absurd (omega arith)
sizes-encoded (a ∷ []) n m = absurd (omega arith)
sizes-encoded (a ∷ b ∷ []) n m = absurd (omega arith)
sizes-encoded (a ∷ b ∷ c ∷ []) n m = absurd (omega arith)
sizes-encoded (a ∷ b ∷ c ∷ d ∷ []) n m = absurd (omega arith)
sizes-encoded (a ∷ b ∷ c ∷ d ∷ e ∷ []) n m = absurd (omega arith)
sizes-encoded (a ∷ b ∷ c ∷ d ∷ e ∷ f ∷ l) n m =
    let k : e ≡ length l = omega arith in
    ap (λ (r : List ℕ). a ∷ b ∷ c ∷ d ∷ e ∷ f ∷ r)
    (ap (λ (j : ℕ). take j (get_or l 0 0 ∷ get_or l 1 0 ∷ get_or l 2 0 ∷ get_or l 3 0 ∷ [])) k ∙ up-to-four l (omega arith))

-- what is decoded from such a body has a table of four, with 0 for the mailboxes that are not there
pub sizes-tabled : (l : List ℕ) → length l ≡ 6 + get_or l 4 0 → Tabled (decoded_sizes l)
unfolding decoded_sizes
sizes-tabled l n = record { four = refl; absent = past }
  where
    past : (i : ℕ) → get_or l 4 0 ≤ i → get_or (get_or l 6 0 ∷ get_or l 7 0 ∷ get_or l 8 0 ∷ get_or l 9 0 ∷ []) i 0 ≡ 0
    past zero h = get_or-eq_default l 0 {n = 6} (omega arith)
    past (suc zero) h = get_or-eq_default l 0 {n = 7} (omega arith)
    past (suc (suc zero)) h = get_or-eq_default l 0 {n = 8} (omega arith)
    past (suc (suc (suc zero))) h = get_or-eq_default l 0 {n = 9} (omega arith)
    past (suc (suc (suc (suc i)))) h = refl
