-- "Any values of the five fields encode": what is written of a step is read back as it, whatever its values, and what is written of sizes as
-- those sizes, whatever stands in them for mailboxes that are not there.
use Rattle.std.specs.Prelude.{ℕ, zero, suc, ◌+◌, ◌*◌, ◌/◌, ◌%◌, ◌≤◌, ◌<◌, ◌≡◌, refl, cond, List, [], ◌∷◌, ltb, length, get_or}
use Rattle.std.proofs.Common.{arith, ap, ◌∙◌, lt-ltb, ltb-true}
use Rattle.kernel.proofs.Cases.{split}
use Rattle.library.specs.declared.calls.Step.{Step}
use Rattle.library.specs.declared.sizes.Sizes.{Sizes}
use Rattle.trace.specs.Told.{Read}
use Rattle.promises.specs.Paper.Together.{SizesFit}
use Rattle.promises.specs.Paper.Fresh.{nothing}
use Rattle.promises.specs.Paper.Answers.{found_said}
use Rattle.promises.specs.Paper.Reader.{byte, two, four, sizes_in, HeadBroken, RecordBroken, Gives, HeadRead, LaterRead, ReadOf}
use Rattle.promises.specs.Paper.Writer.{HeadIn, FourIn, RecordIn, AnyStep}
use Rattle.promises.specs.Paper.Traces.{sizes_held}

-- ---- steps

four-back : {k : List ℕ} {at n : ℕ} → FourIn k at n → n < 4294967296 → four k at ≡ n
four-back {k} {at} {n} f h =
    let a : byte k at ≡ n / 256 / 256 / 256 = first f.first in
    let b : byte k (at + 1) ≡ n / 256 / 256 % 256 = second f.second in
    let c : byte k (at + 2) ≡ n / 256 % 256 = f.third in
    let d : byte k (at + 3) ≡ n % 256 = f.last in
    let high : byte k at * 256 + byte k (at + 1) ≡ n / 256 / 256 = omega arith in
    let more : byte k at * 65536 + byte k (at + 1) * 256 + byte k (at + 2) ≡ n / 256 = omega arith in
    omega arith
  where
    first : byte k at ≡ n / 16777216 % 256 → byte k at ≡ n / 256 / 256 / 256
    first e = omega arith

    second : byte k (at + 1) ≡ n / 65536 % 256 → byte k (at + 1) ≡ n / 256 / 256 % 256
    second e = omega arith

module _ (x : Step) (at : ℕ) (l k : List ℕ) (any : AnyStep x) (behind : 0 < at) (room : at + 13 ≤ length k) (written : RecordIn x at l k) where
  record-right : two k at ≡ 11
  record-right = omega (arith, written.length_high, written.length-low)

  record-whole : (n : ℕ) → RecordBroken k at n → ⊥
  record-whole n (RecordBroken.in-length h) = omega arith
  record-whole n (RecordBroken.in-body h) = omega (arith, record-right)
  record-whole n (RecordBroken.wrong-length h) = h record-right

  -- a step's record, written behind other bytes, is read as the step, whatever its values
  pub step-read-back : (r : Read) → ReadOf k at r
      → Gives r (record { code = 0; gives = 2; values = x.kind ∷ x.caller ∷ x.object ∷ x.a ∷ x.timeout ∷ [] }) nothing (at + 13)
  step-read-back r (ReadOf.head a b) = absurd (omega arith)
  step-read-back r (ReadOf.later a (LaterRead.ended e g)) = absurd (omega arith)
  step-read-back r (ReadOf.later a (LaterRead.refused e n m f i g)) = absurd (record-whole n f.broken)
  step-read-back r (ReadOf.later a (LaterRead.stepped e f g)) =
      rw (written.kind, written.caller, written.object, four-back written.a any.a, four-back written.timeout any.timeout) at g

-- ---- sizes

-- the sizes that stand in a head are those that it holds
pub head-held : {z : Sizes} {l k : List ℕ} → HeadIn z l k → sizes_in k ≡ sizes_held z
head-held {z} {l} {k} w = rw (held 0, held 1, held 2, held 3, w.threads, w.semaphores, w.queues, w.references, w.mailboxes, w.pools)
  where
    held : (m : ℕ) → cond (ltb m (byte k 7)) (byte k (9 + m)) 0 ≡ cond (ltb m z.mailboxes) (get_or z.slots m 0) 0
    held m = rw w.mailboxes (split (ltb m z.mailboxes) (λ e. rw e (w.slots m (ltb-true m z.mailboxes e))) (λ e. rw e))

-- a mailbox that is there has its slots
slot_held : (z : Sizes) (m : ℕ) → m < z.mailboxes → m < 4 → get_or (sizes_held z).slots m 0 ≡ get_or z.slots m 0
slot_held z zero h g = rw (lt-ltb 0 z.mailboxes h)
slot_held z (suc zero) h g = rw (lt-ltb 1 z.mailboxes h)
slot_held z (suc (suc zero)) h g = rw (lt-ltb 2 z.mailboxes h)
slot_held z (suc (suc (suc zero))) h g = rw (lt-ltb 3 z.mailboxes h)
slot_held z (suc (suc (suc (suc m)))) h g = absurd (omega arith)

-- so they are in their limits with the sizes that were given
held-limits : (z : Sizes) → SizesFit z → SizesFit (sizes_held z)
held-limits z g =
    record {
      threads = g.threads;
      semaphores = g.semaphores;
      queues = g.queues;
      references = g.references;
      mailboxes = g.mailboxes;
      pools = g.pools;
      slots = λ m h. rw (slot_held z m h (omega (arith, g.mailboxes))) (g.slots m h);
    }

module _ (z : Sizes) (l k : List ℕ) (limits : SizesFit z) (room : 9 + z.mailboxes ≤ length k) (short : length k ≤ 60000) (written : HeadIn z l k) where
  head-right : two k 1 ≡ 6 + byte k 7
  head-right = omega (arith, written.length_high, written.length-low, written.mailboxes)

  head-whole : (n : ℕ) → HeadBroken k n → ⊥
  head-whole n (HeadBroken.long h) = omega arith
  head-whole n (HeadBroken.empty h) = omega arith
  head-whole n (HeadBroken.version h) = h written.version
  head-whole n (HeadBroken.in-length h) = omega arith
  head-whole n (HeadBroken.in-body h) = omega (arith, head-right, written.mailboxes)
  head-whole n (HeadBroken.wrong-length h) = h head-right
  head-whole n (HeadBroken.size h) = h (rw (head-held written) (held-limits z limits))

  -- sizes, written at the beginning, are read as those sizes, with 0 for the mailboxes that are not there, whatever stood there
  pub sizes-read-back : (r : Read) → ReadOf k 0 r
      → (found_said r.found ≡ record { code = 0; gives = 1; values = [] }) × ((r.sizes ≡ sizes_held z) × (r.next ≡ 9 + z.mailboxes))
  sizes-read-back r (ReadOf.head a (HeadRead.refused n f g)) = absurd (head-whole n f.broken)
  sizes-read-back r (ReadOf.head a (HeadRead.opened f g)) =
      (g.found, (g.sized ∙ head-held written, g.place ∙ ap (λ (m : ℕ). 9 + m) written.mailboxes))
  sizes-read-back r (ReadOf.later a b) = absurd (a refl)
