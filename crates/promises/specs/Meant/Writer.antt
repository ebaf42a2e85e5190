-- What the code writes is what the paper tells of it, byte by byte, and the paper leaves no choice: a byte that is pasted is the record's,
-- any other the buffer's own.
use Prim.Native.Nat.{ℕ, zero, suc, ◌+◌, ◌-◌, ◌/◌, ◌%◌, ◌≤◌, ◌<◌}
use native.Mathlib.Omega.{arith}
use Rattle.std.specs.Prelude.{◌≡◌, ◌≢◌, List, [], ◌∷◌, ◌++◌, ltb, get_or, take, drop}
use Rattle.std.proofs.Math.Path.{refl}
use Rattle.std.proofs.Common.{sym, ap, ◌∙◌, length-append, get_or-drop, length-take-le, ext_get_or}
use Rattle.std.proofs.Math.ListN.{length, get_or-eq_default, get_or-append}
use Rattle.std.proofs.lemmas.List.Edits.{sets, sets-eq}
use Rattle.std.proofs.Math.Seq.{length-sets, get_or-append-add, get_or-take}
use borrow.Author.Tests.{ltb-true, ltb-false, le-leb, lt-leb, ne_eqb}
use Rattle.kernel.proofs.Cases.{split, same_or, in-or-out}
use Rattle.library.specs.declared.calls.Step.{Step}
use Rattle.library.specs.declared.sizes.Sizes.{Sizes}
use Rattle.library.specs.Sizes.{sizes_fit}
use Rattle.trace.specs.Told.{Written}
use Rattle.trace.specs.Ordered.{bytes_n, put_n}
use Rattle.trace.specs.TraceBytes.{sizes_body, head_of, record_of}
use Rattle.trace.specs.Writer.{room_refusal, sizes_refusal, sizes_answer, sizes_written, step_answer, step_written}
use Rattle.promises.specs.Paper.Together.{SizesFit}
use Rattle.promises.specs.Paper.Answers.{Said}
use Rattle.promises.specs.Paper.Reader.{byte}
use Rattle.promises.specs.Paper.Writer.{HeadIn, TwoIn, FourIn, NumberWritten, RecordIn, SizesUnfit, StepUnfit, LeastOf, WriteOfSizes, WriteOfStep, written_said}
use Rattle.promises.specs.Meant.Sizes.{fit-limits, out-of-limits}
use Rattle.promises.specs.Meant.Said.{written_one}

-- ---- bytes pasted into a buffer

module _ (l v : List ℕ) (at : ℕ) (fits : at + length v ≤ length l) where
  front : length (take at l) ≡ at
  front = length-take-le at l (omega arith)

  pasted-in : (i to : ℕ) → i < length v → to ≡ at + i → byte (sets l at v) to ≡ byte v i
  pasted-in i to h e =
      rw (e, sets-eq v l at fits)
      (ap (λ (n : ℕ). get_or ((take at l ++ v) ++ drop (at + length v) l) (n + i) 0) (sym front)
      ∙ get_or-append (take at l ++ v) (drop (at + length v) l) 0 (length (take at l) + i) (omega (arith, length-append (take at l) v))
      ∙ get_or-append-add (take at l) v i 0)

  pasted-before : (i : ℕ) → i < at → byte (sets l at v) i ≡ byte l i
  pasted-before i h =
      rw (sets-eq v l at fits)
      (get_or-append (take at l ++ v) (drop (at + length v) l) 0 i (omega (arith, length-append (take at l) v, front))
      ∙ get_or-append (take at l) v 0 i (omega (arith, front))
      ∙ get_or-take at l i 0 h)

  pasted-behind : (i : ℕ) → at + length v ≤ i → byte (sets l at v) i ≡ byte l i
  pasted-behind i h =
      let long : length (take at l ++ v) ≡ at + length v = length-append (take at l) v ∙ ap (λ (n : ℕ). n + length v) front in
      let far : length (take at l ++ v) + (i - (at + length v)) ≡ i = omega arith in
      let same : at + length v + (i - (at + length v)) ≡ i = omega arith in
      rw (sets-eq v l at fits)
      (ap (λ (n : ℕ). get_or ((take at l ++ v) ++ drop (at + length v) l) n 0) (sym far)
      ∙ get_or-append-add (take at l ++ v) (drop (at + length v) l) (i - (at + length v)) 0
      ∙ get_or-drop (at + length v) l (i - (at + length v)) 0
      ∙ ap (byte l) same)

-- ---- numbers

pub two-write-is : (l : List ℕ) (at n : ℕ) → NumberWritten 2 l at (λ k. TwoIn k at n) (put_n 2 l at n)
unfolding put_n
two-write-is l at n =
    in-or-out (length l) (at + 2)
    (λ h. rw (lt-leb (at + 2) (length l) h) (NumberWritten.no_room h refl))
    (λ h.
    let v : List ℕ = bytes_n 2 n in
    rw (le-leb (at + 2) (length l) h)
    (NumberWritten.written h (length-sets l at v) (pasted-before l v at h)
    (record {
      first = pasted-in l v at h 0 at (omega arith) (omega arith);
      last = pasted-in l v at h 1 (at + 1) (omega arith) refl;
    })
    (pasted-behind l v at h)))

four-in : (k : List ℕ) (at n : ℕ) → byte k at ≡ n / 256 / 256 / 256 % 256 → byte k (at + 1) ≡ n / 256 / 256 % 256
    → byte k (at + 2) ≡ n / 256 % 256 → byte k (at + 3) ≡ n % 256 → FourIn k at n
four-in k at n a b c d = record { first = omega arith; second = omega arith; third = c; last = d }

pub four-write-is : (l : List ℕ) (at n : ℕ) → NumberWritten 4 l at (λ k. FourIn k at n) (put_n 4 l at n)
unfolding put_n
four-write-is l at n =
    in-or-out (length l) (at + 4)
    (λ h. rw (lt-leb (at + 4) (length l) h) (NumberWritten.no_room h refl))
    (λ h.
    let v : List ℕ = bytes_n 4 n in
    rw (le-leb (at + 4) (length l) h)
    (NumberWritten.written h (length-sets l at v) (pasted-before l v at h)
    (four-in (sets l at v) at n
    (pasted-in l v at h 0 at (omega arith) (omega arith))
    (pasted-in l v at h 1 (at + 1) (omega arith) refl)
    (pasted-in l v at h 2 (at + 2) (omega arith) refl)
    (pasted-in l v at h 3 (at + 3) (omega arith) refl))
    (pasted-behind l v at h)))

-- ---- a step's record

record-in : (x : Step) (at : ℕ) (l : List ℕ) → at + 13 ≤ length l → RecordIn x at l (sets l at (record_of x))
unfolding record_of
record-in x at l h =
    let v : List ℕ = record_of x in
    let b : (i : ℕ) → i < 13 → byte (sets l at v) (at + i) ≡ byte v i = λ i g. pasted-in l v at h i (at + i) g refl in
    let k : List ℕ = sets l at v in
    record {
      size = length-sets l at v;
      before = pasted-before l v at h;
      length_high = pasted-in l v at h 0 at (omega arith) (omega arith);
      length-low = b 1 (omega arith);
      kind = b 2 (omega arith);
      caller = b 3 (omega arith);
      object = b 4 (omega arith);
      a = four-in k (at + 5) x.a (b 5 (omega arith))
          (pasted-in l v at h 6 (at + 5 + 1) (omega arith) (omega arith))
          (pasted-in l v at h 7 (at + 5 + 2) (omega arith) (omega arith))
          (pasted-in l v at h 8 (at + 5 + 3) (omega arith) (omega arith));
      timeout = four-in k (at + 9) x.timeout (b 9 (omega arith))
          (pasted-in l v at h 10 (at + 9 + 1) (omega arith) (omega arith))
          (pasted-in l v at h 11 (at + 9 + 2) (omega arith) (omega arith))
          (pasted-in l v at h 12 (at + 9 + 3) (omega arith) (omega arith));
      behind = pasted-behind l v at h;
    }

-- ---- record 0

-- a mailbox that has slots stands in the table
slots-long : (z : Sizes) → SizesFit z → z.mailboxes ≤ length z.slots
slots-long z g =
    in-or-out (length z.slots) z.mailboxes
    (λ l. absurd (omega (arith, (g.slots (length z.slots) l).0, get_or-eq_default z.slots 0 {n = length z.slots} (omega arith))))
    (λ h. h)

module _ (z : Sizes) (limits : SizesFit z) where
  taken-long : length (take z.mailboxes z.slots) ≡ z.mailboxes
  taken-long = length-take-le z.mailboxes z.slots (slots-long z limits)

  head-long : length (head_of z) ≡ 9 + z.mailboxes
  unfolding head_of
  head-long = omega (arith, taken-long)

  head-slot : (m : ℕ) → m < z.mailboxes → byte (head_of z) (9 + m) ≡ get_or z.slots m 0
  unfolding head_of
  head-slot m h =
      let n : ℕ = length (sizes_body z) in
      get_or-append-add
      (1 ∷ n / 256 % 256 ∷ n % 256 ∷ z.threads ∷ z.semaphores ∷ z.queues ∷ z.references ∷ z.mailboxes ∷ z.pools ∷ [])
      (take z.mailboxes z.slots) m 0
      ∙ get_or-take z.mailboxes z.slots m 0 h

  -- the nine bytes before the slots
  record Nine : Type 0 where
    version : byte (head_of z) 0 ≡ 1
    high : byte (head_of z) 1 ≡ 0
    low : byte (head_of z) 2 ≡ 6 + z.mailboxes
    threads : byte (head_of z) 3 ≡ z.threads
    semaphores : byte (head_of z) 4 ≡ z.semaphores
    queues : byte (head_of z) 5 ≡ z.queues
    references : byte (head_of z) 6 ≡ z.references
    mailboxes : byte (head_of z) 7 ≡ z.mailboxes
    pools : byte (head_of z) 8 ≡ z.pools

  nine : Nine
  unfolding head_of
  nine =
      record {
        version = refl;
        high = omega (arith, taken-long, limits.mailboxes);
        low = omega (arith, taken-long, limits.mailboxes);
        threads = refl;
        semaphores = refl;
        queues = refl;
        references = refl;
        mailboxes = refl;
        pools = refl;
      }

  head_in : (l : List ℕ) → 9 + z.mailboxes ≤ length l → HeadIn z l (sets l 0 (head_of z))
  head_in l h =
      let v : List ℕ = head_of z in
      let fits : 0 + length v ≤ length l = omega (arith, head-long) in
      let b : (i : ℕ) → i < 9 + z.mailboxes → byte (sets l 0 v) i ≡ byte v i =
      λ i g. pasted-in l v 0 fits i i (omega (arith, head-long)) (omega arith) in
      record {
        size = length-sets l 0 v;
        version = b 0 (omega arith) ∙ nine.version;
        length_high = b 1 (omega arith) ∙ nine.high;
        length-low = b 2 (omega arith) ∙ nine.low;
        threads = b 3 (omega arith) ∙ nine.threads;
        semaphores = b 4 (omega arith) ∙ nine.semaphores;
        queues = b 5 (omega arith) ∙ nine.queues;
        references = b 6 (omega arith) ∙ nine.references;
        mailboxes = b 7 (omega arith) ∙ nine.mailboxes;
        pools = b 8 (omega arith) ∙ nine.pools;
        slots = λ m g. b (9 + m) (omega arith) ∙ head-slot m g;
        behind = λ i g. pasted-behind l v 0 fits i (omega (arith, head-long));
      }

-- ---- one record written

-- what the writer's test of room says
module _ (at n : ℕ) (l : List ℕ) where
  room-cases : {C : Type 0} → (60000 < at + n → room_refusal (length l) at n ≡ 15 → C)
      → (at + n ≤ 60000 → length l < at + n → room_refusal (length l) at n ≡ 16 → C)
      → (at + n ≤ 60000 → at + n ≤ length l → room_refusal (length l) at n ≡ 0 → C) → C
  room-cases long short fits =
      split (ltb 60000 (at + n))
      (λ a. long (ltb-true 60000 (at + n) a) (rw a))
      (λ a. split (ltb (length l) (at + n))
      (λ b. short (ltb-false 60000 (at + n) a) (ltb-true (length l) (at + n) b) (rw (a, b)))
      (λ b. fits (ltb-false 60000 (at + n) a) (ltb-false (length l) (at + n) b) (rw (a, b))))

module _ (x : Step) (at : ℕ) (l : List ℕ) where
  step-refused : (n : ℕ) → room_refusal (length l) at 13 ≡ n → n ≢ 0 → LeastOf (StepUnfit at l) n
      → WriteOfStep x at l (step_answer at l) (step_written x at l)
  unfolding step_answer step_written
  step-refused n e d f = rw (e, ne_eqb n 0 d) (WriteOfStep.refused n f refl refl)

  pub step-write-is : WriteOfStep x at l (step_answer at l) (step_written x at l)
  unfolding step_answer step_written
  step-write-is =
      room-cases at 13 l
      (λ a e. step-refused 15 e (λ z. omega arith) (record { unfit = StepUnfit.long a; none_before = first }))
      (λ a b e. step-refused 16 e (λ z. omega arith) (record { unfit = StepUnfit.short b; none_before = second a }))
      (λ a b e. rw e (WriteOfStep.written (fit a b) refl (record-in x at l b)))
    where
      first : (m : ℕ) → m < 15 → StepUnfit at l m → ⊥
      first m h (StepUnfit.long a) = omega arith
      first m h (StepUnfit.short a) = omega arith

      second : at + 13 ≤ 60000 → (m : ℕ) → m < 16 → StepUnfit at l m → ⊥
      second g m h (StepUnfit.long a) = omega arith
      second g m h (StepUnfit.short a) = omega arith

      fit : at + 13 ≤ 60000 → at + 13 ≤ length l → (m : ℕ) → StepUnfit at l m → ⊥
      fit g i m (StepUnfit.long a) = omega arith
      fit g i m (StepUnfit.short a) = omega arith

module _ (z : Sizes) (l : List ℕ) where
  sizes-refused : (n : ℕ) → sizes_refusal z l ≡ n → n ≢ 0 → LeastOf (SizesUnfit z l) n
      → WriteOfSizes z l (sizes_answer z l) (sizes_written z l)
  unfolding sizes_answer sizes_written
  sizes-refused n e d f = rw (e, ne_eqb n 0 d) (WriteOfSizes.refused n f refl refl)

  pub sizes-write-is : WriteOfSizes z l (sizes_answer z l) (sizes_written z l)
  unfolding sizes_answer sizes_written
  sizes-write-is =
      split (sizes_fit z)
      (λ s.
      let g : SizesFit z = fit-limits z s in
      room-cases 0 (9 + z.mailboxes) l
      (λ a e. absurd (omega (arith, g.mailboxes)))
      (λ a b e. sizes-refused 16 (rw (s, e)) (λ n. omega arith) (record { unfit = SizesUnfit.short (omega arith); none_before = second g (omega arith) }))
      (λ a b e. rw (s, e) (WriteOfSizes.written (fit g (omega arith) (omega arith)) refl (head_in z g l (omega arith)))))
      (λ s. sizes-refused 14 (rw s) (λ n. omega arith) (record { unfit = SizesUnfit.size (out-of-limits z s); none_before = first }))
    where
      first : (m : ℕ) → m < 14 → SizesUnfit z l m → ⊥
      first m h (SizesUnfit.size a) = omega arith
      first m h (SizesUnfit.long a) = omega arith
      first m h (SizesUnfit.short a) = omega arith

      second : SizesFit z → 9 + z.mailboxes ≤ 60000 → (m : ℕ) → m < 16 → SizesUnfit z l m → ⊥
      second g i m h (SizesUnfit.size a) = a g
      second g i m h (SizesUnfit.long a) = omega arith
      second g i m h (SizesUnfit.short a) = omega arith

      fit : SizesFit z → 9 + z.mailboxes ≤ 60000 → 9 + z.mailboxes ≤ length l → (m : ℕ) → SizesUnfit z l m → ⊥
      fit g i j m (SizesUnfit.size a) = a g
      fit g i j m (SizesUnfit.long a) = omega arith
      fit g i j m (SizesUnfit.short a) = omega arith

-- ---- the paper leaves no choice

-- what holds of the numbers below 13, one by one
thirteen : (P : ℕ → Type 0) → P 0 → P 1 → P 2 → P 3 → P 4 → P 5 → P 6 → P 7 → P 8 → P 9 → P 10 → P 11 → P 12 → (i : ℕ) → i < 13 → P i
thirteen P a b c d e f g h j k l m n zero q = a
thirteen P a b c d e f g h j k l m n (suc zero) q = b
thirteen P a b c d e f g h j k l m n (suc (suc zero)) q = c
thirteen P a b c d e f g h j k l m n (suc (suc (suc zero))) q = d
thirteen P a b c d e f g h j k l m n (suc (suc (suc (suc zero)))) q = e
thirteen P a b c d e f g h j k l m n (suc (suc (suc (suc (suc zero))))) q = f
thirteen P a b c d e f g h j k l m n (suc (suc (suc (suc (suc (suc zero)))))) q = g
thirteen P a b c d e f g h j k l m n (suc (suc (suc (suc (suc (suc (suc zero))))))) q = h
thirteen P a b c d e f g h j k l m n (suc (suc (suc (suc (suc (suc (suc (suc zero)))))))) q = j
thirteen P a b c d e f g h j k l m n (suc (suc (suc (suc (suc (suc (suc (suc (suc zero))))))))) q = k
thirteen P a b c d e f g h j k l m n (suc (suc (suc (suc (suc (suc (suc (suc (suc (suc zero)))))))))) q = l
thirteen P a b c d e f g h j k l m n (suc (suc (suc (suc (suc (suc (suc (suc (suc (suc (suc zero))))))))))) q = m
thirteen P a b c d e f g h j k l m n (suc (suc (suc (suc (suc (suc (suc (suc (suc (suc (suc (suc zero)))))))))))) q = n
thirteen P a b c d e f g h j k l m n (suc (suc (suc (suc (suc (suc (suc (suc (suc (suc (suc (suc (suc i))))))))))))) q = absurd (omega arith)

head-only : {z : Sizes} {l k j : List ℕ} → HeadIn z l k → HeadIn z l j → k ≡ j
head-only {z} {l} {k} {j} a b =
    ext_get_or 0 k j (a.size ∙ sym b.size)
    (λ i h. in-or-out i 9
    (λ g. thirteen (λ n. n < 9 → byte k n ≡ byte j n)
    (λ q. a.version ∙ sym b.version)
    (λ q. a.length_high ∙ sym b.length_high)
    (λ q. a.length-low ∙ sym b.length-low)
    (λ q. a.threads ∙ sym b.threads)
    (λ q. a.semaphores ∙ sym b.semaphores)
    (λ q. a.queues ∙ sym b.queues)
    (λ q. a.references ∙ sym b.references)
    (λ q. a.mailboxes ∙ sym b.mailboxes)
    (λ q. a.pools ∙ sym b.pools)
    (λ q. absurd (omega arith)) (λ q. absurd (omega arith)) (λ q. absurd (omega arith)) (λ q. absurd (omega arith)) i (omega arith) g)
    (λ g. in-or-out i (9 + z.mailboxes)
    (λ m.
    let place : 9 + (i - 9) ≡ i = omega arith in
    ap (byte k) (sym place) ∙ a.slots (i - 9) (omega arith) ∙ sym (b.slots (i - 9) (omega arith)) ∙ ap (byte j) place)
    (λ m. a.behind i m ∙ sym (b.behind i m))))

four-only : {k j : List ℕ} {at n : ℕ} → FourIn k at n → FourIn j at n
    → (byte k at ≡ byte j at) × ((byte k (at + 1) ≡ byte j (at + 1)) × ((byte k (at + 2) ≡ byte j (at + 2)) × (byte k (at + 3) ≡ byte j (at + 3))))
four-only a b =
    (a.first ∙ sym b.first, (a.second ∙ sym b.second, (a.third ∙ sym b.third, a.last ∙ sym b.last)))

record-only : {x : Step} {at : ℕ} {l k j : List ℕ} → RecordIn x at l k → RecordIn x at l j → k ≡ j
record-only {x} {at} {l} {k} {j} a b =
    let fa = four-only a.a b.a in
    let ft = four-only a.timeout b.timeout in
    let move : (m n : ℕ) → m ≡ n → byte k m ≡ byte j m → byte k n ≡ byte j n = λ m n e q. ap (byte k) (sym e) ∙ q ∙ ap (byte j) e in
    ext_get_or 0 k j (a.size ∙ sym b.size)
    (λ i h. in-or-out i at
    (λ g. a.before i g ∙ sym (b.before i g))
    (λ g. in-or-out i (at + 13)
    (λ m.
    move (at + (i - at)) i (omega arith)
    (thirteen (λ n. byte k (at + n) ≡ byte j (at + n))
    (move at (at + 0) (omega arith) (a.length_high ∙ sym b.length_high))
    (a.length-low ∙ sym b.length-low)
    (a.kind ∙ sym b.kind)
    (a.caller ∙ sym b.caller)
    (a.object ∙ sym b.object)
    fa.0
    (move (at + 5 + 1) (at + 6) (omega arith) fa.1.0)
    (move (at + 5 + 2) (at + 7) (omega arith) fa.1.1.0)
    (move (at + 5 + 3) (at + 8) (omega arith) fa.1.1.1)
    ft.0
    (move (at + 9 + 1) (at + 10) (omega arith) ft.1.0)
    (move (at + 9 + 2) (at + 11) (omega arith) ft.1.1.0)
    (move (at + 9 + 3) (at + 12) (omega arith) ft.1.1.1)
    (i - at) (omega arith)))
    (λ m. a.behind i m ∙ sym (b.behind i m))))

-- a number written: the bytes before it and behind it are the buffer's
module _ (wide : ℕ) (l : List ℕ) (at : ℕ) (In : List ℕ → Type 0) (k j : List ℕ)
    (same : In k → In j → (i : ℕ) → i < wide → byte k (at + i) ≡ byte j (at + i)) where
  number-only : NumberWritten wide l at In k → NumberWritten wide l at In j → k ≡ j
  number-only (NumberWritten.written r s b n a) (NumberWritten.written r' s' b' n' a') =
      ext_get_or 0 k j (s ∙ sym s')
      (λ i h. in-or-out i at
      (λ g. b i g ∙ sym (b' i g))
      (λ g. in-or-out i (at + wide)
      (λ m.
      let place : at + (i - at) ≡ i = omega arith in
      ap (byte k) (sym place) ∙ same n n' (i - at) (omega arith) ∙ ap (byte j) place)
      (λ m. a i m ∙ sym (a' i m))))
  number-only (NumberWritten.written r s b n a) (NumberWritten.no_room r' e) = absurd (omega arith)
  number-only (NumberWritten.no_room r e) (NumberWritten.written r' s' b' n' a') = absurd (omega arith)
  number-only (NumberWritten.no_room r e) (NumberWritten.no_room r' e') = e ∙ sym e'

at_first : (k j : List ℕ) (at i : ℕ) → i ≡ 0 → byte k at ≡ byte j at → byte k (at + i) ≡ byte j (at + i)
at_first k j at i z e =
    let place : at ≡ at + i = omega arith in
    ap (byte k) (sym place) ∙ e ∙ ap (byte j) place

pub two-write-one : (l : List ℕ) (at n : ℕ) {k j : List ℕ} → NumberWritten 2 l at (λ m. TwoIn m at n) k
    → NumberWritten 2 l at (λ m. TwoIn m at n) j → k ≡ j
two-write-one l at n {k} {j} =
    number-only 2 l at (λ m. TwoIn m at n) k j
    (λ a b i h. same_or i 0
    (λ z. at_first k j at i z (a.first ∙ sym b.first))
    (λ z. let one : i ≡ 1 = omega arith in rw one (a.last ∙ sym b.last)))

pub four-write-one : (l : List ℕ) (at n : ℕ) {k j : List ℕ} → NumberWritten 4 l at (λ m. FourIn m at n) k
    → NumberWritten 4 l at (λ m. FourIn m at n) j → k ≡ j
four-write-one l at n {k} {j} =
    number-only 4 l at (λ m. FourIn m at n) k j
    (λ a b i h. same_or i 0
    (λ z. at_first k j at i z (a.first ∙ sym b.first))
    (λ z. same_or i 1
    (λ y. rw y (a.second ∙ sym b.second))
    (λ y. same_or i 2
    (λ x. rw x (a.third ∙ sym b.third))
    (λ x. let three : i ≡ 3 = omega arith in rw three (a.last ∙ sym b.last)))))

module _ (Unfit : ℕ → Type 0) where
  pub least-one : (m n : ℕ) → LeastOf Unfit m → LeastOf Unfit n → m ≡ n
  least-one m n a b =
      in-or-out m n
      (λ l. absurd (b.none_before m l a.unfit))
      (λ h. in-or-out n m (λ l. absurd (a.none_before n l b.unfit)) (λ g. omega arith))

-- a refusal says its number and nothing else
refusal-one : {v w : Written} {m n : ℕ} → m ≡ n → written_said v ≡ record { code = m; gives = 0; values = [] }
    → written_said w ≡ record { code = n; gives = 0; values = [] } → v ≡ w
refusal-one {v} {w} e a b = written_one v w (a ∙ ap (λ (c : ℕ). record { code = c; gives = 0; values = [] }) e ∙ sym b)

pub step-write-one : {x : Step} {at : ℕ} {l : List ℕ} {v w : Written} {k j : List ℕ} → WriteOfStep x at l v k → WriteOfStep x at l w j
    → (v ≡ w) × (k ≡ j)
step-write-one {at = at} {l = l} (WriteOfStep.refused m f e c) (WriteOfStep.refused n g d b) =
    (refusal-one (least-one (StepUnfit at l) m n f g) e d, c ∙ sym b)
step-write-one (WriteOfStep.refused m f e c) (WriteOfStep.written g d b) = absurd (g m f.unfit)
step-write-one (WriteOfStep.written f e c) (WriteOfStep.refused n g d b) = absurd (f n g.unfit)
step-write-one {v = v} {w = w} (WriteOfStep.written f e c) (WriteOfStep.written g d b) = (written_one v w (e ∙ sym d), record-only c b)

pub sizes-write-one : {z : Sizes} {l : List ℕ} {v w : Written} {k j : List ℕ} → WriteOfSizes z l v k → WriteOfSizes z l w j
    → (v ≡ w) × (k ≡ j)
sizes-write-one {z} {l} (WriteOfSizes.refused m f e c) (WriteOfSizes.refused n g d b) =
    (refusal-one (least-one (SizesUnfit z l) m n f g) e d, c ∙ sym b)
sizes-write-one (WriteOfSizes.refused m f e c) (WriteOfSizes.written g d b) = absurd (g m f.unfit)
sizes-write-one (WriteOfSizes.written f e c) (WriteOfSizes.refused n g d b) = absurd (f n g.unfit)
sizes-write-one {v = v} {w = w} (WriteOfSizes.written f e c) (WriteOfSizes.written g d b) = (written_one v w (e ∙ sym d), head-only c b)

-- ---- where nothing is refused, the record stands

pub record-stands : {x : Step} {at : ℕ} {l : List ℕ} {w : Written} {k : List ℕ} → WriteOfStep x at l w k → (written_said w).code ≡ 0
    → RecordIn x at l k
record-stands (WriteOfStep.refused n f e c) z = absurd (some f.unfit (sym (ap (λ (s : Said). s.code) e) ∙ z))
  where
    some : {at n : ℕ} {l : List ℕ} → StepUnfit at l n → n ≢ 0
    some (StepUnfit.long a) q = omega arith
    some (StepUnfit.short a) q = omega arith
record-stands (WriteOfStep.written f e c) z = c

pub head-stands : {z : Sizes} {l : List ℕ} {w : Written} {k : List ℕ} → WriteOfSizes z l w k → (written_said w).code ≡ 0 → HeadIn z l k
head-stands (WriteOfSizes.refused n f e c) z = absurd (some f.unfit (sym (ap (λ (s : Said). s.code) e) ∙ z))
  where
    some : {y : Sizes} {n : ℕ} {l : List ℕ} → SizesUnfit y l n → n ≢ 0
    some (SizesUnfit.size a) q = omega arith
    some (SizesUnfit.long a) q = omega arith
    some (SizesUnfit.short a) q = omega arith
head-stands (WriteOfSizes.written f e c) z = c
