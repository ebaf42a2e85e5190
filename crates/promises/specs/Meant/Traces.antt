-- A code whose calls are the paper's, each taken by itself, writes and reads traces back: a record that was written stays as it is while those
-- behind it are written, so each is read where it ended; and what was read of a place are the bytes that are written there again.
use Rattle.std.specs.Prelude.{ℕ, zero, suc, ◌+◌, ◌-◌, ◌*◌, ◌/◌, ◌%◌, ◌≤◌, ◌<◌, ◌≡◌, refl, List, [], ◌∷◌, ◌++◌, length, get_or, take, drop}
use Rattle.std.proofs.Common.{arith, sym, ap, ◌∙◌, subst, length-append, length-drop, length-take-le, get_or-take, get_or-drop, get_or-append-add, lt-ltb}
use Rattle.std.proofs.Math.ListN.{get_or-append}
use Rattle.std.proofs.Math.Seq.{take-append_seam, take-length}
use Rattle.kernel.proofs.Cases.{split, same_or, in-or-out}
use Rattle.library.specs.declared.calls.Step.{Step}
use Rattle.library.specs.declared.sizes.Sizes.{Sizes}
use Rattle.library.specs.Sizes.{sizes_fit}
use Rattle.trace.specs.Told.{Found, Read, Written}
use Rattle.promises.specs.Paper.Together.{SizesFit}
use Rattle.promises.specs.Paper.Fresh.{nothing}
use Rattle.promises.specs.Paper.Answers.{Said, found_said}
use Rattle.promises.specs.Paper.Reader.{byte, two, four, sizes_in, HeadBroken, RecordBroken, Gives, HeadRead, LaterRead, ReadOf}
use Rattle.promises.specs.Paper.Writer.{HeadIn, FourIn, RecordIn, SizesUnfit, StepUnfit, WriteOfSizes, WriteOfStep, written_said}
use Rattle.promises.specs.Paper.Traces.{
  TraceCode,
  TraceCodeOf,
  StepsWritten,
  TraceWritten,
  StepsRead,
  TraceRead,
  AnySteps,
  trace_length,
  sizes_held,
  RoundTrip,
}
use Rattle.promises.specs.Meant.Sizes.{fit-limits, out-of-limits}
use Rattle.promises.specs.Meant.Said.{found-one}
use Rattle.promises.specs.Meant.Writer.{step-write-one, sizes-write-one}
use Rattle.promises.specs.Meant.Encoding.{step-read-back, sizes-read-back}

-- ---- what is said of an answer

abbrev placed : ℕ → Said
placed n = record { code = 0; gives = 3; values = n ∷ [] }

abbrev step_read : Step → Said
step_read x = record { code = 0; gives = 2; values = x.kind ∷ x.caller ∷ x.object ∷ x.a ∷ x.timeout ∷ [] }

abbrev sizes_read : Said
sizes_read = record { code = 0; gives = 1; values = [] }

abbrev end_read : Said
end_read = record { code = 0; gives = 0; values = [] }

-- what is given tells answers apart
apart : (a b : Said) {C : Type 0} → a ≡ b → (a.gives ≡ b.gives → ⊥) → C
apart a b e n = absurd (n (ap (λ (s : Said). s.gives) e))

same_place : {m n : ℕ} → placed m ≡ placed n → m ≡ n
same_place e = ap (λ (s : Said). get_or s.values 0 0) e

same_step : {x y : Step} → step_read x ≡ step_read y → x ≡ y
same_step {x} {y} e = let f = found-one (Found.Stepped x) (Found.Stepped y) e in cc

-- sizes that cannot be out of their limits are in them
within-limits : (z : Sizes) → ((SizesFit z → ⊥) → ⊥) → SizesFit z
within-limits z n = split (sizes_fit z) (fit-limits z) (λ f. absurd (n (out-of-limits z f)))

-- ---- one call of a code that is the paper's

-- what an accepted step leaves
record StepDone (x : Step) (at next : ℕ) (l k : List ℕ) : Type 0 where
  place : next ≡ at + 13
  short : at + 13 ≤ 60000
  room : at + 13 ≤ length l
  stands : RecordIn x at l k

step-done : {x : Step} {at next : ℕ} {l k : List ℕ} {w : Written} → WriteOfStep x at l w k → written_said w ≡ placed next → StepDone x at next l k
step-done {at = at} {next = next} {l = l} (WriteOfStep.refused n f e c) d =
    apart (record { code = n; gives = 0; values = [] }) (placed next) (sym e ∙ d) (λ z. omega arith)
step-done {at = at} {l = l} (WriteOfStep.written u e r) d =
    record {
      place = same_place (sym d ∙ e);
      short = in-or-out 60000 (at + 13) (λ h. absurd (u 15 (StepUnfit.long h))) (λ h. h);
      room = in-or-out (length l) (at + 13) (λ h. absurd (u 16 (StepUnfit.short h))) (λ h. h);
      stands = r;
    }

-- and accepted sizes
record SizesDone (z : Sizes) (at : ℕ) (l k : List ℕ) : Type 0 where
  place : at ≡ 9 + z.mailboxes
  limits : SizesFit z
  room : 9 + z.mailboxes ≤ length l
  stands : HeadIn z l k

sizes-done : {z : Sizes} {at : ℕ} {l k : List ℕ} {w : Written} → WriteOfSizes z l w k → written_said w ≡ placed at → SizesDone z at l k
sizes-done {at = at} (WriteOfSizes.refused n f e c) d =
    apart (record { code = n; gives = 0; values = [] }) (placed at) (sym e ∙ d) (λ z. omega arith)
sizes-done {z = z} {l = l} (WriteOfSizes.written u e r) d =
    record {
      place = same_place (sym d ∙ e);
      limits = within-limits z (λ n. u 14 (SizesUnfit.size n));
      room = in-or-out (length l) (9 + z.mailboxes) (λ h. absurd (u 16 (SizesUnfit.short h))) (λ h. h);
      stands = r;
    }

-- where there is room, none is refused
step_fits : {at : ℕ} {l : List ℕ} → at + 13 ≤ 60000 → at + 13 ≤ length l → (n : ℕ) → StepUnfit at l n → ⊥
step_fits g h n (StepUnfit.long a) = omega arith
step_fits g h n (StepUnfit.short a) = omega arith

sizes-fit : {z : Sizes} {l : List ℕ} → SizesFit z → 9 + z.mailboxes ≤ length l → (n : ℕ) → SizesUnfit z l n → ⊥
sizes-fit g h n (SizesUnfit.size a) = a g
sizes-fit g h n (SizesUnfit.long a) = omega (arith, g.mailboxes)
sizes-fit g h n (SizesUnfit.short a) = omega arith

-- and the record stands
step-taken : {x : Step} {at : ℕ} {l k : List ℕ} {w : Written} → WriteOfStep x at l w k → at + 13 ≤ 60000 → at + 13 ≤ length l
    → (written_said w ≡ placed (at + 13)) × RecordIn x at l k
step-taken (WriteOfStep.refused n u e c) h g = absurd (step_fits h g n u.unfit)
step-taken (WriteOfStep.written u e r) h g = (e, r)

sizes-taken : {z : Sizes} {l k : List ℕ} {w : Written} → WriteOfSizes z l w k → SizesFit z → 9 + z.mailboxes ≤ length l
    → (written_said w ≡ placed (9 + z.mailboxes)) × HeadIn z l k
sizes-taken (WriteOfSizes.refused n u e c) h g = absurd (sizes-fit h g n u.unfit)
sizes-taken (WriteOfSizes.written u e r) h g = (e, r)

-- ---- a record, read in other bytes that agree with it

record-moved : {x : Step} {at : ℕ} {l k : List ℕ} (s : List ℕ) → RecordIn x at l k → ((i : ℕ) → i < at + 13 → byte s i ≡ byte k i)
    → RecordIn x at s s
record-moved {x} {at} {l} {k} s r same =
    record {
      size = refl;
      before = λ i h. refl;
      length_high = same at (omega arith) ∙ r.length_high;
      length-low = same (at + 1) (omega arith) ∙ r.length-low;
      kind = same (at + 2) (omega arith) ∙ r.kind;
      caller = same (at + 3) (omega arith) ∙ r.caller;
      object = same (at + 4) (omega arith) ∙ r.object;
      a = number (at + 5) (omega arith) r.a;
      timeout = number (at + 9) (omega arith) r.timeout;
      behind = λ i h. refl;
    }
  where
    number : (p : ℕ) {n : ℕ} → p + 4 ≤ at + 13 → FourIn k p n → FourIn s p n
    number p h f =
        record {
          first = same p (omega arith) ∙ f.first;
          second = same (p + 1) (omega arith) ∙ f.second;
          third = same (p + 2) (omega arith) ∙ f.third;
          last = same (p + 3) (omega arith) ∙ f.last;
        }

head-moved : {z : Sizes} {l k : List ℕ} (s : List ℕ) → HeadIn z l k → ((i : ℕ) → i < 9 + z.mailboxes → byte s i ≡ byte k i) → HeadIn z s s
head-moved {z} s w same =
    record {
      size = refl;
      version = same 0 (omega arith) ∙ w.version;
      length_high = same 1 (omega arith) ∙ w.length_high;
      length-low = same 2 (omega arith) ∙ w.length-low;
      threads = same 3 (omega arith) ∙ w.threads;
      semaphores = same 4 (omega arith) ∙ w.semaphores;
      queues = same 5 (omega arith) ∙ w.queues;
      references = same 6 (omega arith) ∙ w.references;
      mailboxes = same 7 (omega arith) ∙ w.mailboxes;
      pools = same 8 (omega arith) ∙ w.pools;
      slots = λ m h. same (9 + m) (omega arith) ∙ w.slots m h;
      behind = λ i h. refl;
    }

-- ---- what is written is read back

-- where a chain of writes ends, and what it leaves of the bytes before its beginning
record Ran (xs : List Step) (at : ℕ) (l : List ℕ) (end : ℕ) (k : List ℕ) : Type 0 where
  place : end ≡ at + 13 * length xs
  size : length k ≡ length l
  before : (i : ℕ) → i < at → byte k i ≡ byte l i
  short : at ≤ 60000 → end ≤ 60000
  room : at ≤ length l → end ≤ length l

module _ (f : TraceCode) (told : TraceCodeOf f) where
  ran : {xs : List Step} {at end : ℕ} {l k : List ℕ} → StepsWritten f xs at l end k → Ran xs at l end k
  ran StepsWritten.none = record { place = omega arith; size = refl; before = λ i h. refl; short = λ h. h; room = λ h. h }
  ran (StepsWritten.more {x} {xs} {at} {next} {end} {l} {k} e c) =
      let d : StepDone x at next l (f.step_buffer x at l) = step-done (told.steps x at l) e in
      let r : Ran xs next (f.step_buffer x at l) end k = ran c in
      let size : length (f.step_buffer x at l) ≡ length l = d.stands.size in
      record {
        place = omega (arith, d.place, r.place);
        size = r.size ∙ size;
        before = λ i h. r.before i (omega (arith, d.place)) ∙ d.stands.before i h;
        short = λ h. r.short (omega (arith, d.place, d.short));
        room = λ h. omega (arith, size, r.room (omega (arith, size, d.place, d.room)));
      }

  -- bytes s that agree with what a chain left, up to where it ended, are read as its steps
  read-on : {xs : List Step} {at end : ℕ} {l k : List ℕ} (s : List ℕ) → StepsWritten f xs at l end k → AnySteps xs → 0 < at
      → length s ≡ end → ((i : ℕ) → i < end → byte s i ≡ byte k i) → StepsRead f s at xs
  read-on {at = at} s StepsWritten.none a h n same = StepsRead.ended (over (told.reads s at))
    where
      over : ReadOf s at (f.read s at) → found_said (f.read s at).found ≡ end_read
      over (ReadOf.head z b) = absurd (omega arith)
      over (ReadOf.later z (LaterRead.ended e g)) = g.found
      over (ReadOf.later z (LaterRead.refused e m b c d g)) = absurd (e (sym n))
      over (ReadOf.later z (LaterRead.stepped e b g)) = absurd (e (sym n))
  read-on s (StepsWritten.more {x} {xs} {at} {next} {end} {l} {k} e c) (AnySteps.more a more-any) h n same =
      let d : StepDone x at next l (f.step_buffer x at l) = step-done (told.steps x at l) e in
      let r : Ran xs next (f.step_buffer x at l) end k = ran c in
      let whole : at + 13 ≤ end = omega (arith, d.place, r.place) in
      let here : RecordIn x at s s =
      record-moved s d.stands (λ i q. same i (omega (arith, whole)) ∙ r.before i (omega (arith, d.place))) in
      let g : Gives (f.read s at) (step_read x) nothing (at + 13) =
      step-read-back x at s s a h (omega (arith, whole, n)) here (f.read s at) (told.reads s at) in
      StepsRead.more g.found
      (subst (λ (p : ℕ). StepsRead f s p xs) (d.place ∙ sym g.place) (read-on s c more-any (omega (arith, d.place)) n same))

  -- a whole trace
  trip-back : (z : Sizes) (xs : List Step) (l k : List ℕ) (end : ℕ) → AnySteps xs → TraceWritten f z xs l end k
      → TraceRead f (take end k) (sizes_held z) xs
  trip-back z xs l k end any (TraceWritten.written at e c) =
      let d : SizesDone z at l (f.sizes_buffer z l) = sizes-done (told.sizes z l) e in
      let r : Ran xs at (f.sizes_buffer z l) end k = ran c in
      let s : List ℕ = take end k in
      let size : length (f.sizes_buffer z l) ≡ length l = d.stands.size in
      let few : z.mailboxes ≤ 4 = d.limits.mailboxes in
      let end-in : end ≤ length l = rw size at (r.room (omega (arith, size, d.place, d.room))) in
      let long : length s ≡ end = length-take-le end k (omega (arith, r.size, size, end-in)) in
      let head : HeadIn z s s =
      head-moved s d.stands (λ i h. get_or-take end k i 0 (omega (arith, d.place, r.place)) ∙ r.before i (omega (arith, d.place))) in
      let q = sizes-read-back z s s d.limits (omega (arith, long, d.place, r.place))
      (omega (arith, long, r.short (omega (arith, d.place, few)))) head (f.read s 0) (told.reads s 0) in
      TraceRead.read q.0 q.1.0
      (subst (λ (p : ℕ). StepsRead f s p xs) (d.place ∙ sym q.1.1)
      (read-on s c any (omega (arith, d.place)) long (λ i h. get_or-take end k i 0 h)))

  -- ---- what may be written is written

  steps-write : (xs : List Step) (at : ℕ) (l : List ℕ) → at + 13 * length xs ≤ 60000 → at + 13 * length xs ≤ length l
      → (k : List ℕ) × StepsWritten f xs at l (at + 13 * length xs) k
  steps-write [] at l h g = (l, subst (λ (p : ℕ). StepsWritten f [] at l p l) (omega arith) StepsWritten.none)
  steps-write (x ∷ xs) at l h g =
      let d = step-taken (told.steps x at l) (omega arith) (omega arith) in
      let rest = steps-write xs (at + 13) (f.step_buffer x at l) (omega arith) (omega (arith, d.1.size)) in
      let same : at + 13 + 13 * length xs ≡ at + 13 * length (x ∷ xs) = omega arith in
      (rest.0, StepsWritten.more d.0 (subst (λ (p : ℕ). StepsWritten f xs (at + 13) (f.step_buffer x at l) p rest.0) same rest.1))

  trip-writes : (z : Sizes) (xs : List Step) (l : List ℕ) → SizesFit z → trace_length z xs ≤ 60000 → trace_length z xs ≤ length l
      → (k : List ℕ) × TraceWritten f z xs l (trace_length z xs) k
  trip-writes z xs l fit h g =
      let d = sizes-taken (told.sizes z l) fit (omega arith) in
      let rest = steps-write xs (9 + z.mailboxes) (f.sizes_buffer z l) (omega arith) (omega (arith, d.1.size)) in
      (rest.0, TraceWritten.written (9 + z.mailboxes) d.0 rest.1)

-- ---- chains by one code come to one end

module _ {f : TraceCode} where
  steps-one : {xs : List Step} {at m n : ℕ} {l j k : List ℕ} → StepsWritten f xs at l m j → StepsWritten f xs at l n k → (m ≡ n) × (j ≡ k)
  steps-one StepsWritten.none StepsWritten.none = (refl, refl)
  steps-one {m = m} {j = j} (StepsWritten.more {x} {xs} {at} {next} {l = l} e c) (StepsWritten.more d b) =
      steps-one (subst (λ (p : ℕ). StepsWritten f xs p (f.step_buffer x at l) m j) (same_place (sym e ∙ d)) c) b

  written-only : {z : Sizes} {xs : List Step} {m n : ℕ} {l j k : List ℕ} → TraceWritten f z xs l m j → TraceWritten f z xs l n k
      → (m ≡ n) × (j ≡ k)
  written-only {z} {xs} {m} {n} {l} {j} {k} (TraceWritten.written at e c) (TraceWritten.written to d b) =
      steps-one (subst (λ (p : ℕ). StepsWritten f xs p (f.sizes_buffer z l) m j) (same_place (sym e ∙ d)) c) b

  steps-read-one : {s : List ℕ} {at : ℕ} {xs ys : List Step} → StepsRead f s at xs → StepsRead f s at ys → xs ≡ ys
  steps-read-one (StepsRead.ended e) (StepsRead.ended d) = refl
  steps-read-one (StepsRead.ended e) (StepsRead.more {x = y} d b) =
      apart end_read (step_read y) (sym e ∙ d) (λ z. omega arith)
  steps-read-one (StepsRead.more {x = x} e c) (StepsRead.ended d) =
      apart (step_read x) end_read (sym e ∙ d) (λ z. omega arith)
  steps-read-one (StepsRead.more {x = x} {xs = xs} e c) (StepsRead.more {x = y} {xs = ys} d b) =
      let first : x ≡ y = same_step (sym e ∙ d) in
      let rest : xs ≡ ys = steps-read-one c b in
      rw (first, rest)

  read_only : {s : List ℕ} {z y : Sizes} {xs ys : List Step} → TraceRead f s z xs → TraceRead f s y ys → (z ≡ y) × (xs ≡ ys)
  read_only (TraceRead.read e g c) (TraceRead.read d h b) = (sym g ∙ h, steps-read-one c b)

-- ---- what is read stands in the bytes

-- the step whose record stands at a place
abbrev step_at : List ℕ → ℕ → Step
step_at s at = record { kind = byte s (at + 2); caller = byte s (at + 3); object = byte s (at + 4); a = four s (at + 5); timeout = four s (at + 9) }

-- a step, read behind record 0
record Stood (s : List ℕ) (at : ℕ) (x : Step) (next : ℕ) : Type 0 where
  place : next ≡ at + 13
  right : two s at ≡ 11
  within : at + 13 ≤ length s
  is : step_at s at ≡ x

stood : {s : List ℕ} {at : ℕ} {r : Read} {x : Step} → ReadOf s at r → 0 < at → found_said r.found ≡ step_read x → Stood s at x r.next
stood (ReadOf.head z b) h e = absurd (omega arith)
stood {x = x} (ReadOf.later z (LaterRead.ended n g)) h e =
    apart end_read (step_read x) (sym g.found ∙ e) (λ q. omega arith)
stood {x = x} (ReadOf.later z (LaterRead.refused n m c d b g)) h e =
    apart (record { code = m; gives = 0; values = c ∷ [] }) (step_read x) (sym g.found ∙ e) (λ q. omega arith)
stood {s} {at} {r} {x} (ReadOf.later z (LaterRead.stepped n b g)) h e =
    let right : two s at ≡ 11 = same_or (two s at) 11 (λ q. q) (λ q. absurd (b 13 (RecordBroken.wrong-length q))) in
    let whole : at + 2 + two s at ≤ length s =
    in-or-out (length s) (at + 2 + two s at) (λ q. absurd (b 12 (RecordBroken.in-body q))) (λ q. q) in
    record {
      place = g.place;
      right = right;
      within = omega (arith, right, whole);
      is = same_step (sym g.found ∙ e);
    }

-- the end, read behind record 0
stood-end : {s : List ℕ} {at : ℕ} {r : Read} → ReadOf s at r → 0 < at → found_said r.found ≡ end_read
    → at ≡ length s
stood-end (ReadOf.head z b) h e = absurd (omega arith)
stood-end (ReadOf.later z (LaterRead.ended n g)) h e = n
stood-end (ReadOf.later z (LaterRead.refused n m c d b g)) h e = absurd (omega (arith, ap (λ (q : Said). length q.values) (sym g.found ∙ e)))
stood-end {s} {at} (ReadOf.later z (LaterRead.stepped n b g)) h e =
    apart (step_read (step_at s at))
    end_read (sym g.found ∙ e) (λ q. omega arith)

-- record 0
record Begun (s : List ℕ) (z : Sizes) (next : ℕ) : Type 0 where
  place : next ≡ 9 + byte s 7
  is : z ≡ sizes_in s
  limits : SizesFit (sizes_in s)
  version : byte s 0 ≡ 1
  right : two s 1 ≡ 6 + byte s 7
  within : 9 + byte s 7 ≤ length s
  short : length s ≤ 60000

begun : {s : List ℕ} {r : Read} → ReadOf s 0 r → found_said r.found ≡ sizes_read → Begun s r.sizes r.next
begun (ReadOf.later z b) e = absurd (z refl)
begun (ReadOf.head z (HeadRead.refused n b g)) e =
    apart (record { code = n; gives = 0; values = 0 ∷ [] }) sizes_read (sym g.found ∙ e) (λ q. omega arith)
begun {s} (ReadOf.head z (HeadRead.opened b g)) e =
    let right : two s 1 ≡ 6 + byte s 7 = same_or (two s 1) (6 + byte s 7) (λ q. q) (λ q. absurd (b 13 (HeadBroken.wrong-length q))) in
    let whole : 3 + two s 1 ≤ length s = in-or-out (length s) (3 + two s 1) (λ q. absurd (b 12 (HeadBroken.in-body q))) (λ q. q) in
    record {
      place = g.place;
      is = g.sized;
      limits = within-limits (sizes_in s) (λ n. b 14 (HeadBroken.size n));
      version = same_or (byte s 0) 1 (λ q. q) (λ q. absurd (b 11 (HeadBroken.version q)));
      right = right;
      within = omega (arith, right, whole);
      short = in-or-out 60000 (length s) (λ q. absurd (b 15 (HeadBroken.long q))) (λ q. q);
    }

-- ---- and is written again

-- four bytes of a number that was made of them
four-again : (k s : List ℕ) (p : ℕ) → ((i : ℕ) → byte s i < 256) → ((i : ℕ) → i < p + 4 → byte k i ≡ byte s i) → FourIn k p (four s p)
four-again k s p small same =
    let a : byte s p < 256 = small p in
    let b : byte s (p + 1) < 256 = small (p + 1) in
    let c : byte s (p + 2) < 256 = small (p + 2) in
    let d : byte s (p + 3) < 256 = small (p + 3) in
    record {
      first = same p (omega arith) ∙ parts_first (byte s p) (byte s (p + 1)) (byte s (p + 2)) (byte s (p + 3)) a b c d;
      second = same (p + 1) (omega arith) ∙ parts-second (byte s p) (byte s (p + 1)) (byte s (p + 2)) (byte s (p + 3)) a b c d;
      third = same (p + 2) (omega arith) ∙ parts-third (byte s p) (byte s (p + 1)) (byte s (p + 2)) (byte s (p + 3)) a b c d;
      last = same (p + 3) (omega arith) ∙ parts_last (byte s p) (byte s (p + 1)) (byte s (p + 2)) (byte s (p + 3)) a b c d;
    }
  where
    parts_first : (a b c d : ℕ) → a < 256 → b < 256 → c < 256 → d < 256 → a ≡ (a * 16777216 + b * 65536 + c * 256 + d) / 16777216 % 256
    parts_first a b c d h i j k = omega arith

    parts-second : (a b c d : ℕ) → a < 256 → b < 256 → c < 256 → d < 256 → b ≡ (a * 16777216 + b * 65536 + c * 256 + d) / 65536 % 256
    parts-second a b c d h i j k = omega arith

    parts-third : (a b c d : ℕ) → a < 256 → b < 256 → c < 256 → d < 256 → c ≡ (a * 16777216 + b * 65536 + c * 256 + d) / 256 % 256
    parts-third a b c d h i j k = omega arith

    parts_last : (a b c d : ℕ) → a < 256 → b < 256 → c < 256 → d < 256 → d ≡ (a * 16777216 + b * 65536 + c * 256 + d) % 256
    parts_last a b c d h i j k = omega arith

module _ (s l : List ℕ) (small : (i : ℕ) → byte s i < 256) (long : length s ≤ length l) where
  -- the buffer when the first n bytes of s are in it
  abbrev up_to : ℕ → List ℕ
  up_to n = take n s ++ drop n l

  upto-front : (n i : ℕ) → n ≤ length s → i < n → byte (up_to n) i ≡ byte s i
  upto-front n i h g = get_or-append (take n s) (drop n l) 0 i (omega (arith, length-take-le n s h)) ∙ get_or-take n s i 0 g

  upto-behind : (n i : ℕ) → n ≤ length s → n ≤ i → byte (up_to n) i ≡ byte l i
  upto-behind n i h g =
      let front : length (take n s) ≡ n = length-take-le n s h in
      let there : i ≡ length (take n s) + (i - n) = omega (arith, front) in
      let back : n + (i - n) ≡ i = omega arith in
      ap (λ (j : ℕ). byte (up_to n) j) there
      ∙ get_or-append-add (take n s) (drop n l) (i - n) 0
      ∙ get_or-drop n l (i - n) 0
      ∙ ap (λ (j : ℕ). byte l j) back

  upto-size : (n : ℕ) → n ≤ length s → length (up_to n) ≡ length l
  upto-size n h = omega (arith, length-append (take n s) (drop n l), length-take-le n s h, length-drop n l)

  -- a step's record, read in s, is what is written at its place
  step-again : {x : Step} {at next : ℕ} → Stood s at x next → RecordIn x at (up_to at) (up_to (at + 13))
  step-again {x} {at} {next} t =
      subst (λ (y : Step). RecordIn y at (up_to at) (up_to (at + 13))) t.is
      (record {
        size = upto-size (at + 13) t.within ∙ sym (upto-size at less);
        before = λ i h. here i (omega arith) ∙ sym (upto-front at i less h);
        length_high = here at (omega arith) ∙ omega (arith, t.right);
        length-low = here (at + 1) (omega arith) ∙ omega (arith, t.right);
        kind = here (at + 2) (omega arith);
        caller = here (at + 3) (omega arith);
        object = here (at + 4) (omega arith);
        a = four-again (up_to (at + 13)) s (at + 5) small (λ i h. here i (omega arith));
        timeout = four-again (up_to (at + 13)) s (at + 9) small (λ i h. here i (omega arith));
        behind = λ i h. upto-behind (at + 13) i t.within h ∙ sym (upto-behind at i less (omega arith));
      })
    where
      less : at ≤ length s
      less = omega (arith, t.within)

      here : (i : ℕ) → i < at + 13 → byte (up_to (at + 13)) i ≡ byte s i
      here i h = upto-front (at + 13) i t.within h

  -- and so is record 0
  head-again : {z : Sizes} {next : ℕ} → Begun s z next → HeadIn z (up_to 0) (up_to (9 + byte s 7))
  head-again {z} {next} t =
      subst (λ (y : Sizes). HeadIn y (up_to 0) (up_to (9 + byte s 7))) (sym t.is)
      (record {
        size = upto-size (9 + byte s 7) t.within ∙ sym (upto-size 0 (omega arith));
        version = here 0 (omega arith) ∙ t.version;
        length_high = here 1 (omega arith) ∙ omega (arith, t.right, few);
        length-low = here 2 (omega arith) ∙ omega (arith, t.right, few);
        threads = here 3 (omega arith);
        semaphores = here 4 (omega arith);
        queues = here 5 (omega arith);
        references = here 6 (omega arith);
        mailboxes = here 7 (omega arith);
        pools = here 8 (omega arith);
        slots = λ m h. here (9 + m) (omega arith) ∙ sym (slot m h);
        behind = λ i h. upto-behind (9 + byte s 7) i t.within h ∙ sym (upto-behind 0 i (omega arith) (omega arith));
      })
    where
      few : byte s 7 ≤ 4
      few = t.limits.mailboxes

      here : (i : ℕ) → i < 9 + byte s 7 → byte (up_to (9 + byte s 7)) i ≡ byte s i
      here i h = upto-front (9 + byte s 7) i t.within h

      slot : (m : ℕ) → m < byte s 7 → get_or (sizes_in s).slots m 0 ≡ byte s (9 + m)
      slot zero h = rw (lt-ltb 0 (byte s 7) h)
      slot (suc zero) h = rw (lt-ltb 1 (byte s 7) h)
      slot (suc (suc zero)) h = rw (lt-ltb 2 (byte s 7) h)
      slot (suc (suc (suc zero))) h = rw (lt-ltb 3 (byte s 7) h)
      slot (suc (suc (suc (suc m)))) h = absurd (omega (arith, few))

  module _ (f : TraceCode) (told : TraceCodeOf f) where
    steps-again : {xs : List Step} {at : ℕ} → StepsRead f s at xs → 0 < at → at ≤ length s → length s ≤ 60000
        → StepsWritten f xs at (up_to at) (length s) (up_to (length s))
    steps-again {at = at} (StepsRead.ended e) h g short =
        subst (λ (n : ℕ). StepsWritten f [] at (up_to at) n (up_to n)) (stood-end (told.reads s at) h e) StepsWritten.none
    steps-again {at = at} (StepsRead.more {x = x} {xs = xs} e c) h g short =
        let t : Stood s at x (f.read s at).next = stood (told.reads s at) h e in
        let size : length (up_to at) ≡ length l = upto-size at g in
        let mine : WriteOfStep x at (up_to at) (Written.Upto (at + 13)) (up_to (at + 13)) =
        WriteOfStep.written (step_fits (omega (arith, t.within)) (omega (arith, size, t.within))) refl (step-again t) in
        let done = step-write-one (told.steps x at (up_to at)) mine in
        let rest = steps-again c (omega (arith, t.place)) (omega (arith, t.place, t.within)) short in
        StepsWritten.more (ap written_said done.0 ∙ ap placed (sym t.place))
        (subst (λ (k : List ℕ). StepsWritten f xs (f.read s at).next k (length s) (up_to (length s)))
        (ap up_to t.place ∙ sym done.1) rest)

    trip-again : {z : Sizes} {xs : List Step} → TraceRead f s z xs → TraceWritten f z xs l (length s) (s ++ drop (length s) l)
    trip-again {z} {xs} (TraceRead.read e is c) =
        let t : Begun s z (f.read s 0).next = subst (λ (y : Sizes). Begun s y (f.read s 0).next) is (begun (told.reads s 0) e) in
        let boxes : z.mailboxes ≡ byte s 7 = ap (λ (y : Sizes). y.mailboxes) t.is in
        let fit : SizesFit z = subst SizesFit (sym t.is) t.limits in
        let place : (f.read s 0).next ≡ 9 + z.mailboxes = t.place ∙ ap (λ (m : ℕ). 9 + m) (sym boxes) in
        let mine : WriteOfSizes z l (Written.Upto (9 + z.mailboxes)) (up_to (9 + byte s 7)) =
        WriteOfSizes.written (sizes-fit fit (omega (arith, boxes, t.within))) refl (head-again t) in
        let done = sizes-write-one (told.sizes z l) mine in
        let rest = steps-again c (omega (arith, t.place)) (omega (arith, t.place, t.within)) t.short in
        let all : up_to (length s) ≡ s ++ drop (length s) l = ap (λ (k : List ℕ). k ++ drop (length s) l) (take-length s) in
        TraceWritten.written (f.read s 0).next (ap written_said done.0 ∙ ap placed (sym place))
        (subst (λ (k : List ℕ). StepsWritten f xs (f.read s 0).next (f.sizes_buffer z l) (length s) k) all
        (subst (λ (k : List ℕ). StepsWritten f xs (f.read s 0).next k (length s) (up_to (length s)))
        (ap up_to t.place ∙ sym done.1) rest))

-- ---- all of it

-- so many bytes were read
module _ (f : TraceCode) (told : TraceCodeOf f) where
  steps-length : {s : List ℕ} {xs : List Step} {at : ℕ} → StepsRead f s at xs → 0 < at → length s ≡ at + 13 * length xs
  steps-length {s} {at = at} (StepsRead.ended e) h = omega (arith, stood-end (told.reads s at) h e)
  steps-length {s} {at = at} (StepsRead.more {x = x} e c) h =
      let t : Stood s at x (f.read s at).next = stood (told.reads s at) h e in
      omega (arith, t.place, steps-length c (omega (arith, t.place)))

  -- so there is room for them where they were written
  room-again : {s l k : List ℕ} {z : Sizes} {xs : List Step} {end : ℕ} → TraceRead f s z xs → TraceWritten f z xs l end k → length s ≤ length l
  room-again {s} {l} {k} {z} {xs} {end} (TraceRead.read e is c) (TraceWritten.written at d b) =
      let t : Begun s (f.read s 0).sizes (f.read s 0).next = begun (told.reads s 0) e in
      let boxes : z.mailboxes ≡ byte s 7 = ap (λ (y : Sizes). y.mailboxes) (sym is ∙ t.is) in
      let w : SizesDone z at l (f.sizes_buffer z l) = sizes-done (told.sizes z l) d in
      let r : Ran xs at (f.sizes_buffer z l) end k = ran f told b in
      let size : length (f.sizes_buffer z l) ≡ length l = w.stands.size in
      omega
      (arith, boxes, size, w.place, r.place, r.room (omega (arith, size, w.place, w.room)), t.place, steps-length c (omega (arith, t.place)))

  pub round_trip : RoundTrip f
  round_trip =
      record {
        writes = trip-writes f told;
        back = trip-back f told;
        back-only = λ z y xs ys l k end any w r. read_only r (trip-back f told z xs l k end any w);
        again = λ s z xs l small r long. trip-again s l small long f told r;
        again-only = λ s z xs l k end small r w.
            let one = written-only w (trip-again s l small (room-again r w) f told r) in
            ap (λ (n : ℕ). take n k) one.0 ∙ ap (take (length s)) one.1 ∙ take-append_seam s (drop (length s) l);
      }
