-- What the code reads at a place is what the paper tells of it, for any bytes, and the paper leaves no choice: the tests of the code, in
-- their order, are the rules in theirs.
use Rattle.std.specs.Prelude.{ℕ, suc, ◌+◌, ◌-◌, ◌*◌, ◌/◌, ◌≤◌, ◌<◌, ◌≡◌, ◌≢◌, true, cond, List, [], ◌∷◌, eqb, ltb, get_or, take, drop}
use native.Mathlib.Omega.{arith}
use Rattle.std.proofs.Math.Path.{refl, sym}
use Rattle.std.proofs.Common.{ap, ap₂, ◌∙◌, get_or-take, get_or-drop}
use Rattle.std.proofs.Math.ListN.{length, get_or-eq_default}
use borrow.Author.Tests.{ltb-true, ltb-false, eqb-true, eqb-false, ne_eqb}
use Rattle.kernel.proofs.Cases.{split, same_or, in-or-out}
use Rattle.library.specs.declared.sizes.Sizes.{Sizes}
use Rattle.library.specs.Sizes.{sizes_fit}
use Rattle.trace.specs.Told.{Found, Read}
use Rattle.trace.specs.declared.cursor.Reader.{Reader}
use Rattle.trace.specs.Ordered.{get_n}
use Rattle.trace.specs.Decoding.{
  number_at,
  ends_inside,
  length_refusal,
  head_sizes,
  head_refusal,
  step_refusal,
  decoded_sizes,
  decoded_step,
  opened_read,
  stepped_read,
  next_read,
}
use Rattle.trace.specs.Cursor.{moved}
use Rattle.trace.proofs.Widths.{get-two, get-four, get-same}
use Rattle.trace.proofs.BodyLaws.{take_short}
use Rattle.trace.proofs.Framing.{whole}
use Rattle.promises.specs.Paper.Together.{SizesFit}
use Rattle.promises.specs.Paper.Answers.{Said, found_said}
use Rattle.promises.specs.Paper.Reader.{
  byte,
  two,
  four,
  sizes_in,
  sizes_of_body,
  step_of_body,
  NumberOf,
  HeadBroken,
  RecordBroken,
  order,
  FirstOf,
  Gives,
  HeadRead,
  LaterRead,
  ReadOf,
  Reached,
}
use Rattle.promises.specs.Meant.Sizes.{fit-limits, out-of-limits}
use Rattle.promises.specs.Meant.Said.{found-one}

-- ---- bytes

pub two_is : (s : List ℕ) (at : ℕ) → get_n 2 s at ≡ two s at
two_is s at = sym (get-two s at (byte s at) (byte s (at + 1)) refl refl)

pub four_is : (s : List ℕ) (at : ℕ) → get_n 4 s at ≡ four s at
four_is s at = omega (arith, get-four s at (byte s at) (byte s (at + 1)) refl refl (byte s (at + 2)) (byte s (at + 3)) refl refl)

-- the part of a trace from a place on, n bytes of it
module _ (s : List ℕ) (from n : ℕ) where
  part-byte : (i : ℕ) → i < n → get_or (take n (drop from s)) i 0 ≡ byte s (from + i)
  part-byte i h = get_or-take n (drop from s) i 0 h ∙ get_or-drop from s i 0

  -- and past it zeros
  part-past : (i : ℕ) → n ≤ i → get_or (take n (drop from s)) i 0 ≡ 0
  part-past i h = get_or-eq_default (take n (drop from s)) 0 {n = i} (omega (arith, take_short n (drop from s)))

  part-four : (i : ℕ) → i + 4 ≤ n → get_n 4 (take n (drop from s)) i ≡ get_n 4 s (from + i)
  part-four i h =
      get-same 4 (take n (drop from s)) s i (from + i)
      (λ j l. part-byte (i + j) (omega arith) ∙ ap (byte s) (omega arith))

  -- what stands for a mailbox m: its byte if there is one
  part-slot : (m k : ℕ) → n ≡ 6 + k → get_or (take n (drop from s)) (6 + m) 0 ≡ cond (ltb m k) (byte s (from + (6 + m))) 0
  part-slot m k e =
      split (ltb m k)
      (λ t. rw t (part-byte (6 + m) (omega (arith, ltb-true m k t))))
      (λ t. rw t (part-past (6 + m) (omega (arith, ltb-false m k t))))

pub head-sizes : (s : List ℕ) → get_n 2 s 1 ≡ 6 + byte s 7 → head_sizes s ≡ sizes_in s
unfolding decoded_sizes
head-sizes s e =
    let n : ℕ = get_n 2 s 1 in
    rw (
      part-byte s 3 n 0 (omega arith),
      part-byte s 3 n 1 (omega arith),
      part-byte s 3 n 2 (omega arith),
      part-byte s 3 n 3 (omega arith),
      part-byte s 3 n 4 (omega arith),
      part-byte s 3 n 5 (omega arith),
      part-slot s 3 n 0 (byte s 7) e,
      part-slot s 3 n 1 (byte s 7) e,
      part-slot s 3 n 2 (byte s 7) e,
      part-slot s 3 n 3 (byte s 7) e,
    )

pub step-said : (s : List ℕ) (at : ℕ)
    → found_said (Found.Stepped (decoded_step (take 11 (drop (at + 2) s))))
    ≡ record {
      code = 0;
      gives = 2;
      values = byte s (at + 2) ∷ byte s (at + 3) ∷ byte s (at + 4) ∷ four s (at + 5) ∷ four s (at + 9) ∷ [];
    }
unfolding decoded_step
step-said s at =
    let one : (i to : ℕ) → i < 11 → at + 2 + i ≡ to → get_or (take 11 (drop (at + 2) s)) i 0 ≡ byte s to =
    λ i to h e. part-byte s (at + 2) 11 i h ∙ ap (byte s) e in
    let all-four : (i to : ℕ) → i + 4 ≤ 11 → at + 2 + i ≡ to → get_n 4 (take 11 (drop (at + 2) s)) i ≡ four s to =
    λ i to h e. part-four s (at + 2) 11 i h ∙ ap (get_n 4 s) e ∙ four_is s to in
    rw (
      one 0 (at + 2) (omega arith) (omega arith),
      one 1 (at + 3) (omega arith) (omega arith),
      one 2 (at + 4) (omega arith) (omega arith),
      all-four 3 (at + 5) (omega arith) (omega arith),
      all-four 7 (at + 9) (omega arith) (omega arith),
    )

-- the decoders, on any body
pub sizes-body-is : (b : List ℕ) → decoded_sizes b ≡ sizes_of_body b
unfolding decoded_sizes
sizes-body-is b = refl

pub step-body-is : (b : List ℕ) → decoded_step b ≡ step_of_body b
unfolding decoded_step
step-body-is b = rw (four_is b 3, four_is b 7)

-- ---- the record's number

pub number_is : (at : ℕ) → NumberOf at (number_at at)
number_is at =
    split (ltb at 9)
    (λ t. rw t (NumberOf.head (ltb-true at 9 t)))
    (λ f.
    let far : 9 ≤ at = ltb-false at 9 f in
    let more : (at - 9) / 13 + 1 ≡ suc ((at - 9) / 13) = omega arith in
    rw (f, more) (NumberOf.later ((at - 9) / 13) (omega arith) (omega arith)))

pub number-one : {at m n : ℕ} → NumberOf at m → NumberOf at n → m ≡ n
number-one (NumberOf.head a) (NumberOf.head b) = refl
number-one (NumberOf.head a) (NumberOf.later k b c) = absurd (omega arith)
number-one (NumberOf.later j a d) (NumberOf.head b) = absurd (omega arith)
number-one (NumberOf.later j a d) (NumberOf.later k b c) = ap suc (omega arith)

-- ---- the first broken rule is one

numbers-head : {s : List ℕ} {n : ℕ} → HeadBroken s n → (11 ≤ n) × (n ≤ 15)
numbers-head (HeadBroken.long a) = (omega arith, omega arith)
numbers-head (HeadBroken.empty a) = (omega arith, omega arith)
numbers-head (HeadBroken.version a) = (omega arith, omega arith)
numbers-head (HeadBroken.in-length a) = (omega arith, omega arith)
numbers-head (HeadBroken.in-body a) = (omega arith, omega arith)
numbers-head (HeadBroken.wrong-length a) = (omega arith, omega arith)
numbers-head (HeadBroken.size a) = (omega arith, omega arith)

numbers-record : {s : List ℕ} {at n : ℕ} → RecordBroken s at n → (11 ≤ n) × (n ≤ 15)
numbers-record (RecordBroken.in-length a) = (omega arith, omega arith)
numbers-record (RecordBroken.in-body a) = (omega arith, omega arith)
numbers-record (RecordBroken.wrong-length a) = (omega arith, omega arith)

-- two numbers in the same place of the order are the same
order-one : (m n : ℕ) → 11 ≤ m → 11 ≤ n → order m ≡ order n → m ≡ n
order-one m n hm hn =
    split (eqb m 15)
    (λ a. rw a
    (split (eqb n 15) (λ b. rw b (λ e. eqb-true m 15 a ∙ sym (eqb-true n 15 b))) (λ b. rw b (λ e. absurd (omega arith)))))
    (λ a. rw a
    (split (eqb n 15) (λ b. rw b (λ e. absurd (omega arith))) (λ b. rw b (λ e. e))))

order-under : (n : ℕ) → n ≤ 15 → order n < 16
order-under n h = split (eqb n 15) (λ a. rw a (omega arith)) (λ a. rw a (omega arith))

module _ (Broken : ℕ → Type 0) (numbers : (n : ℕ) → Broken n → (11 ≤ n) × (n ≤ 15)) where
  first_one : (m n : ℕ) → FirstOf Broken m → FirstOf Broken n → m ≡ n
  first_one m n a b =
      in-or-out (order m) (order n)
      (λ l. absurd (b.none_before m l a.broken))
      (λ h. in-or-out (order n) (order m)
      (λ l. absurd (a.none_before n l b.broken))
      (λ g. order-one m n (numbers m a.broken).0 (numbers n b.broken).0 (omega arith)))

-- ---- the version byte and record 0

-- the input ends inside a length or body, as the code tests it
ends-where : (s : List ℕ) (at : ℕ) {C : Type 0} → ends_inside s at ≡ true → (length s < at + 2 → C) → (length s < at + 2 + two s at → C) → C
unfolding ends_inside
ends-where s at e in-length in-body =
    split (ltb (length s) (at + 2))
    (λ t. in-length (ltb-true (length s) (at + 2) t))
    (λ f. in-body (omega (arith, two_is s at, ltb-true (length s) (at + 2 + get_n 2 s at) (rw f at e))))

module _ (s : List ℕ) where
  -- what holds where no rule before n is broken
  none_of : (n : ℕ) → (order 15 < order n → length s ≤ 60000) → (order 11 < order n → byte s 0 ≡ 1)
      → (order 12 < order n → 3 + two s 1 ≤ length s) → (order 13 < order n → two s 1 ≡ 6 + byte s 7)
      → (order 14 < order n → SizesFit (sizes_in s)) → (m : ℕ) → order m < order n → HeadBroken s m → ⊥
  none_of n a b c d e m l (HeadBroken.long x) = omega (arith, a l)
  none_of n a b c d e m l (HeadBroken.empty x) = omega (arith, b l, get_or-eq_default s 0 {n = 0} (omega arith))
  none_of n a b c d e m l (HeadBroken.version x) = x (b l)
  none_of n a b c d e m l (HeadBroken.in-length x) = omega (arith, c l)
  none_of n a b c d e m l (HeadBroken.in-body x) = omega (arith, c l)
  none_of n a b c d e m l (HeadBroken.wrong-length x) = x (d l)
  none_of n a b c d e m l (HeadBroken.size x) = x (e l)

  head-refused : (n : ℕ) → head_refusal s ≡ n → n ≢ 0 → FirstOf (HeadBroken s) n → HeadRead s (opened_read s)
  unfolding opened_read
  head-refused n e d f =
      rw (e, ne_eqb n 0 d) (HeadRead.refused n f (record { found = refl; sized = refl; place = refl }))

  pub head-is : HeadRead s (opened_read s)
  unfolding opened_read length_refusal
  head-is =
      split (ltb 60000 (length s))
      (λ a. head-refused 15 (rw a) (λ z. omega arith)
      (record {
        broken = HeadBroken.long (ltb-true 60000 (length s) a);
        none_before = none_of 15 (λ l. absurd (omega arith)) (λ l. absurd (omega arith)) (λ l. absurd (omega arith)) (λ l. absurd (omega arith)) (λ l. absurd (omega arith));
      }))
      (λ a.
      let short : length s ≤ 60000 = ltb-false 60000 (length s) a in
      split (eqb (byte s 0) 1)
      (λ b.
      let version : byte s 0 ≡ 1 = eqb-true (byte s 0) 1 b in
      split (ends_inside s 1)
      (λ c.
      let before = none_of 12 (λ l. short) (λ l. version) (λ l. absurd (omega arith)) (λ l. absurd (omega arith)) (λ l. absurd (omega arith)) in
      head-refused 12 (rw (a, b, c)) (λ z. omega arith)
      (ends-where s 1 c
      (λ l. record { broken = HeadBroken.in-length l; none_before = before })
      (λ l. record { broken = HeadBroken.in-body l; none_before = before })))
      (λ c.
      let within : 3 + two s 1 ≤ length s = omega (arith, two_is s 1, whole s 1 c) in
      split (eqb (get_n 2 s 1) (6 + byte s 7))
      (λ d.
      let sized : get_n 2 s 1 ≡ 6 + byte s 7 = eqb-true (get_n 2 s 1) (6 + byte s 7) d in
      let right : two s 1 ≡ 6 + byte s 7 = sym (two_is s 1) ∙ sized in
      split (sizes_fit (head_sizes s))
      (λ e.
      let limits : SizesFit (sizes_in s) = fit-limits (sizes_in s) (rw (head-sizes s sized) at e) in
      rw (a, b, c, d, e)
      (HeadRead.opened
      (λ n x. none_of 16 (λ l. short) (λ l. version) (λ l. within) (λ l. right) (λ l. limits) n (order-under n (numbers-head x).1) x)
      (record { found = refl; sized = head-sizes s sized; place = omega arith })))
      (λ e. head-refused 14 (rw (a, b, c, d, e)) (λ z. omega arith)
      (record {
        broken = HeadBroken.size (out-of-limits (sizes_in s) (rw (head-sizes s sized) at e));
        none_before = none_of 14 (λ l. short) (λ l. version) (λ l. within) (λ l. right) (λ l. absurd (omega arith));
      })))
      (λ d. head-refused 13 (rw (a, b, c, d)) (λ z. omega arith)
      (record {
        broken = HeadBroken.wrong-length (λ q. eqb-false (get_n 2 s 1) (6 + byte s 7) d (two_is s 1 ∙ q));
        none_before = none_of 13 (λ l. short) (λ l. version) (λ l. within) (λ l. absurd (omega arith)) (λ l. absurd (omega arith));
      }))))
      (λ b. head-refused 11 (rw (a, b)) (λ z. omega arith)
      (record {
        broken = HeadBroken.version (eqb-false (byte s 0) 1 b);
        none_before = none_of 11 (λ l. short) (λ l. absurd (omega arith)) (λ l. absurd (omega arith)) (λ l. absurd (omega arith)) (λ l. absurd (omega arith));
      })))

-- ---- a later record, or the end

module _ (s : List ℕ) (at : ℕ) where
  none_here : (n : ℕ) → (order 12 < order n → at + 2 + two s at ≤ length s) → (order 13 < order n → two s at ≡ 11)
      → (m : ℕ) → order m < order n → RecordBroken s at m → ⊥
  none_here n a b m l (RecordBroken.in-length x) = omega (arith, a l)
  none_here n a b m l (RecordBroken.in-body x) = omega (arith, a l)
  none_here n a b m l (RecordBroken.wrong-length x) = x (b l)

  record-refused : (n : ℕ) → at ≢ length s → step_refusal s at ≡ n → n ≢ 0 → FirstOf (RecordBroken s at) n → LaterRead s at (stepped_read s at)
  unfolding stepped_read
  record-refused n here e d f =
      rw (ne_eqb at (length s) here, e, ne_eqb n 0 d)
      (LaterRead.refused here n (number_at at) f (number_is at) (record { found = refl; sized = refl; place = refl }))

  pub later-is : LaterRead s at (stepped_read s at)
  unfolding stepped_read step_refusal
  later-is =
      split (eqb at (length s))
      (λ z. rw z (LaterRead.ended (eqb-true at (length s) z) (record { found = refl; sized = refl; place = refl })))
      (λ z.
      let here : at ≢ length s = eqb-false at (length s) z in
      split (ends_inside s at)
      (λ a.
      let before = none_here 12 (λ l. absurd (omega arith)) (λ l. absurd (omega arith)) in
      record-refused 12 here (rw a) (λ n. omega arith)
      (ends-where s at a
      (λ l. record { broken = RecordBroken.in-length l; none_before = before })
      (λ l. record { broken = RecordBroken.in-body l; none_before = before })))
      (λ a.
      let within : at + 2 + two s at ≤ length s = omega (arith, two_is s at, whole s at a) in
      split (eqb (get_n 2 s at) 11)
      (λ b.
      let right : two s at ≡ 11 = sym (two_is s at) ∙ eqb-true (get_n 2 s at) 11 b in
      rw (z, a, b)
      (LaterRead.stepped here
      (λ n x. none_here 16 (λ l. within) (λ l. right) n (order-under n (numbers-record x).1) x)
      (record { found = step-said s at; sized = refl; place = refl })))
      (λ b. record-refused 13 here (rw (a, b)) (λ n. omega arith)
      (record {
        broken = RecordBroken.wrong-length (λ q. eqb-false (get_n 2 s at) 11 b (two_is s at ∙ q));
        none_before = none_here 13 (λ l. within) (λ l. absurd (omega arith));
      }))))

-- ---- one read

-- a read of any bytes, at any place, is what the paper tells of it
pub read_is : (s : List ℕ) (at : ℕ) → ReadOf s at (next_read s at)
unfolding next_read
read_is s at =
    split (eqb at 0)
    (λ z. rw z (ReadOf.head (eqb-true at 0 z) (head-is s)))
    (λ z. rw z (ReadOf.later (eqb-false at 0 z) (later-is s at)))

same-given : {r q : Read} {a b : Said} {y z : Sizes} {m n : ℕ} → Gives r a y m → Gives q b z n → a ≡ b → y ≡ z → m ≡ n → r ≡ q
same-given {r} {q} g h e f i =
    let found : r.found ≡ q.found = found-one r.found q.found (g.found ∙ e ∙ sym h.found) in
    let parts : ◌≡◌ {A = Read} (record { found = r.found; sizes = r.sizes; next = r.next })
    (record { found = q.found; sizes = q.sizes; next = q.next }) =
    rw (found, g.sized ∙ f ∙ sym h.sized, g.place ∙ i ∙ sym h.place) in
    parts

head-one : {s : List ℕ} {r q : Read} → HeadRead s r → HeadRead s q → r ≡ q
head-one {s} (HeadRead.refused m f g) (HeadRead.refused n h i) =
    same-given g i
    (ap (λ (k : ℕ). record { code = k; gives = 0; values = 0 ∷ [] }) (first_one (HeadBroken s) (λ k. numbers-head) m n f h)) refl refl
head-one (HeadRead.refused m f g) (HeadRead.opened h i) = absurd (h m f.broken)
head-one (HeadRead.opened f g) (HeadRead.refused n h i) = absurd (f n h.broken)
head-one (HeadRead.opened f g) (HeadRead.opened h i) = same-given g i refl refl refl

later-one : {s : List ℕ} {at : ℕ} {r q : Read} → LaterRead s at r → LaterRead s at q → r ≡ q
later-one (LaterRead.ended e g) (LaterRead.ended f h) = same-given g h refl refl refl
later-one (LaterRead.ended e g) (LaterRead.refused n m k f i h) = absurd (n e)
later-one (LaterRead.ended e g) (LaterRead.stepped n f h) = absurd (n e)
later-one (LaterRead.refused n m k f i g) (LaterRead.ended e h) = absurd (n e)
later-one {s} {at} (LaterRead.refused n m k f i g) (LaterRead.refused o m' k' f' i' h) =
    same-given g h
    (ap₂ (λ (c j : ℕ). record { code = c; gives = 0; values = j ∷ [] }) (first_one (RecordBroken s at) (λ j. numbers-record) m m' f f') (number-one i i'))
    refl refl
later-one (LaterRead.refused n m k f i g) (LaterRead.stepped o f' h) = absurd (f' m f.broken)
later-one (LaterRead.stepped n f g) (LaterRead.ended e h) = absurd (n e)
later-one (LaterRead.stepped n f g) (LaterRead.refused o m k f' i h) = absurd (f m f'.broken)
later-one (LaterRead.stepped n f g) (LaterRead.stepped o f' h) = same-given g h refl refl refl

-- and the paper leaves no choice
pub read_one : {s : List ℕ} {at : ℕ} {r q : Read} → ReadOf s at r → ReadOf s at q → r ≡ q
read_one (ReadOf.head a b) (ReadOf.head c d) = head-one b d
read_one (ReadOf.head a b) (ReadOf.later c d) = absurd (c a)
read_one (ReadOf.later a b) (ReadOf.head c d) = absurd (a c)
read_one (ReadOf.later a b) (ReadOf.later c d) = later-one b d

-- ---- reading on

-- "A trace reader keeps hold of the trace and its place in it": it is left at the place after the read
pub moved-is : (r : Reader) (x : Read) → ReadOf r.trace.now r.at x → moved r ≡ record { trace = r.trace; at = x.next }
moved-is r x a =
    ap (λ (y : Read). record { trace = r.trace; at = y.next }) (read_one (read_is r.trace.now r.at) a)

given-no : {r : Read} {c n : ℕ} {v : List ℕ} {z : Sizes} → Gives r (record { code = c; gives = 0; values = v }) z n → (found_said r.found).gives ≡ 0
given-no g = ap (λ (x : Said). x.gives) g.found

-- where a reader stands after records: behind record 0 and so many later ones
pub record Stands (s : List ℕ) (n at : ℕ) : Type 0 where
  pub place : at ≡ 9 + byte s 7 + 13 * n
  pub few : byte s 7 ≤ 4
  pub short : length s ≤ 60000
  pub within : at ≤ length s

-- the record 0 that was read
opened-stands : {s : List ℕ} {at : ℕ} → ((n : ℕ) → HeadBroken s n → ⊥) → at ≡ 9 + byte s 7 → Stands s 0 at
opened-stands {s} none e =
    let short : length s ≤ 60000 = in-or-out 60000 (length s) (λ l. absurd (none 15 (HeadBroken.long l))) (λ l. l) in
    let few : byte s 7 ≤ 4 =
    in-or-out 4 (byte s 7) (λ l. absurd (none 14 (HeadBroken.size (λ (g : SizesFit (sizes_in s)). omega (arith, g.mailboxes))))) (λ l. l) in
    let sized : two s 1 ≡ 6 + byte s 7 = same_or (two s 1) (6 + byte s 7) (λ q. q) (λ q. absurd (none 13 (HeadBroken.wrong-length q))) in
    let body : 3 + two s 1 ≤ length s =
    in-or-out (length s) (3 + two s 1) (λ l. absurd (none 12 (HeadBroken.in-body l))) (λ l. l) in
    record { place = omega arith; few = few; short = short; within = omega arith }

pub reached-stands : {s : List ℕ} {n at : ℕ} → Reached s (suc n) at → Stands s n at
reached-stands (Reached.on Reached.begin r (ReadOf.head a (HeadRead.refused n f g)) given) = absurd (given (given-no g))
reached-stands (Reached.on Reached.begin r (ReadOf.head a (HeadRead.opened f g)) given) = opened-stands f g.place
reached-stands (Reached.on Reached.begin r (ReadOf.later a b) given) = absurd (a refl)
reached-stands (Reached.on (Reached.on before q c given') r (ReadOf.head a b) given) =
    absurd (omega (arith, (reached-stands (Reached.on before q c given')).place))
reached-stands (Reached.on (Reached.on before q c given') r (ReadOf.later a (LaterRead.ended e g)) given) = absurd (given (given-no g))
reached-stands (Reached.on (Reached.on before q c given') r (ReadOf.later a (LaterRead.refused e n k f i g)) given) = absurd (given (given-no g))
reached-stands {s} (Reached.on {at = at} (Reached.on before q c given') r (ReadOf.later a (LaterRead.stepped e none g)) given) =
    let st : Stands s _ q.next = reached-stands (Reached.on before q c given') in
    let sized : two s q.next ≡ 11 = same_or (two s q.next) 11 (λ y. y) (λ y. absurd (none 13 (RecordBroken.wrong-length y))) in
    let body : q.next + 2 + two s q.next ≤ length s =
    in-or-out (length s) (q.next + 2 + two s q.next) (λ l. absurd (none 12 (RecordBroken.in-body l))) (λ l. l) in
    record {
      place = omega (arith, st.place, g.place);
      few = st.few;
      short = st.short;
      within = omega (arith, g.place);
    }

-- the number of the record at a place is how many records were read before it
pub reached-number : {s : List ℕ} {n at : ℕ} → Reached s n at → NumberOf at n
reached-number Reached.begin = NumberOf.head (omega arith)
reached-number {s} (Reached.on {n} {at} before r c given) =
    let st : Stands s n r.next = reached-stands (Reached.on before r c given) in
    NumberOf.later n (omega (arith, st.place)) (omega (arith, st.place, st.few))
