-- The objects of a pool, counted: no event but an add brings one, and none takes one away; so those ever added are free or out. And a free
-- list is as long as there are objects marked free, those promised to woken threads among them.
use Rattle.std.specs.Prelude.{ℕ, zero, suc, ◌+◌, ◌≤◌, ◌<◌, ◌≡◌, refl, ◌≢◌, Bool, true, false, cond, ◌&&◌, List, [], ◌∷◌, eqb, ltb, ℤ, get_or}
use Rattle.std.proofs.Common.{arith, sym, ap, ◌∙◌, eqb-true, eq-eqb, ne_eqb, lt-ltb, le-ltb}
use Rattle.std.proofs.Math.Bool.{and-false, and-true}
use Rattle.kernel.proofs.Cases.{split, same_or, in-or-out, contrary, both-means}
use Rattle.library.specs.declared.tables.Pool.{Pool}
use Rattle.promises.specs.Paper.Together.{number, larger, listings, PoolFits}
use Rattle.promises.specs.Paper.History.{Event, total, added, each}
use Rattle.promises.specs.Paper.Ledger.{Standing, when_added, when_taken, when_freed, stood, standing, mark_of, is_out, was_added}

-- ---- sums over indexes

abbrev sum : (ℕ → ℕ) → ℕ → ℕ
sum f zero = 0
sum f (suc n) = sum f n + f n

sum_same : (f g : ℕ → ℕ) (n : ℕ) → ((o : ℕ) → o < n → f o ≡ g o) → sum f n ≡ sum g n
sum_same f g zero h = refl
sum_same f g (suc n) h = omega (arith, sum_same f g n (λ o l. h o (omega arith)), h n (omega arith))

sum_both : (f g : ℕ → ℕ) (n : ℕ) → sum (λ o. f o + g o) n ≡ sum f n + sum g n
sum_both f g zero = refl
sum_both f g (suc n) = omega (arith, sum_both f g n)

sum-zero : (n : ℕ) → sum (λ o. 0) n ≡ 0
sum-zero zero = refl
sum-zero (suc n) = omega (arith, sum-zero n)

-- one index is v
sum_one : (v n : ℕ) → sum (λ o. cond (eqb v o) 1 0) n ≡ cond (ltb v n) 1 0
sum_one v zero = rw (le-ltb v 0 (omega arith))
sum_one v (suc n) =
    same_or v n
    (λ z.
    let rest : sum (λ o. cond (eqb v o) 1 0) n ≡ 0 = rw (le-ltb v n (omega (arith, z))) at (sum_one v n) in
    rw (lt-ltb v (suc n) (omega (arith, z)), eq-eqb v n z) (omega (arith, rest)))
    (λ d.
    in-or-out v n
    (λ l.
    let rest : sum (λ o. cond (eqb v o) 1 0) n ≡ 1 = rw (lt-ltb v n l) at (sum_one v n) in
    rw (lt-ltb v (suc n) (omega (arith, l)), ne_eqb v n d) (omega (arith, rest)))
    (λ l.
    let rest : sum (λ o. cond (eqb v o) 1 0) n ≡ 0 = rw (le-ltb v n l) at (sum_one v n) in
    let past : suc n ≤ v = in-or-out n v (λ h. h) (λ h. absurd (d (omega arith))) in
    rw (le-ltb v (suc n) past, ne_eqb v n d) (omega (arith, rest))))

number-sum : (f : ℕ → Bool) (n : ℕ) → number f n ≡ sum (λ o. cond (f o) 1 0) n
number-sum f zero = refl
number-sum f (suc n) = omega (arith, number-sum f n)

-- ---- a free list is as long as there are free objects

listed-sum : (n : ℕ) (x : Pool) (k : ℕ) → ((j : ℕ) → j < k → get_or x.list j 0 < n)
    → sum (λ o. number (λ j. eqb (get_or x.list j 0) o) k) n ≡ k
listed-sum n x zero h = sum-zero n
listed-sum n x (suc k) h =
    let v = get_or x.list k 0 in
    let both = sum_both (λ o. number (λ j. eqb (get_or x.list j 0) o) k) (λ o. cond (eqb v o) 1 0) n in
    let one : sum (λ o. cond (eqb v o) 1 0) n ≡ 1 = rw (lt-ltb v n (h k (omega arith))) at (sum_one v n) in
    both ∙ omega (arith, listed-sum n x k (λ j l. h j (omega arith)), one)

pub free-listed : {x : Pool} {c : ℤ} {k : ℕ} → PoolFits x c k → number (λ o. eqb (get_or x.marks o 0) 1) 32 ≡ larger c + k
free-listed {x} f =
    number-sum (λ o. eqb (get_or x.marks o 0) 1) 32
    ∙ sum_same (λ o. cond (eqb (get_or x.marks o 0) 1) 1 0) (listings x) 32 each-once
    ∙ listed-sum 32 x x.length f.objects ∙ f.promises
  where
    each-once : (o : ℕ) → o < 32 → cond (eqb (get_or x.marks o 0) 1) 1 0 ≡ listings x o
    each-once o l =
        same_or (get_or x.marks o 0) 1 (λ e. rw (eq-eqb (get_or x.marks o 0) 1 e) (sym (f.once o l e)))
        (λ d. rw (ne_eqb (get_or x.marks o 0) 1 d) (sym (f.no_other o l d)))

-- ---- an object that was added is free or out

-- a mistake stays one
stood-mistaken : (e : Event) → stood Standing.mistaken e ≡ Standing.mistaken
stood-mistaken e =
    split (eqb e.kind 20) (λ a. rw a)
    (λ a. split (eqb e.kind 21) (λ b. rw (a, b)) (λ b. split (eqb e.kind 22) (λ c. rw (a, b, c)) (λ c. rw (a, b, c))))

pub mistaken-stays : (q o : ℕ) (es : List Event) → standing q o Standing.mistaken es ≡ Standing.mistaken
mistaken-stays q o [] = refl
mistaken-stays q o (e ∷ es) =
    let one : cond (eqb e.object q && eqb e.value o) (stood Standing.mistaken e) Standing.mistaken ≡ Standing.mistaken =
    split (eqb e.object q && eqb e.value o) (λ h. rw h (stood-mistaken e)) (λ h. rw h) in
    ap (λ (x : Standing). standing q o x es) one ∙ mistaken-stays q o es

-- and what is in the pool stays there
when_added-in : (x : Standing) → was_added (when_added x) ≡ true
when_added-in Standing.absent = refl
when_added-in Standing.free = refl
when_added-in (Standing.out n i) = refl
when_added-in Standing.mistaken = refl

when_taken-in : (e : Event) (x : Standing) → was_added (when_taken e x) ≡ true
when_taken-in e Standing.absent = refl
when_taken-in e Standing.free = refl
when_taken-in e (Standing.out n i) = refl
when_taken-in e Standing.mistaken = refl

when_freed-in : (x : Standing) → was_added (when_freed x) ≡ true
when_freed-in Standing.absent = refl
when_freed-in Standing.free = refl
when_freed-in (Standing.out n i) = refl
when_freed-in Standing.mistaken = refl

stood-in : (x : Standing) (e : Event) → was_added x ≡ true → was_added (stood x e) ≡ true
stood-in x e h =
    split (eqb e.kind 20) (λ a. rw a (when_taken-in e x))
    (λ a. split (eqb e.kind 21) (λ b. rw (a, b) (when_freed-in x))
    (λ b. split (eqb e.kind 22) (λ c. rw (a, b, c) (when_added-in x)) (λ c. rw (a, b, c) h)))

in-stays : (q o : ℕ) (x : Standing) (es : List Event) → was_added x ≡ true → was_added (standing q o x es) ≡ true
in-stays q o x [] h = h
in-stays q o x (e ∷ es) h =
    let y = cond (eqb e.object q && eqb e.value o) (stood x e) x in
    let on : was_added y ≡ true = split (eqb e.object q && eqb e.value o) (λ k. rw k (stood-in x e h)) (λ k. rw k h) in
    in-stays q o y es on

-- of an object that makes no mistake: an add brings it, an alloc and a free leave it in the pool
added-brings : (x : Standing) → when_added x ≢ Standing.mistaken → was_added x ≡ false
added-brings Standing.absent h = refl
added-brings Standing.free h = absurd (h refl)
added-brings (Standing.out n i) h = absurd (h refl)
added-brings Standing.mistaken h = absurd (h refl)

taken-leaves : (e : Event) (x : Standing) → when_taken e x ≢ Standing.mistaken → was_added x ≡ true
taken-leaves e Standing.absent h = absurd (h refl)
taken-leaves e Standing.free h = refl
taken-leaves e (Standing.out n i) h = refl
taken-leaves e Standing.mistaken h = refl

freed-leaves : (x : Standing) → when_freed x ≢ Standing.mistaken → was_added x ≡ true
freed-leaves Standing.absent h = absurd (h refl)
freed-leaves Standing.free h = refl
freed-leaves (Standing.out n i) h = refl
freed-leaves Standing.mistaken h = refl

stood-leaves : (x : Standing) (e : Event) → stood x e ≢ Standing.mistaken → eqb e.kind 22 ≡ false → was_added (stood x e) ≡ was_added x
stood-leaves x e h n =
    split (eqb e.kind 20) (λ a. rw a (when_taken-in e x ∙ sym (taken-leaves e x (rw a at h))))
    (λ a. split (eqb e.kind 21) (λ b. rw (a, b) (when_freed-in x ∙ sym (freed-leaves x (rw (a, b) at h)))) (λ b. rw (a, b, n)))

-- of so many objects
module _ (n q : ℕ) where
  abbrev after : Event → (ℕ → Standing) → ℕ → Standing
  after e st o = cond (eqb e.object q && eqb e.value o) (stood (st o) e) (st o)

  -- all that was ever added: what was there before, and the adds since
  pub added-sum : (es : List Event) (st : ℕ → Standing) → ((o : ℕ) → standing q o (st o) es ≢ Standing.mistaken)
      → ((o : ℕ) → n ≤ o → standing q o (st o) es ≡ Standing.absent)
      → number (λ o. was_added (st o)) n + total (each (added q)) es ≡ number (λ o. was_added (standing q o (st o) es)) n
  added-sum [] st right past = omega arith
  added-sum (e ∷ es) st right past =
      let rest = added-sum es (after e st) right past in
      let v = e.value in
      let one : (o : ℕ) → o < n → cond (was_added (st o)) 1 0 + cond (eqb v o && added q e) 1 0 ≡ cond (was_added (after e st o)) 1 0 =
      λ o l. brings o (right o) in
      let few : cond (added q e) 1 0 ≡ sum (λ o. cond (eqb v o && added q e) 1 0) n = within in
      let a = number-sum (λ o. was_added (st o)) n in
      let b = number-sum (λ o. was_added (after e st o)) n in
      let c = sum_both (λ o. cond (was_added (st o)) 1 0) (λ o. cond (eqb v o && added q e) 1 0) n in
      let d = sum_same (λ o. cond (was_added (st o)) 1 0 + cond (eqb v o && added q e) 1 0) (λ o. cond (was_added (after e st o)) 1 0) n one in
      omega (arith, rest, few, a, b, c, d)
    where
      unmistaken : (o : ℕ) → standing q o (after e st o) es ≢ Standing.mistaken → after e st o ≢ Standing.mistaken
      unmistaken o h z = h (ap (λ (x : Standing). standing q o x es) z ∙ mistaken-stays q o es)

      brings : (o : ℕ) → standing q o (after e st o) es ≢ Standing.mistaken
          → ◌≡◌ {A = ℕ} (cond (was_added (st o)) 1 0 + cond (eqb e.value o && added q e) 1 0) (cond (was_added (after e st o)) 1 0)
      brings o h =
          let k = unmistaken o h in
          split (eqb e.object q)
          (λ p. split (eqb e.value o)
          (λ w. split (eqb e.kind 22)
          (λ a. rw (p, w, a, eqb-true e.kind 22 a, added-brings (st o) (rw (p, w, eqb-true e.kind 22 a) at k), when_added-in (st o)))
          (λ a. rw (p, w, stood-leaves (st o) e (rw (p, w) at k) a, a) (omega arith)))
          (λ w. rw (p, w) (omega arith)))
          (λ p. rw (p, and-false (eqb e.kind 22), and-false (eqb e.value o)) (omega arith))

      -- an object that is added is one of the n
      within : ◌≡◌ {A = ℕ} (cond (added q e) 1 0) (sum (λ o. cond (eqb e.value o && added q e) 1 0) n)
      within =
          split (added q e)
          (λ h.
          let small : e.value < n = in-or-out e.value n (λ l. l) (λ l. absurd (far h l)) in
          rw h (sym (sum_same (λ o. cond (eqb e.value o && true) 1 0) (λ o. cond (eqb e.value o) 1 0) n (λ o l. rw (and-true (eqb e.value o))) ∙ sum_one e.value n ∙ rw (lt-ltb e.value n small))))
          (λ h. rw h (sym (sum_same (λ o. cond (eqb e.value o && false) 1 0) (λ o. 0) n (λ o l. rw (and-false (eqb e.value o))) ∙ sum-zero n)))
        where
          far : added q e ≡ true → n ≤ e.value → ⊥
          far h l =
              let v = e.value in
              let both = both-means (eqb e.kind 22) (eqb e.object q) h in
              let in-now : was_added (after e st v) ≡ true = rw (both.1, eq-eqb v v refl, eqb-true e.kind 22 both.0) (when_added-in (st v)) in
              contrary (in-stays q v (after e st v) es in-now) (ap was_added (past v l))

-- those in the pool are free or out
pub free-or-out : (n : ℕ) (f : ℕ → Standing) (m : ℕ → ℕ) → ((o : ℕ) → o < n → f o ≢ Standing.mistaken) → ((o : ℕ) → o < n → mark_of (f o) ≡ m o)
    → number (λ o. was_added (f o)) n ≡ number (λ o. eqb (m o) 1) n + number (λ o. is_out (f o)) n
free-or-out n f m right marks =
    let a = number-sum (λ o. was_added (f o)) n in
    let b = number-sum (λ o. eqb (m o) 1) n in
    let c = number-sum (λ o. is_out (f o)) n in
    let d = sum_both (λ o. cond (eqb (m o) 1) 1 0) (λ o. cond (is_out (f o)) 1 0) n in
    let k = sum_same (λ o. cond (was_added (f o)) 1 0) (λ o. cond (eqb (m o) 1) 1 0 + cond (is_out (f o)) 1 0) n one in
    omega (arith, a, b, c, d, k)
  where
    by : (x : Standing) (k : ℕ) → x ≢ Standing.mistaken → mark_of x ≡ k
        → ◌≡◌ {A = ℕ} (cond (was_added x) 1 0) (cond (eqb k 1) 1 0 + cond (is_out x) 1 0)
    by Standing.absent k h z = rw (← z)
    by Standing.free k h z = rw (← z)
    by (Standing.out a i) k h z = rw (← z)
    by Standing.mistaken k h z = absurd (h refl)

    one : (o : ℕ) → o < n → ◌≡◌ {A = ℕ} (cond (was_added (f o)) 1 0) (cond (eqb (m o) 1) 1 0 + cond (is_out (f o)) 1 0)
    one o l = by (f o) (m o) (right o l) (marks o l)
