-- The order arm by arm, and by names; and that each field lies at a place of its own and its name is its own, which is checked by
-- computing all of them, once.
use Prim.Native.Nat.{ℕ, zero, suc, ◌+◌, ◌-◌, ◌*◌, ◌/◌, ◌%◌, ◌≤◌, ◌<◌}
use native.Mathlib.Nat.{lt_trans}
use native.Mathlib.Omega.{arith}
use mathlib.Core.Path.{◌≡◌, refl, sym, ap, ◌∙◌, subst}
use mathlib.Core.Logic.{◌≢◌}
use mathlib.Core.Bool.{true, cond, ◌&&◌, ◌||◌}
use lib.Dec.{eqb, ltb, leb}
use borrow.Author.Tests.{eqb-true, ltb-true, lt-ltb, le-ltb, eq-eqb, ne_eqb}
use Rattle.kernel.specs.Walk.{all_from}
use Rattle.kernel.proofs.Cases.{same_or, in-or-out, both-means}
use Rattle.kernel.proofs.WalkLaws.{all-at}
use Rattle.compare.specs.declared.order.Name.{Name}
use Rattle.compare.specs.Cells.{counters_at, references_at, words_at, steps_at, mailboxes_at, pools_at, sizes_at, clock_at, cell_count}
use Rattle.compare.specs.Order.{
  references_from,
  queues_from,
  semaphores_from,
  mailboxes_from,
  pools_from,
  clock_from,
  steps_from,
  fields,
  called,
  named,
  row_at,
  place_named,
  box_at,
  pool_at,
  cell_of,
}

-- ---- the arm that a field is in: its name, and where it lies

module _ (k : ℕ) where
  pub name-threads : k < references_from → named k ≡ called 0 (k / 14) (k % 14)
  unfolding named
  name-threads h = rw (lt-ltb k references_from h)

  pub cell-threads : k < references_from → cell_of k ≡ k
  unfolding cell_of
  cell-threads h = rw (lt-ltb k references_from h)

  pub name-references : references_from ≤ k → k < queues_from → named k ≡ called 1 (k - references_from) 0
  unfolding named
  name-references g h = rw (le-ltb k references_from (omega arith), lt-ltb k queues_from h)

  pub cell-references : references_from ≤ k → k < queues_from → cell_of k ≡ references_at + (k - references_from)
  unfolding cell_of
  cell-references g h = rw (le-ltb k references_from (omega arith), lt-ltb k queues_from h)

  pub name-queues : queues_from ≤ k → k < semaphores_from → named k ≡ called 2 (k - queues_from) 0
  unfolding named
  name-queues g h = rw (le-ltb k references_from (omega arith), le-ltb k queues_from (omega arith), lt-ltb k semaphores_from h)

  pub cell-queues : queues_from ≤ k → k < semaphores_from → cell_of k ≡ counters_at + 20 + (k - queues_from)
  unfolding cell_of
  cell-queues g h = rw (le-ltb k references_from (omega arith), le-ltb k queues_from (omega arith), lt-ltb k semaphores_from h)

  pub name-semaphores : semaphores_from ≤ k → k < mailboxes_from → named k ≡ called 3 (k - semaphores_from) 0
  unfolding named
  name-semaphores g h = rw (le-ltb k references_from (omega arith), le-ltb k queues_from (omega arith), le-ltb k semaphores_from (omega arith), lt-ltb k mailboxes_from h)

  pub cell-semaphores : semaphores_from ≤ k → k < mailboxes_from → cell_of k ≡ counters_at + (k - semaphores_from)
  unfolding cell_of
  cell-semaphores g h = rw (le-ltb k references_from (omega arith), le-ltb k queues_from (omega arith), le-ltb k semaphores_from (omega arith), lt-ltb k mailboxes_from h)

  pub name-boxes : mailboxes_from ≤ k → k < pools_from → named k ≡ called 4 ((k - mailboxes_from) / 22) ((k - mailboxes_from) % 22)
  unfolding named
  name-boxes g h = rw (le-ltb k references_from (omega arith), le-ltb k queues_from (omega arith), le-ltb k semaphores_from (omega arith), le-ltb k mailboxes_from (omega arith), lt-ltb k pools_from h)

  pub cell-boxes : mailboxes_from ≤ k → k < pools_from → cell_of k ≡ box_at ((k - mailboxes_from) / 22) ((k - mailboxes_from) % 22)
  unfolding cell_of
  cell-boxes g h = rw (le-ltb k references_from (omega arith), le-ltb k queues_from (omega arith), le-ltb k semaphores_from (omega arith), le-ltb k mailboxes_from (omega arith), lt-ltb k pools_from h)

  pub name-pools : pools_from ≤ k → k < clock_from → named k ≡ called 5 ((k - pools_from) / 66) ((k - pools_from) % 66)
  unfolding named
  name-pools g h = rw (le-ltb k references_from (omega arith), le-ltb k queues_from (omega arith), le-ltb k semaphores_from (omega arith), le-ltb k mailboxes_from (omega arith), le-ltb k pools_from (omega arith), lt-ltb k clock_from h)

  pub cell-pools : pools_from ≤ k → k < clock_from → cell_of k ≡ pool_at ((k - pools_from) / 66) ((k - pools_from) % 66)
  unfolding cell_of
  cell-pools g h = rw (le-ltb k references_from (omega arith), le-ltb k queues_from (omega arith), le-ltb k semaphores_from (omega arith), le-ltb k mailboxes_from (omega arith), le-ltb k pools_from (omega arith), lt-ltb k clock_from h)

  pub name-clock : clock_from ≤ k → k < steps_from → named k ≡ called 6 0 (k - clock_from)
  unfolding named
  name-clock g h = rw (le-ltb k references_from (omega arith), le-ltb k queues_from (omega arith), le-ltb k semaphores_from (omega arith), le-ltb k mailboxes_from (omega arith), le-ltb k pools_from (omega arith), le-ltb k clock_from (omega arith), lt-ltb k steps_from h)

  pub cell-clock : clock_from ≤ k → k < steps_from → cell_of k ≡ clock_at + (k - clock_from)
  unfolding cell_of
  cell-clock g h = rw (le-ltb k references_from (omega arith), le-ltb k queues_from (omega arith), le-ltb k semaphores_from (omega arith), le-ltb k mailboxes_from (omega arith), le-ltb k pools_from (omega arith), le-ltb k clock_from (omega arith), lt-ltb k steps_from h)

  pub name-steps : steps_from ≤ k → named k ≡ called 7 0 (k - steps_from)
  unfolding named
  name-steps g = rw (le-ltb k references_from (omega arith), le-ltb k queues_from (omega arith), le-ltb k semaphores_from (omega arith), le-ltb k mailboxes_from (omega arith), le-ltb k pools_from (omega arith), le-ltb k clock_from (omega arith), le-ltb k steps_from (omega arith))

  pub cell-steps : steps_from ≤ k → cell_of k ≡ steps_at
  unfolding cell_of
  cell-steps g = rw (le-ltb k references_from (omega arith), le-ltb k queues_from (omega arith), le-ltb k semaphores_from (omega arith), le-ltb k mailboxes_from (omega arith), le-ltb k pools_from (omega arith), le-ltb k clock_from (omega arith), le-ltb k steps_from (omega arith))

-- ---- the field of a name, by object and number

-- the field k of the order is called so, and lies at the place c
pub record Lies (k o n f c : ℕ) : Type 0 where
  pub inside : k < fields
  pub name : named k ≡ called o n f
  pub cell : cell_of k ≡ c

pub thread-lies : (i f : ℕ) → i < 16 → f < 14 → Lies (i * 14 + f) 0 i f (i * 14 + f)
thread-lies i f h l =
    let k = i * 14 + f in
    let low : k < references_from = omega arith in
    let row : k / 14 ≡ i = omega arith in
    let field : k % 14 ≡ f = omega arith in
    record { inside = omega arith; name = rw (row, field) at (name-threads k low); cell = cell-threads k low }

pub reference-lies : (r : ℕ) → r < 8 → Lies (references_from + r) 1 r 0 (references_at + r)
reference-lies r h =
    let k = references_from + r in
    let row : k - references_from ≡ r = omega arith in
    record {
      inside = omega arith;
      name = rw row at (name-references k (omega arith) (omega arith));
      cell = rw row at (cell-references k (omega arith) (omega arith));
    }

pub queue-lies : (q : ℕ) → q < 8 → Lies (queues_from + q) 2 q 0 (counters_at + (20 + q))
queue-lies q h =
    let k = queues_from + q in
    let row : k - queues_from ≡ q = omega arith in
    record {
      inside = omega arith;
      name = rw row at (name-queues k (omega arith) (omega arith));
      cell = cell-queues k (omega arith) (omega arith) ∙ omega arith;
    }

pub semaphore-lies : (s : ℕ) → s < 16 → Lies (semaphores_from + s) 3 s 0 (counters_at + s)
semaphore-lies s h =
    let k = semaphores_from + s in
    let row : k - semaphores_from ≡ s = omega arith in
    record {
      inside = omega arith;
      name = rw row at (name-semaphores k (omega arith) (omega arith));
      cell = rw row at (cell-semaphores k (omega arith) (omega arith));
    }

-- field f of mailbox m
abbrev pub box_field : ℕ → ℕ → ℕ
box_field m f = mailboxes_from + (m * 22 + f)

pub box-lies : (m f : ℕ) → m < 4 → f < 22 → Lies (box_field m f) 4 m f (box_at m f)
box-lies m f h l =
    let k = box_field m f in
    let row : (k - mailboxes_from) / 22 ≡ m = omega arith in
    let field : (k - mailboxes_from) % 22 ≡ f = omega arith in
    record {
      inside = omega arith;
      name = rw (row, field) at (name-boxes k (omega arith) (omega arith));
      cell = rw (row, field) at (cell-boxes k (omega arith) (omega arith));
    }

-- field f of pool q
abbrev pub pool_field : ℕ → ℕ → ℕ
pool_field q f = pools_from + (q * 66 + f)

pub pool-lies : (q f : ℕ) → q < 4 → f < 66 → Lies (pool_field q f) 5 q f (pool_at q f)
pool-lies q f h l =
    let k = pool_field q f in
    let row : (k - pools_from) / 66 ≡ q = omega arith in
    let field : (k - pools_from) % 66 ≡ f = omega arith in
    record {
      inside = omega arith;
      name = rw (row, field) at (name-pools k (omega arith) (omega arith));
      cell = rw (row, field) at (cell-pools k (omega arith) (omega arith));
    }

pub clock-lies : (f : ℕ) → f < 2 → Lies (clock_from + f) 6 0 f (clock_at + f)
clock-lies f h =
    let k = clock_from + f in
    let row : k - clock_from ≡ f = omega arith in
    record {
      inside = omega arith;
      name = rw row at (name-clock k (omega arith) (omega arith));
      cell = rw row at (cell-clock k (omega arith) (omega arith));
    }

pub steps-lies : Lies steps_from 7 0 0 steps_at
steps-lies = record { inside = omega arith; name = name-steps steps_from (omega arith); cell = cell-steps steps_from (omega arith) }

-- ---- all fields at once

-- which field lies at a place
unfoldable order_of : ℕ → ℕ
order_of c =
    cond (ltb c counters_at) c
    (cond (ltb c (counters_at + 16)) (semaphores_from + (c - counters_at))
    (cond (ltb c (counters_at + 20)) (pools_from + 66 * (c - (counters_at + 16)))
    (cond (ltb c (counters_at + 28)) (queues_from + (c - (counters_at + 20)))
    (cond (ltb c (counters_at + 32)) (mailboxes_from + 22 * (c - (counters_at + 28)))
    (cond (ltb c references_at) (mailboxes_from + 1 + 22 * (c - (counters_at + 32)))
    (cond (ltb c steps_at) (references_from + (c - references_at))
    (cond (ltb c mailboxes_at) steps_from
    (cond (ltb c pools_at) (mailboxes_from + 2 + 22 * ((c - mailboxes_at) / 20) + (c - mailboxes_at) % 20)
    (cond (ltb c sizes_at) (pools_from + 1 + 66 * ((c - pools_at) / 65) + (c - pools_at) % 65) (clock_from + (c - clock_at)))))))))))

found-again : all_from (λ k. eqb (order_of (cell_of k)) k) 0 fields ≡ true
unfolding order_of cell_of all_from
found-again = refl

inside : all_from (λ k. ltb (cell_of k) cell_count) 0 fields ≡ true
unfolding cell_of all_from
inside = refl

no_size : all_from (λ k. ltb (cell_of k) sizes_at || leb clock_at (cell_of k)) 0 fields ≡ true
unfolding cell_of all_from
no_size = refl

no_word : all_from (λ k. ltb (cell_of k) words_at || leb steps_at (cell_of k)) 0 fields ≡ true
unfolding cell_of all_from
no_word = refl

names-back : all_from (λ k. eqb (place_named (named k)) k) 0 fields ≡ true
unfolding named place_named all_from
names-back = refl

module _ (k : ℕ) (h : k < fields) where
  cell-back : order_of (cell_of k) ≡ k
  cell-back = eqb-true (order_of (cell_of k)) k (all-at (λ k. eqb (order_of (cell_of k)) k) fields k found-again h)

  pub cell-inside : cell_of k < cell_count
  cell-inside = ltb-true (cell_of k) cell_count (all-at (λ k. ltb (cell_of k) cell_count) fields k inside h)

  -- no field is a size
  pub cell-no-size : ltb (cell_of k) sizes_at || leb clock_at (cell_of k) ≡ true
  cell-no-size = all-at (λ k. ltb (cell_of k) sizes_at || leb clock_at (cell_of k)) fields k no_size h

  -- and none a word
  pub cell-no-word : ltb (cell_of k) words_at || leb steps_at (cell_of k) ≡ true
  cell-no-word = all-at (λ k. ltb (cell_of k) words_at || leb steps_at (cell_of k)) fields k no_word h

  -- a field's place in the order is told by its name
  pub name_back : place_named (named k) ≡ k
  name_back = eqb-true (place_named (named k)) k (all-at (λ k. eqb (place_named (named k)) k) fields k names-back h)

-- two fields lie at two places
pub cells-apart : (j k : ℕ) → j < fields → k < fields → j ≢ k → cell_of j ≢ cell_of k
cells-apart j k hj hk d e = d (sym (cell-back j hj) ∙ ap order_of e ∙ cell-back k hk)

-- ---- whatever holds of each object's fields holds of every field
pub each-field : (P : ℕ → Type 0)
    → ((i f : ℕ) → i < 16 → f < 14 → P (i * 14 + f))
    → ((r : ℕ) → r < 8 → P (references_from + r))
    → ((q : ℕ) → q < 8 → P (queues_from + q))
    → ((s : ℕ) → s < 16 → P (semaphores_from + s))
    → ((m f : ℕ) → m < 4 → f < 22 → P (box_field m f))
    → ((q f : ℕ) → q < 4 → f < 66 → P (pool_field q f))
    → ((f : ℕ) → f < 2 → P (clock_from + f))
    → P steps_from
    → (k : ℕ) → k < fields → P k
each-field P threads references queues semaphores boxes pools clock steps k h =
    in-or-out k references_from (λ l. at (omega arith) (threads (k / 14) (k % 14) (omega arith) (omega arith)))
    (λ g1. in-or-out k queues_from (λ l. at (omega arith) (references (k - references_from) (omega arith)))
    (λ g2. in-or-out k semaphores_from (λ l. at (omega arith) (queues (k - queues_from) (omega arith)))
    (λ g3. in-or-out k mailboxes_from (λ l. at (omega arith) (semaphores (k - semaphores_from) (omega arith)))
    (λ g4. in-or-out k pools_from (λ l. at (omega arith) (boxes ((k - mailboxes_from) / 22) ((k - mailboxes_from) % 22) (omega arith) (omega arith)))
    (λ g5. in-or-out k clock_from (λ l. at (omega arith) (pools ((k - pools_from) / 66) ((k - pools_from) % 66) (omega arith) (omega arith)))
    (λ g6. in-or-out k steps_from (λ l. at (omega arith) (clock (k - clock_from) (omega arith)))
    (λ g7. at (omega arith) steps)))))))
  where
    at : {j : ℕ} → j ≡ k → P j → P k
    at e p = subst P e p

-- ---- a name that is a field's is told by its place

module _ (x : Name) (o : ℕ) (e : x.object ≡ o) where
  -- its object has so many rows of so many fields, from a first one on
  row_back : (first rows width : ℕ) → ((n f : ℕ) → n < rows → f < width → named (first + n * width + f) ≡ called o n f)
      → row_at first rows width x.number x.field < fields → named (row_at first rows width x.number x.field) ≡ x
  row_back first rows width lies =
      in-or-out x.number rows
      (λ h. in-or-out x.field width
      (λ l. rw (lt-ltb x.number rows h, lt-ltb x.field width l) (λ s. lies x.number x.field h l ∙ ap (λ (y : ℕ). called y x.number x.field) (sym e)))
      (λ l. rw (lt-ltb x.number rows h, le-ltb x.field width l) (λ s. absurd (omega arith))))
      (λ h. rw (le-ltb x.number rows h) (λ s. absurd (omega arith)))

pub place-back : (x : Name) → place_named x < fields → named (place_named x) ≡ x
unfolding place_named
place-back x =
    same_or x.object 0 (λ e. rw (eq-eqb x.object 0 e) (row_back x 0 e 0 16 14 (λ n f h l. ap named (omega arith) ∙ (thread-lies n f h l).name)))
    (λ d0. same_or x.object 1 (λ e. rw (ne_eqb x.object 0 d0, eq-eqb x.object 1 e) (row_back x 1 e references_from 8 1 (λ n f h l. ap named (omega arith) ∙ (reference-lies n h).name ∙ ap (called 1 n) (omega arith))))
    (λ d1. same_or x.object 2 (λ e. rw (ne_eqb x.object 0 d0, ne_eqb x.object 1 d1, eq-eqb x.object 2 e) (row_back x 2 e queues_from 8 1 (λ n f h l. ap named (omega arith) ∙ (queue-lies n h).name ∙ ap (called 2 n) (omega arith))))
    (λ d2. same_or x.object 3 (λ e. rw (ne_eqb x.object 0 d0, ne_eqb x.object 1 d1, ne_eqb x.object 2 d2, eq-eqb x.object 3 e) (row_back x 3 e semaphores_from 16 1 (λ n f h l. ap named (omega arith) ∙ (semaphore-lies n h).name ∙ ap (called 3 n) (omega arith))))
    (λ d3. same_or x.object 4 (λ e. rw (ne_eqb x.object 0 d0, ne_eqb x.object 1 d1, ne_eqb x.object 2 d2, ne_eqb x.object 3 d3, eq-eqb x.object 4 e) (row_back x 4 e mailboxes_from 4 22 (λ n f h l. ap named (omega arith) ∙ (box-lies n f h l).name)))
    (λ d4. same_or x.object 5 (λ e. rw (ne_eqb x.object 0 d0, ne_eqb x.object 1 d1, ne_eqb x.object 2 d2, ne_eqb x.object 3 d3, ne_eqb x.object 4 d4, eq-eqb x.object 5 e) (row_back x 5 e pools_from 4 66 (λ n f h l. ap named (omega arith) ∙ (pool-lies n f h l).name)))
    (λ d5. same_or x.object 6 (λ e. rw (ne_eqb x.object 0 d0, ne_eqb x.object 1 d1, ne_eqb x.object 2 d2, ne_eqb x.object 3 d3, ne_eqb x.object 4 d4, ne_eqb x.object 5 d5, eq-eqb x.object 6 e) (row_back x 6 e clock_from 1 2 (λ n f h l. ap named (omega arith) ∙ (clock-lies f l).name ∙ ap (λ (y : ℕ). called 6 y f) (omega arith))))
    (λ d6. same_or x.object 7 (λ e. rw (ne_eqb x.object 0 d0, ne_eqb x.object 1 d1, ne_eqb x.object 2 d2, ne_eqb x.object 3 d3, ne_eqb x.object 4 d4, ne_eqb x.object 5 d5, ne_eqb x.object 6 d6, eq-eqb x.object 7 e) (row_back x 7 e steps_from 1 1 (λ n f h l. ap named (omega arith) ∙ steps-lies.name ∙ ap (λ (y : ℕ). called 7 y 0) (omega arith) ∙ ap (called 7 n) (omega arith))))
    (λ d7. rw (ne_eqb x.object 0 d0, ne_eqb x.object 1 d1, ne_eqb x.object 2 d2, ne_eqb x.object 3 d3, ne_eqb x.object 4 d4, ne_eqb x.object 5 d5, ne_eqb x.object 6 d6, ne_eqb x.object 7 d7) (λ s. absurd (omega arith))))))))))

-- ---- names rise with the fields: by object, then number, then field

abbrev key_of : Name → ℕ
key_of x = x.object * 65536 + (x.number * 256 + x.field)

-- one name stands before another
pub record Rises (x y : Name) : Type 0 where
  pub object : x.object ≤ y.object
  pub number : x.object ≡ y.object → x.number ≤ y.number
  pub field : x.object ≡ y.object → x.number ≡ y.number → x.field < y.field

neighbours : all_from (λ k. ltb (key_of (named k)) (key_of (named (k + 1)))) 0 steps_from ≡ true
unfolding named all_from
neighbours = refl

small-names : all_from (λ k. ltb (named k).number 256 && ltb (named k).field 256) 0 fields ≡ true
unfolding named all_from
small-names = refl

keys-rise : (j n : ℕ) → j + suc n < fields → key_of (named j) < key_of (named (j + suc n))
keys-rise j zero h =
    ltb-true (key_of (named j)) (key_of (named (j + 1))) (all-at (λ k. ltb (key_of (named k)) (key_of (named (k + 1)))) steps_from j neighbours (omega arith))
keys-rise j (suc n) h =
    let so_far = keys-rise j n (omega arith) in
    let next = ltb-true (key_of (named (j + suc n))) (key_of (named (j + suc n + 1)))
    (all-at (λ k. ltb (key_of (named k)) (key_of (named (k + 1)))) steps_from (j + suc n) neighbours (omega arith)) in
    let same : j + suc n + 1 ≡ j + suc (suc n) = omega arith in
    rw same at (lt_trans so_far next)

pub names-rise : (j k : ℕ) → j < k → k < fields → Rises (named j) (named k)
names-rise j k l h =
    let on : j + suc (k - j - 1) ≡ k = omega arith in
    let keys : key_of (named j) < key_of (named k) = rw on at (keys-rise j (k - j - 1) (omega arith)) in
    let fj = both-means _ _ (all-at (λ k. ltb (named k).number 256 && ltb (named k).field 256) fields j small-names (omega arith)) in
    let fk = both-means _ _ (all-at (λ k. ltb (named k).number 256 && ltb (named k).field 256) fields k small-names h) in
    let nj = ltb-true (named j).number 256 fj.0 in
    let gj = ltb-true (named j).field 256 fj.1 in
    let nk = ltb-true (named k).number 256 fk.0 in
    let gk = ltb-true (named k).field 256 fk.1 in
    record { object = omega arith; number = λ e. omega arith; field = λ e d. omega arith }
