-- The list of a comparison, applied to the first, gives the second; and it is empty exactly if the two are equal.
use Rattle.std.specs.Prelude.{ℕ, zero, suc, ◌+◌, ◌/◌, ◌%◌, ◌≤◌, ◌<◌, ◌≡◌, Bool, cond, ◌&&◌, List, [], ◌∷◌, ◌++◌, eqb, ltb, ℤ, length, get_or}
use Rattle.std.proofs.Common.{arith, sym, ap, ◌∙◌, append-nil, get_or-append-add, ltb-true}
use Rattle.std.proofs.Math.Path.{refl, subst⁻¹}
use Rattle.kernel.specs.declared.clock.Clock.{Clock}
use Rattle.kernel.specs.declared.records.Thread.{Thread}
use Rattle.kernel.proofs.Cases.{split}
use Rattle.library.specs.declared.ring.Positions.{Positions}
use Rattle.library.specs.declared.sizes.Sizes.{Sizes}
use Rattle.library.specs.declared.tables.Tables.{Tables}
use Rattle.compare.specs.declared.cells.Kept.{Kept}
use Rattle.compare.specs.Held.{limit_of, Held, AllWithin}
use Rattle.compare.specs.Order.{fields, cell_of, reading_of}
use Rattle.compare.specs.Compared.{changed, numbers}
use Rattle.compare.specs.Renewed.{renewed}
use Rattle.compare.specs.Applied.{stored_in, applied_to, applied_numbers, applied_list}
use Rattle.compare.proofs.ChangesLaws.{applying-keeps}
use Rattle.compare.proofs.CellsLaws.{store-sizes-kept}
use Rattle.compare.proofs.OrderLaws.{cell-no-size}
use Rattle.compare.proofs.ComparedLaws.{applying, applying-held}
use Rattle.compare.proofs.ReadBackLaws.{numbers-long, read_back}
use Rattle.promises.specs.Paper.World.{found}
use Rattle.promises.specs.Paper.Together.{WordsAgree, InUse, WordOf, is_ready, is_queued}
use Rattle.promises.specs.Paper.Compare.{bits, thread_fields, holds, Counts, SameSizes, Equal, SameWords, Differs, Whole}
use Rattle.promises.specs.Meant.Words.{mask-only}
use Rattle.promises.specs.Meant.Equal.{thread-same, reference-same, semaphore-same, queue-same, pool-counter-same, side_same, box-same, pool-same, clock-same, steps-same}
use Rattle.promises.specs.Meant.Fields.{before-seam}
use Rattle.promises.specs.Meant.Compare.{whole-ranged}

-- ---- "Applying the list to the first .. must give the second"

module _ (a b : Kept) (ha : Held a) (hb : Held b) (within : AllWithin b) (wb : Whole b.tables b.clock)
    (sizes : SameSizes a.tables.sizes b.tables.sizes) where
  abbrev x : Kept
  x = applied_to a (changed a b fields)

  sizes-kept : x.tables.sizes ≡ a.tables.sizes
  unfolding applied_to changed
  sizes-kept =
      applying-keeps stored_in (λ (x : Kept). x.tables.sizes ≡ a.tables.sizes) fields
      (λ x k v l e. store-sizes-kept x (cell_of k) (v % limit_of (cell_of k)) (cell-no-size k l) ∙ e) (reading_of a) (reading_of b) a refl fields (omega arith)

  pub rows-equal : Equal x.tables x.clock b.tables b.clock
  rows-equal =
      let h = applying-held a b ha within fields (omega arith) in
      let same = applying a b ha within fields (omega arith) in
      let ranged = whole-ranged b wb in
      record {
        sizes = subst⁻¹ (λ (z : Sizes). SameSizes z b.tables.sizes) sizes-kept sizes;
        threads = thread-same x b h hb same ranged.threads;
        references = reference-same x b h hb same ranged.references;
        semaphores = semaphore-same x b h hb same ranged.semaphores;
        pool-counters = pool-counter-same x b h hb same ranged.pools;
        queues = queue-same x b h hb same ranged.queues;
        writers = λ m u. side_same x b h hb same ranged.mailboxes m 0 u (omega arith);
        readers = λ m u. side_same x b h hb same ranged.mailboxes m 1 u (omega arith);
        mailboxes = λ m u. box-same x b h hb same ranged.mailboxes m u (ranged.read m u) (ranged.count m u) (ranged.slots m u);
        pools = λ q u. pool-same x b h hb same ranged.pools q u (ranged.lengths q u);
        clock = clock-same x b h hb same;
        steps = steps-same x b h hb same;
      }

  -- the list as it is lent
  abbrev list : List ℕ
  list = numbers (changed a b fields)

  abbrev y : Kept
  y = (applied_list a list).kept

  list-applied : applied_numbers a list (length list / 5) ≡ x
  list-applied =
      let many : length list / 5 ≡ length (changed a b fields) = omega (arith, numbers-long (changed a b fields)) in
      ap (applied_numbers a list) many
      ∙ ap (λ (l : List ℕ). applied_numbers a l (length (changed a b fields))) (sym (append-nil list))
      ∙ read_back a b fields (omega arith) []

  -- words apart, which are made anew
  renewed-equal : (v : Kept) → Equal v.tables v.clock b.tables b.clock → Equal (renewed v).tables (renewed v).clock b.tables b.clock
  unfolding renewed
  renewed-equal v e =
      record {
        sizes = e.sizes;
        threads = e.threads;
        references = e.references;
        semaphores = e.semaphores;
        pool-counters = e.pool-counters;
        queues = e.queues;
        writers = e.writers;
        readers = e.readers;
        mailboxes = e.mailboxes;
        pools = e.pools;
        clock = e.clock;
        steps = e.steps;
      }

  pub rejoined : Equal y.tables y.clock b.tables b.clock
  unfolding applied_list
  rejoined = renewed-equal (applied_numbers a list (length list / 5)) (subst⁻¹ (λ (v : Kept). Equal v.tables v.clock b.tables b.clock) list-applied rows-equal)

-- ---- the words of equal tables that agree with their records

-- two walks over as many threads that find the same make the same word
word_same : (f g : ℕ → Bool) (k j : ℕ) → k ≡ j → ((i : ℕ) → i < j → f i ≡ g i) → (n m : ℕ) → WordOf f k n → WordOf g j m → n ≡ m
word_same f g k j e same n m a b =
    mask-only (λ i. ltb i j && g i) n m
    (λ i. a i
    ∙ ap (λ (h : ℕ). cond (ltb i h && f i) 1 0) e
    ∙ split (ltb i j) (λ h. rw (h, same i (ltb-true i j h))) (λ h. rw h))
    b

fewer : {n m i : ℕ} → n ≡ m → i < m → i < n
fewer e h = omega (arith, e)

module _ (t : Tables) (c : Clock) (u : Tables) (d : Clock) (e : Equal t c u d) where
  use-same : (p : ℕ) → InUse u.sizes p → InUse t.sizes p
  use-same p (InUse.semaphore h) = InUse.semaphore (fewer e.sizes.semaphores h)
  use-same p (InUse.pool q h s) = InUse.pool q (fewer e.sizes.pools h) s
  use-same p (InUse.queue q h s) = InUse.queue q (fewer e.sizes.queues h) s
  use-same p (InUse.writers m h s) = InUse.writers m (fewer e.sizes.mailboxes h) s
  use-same p (InUse.readers m h s) = InUse.readers m (fewer e.sizes.mailboxes h) s

  pub same-words : WordsAgree (found t) t.kernel.words → WordsAgree (found u) u.kernel.words → SameWords t u
  same-words f g =
      record {
        ready =
            word_same (is_ready (found t)) (is_ready (found u)) t.sizes.threads u.sizes.threads e.sizes.threads
            (λ i h. ap (λ (r : Thread). eqb r.state 0) (e.threads i h)) _ _ f.ready g.ready;
        waiting = λ p used.
            word_same (is_queued (found t) p) (is_queued (found u) p) t.sizes.threads u.sizes.threads e.sizes.threads
            (λ i h. ap (λ (r : Thread). eqb r.state 3 && eqb r.place p) (e.threads i h)) _ _ (f.waiting p (use-same p used)) (g.waiting p used);
      }

  -- ---- what counts of equal tables, and what it holds

  pub equal-counts : {o n f : ℕ} → Counts u o n f → Counts t o n f
  equal-counts (Counts.thread {i} h l) = Counts.thread (fewer e.sizes.threads h) l
  equal-counts (Counts.reference h) = Counts.reference (fewer e.sizes.references h)
  equal-counts (Counts.queue h) = Counts.queue (fewer e.sizes.queues h)
  equal-counts (Counts.semaphore h) = Counts.semaphore (fewer e.sizes.semaphores h)
  equal-counts (Counts.mailbox h l) = Counts.mailbox (fewer e.sizes.mailboxes h) l
  equal-counts (Counts.message {m} {s} h j l p) =
      let b = (e.mailboxes m h).positions in
      Counts.message {m = m} {s = s} (fewer e.sizes.mailboxes h) j (fewer (ap (λ (q : Positions). q.count) b) l)
      (p ∙ ap (λ (q : Positions). (q.read + j) % get_or u.sizes.slots m 0) (sym b)
      ∙ ap (λ (n : ℕ). (((found t).box m).positions.read + j) % n) (sym (e.sizes.slots m h)))
  equal-counts (Counts.pool h l) = Counts.pool (fewer e.sizes.pools h) l
  equal-counts (Counts.listed {q} h l) = Counts.listed (fewer e.sizes.pools h) (fewer (e.pools q h).length l)
  equal-counts (Counts.mark h l) = Counts.mark (fewer e.sizes.pools h) l
  equal-counts (Counts.clock h) = Counts.clock h
  equal-counts Counts.steps = Counts.steps

  -- the first six fields of a mailbox
  head-same : (m : ℕ) → m < u.sizes.mailboxes → (f : ℕ) → f < 6 → holds t c 4 m f ≡ holds u d 4 m f
  head-same m h f l =
      let b = e.mailboxes m h in
      let heads : head_of ((found t).counter (28 + m)) ((found t).counter (32 + m)) ((found t).box m).positions ((found t).box m).reset
      ≡ head_of ((found u).counter (28 + m)) ((found u).counter (32 + m)) ((found u).box m).positions ((found u).box m).reset
      = ap (λ (w : ℤ). head_of w ((found t).counter (32 + m)) ((found t).box m).positions ((found t).box m).reset) (e.writers m h)
      ∙ ap (λ (r : ℤ). head_of ((found u).counter (28 + m)) r ((found t).box m).positions ((found t).box m).reset) (e.readers m h)
      ∙ ap (λ (q : Positions). head_of ((found u).counter (28 + m)) ((found u).counter (32 + m)) q ((found t).box m).reset) b.positions
      ∙ ap (head_of ((found u).counter (28 + m)) ((found u).counter (32 + m)) ((found u).box m).positions) b.reset in
      before-seam (head_of ((found t).counter (28 + m)) ((found t).counter (32 + m)) ((found t).box m).positions ((found t).box m).reset) ((found t).box m).messages f 0 l
      ∙ ap (λ (v : List ℕ). get_or v f 0) heads
      ∙ sym (before-seam (head_of ((found u).counter (28 + m)) ((found u).counter (32 + m)) ((found u).box m).positions ((found u).box m).reset) ((found u).box m).messages f 0 l)
    where
      head_of : ℤ → ℤ → Positions → ℕ → List ℕ
      head_of w r q reset = bits w ∷ bits r ∷ q.read ∷ q.write ∷ q.count ∷ reset ∷ []

  -- a pool's first two fields
  pool-head-same : (q : ℕ) → q < u.sizes.pools → (f : ℕ) → f < 2 → holds t c 5 q f ≡ holds u d 5 q f
  pool-head-same q h zero l = ap bits (e.pool-counters q h)
  pool-head-same q h (suc zero) l = (e.pools q h).length
  pool-head-same q h (suc (suc f)) l = absurd (omega arith)

  -- a host's free lists have 32 places
  module _ (long : (q : ℕ) → q < u.sizes.pools → (length ((found t).pool q).list ≡ 32) × (length ((found u).pool q).list ≡ 32))
      (short : (q : ℕ) → q < u.sizes.pools → ((found u).pool q).length ≤ 32) where
    pub equal-holds : {o n f : ℕ} → Counts u o n f → holds t c o n f ≡ holds u d o n f
    equal-holds (Counts.thread {i} {f} h l) = ap (λ (r : Thread). get_or (thread_fields r) f 0) (e.threads i h)
    equal-holds (Counts.reference {r} h) = e.references r h
    equal-holds (Counts.queue {q} h) = ap bits (e.queues q h)
    equal-holds (Counts.semaphore {s} h) = ap bits (e.semaphores s h)
    equal-holds (Counts.mailbox {m} {f} h l) = head-same m h f l
    equal-holds (Counts.message {m} {s} h j l p) =
        let on : 6 + s ≡ suc (suc (suc (suc (suc (suc s))))) = omega arith in
        rw on
        (ap (λ (i : ℕ). get_or ((found t).box m).messages i 0) p
        ∙ (e.mailboxes m h).messages j l
        ∙ ap (λ (i : ℕ). get_or ((found u).box m).messages i 0) (sym p))
    equal-holds (Counts.pool {q} {f} h l) = pool-head-same q h f l
    equal-holds (Counts.listed {q} {j} h l) =
        let on : 2 + j ≡ suc (suc j) = omega arith in
        let few = short q h in
        rw on
        (before-seam ((found t).pool q).list ((found t).pool q).marks j 0 (omega (arith, (long q h).0))
        ∙ (e.pools q h).list j l
        ∙ sym (before-seam ((found u).pool q).list ((found u).pool q).marks j 0 (omega (arith, (long q h).1))))
    equal-holds (Counts.mark {q} {x} h l) =
        let on : 34 + x ≡ suc (suc (32 + x)) = omega arith in
        rw on
        (ap (λ (n : ℕ). get_or (((found t).pool q).list ++ ((found t).pool q).marks) (n + x) 0) (sym (long q h).0)
        ∙ get_or-append-add ((found t).pool q).list ((found t).pool q).marks x 0
        ∙ (e.pools q h).marks x l
        ∙ sym (get_or-append-add ((found u).pool q).list ((found u).pool q).marks x 0)
        ∙ ap (λ (n : ℕ). get_or (((found u).pool q).list ++ ((found u).pool q).marks) (n + x) 0) (long q h).1)
    equal-holds (Counts.clock {f} h) = ap (λ (k : Clock). cond (eqb f 0) k.time.0 k.frequency) e.clock
    equal-holds Counts.steps = e.steps

    -- so no field of equal tables differs
    pub equal-none : {o n f v : ℕ} → Differs t c u d o n f v → ⊥
    equal-none (Differs.changed x y other) = other (equal-holds y)
    equal-none (Differs.only-second x y) = x (equal-counts y)
