-- A pool's free list stays in step with its marks: what is taken is the top and is out, what is put back is on top and is free. The
-- list never overflows: of 32 objects that are each listed at most once, one that is not free is not listed.
use Rattle.std.specs.Prelude.{ℕ, zero, suc, ◌+◌, ◌-◌, ◌≤◌, ◌<◌, ◌≡◌, refl, ◌≢◌, ◌⊎◌, Bool, true, false, eqb, ltb, set, ℤ, pos, negsuc, ◌+ℤ◌}
use Rattle.std.proofs.Common.{sub-one, arith, sym, ap, ◌∙◌, inl, inr, length-set, get_or-set_same, get_or-set_other, eq-eqb, ne_eqb, ltb-true, lt-ltb, le-ltb}
use Rattle.std.proofs.Math.ListN.{length, get_or-eq_default}
use Rattle.std.proofs.Math.Seq.{set_out}
use Rattle.std.specs.Int.Signed.{lt_z}
use Rattle.kernel.specs.declared.records.Call.{Call}
use Rattle.kernel.specs.declared.records.Kernel.{Kernel}
use Rattle.kernel.specs.Places.{pool_place}
use Rattle.kernel.specs.Tables.{counter_at}
use Rattle.kernel.specs.Walk.{bit, count_of}
use Rattle.kernel.specs.Queue.{enqueued}
use Rattle.kernel.specs.Semaphore.{taken}
use Rattle.kernel.proofs.Cases.{split, same_or, in-or-out, contrary}
use Rattle.kernel.proofs.WalkLaws.{count-agree, count_none}
use Rattle.library.specs.declared.tables.Pool.{Pool}
use Rattle.library.specs.declared.tables.Plant.{Plant}
use Rattle.library.specs.Tables.{blank_pool, pool_at, with_kernel, with_pool}
use Rattle.library.specs.Pool.{absent, free, out, listed_at, mark_at, top_of, popped, pushed, handed_over, alloc_tried, put_back}
use Rattle.rules.specs.PoolRules.{occurrences, larger}
use Rattle.promises.specs.Together.Tests.{used_all}
use Rattle.promises.specs.Together.Good.{GoodPool}

-- what a good pool is beside its counter and its promises
pub record Listed (x : Pool) : Type 0 where
  pub length : x.length ≤ 32
  pub once : (o : ℕ) → o < 32 → mark_at x o ≡ free → occurrences x o ≡ 1
  pub no_other : (o : ℕ) → o < 32 → mark_at x o ≢ free → occurrences x o ≡ 0
  pub objects : (j : ℕ) → j < x.length → listed_at x j < 32
  pub marks : (o : ℕ) → o < 32 → (mark_at x o ≡ absent) ⊎ ((mark_at x o ≡ free) ⊎ (mark_at x o ≡ out))

-- room for 32 objects
pub record PoolSized (x : Pool) : Type 0 where
  pub list : length x.list ≡ 32
  pub marks : length x.marks ≡ 32

-- a good pool is listed rightly
pub good-listed : {x : Pool} {c : ℤ} {promised : ℕ} → GoodPool x c promised → Listed x
good-listed g = record { length = g.length; once = g.once; no_other = g.no_other; objects = g.objects; marks = g.marks }

-- and one listed rightly, of the right length, is good
pub listed-good : {x : Pool} {c : ℤ} {promised : ℕ} → Listed x → pos x.length ≡ larger c +ℤ pos promised → GoodPool x c promised
listed-good g e =
    record {
      length = g.length;
      once = g.once;
      no_other = g.no_other;
      objects = g.objects;
      promises = e;
      marks = g.marks;
    }

-- ---- a list that is not empty

-- the larger of a counter and 0, as a number
abbrev pub stock : ℤ → ℕ
stock (pos n) = n
stock (negsuc n) = 0

-- a stock of at most 32 is below the top
pub stock-below : (c : ℤ) → stock c ≤ 32 → lt_z c (pos 2147483647) ≡ true
stock-below (pos m) h = lt-ltb m 2147483647 (omega arith)
stock-below (negsuc m) h = refl

larger-stock : (c : ℤ) → larger c ≡ pos (stock c)
larger-stock (pos n) = rw (le-ltb n 0 (omega arith))
larger-stock (negsuc n) = refl

-- a length in numbers is the length that the paper says
pub length-promises : (x : Pool) (c : ℤ) (promised : ℕ) → x.length ≡ stock c + promised → pos x.length ≡ larger c +ℤ pos promised
length-promises x c promised e = rw (larger-stock c) (ap pos e)

module _ {x : Pool} {c : ℤ} {promised : ℕ} (g : GoodPool x c promised) where
  -- "its length is the larger of counter and 0, plus" the promised objects, in numbers
  pub good_length : x.length ≡ stock c + promised
  good_length = let e : pos x.length ≡ pos (stock c + promised) = g.promises ∙ rw (larger-stock c) in cc

  -- a counter above 0 has an object on the list
  pub stocked : lt_z (pos 0) c ≡ true → 0 < x.length
  stocked e = omega (arith, good_length, stock-above c e)
    where
      stock-above : (c : ℤ) → lt_z (pos 0) c ≡ true → 0 < stock c
      stock-above (pos n) e = omega (arith, ltb-true 0 n e)
      stock-above (negsuc n) e = contrary e refl

  -- so has a promise
  pub promised-stocked : 0 < promised → 0 < x.length
  promised-stocked h = omega (arith, good_length)

-- ---- how often an object is listed

-- whether place j has the object o
abbrev entry : Pool → ℕ → ℕ → Bool
entry x o j = eqb (listed_at x j) o

occurs : (x : Pool) (o : ℕ) → x.length ≤ 32 → occurrences x o ≡ count_of (entry x o) x.length
unfolding occurrences
occurs x o h = rw (used_all 32 x.length h)

-- the objects up to and with b are those below b, and b
bit-next : (a b : ℕ) → bit (ltb a (suc b)) ≡ bit (ltb a b) + bit (eqb a b)
bit-next a b =
    same_or a b (λ e. rw (lt-ltb a (suc b) (omega arith), le-ltb a b (omega arith), eq-eqb a b e))
    (λ d. rw (ne_eqb a b d)
    (in-or-out a b (λ h. rw (lt-ltb a b h, lt-ltb a (suc b) (omega arith)))
    (λ h. rw (le-ltb a b h, le-ltb a (suc b) (omega arith)))))

count_next : (f : ℕ → ℕ) (b n : ℕ)
    → count_of (λ j. ltb (f j) (suc b)) n ≡ count_of (λ j. ltb (f j) b) n + count_of (λ j. eqb (f j) b) n
unfolding count_of
count_next f b zero = refl
count_next f b (suc n) = omega (arith, count_next f b n, bit-next (f n) b)

-- if all pass, as many are counted
count-all : (f : ℕ → Bool) (n : ℕ) → ((j : ℕ) → j < n → f j ≡ true) → count_of f n ≡ n
unfolding count_of
count-all f zero h = refl
count-all f (suc n) h = rw (h n (omega arith), count-all f n (λ j l. h j (omega arith))) (omega arith)

module _ (x : Pool) (g : Listed x) where
  -- no object is listed twice
  at-most-once : (o : ℕ) → o < 32 → count_of (entry x o) x.length ≤ 1
  at-most-once o h =
      same_or (mark_at x o) free (λ e. omega (arith, occurs x o g.length, g.once o h e))
      (λ d. omega (arith, occurs x o g.length, g.no_other o h d))

  -- one that is not free leaves a place of the list unused
  module _ (o : ℕ) (within : o < 32) (unlisted : mark_at x o ≢ free) where
    below : (b : ℕ) → b ≤ 32 → count_of (λ j. ltb (listed_at x j) b) x.length + bit (ltb o b) ≤ b
    below zero h =
        rw (count_none (λ j. ltb (listed_at x j) 0) x.length (λ j l. le-ltb (listed_at x j) 0 (omega arith)), le-ltb o 0 (omega arith))
        (omega arith)
    below (suc b) h =
        omega (arith, count_next (listed_at x) b x.length, bit-next o b, below b (omega arith), one)
      where
        one : count_of (entry x b) x.length + bit (eqb o b) ≤ 1
        one =
            same_or o b
            (λ e. rw (eq-eqb o b e, ← e) (omega (arith, occurs x o g.length, g.no_other o within unlisted)))
            (λ d. rw (ne_eqb o b d) (omega (arith, at-most-once b (omega arith))))

    -- so the list is not full
    pub unlisted-short : x.length < 32
    unlisted-short =
        omega (
          arith,
          rw (
            count-all (λ j. ltb (listed_at x j) 32) x.length (λ j l. lt-ltb (listed_at x j) 32 (g.objects j l)),
            lt-ltb o 32 within,
          ) at (below 32 (omega arith)),
        )

-- ---- the top is taken

-- the top of a pool x was free; in h it is out and off the list, and all else is as it was
pub record Popped (x h : Pool) : Type 0 where
  pub object : top_of x < 32
  pub was : mark_at x (top_of x) ≡ free
  pub now : mark_at h (top_of x) ≡ out
  pub others : (o : ℕ) → o ≢ top_of x → mark_at h o ≡ mark_at x o
  pub rest : (j : ℕ) → listed_at h j ≡ listed_at x j
  pub fewer : h.length + 1 ≡ x.length
  pub listed : Listed h
  pub sized : PoolSized h

count-last : (f : ℕ → Bool) (n : ℕ) → 0 < n → count_of f n ≡ count_of f (n - 1) + bit (f (n - 1))
unfolding count_of
count-last f zero h = absurd (omega arith)
count-last f (suc n) h = rw (sub-one (suc n))

out-free : out ≡ free → ⊥
out-free e = omega arith

module _ (x : Pool) (g : Listed x) (s : PoolSized x) (some : 0 < x.length) where
  abbrev less : Pool
  less = record { length = x.length - 1; list = x.list; marks = set x.marks (top_of x) out }

  pop-is : popped x ≡ less
  unfolding popped
  pop-is = rw (lt-ltb 0 x.length some)

  top-is : top_of x ≡ listed_at x (x.length - 1)
  top-is = rw (lt-ltb 0 x.length some)

  top-object : top_of x < 32
  top-object = rw top-is (g.objects (x.length - 1) (omega arith))

  pop-occurs : (o : ℕ) → occurrences x o ≡ occurrences less o + bit (eqb (top_of x) o)
  pop-occurs o =
      rw (occurs x o g.length, occurs less o few, top-is) (count-last (entry x o) x.length some)
    where
      few : x.length - 1 ≤ 32
      few = omega (arith, g.length)

  pop-now : mark_at less (top_of x) ≡ out
  pop-now = get_or-set_same x.marks (top_of x) out absent (rw s.marks top-object)

  pop-others : (o : ℕ) → o ≢ top_of x → mark_at less o ≡ mark_at x o
  pop-others o d = get_or-set_other x.marks (top_of x) o out absent d

  pop-was : mark_at x (top_of x) ≡ free
  pop-was =
      same_or (mark_at x (top_of x)) free (λ e. e)
      (λ d. absurd (omega (arith, rw (eq-eqb (top_of x) (top_of x) refl) at (pop-occurs (top_of x)), g.no_other (top_of x) top-object d)))

  -- an object other than the top is listed as often as it was
  pop-same : (o : ℕ) → o ≢ top_of x → occurrences less o ≡ occurrences x o
  pop-same o d = omega (arith, rw (ne_eqb (top_of x) o (λ e. d (sym e))) at (pop-occurs o))

  pop-none : occurrences less (top_of x) ≡ 0
  pop-none =
      omega (arith, rw (eq-eqb (top_of x) (top_of x) refl) at (pop-occurs (top_of x)), g.once (top_of x) top-object pop-was)

  pop-listed : Listed less
  pop-listed =
      record {
        length = omega (arith, g.length);
        once = λ o h e.
            same_or o (top_of x) (λ a. absurd (out-free (sym pop-now ∙ rw a at e)))
            (λ d. pop-same o d ∙ g.once o h (sym (pop-others o d) ∙ e));
        no_other = λ o h n.
            same_or o (top_of x) (λ a. rw a pop-none)
            (λ d. pop-same o d ∙ g.no_other o h (λ e. n (pop-others o d ∙ e)));
        objects = λ j h. g.objects j (omega arith);
        marks = λ o h.
            same_or o (top_of x) (λ a. rw a (inr (inr pop-now)))
            (λ d. rw (pop-others o d) (g.marks o h));
      }

  -- "takes the top"
  pub pop_kept : Popped x (popped x)
  pop_kept =
      rw pop-is
      (record {
        object = top-object;
        was = pop-was;
        now = pop-now;
        others = pop-others;
        rest = λ j. refl;
        fewer = omega arith;
        listed = pop-listed;
        sized = record { list = s.list; marks = length-set x.marks (top_of x) out ∙ s.marks };
      })

-- ---- an object is put back

-- in h the object o is on top of a pool x and free, and all else is as it was
pub record Pushed (x h : Pool) (o : ℕ) : Type 0 where
  pub top : top_of h ≡ o
  pub now : mark_at h o ≡ free
  pub others : (a : ℕ) → a ≢ o → mark_at h a ≡ mark_at x a
  pub rest : (j : ℕ) → j < x.length → listed_at h j ≡ listed_at x j
  pub more : h.length ≡ x.length + 1
  pub listed : Listed h
  pub sized : PoolSized h

module _ (x : Pool) (g : Listed x) (s : PoolSized x) (o : ℕ) (object : o < 32) (unlisted : mark_at x o ≢ free) where
  abbrev pub more : Pool
  more = record { length = x.length + 1; list = set x.list x.length o; marks = set x.marks o free }

  room : x.length < 32
  room = unlisted-short x g o object unlisted

  pub push-is : pushed x o ≡ more
  unfolding pushed
  push-is = rw (lt-ltb x.length 32 room)

  push-last : listed_at more x.length ≡ o
  push-last = get_or-set_same x.list x.length o 0 (rw s.list room)

  push-rest : (j : ℕ) → j < x.length → listed_at more j ≡ listed_at x j
  push-rest j h = get_or-set_other x.list x.length j o 0 (λ e. absurd (omega arith))

  push-now : mark_at more o ≡ free
  push-now = get_or-set_same x.marks o free absent (rw s.marks object)

  push-others : (a : ℕ) → a ≢ o → mark_at more a ≡ mark_at x a
  push-others a d = get_or-set_other x.marks o a free absent d

  push-occurs : (a : ℕ) → occurrences more a ≡ occurrences x a + bit (eqb o a)
  push-occurs a =
      rw (occurs x a g.length, occurs more a few)
      (count-last (entry more a) (x.length + 1) (omega arith)
      ∙ rw (back, push-last, count-agree (entry more a) (entry x a) x.length (λ j h. ap (λ n. eqb n a) (push-rest j h))))
    where
      few : x.length + 1 ≤ 32
      few = omega (arith, room)

      back : x.length + 1 - 1 ≡ x.length
      back = omega arith

  push-same : (a : ℕ) → a ≢ o → occurrences more a ≡ occurrences x a
  push-same a d = omega (arith, rw (ne_eqb o a (λ e. d (sym e))) at (push-occurs a))

  push-listed : Listed more
  push-listed =
      record {
        length = omega (arith, room);
        once = λ a h e.
            same_or a o (λ b. rw b (omega (arith, rw (eq-eqb o o refl) at (push-occurs o), g.no_other o object unlisted)))
            (λ d. push-same a d ∙ g.once a h (sym (push-others a d) ∙ e));
        no_other = λ a h n.
            same_or a o (λ b. absurd (n (rw b push-now)))
            (λ d. push-same a d ∙ g.no_other a h (λ e. n (push-others a d ∙ e)));
        objects = λ j h.
            same_or j x.length (λ e. rw (e, push-last) object)
            (λ d. let l : j < x.length = omega arith in rw (push-rest j l) (g.objects j l));
        marks = λ a h.
            same_or a o (λ b. rw b (inr (inl push-now)))
            (λ d. rw (push-others a d) (g.marks a h));
      }

  push-top : top_of more ≡ o
  push-top =
      let back : x.length + 1 - 1 ≡ x.length = omega arith in
      rw (lt-ltb 0 (x.length + 1) (omega arith), back) push-last

  -- "put the object on top"
  pub push_kept : Pushed x (pushed x o) o
  push_kept =
      rw push-is
      (record {
        top = push-top;
        now = push-now;
        others = push-others;
        rest = push-rest;
        more = refl;
        listed = push-listed;
        sized = record {
          list = length-set x.list x.length o ∙ s.list;
          marks = length-set x.marks o free ∙ s.marks;
        };
      })

-- ---- all pools of the tables

-- each pool that the sizes have is listed rightly, and has room for 32 objects
pub record PoolsListed (p : Plant) : Type 0 where
  pub listed : (q : ℕ) → q < p.sizes.pools → Listed (pool_at p q)
  pub sized : (q : ℕ) → q < p.sizes.pools → PoolSized (pool_at p q)

-- a call on the pool n leaves all of them so, every other pool as it was, and touches neither sizes nor mailboxes
pub record PoolsKept (p h : Plant) (n : ℕ) : Type 0 where
  pub all : PoolsListed h
  pub others : (q : ℕ) → q ≢ n → pool_at h q ≡ pool_at p q
  pub pools : length h.pools ≡ length p.pools
  pub sizes : h.sizes ≡ p.sizes
  pub mailboxes : h.mailboxes ≡ p.mailboxes

-- a pool written
pool-same : (p : Plant) (n : ℕ) (x : Pool) → n < length p.pools → pool_at (with_pool p n x) n ≡ x
pool-same p n x h = get_or-set_same p.pools n x blank_pool h

module _ (p : Plant) (g : PoolsListed p) where
  kernel-kept : (k : Kernel) (n : ℕ) → PoolsKept p (with_kernel p k) n
  kernel-kept k n = record {
    all = record { listed = g.listed; sized = g.sized };
    others = λ q d. refl;
    pools = refl;
    sizes = refl;
    mailboxes = refl;
  }

  -- what one pool written has, all have
  written : (P : Pool → Type 0) (n : ℕ) (x : Pool) → P x → ((q : ℕ) → q < p.sizes.pools → P (pool_at p q))
      → (q : ℕ) → q < p.sizes.pools → P (pool_at (with_pool p n x) q)
  written P n x f all q h =
      same_or q n
      (λ e. rw e
      (in-or-out n (length p.pools) (λ l. rw (pool-same p n x l) f)
      (λ l. rw (set_out p.pools n x l) (rw e at (all q h)))))
      (λ d. rw (get_or-set_other p.pools n q x blank_pool d) (all q h))

  pool-kept : (k : Kernel) (n : ℕ) (x : Pool) → Listed x → PoolSized x → PoolsKept p (with_pool (with_kernel p k) n x) n
  pool-kept k n x l s =
      record {
        all = record { listed = written Listed n x l g.listed; sized = written PoolSized n x s g.sized };
        others = λ q d. get_or-set_other p.pools n q x blank_pool d;
        pools = length-set p.pools n x;
        sizes = refl;
        mailboxes = refl;
      }

  module _ (n : ℕ) (there : n < p.sizes.pools) where
    -- an object handed over
    module _ (i : ℕ) (some : 0 < (pool_at p n).length) where
      taken-top : Popped (pool_at p n) (popped (pool_at p n))
      taken-top = pop_kept (pool_at p n) (g.listed n there) (g.sized n there) some

      -- all pools are kept
      pub hand-over-kept : PoolsKept p (handed_over p i n) n
      unfolding handed_over
      hand-over-kept = pool-kept _ n (popped (pool_at p n)) taken-top.listed taken-top.sized

      -- and this one has lost its top
      pub hand-over-popped : Popped (pool_at p n) (pool_at (handed_over p i n) n)
      unfolding handed_over
      hand-over-popped = rw (pool-same p n (popped (pool_at p n)) row) taken-top
        where
          -- past the end of the table a pool is empty
          row : n < length p.pools
          row =
              in-or-out n (length p.pools) (λ h. h)
              (λ h. absurd (omega (arith, rw (get_or-eq_default p.pools blank_pool h) at some)))

    -- an object put back
    module _ (o : ℕ) (object : o < 32) (unlisted : mark_at (pool_at p n) o ≢ free) where
      put-top : Pushed (pool_at p n) (pushed (pool_at p n) o) o
      put-top = push_kept (pool_at p n) (g.listed n there) (g.sized n there) o object unlisted

      -- all pools are kept
      pub put-back-kept : PoolsKept p (put_back p n o) n
      unfolding put_back
      put-back-kept = pool-kept _ n (pushed (pool_at p n) o) put-top.listed put-top.sized

      -- and this one has the object on top
      pub put-back-pushed : n < length p.pools → Pushed (pool_at p n) (pool_at (put_back p n o) n) o
      unfolding put_back
      put-back-pushed h = rw (pool-same p n (pushed (pool_at p n) o) h) put-top

-- ---- alloc

module _ (p : Plant) (i : ℕ) (call : Call) where
  abbrev c : ℤ
  c = counter_at p.kernel (pool_place call.object)

  -- a counter above 0 is lowered and the top handed over
  pub alloc-above : lt_z (pos 0) c ≡ true
      → alloc_tried p i call ≡ handed_over (with_kernel p (taken p.kernel (pool_place call.object))) i call.object
  unfolding alloc_tried
  alloc-above e = rw e

  -- any other is waited on
  pub alloc-not-above : lt_z (pos 0) c ≡ false
      → alloc_tried p i call ≡ with_kernel p (enqueued p.kernel i (pool_place call.object) call)
  unfolding alloc_tried
  alloc-not-above e = rw e

  module _ (g : PoolsListed p) (there : call.object < p.sizes.pools) where
    begun : PoolsListed (with_kernel p (taken p.kernel (pool_place call.object)))
    begun = record { listed = g.listed; sized = g.sized }

    -- all pools are kept
    pub alloc-kept : (lt_z (pos 0) c ≡ true → 0 < (pool_at p call.object).length) → PoolsKept p (alloc_tried p i call) call.object
    alloc-kept some =
        split (lt_z (pos 0) c)
        (λ e.
        let k = hand-over-kept (with_kernel p (taken p.kernel (pool_place call.object))) begun call.object there i (some e) in
        rw (alloc-above e)
        (record { all = k.all; others = k.others; pools = k.pools; sizes = k.sizes; mailboxes = k.mailboxes }))
        (λ e. rw (alloc-not-above e) (kernel-kept p g (enqueued p.kernel i (pool_place call.object) call) call.object))

    -- and this one has lost its top, where the counter was above 0
    pub alloc-popped : lt_z (pos 0) c ≡ true → 0 < (pool_at p call.object).length
        → Popped (pool_at p call.object) (pool_at (alloc_tried p i call) call.object)
    alloc-popped e some =
        rw (alloc-above e)
        (hand-over-popped (with_kernel p (taken p.kernel (pool_place call.object))) begun call.object there i some)
