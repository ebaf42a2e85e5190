-- The tests of mailboxes and pools say exactly that these are good.
use Rattle.std.specs.Prelude.{ℕ, ◌≤◌, ◌<◌, ◌≡◌, ◌≢◌, ◌⊎◌, true, ◌&&◌, eqb, leb, ℤ, ◌-ℤ◌}
use Rattle.std.proofs.Common.{arith, inl, inr}
use Rattle.std.proofs.Math.Dec.{ltb}
use Rattle.std.proofs.Math.IntN.{pos}
use borrow.Author.Tests.{eqb-true, eqb-false, eq-eqb, ne_eqb, ltb-true, lt-ltb, leb-true, le-leb}
use Rattle.kernel.specs.Places.{pool_place}
use Rattle.kernel.specs.Tables.{counter_at}
use Rattle.kernel.proofs.Cases.{same_or, chosen, both_true, both-means}
use Rattle.kernel.proofs.WalkLaws.{all-at, all_of}
use Rattle.library.specs.declared.tables.Pool.{Pool}
use Rattle.library.specs.declared.tables.Plant.{Plant}
use Rattle.library.specs.Sizes.{slots_at}
use Rattle.library.specs.Tables.{mailbox_at, pool_at}
use Rattle.library.specs.Pool.{absent, free, out, listed_at, mark_at}
use Rattle.library.proofs.RingLaws.{Fitting, fit-means, fit_of}
use Rattle.rules.specs.MailboxRules.{mailbox_fits, mailboxes_fit}
use Rattle.rules.specs.PoolRules.{
  promised_count,
  occurrences,
  entries_fit,
  object_fits,
  object_agrees,
  objects_fit,
  larger,
  length_fits,
  pool_fits,
  pool_agrees,
  pools_fit,
}
use Rattle.promises.specs.Together.Tests.{used_all, same-means, same_of, sum_of, difference-of}
use Rattle.promises.specs.Together.Good.{GoodSizes, GoodPool}

-- ---- pools

-- an object's mark, and how often it is listed
module _ (mark n : ℕ) where
  mark-known : object_fits mark n ≡ true → (mark ≡ absent) ⊎ ((mark ≡ free) ⊎ (mark ≡ out))
  mark-known e =
      same_or mark free (λ s. inr (inl s))
      (λ f.
      let le = leb-true mark out (both-means (leb mark out) (eqb n 0) (rw (ne_eqb mark free f) at e)).0 in
      same_or mark absent inl (λ a. inr (inr (last le f a))))
    where
      last : mark ≤ 2 → mark ≢ 1 → mark ≢ 0 → mark ≡ 2
      last l f a = omega arith

  mark-once : object_fits mark n ≡ true → mark ≡ free → n ≡ 1
  mark-once e f = eqb-true n 1 (rw (eq-eqb mark free f) at e)

  mark-none : object_fits mark n ≡ true → mark ≢ free → n ≡ 0
  mark-none e f = eqb-true n 0 (both-means (leb mark out) (eqb n 0) (rw (ne_eqb mark free f) at e)).1

  mark-le : (mark ≡ absent) ⊎ ((mark ≡ free) ⊎ (mark ≡ out)) → mark ≤ out
  mark-le (inl e) = omega arith
  mark-le (inr (inl e)) = omega arith
  mark-le (inr (inr e)) = omega arith

  of-mark : (mark ≡ absent) ⊎ ((mark ≡ free) ⊎ (mark ≡ out)) → (mark ≡ free → n ≡ 1) → (mark ≢ free → n ≡ 0) → object_fits mark n ≡ true
  of-mark known once none =
      chosen (λ v. v ≡ true) (eqb mark free)
      (λ e. eq-eqb n 1 (once (eqb-true mark free e)))
      (λ e. both_true (le-leb mark out (mark-le known)) (eq-eqb n 0 (none (eqb-false mark free e))))

module _ (x : Pool) (c : ℤ) (promised : ℕ) where
  pub pool-good : pool_fits x c promised ≡ true → GoodPool x c promised
  unfolding pool_fits entries_fit objects_fit
  pool-good e =
      let a = both-means (leb x.length 32) _ e in
      let b = both-means (length_fits x.length c promised) (entries_fit x && objects_fit x) a.1 in
      let d = both-means (entries_fit x) (objects_fit x) b.1 in
      let few = leb-true x.length 32 a.0 in
      record {
        length = few;
        once = λ o h. mark-once (mark_at x o) (occurrences x o) (all-at (object_agrees x) 32 o d.1 h);
        no_other = λ o h. mark-none (mark_at x o) (occurrences x o) (all-at (object_agrees x) 32 o d.1 h);
        objects = λ j h.
            ltb-true (listed_at x j) 32
            (all-at (λ j. ltb (listed_at x j) 32) x.length j (rw (used_all 32 x.length few) at d.0) h);
        promises = sum_of (larger c) x.length promised (same-means (larger c) (pos x.length -ℤ pos promised) b.0);
        marks = λ o h. mark-known (mark_at x o) (occurrences x o) (all-at (object_agrees x) 32 o d.1 h);
      }

  of-entries : GoodPool x c promised → entries_fit x ≡ true
  unfolding entries_fit
  of-entries g =
      rw (used_all 32 x.length g.length)
      (all_of (λ j. ltb (listed_at x j) 32) x.length (λ j h. lt-ltb (listed_at x j) 32 (g.objects j h)))

  of-objects : GoodPool x c promised → objects_fit x ≡ true
  unfolding objects_fit
  of-objects g =
      all_of (object_agrees x) 32 (λ o h. of-mark (mark_at x o) (occurrences x o) (g.marks o h) (g.once o h) (g.no_other o h))

  pub good-pool : GoodPool x c promised → pool_fits x c promised ≡ true
  unfolding pool_fits
  good-pool g =
      both_true (le-leb x.length 32 g.length)
      (both_true
      (same_of (larger c) (pos x.length -ℤ pos promised) (difference-of (larger c) x.length promised g.promises))
      (both_true (of-entries g) (of-objects g)))

-- ---- all of them

module _ (p : Plant) (s : GoodSizes p.sizes) where
  -- mailboxes that pass are good
  pub mailboxes-good : mailboxes_fit p ≡ true
      → (m : ℕ) → m < p.sizes.mailboxes → Fitting (mailbox_at p m).positions (slots_at p.sizes m)
  unfolding mailboxes_fit
  mailboxes-good e m h =
      fit-means (mailbox_at p m).positions (slots_at p.sizes m)
      (all-at (mailbox_fits p.mailboxes p.sizes) p.sizes.mailboxes m (rw (used_all 4 p.sizes.mailboxes s.mailboxes) at e) h)

  -- good mailboxes pass
  pub good-mailboxes : ((m : ℕ) → m < p.sizes.mailboxes → Fitting (mailbox_at p m).positions (slots_at p.sizes m))
      → mailboxes_fit p ≡ true
  unfolding mailboxes_fit
  good-mailboxes g =
      rw (used_all 4 p.sizes.mailboxes s.mailboxes)
      (all_of (mailbox_fits p.mailboxes p.sizes) p.sizes.mailboxes (λ m h. fit_of (mailbox_at p m).positions (slots_at p.sizes m) (g m h)))

  -- pools that pass are good
  pub pools-good : pools_fit p ≡ true
      → (q : ℕ) → q < p.sizes.pools
      → GoodPool (pool_at p q) (counter_at p.kernel (pool_place q)) (promised_count p.kernel p.sizes.threads q)
  unfolding pools_fit
  pools-good e q h =
      pool-good (pool_at p q) (counter_at p.kernel (pool_place q)) (promised_count p.kernel p.sizes.threads q)
      (all-at (pool_agrees p) p.sizes.pools q (rw (used_all 4 p.sizes.pools s.pools) at e) h)

  -- good pools pass
  pub good-pools : ((q : ℕ) → q < p.sizes.pools
      → GoodPool (pool_at p q) (counter_at p.kernel (pool_place q)) (promised_count p.kernel p.sizes.threads q))
      → pools_fit p ≡ true
  unfolding pools_fit
  good-pools g =
      rw (used_all 4 p.sizes.pools s.pools)
      (all_of (pool_agrees p) p.sizes.pools (λ q h.
      good-pool (pool_at p q) (counter_at p.kernel (pool_place q)) (promised_count p.kernel p.sizes.threads q) (g q h)))
