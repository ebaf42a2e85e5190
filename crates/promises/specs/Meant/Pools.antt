-- A pool of tables that hang together has an object where its rows take one.
use Rattle.std.specs.Prelude.{ℕ, ◌<◌, ◌≡◌, refl, true, pos}
use Rattle.std.specs.Int.Signed.{lt_z}
use borrow.Author.Tests.{eq-eqb}
use Rattle.kernel.specs.Numbers.{ready}
use Rattle.kernel.specs.Places.{pool_place}
use Rattle.kernel.specs.Tables.{used_rows, thread_at, counter_at}
use Rattle.kernel.proofs.WalkLaws.{count-some}
use Rattle.kernel.proofs.TablesLaws.{used_all}
use Rattle.library.specs.declared.tables.Plant.{Plant}
use Rattle.library.specs.Tables.{pool_at}
use Rattle.rules.specs.PoolRules.{promised_by, promised_count}
use Rattle.promises.specs.Together.Good.{Good}
use Rattle.promises.specs.Kept.PoolKept.{stocked, promised-stocked}

-- such are those of tables that hang together; and a list has an object where the laws below ask for one
module _ (p : Plant) (g : Good p) (n : ℕ) (there : n < p.sizes.pools) where
  -- a counter above 0 has an object that nobody was promised
  pub counter-stocked : lt_z (pos 0) (counter_at p.kernel (pool_place n)) ≡ true → 0 < (pool_at p n).length
  counter-stocked e = stocked (g.pools n there) e

  -- "plus the ready threads whose unfinished alloc was woken with 0": each of them has one
  pub promise-stocked : (i : ℕ) → i < p.sizes.threads → (thread_at p.kernel i).state ≡ ready
      → (thread_at p.kernel i).call.kind ≡ 20
      → (thread_at p.kernel i).message ≡ pos 0 → (thread_at p.kernel i).call.object ≡ n → 0 < (pool_at p n).length
  unfolding promised_count
  promise-stocked i h s k m o =
      promised-stocked (g.pools n there)
      (count-some (λ j. promised_by n (thread_at p.kernel j)) (used_rows p.sizes.threads) i
      (rw (used_all p.sizes.threads g.sizes.threads.1) h)
      (rw (s, k, m, o, eq-eqb n n refl)))
