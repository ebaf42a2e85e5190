-- Whether each pool's free list agrees with its marks, its counter and its promises.
use Rattle.std.specs.Prelude.{ℕ, Bool, cond, ◌&&◌, List, eqb, ltb, leb, ℤ, pos, ◌-ℤ◌, get_or}
use Rattle.std.specs.Int.Signed.{lt_z}
use Rattle.kernel.specs.declared.records.Thread.{Thread}
use Rattle.kernel.specs.declared.records.Kernel.{Kernel}
use Rattle.kernel.specs.Numbers.{ok}
use Rattle.kernel.specs.Places.{pool_place}
use Rattle.kernel.specs.Tables.{used_rows, thread_at, counter_in, counter_at}
use Rattle.kernel.specs.Waiters.{is_ready}
use Rattle.kernel.specs.Walk.{all_from, count_of}
use Rattle.kernel.specs.Words.{ones_of}
use Rattle.library.specs.declared.sizes.Sizes.{Sizes}
use Rattle.library.specs.declared.tables.Pool.{Pool}
use Rattle.library.specs.declared.tables.Plant.{Plant}
use Rattle.rules.specs.Limits.{used_of, first_bad}
use Rattle.library.specs.Signs.{same}
use Rattle.library.specs.Tables.{pool_in, pool_at}
use Rattle.library.specs.Pool.{free, out, listed_at, mark_at}

-- "ready threads whose unfinished alloc was woken with 0"
abbrev pub is_promised : Thread → Bool
is_promised t = is_ready t && (eqb t.call.kind 20 && same t.message ok)

-- .. by the pool q
abbrev pub promised_by : ℕ → Thread → Bool
promised_by q t = is_promised t && eqb t.call.object q

-- the pool that has promised a thread an object, or none
abbrev pub pool_of : Thread → ℕ
pool_of t = cond (is_promised t) t.call.object 4

-- how many objects the pool q has promised to n threads
unfoldable pub promised_count : Kernel → ℕ → ℕ → ℕ
promised_count k n q = count_of (λ i. promised_by q (thread_at k i)) (used_rows n)

-- the used places of a free list
abbrev pub listed : Pool → ℕ
listed x = used_of 32 x.length

-- how often an object is listed
unfoldable pub occurrences : Pool → ℕ → ℕ
occurrences x o = count_of (λ j. eqb (listed_at x j) o) (listed x)

-- what is listed are objects
unfoldable pub entries_fit : Pool → Bool
entries_fit x = all_from (λ j. ltb (listed_at x j) 32) 0 (listed x)

-- "A free list has each free object once and no other"; "Each object is marked absent, free or out"
abbrev pub object_fits : ℕ → ℕ → Bool
object_fits mark n = cond (eqb mark free) (eqb n 1) (leb mark out && eqb n 0)

-- the object o is listed as its mark says
abbrev pub object_agrees : Pool → ℕ → Bool
object_agrees x o = object_fits (mark_at x o) (occurrences x o)

-- each object is
unfoldable pub objects_fit : Pool → Bool
objects_fit x = all_from (object_agrees x) 0 32

-- "the larger of counter and 0"
abbrev pub larger : ℤ → ℤ
larger c = cond (lt_z c (pos 0)) (pos 0) c

-- "its length is the larger of counter and 0, plus" the promised objects
abbrev pub length_fits : ℕ → ℤ → ℕ → Bool
length_fits length c promised = same (larger c) (pos length -ℤ pos promised)

-- the rules of a pool with this counter and so many promised objects
unfoldable pub pool_fits : Pool → ℤ → ℕ → Bool
pool_fits x c promised = leb x.length 32 && (length_fits x.length c promised && (entries_fit x && objects_fit x))

-- the pool q hangs together
abbrev pub pool_agrees : Plant → ℕ → Bool
pool_agrees p q =
    pool_fits (pool_at p q) (counter_at p.kernel (pool_place q)) (promised_count p.kernel p.sizes.threads q)

-- the first pool that does not
abbrev pub bad_pool : Plant → ℕ
bad_pool p = first_bad (pool_agrees p) (used_of 4 p.sizes.pools)

-- the same by the words of a walk: as many objects are promised by a pool as its word has ones
abbrev pub bad_stock : List Pool → List ℤ → List ℕ → Sizes → ℕ
bad_stock pools counters promised z =
    first_bad (λ q. pool_fits (pool_in pools q) (counter_in counters (pool_place q)) (ones_of (get_or promised q 0))) (used_of 4 z.pools)

-- each pool does so
unfoldable pub pools_fit : Plant → Bool
pools_fit p = all_from (pool_agrees p) 0 (used_of 4 p.sizes.pools)
