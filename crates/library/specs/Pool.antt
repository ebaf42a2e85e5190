-- Guarded pools. "a semaphore beside a last-in first-out list of free objects"
use Rattle.std.specs.Prelude.{ℕ, ◌+◌, ◌-◌, cond, ltb, get_or, set, pos}
use Rattle.std.specs.Int.Signed.{lt_z}
use Rattle.kernel.specs.declared.records.Call.{Call}
use Rattle.kernel.specs.Numbers.{ok}
use Rattle.kernel.specs.Places.{pool_place}
use Rattle.kernel.specs.Tables.{counter_at}
use Rattle.kernel.specs.Moves.{finished}
use Rattle.kernel.specs.Queue.{enqueued}
use Rattle.kernel.specs.Semaphore.{taken, signalled}
use Rattle.library.specs.declared.tables.Pool.{Pool}
use Rattle.library.specs.declared.tables.Plant.{Plant}
use Rattle.library.specs.Tables.{pool_at, with_kernel, with_pool}

-- an object's marks
abbrev pub absent : ℕ
absent = 0

abbrev pub free : ℕ
free = 1

abbrev pub out : ℕ
out = 2

-- the object at a place of the free list, and an object's mark
abbrev pub listed_at : Pool → ℕ → ℕ
listed_at x i = get_or x.list i 0

abbrev pub mark_at : Pool → ℕ → ℕ
mark_at x o = get_or x.marks o absent

abbrev pub with_listed : Pool → ℕ → ℕ → Pool
with_listed x i o = record { length = x.length; list = set x.list i o; marks = x.marks }

abbrev pub with_mark : Pool → ℕ → ℕ → Pool
with_mark x o mark = record { length = x.length; list = x.list; marks = set x.marks o mark }

abbrev pub with_length : Pool → ℕ → Pool
with_length x n = record { length = n; list = x.list; marks = x.marks }

-- "the top": the last used place of the list
abbrev pub top_of : Pool → ℕ
top_of x = cond (ltb 0 x.length) (listed_at x (x.length - 1)) 0

-- the pool without its top, which is out
unfoldable pub popped : Pool → Pool
popped x = cond (ltb 0 x.length) (with_mark (with_length x (x.length - 1)) (top_of x) out) x

-- the pool with an object "on top", which is free
unfoldable pub pushed : Pool → ℕ → Pool
pushed x o =
    cond (ltb x.length 32) (with_mark (with_length (with_listed x x.length o) (x.length + 1)) o free) x

-- ".. takes the top as its datum"
unfoldable pub handed_over : Plant → ℕ → ℕ → Plant
handed_over p i n =
    with_pool (with_kernel p (finished p.kernel i ok (top_of (pool_at p n)))) n (popped (pool_at p n))

-- "Alloc waits on the counter, then takes the top as its datum"
unfoldable pub alloc_tried : Plant → ℕ → Call → Plant
alloc_tried p i call =
    cond (lt_z (pos 0) (counter_at p.kernel (pool_place call.object)))
    (handed_over (with_kernel p (taken p.kernel (pool_place call.object))) i call.object)
    (with_kernel p (enqueued p.kernel i (pool_place call.object) call))

-- "Free and add put the object on top and signal"; whether that counted is dropped: "a pool never gets there"
unfoldable pub put_back : Plant → ℕ → ℕ → Plant
put_back p n o =
    with_pool (with_kernel p (signalled p.kernel (pool_place n)).kernel) n (pushed (pool_at p n) o)
