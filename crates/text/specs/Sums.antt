-- The rows of an account, in the order of docs/ACCOUNT.md.
use Rattle.std.specs.Prelude.{ℕ, ◌/◌, ◌%◌, cond, ◌==◌, nat_eq, slice_index}
use Rattle.kernel.specs.Walk.{count_of}
use Rattle.accounts.specs.declared.account.Account.{Account}
use Rattle.library.specs.declared.tables.Pool.{Pool}
use Rattle.library.specs.declared.tables.Tables.{Tables}
use Rattle.library.specs.Tables.{mailbox_in, pool_in}
use Rattle.library.specs.Pool.{mark_at}
use Rattle.text.specs.declared.items.Item.TheVariants.{Nothing, Number}
use Rattle.text.specs.declared.items.Line.{Line}
use Rattle.text.specs.Rows.{no_row, numbered}

-- how many of a pool's objects have a mark
abbrev pub marked_count : Pool → ℕ → ℕ
marked_count p mark = count_of (λ o. nat_eq (mark_at p o) mark) 32

-- "For each object that is out, by pool and then by object: the pool, the object, the thread .., and the number of the record"
unfoldable pub object_row : Account → Tables → ℕ → Line
object_row a t i =
    cond (mark_at (pool_in t.pools (i / 32)) (i % 32) == 2)
    (numbered (i / 32) (Number (i % 32)) (Number (slice_index a.takers i)) (Number (slice_index a.steps i)) Nothing Nothing Nothing)
    no_row

-- `mailbox posted fetched lost present`
unfoldable pub mailbox_sums : Account → Tables → ℕ → Line
mailbox_sums a t i =
    numbered i (Number (slice_index a.posted i)) (Number (slice_index a.fetched i)) (Number (slice_index a.lost i))
    (Number (mailbox_in t.mailboxes i).positions.count) Nothing Nothing

-- `pool added free out`
unfoldable pub pool_sums : Account → Tables → ℕ → Line
pool_sums a t i =
    numbered i (Number (slice_index a.added i)) (Number (marked_count (pool_in t.pools i) 1)) (Number (marked_count (pool_in t.pools i) 2)) Nothing
    Nothing Nothing

unfoldable pub sum_row : Account → Tables → ℕ → ℕ → Line
sum_row a t part i = cond (part == 17) (mailbox_sums a t i) (cond (part == 18) (pool_sums a t i) (object_row a t i))
