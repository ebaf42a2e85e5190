-- An account, and what one entry changes in it. "for each mailbox, messages whose post finished with 0, .. whose fetch finished with 0, ..
-- present at each reset"; "For each pool, objects ever added"; "handed over by a finished alloc"
use Rattle.std.specs.Prelude.{ℕ, ◌+◌, ◌*◌, ◌%◌, Bool, cond, ◌||◌, List, replicate, ◌==◌, nat_lt, slice_index, slice_set}
use Rattle.accounts.specs.declared.account.Account.{Account}
use Rattle.accounts.specs.declared.account.Entry.{Entry}

-- nothing has happened yet
abbrev pub fresh_account : Account
fresh_account =
    record {
      posted = replicate 4 0;
      fetched = replicate 4 0;
      lost = replicate 4 0;
      added = replicate 4 0;
      takers = replicate 128 0;
      steps = replicate 128 0;
    }

-- a post, or a post ahead
abbrev pub is_post : ℕ → Bool
is_post kind = kind == 15 || kind == 16

-- where an object of a pool stands: past the table for an object above 31, and for one of a pool above 3
abbrev pub object_place : ℕ → ℕ → ℕ
object_place pool object = cond (nat_lt object 32) (pool * 32 + object) 128

-- the sums with n more at i, where so; a sum wraps
abbrev pub raised_if : Bool → List ℕ → ℕ → ℕ → List ℕ
raised_if so sums i n = cond so (slice_set sums i ((slice_index sums i + n) % 4294967296)) sums

-- the table with x at i, where so
abbrev pub set_if : Bool → List ℕ → ℕ → ℕ → List ℕ
set_if so table i x = cond so (slice_set table i x) table

-- an entry of the step with this number
unfoldable pub entered : Account → ℕ → Entry → Account
entered a number e =
    record {
      posted = raised_if (is_post e.kind) a.posted e.object 1;
      fetched = raised_if (e.kind == 17) a.fetched e.object 1;
      lost = raised_if (e.kind == 18) a.lost e.object e.value;
      added = raised_if (e.kind == 22) a.added e.object 1;
      takers = set_if (e.kind == 20) a.takers (object_place e.object e.value) e.who;
      steps = set_if (e.kind == 20) a.steps (object_place e.object e.value) number;
    }
