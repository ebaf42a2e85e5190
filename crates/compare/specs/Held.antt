-- WHAT THE TYPES OF A HOST FIX of the numbers it keeps: the lengths of its arrays and the widths of what is stored with others in a row.
use Rattle.std.specs.Prelude.{ℕ, ◌-◌, ◌%◌, ◌<◌, ◌≡◌, cond, List, [], ◌∷◌, eqb, ltb, ℤ, length, get_or}
use Rattle.std.specs.Int.Signed.{mag}
use Rattle.kernel.specs.declared.records.Thread.{Thread}
use Rattle.kernel.specs.Tables.{row_in, counter_in}
use Rattle.library.specs.declared.sizes.Sizes.{Sizes}
use Rattle.library.specs.declared.tables.Mailbox.{Mailbox}
use Rattle.library.specs.declared.tables.Pool.{Pool}
use Rattle.library.specs.Tables.{mailbox_in, pool_in}
use Rattle.compare.specs.declared.cells.Kept.{Kept}
use Rattle.compare.specs.Cells.{
  counters_at,
  references_at,
  words_at,
  steps_at,
  mailboxes_at,
  pools_at,
  sizes_at,
  clock_at,
  cell_count,
  cell_at,
  thread_cells,
  box_head,
  sizes_head,
}

-- how many numbers 8, 16 and 32 bits have
abbrev pub bytes : ℕ
bytes = 256

abbrev pub halves : ℕ
halves = 65536

abbrev pub words : ℕ
words = 4294967296

-- of a thread's 14 numbers
abbrev pub thread_limits : List ℕ
thread_limits =
    halves
    ∷ halves
    ∷ words
    ∷ words
    ∷ words
    ∷ words
    ∷ halves
    ∷ halves
    ∷ words
    ∷ words
    ∷ words
    ∷ words
    ∷ words
    ∷ words
    ∷ []

abbrev pub thread_limit : ℕ → ℕ
thread_limit f = get_or thread_limits f words

abbrev pub box_limit : ℕ → ℕ
box_limit f = cond (ltb f 4) halves words

abbrev pub pool_limit : ℕ → ℕ
pool_limit f = cond (eqb f 0) halves bytes

-- how many numbers the place i has room for
unfoldable pub limit_of : ℕ → ℕ
limit_of i =
    cond (ltb i counters_at) (thread_limit (i % 14))
    (cond (ltb i references_at) words
    (cond (ltb i words_at) bytes
    (cond (ltb i steps_at) halves
    (cond (ltb i mailboxes_at) words
    (cond (ltb i pools_at) (box_limit ((i - mailboxes_at) % 20))
    (cond (ltb i sizes_at) (pool_limit ((i - pools_at) % 65)) (cond (ltb i clock_at) halves words)))))))

-- each of n numbers is below its limit
abbrev pub Within : ℕ → (ℕ → ℕ) → List ℕ → Type 0
Within n limit v = (f : ℕ) → f < n → get_or v f 0 < limit f

-- signed numbers of 32 bits
abbrev pub Signed : ℤ → Type 0
Signed z = mag z < 2147483648

pub record HeldThread (t : Thread) : Type 0 where
  pub cells : Within 14 thread_limit (thread_cells t)
  pub message : Signed t.message
  pub answer : Signed t.answer.message

pub record HeldBox (b : Mailbox) : Type 0 where
  pub head : Within 4 (λ f. halves) (box_head b)
  pub messages : length b.messages ≡ 16

pub record HeldPool (x : Pool) : Type 0 where
  pub list : length x.list ≡ 32
  pub marks : length x.marks ≡ 32

pub record HeldSizes (z : Sizes) : Type 0 where
  pub head : Within 6 (λ f. halves) (sizes_head z)
  pub slots : length z.slots ≡ 4

pub record Held (a : Kept) : Type 0 where
  pub threads : length a.tables.kernel.threads ≡ 16
  pub thread-rows : (i : ℕ) → i < 16 → HeldThread (row_in a.tables.kernel.threads i)
  pub counters : length a.tables.kernel.counters ≡ 36
  pub counter-rows : (p : ℕ) → p < 36 → Signed (counter_in a.tables.kernel.counters p)
  pub references : length a.tables.kernel.references ≡ 8
  pub waiting : length a.tables.kernel.words.waiting ≡ 36
  pub mailboxes : length a.tables.mailboxes ≡ 4
  pub box-rows : (m : ℕ) → m < 4 → HeldBox (mailbox_in a.tables.mailboxes m)
  pub pools : length a.tables.pools ≡ 4
  pub pool-rows : (q : ℕ) → q < 4 → HeldPool (pool_in a.tables.pools q)
  pub sizes : HeldSizes a.tables.sizes

-- every number is within the width of its place
abbrev pub AllWithin : Kept → Type 0
AllWithin a = (i : ℕ) → i < cell_count → cell_at a i < limit_of i
