-- WHICH RULE IS BROKEN FIRST: the rules of "Tables that hang together" by their numbers, in the order in which the section tells them, and
-- then those of document 02. Each is asked of the rows that it concerns, in the words of Paper.Together.
use Rattle.std.specs.Prelude.{ℕ, ◌+◌, ◌/◌, ◌%◌, ◌≤◌, ◌<◌, ◌≡◌, ◌≢◌, ◌⊎◌, ◌↔◌, get_or}
use Rattle.std.specs.Int.Bits.{bit_and}
use Rattle.kernel.specs.declared.clock.Clock.{Clock}
use Rattle.library.specs.declared.tables.Tables.{Tables}
use Rattle.promises.specs.Paper.World.{World, found, First}
use Rattle.promises.specs.Paper.Together.{SizesFit, CallFits, WaitFits, TicksFit, AwaitedFit, number, is_queued, SemaphoreFits, QueueFits}
use Rattle.promises.specs.Paper.Together.{PositionsFit, is_promised, PoolFits, is_ready, InUse, WordOf}

-- "Reference r holds i exactly if i is suspended on r", and else nobody
abbrev pub HolderFits : World → ℕ → Type 0
HolderFits w r =
    ((w.holder r ≡ 255) ⊎ (w.holder r < w.sizes.threads))
    × ((i : ℕ) → i < w.sizes.threads → (w.holder r ≡ i) ↔ (((w.thread i).state ≡ 2) × ((w.thread i).place ≡ r)))

-- the tables break the rule of a number in a row; a rule about the tables as a whole has the row 0
pub data BreaksRule (t : Tables) (c : Clock) : ℕ → ℕ → Type 0 where
  -- "Sizes .. are in range"
  sizes : (SizesFit t.sizes → ⊥) → BreaksRule t c 1 0
  -- "the frequency .. in range"
  frequency : ((1 ≤ c.frequency) × (c.frequency ≤ 1000000) → ⊥) → BreaksRule t c 2 0
  -- "A semaphore (a pool's too) or queue with n > 0 threads queued has counter -n": the row is the place of the counter
  semaphore : (s : ℕ) → s < t.sizes.semaphores
      → (SemaphoreFits ((found t).counter s) (number (is_queued (found t) s) t.sizes.threads) → ⊥) → BreaksRule t c 3 s
  pool-counter : (q : ℕ) → q < t.sizes.pools
      → (SemaphoreFits ((found t).counter (16 + q)) (number (is_queued (found t) (16 + q)) t.sizes.threads) → ⊥) → BreaksRule t c 3 (16 + q)
  queue : (q : ℕ) → q < t.sizes.queues
      → (QueueFits ((found t).counter (20 + q)) (number (is_queued (found t) (20 + q)) t.sizes.threads) → ⊥) → BreaksRule t c 3 (20 + q)
  -- "a mailbox has a writers' and a readers' queue"
  writers : (m : ℕ) → m < t.sizes.mailboxes
      → (QueueFits ((found t).counter (28 + m)) (number (is_queued (found t) (28 + m)) t.sizes.threads) → ⊥) → BreaksRule t c 3 (28 + m)
  readers : (m : ℕ) → m < t.sizes.mailboxes
      → (QueueFits ((found t).counter (32 + m)) (number (is_queued (found t) (32 + m)) t.sizes.threads) → ⊥) → BreaksRule t c 3 (32 + m)
  reference : (r : ℕ) → r < t.sizes.references → (HolderFits (found t) r → ⊥) → BreaksRule t c 4 r
  -- "A mailbox's write place is its read place plus its count, modulo slots", with places and counts in range
  mailbox : (m : ℕ) → m < t.sizes.mailboxes → (PositionsFit ((found t).box m).positions (get_or t.sizes.slots m 0) → ⊥) → BreaksRule t c 5 m
  -- "A free list has each free object once and no other; its length is .. Each object is marked absent, free or out"
  pool : (q : ℕ) → q < t.sizes.pools
      → (PoolFits ((found t).pool q) ((found t).counter (16 + q)) (number (is_promised (found t) q) t.sizes.threads) → ⊥) → BreaksRule t c 6 q
  -- "Remaining ticks .."
  ticks : (i : ℕ) → i < t.sizes.threads → (TicksFit ((found t).thread i) → ⊥) → BreaksRule t c 7 i
  -- "the objects of calls are in range"; "An unfinished call is of kind ..", "call fields"
  call : (i : ℕ) → i < t.sizes.threads → (CallFits t.sizes ((found t).thread i).call → ⊥) → BreaksRule t c 8 i
  -- "a thread not ready has one that fits its wait. Wait place .."
  wait : (i : ℕ) → i < t.sizes.threads → (WaitFits ((found t).thread i) → ⊥) → BreaksRule t c 9 i
  -- ".. and awaited flags are as a thread's record says"
  awaited : (i : ℕ) → i < t.sizes.threads → (AwaitedFit ((found t).thread i) → ⊥) → BreaksRule t c 10 i
  -- "A thread awaiting events has none of its flags pending"
  pending : (i : ℕ) → i < t.sizes.threads → ((found t).thread i).state ≡ 4
      → bit_and ((found t).thread i).pending ((found t).thread i).awaited ≢ 0 → BreaksRule t c 11 i
  -- "The running thread has no unfinished call"
  running : (i : ℕ) → First (found t) i → ((found t).thread i).call.kind ≢ 0 → BreaksRule t c 12 i
  -- of document 02: "bit i set exactly when thread i is ready"
  ready-word : (WordOf (is_ready (found t)) t.sizes.threads t.kernel.words.ready → ⊥) → BreaksRule t c 13 0
  -- "and one such word for each semaphore (a pool's too), queue and mailbox side": the row is the place
  waiting-word : (p : ℕ) → InUse t.sizes p
      → (WordOf (is_queued (found t) p) t.sizes.threads (get_or t.kernel.words.waiting p 0) → ⊥) → BreaksRule t c 14 p
  -- "a cause outside the list"
  cause : (i : ℕ) → i < t.sizes.threads → 8 < ((found t).thread i).cause → BreaksRule t c 15 i

-- the first rule that is broken, and the first row in which it is; 0 and 0 where none is. Where the sizes are out of range that is rule 1,
-- whatever their rows would be
pub data BrokenFirst (t : Tables) (c : Clock) : ℕ → ℕ → Type 0 where
  none : ((rule row : ℕ) → BreaksRule t c rule row → ⊥) → BrokenFirst t c 0 0
  first : (rule row : ℕ) → BreaksRule t c rule row → ((j : ℕ) → j < row → BreaksRule t c rule j → ⊥)
      → ((m j : ℕ) → m < rule → BreaksRule t c m j → ⊥) → BrokenFirst t c rule row

-- nil_broken: a host reads the rule and the row from its number with nil_rule and nil_row
abbrev pub BrokenCall : Tables → Clock → ℕ → Type 0
BrokenCall t c n = BrokenFirst t c (n / 256) (n % 256)

-- nil_layout: the number of the layout
abbrev pub LayoutCall : ℕ → Type 0
LayoutCall n = n ≡ 3
