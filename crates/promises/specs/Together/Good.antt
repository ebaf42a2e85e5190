-- "Tables that hang together", each sentence as a statement, in the paper's order within each record. That the code's test says
-- exactly this is proved in Hanging.antt.
use Rattle.std.specs.Prelude.{ℕ, ◌≤◌, ◌<◌, ◌≡◌, ◌≢◌, ◌⊎◌, ◌↔◌, true, false, ℤ, pos, ◌+ℤ◌}
use Rattle.std.specs.Int.Bits.{bit_and}
use Rattle.std.specs.Int.Signed.{lt_z}
use Rattle.kernel.specs.declared.clock.Clock.{Clock}
use Rattle.kernel.specs.declared.records.Thread.{Thread}
use Rattle.kernel.specs.declared.records.Kernel.{Kernel}
use Rattle.kernel.specs.Numbers.{nobody, nowhere, ready, suspended, awaiting, infinite}
use Rattle.kernel.specs.Places.{semaphore_place, pool_place, queue_place, writers_place, readers_place}
use Rattle.kernel.specs.Tables.{thread_at, counter_at, holder_at}
use Rattle.kernel.specs.Waiters.{first_ready}
use Rattle.kernel.specs.Words.{waiting_at}
use Rattle.kernel.specs.Moves.{awaited_by}
use Rattle.library.proofs.RingLaws.{Fitting}
use Rattle.library.specs.declared.sizes.Sizes.{Sizes}
use Rattle.library.specs.declared.tables.Pool.{Pool}
use Rattle.library.specs.declared.tables.Plant.{Plant}
use Rattle.library.specs.Calls.{keeps_operand}
use Rattle.library.specs.Sizes.{slots_at}
use Rattle.library.specs.Signs.{minus}
use Rattle.library.specs.Tables.{mailbox_at, pool_at}
use Rattle.library.specs.Pool.{absent, free, out, listed_at, mark_at}
use Rattle.rules.specs.RowRules.{call_limit, wait_state, wait_place}
use Rattle.rules.specs.PlaceRules.{in_use, queued_count}
use Rattle.rules.specs.WordRules.{ready_word, waiting_word}
use Rattle.rules.specs.PoolRules.{larger, occurrences, promised_count}

-- "Threads T 1 to 16 .. Semaphores S 0 to 16. Queues Q 0 to 8. References R 0 to 8. Mailboxes M 0 to 4, each of 1 to 16 slots.
-- Pools P 0 to 4"
pub record GoodSizes (z : Sizes) : Type 0 where
  pub threads : (1 ≤ z.threads) × (z.threads ≤ 16)
  pub semaphores : z.semaphores ≤ 16
  pub queues : z.queues ≤ 8
  pub references : z.references ≤ 8
  pub mailboxes : z.mailboxes ≤ 4
  pub pools : z.pools ≤ 4
  pub slots : (m : ℕ) → m < z.mailboxes → (1 ≤ slots_at z m) × (slots_at z m ≤ 16)

-- "kind 2, 6, 9, 11, 12, 14 to 17 or 20"
abbrev pub CallKind : ℕ → Type 0
CallKind n = (n ≡ 2) ⊎ ((n ≡ 6) ⊎ ((n ≡ 9) ⊎ ((n ≡ 11) ⊎ ((n ≡ 12) ⊎ (((14 ≤ n) × (n ≤ 17)) ⊎ (n ≡ 20))))))

-- a thread's record
pub record GoodThread (z : Sizes) (t : Thread) : Type 0 where
  -- "the objects of calls are in range"
  pub object : t.call.kind ≢ 0 → t.call.object < call_limit z t.call.kind
  -- "Remaining ticks are 0 for a ready thread .."
  pub ready-ticks : t.state ≡ ready → t.remaining ≡ 0
  -- ".. or an infinite timeout"
  pub infinite-ticks : t.call.timeout ≡ infinite → t.remaining ≡ 0
  -- "else 1 to the call's timeout"
  pub ticks : t.state ≢ ready → t.call.timeout ≢ infinite → (1 ≤ t.remaining) × (t.remaining ≤ t.call.timeout)
  -- "An unfinished call is of kind 2, 6, 9, 11, 12, 14 to 17 or 20 .."
  pub kind : t.call.kind ≢ 0 → CallKind t.call.kind
  -- ".. its timeout above 0"
  pub timeout : t.call.kind ≢ 0 → 1 ≤ t.call.timeout
  -- "a thread not ready has one .."
  pub unready-call : t.state ≢ ready → t.call.kind ≢ 0
  -- ".. that fits its wait": the state in which such a call sleeps, and ("Wait place ..") the place
  pub unready-state : t.state ≢ ready → t.state ≡ wait_state t.call.kind
  pub unready-place : t.state ≢ ready → t.place ≡ wait_place t.call.kind t.call.object
  -- "where it waits (nowhere if ready)"
  pub ready-place : t.state ≡ ready → t.place ≡ nowhere
  -- "call fields": "all 0 without one"
  pub no-call : t.call.kind ≡ 0 → (t.call.object ≡ 0) × ((t.call.operand ≡ 0) × (t.call.timeout ≡ 0))
  -- "keeps 0 for unused fields"
  pub operand : t.call.kind ≢ 0 → keeps_operand t.call.kind ≡ false → t.call.operand ≡ 0
  -- "awaited flags (an unfinished 14's mask, else 0)"
  pub awaited : t.awaited ≡ awaited_by t.call
  -- "A thread awaiting events has none of its flags pending"
  pub none-pending : t.state ≡ awaiting → bit_and t.pending t.awaited ≡ 0
  -- of document 02: no "cause outside the list"
  pub cause : t.cause ≤ 8

-- "A semaphore (a pool's too) .. with n > 0 threads queued has counter -n; with none, a semaphore is at least 0"
pub record SemaphoreCounter (c : ℤ) (n : ℕ) : Type 0 where
  pub waiters : 0 < n → c ≡ minus n
  pub none : n ≡ 0 → lt_z c (pos 0) ≡ false

-- "or queue with n > 0 threads queued has counter -n; with none, .. a queue exactly 0"
pub record QueueCounter (c : ℤ) (n : ℕ) : Type 0 where
  pub waiters : 0 < n → c ≡ minus n
  pub none : n ≡ 0 → c ≡ pos 0

-- the counters, beside the threads queued at their places
pub record GoodCounters (k : Kernel) (z : Sizes) : Type 0 where
  pub semaphores : (s : ℕ) → s < z.semaphores
      → SemaphoreCounter (counter_at k (semaphore_place s)) (queued_count k z.threads (semaphore_place s))
  pub pools : (q : ℕ) → q < z.pools → SemaphoreCounter (counter_at k (pool_place q)) (queued_count k z.threads (pool_place q))
  pub queues : (q : ℕ) → q < z.queues → QueueCounter (counter_at k (queue_place q)) (queued_count k z.threads (queue_place q))
  -- "a mailbox has a writers' and a readers' queue"
  pub writers : (m : ℕ) → m < z.mailboxes
      → QueueCounter (counter_at k (writers_place m)) (queued_count k z.threads (writers_place m))
  pub readers : (m : ℕ) → m < z.mailboxes
      → QueueCounter (counter_at k (readers_place m)) (queued_count k z.threads (readers_place m))

-- "i is suspended on r"
abbrev pub SuspendedOn : ℕ → Thread → Type 0
SuspendedOn r t = (t.state ≡ suspended) × (t.place ≡ r)

-- the references
pub record GoodReferences (k : Kernel) (z : Sizes) : Type 0 where
  -- empty, or one of the threads
  pub holder : (r : ℕ) → r < z.references → (holder_at k r ≡ nobody) ⊎ (holder_at k r < z.threads)
  -- "Reference r holds i exactly if i is suspended on r"
  pub holds : (r : ℕ) → r < z.references → (i : ℕ) → i < z.threads → (holder_at k r ≡ i) ↔ SuspendedOn r (thread_at k i)

-- a pool, with its counter and the number of "ready threads whose unfinished alloc was woken with 0"
pub record GoodPool (x : Pool) (c : ℤ) (promised : ℕ) : Type 0 where
  -- "counts .. are in range"
  pub length : x.length ≤ 32
  -- "A free list has each free object once .."
  pub once : (o : ℕ) → o < 32 → mark_at x o ≡ free → occurrences x o ≡ 1
  -- ".. and no other"
  pub no_other : (o : ℕ) → o < 32 → mark_at x o ≢ free → occurrences x o ≡ 0
  pub objects : (j : ℕ) → j < x.length → listed_at x j < 32
  -- "its length is the larger of counter and 0, plus the ready threads whose unfinished alloc was woken with 0"
  pub promises : pos x.length ≡ larger c +ℤ pos promised
  -- "Each object is marked absent, free or out"
  pub marks : (o : ℕ) → o < 32 → (mark_at x o ≡ absent) ⊎ ((mark_at x o ≡ free) ⊎ (mark_at x o ≡ out))

-- the words: "what a walk over the records would give"
pub record GoodWords (k : Kernel) (z : Sizes) : Type 0 where
  pub ready : k.words.ready ≡ ready_word k z.threads
  pub waiting : (p : ℕ) → p < 36 → in_use z p ≡ true → waiting_at k.words p ≡ waiting_word k z.threads p

-- everything that "Tables that hang together" says but its last sentence: what holds between two moves of a step too
pub record Good (p : Plant) : Type 0 where
  pub sizes : GoodSizes p.sizes
  pub counters : GoodCounters p.kernel p.sizes
  pub references : GoodReferences p.kernel p.sizes
  pub mailboxes : (m : ℕ) → m < p.sizes.mailboxes → Fitting (mailbox_at p m).positions (slots_at p.sizes m)
  pub pools : (q : ℕ) → q < p.sizes.pools
      → GoodPool (pool_at p q) (counter_at p.kernel (pool_place q)) (promised_count p.kernel p.sizes.threads q)
  pub threads : (i : ℕ) → i < p.sizes.threads → GoodThread p.sizes (thread_at p.kernel i)
  -- "Words that disagree don't hang together"
  pub words : GoodWords p.kernel p.sizes

-- "Tables that hang together"
pub record RulesHold (p : Plant) (c : Clock) : Type 0 where
  pub good : Good p
  -- ".. the frequency .. in range"
  pub frequency : (1 ≤ c.frequency) × (c.frequency ≤ 1000000)
  -- "The running thread has no unfinished call"
  pub running : (thread_at p.kernel (first_ready p.kernel)).call.kind ≡ 0
