-- TABLES THAT HANG TOGETHER, sentence by sentence.
use Rattle.std.specs.Prelude.{ℕ, zero, suc, ◌+◌, ◌%◌, ◌≤◌, ◌<◌, ◌≡◌, ◌≢◌, ◌⊎◌, ◌↔◌, Bool, true, false, cond, ◌&&◌, eqb, ltb, get_or, ℤ, pos, negsuc}
use Rattle.std.specs.Int.Bits.{bit_and}
use Rattle.kernel.specs.declared.clock.Clock.{Clock}
use Rattle.kernel.specs.declared.records.Call.{Call}
use Rattle.kernel.specs.declared.records.Thread.{Thread}
use Rattle.kernel.specs.declared.records.Words.{Words}
use Rattle.library.specs.declared.sizes.Sizes.{Sizes}
use Rattle.library.specs.declared.ring.Positions.{Positions}
use Rattle.library.specs.declared.tables.Pool.{Pool}
use Rattle.promises.specs.Paper.World.{World, no_call, MaskOf, First}

-- ---- sizes

-- "Threads T 1 to 16 .. Semaphores S 0 to 16. Queues Q 0 to 8. References R 0 to 8. Mailboxes M 0 to 4, each of 1 to 16 slots.
-- Pools P 0 to 4"
pub record SizesFit (z : Sizes) : Type 0 where
  pub threads : (1 ≤ z.threads) × (z.threads ≤ 16)
  pub semaphores : z.semaphores ≤ 16
  pub queues : z.queues ≤ 8
  pub references : z.references ≤ 8
  pub mailboxes : z.mailboxes ≤ 4
  pub pools : z.pools ≤ 4
  pub slots : (m : ℕ) → m < z.mailboxes → (1 ≤ get_or z.slots m 0) × (get_or z.slots m 0 ≤ 16)

-- ---- a thread's record

-- "An unfinished call is of kind 2, 6, 9, 11, 12, 14 to 17 or 20, its timeout above 0"; "the objects of calls are in range"; "A call that
-- sleeps keeps 0 for unused fields"
pub data CallFits (z : Sizes) (c : Call) : Type 0 where
  -- "all 0 without one"
  none : c ≡ no_call → CallFits z c
  semaphore : c.kind ≡ 2 → c.object < z.semaphores → c.operand ≡ 0 → 1 ≤ c.timeout → CallFits z c
  queue : c.kind ≡ 6 → c.object < z.queues → c.operand ≡ 0 → 1 ≤ c.timeout → CallFits z c
  reference : c.kind ≡ 9 → c.object < z.references → c.operand ≡ 0 → 1 ≤ c.timeout → CallFits z c
  sleep-for : c.kind ≡ 11 → c.object ≡ 0 → c.operand ≡ 0 → 1 ≤ c.timeout → CallFits z c
  sleep-until : c.kind ≡ 12 → c.object ≡ 0 → 1 ≤ c.timeout → CallFits z c
  events : c.kind ≡ 14 → c.object ≡ 0 → 1 ≤ c.timeout → CallFits z c
  post : (c.kind ≡ 15) ⊎ (c.kind ≡ 16) → c.object < z.mailboxes → 1 ≤ c.timeout → CallFits z c
  fetch : c.kind ≡ 17 → c.object < z.mailboxes → c.operand ≡ 0 → 1 ≤ c.timeout → CallFits z c
  alloc : c.kind ≡ 20 → c.object < z.pools → c.operand ≡ 0 → 1 ≤ c.timeout → CallFits z c

-- "State (ready, sleeping, suspended, queued, awaiting events), where it waits (nowhere if ready)"; "a thread not ready has one that fits
-- its wait". The states are 0 to 4 in this order; the place is 0 for nowhere, a reference's number, or where the counter of its queue is
pub data WaitFits (t : Thread) : Type 0 where
  ready : t.state ≡ 0 → t.place ≡ 0 → WaitFits t
  sleeps : (t.call.kind ≡ 11) ⊎ (t.call.kind ≡ 12) → t.state ≡ 1 → t.place ≡ 0 → WaitFits t
  reference : t.call.kind ≡ 9 → t.state ≡ 2 → t.place ≡ t.call.object → WaitFits t
  semaphore : t.call.kind ≡ 2 → t.state ≡ 3 → t.place ≡ t.call.object → WaitFits t
  pool : t.call.kind ≡ 20 → t.state ≡ 3 → t.place ≡ 16 + t.call.object → WaitFits t
  queue : t.call.kind ≡ 6 → t.state ≡ 3 → t.place ≡ 20 + t.call.object → WaitFits t
  writer : (t.call.kind ≡ 15) ⊎ (t.call.kind ≡ 16) → t.state ≡ 3 → t.place ≡ 28 + t.call.object → WaitFits t
  reader : t.call.kind ≡ 17 → t.state ≡ 3 → t.place ≡ 32 + t.call.object → WaitFits t
  events : t.call.kind ≡ 14 → t.state ≡ 4 → t.place ≡ 0 → WaitFits t

-- "Remaining ticks are 0 for a ready thread or an infinite timeout, else 1 to the call's timeout"
pub data TicksFit (t : Thread) : Type 0 where
  none : (t.state ≡ 0) ⊎ (t.call.timeout ≡ 4294967295) → t.remaining ≡ 0 → TicksFit t
  some : t.state ≢ 0 → t.call.timeout ≢ 4294967295 → 1 ≤ t.remaining → t.remaining ≤ t.call.timeout → TicksFit t

-- "awaited flags (an unfinished 14's mask, else 0)"
pub data AwaitedFit (t : Thread) : Type 0 where
  mask : t.call.kind ≡ 14 → t.awaited ≡ t.call.operand → AwaitedFit t
  none : t.call.kind ≢ 14 → t.awaited ≡ 0 → AwaitedFit t

-- "Wait place, call fields and awaited flags are as a thread's record says"
pub record ThreadFits (z : Sizes) (t : Thread) : Type 0 where
  pub call : CallFits z t.call
  pub wait : WaitFits t
  pub ticks : TicksFit t
  pub awaited : AwaitedFit t
  -- "A thread awaiting events has none of its flags pending"
  pub none-pending : t.state ≡ 4 → bit_and t.pending t.awaited ≡ 0
  -- of document 02: "Refusal 1 also covers a cause outside the list": none is 0, tick 8
  pub cause : t.cause ≤ 8

-- ---- counters, references, mailboxes, pools

-- how many of the indexes below n pass a test
abbrev pub number : (ℕ → Bool) → ℕ → ℕ
number f zero = 0
number f (suc n) = number f n + cond (f n) 1 0

-- thread i is queued at the place p
abbrev pub is_queued : World → ℕ → ℕ → Bool
is_queued w p i = eqb (w.thread i).state 3 && eqb (w.thread i).place p

-- "A semaphore (a pool's too) .. with n > 0 threads queued has counter -n; with none, a semaphore is at least 0"
pub data SemaphoreFits (c : ℤ) : ℕ → Type 0 where
  waiters : {n : ℕ} → c ≡ negsuc n → SemaphoreFits c (suc n)
  none : {m : ℕ} → c ≡ pos m → SemaphoreFits c 0

-- "or queue with n > 0 threads queued has counter -n; with none, .. a queue exactly 0"
pub data QueueFits (c : ℤ) : ℕ → Type 0 where
  waiters : {n : ℕ} → c ≡ negsuc n → QueueFits c (suc n)
  none : c ≡ pos 0 → QueueFits c 0

-- the positions of a mailbox of so many slots; and of a pipe, which "fit the buffer as a mailbox's fit its slots"
pub record PositionsFit (q : Positions) (slots : ℕ) : Type 0 where
  -- "places, counts (a mailbox's 0 to its slots) .. are in range"
  pub count : q.count ≤ slots
  pub read : q.read < slots
  pub write : q.write < slots
  -- "A mailbox's write place is its read place plus its count, modulo slots"
  pub follows : q.write ≡ (q.read + q.count) % slots

-- "the larger of counter and 0"
abbrev pub larger : ℤ → ℕ
larger (pos m) = m
larger (negsuc m) = 0

-- how often an object stands in a free list
abbrev pub listings : Pool → ℕ → ℕ
listings x o = number (λ j. eqb (get_or x.list j 0) o) x.length

-- "woken with 0"
abbrev pub is_zero : ℤ → Bool
is_zero (pos zero) = true
is_zero (pos (suc m)) = false
is_zero (negsuc m) = false

-- "ready threads whose unfinished alloc was woken with 0": thread i, by the pool q
abbrev pub is_promised : World → ℕ → ℕ → Bool
is_promised w q i =
    (eqb (w.thread i).state 0 && (eqb (w.thread i).call.kind 20 && is_zero (w.thread i).message))
    && eqb (w.thread i).call.object q

-- a pool with its counter and so many promised objects. Marks are 0 absent, 1 free, 2 out
pub record PoolFits (x : Pool) (c : ℤ) (promised : ℕ) : Type 0 where
  pub length : x.length ≤ 32
  pub objects : (j : ℕ) → j < x.length → get_or x.list j 0 < 32
  -- "A free list has each free object once .."
  pub once : (o : ℕ) → o < 32 → get_or x.marks o 0 ≡ 1 → listings x o ≡ 1
  -- ".. and no other"
  pub no_other : (o : ℕ) → o < 32 → get_or x.marks o 0 ≢ 1 → listings x o ≡ 0
  -- "its length is the larger of counter and 0, plus the ready threads whose unfinished alloc was woken with 0"
  pub promises : x.length ≡ larger c + promised
  -- "Each object is marked absent, free or out"
  pub marks : (o : ℕ) → o < 32 → get_or x.marks o 0 ≤ 2

-- ---- words, of document 02

-- thread i is ready
abbrev pub is_ready : World → ℕ → Bool
is_ready w i = eqb (w.thread i).state 0

-- a place where threads queue
pub data InUse (z : Sizes) (p : ℕ) : Type 0 where
  semaphore : p < z.semaphores → InUse z p
  pool : (q : ℕ) → q < z.pools → p ≡ 16 + q → InUse z p
  queue : (q : ℕ) → q < z.queues → p ≡ 20 + q → InUse z p
  writers : (m : ℕ) → m < z.mailboxes → p ≡ 28 + m → InUse z p
  readers : (m : ℕ) → m < z.mailboxes → p ≡ 32 + m → InUse z p

-- "what a walk over the records would give": a bit for each of n threads that passes, and none from n on
abbrev pub WordOf : (ℕ → Bool) → ℕ → ℕ → Type 0
WordOf f n m = MaskOf (λ i. ltb i n && f i) m

pub record WordsAgree (w : World) (v : Words) : Type 0 where
  -- "bit i set exactly when thread i is ready"
  pub ready : WordOf (is_ready w) w.sizes.threads v.ready
  -- "and one such word for each semaphore (a pool's too), queue and mailbox side with the threads waiting there"
  pub waiting : (p : ℕ) → InUse w.sizes p → WordOf (is_queued w p) w.sizes.threads (get_or v.waiting p 0)

-- ---- the section

pub record HangTogether (w : World) (v : Words) (c : Clock) : Type 0 where
  pub sizes : SizesFit w.sizes
  -- "the frequency .. in range"
  pub frequency : (1 ≤ c.frequency) × (c.frequency ≤ 1000000)
  pub semaphores : (s : ℕ) → s < w.sizes.semaphores → SemaphoreFits (w.counter s) (number (is_queued w s) w.sizes.threads)
  pub pool-counters : (q : ℕ) → q < w.sizes.pools
      → SemaphoreFits (w.counter (16 + q)) (number (is_queued w (16 + q)) w.sizes.threads)
  pub queues : (q : ℕ) → q < w.sizes.queues
      → QueueFits (w.counter (20 + q)) (number (is_queued w (20 + q)) w.sizes.threads)
  -- "a mailbox has a writers' and a readers' queue"
  pub writers : (m : ℕ) → m < w.sizes.mailboxes
      → QueueFits (w.counter (28 + m)) (number (is_queued w (28 + m)) w.sizes.threads)
  pub readers : (m : ℕ) → m < w.sizes.mailboxes
      → QueueFits (w.counter (32 + m)) (number (is_queued w (32 + m)) w.sizes.threads)
  -- "Reference r holds i exactly if i is suspended on r"
  pub holder : (r : ℕ) → r < w.sizes.references → (w.holder r ≡ 255) ⊎ (w.holder r < w.sizes.threads)
  pub holds : (r : ℕ) → r < w.sizes.references → (i : ℕ) → i < w.sizes.threads
      → (w.holder r ≡ i) ↔ (((w.thread i).state ≡ 2) × ((w.thread i).place ≡ r))
  pub mailboxes : (m : ℕ) → m < w.sizes.mailboxes → PositionsFit (w.box m).positions (get_or w.sizes.slots m 0)
  pub pools : (q : ℕ) → q < w.sizes.pools
      → PoolFits (w.pool q) (w.counter (16 + q)) (number (is_promised w q) w.sizes.threads)
  pub threads : (i : ℕ) → i < w.sizes.threads → ThreadFits w.sizes (w.thread i)
  -- "The running thread has no unfinished call"
  pub running : (i : ℕ) → First w i → (w.thread i).call.kind ≡ 0
  -- "Words that disagree don't hang together"
  pub words : WordsAgree w v
