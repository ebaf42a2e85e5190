-- Queues, at any place. "6, 7, 8: queue wait; release first; release all"
use Rattle.std.specs.Prelude.{ℕ, cond, ℤ}
use Rattle.kernel.specs.declared.records.Call.{Call}
use Rattle.kernel.specs.declared.records.Kernel.{Kernel}
use Rattle.kernel.specs.Numbers.{queued}
use Rattle.kernel.specs.Walk.{each}
use Rattle.kernel.specs.Words.{has_bit, waiting_at}
use Rattle.kernel.specs.Moves.{woken, blocked}
use Rattle.kernel.specs.Waiters.{first_waiter}

-- thread i waits at the place
unfoldable pub enqueued : Kernel → ℕ → ℕ → Call → Kernel
enqueued k i p call = blocked k i queued p call

-- "the first of .. waiters" is made ready with m; "an empty queue is accepted with nothing woken"
unfoldable pub released_first : Kernel → ℕ → ℤ → Kernel
released_first k p m = woken k (first_waiter k p) m

-- a thread that the word names is made ready, any other is left
abbrev pub released_one : ℕ → ℤ → ℕ → Kernel → Kernel
released_one word m i k = cond (has_bit word i) (woken k i m) k

-- "all waiters are made ready", in index order
unfoldable pub released_all : Kernel → ℕ → ℤ → Kernel
released_all k p m = each 16 (released_one (waiting_at k.words p) m) k
