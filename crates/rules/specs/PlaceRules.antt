-- Whether each counter agrees with the threads that are queued at its place.
use Rattle.std.specs.Prelude.{ℕ, ◌-◌, Bool, true, cond, not, ◌&&◌, List, eqb, ltb, ℤ, pos, get_or}
use Rattle.std.specs.Int.Signed.{lt_z}
use Rattle.kernel.specs.declared.records.Thread.{Thread}
use Rattle.kernel.specs.declared.records.Kernel.{Kernel}
use Rattle.kernel.specs.Numbers.{queued}
use Rattle.kernel.specs.Tables.{used_rows, thread_at, counter_in, counter_at}
use Rattle.kernel.specs.Waiters.{queued_at}
use Rattle.kernel.specs.Walk.{all_from, count_of}
use Rattle.kernel.specs.Words.{ones_of}
use Rattle.library.specs.declared.sizes.Sizes.{Sizes}
use Rattle.library.specs.Signs.{same, minus}
use Rattle.rules.specs.Limits.{first_bad}

-- the sizes put the place p to use: semaphores, pools, queues, and "a mailbox has a writers' and a readers' queue"
abbrev pub in_use : Sizes → ℕ → Bool
in_use z p =
    cond (ltb p 16) (ltb p z.semaphores)
    (cond (ltb p 20) (ltb (p - 16) z.pools)
    (cond (ltb p 28) (ltb (p - 20) z.queues)
    (cond (ltb p 32) (ltb (p - 28) z.mailboxes) (ltb (p - 32) z.mailboxes))))

-- the place at which a thread is queued, or none
abbrev pub queue_of : Thread → ℕ
queue_of t = cond (eqb t.state queued) t.place 36

-- how many of n threads are "queued" at the place p
unfoldable pub queued_count : Kernel → ℕ → ℕ → ℕ
queued_count k n p = count_of (λ i. queued_at p (thread_at k i)) (used_rows n)

-- a "semaphore (a pool's too)" with "none" queued
abbrev pub is_idle : ℕ → ℕ → Bool
is_idle p n = ltb p 20 && eqb n 0

-- "with n > 0 threads queued has counter -n; with none, a semaphore is at least 0 and a queue exactly 0"
abbrev pub counter_fits : ℕ → ℤ → ℕ → Bool
counter_fits p c n = cond (is_idle p n) (not (lt_z c (pos 0))) (same c (minus n))

-- a place that is not in use is no part of the tables
abbrev pub place_fits : Sizes → ℕ → ℤ → ℕ → Bool
place_fits z p c n = cond (in_use z p) (counter_fits p c n) true

-- the counter of the place p agrees with the threads queued there
abbrev pub place_agrees : Kernel → Sizes → ℕ → Bool
place_agrees k z p = place_fits z p (counter_at k p) (queued_count k z.threads p)

-- the first place whose counter does not
abbrev pub bad_place : Kernel → Sizes → ℕ
bad_place k z = first_bad (place_agrees k z) 36

-- the same by the words of a walk: as many are queued at a place as its word has ones
abbrev pub bad_counter : List ℤ → List ℕ → Sizes → ℕ
bad_counter counters waiting z = first_bad (λ p. place_fits z p (counter_in counters p) (ones_of (get_or waiting p 0))) 36

-- each counter does so
unfoldable pub counters_fit : Kernel → Sizes → Bool
counters_fit k z = all_from (place_agrees k z) 0 36
