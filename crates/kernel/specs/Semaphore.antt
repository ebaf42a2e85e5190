-- Counting semaphores, at any place. "2: semaphore wait; 3: signal; 4: reset"
use Rattle.std.specs.Prelude.{ℕ, cond, ℤ, pos, int_lt}
use Rattle.kernel.specs.declared.records.Call.{Call}
use Rattle.kernel.specs.declared.records.Kernel.{Kernel}
use Rattle.kernel.specs.declared.semaphore.Signalled.{Signalled}
use Rattle.kernel.specs.Numbers.{ok, was_reset, top}
use Rattle.kernel.specs.Counters.{up, down}
use Rattle.kernel.specs.Tables.{counter_at, with_counter}
use Rattle.kernel.specs.Moves.{finished}
use Rattle.kernel.specs.Queue.{enqueued, released_first, released_all}

-- "counter .. less 1"
unfoldable pub taken : Kernel → ℕ → Kernel
taken k p = with_counter k p (down (counter_at k p))

-- "counter above 0: less 1, answer 0. Else timeout 0: answer -1, nothing else changed. Else counter less 1 and sleep"
unfoldable pub waited : Kernel → ℕ → ℕ → Call → Kernel
waited k i p call = cond (int_lt (pos 0) (counter_at k p)) (finished (taken k p) i ok 0) (enqueued k i p call)

-- "counter +1; if it was below 0, the highest-priority waiter is made ready with 0": being made ready raises the counter. Of document 02: at
-- the top it "leaves the counter, wakes nobody", and it "tells its callers .. whether it counted"
unfoldable pub signalled : Kernel → ℕ → Signalled
signalled k p =
    record {
      kernel = cond (int_lt (counter_at k p) (pos 0)) (released_first k p ok) (with_counter k p (up (counter_at k p)));
      counted = int_lt (counter_at k p) top;
    }

-- "counter becomes a; all waiters are made ready with -2"
unfoldable pub reset_to : Kernel → ℕ → ℤ → Kernel
reset_to k p c = with_counter (released_all k p was_reset) p c
