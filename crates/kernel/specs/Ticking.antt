-- The tick. "in index order, each remaining count above 0 falls by 1; at 0 the thread is taken off its queue .. and made ready with -1"
use Rattle.std.specs.Prelude.{ℕ, ◌-◌, cond, ◌==◌}
use Rattle.kernel.specs.declared.records.Thread.{Thread}
use Rattle.kernel.specs.declared.records.Kernel.{Kernel}
use Rattle.kernel.specs.Numbers.{timed_out}
use Rattle.kernel.specs.Walk.{each}
use Rattle.kernel.specs.Tables.{used_rows, thread_at, with_thread}
use Rattle.kernel.specs.Moves.{woken}

-- one tick less; none stays none
abbrev pub counted_off : Thread → Thread
counted_off t =
    record {
      state = t.state;
      place = t.place;
      remaining = t.remaining - 1;
      pending = t.pending;
      awaited = t.awaited;
      message = t.message;
      call = t.call;
      answer = t.answer;
      cause = t.cause;
      step = t.step;
    }

-- the last tick of a wait makes its thread ready
abbrev pub ticked_one : ℕ → Kernel → Kernel
ticked_one i k =
    cond ((thread_at k i).remaining == 1) (woken k i timed_out) (with_thread k i (counted_off (thread_at k i)))

unfoldable pub ticked : Kernel → ℕ → Kernel
ticked k n = each (used_rows n) ticked_one k
