-- Event flags. "13: event signal; 14: event wait for mask a"
use Rattle.std.specs.Prelude.{ℕ, ◌-◌, Bool, cond, not, ◌&&◌, ◌==◌, bit_and, bit_or}
use Rattle.kernel.specs.declared.records.Call.{Call}
use Rattle.kernel.specs.declared.records.Thread.{Thread}
use Rattle.kernel.specs.declared.records.Kernel.{Kernel}
use Rattle.kernel.specs.Numbers.{nowhere, awaiting, ok}
use Rattle.kernel.specs.Tables.{thread_at, with_thread}
use Rattle.kernel.specs.Moves.{woken, finished, blocked}

abbrev pub with_pending : Thread → ℕ → Thread
with_pending t flags =
    record {
      state = t.state;
      place = t.place;
      remaining = t.remaining;
      pending = flags;
      awaited = t.awaited;
      message = t.message;
      call = t.call;
      answer = t.answer;
      cause = t.cause;
      step = t.step;
    }

-- "the flags of a are ORed to those pending"
abbrev pub flagged : Thread → ℕ → Thread
flagged t mask = with_pending t (bit_or t.pending mask)

-- thread i's "pending flags in a are cleared and are the datum"
unfoldable pub took_flags : Kernel → ℕ → ℕ → Kernel
took_flags k i mask =
    finished
    (with_thread k i (with_pending (thread_at k i) ((thread_at k i).pending - bit_and (thread_at k i).pending mask)))
    i
    ok
    (bit_and (thread_at k i).pending mask)

-- "if its state is awaiting events, for any of them"
abbrev pub is_met : Thread → Bool
is_met t = t.state == awaiting && not (bit_and t.pending t.awaited == 0)

-- ".. it is made ready"; of document 02: "the call stays unfinished until it is continued"
unfoldable pub event_signalled : Kernel → ℕ → ℕ → Kernel
event_signalled k i mask =
    cond (is_met (flagged (thread_at k i) mask))
    (woken (with_thread k i (flagged (thread_at k i) mask)) i ok)
    (with_thread k i (flagged (thread_at k i) mask))

-- flags of the mask that are pending are taken at once; otherwise the thread waits for them
unfoldable pub event_waited : Kernel → ℕ → Call → Kernel
event_waited k i call =
    cond (bit_and (thread_at k i).pending call.operand == 0) (blocked k i awaiting nowhere call)
    (took_flags k i call.operand)
