-- The two moves, to be made ready and to go to sleep, and the end of a call.
use Rattle.std.specs.Prelude.{ℕ, cond, ℤ, ◌==◌, nat_lt}
use Rattle.kernel.specs.declared.records.Call.{Call}
use Rattle.kernel.specs.declared.records.Answer.{Answer}
use Rattle.kernel.specs.declared.records.Thread.{Thread}
use Rattle.kernel.specs.declared.records.Kernel.{Kernel}
use Rattle.kernel.specs.Numbers.{
  nobody,
  nowhere,
  ready,
  suspended,
  queued,
  timed_out,
  immediate,
  infinite,
  event_wait,
}
use Rattle.kernel.specs.Records.{no_call, no_answer}
use Rattle.kernel.specs.Counters.{up, down}
use Rattle.kernel.specs.Tables.{
  thread_at,
  counter_at,
  with_thread,
  with_counter,
  with_holder,
  with_woken,
  with_finished,
  with_answer,
  with_words,
}
use Rattle.kernel.specs.Words.{noted_ready, noted_asleep}

-- ""Made ready" stores the message and sets remaining ticks to 0"; it waits "nowhere if ready"; of document 02: "the cause of its last
-- waking .. and the number of that step"
abbrev pub readied : Thread → ℤ → ℕ → ℕ → Thread
readied t m c n =
    record {
      state = ready;
      place = nowhere;
      remaining = 0;
      pending = t.pending;
      awaited = t.awaited;
      message = m;
      call = t.call;
      answer = t.answer;
      cause = c;
      step = n;
    }

-- the ticks that a timeout leaves to count: "0 for .. an infinite timeout"
abbrev pub ticks_of : ℕ → ℕ
ticks_of timeout = cond (timeout == infinite) 0 timeout

-- "awaited flags (an unfinished 14's mask, else 0)"
abbrev pub awaited_by : Call → ℕ
awaited_by c = cond (c.kind == event_wait) c.operand 0

-- a call that sleeps keeps its fields, and "sets its last answer to 0 and 0"
abbrev pub asleep : Thread → ℕ → ℕ → Call → Thread
asleep t state place call =
    record {
      state = state;
      place = place;
      remaining = ticks_of call.timeout;
      pending = t.pending;
      awaited = awaited_by call;
      message = t.message;
      call = call;
      answer = no_answer;
      cause = t.cause;
      step = t.step;
    }

-- a finished call leaves its answer: "all 0 without one", awaited flags "else 0"
abbrev pub answered : Thread → Answer → Thread
answered t a =
    record {
      state = t.state;
      place = t.place;
      remaining = t.remaining;
      pending = t.pending;
      awaited = 0;
      message = t.message;
      call = no_call;
      answer = a;
      cause = t.cause;
      step = t.step;
    }

-- "taken off its queue (counter +1) or reference (emptied)"
unfoldable pub taken_off : Kernel → ℕ → ℕ → Kernel
taken_off k state place =
    cond (state == queued) (with_counter k place (up (counter_at k place)))
    (cond (state == suspended) (with_holder k place nobody) k)

-- "counter less 1 and sleep"; "Reference r holds i exactly if i is suspended on r"
unfoldable pub put_on : Kernel → ℕ → ℕ → ℕ → Kernel
put_on k i state place =
    cond (state == queued) (with_counter k place (down (counter_at k place)))
    (cond (state == suspended) (with_holder k place i) k)

-- thread i is made ready with m, by the cause of the call at work, in the step at work
unfoldable pub woken : Kernel → ℕ → ℤ → Kernel
woken k i m =
    with_words
    (with_woken
    (with_thread (taken_off k (thread_at k i).state (thread_at k i).place) i
    (readied (thread_at k i) m k.cause k.steps))
    i)
    (noted_ready k.words i (thread_at k i).state (thread_at k i).place)

-- thread i goes to sleep in a call; only a thread of the table sleeps
unfoldable pub slept : Kernel → ℕ → ℕ → ℕ → Call → Kernel
slept k i state place call =
    cond (nat_lt i 16)
    (with_words
    (with_thread (put_on k i state place) i (asleep (thread_at k i) state place call))
    (noted_asleep k.words i state place))
    k

-- thread i's call is finished; an interrupt has no record and no finished bit, only its answer
unfoldable pub finished : Kernel → ℕ → ℤ → ℕ → Kernel
finished k i m d =
    cond (i == nobody) (with_answer k (record { message = m; datum = d }))
    (with_finished (with_thread k i (answered (thread_at k i) (record { message = m; datum = d }))) i)

-- "a timeout of 0 answers -1 at once, changing nothing else"; otherwise the thread sleeps
unfoldable pub blocked : Kernel → ℕ → ℕ → ℕ → Call → Kernel
blocked k i state place call =
    cond (call.timeout == immediate) (finished k i timed_out 0) (slept k i state place call)
