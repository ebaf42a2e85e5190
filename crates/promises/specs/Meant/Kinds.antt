-- Which operation of the meanings each of the 22 kinds is, before settling.
use Rattle.std.specs.Prelude.{ℕ, suc, ◌-◌, ◌%◌, ◌≤◌, ◌<◌, ◌≡◌, cond, ℤ, pos, negsuc}
use Rattle.std.proofs.Common.{mod-eq_of_lt, arith, lt-ltb, le-ltb}
use Rattle.kernel.specs.declared.time.SystemTime.{SystemTime}
use Rattle.kernel.specs.declared.records.Call.{Call}
use Rattle.kernel.specs.declared.records.Kernel.{Kernel}
use Rattle.kernel.specs.Places.{semaphore_place, queue_place}
use Rattle.kernel.specs.Moves.{finished}
use Rattle.kernel.specs.Queue.{enqueued, released_first, released_all}
use Rattle.kernel.specs.Semaphore.{waited, signalled, reset_to}
use Rattle.kernel.specs.Reference.{suspended_on, resumed}
use Rattle.kernel.specs.Delay.{slept_for, slept_until}
use Rattle.kernel.specs.Event.{event_signalled, event_waited}
use Rattle.kernel.specs.Ticking.{ticked}
use Rattle.library.specs.declared.calls.Step.{Step}
use Rattle.library.specs.declared.tables.Plant.{Plant}
use Rattle.library.specs.Tables.{with_kernel}
use Rattle.library.specs.Binary.{binary_signalled}
use Rattle.library.specs.Mailbox.{post_tried, fetch_tried, mailbox_reset, mailbox_resumed}
use Rattle.library.specs.Pool.{alloc_tried, put_back}
use Rattle.library.specs.Acting.{message_of, signal_acted, call_made, effected, acted_on_kernel, box_effected, acted_on_box, acted}

-- "object numbers 0 to 31" are bytes
pub object-byte : (s : Step) → s.a ≤ 31 → s.a % 256 ≡ s.a
object-byte s h = mod-eq_of_lt (omega arith)

-- "A thread's call that doesn't sleep finishes at once", with a message and 0
abbrev pub at_once_with : Plant → ℕ → ℤ → Plant
at_once_with p i m = with_kernel p (finished p.kernel i m 0)

-- "An answer or datum not named is 0"
abbrev pub at_once : Plant → ℕ → Plant
at_once p i = at_once_with p i (pos 0)

-- "unfinished call (kind, object, operand, full timeout ..)"
abbrev pub kept_call : ℕ → ℕ → ℕ → ℕ → Call
kept_call kind object operand timeout = record { kind = kind; object = object; operand = operand; timeout = timeout }

-- "The operand a is read as signed 32-bit where it is a message"
module _ (s : Step) where
  -- from 0 up
  pub message-up : s.a < 2147483648 → message_of s ≡ pos s.a
  message-up h = rw (lt-ltb s.a 2147483648 h)

  -- and below 0
  pub message-down : 2147483648 ≤ s.a → s.a < 4294967296 → message_of s ≡ negsuc (4294967295 - s.a)
  message-down h l = let e : 4294967296 - suc s.a ≡ 4294967295 - s.a = omega arith in rw (le-ltb s.a 2147483648 h, e)

-- the rows, kind by kind: h is what a step of caller i on object o makes of the tables p, whose kernel is k and whose threads are n;
-- "A call that sleeps keeps 0 for unused fields"
pub record Rows (p h : Plant) (k : Kernel) (n i o : ℕ) (now : SystemTime) (s : Step) : Type 0 where
  pub tick : s.kind ≡ 1 → h ≡ at_once (with_kernel p (ticked k n)) i
  pub semaphore-wait : s.kind ≡ 2 → h ≡ with_kernel p (waited k i (semaphore_place o) (kept_call 2 o 0 s.timeout))
  pub signal : s.kind ≡ 3
      → h ≡ at_once_with (with_kernel p (signalled k (semaphore_place o)).kernel) i (cond (signalled k (semaphore_place o)).counted (pos 0) (pos 1))
  -- a reset above 2147483647 is refused
  pub reset : s.kind ≡ 4 → s.a ≤ 2147483647 → h ≡ at_once (with_kernel p (reset_to k (semaphore_place o) (pos s.a))) i
  pub binary-signal : s.kind ≡ 5 → h ≡ at_once (with_kernel p (binary_signalled k (semaphore_place o))) i
  pub queue-wait : s.kind ≡ 6 → h ≡ with_kernel p (enqueued k i (queue_place o) (kept_call 6 o 0 s.timeout))
  -- "the waker's a is the message"
  pub release-first : s.kind ≡ 7 → h ≡ at_once (with_kernel p (released_first k (queue_place o) (message_of s))) i
  pub release-all : s.kind ≡ 8 → h ≡ at_once (with_kernel p (released_all k (queue_place o) (message_of s))) i
  pub suspend : s.kind ≡ 9 → h ≡ with_kernel p (suspended_on k i o (kept_call 9 o 0 s.timeout))
  pub resume : s.kind ≡ 10 → h ≡ at_once (with_kernel p (resumed k o (message_of s))) i
  pub sleep-for : s.kind ≡ 11 → h ≡ with_kernel p (slept_for k i (record { 0 = s.timeout }))
  pub sleep-until : s.kind ≡ 12 → h ≡ with_kernel p (slept_until k i now (record { 0 = s.a }))
  pub event-signal : s.kind ≡ 13 → h ≡ at_once (with_kernel p (event_signalled k o s.a)) i
  pub event-wait : s.kind ≡ 14 → h ≡ with_kernel p (event_waited k i (kept_call 14 0 s.a s.timeout))
  pub post : s.kind ≡ 15 → h ≡ post_tried p i (kept_call 15 o s.a s.timeout)
  pub post-ahead : s.kind ≡ 16 → h ≡ post_tried p i (kept_call 16 o s.a s.timeout)
  pub fetch : s.kind ≡ 17 → h ≡ fetch_tried p i (kept_call 17 o 0 s.timeout)
  pub mailbox-reset : s.kind ≡ 18 → h ≡ at_once (mailbox_reset p o) i
  pub mailbox-resume : s.kind ≡ 19 → h ≡ at_once (mailbox_resumed p o) i
  pub alloc : s.kind ≡ 20 → h ≡ alloc_tried p i (kept_call 20 o 0 s.timeout)
  -- an object above 31 is refused
  pub free : s.kind ≡ 21 → s.a ≤ 31 → h ≡ at_once (put_back p o s.a) i
  pub add : s.kind ≡ 22 → s.a ≤ 31 → h ≡ at_once (put_back p o s.a) i

-- each kind is its row
pub rows : (p : Plant) (now : SystemTime) (s : Step)
    → Rows p (acted p now s) p.kernel p.sizes.threads s.caller s.object now s
unfolding signal_acted call_made effected acted_on_kernel box_effected acted_on_box acted
rows p now s =
    record {
      tick = λ e. rw e;
      semaphore-wait = λ e. rw e;
      signal = λ e. rw e;
      reset = λ e h. rw (e, message-up s (omega arith));
      binary-signal = λ e. rw e;
      queue-wait = λ e. rw e;
      release-first = λ e. rw e;
      release-all = λ e. rw e;
      suspend = λ e. rw e;
      resume = λ e. rw e;
      sleep-for = λ e. rw e;
      sleep-until = λ e. rw e;
      event-signal = λ e. rw e;
      event-wait = λ e. rw e;
      post = λ e. rw e;
      post-ahead = λ e. rw e;
      fetch = λ e. rw e;
      mailbox-reset = λ e. rw e;
      mailbox-resume = λ e. rw e;
      alloc = λ e. rw e;
      free = λ e h. rw (e, object-byte s h);
      add = λ e h. rw (e, object-byte s h);
    }
