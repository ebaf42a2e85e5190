-- THE TABLE OF STEPS: what an accepted step of each kind makes of the world, a constructor a row, before settling.
use Rattle.std.specs.Prelude.{ℕ, zero, suc, ◌+◌, ◌-◌, ◌%◌, ◌≤◌, ◌<◌, ◌≡◌, ◌≢◌, ◌⊎◌, Bool, true, false, cond, eqb, get_or, set, ℤ, pos, negsuc, ◌+ℤ◌, ◌-ℤ◌}
use Rattle.std.specs.Int.Bits.{bit_and, bit_or}
use Rattle.std.specs.Int.Signed.{lt_z}
use Rattle.kernel.specs.declared.time.SystemTime.{SystemTime}
use Rattle.kernel.specs.declared.records.Call.{Call}
use Rattle.kernel.specs.declared.records.Thread.{Thread}
use Rattle.library.specs.declared.calls.Step.{Step}
use Rattle.library.specs.declared.tables.Mailbox.{Mailbox}
use Rattle.library.specs.declared.tables.Pool.{Pool}
use Rattle.library.specs.declared.tables.Tables.{Tables}
use Rattle.promises.specs.Paper.World.{
  World,
  found,
  counter_to,
  thread_to,
  box_to,
  pool_to,
  made_ready,
  ended,
  fall_asleep,
  signed,
  kept,
  Highest,
}

-- ---- the acts: x is what an accepted step has made of the world w before settling. Of document 02, the cause of a waking: 1 signal, 2 release,
-- 3 resume, 4 event, 5 post, 6 fetch, 7 reset, 8 tick

-- "each remaining count above 0 falls by 1; at 0 the thread is taken off its queue .. and made ready with -1": of thread i
pub data TickOf (w : World) (i : ℕ) (x : World) : Type 0 where
  no-ticks : (w.thread i).remaining ≡ 0 → x ≡ w → TickOf w i x
  falls : 1 < (w.thread i).remaining
      → x
      ≡ thread_to w i (record {
        state = (w.thread i).state;
        place = (w.thread i).place;
        remaining = (w.thread i).remaining - 1;
        pending = (w.thread i).pending;
        awaited = (w.thread i).awaited;
        message = (w.thread i).message;
        call = (w.thread i).call;
        answer = (w.thread i).answer;
        cause = (w.thread i).cause;
        step = (w.thread i).step;
      })
      → TickOf w i x
  last : (w.thread i).remaining ≡ 1 → x ≡ made_ready w i (negsuc 0) 8 → TickOf w i x

-- "in index order": of the threads below n
abbrev pub Ticks : World → ℕ → World → Type 0
Ticks w zero x = x ≡ w
Ticks w (suc n) x = (v : World) × Ticks w n v × TickOf v n x

-- "counter +1; if it was below 0, the highest-priority waiter is made ready with 0", at the place p. Of document 02: "the basic signal tells
-- its callers .. whether it counted"
pub data Signal (w : World) (p : ℕ) (x : World) : Bool → Type 0 where
  raises : lt_z (w.counter p) (pos 0) ≡ false → lt_z (w.counter p) (pos 2147483647) ≡ true → x ≡ counter_to w p (w.counter p +ℤ pos 1)
      → Signal w p x true
  -- being taken off the queue is the counter's +1
  wakes : lt_z (w.counter p) (pos 0) ≡ true → (i : ℕ) → Highest w p i → x ≡ made_ready w i (pos 0) 1 → Signal w p x true
  -- "at counter 2147483647 .. leaves the counter, wakes nobody"
  at_top : lt_z (w.counter p) (pos 2147483647) ≡ false → x ≡ w → Signal w p x false

-- "5: as 3 if the counter is below 1, else nothing"; whether it counted is dropped
pub data BinarySignal (w : World) (p : ℕ) (x : World) : Type 0 where
  signals : lt_z (w.counter p) (pos 1) ≡ true → (counted : Bool) → Signal w p x counted → BinarySignal w p x
  nothing : lt_z (w.counter p) (pos 1) ≡ false → x ≡ w → BinarySignal w p x

-- "a timeout of 0 answers -1 at once, changing nothing else"; otherwise thread i sleeps in a state, at a place
pub data Waits (w : World) (i state place : ℕ) (c : Call) (x : World) : Type 0 where
  now : c.timeout ≡ 0 → x ≡ ended w i (negsuc 0) 0 → Waits w i state place c x
  later : c.timeout ≢ 0 → x ≡ fall_asleep w i state place c → Waits w i state place c x

-- "counter above 0: less 1, answer 0. Else timeout 0: answer -1, nothing else changed. Else counter less 1 and sleep"
pub data SemaphoreWait (w : World) (i p : ℕ) (c : Call) (x : World) : Type 0 where
  above : lt_z (pos 0) (w.counter p) ≡ true → x ≡ ended (counter_to w p (w.counter p -ℤ pos 1)) i (pos 0) 0 → SemaphoreWait w i p c x
  not-above : lt_z (pos 0) (w.counter p) ≡ false → Waits w i 3 p c x → SemaphoreWait w i p c x

-- the first of the waiters at p is made ready with m, by the cause c; "an empty queue is accepted with nothing woken"
pub data Release (w : World) (p : ℕ) (m : ℤ) (c : ℕ) (x : World) : Type 0 where
  first : (i : ℕ) → Highest w p i → x ≡ made_ready w i m c → Release w p m c x
  nobody : ((i : ℕ) → Highest w p i → ⊥) → x ≡ w → Release w p m c x

-- thread i, if it waits at p, is made ready with m, by the cause c
pub data ReleaseOf (w : World) (p : ℕ) (m : ℤ) (c i : ℕ) (x : World) : Type 0 where
  waits : (w.thread i).state ≡ 3 → (w.thread i).place ≡ p → x ≡ made_ready w i m c → ReleaseOf w p m c i x
  elsewhere : ((w.thread i).state ≢ 3) ⊎ ((w.thread i).place ≢ p) → x ≡ w → ReleaseOf w p m c i x

-- "all waiters are made ready": of the threads below n
abbrev pub ReleaseAll : World → ℕ → ℤ → ℕ → ℕ → World → Type 0
ReleaseAll w p m c zero x = x ≡ w
ReleaseAll w p m c (suc n) x = (v : World) × ReleaseAll w p m c n v × ReleaseOf v p m c n x

-- "resume of an empty reference does nothing"
pub data Resume (w : World) (r : ℕ) (m : ℤ) (x : World) : Type 0 where
  held : w.holder r ≢ 255 → x ≡ made_ready w (w.holder r) m 3 → Resume w r m x
  empty : w.holder r ≡ 255 → x ≡ w → Resume w r m x

-- a record with these flags pending
abbrev pub pending_to : Thread → ℕ → Thread
pending_to t flags =
    record {
      state = t.state;
      place = t.place;
      remaining = t.remaining;
      pending = flags;
      awaited = t.awaited;
      message = t.message;
      call = t.call;
      answer = t.answer;
      cause = t.cause;
      step = t.step;
    }

-- thread i's "pending flags in a are cleared and are the datum"
abbrev pub took_flags : World → ℕ → ℕ → World
took_flags w i a =
    let f = (w.thread i).pending in
    ended (thread_to w i (pending_to (w.thread i) (f - bit_and f a))) i (pos 0) (bit_and f a)

-- "the flags of a are ORed to those pending for thread "object""
abbrev pub flagged : World → ℕ → ℕ → World
flagged w i a = thread_to w i (pending_to (w.thread i) (bit_or (w.thread i).pending a))

-- "if its state is awaiting events, for any of them, it is made ready"; of document 02: "the call stays unfinished until it is continued".
-- Awaiting events is state 4
pub data EventSignal (w : World) (i a : ℕ) (x : World) : Type 0 where
  comes : (w.thread i).state ≡ 4 → bit_and (bit_or (w.thread i).pending a) (w.thread i).awaited ≢ 0
      → x ≡ made_ready (flagged w i a) i (pos 0) 4 → EventSignal w i a x
  only-flagged : ((w.thread i).state ≢ 4) ⊎ (bit_and (bit_or (w.thread i).pending a) (w.thread i).awaited ≡ 0) → x ≡ flagged w i a
      → EventSignal w i a x

-- "event wait for mask a": pending flags in it, or a wait for them
pub data EventWait (w : World) (i : ℕ) (c : Call) (x : World) : Type 0 where
  finds : bit_and (w.thread i).pending c.operand ≢ 0 → x ≡ took_flags w i c.operand → EventWait w i c x
  finds-none : bit_and (w.thread i).pending c.operand ≡ 0 → Waits w i 4 0 c x → EventWait w i c x

-- the slots of mailbox m
abbrev pub slots_of : World → ℕ → ℕ
slots_of w m = get_or w.sizes.slots m 0

-- "post writes at the write place"
abbrev pub written : Mailbox → ℕ → ℕ → Mailbox
written b slots x =
    record {
      positions = record {
        read = b.positions.read;
        write = (b.positions.write + 1) % slots;
        count = b.positions.count + 1;
      };
      reset = b.reset;
      messages = set b.messages b.positions.write x;
    }

-- "ahead steps the read place back and writes there"
abbrev pub written_ahead : Mailbox → ℕ → ℕ → Mailbox
written_ahead b slots x =
    let back = cond (eqb b.positions.read 0) (slots - 1) (b.positions.read - 1) in
    record {
      positions = record { read = back; write = b.positions.write; count = b.positions.count + 1 };
      reset = b.reset;
      messages = set b.messages back x;
    }

-- "fetch takes from the read place"
abbrev pub taken_from : Mailbox → ℕ → Mailbox
taken_from b slots =
    record {
      positions = record {
        read = (b.positions.read + 1) % slots;
        write = b.positions.write;
        count = b.positions.count - 1;
      };
      reset = b.reset;
      messages = b.messages;
    }

-- the whole mailbox rule of a post: "in reset state post and fetch answer -2. With room, .. Each then releases the first of the other
-- side's waiters with 0. Without room (or message) timeout 0 answers -1; otherwise the thread sleeps on its side's queue"
pub data Post (w : World) (i : ℕ) (c : Call) (x : World) : Type 0 where
  in-reset : (w.box c.object).reset ≢ 0 → x ≡ ended w i (negsuc 1) 0 → Post w i c x
  behind : (w.box c.object).reset ≡ 0 → (w.box c.object).positions.count < slots_of w c.object → c.kind ≡ 15
      → (v : World) → Release w (32 + c.object) (pos 0) 5 v
      → x ≡ ended (box_to v c.object (written (w.box c.object) (slots_of w c.object) c.operand)) i (pos 0) 0
      → Post w i c x
  ahead : (w.box c.object).reset ≡ 0 → (w.box c.object).positions.count < slots_of w c.object → c.kind ≡ 16
      → (v : World) → Release w (32 + c.object) (pos 0) 5 v
      → x ≡ ended (box_to v c.object (written_ahead (w.box c.object) (slots_of w c.object) c.operand)) i (pos 0) 0
      → Post w i c x
  no_room : (w.box c.object).reset ≡ 0 → slots_of w c.object ≤ (w.box c.object).positions.count → Waits w i 3 (28 + c.object) c x
      → Post w i c x

-- and of a fetch: "A fetched message is the datum"
pub data Fetch (w : World) (i : ℕ) (c : Call) (x : World) : Type 0 where
  in-reset : (w.box c.object).reset ≢ 0 → x ≡ ended w i (negsuc 1) 0 → Fetch w i c x
  message : (w.box c.object).reset ≡ 0 → 0 < (w.box c.object).positions.count
      → (v : World) → Release w (28 + c.object) (pos 0) 6 v
      → x
      ≡ ended (box_to v c.object (taken_from (w.box c.object) (slots_of w c.object))) i (pos 0)
      (get_or (w.box c.object).messages (w.box c.object).positions.read 0)
      → Fetch w i c x
  no-message : (w.box c.object).reset ≡ 0 → (w.box c.object).positions.count ≡ 0 → Waits w i 3 (32 + c.object) c x
      → Fetch w i c x

-- "Reset empties, returns both places to 0, sets reset state"
abbrev pub in_reset : Mailbox → Mailbox
in_reset b = record { positions = record { read = 0; write = 0; count = 0 }; reset = 1; messages = b.messages }

-- "resume clears the state"
abbrev pub at_work : Mailbox → Mailbox
at_work b = record { positions = b.positions; reset = 0; messages = b.messages }

-- "the top" is the last of a pool's list
abbrev pub top_in : Pool → ℕ
top_in x = get_or x.list (x.length - 1) 0

-- a pool without its top, which is out: mark 2
abbrev pub without_top : Pool → Pool
without_top x = record { length = x.length - 1; list = x.list; marks = set x.marks (top_in x) 2 }

-- "put the object on top": it is free, mark 1
abbrev pub on_top : Pool → ℕ → Pool
on_top x o = record { length = x.length + 1; list = set x.list x.length o; marks = set x.marks o 1 }

-- the call of i "takes the top as its datum"
abbrev pub top_taken : World → ℕ → ℕ → World
top_taken w i q = ended (pool_to w q (without_top (w.pool q))) i (pos 0) (top_in (w.pool q))

-- "Alloc waits on the counter, then takes the top"
pub data Alloc (w : World) (i : ℕ) (c : Call) (x : World) : Type 0 where
  above : lt_z (pos 0) (w.counter (16 + c.object)) ≡ true
      → x ≡ top_taken (counter_to w (16 + c.object) (w.counter (16 + c.object) -ℤ pos 1)) i c.object → Alloc w i c x
  not-above : lt_z (pos 0) (w.counter (16 + c.object)) ≡ false → Waits w i 3 (16 + c.object) c x → Alloc w i c x

-- the table of steps, a constructor a row: x is what the step s of this kind makes of the tables t, at the time now
pub data Act (t : Tables) (now : SystemTime) (s : Step) (x : World) : ℕ → Type 0 where
  -- "A thread's call that doesn't sleep finishes at once", and so does an interrupt's step, with 0 and 0
  tick : (v : World) → Ticks (found t) t.sizes.threads v → x ≡ ended v s.caller (pos 0) 0 → Act t now s x 1
  semaphore-wait : SemaphoreWait (found t) s.caller s.object (kept 2 s.object 0 s.timeout) x → Act t now s x 2
  -- "answers message 1 in place of 0", where it did not count
  signal : (v : World) (counted : Bool) → Signal (found t) s.object v counted → x ≡ ended v s.caller (cond counted (pos 0) (pos 1)) 0
      → Act t now s x 3
  -- "counter becomes a; all waiters are made ready with -2"
  reset : (v : World) → ReleaseAll (found t) s.object (negsuc 1) 7 t.sizes.threads v
      → x ≡ ended (counter_to v s.object (pos s.a)) s.caller (pos 0) 0 → Act t now s x 4
  binary-signal : (v : World) → BinarySignal (found t) s.object v → x ≡ ended v s.caller (pos 0) 0 → Act t now s x 5
  queue-wait : Waits (found t) s.caller 3 (20 + s.object) (kept 6 s.object 0 s.timeout) x → Act t now s x 6
  -- "the waker's a is the message"
  release-first : (v : World) → Release (found t) (20 + s.object) (signed s.a) 2 v → x ≡ ended v s.caller (pos 0) 0 → Act t now s x 7
  release-all : (v : World) → ReleaseAll (found t) (20 + s.object) (signed s.a) 2 t.sizes.threads v
      → x ≡ ended v s.caller (pos 0) 0 → Act t now s x 8
  suspend : Waits (found t) s.caller 2 s.object (kept 9 s.object 0 s.timeout) x → Act t now s x 9
  resume : (v : World) → Resume (found t) s.object (signed s.a) v → x ≡ ended v s.caller (pos 0) 0 → Act t now s x 10
  sleep-for : x ≡ fall_asleep (found t) s.caller 1 0 (kept 11 0 0 s.timeout) → Act t now s x 11
  -- "until sleeps a minus system time, wrapped"; "12's full timeout is the interval slept"
  sleep-until : x ≡ fall_asleep (found t) s.caller 1 0 (kept 12 0 s.a ((s.a + (4294967296 - now.0)) % 4294967296))
      → Act t now s x 12
  event-signal : (v : World) → EventSignal (found t) s.object s.a v → x ≡ ended v s.caller (pos 0) 0 → Act t now s x 13
  event-wait : EventWait (found t) s.caller (kept 14 0 s.a s.timeout) x → Act t now s x 14
  post : Post (found t) s.caller (kept 15 s.object s.a s.timeout) x → Act t now s x 15
  post-ahead : Post (found t) s.caller (kept 16 s.object s.a s.timeout) x → Act t now s x 16
  fetch : Fetch (found t) s.caller (kept 17 s.object 0 s.timeout) x → Act t now s x 17
  -- "releases both queues with -2"
  mailbox-reset : (v u : World) → ReleaseAll (found t) (28 + s.object) (negsuc 1) 7 t.sizes.threads v
      → ReleaseAll v (32 + s.object) (negsuc 1) 7 t.sizes.threads u
      → x ≡ ended (box_to u s.object (in_reset ((found t).box s.object))) s.caller (pos 0) 0 → Act t now s x 18
  mailbox-resume : x ≡ ended (box_to (found t) s.object (at_work ((found t).box s.object))) s.caller (pos 0) 0 → Act t now s x 19
  alloc : Alloc (found t) s.caller (kept 20 s.object 0 s.timeout) x → Act t now s x 20
  -- "Free and add put the object on top and signal"; whether it counted is dropped
  free : (v : World) (counted : Bool) → Signal (found t) (16 + s.object) v counted
      → x ≡ ended (pool_to v s.object (on_top ((found t).pool s.object) s.a)) s.caller (pos 0) 0 → Act t now s x 21
  add : (v : World) (counted : Bool) → Signal (found t) (16 + s.object) v counted
      → x ≡ ended (pool_to v s.object (on_top ((found t).pool s.object) s.a)) s.caller (pos 0) 0 → Act t now s x 22
