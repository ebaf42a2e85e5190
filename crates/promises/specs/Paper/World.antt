-- THE WORLD OF A STEP: all that document 01 speaks of, read by index, and the words for what becomes of it. The ready word and the words of
-- the waiting threads are no part of it: they are told once, where a step has ended.
use Rattle.std.specs.Prelude.{ℕ, ◌+◌, ◌-◌, ◌/◌, ◌%◌, ◌^◌, ◌<◌, ◌≡◌, ◌≢◌, Bool, true, false, cond, eqb, ltb, length, get_or, replicate, ℤ, pos, negsuc, ◌+ℤ◌, ◌-ℤ◌}
use Rattle.kernel.specs.declared.records.Call.{Call}
use Rattle.kernel.specs.declared.records.Answer.{Answer}
use Rattle.kernel.specs.declared.records.Thread.{Thread}
use Rattle.library.specs.declared.sizes.Sizes.{Sizes}
use Rattle.library.specs.declared.tables.Mailbox.{Mailbox}
use Rattle.library.specs.declared.tables.Pool.{Pool}
use Rattle.library.specs.declared.tables.Tables.{Tables}

-- ---- the world of a step: all that the paper speaks of, read by index

pub record World : Type 0 where
  pub sizes : Sizes
  pub thread : ℕ → Thread
  -- semaphore n at n, pool n at 16 + n, queue n at 20 + n, mailbox n's writers at 28 + n and readers at 32 + n
  pub counter : ℕ → ℤ
  -- whom a reference holds, or 255
  pub holder : ℕ → ℕ
  pub box : ℕ → Mailbox
  pub pool : ℕ → Pool
  -- the number of this step
  pub step : ℕ
  -- in this step: who was woken, whose call finished, an interrupt's answer
  pub woken : ℕ → Bool
  pub finished : ℕ → Bool
  pub answer : Answer

-- "all 0 without one"
abbrev pub no_call : Call
no_call = record { kind = 0; object = 0; operand = 0; timeout = 0 }

abbrev pub no_answer : Answer
no_answer = record { message = pos 0; datum = 0 }

-- what is read past a table's end
abbrev pub no_thread : Thread
no_thread =
    record {
      state = 0;
      place = 0;
      remaining = 0;
      pending = 0;
      awaited = 0;
      message = pos 0;
      call = no_call;
      answer = no_answer;
      cause = 0;
      step = 0;
    }

abbrev pub no_box : Mailbox
no_box = record { positions = record { read = 0; write = 0; count = 0 }; reset = 0; messages = replicate 16 0 }

abbrev pub no_pool : Pool
no_pool = record { length = 0; list = replicate 32 0; marks = replicate 32 0 }

-- of document 02: "rises by 1 at the start of each accepted step; at 4294967295 it stays there"
abbrev pub risen : ℕ → ℕ
risen n = cond (eqb n 4294967295) n (n + 1)

-- what a step finds: the tables, its own number, nobody woken, no call finished, no answer
abbrev pub found : Tables → World
found t =
    record {
      sizes = t.sizes;
      thread = λ i. get_or t.kernel.threads i no_thread;
      counter = λ p. get_or t.kernel.counters p (pos 0);
      holder = λ r. get_or t.kernel.references r 255;
      box = λ m. get_or t.mailboxes m no_box;
      pool = λ q. get_or t.pools q no_pool;
      step = risen t.kernel.steps;
      woken = λ i. false;
      finished = λ i. false;
      answer = no_answer;
    }

-- what it leaves: each entry of the tables u is the world's, and the tables have a host's lengths
pub record Left (w : World) (u : Tables) : Type 0 where
  pub sizes : u.sizes ≡ w.sizes
  pub threads : (i : ℕ) → get_or u.kernel.threads i no_thread ≡ w.thread i
  pub counters : (p : ℕ) → get_or u.kernel.counters p (pos 0) ≡ w.counter p
  pub references : (r : ℕ) → get_or u.kernel.references r 255 ≡ w.holder r
  pub boxes : (m : ℕ) → get_or u.mailboxes m no_box ≡ w.box m
  pub pools : (q : ℕ) → get_or u.pools q no_pool ≡ w.pool q
  pub steps : u.kernel.steps ≡ w.step
  pub thread-rows : length u.kernel.threads ≡ 16
  pub counter-rows : length u.kernel.counters ≡ 36
  pub reference-rows : length u.kernel.references ≡ 8
  pub box-rows : length u.mailboxes ≡ 4
  pub pool-rows : length u.pools ≡ 4

-- ---- the words: what becomes of a world

-- a table with the entry i changed to a
abbrev pub put : {A : Type 0} → (ℕ → A) → ℕ → A → ℕ → A
put f i a = λ j. cond (eqb j i) a (f j)

-- one counter becomes c
abbrev pub counter_to : World → ℕ → ℤ → World
counter_to w p c =
    record {
      sizes = w.sizes;
      thread = w.thread;
      counter = put w.counter p c;
      holder = w.holder;
      box = w.box;
      pool = w.pool;
      step = w.step;
      woken = w.woken;
      finished = w.finished;
      answer = w.answer;
    }

-- one thread's record becomes u
abbrev pub thread_to : World → ℕ → Thread → World
thread_to w i u =
    record {
      sizes = w.sizes;
      thread = put w.thread i u;
      counter = w.counter;
      holder = w.holder;
      box = w.box;
      pool = w.pool;
      step = w.step;
      woken = w.woken;
      finished = w.finished;
      answer = w.answer;
    }

-- one mailbox becomes b
abbrev pub box_to : World → ℕ → Mailbox → World
box_to w m b =
    record {
      sizes = w.sizes;
      thread = w.thread;
      counter = w.counter;
      holder = w.holder;
      box = put w.box m b;
      pool = w.pool;
      step = w.step;
      woken = w.woken;
      finished = w.finished;
      answer = w.answer;
    }

-- one pool becomes x
abbrev pub pool_to : World → ℕ → Pool → World
pool_to w q x =
    record {
      sizes = w.sizes;
      thread = w.thread;
      counter = w.counter;
      holder = w.holder;
      box = w.box;
      pool = put w.pool q x;
      step = w.step;
      woken = w.woken;
      finished = w.finished;
      answer = w.answer;
    }

-- ""Made ready" stores the message and sets remaining ticks to 0"; it waits "nowhere if ready"; its call is unfinished still. Of document
-- 02: "the cause of its last waking .. and the number of that step"
abbrev pub ready_with : Thread → ℤ → ℕ → ℕ → Thread
ready_with t m c n =
    record {
      state = 0;
      place = 0;
      remaining = 0;
      pending = t.pending;
      awaited = t.awaited;
      message = m;
      call = t.call;
      answer = t.answer;
      cause = c;
      step = n;
    }

-- thread i "is taken off its queue (counter +1) or reference (emptied) and made ready with" m, by the cause c, in this step. A queued
-- thread's state is 3, a suspended one's 2
abbrev pub made_ready : World → ℕ → ℤ → ℕ → World
made_ready w i m c =
    record {
      sizes = w.sizes;
      thread = put w.thread i (ready_with (w.thread i) m c w.step);
      counter = cond (eqb (w.thread i).state 3)
          (put w.counter (w.thread i).place (w.counter (w.thread i).place +ℤ pos 1)) w.counter;
      holder = cond (eqb (w.thread i).state 2) (put w.holder (w.thread i).place 255) w.holder;
      box = w.box;
      pool = w.pool;
      step = w.step;
      woken = put w.woken i true;
      finished = w.finished;
      answer = w.answer;
    }

-- a record whose call is finished: "last answer (message, datum)", no call, awaited flags 0
abbrev pub call_ended : Thread → ℤ → ℕ → Thread
call_ended t m d =
    record {
      state = t.state;
      place = t.place;
      remaining = t.remaining;
      pending = t.pending;
      awaited = 0;
      message = t.message;
      call = no_call;
      answer = record { message = m; datum = d };
      cause = t.cause;
      step = t.step;
    }

-- the call of i finishes with m and d. "For an interrupt they are the step's answer, and no finished bit stands for it"
abbrev pub ended : World → ℕ → ℤ → ℕ → World
ended w i m d =
    record {
      sizes = w.sizes;
      thread = cond (eqb i 255) w.thread (put w.thread i (call_ended (w.thread i) m d));
      counter = w.counter;
      holder = w.holder;
      box = w.box;
      pool = w.pool;
      step = w.step;
      woken = w.woken;
      finished = cond (eqb i 255) w.finished (put w.finished i true);
      answer = cond (eqb i 255) (record { message = m; datum = d }) w.answer;
    }

-- a record that sleeps in a state, at a place, in a call: "Remaining ticks are 0 for .. an infinite timeout, else" the timeout; "awaited
-- flags (an unfinished 14's mask, else 0)"; "one that sleeps sets its last answer to 0 and 0"
abbrev pub asleep : Thread → ℕ → ℕ → Call → Thread
asleep t state place c =
    record {
      state = state;
      place = place;
      remaining = cond (eqb c.timeout 4294967295) 0 c.timeout;
      pending = t.pending;
      awaited = cond (eqb c.kind 14) c.operand 0;
      message = t.message;
      call = c;
      answer = no_answer;
      cause = t.cause;
      step = t.step;
    }

-- thread i sleeps in a call: in state 3 on a queue ("counter less 1"), in state 2 on a reference (which holds it), in 1 and 4 on neither
abbrev pub fall_asleep : World → ℕ → ℕ → ℕ → Call → World
fall_asleep w i state place c =
    record {
      sizes = w.sizes;
      thread = put w.thread i (asleep (w.thread i) state place c);
      counter = cond (eqb state 3) (put w.counter place (w.counter place -ℤ pos 1)) w.counter;
      holder = cond (eqb state 2) (put w.holder place i) w.holder;
      box = w.box;
      pool = w.pool;
      step = w.step;
      woken = w.woken;
      finished = w.finished;
      answer = w.answer;
    }

-- "The operand a is read as signed 32-bit where it is a message"
abbrev pub signed : ℕ → ℤ
signed a = cond (ltb a 2147483648) (pos a) (negsuc (4294967295 - a))

-- "unfinished call (kind, object, operand, full timeout ..)"
abbrev pub kept : ℕ → ℕ → ℕ → ℕ → Call
kept kind object operand timeout = record { kind = kind; object = object; operand = operand; timeout = timeout }

-- a mask's bit i stands for thread i
abbrev pub MaskOf : (ℕ → Bool) → ℕ → Type 0
MaskOf f m = (i : ℕ) → m / 2 ^ i % 2 ≡ cond (f i) 1 0

-- ---- who

-- "the highest-priority waiter" at the place p: "index 0 highest in priority"
pub record Highest (w : World) (p i : ℕ) : Type 0 where
  pub thread : i < w.sizes.threads
  pub waits : ((w.thread i).state ≡ 3) × ((w.thread i).place ≡ p)
  pub highest : (j : ℕ) → j < i → (w.thread j).state ≡ 3 → (w.thread j).place ≡ p → ⊥

-- "the first ready one"
pub record First (w : World) (i : ℕ) : Type 0 where
  pub thread : i < w.sizes.threads
  pub is-ready : (w.thread i).state ≡ 0
  pub first : (j : ℕ) → j < i → (w.thread j).state ≢ 0

-- "the running thread is the first ready one, or idle"; "idle is shown as 255"
pub data Running (w : World) (r : ℕ) : Type 0 where
  thread : First w r → Running w r
  idle : ((j : ℕ) → j < w.sizes.threads → (w.thread j).state ≢ 0) → r ≡ 255 → Running w r
