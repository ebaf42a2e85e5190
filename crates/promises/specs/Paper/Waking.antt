-- WAKINGS: what one accepted step makes of a thread that slept before it. Read off the step, its result, and the tables before and after.
use Rattle.std.specs.Prelude.{ℕ, ◌+◌, ◌-◌, ◌/◌, ◌%◌, ◌^◌, ◌<◌, ◌≡◌, ◌≢◌, ◌⊎◌, Bool, true, false, cond, ◌&&◌, eqb, ℤ, pos, negsuc}
use Rattle.std.specs.Int.Bits.{bit_and, bit_or}
use Rattle.kernel.specs.declared.time.SystemTime.{SystemTime}
use Rattle.kernel.specs.declared.records.Answer.{Answer}
use Rattle.kernel.specs.declared.records.Call.{Call}
use Rattle.kernel.specs.declared.records.Thread.{Thread}
use Rattle.library.specs.declared.calls.Step.{Step}
use Rattle.library.specs.declared.tables.Tables.{Tables}
use Rattle.promises.specs.Paper.World.{no_call, no_answer, found, signed, Highest}
use Rattle.promises.specs.Paper.Rows.{slots_of}
use Rattle.promises.specs.Paper.Settling.{IsOther}

-- thread i's record between two steps
abbrev pub row_of : Tables → ℕ → Thread
row_of t i = (found t).thread i

-- whether thread i is in a mask, or flag i in a set of flags
abbrev pub in_mask : ℕ → ℕ → Bool
in_mask i mask = eqb (mask / 2 ^ i % 2) 1

-- "mailbox post; post ahead", "fetch"
abbrev pub IsPost : ℕ → Type 0
IsPost kind = (kind ≡ 15) ⊎ (kind ≡ 16)

abbrev pub IsMailing : ℕ → Type 0
IsMailing kind = IsPost kind ⊎ (kind ≡ 17)

-- a mailbox call of a kind on an object that the step tries: its own, or one that a thread's record kept unfinished
pub data Tried (t : Tables) (s : Step) (kind object : ℕ) : Type 0 where
  own : s.kind ≡ kind → s.object ≡ object → Tried t s kind object
  kept : (j : ℕ) → j < t.sizes.threads → (row_of t j).call.kind ≡ kind → (row_of t j).call.object ≡ object → Tried t s kind object

-- a mailbox call that the step tries serves the other side, "releases the first of the other side's waiters with 0": a reader by a post, a
-- writer by a fetch. Not in a mailbox that the step resets: "in reset state post and fetch answer -2". Of document 02, the cause is the tried
-- call's own: 5 post, 6 fetch
pub data Served (t : Tables) (s : Step) (state place : ℕ) : ℤ → ℕ → Type 0 where
  post : (b : ℕ) → (s.kind ≡ 18 → b ≢ s.object) → Tried t s 15 b ⊎ Tried t s 16 b → state ≡ 3 → place ≡ 32 + b → Served t s state place (pos 0) 5
  fetch : (b : ℕ) → (s.kind ≡ 18 → b ≢ s.object) → Tried t s 17 b → state ≡ 3 → place ≡ 28 + b → Served t s state place (pos 0) 6

-- the step s calls out a thread that waits in this state at this place, with this message: "the highest-priority waiter is made ready with
-- 0"; "all waiters are made ready with -2"; "the waker's a is the message"; .. Of document 02, the cause: 1 signal, 2 release, 3 resume,
-- 7 reset; "A pool's free and add count as signal"
pub data CalledOut (t : Tables) (s : Step) (state place : ℕ) : ℤ → ℕ → Type 0 where
  signal : (s.kind ≡ 3) ⊎ (s.kind ≡ 5) → state ≡ 3 → place ≡ s.object → CalledOut t s state place (pos 0) 1
  reset : s.kind ≡ 4 → state ≡ 3 → place ≡ s.object → CalledOut t s state place (negsuc 1) 7
  release : (s.kind ≡ 7) ⊎ (s.kind ≡ 8) → state ≡ 3 → place ≡ 20 + s.object → CalledOut t s state place (signed s.a) 2
  resume : s.kind ≡ 10 → state ≡ 2 → place ≡ s.object → CalledOut t s state place (signed s.a) 3
  served : {m : ℤ} {c : ℕ} → Served t s state place m c → CalledOut t s state place m c
  box-reset : s.kind ≡ 18 → state ≡ 3 → (place ≡ 28 + s.object) ⊎ (place ≡ 32 + s.object) → CalledOut t s state place (negsuc 1) 7
  object : (s.kind ≡ 21) ⊎ (s.kind ≡ 22) → state ≡ 3 → place ≡ 16 + s.object → CalledOut t s state place (pos 0) 1

-- its last tick comes in this step
abbrev pub LastTick : Step → Thread → Type 0
LastTick s a = (s.kind ≡ 1) × (a.remaining ≡ 1)

-- the waking, its message and its cause (8 tick, 4 event), that the papers give thread i in the step s, if its record was a
pub data WokenBy (t : Tables) (s : Step) (i : ℕ) (a : Thread) : ℤ → ℕ → Type 0 where
  -- "at 0 the thread is taken off its queue .. and made ready with -1"
  last-tick : s.kind ≡ 1 → a.remaining ≡ 1 → WokenBy t s i a (negsuc 0) 8
  -- "if its state is awaiting events, for any of them, it is made ready"
  events : s.kind ≡ 13 → s.object ≡ i → a.state ≡ 4 → bit_and (bit_or a.pending s.a) a.awaited ≢ 0 → WokenBy t s i a (pos 0) 4
  -- a tick's own wakings come first: whoever has its last one is not called out any more
  call : {m : ℤ} {c : ℕ} → (LastTick s a → ⊥) → CalledOut t s a.state a.place m c → WokenBy t s i a m c

-- the flags pending for thread i, once those of the step have come
abbrev pub heard : Step → ℕ → Thread → ℕ
heard s i a = cond (eqb s.kind 13 && eqb s.object i) (bit_or a.pending s.a) a.pending

-- the same sleep, one tick shorter at a tick
abbrev pub slept_on : Step → ℕ → Thread → Thread
slept_on s i a =
    record {
      state = a.state;
      place = a.place;
      remaining = cond (eqb s.kind 1) (a.remaining - 1) a.remaining;
      pending = heard s i a;
      awaited = a.awaited;
      message = a.message;
      call = a.call;
      answer = a.answer;
      cause = a.cause;
      step = a.step;
    }

-- the answer of a call that was woken with m: message, datum, and the flags that stay pending
pub data AnswerOf (a : Thread) (flags : ℕ) (m : ℤ) : ℤ → ℕ → ℕ → Type 0 where
  -- "all others answer their wake message with datum 0"
  message : IsOther a.call.kind ⊎ (m ≢ pos 0) → AnswerOf a flags m m 0 flags
  -- of document 02: "clears and answers all pending flags in its mask"
  events : a.call.kind ≡ 14 → m ≡ pos 0
      → AnswerOf a flags m (pos 0) (bit_and flags a.call.operand) (flags - bit_and flags a.call.operand)
  -- "it takes the top"
  object : a.call.kind ≡ 20 → m ≡ pos 0 → (o : ℕ) → o < 32 → AnswerOf a flags m (pos 0) o flags
  -- "the whole mailbox rule is tried again, reset state first"
  in-reset : IsMailing a.call.kind → m ≡ pos 0 → AnswerOf a flags m (negsuc 1) 0 flags
  posted : IsPost a.call.kind → m ≡ pos 0 → AnswerOf a flags m (pos 0) 0 flags
  fetched : a.call.kind ≡ 17 → m ≡ pos 0 → (x : ℕ) → AnswerOf a flags m (pos 0) x flags

-- a record that was woken with m, by the cause c, in the step n, and whose call is not continued yet; l is its last answer
abbrev pub woken_row : Step → ℕ → Thread → ℤ → ℕ → ℕ → Answer → Thread
woken_row s i a m c n l =
    record {
      state = 0;
      place = 0;
      remaining = 0;
      pending = heard s i a;
      awaited = a.awaited;
      message = m;
      call = a.call;
      answer = l;
      cause = c;
      step = n;
    }

-- a record that was woken with m, by the cause c, in the step n, and whose call finished with x and d; the flags f stay pending
abbrev pub done_row : ℤ → ℕ → ℕ → ℤ → ℕ → ℕ → Thread
done_row m c n x d f =
    record {
      state = 0;
      place = 0;
      remaining = 0;
      pending = f;
      awaited = 0;
      message = m;
      call = no_call;
      answer = record { message = x; datum = d };
      cause = c;
      step = n;
    }

-- where a mailbox call sleeps: "the thread sleeps on its side's queue"
pub data SideOf (c : Call) : ℕ → Type 0 where
  writers : IsPost c.kind → SideOf c (28 + c.object)
  readers : c.kind ≡ 17 → SideOf c (32 + c.object)

-- a record whose mailbox call, woken with 0, was tried again and sleeps again at the place p, "with its FULL timeout"
abbrev pub again_row : Step → ℕ → Thread → ℕ → Thread
again_row s i a p =
    record {
      state = 3;
      place = p;
      remaining = cond (eqb a.call.timeout 4294967295) 0 a.call.timeout;
      pending = heard s i a;
      awaited = a.awaited;
      message = pos 0;
      call = a.call;
      answer = no_answer;
      cause = a.cause;
      step = a.step;
    }

-- what an accepted step s, on the tables t, has made of thread i that slept before it: b is its record then, beside whether it was woken
-- and whether its call finished. The record names the cause of the waking and the number of this step
pub data SleeperAfter (t : Tables) (s : Step) (i : ℕ) (b : Thread) (woken finished : Bool) : Type 0 where
  -- it sleeps on
  on : (LastTick s (row_of t i) → ⊥) → b ≡ slept_on s i (row_of t i) → woken ≡ false → finished ≡ false → SleeperAfter t s i b woken finished
  -- it was made ready, and its call is not continued yet
  ready : (m : ℤ) (c : ℕ) → WokenBy t s i (row_of t i) m c → b ≡ woken_row s i (row_of t i) m c (found t).step (row_of t i).answer
      → woken ≡ true → finished ≡ false → SleeperAfter t s i b woken finished
  -- it was made ready, and its call finished with the answer that follows
  done : (m x : ℤ) (c d f : ℕ) → WokenBy t s i (row_of t i) m c → AnswerOf (row_of t i) (heard s i (row_of t i)) m x d f
      → b ≡ done_row m c (found t).step x d f
      → woken ≡ true → finished ≡ true → SleeperAfter t s i b woken finished

-- a ready record as it was, once flags of the step have come
abbrev pub ready_on : Step → ℕ → Thread → Thread
ready_on s i a =
    record {
      state = a.state;
      place = a.place;
      remaining = a.remaining;
      pending = heard s i a;
      awaited = a.awaited;
      message = a.message;
      call = a.call;
      answer = a.answer;
      cause = a.cause;
      step = a.step;
    }

-- what it has made of thread i that was made ready by an earlier step, and whose call was not continued yet
pub data ReadyAfter (t : Tables) (s : Step) (i : ℕ) (b : Thread) (woken finished : Bool) : Type 0 where
  -- it has not come to run
  on : b ≡ ready_on s i (row_of t i) → woken ≡ false → finished ≡ false → ReadyAfter t s i b woken finished
  -- its call finished, with the answer that follows from the message with which it was woken
  done : (x : ℤ) (d f : ℕ) → AnswerOf (row_of t i) (heard s i (row_of t i)) (row_of t i).message x d f
      → b ≡ done_row (row_of t i).message (row_of t i).cause (row_of t i).step x d f → woken ≡ false → finished ≡ true → ReadyAfter t s i b woken finished
  -- its mailbox call was tried again, and sleeps again at its own side
  again : (p : ℕ) → SideOf (row_of t i).call p → (row_of t i).message ≡ pos 0 → b ≡ again_row s i (row_of t i) p → woken ≡ false → finished ≡ false → ReadyAfter t s i b woken finished
  -- it slept there again, and was made ready once more, by a mailbox call that serves that side; it is not continued since
  ready-again : (p c : ℕ) → SideOf (row_of t i).call p → (row_of t i).message ≡ pos 0 → Served t s 3 p (pos 0) c
      → b ≡ woken_row s i (row_of t i) (pos 0) c (found t).step no_answer → woken ≡ true → finished ≡ false → ReadyAfter t s i b woken finished
  -- or it finished then, with the answer that follows
  done-again : (p c : ℕ) (x : ℤ) (d : ℕ) → SideOf (row_of t i).call p → (row_of t i).message ≡ pos 0 → Served t s 3 p (pos 0) c
      → AnswerOf (row_of t i) (heard s i (row_of t i)) (pos 0) x d (heard s i (row_of t i))
      → b ≡ done_row (pos 0) c (found t).step x d (heard s i (row_of t i)) → woken ≡ true → finished ≡ true → ReadyAfter t s i b woken finished

-- where the step's own call waits, if it does: the state, and the place
pub data OwnWait (s : Step) : ℕ → ℕ → Type 0 where
  semaphore : s.kind ≡ 2 → s.timeout ≢ 0 → OwnWait s 3 s.object
  queue : s.kind ≡ 6 → s.timeout ≢ 0 → OwnWait s 3 (20 + s.object)
  reference : s.kind ≡ 9 → s.timeout ≢ 0 → OwnWait s 2 s.object
  sleeps : (s.kind ≡ 11) ⊎ (s.kind ≡ 12) → OwnWait s 1 0
  events : s.kind ≡ 14 → s.timeout ≢ 0 → OwnWait s 4 0
  writer : IsPost s.kind → s.timeout ≢ 0 → OwnWait s 3 (28 + s.object)
  reader : s.kind ≡ 17 → s.timeout ≢ 0 → OwnWait s 3 (32 + s.object)
  pool : s.kind ≡ 20 → s.timeout ≢ 0 → OwnWait s 3 (16 + s.object)

-- and of a thread that was ready before it: it was woken only if it fell asleep in this very step, in the step's own call or in a mailbox
-- call that was tried again. It sleeps at a semaphore or a pool only if the step's own call waits there
pub data WakerAfter (t : Tables) (s : Step) (i : ℕ) (b : Thread) (woken : Bool) : Type 0 where
  unwoken : b.state ≡ 0 → woken ≡ false → WakerAfter t s i b woken
  own-sleep : s.caller ≡ i → (st pl : ℕ) → OwnWait s st pl → (b.state ≡ 3 → b.place < 20 → OwnWait s 3 b.place)
      → WakerAfter t s i b woken
  tried-again : IsMailing (row_of t i).call.kind → (row_of t i).message ≡ pos 0 → (b.state ≡ 3 → b.place < 20 → ⊥)
      → WakerAfter t s i b woken

-- the timeout of the step's own call: the step's, and "12's full timeout is the interval slept", "a minus system time, wrapped"
abbrev pub span_of : SystemTime → Step → ℕ
span_of now s = cond (eqb s.kind 12) ((s.a + (4294967296 - now.0)) % 4294967296) s.timeout

-- thread i sleeps in the step's own call, with all its ticks to come
pub record FellAsleep (now : SystemTime) (s : Step) (b : Thread) : Type 0 where
  pub kind : b.call.kind ≡ s.kind
  pub timeout : b.call.timeout ≡ span_of now s
  pub ticks : b.remaining ≡ cond (eqb (span_of now s) 4294967295) 0 (span_of now s)

-- ---- who must be woken

-- the step s makes all ready who wait at a place: "all waiters are made ready", "releases both queues"
pub data ReleasesAll (s : Step) : ℕ → Type 0 where
  reset : s.kind ≡ 4 → ReleasesAll s s.object
  release : s.kind ≡ 8 → ReleasesAll s (20 + s.object)
  writers : s.kind ≡ 18 → ReleasesAll s (28 + s.object)
  readers : s.kind ≡ 18 → ReleasesAll s (32 + s.object)

-- the step s makes ready who is first at a place: "the highest-priority waiter is made ready"; a post with room and a fetch with a message
-- each "releases the first of the other side's waiters". A binary signal signals where somebody waits, for the counter is below 0 then
pub data ReleasesFirst (t : Tables) (s : Step) : ℕ → Type 0 where
  signal : (s.kind ≡ 3) ⊎ (s.kind ≡ 5) → ReleasesFirst t s s.object
  release : s.kind ≡ 7 → ReleasesFirst t s (20 + s.object)
  object : (s.kind ≡ 21) ⊎ (s.kind ≡ 22) → ReleasesFirst t s (16 + s.object)
  post : IsPost s.kind → ((found t).box s.object).reset ≡ 0 → ((found t).box s.object).positions.count < slots_of (found t) s.object
      → ReleasesFirst t s (32 + s.object)
  fetch : s.kind ≡ 17 → ((found t).box s.object).reset ≡ 0 → 0 < ((found t).box s.object).positions.count → ReleasesFirst t s (28 + s.object)

-- the accepted step s makes thread i ready, whatever goes on while it settles
pub data Due (t : Tables) (s : Step) (i : ℕ) : Type 0 where
  last-tick : s.kind ≡ 1 → (row_of t i).remaining ≡ 1 → Due t s i
  events : s.kind ≡ 13 → s.object ≡ i → (row_of t i).state ≡ 4 → bit_and (bit_or (row_of t i).pending s.a) (row_of t i).awaited ≢ 0 → Due t s i
  resume : s.kind ≡ 10 → (row_of t i).state ≡ 2 → (row_of t i).place ≡ s.object → Due t s i
  all : (p : ℕ) → ReleasesAll s p → (row_of t i).state ≡ 3 → (row_of t i).place ≡ p → Due t s i
  first : (p : ℕ) → ReleasesFirst t s p → Highest (found t) p i → Due t s i
