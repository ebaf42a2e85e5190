-- THE HISTORY OF MAILBOXES AND POOLS, OF DOCUMENT 02: which calls a step finished with 0, and what they put in, took out or emptied. Read off
-- the steps, their results, and the tables between two steps; nothing is stored for it.
use Rattle.std.specs.Prelude.{ℕ, zero, suc, ◌+◌, ◌≡◌, ◌≢◌, ◌⊎◌, Bool, false, cond, ◌&&◌, ◌||◌, List, [], ◌∷◌, ◌++◌, eqb, ltb}
use Rattle.kernel.specs.declared.records.Call.{Call}
use Rattle.kernel.specs.declared.records.Answer.{Answer}
use Rattle.library.specs.declared.tables.Tables.{Tables}
use Rattle.promises.specs.Paper.World.{World, found, kept}
use Rattle.promises.specs.Paper.Rows.{Act}
use Rattle.promises.specs.Paper.Settling.{Settles}
use Rattle.promises.specs.Paper.Together.{is_zero}
use Rattle.promises.specs.Paper.Waking.{row_of, in_mask}
use Rattle.promises.specs.Paper.Run.{Moment, is_accepted}

-- ---- one step

-- a call that finished with 0: the number of the step in which it did, whose it was (255: an interrupt's), its kind and its mailbox or pool;
-- and its value: the message posted or fetched, the object handed over, freed or added, or how many messages a reset found
pub record Event : Type 0 where
  pub step : ℕ
  pub who : ℕ
  pub kind : ℕ
  pub object : ℕ
  pub value : ℕ

-- the call that i may finish in a moment: the step's own, if it is the caller, else the one that its record kept
abbrev pub call_by : Moment → ℕ → Call
call_by m i =
    cond (eqb m.step.caller i) (kept m.step.kind m.step.object m.step.a m.step.timeout) (row_of m.before i).call

-- its answer: "A finished call's answer stays in the thread's record"; "For an interrupt they are the step's answer"
abbrev pub answer_by : Moment → ℕ → Answer
answer_by m i = cond (eqb i 255) (record { message = m.result.message; datum = m.result.datum }) (row_of m.after i).answer

-- whether it finished: a thread's bit says so, and an interrupt's call is answered where the step is accepted
abbrev pub finishes : Moment → ℕ → Bool
finishes m i =
    is_accepted m
    && cond (eqb i 255) (eqb m.step.caller 255) (ltb i m.before.sizes.threads && in_mask i m.result.finished)

-- the calls of mailboxes and pools that count: post, post ahead, fetch and reset; alloc, free and add
abbrev pub is_counted : ℕ → Bool
is_counted kind =
    eqb kind 15 || (eqb kind 16 || (eqb kind 17 || (eqb kind 18 || (eqb kind 20 || (eqb kind 21 || eqb kind 22)))))

-- what a call put in or took out, on the tables t before the step: a fetch and an alloc have it as the datum, a reset finds what is in the
-- mailbox, the others name it
abbrev pub value_of : Tables → Call → Answer → ℕ
value_of t c a =
    cond (eqb c.kind 18) ((found t).box c.object).positions.count (cond (eqb c.kind 17 || eqb c.kind 20) a.datum c.operand)

-- the event of a call that finished, if it did with 0
abbrev pub events_of : ℕ → Tables → ℕ → Call → Answer → List Event
events_of n t i c a =
    cond (is_counted c.kind && is_zero a.message)
    (record { step = n; who = i; kind = c.kind; object = c.object; value = value_of t c a } ∷ []) []

-- what a moment, the n-th of a run, shows of i
abbrev pub shown_by : ℕ → Moment → ℕ → List Event
shown_by n m i = cond (finishes m i) (events_of n m.before i (call_by m i) (answer_by m i)) []

-- those of several events that pass a test, in their order
abbrev pub those : (Event → Bool) → List Event → List Event
those f [] = []
those f (e ∷ es) = cond (f e) (e ∷ those f es) (those f es)

-- whose event it is
abbrev pub is_of : ℕ → Event → Bool
is_of i e = eqb e.who i

-- whose calls are at work in a moment, in their order, as document 01 tells the step: the caller's, and then, while settling, the continued call
-- of each of these threads. None of a refused step
pub data Turns (m : Moment) : List ℕ → Type 0 where
  refused : m.result.code ≢ 0 → Turns m []
  accepted : m.result.code ≡ 0 → (w x : World) (is : List ℕ) → Act m.before m.clock.time m.step w m.step.kind → Settles x w is
      → Turns m (m.step.caller ∷ is)

-- whether i has a turn among these
abbrev pub is_among : ℕ → List ℕ → Bool
is_among i [] = false
is_among i (j ∷ js) = eqb j i || is_among i js

-- a mailbox call serves this place: "releases the first of the other side's waiters", a post the readers, a fetch the writers
pub data Serves (c : Call) : ℕ → Type 0 where
  readers : (c.kind ≡ 15) ⊎ (c.kind ≡ 16) → Serves c (32 + c.object)
  writers : c.kind ≡ 17 → Serves c (28 + c.object)

-- the events of a moment, turn by turn; f has what it shows of each. A finished call is not continued: who has several turns finishes in the
-- last of them, if at all
abbrev pub in_turn : (ℕ → List Event) → List ℕ → List Event
in_turn f [] = []
in_turn f (i ∷ is) = cond (is_among i is) [] (f i) ++ in_turn f is

-- some events are all that a moment shows: of each thread and of an interrupt just what the result shows, and of nobody else
abbrev pub Shown : ℕ → Moment → List Event → Type 0
Shown n m es = (i : ℕ) → those (is_of i) es ≡ shown_by n m i

-- a call that only a step itself makes, and none that is continued: an interrupt's, a reset, a free, an add
abbrev pub is_own : Event → Bool
is_own e = eqb e.who 255 || (eqb e.kind 18 || (eqb e.kind 21 || eqb e.kind 22))

-- settling comes "After every accepted step": such a call comes first
pub data OwnFirst : List Event → Type 0 where
  none : OwnFirst []
  first : (e : Event) {es : List Event} → those is_own es ≡ [] → OwnFirst (e ∷ es)

-- ---- a run

-- the events of a run in order, its first moment the n-th: of each moment what its result shows, turn by turn. There is one order and no
-- choice (`history-only`). And the turns leave nothing out
pub data History : ℕ → List Moment → List Event → Type 0 where
  none : {n : ℕ} → History n [] []
  more : {n : ℕ} {m : Moment} {ms : List Moment} (is : List ℕ) (fs : List Event) → Turns m is
      → Shown n m (in_turn (shown_by n m) is) → OwnFirst (in_turn (shown_by n m) is) → History (suc n) ms fs
      → History n (m ∷ ms) (in_turn (shown_by n m) is ++ fs)

-- ---- counting, from the results alone

-- f k ++ .. of the indexes below n
abbrev pub gathered : (ℕ → List Event) → ℕ → List Event
gathered f zero = []
gathered f (suc n) = gathered f n ++ f n

-- what a moment shows, the interrupt's first, then thread by thread
abbrev pub shown : ℕ → Moment → List Event
shown n m = shown_by n m 255 ++ gathered (shown_by n m) m.before.sizes.threads

-- what the moments of a run show, the first of them the n-th
abbrev pub shown_in : ℕ → List Moment → List Event
shown_in n [] = []
shown_in n (m ∷ ms) = shown n m ++ shown_in (suc n) ms

-- a sum over events
abbrev pub total : (Event → ℕ) → List Event → ℕ
total f [] = 0
total f (e ∷ es) = f e + total f es

-- a post to mailbox b, or a post ahead
abbrev pub posted : ℕ → Event → Bool
posted b e = (eqb e.kind 15 || eqb e.kind 16) && eqb e.object b

-- a fetch from it
abbrev pub fetched : ℕ → Event → Bool
fetched b e = eqb e.kind 17 && eqb e.object b

-- a reset of it
abbrev pub emptied : ℕ → Event → Bool
emptied b e = eqb e.kind 18 && eqb e.object b

-- an add to pool q
abbrev pub added : ℕ → Event → Bool
added q e = eqb e.kind 22 && eqb e.object q

-- one for each that passes
abbrev pub each : (Event → Bool) → Event → ℕ
each f e = cond (f e) 1 0

-- "those present at each reset"
abbrev pub lost_at : ℕ → Event → ℕ
lost_at b e = cond (emptied b e) e.value 0
