-- WHY A THREAD WOKE, OF DOCUMENT 02: what an accepted step makes of the cause and the number in a thread's record, and what they are after a run.
-- Read off the steps, their results, and the tables between two steps.
use Rattle.std.specs.Prelude.{ℕ, ◌+◌, ◌≡◌, ◌≢◌, Bool, true, false, cond, ◌&&◌, ◌||◌, eqb, ltb, List, [], ◌∷◌, ℤ, pos, negsuc}
use Rattle.kernel.specs.declared.records.Call.{Call}
use Rattle.kernel.specs.declared.records.Thread.{Thread}
use Rattle.library.specs.declared.calls.Step.{Step}
use Rattle.library.specs.declared.tables.Tables.{Tables}
use Rattle.promises.specs.Paper.World.{risen, signed}
use Rattle.promises.specs.Paper.Waking.{row_of, in_mask, IsPost, Served, WokenBy, OwnWait}
use Rattle.promises.specs.Paper.Run.{Moment, is_accepted}

-- ---- one step

-- where a thread that was ready falls asleep in the step s itself: in the step's own call, if it is the caller, or in the mailbox call that
-- its record kept and that is tried again
pub data FallsAt (t : Tables) (s : Step) (i : ℕ) : ℕ → ℕ → Type 0 where
  own : {state place : ℕ} → s.caller ≡ i → OwnWait s state place → FallsAt t s i state place
  writer : IsPost (row_of t i).call.kind → FallsAt t s i 3 (28 + (row_of t i).call.object)
  reader : (row_of t i).call.kind ≡ 17 → FallsAt t s i 3 (32 + (row_of t i).call.object)

-- where a call waits: at the place of its queue, its reference, or nowhere in a sleep and in an event wait
abbrev pub place_of : Call → ℕ
place_of c =
    cond (eqb c.kind 2 || eqb c.kind 9) c.object
    (cond (eqb c.kind 20) (16 + c.object)
    (cond (eqb c.kind 6) (20 + c.object)
    (cond (eqb c.kind 15 || eqb c.kind 16) (28 + c.object) (cond (eqb c.kind 17) (32 + c.object) 0))))

-- a waking of thread i in the accepted step s, its message and its cause: of one that slept before the step; or of one that fell asleep in it,
-- whom only a mailbox call can wake that goes on while the step settles
pub data Wakes (t : Tables) (s : Step) (i : ℕ) : ℤ → ℕ → Type 0 where
  slept : {m : ℤ} {c : ℕ} → (row_of t i).state ≢ 0 → WokenBy t s i (row_of t i) m c → Wakes t s i m c
  fell : {m : ℤ} {c state place : ℕ} → (row_of t i).state ≡ 0 → FallsAt t s i state place → Served t s state place m c → Wakes t s i m c

-- whether the step s resets the mailbox at one of whose sides p is
abbrev pub resets_at : Step → ℕ → Bool
resets_at s p = eqb s.kind 18 && (eqb p (28 + s.object) || eqb p (32 + s.object))

-- the cause for who is queued at a place: of a semaphore (0 to 15), a pool (to 19), a queue (to 27), a mailbox's writers (to 31) or readers
abbrev pub queue_cause : Step → ℕ → ℕ
queue_cause s p =
    cond (ltb p 16) (cond (eqb s.kind 4) 7 1)
    (cond (ltb p 20) 1 (cond (ltb p 28) 2 (cond (resets_at s p) 7 (cond (ltb p 32) 6 5))))

-- the cause for a thread that slept with the record a, if the step s has woken it: its last tick, the flags that it awaited, the reference that
-- it was suspended on, or its queue
abbrev pub cause_for : Step → Thread → ℕ
cause_for s a =
    cond (eqb s.kind 1 && eqb a.remaining 1) 8 (cond (eqb a.state 4) 4 (cond (eqb a.state 2) 3 (queue_cause s a.place)))

-- and for thread i that was ready before the step, with the record a, if the step has woken it: it fell asleep in a mailbox call, the step's own if
-- it is the caller, else the one that its record kept, and was served by the other side. A fetch (17) by 5 post, a post by 6 fetch; with 0
abbrev pub cause_fell : Step → ℕ → Thread → ℕ
cause_fell s i a = cond (eqb (cond (eqb s.caller i) s.kind a.call.kind) 17) 5 6

-- and the message by the cause: -1 by a tick, -2 by a reset, the waker's own by a release or a resume, else 0
abbrev pub message_by : Step → ℕ → ℤ
message_by s c = cond (eqb c 8) (negsuc 0) (cond (eqb c 7) (negsuc 1) (cond (eqb c 2 || eqb c 3) (signed s.a) (pos 0)))

-- what a record says of its thread's last waking: the message, "the cause .. and the number of that step"
pub record Why : Type 0 where
  pub message : ℤ
  pub cause : ℕ
  pub step : ℕ

abbrev pub why_of : Thread → Why
why_of a = record { message = a.message; cause = a.cause; step = a.step }

-- "none yet", and 0
abbrev pub not_yet : Why
not_yet = record { message = pos 0; cause = 0; step = 0 }

-- what an accepted step, on the tables t, has made of it: y is what thread i's record says then, beside whether it was woken
pub data WhyAfter (t : Tables) (s : Step) (i : ℕ) (y : Why) (woken : Bool) : Type 0 where
  -- no waking: nothing changes, whatever else becomes of the thread
  same : woken ≡ false → y ≡ why_of (row_of t i) → WhyAfter t s i y woken
  -- a waking, the last one in this step: its message, its cause, and the number of this step, which has risen
  woke : {m : ℤ} {c : ℕ} → woken ≡ true → Wakes t s i m c → y ≡ record { message = m; cause = c; step = risen t.kernel.steps }
      → WhyAfter t s i y woken

-- ---- a run

-- the step number after a moment that had n before it: a refused one does not count
abbrev pub number_after : ℕ → Moment → ℕ
number_after n m = cond (is_accepted m) (risen n) n

-- and after several
abbrev pub numbered : ℕ → List Moment → ℕ
numbered n [] = n
numbered n (m ∷ ms) = numbered (number_after n m) ms

-- what the record of thread i says after a run, in which the step number was n before it and the record said y: the last moment with i in
-- its woken mask decides, and if there is none, nothing has changed
pub data LastWaking (i : ℕ) (last : Why) : ℕ → Why → List Moment → Type 0 where
  ends : {n : ℕ} {y : Why} → last ≡ y → LastWaking i last n y []
  passes : {n : ℕ} {y : Why} {m : Moment} {ms : List Moment} → in_mask i m.result.woken ≡ false
      → LastWaking i last (number_after n m) y ms → LastWaking i last n y (m ∷ ms)
  wakes : {n : ℕ} {y : Why} {m : Moment} {ms : List Moment} (x : ℤ) (c : ℕ) → in_mask i m.result.woken ≡ true
      → m.result.code ≡ 0 → Wakes m.before m.step i x c
      → LastWaking i last (number_after n m) (record { message = x; cause = c; step = number_after n m }) ms → LastWaking i last n y (m ∷ ms)
