-- ONE STEP, AS DOCUMENT 01 TELLS IT: a relation between what a step is given (tables, clock, step) and what it gives back, with the
-- paper's own numbers, over a world that is read by index. No meaning that a contract cites stands in this room.
use Rattle.std.specs.Prelude.{ℕ, ◌+◌, ◌<◌, ◌≡◌, ◌≢◌, cond, List, eqb, length, get_or}
use Rattle.kernel.specs.declared.clock.Clock.{Clock}
use Rattle.kernel.specs.declared.records.Words.{Words}
use Rattle.library.specs.declared.calls.Step.{Step}
use Rattle.library.specs.declared.tables.Tables.{Tables}
use Rattle.steps.specs.declared.stepping.Outcome.{Outcome}
use Rattle.steps.specs.declared.stepping.Stepped.{Stepped}
use Rattle.promises.specs.Paper.World.{World, Left, MaskOf, Running}
use Rattle.promises.specs.Paper.Together.{InUse, WordsAgree}
use Rattle.promises.specs.Paper.Rows.{Act}
use Rattle.promises.specs.Paper.Settling.{Settles}
use Rattle.promises.specs.Paper.Refusals.{Broken, RefusedWith}

-- ---- clock and result

-- "time +1" at a tick; "After a tick, system time goes from 4294967295 to 0"
pub data ClockAfter (c : Clock) (kind : ℕ) (d : Clock) : Type 0 where
  next : kind ≡ 1 → c.time.0 < 4294967295 → d ≡ record { time = record { 0 = c.time.0 + 1 }; frequency = c.frequency }
      → ClockAfter c kind d
  wraps : kind ≡ 1 → c.time.0 ≡ 4294967295 → d ≡ record { time = record { 0 = 0 }; frequency = c.frequency } → ClockAfter c kind d
  stays : kind ≢ 1 → d ≡ c → ClockAfter c kind d

-- the words u that a step leaves, which found the words v. "Each step must leave the words equal to what a walk over the records would
-- give"; those of places that are not in use are no part of the tables, and keep their bytes
pub record WordsLeft (w : World) (v u : Words) : Type 0 where
  pub agree : WordsAgree w u
  pub rest : (p : ℕ) → (InUse w.sizes p → ⊥) → get_or u.waiting p 0 ≡ get_or v.waiting p 0
  pub filler : u.unused ≡ v.unused
  pub places : length u.waiting ≡ 36

-- "A step's result: code, running thread, masks of threads woken and of threads whose calls finished, and message and datum of the
-- caller's call .. For an interrupt they are the step's answer"
pub record ResultOf (w : World) (caller : ℕ) (o : Outcome) : Type 0 where
  pub code : o.code ≡ 0
  pub running : Running w o.running
  pub woken : MaskOf w.woken o.woken
  pub finished : MaskOf w.finished o.finished
  pub message : o.message ≡ cond (eqb caller 255) w.answer.message (w.thread caller).answer.message
  pub datum : o.datum ≡ cond (eqb caller 255) w.answer.datum (w.thread caller).answer.datum

-- ---- ONE STEP

pub data StepOf (t : Tables) (c : Clock) (s : Step) (r : Stepped) : Type 0 where
  -- the rule n is broken and none before it
  refused : (n : ℕ) → Broken t c s n → ((m : ℕ) → m < n → Broken t c s m → ⊥) → RefusedWith t c n r
      → StepOf t c s r
  -- no rule is broken: the step acts, settles, and gives back what it has come to
  accepted : ((n : ℕ) → Broken t c s n → ⊥) → (w x : World) (is : List ℕ) → Act t c.time s w s.kind → Settles x w is
      → Left x r.tables → WordsLeft x t.kernel.words r.tables.kernel.words → ClockAfter c s.kind r.clock → ResultOf x s.caller r.outcome → StepOf t c s r
