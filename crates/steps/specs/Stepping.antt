-- One step: its refusal, or what it does, settles and answers.
use Rattle.std.specs.Prelude.{ℕ, ◌+◌, ◌*◌, Bool, cond, List, [], ◌∷◌, eqb, pos}
use Rattle.kernel.specs.declared.clock.Clock.{Clock}
use Rattle.kernel.specs.declared.records.Answer.{Answer}
use Rattle.kernel.specs.declared.records.Kernel.{Kernel}
use Rattle.kernel.specs.Numbers.{nobody}
use Rattle.kernel.specs.Time.{advanced}
use Rattle.kernel.specs.Walk.{bit}
use Rattle.kernel.specs.Tables.{used_rows, thread_at}
use Rattle.kernel.specs.Waiters.{first_ready}
use Rattle.library.specs.declared.calls.Step.{Step}
use Rattle.library.specs.declared.tables.Tables.{Tables}
use Rattle.library.specs.declared.tables.Plant.{Plant}
use Rattle.steps.specs.declared.stepping.Outcome.{Outcome}
use Rattle.steps.specs.declared.stepping.Stepped.{Stepped}
use Rattle.library.specs.Tables.{opened, closed}
use Rattle.library.specs.Causes.{caused}
use Rattle.library.specs.Acting.{acted}
use Rattle.library.specs.Settling.{running_in, settled}
use Rattle.steps.specs.Refusal.{refusal_of}

-- the flags as a word: flag i counts 2 ^ i
unfoldable pub mask_of : List Bool → ℕ
mask_of [] = 0
mask_of (b ∷ l) = mask_of l * 2 + bit b

-- "message and datum of the caller's call"; "For an interrupt they are the step's answer"
abbrev pub answer_of : Kernel → ℕ → Answer
answer_of k caller = cond (eqb caller nobody) k.answer (thread_at k caller).answer

-- "A step's result: code, running thread, masks of threads woken and of threads whose calls finished, and message and datum"
unfoldable pub outcome_of : Kernel → ℕ → Outcome
outcome_of k caller =
    record {
      code = 0;
      running = first_ready k;
      woken = mask_of k.woken;
      finished = mask_of k.finished;
      message = (answer_of k caller).message;
      datum = (answer_of k caller).datum;
    }

-- "A refused step returns its number, the running thread as it stands (255 for 1), masks 0, message 0, datum 0"
abbrev pub refused_outcome : ℕ → ℕ → Outcome
refused_outcome code running =
    record { code = code; running = running; woken = 0; finished = 0; message = pos 0; datum = 0 }

-- "time +1" at an accepted tick
abbrev pub clock_after : Clock → ℕ → Clock
clock_after c kind = cond (eqb kind 1) (record { time = advanced c.time; frequency = c.frequency }) c

-- "twice the threads"
abbrev pub budget_of : ℕ → ℕ
budget_of n = 2 * used_rows n

-- an accepted step that has settled
unfoldable pub done_with : Plant → Clock → Step → Stepped
done_with p c s =
    record {
      tables = closed p;
      clock = clock_after c s.kind;
      outcome = outcome_of p.kernel s.caller;
    }

-- a step of n threads that has acted: "After every accepted step", settling
abbrev pub settled_with : ℕ → Plant → Clock → Step → Stepped
settled_with n p c s = done_with (settled (budget_of n) p) c s

-- "the running thread as it stands (255 for 1)"
abbrev pub running_at_refusal : ℕ → ℕ → ℕ
running_at_refusal running code = cond (eqb code 1) nobody running

-- a refused step: "All tables keep their bytes"
unfoldable pub refused_with : Tables → Clock → Plant → ℕ → Stepped
refused_with t c p code =
    record { tables = t; clock = c; outcome = refused_outcome code (running_at_refusal (running_in p) code) }

-- an accepted step begins, with its number and the cause of its kind
abbrev pub started : Tables → Step → Plant
started t s = caused (opened t) s.kind

-- one step
unfoldable pub stepped : Tables → Clock → Step → Stepped
stepped t c s =
    cond (eqb (refusal_of (opened t) c s) 0)
    (settled_with t.sizes.threads (acted (started t s) c.time s) c s)
    (refused_with t c (opened t) (refusal_of (opened t) c s))
