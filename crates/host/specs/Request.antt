-- A step as a host asks for it, and its result as a host gets it.
use Rattle.std.specs.Prelude.{◌&&◌, eqb}
use Rattle.kernel.specs.declared.clock.Clock.{Clock}
use Rattle.library.specs.declared.calls.Step.{Step}
use Rattle.library.specs.declared.tables.Tables.{Tables}
use Rattle.steps.specs.declared.stepping.Outcome.{Outcome}
use Rattle.steps.specs.Stepping.{stepped}
use Rattle.host.specs.declared.request.Request.{Request}
use Rattle.host.specs.declared.request.StepResult.{StepResult}
use Rattle.host.specs.declared.request.Answered.{Answered}

-- "A step has kind, caller, object, operand a and timeout"
abbrev pub step_of : Request → Step
step_of q = record { kind = q.kind; caller = q.caller; object = q.object; a = q.a; timeout = q.timeout }

-- "code, running thread, masks of threads woken and of threads whose calls finished, and message and datum"
abbrev pub result_of : Outcome → StepResult
result_of o =
    record {
      code = o.code;
      running = o.running;
      woken = o.woken;
      finished = o.finished;
      message = o.message;
      datum = o.datum;
    }

-- what a step leaves of the tables, its result, whether it was accepted, and whether it was a tick's
unfoldable pub step_answered : Tables → Clock → Request → Answered
step_answered t c q =
    record {
      tables = (stepped t c (step_of q)).tables;
      result = result_of (stepped t c (step_of q)).outcome;
      accepted = eqb (stepped t c (step_of q)).outcome.code 0;
      ticks = eqb (stepped t c (step_of q)).outcome.code 0 && eqb q.kind 1;
    }
