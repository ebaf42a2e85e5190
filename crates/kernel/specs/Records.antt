-- Fresh records, and the kernel at the beginning and at the end of a step.

use Rattle.std.specs.Prelude.{ℕ, ◌+◌, false, cond, replicate, pos, ◌==◌}
use Rattle.kernel.specs.declared.records.Call.{Call}
use Rattle.kernel.specs.declared.records.Answer.{Answer}
use Rattle.kernel.specs.declared.records.Thread.{Thread}
use Rattle.kernel.specs.declared.records.Words.{Words}
use Rattle.kernel.specs.declared.records.Records.{Records}
use Rattle.kernel.specs.declared.records.Kernel.{Kernel}
use Rattle.kernel.specs.Numbers.{nobody, nowhere, ready, no_cause, last_step}

-- "all 0 without one"
abbrev pub no_call : Call
no_call = record { kind = 0; object = 0; operand = 0; timeout = 0 }

abbrev pub no_answer : Answer
no_answer = record { message = pos 0; datum = 0 }

-- "Fresh: all ready, .. all else 0 or clear"
abbrev pub blank : Thread
blank =
    record {
      state = ready;
      place = nowhere;
      remaining = 0;
      pending = 0;
      awaited = 0;
      message = pos 0;
      call = no_call;
      answer = no_answer;
      cause = no_cause;
      step = 0;
    }

-- ".. references .. empty", with these words
abbrev pub fresh_records : Words → Records
fresh_records w =
    record {
      threads = replicate 16 blank;
      counters = replicate 36 (pos 0);
      references = replicate 8 nobody;
      words = w;
      steps = 0;
    }

-- "rises by 1 at the start of each accepted step; at 4294967295 it stays there" (document 02)
abbrev pub raised : ℕ → ℕ
raised n = cond (n == last_step) n (n + 1)

-- a step begins with its number, nobody woken and no call finished; what wakes is not known yet
abbrev pub begun : Records → Kernel
begun r =
    record {
      threads = r.threads;
      counters = r.counters;
      references = r.references;
      woken = replicate 16 false;
      finished = replicate 16 false;
      answer = no_answer;
      words = r.words;
      steps = raised r.steps;
      cause = no_cause;
    }

-- what a step leaves
abbrev pub ended : Kernel → Records
ended k =
    record {
      threads = k.threads;
      counters = k.counters;
      references = k.references;
      words = k.words;
      steps = k.steps;
    }
