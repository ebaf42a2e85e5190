-- The tables read and written at an index: past the end a read gives the blank, and a write changes nothing.
use Rattle.std.specs.Prelude.{ℕ, true, cond, List, ℤ, pos, nat_lt, slice_index_or, slice_set}
use Rattle.kernel.specs.declared.records.Answer.{Answer}
use Rattle.kernel.specs.declared.records.Thread.{Thread}
use Rattle.kernel.specs.declared.records.Words.{Words}
use Rattle.kernel.specs.declared.records.Kernel.{Kernel}
use Rattle.kernel.specs.Numbers.{nobody}
use Rattle.kernel.specs.Records.{blank}

-- how many of n threads have a row
abbrev pub used_rows : ℕ → ℕ
used_rows n = cond (nat_lt n 16) n 16

abbrev pub row_in : List Thread → ℕ → Thread
row_in threads i = slice_index_or threads i blank

abbrev pub thread_at : Kernel → ℕ → Thread
thread_at k i = row_in k.threads i

abbrev pub counter_in : List ℤ → ℕ → ℤ
counter_in counters p = slice_index_or counters p (pos 0)

abbrev pub counter_at : Kernel → ℕ → ℤ
counter_at k p = counter_in k.counters p

-- whom a reference holds
abbrev pub holder_in : List ℕ → ℕ → ℕ
holder_in references r = slice_index_or references r nobody

abbrev pub holder_at : Kernel → ℕ → ℕ
holder_at k r = holder_in k.references r

abbrev pub with_thread : Kernel → ℕ → Thread → Kernel
with_thread k i t =
    record {
      threads = slice_set k.threads i t;
      counters = k.counters;
      references = k.references;
      woken = k.woken;
      finished = k.finished;
      answer = k.answer;
      words = k.words;
      steps = k.steps;
      cause = k.cause;
    }

abbrev pub with_counter : Kernel → ℕ → ℤ → Kernel
with_counter k p c =
    record {
      threads = k.threads;
      counters = slice_set k.counters p c;
      references = k.references;
      woken = k.woken;
      finished = k.finished;
      answer = k.answer;
      words = k.words;
      steps = k.steps;
      cause = k.cause;
    }

abbrev pub with_holder : Kernel → ℕ → ℕ → Kernel
with_holder k r i =
    record {
      threads = k.threads;
      counters = k.counters;
      references = slice_set k.references r i;
      woken = k.woken;
      finished = k.finished;
      answer = k.answer;
      words = k.words;
      steps = k.steps;
      cause = k.cause;
    }

abbrev pub with_woken : Kernel → ℕ → Kernel
with_woken k i =
    record {
      threads = k.threads;
      counters = k.counters;
      references = k.references;
      woken = slice_set k.woken i true;
      finished = k.finished;
      answer = k.answer;
      words = k.words;
      steps = k.steps;
      cause = k.cause;
    }

abbrev pub with_finished : Kernel → ℕ → Kernel
with_finished k i =
    record {
      threads = k.threads;
      counters = k.counters;
      references = k.references;
      woken = k.woken;
      finished = slice_set k.finished i true;
      answer = k.answer;
      words = k.words;
      steps = k.steps;
      cause = k.cause;
    }

abbrev pub with_answer : Kernel → Answer → Kernel
with_answer k a =
    record {
      threads = k.threads;
      counters = k.counters;
      references = k.references;
      woken = k.woken;
      finished = k.finished;
      answer = a;
      words = k.words;
      steps = k.steps;
      cause = k.cause;
    }

abbrev pub with_words : Kernel → Words → Kernel
with_words k w =
    record {
      threads = k.threads;
      counters = k.counters;
      references = k.references;
      woken = k.woken;
      finished = k.finished;
      answer = k.answer;
      words = w;
      steps = k.steps;
      cause = k.cause;
    }

-- the call at work wakes with this cause
abbrev pub with_cause : Kernel → ℕ → Kernel
with_cause k c =
    record {
      threads = k.threads;
      counters = k.counters;
      references = k.references;
      woken = k.woken;
      finished = k.finished;
      answer = k.answer;
      words = k.words;
      steps = k.steps;
      cause = c;
    }
