-- SIGNALS, of document 02, 6/13: what an accepted signal answers, and what it leaves at the top. Read off the step, its result, and the tables
-- before and after.
use Rattle.std.specs.Prelude.{ℕ, ◌≡◌, ◌≢◌, ◌⊎◌, true, false, ℤ, pos, ◌+ℤ◌, set}
use Rattle.std.specs.Int.Signed.{lt_z}
use Rattle.kernel.specs.declared.clock.Clock.{Clock}
use Rattle.library.specs.declared.calls.Step.{Step}
use Rattle.library.specs.declared.tables.Tables.{Tables}
use Rattle.steps.specs.declared.stepping.Stepped.{Stepped}
use Rattle.promises.specs.Paper.World.{risen, found, Running}
use Rattle.promises.specs.Paper.Waking.{row_of, in_mask}

-- the step's own call finishes in this step with m and 0: in the result, and of a thread in its record; an interrupt has none
pub record AnswersWith (s : Step) (r : Stepped) (m : ℤ) : Type 0 where
  pub message : r.outcome.message ≡ m
  pub datum : r.outcome.datum ≡ 0
  pub last : s.caller ≢ 255 → (row_of r.tables s.caller).answer ≡ record { message = m; datum = 0 }
  pub finished : s.caller ≢ 255 → in_mask s.caller r.outcome.finished ≡ true

-- the tables, but for the step number, which has risen
abbrev pub risen_in : Tables → Tables
risen_in t =
    record {
      kernel = record {
        threads = t.kernel.threads;
        counters = t.kernel.counters;
        references = t.kernel.references;
        words = t.kernel.words;
        steps = risen t.kernel.steps;
      };
      mailboxes = t.mailboxes;
      pools = t.pools;
      sizes = t.sizes;
    }

-- and for the last answer of thread i, which is m and 0
abbrev pub answered_in : Tables → ℕ → ℤ → Tables
answered_in t i m =
    record {
      kernel = record {
        threads = set t.kernel.threads i (record {
          state = (row_of t i).state;
          place = (row_of t i).place;
          remaining = (row_of t i).remaining;
          pending = (row_of t i).pending;
          awaited = (row_of t i).awaited;
          message = (row_of t i).message;
          call = (row_of t i).call;
          answer = record { message = m; datum = 0 };
          cause = (row_of t i).cause;
          step = (row_of t i).step;
        });
        counters = t.kernel.counters;
        references = t.kernel.references;
        words = t.kernel.words;
        steps = risen t.kernel.steps;
      };
      mailboxes = t.mailboxes;
      pools = t.pools;
      sizes = t.sizes;
    }

-- "at counter 2147483647 is now accepted, leaves the counter, wakes nobody and answers message 1 in place of 0"
pub record AtTop (t : Tables) (c : Clock) (s : Step) (r : Stepped) : Type 0 where
  pub answers : AnswersWith s r (pos 1)
  pub nobody-woken : (i : ℕ) → in_mask i r.outcome.woken ≡ false
  pub no-other-finished : (i : ℕ) → i ≢ s.caller → in_mask i r.outcome.finished ≡ false
  pub running : Running (found t) r.outcome.running
  -- no byte changes but a calling thread's last answer and the step number
  pub thread : s.caller ≢ 255 → r.tables ≡ answered_in t s.caller (pos 1)
  pub interrupt : s.caller ≡ 255 → r.tables ≡ risen_in t
  pub clock : r.clock ≡ c

-- below it: "counter +1", and the answer is 0
pub record Counts (t : Tables) (s : Step) (r : Stepped) : Type 0 where
  pub answers : AnswersWith s r (pos 0)
  pub counter : (found r.tables).counter s.object ≡ (found t).counter s.object +ℤ pos 1

-- an accepted signal. Counters are 32-bit numbers, so that what is not below 2147483647 is at it
pub record SignalTold (t : Tables) (c : Clock) (s : Step) (r : Stepped) : Type 0 where
  pub at_top : s.kind ≡ 3 → lt_z ((found t).counter s.object) (pos 2147483647) ≡ false → AtTop t c s r
  pub counts : s.kind ≡ 3 → lt_z ((found t).counter s.object) (pos 2147483647) ≡ true → Counts t s r
  -- "its callers (binary signal, pool free and add)" answer 0, whatever it told them
  pub callers : (s.kind ≡ 5) ⊎ (s.kind ≡ 21) ⊎ (s.kind ≡ 22) → AnswersWith s r (pos 0)
