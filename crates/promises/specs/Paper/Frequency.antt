-- THE FREQUENCY OF A RUN (8/13). "Our new boxes run at 10000": a run at one frequency, told as a run at another. Tables, results and system
-- time are the same, and the clock's record has its own frequency.
use Rattle.std.specs.Prelude.{ℕ}
use Rattle.kernel.specs.declared.clock.Clock.{Clock}
use Rattle.promises.specs.Paper.Run.{Ran}

-- the same time, at the frequency f
abbrev pub clock_at : ℕ → Clock → Clock
clock_at f c = record { time = c.time; frequency = f }

-- what a run leaves, with the clock at f
abbrev pub ran_at : ℕ → Ran → Ran
ran_at f r = record { tables = r.tables; clock = clock_at f r.clock; outcomes = r.outcomes }
