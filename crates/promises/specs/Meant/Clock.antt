-- The clock after a step.
use Rattle.std.specs.Prelude.{ℕ, ◌+◌, ◌<◌, ◌≡◌, ◌≢◌}
use Rattle.std.proofs.Common.{ne_eqb}
use Rattle.kernel.specs.declared.clock.Clock.{Clock}
use Rattle.kernel.proofs.TimeLaws.{advance-wraps, advance-next}
use Rattle.steps.specs.Stepping.{clock_after}

-- ---- "time +1"

-- "time +1"
pub tick-time : (c : Clock) → c.time.0 < 4294967295 → (clock_after c 1).time.0 ≡ c.time.0 + 1
tick-time c h = advance-next c.time h

-- "After a tick, system time goes from 4294967295 to 0"
pub tick-time-wraps : (c : Clock) → c.time.0 ≡ 4294967295 → (clock_after c 1).time.0 ≡ 0
tick-time-wraps c e = advance-wraps c.time e

-- no other step is a tick
pub other-time : (c : Clock) (kind : ℕ) → kind ≢ 1 → clock_after c kind ≡ c
other-time c kind d = rw (ne_eqb kind 1 d)
