-- Plain sleeps. "11, 12: sleep for the timeout; sleep until a"
use Rattle.std.specs.Prelude.{ℕ}
use Rattle.kernel.specs.declared.time.SystemTime.{SystemTime}
use Rattle.kernel.specs.declared.time.Interval.{Interval}
use Rattle.kernel.specs.declared.records.Kernel.{Kernel}
use Rattle.kernel.specs.Numbers.{nowhere, sleeping, sleep_for, sleep_until}
use Rattle.kernel.specs.Time.{differed}
use Rattle.kernel.specs.Moves.{slept}

-- thread i sleeps for an interval
unfoldable pub slept_for : Kernel → ℕ → Interval → Kernel
slept_for k i d =
    slept k i sleeping nowhere (record { kind = sleep_for; object = 0; operand = 0; timeout = d.0 })

-- "until sleeps a minus system time, wrapped"; "12's full timeout is the interval slept"
unfoldable pub slept_until : Kernel → ℕ → SystemTime → SystemTime → Kernel
slept_until k i now until =
    slept k i sleeping nowhere
    (record { kind = sleep_until; object = 0; operand = until.0; timeout = (differed now until).0 })
