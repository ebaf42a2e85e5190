-- The clock record: "There is one clock record, system time and frequency".
use Rattle.kernel.specs.declared.clock.Clock.{Clock}
use Rattle.kernel.specs.Time.{advanced}

-- "the tick advances it"; the frequency is kept
abbrev pub ticked_clock : Clock → Clock
ticked_clock c = record { time = advanced c.time; frequency = c.frequency }
