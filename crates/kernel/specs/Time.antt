-- System time and interval: two units over 32 bits, whose sums and differences wrap.
use Rattle.std.specs.Prelude.{◌+◌, ◌-◌, ◌%◌, ◌^◌, Bool, nat_lt}
use Rattle.kernel.specs.declared.time.SystemTime.{SystemTime}
use Rattle.kernel.specs.declared.time.Interval.{Interval}

-- "Time plus interval .. wrap"
abbrev pub added : SystemTime → Interval → SystemTime
added t d = record { 0 = (t.0 + d.0) % 2 ^ 32 }

-- ".. and end minus start wrap"
abbrev pub differed : SystemTime → SystemTime → Interval
differed start end = record { 0 = (end.0 + (2 ^ 32 - start.0)) % 2 ^ 32 }

-- "A time is in range if (time - start) is less than (end - start), both wrapped"
abbrev pub in_range : SystemTime → SystemTime → SystemTime → Bool
in_range t start end = nat_lt (differed start t).0 (differed start end).0

-- "After a tick, system time goes from 4294967295 to 0"
abbrev pub advanced : SystemTime → SystemTime
advanced t = added t (record { 0 = 1 })
