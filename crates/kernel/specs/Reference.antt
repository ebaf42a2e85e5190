-- References. "9, 10: suspend; resume with a"
use Rattle.std.specs.Prelude.{ℕ, ℤ}
use Rattle.kernel.specs.declared.records.Call.{Call}
use Rattle.kernel.specs.declared.records.Kernel.{Kernel}
use Rattle.kernel.specs.Numbers.{suspended}
use Rattle.kernel.specs.Tables.{holder_at}
use Rattle.kernel.specs.Moves.{woken, blocked}

-- thread i is suspended on reference r
unfoldable pub suspended_on : Kernel → ℕ → ℕ → Call → Kernel
suspended_on k i r call = blocked k i suspended r call

-- the holder is made ready with m; "resume of an empty reference does nothing"
unfoldable pub resumed : Kernel → ℕ → ℤ → Kernel
resumed k r m = woken k (holder_at k r) m
