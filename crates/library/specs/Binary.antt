-- Binary semaphores. "5: binary signal: as 3 if the counter is below 1, else nothing". Whether the signal counted is dropped
use Rattle.std.specs.Prelude.{ℕ, cond, pos}
use Rattle.std.specs.Int.Signed.{lt_z}
use Rattle.kernel.specs.declared.records.Kernel.{Kernel}
use Rattle.kernel.specs.Tables.{counter_at}
use Rattle.kernel.specs.Semaphore.{signalled}

unfoldable pub binary_signalled : Kernel → ℕ → Kernel
binary_signalled k p = cond (lt_z (counter_at k p) (pos 1)) (signalled k p).kernel k
