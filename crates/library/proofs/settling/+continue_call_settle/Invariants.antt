-- The cycle of `settle` and `continue_call`: `settle` at the budget b calls `continue_call` at b - 1, which calls `settle` at no
-- more than b - 1, twice. The measures are 2 b for `settle` and 2 b + 1 for `continue_call`.
use Rattle.std.proofs.Common.{◌+◌, ◌*◌}
use Rattle.library.proofs.settling.+continue_call_settle.Given as goal

abbrev pub decreases-continue_call : goal.decreases-continue_call
decreases-continue_call l = 2 * l.budget + 1

abbrev pub decreases-settle : goal.decreases-settle
decreases-settle l = 2 * l.budget
