-- Each kind's cause is one of the list.
use Rattle.std.proofs.Common.{ℕ, ◌≤◌, arith}
use Rattle.library.specs.Causes.{cause_of}

pub cause-listed : (kind : ℕ) → cause_of kind ≤ 8
cause-listed kind = grind arith
