-- The call that a sleeping thread keeps of its step: "A call that sleeps keeps 0 for unused fields".
use Rattle.std.specs.Prelude.{ℕ, Bool, cond, ◌||◌, eqb}
use Rattle.kernel.specs.declared.records.Call.{Call}
use Rattle.library.specs.declared.calls.Step.{Step}

-- 12's time, 14's mask, 15's and 16's message
abbrev pub keeps_operand : ℕ → Bool
keeps_operand kind = eqb kind 12 || (eqb kind 14 || (eqb kind 15 || eqb kind 16))

-- an event wait has no object
abbrev pub object_of : Step → ℕ
object_of s = cond (eqb s.kind 14) 0 s.object

abbrev pub operand_of : Step → ℕ
operand_of s = cond (keeps_operand s.kind) s.a 0

abbrev pub call_of : Step → Call
call_of s = record { kind = s.kind; object = object_of s; operand = operand_of s; timeout = s.timeout }
