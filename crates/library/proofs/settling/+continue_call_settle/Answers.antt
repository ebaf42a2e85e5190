-- Each way out that continues a call is a turn of the meaning, or two of them one after the other.
use Rattle.std.proofs.Common.{◌∙◌, arith}
use Rattle.library.proofs.SettlingLaws.{settled_on, settled-halves}
use Rattle.library.proofs.settling.+continue_call_settle.Goals as goal

pub continue_call-returns : goal.continue_call-returns
continue_call-returns t c = c.settle-r-2.ensures ∙ settled-halves _ _ _ _ _ (omega arith) c.go_on-r.ensures c.settle-r.ensures

pub settle-returns : goal.settle-returns
settle-returns t c =
    c.continue_call.ensures ∙ settled_on _ _ _ _ c.running_free.ensures c.if-running_free.false c.first_ready.ensures c.if-budget-eq0.false
