-- The record's parts are put, and where reading stopped; what is known behind it is what the callees ensure.
use Rattle.text.proofs.ViewLaws.{next-listed}
use Rattle.text.proofs.views.list_next.Goals as goal

pub returns : goal.returns
returns c =
    next-listed c.args.x c.args.v c.args.number _ _ _ _
    c.read_at-read.ensures c.see_read-seen.ensures c.shown_of-shown.ensures c.put_parts.ensures c.put_stop.ensures
