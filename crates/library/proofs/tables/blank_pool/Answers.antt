use Rattle.library.proofs.Blanks.{zeros}
use Rattle.library.proofs.tables.blank_pool.Goals as goal

pub returns : goal.returns
returns c =
    let h = c.default.ensures in
    rw (h.0, zeros c.default.result.list 32 h.1.0, zeros c.default.result.marks 32 h.1.1)
