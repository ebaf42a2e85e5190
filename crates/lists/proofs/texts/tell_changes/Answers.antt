-- A refused comparison has no text.
use Rattle.std.proofs.Common.{sym, ap, ◌∙◌}
use Rattle.compare.specs.Told.{told_compared}
use Rattle.buffers.proofs.PutLaws.{nothing}
use Rattle.lists.proofs.ToldLaws.{no-text, no-end}
use Rattle.lists.proofs.texts.tell_changes.Goals as goal

pub returns-in_err-entries-clause-text : goal.returns-in_err-entries-clause-text
returns-in_err-entries-clause-text c =
    let a = c.args in
    let told = sym (ap told_compared c.in_err-entries.was) ∙ c.compare.ensures.0 in
    rw (no-end c.from_residual.result c.from_residual.ensures.0, no-text a.a a.b c.in_err-entries.field-0.0 told) (nothing a.out.now 0)
