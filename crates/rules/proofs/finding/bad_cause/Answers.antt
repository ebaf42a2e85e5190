-- The rule of causes is the one of number 15.
use Rattle.rules.specs.RowRules.{cause_fits}
use Rattle.rules.proofs.finding.bad_cause.Goals as goal

pub returns-else-fit : goal.returns-else-fit
returns-else-fit c = rw c.if-fit.false (c.first_bad_row.ensures cause_fits (λ t b e. e.1))
