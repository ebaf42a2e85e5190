-- What is found is the meaning's rule and row; where none is found the meaning has 0 and 0.
use Rattle.std.proofs.Common.{◌+◌, ◌*◌, sym, ap, ◌∙◌, arith}
use Rattle.library.specs.Tables.{opened}
use Rattle.rules.specs.declared.finding.Broken.{Broken}
use Rattle.rules.specs.Finding.{broken}
use Rattle.rules.proofs.FindingLaws.{told_some, told_nothing, no-rule-no-row}
use Rattle.host.proofs.broken.number_broken.Goals as goal

pub returns-in-Some : goal.returns-in-Some
returns-in-Some c =
    ap (λ (b : Broken). b.rule * 256 + b.row)
    (told_some (broken (opened c.args.tables) c.args.clock) c.in-Some.found (sym c.in-Some.is ∙ c.find_broken.ensures))

pub returns-in-None : goal.returns-in-None
returns-in-None c =
    let none = told_nothing (broken (opened c.args.tables) c.args.clock) (sym c.in-None.is ∙ c.find_broken.ensures) in
    let row = no-rule-no-row (opened c.args.tables) c.args.clock none in
    omega arith
