-- A host is told 0 exactly where its tables hang together: those of a host, whose lists have their tables' lengths.
use native.Mathlib.Omega.{arith}
use mathlib.Core.Path.{◌≡◌, sym, ◌∙◌}
use lib.Dec.{eqb}
use lib.ListN.{length}
use borrow.Author.Tests.{eq-eqb, ne_eqb, eqb-true, eqb-false}
use Rattle.kernel.specs.declared.clock.Clock.{Clock}
use Rattle.kernel.proofs.Cases.{split}
use Rattle.library.specs.declared.tables.Tables.{Tables}
use Rattle.library.specs.Tables.{opened}
use Rattle.rules.specs.Hanging.{hangs_together}
use Rattle.rules.specs.Finding.{broken}
use Rattle.rules.proofs.FindingLaws.{no-rule-no-row, rule-none}
use Rattle.host.specs.Broken.{broken_number}

module _ (t : Tables) (clock : Clock) where
  -- the number is 0 exactly if the rule is
  number-rule : eqb (broken_number t clock) 0 ≡ eqb (broken (opened t) clock).rule 0
  number-rule =
      split (eqb (broken (opened t) clock).rule 0)
      (λ e.
      let none = eqb-true (broken (opened t) clock).rule 0 e in
      let row = no-rule-no-row (opened t) clock none in
      eq-eqb (broken_number t clock) 0 (omega arith) ∙ sym e)
      (λ e.
      let some = eqb-false (broken (opened t) clock).rule 0 e in
      ne_eqb (broken_number t clock) 0 (λ q. some (omega arith)) ∙ sym e)

  pub number-none : length (opened t).kernel.threads ≡ 16 → eqb (broken_number t clock) 0 ≡ hangs_together (opened t) clock
  number-none sized = number-rule ∙ rule-none (opened t) clock sized
