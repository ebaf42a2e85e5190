-- No rule is broken exactly where the tables hang together.
use Rattle.std.proofs.Common.{◌≡◌, sym, ap, ◌∙◌, length, is_some, rules}
use Rattle.library.specs.Tables.{opened}
use Rattle.rules.proofs.FindingLaws.{rule-none}
use Rattle.rules.proofs.HangingLaws.{none-asked}
use Rattle.rules.proofs.hanging.hangs_together.Goals as goal

pub returns : goal.returns
returns c =
    let sized : length c.args.t.kernel.threads ≡ 16 = search rules in
    none-asked _ _ _ (ap is_some (sym c.find_broken-found.ensures) ∙ c.is_none.ensures) ∙ rule-none (opened c.args.t) c.args.clock sized
