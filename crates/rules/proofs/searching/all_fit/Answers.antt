-- No row is found exactly if each fits.
use Rattle.std.proofs.Common.{sym, ap, ◌∙◌, is_some, refl}
use Rattle.rules.proofs.HangingLaws.{none-asked, none-bad}
use Rattle.rules.proofs.searching.all_fit.Goals as goal

pub returns : goal.returns
returns g c =
    λ few f tells.
    none-asked _ _ _ (ap is_some (sym (c.first_failing-failing.ensures few f tells)) ∙ c.is_none.ensures) ∙ none-bad f _ _ few refl
