-- The chain's items are the numbers 0 to 3, and its closure answers each by its test.
use Rattle.std.proofs.Common.{◌≡◌, true, false, refl, rules}
use Rattle.std.proofs.lemmas.Iterator.{cases_from_all, YieldsList-from_range}
use Rattle.library.specs.Sizes.{slots_fit}
use Rattle.library.proofs.Every.{every-four}
use Rattle.library.proofs.sizes.every_slots_fit.Goals as goal

pub returns : goal.returns
returns c =
    every-four (slots_fit c.args.s) _
    (cases_from_all _ _ _ (λ i. slots_fit c.args.s i ≡ true) (λ i. slots_fit c.args.s i ≡ false) c.all.ensures.ran
    (YieldsList-from_range 0 4 4 refl refl)
    (λ x q k. search rules)
    (λ x q k. search rules))
