-- Two comparisons or loadings of which the same is told are the same.
use Rattle.std.proofs.Common.{◌≡◌, ℕ, ap, arith, Result, Ok, Err}
use Rattle.kernel.specs.declared.refusals.Refusal.{Refusal}
use Rattle.kernel.proofs.ToldLaws.{number-one, number-some}
use Rattle.compare.specs.declared.cells.Kept.{Kept}
use Rattle.compare.specs.Told.{Compared, Loaded, told_compared, told_loaded}

pub told-compared-one : {x y : Result ℕ Refusal} → told_compared x ≡ told_compared y → x ≡ y
told-compared-one {x = Ok a} {y = Ok b} e = ap Ok (ap (λ (t : Compared). t.entries) e)
told-compared-one {x = Ok a} {y = Err b} e = absurd (omega (arith, number-some b, ap (λ (t : Compared). t.code) e))
told-compared-one {x = Err a} {y = Ok b} e = absurd (omega (arith, number-some a, ap (λ (t : Compared). t.code) e))
told-compared-one {x = Err a} {y = Err b} e = ap Err (number-one (ap (λ (t : Compared). t.code) e))

pub told-loaded-one : (n : Kept) {x y : Result Kept Refusal} → told_loaded n x ≡ told_loaded n y → x ≡ y
told-loaded-one n {x = Ok a} {y = Ok b} e = ap Ok (ap (λ (t : Loaded). t.kept) e)
told-loaded-one n {x = Ok a} {y = Err b} e = absurd (omega (arith, number-some b, ap (λ (t : Loaded). t.code) e))
told-loaded-one n {x = Err a} {y = Ok b} e = absurd (omega (arith, number-some a, ap (λ (t : Loaded). t.code) e))
told-loaded-one n {x = Err a} {y = Err b} e = ap Err (number-one (ap (λ (t : Loaded). t.code) e))
