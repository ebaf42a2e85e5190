-- Two results of making tables that are told alike are the same.
use Rattle.std.proofs.Common.{◌≡◌, sym, ap, ◌∙◌, arith, Result, Ok, Err}
use Rattle.kernel.specs.declared.refusals.Refusal.{Refusal}
use Rattle.kernel.proofs.ToldLaws.{number-one, number-some}
use Rattle.library.specs.declared.fresh.Fresh.{Fresh}
use Rattle.library.specs.Told.{Made}
use Rattle.library.specs.Fresh.{told_made}

pub told_made_one : {m : Made} (x y : Result Fresh Refusal) → told_made x ≡ m → told_made y ≡ m → x ≡ y
told_made_one (Ok x) (Ok y) p q =
    let e = p ∙ sym q in let t : x.tables ≡ y.tables = ap (λ (m : Made). m.tables) e in let c : x.clock ≡ y.clock = ap (λ (m : Made). m.clock) e in rw (t, c)
told_made_one (Ok x) (Err v) p q = absurd (omega (arith, number-some v, ap (λ (m : Made). m.code) (q ∙ sym p)))
told_made_one (Err v) (Ok y) p q = absurd (omega (arith, number-some v, ap (λ (m : Made). m.code) (p ∙ sym q)))
told_made_one (Err v) (Err w) p q = let e : v ≡ w = number-one (ap (λ (m : Made). m.code) (p ∙ sym q)) in rw e
