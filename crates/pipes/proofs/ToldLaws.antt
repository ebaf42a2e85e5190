-- Two results of which the same is told are the same.
use Rattle.std.proofs.Common.{◌≡◌, ap, arith, Result, Ok, Err}
use Rattle.kernel.specs.declared.refusals.Refusal.{Refusal}
use Rattle.kernel.proofs.ToldLaws.{number-one, number-some}
use Rattle.pipes.specs.declared.table.Pipes.{Pipes}
use Rattle.pipes.specs.declared.transfer.Transferred.{Transferred}
use Rattle.pipes.specs.Told.{Opened, Moved, told_opened, told_moved}

pub opened-one : (t : Pipes) {x y : Result Pipes Refusal} → told_opened t x ≡ told_opened t y → x ≡ y
opened-one t {x = Ok a} {y = Ok b} e = ap Ok (ap (λ (o : Opened). o.pipes) e)
opened-one t {x = Ok a} {y = Err b} e = absurd (omega (arith, number-some b, ap (λ (o : Opened). o.code) e))
opened-one t {x = Err a} {y = Ok b} e = absurd (omega (arith, number-some a, ap (λ (o : Opened). o.code) e))
opened-one t {x = Err a} {y = Err b} e = ap Err (number-one (ap (λ (o : Opened). o.code) e))

pub moved-one : (t : Pipes) {x y : Result Transferred Refusal} → told_moved t x ≡ told_moved t y → x ≡ y
moved-one t {x = Ok a} {y = Ok b} e = ap Ok (ap (λ (m : Moved). record { pipes = m.pipes; moved = m.moved }) e)
moved-one t {x = Ok a} {y = Err b} e = absurd (omega (arith, number-some b, ap (λ (m : Moved). m.code) e))
moved-one t {x = Err a} {y = Ok b} e = absurd (omega (arith, number-some a, ap (λ (m : Moved). m.code) e))
moved-one t {x = Err a} {y = Err b} e = ap Err (number-one (ap (λ (m : Moved). m.code) e))
