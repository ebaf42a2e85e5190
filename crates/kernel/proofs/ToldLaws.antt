-- What is told of a result says which it was.
use Rattle.std.proofs.Common.{◌≡◌, ℕ, ◌<◌, ◌==◌, cond, refl, sym, ap, ◌∙◌, arith, Result, Ok, Err}
use Rattle.kernel.specs.declared.time.Interval.{Interval}
use Rattle.kernel.specs.declared.refusals.Refusal.{Refusal}
use Rattle.kernel.specs.declared.refusals.Refusal.TheVariants.{Tables, Kind, Caller, Context, Object, Value, State, Version, Cut, Length, Size, Long, Room}
use Rattle.kernel.specs.Told.{number, code_of, Ticks, Units, told_ticks, told_units}

-- the refusal of a number
abbrev refusal_of : ℕ → Refusal
refusal_of n =
    cond (n == 1) Tables (cond (n == 2) Kind (cond (n == 3) Caller (cond (n == 4) Context (cond (n == 5) Object (cond (n == 6) Value
    (cond (n == 7) State (cond (n == 11) Version (cond (n == 12) Cut (cond (n == 13) Length (cond (n == 14) Size (cond (n == 15) Long Room)))))))))))

refusal-of-is : (a : Refusal) → refusal_of (number a) ≡ a
refusal-of-is Tables = refl
refusal-of-is Kind = refl
refusal-of-is Caller = refl
refusal-of-is Context = refl
refusal-of-is Object = refl
refusal-of-is Value = refl
refusal-of-is State = refl
refusal-of-is Version = refl
refusal-of-is Cut = refl
refusal-of-is Length = refl
refusal-of-is Size = refl
refusal-of-is Long = refl
refusal-of-is Room = refl

-- two refusals of one number are the same
pub number-one : {a b : Refusal} → number a ≡ number b → a ≡ b
number-one {a} {b} e = sym (refusal-of-is a) ∙ ap refusal_of e ∙ refusal-of-is b

-- none has the number of what is accepted
pub number-some : (a : Refusal) → 0 < number a
number-some Tables = omega arith
number-some Kind = omega arith
number-some Caller = omega arith
number-some Context = omega arith
number-some Object = omega arith
number-some Value = omega arith
number-some State = omega arith
number-some Version = omega arith
number-some Cut = omega arith
number-some Length = omega arith
number-some Size = omega arith
number-some Long = omega arith
number-some Room = omega arith

-- two tests with one code are the same
pub code-one : {x y : Result (Unit {0}) Refusal} → code_of x ≡ code_of y → x ≡ y
code-one {x = Ok a} {y = Ok b} e = refl
code-one {x = Ok a} {y = Err b} e = absurd (omega (arith, number-some b, e))
code-one {x = Err a} {y = Ok b} e = absurd (omega (arith, number-some a, e))
code-one {x = Err a} {y = Err b} e = ap Err (number-one e)

-- two conversions of which the same is told are the same
pub told-ticks-one : {x y : Result Interval Refusal} → told_ticks x ≡ told_ticks y → x ≡ y
told-ticks-one {x = Ok a} {y = Ok b} e = ap Ok (ap (λ (t : Ticks). t.interval) e)
told-ticks-one {x = Ok a} {y = Err b} e = absurd (omega (arith, number-some b, ap (λ (t : Ticks). t.code) e))
told-ticks-one {x = Err a} {y = Ok b} e = absurd (omega (arith, number-some a, ap (λ (t : Ticks). t.code) e))
told-ticks-one {x = Err a} {y = Err b} e = ap Err (number-one (ap (λ (t : Ticks). t.code) e))

pub told-units-one : {x y : Result ℕ Refusal} → told_units x ≡ told_units y → x ≡ y
told-units-one {x = Ok a} {y = Ok b} e = ap Ok (ap (λ (t : Units). t.value) e)
told-units-one {x = Ok a} {y = Err b} e = absurd (omega (arith, number-some b, ap (λ (t : Units). t.code) e))
told-units-one {x = Err a} {y = Ok b} e = absurd (omega (arith, number-some a, ap (λ (t : Units). t.code) e))
told-units-one {x = Err a} {y = Err b} e = ap Err (number-one (ap (λ (t : Units). t.code) e))
