-- A cause's number says which it is, and what a number decodes to is one.
use Rattle.std.proofs.Common.{◌≡◌, ℕ, ◌==◌, ◌<◌, cond, refl, sym, ap, ◌∙◌, arith, Result, Ok, Err}
use Rattle.kernel.specs.declared.refusals.Refusal.{Refusal}
use Rattle.kernel.specs.declared.causes.Cause.{Cause}
use Rattle.kernel.specs.declared.causes.Cause.TheVariants
use Rattle.kernel.specs.Causes.{cause_number, Decodes}

-- the cause of a number
abbrev cause_at : ℕ → Cause
cause_at n =
    cond (n == 1) TheVariants.Signal (cond (n == 2) TheVariants.Release (cond (n == 3) TheVariants.Resume (cond (n == 4) TheVariants.Event
    (cond (n == 5) TheVariants.Post (cond (n == 6) TheVariants.Fetch (cond (n == 7) TheVariants.Reset (cond (n == 8) TheVariants.Tick TheVariants.None)))))))

cause-at-is : (a : Cause) → cause_at (cause_number a) ≡ a
cause-at-is TheVariants.None = refl
cause-at-is TheVariants.Signal = refl
cause-at-is TheVariants.Release = refl
cause-at-is TheVariants.Resume = refl
cause-at-is TheVariants.Event = refl
cause-at-is TheVariants.Post = refl
cause-at-is TheVariants.Fetch = refl
cause-at-is TheVariants.Reset = refl
cause-at-is TheVariants.Tick = refl

-- two causes of one number are the same
pub cause-one : {a b : Cause} → cause_number a ≡ cause_number b → a ≡ b
cause-one {a} {b} e = sym (cause-at-is a) ∙ ap cause_at e ∙ cause-at-is b

-- no cause has a number that decodes to a refusal
cause-within : (a : Cause) → 8 < cause_number a → ⊥
cause-within TheVariants.None l = omega arith
cause-within TheVariants.Signal l = omega arith
cause-within TheVariants.Release l = omega arith
cause-within TheVariants.Resume l = omega arith
cause-within TheVariants.Event l = omega arith
cause-within TheVariants.Post l = omega arith
cause-within TheVariants.Fetch l = omega arith
cause-within TheVariants.Reset l = omega arith
cause-within TheVariants.Tick l = omega arith

-- a number decodes to one cause, or to the refusal
pub decodes-one : (n : ℕ) {x y : Result Cause Refusal} → Decodes n x → Decodes n y → x ≡ y
decodes-one n {x = Ok a} {y = Ok b} p q = ap Ok (cause-one (p ∙ sym q))
decodes-one n {x = Ok a} {y = Err b} p q = absurd (cause-within a (omega (arith, p, q.1)))
decodes-one n {x = Err a} {y = Ok b} p q = absurd (cause-within b (omega (arith, q, p.1)))
decodes-one n {x = Err a} {y = Err b} p q = ap Err (p.0 ∙ sym q.0)
