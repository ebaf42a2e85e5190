-- Two results of which the same is told are the same.
use Rattle.std.proofs.Common.{◌≡◌, ℕ, refl, ap, ap₂, arith, Result, Ok, Err, Option, Some, None}
use Rattle.kernel.specs.declared.refusals.Refusal.{Refusal}
use Rattle.kernel.proofs.ToldLaws.{number-one}
use Rattle.library.specs.declared.calls.Step.{Step}
use Rattle.trace.specs.declared.decoding.Record.{Record}
use Rattle.trace.specs.declared.decoding.Record.TheVariants as read
use Rattle.trace.specs.declared.decoding.BadRecord.{BadRecord}
use Rattle.trace.specs.declared.decoding.Read as declared
use Rattle.trace.specs.Told.{Found, Read, Written, told_written}
use Rattle.trace.specs.Decoding.{found_code, told_found, told_sizes, told_read}
use Rattle.trace.specs.Writer.{written_code}

-- which of the four it is, and what it has
abbrev kind_of : Found → ℕ
kind_of Found.Opened = 0
kind_of (Found.Stepped x) = 1
kind_of Found.Ended = 2
kind_of (Found.Refused code number) = 3

abbrev step_in : Step → Found → Step
step_in d Found.Opened = d
step_in d (Found.Stepped x) = x
step_in d Found.Ended = d
step_in d (Found.Refused code number) = d

abbrev number_in : Found → ℕ
number_in Found.Opened = 0
number_in (Found.Stepped x) = 0
number_in Found.Ended = 0
number_in (Found.Refused code number) = number

other : {A : Type 0} (f g : Found) → f ≡ g → (kind_of f ≡ kind_of g → ⊥) → A
other f g e h = absurd (h (ap kind_of e))

found-one : (x y : Result (Option Record) BadRecord) → told_found x ≡ told_found y → told_sizes x ≡ told_sizes y → x ≡ y
found-one (Ok (Some (read.Sizes a))) (Ok (Some (read.Sizes b))) e s = ap (λ z. Ok (Some (read.Sizes z))) s
found-one (Ok (Some (read.Sizes a))) (Ok (Some (read.Step b))) e s = other _ _ e (λ n. omega arith)
found-one (Ok (Some (read.Sizes a))) (Ok None) e s = other _ _ e (λ n. omega arith)
found-one (Ok (Some (read.Sizes a))) (Err b) e s = other _ _ e (λ n. omega arith)
found-one (Ok (Some (read.Step a))) (Ok (Some (read.Sizes b))) e s = other _ _ e (λ n. omega arith)
found-one (Ok (Some (read.Step a))) (Ok (Some (read.Step b))) e s = ap (λ f. Ok (Some (read.Step (step_in a f)))) e
found-one (Ok (Some (read.Step a))) (Ok None) e s = other _ _ e (λ n. omega arith)
found-one (Ok (Some (read.Step a))) (Err b) e s = other _ _ e (λ n. omega arith)
found-one (Ok None) (Ok (Some (read.Sizes b))) e s = other _ _ e (λ n. omega arith)
found-one (Ok None) (Ok (Some (read.Step b))) e s = other _ _ e (λ n. omega arith)
found-one (Ok None) (Ok None) e s = refl
found-one (Ok None) (Err b) e s = other _ _ e (λ n. omega arith)
found-one (Err a) (Ok (Some (read.Sizes b))) e s = other _ _ e (λ n. omega arith)
found-one (Err a) (Ok (Some (read.Step b))) e s = other _ _ e (λ n. omega arith)
found-one (Err a) (Ok None) e s = other _ _ e (λ n. omega arith)
found-one (Err a) (Err b) e s =
    ap₂ (λ (w : Refusal) (n : ℕ). Err (record { why = w; number = n })) (number-one (ap found_code e)) (ap number_in e)

pub read-one : {x y : declared.Read} → told_read x ≡ told_read y → x ≡ y
read-one {x} {y} e =
    ap₂ (λ f n. record { found = f; next = n })
    (found-one x.found y.found (ap (λ (r : Read). r.found) e) (ap (λ (r : Read). r.sizes) e)) (ap (λ (r : Read). r.next) e)

-- 0 for a place, and 1 for a refusal
abbrev kind_written : Written → ℕ
kind_written (Written.Upto next) = 0
kind_written (Written.Refused code) = 1

abbrev place_in : Written → ℕ
place_in (Written.Upto next) = next
place_in (Written.Refused code) = 0

pub written-one : {x y : Result ℕ Refusal} → told_written x ≡ told_written y → x ≡ y
written-one {x = Ok a} {y = Ok b} e = ap (λ w. Ok (place_in w)) e
written-one {x = Ok a} {y = Err b} e = absurd (omega (arith, ap kind_written e))
written-one {x = Err a} {y = Ok b} e = absurd (omega (arith, ap kind_written e))
written-one {x = Err a} {y = Err b} e = ap Err (number-one (ap written_code e))
