-- Two answers that say the same in numbers are the same.
use Rattle.std.specs.Prelude.{ℕ, ◌≡◌, refl, [], ◌∷◌}
use Rattle.std.proofs.Common.{arith, ap}
use Rattle.library.specs.declared.calls.Step.{Step}
use Rattle.trace.specs.Told.{Found, Written}
use Rattle.promises.specs.Paper.Answers.{Said, found_said}
use Rattle.promises.specs.Paper.Writer.{written_said}

-- what is given tells the cases apart
other : (a b : Said) {C : Type 0} → a ≡ b → (a.gives ≡ b.gives → ⊥) → C
other a b e n = absurd (n (ap (λ (s : Said). s.gives) e))

-- and so does the number of values
no_value : {n : ℕ} {C : Type 0} → [] ≡ n ∷ [] → C
no_value e = let z : ◌≡◌ {A = ℕ} 0 1 = cc in absurd (omega arith)

some-value : {n : ℕ} {C : Type 0} → n ∷ [] ≡ [] → C
some-value e = let z : ◌≡◌ {A = ℕ} 0 1 = cc in absurd (omega arith)

same_step : (x y : Step) → x.kind ≡ y.kind → x.caller ≡ y.caller → x.object ≡ y.object → x.a ≡ y.a → x.timeout ≡ y.timeout → x ≡ y
same_step x y a b c d e =
    let parts : ◌≡◌ {A = Step} (record { kind = x.kind; caller = x.caller; object = x.object; a = x.a; timeout = x.timeout })
    (record { kind = y.kind; caller = y.caller; object = y.object; a = y.a; timeout = y.timeout }) = rw (a, b, c, d, e) in
    parts

pub found-one : (f g : Found) → found_said f ≡ found_said g → f ≡ g
found-one Found.Opened Found.Opened e = refl
found-one Found.Opened (Found.Stepped y) e = other (found_said Found.Opened) (found_said (Found.Stepped y)) e (λ n. omega arith)
found-one Found.Opened Found.Ended e = other (found_said Found.Opened) (found_said Found.Ended) e (λ n. omega arith)
found-one Found.Opened (Found.Refused c n) e = other (found_said Found.Opened) (found_said (Found.Refused c n)) e (λ n. omega arith)
found-one (Found.Stepped x) Found.Opened e = other (found_said (Found.Stepped x)) (found_said Found.Opened) e (λ n. omega arith)
found-one (Found.Stepped x) (Found.Stepped y) e =
    let v : x.kind ∷ x.caller ∷ x.object ∷ x.a ∷ x.timeout ∷ [] ≡ y.kind ∷ y.caller ∷ y.object ∷ y.a ∷ y.timeout ∷ [] =
    ap (λ (s : Said). s.values) e in
    ap Found.Stepped (same_step x y (cc) (cc) (cc) (cc) (cc))
found-one (Found.Stepped x) Found.Ended e = other (found_said (Found.Stepped x)) (found_said Found.Ended) e (λ n. omega arith)
found-one (Found.Stepped x) (Found.Refused c n) e = other (found_said (Found.Stepped x)) (found_said (Found.Refused c n)) e (λ n. omega arith)
found-one Found.Ended Found.Opened e = other (found_said Found.Ended) (found_said Found.Opened) e (λ n. omega arith)
found-one Found.Ended (Found.Stepped y) e = other (found_said Found.Ended) (found_said (Found.Stepped y)) e (λ n. omega arith)
found-one Found.Ended Found.Ended e = refl
found-one Found.Ended (Found.Refused c n) e = no_value (ap (λ (s : Said). s.values) e)
found-one (Found.Refused c n) Found.Opened e = other (found_said (Found.Refused c n)) (found_said Found.Opened) e (λ n. omega arith)
found-one (Found.Refused c n) (Found.Stepped y) e = other (found_said (Found.Refused c n)) (found_said (Found.Stepped y)) e (λ n. omega arith)
found-one (Found.Refused c n) Found.Ended e = some-value (ap (λ (s : Said). s.values) e)
found-one (Found.Refused c n) (Found.Refused d m) e =
    let code : c ≡ d = ap (λ (s : Said). s.code) e in
    let v : n ∷ [] ≡ m ∷ [] = ap (λ (s : Said). s.values) e in
    cc

pub written_one : (v w : Written) → written_said v ≡ written_said w → v ≡ w
written_one (Written.Upto a) (Written.Upto b) e = let v : a ∷ [] ≡ b ∷ [] = ap (λ (s : Said). s.values) e in cc
written_one (Written.Upto a) (Written.Refused c) e = other (written_said (Written.Upto a)) (written_said (Written.Refused c)) e (λ n. omega arith)
written_one (Written.Refused c) (Written.Upto b) e = other (written_said (Written.Refused c)) (written_said (Written.Upto b)) e (λ n. omega arith)
written_one (Written.Refused c) (Written.Refused d) e = ap Written.Refused (ap (λ (s : Said). s.code) e)
