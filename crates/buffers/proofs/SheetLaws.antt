-- Texts put on a sheet, in the forms in which the code meets them.
use Rattle.std.proofs.Common.{◌≡◌, ℕ, ◌+◌, ◌/◌, ◌%◌, ◌<◌, ◌≤◌, List, [], ◌∷◌, ◌++◌, length, get_or, take, refl, ap, ◌∙◌, sym, subst, add-one, take-suc}
use Rattle.buffers.specs.declared.putting.Sheet.{Sheet}
use Rattle.buffers.specs.Put.{Put, Puts, rows}
use Rattle.buffers.specs.Decimal.{decimal}
use Rattle.buffers.proofs.PutLaws as laws
use Rattle.buffers.proofs.DecimalLaws.{one-digit, more-digits}

-- no text, and one behind another
pub none : (s : Sheet) → Puts s s []
none s = record { same = refl; put = laws.nothing s.out.now s.at }

pub on : {s t u : Sheet} {a b : List ℕ} → Puts s t a → Puts t u b → Puts s u (a ++ b)
on p q = record { same = q.same ∙ p.same; put = laws.then p.put q.put }

-- one byte more of a word
pub byte_more : {s t u : Sheet} (w : List ℕ) (i : ℕ) → i < length w → Puts s t (take i w) → Puts t u (get_or w i 0 ∷ []) → Puts s u (take (i + 1) w)
byte_more w i h p q = rw (add-one i, take-suc w i 0 h) (on p q)

-- a number: its one digit, or those of its tenth and its last
pub one : {s t : Sheet} {d : ℕ} (n : ℕ) → n < 10 → d ≡ 48 + n % 10 → Puts s t (d ∷ []) → Puts s t (decimal n)
one {s} {t} n h e p = subst (λ (x : List ℕ). Puts s t x) (ap (λ (k : ℕ). k ∷ []) e ∙ one-digit n h) p

pub more : {s t u : Sheet} {d : ℕ} (n : ℕ) → 10 ≤ n → d ≡ 48 + n % 10 → Puts s t (decimal (n / 10)) → Puts t u (d ∷ []) → Puts s u (decimal n)
more {s} {t} {u} n h e p q = subst (λ (x : List ℕ). Puts s u x) (ap (λ (b : ℕ). decimal (n / 10) ++ (b ∷ [])) e ∙ more-digits n h) (on p q)

-- one text more of many
pub row_more : {s t u : Sheet} (f : ℕ → List ℕ) (i : ℕ) → Puts s t (rows i f) → Puts t u (f i) → Puts s u (rows (i + 1) f)
unfolding rows
row_more f i p q = rw (add-one i) (on p q)

pub row_none : (s : Sheet) (f : ℕ → List ℕ) → Puts s s (rows 0 f)
unfolding rows
row_none s f = none s

-- what a lent buffer holds in the end, whose sheet is let go: the sheet's
pub ended : {s t : Sheet} {l : List ℕ} {bytes : List ℕ} → Puts s t bytes → (s.out.ghost_name ≡ t.out.ghost_name → l ≡ t.out.now) → Put s.out.now l s.at t.at bytes
ended {s} {t} {l} {bytes} p h = subst (λ (m : List ℕ). Put s.out.now m s.at t.at bytes) (sym (h (sym p.same))) p.put
