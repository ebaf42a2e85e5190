-- Settling, turn by turn, in the form in which code meets it: i is the running thread that a callee gave.
use Prim.Native.Nat.{ℕ, zero, suc, ◌+◌, ◌-◌, ◌≤◌}
use native.Mathlib.Omega.{arith}
use native.Mathlib.Numerals.{sub-one}
use mathlib.Core.Path.{◌≡◌, refl, sym, ap, ◌∙◌}
use mathlib.Core.Bool.{Bool, true, false}
use Rattle.kernel.specs.Waiters.{first_ready, running_free}
use Rattle.kernel.proofs.Cases.{split}
use Rattle.library.specs.declared.tables.Plant.{Plant}
use Rattle.library.specs.Settling.{continued, running_in, is_settled, settled}

-- what is settled stays as it is, whatever the budget
settled-stays : (n : ℕ) (p : Plant) → is_settled p ≡ true → settled n p ≡ p
unfolding settled
settled-stays zero p e = refl
settled-stays (suc n) p e = rw (e, settled)

-- b is what a callee found: the running thread of x has no unfinished call, and settling ends
pub settled-quiet : (n : ℕ) (p x : Plant) (b : Bool) → x ≡ p → b ≡ running_free x.kernel → b ≡ true → x ≡ settled n p
settled-quiet n p x b e f t = e ∙ sym (settled-stays n p (rw e at (sym f ∙ t)))

-- or it has one: its call is continued, and settling goes on with one less
pub settled_on : (n : ℕ) (p : Plant) (b : Bool) (i : ℕ) → b ≡ running_free p.kernel → b ≡ false → i ≡ first_ready p.kernel
    → (n ≡ 0 → ⊥) → settled (n - 1) (continued p i) ≡ settled n p
unfolding settled
settled_on zero p b i f t at g = absurd (g refl)
settled_on (suc n) p b i f t at g = rw (sym f ∙ t, settled, sub-one (suc n), at)

-- a budget spent in two parts: after the first m continuations settling goes on with the other n
pub settled-more : (m n : ℕ) (p : Plant) → settled (m + n) p ≡ settled n (settled m p)
unfolding settled
settled-more zero n p = let none : 0 + n ≡ n = omega arith in ap (λ (k : ℕ). settled k p) none
settled-more (suc m) n p =
    let more : suc m + n ≡ suc (m + n) = omega arith in
    split (is_settled p)
    (λ e. ap (λ (k : ℕ). settled k p) more ∙ rw (e, settled) (sym (settled-stays n p e)))
    (λ e. ap (λ (k : ℕ). settled k p) more ∙ rw (e, settled) (settled-more m n (continued p (running_in p))))

-- .. as the code spends it: x is what was continued, y what the first part left
pub settled-halves : (m n : ℕ) (p x y : Plant) → m ≤ n → x ≡ p → y ≡ settled m x → settled (n - m) y ≡ settled n p
settled-halves m n p x y h e f =
    let whole : m + (n - m) ≡ n = omega arith in
    rw (f, e, ← settled-more m (n - m) p, whole)
