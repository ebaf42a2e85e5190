-- Past a table's end a read gives the default and a write changes nothing.
use Rattle.std.proofs.Common.{◌≡◌, ℕ, zero, suc, ◌<◌, ◌≤◌, List, [], ◌∷◌, length, get_or, set, sym, refl, subst, arith}
use lib.ListN.{get_or-eq_default}
use lib.Seq.{set_out}

module _ {A : Type 0} (l : List A) (n i : ℕ) (sized : length l ≡ n) (past : n ≤ i) where
  beyond : length l ≤ i
  beyond = subst (λ (m : ℕ). m ≤ i) (sym sized) past

  pub write-past : (v : A) → l ≡ set l i v
  write-past v = sym (set_out l i v beyond)

  pub read_past : (d : A) → d ≡ get_or l i d
  read_past d = sym (get_or-eq_default l d beyond)

-- within a table the default does not show
pub read-within : {A : Type 0} (l : List A) (n i : ℕ) (d e : A) → length l ≡ n → i < n → get_or l i d ≡ get_or l i e
read-within [] n i d e s h = absurd (omega arith)
read-within (x ∷ l) n zero d e s h = refl
read-within (x ∷ l) n (suc i) d e s h = read-within l (length l) i d e refl (omega arith)
