-- Items in the buffer, as the code meets them.
use Rattle.std.proofs.Common.{◌≡◌, ℕ, ◌+◌, ◌<◌, Bool, true, false, cond, List, [], ◌∷◌, ◌++◌, length, get_or, take, ℤ, pos, nat_abs, sym, refl, ap, ◌∙◌, subst, append_assoc, append-nil, add-one, arith, take-suc}
use Rattle.kernel.specs.Walk.{count_of}
use lib.Signed.{lt_z}
use Rattle.text.specs.declared.items.Item.{Item}
use Rattle.buffers.specs.declared.putting.Sheet.{Sheet}
use Rattle.buffers.specs.Put.{Puts}
use Rattle.buffers.specs.Decimal.{decimal}
use Rattle.text.specs.Rows.{signed_text, field, fields}
use Rattle.buffers.proofs.SheetLaws.{on}

-- a signed number: its sign and its size, or its size alone
pub sign_below : {s t : Sheet} (m : ℤ) (size : ℕ) → size ≡ nat_abs m → lt_z m (pos 0) ≡ true → Puts s t (45 ∷ decimal size) → Puts s t (signed_text m)
sign_below {s} {t} m size e b p =
    subst (λ (c : Bool). Puts s t (cond c (45 ∷ decimal (nat_abs m)) (decimal (nat_abs m)))) (sym b) (rw e at p)

fields-append : (a b : List Item) → fields (a ++ b) ≡ fields a ++ fields b
fields-append [] b = refl
fields-append (x ∷ a) b = ap (λ (l : List ℕ). field x ++ l) (fields-append a b) ∙ sym (append_assoc (field x) (fields a) (fields b))

-- one item more
pub fields-more : {s t u : Sheet} (xs : List Item) (i : ℕ) (d : Item) → i < length xs → Puts s t (fields (take i xs)) → Puts t u (field (get_or xs i d))
    → Puts s u (fields (take (i + 1) xs))
fields-more {s} {t} {u} xs i d h p q =
    let last : List Item = get_or xs i d ∷ [] in
    let e : fields (take i xs) ++ field (get_or xs i d) ≡ fields (take (i + 1) xs) =
    ap (λ (y : List ℕ). fields (take i xs) ++ y) (sym (append-nil (field (get_or xs i d)))) ∙ sym (fields-append (take i xs) last)
    ∙ ap fields (sym (take-suc xs i d h)) ∙ ap (λ (n : ℕ). fields (take n xs)) (sym (add-one i)) in
    subst (λ (y : List ℕ). Puts s u y) e (on p q)

-- ---- counting

pub count_none : (f : ℕ → Bool) → 0 ≡ count_of f 0
unfolding count_of
count_none f = refl

pub count-hit : (f : ℕ → Bool) (i n m : ℕ) → n ≡ count_of f i → f i ≡ true → m ≡ n + 1 → m ≡ count_of f (i + 1)
unfolding count_of
count-hit f i n m e h k = k ∙ rw (add-one i, e, h)

pub count-miss : (f : ℕ → Bool) (i n m : ℕ) → n ≡ count_of f i → f i ≡ false → m ≡ n → m ≡ count_of f (i + 1)
unfolding count_of
count-miss f i n m e h k = k ∙ rw (add-one i, e, h) (omega arith)
