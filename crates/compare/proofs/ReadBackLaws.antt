-- A list that is read back from its numbers is applied as the list that it is: each entry's name tells its field.
use Prim.Native.Nat.{ℕ, zero, suc, ◌+◌, ◌*◌, ◌≤◌, ◌<◌}
use native.Mathlib.Omega.{arith}
use mathlib.Core.Path.{◌≡◌, refl, sym, ap, ◌∙◌}
use mathlib.Core.List.{List, [], ◌∷◌, ◌++◌, append_assoc, append-nil}
use lib.ListN.{length, get_or, length-append, get_or-append}
use lib.Seq.{get_or-append-add}
use borrow.Author.Tests.{lt-ltb}
use Rattle.kernel.proofs.Cases.{split}
use Rattle.compare.specs.declared.cells.Kept.{Kept}
use Rattle.compare.specs.Changes.{Change, differs, change_at, changes, applied}
use Rattle.compare.specs.Order.{fields, reading_of}
use Rattle.compare.specs.Compared.{changed, entry, numbers}
use Rattle.compare.specs.Applied.{stored_in, applied_to, stored_named, applied_numbers}
use Rattle.compare.proofs.ChangesLaws.{applied-append}
use Rattle.compare.proofs.OrderLaws.{name_back}
use Rattle.compare.proofs.ListLaws.{numbers-append}

pub numbers-long : (l : List Change) → length (numbers l) ≡ length l * 5
unfolding numbers
numbers-long [] = refl
numbers-long (e ∷ l) = length-append (entry e) (numbers l) ∙ omega (arith, numbers-long l)

-- a number of the entry behind a list
behind : (l : List Change) (rest : List ℕ) (t : ℕ) → get_or (numbers l ++ rest) (length l * 5 + t) 0 ≡ get_or rest t 0
behind l rest t = rw (← numbers-long l) (get_or-append-add (numbers l) rest t 0)

-- number j of entry i
pub entry_read : (l : List Change) (rest : List ℕ) (i j : ℕ) (d : Change) → i < length l → j < 5
    → get_or (numbers l ++ rest) (i * 5 + j) 0 ≡ get_or (entry (get_or l i d)) j 0
unfolding numbers
entry_read [] rest i j d h s = absurd (omega arith)
entry_read (e ∷ l) rest zero j d h s =
    let on : 0 * 5 + j ≡ j = omega arith in
    rw (append_assoc (entry e) (numbers l) rest, on) (get_or-append (entry e) (numbers l ++ rest) 0 j s)
entry_read (e ∷ l) rest (suc i) j d h s =
    let on : suc i * 5 + j ≡ 5 + (i * 5 + j) = omega arith in
    rw (append_assoc (entry e) (numbers l) rest, on)
    (get_or-append-add (entry e) (numbers l ++ rest) (i * 5 + j) 0 ∙ entry_read l rest i j d (omega arith) s)

-- one entry more is applied last
one_more : (a : Kept) (l : List Change) (e : Change) (rest : List ℕ) → e.at < fields
    → ((more : List ℕ) → applied_numbers a (numbers l ++ more) (length l) ≡ applied_to a l)
    → applied_numbers a (numbers (l ++ (e ∷ [])) ++ rest) (length (l ++ (e ∷ []))) ≡ applied_to a (l ++ (e ∷ []))
unfolding applied_numbers applied_to numbers applied stored_named
one_more a l e rest h so_far =
    let whole : numbers (l ++ (e ∷ [])) ++ rest ≡ numbers l ++ (entry e ++ rest)
    = ap (λ (v : List ℕ). v ++ rest) (numbers-append l (e ∷ [])) ∙ append_assoc (numbers l) (entry e) rest in
    let long : length (l ++ (e ∷ [])) ≡ suc (length l) = length-append l (e ∷ []) ∙ omega arith in
    let first : get_or (numbers l ++ (entry e ++ rest)) (length l * 5) 0 ≡ get_or (entry e ++ rest) 0 0
    = ap (λ (p : ℕ). get_or (numbers l ++ (entry e ++ rest)) p 0) (omega arith) ∙ behind l (entry e ++ rest) 0 in
    rw (
      long,
      whole,
      so_far (entry e ++ rest),
      behind l (entry e ++ rest) 1,
      behind l (entry e ++ rest) 2,
      behind l (entry e ++ rest) 4,
      first,
      name_back e.at h,
      lt-ltb e.at fields h,
    )
    (sym (applied-append stored_in a l (e ∷ [])))

none : (a : Kept) (rest : List ℕ) → applied_numbers a (numbers [] ++ rest) 0 ≡ applied_to a []
unfolding applied_numbers applied_to applied
none a rest = refl

-- the numbers of a comparison, whatever stands behind them
pub read_back : (a b : Kept) (n : ℕ) → n ≤ fields → (rest : List ℕ)
    → applied_numbers a (numbers (changed a b n) ++ rest) (length (changed a b n)) ≡ applied_to a (changed a b n)
unfolding changed changes
read_back a b zero l rest = none a rest
read_back a b (suc n) l rest =
    split (differs (reading_of a) (reading_of b) n)
    (λ e. rw e (one_more a (changes (reading_of a) (reading_of b) n) (change_at (reading_of a) (reading_of b) n) rest (omega arith) (read_back a b n (omega arith))))
    (λ e. rw (e, append-nil (changes (reading_of a) (reading_of b) n)) (read_back a b n (omega arith) rest))
