-- WHAT CODE HAS FOUND, without an option: how a search for broken rules goes on over numbers, and a run of bytes one byte after the other.
-- The code tells both by options and by parts of slices today; these are the same facts as they stood before.
use Prim.Native.Nat.{ℕ, zero, suc, ◌+◌, ◌≤◌, ◌<◌}
use native.Mathlib.Nat.{mod-eq_of_lt}
use native.Mathlib.Numerals.{add-one}
use native.Mathlib.Omega.{arith}
use mathlib.Core.Path.{◌≡◌, refl, sym, ◌∙◌}
use mathlib.Core.Bool.{Bool, true, cond, ◌&&◌}
use mathlib.Core.List.{List}
use lib.Dec.{eqb, leb}
use lib.ListN.{length, get_or, set}
use borrow.Author.Tests.{leb-true, eqb-true}
use Rattle.std.specs.Prelude.{None}
use Rattle.kernel.specs.declared.clock.Clock.{Clock}
use Rattle.kernel.specs.declared.records.Thread.{Thread}
use Rattle.kernel.specs.Numbers.{nobody}
use Rattle.kernel.proofs.Cases.{split, both-means, contrary}
use Rattle.library.specs.declared.sizes.Sizes.{Sizes}
use Rattle.library.specs.declared.tables.Plant.{Plant}
use Rattle.rules.specs.declared.finding.Broken.{Broken}
use Rattle.rules.specs.Finding.{bad_row, bad_at, or_else}
use Rattle.rules.specs.Options.{told_broken, broken_record}
use Rattle.rules.specs.RowRules.{rows_fit}
use Rattle.rules.proofs.FindingLaws.{nothing, found_to, told_some, told_nothing, told-rows, or-none}
use Rattle.pipes.specs.Carrying.{carried}

-- the rules of a record that document 01 has, none of which is broken where all records fit
unfoldable pub or_row : Broken → Bool → List Thread → Sizes → Broken
or_row found fit threads z =
    cond fit found
    (or_else
    (or_else
    (or_else (or_else (or_else found 7 (bad_row threads z 7)) 8 (bad_row threads z 8)) 9 (bad_row threads z 9))
    10 (bad_row threads z 10))
    11 (bad_row threads z 11))

module _ (p : Plant) (clock : Clock) where
  pub found_none : nothing ≡ found_to p clock 0
  unfolding found_to
  found_none = refl

  -- one rule more: found is what the code had, row what it found of the rule
  pub found-next : (n : ℕ) (found : Broken) (row : ℕ) → found ≡ found_to p clock n → row ≡ bad_at p clock (suc n)
      → or_else found (suc n) row ≡ found_to p clock (suc n)
  unfolding found_to
  found-next n found row e f = rw (e, f)

  -- where no rule is found, no row is
  none-found : (n : ℕ) → eqb (found_to p clock n).rule 0 ≡ true → found_to p clock n ≡ nothing
  unfolding found_to or_else
  none-found zero e = refl
  none-found (suc n) e =
      split (eqb (found_to p clock n).rule 0)
      (λ t. split (eqb (bad_at p clock (suc n)) nobody) (λ q. rw (t, q) (none-found n t)) (λ q. absurd (omega (arith, eqb-true (suc n) 0 (rw (t, q) at e)))))
      (λ t. contrary (rw t at e) t)

  -- where all records fit, the rules of a record find nothing
  told_same : length p.kernel.threads ≡ 16 → true ≡ rows_fit p.kernel p.sizes
      → told_broken (found_to p clock 6) ≡ told_broken (found_to p clock 11)
  unfolding broken_record
  told_same sized f =
      sym (or-none (told_broken (found_to p clock 6))) ∙ told-rows p clock sized (told_broken (found_to p clock 6)) None true refl refl f

  found_same : length p.kernel.threads ≡ 16 → true ≡ rows_fit p.kernel p.sizes → found_to p clock 6 ≡ found_to p clock 11
  found_same sized f =
      split (eqb (found_to p clock 6).rule 0)
      (λ t. none-found 6 t ∙ sym (none-found 11 (rw (told_nothing (found_to p clock 11) (rw t at (told_same sized f))) refl)))
      (λ t. told_some (found_to p clock 11) (found_to p clock 6) (rw t at (told_same sized f)))

  -- the five of them at once: none is broken where all records fit
  pub found_rows : length p.kernel.threads ≡ 16 → (found : Broken) (fit : Bool) → found ≡ found_to p clock 6 → fit ≡ rows_fit p.kernel p.sizes
      → or_row found fit p.kernel.threads p.sizes ≡ found_to p clock 11
  unfolding or_row found_to bad_at
  found_rows sized found fit e f = rw e (split fit (λ t. rw t (found_same sized (rw t at f))) (λ t. rw t))

-- ---- a run of bytes that passes neither end

-- one byte more, where neither ring ends
pub carried-next : (k : ℕ) (s : List ℕ) (q : ℕ) (d : List ℕ) (p : ℕ) (e : List ℕ) → p + k < length d → q + k < length s → e ≡ carried k s q d p
    → set e (p + k) (get_or s (q + k) 0) ≡ carried (k + 1) s q d p
unfolding carried
carried-next k s q d p e hp hq h = rw (add-one k, mod-eq_of_lt hp, mod-eq_of_lt hq, h)

-- e is d with the first j of n bytes carried
pub record OnRun (n j : ℕ) (s : List ℕ) (q : ℕ) (d : List ℕ) (p : ℕ) (e : List ℕ) : Type 0 where
  pub upto : j ≤ n
  pub into : p + n ≤ length d
  pub out_of : q + n ≤ length s
  pub so_far : e ≡ carried j s q d p

module _ (n : ℕ) (s : List ℕ) (q : ℕ) (d : List ℕ) (p : ℕ) where
  pub run-begins : (x y r : Bool) → r ≡ x && y → x ≡ leb (p + n) (length d) → y ≡ leb (q + n) (length s) → r ≡ true → OnRun n 0 s q d p d
  unfolding carried
  run-begins x y r e a b t =
      let t2 = both-means x y (sym e ∙ t) in
      record {
        upto = omega arith;
        into = leb-true (p + n) (length d) (sym a ∙ t2.0);
        out_of = leb-true (q + n) (length s) (sym b ∙ t2.1);
        so_far = refl;
      }

  pub run-goes-on : (j : ℕ) (e : List ℕ) → OnRun n j s q d p e → j < n → OnRun n (j + 1) s q d p (set e (p + j) (get_or s (q + j) 0))
  run-goes-on j e o l =
      record {
        upto = omega arith;
        into = o.into;
        out_of = o.out_of;
        so_far = carried-next j s q d p e (omega (arith, o.into)) (omega (arith, o.out_of)) o.so_far;
      }
