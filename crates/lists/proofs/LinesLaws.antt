-- Lines one after the other, in the form in which the code meets them.
use Prim.Native.Nat.{ℕ, suc, ◌+◌, ◌≤◌}
use native.Mathlib.Omega.{arith}
use native.Mathlib.Numerals.{add-one}
use mathlib.Core.Path.{◌≡◌, refl, ap, ◌∙◌}
use mathlib.Core.Bool.{Bool, true, false}
use mathlib.Core.List.{List}
use lib.Dec.{eqb}
use lib.ListN.{length}
use Rattle.kernel.specs.Walk.{each}
use Rattle.kernel.proofs.Cases.{split}
use Rattle.compare.specs.Order.{fields, called, place_named}
use Rattle.lists.specs.declared.printing.Entry.{Entry}
use Rattle.lists.specs.declared.lines.Lines.{Lines}
use Rattle.lists.specs.declared.lines.Turn.{Turn}
use Rattle.lists.specs.Telling as told
use Rattle.lists.specs.Telling.{told_lines, told_turn}
use Rattle.lists.specs.Lines.{judged, lines, line_at, kept_line, Reading, turned}

-- what is not refused has room
pub judged-room : (fine : Bool) (x : Entry) (room : Bool) → judged fine x room ≡ 0 → room ≡ true
unfolding judged
judged-room true x true e = refl
judged-room true x false e =
    split (eqb (place_named (called x.object x.number x.field)) fields)
    (λ t. absurd (omega (arith, rw t at e)))
    (λ t. absurd (omega (arith, rw t at e)))
judged-room false x room e = absurd (omega (arith, e))

-- what stands behind i lines
abbrev pub behind : List ℕ → List ℕ → ℕ → Reading
behind s l i = each i (λ j r. turned s r) (record { lines = lines 0 1 0 0; list = l })

-- the code's numbers and its list behind i lines
pub record Under (s l : List ℕ) (i : ℕ) (x : Lines) (m : List ℕ) : Type 0 where
  pub upto : i ≤ length s
  pub lines : told_lines x ≡ (behind s l i).lines
  pub list : m ≡ (behind s l i).list

pub under_more : (s l : List ℕ) (i : ℕ) (x : Lines) (m : List ℕ) (t : Turn) (n : List ℕ) → Under s l i x m → suc i ≤ length s
    → told_turn t ≡ line_at s (told_lines x) (length m) → n ≡ kept_line m x.to (told_turn t) → Under s l (i + 1) t.next n
unfolding turned
under_more s l i x m t n u h e g =
    record {
      upto = omega arith;
      lines = rw (add-one i) (ap (λ (y : told.Turn). y.next) e ∙ rw (u.lines, u.list));
      list = rw (add-one i) (g ∙ rw (e, u.lines, u.list, ap (λ (y : told.Lines). y.to) u.lines));
    }
