-- What is told of a text under way says whether reading has stopped, and why.
use Prim.Native.Nat.{ℕ}
use native.Mathlib.Omega.{arith}
use mathlib.Core.Path.{◌≡◌, refl, sym, ap, ◌∙◌}
use mathlib.Core.Bool.{cond, true≢false}
use mathlib.Core.List.{[]}
use Rattle.std.specs.Prelude.{eqb, Option, Some, None, Result, Ok, Err, IsErr}
use Rattle.kernel.specs.declared.refusals.Refusal.{Refusal}
use Rattle.kernel.specs.Told.{code_of}
use Rattle.kernel.proofs.ToldLaws.{number-one, number-some}
use Rattle.compare.specs.declared.cells.Kept.{Kept}
use Rattle.compare.specs.Told.{told_compared}
use Rattle.compare.specs.Compared.{compared}
use Rattle.buffers.specs.Put.{rows}
use Rattle.lists.specs.declared.lines.BadLine.{BadLine}
use Rattle.lists.specs.declared.lines.BadLine.TheVariants.{NoEntry, NoField, NoRoom}
use Rattle.lists.specs.declared.lines.Lines as code-lines
use Rattle.lists.specs.declared.texts.Amended as code-amended
use Rattle.lists.specs.Telling.{stop_of, Lines, told_lines, Amended, told_amended, end_of}
use Rattle.lists.specs.Printing.{list_text}
use Rattle.lists.specs.Texts.{told_text}

-- why reading stopped, of a number
abbrev wrong_of : ℕ → Option BadLine
wrong_of n = cond (eqb n 0) None (cond (eqb n 1) (Some NoEntry) (cond (eqb n 2) (Some NoField) (Some NoRoom)))

wrong-of-is : (x : Option BadLine) → wrong_of (stop_of x) ≡ x
wrong-of-is None = refl
wrong-of-is (Some NoEntry) = refl
wrong-of-is (Some NoField) = refl
wrong-of-is (Some NoRoom) = refl

-- two reasons of one number are the same
pub stop-one : {x y : Option BadLine} → stop_of x ≡ stop_of y → x ≡ y
stop-one {x} {y} e = sym (wrong-of-is x) ∙ ap wrong_of e ∙ wrong-of-is y

abbrev lines_with : code-lines.Lines → Option BadLine → code-lines.Lines
lines_with x stopped = record { at = x.at; line = x.line; to = x.to; stopped = stopped }

abbrev lines_of : Lines → code-lines.Lines
lines_of x = record { at = x.at; line = x.line; to = x.to; stopped = wrong_of x.code }

lines-of-is : (x : code-lines.Lines) → lines_of (told_lines x) ≡ x
lines-of-is x = ap (lines_with x) (wrong-of-is x.stopped)

-- two texts under way of which the same is told are the same
pub lines-one : {x y : code-lines.Lines} → told_lines x ≡ told_lines y → x ≡ y
lines-one {x} {y} e = sym (lines-of-is x) ∙ ap lines_of e ∙ lines-of-is y

abbrev amended_with : code-amended.Amended → code-lines.Lines → code-amended.Amended
amended_with x lines = record { kept = x.kept; lines = lines }

abbrev amended_of : Amended → code-amended.Amended
amended_of x = record { kept = x.kept; lines = lines_of x.lines }

amended-of-is : (x : code-amended.Amended) → amended_of (told_amended x) ≡ x
amended-of-is x = ap (amended_with x) (lines-of-is x.lines)

pub amended-one : {x y : code-amended.Amended} → told_amended x ≡ told_amended y → x ≡ y
amended-one {x} {y} e = sym (amended-of-is x) ∙ ap amended_of e ∙ amended-of-is y

-- two comparisons told with the same code and the same place are the same
pub told-one : {x y : Result ℕ Refusal} → code_of x ≡ code_of y → end_of x ≡ end_of y → x ≡ y
told-one {x = Ok a} {y = Ok b} c e = ap Ok e
told-one {x = Ok a} {y = Err b} c e = absurd (omega (arith, number-some b, c))
told-one {x = Err a} {y = Ok b} c e = absurd (omega (arith, number-some a, c))
told-one {x = Err a} {y = Err b} c e = ap Err (number-one c)

-- a refused comparison has no end, and no text
pub no-end : (x : Result ℕ Refusal) → IsErr x → end_of x ≡ 0
no-end (Ok a) e = absurd (true≢false (sym e))
no-end (Err why) e = refl

pub no-text : (a b : Kept) (why : Refusal) → told_compared (Err why) ≡ compared a b 3055 → told_text a b ≡ []
unfolding told_text list_text rows
no-text a b why e = rw (← e)
