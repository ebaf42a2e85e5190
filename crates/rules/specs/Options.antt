-- How what a search finds is told: the meanings have a number for none, the code an option.
use Rattle.std.specs.Prelude.{ℕ, Bool, cond, eqb, List, Option, None, Some}
use Rattle.std.specs.Option.{option_or}
use Rattle.kernel.specs.declared.records.Thread.{Thread}
use Rattle.kernel.specs.Numbers.{nobody}
use Rattle.library.specs.declared.sizes.Sizes.{Sizes}
use Rattle.rules.specs.declared.finding.Broken.{Broken}
use Rattle.rules.specs.Finding.{bad_row}

-- a row, or none for nobody
abbrev pub told_row : ℕ → Option ℕ
told_row row = cond (eqb row nobody) None (Some row)

-- a rule and the row that breaks it, or none for rule 0
abbrev pub told_broken : Broken → Option Broken
told_broken b = cond (eqb b.rule 0) None (Some b)

-- a rule, if a row breaks it
abbrev pub broken_by : ℕ → Option ℕ → Option Broken
broken_by rule None = None
broken_by rule (Some row) = Some (record { rule = rule; row = row })

-- the first of the rules of a record that document 01 has, none of which is broken where all records fit
unfoldable pub broken_record : Bool → List Thread → Sizes → Option Broken
broken_record fit threads z =
    cond fit None
    (option_or
    (option_or
    (option_or
    (option_or (broken_by 7 (told_row (bad_row threads z 7))) (broken_by 8 (told_row (bad_row threads z 8))))
    (broken_by 9 (told_row (bad_row threads z 9))))
    (broken_by 10 (told_row (bad_row threads z 10))))
    (broken_by 11 (told_row (bad_row threads z 11))))
