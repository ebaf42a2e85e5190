-- COMPARING BY THE CODE: what the exported functions are proved to give of the bytes that a host lends.
use Rattle.std.specs.Prelude.{ℕ, ◌*◌, List, length, take}
use Rattle.compare.specs.Told.{Compared}
use Rattle.compare.specs.declared.applying.Applied.{Applied}
use Rattle.compare.specs.Laid.{kept_of}
use Rattle.compare.specs.Compared.{compared, compared_list}
use Rattle.compare.specs.Applied.{applied_list}
use Rattle.compare.specs.Saved.{layout}

-- the answer of a comparison of t and c with u and d over the room l, and the room then
abbrev pub compared_lent : List ℕ → List ℕ → List ℕ → List ℕ → List ℕ → Compared
compared_lent t c u d l = compared (kept_of t c) (kept_of u d) (length l)

abbrev pub list_lent : List ℕ → List ℕ → List ℕ → List ℕ → List ℕ → List ℕ
list_lent t c u d l = compared_list (kept_of t c) (kept_of u d) l

-- its entries, five numbers each
abbrev pub entries_lent : List ℕ → List ℕ → List ℕ → List ℕ → List ℕ → List ℕ
entries_lent t c u d l = take ((compared_lent t c u d l).entries * 5) (list_lent t c u d l)

-- what a list makes of t and c
abbrev pub applied_lent : List ℕ → List ℕ → List ℕ → Applied
applied_lent t c l = applied_list (kept_of t c) l

-- the number at a file's head
abbrev pub file_layout : ℕ
file_layout = layout
