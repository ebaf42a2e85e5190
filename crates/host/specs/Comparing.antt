-- What a comparison, a list and a file of saved tables come to for a host, which lends tables and clocks as the bytes in which they lie.
use Rattle.std.specs.Prelude.{ℕ, Bool, cond, ◌||◌, List, eqb, ltb, length}
use Rattle.compare.specs.Told.{Compared}
use Rattle.compare.specs.declared.applying.Applied.{Applied}
use Rattle.compare.specs.Laid.{tables_length, clock_length, kept_of, tables_put, clock_put}
use Rattle.compare.specs.Compared.{compared, compared_list}
use Rattle.compare.specs.Applied.{applied_list}
use Rattle.compare.specs.Saved.{load_code, loaded}

-- ---- nil_compare_bytes

abbrev pub compared_bytes : List ℕ → List ℕ → List ℕ → List ℕ → ℕ → Compared
compared_bytes t c u d room = compared (kept_of t c) (kept_of u d) room

abbrev pub list_bytes : List ℕ → List ℕ → List ℕ → List ℕ → List ℕ → List ℕ
list_bytes t c u d l = compared_list (kept_of t c) (kept_of u d) l

-- the number of entries goes where the host asked for it, if the comparison was not refused
abbrev pub entries_kept : Compared → ℕ → ℕ
entries_kept x n = cond (eqb x.code 0) x.entries n

-- ---- nil_apply_bytes

abbrev pub applied_bytes : List ℕ → List ℕ → List ℕ → Applied
applied_bytes t c l = applied_list (kept_of t c) l

-- ---- nil_load_bytes

-- a target too short for what is read
abbrev pub is_short : List ℕ → List ℕ → Bool
is_short t c = ltb (length t) tables_length || ltb (length c) clock_length

unfoldable pub load_answer : List ℕ → List ℕ → List ℕ → ℕ
load_answer f t c = cond (eqb (load_code f) 0) (cond (is_short t c) 16 0) (load_code f)

unfoldable pub loaded_tables : List ℕ → List ℕ → List ℕ → List ℕ
loaded_tables f t c = cond (eqb (load_answer f t c) 0) (tables_put (loaded f).kept t) t

unfoldable pub loaded_clock : List ℕ → List ℕ → List ℕ → List ℕ
loaded_clock f t c = cond (eqb (load_answer f t c) 0) (clock_put (loaded f).kept c) c
