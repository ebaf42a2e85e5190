-- "making the words of 1/13 anew": what a walk over the records gives. Words of places that are not in use are no part of the tables, and
-- stay as they are.
use Rattle.std.specs.Prelude.{ℕ, cond, List, get_or, set}
use Rattle.kernel.specs.declared.records.Thread.{Thread}
use Rattle.kernel.specs.declared.records.Words.{Words}
use Rattle.kernel.specs.Walk.{each}
use Rattle.library.specs.declared.sizes.Sizes.{Sizes}
use Rattle.rules.specs.PlaceRules.{in_use}
use Rattle.rules.specs.Walking.{walked}
use Rattle.compare.specs.declared.cells.Kept.{Kept}
use Rattle.compare.specs.Cells.{with_words}

-- the word of the place p, if it is in use
unfoldable pub word_anew : Sizes → List ℕ → ℕ → Words → Words
word_anew z right p w = cond (in_use z p) (record { ready = w.ready; waiting = set w.waiting p (get_or right p 0); unused = w.unused }) w

unfoldable pub waiting_anew : Sizes → List ℕ → Words → Words
waiting_anew z right w = each 36 (word_anew z right) w

-- the words beside these rows
abbrev pub words_anew : List Thread → Sizes → Words → Words
words_anew threads z w =
    waiting_anew z (walked threads z).waiting (record { ready = (walked threads z).ready; waiting = w.waiting; unused = w.unused })

unfoldable pub renewed : Kept → Kept
renewed a = with_words a (words_anew a.tables.kernel.threads a.tables.sizes a.tables.kernel.words)
