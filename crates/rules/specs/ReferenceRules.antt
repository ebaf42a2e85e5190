-- Whether each reference holds the thread that is suspended on it: "Reference r holds i exactly if i is suspended on r".
use Rattle.std.specs.Prelude.{ℕ, Bool, cond, not, ◌&&◌, ◌||◌, List, eqb, ltb, get_or}
use Rattle.kernel.specs.declared.records.Thread.{Thread}
use Rattle.kernel.specs.declared.records.Kernel.{Kernel}
use Rattle.kernel.specs.Numbers.{nobody, suspended}
use Rattle.kernel.specs.Tables.{used_rows, thread_at, holder_in, holder_at}
use Rattle.kernel.specs.Walk.{all_from}
use Rattle.kernel.specs.Words.{bit_value}
use Rattle.library.specs.declared.sizes.Sizes.{Sizes}
use Rattle.rules.specs.Limits.{used_of, first_bad}

-- "i is suspended on r"
abbrev pub suspended_at : ℕ → Thread → Bool
suspended_at r t = eqb t.state suspended && eqb t.place r

-- the reference on which a thread is suspended, or none
abbrev pub reference_of : Thread → ℕ
reference_of t = cond (eqb t.state suspended) t.place 8

-- "holds i exactly if i is suspended on r": two tests that agree
abbrev pub holds_rightly : ℕ → ℕ → ℕ → Thread → Bool
holds_rightly holder r i t = cond (eqb holder i) (suspended_at r t) (not (suspended_at r t))

-- a reference is empty, or holds one of n threads
abbrev pub is_holder : ℕ → ℕ → Bool
is_holder holder n = eqb holder nobody || ltb holder n

-- thread i agrees with the holder of reference r
abbrev pub thread_agrees : Kernel → ℕ → ℕ → ℕ → Bool
thread_agrees k holder r i = holds_rightly holder r i (thread_at k i)

-- reference r holds nobody but the one of n threads that is suspended on it
unfoldable pub holder_fits : Kernel → ℕ → ℕ → Bool
holder_fits k n r = is_holder (holder_at k r) n && all_from (thread_agrees k (holder_at k r) r) 0 (used_rows n)

-- the first reference that does not
abbrev pub bad_reference : Kernel → Sizes → ℕ
bad_reference k z = first_bad (holder_fits k z.threads) (used_of 8 z.references)

-- the same by the words of a walk: who is suspended on a reference is its holder alone
abbrev pub holder_named : ℕ → ℕ → ℕ → Bool
holder_named holder word n = is_holder holder n && eqb word (bit_value holder)

-- the first reference whose holder is not
abbrev pub bad_holder : List ℕ → List ℕ → Sizes → ℕ
bad_holder references suspended z =
    first_bad (λ r. holder_named (holder_in references r) (get_or suspended r 0) z.threads) (used_of 8 z.references)

-- each reference does so
unfoldable pub references_fit : Kernel → Sizes → Bool
references_fit k z = all_from (holder_fits k z.threads) 0 (used_of 8 z.references)
