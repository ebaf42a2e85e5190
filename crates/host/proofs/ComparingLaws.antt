-- What loading a file comes to, in the form in which code meets it: refused, no room, done.
use Rattle.std.proofs.Common.{arith, Ok, Err}
use Prim.Native.Nat.{ℕ, ◌<◌, ◌≤◌}
use mathlib.Core.Path.{◌≡◌, sym, ap, ◌∙◌}
use mathlib.Core.Bool.{true, false}
use mathlib.Core.List.{List}
use lib.ListN.{length}
use borrow.Author.Tests.{eq-eqb, ne_eqb, lt-ltb, le-ltb}
use Rattle.kernel.specs.declared.refusals.Refusal.{Refusal}
use Rattle.kernel.specs.Told.{number}
use Rattle.kernel.proofs.Cases.{in-or-out}
use Rattle.compare.specs.declared.cells.Kept.{Kept}
use Rattle.compare.specs.Told.{Loaded, told_loaded}
use Rattle.compare.specs.Laid.{tables_length, clock_length, blank_kept, tables_put, clock_put}
use Rattle.compare.specs.Saved.{load_code, loaded}
use Rattle.kernel.proofs.ToldLaws.{number-some}
use Rattle.host.specs.Comparing.{is_short, load_answer, loaded_tables, loaded_clock}

abbrev pub Load : List ℕ → List ℕ → List ℕ → ℕ → List ℕ → List ℕ → Type 0
Load f t c code u d = (code ≡ load_answer f t c) × ((u ≡ loaded_tables f t c) × (d ≡ loaded_clock f t c))

module _ (f t c : List ℕ) (why : Refusal) (e : told_loaded blank_kept (Err why) ≡ loaded f) where
  pub load-refused : Load f t c (number why) t c
  unfolding loaded load_answer loaded_tables loaded_clock
  load-refused =
      let code : number why ≡ load_code f = ap (λ (y : Loaded). y.code) e in
      let n = ne_eqb (load_code f) 0 (λ z. absurd (omega (arith, number-some why, code, z))) in
      (code ∙ rw n, (rw (n, n), rw (n, n)))

module _ (f t c : List ℕ) (a : Kept) (e : told_loaded blank_kept (Ok a) ≡ loaded f) where
  accepted : 0 ≡ load_code f
  unfolding loaded
  accepted = ap (λ (y : Loaded). y.code) e

  no-room : is_short t c ≡ true → Load f t c 16 t c
  unfolding load_answer loaded_tables loaded_clock
  no-room s = let n = eq-eqb (load_code f) 0 (sym accepted) in (rw (n, s), (rw (n, s), rw (n, s)))

  pub load-short : length t < 1572 → Load f t c 16 t c
  load-short h = no-room (rw (lt-ltb (length t) tables_length h))

  pub load-short-clock : length c < 8 → Load f t c 16 t c
  load-short-clock h =
      in-or-out (length t) 1572 load-short
      (λ g. no-room (rw (le-ltb (length t) tables_length g, lt-ltb (length c) clock_length h)))

  pub load-done : 1572 ≤ length t → 8 ≤ length c → (u d : List ℕ) → u ≡ tables_put a t → d ≡ clock_put a c → Load f t c 0 u d
  unfolding load_answer loaded_tables loaded_clock
  load-done h g u d p q =
      let n = eq-eqb (load_code f) 0 (sym accepted) in
      let s : is_short t c ≡ false = rw (le-ltb (length t) tables_length h, le-ltb (length c) clock_length g) in
      (rw (n, s), (rw (n, s) (p ∙ ap (λ (y : Loaded). tables_put y.kept t) e), rw (n, s) (q ∙ ap (λ (y : Loaded). clock_put y.kept c) e)))
