-- The references' rule in its two forms: the paper's "exactly if", and the equation of two tests.
use Rattle.std.specs.Prelude.{ℕ, ◌<◌, ◌≡◌, ◌≢◌, eqb}
use Rattle.std.proofs.Common.{sym, ◌∙◌, inl, inr, eqb-true, eq-eqb}
use Rattle.std.proofs.lemmas.Bool.{eqb-false}
use Rattle.kernel.specs.declared.records.Kernel.{Kernel}
use Rattle.kernel.specs.Numbers.{nobody}
use Rattle.kernel.specs.Tables.{thread_at, holder_at}
use Rattle.kernel.proofs.Cases.{split, same_or}
use Rattle.kernel.proofs.MovesLaws.{suspended_at}
use Rattle.library.specs.declared.sizes.Sizes.{Sizes}
use Rattle.promises.specs.Together.Good.{GoodReferences}
use Rattle.promises.specs.Together.PlaceTests.{suspended-of, of-suspended}
use Rattle.promises.specs.Kept.Holds.{Holds}

module _ (k : Kernel) (z : Sizes) where
  -- references that are good hold rightly, each by itself
  pub references-hold : GoodReferences k z → (r : ℕ) → r < z.references → Holds z.threads r k
  references-hold g r h = record { holds = at; within = in-range }
    where
      at : (i : ℕ) → i < z.threads → eqb (holder_at k r) i ≡ suspended_at r (thread_at k i)
      at i l =
          split (eqb (holder_at k r) i)
          (λ e. e ∙ sym (of-suspended r (thread_at k i) ((g.holds r h i l).0 (eqb-true (holder_at k r) i e))))
          (λ e.
          split (suspended_at r (thread_at k i))
          (λ s. absurd (eqb-false (holder_at k r) i e ((g.holds r h i l).1 (suspended-of r (thread_at k i) s))))
          (λ s. e ∙ sym s))

      in-range : holder_at k r ≢ nobody → holder_at k r < z.threads
      in-range d = elim (g.holder r h) [ inl e ↦ absurd (d e) | inr l ↦ l ]

  -- and references that hold rightly are good
  pub holds-references : ((r : ℕ) → r < z.references → Holds z.threads r k) → GoodReferences k z
  holds-references g =
      record {
        holder = λ r h. same_or (holder_at k r) nobody inl (λ d. inr ((g r h).within d));
        holds = λ r h i l. (
          λ e. suspended-of r (thread_at k i) (sym ((g r h).holds i l) ∙ eq-eqb (holder_at k r) i e),
          λ s. eqb-true (holder_at k r) i ((g r h).holds i l ∙ of-suspended r (thread_at k i) s),
        );
      }
