-- The test of the words says exactly that they are what a walk over the records gives.
use Rattle.std.specs.Prelude.{◌≡◌, true}
use borrow.Author.Tests.{eqb-true, eq-eqb}
use Rattle.kernel.specs.declared.records.Kernel.{Kernel}
use Rattle.kernel.specs.Words.{waiting_at}
use Rattle.kernel.proofs.Cases.{split, both_true, both-means}
use Rattle.kernel.proofs.WalkLaws.{all-at, all_of}
use Rattle.library.specs.declared.sizes.Sizes.{Sizes}
use Rattle.rules.specs.PlaceRules.{in_use}
use Rattle.rules.specs.WordRules.{ready_word, waiting_word, ready_fits, word_agrees, waiting_fits, words_fit}
use Rattle.promises.specs.Together.Good.{GoodWords}

module _ (k : Kernel) (z : Sizes) where
  pub words-good : words_fit k z ≡ true → GoodWords k z
  unfolding words_fit ready_fits waiting_fits
  words-good e =
      let both = both-means (ready_fits k z.threads) (waiting_fits k z) e in
      record {
        ready = eqb-true k.words.ready (ready_word k z.threads) both.0;
        waiting = λ p h u.
            eqb-true (waiting_at k.words p) (waiting_word k z.threads p) (rw u at (all-at (word_agrees k z) 36 p both.1 h));
      }

  pub good-words : GoodWords k z → words_fit k z ≡ true
  unfolding words_fit ready_fits waiting_fits
  good-words g =
      both_true (eq-eqb k.words.ready (ready_word k z.threads) g.ready)
      (all_of (word_agrees k z) 36
      (λ p h. split (in_use z p) (λ u. rw u (eq-eqb (waiting_at k.words p) (waiting_word k z.threads p) (g.waiting p h u))) (λ u. rw u)))
