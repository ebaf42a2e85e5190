-- Whether each word says what a walk over the records would give. "Words that disagree don't hang together"
use Rattle.std.specs.Prelude.{ℕ, Bool, true, cond, ◌&&◌, List, eqb, get_or}
use Rattle.kernel.specs.declared.records.Kernel.{Kernel}
use Rattle.kernel.specs.Tables.{used_rows, thread_at}
use Rattle.kernel.specs.Waiters.{is_ready, queued_at}
use Rattle.kernel.specs.Walk.{all_from}
use Rattle.kernel.specs.Words.{word_of, waiting_at}
use Rattle.library.specs.declared.sizes.Sizes.{Sizes}
use Rattle.rules.specs.Limits.{first_bad}
use Rattle.rules.specs.PlaceRules.{in_use}

-- of n threads: "bit i set exactly when thread i is ready"
unfoldable pub ready_word : Kernel → ℕ → ℕ
ready_word k n = word_of (λ i. is_ready (thread_at k i)) (used_rows n)

-- "the threads waiting there"
unfoldable pub waiting_word : Kernel → ℕ → ℕ → ℕ
waiting_word k n p = word_of (λ i. queued_at p (thread_at k i)) (used_rows n)

-- the ready word says who is ready
unfoldable pub ready_fits : Kernel → ℕ → Bool
ready_fits k n = eqb k.words.ready (ready_word k n)

-- a place that is not in use is no part of the tables
abbrev pub word_fits : Sizes → ℕ → ℕ → ℕ → Bool
word_fits z p word walked = cond (in_use z p) (eqb word walked) true

-- the first place whose word is another than the walk's
abbrev pub other_word : List ℕ → List ℕ → Sizes → ℕ
other_word waiting walked z = first_bad (λ p. word_fits z p (get_or waiting p 0) (get_or walked p 0)) 36

-- the word of the place p says who waits there
abbrev pub word_agrees : Kernel → Sizes → ℕ → Bool
word_agrees k z p = word_fits z p (waiting_at k.words p) (waiting_word k z.threads p)

-- the first place whose word does not
abbrev pub bad_word : Kernel → Sizes → ℕ
bad_word k z = first_bad (word_agrees k z) 36

-- each word does so
unfoldable pub waiting_fits : Kernel → Sizes → Bool
waiting_fits k z = all_from (word_agrees k z) 0 36

unfoldable pub words_fit : Kernel → Sizes → Bool
words_fit k z = ready_fits k z.threads && waiting_fits k z
