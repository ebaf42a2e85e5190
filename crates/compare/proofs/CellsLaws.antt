-- A store into what is kept shows at its own place and at no other, for every place: each part of the tables by its own law, and no
-- part shows at the places of another.
use Prim.Native.Nat.{ℕ, ◌-◌, ◌/◌, ◌%◌, ◌≤◌, ◌<◌}
use native.Mathlib.Nat.{mod-eq_of_lt}
use native.Mathlib.Omega.{arith}
use mathlib.Core.Path.{◌≡◌, refl, sym, ap, ◌∙◌, subst⁻¹}
use mathlib.Core.Logic.{◌≢◌}
use mathlib.Core.Bool.{true, ◌||◌}
use lib.Dec.{ltb, leb}
use mathlib.Core.List.{List}
use lib.IntN.{ℤ, pos}
use lib.ListN.{length, set, length-set}
use lib.Seq.{get_or-set_same, get_or-set_other}
use mir.Syntax.{w32}
use mir.Val.{to_z, of_z}
use borrow.Author.Tests.{lt-ltb, le-ltb, lt-leb}
use Rattle.kernel.proofs.Cases.{in-or-out, same_or, contrary}
use Rattle.kernel.specs.declared.clock.Clock.{Clock}
use Rattle.kernel.specs.declared.records.Thread.{Thread}
use Rattle.kernel.specs.declared.records.Words.{Words}
use Rattle.kernel.specs.Numbers.{nobody}
use Rattle.kernel.specs.Records.{blank}
use Rattle.kernel.specs.Tables.{row_in, counter_in, holder_in}
use Rattle.library.specs.declared.sizes.Sizes.{Sizes}
use Rattle.library.specs.declared.tables.Mailbox.{Mailbox}
use Rattle.library.specs.declared.tables.Pool.{Pool}
use Rattle.library.specs.Tables.{blank_mailbox, blank_pool, mailbox_in, pool_in}
use Rattle.compare.specs.declared.cells.Kept.{Kept}
use Rattle.compare.specs.Cells.{counters_at, references_at, words_at, steps_at, mailboxes_at, pools_at, sizes_at, clock_at, cell_count, byte, thread_cell, thread_with, box_cell, box_with, pool_cell, pool_with, word_cell, word_with, size_cell, size_with, clock_cell, clock_with, with_threads, with_counters, with_references, with_words, with_steps, with_mailboxes, with_pools, with_sizes, with_clock, cell_at, stored}
use Rattle.compare.specs.Held.{halves, bytes, words, thread_limit, box_limit, pool_limit, limit_of, Signed, HeldThread, HeldBox, HeldPool, Held}
use Rattle.compare.proofs.RowLaws.{
  bits_back,
  bits-signed,
  thread-own,
  thread-other,
  thread-held,
  box-own,
  box-other,
  box-held,
  pool-own,
  pool-other,
  pool-held,
  word-own,
  word-other,
  word_held,
  size-own,
  size-other,
  size-held,
  clock-own,
  clock-other,
  grid-own,
  grid-other,
  grid-long,
  grid-good,
}

-- ---- what is read at a place, what a store makes, and how wide it is, part by part

module _ (i : ℕ) where
  pub read-threads : (a : Kept) → i < counters_at → cell_at a i ≡ thread_cell (row_in a.tables.kernel.threads (i / 14)) (i % 14)
  unfolding cell_at
  read-threads a h = rw (lt-ltb i counters_at h)

  pub store-threads : (a : Kept) (v : ℕ) → i < counters_at → stored a i v ≡ with_threads a (set a.tables.kernel.threads (i / 14) (thread_with (row_in a.tables.kernel.threads (i / 14)) (i % 14) v))
  unfolding stored
  store-threads a v h = rw (lt-ltb i counters_at h)

  wide-threads : i < counters_at → limit_of i ≡ thread_limit (i % 14)
  unfolding limit_of
  wide-threads h = rw (lt-ltb i counters_at h)

  pub read-counters : (a : Kept) → counters_at ≤ i → i < references_at → cell_at a i ≡ of_z w32 (counter_in a.tables.kernel.counters (i - counters_at))
  unfolding cell_at
  read-counters a g h = rw (le-ltb i counters_at (omega arith), lt-ltb i references_at h)

  pub store-counters : (a : Kept) (v : ℕ) → counters_at ≤ i → i < references_at → stored a i v ≡ with_counters a (set a.tables.kernel.counters (i - counters_at) (to_z w32 v))
  unfolding stored
  store-counters a v g h = rw (le-ltb i counters_at (omega arith), lt-ltb i references_at h)

  wide-counters : counters_at ≤ i → i < references_at → limit_of i ≡ words
  unfolding limit_of
  wide-counters g h = rw (le-ltb i counters_at (omega arith), lt-ltb i references_at h)

  pub read-references : (a : Kept) → references_at ≤ i → i < words_at → cell_at a i ≡ holder_in a.tables.kernel.references (i - references_at)
  unfolding cell_at
  read-references a g h = rw (le-ltb i counters_at (omega arith), le-ltb i references_at (omega arith), lt-ltb i words_at h)

  pub store-references : (a : Kept) (v : ℕ) → references_at ≤ i → i < words_at → stored a i v ≡ with_references a (set a.tables.kernel.references (i - references_at) (byte v))
  unfolding stored
  store-references a v g h = rw (le-ltb i counters_at (omega arith), le-ltb i references_at (omega arith), lt-ltb i words_at h)

  wide-references : references_at ≤ i → i < words_at → limit_of i ≡ bytes
  unfolding limit_of
  wide-references g h = rw (le-ltb i counters_at (omega arith), le-ltb i references_at (omega arith), lt-ltb i words_at h)

  pub read-words : (a : Kept) → words_at ≤ i → i < steps_at → cell_at a i ≡ word_cell a.tables.kernel.words (i - words_at)
  unfolding cell_at
  read-words a g h = rw (le-ltb i counters_at (omega arith), le-ltb i references_at (omega arith), le-ltb i words_at (omega arith), lt-ltb i steps_at h)

  pub store_words : (a : Kept) (v : ℕ) → words_at ≤ i → i < steps_at → stored a i v ≡ with_words a (word_with a.tables.kernel.words (i - words_at) v)
  unfolding stored
  store_words a v g h = rw (le-ltb i counters_at (omega arith), le-ltb i references_at (omega arith), le-ltb i words_at (omega arith), lt-ltb i steps_at h)

  pub wide-words : words_at ≤ i → i < steps_at → limit_of i ≡ halves
  unfolding limit_of
  wide-words g h = rw (le-ltb i counters_at (omega arith), le-ltb i references_at (omega arith), le-ltb i words_at (omega arith), lt-ltb i steps_at h)

  pub read-steps : (a : Kept) → steps_at ≤ i → i < mailboxes_at → cell_at a i ≡ a.tables.kernel.steps
  unfolding cell_at
  read-steps a g h = rw (le-ltb i counters_at (omega arith), le-ltb i references_at (omega arith), le-ltb i words_at (omega arith), le-ltb i steps_at (omega arith), lt-ltb i mailboxes_at h)

  pub store-steps : (a : Kept) (v : ℕ) → steps_at ≤ i → i < mailboxes_at → stored a i v ≡ with_steps a (v)
  unfolding stored
  store-steps a v g h = rw (le-ltb i counters_at (omega arith), le-ltb i references_at (omega arith), le-ltb i words_at (omega arith), le-ltb i steps_at (omega arith), lt-ltb i mailboxes_at h)

  wide-steps : steps_at ≤ i → i < mailboxes_at → limit_of i ≡ words
  unfolding limit_of
  wide-steps g h = rw (le-ltb i counters_at (omega arith), le-ltb i references_at (omega arith), le-ltb i words_at (omega arith), le-ltb i steps_at (omega arith), lt-ltb i mailboxes_at h)

  pub read-boxes : (a : Kept) → mailboxes_at ≤ i → i < pools_at → cell_at a i ≡ box_cell (mailbox_in a.tables.mailboxes ((i - mailboxes_at) / 20)) ((i - mailboxes_at) % 20)
  unfolding cell_at
  read-boxes a g h = rw (le-ltb i counters_at (omega arith), le-ltb i references_at (omega arith), le-ltb i words_at (omega arith), le-ltb i steps_at (omega arith), le-ltb i mailboxes_at (omega arith), lt-ltb i pools_at h)

  pub store-boxes : (a : Kept) (v : ℕ) → mailboxes_at ≤ i → i < pools_at → stored a i v ≡ with_mailboxes a (set a.tables.mailboxes ((i - mailboxes_at) / 20) (box_with (mailbox_in a.tables.mailboxes ((i - mailboxes_at) / 20)) ((i - mailboxes_at) % 20) v))
  unfolding stored
  store-boxes a v g h = rw (le-ltb i counters_at (omega arith), le-ltb i references_at (omega arith), le-ltb i words_at (omega arith), le-ltb i steps_at (omega arith), le-ltb i mailboxes_at (omega arith), lt-ltb i pools_at h)

  wide-boxes : mailboxes_at ≤ i → i < pools_at → limit_of i ≡ box_limit ((i - mailboxes_at) % 20)
  unfolding limit_of
  wide-boxes g h = rw (le-ltb i counters_at (omega arith), le-ltb i references_at (omega arith), le-ltb i words_at (omega arith), le-ltb i steps_at (omega arith), le-ltb i mailboxes_at (omega arith), lt-ltb i pools_at h)

  pub read-pools : (a : Kept) → pools_at ≤ i → i < sizes_at → cell_at a i ≡ pool_cell (pool_in a.tables.pools ((i - pools_at) / 65)) ((i - pools_at) % 65)
  unfolding cell_at
  read-pools a g h = rw (le-ltb i counters_at (omega arith), le-ltb i references_at (omega arith), le-ltb i words_at (omega arith), le-ltb i steps_at (omega arith), le-ltb i mailboxes_at (omega arith), le-ltb i pools_at (omega arith), lt-ltb i sizes_at h)

  pub store-pools : (a : Kept) (v : ℕ) → pools_at ≤ i → i < sizes_at → stored a i v ≡ with_pools a (set a.tables.pools ((i - pools_at) / 65) (pool_with (pool_in a.tables.pools ((i - pools_at) / 65)) ((i - pools_at) % 65) v))
  unfolding stored
  store-pools a v g h = rw (le-ltb i counters_at (omega arith), le-ltb i references_at (omega arith), le-ltb i words_at (omega arith), le-ltb i steps_at (omega arith), le-ltb i mailboxes_at (omega arith), le-ltb i pools_at (omega arith), lt-ltb i sizes_at h)

  wide-pools : pools_at ≤ i → i < sizes_at → limit_of i ≡ pool_limit ((i - pools_at) % 65)
  unfolding limit_of
  wide-pools g h = rw (le-ltb i counters_at (omega arith), le-ltb i references_at (omega arith), le-ltb i words_at (omega arith), le-ltb i steps_at (omega arith), le-ltb i mailboxes_at (omega arith), le-ltb i pools_at (omega arith), lt-ltb i sizes_at h)

  pub read-sizes : (a : Kept) → sizes_at ≤ i → i < clock_at → cell_at a i ≡ size_cell a.tables.sizes (i - sizes_at)
  unfolding cell_at
  read-sizes a g h = rw (le-ltb i counters_at (omega arith), le-ltb i references_at (omega arith), le-ltb i words_at (omega arith), le-ltb i steps_at (omega arith), le-ltb i mailboxes_at (omega arith), le-ltb i pools_at (omega arith), le-ltb i sizes_at (omega arith), lt-ltb i clock_at h)

  pub store-sizes : (a : Kept) (v : ℕ) → sizes_at ≤ i → i < clock_at → stored a i v ≡ with_sizes a (size_with a.tables.sizes (i - sizes_at) v)
  unfolding stored
  store-sizes a v g h = rw (le-ltb i counters_at (omega arith), le-ltb i references_at (omega arith), le-ltb i words_at (omega arith), le-ltb i steps_at (omega arith), le-ltb i mailboxes_at (omega arith), le-ltb i pools_at (omega arith), le-ltb i sizes_at (omega arith), lt-ltb i clock_at h)

  wide-sizes : sizes_at ≤ i → i < clock_at → limit_of i ≡ halves
  unfolding limit_of
  wide-sizes g h = rw (le-ltb i counters_at (omega arith), le-ltb i references_at (omega arith), le-ltb i words_at (omega arith), le-ltb i steps_at (omega arith), le-ltb i mailboxes_at (omega arith), le-ltb i pools_at (omega arith), le-ltb i sizes_at (omega arith), lt-ltb i clock_at h)

  pub read-clock : (a : Kept) → clock_at ≤ i → cell_at a i ≡ clock_cell a.clock (i - clock_at)
  unfolding cell_at
  read-clock a g = rw (le-ltb i counters_at (omega arith), le-ltb i references_at (omega arith), le-ltb i words_at (omega arith), le-ltb i steps_at (omega arith), le-ltb i mailboxes_at (omega arith), le-ltb i pools_at (omega arith), le-ltb i sizes_at (omega arith), le-ltb i clock_at (omega arith))

  pub store-clock : (a : Kept) (v : ℕ) → clock_at ≤ i → stored a i v ≡ with_clock a (clock_with a.clock (i - clock_at) v)
  unfolding stored
  store-clock a v g = rw (le-ltb i counters_at (omega arith), le-ltb i references_at (omega arith), le-ltb i words_at (omega arith), le-ltb i steps_at (omega arith), le-ltb i mailboxes_at (omega arith), le-ltb i pools_at (omega arith), le-ltb i sizes_at (omega arith), le-ltb i clock_at (omega arith))

  pub wide-clock : clock_at ≤ i → limit_of i ≡ words
  unfolding limit_of
  wide-clock g = rw (le-ltb i counters_at (omega arith), le-ltb i references_at (omega arith), le-ltb i words_at (omega arith), le-ltb i steps_at (omega arith), le-ltb i mailboxes_at (omega arith), le-ltb i pools_at (omega arith), le-ltb i sizes_at (omega arith), le-ltb i clock_at (omega arith))

-- ---- a part shows at no place of another

module _ (a : Kept) (j : ℕ) where
  after-threads : (x : List Thread) → counters_at ≤ j → cell_at (with_threads a x) j ≡ cell_at a j
  unfolding cell_at
  after-threads x h = rw (le-ltb j counters_at h)

  before-counters : (x : List ℤ) → j < counters_at → cell_at (with_counters a x) j ≡ cell_at a j
  unfolding cell_at
  before-counters x h = rw (lt-ltb j counters_at h)

  after-counters : (x : List ℤ) → references_at ≤ j → cell_at (with_counters a x) j ≡ cell_at a j
  unfolding cell_at
  after-counters x h = rw (le-ltb j references_at h)

  before-references : (x : List ℕ) → j < references_at → cell_at (with_references a x) j ≡ cell_at a j
  unfolding cell_at
  before-references x h = rw (lt-ltb j references_at h)

  after-references : (x : List ℕ) → words_at ≤ j → cell_at (with_references a x) j ≡ cell_at a j
  unfolding cell_at
  after-references x h = rw (le-ltb j words_at h)

  pub before-words : (x : Words) → j < words_at → cell_at (with_words a x) j ≡ cell_at a j
  unfolding cell_at
  before-words x h = rw (lt-ltb j words_at h)

  pub after-words : (x : Words) → steps_at ≤ j → cell_at (with_words a x) j ≡ cell_at a j
  unfolding cell_at
  after-words x h = rw (le-ltb j steps_at h)

  before-steps : (x : ℕ) → j < steps_at → cell_at (with_steps a x) j ≡ cell_at a j
  unfolding cell_at
  before-steps x h = rw (lt-ltb j steps_at h)

  after-steps : (x : ℕ) → mailboxes_at ≤ j → cell_at (with_steps a x) j ≡ cell_at a j
  unfolding cell_at
  after-steps x h = rw (le-ltb j mailboxes_at h)

  before-boxes : (x : List Mailbox) → j < mailboxes_at → cell_at (with_mailboxes a x) j ≡ cell_at a j
  unfolding cell_at
  before-boxes x h = rw (lt-ltb j mailboxes_at h)

  after-boxes : (x : List Mailbox) → pools_at ≤ j → cell_at (with_mailboxes a x) j ≡ cell_at a j
  unfolding cell_at
  after-boxes x h = rw (le-ltb j pools_at h)

  before-pools : (x : List Pool) → j < pools_at → cell_at (with_pools a x) j ≡ cell_at a j
  unfolding cell_at
  before-pools x h = rw (lt-ltb j pools_at h)

  after-pools : (x : List Pool) → sizes_at ≤ j → cell_at (with_pools a x) j ≡ cell_at a j
  unfolding cell_at
  after-pools x h = rw (le-ltb j sizes_at h)

  before-sizes : (x : Sizes) → j < sizes_at → cell_at (with_sizes a x) j ≡ cell_at a j
  unfolding cell_at
  before-sizes x h = rw (lt-ltb j sizes_at h)

  after-sizes : (x : Sizes) → clock_at ≤ j → cell_at (with_sizes a x) j ≡ cell_at a j
  unfolding cell_at
  after-sizes x h = rw (le-ltb j clock_at h)

  before-clock : (x : Clock) → j < clock_at → cell_at (with_clock a x) j ≡ cell_at a j
  unfolding cell_at
  before-clock x h = rw (lt-ltb j clock_at h)

-- one counter is set
signed-set : (l : List ℤ) (k v : ℕ) → v < words → length l ≡ 36 → ((p : ℕ) → p < 36 → Signed (counter_in l p)) → (p : ℕ) → p < 36
    → Signed (counter_in (set l k (to_z w32 v)) p)
signed-set l k v s long h p b =
    same_or p k
    (λ e. rw (e, get_or-set_same l k (to_z w32 v) (pos 0) (omega arith)) (bits-signed v s))
    (λ e. rw (get_or-set_other l k p (to_z w32 v) (pos 0) e) (h p b))

-- ---- each part's own places

module _ (a : Kept) (held : Held a) (i v : ℕ) (fits : v < limit_of i) where
  own-threads : i < counters_at → cell_at (stored a i v) i ≡ v
  own-threads h =
      let s : v < thread_limit (i % 14) = rw (wide-threads i h) at fits in
      ap (λ (x : Kept). cell_at x i) (store-threads i a v h) ∙ read-threads i (with_threads a (set a.tables.kernel.threads (i / 14) (thread_with (row_in a.tables.kernel.threads (i / 14)) (i % 14) v))) h
      ∙ grid-own thread_cell thread_with blank 14 16 (omega arith) thread_limit HeldThread thread-own thread-other thread-held a.tables.kernel.threads held.threads held.thread-rows i v (omega arith) s

  others-threads : i < counters_at → (j : ℕ) → j < cell_count → j ≢ i → cell_at (stored a i v) j ≡ cell_at a j
  others-threads h j b d =
      let s : v < thread_limit (i % 14) = rw (wide-threads i h) at fits in
      let x = set a.tables.kernel.threads (i / 14) (thread_with (row_in a.tables.kernel.threads (i / 14)) (i % 14) v) in
      ap (λ (x : Kept). cell_at x j) (store-threads i a v h) ∙
      in-or-out j counters_at (λ m. (read-threads j (with_threads a x) m ∙ grid-other thread_cell thread_with blank 14 16 (omega arith) thread_limit HeldThread thread-own thread-other thread-held a.tables.kernel.threads held.threads held.thread-rows i v (omega arith) s j (omega arith) ∙ sym (read-threads j a m))) (after-threads a j x)

  own-counters : counters_at ≤ i → i < references_at → cell_at (stored a i v) i ≡ v
  own-counters g h =
      let s : v < words = rw (wide-counters i g h) at fits in
      ap (λ (x : Kept). cell_at x i) (store-counters i a v g h) ∙ read-counters i (with_counters a (set a.tables.kernel.counters (i - counters_at) (to_z w32 v))) g h
      ∙ ap (of_z w32) (get_or-set_same a.tables.kernel.counters (i - counters_at) (to_z w32 v) (pos 0) (omega (arith, held.counters))) ∙ bits_back v s

  others-counters : counters_at ≤ i → i < references_at → (j : ℕ) → j < cell_count → j ≢ i → cell_at (stored a i v) j ≡ cell_at a j
  others-counters g h j b d =
      let s : v < words = rw (wide-counters i g h) at fits in
      let x = set a.tables.kernel.counters (i - counters_at) (to_z w32 v) in
      ap (λ (x : Kept). cell_at x j) (store-counters i a v g h) ∙
      in-or-out j counters_at (before-counters a j x) (λ k. in-or-out j references_at (λ m. (read-counters j (with_counters a x) k m ∙ ap (of_z w32) (get_or-set_other a.tables.kernel.counters (i - counters_at) (j - counters_at) (to_z w32 v) (pos 0) (omega arith)) ∙ sym (read-counters j a k m))) (after-counters a j x))

  own-references : references_at ≤ i → i < words_at → cell_at (stored a i v) i ≡ v
  own-references g h =
      let s : v < bytes = rw (wide-references i g h) at fits in
      ap (λ (x : Kept). cell_at x i) (store-references i a v g h) ∙ read-references i (with_references a (set a.tables.kernel.references (i - references_at) (byte v))) g h
      ∙ get_or-set_same a.tables.kernel.references (i - references_at) (byte v) nobody (omega (arith, held.references)) ∙ mod-eq_of_lt s

  others-references : references_at ≤ i → i < words_at → (j : ℕ) → j < cell_count → j ≢ i → cell_at (stored a i v) j ≡ cell_at a j
  others-references g h j b d =
      let s : v < bytes = rw (wide-references i g h) at fits in
      let x = set a.tables.kernel.references (i - references_at) (byte v) in
      ap (λ (x : Kept). cell_at x j) (store-references i a v g h) ∙
      in-or-out j references_at (before-references a j x) (λ k. in-or-out j words_at (λ m. (read-references j (with_references a x) k m ∙ get_or-set_other a.tables.kernel.references (i - references_at) (j - references_at) (byte v) nobody (omega arith) ∙ sym (read-references j a k m))) (after-references a j x))

  own-words : words_at ≤ i → i < steps_at → cell_at (stored a i v) i ≡ v
  own-words g h =
      let s : v < halves = rw (wide-words i g h) at fits in
      ap (λ (x : Kept). cell_at x i) (store_words i a v g h) ∙ read-words i (with_words a (word_with a.tables.kernel.words (i - words_at) v)) g h
      ∙ word-own a.tables.kernel.words held.waiting (i - words_at) v (omega arith) s

  others-words : words_at ≤ i → i < steps_at → (j : ℕ) → j < cell_count → j ≢ i → cell_at (stored a i v) j ≡ cell_at a j
  others-words g h j b d =
      let s : v < halves = rw (wide-words i g h) at fits in
      let x = word_with a.tables.kernel.words (i - words_at) v in
      ap (λ (x : Kept). cell_at x j) (store_words i a v g h) ∙
      in-or-out j words_at (before-words a j x) (λ k. in-or-out j steps_at (λ m. (read-words j (with_words a x) k m ∙ word-other a.tables.kernel.words held.waiting (i - words_at) v (omega arith) s (j - words_at) (omega arith) (omega arith) ∙ sym (read-words j a k m))) (after-words a j x))

  own-steps : steps_at ≤ i → i < mailboxes_at → cell_at (stored a i v) i ≡ v
  own-steps g h =
      let s : v < words = rw (wide-steps i g h) at fits in
      ap (λ (x : Kept). cell_at x i) (store-steps i a v g h) ∙ read-steps i (with_steps a (v)) g h
      ∙ refl

  others-steps : steps_at ≤ i → i < mailboxes_at → (j : ℕ) → j < cell_count → j ≢ i → cell_at (stored a i v) j ≡ cell_at a j
  others-steps g h j b d =
      let s : v < words = rw (wide-steps i g h) at fits in
      let x = v in
      ap (λ (x : Kept). cell_at x j) (store-steps i a v g h) ∙
      in-or-out j steps_at (before-steps a j x) (λ k. in-or-out j mailboxes_at (λ m. (read-steps j (with_steps a x) k m ∙ absurd (d (omega arith)) ∙ sym (read-steps j a k m))) (after-steps a j x))

  own-boxes : mailboxes_at ≤ i → i < pools_at → cell_at (stored a i v) i ≡ v
  own-boxes g h =
      let s : v < box_limit ((i - mailboxes_at) % 20) = rw (wide-boxes i g h) at fits in
      ap (λ (x : Kept). cell_at x i) (store-boxes i a v g h) ∙ read-boxes i (with_mailboxes a (set a.tables.mailboxes ((i - mailboxes_at) / 20) (box_with (mailbox_in a.tables.mailboxes ((i - mailboxes_at) / 20)) ((i - mailboxes_at) % 20) v))) g h
      ∙ grid-own box_cell box_with blank_mailbox 20 4 (omega arith) box_limit HeldBox box-own box-other box-held a.tables.mailboxes held.mailboxes held.box-rows (i - mailboxes_at) v (omega arith) s

  others-boxes : mailboxes_at ≤ i → i < pools_at → (j : ℕ) → j < cell_count → j ≢ i → cell_at (stored a i v) j ≡ cell_at a j
  others-boxes g h j b d =
      let s : v < box_limit ((i - mailboxes_at) % 20) = rw (wide-boxes i g h) at fits in
      let x = set a.tables.mailboxes ((i - mailboxes_at) / 20) (box_with (mailbox_in a.tables.mailboxes ((i - mailboxes_at) / 20)) ((i - mailboxes_at) % 20) v) in
      ap (λ (x : Kept). cell_at x j) (store-boxes i a v g h) ∙
      in-or-out j mailboxes_at (before-boxes a j x) (λ k. in-or-out j pools_at (λ m. (read-boxes j (with_mailboxes a x) k m ∙ grid-other box_cell box_with blank_mailbox 20 4 (omega arith) box_limit HeldBox box-own box-other box-held a.tables.mailboxes held.mailboxes held.box-rows (i - mailboxes_at) v (omega arith) s (j - mailboxes_at) (omega arith) ∙ sym (read-boxes j a k m))) (after-boxes a j x))

  own-pools : pools_at ≤ i → i < sizes_at → cell_at (stored a i v) i ≡ v
  own-pools g h =
      let s : v < pool_limit ((i - pools_at) % 65) = rw (wide-pools i g h) at fits in
      ap (λ (x : Kept). cell_at x i) (store-pools i a v g h) ∙ read-pools i (with_pools a (set a.tables.pools ((i - pools_at) / 65) (pool_with (pool_in a.tables.pools ((i - pools_at) / 65)) ((i - pools_at) % 65) v))) g h
      ∙ grid-own pool_cell pool_with blank_pool 65 4 (omega arith) pool_limit HeldPool pool-own pool-other pool-held a.tables.pools held.pools held.pool-rows (i - pools_at) v (omega arith) s

  others-pools : pools_at ≤ i → i < sizes_at → (j : ℕ) → j < cell_count → j ≢ i → cell_at (stored a i v) j ≡ cell_at a j
  others-pools g h j b d =
      let s : v < pool_limit ((i - pools_at) % 65) = rw (wide-pools i g h) at fits in
      let x = set a.tables.pools ((i - pools_at) / 65) (pool_with (pool_in a.tables.pools ((i - pools_at) / 65)) ((i - pools_at) % 65) v) in
      ap (λ (x : Kept). cell_at x j) (store-pools i a v g h) ∙
      in-or-out j pools_at (before-pools a j x) (λ k. in-or-out j sizes_at (λ m. (read-pools j (with_pools a x) k m ∙ grid-other pool_cell pool_with blank_pool 65 4 (omega arith) pool_limit HeldPool pool-own pool-other pool-held a.tables.pools held.pools held.pool-rows (i - pools_at) v (omega arith) s (j - pools_at) (omega arith) ∙ sym (read-pools j a k m))) (after-pools a j x))

  own-sizes : sizes_at ≤ i → i < clock_at → cell_at (stored a i v) i ≡ v
  own-sizes g h =
      let s : v < halves = rw (wide-sizes i g h) at fits in
      ap (λ (x : Kept). cell_at x i) (store-sizes i a v g h) ∙ read-sizes i (with_sizes a (size_with a.tables.sizes (i - sizes_at) v)) g h
      ∙ size-own a.tables.sizes held.sizes (i - sizes_at) v (omega arith) s

  others-sizes : sizes_at ≤ i → i < clock_at → (j : ℕ) → j < cell_count → j ≢ i → cell_at (stored a i v) j ≡ cell_at a j
  others-sizes g h j b d =
      let s : v < halves = rw (wide-sizes i g h) at fits in
      let x = size_with a.tables.sizes (i - sizes_at) v in
      ap (λ (x : Kept). cell_at x j) (store-sizes i a v g h) ∙
      in-or-out j sizes_at (before-sizes a j x) (λ k. in-or-out j clock_at (λ m. (read-sizes j (with_sizes a x) k m ∙ size-other a.tables.sizes held.sizes (i - sizes_at) v (omega arith) s (j - sizes_at) (omega arith) ∙ sym (read-sizes j a k m))) (after-sizes a j x))

  own-clock : clock_at ≤ i → i < cell_count → cell_at (stored a i v) i ≡ v
  own-clock g h =
      let s : v < words = rw (wide-clock i g) at fits in
      ap (λ (x : Kept). cell_at x i) (store-clock i a v g) ∙ read-clock i (with_clock a (clock_with a.clock (i - clock_at) v)) g
      ∙ clock-own a.clock (i - clock_at) v (omega arith)

  others-clock : clock_at ≤ i → i < cell_count → (j : ℕ) → j < cell_count → j ≢ i → cell_at (stored a i v) j ≡ cell_at a j
  others-clock g h j b d =
      let s : v < words = rw (wide-clock i g) at fits in
      let x = clock_with a.clock (i - clock_at) v in
      ap (λ (x : Kept). cell_at x j) (store-clock i a v g) ∙
      in-or-out j clock_at (before-clock a j x) (λ k. (read-clock j (with_clock a x) k ∙ clock-other a.clock (i - clock_at) v (omega arith) (j - clock_at) (omega arith) (omega arith) ∙ sym (read-clock j a k)))

  held-threads : i < counters_at → Held (stored a i v)
  held-threads h =
      let s : v < thread_limit (i % 14) = rw (wide-threads i h) at fits in
      subst⁻¹ Held (store-threads i a v h)
      (record {
        threads = grid-long thread_cell thread_with blank 14 16 (omega arith) thread_limit HeldThread thread-own thread-other thread-held a.tables.kernel.threads held.threads held.thread-rows i v (omega arith) s;
        thread-rows = grid-good thread_cell thread_with blank 14 16 (omega arith) thread_limit HeldThread thread-own thread-other thread-held a.tables.kernel.threads held.threads held.thread-rows i v (omega arith) s;
        counters = held.counters;
        counter-rows = held.counter-rows;
        references = held.references;
        waiting = held.waiting;
        mailboxes = held.mailboxes;
        box-rows = held.box-rows;
        pools = held.pools;
        pool-rows = held.pool-rows;
        sizes = held.sizes;
      })

  held-counters : counters_at ≤ i → i < references_at → Held (stored a i v)
  held-counters g h =
      let s : v < words = rw (wide-counters i g h) at fits in
      subst⁻¹ Held (store-counters i a v g h)
      (record {
        threads = held.threads;
        thread-rows = held.thread-rows;
        counters = length-set a.tables.kernel.counters (i - counters_at) (to_z w32 v) ∙ held.counters;
        counter-rows = signed-set a.tables.kernel.counters (i - counters_at) v s held.counters held.counter-rows;
        references = held.references;
        waiting = held.waiting;
        mailboxes = held.mailboxes;
        box-rows = held.box-rows;
        pools = held.pools;
        pool-rows = held.pool-rows;
        sizes = held.sizes;
      })

  held-references : references_at ≤ i → i < words_at → Held (stored a i v)
  held-references g h =
      let s : v < bytes = rw (wide-references i g h) at fits in
      subst⁻¹ Held (store-references i a v g h)
      (record {
        threads = held.threads;
        thread-rows = held.thread-rows;
        counters = held.counters;
        counter-rows = held.counter-rows;
        references = length-set a.tables.kernel.references (i - references_at) (byte v) ∙ held.references;
        waiting = held.waiting;
        mailboxes = held.mailboxes;
        box-rows = held.box-rows;
        pools = held.pools;
        pool-rows = held.pool-rows;
        sizes = held.sizes;
      })

  held-words : words_at ≤ i → i < steps_at → Held (stored a i v)
  held-words g h =
      let s : v < halves = rw (wide-words i g h) at fits in
      subst⁻¹ Held (store_words i a v g h)
      (record {
        threads = held.threads;
        thread-rows = held.thread-rows;
        counters = held.counters;
        counter-rows = held.counter-rows;
        references = held.references;
        waiting = word_held a.tables.kernel.words held.waiting (i - words_at) v (omega arith) s;
        mailboxes = held.mailboxes;
        box-rows = held.box-rows;
        pools = held.pools;
        pool-rows = held.pool-rows;
        sizes = held.sizes;
      })

  held_steps : steps_at ≤ i → i < mailboxes_at → Held (stored a i v)
  held_steps g h =
      let s : v < words = rw (wide-steps i g h) at fits in
      subst⁻¹ Held (store-steps i a v g h)
      (record {
        threads = held.threads;
        thread-rows = held.thread-rows;
        counters = held.counters;
        counter-rows = held.counter-rows;
        references = held.references;
        waiting = held.waiting;
        mailboxes = held.mailboxes;
        box-rows = held.box-rows;
        pools = held.pools;
        pool-rows = held.pool-rows;
        sizes = held.sizes;
      })

  held-boxes : mailboxes_at ≤ i → i < pools_at → Held (stored a i v)
  held-boxes g h =
      let s : v < box_limit ((i - mailboxes_at) % 20) = rw (wide-boxes i g h) at fits in
      subst⁻¹ Held (store-boxes i a v g h)
      (record {
        threads = held.threads;
        thread-rows = held.thread-rows;
        counters = held.counters;
        counter-rows = held.counter-rows;
        references = held.references;
        waiting = held.waiting;
        mailboxes = grid-long box_cell box_with blank_mailbox 20 4 (omega arith) box_limit HeldBox box-own box-other box-held a.tables.mailboxes held.mailboxes held.box-rows (i - mailboxes_at) v (omega arith) s;
        box-rows = grid-good box_cell box_with blank_mailbox 20 4 (omega arith) box_limit HeldBox box-own box-other box-held a.tables.mailboxes held.mailboxes held.box-rows (i - mailboxes_at) v (omega arith) s;
        pools = held.pools;
        pool-rows = held.pool-rows;
        sizes = held.sizes;
      })

  held-pools : pools_at ≤ i → i < sizes_at → Held (stored a i v)
  held-pools g h =
      let s : v < pool_limit ((i - pools_at) % 65) = rw (wide-pools i g h) at fits in
      subst⁻¹ Held (store-pools i a v g h)
      (record {
        threads = held.threads;
        thread-rows = held.thread-rows;
        counters = held.counters;
        counter-rows = held.counter-rows;
        references = held.references;
        waiting = held.waiting;
        mailboxes = held.mailboxes;
        box-rows = held.box-rows;
        pools = grid-long pool_cell pool_with blank_pool 65 4 (omega arith) pool_limit HeldPool pool-own pool-other pool-held a.tables.pools held.pools held.pool-rows (i - pools_at) v (omega arith) s;
        pool-rows = grid-good pool_cell pool_with blank_pool 65 4 (omega arith) pool_limit HeldPool pool-own pool-other pool-held a.tables.pools held.pools held.pool-rows (i - pools_at) v (omega arith) s;
        sizes = held.sizes;
      })

  held-sizes : sizes_at ≤ i → i < clock_at → Held (stored a i v)
  held-sizes g h =
      let s : v < halves = rw (wide-sizes i g h) at fits in
      subst⁻¹ Held (store-sizes i a v g h)
      (record {
        threads = held.threads;
        thread-rows = held.thread-rows;
        counters = held.counters;
        counter-rows = held.counter-rows;
        references = held.references;
        waiting = held.waiting;
        mailboxes = held.mailboxes;
        box-rows = held.box-rows;
        pools = held.pools;
        pool-rows = held.pool-rows;
        sizes = size-held a.tables.sizes held.sizes (i - sizes_at) v (omega arith) s;
      })

  held-clock : clock_at ≤ i → i < cell_count → Held (stored a i v)
  held-clock g h =
      let s : v < words = rw (wide-clock i g) at fits in
      subst⁻¹ Held (store-clock i a v g)
      (record {
        threads = held.threads;
        thread-rows = held.thread-rows;
        counters = held.counters;
        counter-rows = held.counter-rows;
        references = held.references;
        waiting = held.waiting;
        mailboxes = held.mailboxes;
        box-rows = held.box-rows;
        pools = held.pools;
        pool-rows = held.pool-rows;
        sizes = held.sizes;
      })

  -- at its own place the number is read back
  pub cell-own : i < cell_count → cell_at (stored a i v) i ≡ v
  cell-own l =
      in-or-out i counters_at (own-threads)
      (λ g224. in-or-out i references_at (λ h. own-counters g224 h)
      (λ g260. in-or-out i words_at (λ h. own-references g260 h)
      (λ g268. in-or-out i steps_at (λ h. own-words g268 h)
      (λ g306. in-or-out i mailboxes_at (λ h. own-steps g306 h)
      (λ g307. in-or-out i pools_at (λ h. own-boxes g307 h)
      (λ g387. in-or-out i sizes_at (λ h. own-pools g387 h)
      (λ g647. in-or-out i clock_at (λ h. own-sizes g647 h)
      (λ g657. own-clock g657 l))))))))

  -- at any other all is as it was
  pub cell_other : i < cell_count → (j : ℕ) → j < cell_count → j ≢ i → cell_at (stored a i v) j ≡ cell_at a j
  cell_other l =
      in-or-out i counters_at (others-threads)
      (λ g224. in-or-out i references_at (λ h. others-counters g224 h)
      (λ g260. in-or-out i words_at (λ h. others-references g260 h)
      (λ g268. in-or-out i steps_at (λ h. others-words g268 h)
      (λ g306. in-or-out i mailboxes_at (λ h. others-steps g306 h)
      (λ g307. in-or-out i pools_at (λ h. others-boxes g307 h)
      (λ g387. in-or-out i sizes_at (λ h. others-pools g387 h)
      (λ g647. in-or-out i clock_at (λ h. others-sizes g647 h)
      (λ g657. others-clock g657 l))))))))

  -- and the numbers are a host's still
  pub cell-held : i < cell_count → Held (stored a i v)
  cell-held l =
      in-or-out i counters_at (held-threads)
      (λ g224. in-or-out i references_at (λ h. held-counters g224 h)
      (λ g260. in-or-out i words_at (λ h. held-references g260 h)
      (λ g268. in-or-out i steps_at (λ h. held-words g268 h)
      (λ g306. in-or-out i mailboxes_at (λ h. held_steps g306 h)
      (λ g307. in-or-out i pools_at (λ h. held-boxes g307 h)
      (λ g387. in-or-out i sizes_at (λ h. held-pools g387 h)
      (λ g647. in-or-out i clock_at (λ h. held-sizes g647 h)
      (λ g657. held-clock g657 l))))))))

-- no store but into the sizes changes them
pub store-sizes-kept : (a : Kept) (i v : ℕ) → ltb i sizes_at || leb clock_at i ≡ true → (stored a i v).tables.sizes ≡ a.tables.sizes
store-sizes-kept a i v e =
    in-or-out i counters_at (λ h. ap size (store-threads i a v h))
    (λ g224. in-or-out i references_at (λ h. ap size (store-counters i a v g224 h))
    (λ g260. in-or-out i words_at (λ h. ap size (store-references i a v g260 h))
    (λ g268. in-or-out i steps_at (λ h. ap size (store_words i a v g268 h))
    (λ g306. in-or-out i mailboxes_at (λ h. ap size (store-steps i a v g306 h))
    (λ g307. in-or-out i pools_at (λ h. ap size (store-boxes i a v g307 h))
    (λ g387. in-or-out i sizes_at (λ h. ap size (store-pools i a v g387 h))
    (λ g647. in-or-out i clock_at (λ h. contrary e (rw (le-ltb i sizes_at g647, lt-leb clock_at i h)))
    (λ g657. ap size (store-clock i a v g657)))))))))
  where
    size : Kept → Sizes
    size x = x.tables.sizes

-- no store but into the words changes them
pub store-words-kept : (a : Kept) (i v : ℕ) → ltb i words_at || leb steps_at i ≡ true → (stored a i v).tables.kernel.words ≡ a.tables.kernel.words
store-words-kept a i v e =
    in-or-out i counters_at (λ h. ap word (store-threads i a v h))
    (λ g1. in-or-out i references_at (λ h. ap word (store-counters i a v g1 h))
    (λ g2. in-or-out i words_at (λ h. ap word (store-references i a v g2 h))
    (λ g3. in-or-out i steps_at (λ h. contrary e (rw (le-ltb i words_at g3, lt-leb steps_at i h)))
    (λ g4. in-or-out i mailboxes_at (λ h. ap word (store-steps i a v g4 h))
    (λ g5. in-or-out i pools_at (λ h. ap word (store-boxes i a v g5 h))
    (λ g6. in-or-out i sizes_at (λ h. ap word (store-pools i a v g6 h))
    (λ g7. in-or-out i clock_at (λ h. ap word (store-sizes i a v g7 h))
    (λ g8. ap word (store-clock i a v g8)))))))))
  where
    word : Kept → Words
    word x = x.tables.kernel.words
