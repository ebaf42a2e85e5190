-- A table read where it was just written gives what was written, and elsewhere what stood there; past its end a write changes nothing.
use Rattle.std.proofs.Common.{◌≡◌, ℕ, ◌<◌, ◌≤◌, Bool, true, false, ◌≢◌, length, get_or, ℤ, pos, refl, ◌∙◌, arith, length-set, get_or-set_other, get_or-set_same, le-ltb, lt-ltb}
use lib.ListN.{get_or-eq_default}
use lib.Seq.{set_out}
use Rattle.kernel.specs.declared.records.Answer.{Answer}
use Rattle.kernel.specs.declared.records.Thread.{Thread}
use Rattle.kernel.specs.declared.records.Words.{Words}
use Rattle.kernel.specs.declared.records.Kernel.{Kernel}
use Rattle.kernel.specs.Numbers.{nobody}
use Rattle.kernel.specs.Records.{blank}
use Rattle.kernel.specs.Tables.{
  used_rows,
  thread_at,
  counter_at,
  holder_at,
  with_thread,
  with_counter,
  with_holder,
  with_woken,
  with_finished,
  with_answer,
  with_words,
}
use Rattle.kernel.proofs.Cases.{same_or, in-or-out}

-- whether thread i was made ready in this step
abbrev pub woken_at : Kernel → ℕ → Bool
woken_at k i = get_or k.woken i false

-- whether its call finished in this step
abbrev pub finished_at : Kernel → ℕ → Bool
finished_at k i = get_or k.finished i false

-- how many of n threads have a row: all of them, up to 16
pub used_all : (n : ℕ) → n ≤ 16 → used_rows n ≡ n
used_all n h = in-or-out n 16 (λ l. rw (lt-ltb n 16 l)) (λ l. rw (le-ltb n 16 l) (omega arith))

-- nor more than n
pub used-le-given : (n : ℕ) → used_rows n ≤ n
used-le-given n = in-or-out n 16 (λ l. rw (lt-ltb n 16 l) (omega arith)) (λ l. rw (le-ltb n 16 l) (omega arith))

-- the sizes of the tables at work, and that the cause is one of the list
pub record Sized (k : Kernel) : Type 0 where
  pub threads : length k.threads ≡ 16
  pub counters : length k.counters ≡ 36
  pub references : length k.references ≡ 8
  pub woken : length k.woken ≡ 16
  pub finished : length k.finished ≡ 16
  pub waiting : length k.words.waiting ≡ 36
  pub cause : k.cause ≤ 8

-- the tables of h are as long as those of k, and its step is the same
pub record SameSizes (k h : Kernel) : Type 0 where
  pub threads : length h.threads ≡ length k.threads
  pub counters : length h.counters ≡ length k.counters
  pub references : length h.references ≡ length k.references
  pub woken : length h.woken ≡ length k.woken
  pub finished : length h.finished ≡ length k.finished
  pub waiting : length h.words.waiting ≡ length k.words.waiting
  pub steps : h.steps ≡ k.steps
  pub cause : h.cause ≡ k.cause

-- lengths are the same from k to k
pub sizes-refl : (k : Kernel) → SameSizes k k
sizes-refl k = record { threads = refl; counters = refl; references = refl; woken = refl; finished = refl; waiting = refl; steps = refl; cause = refl }

-- .. and from step to step
pub sizes-trans : {k h g : Kernel} → SameSizes k h → SameSizes h g → SameSizes k g
sizes-trans a b =
    record {
      threads = b.threads ∙ a.threads;
      counters = b.counters ∙ a.counters;
      references = b.references ∙ a.references;
      woken = b.woken ∙ a.woken;
      finished = b.finished ∙ a.finished;
      waiting = b.waiting ∙ a.waiting;
      steps = b.steps ∙ a.steps;
      cause = b.cause ∙ a.cause;
    }

-- tables of the same lengths are sized alike
pub sized-kept : {k h : Kernel} → SameSizes k h → Sized k → Sized h
sized-kept a s =
    record {
      threads = a.threads ∙ s.threads;
      counters = a.counters ∙ s.counters;
      references = a.references ∙ s.references;
      woken = a.woken ∙ s.woken;
      finished = a.finished ∙ s.finished;
      waiting = a.waiting ∙ s.waiting;
      cause = omega (arith, a.cause, s.cause);
    }

-- every write keeps the lengths, and the step
module _ (k : Kernel) where
  -- a thread written
  pub thread-sizes : (i : ℕ) (t : Thread) → SameSizes k (with_thread k i t)
  thread-sizes i t = record { threads = length-set k.threads i t; counters = refl; references = refl; woken = refl; finished = refl; waiting = refl; steps = refl; cause = refl }

  -- a counter written
  pub counter-sizes : (p : ℕ) (c : ℤ) → SameSizes k (with_counter k p c)
  counter-sizes p c =
      record { threads = refl; counters = length-set k.counters p c; references = refl; woken = refl; finished = refl; waiting = refl; steps = refl; cause = refl }

  -- a woken flag set
  pub mark-woken-sizes : (i : ℕ) → SameSizes k (with_woken k i)
  mark-woken-sizes i =
      record { threads = refl; counters = refl; references = refl; woken = length-set k.woken i true; finished = refl; waiting = refl; steps = refl; cause = refl }

  -- a finished flag set
  pub mark-finished-sizes : (i : ℕ) → SameSizes k (with_finished k i)
  mark-finished-sizes i =
      record { threads = refl; counters = refl; references = refl; woken = refl; finished = length-set k.finished i true; waiting = refl; steps = refl; cause = refl }

  -- words kept
  pub words-sizes : (w : Words) → length w.waiting ≡ length k.words.waiting → SameSizes k (with_words k w)
  words-sizes w e = record { threads = refl; counters = refl; references = refl; woken = refl; finished = refl; waiting = e; steps = refl; cause = refl }

  -- an answer stored
  pub answer-sizes : (a : Answer) → SameSizes k (with_answer k a)
  answer-sizes a = record { threads = refl; counters = refl; references = refl; woken = refl; finished = refl; waiting = refl; steps = refl; cause = refl }

-- threads: read at the index written, at another, and written past the end
module _ (k : Kernel) (i : ℕ) (t : Thread) where
  -- read where it was written
  pub thread-same : i < length k.threads → thread_at (with_thread k i t) i ≡ t
  thread-same h = get_or-set_same k.threads i t blank h

  -- read elsewhere
  pub thread-other : (j : ℕ) → j ≢ i → thread_at (with_thread k i t) j ≡ thread_at k j
  thread-other j n = get_or-set_other k.threads i j t blank n

  -- what a written row keeps, every row keeps
  pub thread-kept : {A : Type 0} (f : Thread → A) → f t ≡ f (thread_at k i) → (j : ℕ) → f (thread_at (with_thread k i t) j) ≡ f (thread_at k j)
  thread-kept f e j =
      same_or j i
      (λ s. rw s
      (in-or-out i (length k.threads) (λ h. rw (thread-same h) e) (λ h. rw (set_out k.threads i t h))))
      (λ n. rw (thread-other j n))

-- past the end a thread is the blank
pub thread-blank : (k : Kernel) (i : ℕ) → length k.threads ≤ i → thread_at k i ≡ blank
thread-blank k i h = get_or-eq_default k.threads blank h

-- counters
module _ (k : Kernel) (p : ℕ) (c : ℤ) where
  -- read where it was written
  pub counter-same : p < length k.counters → counter_at (with_counter k p c) p ≡ c
  counter-same h = get_or-set_same k.counters p c (pos 0) h

  -- read elsewhere
  pub counter-other : (q : ℕ) → q ≢ p → counter_at (with_counter k p c) q ≡ counter_at k q
  counter-other q n = get_or-set_other k.counters p q c (pos 0) n

-- past the end a counter is 0
pub counter-zero : (k : Kernel) (p : ℕ) → length k.counters ≤ p → counter_at k p ≡ pos 0
counter-zero k p h = get_or-eq_default k.counters (pos 0) h

-- references
module _ (k : Kernel) (r i : ℕ) where
  -- read where it was written
  pub holder-same : r < length k.references → holder_at (with_holder k r i) r ≡ i
  holder-same h = get_or-set_same k.references r i nobody h

  -- read elsewhere
  pub holder-other : (q : ℕ) → q ≢ r → holder_at (with_holder k r i) q ≡ holder_at k q
  holder-other q n = get_or-set_other k.references r q i nobody n

-- past the end a reference is empty
pub holder-nobody : (k : Kernel) (r : ℕ) → length k.references ≤ r → holder_at k r ≡ nobody
holder-nobody k r h = get_or-eq_default k.references nobody h

-- woken and finished flags
module _ (k : Kernel) (i : ℕ) where
  -- read where it was set
  pub mark-woken-same : i < length k.woken → woken_at (with_woken k i) i ≡ true
  mark-woken-same h = get_or-set_same k.woken i true false h

  -- read elsewhere
  pub mark-woken-other : (j : ℕ) → j ≢ i → woken_at (with_woken k i) j ≡ woken_at k j
  mark-woken-other j n = get_or-set_other k.woken i j true false n

  -- read where it was set
  pub mark-finished-same : i < length k.finished → finished_at (with_finished k i) i ≡ true
  mark-finished-same h = get_or-set_same k.finished i true false h

  -- read elsewhere
  pub mark-finished-other : (j : ℕ) → j ≢ i → finished_at (with_finished k i) j ≡ finished_at k j
  mark-finished-other j n = get_or-set_other k.finished i j true false n
