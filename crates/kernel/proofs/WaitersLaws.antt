-- Who waits at a place, and who is first: where a word agrees with the records, the first that it names is the one that a walk over them
-- finds, the least index that passes, which is the highest in priority.
use Rattle.std.proofs.Common.{◌≡◌, ℕ, ◌≤◌, Bool, true, ◌&&◌, eqb, ltb, ◌⊎◌, eqb-true}
use Rattle.kernel.specs.declared.records.Thread.{Thread}
use Rattle.kernel.specs.declared.records.Kernel.{Kernel}
use Rattle.kernel.specs.Numbers.{nobody, queued}
use Rattle.kernel.specs.Walk.{first_from, bit, count_of}
use Rattle.kernel.specs.Tables.{thread_at}
use Rattle.kernel.specs.Words.{digit, first_of, waiting_at}
use Rattle.kernel.specs.Waiters.{is_ready, queued_at, first_ready, first_waiter}
use Rattle.kernel.proofs.Cases.{both-means}
use Rattle.kernel.proofs.WalkLaws.{Least, None, first-cases, counted-first}
use Rattle.kernel.proofs.WordsLaws.{first-agree}

-- thread i waits at the place p
abbrev pub waits : Kernel → ℕ → ℕ → Bool
waits k p i = queued_at p (thread_at k i)

-- how many of the first n threads wait at p
abbrev pub waiters : Kernel → ℕ → ℕ → ℕ
waiters k n p = count_of (waits k p) n

-- who waits at p waits nowhere else
pub queued-place : (p q : ℕ) (t : Thread) → queued_at p t ≡ true → queued_at q t ≡ eqb p q
queued-place p q t e =
    let both = both-means (eqb t.state queued) (eqb t.place p) e in
    rw (both.0, eqb-true t.place p both.1)

-- the word w has a bit for each of n threads that passes, and no other
abbrev pub Tells : ℕ → (Thread → Bool) → Kernel → ℕ → Type 0
Tells n test k w = (j : ℕ) → digit w j ≡ bit (ltb j n && test (thread_at k j))

-- the word of the place p tells who waits there
abbrev pub TellsAt : ℕ → Kernel → ℕ → Type 0
TellsAt n k p = Tells n (queued_at p) k (waiting_at k.words p)

module _ (k : Kernel) (n : ℕ) (few : n ≤ 16) where
  -- WHERE A WORD AGREES, THE SEARCH IN IT IS THE WALK
  pub first_walk : (test : Thread → Bool) (w : ℕ) → Tells n test k w → first_of w ≡ first_from (λ i. test (thread_at k i)) 0 n
  first_walk test w told = first-agree (λ i. test (thread_at k i)) n w few told

  -- so it finds the least that passes; or nobody, and none passes
  found : (test : Thread → Bool) (w : ℕ) → Tells n test k w
      → Least (λ i. test (thread_at k i)) n (first_of w) ⊎ ((first_of w ≡ nobody) × None (λ i. test (thread_at k i)) n)
  found test w told = rw (first_walk test w told) (first-cases (λ i. test (thread_at k i)) n)

  -- "the running thread is the first ready one, or idle"
  pub first-ready-cases : Tells n is_ready k k.words.ready
      → Least (λ i. is_ready (thread_at k i)) n (first_ready k) ⊎ ((first_ready k ≡ nobody) × None (λ i. is_ready (thread_at k i)) n)
  unfolding first_ready
  first-ready-cases told = found is_ready k.words.ready told

  module _ (p : ℕ) (told : TellsAt n k p) where
    -- the first waiter is the one with the least index; or it is nobody, and none waits
    pub first-waiter-cases : Least (waits k p) n (first_waiter k p) ⊎ ((first_waiter k p ≡ nobody) × None (waits k p) n)
    unfolding first_waiter
    first-waiter-cases = found (queued_at p) (waiting_at k.words p) told

    -- where any is counted there is a first
    pub first-waiter-counted : 1 ≤ waiters k n p → Least (waits k p) n (first_waiter k p)
    unfolding first_waiter
    first-waiter-counted h = rw (first_walk (queued_at p) (waiting_at k.words p) told) (counted-first (waits k p) n h)
