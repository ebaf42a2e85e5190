-- A round over the threads: who passes a test is made ready with m, of everyone else the row is rewritten. Each turn changes no row
-- but its own, so the round changes each row once. A release of all and the tick are such rounds.
use Rattle.std.proofs.Common.{◌≡◌, ℕ, ◌<◌, ◌≤◌, Bool, true, false, cond, ◌≢◌, length, ℤ, sym, subst}
use lib.Seq.{set_out}
use Rattle.kernel.specs.declared.records.Thread.{Thread}
use Rattle.kernel.specs.declared.records.Kernel.{Kernel}
use Rattle.kernel.specs.Records.{blank}
use Rattle.kernel.specs.Walk.{each}
use Rattle.kernel.specs.Tables.{thread_at, with_thread}
use Rattle.kernel.specs.Moves.{readied, woken}
use Rattle.kernel.proofs.Cases.{split, in-or-out, chosen, contrary}
use Rattle.kernel.proofs.WalkLaws.{each_keeps, each-later, each_row}
use Rattle.kernel.proofs.TablesLaws.{SameSizes, sizes-refl, sizes-trans, thread-sizes, thread-same, thread-other, thread-blank}
use Rattle.kernel.proofs.MovesLaws.{wake-row, wake-others, wake-sizes}

module _ (test : Thread → Bool) (rest : Thread → Thread) (m : ℤ) where
  -- one turn
  abbrev pub turn : ℕ → Kernel → Kernel
  turn i k = cond (test (thread_at k i)) (woken k i m) (with_thread k i (rest (thread_at k i)))

  -- and what it makes of its row, by the cause c, in the step n
  abbrev pub turned : ℕ → ℕ → Thread → Thread
  turned c n t = cond (test t) (readied t m c n) (rest t)

  -- what every waking and every rewritten row keeps, the round keeps
  pub round_keeps : (P : Kernel → Type 0) (n : ℕ)
      → ((i : ℕ) → i < n → (k : Kernel) → P k → P (woken k i m))
      → ((i : ℕ) → i < n → (k : Kernel) → P k → P (with_thread k i (rest (thread_at k i))))
      → (k : Kernel) → P k → P (each n turn k)
  round_keeps P n w r =
      each_keeps P turn n (λ i l k p. chosen P (test (thread_at k i)) (λ e. w i l k p) (λ e. r i l k p))

  turn-sizes : (i : ℕ) (k : Kernel) → SameSizes k (turn i k)
  turn-sizes i k =
      chosen (SameSizes k) (test (thread_at k i)) (λ e. wake-sizes k i m) (λ e. thread-sizes k i (rest (thread_at k i)))

  module _ (n : ℕ) (k : Kernel) where
    -- the tables keep their lengths
    pub round-sizes : SameSizes k (each n turn k)
    round-sizes = each_keeps (SameSizes k) turn n (λ i l h s. sizes-trans s (turn-sizes i h)) k (sizes-refl k)

  turn-others : (i j : ℕ) (k : Kernel) → j ≢ i → thread_at (turn i k) j ≡ thread_at k j
  turn-others i j k d =
      chosen (λ (h : Kernel). thread_at h j ≡ thread_at k j) (test (thread_at k i)) (λ e. wake-others k i m j d)
      (λ e. thread-other k i (rest (thread_at k i)) j d)

  -- rows from n on are as they were
  pub round-later : (n j : ℕ) (k : Kernel) → n ≤ j → thread_at (each n turn k) j ≡ thread_at k j
  round-later = each-later thread_at turn turn-others

  -- for a test that the blank fails and a rewriting that leaves it
  module _ (fails : test blank ≡ false) (leaves : rest blank ≡ blank) where
    passing : (i : ℕ) (k : Kernel) → test (thread_at k i) ≡ true → i < length k.threads
    passing i k e = in-or-out i (length k.threads) (λ h. h) (λ h. contrary e (rw (thread-blank k i h) fails))

    turn-row : (i : ℕ) (k : Kernel) → thread_at (turn i k) i ≡ turned k.cause k.steps (thread_at k i)
    turn-row i k =
        split (test (thread_at k i)) (λ e. rw e (wake-row k i m (passing i k e)))
        (λ e. rw e
        (in-or-out i (length k.threads) (λ h. thread-same k i (rest (thread_at k i)) h)
        (λ h. rw (set_out k.threads i (rest (thread_at k i)) h, thread-blank k i h) (sym leaves))))

    -- the first n rows are changed, each once
    pub round-row : (n j : ℕ) (k : Kernel) → j < n → thread_at (each n turn k) j ≡ turned k.cause k.steps (thread_at k j)
    round-row n j k h =
        each_row thread_at turn turn-others (SameSizes k) (turned k.cause k.steps) (λ i h s. sizes-trans s (turn-sizes i h))
        (λ i h s. subst (λ (c : ℕ). thread_at (turn i h) i ≡ turned c k.steps (thread_at h i)) s.cause
        (subst (λ (x : ℕ). thread_at (turn i h) i ≡ turned h.cause x (thread_at h i)) s.steps (turn-row i h)))
        n j k (sizes-refl k) h
