-- A tick is a round: whose last tick it is, is made ready with -1, and of everyone else one tick is counted off. A row with one tick
-- less waits where it waited, so the counters' and the references' rules stay.
use Rattle.std.proofs.Common.{◌≡◌, ℕ, ◌<◌, ◌≤◌, Bool, cond, eqb, ◌≢◌, refl, arith, eq-eqb, ne_eqb}
use Rattle.kernel.specs.declared.records.Thread.{Thread}
use Rattle.kernel.specs.declared.records.Kernel.{Kernel}
use Rattle.kernel.specs.Numbers.{timed_out}
use Rattle.kernel.specs.Tables.{used_rows, thread_at, with_thread}
use Rattle.kernel.specs.Moves.{readied, woken}
use Rattle.kernel.specs.Ticking.{counted_off, ticked}
use Rattle.kernel.proofs.TablesLaws.{SameSizes, used-le-given}
use Rattle.kernel.proofs.Rounds.{round_keeps, round-row, round-later, round-sizes}

-- what a tick makes of a row, by the cause c, in the step n: "each remaining count above 0 falls by 1; at 0 the thread is .. made ready
-- with -1"
abbrev pub aged : ℕ → ℕ → Thread → Thread
aged c n t = cond (eqb t.remaining 1) (readied t timed_out c n) (counted_off t)

-- the last tick makes ready with -1
pub aged-last : (c n : ℕ) (t : Thread) → t.remaining ≡ 1 → aged c n t ≡ readied t timed_out c n
aged-last c n t e = rw (eq-eqb t.remaining 1 e)

-- any other is counted off
pub aged-counted : (c n : ℕ) (t : Thread) → t.remaining ≢ 1 → aged c n t ≡ counted_off t
aged-counted c n t d = rw (ne_eqb t.remaining 1 d)

-- whether the next tick is the last
abbrev ends : Thread → Bool
ends t = eqb t.remaining 1

module _ (k : Kernel) (n : ℕ) where
  -- each of the first n rows is aged, once
  pub tick-row : (j : ℕ) → j < used_rows n → thread_at (ticked k n) j ≡ aged k.cause k.steps (thread_at k j)
  unfolding ticked
  tick-row j h = round-row ends counted_off timed_out refl refl (used_rows n) j k h

  -- rows from n on are as they were
  pub tick-later : (j : ℕ) → used_rows n ≤ j → thread_at (ticked k n) j ≡ thread_at k j
  unfolding ticked
  tick-later j h = round-later ends counted_off timed_out (used_rows n) j k h

  -- the tables keep their lengths
  pub tick-sizes : SameSizes k (ticked k n)
  unfolding ticked
  tick-sizes = round-sizes ends counted_off timed_out (used_rows n) k

  -- what every waking of the first n and every row counted off keeps, the tick keeps
  pub tick-keeps : (P : Kernel → Type 0) → ((i : ℕ) → i < n → (h : Kernel) → P h → P (woken h i timed_out))
      → ((i : ℕ) → (h : Kernel) → P h → P (with_thread h i (counted_off (thread_at h i)))) → P k → P (ticked k n)
  unfolding ticked
  tick-keeps P w c =
      round_keeps ends counted_off timed_out P (used_rows n) (λ i l. w i (omega (arith, used-le-given n))) (λ i l. c i) k
