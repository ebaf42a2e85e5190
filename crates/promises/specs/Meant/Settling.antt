-- Settling of the meanings, continuation by continuation; and who runs.
use Prim.Native.Nat.{ℕ, zero, suc, ◌<◌}
use Rattle.std.specs.Prelude.{◌≡◌, ◌≢◌, ◌⊎◌, true, false, List, [], ◌∷◌, pos}
use Rattle.std.proofs.Math.Path.{refl}
use Rattle.std.proofs.Common.{sym, inl, inr, eqb-true, eq-eqb, ne_eqb}
use Rattle.kernel.specs.declared.records.Thread.{Thread}
use Rattle.kernel.specs.declared.records.Kernel.{Kernel}
use Rattle.kernel.specs.Numbers.{ready}
use Rattle.kernel.specs.Tables.{thread_at}
use Rattle.kernel.specs.Waiters.{is_ready, running_free}
use Rattle.kernel.proofs.Cases.{contrary}
use Rattle.kernel.proofs.WaitersLaws.{first-ready-cases}
use Rattle.library.specs.declared.tables.Plant.{Plant}
use Rattle.kernel.specs.Event.{took_flags}
use Rattle.library.specs.Mailbox.{post_tried, fetch_tried}
use Rattle.library.specs.Pool.{handed_over}
use Rattle.library.specs.Settling.{does_more, answered_only, went_on, continued, running_in, is_settled, settled}
use Rattle.library.specs.Tables.{with_kernel}
use Rattle.library.proofs.SettlingLaws.{settled-quiet}
use Rattle.promises.specs.Together.Good.{Good}
use Rattle.promises.specs.Kept.WordRule.{words-said}

-- ---- "the running thread is the first ready one, or idle"

-- of n threads r is ready, and nobody before it is
pub record FirstReady (k : Kernel) (n r : ℕ) : Type 0 where
  pub thread : r < n
  pub is-ready : (thread_at k r).state ≡ ready
  pub first : (j : ℕ) → j < r → (thread_at k j).state ≢ ready

-- none of n threads is ready, and r is 255: "idle is shown as 255"
pub record NobodyReady (k : Kernel) (n r : ℕ) : Type 0 where
  pub nobody : r ≡ 255
  pub none : (j : ℕ) → j < n → (thread_at k j).state ≢ ready

unready : (t : Thread) → is_ready t ≡ false → t.state ≢ ready
unready t e s = contrary (eq-eqb t.state ready s) e

-- "the running thread is the first ready one, or idle"
pub running-first : (p : Plant) → Good p
    → FirstReady p.kernel p.sizes.threads (running_in p) ⊎ NobodyReady p.kernel p.sizes.threads (running_in p)
running-first p g =
    let k = p.kernel in
    elim (first-ready-cases k p.sizes.threads g.sizes.threads.1 (words-said k p.sizes g.sizes g.words).ready) [
      | inl c ↦ inl (record {
        thread = c.below;
        is-ready = eqb-true (thread_at k (running_in p)).state ready c.passes;
        first = λ j h. unready (thread_at k j) (c.least j h);
      })
      | inr c ↦ inr (record { nobody = c.0; none = λ j h. unready (thread_at k j) (c.1 j h) })
    ]

-- ---- "If it has an unfinished call, that call is continued"

module _ (p : Plant) (i : ℕ) where
  abbrev t : Thread
  t = thread_at p.kernel i

  -- a call that does more, woken with 0, is more than answered
  not-answered : does_more t.call.kind ≡ true → t.message ≡ pos 0 → answered_only t ≡ false
  not-answered b m = rw (b, m)

  -- an event wait "clears and answers all pending flags in its mask"
  pub flags-now : t.call.kind ≡ 14 → t.message ≡ pos 0 → went_on p i ≡ with_kernel p (took_flags p.kernel i t.call.operand)
  unfolding went_on
  flags-now e m = rw (not-answered (rw e) m, e)

  -- "mailbox, wake message 0: the whole mailbox rule is tried again"
  pub post-again : (t.call.kind ≡ 15) ⊎ (t.call.kind ≡ 16) → t.message ≡ pos 0 → went_on p i ≡ post_tried p i t.call
  unfolding went_on
  post-again (inl e) m = rw (not-answered (rw e) m, e)
  post-again (inr e) m = rw (not-answered (rw e) m, e)

  -- .. of a fetch
  pub fetch-again : t.call.kind ≡ 17 → t.message ≡ pos 0 → went_on p i ≡ fetch_tried p i t.call
  unfolding went_on
  fetch-again e m = rw (not-answered (rw e) m, e)

  -- "pool, message 0: it takes the top"
  pub alloc-again : t.call.kind ≡ 20 → t.message ≡ pos 0 → went_on p i ≡ handed_over p i t.call.object
  unfolding went_on
  alloc-again e m = rw (not-answered (rw e) m, e)

-- ---- "Then the running thread is chosen anew"

-- the threads whose calls are continued, in order, with a budget
unfoldable pub turns : ℕ → Plant → List ℕ
turns zero p = []
turns (suc n) p = elim (is_settled p) [ true ↦ [] | false ↦ running_in p ∷ turns n (continued p (running_in p)) ]

module _ (p : Plant) where
  -- an unfinished call of the running thread is continued, and settling goes on with whoever runs then
  pub settle-on : (n : ℕ) → (thread_at p.kernel (running_in p)).call.kind ≢ 0
      → settled (suc n) p ≡ settled n (continued p (running_in p))
  unfolding settled
  settle-on n d = rw (ne_eqb (thread_at p.kernel (running_in p)).call.kind 0 d, settled)

  -- "Settling ends when the running thread has no unfinished call"
  pub settle-stops : (n : ℕ) → (thread_at p.kernel (running_in p)).call.kind ≡ 0 → settled n p ≡ p
  settle-stops n e =
      sym (settled-quiet n p p (running_free p.kernel) refl refl (eq-eqb (thread_at p.kernel (running_in p)).call.kind 0 e))

  -- and each continued call is a turn
  pub turns-none : turns 0 p ≡ []
  unfolding turns
  turns-none = refl

  pub turns-on : (n : ℕ) → (thread_at p.kernel (running_in p)).call.kind ≢ 0
      → turns (suc n) p ≡ running_in p ∷ turns n (continued p (running_in p))
  unfolding turns
  turns-on n d = rw (ne_eqb (thread_at p.kernel (running_in p)).call.kind 0 d, turns)

  pub turns-stop : (n : ℕ) → (thread_at p.kernel (running_in p)).call.kind ≡ 0 → turns n p ≡ []
  unfolding turns
  turns-stop zero e = refl
  turns-stop (suc n) e = rw (eq-eqb (thread_at p.kernel (running_in p)).call.kind 0 e, turns)
