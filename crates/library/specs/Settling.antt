-- Settling. "If it has an unfinished call, that call is continued"; "Then the running thread is chosen anew"
use Rattle.std.specs.Prelude.{ℕ, zero, suc, Bool, true, false, cond, not, ◌||◌, eqb, pos}
use Rattle.kernel.specs.declared.records.Thread.{Thread}
use Rattle.kernel.specs.Tables.{thread_at}
use Rattle.kernel.specs.Moves.{finished}
use Rattle.kernel.specs.Event.{took_flags}
use Rattle.kernel.specs.Waiters.{first_ready, running_free}
use Rattle.library.specs.declared.tables.Plant.{Plant}
use Rattle.library.specs.Causes.{caused}
use Rattle.library.specs.Signs.{same}
use Rattle.library.specs.Mailbox.{post_tried, fetch_tried}
use Rattle.library.specs.Pool.{handed_over}
use Rattle.library.specs.Tables.{with_kernel}

-- a mailbox's or a pool's call
abbrev pub is_box_call : ℕ → Bool
is_box_call kind = eqb kind 15 || (eqb kind 16 || (eqb kind 17 || eqb kind 20))

-- those, and an event wait
abbrev pub does_more : ℕ → Bool
does_more kind = eqb kind 14 || is_box_call kind

-- any call but these with "wake message 0"
abbrev pub answered_only : Thread → Bool
answered_only t = cond (does_more t.call.kind) (not (same t.message (pos 0))) true

-- an event wait "clears and answers all pending flags in its mask" (document 02); "mailbox, wake message 0: the whole mailbox rule is tried
-- again"; "pool, message 0: it takes the top"; "all others answer their wake message with datum 0"
unfoldable pub went_on : Plant → ℕ → Plant
went_on p i =
    cond (answered_only (thread_at p.kernel i))
    (with_kernel p (finished p.kernel i (thread_at p.kernel i).message 0))
    (cond (eqb (thread_at p.kernel i).call.kind 14)
    (with_kernel p (took_flags p.kernel i (thread_at p.kernel i).call.operand))
    (cond (eqb (thread_at p.kernel i).call.kind 17) (fetch_tried p i (thread_at p.kernel i).call)
    (cond (eqb (thread_at p.kernel i).call.kind 20) (handed_over p i (thread_at p.kernel i).call.object)
    (post_tried p i (thread_at p.kernel i).call))))

-- thread i's call is at work, and goes on
abbrev pub continued : Plant → ℕ → Plant
continued p i = went_on (caused p (thread_at p.kernel i).call.kind) i

-- "the running thread is the first ready one, or idle"
abbrev pub running_in : Plant → ℕ
running_in p = first_ready p.kernel

-- "Settling ends when the running thread has no unfinished call"
abbrev pub is_settled : Plant → Bool
is_settled p = running_free p.kernel

-- with a budget of continuations
unfoldable pub settled : ℕ → Plant → Plant
settled zero p = p
settled (suc n) p = elim (is_settled p) [ true ↦ p | false ↦ settled n (continued p (running_in p)) ]
