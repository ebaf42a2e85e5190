-- Why a thread woke (document 02): the cause that a call has for whomever it wakes.
use Rattle.std.specs.Prelude.{ℕ, Bool, cond, ◌||◌, eqb}
use Rattle.kernel.specs.Numbers.{
  no_cause,
  by_signal,
  by_release,
  by_resume,
  by_event,
  by_post,
  by_fetch,
  by_reset,
  by_tick,
}
use Rattle.kernel.specs.Tables.{with_cause}
use Rattle.library.specs.declared.tables.Plant.{Plant}
use Rattle.library.specs.Tables.{with_kernel}

-- 3 and 5; "A pool's free and add count as signal"
abbrev pub signals : ℕ → Bool
signals kind = eqb kind 3 || (eqb kind 5 || (eqb kind 21 || eqb kind 22))

-- "signal, release, resume, event, post, fetch, reset or tick", by the kind of the call; the others wake nobody
abbrev pub cause_of : ℕ → ℕ
cause_of kind =
    cond (signals kind) by_signal
    (cond (eqb kind 7 || eqb kind 8) by_release
    (cond (eqb kind 10) by_resume
    (cond (eqb kind 13) by_event
    (cond (eqb kind 15 || eqb kind 16) by_post
    (cond (eqb kind 17) by_fetch (cond (eqb kind 4 || eqb kind 18) by_reset (cond (eqb kind 1) by_tick no_cause)))))))

-- a call of this kind is at work
abbrev pub caused : Plant → ℕ → Plant
caused p kind = with_kernel p (with_cause p.kernel (cause_of kind))
