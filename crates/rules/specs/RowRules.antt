-- Whether a thread's record hangs together by itself: "Wait place, call fields and awaited flags are as a thread's record says".
use Rattle.std.specs.Prelude.{ℕ, Bool, cond, not, ◌&&◌, ◌||◌, eqb, ltb, leb}
use Rattle.kernel.specs.declared.records.Call.{Call}
use Rattle.kernel.specs.declared.records.Thread.{Thread}
use Rattle.kernel.specs.declared.records.Kernel.{Kernel}
use Rattle.kernel.specs.Numbers.{nowhere, ready, sleeping, suspended, queued, awaiting, infinite, by_tick}
use Rattle.kernel.specs.Places.{semaphore_place, pool_place, queue_place, writers_place, readers_place}
use Rattle.kernel.specs.Tables.{used_rows, thread_at}
use Rattle.kernel.specs.Waiters.{is_ready}
use Rattle.kernel.specs.Moves.{awaited_by}
use Rattle.kernel.specs.Event.{is_met}
use Rattle.kernel.specs.Walk.{all_from}
use Rattle.library.specs.declared.sizes.Sizes.{Sizes}
use Rattle.library.specs.Calls.{keeps_operand}

-- kinds 11 and 12
abbrev pub is_sleep : ℕ → Bool
is_sleep kind = eqb kind 11 || eqb kind 12

-- kinds 15 and 16
abbrev pub is_post : ℕ → Bool
is_post kind = eqb kind 15 || eqb kind 16

-- kinds 15 to 17
abbrev pub is_mailing : ℕ → Bool
is_mailing kind = is_post kind || eqb kind 17

-- the kinds that sleep on a semaphore, a queue, a mailbox's queue or a pool's semaphore
abbrev pub is_queueing : ℕ → Bool
is_queueing kind = eqb kind 2 || (eqb kind 6 || (is_mailing kind || eqb kind 20))

-- the kinds that sleep on no object
abbrev pub is_alone : ℕ → Bool
is_alone kind = is_sleep kind || eqb kind 14

-- "the objects of calls are in range": 11, 12 and 14 have the object 0 alone, and a kind that never sleeps has none
abbrev pub call_limit : Sizes → ℕ → ℕ
call_limit z kind =
    cond (eqb kind 2) z.semaphores
    (cond (eqb kind 6) z.queues
    (cond (eqb kind 9) z.references
    (cond (is_alone kind) 1 (cond (is_mailing kind) z.mailboxes (cond (eqb kind 20) z.pools 0)))))

-- "all 0 without one"
abbrev pub call_clear : Call → Bool
call_clear call = eqb call.object 0 && (eqb call.operand 0 && eqb call.timeout 0)

-- "An unfinished call is of kind 2, 6, 9, 11, 12, 14 to 17 or 20, its timeout above 0", and "keeps 0 for unused fields"
abbrev pub call_sound : Call → Sizes → Bool
call_sound call z =
    ltb call.object (call_limit z call.kind)
    && (leb 1 call.timeout && (keeps_operand call.kind || eqb call.operand 0))

-- "unfinished call (kind, object, operand, full timeout; all 0 without one)"
unfoldable pub call_fits : Thread → Sizes → Bool
call_fits t z = cond (eqb t.call.kind 0) (call_clear t.call) (call_sound t.call z)

-- the state in which a call of this kind sleeps
abbrev pub wait_state : ℕ → ℕ
wait_state kind =
    cond (is_queueing kind) queued
    (cond (eqb kind 9) suspended (cond (is_sleep kind) sleeping (cond (eqb kind 14) awaiting ready)))

-- the place at which a call of this kind on this object sleeps
abbrev pub wait_place : ℕ → ℕ → ℕ
wait_place kind object =
    cond (eqb kind 2) (semaphore_place object)
    (cond (eqb kind 6) (queue_place object)
    (cond (eqb kind 9) object
    (cond (is_post kind) (writers_place object)
    (cond (eqb kind 17) (readers_place object) (cond (eqb kind 20) (pool_place object) nowhere)))))

-- "where it waits (nowhere if ready)"; "a thread not ready has one that fits its wait"
unfoldable pub wait_fits : Thread → Bool
wait_fits t =
    cond (is_ready t) (eqb t.place nowhere)
    (eqb t.state (wait_state t.call.kind) && eqb t.place (wait_place t.call.kind t.call.object))

-- "Remaining ticks are 0 for a ready thread or an infinite timeout, else 1 to the call's timeout"
unfoldable pub ticks_fit : Thread → Bool
ticks_fit t =
    cond (is_ready t || eqb t.call.timeout infinite) (eqb t.remaining 0)
    (leb 1 t.remaining && leb t.remaining t.call.timeout)

-- "awaited flags (an unfinished 14's mask, else 0)"
abbrev pub awaited_fit : Thread → Bool
awaited_fit t = eqb t.awaited (awaited_by t.call)

-- "A thread awaiting events has none of its flags pending"
abbrev pub none_pending : Thread → Bool
none_pending t = not (is_met t)

-- both rules of the flags
unfoldable pub flags_fit : Thread → Bool
flags_fit t = awaited_fit t && none_pending t

-- of document 02: "a cause outside the list" does not hang together
abbrev pub cause_fits : Thread → Bool
cause_fits t = leb t.cause by_tick

-- a thread's record hangs together by itself
unfoldable pub row_fits : Thread → Sizes → Bool
row_fits t z = call_fits t z && (wait_fits t && (ticks_fit t && (flags_fit t && cause_fits t)))

-- each of the T records does so
unfoldable pub rows_fit : Kernel → Sizes → Bool
rows_fit k z = all_from (λ i. row_fits (thread_at k i) z) 0 (used_rows z.threads)
