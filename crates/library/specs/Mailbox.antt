-- The mailbox rule. "15, 16, 17: mailbox post; post ahead; fetch. 18, 19: mailbox reset; resume"
use Rattle.std.specs.Prelude.{ℕ, cond, eqb, get_or, set}
use Rattle.kernel.specs.declared.records.Call.{Call}
use Rattle.kernel.specs.declared.records.Kernel.{Kernel}
use Rattle.kernel.specs.Numbers.{ok, was_reset}
use Rattle.kernel.specs.Places.{writers_place, readers_place}
use Rattle.kernel.specs.Moves.{finished}
use Rattle.kernel.specs.Queue.{enqueued, released_first, released_all}
use Rattle.library.specs.declared.ring.Positions.{Positions}
use Rattle.library.specs.declared.ring.Placed.{Placed}
use Rattle.library.specs.declared.tables.Mailbox.{Mailbox}
use Rattle.library.specs.declared.tables.Plant.{Plant}
use Rattle.library.specs.Sizes.{slots_at}
use Rattle.library.specs.Ring.{no_slot, posted, posted_ahead, fetched, emptied}
use Rattle.library.specs.Tables.{mailbox_at, with_kernel, with_mailbox}

abbrev pub message_at : Mailbox → ℕ → ℕ
message_at b slot = get_or b.messages slot 0

abbrev pub with_message : Mailbox → ℕ → ℕ → Mailbox
with_message b slot x =
    record { positions = b.positions; reset = b.reset; messages = set b.messages slot x }

abbrev pub with_positions : Mailbox → Positions → Mailbox
with_positions b q = record { positions = q; reset = b.reset; messages = b.messages }

abbrev pub with_reset : Mailbox → ℕ → Mailbox
with_reset b state = record { positions = b.positions; reset = state; messages = b.messages }

-- where a message goes: at the write place, or ahead of the read place
abbrev pub placed_for : Mailbox → ℕ → ℕ → Placed
placed_for b kind slots = cond (eqb kind 16) (posted_ahead b.positions slots) (posted b.positions slots)

-- the post has a slot: its message is written, and "the first of the other side's waiters" is released with 0
unfoldable pub post_done : Plant → ℕ → Call → Placed → Plant
post_done p i call placed =
    with_mailbox
    (with_kernel p
    (finished (released_first p.kernel (readers_place call.object) ok) i ok 0))
    call.object
    (with_message (with_positions (mailbox_at p call.object) placed.positions) placed.slot call.operand)

-- "in reset state post and fetch answer -2"; with room the message goes in; "Without room .. timeout 0 answers -1; otherwise the thread sleeps on its side's queue"
unfoldable pub post_tried : Plant → ℕ → Call → Plant
post_tried p i call =
    cond (eqb (mailbox_at p call.object).reset 0)
    (cond
    (eqb (placed_for (mailbox_at p call.object) call.kind (slots_at p.sizes call.object)).slot no_slot)
    (with_kernel p (enqueued p.kernel i (writers_place call.object) call))
    (post_done p i call (placed_for (mailbox_at p call.object) call.kind (slots_at p.sizes call.object))))
    (with_kernel p (finished p.kernel i was_reset 0))

-- the fetch has a slot: "A fetched message is the datum"
unfoldable pub fetch_done : Plant → ℕ → Call → Placed → Plant
fetch_done p i call placed =
    with_mailbox
    (with_kernel p
    (finished (released_first p.kernel (writers_place call.object) ok) i ok
    (message_at (mailbox_at p call.object) placed.slot)))
    call.object
    (with_positions (mailbox_at p call.object) placed.positions)

unfoldable pub fetch_tried : Plant → ℕ → Call → Plant
fetch_tried p i call =
    cond (eqb (mailbox_at p call.object).reset 0)
    (cond
    (eqb (fetched (mailbox_at p call.object).positions (slots_at p.sizes call.object)).slot no_slot)
    (with_kernel p (enqueued p.kernel i (readers_place call.object) call))
    (fetch_done p i call (fetched (mailbox_at p call.object).positions (slots_at p.sizes call.object))))
    (with_kernel p (finished p.kernel i was_reset 0))

-- ".. releases both queues with -2"
unfoldable pub both_released : Kernel → ℕ → Kernel
both_released k b = released_all (released_all k (writers_place b) was_reset) (readers_place b) was_reset

-- "Reset empties, returns both places to 0, sets reset state and releases both queues with -2"
unfoldable pub mailbox_reset : Plant → ℕ → Plant
mailbox_reset p b =
    with_mailbox (with_kernel p (both_released p.kernel b)) b
    (with_reset (with_positions (mailbox_at p b) (emptied (mailbox_at p b).positions).positions) 1)

-- "resume clears the state"
unfoldable pub mailbox_resumed : Plant → ℕ → Plant
mailbox_resumed p b = with_mailbox p b (with_reset (mailbox_at p b) 0)
