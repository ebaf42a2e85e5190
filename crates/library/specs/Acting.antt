-- What an accepted step does before settling, kind by kind, in the order of document 01's table.
use Rattle.std.specs.Prelude.{ℕ, ◌%◌, Bool, cond, ◌||◌, eqb, leb}
use Rattle.std.specs.Int.{w32}
use Rattle.std.proofs.Common.{to_z}
use Rattle.kernel.specs.declared.time.SystemTime.{SystemTime}
use Rattle.kernel.specs.declared.records.Kernel.{Kernel}
use Rattle.kernel.specs.Numbers.{ok, not_counted}
use Rattle.kernel.specs.Places.{semaphore_place, queue_place}
use Rattle.kernel.specs.Moves.{finished}
use Rattle.kernel.specs.Queue.{enqueued, released_first, released_all}
use Rattle.kernel.specs.Semaphore.{waited, signalled, reset_to}
use Rattle.kernel.specs.Reference.{suspended_on, resumed}
use Rattle.kernel.specs.Delay.{slept_for, slept_until}
use Rattle.kernel.specs.Event.{event_signalled, event_waited}
use Rattle.kernel.specs.Ticking.{ticked}
use Rattle.library.specs.declared.calls.Step.{Step}
use Rattle.library.specs.declared.tables.Plant.{Plant}
use Rattle.library.specs.Calls.{call_of}
use Rattle.library.specs.Binary.{binary_signalled}
use Rattle.library.specs.Mailbox.{post_tried, fetch_tried, mailbox_reset, mailbox_resumed}
use Rattle.library.specs.Pool.{alloc_tried, put_back}
use Rattle.library.specs.Tables.{with_kernel}

-- "The operand a is read as signed 32-bit where it is a message"
abbrev pub message_of : Step → lib.IntN.ℤ
message_of s = to_z w32 s.a

-- 3: a plain signal at the top "answers message 1 in place of 0"
abbrev pub signal_message : Bool → lib.IntN.ℤ
signal_message counted = cond counted ok not_counted

unfoldable pub signal_acted : Kernel → ℕ → ℕ → Kernel
signal_acted k i p = finished (signalled k p).kernel i (signal_message (signalled k p).counted) 0

-- 2, 3, 6, 9, 11, 12, 14: the calls of the kernel part that have an answer of their own; all but 3 may sleep
unfoldable pub call_made : Kernel → SystemTime → Step → Kernel
call_made k now s =
    cond (eqb s.kind 2) (waited k s.caller (semaphore_place s.object) (call_of s))
    (cond (eqb s.kind 3) (signal_acted k s.caller (semaphore_place s.object))
    (cond (eqb s.kind 6) (enqueued k s.caller (queue_place s.object) (call_of s))
    (cond (eqb s.kind 9) (suspended_on k s.caller s.object (call_of s))
    (cond (eqb s.kind 11) (slept_for k s.caller (record { 0 = s.timeout }))
    (cond (eqb s.kind 12) (slept_until k s.caller now (record { 0 = s.a }))
    (event_waited k s.caller (call_of s)))))))

-- 1, 4, 5, 7, 8, 10, 13: those that answer 0 and 0
unfoldable pub effected : Kernel → ℕ → Step → Kernel
effected k n s =
    cond (eqb s.kind 1) (ticked k n)
    (cond (eqb s.kind 4) (reset_to k (semaphore_place s.object) (message_of s))
    (cond (eqb s.kind 5) (binary_signalled k (semaphore_place s.object))
    (cond (eqb s.kind 7) (released_first k (queue_place s.object) (message_of s))
    (cond (eqb s.kind 8) (released_all k (queue_place s.object) (message_of s))
    (cond (eqb s.kind 10) (resumed k s.object (message_of s)) (event_signalled k s.object s.a))))))

-- those that may sleep
abbrev pub kernel_waits : ℕ → Bool
kernel_waits kind =
    eqb kind 2 || (eqb kind 6 || (eqb kind 9 || (eqb kind 11 || (eqb kind 12 || eqb kind 14))))

abbrev pub answers_itself : ℕ → Bool
answers_itself kind = eqb kind 3 || kernel_waits kind

-- 1 to 14: "A thread's call that doesn't sleep finishes at once"
unfoldable pub acted_on_kernel : Kernel → ℕ → SystemTime → Step → Kernel
acted_on_kernel k n now s =
    cond (answers_itself s.kind) (call_made k now s) (finished (effected k n s) s.caller ok 0)

-- 18, 19, 21, 22: the calls of the library part that never sleep
unfoldable pub box_effected : Plant → Step → Plant
box_effected p s =
    cond (eqb s.kind 18) (mailbox_reset p s.object)
    (cond (eqb s.kind 19) (mailbox_resumed p s.object) (put_back p s.object (s.a % 256)))

-- a plant whose caller's call finishes with 0 and 0
abbrev pub finished_at_once : Plant → ℕ → Plant
finished_at_once p i = with_kernel p (finished p.kernel i ok 0)

-- 15 to 22
unfoldable pub acted_on_box : Plant → Step → Plant
acted_on_box p s =
    cond (eqb s.kind 15) (post_tried p s.caller (call_of s))
    (cond (eqb s.kind 16) (post_tried p s.caller (call_of s))
    (cond (eqb s.kind 17) (fetch_tried p s.caller (call_of s))
    (cond (eqb s.kind 20) (alloc_tried p s.caller (call_of s)) (finished_at_once (box_effected p s) s.caller))))

-- an accepted step; now is the time before it
unfoldable pub acted : Plant → SystemTime → Step → Plant
acted p now s =
    cond (leb s.kind 14) (with_kernel p (acted_on_kernel p.kernel p.sizes.threads now s)) (acted_on_box p s)
