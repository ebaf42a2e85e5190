-- Who is first, by the words. "index 0 highest in priority"
use Rattle.std.specs.Prelude.{ℕ, Bool, ◌&&◌, List, ◌==◌}
use Rattle.kernel.specs.declared.records.Thread.{Thread}
use Rattle.kernel.specs.declared.records.Kernel.{Kernel}
use Rattle.kernel.specs.Numbers.{ready, queued}
use Rattle.kernel.specs.Tables.{row_in}
use Rattle.kernel.specs.Words.{first_of, waiting_at}

abbrev pub is_ready : Thread → Bool
is_ready t = t.state == ready

-- queued at the place p
abbrev pub queued_at : ℕ → Thread → Bool
queued_at p t = t.state == queued && t.place == p

-- "the running thread is the first ready one, or idle": "finding .. should read the word"
unfoldable pub first_ready : Kernel → ℕ
first_ready k = first_of k.words.ready

-- thread i has no "unfinished call"; nobody has none
abbrev pub call_free : List Thread → ℕ → Bool
call_free threads i = (row_in threads i).call.kind == 0

-- "the running thread has no unfinished call"
abbrev pub running_free : Kernel → Bool
running_free k = call_free k.threads (first_ready k)

-- "the highest-priority waiter", or nobody
unfoldable pub first_waiter : Kernel → ℕ → ℕ
first_waiter k p = first_of (waiting_at k.words p)
