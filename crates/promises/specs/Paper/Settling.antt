-- SETTLING: which call is continued, how, and when it ends.
use Rattle.std.specs.Prelude.{ℕ, ◌≡◌, ◌≢◌, ◌⊎◌, List, [], ◌∷◌, pos}
use Rattle.promises.specs.Paper.World.{World, ended, First}
use Rattle.promises.specs.Paper.Rows.{took_flags, Post, Fetch, top_taken}

-- ---- settling

-- neither an event wait, nor a mailbox's call, nor a pool's
abbrev pub IsOther : ℕ → Type 0
IsOther n = (n ≢ 14) × (n ≢ 15) × (n ≢ 16) × (n ≢ 17) × (n ≢ 20)

-- "that call is continued", of thread i
pub data Continued (w : World) (i : ℕ) (x : World) : Type 0 where
  -- of document 02: "then clears and answers all pending flags in its mask"
  flags : (w.thread i).call.kind ≡ 14 → (w.thread i).message ≡ pos 0 → x ≡ took_flags w i (w.thread i).call.operand → Continued w i x
  -- "mailbox, wake message 0: the whole mailbox rule is tried again"; the call has its FULL timeout
  posts : ((w.thread i).call.kind ≡ 15) ⊎ ((w.thread i).call.kind ≡ 16) → (w.thread i).message ≡ pos 0
      → Post w i (w.thread i).call x → Continued w i x
  fetches : (w.thread i).call.kind ≡ 17 → (w.thread i).message ≡ pos 0 → Fetch w i (w.thread i).call x → Continued w i x
  -- "pool, message 0: it takes the top"
  takes : (w.thread i).call.kind ≡ 20 → (w.thread i).message ≡ pos 0 → x ≡ top_taken w i (w.thread i).call.object → Continued w i x
  -- "all others answer their wake message with datum 0"
  answers : IsOther (w.thread i).call.kind ⊎ ((w.thread i).message ≢ pos 0) → x ≡ ended w i (w.thread i).message 0
      → Continued w i x

-- "If it has an unfinished call, that call is continued", "Then the running thread is chosen anew", "Settling ends when the running
-- thread has no unfinished call": from w to x, by the continued calls of these threads, one after the other
pub data Settles (x : World) : World → List ℕ → Type 0 where
  ends : {w : World} → ((i : ℕ) → First w i → (w.thread i).call.kind ≡ 0) → x ≡ w → Settles x w []
  goes : {w : World} {is : List ℕ} (i : ℕ) → First w i → (w.thread i).call.kind ≢ 0 → (v : World) → Continued w i v → Settles x v is
      → Settles x w (i ∷ is)
