-- Where reading a trace ends. A refused read and the end move no reader, so reading on from there changes nothing.
use Rattle.std.specs.Prelude.{ℕ, zero, suc, List}
use Rattle.trace.specs.Decoding.{next_read}

-- the reader's place after n reads from a place
unfoldable pub place_read : ℕ → List ℕ → ℕ → ℕ
place_read zero s at = at
place_read (suc n) s at = place_read n s (next_read s at).next
