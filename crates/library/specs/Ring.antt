-- A mailbox's or a pipe's positions: whether they fit its slots; and after each call, beside the slot that the call is about.
use Rattle.std.specs.Prelude.{ℕ, ◌+◌, ◌-◌, ◌%◌, Bool, cond, ◌&&◌, eqb, ltb, leb, Option, Some, None}
use Rattle.library.specs.declared.ring.Positions.{Positions}
use Rattle.library.specs.declared.ring.Placed.{Placed}

-- "places, counts (a mailbox's 0 to its slots) .. are in range"
abbrev pub in_ring : Positions → ℕ → Bool
in_ring q slots = leb q.count slots && (ltb q.read slots && ltb q.write slots)

-- "A mailbox's write place is its read place plus its count, modulo slots"; there are slots
abbrev pub follows : Positions → ℕ → Bool
follows q slots = ltb 0 slots && eqb q.write ((q.read + q.count) % slots)

-- both rules of the positions
unfoldable pub positions_fit : Positions → ℕ → Bool
positions_fit q slots = in_ring q slots && follows q slots

-- no slot: no room, or no message
abbrev pub no_slot : ℕ
no_slot = 255

-- the next place in a ring, and the one before
abbrev pub place_after : ℕ → ℕ → ℕ
place_after p slots = cond (ltb (p + 1) slots) (p + 1) 0

abbrev pub place_before : ℕ → ℕ → ℕ
place_before p slots = cond (ltb 0 p) (p - 1) (slots - 1)

-- "With room, post writes at the write place"
unfoldable pub posted : Positions → ℕ → Placed
posted q slots =
    cond (ltb q.count slots)
    (record {
      slot = q.write;
      positions = record { read = q.read; write = place_after q.write slots; count = q.count + 1 };
    })
    (record { slot = no_slot; positions = q })

-- "ahead steps the read place back and writes there"
unfoldable pub posted_ahead : Positions → ℕ → Placed
posted_ahead q slots =
    cond (ltb q.count slots)
    (record {
      slot = place_before q.read slots;
      positions = record { read = place_before q.read slots; write = q.write; count = q.count + 1 };
    })
    (record { slot = no_slot; positions = q })

-- "fetch takes from the read place"
unfoldable pub fetched : Positions → ℕ → Placed
fetched q slots =
    cond (ltb 0 q.count)
    (record {
      slot = q.read;
      positions = record { read = place_after q.read slots; write = q.write; count = q.count - 1 };
    })
    (record { slot = no_slot; positions = q })

-- "Reset empties, returns both places to 0"
unfoldable pub emptied : Positions → Placed
emptied q = record { slot = no_slot; positions = record { read = 0; write = 0; count = 0 } }

-- what a call gives: a slot with the positions after it, if there is room or a message
abbrev pub given_if : Bool → Placed → Option Placed
given_if b x = cond b (Some x) None
