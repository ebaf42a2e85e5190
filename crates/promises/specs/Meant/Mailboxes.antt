-- The mailbox rule of the meanings, arm by arm: a mailbox of tables that hang together has room, or is full; has a message, or is empty.
use Rattle.std.specs.Prelude.{ℕ, ◌-◌, ◌≤◌, ◌<◌, ◌≡◌, ◌≢◌, eqb, length}
use Rattle.std.proofs.Common.{arith}
use borrow.Author.Tests.{eq-eqb, ne_eqb, lt-ltb}
use Rattle.kernel.specs.declared.records.Call.{Call}
use Rattle.kernel.specs.Places.{writers_place, readers_place}
use Rattle.kernel.specs.Queue.{enqueued}
use Rattle.kernel.proofs.Cases.{chosen}
use Rattle.kernel.proofs.TablesLaws.{Sized}
use Rattle.library.specs.declared.ring.Positions.{Positions}
use Rattle.library.specs.declared.ring.Placed.{Placed}
use Rattle.library.specs.declared.tables.Plant.{Plant}
use Rattle.library.specs.Sizes.{slots_at}
use Rattle.library.specs.Ring.{no_slot, place_after, fetched}
use Rattle.library.specs.Tables.{mailbox_at, with_kernel}
use Rattle.library.specs.Mailbox.{placed_for, post_done, post_tried, fetch_done, fetch_tried}
use Rattle.library.proofs.RingLaws.{Fitting}
use Rattle.promises.specs.Together.Good.{Good}
use Rattle.promises.specs.Kept.RingKept.{posted-slot, ahead-slot, fetched-slot}

-- ---- the tables

-- a mailbox of tables that hang together: it has its row, its 16 places for messages, and good positions
pub record BoxThere (p : Plant) (b : ℕ) : Type 0 where
  pub number : b < 4
  pub row : b < length p.mailboxes
  pub messages : length (mailbox_at p b).messages ≡ 16
  pub few : slots_at p.sizes b ≤ 16
  pub good : Fitting (mailbox_at p b).positions (slots_at p.sizes b)

-- such are those of tables that hang together
pub good-box : (p : Plant) (b : ℕ) → Good p → length p.mailboxes ≡ 4 → length (mailbox_at p b).messages ≡ 16
    → b < p.sizes.mailboxes
    → BoxThere p b
good-box p b g four sixteen h =
    let few = g.sizes.mailboxes in
    record {
      number = omega arith;
      row = rw four (omega arith);
      messages = sixteen;
      few = (g.sizes.slots b h).1;
      good = g.mailboxes b h;
    }

-- ---- a message goes in

-- a mailbox's positions
abbrev pub positions_at : Plant → ℕ → Positions
positions_at p b = (mailbox_at p b).positions

-- ---- 15, 16, 17: post, post ahead and fetch

module _ (p : Plant) (i : ℕ) (call : Call) where
  abbrev pub b : ℕ
  b = call.object

  abbrev pub slots : ℕ
  slots = slots_at p.sizes b

  abbrev pub q : Positions
  q = positions_at p b

  abbrev pub placed : Placed
  placed = placed_for (mailbox_at p b) call.kind slots

  module _ (there : BoxThere p b) (works : (mailbox_at p b).reset ≡ 0) where
    placed-full : q.count ≡ slots → placed.slot ≡ no_slot
    placed-full e =
        chosen (λ (x : Placed). x.slot ≡ no_slot) (eqb call.kind 16)
        (λ k. (ahead-slot q slots there.good there.few).none.1 e)
        (λ k. (posted-slot q slots there.good there.few).none.1 e)

    placed-room : q.count < slots → placed.slot ≢ no_slot
    placed-room l =
        chosen (λ (x : Placed). x.slot ≢ no_slot) (eqb call.kind 16)
        (λ k e. apart ((ahead-slot q slots there.good there.few).none.0 e))
        (λ k e. apart ((posted-slot q slots there.good there.few).none.0 e))
      where
        apart : q.count ≡ slots → ⊥
        apart e = omega arith

    pub full-waits : q.count ≡ slots → post_tried p i call ≡ with_kernel p (enqueued p.kernel i (writers_place b) call)
    unfolding post_tried
    full-waits e = rw (eq-eqb (mailbox_at p b).reset 0 works, eq-eqb placed.slot no_slot (placed-full e))

    pub room-done : q.count < slots → post_tried p i call ≡ post_done p i call placed
    unfolding post_tried
    room-done l = rw (eq-eqb (mailbox_at p b).reset 0 works, ne_eqb placed.slot no_slot (placed-room l))

  -- ---- 17: fetch

  module _ (there : BoxThere p b) (works : (mailbox_at p b).reset ≡ 0) where
    pub empty-waits : q.count ≡ 0 → fetch_tried p i call ≡ with_kernel p (enqueued p.kernel i (readers_place b) call)
    unfolding fetch_tried
    empty-waits e =
        rw (
          eq-eqb (mailbox_at p b).reset 0 works,
          eq-eqb (fetched q slots).slot no_slot ((fetched-slot q slots there.good there.few).none.1 e),
        )

    abbrev pub x : Placed
    x = record { slot = q.read; positions = record { read = place_after q.read slots; write = q.write; count = q.count - 1 } }

    pub message-done : 0 < q.count → fetch_tried p i call ≡ fetch_done p i call x
    unfolding fetch_tried fetched
    message-done l =
        rw (
          eq-eqb (mailbox_at p b).reset 0 works,
          lt-ltb 0 q.count l,
          ne_eqb q.read no_slot (small there.good.read),
        )
      where
        small : q.read < slots → q.read ≢ 255
        small h = omega (arith, there.few)

-- ---- 18: reset

module _ (p : Plant) (b : ℕ) where
  module _ (z : Sized p.kernel) (few : p.sizes.threads ≤ 16) where
    apart : writers_place b ≢ readers_place b
    apart e = omega arith
