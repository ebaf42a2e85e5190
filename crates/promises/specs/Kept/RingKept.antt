-- A mailbox's positions stay good, whatever call is made on it, and the slot that a call is given is one of the mailbox's.
use Rattle.std.specs.Prelude.{ℕ, ◌+◌, ◌-◌, ◌%◌, ◌≤◌, ◌<◌, ◌≡◌, ◌≢◌, ◌↔◌, Bool, true, false, cond, eqb, ltb, length}
use Rattle.std.proofs.Math.Nat.{zero-mod, mod_self, mod-add-mod}
use Rattle.std.proofs.Common.{mod-eq_of_lt, mod-lt, ◌∙◌, length-set, get_or-set_same, get_or-set_other}
use native.Mathlib.Omega.{arith}
use Rattle.std.proofs.Math.Path.{refl, sym, ap}
use Rattle.std.proofs.Math.Seq.{set_out}
use borrow.Author.Tests.{ltb-true, ltb-false, lt-ltb, le-ltb}
use Rattle.kernel.specs.declared.records.Call.{Call}
use Rattle.kernel.specs.declared.records.Kernel.{Kernel}
use Rattle.kernel.proofs.Cases.{same_or, in-or-out, chosen}
use Rattle.library.specs.declared.ring.Positions.{Positions}
use Rattle.library.specs.declared.ring.Placed.{Placed}
use Rattle.library.specs.declared.tables.Mailbox.{Mailbox}
use Rattle.library.specs.declared.tables.Plant.{Plant}
use Rattle.library.specs.Sizes.{slots_at}
use Rattle.library.specs.Ring.{no_slot, place_after, place_before, posted, posted_ahead, fetched, emptied}
use Rattle.library.specs.Tables.{blank_mailbox, mailbox_at, with_kernel, with_mailbox}
use Rattle.library.specs.Mailbox.{placed_for, post_done, post_tried, fetch_done, fetch_tried, mailbox_reset, mailbox_resumed}
use Rattle.library.proofs.RingLaws.{Fitting}

-- ---- places in a ring

-- the next place is one more, modulo slots
pub after-mod : (p slots : ℕ) → p < slots → place_after p slots ≡ (p + 1) % slots
after-mod p slots h =
    in-or-out (p + 1) slots (λ l. rw (lt-ltb (p + 1) slots l) (sym (mod-eq_of_lt l)))
    (λ l. let end : p + 1 ≡ slots = omega arith in rw (le-ltb (p + 1) slots l, end) (sym (mod_self slots)))

-- and the one before is the place of which this is the next
pub before-mod : (p slots : ℕ) → p < slots → (place_before p slots + 1) % slots ≡ p
before-mod p slots h =
    in-or-out 0 p
    (λ l. let on : p - 1 + 1 ≡ p = omega arith in rw (lt-ltb 0 p l, on) (mod-eq_of_lt h))
    (λ l.
    let end : slots - 1 + 1 ≡ slots = omega arith in
    let first : p ≡ 0 = omega arith in
    rw (le-ltb 0 p l, end, mod_self slots) (sym first))

-- which is in the ring too
pub before-lt : (p slots : ℕ) → p < slots → place_before p slots < slots
before-lt p slots h = chosen (λ x. x < slots) (ltb 0 p) (λ e. omega arith) (λ e. omega arith)

-- ---- the slot of a call, or none

-- what a call on a mailbox of so many slots is given: a slot of it, or none exactly where what bars the call is so
pub record SlotGiven (x : Placed) (slots : ℕ) (barred : Type 0) : Type 0 where
  pub within : x.slot ≢ no_slot → x.slot < slots
  pub none : (x.slot ≡ no_slot) ↔ barred

-- the positions r and the slot w where b, else no slot and the positions as they were
abbrev placed_if : Bool → ℕ → Positions → Positions → Placed
placed_if b w r q = cond b (record { slot = w; positions = r }) (record { slot = no_slot; positions = q })

given-if : (b : Bool) (w : ℕ) (r q : Positions) (slots : ℕ) (barred : Type 0) → slots ≤ 16 → w < slots
    → (b ≡ true → barred → ⊥) → (b ≡ false → barred) → SlotGiven (placed_if b w r q) slots barred
given-if true w r q slots barred few h opens bars =
    record { within = λ d. h; none = (λ (e : w ≡ 255). absurd (omega arith), λ z. absurd (opens refl z)) }
given-if false w r q slots barred few h opens bars =
    record { within = λ d. absurd (d refl); none = (λ e. bars refl, λ z. refl) }

module _ (q : Positions) (slots : ℕ) (g : Fitting q slots) where
  some : 0 < slots
  some = omega (arith, g.read)

  room : ltb q.count slots ≡ true → q.count ≡ slots → ⊥
  room t e = absurd (omega (arith, ltb-true q.count slots t))

  full : ltb q.count slots ≡ false → q.count ≡ slots
  full t = omega (arith, g.count, ltb-false q.count slots t)

  -- "With room, post writes at the write place"
  pub posted-good : Fitting (posted q slots).positions slots
  unfolding posted
  posted-good =
      chosen (λ (x : Placed). Fitting x.positions slots) (ltb q.count slots)
      (λ e. record {
        count = omega (arith, ltb-true q.count slots e);
        read = g.read;
        write = rw (after-mod q.write slots g.write) (mod-lt (q.write + 1) some);
        follows = after-mod q.write slots g.write ∙ rw g.follows (mod-add-mod (q.read + q.count) slots 1 ∙ sum);
      })
      (λ e. g)
    where
      sum : (q.read + q.count + 1) % slots ≡ (q.read + (q.count + 1)) % slots
      sum = let e : q.read + q.count + 1 ≡ q.read + (q.count + 1) = omega arith in ap (λ n. n % slots) e

  -- "ahead steps the read place back and writes there"
  pub ahead-good : Fitting (posted_ahead q slots).positions slots
  unfolding posted_ahead
  ahead-good =
      chosen (λ (x : Placed). Fitting x.positions slots) (ltb q.count slots)
      (λ e. record {
        count = omega (arith, ltb-true q.count slots e);
        read = before-lt q.read slots g.read;
        write = g.write;
        follows = g.follows
            ∙ ap (λ n. (n + q.count) % slots) (sym (before-mod q.read slots g.read))
            ∙ mod-add-mod (place_before q.read slots + 1) slots q.count
            ∙ sum;
      })
      (λ e. g)
    where
      sum : (place_before q.read slots + 1 + q.count) % slots ≡ (place_before q.read slots + (q.count + 1)) % slots
      sum =
          let e : place_before q.read slots + 1 + q.count ≡ place_before q.read slots + (q.count + 1) = omega arith in
          ap (λ n. n % slots) e

  -- "fetch takes from the read place"
  pub fetched-good : Fitting (fetched q slots).positions slots
  unfolding fetched
  fetched-good =
      chosen (λ (x : Placed). Fitting x.positions slots) (ltb 0 q.count)
      (λ e. record {
        count = omega (arith, g.count);
        read = rw (after-mod q.read slots g.read) (mod-lt (q.read + 1) some);
        write = g.write;
        follows = g.follows
            ∙ sum (ltb-true 0 q.count e)
            ∙ sym (rw (after-mod q.read slots g.read) (mod-add-mod (q.read + 1) slots (q.count - 1)));
      })
      (λ e. g)
    where
      sum : 0 < q.count → (q.read + q.count) % slots ≡ (q.read + 1 + (q.count - 1)) % slots
      sum h = let e : q.read + q.count ≡ q.read + 1 + (q.count - 1) = omega arith in ap (λ n. n % slots) e

  module _ (few : slots ≤ 16) where
    -- a post is given a slot exactly where there is room
    pub posted-slot : SlotGiven (posted q slots) slots (q.count ≡ slots)
    unfolding posted
    posted-slot =
        given-if (ltb q.count slots) q.write
        (record { read = q.read; write = place_after q.write slots; count = q.count + 1 }) q slots (q.count ≡ slots) few g.write
        room full

    -- and so is one ahead
    pub ahead-slot : SlotGiven (posted_ahead q slots) slots (q.count ≡ slots)
    unfolding posted_ahead
    ahead-slot =
        given-if (ltb q.count slots) (place_before q.read slots)
        (record { read = place_before q.read slots; write = q.write; count = q.count + 1 }) q slots (q.count ≡ slots) few
        (before-lt q.read slots g.read) room full

    -- a fetch is given one exactly where there is a message
    pub fetched-slot : SlotGiven (fetched q slots) slots (q.count ≡ 0)
    unfolding fetched
    fetched-slot =
        given-if (ltb 0 q.count) q.read
        (record { read = place_after q.read slots; write = q.write; count = q.count - 1 }) q slots (q.count ≡ 0) few g.read
        (λ t e. absurd (omega (arith, ltb-true 0 q.count t))) (λ t. omega (arith, ltb-false 0 q.count t))

-- "Reset empties, returns both places to 0"
pub emptied-good : (q : Positions) (slots : ℕ) → 1 ≤ slots → Fitting (emptied q).positions slots
unfolding emptied
emptied-good q slots h = record { count = omega arith; read = h; write = h; follows = sym (zero-mod slots) }

-- ---- all mailboxes of the tables

-- each mailbox that the sizes have is good
abbrev pub MailboxesGood : Plant → Type 0
MailboxesGood p = (m : ℕ) → m < p.sizes.mailboxes → Fitting (mailbox_at p m).positions (slots_at p.sizes m)

-- a call on one mailbox leaves all of them good, as many as there were, and touches neither sizes nor pools
pub record MailboxesKept (p h : Plant) : Type 0 where
  pub good : MailboxesGood h
  pub boxes : length h.mailboxes ≡ length p.mailboxes
  -- and each has as many slots as it had
  pub messages : (m : ℕ) → length (mailbox_at h m).messages ≡ length (mailbox_at p m).messages
  pub sizes : h.sizes ≡ p.sizes
  pub pools : h.pools ≡ p.pools

module _ (p : Plant) (g : MailboxesGood p) where
  -- the kernel part is no part of the mailboxes
  kernel-kept : (k : Kernel) → MailboxesKept p (with_kernel p k)
  kernel-kept k = record { good = g; boxes = refl; messages = λ m. refl; sizes = refl; pools = refl }

  -- one mailbox written
  box-kept : (k : Kernel) (n : ℕ) (b : Mailbox) → Fitting b.positions (slots_at p.sizes n)
      → length b.messages ≡ length (mailbox_at p n).messages → MailboxesKept p (with_mailbox (with_kernel p k) n b)
  box-kept k n b f w =
      record {
        good = λ m h.
            same_or m n
            (λ e. rw e
            (in-or-out n (length p.mailboxes) (λ l. rw (get_or-set_same p.mailboxes n b blank_mailbox l) f)
            (λ l. rw (set_out p.mailboxes n b l) (rw e at (g m h)))))
            (λ d. rw (get_or-set_other p.mailboxes n m b blank_mailbox d) (g m h));
        boxes = length-set p.mailboxes n b;
        messages = λ m.
            same_or m n
            (λ e. rw e
            (in-or-out n (length p.mailboxes) (λ l. rw (get_or-set_same p.mailboxes n b blank_mailbox l) w)
            (λ l. rw (set_out p.mailboxes n b l))))
            (λ d. rw (get_or-set_other p.mailboxes n m b blank_mailbox d));
        sizes = refl;
        pools = refl;
      }

  module _ (i : ℕ) (call : Call) where
    abbrev slots : ℕ
    slots = slots_at p.sizes call.object

    abbrev box : Mailbox
    box = mailbox_at p call.object

    -- a post that was given the positions of a good mailbox
    pub post-done-kept : (x : Placed) → Fitting x.positions slots → MailboxesKept p (post_done p i call x)
    unfolding post_done
    post-done-kept x f = box-kept _ call.object _ f (length-set box.messages x.slot call.operand)

    -- a fetch that was
    pub fetch-done-kept : (x : Placed) → Fitting x.positions slots → MailboxesKept p (fetch_done p i call x)
    unfolding fetch_done
    fetch-done-kept x f = box-kept _ call.object _ f refl

    module _ (there : call.object < p.sizes.mailboxes) where
      placed-good : Fitting (placed_for box call.kind slots).positions slots
      placed-good =
          chosen (λ (x : Placed). Fitting x.positions slots) (eqb call.kind 16)
          (λ e. ahead-good box.positions slots (g call.object there))
          (λ e. posted-good box.positions slots (g call.object there))

      -- a post, done or not
      pub post-tried-kept : MailboxesKept p (post_tried p i call)
      unfolding post_tried
      post-tried-kept =
          chosen (MailboxesKept p) (eqb box.reset 0)
          (λ e. chosen (MailboxesKept p) (eqb (placed_for box call.kind slots).slot no_slot) (λ f. kernel-kept _)
          (λ f. post-done-kept (placed_for box call.kind slots) placed-good))
          (λ e. kernel-kept _)

      -- a fetch, done or not
      pub fetch-tried-kept : MailboxesKept p (fetch_tried p i call)
      unfolding fetch_tried
      fetch-tried-kept =
          chosen (MailboxesKept p) (eqb box.reset 0)
          (λ e. chosen (MailboxesKept p) (eqb (fetched box.positions slots).slot no_slot) (λ f. kernel-kept _)
          (λ f. fetch-done-kept (fetched box.positions slots) (fetched-good box.positions slots (g call.object there))))
          (λ e. kernel-kept _)

  module _ (n : ℕ) (there : n < p.sizes.mailboxes) where
    -- a reset
    pub reset-kept : MailboxesKept p (mailbox_reset p n)
    unfolding mailbox_reset
    reset-kept =
        box-kept _ n _ (emptied-good (mailbox_at p n).positions (slots_at p.sizes n) (omega (arith, (g n there).read))) refl

    -- a resume
    pub resume-kept : MailboxesKept p (mailbox_resumed p n)
    unfolding mailbox_resumed
    resume-kept = box-kept p.kernel n _ (g n there) refl
