-- The sizes and their limits: "Threads T 1 to 16 .. Semaphores S 0 to 16. Queues Q 0 to 8. References R 0 to 8. Mailboxes M 0 to 4,
-- each of 1 to 16 slots. Pools P 0 to 4"
use Rattle.std.specs.Prelude.{ℕ, Bool, ◌&&◌, ◌||◌, leb, get_or, replicate}
use Rattle.library.specs.declared.sizes.Sizes.{Sizes}

-- the slots of mailbox i
abbrev pub slots_at : Sizes → ℕ → ℕ
slots_at s i = get_or s.slots i 0

-- mailbox i, if there is one, has 1 to 16 slots
abbrev pub slots_fit : Sizes → ℕ → Bool
slots_fit s i = leb s.mailboxes i || (leb 1 (slots_at s i) && leb (slots_at s i) 16)

-- each size is within its limits
unfoldable pub sizes_fit : Sizes → Bool
sizes_fit s =
    leb 1 s.threads
    && (leb s.threads 16
    && (leb s.semaphores 16
    && (leb s.queues 8
    && (leb s.references 8
    && (leb s.mailboxes 4
    && (leb s.pools 4 && (slots_fit s 0 && (slots_fit s 1 && (slots_fit s 2 && slots_fit s 3)))))))))

-- no threads and no objects
abbrev pub no_sizes : Sizes
no_sizes =
    record {
      threads = 0;
      semaphores = 0;
      queues = 0;
      references = 0;
      mailboxes = 0;
      pools = 0;
      slots = replicate 4 0;
    }
