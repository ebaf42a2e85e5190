-- The whole tables, between two steps and at work on one, read and written at an index.
use Rattle.std.specs.Prelude.{ℕ, List, get_or, set, replicate}
use Rattle.kernel.specs.declared.records.Kernel.{Kernel}
use Rattle.kernel.specs.Records.{begun, ended}
use Rattle.library.specs.declared.tables.Mailbox.{Mailbox}
use Rattle.library.specs.declared.tables.Pool.{Pool}
use Rattle.library.specs.declared.tables.Tables.{Tables}
use Rattle.library.specs.declared.tables.Plant.{Plant}

-- "mailboxes empty"
abbrev pub blank_mailbox : Mailbox
blank_mailbox =
    record { positions = record { read = 0; write = 0; count = 0 }; reset = 0; messages = replicate 16 0 }

-- "pool objects absent"
abbrev pub blank_pool : Pool
blank_pool = record { length = 0; list = replicate 32 0; marks = replicate 32 0 }

-- a step begins
abbrev pub opened : Tables → Plant
opened t =
    record {
      kernel = begun t.kernel;
      mailboxes = t.mailboxes;
      pools = t.pools;
      sizes = t.sizes;
    }

-- what a step leaves
abbrev pub closed : Plant → Tables
closed p =
    record {
      kernel = ended p.kernel;
      mailboxes = p.mailboxes;
      pools = p.pools;
      sizes = p.sizes;
    }

abbrev pub mailbox_in : List Mailbox → ℕ → Mailbox
mailbox_in mailboxes i = get_or mailboxes i blank_mailbox

abbrev pub mailbox_at : Plant → ℕ → Mailbox
mailbox_at p i = mailbox_in p.mailboxes i

abbrev pub pool_in : List Pool → ℕ → Pool
pool_in pools i = get_or pools i blank_pool

abbrev pub pool_at : Plant → ℕ → Pool
pool_at p i = pool_in p.pools i

abbrev pub with_kernel : Plant → Kernel → Plant
with_kernel p k = record { kernel = k; mailboxes = p.mailboxes; pools = p.pools; sizes = p.sizes }

abbrev pub with_mailbox : Plant → ℕ → Mailbox → Plant
with_mailbox p i b =
    record {
      kernel = p.kernel;
      mailboxes = set p.mailboxes i b;
      pools = p.pools;
      sizes = p.sizes;
    }

abbrev pub with_pool : Plant → ℕ → Pool → Plant
with_pool p i x =
    record {
      kernel = p.kernel;
      mailboxes = p.mailboxes;
      pools = set p.pools i x;
      sizes = p.sizes;
    }
