-- Whether each mailbox's positions hang together.
use Rattle.std.specs.Prelude.{ℕ, Bool, List}
use Rattle.kernel.specs.Walk.{all_from}
use Rattle.library.specs.declared.sizes.Sizes.{Sizes}
use Rattle.library.specs.declared.tables.Mailbox.{Mailbox}
use Rattle.library.specs.declared.tables.Plant.{Plant}
use Rattle.rules.specs.Limits.{used_of, first_bad}
use Rattle.library.specs.Ring.{positions_fit}
use Rattle.library.specs.Sizes.{slots_at}
use Rattle.library.specs.Tables.{mailbox_in}

-- mailbox m hangs together
abbrev pub mailbox_fits : List Mailbox → Sizes → ℕ → Bool
mailbox_fits mailboxes z m = positions_fit (mailbox_in mailboxes m).positions (slots_at z m)

-- the first mailbox that does not
abbrev pub bad_mailbox : List Mailbox → Sizes → ℕ
bad_mailbox mailboxes z = first_bad (mailbox_fits mailboxes z) (used_of 4 z.mailboxes)

-- each mailbox does so
unfoldable pub mailboxes_fit : Plant → Bool
mailboxes_fit p = all_from (mailbox_fits p.mailboxes p.sizes) 0 (used_of 4 p.sizes.mailboxes)
