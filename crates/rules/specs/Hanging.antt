-- Whether tables hang together: document 01's section of that name, in its parts, and the words of document 02.
use Rattle.std.specs.Prelude.{Bool, ◌&&◌}
use Rattle.kernel.specs.declared.clock.Clock.{Clock}
use Rattle.kernel.specs.Units.{frequency_fits}
use Rattle.kernel.specs.Waiters.{running_free}
use Rattle.library.specs.declared.tables.Plant.{Plant}
use Rattle.library.specs.Sizes.{sizes_fit}
use Rattle.rules.specs.RowRules.{rows_fit}
use Rattle.rules.specs.PlaceRules.{counters_fit}
use Rattle.rules.specs.ReferenceRules.{references_fit}
use Rattle.rules.specs.MailboxRules.{mailboxes_fit}
use Rattle.rules.specs.PoolRules.{pools_fit}
use Rattle.rules.specs.WordRules.{words_fit}

-- "Tables that hang together"
unfoldable pub hangs_together : Plant → Clock → Bool
hangs_together p clock =
    sizes_fit p.sizes
    && (frequency_fits clock.frequency
    && (rows_fit p.kernel p.sizes
    && (counters_fit p.kernel p.sizes
    && (references_fit p.kernel p.sizes
    && (mailboxes_fit p
    && (pools_fit p && (running_free p.kernel && words_fit p.kernel p.sizes)))))))
