-- Where a call waits, for the line of a waking: PLACE of docs/LISTING.md, a dash for a sleep and for an event wait.
use Rattle.std.specs.Prelude.{cond, ◌==◌}
use Rattle.kernel.specs.declared.records.Call.{Call}
use Rattle.text.specs.declared.items.Item.{Item}
use Rattle.text.specs.declared.items.Item.TheVariants.{Dash, Lettered}

abbrev pub waited_item : Call → Item
waited_item c =
    cond (c.kind == 2) (Lettered 115 c.object)
    (cond (c.kind == 6) (Lettered 113 c.object)
    (cond (c.kind == 9) (Lettered 114 c.object)
    (cond (c.kind == 15) (Lettered 119 c.object)
    (cond (c.kind == 16) (Lettered 119 c.object)
    (cond (c.kind == 17) (Lettered 102 c.object) (cond (c.kind == 20) (Lettered 112 c.object) Dash))))))
