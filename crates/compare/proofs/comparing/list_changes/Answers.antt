-- A field that differs is put behind the entries that stand there; any other leaves the list.
use Rattle.std.proofs.Common.{sym, ◌∙◌, arith}
use Rattle.kernel.proofs.WalkLaws.{count-le}
use Rattle.compare.specs.Changes.{differs}
use Rattle.compare.specs.Order.{reading_of}
use Rattle.compare.proofs.ListLaws.{list-begins, list_puts, list-skips}
use Rattle.compare.proofs.comparing.list_changes.Goals as goal
use Rattle.compare.proofs.comparing.list_changes.Goals.{then-is_changed, else-is_changed}

pub loop-k-init : goal.loop-k-init
loop-k-init c = list-begins _ _ _ _ _ c.count_changes-count.ensures c.if-list-count.false

pub overflow_add-at : goal.overflow_add-at
overflow_add-at c =
    omega (arith, c.loop-k.invariant.ends, count-le (differs (reading_of c.args.a) (reading_of c.args.b)) c.loop-k.k)

pub loop-k-preserved : goal.loop-k-preserved
loop-k-preserved c =
    elim c.if-is_changed.branch [
      | then-is_changed w ↦
          let put = rw (w.name_of.ensures, w.old_of.ensures, w.value_of.ensures) at w.put_entry.ensures in
          rw (w.list-is, w.at-is)
          (list_puts _ _ _ _ _ _ _ c.loop-k.invariant c.loop-k-test.true (sym c.is_changed.ensures ∙ w.if-is_changed.true) _ put)
      | else-is_changed w ↦
          rw (w.list-is, w.at-is)
          (list-skips _ _ _ _ _ _ _ c.loop-k.invariant c.loop-k-test.true (sym c.is_changed.ensures ∙ w.if-is_changed.false))
    ]
