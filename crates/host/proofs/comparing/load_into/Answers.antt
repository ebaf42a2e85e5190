-- Refused, no room, or done.
use Rattle.std.proofs.Common.{rules}
use Rattle.host.proofs.ComparingLaws.{Load, load-refused, load-short, load-short-clock, load-done}
use Rattle.host.proofs.comparing.load_into.Goals as goal
use Rattle.host.proofs.comparing.load_into.Goals.{then-tables-lt1572-via-then-tables-lt1572, then-tables-lt1572-via-else-tables-lt1572+then-clock-lt8}

pub returns-in_err-kept : goal.returns-in_err-kept
returns-in_err-kept c =
    let refused = load-refused _ _ _ _ c.in_err-kept.ensures in
    record { code = search (rules, refused.0); tables = refused.1.0; clock = refused.1.1 }

pub returns-then-tables-lt1572 : goal.returns-then-tables-lt1572
returns-then-tables-lt1572 c =
    let a = c.args in
    let short : Load a.file.now a.tables.now a.clock.now 16 a.tables.now a.clock.now =
    elim c.then-tables-lt1572.branch [
      | then-tables-lt1572-via-then-tables-lt1572 w ↦ load-short _ _ a.clock.now _ c.in_ok-kept.ensures w.if-tables-lt1572.true
      | then-tables-lt1572-via-else-tables-lt1572+then-clock-lt8 w ↦ load-short-clock _ a.tables.now _ _ c.in_ok-kept.ensures w.if-clock-lt8.true
    ] in
    record { code = short.0; tables = short.1.0; clock = short.1.1 }

pub returns : goal.returns
returns c =
    let put = c.put_kept.ensures in
    let done = load-done _ _ _ _ c.in_ok-kept.ensures c.if-tables-lt1572.false c.if-clock-lt8.false _ _ put.tables put.clock in
    record { code = done.0; tables = done.1.0; clock = done.1.1 }
