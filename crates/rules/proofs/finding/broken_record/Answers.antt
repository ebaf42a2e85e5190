-- The test of each of the rules 7 to 11 is the one that it has by its number.
use Rattle.std.proofs.Common.{ap, ◌∙◌, rules}
use Rattle.kernel.specs.declared.records.Thread.{Thread}
use Rattle.rules.specs.RowRules.{call_fits, wait_fits, ticks_fit, awaited_fit, none_pending}
use Rattle.rules.specs.Options.{broken_by, broken_record}
use Rattle.rules.proofs.finding.broken_record.Goals as goal

pub returns-then-fit : goal.returns-then-fit
unfolding broken_record
returns-then-fit c = rw c.if-fit.true

pub returns : goal.returns
unfolding broken_record
returns c =
    let ticks = c.broken_by.ensures ∙ ap (broken_by 7) (c.first_bad_row.ensures ticks_fit (λ t b e. e.1)) in
    let call = c.broken_by-2.ensures ∙ ap (broken_by 8) (c.first_bad_row-2.ensures (λ (t : Thread). call_fits t c.args.z) (λ t b e. search rules)) in
    let wait = c.broken_by-3.ensures ∙ ap (broken_by 9) (c.first_bad_row-3.ensures wait_fits (λ t b e. e.1)) in
    let awaited = c.broken_by-4.ensures ∙ ap (broken_by 10) (c.first_bad_row-4.ensures awaited_fit (λ t b e. e.1)) in
    let pending = c.broken_by-5.ensures ∙ ap (broken_by 11) (c.first_bad_row-5.ensures none_pending (λ t b e. e.1)) in
    rw (c.if-fit.false, c.or-4.ensures, c.or-3.ensures, c.or-2.ensures, c.or.ensures, ticks, call, wait, awaited, pending)
