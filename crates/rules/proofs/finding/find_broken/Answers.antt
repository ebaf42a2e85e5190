-- After each rule the code has found what the meaning has, up to that rule; the words of the walk are those of the records.
use Rattle.std.proofs.Common.{◌≡◌, ap, ◌∙◌, eqb, length, None, rules}
use Rattle.library.specs.Tables.{opened}
use Rattle.rules.specs.declared.walking.Walked.{Walked}
use Rattle.rules.specs.RowRules.{rows_fit}
use Rattle.rules.specs.PlaceRules.{bad_counter}
use Rattle.rules.specs.ReferenceRules.{bad_holder}
use Rattle.rules.specs.PoolRules.{bad_stock}
use Rattle.rules.specs.WordRules.{ready_word, ready_fits, other_word}
use Rattle.rules.specs.Finding.{wholly, bad_running, bad_at}
use Rattle.rules.specs.Options.{told_row, told_broken}
use Rattle.rules.proofs.FindingLaws.{told_none, told-next, told-rows, cause-row, found_all}
use Rattle.rules.proofs.WalkingLaws.{places-walked, references-walked, pools-walked, words-walked}
use Rattle.rules.proofs.finding.find_broken.Goals as goal

pub returns : goal.returns
unfolding bad_at rows_fit ready_word ready_fits
returns c =
    let clock = c.args.clock in
    let p = opened c.args.t in
    let k = p.kernel in
    let z = p.sizes in
    let walk = c.walk-w.ensures in
    let sized : length k.threads ≡ 16 = search rules in
    let to1 = told-next p clock 0 None _ _ (told_none p clock) c.broken_by.ensures (c.bad_whole.ensures ∙ ap (λ b. told_row (wholly b)) c.sizes_fit.ensures) in
    let to2 =
    c.or.ensures ∙ told-next p clock 1 _ _ _ to1 c.broken_by-2.ensures (c.bad_whole-2.ensures ∙ ap (λ b. told_row (wholly b)) c.frequency_fits.ensures) in
    let to3 =
    c.or-2.ensures
    ∙ told-next p clock 2 _ _ _ to2 c.broken_by-3.ensures
    (c.first_bad_place.ensures ∙ ap told_row (ap (λ (v : Walked). bad_counter k.counters v.waiting z) walk ∙ places-walked k z)) in
    let to4 =
    c.or-3.ensures
    ∙ told-next p clock 3 _ _ _ to3 c.broken_by-4.ensures
    (c.first_bad_reference.ensures ∙ ap told_row (ap (λ (v : Walked). bad_holder k.references v.suspended z) walk ∙ references-walked k z)) in
    let to5 = c.or-4.ensures ∙ told-next p clock 4 _ _ _ to4 c.broken_by-5.ensures c.first_bad_mailbox.ensures in
    let to6 =
    c.or-5.ensures
    ∙ told-next p clock 5 _ _ _ to5 c.broken_by-6.ensures
    (c.first_bad_pool.ensures ∙ ap told_row (ap (λ (v : Walked). bad_stock p.pools k.counters v.promised z) walk ∙ pools-walked p)) in
    let to11 = c.or-6.ensures ∙ told-rows p clock sized _ _ _ to6 c.broken_record.ensures (ap (λ (v : Walked). v.rows) walk) in
    let to12 =
    c.or-7.ensures
    ∙ told-next p clock 11 _ _ _ to11 c.broken_by-7.ensures
    (c.bad_running.ensures ∙ ap (λ (v : Walked). told_row (bad_running k.threads v.ready)) walk) in
    let to13 =
    c.or-8.ensures
    ∙ told-next p clock 12 _ _ _ to12 c.broken_by-8.ensures
    (c.bad_whole-3.ensures ∙ ap (λ (v : Walked). told_row (wholly (eqb k.words.ready v.ready))) walk) in
    let to14 =
    c.or-9.ensures
    ∙ told-next p clock 13 _ _ _ to13 c.broken_by-9.ensures
    (c.first_bad_word.ensures ∙ ap told_row (ap (λ (v : Walked). other_word k.words.waiting v.waiting z) walk ∙ words-walked k z)) in
    c.or-10.ensures
    ∙ (told-next p clock 14 _ _ _ to14 c.broken_by-10.ensures
    (c.bad_cause.ensures ∙ ap told_row (cause-row p clock sized _ (ap (λ (v : Walked). v.rows) walk)))
    ∙ ap told_broken (found_all p clock))
