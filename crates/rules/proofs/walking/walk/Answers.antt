-- Each row is tested, and its bit is added to the words that its keys name; each word has room for it.
use Rattle.std.proofs.Common.{◌≡◌, ℕ, ◌<◌, ◌^◌, Bool, eqb, refl, sym, ◌∙◌, arith}
use Rattle.kernel.proofs.Loops.{used_le}
use Rattle.kernel.proofs.WalkLaws.{all_more}
use Rattle.kernel.proofs.WordsLaws.{value_in}
use Rattle.kernel.specs.Numbers.{queued, suspended}
use Rattle.kernel.specs.Tables.{row_in, used_rows}
use Rattle.kernel.specs.Waiters.{is_ready, queued_at}
use Rattle.kernel.specs.Walk.{all_from}
use Rattle.kernel.specs.Words.{word_of}
use Rattle.rules.specs.PoolRules.{is_promised, promised_by}
use Rattle.rules.specs.ReferenceRules.{suspended_at}
use Rattle.rules.specs.RowRules.{row_fits}
use Rattle.rules.proofs.HangingLaws.{room, word-hit, word-miss, words, tally-none, tally-hit, tally-miss, word_room, keyed}
use Rattle.rules.proofs.WalkingLaws.{tabled-is}
use Rattle.rules.proofs.walking.walk.Goals as goal
use Rattle.rules.proofs.walking.walk.Goals.{then-is_ready, else-is_ready, then-p-lt36, else-p-lt36, then-r-lt8, else-r-lt8, then-q-lt4, else-q-lt4}

pub loop-i-init : goal.loop-i-init
unfolding word_of all_from
loop-i-init c =
    record {
      tested = refl;
      is_word = refl;
      queued = tally-none words _ 36;
      suspended = tally-none words _ 8;
      promised = tally-none words _ 4;
    }

pub overflow_add-ready : goal.overflow_add-ready
overflow_add-ready c =
    let i = c.loop-i.i in
    let few : i < 16 = omega (arith, used_le _ c.args.z.threads c.used_rows-i-end.ensures) in
    let one = value_in i _ c.bit_value-value.ensures few in
    omega (arith, one, c.loop-i.invariant.is_word, room (λ j. is_ready (row_in c.args.threads j)) i few)

pub overflow_add-waiting : goal.overflow_add-waiting
overflow_add-waiting c =
    let i = c.loop-i.i in
    let few : i < 16 = omega (arith, used_le _ c.args.z.threads c.used_rows-i-end.ensures) in
    let one = value_in i _ c.bit_value-value.ensures few in
    omega (arith, one, word_room _ 36 _ i c.queue_of-p.result c.loop-i.invariant.queued c.if-p-lt36.true few)

pub overflow_add-suspended : goal.overflow_add-suspended
overflow_add-suspended c =
    let i = c.loop-i.i in
    let few : i < 16 = omega (arith, used_le _ c.args.z.threads c.used_rows-i-end.ensures) in
    let one = value_in i _ c.bit_value-value.ensures few in
    omega (arith, one, word_room _ 8 _ i c.reference_of-r.result c.loop-i.invariant.suspended c.if-r-lt8.true few)

pub overflow_add-promised : goal.overflow_add-promised
overflow_add-promised c =
    let i = c.loop-i.i in
    let few : i < 16 = omega (arith, used_le _ c.args.z.threads c.used_rows-i-end.ensures) in
    let one = value_in i _ c.bit_value-value.ensures few in
    omega (arith, one, word_room _ 4 _ i c.pool_of-q.result c.loop-i.invariant.promised c.if-q-lt4.true few)

pub loop-i-preserved : goal.loop-i-preserved
loop-i-preserved c =
    let inv = c.loop-i.invariant in
    let i = c.loop-i.i in
    let a = c.args in
    let t = row_in a.threads i in
    let few : i < 16 = omega (arith, used_le _ c.args.z.threads c.used_rows-i-end.ensures) in
    let one : c.bit_value-value.result ≡ 2 ^ i = value_in i _ c.bit_value-value.ensures few in
    let passes = sym c.is_ready.ensures in
    let fits : ℕ → Bool = λ j. row_fits (row_in a.threads j) a.z in
    let queue : (p : ℕ) → p < 36 → queued_at p t ≡ eqb c.queue_of-p.result p =
    keyed (eqb t.state queued) t.place 36 _ c.queue_of-p.ensures in
    let reference : (r : ℕ) → r < 8 → suspended_at r t ≡ eqb c.reference_of-r.result r =
    keyed (eqb t.state suspended) t.place 8 _ c.reference_of-r.ensures in
    let pool : (q : ℕ) → q < 4 → promised_by q t ≡ eqb c.pool_of-q.result q =
    keyed (is_promised t) t.call.object 4 _ c.pool_of-q.ensures in
    record {
      tested = rw (all_more fits i, ← c.row_fits-rows.ensures, ← inv.tested);
      is_word = elim c.if-is_ready.branch [
        | then-is_ready w ↦ w.ready-is ∙ word-hit (λ j. is_ready (row_in a.threads j)) i _ _ inv.is_word one (passes ∙ w.if-is_ready.true)
        | else-is_ready w ↦ w.ready-is ∙ word-miss (λ j. is_ready (row_in a.threads j)) i _ inv.is_word (passes ∙ w.if-is_ready.false)
      ];
      queued = elim c.if-p-lt36.branch [
        | then-p-lt36 w ↦ rw (w.waiting-is, one) (tally-hit words _ 36 _ _ _ inv.queued queue w.if-p-lt36.true)
        | else-p-lt36 w ↦ rw w.waiting-is (tally-miss words _ 36 _ _ _ inv.queued queue w.if-p-lt36.false)
      ];
      suspended = elim c.if-r-lt8.branch [
        | then-r-lt8 w ↦ rw (w.suspended-is, one) (tally-hit words _ 8 _ _ _ inv.suspended reference w.if-r-lt8.true)
        | else-r-lt8 w ↦ rw w.suspended-is (tally-miss words _ 8 _ _ _ inv.suspended reference w.if-r-lt8.false)
      ];
      promised = elim c.if-q-lt4.branch [
        | then-q-lt4 w ↦ rw (w.promised-is, one) (tally-hit words _ 4 _ _ _ inv.promised pool w.if-q-lt4.true)
        | else-q-lt4 w ↦ rw w.promised-is (tally-miss words _ 4 _ _ _ inv.promised pool w.if-q-lt4.false)
      ];
    }

pub returns : goal.returns
returns c =
    let inv = c.loop-i.invariant in
    let end : c.loop-i.i ≡ used_rows c.args.z.threads = omega (arith, c.used_rows-i-end.ensures) in
    rw (
      ← end,
      inv.tested,
      inv.is_word,
      tabled-is c.loop-i.waiting _ 36 inv.queued.sized inv.queued.entry,
      tabled-is c.loop-i.suspended _ 8 inv.suspended.sized inv.suspended.entry,
      tabled-is c.loop-i.promised _ 4 inv.promised.sized inv.promised.entry,
    )
