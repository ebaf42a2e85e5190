-- Each entry raises the count that it names, if there is one.
use Rattle.std.proofs.Common.{◌≤◌, get_or, refl, arith}
use Rattle.library.specs.Pool.{listed_at}
use Rattle.rules.proofs.HangingLaws.{counts, tally-none, tally-le, tally-hit, tally-miss}
use Rattle.rules.proofs.pool_rules.count_listed.Goals as goal
use Rattle.rules.proofs.pool_rules.count_listed.Goals.{then-at-lt32, else-at-lt32}

pub loop-j-init : goal.loop-j-init
loop-j-init c = tally-none counts _ 32

pub overflow_add-counts : goal.overflow_add-counts
overflow_add-counts c =
    let at = listed_at c.args.x c.loop-j.j in
    let small : get_or c.loop-j.counts at 0 ≤ c.loop-j.j = tally-le _ 32 _ _ _ c.loop-j.invariant c.if-at-lt32.true in
    omega arith

pub loop-j-preserved : goal.loop-j-preserved
loop-j-preserved c =
    let so_far = c.loop-j.invariant in
    elim c.if-at-lt32.branch [
      | then-at-lt32 w ↦ rw w.counts-is (tally-hit counts _ 32 _ _ _ so_far (λ p h. refl) w.if-at-lt32.true)
      | else-at-lt32 w ↦ rw w.counts-is (tally-miss counts _ 32 _ _ _ so_far (λ p h. refl) w.if-at-lt32.false)
    ]
