-- One byte more a turn.
use Rattle.std.proofs.Common.{◌∙◌, get_or, ap, arith, refl}
use Rattle.std.proofs.lemmas.List.{length-replicate}
use Rattle.trace.proofs.Widths.{filled-more, rest-reads}
use Rattle.trace.proofs.ordered.bytes_at.Goals as goal

pub loop-j-init : goal.loop-j-init
loop-j-init g c = record { long = length-replicate g.row.N 0; so_far = λ i l. absurd (omega arith) }

pub loop-j-preserved : goal.loop-j-preserved
loop-j-preserved g c = filled-more _ _ _ _ _ c.loop-j.invariant c.loop-j-test.true c.byte_at.ensures

pub returns : goal.returns
returns g c = λ j h.
    c.loop-j.invariant.so_far j (omega (arith, h, c.loop-j-test.false))
    ∙ ap (λ b. get_or b.now j 0) c.unwrap_or-rest.ensures ∙ rest-reads c.args.s.now c.args.at c.get.result _ refl c.get.ensures.lookup.0 j
