-- Each byte is put in front of those that are still to be put; behind the last there are none.
use Rattle.std.proofs.Common.{◌∙◌, arith, length-set}
use Rattle.compare.proofs.BytesLaws.{put-fits, put-turn, put_done}
use Rattle.compare.proofs.bytes.put_number.Goals as goal

pub loop-i-preserved : goal.loop-i-preserved
loop-i-preserved c =
    let l = c.loop-i in
    let a = c.args in
    record {
      size = length-set _ _ _ ∙ l.invariant.size;
      put = put-turn a.w l.i a.at l.rest l.s (omega arith) ∙ l.invariant.put;
    }

pub returns-after-loop-i : goal.returns-after-loop-i
returns-after-loop-i c =
    let l = c.loop-i in
    let a = c.args in
    put_done a.w l.i a.at l.rest l.s (omega arith) ∙ l.invariant.put ∙ put-fits a.w a.s.now a.at a.x c.if-p-w.true
