-- Of up to four bytes one more has room, so nothing wraps.
use Rattle.std.proofs.Common.{◌≡◌, ◌≤◌, ◌+◌, ◌*◌, ◌%◌, arith, rules, pow-suc}
use Rattle.std.proofs.lemmas.Grind.{common_steps}
use Rattle.compare.specs.Bytes.{number_at}
use Rattle.compare.proofs.BytesLaws.{byte-more}
use Rattle.compare.proofs.bytes.get_number.Goals as goal

pub loop-i-preserved : goal.loop-i-preserved
unfolding number_at
loop-i-preserved c =
    let l = c.loop-i in
    let b = c.at.result in
    let whole : c.args.w ≤ 4 → (l.x * 256 % 4294967296 + b) % 4294967296 ≡ l.x * 256 + b =
    λ h. omega (arith, byte-more l.i l.x b (omega (arith, h)) (l.invariant.small h) (omega arith)) in
    record { read = λ h. rw (whole h, l.invariant.read h) (search rules); small = λ h. let small = l.invariant.small h in rw (whole h) (grind (arith, common_steps, small, pow-suc 256 l.i)) }
