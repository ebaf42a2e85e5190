-- Past all threads a waking changes nothing.
use Rattle.std.proofs.Common.{◌≡◌, length, sym, arith, rules}
use Rattle.kernel.proofs.MovesLaws.{wake-past}
use Rattle.kernel.proofs.moves.wake.Goals as goal

pub returns-else-i-lt-THREADS : goal.returns-else-i-lt-THREADS
returns-else-i-lt-THREADS c =
    let a = c.args in
    let threads : length a.k.threads ≡ 16 = search rules in
    let flags : length a.k.woken ≡ 16 = search rules in
    sym (wake-past a.k a.i a.m (omega arith) (omega arith) c.if-i-lt-THREADS.false)
