-- Within the word the shift gives the digit; past it there is none.
use Rattle.std.proofs.Common.{sym, rules, le-ltb}
use Rattle.kernel.proofs.WordsLaws.{bit_past}
use Rattle.kernel.proofs.words.has_bit.Goals as goal

pub returns-else-i-lt-THREADS : goal.returns-else-i-lt-THREADS
returns-else-i-lt-THREADS c =
    rw (le-ltb _ _ c.if-i-lt-THREADS.false) (sym (bit_past c.args.w c.args.i (search rules) c.if-i-lt-THREADS.false))
