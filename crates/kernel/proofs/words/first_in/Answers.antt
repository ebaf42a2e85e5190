-- The trailing zeros of a word are the index of its first digit; sixteen of them are none.
use Rattle.kernel.proofs.WordsLaws.{first_some, first-none}
use Rattle.kernel.proofs.words.first_in.Goals as goal

pub returns-then-zeros-lt16 : goal.returns-then-zeros-lt16
returns-then-zeros-lt16 c = first_some c.args.w c.if-zeros-lt16.true

pub returns-else-zeros-lt16 : goal.returns-else-zeros-lt16
returns-else-zeros-lt16 c = first-none c.args.w c.if-zeros-lt16.false
