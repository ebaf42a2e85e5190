-- The ones of a word are the count of its digits; they are few.
use Rattle.std.proofs.Common.{rules}
use Rattle.kernel.proofs.WordsLaws.{ones-of}
use Rattle.kernel.proofs.words.count_in.Goals as goal

pub returns : goal.returns
returns c = ones-of c.args.w (search rules)
