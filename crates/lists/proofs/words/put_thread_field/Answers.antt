-- Another has no word.
use Rattle.std.proofs.Common.{arith}
use Rattle.std.proofs.lemmas.Grind.{common_steps}
use Rattle.buffers.proofs.SheetLaws.{none}
use Rattle.lists.specs.Words.{thread_word}
use Rattle.lists.proofs.words.put_thread_field.Goals as goal

pub returns-in_default : goal.returns-in_default
unfolding thread_word
returns-in_default c = grind (arith, common_steps, none c.args.sheet.now)
