-- What was put is the word, if it is shorter than the buffer.
use Rattle.std.proofs.Common.{refl, rules, replicate}
use Rattle.buffers.proofs.SheetLaws.{ended}
use Rattle.lists.specs.Words.{field_word}
use Rattle.lists.proofs.ReadingLaws.{tried, not-tried}
use Rattle.lists.proofs.reading.field_part.Goals as goal

pub returns-then-n-lt-LETTERS : goal.returns-then-n-lt-LETTERS
returns-then-n-lt-LETTERS c =
    let a = c.args in
    let put = c.put_field in
    tried (replicate 32 0) _ (field_word a.o a.f) put.new.sheet.at a.s.now a.at a.f c.word_part.result refl (ended put.ensures (search rules)) c.if-n-lt-LETTERS.true c.word_part.ensures

pub returns-else-n-lt-LETTERS : goal.returns-else-n-lt-LETTERS
returns-else-n-lt-LETTERS c =
    let a = c.args in
    let put = c.put_field in
    not-tried (replicate 32 0) put.new.sheet.out.now (field_word a.o a.f) put.new.sheet.at a.s.now a.at a.f c.no_part.result refl put.ensures.put c.if-n-lt-LETTERS.false c.no_part.ensures
