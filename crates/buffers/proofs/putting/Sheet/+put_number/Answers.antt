-- A number below 10 is one digit; any other is the digits of its tenth, and its last.
use Rattle.buffers.proofs.SheetLaws.{one, more}
use Rattle.buffers.proofs.putting.Sheet.+put_number.Goals as goal

pub returns-then-n-lt10 : goal.returns-then-n-lt10
returns-then-n-lt10 t c = one c.args.n c.if-n-lt10.true c.digit.ensures c.put_byte.ensures

pub returns-else-n-lt10 : goal.returns-else-n-lt10
returns-else-n-lt10 t c =
    more c.args.n c.if-n-lt10.false c.digit-else-n-lt10.ensures c.put_number.ensures c.put_byte-else-n-lt10.ensures
