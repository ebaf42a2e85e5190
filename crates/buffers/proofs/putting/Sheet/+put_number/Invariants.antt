-- The number falls from call to call.
use Rattle.buffers.proofs.putting.Sheet.+put_number.Given as goal

abbrev pub decreases-put_number : goal.decreases-put_number
decreases-put_number l = l.n
