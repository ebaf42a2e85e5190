-- The invariant: the version byte, record 0's counts and the slots of the first i mailboxes stand there, in one run.
use Rattle.std.proofs.Common.{◌≡◌}
use Rattle.std.proofs.lemmas.List.Edits.{sets}
use Rattle.trace.proofs.Runs.{head_upto}
use Rattle.trace.proofs.writer.write_sizes.Given as goal

abbrev pub invariant-loop-i : goal.invariant-loop-i
invariant-loop-i l = l.buf ≡ sets l.fn.buf 0 (head_upto l.sizes l.i)
