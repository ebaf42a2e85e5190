-- A name begins within the names, up to the byte that is looked at; and they were read up to there.
use Rattle.std.proofs.Common.{◌≡◌, ◌≤◌}
use Rattle.text.proofs.files.show_all.Given as goal

abbrev pub invariant-loop-i : goal.invariant-loop-i
invariant-loop-i g l = record { begins : l.from ≤ l.i; read : l.read ≡ l.i }
