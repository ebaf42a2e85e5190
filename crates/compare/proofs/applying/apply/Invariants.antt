-- The invariant: the first i entries are applied, and those of them that name no field are counted.
use Rattle.std.proofs.Common.{◌≡◌, ◌/◌, length}
use Rattle.compare.specs.Applied.{applied_numbers, passed_over}
use Rattle.compare.proofs.applying.apply.Given as goal

abbrev pub invariant-loop-i : goal.invariant-loop-i
invariant-loop-i l =
    record {
      entries : l.n ≡ length l.list / 5;
      applied : l.r ≡ applied_numbers l.initial.r l.list l.i;
      passed : l.passed ≡ passed_over l.list l.i;
    }
