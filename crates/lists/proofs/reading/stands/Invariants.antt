-- The invariant: the letters before i are the same.
use Rattle.std.proofs.Common.{◌≡◌, ◌-◌, ◌≤◌, true, eqb, length, get_or, drop}
use Rattle.kernel.specs.Walk.{all_from}
use Rattle.lists.proofs.reading.stands.Given as goal

abbrev pub invariant-loop-i : goal.invariant-loop-i
invariant-loop-i l =
    record {
      room : length l.word ≤ length l.s - l.at;
      letters : true ≡ all_from (λ j. eqb (get_or (drop l.at l.s) j 0) (get_or l.word j 0)) 0 l.i;
    }
