-- The invariant: what is still to be put makes of the list what all of the number makes of the one that was lent.
use Rattle.std.proofs.Common.{◌≡◌, ◌+◌, ◌-◌, length}
use Rattle.std.proofs.lemmas.List.Edits.{sets}
use Rattle.compare.specs.Bytes.{bytes_of}
use Rattle.compare.proofs.bytes.put_number.Given as goal

abbrev pub invariant-loop-i : goal.invariant-loop-i
invariant-loop-i l =
    record {
      size : length l.s ≡ length l.initial.s;
      put : sets l.s (l.p + l.i) (bytes_of (l.w - l.i) l.rest) ≡ sets l.initial.s l.p (bytes_of l.w l.x);
    }
