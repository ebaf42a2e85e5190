-- The invariant: what is left of the reads, from the place reached, ends where all of them do, and what is known behind them is the same.
use Rattle.std.proofs.Common.{◌≡◌, ◌-◌}
use Rattle.text.specs.Ending.{place_read}
use Rattle.text.specs.Views.{seen_from}
use Rattle.text.proofs.printing.print_records.Given as goal

abbrev pub invariant-loop-number : goal.invariant-loop-number
invariant-loop-number g l =
    record {
      to : place_read (5000 - l.number) l.s l.x.at ≡ place_read 5000 l.s l.fn.first.at;
      seen : seen_from l.v (5000 - l.number) l.number l.s l.x.seen l.x.at ≡ seen_from l.v 5000 0 l.s l.fn.first.seen l.fn.first.at;
    }
