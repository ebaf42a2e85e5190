-- A number is at most 4 bytes wide, so no place is beyond 4 times their number.
use Rattle.std.proofs.Common.{refl, arith}
use Rattle.compare.specs.Laid.{offset_of, places_read}
use Rattle.compare.proofs.LaidLaws.{width-le, offset-le, offset-next, read_next}
use Rattle.compare.proofs.laying.read_tables.Goals as goal

pub loop-i-init : goal.loop-i-init
unfolding offset_of places_read
loop-i-init c = record { place = refl; so_far = c.blank_kept-a.ensures }

pub overflow_add-at : goal.overflow_add-at
overflow_add-at c = omega (arith, c.loop-i.invariant.place, offset-le c.loop-i.i, c.width_of-w.ensures, width-le c.loop-i.i)

pub loop-i-preserved : goal.loop-i-preserved
loop-i-preserved c =
    let loop = c.loop-i in
    let got = rw c.width_of-w.ensures at (c.get_number.ensures (rw c.width_of-w.ensures (width-le loop.i))) in
    record {
      place = omega (arith, loop.invariant.place, c.width_of-w.ensures, offset-next loop.i);
      so_far = read_next _ _ _ _ _ _ loop.invariant.place loop.invariant.so_far got c.with_cell-a.ensures;
    }
