-- A number is at most 4 bytes wide, so a place is at most 65535 + 4 * 65535 bytes behind the start.
use Rattle.std.proofs.Common.{refl, arith}
use Rattle.compare.specs.Laid.{offset_of, places_put}
use Rattle.compare.proofs.LaidLaws.{width-le, offset-le, offset-next, put_next}
use Rattle.compare.proofs.laying.put_places.Goals as goal

pub loop-i-init : goal.loop-i-init
unfolding offset_of places_put
loop-i-init c = record { place = omega arith; put = refl }

pub overflow_add-at : goal.overflow_add-at
overflow_add-at c = omega (arith, c.loop-i.invariant.place, offset-le c.loop-i.i, c.width_of-w.ensures, width-le c.loop-i.i)

pub loop-i-preserved : goal.loop-i-preserved
loop-i-preserved c =
    let loop = c.loop-i in
    let put = rw c.width_of-w.ensures at c.put_number.ensures in
    record {
      place = omega (arith, loop.invariant.place, c.width_of-w.ensures, offset-next loop.i);
      put = put_next _ _ _ _ _ _ _ _ loop.invariant.place loop.invariant.put c.cell_at.ensures put;
    }
