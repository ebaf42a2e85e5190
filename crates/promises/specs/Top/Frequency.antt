-- THE FREQUENCY (8/13). "Where no frequency is given, take 10000 instead of 1000": to fresh tables and to both conversions none is as if 10000
-- were given. And of a run the frequency changes nothing but the clock's own record: from any tables, over any steps, refused ones included.
use Rattle.std.specs.Prelude.{ℕ, ◌≡◌, refl, List, Option, Some, None}
use Rattle.kernel.specs.declared.clock.Clock.{Clock}
use Rattle.kernel.specs.declared.time.Interval.{Interval}
use Rattle.kernel.specs.declared.units.Unit.{Unit}
use Rattle.kernel.specs.Units.{in_ticks, of_ticks}
use Rattle.library.specs.declared.calls.Step.{Step}
use Rattle.library.specs.declared.sizes.Sizes.{Sizes}
use Rattle.library.specs.declared.tables.Tables.{Tables}
use Rattle.library.specs.Fresh.{fresh_tables, fresh_clock, made}
use Rattle.promises.specs.Paper.Time.{ticks_in_second, Possible}
use Rattle.promises.specs.Paper.Fresh.{Legal}
use Rattle.promises.specs.Paper.Frequency.{clock_at, ran_at}
use Rattle.promises.specs.Code.Steps.{ran, fresh_ran}
use Rattle.promises.specs.Meant.Time.{fits-possible}
use Rattle.promises.specs.Meant.Fresh.{made-fresh}
use Rattle.promises.specs.Runs.Frequency.{run_at}

-- ---- where none is given
pub none-fresh : (z : Sizes) → made z None ≡ made z (Some 10000)
unfolding made
none-fresh z = refl

pub none-ticks : (u : Unit) (x : ℕ) → in_ticks u x None ≡ in_ticks u x (Some 10000)
unfolding in_ticks
none-ticks u x = refl

pub none-units : (u : Unit) (d : Interval) → of_ticks u d None ≡ of_ticks u d (Some 10000)
unfolding of_ticks
none-units u d = refl

-- ---- the same run at two frequencies
pub any-frequency : (t : Tables) (c : Clock) (f : ℕ) → Possible c.frequency → Possible f → (ss : List Step)
    → ran t (clock_at f c) ss ≡ ran_at f (ran t c ss)
any-frequency t c f g h ss = run_at f (fits-possible f h) t c ss (fits-possible c.frequency g)

-- from fresh tables, where each frequency is given, or none is
pub any-frequency-fresh : (y : Sizes) (r q : Option ℕ) → Legal y r → Legal y q → (ss : List Step)
    → fresh_ran y q ss ≡ ran_at (ticks_in_second q) (fresh_ran y r ss)
any-frequency-fresh y r q g h ss =
    rw (made-fresh y r g, made-fresh y q h)
    (any-frequency (fresh_tables y) (fresh_clock (ticks_in_second r)) (ticks_in_second q) g.frequency h.frequency ss)
