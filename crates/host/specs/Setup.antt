-- Fresh tables and their clock where a host keeps them.
use Rattle.std.specs.Prelude.{ℕ, cond, eqb, Some}
use Rattle.kernel.specs.declared.clock.Clock.{Clock}
use Rattle.library.specs.declared.sizes.Sizes.{Sizes}
use Rattle.library.specs.declared.tables.Tables.{Tables}
use Rattle.library.specs.Told.{Made}
use Rattle.library.specs.Fresh.{made}
use Rattle.host.specs.Told.{Prepared}

-- "Fresh .. frequency as given"
abbrev pub made_for : Sizes → ℕ → Made
made_for z f = made z (Some f)

-- what is made, and whether it was
abbrev pub prepared : Sizes → ℕ → Prepared
prepared z f =
    record {
      tables = (made_for z f).tables;
      clock = (made_for z f).clock;
      accepted = eqb (made_for z f).code 0;
      code = (made_for z f).code;
    }

-- the tables that stand there in the end: at a refusal those that stood there
abbrev pub tables_set : Sizes → ℕ → Tables → Tables
tables_set z f t = cond (eqb (made_for z f).code 0) (made_for z f).tables t

-- and the clock
abbrev pub clock_set : Sizes → ℕ → Clock → Clock
clock_set z f c = cond (eqb (made_for z f).code 0) (made_for z f).clock c
