-- RUNS OF THE CODE: the paper's words of a run (Paper.Run, Paper.Ledger), of the meanings that each function is proved to compute.
use Rattle.std.specs.Prelude.{ℕ, List, Option}
use Rattle.kernel.specs.declared.clock.Clock.{Clock}
use Rattle.kernel.specs.declared.records.Call.{Call}
use Rattle.library.specs.declared.calls.Step.{Step}
use Rattle.library.specs.declared.sizes.Sizes.{Sizes}
use Rattle.library.specs.declared.tables.Tables.{Tables}
use Rattle.library.specs.Fresh.{made}
use Rattle.accounts.specs.declared.account.Account.{Account}
use Rattle.accounts.specs.Accounting.{call_by, accounted_step}
use Rattle.steps.specs.Stepping.{stepped}
use Rattle.promises.specs.Paper.Run.{Moment, moment_by, moments_by, Ran, ran_by}
use Rattle.promises.specs.Paper.Ledger.{tallied_by}
use Rattle.promises.specs.Paper.Waking.{row_of}

-- a step with the tables that it finds and leaves
abbrev pub moment_of : Tables → Clock → Step → Moment
moment_of t c s = moment_by stepped t c s

-- the moments of a run, and what it leaves
abbrev pub moments : Tables → Clock → List Step → List Moment
moments t c ss = moments_by stepped t c ss

abbrev pub ran : Tables → Clock → List Step → Ran
ran t c ss = ran_by stepped t c ss

-- the same from fresh tables of the sizes y
abbrev pub fresh_moments : Sizes → Option ℕ → List Step → List Moment
fresh_moments y r ss = moments (made y r).tables (made y r).clock ss

abbrev pub fresh_ran : Sizes → Option ℕ → List Step → Ran
fresh_ran y r ss = ran (made y r).tables (made y r).clock ss

-- the account of a run whose first moment is the n-th
abbrev pub tallied : ℕ → Account → List Moment → Account
tallied n a ms = tallied_by accounted_step n a ms

-- the call that the account and `--why` take thread i's to be in a moment
abbrev pub called_by : Moment → ℕ → Call
called_by m i = call_by m.step i (row_of m.before i).call
