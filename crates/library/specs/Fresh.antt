-- Fresh tables: "all ready, references and mailboxes empty, pool objects absent, frequency as given, all else 0 or clear".
use Rattle.std.specs.Prelude.{ℕ, cond, replicate, Option, Result, Ok, Err}
use Rattle.kernel.specs.declared.clock.Clock.{Clock}
use Rattle.kernel.specs.declared.refusals.Refusal.{Refusal}
use Rattle.kernel.specs.Records.{fresh_records}
use Rattle.kernel.specs.Told.{number}
use Rattle.kernel.specs.Units.{frequency_of, frequency_fits}
use Rattle.kernel.specs.Words.{fresh_words}
use Rattle.library.specs.declared.sizes.Sizes.{Sizes}
use Rattle.library.specs.declared.tables.Tables.{Tables}
use Rattle.library.specs.declared.fresh.Fresh.{Fresh}
use Rattle.library.specs.Told.{Made}
use Rattle.library.specs.Sizes.{sizes_fit, no_sizes}
use Rattle.library.specs.Tables.{blank_mailbox, blank_pool}

abbrev pub fresh_tables : Sizes → Tables
fresh_tables z =
    record {
      kernel = fresh_records (fresh_words z.threads);
      mailboxes = replicate 4 blank_mailbox;
      pools = replicate 4 blank_pool;
      sizes = z;
    }

abbrev pub fresh_clock : ℕ → Clock
fresh_clock f = record { time = record { 0 = 0 }; frequency = f }

-- a refusal gives the tables of no sizes
abbrev pub not_made : ℕ → Made
not_made code = record { code = code; tables = fresh_tables no_sizes; clock = fresh_clock 0 }

-- what there is where nothing was made
abbrev pub none_made : Fresh
none_made = record { tables = fresh_tables no_sizes; clock = fresh_clock 0 }

-- how fresh tables, or a refusal, are told
abbrev pub told_made : Result Fresh Refusal → Made
told_made (Ok x) = record { code = 0; tables = x.tables; clock = x.clock }
told_made (Err why) = not_made (number why)

-- 14 for "a size out of its limits", then 6 for "a frequency outside its range"
unfoldable pub made : Sizes → Option ℕ → Made
made z r =
    cond (sizes_fit z)
    (cond (frequency_fits (frequency_of r))
    (record { code = 0; tables = fresh_tables z; clock = fresh_clock (frequency_of r) })
    (not_made 6))
    (not_made 14)
