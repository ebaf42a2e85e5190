-- Which rule the tables of a host break first, as one number.
use Rattle.std.specs.Prelude.{ℕ, ◌+◌, ◌*◌}
use Rattle.kernel.specs.declared.clock.Clock.{Clock}
use Rattle.library.specs.declared.tables.Tables.{Tables}
use Rattle.library.specs.Tables.{opened}
use Rattle.rules.specs.Finding.{broken}

-- 256 times the rule, plus the row
abbrev pub broken_number : Tables → Clock → ℕ
broken_number t clock = (broken (opened t) clock).rule * 256 + (broken (opened t) clock).row
