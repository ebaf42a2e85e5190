-- WHAT THE TYPES OF A HOST FIX: the lengths of its arrays, and the widths of a step's fields and of the time. In the meanings an array is a
-- list of any length, and a number is any number.
use Rattle.std.specs.Prelude.{ℕ, ◌<◌, ◌≡◌, List, [], ◌∷◌, length, get_or}
use Rattle.kernel.specs.declared.clock.Clock.{Clock}
use Rattle.library.specs.declared.calls.Step.{Step}
use Rattle.library.specs.declared.tables.Tables.{Tables}
use Rattle.promises.specs.Paper.World.{no_box, no_pool, found}
use Rattle.promises.specs.Paper.Together.{HangTogether}

pub record HostTables (t : Tables) : Type 0 where
  pub threads : length t.kernel.threads ≡ 16
  pub counters : length t.kernel.counters ≡ 36
  pub references : length t.kernel.references ≡ 8
  pub waiting : length t.kernel.words.waiting ≡ 36
  pub mailboxes : length t.mailboxes ≡ 4
  pub messages : (m : ℕ) → m < 4 → length (get_or t.mailboxes m no_box).messages ≡ 16
  pub pools : length t.pools ≡ 4
  pub lists : (q : ℕ) → q < t.sizes.pools → length (get_or t.pools q no_pool).list ≡ 32
  pub marks : (q : ℕ) → q < t.sizes.pools → length (get_or t.pools q no_pool).marks ≡ 32

-- "object (a byte), a (four bytes)"
pub record HostStep (s : Step) : Type 0 where
  pub object : s.object < 256
  pub operand : s.a < 4294967296

pub record Host (t : Tables) (c : Clock) (s : Step) : Type 0 where
  pub tables : HostTables t
  pub time : c.time.0 < 4294967296
  pub step : HostStep s

-- each of several steps
pub data HostSteps : List Step → Type 0 where
  none : HostSteps []
  more : {s : Step} {ss : List Step} → HostStep s → HostSteps ss → HostSteps (s ∷ ss)

-- a host's tables and clock, which hang together
pub record Going (t : Tables) (c : Clock) : Type 0 where
  pub together : HangTogether (found t) t.kernel.words c
  pub tables : HostTables t
  pub time : c.time.0 < 4294967296
