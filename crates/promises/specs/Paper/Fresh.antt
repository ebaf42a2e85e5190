-- FRESH TABLES, AS DOCUMENT 01 TELLS THEM: a relation between the sizes and the frequency that are given and what is made of them.
use Rattle.std.specs.Prelude.{ℕ, ◌-◌, ◌^◌, ◌≡◌, [], ◌∷◌, replicate, pos, Option}
use Rattle.kernel.specs.declared.clock.Clock.{Clock}
use Rattle.library.specs.declared.sizes.Sizes.{Sizes}
use Rattle.library.specs.declared.tables.Tables.{Tables}
use Rattle.library.specs.Told.{Made}
use Rattle.promises.specs.Paper.Time.{ticks_in_second, Possible}
use Rattle.promises.specs.Paper.Together.{SizesFit}

-- "Fresh: all ready, references and mailboxes empty, pool objects absent, .. all else 0 or clear": 16 threads, 36 counters (semaphores,
-- pools, queues, mailboxes' writers and readers), 8 references, 4 mailboxes, 4 pools. Ready is state 0, nobody 255, absent mark 0
pub record FreshTables (z : Sizes) (t : Tables) : Type 0 where
  pub sizes : t.sizes ≡ z
  pub threads : t.kernel.threads
      ≡ replicate 16 (record {
        state = 0;
        place = 0;
        remaining = 0;
        pending = 0;
        awaited = 0;
        message = pos 0;
        call = record { kind = 0; object = 0; operand = 0; timeout = 0 };
        answer = record { message = pos 0; datum = 0 };
        cause = 0;
        step = 0;
      })
  pub counters : t.kernel.counters ≡ replicate 36 (pos 0)
  pub references : t.kernel.references ≡ replicate 8 255
  -- "bit i set exactly when thread i is ready", and nobody waits
  pub words : t.kernel.words ≡ record { ready = 2 ^ z.threads - 1; waiting = replicate 36 0; unused = 0 }
  pub steps : t.kernel.steps ≡ 0
  pub mailboxes : t.mailboxes
      ≡ replicate 4 (record { positions = record { read = 0; write = 0; count = 0 }; reset = 0; messages = replicate 16 0 })
  pub pools : t.pools ≡ replicate 4 (record { length = 0; list = replicate 32 0; marks = replicate 32 0 })

-- ".. frequency as given, all else 0"
pub record FreshClock (f : ℕ) (c : Clock) : Type 0 where
  pub time : c.time.0 ≡ 0
  pub frequency : c.frequency ≡ f

-- what fresh tables can be made of: sizes within their limits, and a frequency in its range
pub record Legal (z : Sizes) (rate : Option ℕ) : Type 0 where
  pub sizes : SizesFit z
  pub frequency : Possible (ticks_in_second rate)

-- no threads and no objects
abbrev pub nothing : Sizes
nothing =
    record { threads = 0; semaphores = 0; queues = 0; references = 0; mailboxes = 0; pools = 0; slots = 0 ∷ 0 ∷ 0 ∷ 0 ∷ [] }

-- a number, and fresh tables and a clock with it
pub record MadeWith (n : ℕ) (z : Sizes) (f : ℕ) (m : Made) : Type 0 where
  pub code : m.code ≡ n
  pub tables : FreshTables z m.tables
  pub clock : FreshClock f m.clock

-- "14 a size out of its limits", then 6 for "a frequency outside its range": a refusal holds tables of no sizes and a clock of frequency 0
pub data MadeOf (z : Sizes) (rate : Option ℕ) (m : Made) : Type 0 where
  no_size : (SizesFit z → ⊥) → MadeWith 14 nothing 0 m → MadeOf z rate m
  no-frequency : SizesFit z → (Possible (ticks_in_second rate) → ⊥) → MadeWith 6 nothing 0 m → MadeOf z rate m
  fresh : SizesFit z → Possible (ticks_in_second rate) → MadeWith 0 z (ticks_in_second rate) m → MadeOf z rate m
