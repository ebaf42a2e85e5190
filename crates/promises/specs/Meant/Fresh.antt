-- What is made is fresh as the paper tells it, and the paper leaves no choice: every field of the tables is written out.
use Rattle.std.specs.Prelude.{ℕ, ◌≤◌, ◌≡◌, refl, List, ℤ, Option}
use Rattle.std.proofs.Common.{arith, sym, ◌∙◌}
use Rattle.kernel.specs.declared.clock.Clock.{Clock}
use Rattle.kernel.specs.declared.records.Thread.{Thread}
use Rattle.kernel.specs.declared.records.Words.{Words}
use Rattle.kernel.specs.Units.{frequency_fits}
use Rattle.kernel.proofs.Cases.{split, contrary}
use Rattle.kernel.proofs.TablesLaws.{used_all}
use Rattle.library.specs.declared.sizes.Sizes.{Sizes}
use Rattle.library.specs.declared.tables.Mailbox.{Mailbox}
use Rattle.library.specs.declared.tables.Pool.{Pool}
use Rattle.library.specs.declared.tables.Tables.{Tables}
use Rattle.library.specs.Told.{Made}
use Rattle.library.specs.Sizes.{sizes_fit}
use Rattle.library.specs.Fresh.{fresh_tables, fresh_clock, made}
use Rattle.promises.specs.Paper.Time.{ticks_in_second}
use Rattle.promises.specs.Paper.Fresh.{FreshTables, FreshClock, Legal, nothing, MadeWith, MadeOf}
use Rattle.promises.specs.Meant.Time.{same-rate, possible-fits, fits-possible}
use Rattle.promises.specs.Meant.Sizes.{fit-limits, limits-fit, out-of-limits}

pub fresh-tables : (z : Sizes) → z.threads ≤ 16 → FreshTables z (fresh_tables z)
fresh-tables z few =
    record {
      sizes = refl;
      threads = refl;
      counters = refl;
      references = refl;
      words = rw (used_all z.threads few);
      steps = refl;
      mailboxes = refl;
      pools = refl;
    }

pub fresh-clock : (f : ℕ) → FreshClock f (fresh_clock f)
fresh-clock f = record { time = refl; frequency = refl }

pub made-is : (z : Sizes) (rate : Option ℕ) → MadeOf z rate (made z rate)
unfolding made
made-is z rate =
    let f : ℕ = ticks_in_second rate in
    rw (same-rate rate)
    (split (sizes_fit z)
    (λ e. rw e
    (split (frequency_fits f)
    (λ p. rw p
    (MadeOf.fresh (fit-limits z e) (possible-fits f p) (record { code = refl; tables = fresh-tables z (fit-limits z e).threads.1; clock = fresh-clock f })))
    (λ p. rw p
    (MadeOf.no-frequency (fit-limits z e) (λ q. contrary (fits-possible f q) p)
    (record { code = refl; tables = fresh-tables nothing (omega arith); clock = fresh-clock 0 })))))
    (λ e. rw e (MadeOf.no_size (out-of-limits z e) (record { code = refl; tables = fresh-tables nothing (omega arith); clock = fresh-clock 0 }))))

-- of legal sizes and frequency fresh tables are made, and are not refused
pub made-fresh : (z : Sizes) (rate : Option ℕ) → Legal z rate
    → made z rate ≡ record { code = 0; tables = fresh_tables z; clock = fresh_clock (ticks_in_second rate) }
unfolding made
made-fresh z rate legal = rw (same-rate rate, limits-fit z legal.sizes, fits-possible (ticks_in_second rate) legal.frequency)

pub made-legal : (z : Sizes) (rate : Option ℕ) → Legal z rate → MadeWith 0 z (ticks_in_second rate) (made z rate)
made-legal z rate legal =
    rw (made-fresh z rate legal)
    (record { code = refl; tables = fresh-tables z legal.sizes.threads.1; clock = fresh-clock (ticks_in_second rate) })

-- and of no others
pub code-legal : (z : Sizes) (rate : Option ℕ) → (made z rate).code ≡ 0 → Legal z rate
code-legal z rate e = by (made-is z rate)
  where
    by : MadeOf z rate (made z rate) → Legal z rate
    by (MadeOf.no_size n m) = absurd (omega (arith, m.code, e))
    by (MadeOf.no-frequency f n m) = absurd (omega (arith, m.code, e))
    by (MadeOf.fresh f p m) = record { sizes = f; frequency = p }

-- two that hold the same are the same: every field of a table is one of its record's
abbrev of_parts : List Thread → List ℤ → List ℕ → Words → ℕ → List Mailbox → List Pool → Sizes → Tables
of_parts t c r w n b p z =
    record {
      kernel = record { threads = t; counters = c; references = r; words = w; steps = n };
      mailboxes = b;
      pools = p;
      sizes = z;
    }

pub same_tables : {z : Sizes} {t u : Tables} → FreshTables z t → FreshTables z u → t ≡ u
same_tables {z} {t} {u} a b =
    let parts : of_parts t.kernel.threads t.kernel.counters t.kernel.references t.kernel.words t.kernel.steps t.mailboxes t.pools t.sizes
    ≡ of_parts u.kernel.threads u.kernel.counters u.kernel.references u.kernel.words u.kernel.steps u.mailboxes u.pools u.sizes =
    rw (a.threads, a.counters, a.references, a.words, a.steps, a.mailboxes, a.pools, a.sizes, b.threads, b.counters, b.references, b.words, b.steps, b.mailboxes, b.pools, b.sizes) in
    parts

pub same-clock : {f : ℕ} {c d : Clock} → FreshClock f c → FreshClock f d → c ≡ d
same-clock {f} {c} {d} a b =
    let parts : ◌≡◌ {A = Clock} (record { time = record { 0 = c.time.0 }; frequency = c.frequency })
    (record { time = record { 0 = d.time.0 }; frequency = d.frequency }) = rw (a.time, a.frequency, b.time, b.frequency) in
    parts

same-held : {n : ℕ} {z : Sizes} {f : ℕ} {m k : Made} → MadeWith n z f m → MadeWith n z f k → m ≡ k
same-held {n} {z} {f} {m} {k} a b =
    let parts : ◌≡◌ {A = Made} (record { code = m.code; tables = m.tables; clock = m.clock })
    (record { code = k.code; tables = k.tables; clock = k.clock }) =
    rw (a.code ∙ sym b.code, same_tables a.tables b.tables, same-clock a.clock b.clock) in
    parts

pub made_one : {z : Sizes} {rate : Option ℕ} {m k : Made} → MadeOf z rate m → MadeOf z rate k → m ≡ k
made_one (MadeOf.no_size a b) (MadeOf.no_size c d) = same-held b d
made_one (MadeOf.no_size a b) (MadeOf.no-frequency c e d) = absurd (a c)
made_one (MadeOf.no_size a b) (MadeOf.fresh c e d) = absurd (a c)
made_one (MadeOf.no-frequency a p b) (MadeOf.no_size c d) = absurd (c a)
made_one (MadeOf.no-frequency a p b) (MadeOf.no-frequency c e d) = same-held b d
made_one (MadeOf.no-frequency a p b) (MadeOf.fresh c e d) = absurd (p e)
made_one (MadeOf.fresh a p b) (MadeOf.no_size c d) = absurd (c a)
made_one (MadeOf.fresh a p b) (MadeOf.no-frequency c e d) = absurd (e p)
made_one (MadeOf.fresh a p b) (MadeOf.fresh c e d) = same-held b d
