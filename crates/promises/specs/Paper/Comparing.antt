-- COMPARING FOR A HOST, which lends tables and clocks as the bytes in which they lie: what nil_compare and nil_apply give.
use Rattle.std.specs.Prelude.{ℕ, ◌≡◌, ◌≢◌, List}
use Rattle.kernel.specs.declared.clock.Clock.{Clock}
use Rattle.library.specs.declared.tables.Tables.{Tables}
use Rattle.promises.specs.Paper.Compare.{CompareOf, ApplyOf, Equal, SameWords}
use Rattle.promises.specs.Paper.Saved.{BytesLent, Lies}

-- 1572 bytes of tables and 8 of a clock
pub record Lent (t c : List ℕ) : Type 0 where
  pub tables : BytesLent 1572 t
  pub clock : BytesLent 8 c

-- the number of entries, which a host asked for: nothing is written at a refusal
pub data EntriesAt (code entries before : ℕ) : ℕ → Type 0 where
  told : code ≡ 0 → EntriesAt code entries before entries
  kept : code ≢ 0 → EntriesAt code entries before before

-- nil_compare: the first's bytes t and c, the second's u and d, over the room l, which becomes r; the number before becomes n
pub record CompareCall (t c u d l : List ℕ) (before code n : ℕ) (r : List ℕ) : Type 0 where
  pub first : Tables
  pub first-clock : Clock
  pub first-lies : Lies t c first first-clock
  pub second : Tables
  pub second-clock : Clock
  pub second-lies : Lies u d second second-clock
  pub entries : ℕ
  pub is-comparison : CompareOf first first-clock second second-clock l code entries r
  pub number : EntriesAt code entries before n

-- nil_apply: the bytes t and c become u and d, by the list l; so many entries were passed over
pub record ApplyCall (t c l u d : List ℕ) (passed : ℕ) : Type 0 where
  pub lent : Lent u d
  pub old : Tables
  pub old-clock : Clock
  pub old-lies : Lies t c old old-clock
  pub new : Tables
  pub new-clock : Clock
  pub new-lies : Lies u d new new-clock
  pub is-applied : ApplyOf old old-clock l new new-clock passed

-- "must give the second": the bytes v and e are the second's, u and d, in all that counts, words included
pub record Gives (v e u d : List ℕ) : Type 0 where
  pub made : Tables
  pub made-clock : Clock
  pub made-lies : Lies v e made made-clock
  pub second : Tables
  pub second-clock : Clock
  pub second-lies : Lies u d second second-clock
  pub equal : Equal made made-clock second second-clock
  pub words : SameWords made second

-- two sets of tables are equal
pub record EqualBytes (t c u d : List ℕ) : Type 0 where
  pub first : Tables
  pub first-clock : Clock
  pub first-lies : Lies t c first first-clock
  pub second : Tables
  pub second-clock : Clock
  pub second-lies : Lies u d second second-clock
  pub equal : Equal first first-clock second second-clock
