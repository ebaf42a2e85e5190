-- THE REFUSALS: which rule a step breaks, by its number, and what a refused step gives back.
use Rattle.std.specs.Prelude.{ℕ, ◌+◌, ◌-◌, ◌%◌, ◌≤◌, ◌<◌, ◌≡◌, ◌≢◌, ◌⊎◌, ◌↔◌, get_or, pos}
use Rattle.kernel.specs.declared.clock.Clock.{Clock}
use Rattle.library.specs.declared.calls.Step.{Step}
use Rattle.library.specs.declared.tables.Tables.{Tables}
use Rattle.steps.specs.declared.stepping.Stepped.{Stepped}
use Rattle.promises.specs.Paper.World.{found, First, Running}
use Rattle.promises.specs.Paper.Together.{HangTogether}

-- "2, 6, 9, 11, 12, 14"
abbrev pub KernelWait : ℕ → Type 0
KernelWait n = (n ≡ 2) ⊎ ((n ≡ 6) ⊎ ((n ≡ 9) ⊎ ((n ≡ 11) ⊎ ((n ≡ 12) ⊎ (n ≡ 14)))))

-- "15, 16, 17, 20"
abbrev pub BoxWait : ℕ → Type 0
BoxWait n = (n ≡ 15) ⊎ ((n ≡ 16) ⊎ ((n ≡ 17) ⊎ (n ≡ 20)))

-- "of 0 or 4294967295 ticks"
abbrev pub NoSpan : ℕ → Type 0
NoSpan d = (d ≡ 0) ⊎ (4294967295 ≤ d)

-- "Refusal numbers": the step s breaks the rule of this number
pub data Broken (t : Tables) (c : Clock) (s : Step) : ℕ → Type 0 where
  -- "the tables break a rule of the next section"
  tables : (HangTogether (found t) t.kernel.words c → ⊥) → Broken t c s 1
  -- "kind not 1 to 22"
  no_kind : s.kind ≡ 0 → Broken t c s 2
  other-kind : 22 < s.kind → Broken t c s 2
  -- "caller is neither 255 nor the running thread"
  caller : s.caller ≢ 255 → (First (found t) s.caller → ⊥) → Broken t c s 3
  -- "tick from a thread; 2, 6, 9, 11, 12, 14 from an interrupt; 15, 16, 17, 20 from an interrupt with timeout not 0"
  tick : s.caller ≢ 255 → s.kind ≡ 1 → Broken t c s 4
  wait : s.caller ≡ 255 → KernelWait s.kind → Broken t c s 4
  box-wait : s.caller ≡ 255 → BoxWait s.kind → s.timeout ≢ 0 → Broken t c s 4
  -- "object not in the configuration (13: no such thread)"
  semaphore : 2 ≤ s.kind → s.kind ≤ 5 → t.sizes.semaphores ≤ s.object → Broken t c s 5
  queue : 6 ≤ s.kind → s.kind ≤ 8 → t.sizes.queues ≤ s.object → Broken t c s 5
  reference : 9 ≤ s.kind → s.kind ≤ 10 → t.sizes.references ≤ s.object → Broken t c s 5
  thread : s.kind ≡ 13 → t.sizes.threads ≤ s.object → Broken t c s 5
  mailbox : 15 ≤ s.kind → s.kind ≤ 19 → t.sizes.mailboxes ≤ s.object → Broken t c s 5
  pool : 20 ≤ s.kind → s.kind ≤ 22 → t.sizes.pools ≤ s.object → Broken t c s 5
  -- "reset above 2147483647; pool object above 31; event wait for mask 0; sleep, for or until, of 0 or 4294967295 ticks"
  reset : s.kind ≡ 4 → 2147483647 < s.a → Broken t c s 6
  pool-object : (s.kind ≡ 21) ⊎ (s.kind ≡ 22) → 31 < s.a → Broken t c s 6
  mask : s.kind ≡ 14 → s.a ≡ 0 → Broken t c s 6
  sleep-for : s.kind ≡ 11 → NoSpan s.timeout → Broken t c s 6
  sleep-until : s.kind ≡ 12 → NoSpan ((s.a + (4294967296 - c.time.0)) % 4294967296) → Broken t c s 6
  -- "suspend on a held reference; free of an object not out; add of one not absent": out is mark 2, absent 0. Of document 02: "the first
  -- case of 7 is struck out"
  suspend : s.kind ≡ 9 → (found t).holder s.object ≢ 255 → Broken t c s 7
  free : s.kind ≡ 21 → s.a ≤ 31 → get_or ((found t).pool s.object).marks s.a 0 ≢ 2 → Broken t c s 7
  add : s.kind ≡ 22 → s.a ≤ 31 → get_or ((found t).pool s.object).marks s.a 0 ≢ 0 → Broken t c s 7

-- "A refused step returns its number, the running thread as it stands (255 for 1), masks 0, message 0, datum 0. All tables keep their
-- bytes"
pub record RefusedWith (t : Tables) (c : Clock) (n : ℕ) (r : Stepped) : Type 0 where
  pub tables : r.tables ≡ t
  pub clock : r.clock ≡ c
  pub code : r.outcome.code ≡ n
  pub no-running : n ≡ 1 → r.outcome.running ≡ 255
  pub running : n ≢ 1 → Running (found t) r.outcome.running
  pub woken : r.outcome.woken ≡ 0
  pub finished : r.outcome.finished ≡ 0
  pub message : r.outcome.message ≡ pos 0
  pub datum : r.outcome.datum ≡ 0

-- "Any tables and any step get an answer. Bad ones get the refusal number of document 01; then every table byte stays as it was, no thread is
-- woken, no call finishes": the answer r
pub record Answered (t : Tables) (c : Clock) (s : Step) (r : Stepped) : Type 0 where
  -- "Given exactly when", "in the order of checking": its rule is broken and none before it
  pub refused : (n : ℕ) → n ≢ 0 → (r.outcome.code ≡ n) ↔ (Broken t c s n × ((m : ℕ) → m < n → Broken t c s m → ⊥))
  -- accepted is what breaks none
  pub accepted : (r.outcome.code ≡ 0) ↔ ((n : ℕ) → Broken t c s n → ⊥)
  -- and a refused step leaves tables and clock, wakes nobody and finishes nothing
  pub untouched : r.outcome.code ≢ 0 → RefusedWith t c r.outcome.code r
  -- there are seven numbers
  pub numbers : r.outcome.code ≤ 7
