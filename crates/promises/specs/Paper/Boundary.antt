-- THE BOUNDARY TO A HOST: what each function that a host calls leaves of what it was lent, told over the paper's relations.
-- Where a function is refused, what it was lent stays as it was.
use Rattle.std.specs.Prelude.{ℕ, ◌<◌, ◌≡◌, ◌≢◌, Bool, true, false, List, [], ◌∷◌, ℤ, get_or, Some}
use Rattle.kernel.specs.declared.clock.Clock.{Clock}
use Rattle.kernel.specs.declared.units.Unit.{Unit}
use Rattle.library.specs.declared.calls.Step.{Step}
use Rattle.library.specs.declared.sizes.Sizes.{Sizes}
use Rattle.library.specs.declared.tables.Tables.{Tables}
use Rattle.library.specs.Told.{Made}
use Rattle.steps.specs.declared.stepping.Stepped.{Stepped}
use Rattle.trace.specs.Told.{Read, Written}
use Rattle.pipes.specs.declared.table.Pipes.{Pipes}
use Rattle.host.specs.declared.request.Request.{Request}
use Rattle.host.specs.declared.request.StepResult.{StepResult}
use Rattle.host.specs.declared.reads.ReadResult.{ReadResult}
use Rattle.promises.specs.Paper.World.{found, Running}
use Rattle.promises.specs.Paper.Together.{number, is_queued, is_ready, InUse, WordOf}
use Rattle.promises.specs.Paper.Waking.{in_mask}
use Rattle.promises.specs.Paper.Step.{StepOf}
use Rattle.promises.specs.Paper.Time.{SumOf, DifferenceOf, RangeOf, TicksOf, UnitsOf}
use Rattle.promises.specs.Paper.Fresh.{MadeOf}
use Rattle.promises.specs.Paper.Answers.{Said, found_said}
use Rattle.promises.specs.Paper.Reader.{NumberOf, ReadOf}
use Rattle.promises.specs.Paper.Writer.{WriteOfSizes, WriteOfStep, written_said}
use Rattle.promises.specs.Paper.Pipes.{PipeWriteOf, PipeReadOf, PipeResetOf, PipeResumeOf, PipesFreshOf}

-- "A step has kind, caller, object, operand a and timeout": the step that a request asks for; its byte `unused` is ignored
abbrev pub asked : Request → Step
asked q = record { kind = q.kind; caller = q.caller; object = q.object; a = q.a; timeout = q.timeout }

-- nil_step: the tables t and the clock c become u and d, and the result is o. "A step's result: code, running thread, masks of threads woken
-- and of threads whose calls finished, and message and datum"
pub record StepCall (t : Tables) (c : Clock) (q : Request) (u : Tables) (d : Clock) (o : StepResult) : Type 0 where
  pub done : Stepped
  pub is-step : StepOf t c (asked q) done
  pub tables : u ≡ done.tables
  pub clock : d ≡ done.clock
  pub code : o.code ≡ done.outcome.code
  pub running : o.running ≡ done.outcome.running
  pub woken : o.woken ≡ done.outcome.woken
  pub finished : o.finished ≡ done.outcome.finished
  pub message : o.message ≡ done.outcome.message
  pub datum : o.datum ≡ done.outcome.datum

-- nil_fresh: fresh tables of the sizes z at the frequency f, and the code; the tables t and the clock c become u and d
pub data FreshCall (z : Sizes) (f : ℕ) (t : Tables) (c : Clock) (code : ℕ) (u : Tables) (d : Clock) : Type 0 where
  refused : (m : Made) → MadeOf z (Some f) m → m.code ≢ 0 → code ≡ m.code → u ≡ t → d ≡ c → FreshCall z f t c code u d
  set-up : (m : Made) → MadeOf z (Some f) m → m.code ≡ 0 → code ≡ 0 → u ≡ m.tables → d ≡ m.clock → FreshCall z f t c code u d

-- the step of a read as a host gets it: its values where the read gave one (2), else zeros
pub data StepGiven (x : Said) (q : Request) : Type 0 where
  step : x.gives ≡ 2 → q.kind ∷ q.caller ∷ q.object ∷ q.a ∷ q.timeout ∷ [] ≡ x.values → q.unused ≡ 0 → StepGiven x q
  none : x.gives ≢ 2 → q ≡ record { kind = 0; caller = 0; object = 0; unused = 0; a = 0; timeout = 0 } → StepGiven x q

-- nil_read: the record at a place of the trace s. "A refused read gives the number, the record's number and no step, and moves no reader"
pub record ReadCall (s : List ℕ) (at : ℕ) (x : ReadResult) : Type 0 where
  pub done : Read
  pub is_read : ReadOf s at done
  pub next : x.next ≡ done.next
  pub number : NumberOf at x.number
  pub step : StepGiven (found_said done.found) x.step
  pub sizes : x.sizes ≡ done.sizes
  -- 0 nothing, 1 sizes, 2 a step
  pub found : x.found ≡ (found_said done.found).gives
  pub code : x.code ≡ (found_said done.found).code

-- the place that a host keeps: the one after what was written (3), or as it was
pub data PlaceKept (x : Said) (place after : ℕ) : Type 0 where
  moves : x.gives ≡ 3 → after ∷ [] ≡ x.values → PlaceKept x place after
  stays : x.gives ≢ 3 → after ≡ place → PlaceKept x place after

-- nil_write_sizes: the buffer l becomes k, and the host's place becomes another
pub record SizesCall (z : Sizes) (l : List ℕ) (place code : ℕ) (k : List ℕ) (after : ℕ) : Type 0 where
  pub done : Written
  pub is-write : WriteOfSizes z l done k
  pub coded : code ≡ (written_said done).code
  pub placed : PlaceKept (written_said done) place after

-- nil_write_step: at a place of the buffer
pub record RecordCall (q : Request) (at : ℕ) (l : List ℕ) (place code : ℕ) (k : List ℕ) (after : ℕ) : Type 0 where
  pub done : Written
  pub is-write : WriteOfStep (asked q) at l done k
  pub coded : code ≡ (written_said done).code
  pub placed : PlaceKept (written_said done) place after

-- ---- time for a host: its times, intervals and frequencies are plain numbers

-- nil_time_add: "Time plus interval .. wrap"
abbrev pub AddCall : ℕ → ℕ → ℕ → Type 0
AddCall time interval r = SumOf (record { 0 = time }) (record { 0 = interval }) (record { 0 = r })

-- nil_time_diff: ".. and end minus start wrap"
abbrev pub DifferenceCall : ℕ → ℕ → ℕ → Type 0
DifferenceCall start end r = DifferenceOf (record { 0 = start }) (record { 0 = end }) (record { 0 = r })

-- nil_time_in_range: 1 for a time in range, else 0
pub data RangeCall (time start end : ℕ) : ℕ → Type 0 where
  inside : RangeOf (record { 0 = time }) (record { 0 = start }) (record { 0 = end }) true → RangeCall time start end 1
  outside : RangeOf (record { 0 = time }) (record { 0 = start }) (record { 0 = end }) false → RangeCall time start end 0

-- nil_s2i, nil_ms2i, nil_us2i: so much of a unit, as a code and ticks
abbrev pub TicksCall : Unit → ℕ → ℕ → ℕ → ℕ → Type 0
TicksCall u x frequency code ticks = TicksOf u x (Some frequency) (record { code = code; interval = record { 0 = ticks } })

-- nil_i2s, nil_i2ms, nil_i2us: so many ticks, as a code and a number of a unit
abbrev pub UnitsCall : Unit → ℕ → ℕ → ℕ → ℕ → Type 0
UnitsCall u ticks frequency code value = UnitsOf u (record { 0 = ticks }) (Some frequency) (record { code = code; value = value })

-- ---- for a screen: they read the words alone, on any tables

-- whether the ready word has bit i
abbrev pub names_ready : Tables → ℕ → Bool
names_ready t i = in_mask i t.kernel.words.ready

-- nil_ready_count: "the number of ones"
abbrev pub CountCall : Tables → ℕ → Type 0
CountCall t r = r ≡ number (names_ready t) 16

-- nil_first_ready: "the number of trailing zeros of the word, and an empty word means idle"
pub data FirstCall (t : Tables) (r : ℕ) : Type 0 where
  some : r < 16 → names_ready t r ≡ true → ((j : ℕ) → j < r → names_ready t j ≡ false) → FirstCall t r
  none : ((j : ℕ) → j < 16 → names_ready t j ≡ false) → r ≡ 255 → FirstCall t r

-- nil_waiting: the word of the place p; past all places there is none
abbrev pub WaitingCall : Tables → ℕ → ℕ → Type 0
WaitingCall t p r = r ≡ get_or t.kernel.words.waiting p 0

-- what they show of tables that hang together: how many threads are ready, the first of them, and who waits at a place
pub record ScreenOf (t : Tables) (count first : ℕ) (waiting : ℕ → ℕ) : Type 0 where
  -- "The number of ready threads is the number of ones"
  pub counted : count ≡ number (is_ready (found t)) t.sizes.threads
  -- "the first ready thread is the number of trailing zeros of the word, and an empty word means idle"
  pub running : Running (found t) first
  -- "the threads waiting there"
  pub waiters : (p : ℕ) → InUse t.sizes p → WordOf (is_queued (found t) p) t.sizes.threads (waiting p)

-- ---- pipes: the table t becomes u, and the code is the host's answer

-- nil_pipe_fresh
abbrev pub PipeFreshCall : Pipes → ℕ → ℕ → Pipes → Type 0
PipeFreshCall t number code u = PipesFreshOf t number (record { pipes = u; code = code })

-- nil_pipe_reset, nil_pipe_resume: with a buffer of n bytes
abbrev pub PipeResetCall : Pipes → ℕ → ℕ → ℕ → Pipes → Type 0
PipeResetCall t i n code u = PipeResetOf t i n (record { pipes = u; code = code })

abbrev pub PipeResumeCall : Pipes → ℕ → ℕ → ℕ → Pipes → Type 0
PipeResumeCall t i n code u = PipeResumeOf t i n (record { pipes = u; code = code })

-- nil_pipe_write: of the bytes l; the buffer b becomes c, and the number moved, or -2, is z
abbrev pub PipeWriteCall : Pipes → ℕ → List ℕ → List ℕ → ℕ → Pipes → List ℕ → ℤ → Type 0
PipeWriteCall t i b l code u c z = PipeWriteOf t i b l (record { pipes = u; code = code; moved = z }) c

-- nil_pipe_read: the target g becomes h
abbrev pub PipeReadCall : Pipes → ℕ → List ℕ → List ℕ → ℕ → Pipes → List ℕ → ℤ → Type 0
PipeReadCall t i b g code u h z = PipeReadOf t i b g (record { pipes = u; code = code; moved = z }) h
