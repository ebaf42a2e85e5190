-- What the functions of the boundary are proved to leave is what the paper's relations tell, and they leave no choice. Of each function
-- it is said of the meanings that its contract cites.
use Rattle.std.specs.Prelude.{ℕ, ◌<◌, ◌≡◌, refl, List, [], ◌∷◌, eqb, ℤ, length, Some}
use Rattle.std.proofs.Common.{arith, sym, ap, ◌∙◌, eqb-true}
use Rattle.std.proofs.lemmas.Bool.{eqb-false}
use Rattle.kernel.specs.declared.clock.Clock.{Clock}
use Rattle.kernel.specs.declared.time.SystemTime.{SystemTime}
use Rattle.kernel.specs.declared.time.Interval.{Interval}
use Rattle.kernel.specs.declared.units.Unit.{Unit}
use Rattle.kernel.specs.Told.{Ticks, Units}
use Rattle.kernel.specs.Time.{in_range}
use Rattle.kernel.proofs.Cases.{split, contrary}
use Rattle.library.specs.declared.sizes.Sizes.{Sizes}
use Rattle.library.specs.declared.tables.Tables.{Tables}
use Rattle.library.specs.Told.{Made}
use Rattle.library.specs.Fresh.{made}
use Rattle.steps.specs.declared.stepping.Stepped.{Stepped}
use Rattle.steps.specs.Stepping.{stepped}
use Rattle.trace.specs.Told.{Found, Written}
use Rattle.trace.specs.Decoding.{found_code, next_read}
use Rattle.trace.specs.Writer.{written_code, sizes_answer, sizes_written, step_answer, step_written}
use Rattle.pipes.specs.declared.table.Pipes.{Pipes}
use Rattle.pipes.specs.Told.{Opened, Moved}
use Rattle.pipes.specs.Opening.{pipes_fresh, pipe_reset, pipe_resumed}
use Rattle.pipes.specs.Transfer.{write_answer, buffer_written, read_answer, target_read}
use Rattle.host.specs.declared.request.Request.{Request}
use Rattle.host.specs.declared.request.StepResult.{StepResult}
use Rattle.host.specs.declared.reads.ReadResult.{ReadResult}
use Rattle.host.specs.Request.{step_of, result_of}
use Rattle.host.specs.Setup.{made_for, prepared, tables_set, clock_set}
use Rattle.host.specs.Reads.{request_in, found_number, read_at}
use Rattle.host.specs.Times.{added_time, differed_time, in_range_number, ticks_code, ticks_in, units_code, units_of}
use Rattle.host.specs.Writes.{place_written}
use Rattle.promises.specs.Paper.Answers.{Said, found_said}
use Rattle.promises.specs.Paper.Boundary.{asked, StepCall, FreshCall, StepGiven, ReadCall, PlaceKept, SizesCall, RecordCall, AddCall, DifferenceCall, RangeCall, TicksCall, UnitsCall}
use Rattle.promises.specs.Paper.Boundary.{PipeFreshCall, PipeResetCall, PipeResumeCall, PipeWriteCall, PipeReadCall}
use Rattle.promises.specs.Paper.Pipes.{HostPipes}
use Rattle.promises.specs.Meant.Step.{demand-two}
use Rattle.promises.specs.Paper.Host.{Host}
use Rattle.promises.specs.Paper.Writer.{written_said}
use Rattle.promises.specs.Meant.Only.{step-only}
use Rattle.promises.specs.Meant.Time.{
  sum_is,
  sum_one,
  difference-is,
  difference-one,
  range-is,
  range-one,
  ticks-is,
  ticks-one,
  units-is,
  units-one,
}
use Rattle.promises.specs.Meant.Fresh.{made-is, made_one}
use Rattle.promises.specs.Meant.Reader.{number_is, number-one, read_is, read_one}
use Rattle.promises.specs.Meant.Pipes.{pipe-write-is, pipe-read-is, transfer-one, pipe-reset-is, pipe-resume-is, record-set-one, pipes-fresh-is, pipes-fresh-one}
use Rattle.promises.specs.Meant.Writer.{step-write-is, step-write-one, sizes-write-is, sizes-write-one}

-- ---- nil_step

pub step-call-is : (t : Tables) (c : Clock) (q : Request) → Host t c (asked q)
    → StepCall t c q (stepped t c (step_of q)).tables (stepped t c (step_of q)).clock (result_of (stepped t c (step_of q)).outcome)
step-call-is t c q host =
    record {
      done = stepped t c (step_of q);
      is-step = (demand-two t c (asked q) host).0;
      tables = refl;
      clock = refl;
      code = refl;
      running = refl;
      woken = refl;
      finished = refl;
      message = refl;
      datum = refl;
    }

pub step-call-one : {t : Tables} {c : Clock} {q : Request} {u v : Tables} {d e : Clock} {o p : StepResult}
    → StepCall t c q u d o → StepCall t c q v e p → (u ≡ v) × ((d ≡ e) × (o ≡ p))
step-call-one {t} {c} {q} {o = o} {p = p} a b =
    let same : a.done ≡ b.done = step-only t c (asked q) a.done b.done a.is-step b.is-step in
    let parts : ◌≡◌ {A = StepResult}
    (record { code = o.code; running = o.running; woken = o.woken; finished = o.finished; message = o.message; datum = o.datum })
    (record { code = p.code; running = p.running; woken = p.woken; finished = p.finished; message = p.message; datum = p.datum }) =
    rw (a.code, a.running, a.woken, a.finished, a.message, a.datum, b.code, b.running, b.woken, b.finished, b.message, b.datum, same) in (
      a.tables ∙ ap (λ (x : Stepped). x.tables) same ∙ sym b.tables,
      (a.clock ∙ ap (λ (x : Stepped). x.clock) same ∙ sym b.clock, parts),
    )

-- ---- nil_fresh

pub fresh-call-is : (z : Sizes) (f : ℕ) (t : Tables) (c : Clock) → FreshCall z f t c (prepared z f).code (tables_set z f t) (clock_set z f c)
fresh-call-is z f t c =
    split (eqb (made_for z f).code 0)
    (λ e. rw e
    (let ok : (made_for z f).code ≡ 0 = eqb-true (made_for z f).code 0 e in
    FreshCall.set-up (made z (Some f)) (made-is z (Some f)) ok ok refl refl))
    (λ e. rw e (FreshCall.refused (made z (Some f)) (made-is z (Some f)) (eqb-false (made_for z f).code 0 e) refl refl refl))

pub fresh-call-one : {z : Sizes} {f : ℕ} {t : Tables} {c : Clock} {m n : ℕ} {u v : Tables} {d e : Clock}
    → FreshCall z f t c m u d → FreshCall z f t c n v e → (m ≡ n) × ((u ≡ v) × (d ≡ e))
fresh-call-one (FreshCall.refused m a b c d e) (FreshCall.refused n f g h i j) =
    (c ∙ ap (λ (x : Made). x.code) (made_one a f) ∙ sym h, (d ∙ sym i, e ∙ sym j))
fresh-call-one (FreshCall.refused m a b c d e) (FreshCall.set-up n f g h i j) = absurd (b (ap (λ (x : Made). x.code) (made_one a f) ∙ g))
fresh-call-one (FreshCall.set-up m a b c d e) (FreshCall.refused n f g h i j) = absurd (g (ap (λ (x : Made). x.code) (made_one f a) ∙ b))
fresh-call-one (FreshCall.set-up m a b c d e) (FreshCall.set-up n f g h i j) =
    (c ∙ sym h, (d ∙ ap (λ (x : Made). x.tables) (made_one a f) ∙ sym i, e ∙ ap (λ (x : Made). x.clock) (made_one a f) ∙ sym j))

-- ---- nil_read

step_given : (f : Found) → StepGiven (found_said f) (request_in f)
step_given Found.Opened = StepGiven.none (λ e. omega arith) refl
step_given (Found.Stepped x) = StepGiven.step refl refl refl
step_given Found.Ended = StepGiven.none (λ e. omega arith) refl
step_given (Found.Refused c n) = StepGiven.none (λ e. omega arith) refl

found-number : (f : Found) → found_number f ≡ (found_said f).gives
found-number Found.Opened = refl
found-number (Found.Stepped x) = refl
found-number Found.Ended = refl
found-number (Found.Refused c n) = refl

found-code : (f : Found) → found_code f ≡ (found_said f).code
found-code Found.Opened = refl
found-code (Found.Stepped x) = refl
found-code Found.Ended = refl
found-code (Found.Refused c n) = refl

pub read-call-is : (s : List ℕ) (at : ℕ) → ReadCall s at (read_at s at)
read-call-is s at =
    record {
      done = next_read s at;
      is_read = read_is s at;
      next = refl;
      number = number_is at;
      step = step_given (next_read s at).found;
      sizes = refl;
      found = found-number (next_read s at).found;
      code = found-code (next_read s at).found;
    }

same-request : (p q : Request) → p.kind ≡ q.kind → p.caller ≡ q.caller → p.object ≡ q.object → p.unused ≡ q.unused → p.a ≡ q.a
    → p.timeout ≡ q.timeout → p ≡ q
same-request p q a b c d e f =
    let parts : ◌≡◌ {A = Request}
    (record { kind = p.kind; caller = p.caller; object = p.object; unused = p.unused; a = p.a; timeout = p.timeout })
    (record { kind = q.kind; caller = q.caller; object = q.object; unused = q.unused; a = q.a; timeout = q.timeout }) =
    rw (a, b, c, d, e, f) in
    parts

given-one : (x : Said) (p q : Request) → StepGiven x p → StepGiven x q → p ≡ q
given-one x p q (StepGiven.step a b c) (StepGiven.step d e f) =
    let v : p.kind ∷ p.caller ∷ p.object ∷ p.a ∷ p.timeout ∷ [] ≡ q.kind ∷ q.caller ∷ q.object ∷ q.a ∷ q.timeout ∷ [] = b ∙ sym e in
    same-request p q (cc) (cc) (cc) (c ∙ sym f) (cc) (cc)
given-one x p q (StepGiven.step a b c) (StepGiven.none d e) = absurd (d a)
given-one x p q (StepGiven.none a b) (StepGiven.step d e f) = absurd (a d)
given-one x p q (StepGiven.none a b) (StepGiven.none d e) = b ∙ sym e

pub read-call-one : {s : List ℕ} {at : ℕ} {x y : ReadResult} → ReadCall s at x → ReadCall s at y → x ≡ y
read-call-one {s} {at} {x} {y} a b =
    let same : a.done ≡ b.done = read_one a.is_read b.is_read in
    let given : StepGiven (found_said b.done.found) x.step = rw same at a.step in
    let step : x.step ≡ y.step = given-one (found_said b.done.found) x.step y.step given b.step in
    let parts : ◌≡◌ {A = ReadResult}
    (record { next = x.next; number = x.number; step = x.step; sizes = x.sizes; found = x.found; code = x.code })
    (record { next = y.next; number = y.number; step = y.step; sizes = y.sizes; found = y.found; code = y.code }) =
    rw (a.next, number-one a.number b.number, step, a.sizes, a.found, a.code, b.next, b.sizes, b.found, b.code, same) in
    parts

-- ---- nil_write_sizes, nil_write_step

written-coded : (w : Written) → written_code w ≡ (written_said w).code
written-coded (Written.Upto n) = refl
written-coded (Written.Refused c) = refl

place_kept : (w : Written) (place : ℕ) → PlaceKept (written_said w) place (place_written w place)
place_kept (Written.Upto n) place = PlaceKept.moves refl refl
place_kept (Written.Refused c) place = PlaceKept.stays (λ e. omega arith) refl

kept-one : (x : Said) (place m n : ℕ) → PlaceKept x place m → PlaceKept x place n → m ≡ n
kept-one x place m n (PlaceKept.moves a b) (PlaceKept.moves c d) = let v : m ∷ [] ≡ n ∷ [] = b ∙ sym d in cc
kept-one x place m n (PlaceKept.moves a b) (PlaceKept.stays c d) = absurd (c a)
kept-one x place m n (PlaceKept.stays a b) (PlaceKept.moves c d) = absurd (a c)
kept-one x place m n (PlaceKept.stays a b) (PlaceKept.stays c d) = b ∙ sym d

pub sizes-call-is : (z : Sizes) (l : List ℕ) (place : ℕ)
    → SizesCall z l place (written_code (sizes_answer z l)) (sizes_written z l) (place_written (sizes_answer z l) place)
sizes-call-is z l place =
    record {
      done = sizes_answer z l;
      is-write = sizes-write-is z l;
      coded = written-coded (sizes_answer z l);
      placed = place_kept (sizes_answer z l) place;
    }

pub sizes-call-one : {z : Sizes} {l : List ℕ} {place c d : ℕ} {k j : List ℕ} {m n : ℕ} → SizesCall z l place c k m → SizesCall z l place d j n
    → (c ≡ d) × ((k ≡ j) × (m ≡ n))
sizes-call-one {place = place} {m = m} {n = n} a b =
    let same = sizes-write-one a.is-write b.is-write in
    let placed : PlaceKept (written_said b.done) place m = rw same.0 at a.placed in (
      a.coded ∙ ap (λ (w : Written). (written_said w).code) same.0 ∙ sym b.coded,
      (same.1, kept-one (written_said b.done) place m n placed b.placed),
    )

pub record-call-is : (q : Request) (at : ℕ) (l : List ℕ) (place : ℕ)
    → RecordCall q at l place (written_code (step_answer at l)) (step_written (step_of q) at l) (place_written (step_answer at l) place)
record-call-is q at l place =
    record {
      done = step_answer at l;
      is-write = step-write-is (asked q) at l;
      coded = written-coded (step_answer at l);
      placed = place_kept (step_answer at l) place;
    }

pub record-call-one : {q : Request} {at : ℕ} {l : List ℕ} {place c d : ℕ} {k j : List ℕ} {m n : ℕ}
    → RecordCall q at l place c k m → RecordCall q at l place d j n → (c ≡ d) × ((k ≡ j) × (m ≡ n))
record-call-one {place = place} {m = m} {n = n} a b =
    let same = step-write-one a.is-write b.is-write in
    let placed : PlaceKept (written_said b.done) place m = rw same.0 at a.placed in (
      a.coded ∙ ap (λ (w : Written). (written_said w).code) same.0 ∙ sym b.coded,
      (same.1, kept-one (written_said b.done) place m n placed b.placed),
    )

-- ---- time for a host

pub add-call-is : (time interval : ℕ) → time < 4294967296 → interval < 4294967296 → AddCall time interval (added_time time interval)
add-call-is time interval h g = sum_is (record { 0 = time }) (record { 0 = interval }) h g

pub add-call-one : {time interval r q : ℕ} → AddCall time interval r → AddCall time interval q → r ≡ q
add-call-one a b = ap (λ (x : SystemTime). x.0) (sum_one a b)

pub difference-call-is : (start end : ℕ) → start < 4294967296 → end < 4294967296 → DifferenceCall start end (differed_time start end)
difference-call-is start end h g = difference-is (record { 0 = start }) (record { 0 = end }) h g

pub difference-call-one : {start end r q : ℕ} → DifferenceCall start end r → DifferenceCall start end q → r ≡ q
difference-call-one a b = ap (λ (x : Interval). x.0) (difference-one a b)

pub range-call-is : (time start end : ℕ) → time < 4294967296 → start < 4294967296 → end < 4294967296
    → RangeCall time start end (in_range_number time start end)
range-call-is time start end h g i =
    let is = range-is (record { 0 = time }) (record { 0 = start }) (record { 0 = end }) h g i in
    split (in_range (record { 0 = time }) (record { 0 = start }) (record { 0 = end }))
    (λ e. rw e (RangeCall.inside (rw e at is)))
    (λ e. rw e (RangeCall.outside (rw e at is)))

pub range-call-one : {time start end r q : ℕ} → RangeCall time start end r → RangeCall time start end q → r ≡ q
range-call-one (RangeCall.inside a) (RangeCall.inside b) = refl
range-call-one (RangeCall.inside a) (RangeCall.outside b) = contrary refl (range-one a b)
range-call-one (RangeCall.outside a) (RangeCall.inside b) = contrary refl (range-one b a)
range-call-one (RangeCall.outside a) (RangeCall.outside b) = refl

pub ticks-call-is : (u : Unit) (x frequency : ℕ) → TicksCall u x frequency (ticks_code u x frequency) (ticks_in u x frequency)
ticks-call-is u x frequency = ticks-is u x (Some frequency)

pub ticks-call-one : {u : Unit} {x frequency c d m n : ℕ} → TicksCall u x frequency c m → TicksCall u x frequency d n → (c ≡ d) × (m ≡ n)
ticks-call-one a b =
    let same = ticks-one a b in
    (ap (λ (r : Ticks). r.code) same, ap (λ (r : Ticks). r.interval.0) same)

pub units-call-is : (u : Unit) (ticks frequency : ℕ) → ticks < 4294967296
    → UnitsCall u ticks frequency (units_code u ticks frequency) (units_of u ticks frequency)
units-call-is u ticks frequency h = units-is u (record { 0 = ticks }) (Some frequency) h

pub units-call-one : {u : Unit} {ticks frequency c d m n : ℕ} → UnitsCall u ticks frequency c m → UnitsCall u ticks frequency d n
    → (c ≡ d) × (m ≡ n)
units-call-one a b =
    let same = units-one a b in
    (ap (λ (r : Units). r.code) same, ap (λ (r : Units). r.value) same)

-- ---- pipes

-- the parts of one answer
opened-parts : {c d : ℕ} {u v : Pipes} → ◌≡◌ {A = Opened} (record { pipes = u; code = c }) (record { pipes = v; code = d }) → (c ≡ d) × (u ≡ v)
opened-parts e = (ap (λ (o : Opened). o.code) e, ap (λ (o : Opened). o.pipes) e)

moved-parts : {c d : ℕ} {u v : Pipes} {y z : ℤ}
    → ◌≡◌ {A = Moved} (record { pipes = u; code = c; moved = y }) (record { pipes = v; code = d; moved = z }) → (c ≡ d) × ((u ≡ v) × (y ≡ z))
moved-parts e = (ap (λ (m : Moved). m.code) e, (ap (λ (m : Moved). m.pipes) e, ap (λ (m : Moved). m.moved) e))

pub pipe-fresh-call-is : (t : Pipes) (number : ℕ) → PipeFreshCall t number (pipes_fresh t number).code (pipes_fresh t number).pipes
pipe-fresh-call-is t number = pipes-fresh-is t number

pub pipe-fresh-call-one : {t : Pipes} {number c d : ℕ} {u v : Pipes} → PipeFreshCall t number c u → PipeFreshCall t number d v → (c ≡ d) × (u ≡ v)
pipe-fresh-call-one a b = opened-parts (pipes-fresh-one a b)

module _ (t : Pipes) (h : HostPipes t) (i : ℕ) where
  pub pipe-reset-call-is : (n : ℕ) → PipeResetCall t i n (pipe_reset t i n).code (pipe_reset t i n).pipes
  pipe-reset-call-is n = pipe-reset-is t h i n

  pub pipe-resume-call-is : (n : ℕ) → PipeResumeCall t i n (pipe_resumed t i n).code (pipe_resumed t i n).pipes
  pipe-resume-call-is n = pipe-resume-is t h i n

  pub pipe-write-call-is : (b l : List ℕ)
      → PipeWriteCall t i b l (write_answer t i (length b) (length l)).code (write_answer t i (length b) (length l)).pipes (buffer_written t i b l)
      (write_answer t i (length b) (length l)).moved
  pipe-write-call-is b l = pipe-write-is t h i b l

  pub pipe-read-call-is : (b g : List ℕ)
      → PipeReadCall t i b g (read_answer t i (length b) (length g)).code (read_answer t i (length b) (length g)).pipes (target_read t i b g)
      (read_answer t i (length b) (length g)).moved
  pipe-read-call-is b g = pipe-read-is t h i b g

module _ {t : Pipes} {i c d : ℕ} {u v : Pipes} where
  pub pipe-reset-call-one : {n : ℕ} → PipeResetCall t i n c u → PipeResetCall t i n d v → (c ≡ d) × (u ≡ v)
  pipe-reset-call-one a b = opened-parts (record-set-one a b)

  pub pipe-resume-call-one : {n : ℕ} → PipeResumeCall t i n c u → PipeResumeCall t i n d v → (c ≡ d) × (u ≡ v)
  pipe-resume-call-one a b = opened-parts (record-set-one a b)

  pub pipe-write-call-one : {b l e f : List ℕ} {y z : ℤ} → PipeWriteCall t i b l c u e y → PipeWriteCall t i b l d v f z
      → ((c ≡ d) × ((u ≡ v) × (y ≡ z))) × (e ≡ f)
  pipe-write-call-one a b = let same = transfer-one a b in (moved-parts same.0, same.1)

  pub pipe-read-call-one : {b g e f : List ℕ} {y z : ℤ} → PipeReadCall t i b g c u e y → PipeReadCall t i b g d v f z
      → ((c ≡ d) × ((u ≡ v) × (y ≡ z))) × (e ≡ f)
  pipe-read-call-one a b = let same = transfer-one a b in (moved-parts same.0, same.1)
