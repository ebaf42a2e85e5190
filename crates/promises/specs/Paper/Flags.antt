-- EVENT FLAGS, OF DOCUMENT 02: what an accepted step makes of the flags that are pending for a thread, and what has become of a flag after
-- a run. Read off the steps, their results, and the tables between two steps.
use Rattle.std.specs.Prelude.{ℕ, ◌-◌, ◌≡◌, ◌≢◌, Bool, true, false, cond, not, ◌&&◌, ◌||◌, List, [], ◌∷◌, eqb, ℤ, pos, negsuc}
use Rattle.std.specs.Int.Bits.{bit_and}
use Rattle.kernel.specs.declared.records.Thread.{Thread}
use Rattle.library.specs.declared.calls.Step.{Step}
use Rattle.library.specs.declared.tables.Tables.{Tables}
use Rattle.promises.specs.Paper.Together.{is_zero}
use Rattle.promises.specs.Paper.Waking.{row_of, in_mask, WokenBy, heard}
use Rattle.promises.specs.Paper.Run.{Moment, is_accepted, any_of}

-- ---- one step

-- whether the call that thread i may finish in the step s is an event wait: the step's own call, if i is the caller, else the one that its
-- record kept
abbrev pub awaits_flags : Tables → Step → ℕ → Bool
awaits_flags t s i = cond (eqb s.caller i) (eqb s.kind 14) (eqb (row_of t i).call.kind 14)

-- an event wait of thread i that goes on in the step s: its mask, and the message with which
pub data GoesOn (t : Tables) (s : Step) (i : ℕ) : ℕ → ℤ → Type 0 where
  -- the step's own: it finds pending flags of its mask, or "a timeout of 0 answers -1 at once, .. where 14 finds no pending flag"
  finds : s.caller ≡ i → s.kind ≡ 14 → bit_and (row_of t i).pending s.a ≢ 0 → GoesOn t s i s.a (pos 0)
  finds-none : s.caller ≡ i → s.kind ≡ 14 → bit_and (row_of t i).pending s.a ≡ 0 → s.timeout ≡ 0 → GoesOn t s i s.a (negsuc 0)
  -- one that was woken before this step, and not continued yet
  woken : s.caller ≢ i → (row_of t i).state ≡ 0 → (row_of t i).call.kind ≡ 14 → GoesOn t s i (row_of t i).call.operand (row_of t i).message
  -- one that this step wakes
  wakes : {m : ℤ} {c : ℕ} → s.caller ≢ i → (row_of t i).call.kind ≡ 14 → WokenBy t s i (row_of t i) m c → GoesOn t s i (row_of t i).call.operand m

-- what an accepted step s, on the tables t, has made of the flags of thread i: b is its record then, beside whether its call finished.
-- `heard` is what is pending for it once the flags of this step have come
pub data FlagsAfter (t : Tables) (s : Step) (i : ℕ) (b : Thread) (finished : Bool) : Type 0 where
  -- the wait "clears and answers all pending flags in its mask": no other flag is touched
  taken : (mask : ℕ) → GoesOn t s i mask (pos 0) → finished ≡ true
      → b.answer ≡ record { message = pos 0; datum = bit_and (heard s i (row_of t i)) mask }
      → b.pending ≡ heard s i (row_of t i) - bit_and (heard s i (row_of t i)) mask → FlagsAfter t s i b finished
  -- "A wait that timed out still answers -1 with 0, and flags that came afterwards stay pending"
  late : (mask : ℕ) (m : ℤ) → GoesOn t s i mask m → m ≢ pos 0 → finished ≡ true → b.answer ≡ record { message = m; datum = 0 }
      → b.pending ≡ heard s i (row_of t i) → FlagsAfter t s i b finished
  -- no event wait of it finishes: its flags stay pending, and so do those that come
  stays : (awaits_flags t s i && finished) ≡ false → b.pending ≡ heard s i (row_of t i) → FlagsAfter t s i b finished

-- ---- a run

-- the flags that a moment signals to thread i
abbrev pub signalled_to : ℕ → Moment → ℕ
signalled_to i m = cond (is_accepted m && (eqb m.step.kind 13 && eqb m.step.object i)) m.step.a 0

-- the flags that it answers to thread i: the datum, where an event wait of it finishes with 0
abbrev pub answered_to : ℕ → Moment → ℕ
answered_to i m =
    cond
    (is_accepted m
    && (in_mask i m.result.finished
    && (awaits_flags m.before m.step i && is_zero (row_of m.after i).answer.message)))
    (row_of m.after i).answer.datum 0

-- whether flag n is among those answered to thread i in any of several moments
abbrev pub answered_in : ℕ → ℕ → List Moment → Bool
answered_in i n ms = any_of (λ m. in_mask n (answered_to i m)) ms

-- the account of flag n of thread i over a run: whether it is pending before it, and after it. A flag that comes is pending until it is
-- answered: "no flag signalled is lost"; and what is answered has come and was not answered yet
pub data Account (i n : ℕ) (last : Bool) : Bool → List Moment → Type 0 where
  ends : {b : Bool} → last ≡ b → Account i n last b []
  goes : {b : Bool} {m : Moment} {ms : List Moment} → (in_mask n (answered_to i m) ≡ true → (b || in_mask n (signalled_to i m)) ≡ true)
      → Account i n last ((b || in_mask n (signalled_to i m)) && not (in_mask n (answered_to i m))) ms → Account i n last b (m ∷ ms)
