-- No step reads the frequency but to test that it is possible: so two clocks of one time and of possible frequencies get the same refusal,
-- the same act and the same result, step by step.
use Rattle.std.specs.Prelude.{ℕ, ◌≡◌, refl, Bool, true, ◌&&◌, List, [], ◌∷◌, eqb, leb, Some}
use Rattle.std.proofs.Math.Path.{sym, ap}
use Rattle.std.proofs.Common.{◌∙◌}
use Rattle.kernel.specs.declared.clock.Clock.{Clock}
use Rattle.kernel.specs.Units.{frequency_fits}
use Rattle.kernel.specs.Waiters.{running_free}
use Rattle.kernel.proofs.Cases.{split}
use Rattle.library.specs.declared.calls.Step.{Step}
use Rattle.library.specs.declared.sizes.Sizes.{Sizes}
use Rattle.library.specs.declared.tables.Plant.{Plant}
use Rattle.library.specs.declared.tables.Tables.{Tables}
use Rattle.library.specs.Fresh.{fresh_tables, fresh_clock, made}
use Rattle.library.specs.Settling.{running_in}
use Rattle.library.specs.Sizes.{sizes_fit, no_sizes}
use Rattle.library.specs.Tables.{opened}
use Rattle.rules.specs.RowRules.{rows_fit}
use Rattle.rules.specs.PlaceRules.{counters_fit}
use Rattle.rules.specs.ReferenceRules.{references_fit}
use Rattle.rules.specs.MailboxRules.{mailboxes_fit}
use Rattle.rules.specs.PoolRules.{pools_fit}
use Rattle.rules.specs.WordRules.{words_fit}
use Rattle.rules.specs.Hanging.{hangs_together}
use Rattle.steps.specs.declared.stepping.Stepped.{Stepped}
use Rattle.steps.specs.Refusal.{kind_fits, caller_fits, context_fits, object_limit, value_fits, state_fits, first_failing, refusal_of}
use Rattle.steps.specs.Stepping.{clock_after, done_with, refused_with, stepped}
use Rattle.promises.specs.Paper.Time.{Possible}
use Rattle.promises.specs.Paper.Run.{Moment, ran_on}
use Rattle.promises.specs.Paper.Frequency.{clock_at, ran_at}
use Rattle.promises.specs.Code.Steps.{moments, ran, fresh_moments}
use Rattle.promises.specs.Meant.Time.{fits-possible}

-- a step's answer, with the clock at f
abbrev stepped_at : ℕ → Stepped → Stepped
stepped_at f r = record { tables = r.tables; clock = clock_at f r.clock; outcome = r.outcome }

module _ (f : ℕ) (possible : frequency_fits f ≡ true) where
  hangs-at : (p : Plant) (c : Clock) → frequency_fits c.frequency ≡ true → hangs_together p (clock_at f c) ≡ hangs_together p c
  unfolding hangs_together
  hangs-at p c e =
      ap
      (λ (b : Bool).
      sizes_fit p.sizes
      && (b
      && (rows_fit p.kernel p.sizes
      && (counters_fit p.kernel p.sizes
      && (references_fit p.kernel p.sizes
      && (mailboxes_fit p && (pools_fit p && (running_free p.kernel && words_fit p.kernel p.sizes))))))))
      (possible ∙ sym e)

  refusal-at : (p : Plant) (c : Clock) (s : Step) → frequency_fits c.frequency ≡ true → refusal_of p (clock_at f c) s ≡ refusal_of p c s
  unfolding refusal_of
  refusal-at p c s e =
      ap
      (λ (b : Bool).
      first_failing b (kind_fits s.kind) (caller_fits (running_in p) s.caller) (context_fits s)
      (leb (object_limit p.sizes s.kind) s.object) (value_fits c.time s) (state_fits p.kernel.references p.pools s))
      (hangs-at p c e)

  -- a tick's time goes on, at the same frequency
  after-at : (c : Clock) (kind : ℕ) → clock_after (clock_at f c) kind ≡ clock_at f (clock_after c kind)
  after-at c kind = split (eqb kind 1) (λ e. rw e) (λ e. rw e)

  step-at : (t : Tables) (c : Clock) (s : Step) → frequency_fits c.frequency ≡ true → stepped t (clock_at f c) s ≡ stepped_at f (stepped t c s)
  unfolding stepped done_with refused_with
  step-at t c s e =
      rw (refusal-at (opened t) c s e, after-at c s.kind)
      (split (eqb (refusal_of (opened t) c s) 0) (λ h. rw h) (λ h. rw h))

-- a step leaves the frequency: at its own it is itself
step-frequency : (t : Tables) (c : Clock) (s : Step) → frequency_fits c.frequency ≡ true → (stepped t c s).clock.frequency ≡ c.frequency
step-frequency t c s e = ap (λ (r : Stepped). r.clock.frequency) (step-at c.frequency e t c s e)

pub run_at : (f : ℕ) → frequency_fits f ≡ true → (t : Tables) (c : Clock) (ss : List Step) → frequency_fits c.frequency ≡ true
    → ran t (clock_at f c) ss ≡ ran_at f (ran t c ss)
run_at f h t c [] e = refl
run_at f h t c (s ∷ ss) e =
    rw (step-at f h t c s e)
    (ap (ran_on (stepped t c s).outcome)
    (run_at f h (stepped t c s).tables (stepped t c s).clock ss (ap frequency_fits (step-frequency t c s e) ∙ e)))

-- ---- moments

-- a moment, with another clock
abbrev pub moment_at : Clock → Moment → Moment
moment_at d m = record { before = m.before; clock = d; step = m.step; result = m.result; after = m.after }

-- the same moments, but for their clocks
pub data Alike : List Moment → List Moment → Type 0 where
  none : Alike [] []
  more : {m : Moment} {d : Clock} {ms ns : List Moment} → Alike ms ns → Alike (m ∷ ms) (moment_at d m ∷ ns)

alike_same : (ms : List Moment) → Alike ms ms
alike_same [] = Alike.none
alike_same (m ∷ ms) = Alike.more {d = m.clock} (alike_same ms)

moments-at : (f : ℕ) → frequency_fits f ≡ true → (t : Tables) (c : Clock) (ss : List Step) → frequency_fits c.frequency ≡ true
    → Alike (moments t c ss) (moments t (clock_at f c) ss)
moments-at f h t c [] e = Alike.none
moments-at f h t c (s ∷ ss) e =
    rw (step-at f h t c s e)
    (Alike.more {d = clock_at f c}
    (moments-at f h (stepped t c s).tables (stepped t c s).clock ss (ap frequency_fits (step-frequency t c s e) ∙ e)))

-- from fresh tables: the same tables, and the same moments
pub fresh-alike : (z : Sizes) (f g : ℕ) → Possible f → Possible g → (ss : List Step)
    → ((made z (Some f)).tables ≡ (made z (Some g)).tables) × Alike (fresh_moments z (Some f) ss) (fresh_moments z (Some g) ss)
unfolding made
fresh-alike z f g p q ss =
    rw (fits-possible f p, fits-possible g q)
    (split (sizes_fit z)
    (λ e. rw e (refl, moments-at g (fits-possible g q) (fresh_tables z) (fresh_clock f) ss (fits-possible f p)))
    (λ e. rw e (refl, alike_same (moments (fresh_tables no_sizes) (fresh_clock 0) ss))))
