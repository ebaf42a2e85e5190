-- A refused step adds nothing to a run: the accepted steps alone leave the same tables and the same clock.
use Rattle.std.specs.Prelude.{suc, ◌≡◌, refl, ◌≢◌, Bool, false, cond, List, [], ◌∷◌, ◌++◌, eqb, length}
use Rattle.std.proofs.Common.{ap}
use Rattle.std.proofs.lemmas.Bool.{eqb-false}
use Rattle.kernel.specs.declared.clock.Clock.{Clock}
use Rattle.kernel.proofs.Cases.{split}
use Rattle.library.specs.declared.calls.Step.{Step}
use Rattle.library.specs.declared.tables.Tables.{Tables}
use Rattle.steps.specs.declared.stepping.Outcome.{Outcome}
use Rattle.steps.specs.Stepping.{stepped}
use Rattle.steps.proofs.StepLaws.{Untouched, step-refused}
use Rattle.promises.specs.Paper.Run.{ran_on}
use Rattle.promises.specs.Code.Steps.{ran}

-- an accepted step's result
abbrev pub is_taken : Outcome → Bool
is_taken o = eqb o.code 0

-- the results of the accepted steps
abbrev pub accepted_outcomes : List Outcome → List Outcome
accepted_outcomes [] = []
accepted_outcomes (o ∷ os) = cond (is_taken o) (o ∷ accepted_outcomes os) (accepted_outcomes os)

-- the accepted ones of a run's steps
unfoldable pub accepted_steps : Tables → Clock → List Step → List Step
accepted_steps t c [] = []
accepted_steps t c (s ∷ ss) =
    cond (is_taken (stepped t c s).outcome)
    (s ∷ accepted_steps (stepped t c s).tables (stepped t c s).clock ss)
    (accepted_steps (stepped t c s).tables (stepped t c s).clock ss)

-- a run gives as many results as it has steps
pub run-answers : (t : Tables) (c : Clock) (ss : List Step) → length (ran t c ss).outcomes ≡ length ss
run-answers t c [] = refl
run-answers t c (s ∷ ss) = ap suc (run-answers (stepped t c s).tables (stepped t c s).clock ss)

-- a run goes on from the tables and the clock that its first part left
pub run-parts : (t : Tables) (c : Clock) (xs ys : List Step)
    → ran t c (xs ++ ys)
    ≡ record {
      tables = (ran (ran t c xs).tables (ran t c xs).clock ys).tables;
      clock = (ran (ran t c xs).tables (ran t c xs).clock ys).clock;
      outcomes = (ran t c xs).outcomes ++ (ran (ran t c xs).tables (ran t c xs).clock ys).outcomes;
    }
run-parts t c [] ys = refl
run-parts t c (s ∷ xs) ys = ap (ran_on (stepped t c s).outcome) (run-parts (stepped t c s).tables (stepped t c s).clock xs ys)

-- "All tables keep their bytes": after a refused step a run goes on as if it had not been
pub run-refused : (t : Tables) (c : Clock) (s : Step) (ss : List Step) → (stepped t c s).outcome.code ≢ 0
    → ran t c (s ∷ ss) ≡ ran_on (stepped t c s).outcome (ran t c ss)
run-refused t c s ss n = rw ((step-refused t c s n).tables, (step-refused t c s n).clock)

-- the accepted steps alone leave what all the steps leave, and give the accepted ones' results
pub run-accepted : (t : Tables) (c : Clock) (ss : List Step)
    → ran t c (accepted_steps t c ss)
    ≡ record {
      tables = (ran t c ss).tables;
      clock = (ran t c ss).clock;
      outcomes = accepted_outcomes (ran t c ss).outcomes;
    }
unfolding accepted_steps
run-accepted t c [] = refl
run-accepted t c (s ∷ ss) =
    split (is_taken (stepped t c s).outcome)
    (λ e. rw e (ap (ran_on (stepped t c s).outcome) (run-accepted (stepped t c s).tables (stepped t c s).clock ss)))
    (λ e. rw (e, (refused e).tables, (refused e).clock) (run-accepted t c ss))
  where
    refused : is_taken (stepped t c s).outcome ≡ false → Untouched t c (stepped t c s)
    refused e = step-refused t c s (eqb-false (stepped t c s).outcome.code 0 e)
