-- Runs, and what the records say of the last waking: each step that wakes a thread decides it anew, and every other leaves it. The step number
-- counts the accepted steps.
use Rattle.std.specs.Prelude.{ℕ, ◌+◌, ◌≤◌, ◌<◌, ◌≡◌, refl, false, List, [], ◌∷◌, get_or}
use Rattle.std.proofs.Common.{arith, ap, ◌∙◌, subst, eq-eqb, ne_eqb}
use Rattle.kernel.specs.declared.clock.Clock.{Clock}
use Rattle.kernel.specs.declared.records.Thread.{Thread}
use Rattle.kernel.proofs.Cases.{split, same_or, contrary}
use Rattle.library.specs.declared.calls.Step.{Step}
use Rattle.library.specs.declared.sizes.Sizes.{Sizes}
use Rattle.library.specs.declared.tables.Tables.{Tables}
use Rattle.steps.specs.Stepping.{stepped}
use Rattle.steps.proofs.StepLaws.{step-refused}
use Rattle.promises.specs.Paper.World.{no_thread, risen}
use Rattle.promises.specs.Paper.Fresh.{FreshTables}
use Rattle.promises.specs.Paper.Host.{HostStep, HostSteps, Going}
use Rattle.promises.specs.Paper.Waking.{row_of, in_mask}
use Rattle.promises.specs.Paper.Run.{Moment, is_accepted, how_many, any_of}
use Rattle.promises.specs.Paper.Causes.{Why, why_of, not_yet, WhyAfter, number_after, numbered, LastWaking}
use Rattle.promises.specs.Code.Steps.{ran, moment_of, moments}
use Rattle.promises.specs.Together.Hanging.{all-blank}
use Rattle.promises.specs.Together.Tests.{neither-means}
use Rattle.promises.specs.Runs.OneStep.{sizes-after, steps-after, why-after}
use Rattle.promises.specs.Runs.Moments.{host, going_on, no-bit}

-- ---- one moment

module _ (t : Tables) (c : Clock) (g : Going t c) (s : Step) (h : HostStep s) where
  abbrev u : Tables
  u = (stepped t c s).tables

  -- its number
  number-after : u.kernel.steps ≡ number_after t.kernel.steps (moment_of t c s)
  number-after =
      same_or (stepped t c s).outcome.code 0
      (λ e. rw (eq-eqb (stepped t c s).outcome.code 0 e) (steps-after t c s (host t c g s h) e))
      (λ d. rw (ne_eqb (stepped t c s).outcome.code 0 d) (ap (λ (x : Tables). x.kernel.steps) (step-refused t c s d).tables))

  module _ (i : ℕ) (within : i < t.sizes.threads) where
    -- it decides, or leaves what was
    waking-after : {last : Why} {ms : List Moment} → LastWaking i last u.kernel.steps (why_of (row_of u i)) ms
        → LastWaking i last t.kernel.steps (why_of (row_of t i)) (moment_of t c s ∷ ms)
    waking-after {last} {ms} l =
        same_or (stepped t c s).outcome.code 0 (λ e. taken e (why-after t c s (host t c g s h) e i within))
        (λ d.
        let same = step-refused t c s d in
        LastWaking.passes (rw same.nobody-woken (no-bit i)) (from (ap (λ (x : Tables). why_of (row_of x i)) same.tables)))
      where
        from : {y : Why} → why_of (row_of u i) ≡ y → LastWaking i last (number_after t.kernel.steps (moment_of t c s)) y ms
        from {y} e =
            subst (λ (n : ℕ). LastWaking i last n y ms) number-after (subst (λ (x : Why). LastWaking i last u.kernel.steps x ms) e l)

        numbered-here : (stepped t c s).outcome.code ≡ 0 → risen t.kernel.steps ≡ number_after t.kernel.steps (moment_of t c s)
        numbered-here e = rw (eq-eqb (stepped t c s).outcome.code 0 e)

        taken : (stepped t c s).outcome.code ≡ 0 → WhyAfter t s i (why_of (row_of u i)) (in_mask i (stepped t c s).outcome.woken)
            → LastWaking i last t.kernel.steps (why_of (row_of t i)) (moment_of t c s ∷ ms)
        taken e (WhyAfter.same w z) = LastWaking.passes w (from z)
        taken e (WhyAfter.woke {m = m} {c = o} w b z) =
            LastWaking.wakes m o w e b (from (z ∙ ap (λ (n : ℕ). record { message = m; cause = o; step = n }) (numbered-here e)))

-- ---- a run

pub last-wakings : (ss : List Step) → HostSteps ss → (t : Tables) (c : Clock) → Going t c → (i : ℕ) → i < t.sizes.threads
    → LastWaking i (why_of (row_of (ran t c ss).tables i)) t.kernel.steps (why_of (row_of t i)) (moments t c ss)
last-wakings [] hs t c g i l = LastWaking.ends refl
last-wakings (s ∷ ss) (HostSteps.more h hs) t c g i l =
    waking-after t c g s h i l
    (last-wakings ss hs (stepped t c s).tables (stepped t c s).clock (going_on t c g s h) i (still (stepped t c s).outcome.code refl))
  where
    still : (n : ℕ) → (stepped t c s).outcome.code ≡ n → i < (stepped t c s).tables.sizes.threads
    still n z =
        same_or (stepped t c s).outcome.code 0 (λ e. rw (sizes-after t c s (host t c g s h) e) l)
        (λ d. rw (step-refused t c s d).tables l)

pub steps-numbered : (ss : List Step) → HostSteps ss → (t : Tables) (c : Clock) → Going t c
    → (ran t c ss).tables.kernel.steps ≡ numbered t.kernel.steps (moments t c ss)
steps-numbered [] hs t c g = refl
steps-numbered (s ∷ ss) (HostSteps.more h hs) t c g =
    steps-numbered ss hs (stepped t c s).tables (stepped t c s).clock (going_on t c g s h)
    ∙ ap (λ (n : ℕ). numbered n (moments (stepped t c s).tables (stepped t c s).clock ss)) (number-after t c g s h)

-- ---- counted

-- "rises by 1", below its end
risen-below : (n : ℕ) → n < 4294967295 → risen n ≡ n + 1
risen-below n l = rw (ne_eqb n 4294967295 (λ e. omega (arith, l, e)))

-- as many as were accepted, up to the end
pub numbered-count : (n : ℕ) (ms : List Moment) → n + how_many is_accepted ms ≤ 4294967295 → numbered n ms ≡ n + how_many is_accepted ms
numbered-count n [] l = omega arith
numbered-count n (m ∷ ms) l =
    split (is_accepted m)
    (λ e. rw e
    (let more : n + (1 + how_many is_accepted ms) ≤ 4294967295 = rw e at l in
    ap (λ (k : ℕ). numbered k ms) (risen-below n (omega (arith, more))) ∙ numbered-count (n + 1) ms (omega (arith, more)) ∙ omega arith))
    (λ e. rw e (let more : n + (0 + how_many is_accepted ms) ≤ 4294967295 = rw e at l in numbered-count n ms (omega (arith, more)) ∙ omega arith))

-- "at 4294967295 it stays there"
numbered-end : (ms : List Moment) → numbered 4294967295 ms ≡ 4294967295
numbered-end [] = refl
numbered-end (m ∷ ms) = split (is_accepted m) (λ e. rw e (numbered-end ms)) (λ e. rw e (numbered-end ms))

pub numbered-stays : (n : ℕ) (ms : List Moment) → n ≤ 4294967295 → 4294967295 ≤ n + how_many is_accepted ms → numbered n ms ≡ 4294967295
numbered-stays n [] l h = omega arith
numbered-stays n (m ∷ ms) l h =
    same_or n 4294967295 (λ z. ap (λ (k : ℕ). numbered k (m ∷ ms)) z ∙ numbered-end (m ∷ ms))
    (λ d. split (is_accepted m)
    (λ e. rw e
    (let more : 4294967295 ≤ n + (1 + how_many is_accepted ms) = rw e at h in
    ap (λ (k : ℕ). numbered k ms) (risen-below n (omega arith)) ∙ numbered-stays (n + 1) ms (omega arith) (omega (arith, more))))
    (λ e. rw e (let more : 4294967295 ≤ n + (0 + how_many is_accepted ms) = rw e at h in numbered-stays n ms l (omega (arith, more)))))

-- who is in no woken mask keeps what its record said
unwoken-last : {i : ℕ} {last y : Why} {n : ℕ} {ms : List Moment} → LastWaking i last n y ms → any_of (λ m. in_mask i m.result.woken) ms ≡ false
    → last ≡ y
unwoken-last (LastWaking.ends e) z = e
unwoken-last {i} (LastWaking.passes {m = m} {ms = ms} w l) z =
    unwoken-last l (neither-means (in_mask i m.result.woken) (any_of (λ m. in_mask i m.result.woken) ms) z).1
unwoken-last {i} (LastWaking.wakes {m = m} {ms = ms} x c w e b l) z =
    contrary w (neither-means (in_mask i m.result.woken) (any_of (λ m. in_mask i m.result.woken) ms) z).0

pub unwoken-same : {i n : ℕ} {last y : Why} {ms : List Moment} → LastWaking i last n y ms → any_of (λ m. in_mask i m.result.woken) ms ≡ false
    → last ≡ y
unwoken-same l z = unwoken-last l z

-- fresh records say that nobody was woken yet
pub fresh-why : (z : Sizes) (t : Tables) → FreshTables z t → (i : ℕ) → why_of (row_of t i) ≡ not_yet
fresh-why z t f i = ap why_of (ap (λ (l : List Thread). get_or l i no_thread) f.threads ∙ all-blank 16 no_thread i)
