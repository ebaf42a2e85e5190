-- THE THREE DEMANDS, AND WHAT DOCUMENT 02 ADDS. The first two are of any tables, clock and step of a host; the third of any run, refused
-- steps included, from any tables that hang together, and so from fresh ones. Their words are those of room Paper: what they cite of the
-- code is `stepped` alone, which each function is proved to compute.
use Rattle.std.specs.Prelude.{ℕ, ◌+◌, ◌≤◌, ◌<◌, ◌≡◌, ◌≢◌, ◌⊎◌, true, false, List, [], ◌∷◌, Option}
use Rattle.std.proofs.Common.{arith, sym, ◌∙◌, subst, eq-eqb}
use Rattle.kernel.specs.declared.clock.Clock.{Clock}
use Rattle.kernel.specs.declared.records.Thread.{Thread}
use Rattle.kernel.proofs.Cases.{same_or, in-or-out}
use Rattle.library.specs.declared.calls.Step.{Step}
use Rattle.library.specs.declared.sizes.Sizes.{Sizes}
use Rattle.library.specs.declared.tables.Tables.{Tables}
use Rattle.library.specs.Fresh.{made}
use Rattle.steps.specs.declared.stepping.Stepped.{Stepped}
use Rattle.steps.specs.Stepping.{stepped}
use Rattle.host.specs.Screen.{ready_count, ready_first, waiters_at}
use Rattle.promises.specs.Paper.World.{found}
use Rattle.promises.specs.Paper.Together.{TicksFit, WordsAgree, HangTogether}
use Rattle.promises.specs.Paper.Host.{Host, HostSteps, Going}
use Rattle.promises.specs.Paper.Refusals.{Broken, RefusedWith, Answered}
use Rattle.promises.specs.Paper.Step.{StepOf}
use Rattle.promises.specs.Paper.Waking.{row_of, in_mask}
use Rattle.promises.specs.Paper.Boundary.{ScreenOf}
use Rattle.promises.specs.Paper.Run.{ticks_in, signals_in, joins_in, higher, WokenIn, WakingOf, TurnAt}
use Rattle.promises.specs.Paper.Flags.{answered_in, Account}
use Rattle.promises.specs.Paper.EachThread.{EachThread, Throughout}
use Rattle.promises.specs.Paper.Fresh.{Legal}
use Rattle.promises.specs.Code.Steps.{ran, moments, fresh_ran}
use Rattle.promises.specs.Kept.Steps.{made-hang}
use Rattle.promises.specs.Runs.Moments.{going_on, sleeps-end, turn-comes, each_step}
use Rattle.promises.specs.Runs.Accounts.{flag-account, signalled-kept}
use Rattle.promises.specs.Meant.Together.{rules-together}
use Rattle.promises.specs.Meant.Screen.{screen-is}
use Rattle.promises.specs.Meant.Step.{sized-host, step_is, demand-two}
use Rattle.promises.specs.Meant.Fresh.{made-legal}

-- ---- DEMAND 1: "Any tables and any step get an answer. Bad ones get the refusal number of document 01; then every table byte stays as it
-- was, no thread is woken, no call finishes"

-- the rules have the numbers 1 to 7
broken-number : {t : Tables} {c : Clock} {s : Step} {n : ℕ} → Broken t c s n → (1 ≤ n) × (n ≤ 7)
broken-number (Broken.tables a) = (omega arith, omega arith)
broken-number (Broken.no_kind a) = (omega arith, omega arith)
broken-number (Broken.other-kind a) = (omega arith, omega arith)
broken-number (Broken.caller a b) = (omega arith, omega arith)
broken-number (Broken.tick a b) = (omega arith, omega arith)
broken-number (Broken.wait a b) = (omega arith, omega arith)
broken-number (Broken.box-wait a b d) = (omega arith, omega arith)
broken-number (Broken.semaphore a b d) = (omega arith, omega arith)
broken-number (Broken.queue a b d) = (omega arith, omega arith)
broken-number (Broken.reference a b d) = (omega arith, omega arith)
broken-number (Broken.thread a b) = (omega arith, omega arith)
broken-number (Broken.mailbox a b d) = (omega arith, omega arith)
broken-number (Broken.pool a b d) = (omega arith, omega arith)
broken-number (Broken.reset a b) = (omega arith, omega arith)
broken-number (Broken.pool-object a b) = (omega arith, omega arith)
broken-number (Broken.mask a b) = (omega arith, omega arith)
broken-number (Broken.sleep-for a b) = (omega arith, omega arith)
broken-number (Broken.sleep-until a b) = (omega arith, omega arith)
broken-number (Broken.suspend a b) = (omega arith, omega arith)
broken-number (Broken.free a b d) = (omega arith, omega arith)
broken-number (Broken.add a b d) = (omega arith, omega arith)

module _ (t : Tables) (c : Clock) (s : Step) (host : Host t c s) where
  abbrev n : ℕ
  n = (stepped t c s).outcome.code

  -- by what the step is: accepted with 0, or refused with the number of the first rule that it breaks
  data Verdict : Type 0 where
    taken : n ≡ 0 → ((m : ℕ) → Broken t c s m → ⊥) → Verdict
    stopped : Broken t c s n → ((m : ℕ) → m < n → Broken t c s m → ⊥) → RefusedWith t c n (stepped t c s) → Verdict

  verdict : StepOf t c s (stepped t c s) → Verdict
  verdict (StepOf.refused m b f r) =
      let e = r.code in
      Verdict.stopped (subst (Broken t c s) (sym e) b) (λ k l. f k (rw e at l)) (subst (λ (k : ℕ). RefusedWith t c k (stepped t c s)) (sym e) r)
  verdict (StepOf.accepted b w x is a z l u d r) = Verdict.taken r.code b

  -- two first broken rules are one
  first-rule : (m k : ℕ) → Broken t c s m → ((j : ℕ) → j < m → Broken t c s j → ⊥) → Broken t c s k → ((j : ℕ) → j < k → Broken t c s j → ⊥)
      → m ≡ k
  first-rule m k a f b g = same_or m k (λ e. e) (λ d. in-or-out m k (λ l. absurd (g m l a)) (λ l. absurd (f k (omega arith) b)))

  answered : Verdict → Answered t c s (stepped t c s)
  answered (Verdict.taken e b) =
      record {
        refused = λ m d. (λ x. absurd (d (sym x ∙ e)), λ x. absurd (b m x.0));
        accepted = (λ x. b, λ x. e);
        untouched = λ d. absurd (d e);
        numbers = omega (arith, e);
      }
  answered (Verdict.stopped b f r) =
      record {
        refused = λ m d. (
          λ x. (subst (Broken t c s) x b, λ k l. f k (rw x l)),
          λ x. first-rule n m b f x.0 x.1,
        );
        accepted = (λ x. absurd (omega (arith, x, (broken-number b).0)), λ x. absurd (x n b));
        untouched = λ d. r;
        numbers = (broken-number b).1;
      }

  pub demand-1 : Answered t c s (stepped t c s)
  demand-1 = answered (verdict (step_is t c s host))

  -- ---- DEMAND 2: "Every accepted step gives the tables, wakeups, finished calls and answer that the NIL manual and document 01 define": it
  -- is a step as document 01 tells it, and the only one
  pub demand-2 : StepOf t c s (stepped t c s) × ((r : Stepped) → StepOf t c s r → r ≡ stepped t c s)
  demand-2 = demand-two t c s host

-- ---- DEMAND 3, from any tables that hang together. What rests on `sleep-ends` is in proofs/Sleeps.antt

-- a timed call's remaining ticks are at most its timeout
ticks-left : {a : Thread} → TicksFit a → a.call.timeout ≤ 4294967294 → a.remaining ≤ a.call.timeout
ticks-left (TicksFit.none h r) l = omega (arith, r)
ticks-left (TicksFit.some n m k u) l = u

module _ (t : Tables) (c : Clock) (g : Going t c) (ss : List Step) (hs : HostSteps ss) where
  -- a. whoever is asleep between two steps, in a call with a timeout of at most 4294967294, is in the woken mask of a later result by as many
  -- accepted ticks, by a waking that document 01 gives it, whose message its record then has
  pub sleep-ends : (i : ℕ) → i < t.sizes.threads → (row_of t i).state ≢ 0 → (row_of t i).call.timeout ≤ 4294967294
      → (row_of t i).call.timeout ≤ ticks_in (moments t c ss) → WokenIn i (WakingOf i) (moments t c ss)
  sleep-ends i l n m r =
      sleeps-end ss hs t c g i l n (λ z. absurd (omega (arith, m, z))) (omega (arith, r, ticks-left (g.together.threads i l).ticks m))

  -- b. what each accepted step makes of each thread that slept before it, of each that did not, and of the flags of either
  pub one-waking : Throughout EachThread (moments t c ss)
  one-waking = each_step ss hs t c g

  -- c. a waiter at a semaphore with w higher ones is in the woken mask by the (w+1)-th accepted signal, if no higher one begins to wait there
  pub turn-of-semaphore : (i p : ℕ) → i < t.sizes.threads → p < t.sizes.semaphores → (row_of t i).state ≡ 3 → (row_of t i).place ≡ p
      → joins_in p i (moments t c ss) ≡ false → higher t p i < signals_in p (moments t c ss) → WokenIn i (TurnAt p i) (moments t c ss)
  turn-of-semaphore i p l there st pl none r =
      turn-comes p (omega (arith, there, g.together.sizes.semaphores)) ss hs t c g i l st pl none r

  -- "(a pool's too)"
  pub turn-of-pool : (i q : ℕ) → i < t.sizes.threads → q < t.sizes.pools → (row_of t i).state ≡ 3 → (row_of t i).place ≡ 16 + q
      → joins_in (16 + q) i (moments t c ss) ≡ false → higher t (16 + q) i < signals_in (16 + q) (moments t c ss)
      → WokenIn i (TurnAt (16 + q) i) (moments t c ss)
  turn-of-pool i q l there st pl none r =
      turn-comes (16 + q) (omega (arith, there, g.together.sizes.pools)) ss hs t c g i l st pl none r

-- ---- "Fresh tables pass, and accepted steps keep it so"

pub fresh-going : (y : Sizes) (r : Option ℕ) → Legal y r → Going (made y r).tables (made y r).clock
fresh-going y r legal =
    let m = made-legal y r legal in
    let h = made-hang y r m.code in
    record {
      together = rules-together (made y r).tables (made y r).clock h.together;
      tables = sized-host (made y r).tables h.sized;
      time = rw m.clock.time (omega arith);
    }

pub run-going : (ss : List Step) → HostSteps ss → (t : Tables) (c : Clock) → Going t c → Going (ran t c ss).tables (ran t c ss).clock
run-going [] hs t c g = g
run-going (s ∷ ss) (HostSteps.more h hs) t c g = run-going ss hs (stepped t c s).tables (stepped t c s).clock (going_on t c g s h)

-- ---- DOCUMENT 02, 1/13: THE WORDS, from any tables that hang together, after any steps, refused ones included

module _ (t : Tables) (c : Clock) (g : Going t c) (ss : List Step) (hs : HostSteps ss) where
  abbrev pub after : Tables
  after = (ran t c ss).tables

  then : Going after (ran t c ss).clock
  then = run-going ss hs t c g

  -- "Each step must leave the words equal to what a walk over the records would give"
  pub words_right : WordsAgree (found after) after.kernel.words
  words_right = then.together.words

  -- "The number of ready threads is the number of ones; the first ready thread is the number of trailing zeros of the word, and an empty word
  -- means idle": what a host's screen is told
  pub screen-right : ScreenOf after (ready_count after) (ready_first after) (waiters_at after)
  screen-right = screen-is after then.together.sizes.threads.1 words_right

-- ---- DOCUMENT 02, 2/13: EVENT FLAGS, from any tables that hang together, over any steps, refused ones included. What each accepted step
-- makes of the flags of each thread is in `one-waking`

module _ (t : Tables) (c : Clock) (g : Going t c) where
  -- flag n is pending for thread i exactly if it has come, in these steps or before them, and was not answered since; and only what has
  -- come is answered, once
  pub flags-accounted : (ss : List Step) → HostSteps ss → (i n : ℕ) → i < t.sizes.threads
      → Account i n (in_mask n (row_of (ran t c ss).tables i).pending) (in_mask n (row_of t i).pending) (moments t c ss)
  flags-accounted ss hs i n l = flag-account ss hs t c g i n l

  -- "no flag signalled is lost: each is pending or was answered", in that step or later
  pub no-flag-lost : (s : Step) (ss : List Step) → HostSteps (s ∷ ss) → (i n : ℕ) → i < t.sizes.threads
      → (stepped t c s).outcome.code ≡ 0 → s.kind ≡ 13 → s.object ≡ i → in_mask n s.a ≡ true
      → (in_mask n (row_of (ran t c (s ∷ ss)).tables i).pending ≡ true) ⊎ (answered_in i n (moments t c (s ∷ ss)) ≡ true)
  no-flag-lost s ss hs i n l e k o f =
      signalled-kept (flag-account (s ∷ ss) hs t c g i n l)
      (rw (eq-eqb (stepped t c s).outcome.code 0 e, eq-eqb s.kind 13 k, eq-eqb s.object i o) f)

-- ---- DEMAND 3, from fresh tables of the sizes y, after any steps xs, over any steps ss
module _ (y : Sizes) (r : Option ℕ) (legal : Legal y r) (xs : List Step) (hx : HostSteps xs) where
  abbrev pub t₁ : Tables
  t₁ = (fresh_ran y r xs).tables

  abbrev pub c₁ : Clock
  c₁ = (fresh_ran y r xs).clock

  going : Going t₁ c₁
  going = run-going xs hx (made y r).tables (made y r).clock (fresh-going y r legal)

  pub always-together : HangTogether (found t₁) t₁.kernel.words c₁
  always-together = going.together

  -- and so do their words
  pub words-always : WordsAgree (found t₁) t₁.kernel.words
  words-always = going.together.words

  module _ (ss : List Step) (hs : HostSteps ss) (i : ℕ) (within : i < t₁.sizes.threads) where
    -- "each sleep ends at most once, at its first waking, with that waking's message"
    pub demand-3b : Throughout EachThread (moments t₁ c₁ ss)
    demand-3b = one-waking t₁ c₁ going ss hs

    -- of document 02: no flag that was signalled to it is lost
    pub flags-always : (n : ℕ)
        → Account i n (in_mask n (row_of (ran t₁ c₁ ss).tables i).pending) (in_mask n (row_of t₁ i).pending) (moments t₁ c₁ ss)
    flags-always n = flags-accounted t₁ c₁ going ss hs i n within

    -- "a semaphore waiter with w higher ones is released by the (w+1)-th later signal"
    pub demand-3c : (p : ℕ) → p < t₁.sizes.semaphores → (row_of t₁ i).state ≡ 3 → (row_of t₁ i).place ≡ p
        → joins_in p i (moments t₁ c₁ ss) ≡ false → higher t₁ p i < signals_in p (moments t₁ c₁ ss) → WokenIn i (TurnAt p i) (moments t₁ c₁ ss)
    demand-3c p = turn-of-semaphore t₁ c₁ going ss hs i p within

    pub demand-3c-pools : (q : ℕ) → q < t₁.sizes.pools → (row_of t₁ i).state ≡ 3 → (row_of t₁ i).place ≡ 16 + q
        → joins_in (16 + q) i (moments t₁ c₁ ss) ≡ false → higher t₁ (16 + q) i < signals_in (16 + q) (moments t₁ c₁ ss)
        → WokenIn i (TurnAt (16 + q) i) (moments t₁ c₁ ss)
    demand-3c-pools q = turn-of-pool t₁ c₁ going ss hs i q within
