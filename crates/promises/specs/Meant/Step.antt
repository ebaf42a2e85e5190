-- What `stepped` gives back is what document 01 tells of the step: for any tables, any clock and any step of a host.
use Rattle.std.specs.Prelude.{ℕ, zero, suc, ◌<◌, ◌≡◌, refl, ◌≢◌, ◌⊎◌, List, [], ◌∷◌, ◌++◌, true, false, eqb, get_or, pos}
use Rattle.std.proofs.Common.{arith, sym, ap, ◌∙◌, subst, inl, inr, append_assoc, append-nil, eqb-true, ne_eqb}
use Rattle.std.proofs.lemmas.Bool.{eqb-false}
use Rattle.kernel.specs.declared.clock.Clock.{Clock}
use Rattle.kernel.specs.declared.records.Thread.{Thread}
use Rattle.kernel.specs.Tables.{thread_at}
use Rattle.kernel.proofs.Cases.{split, same_or, in-or-out, contrary}
use Rattle.kernel.proofs.TablesLaws.{thread-blank}
use Rattle.library.specs.declared.calls.Step.{Step}
use Rattle.library.specs.declared.sizes.Sizes.{Sizes}
use Rattle.library.specs.declared.tables.Plant.{Plant}
use Rattle.library.specs.declared.tables.Tables.{Tables}
use Rattle.library.specs.Signs.{same}
use Rattle.library.specs.Acting.{acted}
use Rattle.library.specs.Causes.{caused}
use Rattle.library.specs.Settling.{does_more, answered_only, went_on, continued, running_in, is_settled, settled}
use Rattle.library.specs.Tables.{opened, closed}
use Rattle.rules.specs.Hanging.{hangs_together}
use Rattle.steps.specs.declared.stepping.Stepped.{Stepped}
use Rattle.steps.specs.Refusal.{refusal_of}
use Rattle.steps.specs.Stepping.{clock_after, budget_of, outcome_of, done_with, refused_with, started, stepped}
use Rattle.steps.proofs.StepLaws.{step-code}
use Rattle.promises.specs.Runs.Answers.{step-done, step-stopped}
use Rattle.promises.specs.Together.Tests.{same-means}
use Rattle.promises.specs.Kept.WordRule.{rest-trans}
use Rattle.promises.specs.Kept.Chain.{chain-rest}
use Rattle.promises.specs.Meant.Words.{unused-test, bit-one, said-agree}
use Rattle.promises.specs.Meant.Masks.{mask-digit}
use Rattle.promises.specs.Together.Hanging.{test-hangs}
use Rattle.promises.specs.Kept.Accepting.{refusal-none, accepted-as}
use Rattle.promises.specs.Kept.KernelActs.{Acts}
use Rattle.promises.specs.Kept.Acts.{step-acts}
use Rattle.promises.specs.Together.Good.{Good}
use Rattle.promises.specs.Kept.Whole.{PlantSized, Whole, good-whole, whole-good, caused-done}
use Rattle.promises.specs.Kept.Settles.{on-tries, spent_all}
use Rattle.promises.specs.Kept.Steps.{Hangs, settles}
use Rattle.promises.specs.Meant.Clock.{tick-time, tick-time-wraps, other-time}
use Rattle.promises.specs.Meant.Pools.{promise-stocked}
use Rattle.promises.specs.Meant.Settling.{turns, turns-none, turns-on, turns-stop, running-first, flags-now, post-again, fetch-again, alloc-again, settle-on, settle-stops}
use Rattle.promises.specs.Meant.Refusals.{first-broken}
use Rattle.promises.specs.Paper.World.{World, Left, ended, First, Running}
use Rattle.promises.specs.Paper.Rows.{Post, Fetch}
use Rattle.promises.specs.Paper.Host.{HostTables, Host}
use Rattle.promises.specs.Paper.Settling.{IsOther, Continued, Settles}
use Rattle.promises.specs.Paper.Refusals.{RefusedWith}
use Rattle.promises.specs.Paper.Step.{WordsLeft, ClockAfter, ResultOf, StepOf}
use Rattle.promises.specs.Meant.Moves.{world_of, found-is, finish-world}
use Rattle.promises.specs.Meant.Calls.{sized, few, good, took-is, post_is, fetch-is, top-is, pool-row}
use Rattle.promises.specs.Meant.Rows.{act-is}
use Rattle.promises.specs.Meant.Only.{first-only, step-only}

-- the lengths of a host's arrays, as the tables at work have them
pub host-sized : (t : Tables) → HostTables t → PlantSized (opened t)
host-sized t h =
    record {
      kernel = record { threads = h.threads; counters = h.counters; references = h.references; woken = refl; finished = refl; waiting = h.waiting; cause = omega arith };
      mailboxes = h.mailboxes;
      messages = h.messages;
      pools = h.pools;
      pool = λ q l. record { list = h.lists q l; marks = h.marks q l };
    }

pub sized-host : (t : Tables) → PlantSized (opened t) → HostTables t
sized-host t h =
    record {
      threads = h.kernel.threads;
      counters = h.kernel.counters;
      references = h.kernel.references;
      waiting = h.kernel.waiting;
      mailboxes = h.mailboxes;
      messages = h.messages;
      pools = h.pools;
      lists = λ q l. (h.pool q l).list;
      marks = λ q l. (h.pool q l).marks;
    }

-- ---- who runs

pub running-is : (p : Plant) → Good p → Running (world_of p) (running_in p)
running-is p good =
    elim (running-first p good) [
      | inl f ↦ Running.thread (record { thread = f.thread; is-ready = f.is-ready; first = f.first })
      | inr f ↦ Running.idle f.none f.nobody
    ]

-- ---- settling

-- tables at work whose every rule holds, but that of the running thread
module _ (p : Plant) (w : Whole p.sizes p) where
  abbrev r : ℕ
  r = running_in p

  -- settled tables have no call to continue
  quiet : is_settled p ≡ true → (i : ℕ) → First (world_of p) i → ((world_of p).thread i).call.kind ≡ 0
  quiet e i f =
      elim (running-is p (whole-good p p.sizes w)) [
        | Running.thread g ↦ rw (first-only (world_of p) i r f g) (eqb-true (thread_at p.kernel r).call.kind 0 e)
        | Running.idle none d ↦ absurd (none i f.thread f.is-ready)
      ]

  -- others have a running thread with one
  due : is_settled p ≡ false → First (world_of p) r
  due e =
      elim (running-is p (whole-good p p.sizes w)) [
        | Running.thread g ↦ g
        | Running.idle none d ↦ contrary (rw (d, thread-blank p.kernel 255 (omega (arith, (sized p w).threads)))) e
      ]

  module _ (i : ℕ) (f : First (world_of p) i) (call : (thread_at p.kernel i).call.kind ≢ 0) where
    abbrev t : Thread
    t = thread_at p.kernel i

    abbrev o : ℕ
    o = t.call.object

    here : i < 16
    here = omega (arith, f.thread, few p w)

    -- its call is at work
    abbrev v : Plant
    v = caused p t.call.kind

    whole-at : Whole v.sizes v
    whole-at = (caused-done p.sizes p t.call.kind w).whole

    answer-is : answered_only t ≡ true → world_of (continued p i) ≡ ended (world_of p) i t.message 0
    unfolding went_on
    answer-is e = rw e (finish-world v (sized v whole-at) i t.message 0 (inr here))

    other-kind : IsOther t.call.kind → answered_only t ≡ true
    other-kind n =
        rw (
          ne_eqb t.call.kind 14 n.0,
          ne_eqb t.call.kind 15 n.1,
          ne_eqb t.call.kind 16 n.2,
          ne_eqb t.call.kind 17 n.3,
          ne_eqb t.call.kind 20 n.4,
        )

    -- "then clears and answers all pending flags in its mask"
    flags-on : t.call.kind ≡ 14 → t.message ≡ pos 0 → Continued (world_of p) i (world_of (continued p i))
    flags-on e m = Continued.flags e m (ap world_of (flags-now v i e m) ∙ took-is v (sized v whole-at) i here t.call.operand)

    -- "mailbox, wake message 0: the whole mailbox rule is tried again"
    post-on : (t.call.kind ≡ 15) ⊎ (t.call.kind ≡ 16) → t.message ≡ pos 0 → Continued (world_of p) i (world_of (continued p i))
    post-on e m =
        Continued.posts e m
        (subst (λ (h : Plant). Post (world_of p) i t.call (world_of h)) (sym (post-again v i e m))
        (post_is v whole-at i t.call (there e) (inr here) (λ d. here) (by e) e))
      where
        there : (t.call.kind ≡ 15) ⊎ (t.call.kind ≡ 16) → o < p.sizes.mailboxes
        there (inl e) = rw e at (((good p w).threads i f.thread).object call)
        there (inr e) = rw e at (((good p w).threads i f.thread).object call)

        by : (t.call.kind ≡ 15) ⊎ (t.call.kind ≡ 16) → v.kernel.cause ≡ 5
        by (inl e) = rw e
        by (inr e) = rw e

    fetch-on : t.call.kind ≡ 17 → t.message ≡ pos 0 → Continued (world_of p) i (world_of (continued p i))
    fetch-on e m =
        Continued.fetches e m
        (subst (λ (h : Plant). Fetch (world_of p) i t.call (world_of h)) (sym (fetch-again v i e m))
        (fetch-is v whole-at i t.call (rw e at (((good p w).threads i f.thread).object call)) (inr here) (λ d. here) (rw e)))

    -- "pool, message 0: it takes the top"
    take_on : t.call.kind ≡ 20 → t.message ≡ pos 0 → Continued (world_of p) i (world_of (continued p i))
    take_on e m =
        let there : o < p.sizes.pools = rw e at (((good p w).threads i f.thread).object call) in
        Continued.takes e m
        (ap world_of (alloc-again v i e m)
        ∙ top-is v (sized v whole-at) i (inr here) o (pool-row p w o there)
        (promise-stocked p (good p w) o there i f.thread f.is-ready e m refl))

    -- the bullets, and document 02's
    continued-is : Continued (world_of p) i (world_of (continued p i))
    continued-is =
        split (same t.message (pos 0))
        (λ e.
        let m = same-means t.message (pos 0) e in
        same_or t.call.kind 14 (λ a. flags-on a m)
        (λ n14. same_or t.call.kind 15 (λ a. post-on (inl a) m)
        (λ n15. same_or t.call.kind 16 (λ a. post-on (inr a) m)
        (λ n16. same_or t.call.kind 17 (λ a. fetch-on a m)
        (λ n17. same_or t.call.kind 20 (λ a. take_on a m)
        (λ n20. let n : IsOther t.call.kind = (n14, n15, n16, n17, n20) in Continued.answers (inl n) (answer-is (other-kind n))))))))
        (λ e.
        Continued.answers (inr (λ x. contrary (rw x) e)) (answer-is (split (does_more t.call.kind) (λ b. rw (b, e)) (λ b. rw b))))

    whole-on : Whole (continued p i).sizes (continued p i)
    whole-on =
        let y = (on-tries v whole-at i (record { within = f.thread; is-ready = f.is-ready; unfinished = call })).done.whole in
        subst (λ (x : Sizes). Whole x (continued p i)) (sym y.same) y

-- settling that ended with a budget of b
abbrev SettlesWith : ℕ → Type 0
SettlesWith b = (p : Plant) → Whole p.sizes p → is_settled (settled b p) ≡ true → Settles (world_of (settled b p)) (world_of p) (turns b p)

settles_on : (b : ℕ) → SettlesWith b → (p : Plant) → Whole p.sizes p → is_settled (settled (suc b) p) ≡ true → is_settled p ≡ false
    → Settles (world_of (settled (suc b) p)) (world_of p) (turns (suc b) p)
settles_on b rest p w e q =
    let r = running_in p in
    let f = due p w q in
    let call = eqb-false (thread_at p.kernel r).call.kind 0 q in
    let h = continued p r in
    let on = settle-on p b call in
    rw (turns-on p b call)
    (Settles.goes r f call (world_of h) (continued-is p w r f call)
    (subst (λ (x : Plant). Settles (world_of x) (world_of h) (turns b h)) (sym on) (rest h (whole-on p w r f call) (rw on at e))))

pub settles-is : (b : ℕ) → SettlesWith b
settles-is zero p w e = rw (turns-none p) (Settles.ends (quiet p w (rw (spent_all p) at e)) (ap world_of (spent_all p)))
settles-is (suc b) p w e =
    split (is_settled p)
    (λ q.
    let z = eqb-true (thread_at p.kernel (running_in p)).call.kind 0 q in
    rw (turns-stop p (suc b) z) (Settles.ends (quiet p w q) (ap world_of (settle-stops p (suc b) z))))
    (settles_on b (settles-is b) p w e)

-- what each continued call keeps of a world and of the turns so far, settling keeps
pub settled-turns : (P : World → List ℕ → Type 0)
    → ((p : Plant) → Whole p.sizes p → (i : ℕ) → First (world_of p) i → (thread_at p.kernel i).call.kind ≢ 0 → (x : World)
    → Continued (world_of p) i x → (is : List ℕ) → P (world_of p) is → P x (is ++ (i ∷ [])))
    → (b : ℕ) (p : Plant) → Whole p.sizes p → (is : List ℕ) → P (world_of p) is → P (world_of (settled b p)) (is ++ turns b p)
settled-turns P f zero p w is h = rw (spent_all p, turns-none p, append-nil is) h
settled-turns P f (suc b) p w is h =
    split (is_settled p)
    (λ q.
    let z = eqb-true (thread_at p.kernel (running_in p)).call.kind 0 q in
    rw (settle-stops p (suc b) z, turns-stop p (suc b) z, append-nil is) h)
    (λ q.
    let r = running_in p in
    let g = due p w q in
    let call = eqb-false (thread_at p.kernel r).call.kind 0 q in
    let h₁ = continued p r in
    rw (settle-on p b call, turns-on p b call)
    (subst (P (world_of (settled b h₁))) (append_assoc is (r ∷ []) (turns b h₁))
    (settled-turns P f b h₁ (whole-on p w r g call) (is ++ (r ∷ [])) (f p w r g call (world_of h₁) (continued-is p w r g call) is h))))

-- what it keeps of a world
pub settled-keeps : (P : World → Type 0)
    → ((p : Plant) → Whole p.sizes p → (i : ℕ) → First (world_of p) i → (thread_at p.kernel i).call.kind ≢ 0 → (x : World)
    → Continued (world_of p) i x → P (world_of p) → P x)
    → (b : ℕ) (p : Plant) → Whole p.sizes p → P (world_of p) → P (world_of (settled b p))
settled-keeps P f b p w h = settled-turns (λ x is. P x) (λ q v i g call x k is. f q v i g call x k) b p w [] h

-- ---- clock and result

pub clock-is : (c : Clock) → c.time.0 < 4294967296 → (kind : ℕ) → ClockAfter c kind (clock_after c kind)
clock-is c h kind =
    same_or kind 1
    (λ e. in-or-out c.time.0 4294967295
    (λ l. ClockAfter.next e l (rw e (λ x. record { time = record { 0 = tick-time c l x }; frequency = c.frequency })))
    (λ l.
    let top : c.time.0 ≡ 4294967295 = omega arith in
    ClockAfter.wraps e top (rw e (λ x. record { time = record { 0 = tick-time-wraps c top x }; frequency = c.frequency }))))
    (λ d. ClockAfter.stays d (other-time c kind d))

pub result-is : (p : Plant) → Whole p.sizes p → (caller : ℕ) → ResultOf (world_of p) caller (outcome_of p.kernel caller)
unfolding outcome_of
result-is p w caller =
    record {
      code = refl;
      running = running-is p (whole-good p p.sizes w);
      woken = λ i. mask-digit p.kernel.woken i ∙ bit-one (get_or p.kernel.woken i false);
      finished = λ i. mask-digit p.kernel.finished i ∙ bit-one (get_or p.kernel.finished i false);
      message = split (eqb caller 255) (λ e. rw e) (λ e. rw e);
      datum = split (eqb caller 255) (λ e. rw e) (λ e. rw e);
    }

pub left_is : (p : Plant) → Whole p.sizes p → Left (world_of p) (closed p)
left_is p w =
    record {
      sizes = refl;
      threads = λ i. refl;
      counters = λ i. refl;
      references = λ i. refl;
      boxes = λ i. refl;
      pools = λ i. refl;
      steps = refl;
      thread-rows = w.kernel.rules.sized.threads;
      counter-rows = w.kernel.rules.sized.counters;
      reference-rows = w.kernel.rules.sized.references;
      box-rows = w.boxes;
      pool-rows = w.rows;
    }

-- ---- ONE STEP

module _ (t : Tables) (c : Clock) (s : Step) (host : Host t c s) where
  abbrev pub p : Plant
  p = opened t

  abbrev pub n : ℕ
  n = refusal_of p c s

  -- tables that break no rule are good
  good-then : n ≢ 1 → Good p
  good-then x =
      split (hangs_together p c) (λ e. (test-hangs p c e).good) (λ e. absurd (x (unfold refusal_of in rw e)))

  refused-is : n ≢ 0 → RefusedWith t c n (refused_with t c p n)
  unfolding refused_with
  refused-is d =
      record {
        tables = refl;
        clock = refl;
        code = refl;
        no-running = λ e. rw e;
        running = λ x. rw (ne_eqb n 1 x) (subst (λ (w : World). Running w (running_in p)) (found-is t) (running-is p (good-then x)));
        woken = refl;
        finished = refl;
        message = refl;
        datum = refl;
      }

  -- an accepted one begins
  abbrev pub q : Plant
  q = started t s

  abbrev pub h : Plant
  h = settled (budget_of t.sizes.threads) (acted q c.time s)

  -- by the calls of these threads, continued one after the other
  abbrev pub order : List ℕ
  order = turns (budget_of t.sizes.threads) (acted q c.time s)

  module _ (e : n ≡ 0) where
    pub hangs : Hangs t c
    hangs = record { together = test-hangs p c (refusal-none p c s e).hangs; sized = host-sized t host.tables }

    pub begun-whole : Whole t.sizes q
    begun-whole = (caused-done t.sizes p s.kind (good-whole p hangs.together.good (host-sized t host.tables))).whole

    acts : Acts t.sizes q s (acted q c.time s)
    acts = step-acts q c s (accepted-as p c s s.kind (refusal-none p c s e)) begun-whole

    pub acted-whole : Whole t.sizes (acted q c.time s)
    acted-whole = acts.done.whole

    pub code : (stepped t c s).outcome.code ≡ 0
    code = step-code t c s ∙ e

    pub own : {x : Plant} → Whole t.sizes x → Whole x.sizes x
    own {x} v = subst (λ (y : Sizes). Whole y x) (sym v.same) v

    pub settled-whole : Whole h.sizes h
    settled-whole = own (settles t c s hangs code).tries.done.whole

    -- the words are the walk's; where no place is, they are as they were
    words_left : WordsLeft (world_of h) t.kernel.words (closed h).kernel.words
    words_left =
        let done = acts.done in
        let settles-done = (settles t c s hangs code).tries.done in
        let size = settles-done.whole.same in
        let kept = rest-trans (chain-rest t.sizes begun-whole.sizes done.chained begun-whole.kernel)
        (chain-rest t.sizes begun-whole.sizes settles-done.chained acted-whole.kernel) in
        record {
          agree = said-agree h settled-whole.sizes settled-whole.kernel.rules.words;
          rest = λ r n. kept.waiting r (unused-test p.kernel t.sizes begun-whole.sizes r (rw size at n));
          filler = kept.filler;
          places = settled-whole.kernel.rules.sized.waiting;
        }

    pub settles-so : Settles (world_of h) (world_of (acted q c.time s)) order
    settles-so = settles-is (budget_of t.sizes.threads) (acted q c.time s) (own acted-whole) (settles t c s hangs code).ended

    accepted-is : StepOf t c s (done_with h c s)
    unfolding done_with
    accepted-is =
        StepOf.accepted ((first-broken t c s host.tables.threads host.step.object).none e) (world_of (acted q c.time s)) (world_of h) order
        (act-is t c s begun-whole host.step.operand e)
        settles-so
        (left_is h settled-whole) words_left (clock-is c host.time s.kind) (result-is h settled-whole s.caller)

  -- EVERY STEP IS AS DOCUMENT 01 TELLS IT
  pub step_is : StepOf t c s (stepped t c s)
  step_is =
      let first = first-broken t c s host.tables.threads host.step.object in
      same_or n 0
      (λ e. subst (StepOf t c s) (sym (step-done t c s (step-code t c s ∙ e))) (accepted-is e))
      (λ d.
      subst (StepOf t c s) (sym (step-stopped t c s (λ x. d (sym (step-code t c s) ∙ x))))
      (StepOf.refused n (first.broken d) first.before
      (refused-is d)))

-- DEMAND 2: what document 01 tells of a step, `stepped` gives back, and it is the only answer of which it is told
pub demand-two : (t : Tables) (c : Clock) (s : Step) → Host t c s
    → StepOf t c s (stepped t c s) × ((r : Stepped) → StepOf t c s r → r ≡ stepped t c s)
demand-two t c s host = (step_is t c s host, λ r a. step-only t c s r (stepped t c s) a (step_is t c s host))
