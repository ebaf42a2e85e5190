-- DOCUMENT 02, 5/13: NOTHING LOST, NOTHING INVENTED. From any tables that hang together, over any steps, refused ones included: what is in each
-- mailbox, and where each object of each pool is, follows from the history of the steps; and from fresh tables the plain sentences.
use Rattle.std.specs.Prelude.{ℕ, ◌+◌, ◌≤◌, ◌<◌, ◌≡◌, refl, ◌≢◌, true, false, List, [], ◌∷◌, ◌++◌, Option}
use Rattle.std.proofs.Common.{zero-add, arith, sym, ap, ◌∙◌, subst, eq-eqb}
use Rattle.kernel.specs.declared.clock.Clock.{Clock}
use Rattle.library.specs.declared.calls.Step.{Step}
use Rattle.library.specs.declared.sizes.Sizes.{Sizes}
use Rattle.library.specs.declared.tables.Tables.{Tables}
use Rattle.library.specs.Fresh.{made}
use Rattle.accounts.specs.Account.{fresh_account}
use Rattle.promises.specs.Paper.World.{found}
use Rattle.promises.specs.Paper.Fresh.{FreshTables, Legal}
use Rattle.promises.specs.Paper.Host.{HostSteps, Going}
use Rattle.promises.specs.Paper.Together.{number, is_zero}
use Rattle.promises.specs.Paper.Run.{Moment}
use Rattle.promises.specs.Paper.History.{Event, answer_by, finishes, shown_by, Turns, is_among, in_turn, History, shown_in, total, posted, fetched, added, each, lost_at}
use Rattle.promises.specs.Paper.Ledger.{Ledger, no_postings, opened, ledger, times, HandsOver, Paired, Standing, standing, standing_in, is_out, mark_in, free_in, Accounted, AccountOf}
use Rattle.promises.specs.Code.Steps.{ran, moments, tallied, fresh_moments, fresh_ran}
use Rattle.promises.specs.Meant.Fresh.{made-legal}
use Rattle.promises.specs.Meant.History.{turns-only, history-only}
use Rattle.promises.specs.Runs.Ledgers.{accounted, accounted-fresh}
use Rattle.promises.specs.Runs.Takers.{before-run, never-added, printed}
use Rattle.promises.specs.Top.Demands.{fresh-going, run-going}

-- from any tables that hang together: "messages present count as posted, objects free and out as added, those out as handed over"
pub nothing-lost : (t : Tables) (c : Clock) → Going t c → (ss : List Step) → HostSteps ss
    → Accounted t.sizes (opened t) (standing_in t) (moments t c ss) (ran t c ss).tables
nothing-lost t c g ss hs = accounted ss hs t c g (run-going ss hs t c g)

-- and what is printed of it is the account of its history
pub account-printed : (t : Tables) (c : Clock) → Going t c → (ss : List Step) → HostSteps ss → (es : List Event) → History 1 (moments t c ss) es
    → AccountOf (tallied 1 fresh_account (moments t c ss)) t.sizes (standing_in t) (moments t c ss) es
account-printed t c g ss hs es h =
    let a = nothing-lost t c g ss hs in
    printed ss hs t c g (standing_in t) (λ q o. before-run (mark_in (found t) q o)) es h (rw (history-only h a.history) a.object-right)

-- ---- what follows of a run

-- there is one history of it, and nothing is chosen
pub events-one : {z y : Sizes} {l k : ℕ → Ledger} {st su : ℕ → ℕ → Standing} {ms : List Moment} {u v : Tables} (a : Accounted z l st ms u) (b : Accounted y k su ms v)
    → a.events ≡ b.events
events-one a b = history-only a.history b.history

-- where it begins with a fetch that finishes in its own turn, what is fetched is the first message that was in the mailbox: whatever is posted while
-- the step settles comes later
pub own-fetch : {n : ℕ} {m : Moment} {ms : List Moment} {es : List Event} {l : Ledger} → History n (m ∷ ms) es → Paired m.step.object l es
    → m.step.kind ≡ 17 → finishes m m.step.caller ≡ true → is_zero (answer_by m m.step.caller).message ≡ true
    → (is : List ℕ) → Turns m (m.step.caller ∷ is) → is_among m.step.caller is ≡ false
    → (p : Event) × (ps : List Event) × (l.present ≡ p ∷ ps) × ((answer_by m m.step.caller).datum ≡ p.value)
own-fetch {n} {m} {l = l} (History.more js fs turns s o h) paired kind done zero is own last =
    by (paired.one [] e (in_turn (shown_by n m) is ++ fs) (ap (λ (ks : List ℕ). in_turn (shown_by n m) ks ++ fs) (turns-only turns own) ∙ begins) a-fetch)
  where
    i : ℕ
    i = m.step.caller

    e : Event
    e = record { step = n; who = i; kind = 17; object = m.step.object; value = (answer_by m i).datum }

    a-fetch : fetched m.step.object e ≡ true
    a-fetch = eq-eqb m.step.object m.step.object refl

    shows : shown_by n m i ≡ e ∷ []
    shows = rw (done, eq-eqb i i refl, kind, zero)

    begins : in_turn (shown_by n m) (i ∷ is) ++ fs ≡ e ∷ (in_turn (shown_by n m) is ++ fs)
    begins = rw (last, shows)

    by : (p : Event) × HandsOver m.step.object l [] e p → (p : Event) × (ps : List Event) × (l.present ≡ p ∷ ps) × ((answer_by m i).datum ≡ p.value)
    by (p, x) = (p, x.behind, x.first, x.message)

module _ {z : Sizes} {l : ℕ → Ledger} {st : ℕ → ℕ → Standing} {ms : List Moment} {u : Tables} (a : Accounted z l st ms u) (b : ℕ) (there : b < z.mailboxes) where
  -- "each posting handed over at most once"
  pub handed-once : (p : Event) → times p (ledger b (l b) a.events).given ≤ 1
  handed-once p = let x = a.box-once b there in omega (arith, x.kept p, x.once p)

  -- what was handed over is neither lost nor in the mailbox
  pub handed-gone : (p : Event) → times p (ledger b (l b) a.events).given ≢ 0
      → (times p (ledger b (l b) a.events).lost ≡ 0) × (times p (ledger b (l b) a.events).present ≡ 0)
  handed-gone p h = let x = a.box-once b there in (omega (arith, x.kept p, x.once p, h), omega (arith, x.kept p, x.once p, h))

-- ---- from fresh tables, where nothing was posted and no object added

module _ (y : Sizes) (r : Option ℕ) (legal : Legal y r) (ss : List Step) (hs : HostSteps ss) where
  abbrev pub run : List Moment
  run = fresh_moments y r ss

  abbrev pub end : Tables
  end = (fresh_ran y r ss).tables

  fresh : FreshTables y (made y r).tables
  fresh = (made-legal y r legal).tables

  pub nothing-lost-fresh : Accounted y (λ b. no_postings) (λ q o. Standing.absent) run end
  nothing-lost-fresh =
      accounted-fresh y (made y r).tables fresh (nothing-lost (made y r).tables (made y r).clock (fresh-going y r legal) ss hs)

  -- "for each mailbox, messages whose post finished with 0, less those whose fetch finished with 0, less those present at each reset, equal
  -- those in the mailbox now"
  pub messages-sum : (b : ℕ) → b < y.mailboxes
      → total (each (posted b)) (shown_in 1 run)
      ≡ ((found end).box b).positions.count + total (each (fetched b)) (shown_in 1 run) + total (lost_at b) (shown_in 1 run)
  messages-sum b there = omega (arith, nothing-lost-fresh.box-sum b there)

  -- the history of the run
  module _ (es : List Event) (history : History 1 run es) where
    same : es ≡ nothing-lost-fresh.events
    same = history-only history nothing-lost-fresh.history

    -- "For each pool, objects ever added equal those free plus those out"
    pub objects-sum : (q : ℕ) → q < y.pools
        → total (each (added q)) (shown_in 1 run) ≡ free_in (found end) q + number (λ o. is_out (standing q o Standing.absent es)) 32
    objects-sum q there = sym (zero-add (total (each (added q)) (shown_in 1 run))) ∙ rw same (nothing-lost-fresh.pool-sum q there)

    -- and what `./account` prints is the account of this history
    pub account-printed-fresh : AccountOf (tallied 1 fresh_account run) y (λ q o. Standing.absent) run es
    account-printed-fresh =
        subst (λ (z : Sizes). AccountOf (tallied 1 fresh_account run) z (λ q o. Standing.absent) run es) fresh.sizes
        (printed ss hs (made y r).tables (made y r).clock (fresh-going y r legal) (λ q o. Standing.absent) (λ q o. never-added) es history
        (λ q o there. rw same (nothing-lost-fresh.object-right q o (rw fresh.sizes at there))))
