-- Nothing lost, nothing invented: the history of a run, with what it makes of mailboxes and pools, and the sums that follow.
use Rattle.std.specs.Prelude.{ℕ, zero, suc, ◌+◌, ◌≤◌, ◌<◌, ◌≡◌, refl, ◌≢◌, cond, ◌&&◌, List, [], ◌∷◌, eqb, length, get_or}
use Rattle.std.proofs.Common.{arith, sym, ap, ◌∙◌, subst}
use Rattle.std.proofs.Math.ListN.{get_or-eq_default}
use Rattle.kernel.specs.declared.clock.Clock.{Clock}
use Rattle.kernel.proofs.Cases.{same_or, in-or-out}
use Rattle.library.specs.declared.calls.Step.{Step}
use Rattle.library.specs.declared.sizes.Sizes.{Sizes}
use Rattle.library.specs.declared.tables.Mailbox.{Mailbox}
use Rattle.library.specs.declared.tables.Pool.{Pool}
use Rattle.library.specs.declared.tables.Tables.{Tables}
use Rattle.steps.specs.Stepping.{stepped}
use Rattle.promises.specs.Paper.World.{World, no_box, no_pool, found}
use Rattle.promises.specs.Paper.Fresh.{FreshTables}
use Rattle.promises.specs.Paper.Host.{HostSteps, Going}
use Rattle.promises.specs.Paper.Pipes.{listed}
use Rattle.promises.specs.Paper.Together.{number, larger, listings, is_promised}
use Rattle.promises.specs.Paper.Run.{Moment}
use Rattle.promises.specs.Paper.History.{Event, those, History, shown_in, total, posted, fetched, added, each, lost_at}
use Rattle.promises.specs.Paper.Ledger.{message_at, Ledger, postings, no_postings, opened, ledger, values, BoxTold, EachOnce, Standing, standing, mark_in, mark_of, standing_at, standing_in, is_free, is_out, was_added, free_in, Accounted}
use Rattle.promises.specs.Code.Steps.{ran, moments}
use Rattle.promises.specs.Runs.Pipes.{length-listed}
use Rattle.promises.specs.Runs.Moments.{going_on}
use Rattle.promises.specs.Runs.Dealing.{Dealt, total-append, values-append, values_length}
use Rattle.promises.specs.Runs.Histories.{events_in, recorded}
use Rattle.promises.specs.Runs.Counting.{length-those, Few, total-history, posted-once, ledger-whole, total-one}
use Rattle.promises.specs.Runs.Pairing.{paired}
use Rattle.promises.specs.Runs.Objects.{free-listed, added-sum, free-or-out}
use Rattle.promises.specs.Together.Hanging.{all-blank}

-- what was there before counts as posted, with its message
postings-values : (w : World) (b n : ℕ) → values (postings w b n) ≡ listed (message_at w b) n
postings-values w b zero = refl
postings-values w b (suc n) = values-append (postings w b n) _ ∙ rw (postings-values w b n)

-- a run has few threads throughout
pub run-few : (ss : List Step) → HostSteps ss → (t : Tables) (c : Clock) → Going t c → Few (moments t c ss)
run-few [] hs t c g = Few.none
run-few (s ∷ ss) (HostSteps.more h hs) t c g =
    let few : t.sizes.threads ≤ 255 = omega (arith, g.together.sizes.threads.1) in
    Few.more few (run-few ss hs (stepped t c s).tables (stepped t c s).clock (going_on t c g s h))

-- a ledger's sums, from what is told of its mailbox
box-summed : (w : World) (b : ℕ) (l : Ledger) (es : List Event) → l.given ≡ [] → l.lost ≡ [] → BoxTold b l es (ledger b l es) w
    → length l.present + total (each (posted b)) es ≡ (w.box b).positions.count + total (each (fetched b)) es + total (lost_at b) es
box-summed w b l es none kept told =
    let k = ledger b l es in
    let f : Event → ℕ = λ e. 1 in
    let all : total f k.given + total f k.lost + total f k.present ≡ total f l.given + total f l.lost + total f l.present + total f (those (posted b) es) =
    ledger-whole f b l es in
    let given : length k.given ≡ total (each (fetched b)) es =
    sym (values_length k.given) ∙ ap length told.handed ∙ rw none (values_length (those (fetched b) es) ∙ length-those (fetched b) es) in
    let here : length k.present ≡ (w.box b).positions.count =
    sym (values_length k.present) ∙ ap length told.present ∙ length-listed (message_at w b) (w.box b).positions.count in
    let z : length l.given ≡ 0 = ap length none in
    let y : length l.lost ≡ 0 = ap length kept in
    omega (
      arith,
      all,
      given,
      here,
      told.lost,
      z,
      y,
      total-one k.given,
      total-one k.lost,
      total-one k.present,
      total-one l.given,
      total-one l.lost,
      total-one l.present,
      total-one (those (posted b) es),
      length-those (posted b) es,
    )

-- a mark of tables that hang together, and where the object then is
mark-standing : (m : ℕ) → m ≤ 2 → mark_of (standing_at m) ≡ m
mark-standing zero h = refl
mark-standing (suc zero) h = refl
mark-standing (suc (suc zero)) h = refl
mark-standing (suc (suc (suc m))) h = absurd (omega arith)

module _ (t : Tables) (c : Clock) (g : Going t c) (q : ℕ) (there : q < t.sizes.pools) where
  mark-past : (o : ℕ) → 32 ≤ o → mark_in (found t) q o ≡ 0
  mark-past o l = get_or-eq_default ((found t).pool q).marks 0 (rw (g.tables.marks q there) l)

  mark-low : (o : ℕ) → mark_in (found t) q o ≤ 2
  mark-low o = in-or-out o 32 (λ l. (g.together.pools q there).marks o l) (λ l. omega (arith, mark-past o l))

unmistaken : {m : ℕ} (x : Standing) → mark_of x ≡ m → m ≤ 2 → x ≢ Standing.mistaken
unmistaken {m} x e l z = omega (arith, ap mark_of z, e, l)

absent-of : (x : Standing) → mark_of x ≡ 0 → x ≡ Standing.absent
absent-of Standing.absent e = refl
absent-of Standing.free e = absurd (omega (arith, e))
absent-of (Standing.out n i) e = absurd (omega (arith, e))
absent-of Standing.mistaken e = absurd (omega (arith, e))

-- FROM ANY TABLES THAT HANG TOGETHER
module _ (ss : List Step) (hs : HostSteps ss) (t : Tables) (c : Clock) (g : Going t c) (then : Going (ran t c ss).tables (ran t c ss).clock) where
  abbrev u : Tables
  u = (ran t c ss).tables

  abbrev ms : List Moment
  ms = moments t c ss

  module _ (es : List Event) (hist : History 1 ms es) (dealt : Dealt (found t) es (found u)) where
    box-is : (b : ℕ) → b < t.sizes.mailboxes → BoxTold b (opened t b) es (ledger b (opened t b) es) (found u)
    box-is b there = dealt.boxes b there (opened t b) (postings-values (found t) b ((found t).box b).positions.count)

    -- a sum over the history is one over what the results show
    seen : (f : Event → ℕ) → total f es ≡ total f (shown_in 1 ms)
    seen f = total-history f (run-few ss hs t c g) hist

    module _ (q : ℕ) (there : q < t.sizes.pools) where
      still : q < u.sizes.pools
      still = rw dealt.sizes there

      object-is : (o : ℕ) → mark_of (standing q o (standing_in t q o) es) ≡ mark_in (found u) q o
      object-is o = dealt.objects q o there (standing_in t q o) (mark-standing (mark_in (found t) q o) (mark-low t c g q there o))

      right : (o : ℕ) → standing q o (standing_in t q o) es ≢ Standing.mistaken
      right o = unmistaken (standing q o (standing_in t q o) es) (object-is o) (mark-low u (ran t c ss).clock then q still o)

      listed-is : (o : ℕ) → o < 32 → listings ((found u).pool q) o ≡ cond (is_free (standing q o (standing_in t q o) es)) 1 0
      listed-is o l =
          let fits = then.together.pools q still in
          same_or (mark_in (found u) q o) 1
          (λ e. fits.once o l e ∙ by (standing q o (standing_in t q o) es) (object-is o ∙ e))
          (λ d. fits.no_other o l d ∙ other (standing q o (standing_in t q o) es) (λ e. d (sym (object-is o) ∙ e)))
        where
          by : (x : Standing) → mark_of x ≡ 1 → ◌≡◌ {A = ℕ} 1 (cond (is_free x) 1 0)
          by Standing.absent e = absurd (omega (arith, e))
          by Standing.free e = refl
          by (Standing.out n i) e = absurd (omega (arith, e))
          by Standing.mistaken e = absurd (omega (arith, e))

          other : (x : Standing) → mark_of x ≢ 1 → ◌≡◌ {A = ℕ} 0 (cond (is_free x) 1 0)
          other Standing.absent d = refl
          other Standing.free d = absurd (d refl)
          other (Standing.out n i) d = refl
          other Standing.mistaken d = refl

      sum_of : number (λ o. was_added (standing_in t q o)) 32 + total (each (added q)) (shown_in 1 ms)
          ≡ free_in (found u) q + number (λ o. is_out (standing q o (standing_in t q o) es)) 32
      sum_of =
          ap (λ (k : ℕ). number (λ o. was_added (standing_in t q o)) 32 + k) (sym (seen (each (added q))))
          ∙ added-sum 32 q es (standing_in t q) right
          (λ o l. absent-of (standing q o (standing_in t q o) es) (object-is o ∙ mark-past u (ran t c ss).clock then q still o l))
          ∙ free-or-out 32 (λ o. standing q o (standing_in t q o) es) (mark_in (found u) q) (λ o l. right o) (λ o l. object-is o)

    -- each posting once
    once_is : (b : ℕ) → EachOnce b (opened t b).present es (ledger b (opened t b) es)
    once_is b =
        record {
          kept = λ p.
              let is-p : Event → ℕ = each (λ e. eqb e.step p.step && eqb e.who p.who) in
              let k = ledger b (opened t b) es in
              let all : total is-p k.given + total is-p k.lost + total is-p k.present
              ≡ total is-p [] + total is-p [] + total is-p (opened t b).present + total is-p (those (posted b) es) = ledger-whole is-p b (opened t b) es in
              all ∙ sym (total-append is-p (opened t b).present (those (posted b) es) ∙ omega arith);
          once = λ p. posted-once p (found t) b ((found t).box b).positions.count hist;
        }

    account : Accounted t.sizes (opened t) (standing_in t) ms u
    account =
        record {
          events = es;
          history = hist;
          box-told = box-is;
          box-once = λ b there. once_is b;
          box-paired = λ b there. paired b (opened t b) refl refl es (box-is b there).handed (once_is b);
          box-sum = λ b there.
              let sum = box-summed (found u) b (opened t b) es refl refl (box-is b there) in
              omega (arith, sum, seen (each (posted b)), seen (each (fetched b)), seen (lost_at b));
          object-told = λ q o there. object-is q there o;
          object-listed = λ q o there l. listed-is q there o l;
          object-right = λ q o there. right q there o;
          pool-sum = sum_of;
          promised-free = λ q there.
              free-listed (then.together.pools q (still q there))
              ∙ ap (λ (y : Sizes). larger ((found u).counter (16 + q)) + number (is_promised (found u) q) y.threads) dealt.sizes;
        }

  pub accounted : Accounted t.sizes (opened t) (standing_in t) ms u
  accounted = let r = recorded ss hs 1 t c g in account (events_in 1 t c ss) r.0 r.1

-- FROM FRESH ONES nothing was there
module _ (z : Sizes) (t : Tables) (f : FreshTables z t) where
  empty-box : (b : ℕ) → (found t).box b ≡ no_box
  empty-box b = ap (λ (l : List Mailbox). get_or l b no_box) f.mailboxes ∙ all-blank 4 no_box b

  pub opened-empty : (b : ℕ) → opened t b ≡ no_postings
  opened-empty b = ap (λ (n : ℕ). record { present = postings (found t) b n; given = []; lost = [] }) (ap (λ (x : Mailbox). x.positions.count) (empty-box b))

  pub all-absent : (q o : ℕ) → standing_in t q o ≡ Standing.absent
  all-absent q o =
      ap standing_at
      (ap (λ (x : Pool). get_or x.marks o 0) (ap (λ (l : List Pool). get_or l q no_pool) f.pools ∙ all-blank 4 no_pool q) ∙ all-blank 32 0 o)

  pub accounted-fresh : {ms : List Moment} {u : Tables} → Accounted t.sizes (opened t) (standing_in t) ms u
      → Accounted z (λ b. no_postings) (λ q o. Standing.absent) ms u
  accounted-fresh {ms} {u} a =
      subst (λ (y : Sizes). Accounted y (λ b. no_postings) (λ q o. Standing.absent) ms u) f.sizes
      (subst (λ (l : ℕ → Ledger). Accounted t.sizes l (λ q o. Standing.absent) ms u) (λ x b. opened-empty b x)
      (subst (λ (st : ℕ → ℕ → Standing). Accounted t.sizes (opened t) st ms u) (λ x q o. all-absent q o x) a))
