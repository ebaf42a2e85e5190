-- NOTHING LOST, NOTHING INVENTED, OF DOCUMENT 02: the ledger of a mailbox, which postings are in it, were handed over, and were lost at a
-- reset; and where each object of a pool is. Both are kept by the history of a run alone, and held against the tables.
use Rattle.std.specs.Prelude.{ℕ, zero, suc, ◌+◌, ◌*◌, ◌%◌, ◌≤◌, ◌<◌, ◌≡◌, ◌≢◌, Bool, true, false, cond, ◌&&◌, List, [], ◌∷◌, ◌++◌, eqb, length, get_or}
use Rattle.accounts.specs.declared.account.Account.{Account}
use Rattle.accounts.specs.declared.accounting.Report.{Report}
use Rattle.library.specs.declared.calls.Step.{Step}
use Rattle.library.specs.declared.sizes.Sizes.{Sizes}
use Rattle.library.specs.declared.tables.Tables.{Tables}
use Rattle.steps.specs.declared.stepping.Outcome.{Outcome}
use Rattle.promises.specs.Paper.World.{World, found}
use Rattle.promises.specs.Paper.Rows.{slots_of}
use Rattle.promises.specs.Paper.Together.{number, larger, listings, is_promised}
use Rattle.promises.specs.Paper.Pipes.{listed}
use Rattle.promises.specs.Paper.Run.{Moment}
use Rattle.promises.specs.Paper.History.{Event, those, History, shown_in, total, posted, fetched, added, each, lost_at}

-- ---- a mailbox

-- message j of mailbox b, from the read place on
abbrev pub message_at : World → ℕ → ℕ → ℕ
message_at w b j = get_or (w.box b).messages (((w.box b).positions.read + j) % slots_of w b) 0

-- the messages that are in it, in the order in which they come out
abbrev pub in_box : World → ℕ → List ℕ
in_box w b = listed (message_at w b) (w.box b).positions.count

-- the postings of a mailbox: those that are in it, in the order in which they come out; those that were handed over, in the order in which they
-- were; and those that were lost at a reset
pub record Ledger : Type 0 where
  pub present : List Event
  pub given : List Event
  pub lost : List Event

-- "messages present count as posted": as those of a step 0, by their place
abbrev pub postings : World → ℕ → ℕ → List Event
postings w b zero = []
postings w b (suc n) = postings w b n ++ (record { step = 0; who = n; kind = 15; object = b; value = message_at w b n } ∷ [])

-- the ledger of a mailbox to which nothing was posted
abbrev pub no_postings : Ledger
no_postings = record { present = []; given = []; lost = [] }

-- the ledger of mailbox b of the tables t, before a run
abbrev pub opened : Tables → ℕ → Ledger
opened t b = record { present = postings (found t) b ((found t).box b).positions.count; given = []; lost = [] }

-- a fetch hands over the posting that is first
abbrev pub first_given : List Event → List Event → List Event → Ledger
first_given [] g l = record { present = []; given = g; lost = l }
first_given (p ∷ ps) g l = record { present = ps; given = g ++ (p ∷ []); lost = l }

-- what an event on its mailbox makes of a ledger: a post goes behind, a post ahead before all, a reset loses all
abbrev pub entered : Ledger → Event → Ledger
entered l e =
    cond (eqb e.kind 15) (record { present = l.present ++ (e ∷ []); given = l.given; lost = l.lost })
    (cond (eqb e.kind 16) (record { present = e ∷ l.present; given = l.given; lost = l.lost })
    (cond (eqb e.kind 17) (first_given l.present l.given l.lost)
    (cond (eqb e.kind 18) (record { present = []; given = l.given; lost = l.lost ++ l.present }) l)))

-- the ledger of mailbox b after some events; those on pools have other kinds
abbrev pub ledger : ℕ → Ledger → List Event → Ledger
ledger b l [] = l
ledger b l (e ∷ es) = ledger b (cond (eqb e.object b) (entered l e) l) es

-- the messages of postings, or the data of fetches
abbrev pub values : List Event → List ℕ
values [] = []
values (e ∷ es) = e.value ∷ values es

-- a mailbox after some events es: l is its ledger before them, k after them, and w has what is in it
pub record BoxTold (b : ℕ) (l : Ledger) (es : List Event) (k : Ledger) (w : World) : Type 0 where
  -- the messages in it now, in order, are those of the postings neither handed over nor lost
  pub present : values k.present ≡ in_box w b
  -- each fetch handed over the posting that was first then
  pub handed : values k.given ≡ values l.given ++ values (those (fetched b) es)
  -- each reset lost what it found
  pub lost : length k.lost ≡ length l.lost + total (lost_at b) es

-- how often a posting stands in a list: postings are told apart by their step and by whose they are
abbrev pub times : Event → List Event → ℕ
times p es = total (each (λ e. eqb e.step p.step && eqb e.who p.who)) es

-- each posting, those that were there before (ps) and those of the events, was handed over, or lost, or is in it; and each but once
pub record EachOnce (b : ℕ) (ps es : List Event) (k : Ledger) : Type 0 where
  pub kept : (p : Event) → times p k.given + times p k.lost + times p k.present ≡ times p (ps ++ those (posted b) es)
  pub once : (p : Event) → times p (ps ++ those (posted b) es) ≤ 1

-- the fetch e from mailbox b, before which the events xs stand, hands over the posting p; l is the ledger before them
pub record HandsOver (b : ℕ) (l : Ledger) (xs : List Event) (e p : Event) : Type 0 where
  -- it is the first in the mailbox then
  pub behind : List Event
  pub first : (ledger b l xs).present ≡ p ∷ behind
  -- it stands before the fetch, once: among the postings that were there before the run, and those of the events
  pub before : times p (l.present ++ those (posted b) xs) ≡ 1
  -- and its message is what is fetched
  pub message : e.value ≡ p.value

-- which posting each fetch has
pub record Paired (b : ℕ) (l : Ledger) (es : List Event) : Type 0 where
  -- each fetch hands over one posting
  pub one : (xs : List Event) (e : Event) (ys : List Event) → es ≡ xs ++ (e ∷ ys) → fetched b e ≡ true → (p : Event) × HandsOver b l xs e p
  -- and no other
  pub only : (xs : List Event) (e p q : Event) → HandsOver b l xs e p → HandsOver b l xs e q → p ≡ q
  -- and no two fetches the same
  pub apart : (xs ys zs : List Event) (e f p q : Event) → es ≡ xs ++ (e ∷ (ys ++ (f ∷ zs))) → fetched b e ≡ true → fetched b f ≡ true
      → HandsOver b l xs e p → HandsOver b l (xs ++ (e ∷ ys)) f q → p.step ≡ q.step → p.who ≡ q.who → ⊥

-- ---- a pool

-- where an object is, by its history: never added; free; handed over, by the alloc of this thread in this step, and not freed since. What
-- could not happen to it where it was is a mistake, and stays one
pub data Standing : Type 0 where
  absent : Standing
  free : Standing
  out : (step who : ℕ) → Standing
  mistaken : Standing

-- an add brings an object that was absent
abbrev pub when_added : Standing → Standing
when_added Standing.absent = Standing.free
when_added Standing.free = Standing.mistaken
when_added (Standing.out n i) = Standing.mistaken
when_added Standing.mistaken = Standing.mistaken

-- an alloc hands over a free one
abbrev pub when_taken : Event → Standing → Standing
when_taken e Standing.absent = Standing.mistaken
when_taken e Standing.free = Standing.out e.step e.who
when_taken e (Standing.out n i) = Standing.mistaken
when_taken e Standing.mistaken = Standing.mistaken

-- a free puts back one that is out
abbrev pub when_freed : Standing → Standing
when_freed Standing.absent = Standing.mistaken
when_freed Standing.free = Standing.mistaken
when_freed (Standing.out n i) = Standing.free
when_freed Standing.mistaken = Standing.mistaken

-- what an event on it makes of an object
abbrev pub stood : Standing → Event → Standing
stood x e =
    cond (eqb e.kind 20) (when_taken e x) (cond (eqb e.kind 21) (when_freed x) (cond (eqb e.kind 22) (when_added x) x))

-- where object o of pool q is after some events; those on mailboxes have other kinds
abbrev pub standing : ℕ → ℕ → Standing → List Event → Standing
standing q o x [] = x
standing q o x (e ∷ es) = standing q o (cond (eqb e.object q && eqb e.value o) (stood x e) x) es

-- the mark of object o: "Each object is marked absent, free or out", 0, 1 or 2
abbrev pub mark_in : World → ℕ → ℕ → ℕ
mark_in w q o = get_or (w.pool q).marks o 0

-- the mark of an object that stands so; a mistake has none
abbrev pub mark_of : Standing → ℕ
mark_of Standing.absent = 0
mark_of Standing.free = 1
mark_of (Standing.out n i) = 2
mark_of Standing.mistaken = 3

-- "objects free and out as added, those out as handed over": in a step 0, by whom is not known
abbrev pub standing_at : ℕ → Standing
standing_at zero = Standing.absent
standing_at (suc zero) = Standing.free
standing_at (suc (suc n)) = Standing.out 0 255

-- where object o of pool q is before a run, by its mark
abbrev pub standing_in : Tables → ℕ → ℕ → Standing
standing_in t q o = standing_at (mark_in (found t) q o)

-- whether it is free, is out, or was ever added
abbrev pub is_free : Standing → Bool
is_free Standing.absent = false
is_free Standing.free = true
is_free (Standing.out n i) = false
is_free Standing.mistaken = false

abbrev pub is_out : Standing → Bool
is_out Standing.absent = false
is_out Standing.free = false
is_out (Standing.out n i) = true
is_out Standing.mistaken = false

abbrev pub was_added : Standing → Bool
was_added Standing.absent = false
was_added Standing.free = true
was_added (Standing.out n i) = true
was_added Standing.mistaken = true

-- how many of the 32 objects of a pool are marked free
abbrev pub free_in : World → ℕ → ℕ
free_in w q = number (λ o. eqb (mark_in w q o) 1) 32

-- ---- a run, from tables of the sizes z: l has the ledgers before it, st where objects were, u the tables after it

pub record Accounted (z : Sizes) (l : ℕ → Ledger) (st : ℕ → ℕ → Standing) (ms : List Moment) (u : Tables) : Type 0 where
  -- the events of the run, in order: of each step just those that its result shows
  pub events : List Event
  pub history : History 1 ms events
  -- the messages in each mailbox are the postings that were neither fetched nor lost, and each fetch handed over the first of them
  pub box-told : (b : ℕ) → b < z.mailboxes → BoxTold b (l b) events (ledger b (l b) events) (found u)
  -- each posting is handed over at most once, and none that was not posted
  pub box-once : (b : ℕ) → b < z.mailboxes → EachOnce b (l b).present events (ledger b (l b) events)
  -- each fetch hands over one posting before it, and no two the same
  pub box-paired : (b : ℕ) → b < z.mailboxes → Paired b (l b) events
  -- "messages whose post finished with 0, less those whose fetch finished with 0, less those present at each reset, equal those in the
  -- mailbox now"
  pub box-sum : (b : ℕ) → b < z.mailboxes → length (l b).present + total (each (posted b)) (shown_in 1 ms)
      ≡ ((found u).box b).positions.count + total (each (fetched b)) (shown_in 1 ms) + total (lost_at b) (shown_in 1 ms)
  -- each object is where its history says: absent, free, or out to the one that took it
  pub object-told : (q o : ℕ) → q < z.pools → mark_of (standing q o (st q o) events) ≡ mark_in (found u) q o
  -- what is free by its history stands in the free list, once, and nothing else does
  pub object-listed : (q o : ℕ) → q < z.pools → o < 32
      → listings ((found u).pool q) o ≡ cond (is_free (standing q o (st q o) events)) 1 0
  -- and nothing happened to it that could not: no object is handed over that is not free
  pub object-right : (q o : ℕ) → q < z.pools → standing q o (st q o) events ≢ Standing.mistaken
  -- "objects ever added equal those free plus those out, where out is read from the history"
  pub pool-sum : (q : ℕ) → q < z.pools → number (λ o. was_added (st q o)) 32 + total (each (added q)) (shown_in 1 ms)
      ≡ free_in (found u) q + number (λ o. is_out (standing q o (st q o) events)) 32
  -- "An object promised to a woken thread is still free"
  pub promised-free : (q : ℕ) → q < z.pools
      → free_in (found u) q ≡ larger ((found u).counter (16 + q)) + number (is_promised (found u) q) z.threads

-- ---- what is printed of a run with these events: the sums of an account, which wrap at 2^32, and who has which object. Object o of pool q is
-- at 32 q + o; steps have numbers from 1

-- what a result reports of finished calls
abbrev pub report_of : Outcome → Report
report_of o = record { code = o.code; finished = o.finished; message = o.message; datum = o.datum }

-- the account of a run whose first moment is the n-th, where f enters one step
abbrev pub tallied_by : (Account → ℕ → Tables → Step → Report → Tables → Account) → ℕ → Account → List Moment → Account
tallied_by f n a [] = a
tallied_by f n a (m ∷ ms) = tallied_by f (suc n) (f a n m.before m.step (report_of m.result) m.after) ms

pub record AccountOf (a : Account) (z : Sizes) (st : ℕ → ℕ → Standing) (ms : List Moment) (es : List Event) : Type 0 where
  pub posted-sums : (b : ℕ) → b < 4 → get_or a.posted b 0 ≡ total (each (posted b)) (shown_in 1 ms) % 4294967296
  pub fetched-sums : (b : ℕ) → b < 4 → get_or a.fetched b 0 ≡ total (each (fetched b)) (shown_in 1 ms) % 4294967296
  pub lost-sums : (b : ℕ) → b < 4 → get_or a.lost b 0 ≡ total (lost_at b) (shown_in 1 ms) % 4294967296
  pub added-sums : (q : ℕ) → q < 4 → get_or a.added q 0 ≡ total (each (added q)) (shown_in 1 ms) % 4294967296
  -- an object that was handed over in this run, and not freed since: to whom, and in which step
  pub takers : (q o n i : ℕ) → q < z.pools → o < 32 → standing q o (st q o) es ≡ Standing.out (suc n) i
      → (get_or a.takers (q * 32 + o) 0 ≡ i) × (get_or a.steps (q * 32 + o) 0 ≡ suc n)
