-- The account that is printed of a run: each step enters just the events that its result shows, and each event adds to the sum that counts it.
use Rattle.std.specs.Prelude.{ℕ, zero, suc, ◌+◌, ◌%◌, ◌≤◌, ◌<◌, ◌≡◌, refl, ◌≢◌, Bool, false, cond, ◌&&◌, ◌||◌, eqb, length, get_or, replicate}
use Rattle.std.proofs.Math.Nat.{mod-add-mod}
use Rattle.std.proofs.Common.{mod-eq_of_lt, mod-lt, add-zero, zero-add, add_assoc, arith, ap, ◌∙◌, length-set, get_or-set_same, get_or-set_other, eq-eqb, ne_eqb, lt-ltb, le-ltb}
use Rattle.std.proofs.Math.Path.{sym}
use Rattle.std.proofs.Math.Bool.{and-false}
use mathlib.Core.List.{List, [], ◌∷◌, ◌++◌, append-nil}
use Rattle.kernel.specs.declared.clock.Clock.{Clock}
use Rattle.kernel.specs.declared.records.Answer.{Answer}
use Rattle.kernel.specs.declared.records.Call.{Call}
use Rattle.kernel.specs.Walk.{each as each_of}
use Rattle.kernel.proofs.Cases.{split, same_or, in-or-out}
use Rattle.library.specs.declared.calls.Step.{Step}
use Rattle.library.specs.declared.tables.Tables.{Tables}
use Rattle.library.specs.Signs.{same}
use Rattle.accounts.specs.declared.account.Account.{Account}
use Rattle.accounts.specs.declared.account.Entry.{Entry}
use Rattle.accounts.specs.Account.{fresh_account, is_post, raised_if, entered}
use Rattle.accounts.specs.Accounting.{value_of as entered_value, entry_of, interrupt_entered, thread_entered, threads_entered, accounted_step}
use Rattle.steps.specs.Stepping.{stepped}
use Rattle.promises.specs.Paper.World.{kept}
use Rattle.promises.specs.Paper.Host.{HostSteps, Going}
use Rattle.promises.specs.Paper.Together.{is_zero}
use Rattle.promises.specs.Paper.Run.{Moment}
use Rattle.promises.specs.Paper.Waking.{row_of, in_mask}
use Rattle.promises.specs.Paper.History.{
  Event,
  call_by,
  answer_by,
  is_counted,
  value_of,
  events_of,
  shown_by,
  gathered,
  shown,
  shown_in,
  total,
  posted,
  fetched,
  added,
  each,
  lost_at,
}
use Rattle.promises.specs.Paper.Ledger.{report_of}
use Rattle.promises.specs.Code.Steps.{moment_of, moments, tallied}
use Rattle.promises.specs.Runs.Moments.{host, going_on}
use Rattle.promises.specs.Runs.Histories.{finished-within}
use Rattle.promises.specs.Runs.Counting.{total-same}
use Rattle.promises.specs.Meant.Together.{zero_same}
use Rattle.promises.specs.Together.Hanging.{all-blank}
use Rattle.promises.specs.Together.Tests.{neither-means}

-- ---- an event is entered

abbrev pub entry_for : Event → Entry
entry_for e = record { who = e.who; kind = e.kind; object = e.object; value = e.value }

abbrev pub entered_all : Account → List Event → Account
entered_all a [] = a
entered_all a (e ∷ es) = entered_all (entered a e.step (entry_for e)) es

pub entered-append : (a : Account) (es fs : List Event) → entered_all a (es ++ fs) ≡ entered_all (entered_all a es) fs
entered-append a [] fs = refl
entered-append a (e ∷ es) fs = entered-append (entered a e.step (entry_for e)) es fs

-- what does not count changes nothing
entered-none : (a : Account) (n : ℕ) (e : Entry) → is_counted e.kind ≡ false → entered a n e ≡ a
unfolding entered
entered-none a n e h =
    let x15 = neither-means (eqb e.kind 15) _ h in
    let x16 = neither-means (eqb e.kind 16) _ x15.1 in
    let x17 = neither-means (eqb e.kind 17) _ x16.1 in
    let x18 = neither-means (eqb e.kind 18) _ x17.1 in
    let x20 = neither-means (eqb e.kind 20) _ x18.1 in
    let x21 = neither-means (eqb e.kind 21) _ x20.1 in
    rw (x15.0, x16.0, x17.0, x18.0, x20.0, x21.1)

module _ (n : ℕ) (t : Tables) where
  value_same : (c : Call) (r : Answer) → entered_value t.mailboxes c r.datum ≡ value_of t c r
  value_same c r =
      same_or c.kind 18 (λ k. rw k)
      (λ k. split (eqb c.kind 17 || eqb c.kind 20) (λ h. rw (h, ne_eqb c.kind 18 k)) (λ h. rw (h, ne_eqb c.kind 18 k)))

  -- a call that finished enters its event, if it has one
  call-entered : (a : Account) (i : ℕ) (c : Call) (r : Answer) → entered a n (entry_of t.mailboxes i c r) ≡ entered_all a (events_of n t i c r)
  call-entered a i c r =
      let entry : ℕ → Entry = λ k. record { who = i; kind = k; object = c.object; value = entered_value t.mailboxes c r.datum } in
      split (is_zero r.message)
      (λ z.
      let is : entry_of t.mailboxes i c r ≡ entry c.kind = rw (← zero_same r.message, z) in
      split (is_counted c.kind)
      (λ k. ap (entered a n) is ∙ rw (k, z, value_same c r))
      (λ k. ap (entered a n) is ∙ rw k (entered-none a n (entry c.kind) k)))
      (λ z.
      let is : entry_of t.mailboxes i c r ≡ entry 0 = rw (← zero_same r.message, z) in
      ap (entered a n) is ∙ rw (z, and-false (is_counted c.kind)) (entered-none a n (entry 0) refl))

-- ---- a step enters what its result shows

-- indexes that have nothing
gathered-past : (f : ℕ → List Event) (k n : ℕ) → ((i : ℕ) → k ≤ i → i < n → f i ≡ []) → k ≤ n → gathered f n ≡ gathered f k
gathered-past f k zero h l = let z : k ≡ 0 = omega arith in rw z
gathered-past f k (suc n) h l =
    in-or-out n k
    (λ w. let z : k ≡ suc n = omega arith in rw z)
    (λ w. rw (h n w (omega arith)) (append-nil (gathered f n)) ∙ gathered-past f k n (λ i x y. h i x (omega arith)) w)

module _ (n : ℕ) (m : Moment) (ok : m.result.code ≡ 0) (few : m.before.sizes.threads ≤ 16)
    (within : (i : ℕ) → i ≢ 255 → m.before.sizes.threads ≤ i → in_mask i m.result.finished ≡ false) where
  abbrev t : Tables
  t = m.before

  abbrev enters : ℕ → Account → Account
  enters = thread_entered n t.mailboxes t.kernel.threads m.step m.result.finished m.after.kernel.threads

  -- a thread's call, if it finished
  thread-enters : (i : ℕ) → i ≢ 255 → (a : Account) → enters i a ≡ entered_all a (shown_by n m i)
  thread-enters i d a =
      let r = (row_of m.after i).answer in
      in-or-out i t.sizes.threads
      (λ l.
      split (in_mask i m.result.finished)
      (λ f. rw (f, eq-eqb m.result.code 0 ok, ne_eqb i 255 d, lt-ltb i t.sizes.threads l) (call-entered n t a i (call_by m i) r))
      (λ f. rw (f, eq-eqb m.result.code 0 ok, ne_eqb i 255 d, lt-ltb i t.sizes.threads l)))
      (λ l. rw (within i d l, eq-eqb m.result.code 0 ok, ne_eqb i 255 d, le-ltb i t.sizes.threads l))

  threads-enter : (j : ℕ) → j ≤ 16 → (a : Account) → each_of j enters a ≡ entered_all a (gathered (shown_by n m) j)
  threads-enter zero l a = refl
  threads-enter (suc j) l a =
      thread-enters j (λ z. omega (arith, l, z)) (each_of j enters a)
      ∙ ap (λ (x : Account). entered_all x (shown_by n m j)) (threads-enter j (omega arith) a)
      ∙ sym (entered-append a (gathered (shown_by n m) j) (shown_by n m j))

  -- whoever calls, an interrupt's call first
  abbrev interrupt : Account → Account
  interrupt a = interrupt_entered a n t.mailboxes m.step (report_of m.result)

  interrupt-enters : (a : Account) → interrupt a ≡ entered_all a (shown_by n m 255)
  interrupt-enters a =
      split (eqb m.step.caller 255)
      (λ z. rw (z, eq-eqb m.result.code 0 ok) (call-entered n t a 255 (kept m.step.kind m.step.object m.step.a m.step.timeout) (answer_by m 255)))
      (λ z. rw (z, eq-eqb m.result.code 0 ok))

  -- the threads among the first j
  all-enter : (j : ℕ) → j ≤ 16 → t.sizes.threads ≤ j → (a : Account)
      → each_of j enters a ≡ entered_all a (gathered (shown_by n m) t.sizes.threads)
  all-enter j l w a =
      let past : (i : ℕ) → t.sizes.threads ≤ i → i < j → shown_by n m i ≡ [] =
      λ i x y. rw (ne_eqb i 255 (λ z. omega (arith, z, y, l)), le-ltb i t.sizes.threads x, and-false (eqb m.result.code 0)) in
      threads-enter j l a ∙ ap (entered_all a) (gathered-past (shown_by n m) t.sizes.threads j past w)

  -- AN ACCEPTED STEP
  step_is : (a : Account) → accounted_step a n m.before m.step (report_of m.result) m.after ≡ each_of 16 enters (interrupt a)
  unfolding accounted_step threads_entered
  step_is a = rw (eq-eqb m.result.code 0 ok)

  accepted-enters : (a : Account) → accounted_step a n m.before m.step (report_of m.result) m.after ≡ entered_all a (shown n m)
  accepted-enters a =
      step_is a ∙ all-enter 16 (omega arith) few (interrupt a)
      ∙ ap (λ (x : Account). entered_all x (gathered (shown_by n m) t.sizes.threads)) (interrupt-enters a)
      ∙ sym (entered-append a (shown_by n m 255) (gathered (shown_by n m) t.sizes.threads))

-- a refused one shows nothing, and enters nothing
module _ (n : ℕ) (m : Moment) (no : m.result.code ≢ 0) where
  shows-none : (i : ℕ) → shown_by n m i ≡ []
  shows-none i = rw (ne_eqb m.result.code 0 no)

  gathers-none : (k : ℕ) → gathered (shown_by n m) k ≡ []
  gathers-none zero = refl
  gathers-none (suc k) = rw (gathers-none k, shows-none k)

  refused-enters : (a : Account) → accounted_step a n m.before m.step (report_of m.result) m.after ≡ entered_all a (shown n m)
  unfolding accounted_step
  refused-enters a =
      let nothing : shown n m ≡ [] = rw (shows-none 255, gathers-none m.before.sizes.threads) in
      stays a ∙ sym (ap (entered_all a) nothing)
    where
      stays : (a : Account) → accounted_step a n m.before m.step (report_of m.result) m.after ≡ a
      stays a = rw (ne_eqb m.result.code 0 no)

-- ---- A RUN

pub run_enters : (ss : List Step) → HostSteps ss → (n : ℕ) (t : Tables) (c : Clock) → Going t c → (a : Account)
    → tallied n a (moments t c ss) ≡ entered_all a (shown_in n (moments t c ss))
run_enters [] hs n t c g a = refl
run_enters (s ∷ ss) (HostSteps.more h hs) n t c g a =
    let m = moment_of t c s in
    let rest = moments (stepped t c s).tables (stepped t c s).clock ss in
    let now : accounted_step a n t s (report_of (stepped t c s).outcome) (stepped t c s).tables ≡ entered_all a (shown n m) =
    same_or (stepped t c s).outcome.code 0
    (λ e. accepted-enters n m e g.together.sizes.threads.1 (finished-within n t c s (host t c g s h) e) a)
    (λ d. refused-enters n m d a) in
    ap (λ (x : Account). tallied (suc n) x rest) now
    ∙ run_enters ss hs (suc n) (stepped t c s).tables (stepped t c s).clock (going_on t c g s h) (entered_all a (shown n m))
    ∙ sym (entered-append a (shown n m) (shown_in (suc n) rest))

-- ---- sums

-- a table of sums in which each event that passes adds to that of its object
abbrev raised : (Event → Bool) → (Event → ℕ) → List ℕ → List Event → List ℕ
raised f v l [] = l
raised f v l (e ∷ es) = raised f v (raised_if (f e) l e.object (v e)) es

module _ (f : Event → Bool) (v : Event → ℕ) where
  -- what an event adds to sum b
  abbrev adds : ℕ → Event → ℕ
  adds b e = cond (f e && eqb e.object b) (v e) 0

  raised-length : (l : List ℕ) (e : Event) → length (raised_if (f e) l e.object (v e)) ≡ length l
  raised-length l e = split (f e) (λ h. rw h (length-set l e.object _)) (λ h. rw h)

  raised-one : (l : List ℕ) (b : ℕ) → b < length l → get_or l b 0 < 4294967296 → (e : Event)
      → get_or (raised_if (f e) l e.object (v e)) b 0 ≡ (get_or l b 0 + adds b e) % 4294967296
  raised-one l b h small e =
      let still : get_or l b 0 ≡ (get_or l b 0 + 0) % 4294967296 = sym (ap (λ (n : ℕ). n % 4294967296) (add-zero (get_or l b 0)) ∙ mod-eq_of_lt small) in
      split (f e)
      (λ k. same_or e.object b
      (λ z. rw (k, eq-eqb e.object b z, z) (get_or-set_same l b _ 0 h))
      (λ d. rw (k, ne_eqb e.object b d) (get_or-set_other l e.object b _ 0 (λ z. d (sym z)) ∙ still)))
      (λ k. rw k still)

  raised-sum : (es : List Event) (l : List ℕ) (b : ℕ) → b < length l → get_or l b 0 < 4294967296
      → get_or (raised f v l es) b 0 ≡ (get_or l b 0 + total (adds b) es) % 4294967296
  raised-sum [] l b h small = sym (ap (λ (n : ℕ). n % 4294967296) (add-zero (get_or l b 0)) ∙ mod-eq_of_lt small)
  raised-sum (e ∷ es) l b h small =
      let k = raised_if (f e) l e.object (v e) in
      let one = raised-one l b h small e in
      let less : get_or k b 0 < 4294967296 = rw one (mod-lt (get_or l b 0 + adds b e) (omega arith)) in
      raised-sum es k b (rw (raised-length l e) h) less
      ∙ rw one (mod-add-mod (get_or l b 0 + adds b e) 4294967296 (total (adds b) es) ∙ ap (λ (n : ℕ). n % 4294967296) (add_assoc (get_or l b 0) (adds b e) (total (adds b) es)))

  -- from four sums that are 0
  raised-fresh : (es : List Event) (b : ℕ) → b < 4 → (g : Event → ℕ) → ((e : Event) → adds b e ≡ g e)
      → get_or (raised f v (replicate 4 0) es) b 0 ≡ total g es % 4294967296
  raised-fresh es b h g same =
      let none : ◌≡◌ {A = ℕ} (get_or (replicate 4 0) b 0) 0 = all-blank 4 0 b in
      raised-sum es (replicate 4 0) b h (rw none (omega arith))
      ∙ ap (λ (n : ℕ). n % 4294967296) (rw (none, zero-add (total (adds b) es)) (total-same (adds b) g same es))

-- each column of an account is such a table
posted-column : (es : List Event) (a : Account) → (entered_all a es).posted ≡ raised (λ e. is_post e.kind) (λ e. 1) a.posted es
unfolding entered
posted-column [] a = refl
posted-column (e ∷ es) a = posted-column es (entered a e.step (entry_for e))

fetched-column : (es : List Event) (a : Account) → (entered_all a es).fetched ≡ raised (λ e. eqb e.kind 17) (λ e. 1) a.fetched es
unfolding entered
fetched-column [] a = refl
fetched-column (e ∷ es) a = fetched-column es (entered a e.step (entry_for e))

lost-column : (es : List Event) (a : Account) → (entered_all a es).lost ≡ raised (λ e. eqb e.kind 18) (λ e. e.value) a.lost es
unfolding entered
lost-column [] a = refl
lost-column (e ∷ es) a = lost-column es (entered a e.step (entry_for e))

added-column : (es : List Event) (a : Account) → (entered_all a es).added ≡ raised (λ e. eqb e.kind 22) (λ e. 1) a.added es
unfolding entered
added-column [] a = refl
added-column (e ∷ es) a = added-column es (entered a e.step (entry_for e))

-- so each sum is that of its events
module _ (es : List Event) (b : ℕ) (h : b < 4) where
  pub posted-fresh : get_or (entered_all fresh_account es).posted b 0 ≡ total (each (posted b)) es % 4294967296
  posted-fresh =
      ap (λ (l : List ℕ). get_or l b 0) (posted-column es fresh_account)
      ∙ raised-fresh (λ e. is_post e.kind) (λ e. 1) es b h (each (posted b)) (λ e. refl)

  pub fetched-fresh : get_or (entered_all fresh_account es).fetched b 0 ≡ total (each (fetched b)) es % 4294967296
  fetched-fresh =
      ap (λ (l : List ℕ). get_or l b 0) (fetched-column es fresh_account)
      ∙ raised-fresh (λ e. eqb e.kind 17) (λ e. 1) es b h (each (fetched b)) (λ e. refl)

  pub lost-fresh : get_or (entered_all fresh_account es).lost b 0 ≡ total (lost_at b) es % 4294967296
  lost-fresh =
      ap (λ (l : List ℕ). get_or l b 0) (lost-column es fresh_account)
      ∙ raised-fresh (λ e. eqb e.kind 18) (λ e. e.value) es b h (lost_at b) (λ e. refl)

  pub added-fresh : get_or (entered_all fresh_account es).added b 0 ≡ total (each (added b)) es % 4294967296
  added-fresh =
      ap (λ (l : List ℕ). get_or l b 0) (added-column es fresh_account)
      ∙ raised-fresh (λ e. eqb e.kind 22) (λ e. 1) es b h (each (added b)) (λ e. refl)
