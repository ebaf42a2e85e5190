-- The account of a flag over a run: in each step it comes, is answered, or stays as it is.
use Rattle.std.specs.Prelude.{ℕ, zero, suc, ◌-◌, ◌<◌, ◌≡◌, refl, ◌≢◌, ◌⊎◌, Bool, true, false, not, ◌&&◌, ◌||◌, List, [], ◌∷◌, eqb, ℤ, pos, negsuc}
use Rattle.std.proofs.Common.{sym, ap, ◌∙◌, subst, inl, inr, eq-eqb, ne_eqb}
use Rattle.std.proofs.Math.Bool.{or-true, or-false}
use Rattle.std.specs.Int.Bits.{bit_and}
use Rattle.kernel.specs.declared.clock.Clock.{Clock}
use Rattle.kernel.specs.declared.records.Answer.{Answer}
use Rattle.kernel.specs.declared.records.Thread.{Thread}
use Rattle.kernel.proofs.Cases.{split, same_or, contrary, both-means}
use Rattle.kernel.proofs.WordsLaws.{or-test, and-test, less-test}
use Rattle.library.specs.declared.calls.Step.{Step}
use Rattle.library.specs.declared.tables.Tables.{Tables}
use Rattle.steps.specs.Stepping.{stepped}
use Rattle.steps.proofs.StepLaws.{step-refused}
use Rattle.promises.specs.Paper.Host.{HostSteps, Going}
use Rattle.promises.specs.Paper.Together.{is_zero}
use Rattle.promises.specs.Paper.Waking.{row_of, in_mask, heard}
use Rattle.promises.specs.Paper.Run.{Moment}
use Rattle.promises.specs.Paper.Flags.{awaits_flags, GoesOn, FlagsAfter, signalled_to, answered_to, answered_in, Account}
use Rattle.promises.specs.Code.Steps.{ran, moment_of, moments}
use Rattle.promises.specs.Runs.OneStep.{sizes-after, flags_of}
use Rattle.promises.specs.Runs.Moments.{host, going_on, no-bit}

-- only the message 0 is 0
pub not-zero : (m : ℤ) → m ≢ pos 0 → is_zero m ≡ false
not-zero (pos zero) n = absurd (n refl)
not-zero (pos (suc m)) n = refl
not-zero (negsuc m) n = refl

-- which call goes on is an event wait
goes-awaits : {t : Tables} {s : Step} {i mask : ℕ} {m : ℤ} → GoesOn t s i mask m → awaits_flags t s i ≡ true
goes-awaits {s = s} {i = i} (GoesOn.finds c k n) = rw (eq-eqb s.caller i c, eq-eqb s.kind 14 k)
goes-awaits {s = s} {i = i} (GoesOn.finds-none c k z d) = rw (eq-eqb s.caller i c, eq-eqb s.kind 14 k)
goes-awaits {s = s} {i = i} (GoesOn.woken c z k) = rw (ne_eqb s.caller i c, k)
goes-awaits {s = s} {i = i} (GoesOn.wakes c k w) = rw (ne_eqb s.caller i c, k)

-- ---- one step

module _ (m : Moment) (i flag : ℕ) where
  abbrev before : Thread
  before = row_of m.before i

  abbrev after : Thread
  after = row_of m.after i

  -- pending before, or signalled now
  abbrev come : Bool
  come = in_mask flag before.pending || in_mask flag (signalled_to i m)

  abbrev answered : Bool
  answered = in_mask flag (answered_to i m)

  -- a line of the account
  record Line : Type 0 where
    pub pending : in_mask flag after.pending ≡ come && not answered
    pub due : answered ≡ true → come ≡ true

  module _ (ok : m.result.code ≡ 0) where
    -- what is pending once the flags of this step have come
    heard-come : in_mask flag (heard m.step i before) ≡ come
    heard-come =
        split (eqb m.step.kind 13 && eqb m.step.object i)
        (λ e. rw (eq-eqb m.result.code 0 ok, e) (or-test before.pending m.step.a flag))
        (λ e. rw (eq-eqb m.result.code 0 ok, e, no-bit flag) (sym (or-false (in_mask flag before.pending))))

    -- nothing is answered
    keeps : answered_to i m ≡ 0 → after.pending ≡ heard m.step i before → Line
    keeps e p =
        let no : answered ≡ false = ap (in_mask flag) e ∙ no-bit flag in
        record {
          pending = ap (in_mask flag) p ∙ heard-come ∙ rw no (sym (both_true come));
          due = λ x. contrary x no;
        }
      where
        both_true : (x : Bool) → (x && true) ≡ x
        both_true true = refl
        both_true false = refl

    -- the flags of a mask are
    takes : (mask : ℕ) → answered_to i m ≡ bit_and (heard m.step i before) mask
        → after.pending ≡ heard m.step i before - bit_and (heard m.step i before) mask → Line
    takes mask e p =
        let f = heard m.step i before in
        let is : answered ≡ come && in_mask flag mask = ap (in_mask flag) e ∙ and-test f mask flag ∙ ap (λ (x : Bool). x && in_mask flag mask) heard-come in
        record {
          pending =
              ap (in_mask flag) p ∙ less-test f mask flag ∙ ap (λ (x : Bool). x && not (in_mask flag mask)) heard-come
              ∙ rw is (rest come (in_mask flag mask));
          due = λ x. (both-means come (in_mask flag mask) (sym is ∙ x)).0;
        }
      where
        rest : (x y : Bool) → (x && not y) ≡ (x && not (x && y))
        rest true y = refl
        rest false y = refl

    -- EACH ACCEPTED STEP
    flag-line : FlagsAfter m.before m.step i after (in_mask i m.result.finished) → Line
    flag-line (FlagsAfter.taken mask g q r p) =
        takes mask (rw (eq-eqb m.result.code 0 ok, q, goes-awaits g, ap (λ (a : Answer). a.message) r) (ap (λ (a : Answer). a.datum) r)) p
    flag-line (FlagsAfter.late mask x g n q r p) =
        keeps (rw (eq-eqb m.result.code 0 ok, q, goes-awaits g, ap (λ (a : Answer). a.message) r, not-zero x n)) p
    flag-line (FlagsAfter.stays e p) =
        keeps (rw (eq-eqb m.result.code 0 ok, none (in_mask i m.result.finished) (awaits_flags m.before m.step i) e)) p
      where
        none : (x y : Bool) → (y && x) ≡ false → (x && (y && is_zero after.answer.message)) ≡ false
        none true true e = contrary refl e
        none true false e = refl
        none false y e = refl

  -- AND EACH REFUSED ONE
  refused-line : m.result.code ≢ 0 → m.after ≡ m.before → Line
  refused-line n e =
      let no = ne_eqb m.result.code 0 n in
      record {
        pending = rw (no, no-bit flag, ap (λ (t : Tables). in_mask flag (row_of t i).pending) e) (level (in_mask flag before.pending));
        due = λ x. contrary x (rw no (no-bit flag));
      }
    where
      level : (x : Bool) → x ≡ ((x || false) && true)
      level true = refl
      level false = refl

-- ---- a run

-- THE ACCOUNT OF A FLAG
pub flag-account : (ss : List Step) → HostSteps ss → (t : Tables) (c : Clock) → Going t c → (i flag : ℕ) → i < t.sizes.threads
    → Account i flag (in_mask flag (row_of (ran t c ss).tables i).pending) (in_mask flag (row_of t i).pending) (moments t c ss)
flag-account [] hs t c g i flag l = Account.ends refl
flag-account (s ∷ ss) (HostSteps.more h hs) t c g i flag l =
    let u = (stepped t c s).tables in
    let d = (stepped t c s).clock in
    let m : Moment = moment_of t c s in
    let more : i < u.sizes.threads → Line m i flag → Account i flag (in_mask flag (row_of (ran u d ss).tables i).pending) (in_mask flag (row_of t i).pending) (m ∷ moments u d ss) =
    λ w x. Account.goes x.due
    (subst (λ (b : Bool). Account i flag (in_mask flag (row_of (ran u d ss).tables i).pending) b (moments u d ss)) x.pending
    (flag-account ss hs u d (going_on t c g s h) i flag w)) in
    same_or (stepped t c s).outcome.code 0
    (λ e. more (rw (sizes-after t c s (host t c g s h) e) l) (flag-line m i flag e (flags_of t c s (host t c g s h) e i l)))
    (λ n.
    let same = (step-refused t c s n).tables in
    more (rw same l) (refused-line m i flag n same))

-- what is pending is pending at the end, or was answered
pub none-lost : {i n : ℕ} {last b : Bool} {ms : List Moment} → Account i n last b ms → b ≡ true
    → (last ≡ true) ⊎ (answered_in i n ms ≡ true)
none-lost (Account.ends e) h = inl (e ∙ h)
none-lost {i} {n} (Account.goes {b} {m} due rest) h =
    split (in_mask n (answered_to i m)) (λ a. inr (rw a))
    (λ a. elim (none-lost rest (rw (h, a))) [ inl x ↦ inl x | inr x ↦ inr (rw a x) ])

-- and so is what the first moment signals
pub signalled-kept : {i n : ℕ} {last b : Bool} {m : Moment} {ms : List Moment} → Account i n last b (m ∷ ms)
    → in_mask n (signalled_to i m) ≡ true → (last ≡ true) ⊎ (answered_in i n (m ∷ ms) ≡ true)
signalled-kept {i} {n} {last} {b} {m} (Account.goes due rest) h =
    split (in_mask n (answered_to i m)) (λ a. inr (rw a))
    (λ a. elim (none-lost rest (rw (h, a, or-true b))) [ inl x ↦ inl x | inr x ↦ inr (rw a x) ])
