-- The rule and the row that a host is told are the first that are broken, as the paper tells the rules: they are tried one after the other,
-- and each finds its own first row.
use Prim.Native.Nat.{ℕ, suc, ◌/◌, ◌%◌, ◌≤◌, ◌<◌}
use Rattle.std.proofs.Common.{arith, sym, ◌∙◌, subst}
use Rattle.std.specs.Prelude.{◌≡◌, ◌≢◌, ◌↔◌, eqb, length}
use Rattle.std.proofs.Math.Path.{refl}
use Rattle.std.proofs.Math.Bool.{and-false}
use borrow.Author.Tests.{eq-eqb, ne_eqb}
use Rattle.kernel.specs.declared.clock.Clock.{Clock}
use Rattle.kernel.proofs.Cases.{split, same_or, in-or-out}
use Rattle.library.specs.declared.sizes.Sizes.{Sizes}
use Rattle.library.specs.declared.tables.Plant.{Plant}
use Rattle.library.specs.declared.tables.Tables.{Tables}
use Rattle.library.specs.Sizes.{sizes_fit}
use Rattle.library.specs.Tables.{opened}
use Rattle.rules.specs.declared.finding.Broken.{Broken}
use Rattle.rules.specs.Finding.{bad_at, broken, or_else}
use Rattle.rules.proofs.FindingLaws.{found_to, found_all}
use Rattle.host.specs.Broken.{broken_number}
use Rattle.host.specs.Layout.{layout}
use Rattle.host.proofs.BrokenLaws.{number-none}
use Rattle.promises.specs.Paper.World.{found}
use Rattle.promises.specs.Paper.Together.{HangTogether}
use Rattle.promises.specs.Paper.Host.{HostTables}
use Rattle.promises.specs.Paper.Broken.{BreaksRule, BrokenFirst, BrokenCall, LayoutCall}
use Rattle.promises.specs.Together.Good.{GoodSizes}
use Rattle.promises.specs.Together.Hanging.{test-hangs}
use Rattle.promises.specs.Together.PlaceTests as places
use Rattle.promises.specs.Meant.Sizes.{out-of-limits}
use Rattle.promises.specs.Meant.Together as rules
use Rattle.promises.specs.Meant.Rules.{FirstIn, RuleFound, sizes-rule, frequency-rule, counters-rule, references-rule, mailboxes-rule, pools-rule}
use Rattle.promises.specs.Meant.Rules.{ticks-rule, call-rule, wait-rule, awaited-rule, pending-rule, running-rule, ready-rule, waiting-rule, cause-rule}

-- ---- one rule after the other

module _ (t : Tables) (c : Clock) where
  abbrev p : Plant
  p = opened t

  abbrev z : Sizes
  z = t.sizes

  -- no rule up to m is broken
  abbrev Kept : ℕ → Type 0
  Kept m = (rule row : ℕ) → rule ≤ m → BreaksRule t c rule row → ⊥

  -- what has been found of the rules up to m
  data FoundTo (m : ℕ) (x : Broken) : Type 0 where
    nothing : x.rule ≡ 0 → x.row ≡ 0 → Kept m → FoundTo m x
    one : x.rule ≢ 0 → x.row < 255 → BrokenFirst t c x.rule x.row → FoundTo m x

  found-next : (m : ℕ) (x : Broken) (row : ℕ) → FoundTo m x → (Kept m → FirstIn (BreaksRule t c (suc m)) row) → FoundTo (suc m) (or_else x (suc m) row)
  unfolding or_else
  found-next m x row (FoundTo.one d l f) rule = rw (ne_eqb x.rule 0 d) (FoundTo.one d l f)
  found-next m x row (FoundTo.nothing e f kept) rule = next (rule kept)
    where
      next : FirstIn (BreaksRule t c (suc m)) row → FoundTo (suc m) (or_else x (suc m) row)
      next (FirstIn.some l b least) =
          rw (e, ne_eqb row 255 (λ q. omega arith))
          (FoundTo.one (λ q. omega arith) l (BrokenFirst.first (suc m) row b least (λ r j h. kept r j (omega arith))))
      next (FirstIn.none q whole) =
          rw q (rw (and-false (eqb x.rule 0)) (FoundTo.nothing e f
          (λ r j h b. same_or r (suc m) (λ i. whole j (subst (λ (y : ℕ). BreaksRule t c y j) i b)) (λ d. kept r j (omega arith) b))))

  -- the rules are 1 to 15
  ruled : {rule row : ℕ} → BreaksRule t c rule row → (1 ≤ rule) × (rule ≤ 15)
  ruled (BreaksRule.sizes a) = (omega arith, omega arith)
  ruled (BreaksRule.frequency a) = (omega arith, omega arith)
  ruled (BreaksRule.semaphore a b d) = (omega arith, omega arith)
  ruled (BreaksRule.pool-counter a b d) = (omega arith, omega arith)
  ruled (BreaksRule.queue a b d) = (omega arith, omega arith)
  ruled (BreaksRule.writers a b d) = (omega arith, omega arith)
  ruled (BreaksRule.readers a b d) = (omega arith, omega arith)
  ruled (BreaksRule.reference a b d) = (omega arith, omega arith)
  ruled (BreaksRule.mailbox a b d) = (omega arith, omega arith)
  ruled (BreaksRule.pool a b d) = (omega arith, omega arith)
  ruled (BreaksRule.ticks a b d) = (omega arith, omega arith)
  ruled (BreaksRule.call a b d) = (omega arith, omega arith)
  ruled (BreaksRule.wait a b d) = (omega arith, omega arith)
  ruled (BreaksRule.awaited a b d) = (omega arith, omega arith)
  ruled (BreaksRule.pending a b d e) = (omega arith, omega arith)
  ruled (BreaksRule.running a b d) = (omega arith, omega arith)
  ruled (BreaksRule.ready-word a) = (omega arith, omega arith)
  ruled (BreaksRule.waiting-word a b d) = (omega arith, omega arith)
  ruled (BreaksRule.cause a b d) = (omega arith, omega arith)

  sizes-kept : (m : ℕ) → 1 ≤ m → Kept m → GoodSizes z
  sizes-kept m h kept = split (sizes_fit z) (places.sizes-good z) (λ e. absurd (kept 1 0 h (BreaksRule.sizes (out-of-limits z e))))

  module _ (rows : length t.kernel.threads ≡ 16) where
    all_found : FoundTo 15 (found_to p c 15)
    unfolding found_to
    all_found =
        let by : ℕ → Broken = found_to p c in
        let after : (m : ℕ) → FoundTo m (by m) → (Kept m → RuleFound t c (suc m)) → FoundTo (suc m) (by (suc m)) =
        λ m. found-next m (by m) (bad_at p c (suc m)) in
        let asked : (m : ℕ) → 1 ≤ m → FoundTo m (by m) → (GoodSizes z → RuleFound t c (suc m)) → FoundTo (suc m) (by (suc m)) =
        λ m h x rule. after m x (λ kept. rule (sizes-kept m h kept)) in
        let f1 = after 0 (FoundTo.nothing refl refl (λ r j h b. absurd (omega (arith, (ruled b).0)))) (λ kept. sizes-rule t c) in
        let f2 = after 1 f1 (λ kept. frequency-rule t c) in
        let f3 = asked 2 (omega arith) f2 (counters-rule t c) in
        let f4 = asked 3 (omega arith) f3 (references-rule t c) in
        let f5 = asked 4 (omega arith) f4 (mailboxes-rule t c) in
        let f6 = asked 5 (omega arith) f5 (pools-rule t c) in
        let f7 = asked 6 (omega arith) f6 (ticks-rule t c) in
        let f8 = asked 7 (omega arith) f7 (call-rule t c) in
        let f9 = after 8 f8 (λ kept. wait-rule t c (sizes-kept 8 (omega arith) kept) (λ j. kept 8 j (omega arith))) in
        let f10 = asked 9 (omega arith) f9 (awaited-rule t c) in
        let f11 = asked 10 (omega arith) f10 (pending-rule t c) in
        let f12 = asked 11 (omega arith) f11 (λ s. running-rule t c s rows) in
        let f13 = asked 12 (omega arith) f12 (ready-rule t c) in
        let f14 = asked 13 (omega arith) f13 (waiting-rule t c) in
        asked 14 (omega arith) f14 (cause-rule t c)

    first_found : FoundTo 15 (broken p c) → BrokenCall t c (broken_number t c)
    first_found (FoundTo.nothing e f kept) = rw (e, f) (BrokenFirst.none (λ rule row b. kept rule row (ruled b).1 b))
    first_found (FoundTo.one d l f) =
        let rule : broken_number t c / 256 ≡ (broken p c).rule = omega arith in
        let row : broken_number t c % 256 ≡ (broken p c).row = omega arith in
        rw (rule, row) f

-- what nil_broken gives is the first rule that is broken, and its first row
pub broken-call-is : (t : Tables) (c : Clock) → HostTables t → BrokenCall t c (broken_number t c)
broken-call-is t c host = first_found t c host.threads (subst (FoundTo t c 15) (found_all (opened t) c) (all_found t c host.threads))

-- ---- no choice

pub broken-one : {t : Tables} {c : Clock} {r i q j : ℕ} → BrokenFirst t c r i → BrokenFirst t c q j → (r ≡ q) × (i ≡ j)
broken-one (BrokenFirst.none a) (BrokenFirst.none b) = (refl, refl)
broken-one (BrokenFirst.none a) (BrokenFirst.first q j x l m) = absurd (a q j x)
broken-one (BrokenFirst.first r i x l m) (BrokenFirst.none b) = absurd (b r i x)
broken-one {t} {c} (BrokenFirst.first r i x l m) (BrokenFirst.first q j y k n) =
    in-or-out r q (λ h. absurd (n r i h x))
    (λ h. in-or-out q r (λ g. absurd (m q j g y))
    (λ g.
    let same : r ≡ q = omega arith in
    let x' : BreaksRule t c q i = subst (λ (u : ℕ). BreaksRule t c u i) same x in
    let y' : BreaksRule t c r j = subst (λ (u : ℕ). BreaksRule t c u j) (sym same) y in
    in-or-out i j (λ h. absurd (k i h x')) (λ h. in-or-out j i (λ g. absurd (l j g y')) (λ g. (same, omega arith)))))

pub broken-call-one : {t : Tables} {c : Clock} {n m : ℕ} → BrokenCall t c n → BrokenCall t c m → n ≡ m
broken-call-one {n = n} {m = m} a b =
    let same = broken-one a b in
    let rule : n / 256 ≡ m / 256 = same.0 in
    let row : n % 256 ≡ m % 256 = same.1 in
    omega arith

-- ---- no rule is broken exactly where the tables hang together

module _ (t : Tables) (c : Clock) where
  together-keeps : HangTogether (found t) t.kernel.words c → {rule row : ℕ} → BreaksRule t c rule row → ⊥
  together-keeps h (BreaksRule.sizes m) = m h.sizes
  together-keeps h (BreaksRule.frequency m) = m h.frequency
  together-keeps h (BreaksRule.semaphore s l m) = m (h.semaphores s l)
  together-keeps h (BreaksRule.pool-counter q l m) = m (h.pool-counters q l)
  together-keeps h (BreaksRule.queue q l m) = m (h.queues q l)
  together-keeps h (BreaksRule.writers b l m) = m (h.writers b l)
  together-keeps h (BreaksRule.readers b l m) = m (h.readers b l)
  together-keeps h (BreaksRule.reference r l m) = m (h.holder r l, h.holds r l)
  together-keeps h (BreaksRule.mailbox b l m) = m (h.mailboxes b l)
  together-keeps h (BreaksRule.pool q l m) = m (h.pools q l)
  together-keeps h (BreaksRule.ticks i l m) = m (h.threads i l).ticks
  together-keeps h (BreaksRule.call i l m) = m (h.threads i l).call
  together-keeps h (BreaksRule.wait i l m) = m (h.threads i l).wait
  together-keeps h (BreaksRule.awaited i l m) = m (h.threads i l).awaited
  together-keeps h (BreaksRule.pending i l e m) = m ((h.threads i l).none-pending e)
  together-keeps h (BreaksRule.running i f m) = m (h.running i f)
  together-keeps h (BreaksRule.ready-word m) = m h.words.ready
  together-keeps h (BreaksRule.waiting-word p u m) = m (h.words.waiting p u)
  together-keeps h (BreaksRule.cause i l m) = absurd (omega (arith, (h.threads i l).cause))

  pub none-together : HostTables t → BrokenFirst t c 0 0 ↔ HangTogether (found t) t.kernel.words c
  none-together host = (
    λ f.
        let none : broken_number t c ≡ 0 = broken-call-one {n = broken_number t c} {m = 0} (broken-call-is t c host) f in
        rules.rules-together t c
        (test-hangs (opened t) c (sym (number-none t c host.threads) ∙ eq-eqb (broken_number t c) 0 none)),
    λ h. BrokenFirst.none (λ rule row b. together-keeps h b),
  )

-- ---- nil_layout

pub layout-call-is : LayoutCall layout
layout-call-is = refl

pub layout-call-one : {n m : ℕ} → LayoutCall n → LayoutCall m → n ≡ m
layout-call-one a b = a ∙ sym b
