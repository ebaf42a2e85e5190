-- Which rule is broken first: what code has found of the rules so far, and that none is found exactly where the tables hang together.
use Prim.Native.Nat.{ℕ, zero, suc, ◌+◌, ◌≤◌, ◌<◌}
use native.Mathlib.Omega.{arith}
use mathlib.Core.Path.{◌≡◌, refl, sym, ap, ◌∙◌}
use mathlib.Core.Bool.{Bool, true, false, cond, not, ◌&&◌, and-false}
use lib.Dec.{eqb}
use lib.ListN.{length}
use borrow.Author.Tests.{ne_eqb, eqb-true}
use Rattle.std.specs.Prelude.{Option, None, Some}
use Rattle.std.specs.Option.{option_or}
use Rattle.kernel.specs.declared.clock.Clock.{Clock}
use Rattle.kernel.specs.declared.records.Thread.{Thread}
use Rattle.kernel.specs.Numbers.{nobody}
use Rattle.kernel.specs.Records.{blank}
use Rattle.kernel.specs.Tables.{used_rows, thread_at}
use Rattle.kernel.specs.Units.{frequency_fits}
use Rattle.kernel.specs.Waiters.{first_ready, call_free, running_free}
use Rattle.kernel.specs.Words.{first_of}
use Rattle.kernel.specs.Walk.{first_from, all_from}
use Rattle.kernel.proofs.Cases.{split, both-means, contrary, same_tests}
use Rattle.kernel.proofs.Lengths.{read_past}
use Rattle.kernel.proofs.Loops.{used_le}
use Rattle.library.specs.declared.tables.Plant.{Plant}
use Rattle.rules.specs.declared.finding.Broken.{Broken}
use Rattle.library.specs.Sizes.{sizes_fit}
use Rattle.rules.specs.RowRules.{call_fits, wait_fits, ticks_fit, awaited_fit, none_pending, flags_fit, cause_fits, row_fits, rows_fit}
use Rattle.rules.specs.PlaceRules.{place_agrees, counters_fit}
use Rattle.rules.specs.ReferenceRules.{holder_fits, references_fit}
use Rattle.rules.specs.MailboxRules.{mailbox_fits, mailboxes_fit}
use Rattle.rules.specs.PoolRules.{pool_agrees, pools_fit}
use Rattle.rules.specs.WordRules.{ready_word, ready_fits, word_agrees, waiting_fits, words_fit}
use Rattle.rules.specs.Hanging.{hangs_together}
use Rattle.rules.specs.Finding.{wholly, row_keeps, bad_row, bad_running, bad_at, is_kept, broken_as, broken, bad_cause, or_else}
use Rattle.rules.specs.Options.{told_row, told_broken, broken_by, broken_record}
use Rattle.rules.proofs.HangingLaws.{none-fails, none-bad, used-of-le}

-- whether a rule is broken
abbrev pub breaks : Plant → Clock → ℕ → Bool
breaks p clock rule = not (is_kept p clock rule)

-- nothing found
abbrev pub nothing : Broken
nothing = record { rule = 0; row = 0 }

-- what has been found of the rules 1 to n
unfoldable pub found_to : Plant → Clock → ℕ → Broken
found_to p clock zero = nothing
found_to p clock (suc n) = or_else (found_to p clock n) (suc n) (bad_at p clock (suc n))

-- ---- as the code tells it: none where the meanings have a number for it

pub or-none : (o : Option Broken) → option_or o None ≡ o
or-none None = refl
or-none (Some b) = refl

or-chain : (a b c d e f : Option Broken)
    → option_or a (option_or (option_or (option_or (option_or b c) d) e) f) ≡ option_or (option_or (option_or (option_or (option_or a b) c) d) e) f
or-chain None b c d e f = refl
or-chain (Some a) b c d e f = refl

-- what was found before, or else the next rule
told-or : (b : Broken) (rule row : ℕ) → 0 < rule → option_or (told_broken b) (broken_by rule (told_row row)) ≡ told_broken (or_else b rule row)
unfolding or_else
told-or b rule row h =
    split (eqb b.rule 0)
    (λ e. rw e (split (eqb row nobody) (λ t. rw (t, e)) (λ t. rw (t, ne_eqb rule 0 (λ q. omega arith)))))
    (λ e. rw e (rw e))

pub told_none : (p : Plant) (clock : Clock) → None ≡ told_broken (found_to p clock 0)
unfolding found_to
told_none p clock = refl

-- what is told by an option is what the meaning has; none is told of rule 0
pub told_some : (x b : Broken) → Some b ≡ told_broken x → b ≡ x
told_some x b = split (eqb x.rule 0) (λ t. rw t (λ e. cc)) (λ t. rw t (λ e. cc))

pub told_nothing : (x : Broken) → None ≡ told_broken x → x.rule ≡ 0
told_nothing x = split (eqb x.rule 0) (λ t. λ e. eqb-true x.rule 0 t) (λ t. rw t (λ e. cc))

-- one rule more: found is what the code had, row what it found of the rule
pub told-next : (p : Plant) (clock : Clock) (n : ℕ) (found x : Option Broken) (row : Option ℕ) → found ≡ told_broken (found_to p clock n)
    → x ≡ broken_by (suc n) row → row ≡ told_row (bad_at p clock (suc n)) → option_or found x ≡ told_broken (found_to p clock (suc n))
unfolding found_to
told-next p clock n found x row e g f = rw (e, g, f) (told-or (found_to p clock n) (suc n) (bad_at p clock (suc n)) (omega arith))

-- a search finds nothing before the place where it begins
at_least : (f : ℕ → Bool) (i n : ℕ) → i ≤ 255 → i + n ≤ 255 → i ≤ first_from f i n
unfolding first_from
at_least f i zero h l = h
at_least f i (suc n) h l =
    split (f i) (λ e. rw e (omega arith))
    (λ e. rw e (let later = at_least f (suc i) n (omega arith) (omega arith) in omega arith))

-- a search that goes one index further
first-last : (f : ℕ → Bool) (i n : ℕ) → i + n ≤ 255
    → first_from f i (suc n) ≡ cond (eqb (first_from f i n) nobody) (cond (f (i + n)) (i + n) nobody) (first_from f i n)
unfolding first_from
first-last f i zero h = let same : i + 0 ≡ i = omega arith in rw same
first-last f i (suc n) h =
    let next : i + suc n ≡ suc i + n = omega arith in
    split (f i) (λ e. rw (e, ne_eqb i nobody (λ q. omega arith))) (λ e. rw (e, next) (first-last f (suc i) n (omega arith)))

-- so what has been found is the first that is broken
found_first : (p : Plant) (clock : Clock) (n : ℕ) → n ≤ 15 → found_to p clock n ≡ broken_as p clock (first_from (breaks p clock) 1 n)
unfolding found_to or_else first_from
found_first p clock zero h = refl
found_first p clock (suc n) h =
    let first = first_from (breaks p clock) 1 n in
    let here : 1 + n ≡ suc n = omega arith in
    let least : 1 ≤ first = at_least (breaks p clock) 1 n (omega arith) (omega arith) in
    rw (found_first p clock n (omega arith), first-last (breaks p clock) 1 n (omega arith), here)
    (split (eqb first nobody)
    (λ e. rw e
    (split (eqb (bad_at p clock (suc n)) nobody) (λ t. rw t) (λ t. rw (t, ne_eqb (suc n) nobody (λ q. omega arith)))))
    (λ e. rw (e, ne_eqb first 0 (λ q. omega (arith, least))) (rw e)))

pub found_all : (p : Plant) (clock : Clock) → found_to p clock 15 ≡ broken p clock
unfolding broken
found_all p clock = found_first p clock 15 (omega arith)

-- all pass two tests exactly if all pass each
all_both : (f g : ℕ → Bool) (i n : ℕ) → all_from (λ j. f j && g j) i n ≡ all_from f i n && all_from g i n
unfolding all_from
all_both f g i zero = refl
all_both f g i (suc n) = rw (all_both f g (suc i) n) (swap (f i) (g i) (all_from f (suc i) n) (all_from g (suc i) n))
  where
    swap : (a b c d : Bool) → (a && b) && (c && d) ≡ (a && c) && (b && d)
    swap true true c d = refl
    swap true false true d = refl
    swap true false false d = refl
    swap false b c d = refl

-- no rule is found broken exactly if each is kept
none-broken : (p : Plant) (clock : Clock) → eqb (broken p clock).rule 0 ≡ all_from (is_kept p clock) 1 15
unfolding broken
none-broken p clock =
    let first = first_from (breaks p clock) 1 15 in
    let least : 1 ≤ first = at_least (breaks p clock) 1 15 (omega arith) (omega arith) in
    split (eqb first nobody)
    (λ e. rw e (sym e ∙ none-fails (is_kept p clock) 1 15 (omega arith)))
    (λ e. rw e (ne_eqb first 0 (λ q. omega arith) ∙ sym e ∙ none-fails (is_kept p clock) 1 15 (omega arith)))

-- no rule has no row
pub no-rule-no-row : (p : Plant) (clock : Clock) → (broken p clock).rule ≡ 0 → (broken p clock).row ≡ 0
unfolding broken
no-rule-no-row p clock =
    let first = first_from (breaks p clock) 1 15 in
    let least : 1 ≤ first = at_least (breaks p clock) 1 15 (omega arith) (omega arith) in
    split (eqb first nobody) (λ e. rw e (λ none. refl)) (λ e. rw e (λ none. absurd (omega arith)))

module _ (p : Plant) (clock : Clock) where
  whole-kept : (b : Bool) → eqb (wholly b) nobody ≡ b
  whole-kept true = refl
  whole-kept false = refl

  -- all threads' records keep a rule
  all_keep : ℕ → Bool
  all_keep rule = all_from (λ i. row_keeps p.sizes rule (thread_at p.kernel i)) 0 (used_rows p.sizes.threads)

  rows-kept : (rule : ℕ) → eqb (bad_row p.kernel.threads p.sizes rule) nobody ≡ all_keep rule
  unfolding all_keep
  rows-kept rule =
      let few = used_le _ p.sizes.threads refl in
      none-bad (λ i. row_keeps p.sizes rule (thread_at p.kernel i)) _ _ (omega arith) refl

  -- the running thread as the walk finds it
  abbrev walk-free : Bool
  walk-free = call_free p.kernel.threads (first_of (ready_word p.kernel p.sizes.threads))

  -- it is some thread where it has a call: past all threads there is none
  running-kept : length p.kernel.threads ≡ 16
      → eqb (bad_running p.kernel.threads (ready_word p.kernel p.sizes.threads)) nobody ≡ walk-free
  running-kept sized =
      let i = first_of (ready_word p.kernel p.sizes.threads) in
      let past : thread_at p.kernel nobody ≡ blank = sym (read_past p.kernel.threads 16 nobody sized (omega arith) blank) in
      split (eqb (thread_at p.kernel i).call.kind 0) (λ e. rw e)
      (λ e. rw e (ne_eqb i nobody (λ q. contrary (rw (q, past) refl) e)))

  -- where the ready word fits, it is the word's
  running-same : (v : Bool) → walk-free && (ready_fits p.kernel p.sizes.threads && v)
      ≡ running_free p.kernel && (ready_fits p.kernel p.sizes.threads && v)
  unfolding ready_fits first_ready
  running-same v =
      split (eqb p.kernel.words.ready (ready_word p.kernel p.sizes.threads))
      (λ e. ap (λ (w : ℕ). call_free p.kernel.threads (first_of w) && (ready_fits p.kernel p.sizes.threads && v))
      (sym (eqb-true p.kernel.words.ready (ready_word p.kernel p.sizes.threads) e)))
      (λ e. rw (e, and-false walk-free, and-false (running_free p.kernel)))

each : {a b c d : Bool} → a ≡ b → c ≡ d → a && c ≡ b && d
each e f = rw (e, f)

-- the paper's order of the rules, and the order in which they are tested
reordered : (s f c r m q t a w v n u x y o : Bool)
    → s && (f && (c && (r && (m && (q && (t && (a && (w && (v && (n && (u && (x && (y && (o && true))))))))))))))
    ≡ s && (f && ((a && (w && (t && ((v && n) && o)))) && (c && (r && (m && (q && (u && (x && y))))))))
reordered s f c r m q t a w v n u x y o =
    same_tests _ _
    (λ h.
    let h1 = both-means s _ h in
    let h2 = both-means f _ h1.1 in
    let h3 = both-means c _ h2.1 in
    let h4 = both-means r _ h3.1 in
    let h5 = both-means m _ h4.1 in
    let h6 = both-means q _ h5.1 in
    let h7 = both-means t _ h6.1 in
    let h8 = both-means a _ h7.1 in
    let h9 = both-means w _ h8.1 in
    let h10 = both-means v _ h9.1 in
    let h11 = both-means n _ h10.1 in
    let h12 = both-means u _ h11.1 in
    let h13 = both-means x _ h12.1 in
    let h14 = both-means y _ h13.1 in
    let h15 = both-means o _ h14.1 in
    rw (h1.0, h2.0, h3.0, h4.0, h5.0, h6.0, h7.0, h8.0, h9.0, h10.0, h11.0, h12.0, h13.0, h14.0, h15.0))
    (λ h.
    let h1 = both-means s _ h in
    let h2 = both-means f _ h1.1 in
    let h3 = both-means (a && (w && (t && ((v && n) && o)))) _ h2.1 in
    let row = both-means a _ h3.0 in
    let wait = both-means w _ row.1 in
    let ticks = both-means t _ wait.1 in
    let rest = both-means (v && n) o ticks.1 in
    let flags = both-means v n rest.0 in
    let h4 = both-means c _ h3.1 in
    let h5 = both-means r _ h4.1 in
    let h6 = both-means m _ h5.1 in
    let h7 = both-means q _ h6.1 in
    let running = both-means u _ h7.1 in
    let words = both-means x y running.1 in
    rw (
      h1.0,
      h2.0,
      h4.0,
      h5.0,
      h6.0,
      h7.0,
      ticks.0,
      row.0,
      wait.0,
      flags.0,
      flags.1,
      running.0,
      words.0,
      words.1,
      rest.1,
    ))

-- 0 is the number of the broken rule exactly where the tables hang together: those of a host, whose lists have their tables' lengths
module _ (p : Plant) (clock : Clock) (sized : length p.kernel.threads ≡ 16) where
  sizes-kept : is_kept p clock 1 ≡ sizes_fit p.sizes
  unfolding bad_at
  sizes-kept = whole-kept p clock (sizes_fit p.sizes)

  frequency-kept : is_kept p clock 2 ≡ frequency_fits clock.frequency
  unfolding bad_at
  frequency-kept = whole-kept p clock (frequency_fits clock.frequency)

  counters-kept : is_kept p clock 3 ≡ counters_fit p.kernel p.sizes
  unfolding bad_at counters_fit
  counters-kept = none-bad (place_agrees p.kernel p.sizes) 36 _ (omega arith) refl

  references-kept : is_kept p clock 4 ≡ references_fit p.kernel p.sizes
  unfolding bad_at references_fit
  references-kept =
      let few = used-of-le _ 8 p.sizes.references refl in
      none-bad (holder_fits p.kernel p.sizes.threads) _ _ (omega arith) refl

  mailboxes-kept : is_kept p clock 5 ≡ mailboxes_fit p
  unfolding bad_at mailboxes_fit
  mailboxes-kept =
      let few = used-of-le _ 4 p.sizes.mailboxes refl in none-bad (mailbox_fits p.mailboxes p.sizes) _ _ (omega arith) refl

  pools-kept : is_kept p clock 6 ≡ pools_fit p
  unfolding bad_at pools_fit
  pools-kept = let few = used-of-le _ 4 p.sizes.pools refl in none-bad (pool_agrees p) _ _ (omega arith) refl

  ready-kept : is_kept p clock 13 ≡ ready_fits p.kernel p.sizes.threads
  unfolding bad_at
  ready-kept = whole-kept p clock (ready_fits p.kernel p.sizes.threads)

  waiting_kept : is_kept p clock 14 ≡ waiting_fits p.kernel p.sizes
  unfolding bad_at waiting_fits
  waiting_kept = none-bad (word_agrees p.kernel p.sizes) 36 _ (omega arith) refl

  -- a record's rules are 8, 9, 7, 10 and 11, and 15
  records-kept : rows_fit p.kernel p.sizes
      ≡ all_keep p clock 8
      && (all_keep p clock 9 && (all_keep p clock 7 && ((all_keep p clock 10 && all_keep p clock 11) && all_keep p clock 15)))
  unfolding rows_fit row_fits flags_fit all_keep
  records-kept =
      let z = p.sizes in
      let n = used_rows z.threads in
      let row : ℕ → Thread = λ i. thread_at p.kernel i in
      let flags : ℕ → Bool = λ i. awaited_fit (row i) && none_pending (row i) in
      let last : ℕ → Bool = λ i. flags i && cause_fits (row i) in
      all_both (λ i. call_fits (row i) z) (λ i. wait_fits (row i) && (ticks_fit (row i) && last i)) 0 n
      ∙ ap (λ (b : Bool). all_from (λ i. call_fits (row i) z) 0 n && b)
      (all_both (λ i. wait_fits (row i)) (λ i. ticks_fit (row i) && last i) 0 n
      ∙ ap (λ (b : Bool). all_from (λ i. wait_fits (row i)) 0 n && b)
      (all_both (λ i. ticks_fit (row i)) last 0 n
      ∙ ap (λ (b : Bool). all_from (λ i. ticks_fit (row i)) 0 n && b)
      (all_both flags (λ i. cause_fits (row i)) 0 n
      ∙ ap (λ (b : Bool). b && all_from (λ i. cause_fits (row i)) 0 n)
      (all_both (λ i. awaited_fit (row i)) (λ i. none_pending (row i)) 0 n))))

  -- each rule that is kept, of tables that hang together or not
  all-kept : all_from (is_kept p clock) 1 15
      ≡ sizes_fit p.sizes
      && (frequency_fits clock.frequency
      && (counters_fit p.kernel p.sizes
      && (references_fit p.kernel p.sizes
      && (mailboxes_fit p
      && (pools_fit p
      && (all_keep p clock 7
      && (all_keep p clock 8
      && (all_keep p clock 9
      && (all_keep p clock 10
      && (all_keep p clock 11
      && (walk-free p clock
      && (ready_fits p.kernel p.sizes.threads
      && (waiting_fits p.kernel p.sizes && (all_keep p clock 15 && true))))))))))))))
  unfolding all_from bad_at
  all-kept =
      each sizes-kept
      (each frequency-kept
      (each counters-kept
      (each references-kept
      (each mailboxes-kept
      (each pools-kept
      (each (rows-kept p clock 7)
      (each (rows-kept p clock 8)
      (each (rows-kept p clock 9)
      (each (rows-kept p clock 10)
      (each (rows-kept p clock 11)
      (each (running-kept p clock sized) (each ready-kept (each waiting_kept (each (rows-kept p clock 15) refl))))))))))))))

  pub rule-none : eqb (broken p clock).rule 0 ≡ hangs_together p clock
  unfolding hangs_together words_fit
  rule-none =
      let running = running_free p.kernel in
      let ready = ready_fits p.kernel p.sizes.threads in
      let waiting = waiting_fits p.kernel p.sizes in
      rw (records-kept, ← running-same p clock waiting)
      (none-broken p clock
      ∙ all-kept
      ∙ reordered (sizes_fit p.sizes) (frequency_fits clock.frequency) (counters_fit p.kernel p.sizes)
      (references_fit p.kernel p.sizes) (mailboxes_fit p) (pools_fit p) (all_keep p clock 7) (all_keep p clock 8)
      (all_keep p clock 9) (all_keep p clock 10) (all_keep p clock 11) (walk-free p clock) ready waiting (all_keep p clock 15))

-- ---- the rules of a record

module _ (p : Plant) (clock : Clock) where
  -- a rule that no record breaks finds nothing
  kept-finds : (rule : ℕ) (found : Broken) → all_keep p clock rule ≡ true → or_else found rule (bad_row p.kernel.threads p.sizes rule) ≡ found
  unfolding or_else
  kept-finds rule found e = rw (rows-kept p clock rule ∙ e, and-false (eqb found.rule 0))

  -- the five of them at once: none is broken where all records fit
  pub told-rows : length p.kernel.threads ≡ 16 → (found x : Option Broken) (fit : Bool) → found ≡ told_broken (found_to p clock 6)
      → x ≡ broken_record fit p.kernel.threads p.sizes → fit ≡ rows_fit p.kernel p.sizes → option_or found x ≡ told_broken (found_to p clock 11)
  unfolding broken_record found_to bad_at
  told-rows sized found x fit e g f =
      let row : ℕ → ℕ = bad_row p.kernel.threads p.sizes in
      let by : ℕ → Option Broken = λ rule. broken_by rule (told_row (row rule)) in
      let b6 = found_to p clock 6 in
      let b7 = or_else b6 7 (row 7) in
      let b8 = or_else b7 8 (row 8) in
      let b9 = or_else b8 9 (row 9) in
      let b10 = or_else b9 10 (row 10) in
      rw (e, g)
      (split fit
      (λ t.
      let all = sym (records-kept p clock sized) ∙ (sym f ∙ t) in
      let call = both-means (all_keep p clock 8) _ all in
      let wait = both-means (all_keep p clock 9) _ call.1 in
      let ticks = both-means (all_keep p clock 7) _ wait.1 in
      let rest = both-means (all_keep p clock 10 && all_keep p clock 11) _ ticks.1 in
      let flags = both-means (all_keep p clock 10) (all_keep p clock 11) rest.0 in
      rw (
        t,
        kept-finds 7 (found_to p clock 6) ticks.0,
        kept-finds 8 (found_to p clock 6) call.0,
        kept-finds 9 (found_to p clock 6) wait.0,
        kept-finds 10 (found_to p clock 6) flags.0,
        kept-finds 11 (found_to p clock 6) flags.1,
      )
      (or-none (told_broken b6)))
      (λ t.
      rw t
      (or-chain (told_broken b6) (by 7) (by 8) (by 9) (by 10) (by 11)
      ∙ (ap (λ (o : Option Broken). option_or (option_or (option_or (option_or o (by 8)) (by 9)) (by 10)) (by 11)) (told-or b6 7 (row 7) (omega arith))
      ∙ (ap (λ (o : Option Broken). option_or (option_or (option_or o (by 9)) (by 10)) (by 11)) (told-or b7 8 (row 8) (omega arith))
      ∙ (ap (λ (o : Option Broken). option_or (option_or o (by 10)) (by 11)) (told-or b8 9 (row 9) (omega arith))
      ∙ (ap (λ (o : Option Broken). option_or o (by 11)) (told-or b9 10 (row 10) (omega arith))
      ∙ told-or b10 11 (row 11) (omega arith))))))))

  -- nor is the rule of causes
  pub cause-row : length p.kernel.threads ≡ 16 → (fit : Bool) → fit ≡ rows_fit p.kernel p.sizes
      → bad_cause fit p.kernel.threads p.sizes ≡ bad_at p clock 15
  unfolding bad_at
  cause-row sized fit f =
      split fit
      (λ t.
      let all = sym (records-kept p clock sized) ∙ (sym f ∙ t) in
      let call = both-means (all_keep p clock 8) _ all in
      let wait = both-means (all_keep p clock 9) _ call.1 in
      let ticks = both-means (all_keep p clock 7) _ wait.1 in
      let rest = both-means (all_keep p clock 10 && all_keep p clock 11) (all_keep p clock 15) ticks.1 in
      rw t (sym (eqb-true (bad_row p.kernel.threads p.sizes 15) nobody (rows-kept p clock 15 ∙ rest.1))))
      (λ t. rw t)
