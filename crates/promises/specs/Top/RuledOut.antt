-- What the statements of the demands rule out, each in a line or two: answers and wakings that no step gives.
use Rattle.std.specs.Prelude.{ℕ, ◌+◌, ◌/◌, ◌%◌, ◌^◌, ◌≤◌, ◌<◌, ◌≡◌, refl, ◌≢◌, ◌⊎◌, Bool, true, false, cond, not, ◌&&◌, eqb, ltb, length, get_or, ℤ, pos, negsuc, nat_abs}
use Rattle.std.proofs.Common.{arith, sym, ap, ◌∙◌, subst, inl, inr, true≢false, eqb-true, eq-eqb, le-ltb}
use mathlib.Core.List.{List, [], ◌∷◌, head-eq_of_cons-eq}
use Rattle.std.proofs.Math.IntN.{pos-ne-negsuc}
use Rattle.std.specs.Int.Signed.{lt_z}
use Rattle.kernel.specs.declared.clock.Clock.{Clock}
use Rattle.kernel.specs.declared.records.Answer.{Answer}
use Rattle.kernel.specs.declared.records.Thread.{Thread}
use Rattle.kernel.specs.declared.records.Words.{Words}
use Rattle.kernel.proofs.Cases.{split, same_or}
use Rattle.kernel.proofs.WordsLaws.{and-test, less-test}
use Rattle.library.specs.declared.calls.Step.{Step}
use Rattle.library.specs.declared.tables.Tables.{Tables}
use Rattle.pipes.specs.declared.table.Pipes.{Pipes}
use Rattle.pipes.specs.Told.{Moved}
use Rattle.steps.specs.declared.stepping.Stepped.{Stepped}
use Rattle.promises.specs.Paper.World.{World, found, signed, Highest}
use Rattle.promises.specs.Paper.Rows.{slots_of}
use Rattle.promises.specs.Paper.Together.{InUse, WordOf, WordsAgree}
use Rattle.promises.specs.Paper.Waking.{row_of, in_mask, IsPost, Served, CalledOut, LastTick, WokenBy, heard, AnswerOf, SideOf, SleeperAfter, ReadyAfter, WakerAfter, ReleasesAll, ReleasesFirst, Due}
use Rattle.promises.specs.Paper.Flags.{awaits_flags, FlagsAfter}
use Rattle.promises.specs.Paper.Run.{Moment, TurnOf}
use Rattle.promises.specs.Paper.Pipes.{pipe_of, Transfer, TransferOf}
use Rattle.promises.specs.Paper.History.{Event, is_own, OwnFirst}
use Rattle.promises.specs.Paper.Ledger.{in_box, no_postings, ledger, BoxTold, Standing, standing}
use Rattle.promises.specs.Paper.Signals.{AtTop, SignalTold}
use Rattle.promises.specs.Paper.Causes.{Wakes}
use Rattle.promises.specs.Paper.EachThread.{EachThread}
use Rattle.promises.specs.Runs.Sleepers.{last-by}
use Rattle.promises.specs.Runs.Pipes.{smaller-le, numbered}

-- -1 and -2 are not 0
below : {n : ℕ} → ◌≡◌ {A = ℤ} (negsuc n) (pos 0) → ⊥
below {n} e = pos-ne-negsuc 0 n (sym e)

-- an event wait that timed out answers -1 and no flags, and takes none
pub late-flags : {a : Thread} {f e d : ℕ} {x : ℤ} → AnswerOf a f (negsuc 0) x d e → (x ≡ negsuc 0) × (d ≡ 0) × (e ≡ f)
late-flags (AnswerOf.message h) = (refl, refl, refl)
late-flags (AnswerOf.events k z) = absurd (below z)
late-flags (AnswerOf.object k z o l) = absurd (below z)
late-flags (AnswerOf.in-reset k z) = absurd (below z)
late-flags (AnswerOf.posted k z) = absurd (below z)
late-flags (AnswerOf.fetched k z y) = absurd (below z)

-- a call that timed out in one step and is continued in a later one answers -1 and no datum, whatever came in between
pub late-answer : {t : Tables} {s : Step} {i : ℕ} {b : Thread} {w : Bool} → ReadyAfter t s i b w true → (row_of t i).message ≡ negsuc 0
    → (b.answer.message ≡ negsuc 0) × (b.answer.datum ≡ 0) × (b.pending ≡ heard s i (row_of t i))
late-answer (ReadyAfter.on e p q) m = absurd (true≢false q)
late-answer {t} {s} {i} {b} (ReadyAfter.done x d f h e p q) m =
    let g = late-flags (subst (λ (y : ℤ). AnswerOf (row_of t i) (heard s i (row_of t i)) y x d f) m h) in
    (ap (λ (u : Thread). u.answer.message) e ∙ g.0, ap (λ (u : Thread). u.answer.datum) e ∙ g.1, ap (λ (u : Thread). u.pending) e ∙ g.2)
late-answer (ReadyAfter.again pl side z e p q) m = absurd (below (sym m ∙ z))
late-answer (ReadyAfter.ready-again pl c side z by e p q) m = absurd (below (sym m ∙ z))
late-answer (ReadyAfter.done-again pl c x d side z by h e p q) m = absurd (below (sym m ∙ z))

-- a flag that was answered is not left pending
pub none_left : {t : Tables} {s : Step} {i : ℕ} {b : Thread} {f : Bool} → FlagsAfter t s i b f → (awaits_flags t s i && f) ≡ true
    → b.answer.message ≡ pos 0 → (n : ℕ) → in_mask n b.answer.datum ≡ true → in_mask n b.pending ≡ false
none_left {t} {s} {i} (FlagsAfter.taken mask g q r p) e z n x =
    let f = heard s i (row_of t i) in
    ap (in_mask n) p ∙ less-test f mask n ∙ rest (in_mask n f) (in_mask n mask) (sym (and-test f mask n) ∙ sym (ap (λ (a : Answer). in_mask n a.datum) r) ∙ x)
  where
    rest : (x y : Bool) → (x && y) ≡ true → (x && not y) ≡ false
    rest true true e = refl
    rest true false e = absurd (true≢false (sym e))
    rest false y e = refl
none_left (FlagsAfter.late mask m g d q r p) e z n x = absurd (d (sym (ap (λ (a : Answer). a.message) r) ∙ z))
none_left (FlagsAfter.stays h p) e z n x = absurd (true≢false (sym e ∙ h))

-- an alloc that was woken with 0 answers 0
pub promise-kept : {a : Thread} {f e d : ℕ} {x : ℤ} → a.call.kind ≡ 20 → AnswerOf a f (pos 0) x d e → x ≡ pos 0
promise-kept k (AnswerOf.message h) = refl
promise-kept k (AnswerOf.events q z) = refl
promise-kept k (AnswerOf.object q z o l) = refl
promise-kept k (AnswerOf.in-reset (inl (inl q)) z) = absurd (omega (arith, k, q))
promise-kept k (AnswerOf.in-reset (inl (inr q)) z) = absurd (omega (arith, k, q))
promise-kept k (AnswerOf.in-reset (inr q) z) = absurd (omega (arith, k, q))
promise-kept k (AnswerOf.posted q z) = refl
promise-kept k (AnswerOf.fetched q z y) = refl

-- a pool's waiter is never released with -2
pub no-pool-reset : {p : ℕ} {a : Thread} {s : Step} {m : ℤ} {o : ℕ} → 16 ≤ p → TurnOf p a s m o → m ≢ negsuc 1
no-pool-reset l (TurnOf.signal k o) e = below (sym e)
no-pool-reset l (TurnOf.object k o) e = below (sym e)
no-pool-reset l (TurnOf.last-tick k r) e = one-two (sym e)
  where
    one-two : ◌≡◌ {A = ℤ} (negsuc 1) (negsuc 0) → ⊥
    one-two x = omega (arith, ap nat_abs x)
no-pool-reset l (TurnOf.reset k o h) e = omega (arith, l, h)

-- ---- why a thread woke

-- "with 0 unless its timeout or a reset made it ready sooner", read off the record of a waiter at a semaphore or a pool
pub turn-read : {p : ℕ} {a : Thread} {s : Step} {m : ℤ} {c : ℕ} → TurnOf p a s m c
    → ((m ≡ pos 0) × (c ≡ 1)) ⊎ (((m ≡ negsuc 0) × (c ≡ 8)) ⊎ ((m ≡ negsuc 1) × (c ≡ 7)))
turn-read (TurnOf.signal k o) = inl (refl, refl)
turn-read (TurnOf.object k o) = inl (refl, refl)
turn-read (TurnOf.last-tick k r) = inr (inl (refl, refl))
turn-read (TurnOf.reset k o h) = inr (inr (refl, refl))

-- whoever was woken has a cause, and what a cause says of the step: tick and reset are given by ticks and resets alone, with -1 and -2
pub record Caused (s : Step) (m : ℤ) (c : ℕ) : Type 0 where
  pub some : (1 ≤ c) × (c ≤ 8)
  pub tick : c ≡ 8 → (s.kind ≡ 1) × (m ≡ negsuc 0)
  pub reset : c ≡ 7 → ((s.kind ≡ 4) ⊎ (s.kind ≡ 18)) × (m ≡ negsuc 1)
  pub release : c ≡ 2 → ((s.kind ≡ 7) ⊎ (s.kind ≡ 8)) × (m ≡ signed s.a)
  pub resume : c ≡ 3 → (s.kind ≡ 10) × (m ≡ signed s.a)

-- by another cause than these
plain : {s : Step} {m : ℤ} (c : ℕ) → (1 ≤ c) × (c ≤ 6) → c ≢ 2 → c ≢ 3 → Caused s m c
plain c l x y =
    record {
      some = (l.0, omega (arith, l.1));
      tick = λ e. absurd (omega (arith, e, l.1));
      reset = λ e. absurd (omega (arith, e, l.1));
      release = λ e. absurd (x e);
      resume = λ e. absurd (y e);
    }

called-cause : {t : Tables} {s : Step} {st pl : ℕ} {m : ℤ} {c : ℕ} → CalledOut t s st pl m c → Caused s m c
called-cause (CalledOut.signal k q p) = plain 1 (omega arith, omega arith) (λ e. omega arith) (λ e. omega arith)
called-cause (CalledOut.reset k q p) =
    record {
      some = (omega arith, omega arith);
      tick = λ e. absurd (omega arith);
      reset = λ e. (inl k, refl);
      release = λ e. absurd (omega arith);
      resume = λ e. absurd (omega arith);
    }
called-cause (CalledOut.release k q p) =
    record {
      some = (omega arith, omega arith);
      tick = λ e. absurd (omega arith);
      reset = λ e. absurd (omega arith);
      release = λ e. (k, refl);
      resume = λ e. absurd (omega arith);
    }
called-cause (CalledOut.resume k q p) =
    record {
      some = (omega arith, omega arith);
      tick = λ e. absurd (omega arith);
      reset = λ e. absurd (omega arith);
      release = λ e. absurd (omega arith);
      resume = λ e. (k, refl);
    }
called-cause (CalledOut.served (Served.post b z k q p)) = plain 5 (omega arith, omega arith) (λ e. omega arith) (λ e. omega arith)
called-cause (CalledOut.served (Served.fetch b z k q p)) = plain 6 (omega arith, omega arith) (λ e. omega arith) (λ e. omega arith)
called-cause (CalledOut.box-reset k q p) =
    record {
      some = (omega arith, omega arith);
      tick = λ e. absurd (omega arith);
      reset = λ e. (inr k, refl);
      release = λ e. absurd (omega arith);
      resume = λ e. absurd (omega arith);
    }
called-cause (CalledOut.object k q p) = plain 1 (omega arith, omega arith) (λ e. omega arith) (λ e. omega arith)

pub waking-caused : {t : Tables} {s : Step} {i : ℕ} {m : ℤ} {c : ℕ} → Wakes t s i m c → Caused s m c
waking-caused (Wakes.slept n (WokenBy.last-tick k r)) =
    record {
      some = (omega arith, omega arith);
      tick = λ e. (k, refl);
      reset = λ e. absurd (omega arith);
      release = λ e. absurd (omega arith);
      resume = λ e. absurd (omega arith);
    }
waking-caused (Wakes.slept n (WokenBy.events k o st f)) = plain 4 (omega arith, omega arith) (λ e. omega arith) (λ e. omega arith)
waking-caused (Wakes.slept n (WokenBy.call u b)) = called-cause b
waking-caused (Wakes.fell z f b) = called-cause (CalledOut.served b)

-- whoever has its last tick in the step is woken by it, whatever calls go on then: with -1, by the cause tick
pub last-tick-told : {t : Tables} {s : Step} {i : ℕ} {b : Thread} {w f : Bool} → LastTick s (row_of t i) → SleeperAfter t s i b w f
    → (w ≡ true) × (b.message ≡ negsuc 0) × (b.cause ≡ 8)
last-tick-told v (SleeperAfter.on u e p q) = absurd (u v)
last-tick-told v (SleeperAfter.ready m c by e p q) = (p, rw e (last-by v by).0, rw e (last-by v by).1)
last-tick-told v (SleeperAfter.done m x c d f by g e p q) = (p, rw e (last-by v by).0, rw e (last-by v by).1)

-- a tick wakes nobody who was ready: no sleep, waking and end is made up on the way
pub no-fake-waking : {t : Tables} {s : Step} {i : ℕ} {b : Thread} {w : Bool} → s.caller ≡ 255 → i < 16 → (row_of t i).call.kind ≡ 0
    → WakerAfter t s i b w → (w ≡ false) × (b.state ≡ 0)
no-fake-waking c l k (WakerAfter.unwoken z u) = (u, z)
no-fake-waking c l k (WakerAfter.own-sleep x st pl o h) = absurd (omega (arith, c, x, l))
no-fake-waking c l k (WakerAfter.tried-again (inl (inl x)) m h) = absurd (omega (arith, k, x))
no-fake-waking c l k (WakerAfter.tried-again (inl (inr x)) m h) = absurd (omega (arith, k, x))
no-fake-waking c l k (WakerAfter.tried-again (inr x) m h) = absurd (omega (arith, k, x))

-- who sleeps and is not in the woken mask finishes nothing
pub unwoken-unfinished : {t : Tables} {s : Step} {i : ℕ} {b : Thread} {w f : Bool} → SleeperAfter t s i b w f → w ≡ false → f ≡ false
unwoken-unfinished (SleeperAfter.on u e p q) z = q
unwoken-unfinished (SleeperAfter.ready m o b e p q) z = absurd (true≢false (sym p ∙ z))
unwoken-unfinished (SleeperAfter.done m x o d f b g e p q) z = absurd (true≢false (sym p ∙ z))

-- a word has no bit from the number of threads on
pub no-bit-past : (f : ℕ → Bool) (n w i : ℕ) → WordOf f n w → n ≤ i → w / 2 ^ i % 2 ≡ 0
no-bit-past f n w i g l = g i ∙ rw (le-ltb i n l)

-- who waits at a place is not in the ready word
pub no-ready-waiter : (w : World) (v : Words) (p i : ℕ) → WordsAgree w v → InUse w.sizes p → get_or v.waiting p 0 / 2 ^ i % 2 ≡ 1
    → v.ready / 2 ^ i % 2 ≡ 0
no-ready-waiter w v p i g u e =
    g.ready i ∙ asleep (eqb (w.thread i).place p) (ltb i w.sizes.threads) (sym (g.waiting p u i) ∙ e)
  where
    asleep : (b c : Bool) → ◌≡◌ {A = ℕ} (cond (c && (eqb (w.thread i).state 3 && b)) 1 0) 1
        → ◌≡◌ {A = ℕ} (cond (c && eqb (w.thread i).state 0) 1 0) 0
    asleep b false x = refl
    asleep b true x =
        split (eqb (w.thread i).state 3)
        (λ s. rw (eqb-true (w.thread i).state 3 s))
        (λ s. absurd (omega (arith, rw s at x)))

-- ---- pipes

-- a refused transfer moves nothing, and leaves the table and every byte that it could have written
pub refused-transfer : {t : Pipes} {i n : ℕ} {x : Transfer} {m : Moved} {e : List ℕ} → TransferOf t i n x m e → m.code ≢ 0
    → (m.pipes ≡ t) × (m.moved ≡ pos 0) × (e ≡ x.into)
refused-transfer (TransferOf.refused c p a r) d = (ap (λ (m : Moved). m.pipes) a, ap (λ (m : Moved). m.moved) a, r)
refused-transfer (TransferOf.in-reset p z a r) d = absurd (d (ap (λ (m : Moved). m.code) a))
refused-transfer (TransferOf.moves p z k s y u v o) d = absurd (d u)

-- in reset state none moves a byte, and none answers a number
pub transfer-in-reset : {t : Pipes} {i n : ℕ} {x : Transfer} {m : Moved} {e : List ℕ} → TransferOf t i n x m e → m.code ≡ 0 → (pipe_of t i).reset ≢ 0
    → (m.pipes ≡ t) × (m.moved ≡ negsuc 1) × (e ≡ x.into)
transfer-in-reset (TransferOf.refused c p a r) z d = absurd (numbered p (sym (ap (λ (m : Moved). m.code) a) ∙ z))
transfer-in-reset (TransferOf.in-reset p w a r) z d = (ap (λ (m : Moved). m.pipes) a, ap (λ (m : Moved). m.moved) a, r)
transfer-in-reset (TransferOf.moves p w k s y u v o) z d = absurd (d w)

-- no transfer moves more than was asked for, or than is free or there
pub transfer-moves-most : {t : Pipes} {i n k : ℕ} {x : Transfer} {m : Moved} {e : List ℕ} → TransferOf t i n x m e → m.moved ≡ pos k
    → (k ≤ x.wanted) × (k ≤ x.possible)
transfer-moves-most (TransferOf.refused c p a r) z = none-moved (sym z ∙ ap (λ (m : Moved). m.moved) a)
  where
    none-moved : {k a b : ℕ} → ◌≡◌ {A = ℤ} (pos k) (pos 0) → (k ≤ a) × (k ≤ b)
    none-moved e = let z = ap nat_abs e in (omega (arith, z), omega (arith, z))
transfer-moves-most (TransferOf.in-reset p w a r) z = absurd (pos-ne-negsuc _ 1 (sym z ∙ ap (λ (m : Moved). m.moved) a))
transfer-moves-most {x = x} (TransferOf.moves p w j s y u v o) z =
    let same : j ≡ _ = ap nat_abs (sym v ∙ z) in
    subst (λ (k : ℕ). (k ≤ x.wanted) × (k ≤ x.possible)) same (smaller-le s)

-- ---- ledgers

-- an event on object 0
abbrev happens : ℕ → ℕ → ℕ → ℕ → Event
happens step who kind value = record { step = step; who = who; kind = kind; object = 0; value = value }

-- no interrupt's call, and no reset, free or add, comes after another call of its step
pub never-second : {e f : Event} {es : List Event} → OwnFirst (e ∷ f ∷ es) → is_own f ≡ false
never-second {f = f} (OwnFirst.first e h) = split (is_own f) (λ p. absurd (omega (arith, ap length (rw p at h)))) (λ p. p)

-- nothing is fetched where nothing was posted
pub nothing-invented : {n i x : ℕ} {w : World} → let e = happens n i 17 x in BoxTold 0 no_postings (e ∷ []) (ledger 0 no_postings (e ∷ [])) w → ⊥
nothing-invented b = omega (arith, ap length b.handed)

-- no message is fetched before the one that was posted first
pub first-first : {n m k i j r x y z : ℕ} {w : World} → let es = happens n i 15 x ∷ happens m j 15 y ∷ happens k r 17 z ∷ [] in
    BoxTold 0 no_postings es (ledger 0 no_postings es) w → z ≡ x
first-first b = sym (head-eq_of_cons-eq b.handed)

-- but the one that was posted ahead is
pub ahead-first : {n m k i j r x y z : ℕ} {w : World} → let es = happens n i 15 x ∷ happens m j 16 y ∷ happens k r 17 z ∷ [] in
    BoxTold 0 no_postings es (ledger 0 no_postings es) w → z ≡ y
ahead-first b = sym (head-eq_of_cons-eq b.handed)

-- a message that was fetched, or lost at a reset, is in the mailbox no more
pub fetched-gone : {n m i j x y : ℕ} {w : World} → let es = happens n i 15 x ∷ happens m j 17 y ∷ [] in
    BoxTold 0 no_postings es (ledger 0 no_postings es) w → in_box w 0 ≡ []
fetched-gone b = sym b.present

pub reset-empties : {n m i j x y : ℕ} {w : World} → let es = happens n i 15 x ∷ happens m j 18 y ∷ [] in
    BoxTold 0 no_postings es (ledger 0 no_postings es) w → (in_box w 0 ≡ []) × (y ≡ 1)
reset-empties b = (sym b.present, omega (arith, b.lost))

-- an object that is out is handed over to nobody else, and one that is free is not freed
pub one-taker : (n m i j o : ℕ) (x : Standing) → x ≢ Standing.mistaken
    → standing 0 o x (happens n i 20 o ∷ happens m j 20 o ∷ []) ≡ Standing.mistaken
one-taker n m i j o Standing.absent d = rw (eq-eqb o o refl)
one-taker n m i j o Standing.free d = rw (eq-eqb o o refl)
one-taker n m i j o (Standing.out a b) d = rw (eq-eqb o o refl)
one-taker n m i j o Standing.mistaken d = absurd (d refl)

pub freed-once : (n m i j o : ℕ) (x : Standing) → x ≢ Standing.mistaken
    → standing 0 o x (happens n i 21 o ∷ happens m j 21 o ∷ []) ≡ Standing.mistaken
freed-once n m i j o Standing.absent d = rw (eq-eqb o o refl)
freed-once n m i j o Standing.free d = rw (eq-eqb o o refl)
freed-once n m i j o (Standing.out a b) d = rw (eq-eqb o o refl)
freed-once n m i j o Standing.mistaken d = absurd (d refl)

-- ---- signals

-- no answer is both 0 and 1
zero_one : ◌≡◌ {A = ℤ} (pos 0) (pos 1) → ⊥
zero_one e = omega (arith, ap nat_abs e)

-- a signal at the top does not answer 0
pub top-told : {t : Tables} {c : Clock} {s : Step} {r : Stepped} → AtTop t c s r → r.outcome.message ≢ pos 0
top-told a e = zero_one (sym e ∙ a.answers.message)

-- and one that answers 1 is at the top
pub one-at-top : {t : Tables} {c : Clock} {s : Step} {r : Stepped} → SignalTold t c s r → s.kind ≡ 3 → r.outcome.message ≡ pos 1
    → lt_z ((found t).counter s.object) (pos 2147483647) ≡ false
one-at-top {t} {s = s} a k e =
    split (lt_z ((found t).counter s.object) (pos 2147483647)) (λ l. absurd (zero_one (sym (a.counts k l).answers.message ∙ e))) (λ l. l)

-- no binary signal, free or add answers 1
pub callers-silent : {t : Tables} {c : Clock} {s : Step} {r : Stepped} → SignalTold t c s r
    → (s.kind ≡ 5) ⊎ (s.kind ≡ 21) ⊎ (s.kind ≡ 22) → r.outcome.message ≢ pos 1
callers-silent a k e = zero_one (sym (a.callers k).message ∙ e)

-- a signal at the top leaves every counter
pub top-counters : {t : Tables} {c : Clock} {s : Step} {r : Stepped} → AtTop t c s r → r.tables.kernel.counters ≡ t.kernel.counters
top-counters {s = s} a =
    same_or s.caller 255 (λ z. ap (λ (u : Tables). u.kernel.counters) (a.interrupt z)) (λ z. ap (λ (u : Tables). u.kernel.counters) (a.thread z))

-- ---- who must be woken

-- a signal, a binary one too, that passes over the first of the waiters
pub first-signalled : {m : Moment} {i : ℕ} → EachThread m → (m.step.kind ≡ 3) ⊎ (m.step.kind ≡ 5) → Highest (found m.before) m.step.object i
    → in_mask i m.result.woken ≡ true
first-signalled {m} {i} x k h = x.due i h.thread (Due.first m.step.object (ReleasesFirst.signal k) h)

-- a post into a mailbox with room that leaves its first reader asleep
pub first-reader : {m : Moment} {i : ℕ} → EachThread m → IsPost m.step.kind → ((found m.before).box m.step.object).reset ≡ 0
    → ((found m.before).box m.step.object).positions.count < slots_of (found m.before) m.step.object
    → Highest (found m.before) (32 + m.step.object) i → in_mask i m.result.woken ≡ true
first-reader {m} {i} x k z l h = x.due i h.thread (Due.first (32 + m.step.object) (ReleasesFirst.post k z l) h)

-- a release that wakes another than the first
pub no-other-released : {m : Moment} {i j : ℕ} → EachThread m → m.step.kind ≡ 7 → i < m.before.sizes.threads → (row_of m.before i).state ≡ 3
    → (row_of m.before i).place ≡ 20 + m.step.object → m.step.object < 8 → j < i → (row_of m.before j).state ≡ 3
    → (row_of m.before j).place ≡ 20 + m.step.object → in_mask i m.result.woken ≡ false
no-other-released {m} {i} {j} x k l a b o n c d =
    split (in_mask i m.result.woken)
    (λ w. absurd (by (x.only-due i l (λ z. omega (arith, z, a)) (λ z. omega (arith, b, o)) w)))
    (λ w. w)
  where
    by : Due m.before m.step i → ⊥
    by (Due.last-tick q r) = omega (arith, k, q)
    by (Due.events q r s f) = omega (arith, k, q)
    by (Due.resume q r s) = omega (arith, k, q)
    by (Due.all p (ReleasesAll.reset q) r s) = omega (arith, k, q)
    by (Due.all p (ReleasesAll.release q) r s) = omega (arith, k, q)
    by (Due.all p (ReleasesAll.writers q) r s) = omega (arith, k, q)
    by (Due.all p (ReleasesAll.readers q) r s) = omega (arith, k, q)
    by (Due.first p (ReleasesFirst.signal (inl q)) h) = omega (arith, k, q)
    by (Due.first p (ReleasesFirst.signal (inr q)) h) = omega (arith, k, q)
    by (Due.first p (ReleasesFirst.release q) h) = h.highest j n c d
    by (Due.first p (ReleasesFirst.object (inl q)) h) = omega (arith, k, q)
    by (Due.first p (ReleasesFirst.object (inr q)) h) = omega (arith, k, q)
    by (Due.first p (ReleasesFirst.post (inl q) z r) h) = omega (arith, k, q)
    by (Due.first p (ReleasesFirst.post (inr q) z r) h) = omega (arith, k, q)
    by (Due.first p (ReleasesFirst.fetch q z r) h) = omega (arith, k, q)

-- a mailbox call that was tried again and sleeps with less than its full timeout, or elsewhere than at its own side
pub tried-full : {t : Tables} {s : Step} {i : ℕ} {b : Thread} {w f : Bool} → (row_of t i).state ≡ 0 → ReadyAfter t s i b w f → b.state ≢ 0
    → SideOf (row_of t i).call b.place × (b.call ≡ (row_of t i).call)
    × (b.remaining ≡ cond (eqb (row_of t i).call.timeout 4294967295) 0 (row_of t i).call.timeout)
tried-full z (ReadyAfter.on e p q) n = absurd (n (ap (λ (u : Thread). u.state) e ∙ z))
tried-full z (ReadyAfter.done x d g h e p q) n = absurd (n (ap (λ (u : Thread). u.state) e))
tried-full {t} {s} {i} z (ReadyAfter.again pl side m e p q) n =
    (subst (λ (u : Thread). SideOf (row_of t i).call u.place) (sym e) side, ap (λ (u : Thread). u.call) e, ap (λ (u : Thread). u.remaining) e)
tried-full z (ReadyAfter.ready-again pl c side m by e p q) n = absurd (n (ap (λ (u : Thread). u.state) e))
tried-full z (ReadyAfter.done-again pl c x d side m by h e p q) n = absurd (n (ap (λ (u : Thread). u.state) e))
