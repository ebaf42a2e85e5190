-- "Tables that hang together" as document 01 tells it is what the test of the code comes to: both say the same of any tables.
use Rattle.std.specs.Prelude.{ℕ, zero, suc, ◌+◌, ◌%◌, ◌≤◌, ◌<◌, ◌≡◌, refl, ◌≢◌, ◌⊎◌, Bool, false, cond, eqb, length, get_or, ℤ, pos, negsuc}
use Rattle.std.proofs.Common.{mod-eq_of_lt, arith, sym, ap, ◌∙◌, subst, inl, inr, ne_eqb, lt-ltb, le-ltb}
use Rattle.kernel.specs.declared.clock.Clock.{Clock}
use Rattle.kernel.specs.declared.records.Call.{Call}
use Rattle.kernel.specs.declared.records.Thread.{Thread}
use Rattle.kernel.specs.declared.records.Kernel.{Kernel}
use Rattle.kernel.specs.Walk.{count_of}
use Rattle.kernel.specs.Tables.{thread_at, counter_at}
use Rattle.kernel.specs.Waiters.{first_ready}
use Rattle.kernel.proofs.Cases.{split, same_or, contrary}
use Rattle.kernel.proofs.WalkLaws.{count-agree}
use Rattle.kernel.proofs.TablesLaws.{thread-blank, used_all as rows-used}
use Rattle.library.specs.declared.ring.Positions.{Positions}
use Rattle.library.proofs.RingLaws.{Fitting}
use Rattle.library.specs.declared.sizes.Sizes.{Sizes}
use Rattle.library.specs.declared.tables.Pool.{Pool}
use Rattle.library.specs.declared.tables.Tables.{Tables}
use Rattle.library.specs.Signs.{same, minus}
use Rattle.library.specs.Calls.{keeps_operand}
use Rattle.library.specs.Tables.{opened}
use Rattle.rules.specs.RowRules.{call_limit, wait_state, wait_place}
use Rattle.rules.specs.PlaceRules.{queued_count}
use Rattle.rules.specs.PoolRules.{promised_count, occurrences}
use Rattle.promises.specs.Paper.World.{World, found}
use Rattle.promises.specs.Paper.Together.{
  SizesFit,
  CallFits,
  WaitFits,
  TicksFit,
  AwaitedFit,
  ThreadFits,
  number,
  is_queued,
  SemaphoreFits,
  QueueFits,
  larger,
  is_zero,
  is_promised,
  listings,
  PoolFits,
  WordsAgree,
  HangTogether,
  PositionsFit,
}
use Rattle.promises.specs.Together.Tests.{used_all}
use Rattle.promises.specs.Together.Good.{GoodSizes, CallKind, GoodThread, SemaphoreCounter, QueueCounter, GoodPool, Good, RulesHold}
use Rattle.promises.specs.Kept.PoolKept.{stock, good_length, length-promises}
use Rattle.promises.specs.Kept.WordRule.{words-said, said-words}
use Rattle.promises.specs.Meant.Moves.{found-is}
use Rattle.promises.specs.Meant.Words.{said-agree, agree-said}
use Rattle.promises.specs.Meant.Settling.{running-first}
use Rattle.promises.specs.Meant.Only.{first-only}

-- the rules of positions, as the paper has them and as the laws do
pub fit-paper : {q : Positions} {n : ℕ} → Fitting q n → PositionsFit q n
fit-paper f = record { count = f.count; read = f.read; write = f.write; follows = f.follows }

pub paper-fit : {q : Positions} {n : ℕ} → PositionsFit q n → Fitting q n
paper-fit f = record { count = f.count; read = f.read; write = f.write; follows = f.follows }

-- ---- counting

-- a count is the same, whoever counts
pub number-count : (f : ℕ → Bool) (n : ℕ) → number f n ≡ count_of f n
unfolding count_of
number-count f zero = refl
number-count f (suc n) = rw (number-count f n) (split (f n) (λ e. rw e) (λ e. rw e))

-- ---- sizes

module _ {z : Sizes} where
  pub sizes-good : SizesFit z → GoodSizes z
  sizes-good f =
      record {
        threads = f.threads;
        semaphores = f.semaphores;
        queues = f.queues;
        references = f.references;
        mailboxes = f.mailboxes;
        pools = f.pools;
        slots = f.slots;
      }

  good-sizes : GoodSizes z → SizesFit z
  good-sizes g =
      record {
        threads = g.threads;
        semaphores = g.semaphores;
        queues = g.queues;
        references = g.references;
        mailboxes = g.mailboxes;
        pools = g.pools;
        slots = g.slots;
      }

-- ---- a thread's record

-- an object's number, where it is in range, is a byte
small : {o n : ℕ} → o < n → n ≤ 16 → o % 256 ≡ o
small h l = mod-eq_of_lt (omega arith)

-- a number of 14 to 17, by cases
in_row : {A : Type 0} (n : ℕ) → 14 ≤ n → n ≤ 17 → (n ≡ 14 → A) → (n ≡ 15 → A) → (n ≡ 16 → A) → (n ≡ 17 → A) → A
in_row n l h a b c d =
    same_or n 14 a (λ x. same_or n 15 b (λ y. same_or n 16 c (λ z. d (omega arith))))

-- by the kind of an unfinished call
by_kind : {A : Type 0} (n : ℕ) → CallKind n → (n ≡ 2 → A) → (n ≡ 6 → A) → (n ≡ 9 → A) → (n ≡ 11 → A) → (n ≡ 12 → A) → (n ≡ 14 → A)
    → ((n ≡ 15) ⊎ (n ≡ 16) → A) → (n ≡ 17 → A) → (n ≡ 20 → A) → A
by_kind n (inl e) a b c d f g h k l = a e
by_kind n (inr (inl e)) a b c d f g h k l = b e
by_kind n (inr (inr (inl e))) a b c d f g h k l = c e
by_kind n (inr (inr (inr (inl e)))) a b c d f g h k l = d e
by_kind n (inr (inr (inr (inr (inl e))))) a b c d f g h k l = f e
by_kind n (inr (inr (inr (inr (inr (inl e)))))) a b c d f g h k l =
    in_row n e.0 e.1 g (λ x. h (inl x)) (λ x. h (inr x)) k
by_kind n (inr (inr (inr (inr (inr (inr e)))))) a b c d f g h k l = l e

module _ (z : Sizes) (t : Thread) where
  abbrev kind : ℕ
  kind = t.call.kind

  module _ (g : GoodThread z t) where
    post-room : kind ≢ 0 → (kind ≡ 15) ⊎ (kind ≡ 16) → t.call.object < z.mailboxes
    post-room d (inl e) = rw e at (g.object d)
    post-room d (inr e) = rw e at (g.object d)

    nothing : {o : ℕ} → o < 1 → o ≡ 0
    nothing h = omega arith

    call_fits : CallFits z t.call
    call_fits =
        same_or kind 0
        (λ e.
        let n = g.no-call e in
        CallFits.none (λ x. record { kind = e x; object = n.0 x; operand = n.1.0 x; timeout = n.1.1 x }))
        (λ d.
        let h = g.timeout d in
        by_kind kind (g.kind d) (λ e. CallFits.semaphore e (rw e at (g.object d)) (g.operand d (rw e)) h)
        (λ e. CallFits.queue e (rw e at (g.object d)) (g.operand d (rw e)) h)
        (λ e. CallFits.reference e (rw e at (g.object d)) (g.operand d (rw e)) h)
        (λ e. CallFits.sleep-for e (nothing (rw e at (g.object d))) (g.operand d (rw e)) h)
        (λ e. CallFits.sleep-until e (nothing (rw e at (g.object d))) h)
        (λ e. CallFits.events e (nothing (rw e at (g.object d))) h) (λ e. CallFits.post e (post-room d e) h)
        (λ e. CallFits.fetch e (rw e at (g.object d)) (g.operand d (rw e)) h)
        (λ e. CallFits.alloc e (rw e at (g.object d)) (g.operand d (rw e)) h))

  -- and back
  fits-object : CallFits z t.call → kind ≢ 0 → t.call.object < call_limit z kind
  fits-object (CallFits.none e) d = absurd (d (ap (λ (c : Call). c.kind) e))
  fits-object (CallFits.semaphore e o p h) d = rw e o
  fits-object (CallFits.queue e o p h) d = rw e o
  fits-object (CallFits.reference e o p h) d = rw e o
  fits-object (CallFits.sleep-for e o p h) d = rw e (omega (arith, o))
  fits-object (CallFits.sleep-until e o h) d = rw e (omega (arith, o))
  fits-object (CallFits.events e o h) d = rw e (omega (arith, o))
  fits-object (CallFits.post (inl e) o h) d = rw e o
  fits-object (CallFits.post (inr e) o h) d = rw e o
  fits-object (CallFits.fetch e o p h) d = rw e o
  fits-object (CallFits.alloc e o p h) d = rw e o

  fits-kind : CallFits z t.call → kind ≢ 0 → CallKind kind
  fits-kind (CallFits.none e) d = absurd (d (ap (λ (c : Call). c.kind) e))
  fits-kind (CallFits.semaphore e o p h) d = inl e
  fits-kind (CallFits.queue e o p h) d = inr (inl e)
  fits-kind (CallFits.reference e o p h) d = inr (inr (inl e))
  fits-kind (CallFits.sleep-for e o p h) d = inr (inr (inr (inl e)))
  fits-kind (CallFits.sleep-until e o h) d = inr (inr (inr (inr (inl e))))
  fits-kind (CallFits.events e o h) d = inr (inr (inr (inr (inr (inl (omega (arith, e), omega (arith, e)))))))
  fits-kind (CallFits.post (inl e) o h) d = inr (inr (inr (inr (inr (inl (omega (arith, e), omega (arith, e)))))))
  fits-kind (CallFits.post (inr e) o h) d = inr (inr (inr (inr (inr (inl (omega (arith, e), omega (arith, e)))))))
  fits-kind (CallFits.fetch e o p h) d = inr (inr (inr (inr (inr (inl (omega (arith, e), omega (arith, e)))))))
  fits-kind (CallFits.alloc e o p h) d = inr (inr (inr (inr (inr (inr e)))))

  fits-timeout : CallFits z t.call → kind ≢ 0 → 1 ≤ t.call.timeout
  fits-timeout (CallFits.none e) d = absurd (d (ap (λ (c : Call). c.kind) e))
  fits-timeout (CallFits.semaphore e o p h) d = h
  fits-timeout (CallFits.queue e o p h) d = h
  fits-timeout (CallFits.reference e o p h) d = h
  fits-timeout (CallFits.sleep-for e o p h) d = h
  fits-timeout (CallFits.sleep-until e o h) d = h
  fits-timeout (CallFits.events e o h) d = h
  fits-timeout (CallFits.post e o h) d = h
  fits-timeout (CallFits.fetch e o p h) d = h
  fits-timeout (CallFits.alloc e o p h) d = h

  fits-operand : CallFits z t.call → kind ≢ 0 → keeps_operand kind ≡ false → t.call.operand ≡ 0
  fits-operand (CallFits.none e) d n = ap (λ (c : Call). c.operand) e
  fits-operand (CallFits.semaphore e o p h) d n = p
  fits-operand (CallFits.queue e o p h) d n = p
  fits-operand (CallFits.reference e o p h) d n = p
  fits-operand (CallFits.sleep-for e o p h) d n = p
  fits-operand (CallFits.sleep-until e o h) d n = contrary (rw e) n
  fits-operand (CallFits.events e o h) d n = contrary (rw e) n
  fits-operand (CallFits.post (inl e) o h) d n = contrary (rw e) n
  fits-operand (CallFits.post (inr e) o h) d n = contrary (rw e) n
  fits-operand (CallFits.fetch e o p h) d n = p
  fits-operand (CallFits.alloc e o p h) d n = p

  fits-none : CallFits z t.call → kind ≡ 0 → (t.call.object ≡ 0) × ((t.call.operand ≡ 0) × (t.call.timeout ≡ 0))
  fits-none (CallFits.none e) d =
      (ap (λ (c : Call). c.object) e, (ap (λ (c : Call). c.operand) e, ap (λ (c : Call). c.timeout) e))
  fits-none (CallFits.semaphore e o p h) d = absurd (omega (arith, e, d))
  fits-none (CallFits.queue e o p h) d = absurd (omega (arith, e, d))
  fits-none (CallFits.reference e o p h) d = absurd (omega (arith, e, d))
  fits-none (CallFits.sleep-for e o p h) d = absurd (omega (arith, e, d))
  fits-none (CallFits.sleep-until e o h) d = absurd (omega (arith, e, d))
  fits-none (CallFits.events e o h) d = absurd (omega (arith, e, d))
  fits-none (CallFits.post (inl e) o h) d = absurd (omega (arith, e, d))
  fits-none (CallFits.post (inr e) o h) d = absurd (omega (arith, e, d))
  fits-none (CallFits.fetch e o p h) d = absurd (omega (arith, e, d))
  fits-none (CallFits.alloc e o p h) d = absurd (omega (arith, e, d))

  -- what a wait that fits says of one that is not ready
  pub record Unready : Type 0 where
    pub call : kind ≢ 0
    pub state : t.state ≡ wait_state kind
    pub place : t.place ≡ wait_place kind t.call.object

  -- a wait, beside a call that fits
  module _ (f : CallFits z t.call) (s : GoodSizes z) where
    limit : {n : ℕ} → kind ≡ n → n ≢ 0 → t.call.object < call_limit z n
    limit e d = subst (λ (k : ℕ). t.call.object < call_limit z k) e (fits-object f (λ x. d (sym e ∙ x)))

    is : {n : ℕ} → kind ≡ n → n ≢ 0 → kind ≢ 0
    is e d x = d (sym e ∙ x)

    writer-fits : Unready → (kind ≡ 15) ⊎ (kind ≡ 16) → WaitFits t
    writer-fits u (inl e) =
        WaitFits.writer (inl e) (rw e at u.state)
        ((rw e at u.place) ∙ ap (λ (o : ℕ). 28 + o) (small (limit e (λ x. omega arith)) (omega (arith, s.mailboxes))))
    writer-fits u (inr e) =
        WaitFits.writer (inr e) (rw e at u.state)
        ((rw e at u.place) ∙ ap (λ (o : ℕ). 28 + o) (small (limit e (λ x. omega arith)) (omega (arith, s.mailboxes))))

    pub wait-fits : (t.state ≡ 0 → t.place ≡ 0) → (t.state ≢ 0 → Unready) → WaitFits t
    wait-fits rest waits =
        same_or t.state 0 (λ e. WaitFits.ready e (rest e))
        (λ n.
        let u = waits n in
        by_kind kind (fits-kind f u.call) (λ e. WaitFits.semaphore e (rw e at u.state) (rw e at u.place))
        (λ e.
        WaitFits.queue e (rw e at u.state)
        ((rw e at u.place) ∙ ap (λ (o : ℕ). 20 + o) (small (limit e (λ x. omega arith)) (omega (arith, s.queues)))))
        (λ e. WaitFits.reference e (rw e at u.state) (rw e at u.place))
        (λ e. WaitFits.sleeps (inl e) (rw e at u.state) (rw e at u.place))
        (λ e. WaitFits.sleeps (inr e) (rw e at u.state) (rw e at u.place))
        (λ e. WaitFits.events e (rw e at u.state) (rw e at u.place)) (writer-fits u)
        (λ e.
        WaitFits.reader e (rw e at u.state)
        ((rw e at u.place) ∙ ap (λ (o : ℕ). 32 + o) (small (limit e (λ x. omega arith)) (omega (arith, s.mailboxes)))))
        (λ e.
        WaitFits.pool e (rw e at u.state)
        ((rw e at u.place) ∙ ap (λ (o : ℕ). 16 + o) (small (limit e (λ x. omega arith)) (omega (arith, s.pools))))))

    pub unready : WaitFits t → t.state ≢ 0 → Unready
    unready (WaitFits.ready e p) n = absurd (n e)
    unready (WaitFits.sleeps (inl e) a p) n = record { call = is e (λ x. omega arith); state = rw (e, a); place = rw (e, p) }
    unready (WaitFits.sleeps (inr e) a p) n = record { call = is e (λ x. omega arith); state = rw (e, a); place = rw (e, p) }
    unready (WaitFits.reference e a p) n = record { call = is e (λ x. omega arith); state = rw (e, a); place = rw (e, p) }
    unready (WaitFits.semaphore e a p) n = record { call = is e (λ x. omega arith); state = rw (e, a); place = rw (e, p) }
    unready (WaitFits.pool e a p) n =
        let o = small (limit e (λ x. omega arith)) (omega (arith, s.pools)) in
        record { call = is e (λ x. omega arith); state = rw (e, a); place = rw (e, p, o) }
    unready (WaitFits.queue e a p) n =
        let o = small (limit e (λ x. omega arith)) (omega (arith, s.queues)) in
        record { call = is e (λ x. omega arith); state = rw (e, a); place = rw (e, p, o) }
    unready (WaitFits.writer (inl e) a p) n =
        let o = small (limit e (λ x. omega arith)) (omega (arith, s.mailboxes)) in
        record { call = is e (λ x. omega arith); state = rw (e, a); place = rw (e, p, o) }
    unready (WaitFits.writer (inr e) a p) n =
        let o = small (limit e (λ x. omega arith)) (omega (arith, s.mailboxes)) in
        record { call = is e (λ x. omega arith); state = rw (e, a); place = rw (e, p, o) }
    unready (WaitFits.reader e a p) n =
        let o = small (limit e (λ x. omega arith)) (omega (arith, s.mailboxes)) in
        record { call = is e (λ x. omega arith); state = rw (e, a); place = rw (e, p, o) }
    unready (WaitFits.events e a p) n = record { call = is e (λ x. omega arith); state = rw (e, a); place = rw (e, p) }

  pub rests : WaitFits t → t.state ≡ 0 → t.place ≡ 0
  rests (WaitFits.ready e p) q = p
  rests (WaitFits.sleeps e a p) q = p
  rests (WaitFits.reference e a p) q = absurd (omega (arith, a, q))
  rests (WaitFits.semaphore e a p) q = absurd (omega (arith, a, q))
  rests (WaitFits.pool e a p) q = absurd (omega (arith, a, q))
  rests (WaitFits.queue e a p) q = absurd (omega (arith, a, q))
  rests (WaitFits.writer e a p) q = absurd (omega (arith, a, q))
  rests (WaitFits.reader e a p) q = absurd (omega (arith, a, q))
  rests (WaitFits.events e a p) q = p

  -- ticks and awaited flags, both ways
  pub ticks-fit : (t.state ≡ 0 → t.remaining ≡ 0) → (t.call.timeout ≡ 4294967295 → t.remaining ≡ 0)
      → (t.state ≢ 0 → t.call.timeout ≢ 4294967295 → (1 ≤ t.remaining) × (t.remaining ≤ t.call.timeout)) → TicksFit t
  ticks-fit a b g =
      same_or t.state 0 (λ e. TicksFit.none (inl e) (a e))
      (λ n. same_or t.call.timeout 4294967295 (λ e. TicksFit.none (inr e) (b e)) (λ f. TicksFit.some n f (g n f).0 (g n f).1))

  pub no-ticks : TicksFit t → (t.state ≡ 0) ⊎ (t.call.timeout ≡ 4294967295) → t.remaining ≡ 0
  no-ticks (TicksFit.none e r) h = r
  no-ticks (TicksFit.some n m l u) (inl e) = absurd (n e)
  no-ticks (TicksFit.some n m l u) (inr e) = absurd (m e)

  pub some-ticks : TicksFit t → t.state ≢ 0 → t.call.timeout ≢ 4294967295 → (1 ≤ t.remaining) × (t.remaining ≤ t.call.timeout)
  some-ticks (TicksFit.none (inl e) r) n m = absurd (n e)
  some-ticks (TicksFit.none (inr e) r) n m = absurd (m e)
  some-ticks (TicksFit.some x y l u) n m = (l, u)

  pub awaited-fit : t.awaited ≡ cond (eqb kind 14) t.call.operand 0 → AwaitedFit t
  awaited-fit h = same_or kind 14 (λ e. AwaitedFit.mask e (h ∙ rw e)) (λ d. AwaitedFit.none d (h ∙ rw (ne_eqb kind 14 d)))

  pub awaited : AwaitedFit t → t.awaited ≡ cond (eqb kind 14) t.call.operand 0
  awaited (AwaitedFit.mask e a) = rw e a
  awaited (AwaitedFit.none d a) = rw (ne_eqb kind 14 d) a

  -- the record, as the paper has it and as the laws do
  pub thread-fits : GoodThread z t → GoodSizes z → ThreadFits z t
  thread-fits g s =
      record {
        call = call_fits g;
        wait =
            wait-fits (call_fits g) s g.ready-place
            (λ n. record { call = g.unready-call n; state = g.unready-state n; place = g.unready-place n });
        ticks = ticks-fit g.ready-ticks g.infinite-ticks g.ticks;
        awaited = awaited-fit g.awaited;
        none-pending = g.none-pending;
        cause = g.cause;
      }

  pub good-thread : ThreadFits z t → GoodSizes z → GoodThread z t
  good-thread f s =
      record {
        object = fits-object f.call;
        ready-ticks = λ e. no-ticks f.ticks (inl e);
        infinite-ticks = λ e. no-ticks f.ticks (inr e);
        ticks = some-ticks f.ticks;
        kind = fits-kind f.call;
        timeout = fits-timeout f.call;
        unready-call = λ n. (unready f.call s f.wait n).call;
        unready-state = λ n. (unready f.call s f.wait n).state;
        unready-place = λ n. (unready f.call s f.wait n).place;
        ready-place = rests f.wait;
        no-call = fits-none f.call;
        operand = fits-operand f.call;
        awaited = awaited f.awaited;
        none-pending = f.none-pending;
        cause = f.cause;
      }

-- ---- counters, pools

minus_is : (n : ℕ) → minus (suc n) ≡ negsuc n
minus_is n = rw (lt-ltb 0 (suc n) (omega arith)) (ap negsuc (omega arith))

semaphore-fits : (c : ℤ) (n : ℕ) → SemaphoreCounter c n → SemaphoreFits c n
semaphore-fits (pos m) zero g = SemaphoreFits.none refl
semaphore-fits (negsuc m) zero g = contrary refl (g.none refl)
semaphore-fits c (suc n) g = SemaphoreFits.waiters (g.waiters (omega arith) ∙ minus_is n)

queue-fits : (c : ℤ) (n : ℕ) → QueueCounter c n → QueueFits c n
queue-fits c zero g = QueueFits.none (g.none refl)
queue-fits c (suc n) g = QueueFits.waiters (g.waiters (omega arith) ∙ minus_is n)

fits-semaphore : (c : ℤ) (n : ℕ) → SemaphoreFits c n → SemaphoreCounter c n
fits-semaphore c zero (SemaphoreFits.none {m} e) =
    record { waiters = λ l. absurd (omega arith); none = λ q. rw (e, le-ltb m 0 (omega arith)) }
fits-semaphore c (suc n) (SemaphoreFits.waiters e) = record { waiters = λ l. e ∙ sym (minus_is n); none = λ q. absurd (omega arith) }

fits-queue : (c : ℤ) (n : ℕ) → QueueFits c n → QueueCounter c n
fits-queue c zero (QueueFits.none e) = record { waiters = λ l. absurd (omega arith); none = λ q. e }
fits-queue c (suc n) (QueueFits.waiters e) = record { waiters = λ l. e ∙ sym (minus_is n); none = λ q. absurd (omega arith) }

pub zero_same : (m : ℤ) → is_zero m ≡ same m (pos 0)
zero_same (pos zero) = refl
zero_same (pos (suc m)) = rw (lt-ltb 0 (suc m) (omega arith), le-ltb (suc m) 0 (omega arith))
zero_same (negsuc m) = refl

larger-is : (c : ℤ) → larger c ≡ stock c
larger-is (pos m) = refl
larger-is (negsuc m) = refl

listings-are : (x : Pool) → x.length ≤ 32 → (o : ℕ) → listings x o ≡ occurrences x o
unfolding occurrences
listings-are x h o = rw (used_all 32 x.length h) (number-count (λ j. eqb (get_or x.list j 0) o) x.length)

mark-by : {m : ℕ} → m ≤ 2 → (m ≡ 0) ⊎ ((m ≡ 1) ⊎ (m ≡ 2))
mark-by {m} h = same_or m 0 inl (λ a. same_or m 1 (λ e. inr (inl e)) (λ b. inr (inr (omega arith))))

by-mark : {m : ℕ} → (m ≡ 0) ⊎ ((m ≡ 1) ⊎ (m ≡ 2)) → m ≤ 2
by-mark (inl e) = omega arith
by-mark (inr (inl e)) = omega arith
by-mark (inr (inr e)) = omega arith

module _ (x : Pool) (c : ℤ) (n : ℕ) where
  pub pool-fits : GoodPool x c n → PoolFits x c n
  pool-fits g =
      record {
        length = g.length;
        objects = g.objects;
        once = λ o h e. listings-are x g.length o ∙ g.once o h e;
        no_other = λ o h e. listings-are x g.length o ∙ g.no_other o h e;
        promises = good_length g ∙ ap (λ (k : ℕ). k + n) (sym (larger-is c));
        marks = λ o h. by-mark (g.marks o h);
      }

  pub fits-pool : PoolFits x c n → GoodPool x c n
  fits-pool f =
      record {
        length = f.length;
        once = λ o h e. sym (listings-are x f.length o) ∙ f.once o h e;
        no_other = λ o h e. sym (listings-are x f.length o) ∙ f.no_other o h e;
        objects = f.objects;
        promises = length-promises x c n (f.promises ∙ ap (λ (k : ℕ). k + n) (larger-is c));
        marks = λ o h. mark-by (f.marks o h);
      }

-- ---- the section

module _ (t : Tables) (c : Clock) where
  abbrev w : World
  w = found t

  abbrev k : Kernel
  k = (opened t).kernel

  abbrev n : ℕ
  n = t.sizes.threads

  module _ (s : GoodSizes t.sizes) where
    queued-are : (p : ℕ) → number (is_queued w p) n ≡ queued_count k n p
    unfolding queued_count
    queued-are p = rw (rows-used n s.threads.1) (number-count (is_queued w p) n)

    pub promised-are : (q : ℕ) → number (is_promised w q) n ≡ promised_count k n q
    unfolding promised_count
    promised-are q =
        rw (rows-used n s.threads.1)
        (number-count (is_promised w q) n
        ∙ count-agree (is_promised w q) _ n (λ i l. rw (zero_same (thread_at k i).message)))

    -- a counter at a place, told by the place's number
    pub at-semaphore : (p q : ℕ) → q ≡ p → SemaphoreCounter (counter_at k q) (queued_count k n q)
        → SemaphoreFits (w.counter p) (number (is_queued w p) n)
    at-semaphore p q e g = rw (queued-are p) (semaphore-fits (counter_at k p) (queued_count k n p) (rw e at g))

    pub at-queue : (p q : ℕ) → q ≡ p → QueueCounter (counter_at k q) (queued_count k n q) → QueueFits (w.counter p) (number (is_queued w p) n)
    at-queue p q e g = rw (queued-are p) (queue-fits (counter_at k p) (queued_count k n p) (rw e at g))

    pub of-semaphore : (p q : ℕ) → q ≡ p → SemaphoreFits (w.counter p) (number (is_queued w p) n)
        → SemaphoreCounter (counter_at k q) (queued_count k n q)
    of-semaphore p q e f = rw e (fits-semaphore (counter_at k p) (queued_count k n p) (rw (queued-are p) at f))

    pub of-queue : (p q : ℕ) → q ≡ p → QueueFits (w.counter p) (number (is_queued w p) n) → QueueCounter (counter_at k q) (queued_count k n q)
    of-queue p q e f = rw e (fits-queue (counter_at k p) (queued_count k n p) (rw (queued-are p) at f))

    pub pool-at : (q : ℕ) → q < t.sizes.pools → 16 + q % 256 ≡ 16 + q
    pool-at q h = ap (λ (o : ℕ). 16 + o) (small h (omega (arith, s.pools)))

    queue-at : (q : ℕ) → q < t.sizes.queues → 20 + q % 256 ≡ 20 + q
    queue-at q h = ap (λ (o : ℕ). 20 + o) (small h (omega (arith, s.queues)))

    writers-at : (m : ℕ) → m < t.sizes.mailboxes → 28 + m % 256 ≡ 28 + m
    writers-at m h = ap (λ (o : ℕ). 28 + o) (small h (omega (arith, s.mailboxes)))

    readers-at : (m : ℕ) → m < t.sizes.mailboxes → 32 + m % 256 ≡ 32 + m
    readers-at m h = ap (λ (o : ℕ). 32 + o) (small h (omega (arith, s.mailboxes)))

  pub rules-together : RulesHold (opened t) c → HangTogether w t.kernel.words c
  rules-together h =
      let g = h.good in
      let s = g.sizes in
      record {
        sizes = good-sizes s;
        frequency = h.frequency;
        semaphores = λ i l. at-semaphore s i i refl (g.counters.semaphores i l);
        pool-counters = λ q l. at-semaphore s (16 + q) (16 + q % 256) (pool-at s q l) (g.counters.pools q l);
        queues = λ q l. at-queue s (20 + q) (20 + q % 256) (queue-at s q l) (g.counters.queues q l);
        writers = λ m l. at-queue s (28 + m) (28 + m % 256) (writers-at s m l) (g.counters.writers m l);
        readers = λ m l. at-queue s (32 + m) (32 + m % 256) (readers-at s m l) (g.counters.readers m l);
        holder = g.references.holder;
        holds = g.references.holds;
        mailboxes = λ m l. fit-paper (g.mailboxes m l);
        pools = λ q l.
            rw (promised-are s q)
            (pool-fits (w.pool q) (w.counter (16 + q)) (promised_count k n q) (rw (pool-at s q l) at (g.pools q l)));
        threads = λ i l. thread-fits t.sizes (thread_at k i) (g.threads i l) s;
        running = λ i f.
            elim (running-first (opened t) g) [
              | inl r ↦ rw (first-only w i (first_ready k) f (record { thread = r.thread; is-ready = r.is-ready; first = r.first }))
                  h.running
              | inr r ↦ absurd (r.none i f.thread f.is-ready)
            ];
        words =
            subst (λ (x : World). WordsAgree x t.kernel.words) (found-is t)
            (said-agree (opened t) s (words-said k t.sizes s g.words));
      }

  pub together-rules : length t.kernel.threads ≡ 16 → HangTogether w t.kernel.words c → RulesHold (opened t) c
  together-rules rows f =
      let s = sizes-good f.sizes in
      let g : Good (opened t) =
      record {
        sizes = s;
        counters = record {
          semaphores = λ i l. of-semaphore s i i refl (f.semaphores i l);
          pools = λ q l. of-semaphore s (16 + q) (16 + q % 256) (pool-at s q l) (f.pool-counters q l);
          queues = λ q l. of-queue s (20 + q) (20 + q % 256) (queue-at s q l) (f.queues q l);
          writers = λ m l. of-queue s (28 + m) (28 + m % 256) (writers-at s m l) (f.writers m l);
          readers = λ m l. of-queue s (32 + m) (32 + m % 256) (readers-at s m l) (f.readers m l);
        };
        references = record { holder = f.holder; holds = f.holds };
        mailboxes = λ m l. paper-fit (f.mailboxes m l);
        pools = λ q l.
            rw (pool-at s q l)
            (fits-pool (w.pool q) (w.counter (16 + q)) (promised_count k n q) (rw (promised-are s q) at (f.pools q l)));
        threads = λ i l. good-thread t.sizes (thread_at k i) (f.threads i l) s;
        words =
            said-words k t.sizes s
            (agree-said (opened t) s (subst (λ (x : World). WordsAgree x t.kernel.words) (sym (found-is t)) f.words));
      } in
      record {
        good = g;
        frequency = f.frequency;
        running =
            elim (running-first (opened t) g) [
              | inl r ↦ f.running (first_ready k) (record { thread = r.thread; is-ready = r.is-ready; first = r.first })
              | inr r ↦ rw (r.nobody, thread-blank k 255 (omega (arith, rows)))
            ];
      }
