-- WHO HAS THE FIRST TURN. Whoever the step's own act has woken waited elsewhere than at a mailbox, or is to answer another message than 0; or it
-- was served by the act's own post or fetch, alone, and finds what it waited for: then it is next, or whoever ran before the step runs still.
use Rattle.std.specs.Prelude.{ℕ, zero, suc, ◌+◌, ◌≤◌, ◌<◌, ◌≡◌, refl, ◌≢◌, ◌⊎◌, Bool, true, false, ℤ, pos, negsuc}
use Rattle.std.proofs.Common.{arith, sym, ap, ◌∙◌, subst, inl, inr}
use Rattle.std.proofs.Math.IntN.{pos-ne-negsuc}
use Rattle.kernel.specs.declared.clock.Clock.{Clock}
use Rattle.kernel.specs.declared.records.Thread.{Thread}
use Rattle.kernel.specs.Tables.{thread_at}
use Rattle.kernel.proofs.Cases.{same_or, in-or-out, contrary}
use Rattle.library.specs.declared.calls.Step.{Step}
use Rattle.library.specs.declared.sizes.Sizes.{Sizes}
use Rattle.library.specs.declared.tables.Mailbox.{Mailbox}
use Rattle.library.specs.declared.tables.Plant.{Plant}
use Rattle.library.specs.declared.tables.Tables.{Tables}
use Rattle.library.specs.Tables.{opened}
use Rattle.steps.specs.Stepping.{stepped}
use Rattle.promises.specs.Paper.World.{World, found, box_to, ready_with, made_ready, ended, kept, Highest, First}
use Rattle.promises.specs.Paper.Host.{Host}
use Rattle.promises.specs.Paper.Rows.{Release, slots_of, Post, Fetch, Act}
use Rattle.promises.specs.Paper.Together.{WaitFits, TicksFit}
use Rattle.promises.specs.Paper.Waking.{row_of, IsMailing, CalledOut, WokenBy, SleeperAfter, ReleasesAll, ReleasesFirst, Due}
use Rattle.promises.specs.Paper.Causes.{message_by}
use Rattle.promises.specs.Together.Good.{GoodSizes, GoodThread, Good}
use Rattle.promises.specs.Meant.Moves.{world_of}
use Rattle.promises.specs.Meant.Only.{highest-only}
use Rattle.promises.specs.Meant.Step.{hangs}
use Rattle.promises.specs.Meant.Together.{thread-fits}
use Rattle.promises.specs.Runs.Keeping.{put_same, put_other, queued-asleep}
use Rattle.promises.specs.Runs.OneRow.{ended-other, ended-state, ended-row, mail-other, not-mail}
use Rattle.promises.specs.Runs.Sleepers.{last-by}
use Rattle.promises.specs.Runs.Accepted.{accepted, together, caller-first, semaphore-there, queue-there, mailbox-there, pool-there, x₀, act, someone, fits, sleeper-acted}
use Rattle.promises.specs.Runs.Places.{cause-for, message-by}
use Rattle.promises.specs.Runs.OnlyDue.{act-due}
use Rattle.promises.specs.Runs.Turns.{side_at, CallsOn, Finds, on-side, on-mail, Mails, Sure, Fair}

-- ---- calls and places

-- who waits elsewhere than at a mailbox has no call on one
mail-far : {a : Thread} → WaitFits a → a.state ≢ 0 → (a.state ≡ 3 → a.place < 28) → IsMailing a.call.kind → ⊥
mail-far (WaitFits.ready x p) n l g = n x
mail-far (WaitFits.sleeps (inl x) a p) n l g = not-mail x (λ y. omega arith) (λ y. omega arith) (λ y. omega arith) g
mail-far (WaitFits.sleeps (inr x) a p) n l g = not-mail x (λ y. omega arith) (λ y. omega arith) (λ y. omega arith) g
mail-far (WaitFits.reference x a p) n l g = not-mail x (λ y. omega arith) (λ y. omega arith) (λ y. omega arith) g
mail-far (WaitFits.semaphore x a p) n l g = not-mail x (λ y. omega arith) (λ y. omega arith) (λ y. omega arith) g
mail-far (WaitFits.pool x a p) n l g = not-mail x (λ y. omega arith) (λ y. omega arith) (λ y. omega arith) g
mail-far (WaitFits.queue x a p) n l g = not-mail x (λ y. omega arith) (λ y. omega arith) (λ y. omega arith) g
mail-far (WaitFits.writer x a p) n l g = omega (arith, l a, p)
mail-far (WaitFits.reader x a p) n l g = omega (arith, l a, p)
mail-far (WaitFits.events x a p) n l g = not-mail x (λ y. omega arith) (λ y. omega arith) (λ y. omega arith) g

side-high : (side : Bool) (b : ℕ) → 28 ≤ side_at side b
side-high true b = omega arith
side-high false b = omega arith

-- a record that fits
module _ (z : Sizes) (sized : GoodSizes z) (a : Thread) (g : GoodThread z a) where
  call-box : (side : Bool) (b : ℕ) → CallsOn side b a.call → b < z.mailboxes
  call-box true b (k, o) = omega (arith, o, rw k at (g.object (λ e. omega (arith, k, e))))
  call-box false b (inl k, o) = omega (arith, o, rw k at (g.object (λ e. omega (arith, k, e))))
  call-box false b (inr k, o) = omega (arith, o, rw k at (g.object (λ e. omega (arith, k, e))))

  -- whoever waits at a mailbox's side has a call on it
  seat : (that : Bool) (d : ℕ) → d < 4 → (a.state ≡ 3) × (a.place ≡ side_at that d) → CallsOn that d a.call
  seat that d s p = by that p.1 (thread-fits z a g sized).wait
    where
      q : a.state ≡ 3
      q = p.0

      by : (that : Bool) → a.place ≡ side_at that d → WaitFits a → CallsOn that d a.call
      by that p (WaitFits.ready e y) = absurd (omega (arith, e, q))
      by that p (WaitFits.sleeps e n y) = absurd (omega (arith, n, q))
      by that p (WaitFits.reference e n y) = absurd (omega (arith, n, q))
      by that p (WaitFits.events e n y) = absurd (omega (arith, n, q))
      by that p (WaitFits.semaphore e n y) =
          absurd (omega (arith, p, y, side-high that d, sized.semaphores, rw e at (g.object (λ x. omega (arith, e, x)))))
      by that p (WaitFits.pool e n y) = absurd (omega (arith, p, y, side-high that d, sized.pools, rw e at (g.object (λ x. omega (arith, e, x)))))
      by that p (WaitFits.queue e n y) = absurd (omega (arith, p, y, side-high that d, sized.queues, rw e at (g.object (λ x. omega (arith, e, x)))))
      by true p (WaitFits.writer e n y) = absurd (omega (arith, p, y, call-box false _ (e, refl), sized.mailboxes))
      by false p (WaitFits.writer e n y) = (e, omega (arith, p, y))
      by true p (WaitFits.reader e n y) = (e, omega (arith, p, y))
      by false p (WaitFits.reader e n y) = absurd (omega (arith, p, y, s))

-- tables at work that are good
pub mails-good : (p : Plant) → Good p → Mails (world_of p)
mails-good p g =
    record {
      few = g.sizes.threads.1;
      boxes = λ l a side b h.
          let m = call-box p.sizes g.sizes (thread_at p.kernel l) (g.threads l a) side b h in
          (omega (arith, m, g.sizes.mailboxes), (g.mailboxes b m).count);
      seats = λ l a that d s q. seat p.sizes g.sizes (thread_at p.kernel l) (g.threads l a) that d s q;
    }

-- whoever is ready has a first
first_below : (w : World) (n : ℕ) → n ≤ w.sizes.threads → ((j : ℕ) → j < n → (w.thread j).state ≢ 0) ⊎ ((r : ℕ) × (r < n) × First w r)
first_below w zero h = inl (λ j l. absurd (omega arith))
first_below w (suc n) h =
    elim (first_below w n (omega arith)) [
      | inr (r, l, f) ↦ inr (r, omega arith, f)
      | inl none ↦
          same_or (w.thread n).state 0 (λ e. inr (n, omega arith, record { thread = h; is-ready = e; first = none }))
          (λ d. inl (λ j l. same_or j n (λ e. rw e d) (λ k. none j (omega (arith, l, k)))))
    ]

-- ---- the act

module _ (t : Tables) (c : Clock) (s : Step) (host : Host t c s) (e : (stepped t c s).outcome.code ≡ 0) where
  abbrev w₀ : World
  w₀ = found t

  abbrev x : World
  x = x₀ t c s host e

  good-found : Good (opened t)
  good-found = (hangs t c s host (accepted t c s host e)).together.good

  -- the act serves thread j, at a side of the mailbox o, which becomes y
  module _ (that : Bool) (o j n d : ℕ) (y : Mailbox) (there : o < t.sizes.mailboxes) (h : Highest w₀ (side_at that o) j) (finds : Finds that y (slots_of w₀ o)) where
    abbrev u : World
    u = box_to (made_ready w₀ j (pos 0) n) o y

    abbrev v : World
    v = ended u s.caller (pos 0) d

    abbrev r : Thread
    r = ready_with (w₀.thread j) (pos 0) n w₀.step

    states : (l : ℕ) → l ≢ j → (v.thread l).state ≡ (w₀.thread l).state
    states l a = ended-state u s.caller (pos 0) d l ∙ ap (λ (a : Thread). a.state) (put_other w₀.thread j l r a)

    is-ready : (v.thread j).state ≡ 0
    is-ready = ended-state u s.caller (pos 0) d j ∙ ap (λ (a : Thread). a.state) (put_same w₀.thread j r)

    small : o < 4
    small = omega (arith, there, good-found.sizes.mailboxes)

    its-call : CallsOn that o (w₀.thread j).call
    its-call = seat t.sizes good-found.sizes (w₀.thread j) (good-found.threads j h.thread) that o small h.waits

    -- it finds what it waited for
    found_it : (side : Bool) (b : ℕ) → CallsOn side b (v.thread j).call → Finds side (v.box b) (slots_of v b)
    found_it side b k =
        on-side (λ that a. Finds that (v.box a) (slots_of v a)) that o (w₀.thread j).call its-call
        (subst (λ (z : Mailbox). Finds that z (slots_of w₀ o)) (sym (put_same w₀.box o y)) finds) side b
        (subst (λ (a : Thread). CallsOn side b a.call) (ended-other u s.caller (pos 0) d j other ∙ put_same w₀.thread j r) k)
      where
        other : j ≢ s.caller
        other z =
            queued-asleep h.waits.0
            (rw z (caller-first t c s host e (λ q. someone t c s host e j h.thread (z ∙ q))).is-ready)

    -- who is first before it was first before the step, and has no call
    still : (l : ℕ) → l < j → First v l → Sure v j
    still l a f =
        let same : (k : ℕ) → k ≤ l → (v.thread k).state ≡ (w₀.thread k).state = λ k b. states k (λ z. omega (arith, z, a, b)) in
        let before : First w₀ l = record {
          thread = f.thread;
          is-ready = sym (same l (omega arith)) ∙ f.is-ready;
          first = λ k b z. f.first k b (same k (omega (arith, b)) ∙ z);
        } in
        Sure.over l a f.is-ready
        (ended-row u s.caller (pos 0) d (λ k. k.call.kind ≡ 0) l refl
        (ap (λ (a : Thread). a.call.kind) (put_other w₀.thread j l r (λ z. omega (arith, z, a))) ∙ (together t c s host e).running l before))

    served-sure : Sure v j
    served-sure =
        elim (first_below v j (omega (arith, h.thread))) [
          | inl none ↦ Sure.next (record { thread = h.thread; is-ready = is-ready; first = none }) found_it
          | inr (l, a, f) ↦ still l a f
        ]

  -- the object of a kind n
  module _ {n : ℕ} (kind : s.kind ≡ n) where
    semaphore-low : 2 ≤ n → n ≤ 5 → s.object < 28
    semaphore-low a b = omega (arith, good-found.sizes.semaphores, semaphore-there t c s host e (rw kind a) (rw kind b))

    queue-low : 6 ≤ n → n ≤ 8 → 20 + s.object < 28
    queue-low a b = omega (arith, good-found.sizes.queues, queue-there t c s host e (rw kind a) (rw kind b))

    pool-low : 20 ≤ n → n ≤ 22 → 16 + s.object < 28
    pool-low a b = omega (arith, good-found.sizes.pools, pool-there t c s host e (rw kind a) (rw kind b))

    box-there : 15 ≤ n → n ≤ 19 → s.object < t.sizes.mailboxes
    box-there a b = mailbox-there t c s host e (rw kind a) (rw kind b)

  -- thread k, whom the act has woken, and who was due
  module _ (k : ℕ) (within : k < t.sizes.threads) where
    abbrev a : Thread
    a = row_of t k

    due-slept : Due t s k → a.state ≢ 0
    due-slept (Due.last-tick q r) z = by (fits t c s host e k within).ticks
      where
        by : TicksFit a → ⊥
        by (TicksFit.none h n) = omega (arith, n, r)
        by (TicksFit.some n m l h) = n z
    due-slept (Due.events q o st f) z = omega (arith, st, z)
    due-slept (Due.resume q st pl) z = omega (arith, st, z)
    due-slept (Due.all p r st pl) z = omega (arith, st, z)
    due-slept (Due.first p r h) z = omega (arith, h.waits.0, z)

    -- it was served by the act's own call
    module _ (that : Bool) (there : s.object < t.sizes.mailboxes) (h : Highest w₀ (side_at that s.object) k) where
      serves-sure : {v : World} (n d : ℕ) (y : Mailbox) → Finds that y (slots_of w₀ s.object) → Release w₀ (side_at that s.object) (pos 0) n v
          → x ≡ ended (box_to v s.object y) s.caller (pos 0) d → Sure x k
      serves-sure n d y finds (Release.nobody none q) z = absurd (none k h)
      serves-sure n d y finds (Release.first j g q) z =
          let it = served-sure that s.object j n d y there g finds in
          subst (λ (l : ℕ). Sure x l) (highest-only w₀ (side_at that s.object) j k g h)
          (subst (λ (u : World). Sure u j) (sym (z ∙ ap (λ (u : World). ended (box_to u s.object y) s.caller (pos 0) d) q)) it)

    post-sure : (n : ℕ) → s.object < t.sizes.mailboxes → (w₀.box s.object).reset ≡ 0
        → (w₀.box s.object).positions.count < slots_of w₀ s.object → Highest w₀ (32 + s.object) k
        → Post w₀ s.caller (kept n s.object s.a s.timeout) x → Sure x k
    post-sure n o free room h (Post.in-reset q z) = absurd (q free)
    post-sure n o free room h (Post.behind q l m v g z) = serves-sure true o h 5 0 _ (q, omega arith, omega arith) g z
    post-sure n o free room h (Post.ahead q l m v g z) = serves-sure true o h 5 0 _ (q, omega arith, omega arith) g z
    post-sure n o free room h (Post.no_room q l w) = absurd (omega (arith, l, room))

    -- the row of a kind
    row : {n : ℕ} → s.kind ≡ n → Act t c.time s x n
    row q = subst (Act t c.time s x) q (act t c s host e)

    -- a mailbox that is reset releases with -2
    reset-gone : s.kind ≡ 18 → a.state ≡ 3 → (a.place ≡ 28 + s.object) ⊎ (a.place ≡ 32 + s.object) → {m : ℤ} {o : ℕ} → WokenBy t s k a m o → m ≡ negsuc 1
    reset-gone q st pl by =
        let reset : WokenBy t s k a (negsuc 1) 7 = WokenBy.call (λ v. omega (arith, q, v.0)) (CalledOut.box-reset q st pl) in
        message-by t c s host e by ∙ ap (message_by s) (cause-for t c s host e by ∙ sym (cause-for t c s host e reset))

    -- it waited at a mailbox's side, and is sure if it is to answer another message than 0
    module _ (st : a.state ≡ 3) (far : 28 ≤ a.place) {m : ℤ} {o : ℕ} (by : WokenBy t s k a m o) (answers : m ≢ pos 0 → Sure x k) where
      first-sure : {p : ℕ} → ReleasesFirst t s p → Highest w₀ p k → Sure x k
      first-sure (ReleasesFirst.signal (inl q)) h = absurd (omega (arith, far, h.waits.1, semaphore-low q (omega arith) (omega arith)))
      first-sure (ReleasesFirst.signal (inr q)) h = absurd (omega (arith, far, h.waits.1, semaphore-low q (omega arith) (omega arith)))
      first-sure (ReleasesFirst.release q) h = absurd (omega (arith, far, h.waits.1, queue-low q (omega arith) (omega arith)))
      first-sure (ReleasesFirst.object (inl q)) h = absurd (omega (arith, far, h.waits.1, pool-low q (omega arith) (omega arith)))
      first-sure (ReleasesFirst.object (inr q)) h = absurd (omega (arith, far, h.waits.1, pool-low q (omega arith) (omega arith)))
      first-sure (ReleasesFirst.post (inl q) free room) h = posted (row q)
        where
          posted : Act t c.time s x 15 → Sure x k
          posted (Act.post g) = post-sure 15 (box-there q (omega arith) (omega arith)) free room h g
      first-sure (ReleasesFirst.post (inr q) free room) h = posted (row q)
        where
          posted : Act t c.time s x 16 → Sure x k
          posted (Act.post-ahead g) = post-sure 16 (box-there q (omega arith) (omega arith)) free room h g
      first-sure (ReleasesFirst.fetch q free some) h = fetched (row q)
        where
          there : s.object < t.sizes.mailboxes
          there = box-there q (omega arith) (omega arith)

          fetched : Act t c.time s x 17 → Sure x k
          fetched (Act.fetch (Fetch.in-reset r z)) = absurd (r free)
          fetched (Act.fetch (Fetch.message r l v g z)) =
              serves-sure false there h 6 _ _ (r, omega (arith, l, ((together t c s host e).mailboxes s.object there).count)) g z
          fetched (Act.fetch (Fetch.no-message r l g)) = absurd (omega (arith, l, some))

      due-sure : Due t s k → Sure x k
      due-sure (Due.last-tick q r) = answers (λ z. pos-ne-negsuc 0 0 (sym z ∙ (last-by (q, r) by).0))
      due-sure (Due.events q i z f) = absurd (omega (arith, z, st))
      due-sure (Due.resume q z pl) = absurd (omega (arith, z, st))
      due-sure (Due.all p (ReleasesAll.reset q) z pl) = absurd (omega (arith, far, pl, semaphore-low q (omega arith) (omega arith)))
      due-sure (Due.all p (ReleasesAll.release q) z pl) = absurd (omega (arith, far, pl, queue-low q (omega arith) (omega arith)))
      due-sure (Due.all p (ReleasesAll.writers q) z pl) = answers (λ z. pos-ne-negsuc 0 1 (sym z ∙ reset-gone q st (inl pl) by))
      due-sure (Due.all p (ReleasesAll.readers q) z pl) = answers (λ z. pos-ne-negsuc 0 1 (sym z ∙ reset-gone q st (inr pl) by))
      due-sure (Due.first p r h) = first-sure r h

    -- whoever is woken by the act is sure
    woken-sure : Due t s k → SleeperAfter t s k (x.thread k) (x.woken k) (x.finished k) → x.woken k ≡ true → ((x.thread k).state ≡ 0) × Sure x k
    woken-sure due (SleeperAfter.on u z p q) w = contrary w p
    woken-sure due (SleeperAfter.done m v o d f by g z p q) w =
        (ap (λ (r : Thread). r.state) z, Sure.quiet (λ side b h y. (mail-other (on-mail side b _ h)).1 (ap (λ (r : Thread). r.call.kind) z)))
    woken-sure due (SleeperAfter.ready m o by z p q) w = (ap (λ (r : Thread). r.state) z, sure)
      where
        -- its call and its message are to be tried again
        quiet : (IsMailing a.call.kind → m ≡ pos 0 → ⊥) → Sure x k
        quiet none =
            Sure.quiet (λ side b h y.
            none (subst (λ (r : Thread). IsMailing r.call.kind) z (on-mail side b (x.thread k).call h)) (sym (ap (λ (r : Thread). r.message) z) ∙ y))

        elsewhere : (a.state ≡ 3 → a.place < 28) → Sure x k
        elsewhere l = quiet (λ g y. mail-far (fits t c s host e k within).wait (due-slept due) l g)

        sure : Sure x k
        sure =
            same_or a.state 3
            (λ st. in-or-out a.place 28 (λ l. elsewhere (λ y. l)) (λ far. due-sure st far by (λ n. quiet (λ g. n)) due))
            (λ n. elsewhere (λ y. absurd (n y)))

  -- THE ACT IS FAIR
  pub act-fair : Fair t.sizes.threads x
  act-fair k l w =
      let due = act-due t c s host e k l w refl (act t c s host e) in
      woken-sure k l due (sleeper-acted t c s host e k l (due-slept k l due)) w
