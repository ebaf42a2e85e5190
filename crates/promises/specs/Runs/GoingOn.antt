-- An event wait finishes only in a step after which its thread runs: whoever is continued is the first ready thread, an event wait that goes
-- on wakes nobody, and so settling ends there.
use Rattle.std.specs.Prelude.{ℕ, zero, suc, ◌<◌, ◌≡◌, refl, ◌≢◌, ◌⊎◌, List, true, false, ℤ, pos, negsuc}
use Rattle.std.proofs.Common.{arith, sym, ap, ◌∙◌, subst, inl, inr, eqb-true, eq-eqb, ne_eqb}
use Rattle.kernel.specs.declared.clock.Clock.{Clock}
use Rattle.kernel.specs.declared.time.SystemTime.{SystemTime}
use Rattle.kernel.specs.declared.records.Call.{Call}
use Rattle.kernel.specs.declared.records.Thread.{Thread}
use Rattle.kernel.proofs.Cases.{same_or, contrary}
use Rattle.library.specs.declared.calls.Step.{Step}
use Rattle.library.specs.declared.tables.Tables.{Tables}
use Rattle.steps.specs.Stepping.{stepped}
use Rattle.promises.specs.Paper.World.{World, found, counter_to, box_to, pool_to, thread_to, ready_with, made_ready, ended, asleep, fall_asleep, kept, First, Running}
use Rattle.promises.specs.Paper.Host.{Host}
use Rattle.promises.specs.Paper.Rows.{
  TickOf,
  Ticks,
  Waits,
  Release,
  pending_to,
  took_flags,
  flagged,
  EventSignal,
  EventWait,
  Post,
  Fetch,
  Act,
}
use Rattle.promises.specs.Paper.Settling.{Continued, Settles}
use Rattle.promises.specs.Paper.Step.{StepOf}
use Rattle.promises.specs.Paper.Waking.{row_of, in_mask}
use Rattle.promises.specs.Paper.Flags.{awaits_flags}
use Rattle.promises.specs.Runs.Keeping.{put_same, put_other, put-part, KeepsAct, act-keeps}
use Rattle.promises.specs.Runs.OneRow.{ended-other, ended-unfinished, ended-own, ended-state, took-other, took-unfinished}
use Rattle.promises.specs.Runs.Accepted.{unbroken, caller-first, held, someone}
use Rattle.promises.specs.Runs.OneStep.{bit_in}
use Rattle.promises.specs.Meant.Only.{first-only, running-only}
use Rattle.promises.specs.Meant.Step.{step_is}

-- settling ends where the first ready thread has no unfinished call
settled-there : {x w : World} {is : List ℕ} (i : ℕ) → Settles x w is → First w i → (w.thread i).call.kind ≡ 0 → x ≡ w
settled-there i (Settles.ends a e) f z = e
settled-there {x} {w} i (Settles.goes j g n v c l) f z =
    absurd (n (subst (λ (k : ℕ). (w.thread k).call.kind ≡ 0) (first-only w i j f g) z))

-- the first ready thread stays so, if states stay
pub first-stays : (w x : World) (i : ℕ) → x.sizes ≡ w.sizes → ((j : ℕ) → (x.thread j).state ≡ (w.thread j).state) → First w i → First x i
first-stays w x i z h f =
    record { thread = rw z f.thread; is-ready = h i ∙ f.is-ready; first = λ j l e. f.first j l (sym (h j) ∙ e) }

module _ (i : ℕ) (someone : i ≢ 255) where
  -- who was first, and whose call ended, is first and has none
  record Goes (x : World) : Type 0 where
    pub first : First x i
    pub no-call : (x.thread i).call.kind ≡ 0

  ended-goes : (w : World) (m : ℤ) (d : ℕ) → First w i → Goes (ended w i m d)
  ended-goes w m d f =
      record {
        first = first-stays w (ended w i m d) i refl (ended-state w i m d) f;
        no-call = ap (λ (u : Thread). u.call.kind) (ended-own w i m d someone);
      }

  took-goes : (w : World) (a : ℕ) → First w i → Goes (took_flags w i a)
  took-goes w a f =
      ended-goes (thread_to w i _) (pos 0) _
      (first-stays w (thread_to w i (pending_to (w.thread i) _)) i refl (put-part (λ (v : Thread). v.state) w.thread i (pending_to (w.thread i) _) refl) f)

  -- ---- an event wait of thread i that is not finished yet

  record Waiting (w : World) : Type 0 where
    pub kind : (w.thread i).call.kind ≡ 14
    pub unfinished : w.finished i ≡ false

  waiting-on : (w x : World) → (x.thread i).call ≡ (w.thread i).call → x.finished i ≡ w.finished i → Waiting w → Waiting x
  waiting-on w x e f h = record { kind = ap (λ (c : Call). c.kind) e ∙ h.kind; unfinished = f ∙ h.unfinished }

  -- another is woken, or it is itself: its call stays
  ready_call : (w : World) (j : ℕ) (m : ℤ) (c : ℕ) → ((made_ready w j m c).thread i).call ≡ (w.thread i).call
  ready_call w j m c =
      same_or i j (λ e. rw e (ap (λ (u : Thread). u.call) (put_same w.thread j (ready_with (w.thread j) m c w.step))))
      (λ d. ap (λ (u : Thread). u.call) (put_other w.thread j i (ready_with (w.thread j) m c w.step) d))

  release-waiting : {w v : World} {p : ℕ} {m : ℤ} {c : ℕ} → Release w p m c v → Waiting w → Waiting v
  release-waiting {w} {v} {p} {m} {c} (Release.first j h e) g = subst Waiting (sym e) (waiting-on w (made_ready w j m c) (ready_call w j m c) refl g)
  release-waiting (Release.nobody h e) g = subst Waiting (sym e) g

  -- another's call ends, or sleeps
  module _ (r : ℕ) (apart : i ≢ r) where
    ended-waiting : (w : World) (m : ℤ) (d : ℕ) → Waiting w → Waiting (ended w r m d)
    ended-waiting w m d =
        waiting-on w (ended w r m d) (ap (λ (u : Thread). u.call) (ended-other w r m d i apart)) (ended-unfinished w r m d i apart)

    sleeps-waiting : {w x : World} {st pl : ℕ} {c : Call} → Waits w r st pl c x → Waiting w → Waiting x
    sleeps-waiting {w} (Waits.now a e) g = subst Waiting (sym e) (ended-waiting w _ 0 g)
    sleeps-waiting {w} {x} {st} {pl} {c} (Waits.later a e) g =
        subst Waiting (sym e)
        (waiting-on w (fall_asleep w r st pl c) (ap (λ (u : Thread). u.call) (put_other w.thread r i (asleep (w.thread r) st pl c) apart)) refl g)

    boxed : (v : World) (b : ℕ) (y : _) (m : ℤ) (d : ℕ) → Waiting v → Waiting (ended (box_to v b y) r m d)
    boxed v b y m d g = ended-waiting (box_to v b y) m d (waiting-on v (box_to v b y) refl refl g)

    post-waiting : {w x : World} {c : Call} → Post w r c x → Waiting w → Waiting x
    post-waiting {w} (Post.in-reset a e) g = subst Waiting (sym e) (ended-waiting w _ 0 g)
    post-waiting {w} {x} {c} (Post.behind a l b v h e) g = subst Waiting (sym e) (boxed v c.object _ (pos 0) 0 (release-waiting h g))
    post-waiting {w} {x} {c} (Post.ahead a l b v h e) g = subst Waiting (sym e) (boxed v c.object _ (pos 0) 0 (release-waiting h g))
    post-waiting (Post.no_room a l h) g = sleeps-waiting h g

    fetch-waiting : {w x : World} {c : Call} → Fetch w r c x → Waiting w → Waiting x
    fetch-waiting {w} (Fetch.in-reset a e) g = subst Waiting (sym e) (ended-waiting w _ 0 g)
    fetch-waiting {w} {x} {c} (Fetch.message a l v h e) g = subst Waiting (sym e) (boxed v c.object _ (pos 0) _ (release-waiting h g))
    fetch-waiting (Fetch.no-message a l h) g = sleeps-waiting h g

    other-waiting : {w v : World} → Continued w r v → Waiting w → Waiting v
    other-waiting {w} (Continued.flags k m e) g =
        let a = (w.thread r).call.operand in
        subst Waiting (sym e)
        (waiting-on w (took_flags w r a) (ap (λ (u : Thread). u.call) (took-other w r a i apart)) (took-unfinished w r a i apart) g)
    other-waiting (Continued.posts k m h) g = post-waiting h g
    other-waiting (Continued.fetches k m h) g = fetch-waiting h g
    other-waiting {w} (Continued.takes k m e) g =
        subst Waiting (sym e) (ended-waiting (pool_to w _ _) (pos 0) _ (waiting-on w (pool_to w _ _) refl refl g))
    other-waiting {w} (Continued.answers k e) g = subst Waiting (sym e) (ended-waiting w _ 0 g)

  -- its own is continued: it is finished, and its thread is the first ready one still
  own-goes : {w v : World} → (w.thread i).call.kind ≡ 14 → First w i → Continued w i v → Goes v
  own-goes {w} k f (Continued.flags z m e) = subst Goes (sym e) (took-goes w (w.thread i).call.operand f)
  own-goes k f (Continued.posts (inl z) m h) = absurd (omega (arith, k, z))
  own-goes k f (Continued.posts (inr z) m h) = absurd (omega (arith, k, z))
  own-goes k f (Continued.fetches z m h) = absurd (omega (arith, k, z))
  own-goes k f (Continued.takes z m e) = absurd (omega (arith, k, z))
  own-goes {w} k f (Continued.answers z e) = subst Goes (sym e) (ended-goes w (w.thread i).message 0 f)

  -- SETTLING FINISHES IT ONLY IF IT RUNS THEN
  settles-running : {x w : World} {is : List ℕ} → Settles x w is → Waiting w → x.finished i ≡ true → First x i
  settles-running {x} {w} (Settles.ends a e) g q = contrary (sym (ap (λ (y : World). y.finished i) e) ∙ q) g.unfinished
  settles-running {x} {w} (Settles.goes j f n v c l) g q =
      same_or i j
      (λ y.
      let o = own-goes g.kind (subst (First w) (sym y) f) (subst (λ (k : ℕ). Continued w k v) (sym y) c) in
      subst (λ (u : World). First u i) (sym (settled-there i l o.first o.no-call)) o.first)
      (λ d. settles-running l (other-waiting j d c g) q)

-- ---- after the step's own act

module _ (t : Tables) (s : Step) (i : ℕ) (someone : i ≢ 255) where
  -- a wait that the records kept: the act of another leaves it so
  module _ (apart : s.caller ≢ i) (kind : (row_of t i).call.kind ≡ 14) where
    abbrev W : World → Type 0
    W = Waiting i someone

    off : i ≢ s.caller
    off e = apart (sym e)

    waiting-found : W (found t)
    waiting-found = record { kind = kind; unfinished = refl }

    row-waiting : (w : World) (j : ℕ) (u : Thread) → u.call ≡ (w.thread j).call → W w → W (thread_to w j u)
    row-waiting w j u e =
        waiting-on i someone w (thread_to w j u)
        (same_or i j (λ x. rw x (ap (λ (v : Thread). v.call) (put_same w.thread j u) ∙ e))
        (λ d. ap (λ (v : Thread). v.call) (put_other w.thread j i u d))) refl

    ready-waiting : (w : World) (j : ℕ) (m : ℤ) (o : ℕ) → W w → W (made_ready w j m o)
    ready-waiting w j m o = waiting-on i someone w (made_ready w j m o) (ready_call i someone w j m o) refl

    tick-waiting : {w x : World} (j : ℕ) → TickOf w j x → W w → W x
    tick-waiting j (TickOf.no-ticks z e) g = subst W (sym e) g
    tick-waiting {w} j (TickOf.falls z e) g = subst W (sym e) (row-waiting w j _ refl g)
    tick-waiting {w} j (TickOf.last z e) g = subst W (sym e) (ready-waiting w j _ 8 g)

    ticks-waiting : (n : ℕ) {x : World} → Ticks (found t) n x → W x
    ticks-waiting zero e = subst W (sym e) waiting-found
    ticks-waiting (suc n) h = tick-waiting n h.2 (ticks-waiting n h.1)

    events-waiting : {x : World} (j a : ℕ) → EventSignal (found t) j a x → W x
    events-waiting j a (EventSignal.comes g h e) =
        subst W (sym e) (ready-waiting (flagged (found t) j a) j (pos 0) 4 (row-waiting (found t) j _ refl waiting-found))
    events-waiting j a (EventSignal.only-flagged h e) = subst W (sym e) (row-waiting (found t) j _ refl waiting-found)

    kept-act : KeepsAct t s W
    kept-act =
        record {
          moves = record {
            counter = λ w p c g. waiting-on i someone w (counter_to w p c) refl refl g;
            box = λ w b x g. waiting-on i someone w (box_to w b x) refl refl g;
            pool = λ w q x g. waiting-on i someone w (pool_to w q x) refl refl g;
            wakes = λ w j m o n c g. ready-waiting w j m o g;
          };
          begins = λ x y. waiting-found;
          ticks = λ v e h. ticks-waiting t.sizes.threads h;
          events = λ v e h. events-waiting s.object s.a h;
          ends = λ w m d o g. ended-waiting i someone s.caller off w m d g;
          takes = λ k n g.
              waiting-on i someone (found t) (took_flags (found t) s.caller s.a)
              (ap (λ (u : Thread). u.call) (took-other (found t) s.caller s.a i off)) (took-unfinished (found t) s.caller s.a i off) g;
          sleeps = λ w st pl c o k n b g.
              waiting-on i someone w (fall_asleep w s.caller st pl c)
              (ap (λ (u : Thread). u.call) (put_other w.thread s.caller i (asleep (w.thread s.caller) st pl c) off)) refl g;
        }

  -- the step's own: it is finished at once, and runs still, or sleeps
  own-act : {now : SystemTime} {w : World} → s.caller ≡ i → First (found t) i → Act t now s w 14 → Goes i someone w ⊎ Waiting i someone w
  own-act c f (Act.event-wait (EventWait.finds a e)) =
      inl (subst (Goes i someone) (sym e) (subst (λ (j : ℕ). Goes i someone (took_flags (found t) j s.a)) (sym c) (took-goes i someone (found t) s.a f)))
  own-act c f (Act.event-wait (EventWait.finds-none a (Waits.now b e))) =
      inl (subst (Goes i someone) (sym e) (subst (λ (j : ℕ). Goes i someone (ended (found t) j (negsuc 0) 0)) (sym c) (ended-goes i someone (found t) (negsuc 0) 0 f)))
  own-act c f (Act.event-wait (EventWait.finds-none a (Waits.later b e))) =
      let call = kept 14 0 s.a s.timeout in
      inr (subst (Waiting i someone) (sym e)
      (record {
        kind =
            subst (λ (j : ℕ). ((fall_asleep (found t) j 4 0 call).thread i).call.kind ≡ 14) (sym c)
            (ap (λ (u : Thread). u.call.kind) (put_same (found t).thread i (asleep ((found t).thread i) 4 0 call)));
        unfinished = refl;
      }))

-- AN EVENT WAIT FINISHES ONLY IF ITS THREAD RUNS THEN
module _ (t : Tables) (c : Clock) (s : Step) (host : Host t c s) (e : (stepped t c s).outcome.code ≡ 0) (i : ℕ) (within : i < t.sizes.threads) where
  me : i ≢ 255
  me = someone t c s host e i within

  -- the caller is the first ready thread
  first-caller : s.caller ≡ i → First (found t) i
  first-caller z = subst (First (found t)) z (caller-first t c s host e (rw z me))

  module _ (w x : World) (is : List ℕ) (act : Act t c.time s w s.kind) (settles : Settles x w is) (finished : x.finished i ≡ true) where
    own_first : s.caller ≡ i → s.kind ≡ 14 → First x i
    own_first z k =
        elim (own-act t s i me z (first-caller z) (subst (Act t c.time s w) k act)) [
          | inl g ↦ subst (λ (u : World). First u i) (sym (settled-there i settles g.first g.no-call)) g.first
          | inr g ↦ settles-running i me settles g finished
        ]

    kept-first : s.caller ≢ i → (row_of t i).call.kind ≡ 14 → First x i
    kept-first n k =
        settles-running i me settles
        (act-keeps t s (Waiting i me) (kept-act t s i me n k) c.time (held t c s host e) refl act) finished

    is-first : awaits_flags t s i ≡ true → First x i
    is-first a =
        same_or s.caller i
        (λ z. own_first z (eqb-true s.kind 14 (rw (eq-eqb s.caller i z) at a)))
        (λ n. kept-first n (eqb-true (row_of t i).call.kind 14 (rw (ne_eqb s.caller i n) at a)))

  pub goes-running : awaits_flags t s i ≡ true → in_mask i (stepped t c s).outcome.finished ≡ true → (stepped t c s).outcome.running ≡ i
  goes-running a q = by (step_is t c s host)
    where
      by : StepOf t c s (stepped t c s) → (stepped t c s).outcome.running ≡ i
      by (StepOf.refused n b f r) = absurd (unbroken t c s host e n b)
      by (StepOf.accepted b w x is act settles l u d r) =
          let f = sym (bit_in (stepped t c s).outcome.finished i (x.finished i) (r.finished i)) ∙ q in
          running-only x (stepped t c s).outcome.running i r.running (Running.thread (is-first w x is act settles f a))
