-- Every accepted step is a chain of moves that leaves the tables whole: the kinds 15 to 22 beside those of the kernel part.
use Rattle.std.specs.Prelude.{ℕ, ◌+◌, ◌%◌, ◌≤◌, ◌<◌, ◌≡◌, ◌≢◌, ◌⊎◌, true, false, eqb, leb}
use Rattle.std.proofs.Common.{arith, ◌∙◌, inl, inr}
use Rattle.std.proofs.Math.Path.{refl}
use mathlib.Core.List.{List, [], ◌∷◌}
use borrow.Author.Tests.{eqb-true, eqb-false, eq-eqb, leb-true, leb-false}
use Rattle.kernel.specs.declared.clock.Clock.{Clock}
use Rattle.kernel.specs.declared.records.Kernel.{Kernel}
use Rattle.kernel.specs.Numbers.{nobody, ok, immediate}
use Rattle.kernel.specs.Places.{pool_place}
use Rattle.kernel.specs.Tables.{thread_at}
use Rattle.kernel.specs.Moves.{finished}
use Rattle.kernel.proofs.Cases.{same_or, chosen, both-means}
use Rattle.library.specs.declared.calls.Step.{Step}
use Rattle.library.specs.declared.sizes.Sizes.{Sizes}
use Rattle.library.specs.declared.tables.Plant.{Plant}
use Rattle.library.specs.Calls.{call_of, object_of}
use Rattle.library.specs.Mailbox.{post_tried, fetch_tried, mailbox_reset, mailbox_resumed}
use Rattle.library.specs.Pool.{absent, free, out, mark_at, alloc_tried, put_back}
use Rattle.library.specs.Settling.{is_box_call}
use Rattle.library.specs.Acting.{kernel_waits, box_effected, finished_at_once, acted_on_box, acted}
use Rattle.library.specs.Tables.{pool_at}
use Rattle.rules.specs.RowRules.{call_limit}
use Rattle.promises.specs.Together.Good.{CallKind}
use Rattle.promises.specs.Kept.Accepting.{Accepted}
use Rattle.promises.specs.Kept.Chain.{Note, signal_at, after, nil-right, count_in, is_slept}
use Rattle.promises.specs.Kept.Moving.{finish-chained}
use Rattle.promises.specs.Kept.Whole.{Whole, Done, kernel-done, idle-free, stepper-caller, stepper-kept}
use Rattle.promises.specs.Kept.KernelActs.{Acts, stepper, sleeper, object-of, kept-fits, kernel-acts}
use Rattle.promises.specs.Kept.BoxActs.{Tries, Tryer, post-tries, fetch-tries, alloc-tries, reset-acts, resume-acts, put-acts}

-- of the kinds 15 to 22, two are left
next : (n m : ℕ) → n ≢ m → m ≤ n → m + 1 ≤ n
next n m d h = omega arith

two-left : (n : ℕ) → 15 ≤ n → n ≤ 22 → n ≢ 15 → n ≢ 16 → n ≢ 17 → n ≢ 20 → n ≢ 18 → n ≢ 19 → (n ≡ 21) ⊎ (n ≡ 22)
two-left n l h a b c d e f =
    let x = next n 20 d (next n 19 f (next n 18 e (next n 17 c (next n 16 b (next n 15 a l))))) in
    same_or n 21 inl (λ g. inr (last n x h g))
  where
    last : (n : ℕ) → 21 ≤ n → n ≤ 22 → n ≢ 21 → n ≡ 22
    last n x h g = omega arith

module _ (p : Plant) (c : Clock) (s : Step) (a : Accepted p c s) (w : Whole p.sizes p) where
  abbrev z : Sizes
  z = p.sizes

  abbrev k : Kernel
  k = p.kernel

  -- who tries a mailbox or a pool; "15, 16, 17, 20 from an interrupt with timeout not 0" are refused
  tryer : (m : ℕ) → s.kind ≡ m → CallKind m → kernel_waits m ≡ false → is_box_call m ≡ true → object_of s < call_limit z s.kind
      → Tryer z k s.caller (call_of s)
  tryer m e f x b o =
      record {
        asks = stepper-caller z k s.caller (stepper p c s a w);
        sleeps = λ t.
            let me = sleeper p c s a w (thread t) in
            (me.0, (idle-free (thread_at k s.caller) me.1, kept-fits p c s a w (rw e f) o t));
      }
    where
      thread : s.timeout ≢ 0 → s.caller ≢ nobody
      thread t n = t (eqb-true s.timeout immediate (rw (eq-eqb s.caller nobody n, e, x, b) at a.context))

  -- an operation that is no signal
  tried : (h : Plant) → Tries z p h → Acts z p s h
  tried h t = record { notes = t.notes; done = t.done }

  -- one that finishes the caller's call at once
  at-once : (h : Plant) (ms : List Note) → Done z p h ms → count_in (is_slept s.caller) ms ≡ 0
      → Acts z p s (finished_at_once h s.caller)
  unfolding count_in
  at-once h ms d o =
      let i = s.caller in
      let x =
      finish-chained z w.sizes h.kernel i ok 0
      (stepper-caller z h.kernel i (stepper-kept z k h.kernel i ms w.sizes w.kernel d.chained o (stepper p c s a w))) in
      record {
        notes = ms;
        done = record {
          chained = rw (nil-right ms) at (after d.chained x);
          whole = (kernel-done z h (finished h.kernel i ok 0) [] d.whole x (λ q l. refl)).whole;
        };
      }

  post-acts : (m : ℕ) → s.kind ≡ m → (m ≡ 15) ⊎ (m ≡ 16) → Acts z p s (post_tried p s.caller (call_of s))
  post-acts m e (inl f) =
      let is = e ∙ f in
      let o = object-of p c s a w 15 is in
      tried (post_tried p s.caller (call_of s))
      (post-tries p w s.caller (call_of s)
      (tryer 15 is (inr (inr (inr (inr (inr (inl (omega arith, omega arith))))))) refl refl (rw is o)) (rw is o) (rw is) (rw is))
  post-acts m e (inr f) =
      let is = e ∙ f in
      let o = object-of p c s a w 16 is in
      tried (post_tried p s.caller (call_of s))
      (post-tries p w s.caller (call_of s)
      (tryer 16 is (inr (inr (inr (inr (inr (inl (omega arith, omega arith))))))) refl refl (rw is o)) (rw is o) (rw is) (rw is))

  fetch-acts : s.kind ≡ 17 → Acts z p s (fetch_tried p s.caller (call_of s))
  fetch-acts is =
      let o = object-of p c s a w 17 is in
      tried (fetch_tried p s.caller (call_of s))
      (fetch-tries p w s.caller (call_of s)
      (tryer 17 is (inr (inr (inr (inr (inr (inl (omega arith, omega arith))))))) refl refl (rw is o)) (rw is o) (rw is) (rw is))

  alloc-acts : s.kind ≡ 20 → Acts z p s (alloc_tried p s.caller (call_of s))
  alloc-acts is =
      let o = object-of p c s a w 20 is in
      tried (alloc_tried p s.caller (call_of s))
      (alloc-tries p w s.caller (call_of s) (tryer 20 is (inr (inr (inr (inr (inr (inr refl)))))) refl refl (rw is o)) is (rw is o))

  -- "Free and add put the object on top and signal"
  put_in : (m : ℕ) → s.kind ≡ m → s.object < z.pools → s.a ≤ 31 → mark_at (pool_at p s.object) (s.a % 256) ≢ free
      → Acts z p s (finished_at_once (put_back p s.object (s.a % 256)) s.caller)
  unfolding count_in
  put_in m e l v f =
      at-once (put_back p s.object (s.a % 256)) (signal_at (pool_place s.object) ∷ [])
      (put-acts p w s.object l (s.a % 256) (omega arith) f) refl

  -- 21: "free of an object not out" is refused; 22: "add of one not absent"
  puts : (s.kind ≡ 21) ⊎ (s.kind ≡ 22) → Acts z p s (finished_at_once (put_back p s.object (s.a % 256)) s.caller)
  puts (inl e) =
      put_in 21 e (object-of p c s a w 21 e) (leb-true s.a 31 (rw e at a.value))
      (λ f. absurd (omega (arith, eqb-true (mark_at (pool_at p s.object) (s.a % 256)) out (rw e at a.state), f)))
  puts (inr e) =
      put_in 22 e (object-of p c s a w 22 e) (leb-true s.a 31 (rw e at a.value))
      (λ f. absurd (omega (arith, eqb-true (mark_at (pool_at p s.object) (s.a % 256)) absent (rw e at a.state), f)))

  box-effects : 15 ≤ s.kind → eqb s.kind 15 ≡ false → eqb s.kind 16 ≡ false → eqb s.kind 17 ≡ false → eqb s.kind 20 ≡ false
      → Acts z p s (finished_at_once (box_effected p s) s.caller)
  unfolding box_effected count_in
  box-effects l e15 e16 e17 e20 =
      chosen (λ (h : Plant). Acts z p s (finished_at_once h s.caller)) (eqb s.kind 18)
      (λ e. let is = eqb-true s.kind 18 e in at-once (mailbox_reset p s.object) []
      (reset-acts p w s.object (object-of p c s a w 18 is)) refl)
      (λ e18. chosen (λ (h : Plant). Acts z p s (finished_at_once h s.caller)) (eqb s.kind 19)
      (λ e. let is = eqb-true s.kind 19 e in at-once (mailbox_resumed p s.object) []
      (resume-acts p w s.object (object-of p c s a w 19 is)) refl)
      (λ e19. puts
      (two-left s.kind l (leb-true s.kind 22 (both-means (leb 1 s.kind) (leb s.kind 22) a.kind).1)
      (eqb-false s.kind 15 e15) (eqb-false s.kind 16 e16) (eqb-false s.kind 17 e17) (eqb-false s.kind 20 e20)
      (eqb-false s.kind 18 e18) (eqb-false s.kind 19 e19))))

  -- EVERY ACCEPTED STEP IS A CHAIN, AND LEAVES THE TABLES WHOLE
  pub step-acts : Acts z p s (acted p c.time s)
  unfolding acted acted_on_box
  step-acts =
      chosen (Acts z p s) (leb s.kind 14) (λ e. kernel-acts p c s a w (leb-true s.kind 14 e))
      (λ e. chosen (Acts z p s) (eqb s.kind 15) (λ f. post-acts s.kind refl (inl (eqb-true s.kind 15 f)))
      (λ e15. chosen (Acts z p s) (eqb s.kind 16) (λ f. post-acts s.kind refl (inr (eqb-true s.kind 16 f)))
      (λ e16. chosen (Acts z p s) (eqb s.kind 17) (λ f. fetch-acts (eqb-true s.kind 17 f))
      (λ e17. chosen (Acts z p s) (eqb s.kind 20) (λ f. alloc-acts (eqb-true s.kind 20 f))
      (λ e20. box-effects (leb-false s.kind 14 e) e15 e16 e17 e20)))))
