-- A step is refused with the number of the first rule that it breaks, and accepted exactly if it breaks none: each test of `refusal_of`
-- fails just where its rule of Paper/Refusals is broken.
use Rattle.std.specs.Prelude.{ℕ, ◌≤◌, ◌<◌, ◌≡◌, refl, ◌≢◌, ◌⊎◌, Bool, true, false, cond, not, ◌||◌, eqb, leb, length}
use Rattle.std.proofs.Common.{arith, ◌∙◌, inl, inr, eqb-true, ne_eqb, leb-true, leb-false, le-leb, lt-ltb, le-ltb}
use Rattle.std.proofs.lemmas.Bool.{eqb-false, lt-leb, not-true, not-false}
use Rattle.kernel.specs.declared.clock.Clock.{Clock}
use Rattle.kernel.specs.Numbers.{nobody, infinite}
use Rattle.kernel.specs.Time.{differed}
use Rattle.kernel.specs.Tables.{holder_at}
use Rattle.kernel.specs.Waiters.{first_ready}
use Rattle.kernel.specs.Walk.{first_from}
use Rattle.kernel.proofs.Cases.{next, split, same_or, in-or-out, contrary, both_true, both-means, second-fails}
use Rattle.kernel.proofs.WalkLaws.{Least, first-cases}
use Rattle.library.specs.declared.calls.Step.{Step}
use Rattle.library.specs.declared.sizes.Sizes.{Sizes}
use Rattle.library.specs.declared.tables.Plant.{Plant}
use Rattle.library.specs.declared.tables.Tables.{Tables}
use Rattle.library.specs.Tables.{opened, pool_at}
use Rattle.library.specs.Pool.{absent, out, mark_at}
use Rattle.library.specs.Acting.{kernel_waits}
use Rattle.library.specs.Settling.{is_box_call}
use Rattle.rules.specs.Hanging.{hangs_together}
use Rattle.steps.specs.Refusal.{kind_fits, caller_fits, context_fits, object_limit, is_span, value_fits, state_fits, refusal_of}
use Rattle.promises.specs.Together.Tests.{either-means, neither-means}
use Rattle.promises.specs.Together.Good.{Good}
use Rattle.promises.specs.Together.Hanging.{test-hangs, hangs-test}
use Rattle.promises.specs.Paper.World.{found as world, First}
use Rattle.promises.specs.Paper.Refusals.{KernelWait, BoxWait, NoSpan, Broken}
use Rattle.promises.specs.Meant.Together.{rules-together, together-rules}
use Rattle.promises.specs.Meant.Kinds.{object-byte}
use Rattle.promises.specs.Meant.Settling.{running-first}
use Rattle.promises.specs.Meant.Only.{first-only}

-- ---- the tests in plain terms

-- how many objects of its sort there are, by kind
module _ (z : Sizes) (k : ℕ) where
  limit-semaphores : 2 ≤ k → k ≤ 5 → object_limit z k ≡ z.semaphores
  limit-semaphores a b = rw (lt-leb k 1 (omega arith), le-leb k 5 b)

  limit-queues : 6 ≤ k → k ≤ 8 → object_limit z k ≡ z.queues
  limit-queues a b = rw (lt-leb k 1 (omega arith), lt-leb k 5 (omega arith), le-leb k 8 b)

  limit-references : 9 ≤ k → k ≤ 10 → object_limit z k ≡ z.references
  limit-references a b = rw (lt-leb k 1 (omega arith), lt-leb k 5 (omega arith), lt-leb k 8 (omega arith), le-leb k 10 b)

  beyond : 15 ≤ k → object_limit z k ≡ cond (leb k 19) z.mailboxes z.pools
  beyond a =
      rw (
        lt-leb k 1 (omega arith),
        lt-leb k 5 (omega arith),
        lt-leb k 8 (omega arith),
        lt-leb k 10 (omega arith),
        ne_eqb k 13 (λ e. omega arith),
        lt-leb k 14 (omega arith),
      )

  limit-mailboxes : 15 ≤ k → k ≤ 19 → object_limit z k ≡ z.mailboxes
  limit-mailboxes a b = beyond a ∙ rw (le-leb k 19 b)

  limit-pools : 20 ≤ k → object_limit z k ≡ z.pools
  limit-pools a = beyond (omega arith) ∙ rw (lt-leb k 19 a)

  limit-none : 11 ≤ k → k ≤ 14 → k ≢ 13 → object_limit z k ≡ 256
  limit-none a b d =
      rw (
        lt-leb k 1 (omega arith),
        lt-leb k 5 (omega arith),
        lt-leb k 8 (omega arith),
        lt-leb k 10 (omega arith),
        ne_eqb k 13 d,
        le-leb k 14 b,
      )

kernel-wait : (n : ℕ) → KernelWait n → kernel_waits n ≡ true
kernel-wait n (inl e) = rw e
kernel-wait n (inr (inl e)) = rw e
kernel-wait n (inr (inr (inl e))) = rw e
kernel-wait n (inr (inr (inr (inl e)))) = rw e
kernel-wait n (inr (inr (inr (inr (inl e))))) = rw e
kernel-wait n (inr (inr (inr (inr (inr e))))) = rw e

-- one of several numbers, or the others
one_of : {A : Type 0} (n k : ℕ) (b : Bool) → (b ≡ true → A) → eqb n k || b ≡ true → (n ≡ k) ⊎ A
one_of n k b f e = elim (either-means (eqb n k) b e) [ inl h ↦ inl (eqb-true n k h) | inr h ↦ inr (f h) ]

waits-kernel : (n : ℕ) → kernel_waits n ≡ true → KernelWait n
waits-kernel n =
    one_of n 2 _ (one_of n 6 _ (one_of n 9 _ (one_of n 11 _ (one_of n 12 _ (eqb-true n 14)))))

calls-box : (n : ℕ) → is_box_call n ≡ true → BoxWait n
calls-box n = one_of n 15 _ (one_of n 16 _ (one_of n 17 _ (eqb-true n 20)))

box-call : (n : ℕ) → BoxWait n → (is_box_call n ≡ true) × (kernel_waits n ≡ false)
box-call n (inl e) = rw e (refl, refl)
box-call n (inr (inl e)) = rw e (refl, refl)
box-call n (inr (inr (inl e))) = rw e (refl, refl)
box-call n (inr (inr (inr e))) = rw e (refl, refl)

no_span : (d : ℕ) → NoSpan d → is_span d ≡ false
no_span d (inl e) = rw e
no_span d (inr h) = second-fails (leb 1 d) (le-ltb d infinite h)

span-not : (d : ℕ) → is_span d ≡ false → NoSpan d
span-not d e =
    same_or d 0 inl
    (λ n. inr (in-or-out d 4294967295 (λ h. contrary (both_true (le-leb 1 d (omega arith)) (lt-ltb d infinite h)) e) (λ h. h)))

module _ (t : Tables) (c : Clock) (s : Step) where
  abbrev p : Plant
  p = opened t

  abbrev r : ℕ
  r = first_ready p.kernel

  -- the running thread is the first ready one
  first_runs : Good p → s.caller ≢ 255 → s.caller ≡ r → First (world t) s.caller
  first_runs good d e =
      elim (running-first p good) [
        | inl g ↦ rw e (record { thread = g.thread; is-ready = g.is-ready; first = g.first })
        | inr g ↦ absurd (d (e ∙ g.nobody))
      ]

  runs-first : Good p → First (world t) s.caller → s.caller ≡ r
  runs-first good f =
      elim (running-first p good) [
        | inl g ↦ first-only (world t) s.caller r f (record { thread = g.thread; is-ready = g.is-ready; first = g.first })
        | inr g ↦ absurd (g.none s.caller f.thread f.is-ready)
      ]

  -- the test of each rule
  abbrev passes : ℕ → Bool
  passes n =
      cond (eqb n 1) (hangs_together p c)
      (cond (eqb n 2) (kind_fits s.kind)
      (cond (eqb n 3) (caller_fits r s.caller)
      (cond (eqb n 4) (context_fits s)
      (cond (eqb n 5) (not (leb (object_limit p.sizes s.kind) s.object))
      (cond (eqb n 6) (value_fits c.time s) (cond (eqb n 7) (state_fits p.kernel.references p.pools s) true))))))

  -- the refusal is the first number whose rule fails, or 0
  abbrev found : ℕ
  found = first_from (λ n. not (passes n)) 0 8

  refusal-found : refusal_of p c s ≡ cond (eqb found nobody) 0 found
  unfolding refusal_of first_from
  refusal-found =
      split (hangs_together p c)
      (λ e1. rw e1
      (split (kind_fits s.kind)
      (λ e2. rw e2
      (split (caller_fits r s.caller)
      (λ e3. rw e3
      (split (context_fits s)
      (λ e4. rw e4
      (split (leb (object_limit p.sizes s.kind) s.object)
      (λ e5. rw e5)
      (λ e5. rw e5
      (split (value_fits c.time s)
      (λ e6. rw e6 (split (state_fits p.kernel.references p.pools s) (λ e7. rw e7) (λ e7. rw e7)))
      (λ e6. rw e6)))))
      (λ e4. rw e4)))
      (λ e3. rw e3)))
      (λ e2. rw e2)))
      (λ e1. rw e1)

  -- a rule that is broken fails its test
  broken-fails : {n : ℕ} → (n ≡ 3 → Good p) → Broken t c s n → passes n ≡ false
  broken-fails good (Broken.tables h) = split (hangs_together p c) (λ e. absurd (h (rules-together t c (test-hangs p c e)))) (λ e. e)
  broken-fails good (Broken.no_kind e) = rw e
  broken-fails good (Broken.other-kind h) = second-fails (leb 1 s.kind) (lt-leb s.kind 22 h)
  broken-fails good (Broken.caller a b) = rw (ne_eqb s.caller 255 a, ne_eqb s.caller r (λ e. b (first_runs (good refl) a e)))
  broken-fails good (Broken.tick a e) = rw (ne_eqb s.caller 255 a, e)
  broken-fails good (Broken.wait a k) = rw (a, kernel-wait s.kind k)
  broken-fails good (Broken.box-wait a k t) = rw (a, (box-call s.kind k).1, (box-call s.kind k).0, ne_eqb s.timeout 0 t)
  broken-fails good (Broken.semaphore a b h) = rw (limit-semaphores p.sizes s.kind a b, le-leb p.sizes.semaphores s.object h)
  broken-fails good (Broken.queue a b h) = rw (limit-queues p.sizes s.kind a b, le-leb p.sizes.queues s.object h)
  broken-fails good (Broken.reference a b h) = rw (limit-references p.sizes s.kind a b, le-leb p.sizes.references s.object h)
  broken-fails good (Broken.thread e h) = rw (e, le-leb p.sizes.threads s.object h)
  broken-fails good (Broken.mailbox a b h) = rw (limit-mailboxes p.sizes s.kind a b, le-leb p.sizes.mailboxes s.object h)
  broken-fails good (Broken.pool a b h) = rw (limit-pools p.sizes s.kind a, le-leb p.sizes.pools s.object h)
  broken-fails good (Broken.reset e h) = rw (e, lt-leb s.a 2147483647 h)
  broken-fails good (Broken.pool-object (inl e) h) = rw (e, lt-leb s.a 31 h)
  broken-fails good (Broken.pool-object (inr e) h) = rw (e, lt-leb s.a 31 h)
  broken-fails good (Broken.mask e z) = rw (e, z)
  broken-fails good (Broken.sleep-for e d) = rw (e, no_span s.timeout d)
  broken-fails good (Broken.sleep-until e d) = rw (e, no_span (differed c.time (record { 0 = s.a })).0 d)
  broken-fails good (Broken.suspend e d) = rw (e, ne_eqb (holder_at p.kernel s.object) 255 d)
  broken-fails good (Broken.free e h d) = rw (e, object-byte s h, ne_eqb (mark_at (pool_at p s.object) s.a) out d)
  broken-fails good (Broken.add e h d) = rw (e, object-byte s h, ne_eqb (mark_at (pool_at p s.object) s.a) absent d)

  -- ---- and a test that fails has its rule broken

  kind-broken : kind_fits s.kind ≡ false → Broken t c s 2
  kind-broken e =
      same_or s.kind 0 Broken.no_kind
      (λ d. in-or-out 22 s.kind Broken.other-kind
      (λ h. contrary (both_true (le-leb 1 s.kind (omega arith)) (le-leb s.kind 22 h)) e))

  caller-broken : Good p → caller_fits r s.caller ≡ false → Broken t c s 3
  caller-broken good e =
      let x = neither-means (eqb s.caller nobody) (eqb s.caller r) e in
      Broken.caller (eqb-false s.caller nobody x.0) (λ f. eqb-false s.caller r x.1 (runs-first good f))

  context-broken : context_fits s ≡ false → Broken t c s 4
  context-broken e =
      split (eqb s.caller nobody)
      (λ a.
      let i = eqb-true s.caller nobody a in
      split (kernel_waits s.kind) (λ k. Broken.wait i (waits-kernel s.kind k))
      (λ k. split (is_box_call s.kind) (λ b. Broken.box-wait i (calls-box s.kind b) (eqb-false s.timeout 0 (rw (a, k, b) at e)))
      (λ b. contrary refl (rw (a, k, b) at e))))
      (λ a. Broken.tick (eqb-false s.caller nobody a) (eqb-true s.kind 1 (not-false (eqb s.kind 1) (rw a at e))))

  object-broken : s.object < 256 → kind_fits s.kind ≡ true → object_limit p.sizes s.kind ≤ s.object → Broken t c s 5
  object-broken byte fits h =
      let k = s.kind in
      let z = p.sizes in
      let top = leb-true k 22 (both-means (leb 1 k) (leb k 22) fits).1 in
      in-or-out k 2 (λ a. absurd (omega (arith, rw (le-leb k 1 (omega arith)) at h)))
      (λ a. in-or-out k 6 (λ b. Broken.semaphore a (omega arith) (rw (limit-semaphores z k a (omega arith)) at h))
      (λ b. in-or-out k 9 (λ d. Broken.queue b (omega arith) (rw (limit-queues z k b (omega arith)) at h))
      (λ d. in-or-out k 11 (λ f. Broken.reference d (omega arith) (rw (limit-references z k d (omega arith)) at h))
      (λ f. in-or-out k 15
      (λ g. same_or k 13 (λ e. Broken.thread e (rw e at h)) (λ n. absurd (omega (arith, rw (limit-none z k f (omega arith) n) at h))))
      (λ g. in-or-out k 20 (λ l. Broken.mailbox g (omega arith) (rw (limit-mailboxes z k g (omega arith)) at h))
      (λ l. Broken.pool l top (rw (limit-pools z k l) at h)))))))

  value-broken : value_fits c.time s ≡ false → Broken t c s 6
  value-broken h =
      let k = s.kind in
      same_or k 4 (λ e. Broken.reset e (leb-false s.a 2147483647 (rw e at h)))
      (λ n4. same_or k 11 (λ e. Broken.sleep-for e (span-not s.timeout (rw e at h)))
      (λ n11. same_or k 12 (λ e. Broken.sleep-until e (span-not (differed c.time (record { 0 = s.a })).0 (rw e at h)))
      (λ n12. same_or k 14 (λ e. Broken.mask e (none (leb-false 1 s.a (rw e at h))))
      (λ n14. same_or k 21 (λ e. Broken.pool-object (inl e) (leb-false s.a 31 (rw e at h)))
      (λ n21. same_or k 22 (λ e. Broken.pool-object (inr e) (leb-false s.a 31 (rw e at h)))
      (λ n22.
      contrary refl
      (rw (ne_eqb k 4 n4, ne_eqb k 11 n11, ne_eqb k 12 n12, ne_eqb k 14 n14, ne_eqb k 21 n21, ne_eqb k 22 n22) at h)))))))
    where
      none : s.a < 1 → s.a ≡ 0
      none l = omega arith

  state-broken : value_fits c.time s ≡ true → state_fits p.kernel.references p.pools s ≡ false → Broken t c s 7
  state-broken v h =
      let k = s.kind in
      same_or k 9 (λ e. Broken.suspend e (eqb-false (holder_at p.kernel s.object) nobody (rw e at h)))
      (λ n9. same_or k 21
      (λ e.
      let l = leb-true s.a 31 (rw e at v) in
      Broken.free e l (eqb-false (mark_at (pool_at p s.object) s.a) out (rw (e, object-byte s l) at h)))
      (λ n21. same_or k 22
      (λ e.
      let l = leb-true s.a 31 (rw e at v) in
      Broken.add e l (eqb-false (mark_at (pool_at p s.object) s.a) absent (rw (e, object-byte s l) at h)))
      (λ n22. contrary refl (rw (ne_eqb k 9 n9, ne_eqb k 21 n21, ne_eqb k 22 n22) at h))))

  -- the rule of a number whose test is the first to fail
  rule-broken : length t.kernel.threads ≡ 16 → s.object < 256 → (n : ℕ) → n ≢ 0 → n < 8 → passes n ≡ false → ((m : ℕ) → m < n → passes m ≡ true) → Broken t c s n
  rule-broken rows byte n d l h before =
      next n 1 (omega arith) (λ e. rw e (Broken.tables (λ g. contrary (hangs-test p c (together-rules t c rows g)) (rw e at h))))
      (λ a2. next n 2 a2 (λ e. rw e (kind-broken (rw e at h)))
      (λ a3. next n 3 a3 (λ e. rw e (caller-broken (test-hangs p c (before 1 (omega arith))).good (rw e at h)))
      (λ a4. next n 4 a4 (λ e. rw e (context-broken (rw e at h)))
      (λ a5. next n 5 a5 (λ e. rw e (object-broken byte (before 2 (omega arith)) (over (rw e at h))))
      (λ a6. next n 6 a6 (λ e. rw e (value-broken (rw e at h)))
      (λ a7. let e : n ≡ 7 = omega arith in rw e (state-broken (before 6 (omega arith)) (rw e at h))))))))
    where
      over : not (leb (object_limit p.sizes s.kind) s.object) ≡ false → object_limit p.sizes s.kind ≤ s.object
      over e =
          let limit = object_limit p.sizes s.kind in
          leb-true limit s.object (not-false (leb limit s.object) e)

  -- there is no eighth rule
  no_more : (n : ℕ) → 8 ≤ n → passes n ≡ true
  no_more n h =
      rw (
        ne_eqb n 1 (λ e. omega arith),
        ne_eqb n 2 (λ e. omega arith),
        ne_eqb n 3 (λ e. omega arith),
        ne_eqb n 4 (λ e. omega arith),
        ne_eqb n 5 (λ e. omega arith),
        ne_eqb n 6 (λ e. omega arith),
        ne_eqb n 7 (λ e. omega arith),
      )

-- r is the number of the first rule that a step breaks, or 0 if it breaks none
pub record FirstBroken (t : Tables) (c : Clock) (s : Step) (r : ℕ) : Type 0 where
  pub broken : r ≢ 0 → Broken t c s r
  pub before : (n : ℕ) → n < r → Broken t c s n → ⊥
  pub none : r ≡ 0 → (n : ℕ) → Broken t c s n → ⊥

module _ (t : Tables) (c : Clock) (s : Step) (rows : length t.kernel.threads ≡ 16) (byte : s.object < 256) where
  -- whose rule 1 holds is good
  good-then : passes t c s 1 ≡ true → Good (opened t)
  good-then e = (test-hangs (opened t) c e).good

  -- "Refusal numbers, in the order of checking"
  pub first-broken : FirstBroken t c s (refusal_of (opened t) c s)
  first-broken =
      rw (refusal-found t c s)
      (elim (first-cases (λ n. not (passes t c s n)) 8) [
        | inl f ↦ at_first (found t c s) f
        | inr f ↦ rw f.0 (record {
          broken = λ d. absurd (d refl);
          before = λ n l. absurd (omega arith);
          none = λ e n b. contrary (holds f n) (broken-fails t c s (λ x. good-then (holds f 1)) b);
        })
      ])
    where
      holds : (found t c s ≡ nobody) × ((n : ℕ) → n < 8 → not (passes t c s n) ≡ false) → (n : ℕ) → passes t c s n ≡ true
      holds f n = in-or-out n 8 (λ l. not-false (passes t c s n) (f.1 n l)) (no_more t c s n)

      some : {r : ℕ} → r ≡ 0 → passes t c s r ≡ false → ⊥
      some e h = contrary refl (rw e at h)

      at_first : (r : ℕ) → Least (λ n. not (passes t c s n)) 8 r → FirstBroken t c s (cond (eqb r nobody) 0 r)
      at_first r f =
          let apart : r ≢ nobody = omega (arith, f.below) in
          let earlier : (m : ℕ) → m < r → passes t c s m ≡ true = λ m l. not-false (passes t c s m) (f.least m l) in
          let fails = not-true (passes t c s r) f.passes in
          rw (ne_eqb r nobody apart)
          (record {
            broken = λ d. rule-broken t c s rows byte r d f.below fails earlier;
            before = λ n l b. contrary (earlier n l) (broken-fails t c s (λ x. good-then (earlier 1 (omega (arith, x, l)))) b);
            none = λ e. absurd (some e fails);
          })
