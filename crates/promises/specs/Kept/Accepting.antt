-- What an accepted step has passed: all the refusals of document 01, each as a fact; and who may wait in it.
use Rattle.std.specs.Prelude.{ℕ, ◌<◌, ◌≡◌, refl, ◌≢◌, Bool, true, false, cond, leb}
use Rattle.std.proofs.Common.{arith}
use borrow.Author.Tests.{eq-eqb, leb-false}
use Rattle.kernel.specs.declared.clock.Clock.{Clock}
use Rattle.kernel.specs.Numbers.{nobody}
use Rattle.kernel.specs.Waiters.{first_ready}
use Rattle.kernel.proofs.Cases.{contrary}
use Rattle.library.specs.declared.calls.Step.{Step}
use Rattle.library.specs.declared.tables.Plant.{Plant}
use Rattle.library.specs.Acting.{kernel_waits}
use Rattle.library.specs.Causes.{caused}
use Rattle.library.specs.Settling.{running_in}
use Rattle.rules.specs.Hanging.{hangs_together}
use Rattle.rules.specs.RowRules.{rows_fit}
use Rattle.rules.specs.PlaceRules.{queued_count, counters_fit}
use Rattle.rules.specs.ReferenceRules.{holder_fits, references_fit}
use Rattle.rules.specs.MailboxRules.{mailboxes_fit}
use Rattle.rules.specs.PoolRules.{promised_count, pools_fit}
use Rattle.rules.specs.WordRules.{ready_word, waiting_word, ready_fits, waiting_fits, words_fit}
use Rattle.steps.specs.Refusal.{kind_fits, caller_fits, context_fits, object_limit, value_fits, state_fits, refusal_of}

-- none of the seven refusals is given
pub record Accepted (p : Plant) (c : Clock) (s : Step) : Type 0 where
  -- 1: "the tables break a rule"
  pub hangs : hangs_together p c ≡ true
  -- 2: "kind not 1 to 22"
  pub kind : kind_fits s.kind ≡ true
  -- 3: "caller is neither 255 nor the running thread"
  pub caller : caller_fits (running_in p) s.caller ≡ true
  -- 4: the step is not for its caller
  pub context : context_fits s ≡ true
  -- 5: "object not in the configuration"
  pub object : s.object < object_limit p.sizes s.kind
  -- 6: a value out of its range
  pub value : value_fits c.time s ≡ true
  -- 7: a state in which the step cannot be done
  pub state : state_fits p.kernel.references p.pools s ≡ true

-- a choice that comes to 0 was made by its test, where the other side is not 0
passed : (b : Bool) (x y : ℕ) → y ≢ 0 → cond b x y ≡ 0 → (b ≡ true) × (x ≡ 0)
passed true x y n e = (refl, e)
passed false x y n e = absurd (n e)

-- and one that refuses by its test
not-failed : (b : Bool) (x y : ℕ) → x ≢ 0 → cond b x y ≡ 0 → (b ≡ false) × (y ≡ 0)
not-failed true x y n e = absurd (n e)
not-failed false x y n e = (refl, e)

module _ (p : Plant) (c : Clock) (s : Step) where
  -- a step without a refusal has passed all of them
  pub refusal-none : refusal_of p c s ≡ 0 → Accepted p c s
  unfolding refusal_of
  refusal-none e =
      let a = passed (hangs_together p c) _ 1 (λ z. omega arith) e in
      let b = passed (kind_fits s.kind) _ 2 (λ z. omega arith) a.1 in
      let d = passed (caller_fits (running_in p) s.caller) _ 3 (λ z. omega arith) b.1 in
      let f = passed (context_fits s) _ 4 (λ z. omega arith) d.1 in
      let g = not-failed (leb (object_limit p.sizes s.kind) s.object) 5 _ (λ z. omega arith) f.1 in
      let h = passed (value_fits c.time s) _ 6 (λ z. omega arith) g.1 in
      let i = passed (state_fits p.kernel.references p.pools s) 0 7 (λ z. omega arith) h.1 in
      record {
        hangs = a.0;
        kind = b.0;
        caller = d.0;
        context = f.0;
        object = leb-false (object_limit p.sizes s.kind) s.object g.0;
        value = h.0;
        state = i.0;
      }

  -- whatever call is at work
  pub accepted-as : (kind : ℕ) → Accepted p c s → Accepted (caused p kind) c s
  unfolding hangs_together rows_fit counters_fit queued_count references_fit holder_fits mailboxes_fit pools_fit promised_count first_ready ready_word waiting_word ready_fits waiting_fits words_fit
  accepted-as kind a =
      record {
        hangs = a.hangs;
        kind = a.kind;
        caller = a.caller;
        context = a.context;
        object = a.object;
        value = a.value;
        state = a.state;
      }

  -- who calls where an interrupt may not is a thread
  pub waits-thread : Accepted p c s → kernel_waits s.kind ≡ true → s.caller ≢ nobody
  waits-thread a w e = clash (rw (eq-eqb s.caller nobody e, w) at a.context)
    where
      clash : false ≡ true → ⊥
      clash z = contrary z refl
