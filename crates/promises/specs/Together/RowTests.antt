-- The test of a thread's record says exactly that the record is good.
use Rattle.std.specs.Prelude.{ℕ, ◌≤◌, ◌<◌, ◌≡◌, ◌≢◌, ◌⊎◌, true, false, not, ◌&&◌, ◌||◌, leb, ltb}
use Rattle.std.proofs.Common.{not-suc-le-zero, arith, ap, ◌∙◌}
use Rattle.std.proofs.Math.Logic.{inl, inr}
use Rattle.std.specs.Int.Bits.{bit_and}
use Rattle.std.proofs.Math.Dec.{eqb}
use borrow.Author.Tests.{eqb-true, eqb-false, eq-eqb, ne_eqb, ltb-true, lt-ltb, leb-true, le-leb, not-true, not-false}
use Rattle.kernel.specs.declared.records.Thread.{Thread}
use Rattle.kernel.specs.Numbers.{nowhere, ready, awaiting, infinite}
use Rattle.kernel.specs.Waiters.{is_ready}
use Rattle.kernel.specs.Moves.{awaited_by}
use Rattle.kernel.specs.Event.{is_met}
use Rattle.kernel.proofs.Cases.{split, same_or, chosen, contrary, both_true, both-means, first-fails, second-fails}
use Rattle.library.specs.declared.sizes.Sizes.{Sizes}
use Rattle.library.specs.Calls.{keeps_operand}
use Rattle.rules.specs.RowRules.{
  call_limit,
  call_clear,
  call_sound,
  call_fits,
  wait_state,
  wait_place,
  wait_fits,
  ticks_fit,
  awaited_fit,
  none_pending,
  flags_fit,
  cause_fits,
  row_fits,
}
use Rattle.promises.specs.Together.Tests.{either-means, either_first, either_second, neither-means, not-of}
use Rattle.promises.specs.Together.Good.{CallKind, GoodThread}

-- only the kinds that sleep have objects
kind-listed : (z : Sizes) (kind object : ℕ) → object < call_limit z kind → CallKind kind
kind-listed z n o h =
    same_or n 2 inl (λ n2. inr
    (same_or n 6 inl (λ n6. inr
    (same_or n 9 inl (λ n9. inr
    (same_or n 11 inl (λ n11. inr
    (same_or n 12 inl (λ n12. inr
    (same_or n 14 (λ e. inl (omega arith, omega arith)) (λ n14.
    same_or n 15 (λ e. inl (omega arith, omega arith)) (λ n15.
    same_or n 16 (λ e. inl (omega arith, omega arith)) (λ n16.
    same_or n 17 (λ e. inl (omega arith, omega arith)) (λ n17.
    same_or n 20 inr (λ n20.
    absurd (not-suc-le-zero
    (rw (
      ne_eqb n 2 n2,
      ne_eqb n 6 n6,
      ne_eqb n 9 n9,
      ne_eqb n 11 n11,
      ne_eqb n 12 n12,
      ne_eqb n 14 n14,
      ne_eqb n 15 n15,
      ne_eqb n 16 n16,
      ne_eqb n 17 n17,
      ne_eqb n 20 n20,
    ) at h)))))))))))))))))

module _ (z : Sizes) (t : Thread) where
  -- ---- the parts of the test

  clear_of : call_fits t z ≡ true → t.call.kind ≡ 0 → call_clear t.call ≡ true
  unfolding call_fits
  clear_of e h = rw (eq-eqb t.call.kind 0 h) at e

  sound-of : call_fits t z ≡ true → t.call.kind ≢ 0 → call_sound t.call z ≡ true
  unfolding call_fits
  sound-of e h = rw (ne_eqb t.call.kind 0 h) at e

  pub waits-of : wait_fits t ≡ true → t.state ≢ ready
      → (t.state ≡ wait_state t.call.kind) × (t.place ≡ wait_place t.call.kind t.call.object)
  unfolding wait_fits
  waits-of e h =
      let x =
      both-means (eqb t.state (wait_state t.call.kind)) (eqb t.place (wait_place t.call.kind t.call.object))
      (rw (ne_eqb t.state ready h) at e)
      in (
        eqb-true t.state (wait_state t.call.kind) x.0,
        eqb-true t.place (wait_place t.call.kind t.call.object)
            x.1,
      )

  pub nowhere-of : wait_fits t ≡ true → t.state ≡ ready → t.place ≡ nowhere
  unfolding wait_fits
  nowhere-of e h = eqb-true t.place nowhere (rw (eq-eqb t.state ready h) at e)

  pub no-ticks-of : ticks_fit t ≡ true → is_ready t || eqb t.call.timeout infinite ≡ true → t.remaining ≡ 0
  unfolding ticks_fit
  no-ticks-of e h = eqb-true t.remaining 0 (rw h at e)

  pub ticks-of : ticks_fit t ≡ true → is_ready t || eqb t.call.timeout infinite ≡ false
      → (1 ≤ t.remaining) × (t.remaining ≤ t.call.timeout)
  unfolding ticks_fit
  ticks-of e h =
      let x = both-means (leb 1 t.remaining) (leb t.remaining t.call.timeout) (rw h at e) in
      (leb-true 1 t.remaining x.0, leb-true t.remaining t.call.timeout x.1)

  pub none-pending-of : none_pending t ≡ true → t.state ≡ awaiting → bit_and t.pending t.awaited ≡ 0
  none-pending-of e h =
      eqb-true (bit_and t.pending t.awaited) 0
      (not-false (eqb (bit_and t.pending t.awaited) 0) (rw (eq-eqb t.state awaiting h) at (not-true (is_met t) e)))

  flags_of : flags_fit t ≡ true → (awaited_fit t ≡ true) × (none_pending t ≡ true)
  unfolding flags_fit
  flags_of e = both-means (awaited_fit t) (none_pending t) e

  pub parts : row_fits t z ≡ true
      → (call_fits t z ≡ true) × ((wait_fits t ≡ true) × ((ticks_fit t ≡ true) × ((flags_fit t ≡ true) × (cause_fits t ≡ true))))
  unfolding row_fits
  parts e =
      let a = both-means (call_fits t z) (wait_fits t && (ticks_fit t && (flags_fit t && cause_fits t))) e in
      let b = both-means (wait_fits t) (ticks_fit t && (flags_fit t && cause_fits t)) a.1 in
      let c = both-means (ticks_fit t) (flags_fit t && cause_fits t) b.1 in
      let d = both-means (flags_fit t) (cause_fits t) c.1 in
      (a.0, (b.0, (c.0, (d.0, d.1))))

  -- ---- the record

  object-of : call_sound t.call z ≡ true → t.call.object < call_limit z t.call.kind
  object-of e =
      ltb-true t.call.object (call_limit z t.call.kind) (both-means (ltb t.call.object (call_limit z t.call.kind)) _ e).0

  rest_of : call_sound t.call z ≡ true
      → (leb 1 t.call.timeout ≡ true) × (keeps_operand t.call.kind || eqb t.call.operand 0 ≡ true)
  rest_of e =
      both-means (leb 1 t.call.timeout) (keeps_operand t.call.kind || eqb t.call.operand 0)
      (both-means (ltb t.call.object (call_limit z t.call.kind)) _ e).1

  operand-of : keeps_operand t.call.kind || eqb t.call.operand 0 ≡ true → keeps_operand t.call.kind ≡ false
      → t.call.operand ≡ 0
  operand-of e h =
      elim (either-means (keeps_operand t.call.kind) (eqb t.call.operand 0) e) [
        | inl a ↦ contrary a h
        | inr b ↦ eqb-true t.call.operand 0 b
      ]

  cleared : call_clear t.call ≡ true → (t.call.object ≡ 0) × ((t.call.operand ≡ 0) × (t.call.timeout ≡ 0))
  cleared e =
      let a = both-means (eqb t.call.object 0) (eqb t.call.operand 0 && eqb t.call.timeout 0) e in
      let b = both-means (eqb t.call.operand 0) (eqb t.call.timeout 0) a.1 in
      (eqb-true t.call.object 0 a.0, (eqb-true t.call.operand 0 b.0, eqb-true t.call.timeout 0 b.1))

  pub neither : t.state ≢ ready → t.call.timeout ≢ infinite → is_ready t || eqb t.call.timeout infinite ≡ false
  neither n h = rw (ne_eqb t.state ready n, ne_eqb t.call.timeout infinite h)

  -- a record that passes is good
  pub row-good : row_fits t z ≡ true → GoodThread z t
  row-good e =
      let x = parts e in
      let f = flags_of x.1.1.1.0 in
      record {
        object = λ n. object-of (sound-of x.0 n);
        ready-ticks = λ h. no-ticks-of x.1.1.0 (either_first (eqb t.call.timeout infinite) (eq-eqb t.state ready h));
        infinite-ticks = λ h. no-ticks-of x.1.1.0 (either_second (is_ready t) (eq-eqb t.call.timeout infinite h));
        ticks = λ n h. ticks-of x.1.1.0 (neither n h);
        kind = λ n. kind-listed z t.call.kind t.call.object (object-of (sound-of x.0 n));
        timeout = λ n. leb-true 1 t.call.timeout (rest_of (sound-of x.0 n)).0;
        unready-call = λ n h. n ((waits-of x.1.0 n).0 ∙ ap wait_state h);
        unready-state = λ n. (waits-of x.1.0 n).0;
        unready-place = λ n. (waits-of x.1.0 n).1;
        ready-place = nowhere-of x.1.0;
        no-call = λ h. cleared (clear_of x.0 h);
        operand = λ n. operand-of (rest_of (sound-of x.0 n)).1;
        awaited = eqb-true t.awaited (awaited_by t.call) f.0;
        none-pending = none-pending-of f.1;
        cause = leb-true t.cause 8 x.1.1.1.1;
      }

  -- ---- and back

  of-call : GoodThread z t → call_fits t z ≡ true
  unfolding call_fits
  of-call g =
      chosen (λ v. v ≡ true) (eqb t.call.kind 0)
      (λ e.
      let x = g.no-call (eqb-true t.call.kind 0 e) in
      both_true (eq-eqb t.call.object 0 x.0)
      (both_true (eq-eqb t.call.operand 0 x.1.0) (eq-eqb t.call.timeout 0 x.1.1)))
      (λ e.
      let n = eqb-false t.call.kind 0 e in
      both_true (lt-ltb t.call.object (call_limit z t.call.kind) (g.object n))
      (both_true (le-leb 1 t.call.timeout (g.timeout n))
      (split (keeps_operand t.call.kind)
      (either_first (eqb t.call.operand 0))
      (λ k. either_second (keeps_operand t.call.kind) (eq-eqb t.call.operand 0 (g.operand n k))))))

  pub of-waits : (t.state ≡ ready → t.place ≡ nowhere)
      → (t.state ≢ ready → (t.state ≡ wait_state t.call.kind) × (t.place ≡ wait_place t.call.kind t.call.object))
      → wait_fits t ≡ true
  unfolding wait_fits
  of-waits rests waits =
      chosen (λ v. v ≡ true) (is_ready t)
      (λ e. eq-eqb t.place nowhere (rests (eqb-true t.state ready e)))
      (λ e.
      let x = waits (eqb-false t.state ready e) in
      both_true (eq-eqb t.state (wait_state t.call.kind) x.0)
      (eq-eqb t.place (wait_place t.call.kind t.call.object) x.1))

  pub of-ticks : ((t.state ≡ ready) ⊎ (t.call.timeout ≡ infinite) → t.remaining ≡ 0)
      → (t.state ≢ ready → t.call.timeout ≢ infinite → (1 ≤ t.remaining) × (t.remaining ≤ t.call.timeout)) → ticks_fit t ≡ true
  unfolding ticks_fit
  of-ticks none some =
      chosen (λ v. v ≡ true) (is_ready t || eqb t.call.timeout infinite)
      (λ e. eq-eqb t.remaining 0 (none (reason (either-means (is_ready t) (eqb t.call.timeout infinite) e))))
      (λ e.
      let n = neither-means (is_ready t) (eqb t.call.timeout infinite) e in
      let x = some (eqb-false t.state ready n.0) (eqb-false t.call.timeout infinite n.1) in
      both_true (le-leb 1 t.remaining x.0) (le-leb t.remaining t.call.timeout x.1))
    where
      reason : (is_ready t ≡ true) ⊎ (eqb t.call.timeout infinite ≡ true) → (t.state ≡ ready) ⊎ (t.call.timeout ≡ infinite)
      reason (inl a) = inl (eqb-true t.state ready a)
      reason (inr b) = inr (eqb-true t.call.timeout infinite b)

  pub of-met : (t.state ≡ awaiting → bit_and t.pending t.awaited ≡ 0) → is_met t ≡ false
  of-met none =
      split (eqb t.state awaiting)
      (λ e.
      second-fails (eqb t.state awaiting)
      (rw (eq-eqb (bit_and t.pending t.awaited) 0 (none (eqb-true t.state awaiting e)))))
      (first-fails (not (eqb (bit_and t.pending t.awaited) 0)))

  of-flags : GoodThread z t → flags_fit t ≡ true
  unfolding flags_fit
  of-flags g = both_true (eq-eqb t.awaited (awaited_by t.call) g.awaited) (not-of (of-met g.none-pending))

  -- a ready thread, or an infinite timeout
  no-ticks : GoodThread z t → (t.state ≡ ready) ⊎ (t.call.timeout ≡ infinite) → t.remaining ≡ 0
  no-ticks g (inl e) = g.ready-ticks e
  no-ticks g (inr e) = g.infinite-ticks e

  -- a good record passes
  pub good-row : GoodThread z t → row_fits t z ≡ true
  unfolding row_fits
  good-row g =
      both_true (of-call g)
      (both_true (of-waits g.ready-place (λ n. (g.unready-state n, g.unready-place n)))
      (both_true (of-ticks (no-ticks g) g.ticks) (both_true (of-flags g) (le-leb t.cause 8 g.cause))))
