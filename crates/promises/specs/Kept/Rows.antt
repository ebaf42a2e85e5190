-- What each move does to one thread's record, and that a record that hangs together stays so.
use Rattle.std.specs.Prelude.{ℕ, ◌-◌, ◌≤◌, ◌<◌, ◌≡◌, refl, ◌≢◌, false, ℤ}
use Rattle.std.proofs.Common.{arith, sym, ◌∙◌, inl, inr, eq-eqb, ne_eqb}
use Rattle.std.specs.Int.Bits.{bit_and}
use Rattle.kernel.specs.declared.records.Call.{Call}
use Rattle.kernel.specs.declared.records.Thread.{Thread}
use Rattle.kernel.specs.Numbers.{ready, awaiting, infinite}
use Rattle.kernel.specs.Moves.{readied, asleep, answered, ticks_of, awaited_by}
use Rattle.kernel.specs.Event.{with_pending}
use Rattle.kernel.specs.Ticking.{counted_off}
use Rattle.kernel.proofs.Cases.{same_or}
use Rattle.library.specs.declared.sizes.Sizes.{Sizes}
use Rattle.library.specs.Calls.{keeps_operand}
use Rattle.rules.specs.RowRules.{call_limit, wait_state, wait_place}
use Rattle.promises.specs.Together.Good.{CallKind, GoodThread}

-- a call with which a thread may sleep: "An unfinished call is of kind 2, 6, 9, 11, 12, 14 to 17 or 20, its timeout above 0"
pub record CallSound (z : Sizes) (c : Call) : Type 0 where
  pub kind : CallKind c.kind
  pub object : c.object < call_limit z c.kind
  pub timeout : 1 ≤ c.timeout
  pub operand : keeps_operand c.kind ≡ false → c.operand ≡ 0

-- how a call sleeps: in its kind's state, at its object's place
abbrev pub asleep_in : Thread → Call → Thread
asleep_in t c = asleep t (wait_state c.kind) (wait_place c.kind c.object) c

-- ---- a record that hangs together stays so

-- by the kind of a call that may sleep
pub each-kind : (P : ℕ → Type 0) → P 2 → P 6 → P 9 → P 11 → P 12 → P 14 → P 15 → P 16 → P 17 → P 20 → (n : ℕ) → CallKind n → P n
each-kind P a b c d e f g h i j n (inl k) = rw k a
each-kind P a b c d e f g h i j n (inr (inl k)) = rw k b
each-kind P a b c d e f g h i j n (inr (inr (inl k))) = rw k c
each-kind P a b c d e f g h i j n (inr (inr (inr (inl k)))) = rw k d
each-kind P a b c d e f g h i j n (inr (inr (inr (inr (inl k))))) = rw k e
each-kind P a b c d e f g h i j n (inr (inr (inr (inr (inr (inl k)))))) =
    same_or n 14 (λ s. rw s f)
    (λ x. same_or n 15 (λ s. rw s g)
    (λ y. same_or n 16 (λ s. rw s h) (λ z. rw (last n k x y z) i)))
  where
    last : (n : ℕ) → (14 ≤ n) × (n ≤ 17) → n ≢ 14 → n ≢ 15 → n ≢ 16 → n ≡ 17
    last n h a b c = omega (arith, h.0, h.1)
each-kind P a b c d e f g h i j n (inr (inr (inr (inr (inr (inr k)))))) = rw k j

pub kind-some : (n : ℕ) → CallKind n → n ≢ 0
kind-some =
    each-kind (λ n. n ≢ 0) (omega arith) (omega arith) (omega arith) (omega arith) (omega arith) (omega arith) (omega arith)
    (omega arith)
    (omega arith) (omega arith)

pub not-awaiting : ready ≡ awaiting → ⊥
not-awaiting e = omega arith

pub readied-good : (z : Sizes) (t : Thread) (m : ℤ) (c n : ℕ) → c ≤ 8 → GoodThread z t → GoodThread z (readied t m c n)
readied-good z t m c n l g =
    record {
      object = g.object;
      ready-ticks = λ e. refl;
      infinite-ticks = λ e. refl;
      ticks = λ n e. absurd (n refl);
      kind = g.kind;
      timeout = g.timeout;
      unready-call = λ n. absurd (n refl);
      unready-state = λ n. absurd (n refl);
      unready-place = λ n. absurd (n refl);
      ready-place = λ e. refl;
      no-call = g.no-call;
      operand = g.operand;
      awaited = g.awaited;
      none-pending = λ e. absurd (not-awaiting e);
      cause = l;
    }

-- no kind of call sleeps ready
pub waits-unready : (n : ℕ) → CallKind n → wait_state n ≢ ready
waits-unready =
    each-kind (λ n. wait_state n ≢ ready) (omega arith) (omega arith) (omega arith) (omega arith) (omega arith) (omega arith)
    (omega arith)
    (omega arith) (omega arith) (omega arith)

-- "else 1 to the call's timeout"
ticks-timed : (t : ℕ) → t ≢ infinite → ticks_of t ≡ t
ticks-timed t n = rw (ne_eqb t infinite n)

ticks-infinite : (t : ℕ) → t ≡ infinite → ticks_of t ≡ 0
ticks-infinite t e = rw (eq-eqb t infinite e)

pub asleep-good : (z : Sizes) (t : Thread) (c : Call) → CallSound z c
    → (wait_state c.kind ≡ awaiting → bit_and t.pending (awaited_by c) ≡ 0) → t.cause ≤ 8
    → GoodThread z (asleep_in t c)
asleep-good z t c f p l =
    record {
      object = λ n. f.object;
      ready-ticks = λ e. absurd (waits-unready c.kind f.kind e);
      infinite-ticks = ticks-infinite c.timeout;
      ticks = λ n e. rw (ticks-timed c.timeout e) (f.timeout, omega arith);
      kind = λ n. f.kind;
      timeout = λ n. f.timeout;
      unready-call = λ n. kind-some c.kind f.kind;
      unready-state = λ n. refl;
      unready-place = λ n. refl;
      ready-place = λ e. absurd (waits-unready c.kind f.kind e);
      no-call = λ e. absurd (kind-some c.kind f.kind e);
      operand = λ n. f.operand;
      awaited = refl;
      none-pending = p;
      cause = l;
    }

pub answered-good : (z : Sizes) (t : Thread) (m : ℤ) (d : ℕ) → t.state ≡ ready → GoodThread z t
    → GoodThread z (answered t (record { message = m; datum = d }))
answered-good z t m d r g =
    record {
      object = λ n. absurd (n refl);
      ready-ticks = g.ready-ticks;
      infinite-ticks = λ e. g.ready-ticks r;
      ticks = λ n e. absurd (n r);
      kind = λ n. absurd (n refl);
      timeout = λ n. absurd (n refl);
      unready-call = λ n. absurd (n r);
      unready-state = λ n. absurd (n r);
      unready-place = λ n. absurd (n r);
      ready-place = g.ready-place;
      no-call = λ e. (refl, (refl, refl));
      operand = λ n. absurd (n refl);
      awaited = refl;
      none-pending = λ e. absurd (not-awaiting (sym r ∙ e));
      cause = g.cause;
    }

pub counted-good : (z : Sizes) (t : Thread) → t.remaining ≢ 1 → GoodThread z t → GoodThread z (counted_off t)
counted-good z t l g =
    record {
      object = g.object;
      ready-ticks = λ e. rw (g.ready-ticks e);
      infinite-ticks = λ e. rw (g.infinite-ticks e);
      ticks = λ n e. fewer t.remaining t.call.timeout l (g.ticks n e);
      kind = g.kind;
      timeout = g.timeout;
      unready-call = g.unready-call;
      unready-state = g.unready-state;
      unready-place = g.unready-place;
      ready-place = g.ready-place;
      no-call = g.no-call;
      operand = g.operand;
      awaited = g.awaited;
      none-pending = g.none-pending;
      cause = g.cause;
    }
  where
    fewer : (r t : ℕ) → r ≢ 1 → (1 ≤ r) × (r ≤ t) → (1 ≤ r - 1) × (r - 1 ≤ t)
    fewer r t n h = (omega (arith, h.0), omega (arith, h.1))

pub flags-good : (z : Sizes) (t : Thread) (f : ℕ) → (t.state ≡ awaiting → bit_and f t.awaited ≡ 0) → GoodThread z t
    → GoodThread z (with_pending t f)
flags-good z t f p g =
    record {
      object = g.object;
      ready-ticks = g.ready-ticks;
      infinite-ticks = g.infinite-ticks;
      ticks = g.ticks;
      kind = g.kind;
      timeout = g.timeout;
      unready-call = g.unready-call;
      unready-state = g.unready-state;
      unready-place = g.unready-place;
      ready-place = g.ready-place;
      no-call = g.no-call;
      operand = g.operand;
      awaited = g.awaited;
      none-pending = p;
      cause = g.cause;
    }

-- ---- a thread without a call

-- ready, and with no unfinished call
pub record Idle (t : Thread) : Type 0 where
  pub is-ready : t.state ≡ ready
  pub no-call : t.call.kind ≡ 0
