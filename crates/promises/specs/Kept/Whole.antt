-- Tables that hang together, but for the running thread, in the form in which the moves keep them; and that a chain of moves, with
-- mailboxes and pools in step with it, leaves them so.
use Rattle.std.specs.Prelude.{ℕ, ◌+◌, ◌<◌, ◌≡◌, refl, ◌⊎◌, List, [], length}
use Rattle.std.proofs.Common.{arith, sym, ap, ◌∙◌, subst, inl, inr}
use Rattle.kernel.specs.declared.records.Thread.{Thread}
use Rattle.kernel.specs.declared.records.Kernel.{Kernel}
use Rattle.kernel.specs.Numbers.{nobody}
use Rattle.kernel.specs.Places.{pool_place}
use Rattle.kernel.specs.Tables.{thread_at, counter_at, with_cause}
use Rattle.kernel.specs.Waiters.{is_ready}
use Rattle.kernel.proofs.Cases.{second-fails}
use Rattle.kernel.proofs.TablesLaws.{Sized}
use Rattle.library.specs.declared.sizes.Sizes.{Sizes}
use Rattle.library.specs.declared.tables.Plant.{Plant}
use Rattle.library.specs.Causes.{cause_of, caused}
use Rattle.library.specs.Tables.{mailbox_at, pool_at, with_kernel}
use Rattle.library.proofs.CausesLaws.{cause-listed}
use Rattle.rules.specs.PoolRules.{promised_count}
use Rattle.promises.specs.Together.Good.{GoodSizes, Good}
use Rattle.promises.specs.Kept.CounterRule.{counters-tally, tally-counters}
use Rattle.promises.specs.Kept.ReferenceRule.{references-hold, holds-references}
use Rattle.promises.specs.Kept.WordRule.{words-said, said-words}
use Rattle.promises.specs.Kept.RingKept.{MailboxesGood}
use Rattle.promises.specs.Kept.PoolKept.{PoolsListed, PoolSized, stock, good-listed, listed-good, good_length, length-promises}
use Rattle.promises.specs.Kept.Rows.{Idle}
use Rattle.promises.specs.Kept.Chain.{Note, Move, one, Chained, count_in, is_slept, Sound, chain-sound, chain-idle}
use Rattle.promises.specs.Kept.Moving.{Free, Caller}
use Rattle.promises.specs.Kept.Owed.{is_signal, is_take, owed-is, chain-owed}

-- the lists are as long as the tables of a host
pub record PlantSized (p : Plant) : Type 0 where
  pub kernel : Sized p.kernel
  pub mailboxes : length p.mailboxes ≡ 4
  pub messages : (m : ℕ) → m < 4 → length (mailbox_at p m).messages ≡ 16
  pub pools : length p.pools ≡ 4
  pub pool : (q : ℕ) → q < p.sizes.pools → PoolSized (pool_at p q)

-- all rules but that of the running thread
pub record Whole (z : Sizes) (p : Plant) : Type 0 where
  pub same : p.sizes ≡ z
  pub sizes : GoodSizes z
  pub kernel : Sound z p.kernel
  pub mailboxes : MailboxesGood p
  pub boxes : length p.mailboxes ≡ 4
  pub messages : (m : ℕ) → m < 4 → length (mailbox_at p m).messages ≡ 16
  pub pools : PoolsListed p
  pub rows : length p.pools ≡ 4
  -- "its length is the larger of counter and 0, plus" the objects promised
  pub lengths : (q : ℕ) → q < z.pools
      → (pool_at p q).length ≡ stock (counter_at p.kernel (pool_place q)) + promised_count p.kernel z.threads q

module _ (p : Plant) where
  -- good tables of a host are such
  pub good-whole : Good p → PlantSized p → Whole p.sizes p
  good-whole g s =
      record {
        same = refl;
        sizes = g.sizes;
        kernel = record {
          rules = record {
            sized = s.kernel;
            places = counters-tally p.kernel p.sizes g.sizes g.counters;
            references = references-hold p.kernel p.sizes g.references;
            words = words-said p.kernel p.sizes g.sizes g.words;
          };
          rows = g.threads;
        };
        mailboxes = g.mailboxes;
        boxes = s.mailboxes;
        messages = s.messages;
        pools = record { listed = λ q h. good-listed (g.pools q h); sized = s.pool };
        rows = s.pools;
        lengths = λ q h. good_length (g.pools q h);
      }

  good_of : Whole p.sizes p → Good p
  good_of w =
      record {
        sizes = w.sizes;
        counters = tally-counters p.kernel p.sizes w.sizes w.kernel.rules.places;
        references = holds-references p.kernel p.sizes w.kernel.rules.references;
        mailboxes = w.mailboxes;
        pools = λ q h.
            listed-good (w.pools.listed q h)
            (length-promises (pool_at p q) (counter_at p.kernel (pool_place q)) (promised_count p.kernel p.sizes.threads q)
            (w.lengths q h));
        threads = w.kernel.rows;
        words = said-words p.kernel p.sizes w.sizes w.kernel.rules.words;
      }

  -- and such tables are good
  pub whole-good : (z : Sizes) → Whole z p → Good p
  whole-good z w = good_of (subst (λ (y : Sizes). Whole y p) (sym w.same) w)

  pub whole-sized : (z : Sizes) → Whole z p → PlantSized p
  whole-sized z w =
      record { kernel = w.kernel.rules.sized; mailboxes = w.boxes; messages = w.messages; pools = w.rows; pool = w.pools.sized }

-- ---- a chain leaves them so

-- the pools of h are as much longer than those of p as the notes say
abbrev pub InStep : Sizes → Plant → Plant → List Note → Type 0
InStep z p h ms = (q : ℕ) → q < z.pools
    → (pool_at h q).length + count_in (is_take (pool_place q)) ms ≡ (pool_at p q).length + count_in (is_signal (pool_place q)) ms

-- what an operation leaves: a chain from the kernel's tables to its own, with these notes, and whole tables
pub record Done (z : Sizes) (p h : Plant) (ms : List Note) : Type 0 where
  pub chained : Chained z p.kernel h.kernel ms
  pub whole : Whole z h

module _ (z : Sizes) (p h : Plant) (ms : List Note) (w : Whole z p) (c : Chained z p.kernel h.kernel ms) where
  -- what a pool owes goes with the notes
  pub owed-notes : (q : ℕ) (there : q < z.pools)
      → stock (counter_at h.kernel (pool_place q)) + promised_count h.kernel z.threads q + count_in (is_take (pool_place q)) ms
      ≡ stock (counter_at p.kernel (pool_place q)) + promised_count p.kernel z.threads q + count_in (is_signal (pool_place q)) ms
  owed-notes q there =
      rw (owed-is z w.sizes q there h.kernel, owed-is z w.sizes q there p.kernel)
      (chain-owed z w.sizes q there c w.kernel)

  -- whole tables, with mailboxes and pools kept in step
  pub done : h.sizes ≡ p.sizes → MailboxesGood h → length h.mailboxes ≡ 4
      → ((m : ℕ) → m < 4 → length (mailbox_at h m).messages ≡ 16) → PoolsListed h → length h.pools ≡ 4 → InStep z p h ms
      → Done z p h ms
  done e m b x o r l =
      record {
        chained = c;
        whole = record {
          same = e ∙ w.same;
          sizes = w.sizes;
          kernel = chain-sound z w.sizes c w.kernel;
          mailboxes = m;
          boxes = b;
          messages = x;
          pools = o;
          rows = r;
          lengths = λ q there. omega (arith, l q there, owed-notes q there, w.lengths q there);
        };
      }

-- the kernel's tables alone, by notes that give and take no pool anything
pub kernel-done : (z : Sizes) (p : Plant) (k : Kernel) (ms : List Note) → Whole z p → Chained z p.kernel k ms
    → ((q : ℕ) → q < z.pools → count_in (is_take (pool_place q)) ms ≡ count_in (is_signal (pool_place q)) ms) → Done z p (with_kernel p k) ms
kernel-done z p k ms w c e =
    done z p (with_kernel p k) ms w c refl w.mailboxes w.boxes w.messages (record {
      listed =
          w.pools.listed;
      sized = w.pools.sized;
    }) w.rows
    (λ q there. ap (λ (x : ℕ). (pool_at p q).length + x) (e q there))

-- another call is at work
pub caused-done : (z : Sizes) (p : Plant) (kind : ℕ) → Whole z p → Done z p (caused p kind) []
unfolding count_in
caused-done z p kind w =
    kernel-done z p (with_cause p.kernel (cause_of kind)) [] w (one (Move.causes (cause_of kind) (cause-listed kind))) (λ q l. refl)

-- ---- whose step it is

-- an interrupt, or a thread without a call
abbrev pub Stepper : Sizes → Kernel → ℕ → Type 0
Stepper z k i = (i ≡ nobody) ⊎ ((i < z.threads) × Idle (thread_at k i))

-- its call may finish
pub idle-free : (t : Thread) → Idle t → Free t
idle-free t a = record { is-ready = a.is-ready; unpromised = rw a.no-call (second-fails (is_ready t) refl) }

pub stepper-caller : (z : Sizes) (k : Kernel) (i : ℕ) → Stepper z k i → Caller z k i
stepper-caller z k i (inl e) = inl e
stepper-caller z k i (inr a) = inr (a.0, idle-free (thread_at k i) a.1)

-- and stays so while it does not sleep
pub stepper-kept : (z : Sizes) (k h : Kernel) (i : ℕ) (ms : List Note) → GoodSizes z → Sound z k → Chained z k h ms
    → count_in (is_slept i) ms ≡ 0
    → Stepper z k i → Stepper z h i
stepper-kept z k h i ms g s c o (inl e) = inl e
stepper-kept z k h i ms g s c o (inr a) = inr (a.0, chain-idle z g i a.0 c s o a.1)
