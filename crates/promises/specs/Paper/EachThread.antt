-- WHAT EACH STEP OF A RUN MAKES OF EACH THREAD: of one that slept, of one that was ready, of one whose call was woken before; who is woken, why, and
-- what becomes of its flags.
use Rattle.std.specs.Prelude.{ℕ, ◌<◌, ◌≡◌, ◌≢◌, true, List, [], ◌∷◌}
use Rattle.promises.specs.Paper.World.{risen}
use Rattle.promises.specs.Paper.Waking.{row_of, in_mask, SleeperAfter, ReadyAfter, WakerAfter, Due}
use Rattle.promises.specs.Paper.Flags.{awaits_flags, FlagsAfter}
use Rattle.promises.specs.Paper.Causes.{why_of, WhyAfter}
use Rattle.promises.specs.Paper.Run.{Moment}
use Rattle.promises.specs.Paper.History.{Turns}

-- what an accepted moment made of each thread
pub record EachThread (m : Moment) : Type 0 where
  pub slept : (i : ℕ) → i < m.before.sizes.threads → (row_of m.before i).state ≢ 0
      → SleeperAfter m.before m.step i (row_of m.after i) (in_mask i m.result.woken) (in_mask i m.result.finished)
  pub ready : (i : ℕ) → i < m.before.sizes.threads → (row_of m.before i).state ≡ 0
      → WakerAfter m.before m.step i (row_of m.after i) (in_mask i m.result.woken)
  pub woken-before : (i : ℕ) → i < m.before.sizes.threads → (row_of m.before i).state ≡ 0 → (row_of m.before i).call.kind ≢ 0
      → ReadyAfter m.before m.step i (row_of m.after i) (in_mask i m.result.woken) (in_mask i m.result.finished)
  -- whoever is due is woken; and who waits at no mailbox, only then
  pub due : (i : ℕ) → i < m.before.sizes.threads → Due m.before m.step i → in_mask i m.result.woken ≡ true
  pub only-due : (i : ℕ) → i < m.before.sizes.threads → (row_of m.before i).state ≢ 0 → ((row_of m.before i).state ≡ 3 → (row_of m.before i).place < 28)
      → in_mask i m.result.woken ≡ true → Due m.before m.step i
  -- and so is everybody, where no call goes on
  pub quiet-due : Turns m (m.step.caller ∷ []) → (i : ℕ) → i < m.before.sizes.threads → in_mask i m.result.woken ≡ true → Due m.before m.step i
  -- whoever is woken is ready after the step: none sleeps again in the step that has woken it
  pub awake : (i : ℕ) → i < m.before.sizes.threads → in_mask i m.result.woken ≡ true → (row_of m.after i).state ≡ 0
  -- of each: the cause and the number in its record are those of its last waking
  pub why : (i : ℕ) → i < m.before.sizes.threads
      → WhyAfter m.before m.step i (why_of (row_of m.after i)) (in_mask i m.result.woken)
  pub number : m.after.kernel.steps ≡ risen m.before.kernel.steps
  pub flags : (i : ℕ) → i < m.before.sizes.threads
      → FlagsAfter m.before m.step i (row_of m.after i) (in_mask i m.result.finished)
  -- whoever runs after the step has no unfinished call; so, of document 02, no unfinished event wait
  pub runs : (i : ℕ) → m.result.running ≡ i → i ≢ 255 → ((row_of m.after i).call.kind ≡ 0) × ((row_of m.after i).awaited ≡ 0)
  -- an event wait finishes only in a step after which its thread runs
  pub goes_on : (i : ℕ) → i < m.before.sizes.threads → awaits_flags m.before m.step i ≡ true → in_mask i m.result.finished ≡ true
      → m.result.running ≡ i

-- of every accepted moment of a run
pub data Throughout (P : Moment → Type 0) : List Moment → Type 0 where
  none : Throughout P []
  more : {m : Moment} {ms : List Moment} → (m.result.code ≡ 0 → P m) → Throughout P ms → Throughout P (m ∷ ms)
