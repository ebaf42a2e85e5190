-- NO HOST HAS ANYTHING TO SHOW: what `Host` asks, every call of `step` and `nil_step` has, because its arguments are of their types. So the
-- contracts, which ask nothing, give what the demands tell. Each law is of the very statement that the contract is read as.
use Rattle.std.specs.Prelude.{ℕ, ◌≡◌, [], ◌∷◌}
use Rattle.std.proofs.Common.{sym, subst}
use seplogic.Ra.Ura.{Ura}
use mir.Syntax.{named}
use base.Logic.{SProp, ent, sep, via, snd∗}
use base.Fml.{Lft, Share, ftrue, flft}
use prog.Memory.{Memory}
use prog.Routine.{Routine}
use types.Logic.{Logic}
use contract.Lifetimes.{Lfts, Shares}
use contract.Monad.{Fun, fact, fact_i, fact_use}
use types.Kit.{‵, raw, ◌⊛◌, ◌$◌, ◌∵◌, !, qed, by, move, keep, drop, use1, split, fsplit, fsplit3, later, await, updating, now as at_last}
use denote.RattleType.{owns}
use denote.Ref.{Bor, MutBor, MutRef, ShrRef}
use denote.Steps.{heard}
use denote.Struct.Laws as laws
use denote.Triple.Clauses.{AtExit}
use denote.Triple.Entry.{Args, Vals, alive, on_entry}
use borrow.Fn.Between.{owns-Seen, goods}
use borrow.Fn.Kinds.{Dens, GoodsP, ended_of}
use Rattle.kernel.specs.declared.clock.Clock.{Clock}
use Rattle.kernel.specs.contracts.clock.Clock as clock
use Rattle.library.specs.declared.tables.Tables.{Tables}
use Rattle.library.specs.contracts.tables.Tables as tables
use Rattle.library.proofs.tables.Tables.TheLaws as tables-laws
use Rattle.steps.specs.declared.stepping.Stepped.{Stepped}
use Rattle.steps.specs.Stepping.{stepped}
use Rattle.steps.specs.contracts.stepping.step as step
use Rattle.steps.proofs.stepping.step.Kinds as step-kinds
use Rattle.steps.proofs.stepping.step.Reads as step-reads
use Rattle.host.specs.declared.request.Request.{Request}
use Rattle.host.specs.declared.request.StepResult.{StepResult}
use Rattle.host.specs.Broken.{broken_number}
use Rattle.host.specs.Request.{step_of, result_of}
use Rattle.host.specs.contracts.request.Request as request
use Rattle.host.proofs.request.Request.TheLaws as request-laws
use Rattle.host.specs.contracts.request.StepResult as result
use Rattle.host.specs.contracts.request.nil_step as nil-step
use Rattle.host.specs.contracts.broken.nil_broken as nil-broken
use Rattle.promises.specs.Paper.Host.{Host}
use Rattle.promises.specs.Paper.Step.{StepOf}
use Rattle.promises.specs.Paper.Boundary.{asked, StepCall}
use Rattle.promises.specs.Paper.Broken.{BrokenCall}
use Rattle.promises.specs.Meant.Boundary.{step-call-is}
use Rattle.promises.specs.Top.Demands.{demand-2}
use Rattle.promises.specs.Top.Broken.{broken-first}
use Rattle.promises.specs.Meant.Hosts.{tables-fit, time-fits, request-fits, step-host}
use Rattle.promises.specs.HostCalls.Lent.{mut-known, shr-known}

-- ---- step

-- so whatever meets the contract of `step` is the paper's step, and nothing else is
pub step-promised : (κs : Lfts 0) (a : Dens κs step-kinds.ps) → GoodsP κs step-kinds.ps a → (x : Stepped) (e : AtExit (ended_of 0 step-kinds.ps step-kinds.r) κs)
    → step-reads.Post κs a x e
    → StepOf a.0 a.1.0 a.1.1.0 x × ((r : Stepped) → StepOf a.0 a.1.0 a.1.1.0 r → r ≡ x)
step-promised κs a good x e is =
    subst (λ (y : Stepped). StepOf a.0 a.1.0 a.1.1.0 y × ((r : Stepped) → StepOf a.0 a.1.0 a.1.1.0 r → r ≡ y)) (sym is)
    (demand-2 a.0 a.1.0 a.1.1.0 (step-host κs a good))

module _ {M : Type 1} {𝓤 : Ura M} (𝓛 : Logic 𝓤) where
  -- and what is owned on entry says it, in every model
  pub step-entered : (κs : Lfts 0) (qs : Shares 0) (a : Args step.signature κs) (vss : Vals step.signature κs)
      → ent 𝓤 (on_entry 𝓛 step.signature κs qs a vss) (fact 𝓤 (Host a.0 a.1.0 a.1.1.0))
  step-entered κs qs a vss =
      via 𝓤 _ (snd∗ 𝓤 (alive 𝓛 step.signature κs qs) _)
      (fact_use 𝓤 _ (owns-Seen 𝓛 0 κs step-kinds.ps a vss)
      (λ g. fact_i 𝓤 (Host a.0 a.1.0 a.1.1.0) _ (step-host κs a (goods 𝓛 0 κs step-kinds.ps a vss g))))

-- ---- nil_step

-- what stands behind the references that `nil_step` is lent is known once they are opened, which the lifetimes' tokens allow
module _ {M : Type 1} {𝓤 : Ura M} (𝓛 : Logic 𝓤) (κ₁ κ₂ κ₃ κ₄ : Lft) (q₁ q₂ q₃ q₄ : Share)
    (x₁ : MutBor Tables) (x₂ : MutBor Clock) (x₃ : Bor Request) (x₄ : MutBor StepResult) where
  open 𝓛 use {H}

  abbrev κs : Lfts 4
  κs = (κ₁, (κ₂, (κ₃, (κ₄, tt))))

  abbrev qs : Shares 4
  qs = (q₁, (q₂, (q₃, (q₄, tt))))

  abbrev x : Args nil-step.signature κs
  x = (x₁, (x₂, (x₃, (x₄, tt))))

  pub nil-step-entered : (vss : Vals nil-step.signature κs)
      → ent 𝓤 (on_entry 𝓛 nil-step.signature κs qs x vss) (H.⇛ (fact 𝓤 (Host x₁.now x₂.now (asked x₃.now))))
  nil-step-entered vss =
      qed 𝓛 (
      (‵ (flft κ₁ q₁) ⊛ ‵ (flft κ₂ q₂) ⊛ ‵ (flft κ₃ q₃) ⊛ ‵ (flft κ₄ q₄) ⊛ ‵ ftrue)
      ∷ ‵ (owns (MutRef (named 0) κ₁ tables.the_row ∷ MutRef (named 1) κ₂ clock.the_row ∷ ShrRef (named 2) κ₃ request.the_row ∷ MutRef (named 3) κ₄ result.the_row ∷ []) x vss)
      ∷ []
      )
      ∵ updating ! $ move ! (1 ∷ []) $ fsplit ! $ move ! (1 ∷ []) $ fsplit ! $ move ! (1 ∷ []) $ fsplit ! $ move ! (1 ∷ []) $ fsplit !
      $ move ! (5 ∷ []) $ split ! $ move ! (1 ∷ []) $ split ! $ move ! (1 ∷ []) $ split ! $ move ! (1 ∷ []) $ split !
      $ keep ! (9 ∷ 8 ∷ 7 ∷ 4 ∷ 3 ∷ 2 ∷ []) $ fsplit3 ! $ drop ! $ move ! (0 ∷ 1 ∷ 4 ∷ [])
      $ mut-known ! tt tables.the_row x₁.now x₁.ref_ptr.0 x₁.ref_ptr.1 (λ vs₁ is₁.
      fsplit3 ! $ drop ! $ move ! (0 ∷ 1 ∷ 3 ∷ [])
      $ mut-known ! tt clock.the_row x₂.now x₂.ref_ptr.0 x₂.ref_ptr.1 (λ vs₂ is₂.
      fsplit ! $ drop !
      $ shr-known ! tt request.the_row (laws.copied request.the_type request-laws.the_copy 𝓛).opens x₃.now x₃.ref_ptr.0 x₃.ref_ptr.1 (λ vs₃ is₃.
      at_last ! $ by ! (fact_i 𝓤 (Host x₁.now x₂.now (asked x₃.now)) _ (record {
        tables = tables-fit x₁.now vs₁ is₁;
        time = time-fits x₂.now vs₂ is₂;
        step = request-fits x₃.now vs₃ is₃;
      })))))

  -- so what its contract leaves behind them is what the paper tells of the call
  pub nil-step-promised : (at_mem : Memory → SProp 𝓤) (run : Routine → Fun 𝓤) (vss : Vals nil-step.signature κs) (e : AtExit nil-step.ended κs)
      → ent 𝓤 (sep 𝓤 (on_entry 𝓛 nil-step.signature κs qs x vss) ((nil-step.clauses 𝓛 at_mem run κs x).ensures tt tt e))
      (H.⇛ (fact 𝓤 (StepCall x₁.now x₂.now x₃.now e.0.now e.1.0.now e.1.1.1.0.now)))
  nil-step-promised at_mem run vss e =
      let left : Type 0 =
      (e.0.now ≡ (stepped x₁.now x₂.now (step_of x₃.now)).tables)
      × (e.1.0.now ≡ (stepped x₁.now x₂.now (step_of x₃.now)).clock)
      × (e.1.1.1.0.now ≡ result_of (stepped x₁.now x₂.now (step_of x₃.now)).outcome) in
      let call : Type 0 = StepCall x₁.now x₂.now x₃.now e.0.now e.1.0.now e.1.1.1.0.now in
      qed 𝓛 (raw (on_entry 𝓛 nil-step.signature κs qs x vss) ∷ raw (fact 𝓤 left) ∷ [])
      ∵ updating ! $ use1 𝓛 (later (raw (fact 𝓤 (Host x₁.now x₂.now (asked x₃.now))))) (nil-step-entered vss) $ await ! tt
      $ heard ! (Host x₁.now x₂.now (asked x₃.now)) (λ host.
      heard ! left (λ p. at_last ! $ by ! (fact_i 𝓤 call _ (rw (p.0, p.1, p.2) (step-call-is x₁.now x₂.now x₃.now host)))))

-- ---- nil_broken

module _ {M : Type 1} {𝓤 : Ura M} (𝓛 : Logic 𝓤) (κ₁ κ₂ : Lft) (q₁ q₂ : Share) (x₁ : Bor Tables) (x₂ : Bor Clock) where
  -- what its contract gives is the first rule that the lent tables break, and its first row
  open 𝓛 use {H}

  pub nil-broken-promised : (at_mem : Memory → SProp 𝓤) (run : Routine → Fun 𝓤) (vss : Vals nil-broken.signature (κ₁, (κ₂, tt))) (r : ℕ)
      (e : AtExit nil-broken.ended (κ₁, (κ₂, tt)))
      → ent 𝓤 (sep 𝓤 (on_entry 𝓛 nil-broken.signature (κ₁, (κ₂, tt)) (q₁, (q₂, tt)) (x₁, (x₂, tt)) vss)
      ((nil-broken.clauses 𝓛 at_mem run (κ₁, (κ₂, tt)) (x₁, (x₂, tt))).ensures tt r e))
      (H.⇛ (fact 𝓤 (BrokenCall x₁.now x₂.now r)))
  nil-broken-promised at_mem run vss r e =
      qed 𝓛 (
      ((‵ (flft κ₁ q₁) ⊛ ‵ (flft κ₂ q₂) ⊛ ‵ ftrue)
      ⊛ ‵ (owns (ShrRef (named 0) κ₁ tables.the_row ∷ ShrRef (named 1) κ₂ clock.the_row ∷ []) (x₁, (x₂, tt)) vss))
      ∷ raw (fact 𝓤 (r ≡ broken_number x₁.now x₂.now))
      ∷ []
      )
      ∵ updating ! $ split ! $ split ! $ move ! (2 ∷ []) $ fsplit ! $ keep ! (0 ∷ 2 ∷ 4 ∷ []) $ fsplit ! $ drop !
      $ shr-known ! tt tables.the_row (laws.copied tables.the_type tables-laws.the_copy 𝓛).opens x₁.now x₁.ref_ptr.0 x₁.ref_ptr.1 (λ vs is.
      heard ! (r ≡ broken_number x₁.now x₂.now) (λ p.
      at_last ! $ by ! (fact_i 𝓤 (BrokenCall x₁.now x₂.now r) _ (rw p (broken-first x₁.now x₂.now (tables-fit x₁.now vs is)).0))))
