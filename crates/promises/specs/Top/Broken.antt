-- WHICH RULE IS BROKEN. A host whose step is refused with 1 is told the first rule that its tables break, and the first row in which they do;
-- and it is told of a rule exactly where its steps are refused with 1.
use Rattle.std.specs.Prelude.{ℕ, ◌<◌, ◌≡◌, ◌≢◌, ◌↔◌}
use Rattle.std.proofs.Common.{arith, sym, subst}
use Rattle.kernel.specs.declared.clock.Clock.{Clock}
use Rattle.library.specs.declared.calls.Step.{Step}
use Rattle.library.specs.declared.tables.Tables.{Tables}
use Rattle.steps.specs.Stepping.{stepped}
use Rattle.host.specs.Broken.{broken_number}
use Rattle.host.specs.Layout.{layout}
use Rattle.promises.specs.Paper.World.{found}
use Rattle.promises.specs.Paper.Host.{HostTables, Host}
use Rattle.promises.specs.Paper.Together.{HangTogether}
use Rattle.promises.specs.Paper.Refusals.{Broken}
use Rattle.promises.specs.Paper.Broken.{BrokenCall, LayoutCall}
use Rattle.promises.specs.Meant.Broken.{broken-call-is, broken-call-one, none-together, layout-call-is, layout-call-one}
use Rattle.promises.specs.Top.Demands.{demand-1}

-- the number that nil_broken gives is the first broken rule and its first row, and no other number is
pub broken-first : (t : Tables) (c : Clock) → HostTables t
    → BrokenCall t c (broken_number t c) × ((n : ℕ) → BrokenCall t c n → n ≡ broken_number t c)
broken-first t c host =
    let is = broken-call-is t c host in
    (is, λ n x. broken-call-one {n = n} {m = broken_number t c} x is)

-- it is 0 exactly where the tables hang together
pub broken-none : (t : Tables) (c : Clock) → HostTables t → (broken_number t c ≡ 0) ↔ HangTogether (found t) t.kernel.words c
broken-none t c host = (
  λ e. (none-together t c host).0 (subst (BrokenCall t c) e (broken-call-is t c host)),
  λ h. sym ((broken-first t c host).1 0 ((none-together t c host).1 h)),
)

-- so a rule is told exactly where a step, whichever it is, is refused with 1
pub broken-refused : (t : Tables) (c : Clock) (s : Step) → Host t c s → ((stepped t c s).outcome.code ≡ 1) ↔ (broken_number t c ≢ 0)
broken-refused t c s host = (there, back)
  where
    one : ((stepped t c s).outcome.code ≡ 1) ↔ (Broken t c s 1 × ((m : ℕ) → m < 1 → Broken t c s m → ⊥))
    one = (demand-1 t c s host).refused 1 (λ e. omega arith)

    tables : Broken t c s 1 → HangTogether (found t) t.kernel.words c → ⊥
    tables (Broken.tables n) = n

    there : (stepped t c s).outcome.code ≡ 1 → broken_number t c ≢ 0
    there e none = tables (one.0 e).0 ((broken-none t c host.tables).0 none)

    zeroth : Broken t c s 0 → ⊥
    zeroth = elim [ ]

    back : broken_number t c ≢ 0 → (stepped t c s).outcome.code ≡ 1
    back some =
        one.1 (
          Broken.tables (λ h. some ((broken-none t c host.tables).1 h)),
          λ m l b. zeroth (subst (Broken t c s) (omega arith) b),
        )

-- the layout that nil_layout gives is 3
pub layout-told : LayoutCall layout × ((n : ℕ) → LayoutCall n → n ≡ layout)
layout-told = (layout-call-is, λ n x. layout-call-one x layout-call-is)
