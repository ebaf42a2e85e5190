-- What the types of a host fix is what the kit knows of the arguments of these types: every field of `Host` is a length or a width that the
-- declared structs have. So no field can be added to it that a call does not have.
use Rattle.std.specs.Prelude.{ℕ, zero, suc, ◌<◌, ◌≡◌, List, [], ◌∷◌, length, get_or}
use Rattle.std.proofs.Common.{arith, sym, ap}
use mir.Val.{Val}
use contract.Lifetimes.{Lfts}
use Rattle.std.specs.Borrow.{RattleType}
use denote.Shadow.{shadow}
use denote.Array.{each}
use denote.Laws.{Is}
use borrow.Fn.Kinds.{Dens, GoodsP}
use Rattle.kernel.specs.declared.clock.Clock.{Clock}
use Rattle.kernel.proofs.Cases.{in-or-out}
use Rattle.kernel.proofs.Lengths.{read_past}
use Rattle.kernel.specs.contracts.clock.Clock as clock
use Rattle.library.specs.declared.calls.Step.{Step}
use Rattle.library.specs.declared.tables.Pool.{Pool}
use Rattle.library.specs.declared.tables.Tables.{Tables}
use Rattle.library.specs.contracts.calls.Step as steps
use Rattle.library.specs.contracts.tables.Mailbox as mailbox
use Rattle.library.specs.contracts.tables.Pool as pool
use Rattle.library.specs.contracts.tables.Tables as tables
use Rattle.steps.proofs.stepping.step.Kinds as step-kinds
use Rattle.host.specs.declared.request.Request.{Request}
use Rattle.host.specs.contracts.request.Request as request
use Rattle.promises.specs.Paper.World.{no_box, no_pool}
use Rattle.promises.specs.Paper.Host.{HostTables, HostStep, Host}
use Rattle.promises.specs.Paper.Boundary.{asked}

-- ---- what a value of a type is known to be

-- `Is` is what owning a value says. Of a struct `.1 .1` is what its fields are, in their order; of an array `.1 .0 .1` is its length and `.1 .1`
-- what its elements are; of a number `.1` is its width

-- each element of an array is of its type
element : (R : RattleType) (l : List R.Denot) (us : List Val) → shadow (each R.Denot R.own_val l us)
    → (i : ℕ) → i < length l → (d : R.Denot) → (u : Val) × Is R (get_or l i d) (u ∷ [])
element R [] us all i l d = absurd (omega arith)
element R (x ∷ xs) [] all i l d = absurd all
element R (x ∷ xs) (u ∷ us) all zero l d = (u, all.0)
element R (x ∷ xs) (u ∷ us) all (suc i) l d = element R xs us all.1 i (omega arith) d

pub step_fits : (s : Step) (vs : List Val) → Is steps.the_row s vs → HostStep s
step_fits s vs is = let x = is.1.1 in record { object = x.1.1.0.1; operand = x.1.1.1.0.1 }

pub request-fits : (q : Request) (vs : List Val) → Is request.the_row q vs → HostStep (asked q)
request-fits q vs is = let x = is.1.1 in record { object = x.1.1.0.1; operand = x.1.1.1.1.0.1 }

pub time-fits : (c : Clock) (vs : List Val) → Is clock.the_row c vs → c.time.0 < 4294967296
time-fits c vs is = is.1.1.0.1.1.0.1

pub tables-fit : (t : Tables) (vs : List Val) → Is tables.the_row t vs → HostTables t
tables-fit t vs is =
    let x = is.1.1 in
    let k = x.0.1.1 in
    let boxes = x.1.0.1.0.1 in
    let pools = x.1.1.0.1.0.1 in
    let pool-at : (q : ℕ) → (length (get_or t.pools q no_pool).list ≡ 32) × (length (get_or t.pools q no_pool).marks ≡ 32) =
    λ q.
    in-or-out q 4
    (λ l.
    let y = (element pool.the_row t.pools x.1.1.0.0 x.1.1.0.1.1 q (omega (arith, pools)) no_pool).1.1.1 in (
      y.1.0.1.0.1,
      y.1.1.0.1.0.1,
    ))
    (λ l.
    let past : no_pool ≡ get_or t.pools q no_pool = read_past t.pools 4 q pools l no_pool in
    (ap (λ (p : Pool). length p.list) (sym past), ap (λ (p : Pool). length p.marks) (sym past))) in
    record {
      threads = k.0.1.0.1;
      counters = k.1.0.1.0.1;
      references = k.1.1.0.1.0.1;
      waiting = k.1.1.1.0.1.1.1.0.1.0.1;
      mailboxes = boxes;
      messages = λ m l.
          let box = (element mailbox.the_row t.mailboxes x.1.0.0 x.1.0.1.1 m (omega (arith, boxes)) no_box).1 in
          box.1.1.1.1.0.1.0.1;
      pools = pools;
      lists = λ q l. (pool-at q).0;
      marks = λ q l. (pool-at q).1;
    }

-- ---- step

-- `GoodsP` is what the arguments of these types are known to be
pub step-host : (κs : Lfts 0) (a : Dens κs step-kinds.ps) → GoodsP κs step-kinds.ps a → Host a.0 a.1.0 a.1.1.0
step-host κs a good =
    record {
      tables = tables-fit a.0 _ good.0;
      time = time-fits a.1.0 _ good.1.0;
      step = step_fits a.1.1.0 _ good.1.1.0;
    }
