-- Steps for runs that are computed: on object 0, with the widths of a host's.
use Rattle.std.specs.Prelude.{ℕ, ◌<◌, List, ◌∷◌}
use Rattle.std.proofs.Common.{arith}
use Rattle.library.specs.declared.calls.Step.{Step}
use Rattle.promises.specs.Paper.Host.{HostStep, HostSteps}

-- a step of thread i, or of an interrupt (255)
abbrev pub by : ℕ → ℕ → ℕ → ℕ → Step
by i kind a timeout = record { kind = kind; caller = i; object = 0; a = a; timeout = timeout }

pub typed : (i kind a timeout : ℕ) → a < 4294967296 → HostStep (by i kind a timeout)
typed i kind a timeout h = record { object = omega arith; operand = h }

pub more : (i kind a timeout : ℕ) (ss : List Step) → a < 4294967296 → HostSteps ss → HostSteps (by i kind a timeout ∷ ss)
more i kind a timeout ss h hs = HostSteps.more (typed i kind a timeout h) hs
