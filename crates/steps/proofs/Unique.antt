-- Two answers that satisfy one public statement coincide: each contract of the crate fixes its function's whole result.
-- `Fixes P` is about the very statement P that the contract is read as, so no line here can say less than the contract.
use Rattle.kernel.proofs.ToldLaws.{code-one}
use Rattle.kernel.proofs.Unique.{coincide, Fixes}
use Rattle.steps.proofs.refusal.refuse.Reads as refusal-refuse
use Rattle.steps.proofs.refusal.refuse.Kinds as refusal-refuse-kinds
use Rattle.steps.proofs.stepping.step.Reads as stepping-step
use Rattle.steps.proofs.stepping.step.Kinds as stepping-step-kinds

pub refusal-refuse-one : Fixes 0 refusal-refuse-kinds.ps refusal-refuse-kinds.r refusal-refuse.Post
refusal-refuse-one κs a e x y p q = code-one (coincide p q)

pub stepping-step-one : Fixes 0 stepping-step-kinds.ps stepping-step-kinds.r stepping-step.Post
stepping-step-one κs a e x y = coincide
