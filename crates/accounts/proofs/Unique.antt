-- Two answers that satisfy one public statement coincide: each contract of the crate fixes its function's whole result.
-- `Fixes P` is about the very statement P that the contract is read as, so no line here can say less than the contract.
use Rattle.kernel.proofs.Unique.{coincide, Fixes}
use Rattle.accounts.proofs.account.enter.Reads as account-enter
use Rattle.accounts.proofs.account.enter.Kinds as account-enter-kinds
use Rattle.accounts.proofs.account.fresh_account.Reads as account-fresh-account
use Rattle.accounts.proofs.account.fresh_account.Kinds as account-fresh-account-kinds
use Rattle.accounts.proofs.accounting.account_step.Reads as accounting-account-step
use Rattle.accounts.proofs.accounting.account_step.Kinds as accounting-account-step-kinds
use Rattle.accounts.proofs.accounting.call_by.Reads as accounting-call-by
use Rattle.accounts.proofs.accounting.call_by.Kinds as accounting-call-by-kinds

pub account-enter-one : Fixes 0 account-enter-kinds.ps account-enter-kinds.r account-enter.Post
account-enter-one κs a e x y = coincide

pub account-fresh-account-one : Fixes 0 account-fresh-account-kinds.ps account-fresh-account-kinds.r account-fresh-account.Post
account-fresh-account-one κs a e x y = coincide

pub accounting-account-step-one : Fixes 0 accounting-account-step-kinds.ps accounting-account-step-kinds.r accounting-account-step.Post
accounting-account-step-one κs a e x y = coincide

pub accounting-call-by-one : Fixes 0 accounting-call-by-kinds.ps accounting-call-by-kinds.r accounting-call-by.Post
accounting-call-by-one κs a e x y = coincide
