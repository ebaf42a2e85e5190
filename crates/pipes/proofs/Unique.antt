-- Two answers that satisfy one public statement coincide: each contract of the crate fixes its function's whole result.
-- `Fixes P` is about the very statement P that the contract is read as, so no line here can say less than the contract.
use mathlib.Core.Path.{◌≡◌}
use mathlib.Core.List.{[]}
use contract.Lifetimes.{Lfts}
use denote.Triple.Clauses.{AtExit}
use borrow.Fn.Kinds.{Dens, res_t, ended_of}
use Rattle.kernel.proofs.Unique.{coincide, Fixes}
use Prim.Native.Nat.{ℕ}
use Rattle.pipes.specs.Carrying.{smaller_of}
use Rattle.pipes.specs.declared.table.Pipes.{Pipes}
use Rattle.kernel.proofs.ToldLaws.{code-one}
use Rattle.pipes.proofs.ToldLaws.{opened-one, moved-one}
use Rattle.pipes.proofs.carrying.carry.Reads as carrying-carry
use Rattle.pipes.proofs.carrying.carry.Kinds as carrying-carry-kinds
use Rattle.pipes.proofs.judging.judge.Reads as judging-judge
use Rattle.pipes.proofs.judging.judge.Kinds as judging-judge-kinds
use Rattle.pipes.proofs.opening.make_pipes.Reads as opening-make-pipes
use Rattle.pipes.proofs.opening.make_pipes.Kinds as opening-make-pipes-kinds
use Rattle.pipes.proofs.opening.reset_pipe.Reads as opening-reset-pipe
use Rattle.pipes.proofs.opening.reset_pipe.Kinds as opening-reset-pipe-kinds
use Rattle.pipes.proofs.opening.resume_pipe.Reads as opening-resume-pipe
use Rattle.pipes.proofs.opening.resume_pipe.Kinds as opening-resume-pipe-kinds
use Rattle.pipes.proofs.table.blank_pipe.Reads as table-blank-pipe
use Rattle.pipes.proofs.table.blank_pipe.Kinds as table-blank-pipe-kinds
use Rattle.pipes.proofs.table.pipe_at.Reads as table-pipe-at
use Rattle.pipes.proofs.table.pipe_at.Kinds as table-pipe-at-kinds
use Rattle.pipes.proofs.table.set_pipe.Reads as table-set-pipe
use Rattle.pipes.proofs.table.set_pipe.Kinds as table-set-pipe-kinds
use Rattle.pipes.proofs.transfer.read_pipe.Reads as transfer-read-pipe
use Rattle.pipes.proofs.transfer.read_pipe.Kinds as transfer-read-pipe-kinds
use Rattle.pipes.proofs.transfer.write_pipe.Reads as transfer-write-pipe
use Rattle.pipes.proofs.transfer.write_pipe.Kinds as transfer-write-pipe-kinds

pub judging-judge-one : Fixes 0 judging-judge-kinds.ps judging-judge-kinds.r judging-judge.Post
judging-judge-one κs a e x y p q = code-one (coincide p q)

-- any table
none : Pipes
none = record { pipes = []; number = 0 }

pub opening-make-pipes-one : Fixes 0 opening-make-pipes-kinds.ps opening-make-pipes-kinds.r opening-make-pipes.Post
opening-make-pipes-one κs a e x y p q = opened-one none (coincide (p none) (q none))

pub opening-reset-pipe-one : Fixes 0 opening-reset-pipe-kinds.ps opening-reset-pipe-kinds.r opening-reset-pipe.Post
opening-reset-pipe-one κs a e x y p q = opened-one _ (coincide p q)

pub opening-resume-pipe-one : Fixes 0 opening-resume-pipe-kinds.ps opening-resume-pipe-kinds.r opening-resume-pipe.Post
opening-resume-pipe-one κs a e x y p q = opened-one _ (coincide p q)

pub table-blank-pipe-one : Fixes 0 table-blank-pipe-kinds.ps table-blank-pipe-kinds.r table-blank-pipe.Post
table-blank-pipe-one κs a e x y = coincide

pub table-pipe-at-one : Fixes 0 table-pipe-at-kinds.ps table-pipe-at-kinds.r table-pipe-at.Post
table-pipe-at-one κs a e x y = coincide

pub table-set-pipe-one : Fixes 0 table-set-pipe-kinds.ps table-set-pipe-kinds.r table-set-pipe.Post
table-set-pipe-one κs a e x y = coincide

module _ (κs : Lfts 2) (a : Dens κs carrying-carry-kinds.ps) (x y : (res_t carrying-carry-kinds.r κs).Denot) (e f : AtExit (ended_of 2 carrying-carry-kinds.ps carrying-carry-kinds.r) κs) where
  -- what the slice that was written to holds in the end
  pub carrying-carry-one : carrying-carry.Post κs a x e → carrying-carry.Post κs a y f → e.0.now ≡ f.0.now
  carrying-carry-one p q = coincide p q

module _ (κs : Lfts 2) (a : Dens κs transfer-write-pipe-kinds.ps) (x y : (res_t transfer-write-pipe-kinds.r κs).Denot) (e f : AtExit (ended_of 2 transfer-write-pipe-kinds.ps transfer-write-pipe-kinds.r) κs) where
  -- the answer, and what the buffer holds in the end
  pub transfer-write-pipe-one : transfer-write-pipe.Post κs a x e → transfer-write-pipe.Post κs a y f → (x ≡ y) × (e.1.1.0.now ≡ f.1.1.0.now)
  transfer-write-pipe-one p q = (moved-one _ (coincide p.0 q.0), coincide p.1 q.1)

module _ (κs : Lfts 2) (a : Dens κs transfer-read-pipe-kinds.ps) (x y : (res_t transfer-read-pipe-kinds.r κs).Denot) (e f : AtExit (ended_of 2 transfer-read-pipe-kinds.ps transfer-read-pipe-kinds.r) κs) where
  -- the answer, and what the target holds in the end
  pub transfer-read-pipe-one : transfer-read-pipe.Post κs a x e → transfer-read-pipe.Post κs a y f → (x ≡ y) × (e.1.1.1.0.now ≡ f.1.1.1.0.now)
  transfer-read-pipe-one p q = (moved-one _ (coincide p.0 q.0), coincide p.1 q.1)

-- One that was a function and is std's `min` now.
pub carrying-smaller-one : (a b : ℕ) {x y : ℕ} → x ≡ smaller_of a b → y ≡ smaller_of a b → x ≡ y
carrying-smaller-one a b = coincide
