-- Two answers that satisfy one public statement coincide: the contract of each public function of the crate fixes its whole result, where that
-- is an answer and no error. The statements are the very ones that the contracts are read as, so no line here can say less than the contract.
use Rattle.std.proofs.Common.{◌≡◌, ℕ}
use Rattle.std.specs.Prelude.{Ok}
use Rattle.std.specs.declared.fs.files.Files.{Ghosts as FilesGhosts}
use Rattle.std.specs.declared.fs.files.OpenFile.{Ghosts as OpenFileGhosts}
use Rattle.std.specs.declared.io.traits.Read.{Ghosts as ReadGhosts}
use Rattle.std.specs.declared.io.traits.Seek.{Ghosts as SeekGhosts}
use Rattle.std.specs.declared.io.traits.Write.{Ghosts as WriteGhosts}
use borrow.Fn.Kinds.{Dens, ended_of}
use contract.Lifetimes.{Lfts}
use denote.Param.Laws.{Laws}
use denote.RattleType.{RattleType}
use denote.Triple.Clauses.{AtExit}
use mir.Syntax.{Dict}
use Rattle.kernel.proofs.Unique.{coincide}
use Rattle.text.proofs.files.show_all.Reads as files-show-all
use Rattle.text.proofs.files.show_all.Kinds as files-show-all-kinds
use Rattle.text.proofs.printing.print_trace.Reads as printing-print-trace
use Rattle.text.proofs.printing.print_trace.Kinds as printing-print-trace-kinds

-- for every sink
module _ (W : RattleType) (w : Laws W) (write : WriteGhosts W.Denot) (wd : Dict) where
  pub printing-print-trace-one : (κs : Lfts 3) (a : Dens κs (printing-print-trace-kinds.ps W w))
      (e : AtExit (ended_of 3 (printing-print-trace-kinds.ps W w) (printing-print-trace-kinds.r W w)) κs) (x y : ℕ)
      → printing-print-trace.Post W w write wd κs a (Ok x) e → printing-print-trace.Post W w write wd κs a (Ok y) e → x ≡ y
  printing-print-trace-one κs a e x y = coincide

-- for all files and every sink
module _ (R W F D : RattleType) (r : Laws R) (w : Laws W) (f : Laws F) (d : Laws D) (files : FilesGhosts R.Denot F.Denot D.Denot) (fsd : Dict)
    (read : ReadGhosts F.Denot) (frd : Dict) (fwrite : WriteGhosts F.Denot) (fwd : Dict) (seek : SeekGhosts F.Denot) (fkd : Dict)
    (opened : OpenFileGhosts F.Denot) (fod : Dict) (dread : ReadGhosts D.Denot) (drd : Dict) (write : WriteGhosts W.Denot) (wd : Dict)
    (fdd : Dict) (ddd : Dict) where
  pub files-show-all-one : (κs : Lfts 7) (a : Dens κs (files-show-all-kinds.ps R W F D r w f d))
      (e : AtExit (ended_of 7 (files-show-all-kinds.ps R W F D r w f d) (files-show-all-kinds.r R W F D r w f d)) κs) (x y : ℕ)
      → files-show-all.Post R W F D r w f d files fsd read frd fwrite fwd seek fkd opened fod dread drd write wd fdd ddd κs a (Ok x) e
      → files-show-all.Post R W F D r w f d files fsd read frd fwrite fwd seek fkd opened fod dread drd write wd fdd ddd κs a (Ok y) e → x ≡ y
  files-show-all-one κs a e x y = coincide
