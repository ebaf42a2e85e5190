-- Two answers that satisfy one public statement coincide, and what the lent slice holds in the end.
use mathlib.Core.Path.{◌≡◌}
use contract.Lifetimes.{Lfts}
use denote.Triple.Clauses.{AtExit}
use borrow.Fn.Kinds.{Dens, res_t, ended_of}
use Rattle.kernel.proofs.Unique.{coincide, Fixes}
use Rattle.buffers.proofs.PutLaws.{put-one-way}
use Rattle.lists.proofs.ToldLaws.{lines-one, amended-one, told-one}
use Rattle.lists.proofs.printing.put_list.Reads as printing-put-list
use Rattle.lists.proofs.printing.put_list.Kinds as printing-put-list-kinds
use Rattle.lists.proofs.lines.read_list.Reads as lines-read-list
use Rattle.lists.proofs.lines.read_list.Kinds as lines-read-list-kinds
use Rattle.lists.proofs.texts.tell_changes.Reads as texts-tell-changes
use Rattle.lists.proofs.texts.tell_changes.Kinds as texts-tell-changes-kinds
use Rattle.lists.proofs.texts.apply_text.Reads as texts-apply-text
use Rattle.lists.proofs.texts.apply_text.Kinds as texts-apply-text-kinds

module _ (κs : Lfts 2) (a : Dens κs printing-put-list-kinds.ps) (x y : (res_t printing-put-list-kinds.r κs).Denot) (e f : AtExit (ended_of 2 printing-put-list-kinds.ps printing-put-list-kinds.r) κs) where
  pub printing-put-list-one : printing-put-list.Post κs a x e → printing-put-list.Post κs a y f → (e.0.now ≡ f.0.now) × (x ≡ y)
  printing-put-list-one p q = put-one-way p q

module _ (κs : Lfts 2) (a : Dens κs lines-read-list-kinds.ps) (x y : (res_t lines-read-list-kinds.r κs).Denot) (e f : AtExit (ended_of 2 lines-read-list-kinds.ps lines-read-list-kinds.r) κs) where
  pub lines-read-list-one : lines-read-list.Post κs a x e → lines-read-list.Post κs a y f → (x ≡ y) × (e.1.0.now ≡ f.1.0.now)
  lines-read-list-one p q = (lines-one (coincide p.0 q.0), coincide p.1 q.1)

module _ (κs : Lfts 1) (a : Dens κs texts-tell-changes-kinds.ps) (x y : (res_t texts-tell-changes-kinds.r κs).Denot) (e f : AtExit (ended_of 1 texts-tell-changes-kinds.ps texts-tell-changes-kinds.r) κs) where
  -- the refusal or the place behind the text, and the text
  pub texts-tell-changes-one : texts-tell-changes.Post κs a x e → texts-tell-changes.Post κs a y f → (x ≡ y) × (e.1.1.0.now ≡ f.1.1.0.now)
  texts-tell-changes-one p q = let put = put-one-way p.1 q.1 in (told-one (coincide p.0 q.0) put.1, put.0)

pub texts-apply-text-one : Fixes 1 texts-apply-text-kinds.ps texts-apply-text-kinds.r texts-apply-text.Post
texts-apply-text-one κs a e x y p q = amended-one (coincide p q)
