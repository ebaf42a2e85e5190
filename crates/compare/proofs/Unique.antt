-- Two answers that satisfy one public statement coincide: each contract of the crate fixes its function's whole result.
-- `Fixes P` is about the very statement P that the contract is read as, so no line here can say less than the contract.
use mathlib.Core.Path.{◌≡◌}
use contract.Lifetimes.{Lfts}
use denote.Triple.Clauses.{AtExit}
use borrow.Fn.Kinds.{Dens, res_t, ended_of}
use Rattle.kernel.proofs.Unique.{coincide, Fixes}
use Rattle.compare.specs.Laid.{blank_kept}
use Rattle.kernel.proofs.ToldLaws.{code-one}
use Rattle.compare.proofs.AnswerLaws.{told-compared-one, told-loaded-one}
use Rattle.compare.proofs.cells.bits.Reads as cells-bits
use Rattle.compare.proofs.cells.bits.Kinds as cells-bits-kinds
use Rattle.compare.proofs.cells.cell_at.Reads as cells-cell-at
use Rattle.compare.proofs.cells.cell_at.Kinds as cells-cell-at-kinds
use Rattle.compare.proofs.storing.with_cell.Reads as storing-with-cell
use Rattle.compare.proofs.storing.with_cell.Kinds as storing-with-cell-kinds
use Rattle.compare.proofs.order.name_of.Reads as order-name-of
use Rattle.compare.proofs.order.name_of.Kinds as order-name-of-kinds
use Rattle.compare.proofs.order.cell_of.Reads as order-cell-of
use Rattle.compare.proofs.order.cell_of.Kinds as order-cell-of-kinds
use Rattle.compare.proofs.order.counts.Reads as order-counts
use Rattle.compare.proofs.order.counts.Kinds as order-counts-kinds
use Rattle.compare.proofs.comparing.count_changes.Reads as comparing-count-changes
use Rattle.compare.proofs.comparing.count_changes.Kinds as comparing-count-changes-kinds
use Rattle.compare.proofs.checksum.checksum.Reads as checksum-checksum
use Rattle.compare.proofs.checksum.checksum.Kinds as checksum-checksum-kinds
use Rattle.compare.proofs.laying.blank_kept.Reads as laying-blank-kept
use Rattle.compare.proofs.laying.blank_kept.Kinds as laying-blank-kept-kinds
use Rattle.compare.proofs.laying.kept_of.Reads as laying-kept-of
use Rattle.compare.proofs.laying.kept_of.Kinds as laying-kept-of-kinds
use Rattle.compare.proofs.saving.read_anyway.Reads as saving-read-anyway
use Rattle.compare.proofs.saving.read_anyway.Kinds as saving-read-anyway-kinds
use Rattle.compare.proofs.saving.load.Reads as saving-load
use Rattle.compare.proofs.saving.load.Kinds as saving-load-kinds
use Rattle.compare.proofs.comparing.list_changes.Reads as comparing-list-changes
use Rattle.compare.proofs.comparing.list_changes.Kinds as comparing-list-changes-kinds
use Rattle.compare.proofs.laying.put_kept.Reads as laying-put-kept
use Rattle.compare.proofs.laying.put_kept.Kinds as laying-put-kept-kinds
use Rattle.compare.proofs.saving.save.Reads as saving-save
use Rattle.compare.proofs.saving.save.Kinds as saving-save-kinds
use Rattle.compare.proofs.renewing.renew_words.Reads as renewing-renew-words
use Rattle.compare.proofs.renewing.renew_words.Kinds as renewing-renew-words-kinds
use Rattle.compare.proofs.order.place_of.Reads as order-place-of
use Rattle.compare.proofs.order.place_of.Kinds as order-place-of-kinds
use Rattle.compare.proofs.cells.size_cell.Reads as cells-size-cell
use Rattle.compare.proofs.cells.size_cell.Kinds as cells-size-cell-kinds
use Rattle.compare.proofs.applying.apply.Reads as applying-apply
use Rattle.compare.proofs.applying.apply.Kinds as applying-apply-kinds
use Rattle.compare.proofs.comparing.compare.Reads as comparing-compare
use Rattle.compare.proofs.comparing.compare.Kinds as comparing-compare-kinds

pub cells-bits-one : Fixes 0 cells-bits-kinds.ps cells-bits-kinds.r cells-bits.Post
cells-bits-one κs a e x y = coincide

pub cells-cell-at-one : Fixes 0 cells-cell-at-kinds.ps cells-cell-at-kinds.r cells-cell-at.Post
cells-cell-at-one κs a e x y = coincide

pub storing-with-cell-one : Fixes 0 storing-with-cell-kinds.ps storing-with-cell-kinds.r storing-with-cell.Post
storing-with-cell-one κs a e x y = coincide

pub order-name-of-one : Fixes 0 order-name-of-kinds.ps order-name-of-kinds.r order-name-of.Post
order-name-of-one κs a e x y = coincide

pub order-cell-of-one : Fixes 0 order-cell-of-kinds.ps order-cell-of-kinds.r order-cell-of.Post
order-cell-of-one κs a e x y = coincide

pub order-counts-one : Fixes 0 order-counts-kinds.ps order-counts-kinds.r order-counts.Post
order-counts-one κs a e x y = coincide

pub comparing-count-changes-one : Fixes 0 comparing-count-changes-kinds.ps comparing-count-changes-kinds.r comparing-count-changes.Post
comparing-count-changes-one κs a e x y = coincide

pub checksum-checksum-one : Fixes 1 checksum-checksum-kinds.ps checksum-checksum-kinds.r checksum-checksum.Post
checksum-checksum-one κs a e x y = coincide

pub laying-blank-kept-one : Fixes 0 laying-blank-kept-kinds.ps laying-blank-kept-kinds.r laying-blank-kept.Post
laying-blank-kept-one κs a e x y = coincide

pub laying-kept-of-one : Fixes 2 laying-kept-of-kinds.ps laying-kept-of-kinds.r laying-kept-of.Post
laying-kept-of-one κs a e x y = coincide

pub saving-read-anyway-one : Fixes 1 saving-read-anyway-kinds.ps saving-read-anyway-kinds.r saving-read-anyway.Post
saving-read-anyway-one κs a e x y = coincide

pub saving-load-one : Fixes 1 saving-load-kinds.ps saving-load-kinds.r saving-load.Post
saving-load-one κs a e x y p q = told-loaded-one blank_kept (coincide p q)

module _ (κs : Lfts 1) (a : Dens κs comparing-list-changes-kinds.ps) (x y : (res_t comparing-list-changes-kinds.r κs).Denot)
    (e f : AtExit (ended_of 1 comparing-list-changes-kinds.ps comparing-list-changes-kinds.r) κs) where
  -- and what the list holds in the end
  pub comparing-list-changes-one : comparing-list-changes.Post κs a x e → comparing-list-changes.Post κs a y f → (x ≡ y) × (e.1.1.1.0.now ≡ f.1.1.1.0.now)
  comparing-list-changes-one p q = (told-compared-one (coincide p.0 q.0), coincide p.1 q.1)

module _ (κs : Lfts 2) (a : Dens κs laying-put-kept-kinds.ps) (x y : (res_t laying-put-kept-kinds.r κs).Denot)
    (e f : AtExit (ended_of 2 laying-put-kept-kinds.ps laying-put-kept-kinds.r) κs) where
  -- and what the lent slices hold in the end
  pub laying-put-kept-one : laying-put-kept.Post κs a x e → laying-put-kept.Post κs a y f → (e.1.0.now ≡ f.1.0.now) × (e.1.1.0.now ≡ f.1.1.0.now)
  laying-put-kept-one p q = (coincide p.0 q.0, coincide p.1 q.1)

module _ (κs : Lfts 1) (a : Dens κs saving-save-kinds.ps) (x y : (res_t saving-save-kinds.r κs).Denot)
    (e f : AtExit (ended_of 1 saving-save-kinds.ps saving-save-kinds.r) κs) where
  -- and what the lent slice holds in the end
  pub saving-save-one : saving-save.Post κs a x e → saving-save.Post κs a y f → (x ≡ y) × (e.1.0.now ≡ f.1.0.now)
  saving-save-one p q = (code-one (coincide p.0 q.0), coincide p.1 q.1)

pub renewing-renew-words-one : Fixes 0 renewing-renew-words-kinds.ps renewing-renew-words-kinds.r renewing-renew-words.Post
renewing-renew-words-one κs a e x y = coincide

pub order-place-of-one : Fixes 0 order-place-of-kinds.ps order-place-of-kinds.r order-place-of.Post
order-place-of-one κs a e x y = coincide

pub cells-size-cell-one : Fixes 0 cells-size-cell-kinds.ps cells-size-cell-kinds.r cells-size-cell.Post
cells-size-cell-one κs a e x y = coincide

pub applying-apply-one : Fixes 1 applying-apply-kinds.ps applying-apply-kinds.r applying-apply.Post
applying-apply-one κs a e x y = coincide

module _ (κs : Lfts 1) (a : Dens κs comparing-compare-kinds.ps) (x y : (res_t comparing-compare-kinds.r κs).Denot)
    (e f : AtExit (ended_of 1 comparing-compare-kinds.ps comparing-compare-kinds.r) κs) where
  -- and what the list holds in the end
  pub comparing-compare-one : comparing-compare.Post κs a x e → comparing-compare.Post κs a y f → (x ≡ y) × (e.1.1.0.now ≡ f.1.1.0.now)
  comparing-compare-one p q = (told-compared-one (coincide p.0 q.0), coincide p.1 q.1)
