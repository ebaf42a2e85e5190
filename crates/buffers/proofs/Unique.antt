-- Two answers that satisfy one public statement coincide, as what the sheet holds in the end and its place: `Puts` fixes both.
use mathlib.Core.Path.{◌≡◌}
use contract.Lifetimes.{Lfts}
use denote.Triple.Clauses.{AtExit}
use borrow.Fn.Kinds.{Dens, res_t, ended_of}
use Rattle.buffers.proofs.PutLaws.{put-one-way}
use Rattle.buffers.proofs.putting.Sheet.put_byte.Reads as putting-put-byte
use Rattle.buffers.proofs.putting.Sheet.put_byte.Kinds as putting-put-byte-kinds
use Rattle.buffers.proofs.putting.Sheet.put_word.Reads as putting-put-word
use Rattle.buffers.proofs.putting.Sheet.put_word.Kinds as putting-put-word-kinds
use Rattle.buffers.proofs.putting.Sheet.put_number.Reads as putting-put-number
use Rattle.buffers.proofs.putting.Sheet.put_number.Kinds as putting-put-number-kinds

module _ (κs : Lfts 2) (a : Dens κs putting-put-byte-kinds.ps) (x y : (res_t putting-put-byte-kinds.r κs).Denot) (e f : AtExit (ended_of 2 putting-put-byte-kinds.ps putting-put-byte-kinds.r) κs) where
  pub putting-Sheet-put-byte-one : putting-put-byte.Post κs a x e → putting-put-byte.Post κs a y f → (e.0.now.out.now ≡ f.0.now.out.now) × (e.0.now.at ≡ f.0.now.at)
  putting-Sheet-put-byte-one p q = put-one-way p.put q.put

module _ (κs : Lfts 3) (a : Dens κs putting-put-word-kinds.ps) (x y : (res_t putting-put-word-kinds.r κs).Denot) (e f : AtExit (ended_of 3 putting-put-word-kinds.ps putting-put-word-kinds.r) κs) where
  pub putting-Sheet-put-word-one : putting-put-word.Post κs a x e → putting-put-word.Post κs a y f → (e.0.now.out.now ≡ f.0.now.out.now) × (e.0.now.at ≡ f.0.now.at)
  putting-Sheet-put-word-one p q = put-one-way p.put q.put

module _ (κs : Lfts 2) (a : Dens κs putting-put-number-kinds.ps) (x y : (res_t putting-put-number-kinds.r κs).Denot) (e f : AtExit (ended_of 2 putting-put-number-kinds.ps putting-put-number-kinds.r) κs) where
  pub putting-Sheet-put-number-one : putting-put-number.Post κs a x e → putting-put-number.Post κs a y f → (e.0.now.out.now ≡ f.0.now.out.now) × (e.0.now.at ≡ f.0.now.at)
  putting-Sheet-put-number-one p q = put-one-way p.put q.put
