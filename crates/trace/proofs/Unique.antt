-- Two answers that satisfy one public statement coincide: each contract of the crate fixes its function's whole result.
-- `Fixes P` is about the very statement P that the contract is read as, so no line here can say less than the contract.
use mathlib.Core.Path.{◌≡◌}
use seplogic.Ra.Ura.{Ura}
use base.Logic.{SProp, ent, sep}
use prog.Memory.{Memory}
use prog.Routine.{Routine}
use types.Logic.{Logic}
use contract.Lifetimes.{Lfts}
use contract.Monad.{Fun, fact}
use denote.Triple.Clauses.{AtExit}
use denote.Triple.Entry.{Args, Res}
use borrow.Fn.Kinds.{Dens, res_t, ended_of}
use Rattle.kernel.proofs.Unique.{coincide, coincide-lent, Fixes}
use Rattle.trace.proofs.ToldLaws.{read-one, written-one}
use Rattle.trace.proofs.ordered.byte_at.Reads as ordered-byte-at
use Rattle.trace.proofs.ordered.byte_at.Kinds as ordered-byte-at-kinds
use Rattle.trace.proofs.ordered.read_u16.Reads as ordered-read-u16
use Rattle.trace.proofs.ordered.read_u16.Kinds as ordered-read-u16-kinds
use Rattle.trace.proofs.ordered.read_u32.Reads as ordered-read-u32
use Rattle.trace.proofs.ordered.read_u32.Kinds as ordered-read-u32-kinds
use Rattle.trace.proofs.ordered.write_u16.Reads as ordered-write-u16
use Rattle.trace.proofs.ordered.write_u16.Kinds as ordered-write-u16-kinds
use Rattle.trace.proofs.ordered.write_u32.Reads as ordered-write-u32
use Rattle.trace.proofs.ordered.write_u32.Kinds as ordered-write-u32-kinds
use Rattle.trace.proofs.decoding.number_at.Reads as decoding-number-at
use Rattle.trace.proofs.decoding.number_at.Kinds as decoding-number-at-kinds
use Rattle.trace.proofs.decoding.decode_sizes.Reads as decoding-decode-sizes
use Rattle.trace.proofs.decoding.decode_sizes.Kinds as decoding-decode-sizes-kinds
use Rattle.trace.proofs.decoding.decode_step.Reads as decoding-decode-step
use Rattle.trace.proofs.decoding.decode_step.Kinds as decoding-decode-step-kinds
use Rattle.trace.proofs.decoding.next_record.Reads as decoding-next-record
use Rattle.trace.proofs.decoding.next_record.Kinds as decoding-next-record-kinds
use Rattle.trace.specs.contracts.cursor.Reader.next as cursor-next
use Rattle.trace.proofs.cursor.read_at.Reads as cursor-read-at
use Rattle.trace.proofs.cursor.read_at.Kinds as cursor-read-at-kinds
use Rattle.trace.proofs.writer.write_sizes.Reads as writer-write-sizes
use Rattle.trace.proofs.writer.write_sizes.Kinds as writer-write-sizes-kinds
use Rattle.trace.proofs.writer.write_step.Reads as writer-write-step
use Rattle.trace.proofs.writer.write_step.Kinds as writer-write-step-kinds

pub ordered-byte-at-one : Fixes 1 ordered-byte-at-kinds.ps ordered-byte-at-kinds.r ordered-byte-at.Post
ordered-byte-at-one κs a e x y = coincide

pub ordered-read-u16-one : Fixes 1 ordered-read-u16-kinds.ps ordered-read-u16-kinds.r ordered-read-u16.Post
ordered-read-u16-one κs a e x y = coincide

pub ordered-read-u32-one : Fixes 1 ordered-read-u32-kinds.ps ordered-read-u32-kinds.r ordered-read-u32.Post
ordered-read-u32-one κs a e x y = coincide

pub decoding-number-at-one : Fixes 0 decoding-number-at-kinds.ps decoding-number-at-kinds.r decoding-number-at.Post
decoding-number-at-one κs a e x y = coincide

pub decoding-decode-sizes-one : Fixes 1 decoding-decode-sizes-kinds.ps decoding-decode-sizes-kinds.r decoding-decode-sizes.Post
decoding-decode-sizes-one κs a e x y = coincide

pub decoding-decode-step-one : Fixes 1 decoding-decode-step-kinds.ps decoding-decode-step-kinds.r decoding-decode-step.Post
decoding-decode-step-one κs a e x y = coincide

pub decoding-next-record-one : Fixes 1 decoding-next-record-kinds.ps decoding-next-record-kinds.r decoding-next-record.Post
decoding-next-record-one κs a e x y p q = read-one (coincide p q)

pub cursor-read-at-one : Fixes 1 cursor-read-at-kinds.ps cursor-read-at-kinds.r cursor-read-at.Post
cursor-read-at-one κs a e x y p q = read-one (coincide p q)

-- The statement of a function over a reader is of the logic: whatever satisfies it twice is the same.
module _ {M : Type 1} {𝓤 : Ura M} (𝓛 : Logic 𝓤) (at_mem : Memory → SProp 𝓤) (run : Routine → Fun 𝓤) where
  module _ (κs : Lfts 2) (a : Args cursor-next.signature κs) (x y : Res cursor-next.signature κs) (e f : AtExit cursor-next.ended κs) where
    abbrev next-gives : Res cursor-next.signature κs → AtExit cursor-next.ended κs → SProp 𝓤
    next-gives = (cursor-next.clauses 𝓛 at_mem run κs a).ensures tt

    -- and where the lent reader stands in the end
    pub cursor-Reader-next-one : ent 𝓤 (sep 𝓤 (next-gives x e) (next-gives y f)) (fact 𝓤 ((x ≡ y) × (e.0.now ≡ f.0.now)))
    cursor-Reader-next-one = coincide-lent 𝓤 (λ p q. (read-one (coincide p.0 q.0), coincide p.1 q.1))

module _ (κs : Lfts 1) (a : Dens κs ordered-write-u16-kinds.ps) (x y : (res_t ordered-write-u16-kinds.r κs).Denot)
    (e f : AtExit (ended_of 1 ordered-write-u16-kinds.ps ordered-write-u16-kinds.r) κs) where
  -- and what the lent slice holds in the end
  pub ordered-write-u16-one : ordered-write-u16.Post κs a x e → ordered-write-u16.Post κs a y f → e.0.now ≡ f.0.now
  ordered-write-u16-one p q = coincide p q

module _ (κs : Lfts 1) (a : Dens κs ordered-write-u32-kinds.ps) (x y : (res_t ordered-write-u32-kinds.r κs).Denot)
    (e f : AtExit (ended_of 1 ordered-write-u32-kinds.ps ordered-write-u32-kinds.r) κs) where
  -- and what the lent slice holds in the end
  pub ordered-write-u32-one : ordered-write-u32.Post κs a x e → ordered-write-u32.Post κs a y f → e.0.now ≡ f.0.now
  ordered-write-u32-one p q = coincide p q

module _ (κs : Lfts 1) (a : Dens κs writer-write-sizes-kinds.ps) (x y : (res_t writer-write-sizes-kinds.r κs).Denot)
    (e f : AtExit (ended_of 1 writer-write-sizes-kinds.ps writer-write-sizes-kinds.r) κs) where
  -- and what the lent slice holds in the end
  pub writer-write-sizes-one : writer-write-sizes.Post κs a x e → writer-write-sizes.Post κs a y f → (x ≡ y) × (e.0.now ≡ f.0.now)
  writer-write-sizes-one p q = (written-one (coincide p.0 q.0), coincide p.1 q.1)

module _ (κs : Lfts 1) (a : Dens κs writer-write-step-kinds.ps) (x y : (res_t writer-write-step-kinds.r κs).Denot)
    (e f : AtExit (ended_of 1 writer-write-step-kinds.ps writer-write-step-kinds.r) κs) where
  -- and what the lent slice holds in the end
  pub writer-write-step-one : writer-write-step.Post κs a x e → writer-write-step.Post κs a y f → (x ≡ y) × (e.0.now ≡ f.0.now)
  writer-write-step-one p q = (written-one (coincide p.0 q.0), coincide p.1 q.1)
