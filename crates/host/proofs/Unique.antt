-- Two answers that satisfy one public statement coincide: each contract of the crate fixes its function's whole result, and what
-- stands in the end behind each reference that it was lent.
use mathlib.Core.Path.{◌≡◌}
use seplogic.Ra.Ura.{Ura}
use base.Logic.{SProp, ent, sep}
use prog.Memory.{Memory}
use prog.Routine.{Routine}
use types.Logic.{Logic}
use contract.Lifetimes.{Lfts}
use contract.Monad.{Fun, fact}
use borrow.Fn.Kinds.{Dens, res_t, ended_of}
use denote.Triple.Clauses.{AtExit}
use denote.Triple.Entry.{Args, Res}
use Rattle.kernel.proofs.Unique.{coincide, coincide-lent, Fixes}
use Rattle.host.specs.contracts.broken.nil_broken as broken-nil-broken
use Rattle.host.specs.contracts.screen.nil_ready_count as screen-nil-ready-count
use Rattle.host.specs.contracts.screen.nil_first_ready as screen-nil-first-ready
use Rattle.host.specs.contracts.screen.nil_waiting as screen-nil-waiting
use Rattle.host.proofs.layout.nil_layout.Reads as layout-nil-layout
use Rattle.host.proofs.layout.nil_layout.Kinds as layout-nil-layout-kinds
use Rattle.host.proofs.times.nil_time_add.Reads as times-nil-time-add
use Rattle.host.proofs.times.nil_time_add.Kinds as times-nil-time-add-kinds
use Rattle.host.proofs.times.nil_time_diff.Reads as times-nil-time-diff
use Rattle.host.proofs.times.nil_time_diff.Kinds as times-nil-time-diff-kinds
use Rattle.host.proofs.times.nil_time_in_range.Reads as times-nil-time-in-range
use Rattle.host.proofs.times.nil_time_in_range.Kinds as times-nil-time-in-range-kinds
use Rattle.host.proofs.comparing.nil_compare_bytes.Reads as comparing-nil-compare-bytes
use Rattle.host.proofs.comparing.nil_compare_bytes.Kinds as comparing-nil-compare-bytes-kinds
use Rattle.host.proofs.comparing.nil_apply_bytes.Reads as comparing-nil-apply-bytes
use Rattle.host.proofs.comparing.nil_apply_bytes.Kinds as comparing-nil-apply-bytes-kinds
use Rattle.host.proofs.comparing.nil_save_bytes.Reads as comparing-nil-save-bytes
use Rattle.host.proofs.comparing.nil_save_bytes.Kinds as comparing-nil-save-bytes-kinds
use Rattle.host.proofs.comparing.nil_load_bytes.Reads as comparing-nil-load-bytes
use Rattle.host.proofs.comparing.nil_load_bytes.Kinds as comparing-nil-load-bytes-kinds
use Rattle.host.proofs.times.nil_s2i.Reads as times-nil-s2i
use Rattle.host.proofs.times.nil_s2i.Kinds as times-nil-s2i-kinds
use Rattle.host.proofs.times.nil_ms2i.Reads as times-nil-ms2i
use Rattle.host.proofs.times.nil_ms2i.Kinds as times-nil-ms2i-kinds
use Rattle.host.proofs.times.nil_us2i.Reads as times-nil-us2i
use Rattle.host.proofs.times.nil_us2i.Kinds as times-nil-us2i-kinds
use Rattle.host.proofs.times.nil_i2s.Reads as times-nil-i2s
use Rattle.host.proofs.times.nil_i2s.Kinds as times-nil-i2s-kinds
use Rattle.host.proofs.times.nil_i2ms.Reads as times-nil-i2ms
use Rattle.host.proofs.times.nil_i2ms.Kinds as times-nil-i2ms-kinds
use Rattle.host.proofs.times.nil_i2us.Reads as times-nil-i2us
use Rattle.host.proofs.times.nil_i2us.Kinds as times-nil-i2us-kinds
use Rattle.host.proofs.request.step_of.Reads as request-step-of
use Rattle.host.proofs.request.step_of.Kinds as request-step-of-kinds
use Rattle.host.specs.contracts.request.nil_step as request-nil-step
use Rattle.host.specs.contracts.setup.nil_fresh as setup-nil-fresh
use Rattle.host.specs.contracts.reads.nil_read as reads-nil-read
use Rattle.host.specs.contracts.writes.nil_write_sizes as writes-nil-write-sizes
use Rattle.host.specs.contracts.writes.nil_write_step as writes-nil-write-step
use Rattle.host.specs.contracts.piping.nil_pipe_fresh as piping-nil-pipe-fresh
use Rattle.host.specs.contracts.piping.nil_pipe_reset as piping-nil-pipe-reset
use Rattle.host.specs.contracts.piping.nil_pipe_resume as piping-nil-pipe-resume
use Rattle.host.specs.contracts.piping.nil_pipe_write as piping-nil-pipe-write
use Rattle.host.specs.contracts.piping.nil_pipe_read as piping-nil-pipe-read

pub request-step-of-one : Fixes 0 request-step-of-kinds.ps request-step-of-kinds.r request-step-of.Post
request-step-of-one κs a e x y = coincide

pub layout-nil-layout-one : Fixes 0 layout-nil-layout-kinds.ps layout-nil-layout-kinds.r layout-nil-layout.Post
layout-nil-layout-one κs a e x y = coincide

pub times-nil-time-add-one : Fixes 0 times-nil-time-add-kinds.ps times-nil-time-add-kinds.r times-nil-time-add.Post
times-nil-time-add-one κs a e x y = coincide

pub times-nil-time-diff-one : Fixes 0 times-nil-time-diff-kinds.ps times-nil-time-diff-kinds.r times-nil-time-diff.Post
times-nil-time-diff-one κs a e x y = coincide

pub times-nil-time-in-range-one : Fixes 0 times-nil-time-in-range-kinds.ps times-nil-time-in-range-kinds.r times-nil-time-in-range.Post
times-nil-time-in-range-one κs a e x y = coincide

module _ (κs : Lfts 6) (a : Dens κs comparing-nil-compare-bytes-kinds.ps) (x y : (res_t comparing-nil-compare-bytes-kinds.r κs).Denot)
    (e f : AtExit (ended_of 6 comparing-nil-compare-bytes-kinds.ps comparing-nil-compare-bytes-kinds.r) κs) where
  -- the code, and what the list and the number of entries are in the end
  pub comparing-nil-compare-bytes-one : comparing-nil-compare-bytes.Post κs a x e → comparing-nil-compare-bytes.Post κs a y f → (x ≡ y) × ((e.1.1.1.1.0.now ≡ f.1.1.1.1.0.now) × (e.1.1.1.1.1.0.now ≡ f.1.1.1.1.1.0.now))
  comparing-nil-compare-bytes-one p q = (coincide p.0 q.0, (coincide p.1.0 q.1.0, coincide p.1.1 q.1.1))

module _ (κs : Lfts 3) (a : Dens κs comparing-nil-apply-bytes-kinds.ps) (x y : (res_t comparing-nil-apply-bytes-kinds.r κs).Denot)
    (e f : AtExit (ended_of 3 comparing-nil-apply-bytes-kinds.ps comparing-nil-apply-bytes-kinds.r) κs) where
  -- how many entries were passed over, and what tables and clock hold in the end
  pub comparing-nil-apply-bytes-one : comparing-nil-apply-bytes.Post κs a x e → comparing-nil-apply-bytes.Post κs a y f → (x ≡ y) × ((e.0.now ≡ f.0.now) × (e.1.0.now ≡ f.1.0.now))
  comparing-nil-apply-bytes-one p q = (coincide p.0 q.0, (coincide p.1.0 q.1.0, coincide p.1.1 q.1.1))

module _ (κs : Lfts 3) (a : Dens κs comparing-nil-save-bytes-kinds.ps) (x y : (res_t comparing-nil-save-bytes-kinds.r κs).Denot)
    (e f : AtExit (ended_of 3 comparing-nil-save-bytes-kinds.ps comparing-nil-save-bytes-kinds.r) κs) where
  -- the code, and what the file holds in the end
  pub comparing-nil-save-bytes-one : comparing-nil-save-bytes.Post κs a x e → comparing-nil-save-bytes.Post κs a y f → (x ≡ y) × (e.1.1.0.now ≡ f.1.1.0.now)
  comparing-nil-save-bytes-one p q = (coincide p.0 q.0, coincide p.1 q.1)

module _ (κs : Lfts 3) (a : Dens κs comparing-nil-load-bytes-kinds.ps) (x y : (res_t comparing-nil-load-bytes-kinds.r κs).Denot)
    (e f : AtExit (ended_of 3 comparing-nil-load-bytes-kinds.ps comparing-nil-load-bytes-kinds.r) κs) where
  -- the code, and what tables and clock hold in the end
  pub comparing-nil-load-bytes-one : comparing-nil-load-bytes.Post κs a x e → comparing-nil-load-bytes.Post κs a y f → (x ≡ y) × ((e.1.0.now ≡ f.1.0.now) × (e.1.1.0.now ≡ f.1.1.0.now))
  comparing-nil-load-bytes-one p q = (coincide p.0 q.0, (coincide p.1.0 q.1.0, coincide p.1.1 q.1.1))

module _ (κs : Lfts 1) (a : Dens κs times-nil-s2i-kinds.ps) (x y : (res_t times-nil-s2i-kinds.r κs).Denot)
    (e f : AtExit (ended_of 1 times-nil-s2i-kinds.ps times-nil-s2i-kinds.r) κs) where
  -- the code, and what stands in the end where the number was asked for
  pub times-nil-s2i-one : times-nil-s2i.Post κs a x e → times-nil-s2i.Post κs a y f → (x ≡ y) × (e.1.1.0.now ≡ f.1.1.0.now)
  times-nil-s2i-one p q = (coincide p.0 q.0, coincide p.1 q.1)

module _ (κs : Lfts 1) (a : Dens κs times-nil-ms2i-kinds.ps) (x y : (res_t times-nil-ms2i-kinds.r κs).Denot)
    (e f : AtExit (ended_of 1 times-nil-ms2i-kinds.ps times-nil-ms2i-kinds.r) κs) where
  -- the code, and what stands in the end where the number was asked for
  pub times-nil-ms2i-one : times-nil-ms2i.Post κs a x e → times-nil-ms2i.Post κs a y f → (x ≡ y) × (e.1.1.0.now ≡ f.1.1.0.now)
  times-nil-ms2i-one p q = (coincide p.0 q.0, coincide p.1 q.1)

module _ (κs : Lfts 1) (a : Dens κs times-nil-us2i-kinds.ps) (x y : (res_t times-nil-us2i-kinds.r κs).Denot)
    (e f : AtExit (ended_of 1 times-nil-us2i-kinds.ps times-nil-us2i-kinds.r) κs) where
  -- the code, and what stands in the end where the number was asked for
  pub times-nil-us2i-one : times-nil-us2i.Post κs a x e → times-nil-us2i.Post κs a y f → (x ≡ y) × (e.1.1.0.now ≡ f.1.1.0.now)
  times-nil-us2i-one p q = (coincide p.0 q.0, coincide p.1 q.1)

module _ (κs : Lfts 1) (a : Dens κs times-nil-i2s-kinds.ps) (x y : (res_t times-nil-i2s-kinds.r κs).Denot)
    (e f : AtExit (ended_of 1 times-nil-i2s-kinds.ps times-nil-i2s-kinds.r) κs) where
  -- the code, and what stands in the end where the number was asked for
  pub times-nil-i2s-one : times-nil-i2s.Post κs a x e → times-nil-i2s.Post κs a y f → (x ≡ y) × (e.1.1.0.now ≡ f.1.1.0.now)
  times-nil-i2s-one p q = (coincide p.0 q.0, coincide p.1 q.1)

module _ (κs : Lfts 1) (a : Dens κs times-nil-i2ms-kinds.ps) (x y : (res_t times-nil-i2ms-kinds.r κs).Denot)
    (e f : AtExit (ended_of 1 times-nil-i2ms-kinds.ps times-nil-i2ms-kinds.r) κs) where
  -- the code, and what stands in the end where the number was asked for
  pub times-nil-i2ms-one : times-nil-i2ms.Post κs a x e → times-nil-i2ms.Post κs a y f → (x ≡ y) × (e.1.1.0.now ≡ f.1.1.0.now)
  times-nil-i2ms-one p q = (coincide p.0 q.0, coincide p.1 q.1)

module _ (κs : Lfts 1) (a : Dens κs times-nil-i2us-kinds.ps) (x y : (res_t times-nil-i2us-kinds.r κs).Denot)
    (e f : AtExit (ended_of 1 times-nil-i2us-kinds.ps times-nil-i2us-kinds.r) κs) where
  -- the code, and what stands in the end where the number was asked for
  pub times-nil-i2us-one : times-nil-i2us.Post κs a x e → times-nil-i2us.Post κs a y f → (x ≡ y) × (e.1.1.0.now ≡ f.1.1.0.now)
  times-nil-i2us-one p q = (coincide p.0 q.0, coincide p.1 q.1)

-- The statements of functions that are lent structs are of the logic: whatever satisfies one twice is the same.
module _ {M : Type 1} {𝓤 : Ura M} (𝓛 : Logic 𝓤) (at_mem : Memory → SProp 𝓤) (run : Routine → Fun 𝓤) where
  module _ (κs : Lfts 4) (a : Args request-nil-step.signature κs) (e f : AtExit request-nil-step.ended κs) where
    abbrev nil-step-ends : AtExit request-nil-step.ended κs → SProp 𝓤
    nil-step-ends = (request-nil-step.clauses 𝓛 at_mem run κs a).ensures tt tt

    -- what the lent tables, the lent clock and the lent result hold in the end
    pub request-nil-step-one : ent 𝓤 (sep 𝓤 (nil-step-ends e) (nil-step-ends f)) (fact 𝓤 ((e.0.now ≡ f.0.now) × (e.1.0.now ≡ f.1.0.now) × (e.1.1.1.0.now ≡ f.1.1.1.0.now)))
    request-nil-step-one = coincide-lent 𝓤 (λ p q. (coincide p.0 q.0, coincide p.1 q.1, coincide p.2 q.2))

  module _ (κs : Lfts 3) (a : Args setup-nil-fresh.signature κs) (x y : Res setup-nil-fresh.signature κs) (e f : AtExit setup-nil-fresh.ended κs) where
    abbrev nil-fresh-gives : Res setup-nil-fresh.signature κs → AtExit setup-nil-fresh.ended κs → SProp 𝓤
    nil-fresh-gives = (setup-nil-fresh.clauses 𝓛 at_mem run κs a).ensures tt

    -- the code, and what the lent tables and the lent clock hold in the end
    pub setup-nil-fresh-one : ent 𝓤 (sep 𝓤 (nil-fresh-gives x e) (nil-fresh-gives y f)) (fact 𝓤 ((x ≡ y) × (e.0.now ≡ f.0.now) × (e.1.0.now ≡ f.1.0.now)))
    setup-nil-fresh-one = coincide-lent 𝓤 (λ p q. (coincide p.0 q.0, coincide p.1 q.1, coincide p.2 q.2))

  module _ (κs : Lfts 2) (a : Args reads-nil-read.signature κs) (e f : AtExit reads-nil-read.ended κs) where
    abbrev nil-read-ends : AtExit reads-nil-read.ended κs → SProp 𝓤
    nil-read-ends = (reads-nil-read.clauses 𝓛 at_mem run κs a).ensures tt tt

    -- what the lent result holds in the end
    pub reads-nil-read-one : ent 𝓤 (sep 𝓤 (nil-read-ends e) (nil-read-ends f)) (fact 𝓤 (e.1.1.0.now ≡ f.1.1.0.now))
    reads-nil-read-one = coincide-lent 𝓤 coincide

  module _ (κs : Lfts 3) (a : Args writes-nil-write-sizes.signature κs) (x y : Res writes-nil-write-sizes.signature κs) (e f : AtExit writes-nil-write-sizes.ended κs) where
    abbrev nil-write-sizes-gives : Res writes-nil-write-sizes.signature κs → AtExit writes-nil-write-sizes.ended κs → SProp 𝓤
    nil-write-sizes-gives = (writes-nil-write-sizes.clauses 𝓛 at_mem run κs a).ensures tt

    -- the code, and what the lent buffer and the lent place hold in the end
    pub writes-nil-write-sizes-one : ent 𝓤 (sep 𝓤 (nil-write-sizes-gives x e) (nil-write-sizes-gives y f)) (fact 𝓤 ((x ≡ y) × (e.0.now ≡ f.0.now) × (e.1.1.0.now ≡ f.1.1.0.now)))
    writes-nil-write-sizes-one = coincide-lent 𝓤 (λ p q. (coincide p.0 q.0, coincide p.1 q.1, coincide p.2 q.2))

  module _ (κs : Lfts 3) (a : Args writes-nil-write-step.signature κs) (x y : Res writes-nil-write-step.signature κs) (e f : AtExit writes-nil-write-step.ended κs) where
    abbrev nil-write-step-gives : Res writes-nil-write-step.signature κs → AtExit writes-nil-write-step.ended κs → SProp 𝓤
    nil-write-step-gives = (writes-nil-write-step.clauses 𝓛 at_mem run κs a).ensures tt

    -- the code, and what the lent buffer and the lent place hold in the end
    pub writes-nil-write-step-one : ent 𝓤 (sep 𝓤 (nil-write-step-gives x e) (nil-write-step-gives y f)) (fact 𝓤 ((x ≡ y) × (e.0.now ≡ f.0.now) × (e.1.1.1.0.now ≡ f.1.1.1.0.now)))
    writes-nil-write-step-one = coincide-lent 𝓤 (λ p q. (coincide p.0 q.0, coincide p.1 q.1, coincide p.2 q.2))

  module _ (κs : Lfts 2) (a : Args broken-nil-broken.signature κs) (x y : Res broken-nil-broken.signature κs) (e f : AtExit broken-nil-broken.ended κs) where
    abbrev nil-broken-gives : Res broken-nil-broken.signature κs → AtExit broken-nil-broken.ended κs → SProp 𝓤
    nil-broken-gives = (broken-nil-broken.clauses 𝓛 at_mem run κs a).ensures tt

    -- the number
    pub broken-nil-broken-one : ent 𝓤 (sep 𝓤 (nil-broken-gives x e) (nil-broken-gives y f)) (fact 𝓤 (x ≡ y))
    broken-nil-broken-one = coincide-lent 𝓤 coincide

  module _ (κs : Lfts 1) (a : Args screen-nil-ready-count.signature κs) (x y : Res screen-nil-ready-count.signature κs) (e f : AtExit screen-nil-ready-count.ended κs) where
    abbrev nil-ready-count-gives : Res screen-nil-ready-count.signature κs → AtExit screen-nil-ready-count.ended κs → SProp 𝓤
    nil-ready-count-gives = (screen-nil-ready-count.clauses 𝓛 at_mem run κs a).ensures tt

    -- the number
    pub screen-nil-ready-count-one : ent 𝓤 (sep 𝓤 (nil-ready-count-gives x e) (nil-ready-count-gives y f)) (fact 𝓤 (x ≡ y))
    screen-nil-ready-count-one = coincide-lent 𝓤 coincide

  module _ (κs : Lfts 1) (a : Args screen-nil-first-ready.signature κs) (x y : Res screen-nil-first-ready.signature κs) (e f : AtExit screen-nil-first-ready.ended κs) where
    abbrev nil-first-ready-gives : Res screen-nil-first-ready.signature κs → AtExit screen-nil-first-ready.ended κs → SProp 𝓤
    nil-first-ready-gives = (screen-nil-first-ready.clauses 𝓛 at_mem run κs a).ensures tt

    -- the thread
    pub screen-nil-first-ready-one : ent 𝓤 (sep 𝓤 (nil-first-ready-gives x e) (nil-first-ready-gives y f)) (fact 𝓤 (x ≡ y))
    screen-nil-first-ready-one = coincide-lent 𝓤 coincide

  module _ (κs : Lfts 1) (a : Args screen-nil-waiting.signature κs) (x y : Res screen-nil-waiting.signature κs) (e f : AtExit screen-nil-waiting.ended κs) where
    abbrev nil-waiting-gives : Res screen-nil-waiting.signature κs → AtExit screen-nil-waiting.ended κs → SProp 𝓤
    nil-waiting-gives = (screen-nil-waiting.clauses 𝓛 at_mem run κs a).ensures tt

    -- the word
    pub screen-nil-waiting-one : ent 𝓤 (sep 𝓤 (nil-waiting-gives x e) (nil-waiting-gives y f)) (fact 𝓤 (x ≡ y))
    screen-nil-waiting-one = coincide-lent 𝓤 coincide

  module _ (κs : Lfts 1) (a : Args piping-nil-pipe-fresh.signature κs) (x y : Res piping-nil-pipe-fresh.signature κs) (e f : AtExit piping-nil-pipe-fresh.ended κs) where
    abbrev nil-pipe-fresh-gives : Res piping-nil-pipe-fresh.signature κs → AtExit piping-nil-pipe-fresh.ended κs → SProp 𝓤
    nil-pipe-fresh-gives = (piping-nil-pipe-fresh.clauses 𝓛 at_mem run κs a).ensures tt

    -- the code, and what the lent table holds in the end
    pub piping-nil-pipe-fresh-one : ent 𝓤 (sep 𝓤 (nil-pipe-fresh-gives x e) (nil-pipe-fresh-gives y f)) (fact 𝓤 ((x ≡ y) × (e.0.now ≡ f.0.now)))
    piping-nil-pipe-fresh-one = coincide-lent 𝓤 (λ p q. (coincide p.0 q.0, coincide p.1 q.1))

  module _ (κs : Lfts 1) (a : Args piping-nil-pipe-reset.signature κs) (x y : Res piping-nil-pipe-reset.signature κs) (e f : AtExit piping-nil-pipe-reset.ended κs) where
    abbrev nil-pipe-reset-gives : Res piping-nil-pipe-reset.signature κs → AtExit piping-nil-pipe-reset.ended κs → SProp 𝓤
    nil-pipe-reset-gives = (piping-nil-pipe-reset.clauses 𝓛 at_mem run κs a).ensures tt

    -- the code, and what the lent table holds in the end
    pub piping-nil-pipe-reset-one : ent 𝓤 (sep 𝓤 (nil-pipe-reset-gives x e) (nil-pipe-reset-gives y f)) (fact 𝓤 ((x ≡ y) × (e.0.now ≡ f.0.now)))
    piping-nil-pipe-reset-one = coincide-lent 𝓤 (λ p q. (coincide p.0 q.0, coincide p.1 q.1))

  module _ (κs : Lfts 1) (a : Args piping-nil-pipe-resume.signature κs) (x y : Res piping-nil-pipe-resume.signature κs) (e f : AtExit piping-nil-pipe-resume.ended κs) where
    abbrev nil-pipe-resume-gives : Res piping-nil-pipe-resume.signature κs → AtExit piping-nil-pipe-resume.ended κs → SProp 𝓤
    nil-pipe-resume-gives = (piping-nil-pipe-resume.clauses 𝓛 at_mem run κs a).ensures tt

    -- the code, and what the lent table holds in the end
    pub piping-nil-pipe-resume-one : ent 𝓤 (sep 𝓤 (nil-pipe-resume-gives x e) (nil-pipe-resume-gives y f)) (fact 𝓤 ((x ≡ y) × (e.0.now ≡ f.0.now)))
    piping-nil-pipe-resume-one = coincide-lent 𝓤 (λ p q. (coincide p.0 q.0, coincide p.1 q.1))

  module _ (κs : Lfts 4) (a : Args piping-nil-pipe-write.signature κs) (x y : Res piping-nil-pipe-write.signature κs) (e f : AtExit piping-nil-pipe-write.ended κs) where
    abbrev nil-pipe-write-gives : Res piping-nil-pipe-write.signature κs → AtExit piping-nil-pipe-write.ended κs → SProp 𝓤
    nil-pipe-write-gives = (piping-nil-pipe-write.clauses 𝓛 at_mem run κs a).ensures tt

    -- the code, and what the lent table, the lent buffer and the lent number hold in the end
    pub piping-nil-pipe-write-one : ent 𝓤 (sep 𝓤 (nil-pipe-write-gives x e) (nil-pipe-write-gives y f)) (fact 𝓤 ((x ≡ y) × (e.0.now ≡ f.0.now) × (e.1.1.0.now ≡ f.1.1.0.now) × (e.1.1.1.1.0.now ≡ f.1.1.1.1.0.now)))
    piping-nil-pipe-write-one = coincide-lent 𝓤 (λ p q. (coincide p.0 q.0, coincide p.1 q.1, coincide p.2 q.2, coincide p.3 q.3))

  module _ (κs : Lfts 4) (a : Args piping-nil-pipe-read.signature κs) (x y : Res piping-nil-pipe-read.signature κs) (e f : AtExit piping-nil-pipe-read.ended κs) where
    abbrev nil-pipe-read-gives : Res piping-nil-pipe-read.signature κs → AtExit piping-nil-pipe-read.ended κs → SProp 𝓤
    nil-pipe-read-gives = (piping-nil-pipe-read.clauses 𝓛 at_mem run κs a).ensures tt

    -- the code, and what the lent table, the lent target and the lent number hold in the end
    pub piping-nil-pipe-read-one : ent 𝓤 (sep 𝓤 (nil-pipe-read-gives x e) (nil-pipe-read-gives y f)) (fact 𝓤 ((x ≡ y) × (e.0.now ≡ f.0.now) × (e.1.1.1.0.now ≡ f.1.1.1.0.now) × (e.1.1.1.1.0.now ≡ f.1.1.1.1.0.now)))
    piping-nil-pipe-read-one = coincide-lent 𝓤 (λ p q. (coincide p.0 q.0, coincide p.1 q.1, coincide p.2 q.2, coincide p.3 q.3))
