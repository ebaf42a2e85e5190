-- Two answers that satisfy one public statement coincide: each contract of the crate fixes its function's whole result.
-- `Fixes P` is about the very statement P that the contract is read as, so no line here can say less than the contract.
use Rattle.kernel.proofs.Unique.{coincide, Fixes}
use Rattle.rules.proofs.finding.find_broken.Reads as finding-find-broken
use Rattle.rules.proofs.finding.find_broken.Kinds as finding-find-broken-kinds
use Rattle.rules.proofs.hanging.hangs_together.Reads as hanging-hangs-together
use Rattle.rules.proofs.hanging.hangs_together.Kinds as hanging-hangs-together-kinds
use Rattle.rules.proofs.limits.used_of.Reads as limits-used-of
use Rattle.rules.proofs.limits.used_of.Kinds as limits-used-of-kinds
use Rattle.rules.proofs.mailbox_rules.first_bad_mailbox.Reads as mailbox-rules-first-bad-mailbox
use Rattle.rules.proofs.mailbox_rules.first_bad_mailbox.Kinds as mailbox-rules-first-bad-mailbox-kinds
use Rattle.rules.proofs.place_rules.in_use.Reads as place-rules-in-use
use Rattle.rules.proofs.place_rules.in_use.Kinds as place-rules-in-use-kinds
use Rattle.rules.proofs.place_rules.queue_of.Reads as place-rules-queue-of
use Rattle.rules.proofs.place_rules.queue_of.Kinds as place-rules-queue-of-kinds
use Rattle.rules.proofs.place_rules.first_bad_place.Reads as place-rules-first-bad-place
use Rattle.rules.proofs.place_rules.first_bad_place.Kinds as place-rules-first-bad-place-kinds
use Rattle.rules.proofs.pool_rules.pool_of.Reads as pool-rules-pool-of
use Rattle.rules.proofs.pool_rules.pool_of.Kinds as pool-rules-pool-of-kinds
use Rattle.rules.proofs.pool_rules.first_bad_pool.Reads as pool-rules-first-bad-pool
use Rattle.rules.proofs.pool_rules.first_bad_pool.Kinds as pool-rules-first-bad-pool-kinds
use Rattle.rules.proofs.reference_rules.reference_of.Reads as reference-rules-reference-of
use Rattle.rules.proofs.reference_rules.reference_of.Kinds as reference-rules-reference-of-kinds
use Rattle.rules.proofs.reference_rules.first_bad_reference.Reads as reference-rules-first-bad-reference
use Rattle.rules.proofs.reference_rules.first_bad_reference.Kinds as reference-rules-first-bad-reference-kinds
use Rattle.rules.proofs.row_rules.call_fits.Reads as row-rules-call-fits
use Rattle.rules.proofs.row_rules.call_fits.Kinds as row-rules-call-fits-kinds
use Rattle.rules.proofs.row_rules.wait_fits.Reads as row-rules-wait-fits
use Rattle.rules.proofs.row_rules.wait_fits.Kinds as row-rules-wait-fits-kinds
use Rattle.rules.proofs.row_rules.ticks_fit.Reads as row-rules-ticks-fit
use Rattle.rules.proofs.row_rules.ticks_fit.Kinds as row-rules-ticks-fit-kinds
use Rattle.rules.proofs.row_rules.awaited_fit.Reads as row-rules-awaited-fit
use Rattle.rules.proofs.row_rules.awaited_fit.Kinds as row-rules-awaited-fit-kinds
use Rattle.rules.proofs.row_rules.none_pending.Reads as row-rules-none-pending
use Rattle.rules.proofs.row_rules.none_pending.Kinds as row-rules-none-pending-kinds
use Rattle.rules.proofs.row_rules.cause_fits.Reads as row-rules-cause-fits
use Rattle.rules.proofs.row_rules.cause_fits.Kinds as row-rules-cause-fits-kinds
use Rattle.rules.proofs.row_rules.row_fits.Reads as row-rules-row-fits
use Rattle.rules.proofs.row_rules.row_fits.Kinds as row-rules-row-fits-kinds
use Rattle.rules.proofs.walking.walk.Reads as walking-walk
use Rattle.rules.proofs.walking.walk.Kinds as walking-walk-kinds
use Rattle.rules.proofs.word_rules.first_bad_word.Reads as word-rules-first-bad-word
use Rattle.rules.proofs.word_rules.first_bad_word.Kinds as word-rules-first-bad-word-kinds

pub finding-find-broken-one : Fixes 0 finding-find-broken-kinds.ps finding-find-broken-kinds.r finding-find-broken.Post
finding-find-broken-one κs a e x y = coincide

pub hanging-hangs-together-one : Fixes 0 hanging-hangs-together-kinds.ps hanging-hangs-together-kinds.r hanging-hangs-together.Post
hanging-hangs-together-one κs a e x y = coincide

pub limits-used-of-one : Fixes 0 limits-used-of-kinds.ps limits-used-of-kinds.r limits-used-of.Post
limits-used-of-one κs a e x y = coincide

pub mailbox-rules-first-bad-mailbox-one : Fixes 0 mailbox-rules-first-bad-mailbox-kinds.ps mailbox-rules-first-bad-mailbox-kinds.r mailbox-rules-first-bad-mailbox.Post
mailbox-rules-first-bad-mailbox-one κs a e x y = coincide

pub place-rules-in-use-one : Fixes 0 place-rules-in-use-kinds.ps place-rules-in-use-kinds.r place-rules-in-use.Post
place-rules-in-use-one κs a e x y = coincide

pub place-rules-queue-of-one : Fixes 0 place-rules-queue-of-kinds.ps place-rules-queue-of-kinds.r place-rules-queue-of.Post
place-rules-queue-of-one κs a e x y = coincide

pub place-rules-first-bad-place-one : Fixes 0 place-rules-first-bad-place-kinds.ps place-rules-first-bad-place-kinds.r place-rules-first-bad-place.Post
place-rules-first-bad-place-one κs a e x y = coincide

pub pool-rules-pool-of-one : Fixes 0 pool-rules-pool-of-kinds.ps pool-rules-pool-of-kinds.r pool-rules-pool-of.Post
pool-rules-pool-of-one κs a e x y = coincide

pub pool-rules-first-bad-pool-one : Fixes 0 pool-rules-first-bad-pool-kinds.ps pool-rules-first-bad-pool-kinds.r pool-rules-first-bad-pool.Post
pool-rules-first-bad-pool-one κs a e x y = coincide

pub reference-rules-reference-of-one : Fixes 0 reference-rules-reference-of-kinds.ps reference-rules-reference-of-kinds.r reference-rules-reference-of.Post
reference-rules-reference-of-one κs a e x y = coincide

pub reference-rules-first-bad-reference-one : Fixes 0 reference-rules-first-bad-reference-kinds.ps reference-rules-first-bad-reference-kinds.r reference-rules-first-bad-reference.Post
reference-rules-first-bad-reference-one κs a e x y = coincide

pub row-rules-call-fits-one : Fixes 0 row-rules-call-fits-kinds.ps row-rules-call-fits-kinds.r row-rules-call-fits.Post
row-rules-call-fits-one κs a e x y = coincide

pub row-rules-wait-fits-one : Fixes 0 row-rules-wait-fits-kinds.ps row-rules-wait-fits-kinds.r row-rules-wait-fits.Post
row-rules-wait-fits-one κs a e x y = coincide

pub row-rules-ticks-fit-one : Fixes 0 row-rules-ticks-fit-kinds.ps row-rules-ticks-fit-kinds.r row-rules-ticks-fit.Post
row-rules-ticks-fit-one κs a e x y = coincide

pub row-rules-awaited-fit-one : Fixes 0 row-rules-awaited-fit-kinds.ps row-rules-awaited-fit-kinds.r row-rules-awaited-fit.Post
row-rules-awaited-fit-one κs a e x y = coincide

pub row-rules-none-pending-one : Fixes 0 row-rules-none-pending-kinds.ps row-rules-none-pending-kinds.r row-rules-none-pending.Post
row-rules-none-pending-one κs a e x y = coincide

pub row-rules-cause-fits-one : Fixes 0 row-rules-cause-fits-kinds.ps row-rules-cause-fits-kinds.r row-rules-cause-fits.Post
row-rules-cause-fits-one κs a e x y = coincide

pub row-rules-row-fits-one : Fixes 0 row-rules-row-fits-kinds.ps row-rules-row-fits-kinds.r row-rules-row-fits.Post
row-rules-row-fits-one κs a e x y = coincide

pub walking-walk-one : Fixes 0 walking-walk-kinds.ps walking-walk-kinds.r walking-walk.Post
walking-walk-one κs a e x y = coincide

pub word-rules-first-bad-word-one : Fixes 0 word-rules-first-bad-word-kinds.ps word-rules-first-bad-word-kinds.r word-rules-first-bad-word.Post
word-rules-first-bad-word-one κs a e x y = coincide
