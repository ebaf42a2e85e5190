-- Two answers that satisfy one public statement coincide: each contract of the crate fixes its function's whole result.
-- `Fixes P` is about the very statement P that the contract is read as, so no line here can say less than the contract.
use Rattle.std.specs.Prelude.{◌≡◌, Bool, ◌&&◌, ◌||◌, ℤ}
use Rattle.kernel.proofs.CausesLaws.{cause-one}
use Rattle.kernel.proofs.Unique.{coincide, Fixes}
use Rattle.library.specs.Signs.{same}
use Rattle.library.proofs.ToldLaws.{told_made_one}
use Rattle.library.proofs.acting.is_kernel_wait.Reads as acting-is-kernel-wait
use Rattle.library.proofs.acting.is_kernel_wait.Kinds as acting-is-kernel-wait-kinds
use Rattle.library.proofs.acting.act_on_kernel.Reads as acting-act-on-kernel
use Rattle.library.proofs.acting.act_on_kernel.Kinds as acting-act-on-kernel-kinds
use Rattle.library.proofs.acting.act_on_box.Reads as acting-act-on-box
use Rattle.library.proofs.acting.act_on_box.Kinds as acting-act-on-box-kinds
use Rattle.library.proofs.binary.binary_signal.Reads as binary-binary-signal
use Rattle.library.proofs.binary.binary_signal.Kinds as binary-binary-signal-kinds
use Rattle.library.proofs.causes.cause_of.Reads as causes-cause-of
use Rattle.library.proofs.causes.cause_of.Kinds as causes-cause-of-kinds
use Rattle.library.proofs.calls.as_signed.Reads as calls-as-signed
use Rattle.library.proofs.calls.as_signed.Kinds as calls-as-signed-kinds
use Rattle.library.proofs.calls.keeps_operand.Reads as calls-keeps-operand
use Rattle.library.proofs.calls.keeps_operand.Kinds as calls-keeps-operand-kinds
use Rattle.library.proofs.calls.call_of.Reads as calls-call-of
use Rattle.library.proofs.calls.call_of.Kinds as calls-call-of-kinds
use Rattle.library.proofs.fresh.tables_of.Reads as fresh-tables-of
use Rattle.library.proofs.fresh.tables_of.Kinds as fresh-tables-of-kinds
use Rattle.library.proofs.fresh.clock_of.Reads as fresh-clock-of
use Rattle.library.proofs.fresh.clock_of.Kinds as fresh-clock-of-kinds
use Rattle.library.proofs.fresh.none_made.Reads as fresh-none-made
use Rattle.library.proofs.fresh.none_made.Kinds as fresh-none-made-kinds
use Rattle.library.proofs.fresh.make.Reads as fresh-make
use Rattle.library.proofs.fresh.make.Kinds as fresh-make-kinds
use Rattle.library.proofs.mailbox.message_at.Reads as mailbox-message-at
use Rattle.library.proofs.mailbox.message_at.Kinds as mailbox-message-at-kinds
use Rattle.library.proofs.mailbox.set_message.Reads as mailbox-set-message
use Rattle.library.proofs.mailbox.set_message.Kinds as mailbox-set-message-kinds
use Rattle.library.proofs.mailbox.try_post.Reads as mailbox-try-post
use Rattle.library.proofs.mailbox.try_post.Kinds as mailbox-try-post-kinds
use Rattle.library.proofs.mailbox.try_fetch.Reads as mailbox-try-fetch
use Rattle.library.proofs.mailbox.try_fetch.Kinds as mailbox-try-fetch-kinds
use Rattle.library.proofs.mailbox.reset_mailbox.Reads as mailbox-reset-mailbox
use Rattle.library.proofs.mailbox.reset_mailbox.Kinds as mailbox-reset-mailbox-kinds
use Rattle.library.proofs.mailbox.resume_mailbox.Reads as mailbox-resume-mailbox
use Rattle.library.proofs.mailbox.resume_mailbox.Kinds as mailbox-resume-mailbox-kinds
use Rattle.library.proofs.pool.listed_at.Reads as pool-listed-at
use Rattle.library.proofs.pool.listed_at.Kinds as pool-listed-at-kinds
use Rattle.library.proofs.pool.set_listed.Reads as pool-set-listed
use Rattle.library.proofs.pool.set_listed.Kinds as pool-set-listed-kinds
use Rattle.library.proofs.pool.mark_at.Reads as pool-mark-at
use Rattle.library.proofs.pool.mark_at.Kinds as pool-mark-at-kinds
use Rattle.library.proofs.pool.set_length.Reads as pool-set-length
use Rattle.library.proofs.pool.set_length.Kinds as pool-set-length-kinds
use Rattle.library.proofs.pool.hand_over.Reads as pool-hand-over
use Rattle.library.proofs.pool.hand_over.Kinds as pool-hand-over-kinds
use Rattle.library.proofs.pool.try_alloc.Reads as pool-try-alloc
use Rattle.library.proofs.pool.try_alloc.Kinds as pool-try-alloc-kinds
use Rattle.library.proofs.pool.put_back.Reads as pool-put-back
use Rattle.library.proofs.pool.put_back.Kinds as pool-put-back-kinds
use Rattle.library.proofs.ring.positions_fit.Reads as ring-positions-fit
use Rattle.library.proofs.ring.positions_fit.Kinds as ring-positions-fit-kinds
use Rattle.library.proofs.ring.Positions.post.Reads as ring-Positions-post
use Rattle.library.proofs.ring.Positions.post.Kinds as ring-Positions-post-kinds
use Rattle.library.proofs.ring.Positions.post_ahead.Reads as ring-Positions-post-ahead
use Rattle.library.proofs.ring.Positions.post_ahead.Kinds as ring-Positions-post-ahead-kinds
use Rattle.library.proofs.ring.Positions.fetch.Reads as ring-Positions-fetch
use Rattle.library.proofs.ring.Positions.fetch.Kinds as ring-Positions-fetch-kinds
use Rattle.library.proofs.ring.Positions.reset.Reads as ring-Positions-reset
use Rattle.library.proofs.ring.Positions.reset.Kinds as ring-Positions-reset-kinds
use Rattle.library.proofs.settling.is_box_call.Reads as settling-is-box-call
use Rattle.library.proofs.settling.is_box_call.Kinds as settling-is-box-call-kinds
use Rattle.library.proofs.settling.settle.Reads as settling-settle
use Rattle.library.proofs.settling.settle.Kinds as settling-settle-kinds
use Rattle.library.proofs.settling.continue_call.Reads as settling-continue-call
use Rattle.library.proofs.settling.continue_call.Kinds as settling-continue-call-kinds
use Rattle.library.proofs.signs.negative.Reads as signs-negative
use Rattle.library.proofs.signs.negative.Kinds as signs-negative-kinds
use Rattle.library.proofs.signs.less.Reads as signs-less
use Rattle.library.proofs.signs.less.Kinds as signs-less-kinds
use Rattle.library.proofs.signs.magnitude.Reads as signs-magnitude
use Rattle.library.proofs.signs.magnitude.Kinds as signs-magnitude-kinds
use Rattle.library.proofs.sizes.slots_at.Reads as sizes-slots-at
use Rattle.library.proofs.sizes.slots_at.Kinds as sizes-slots-at-kinds
use Rattle.library.proofs.sizes.sizes_fit.Reads as sizes-sizes-fit
use Rattle.library.proofs.sizes.sizes_fit.Kinds as sizes-sizes-fit-kinds
use Rattle.library.proofs.sizes.no_sizes.Reads as sizes-no-sizes
use Rattle.library.proofs.sizes.no_sizes.Kinds as sizes-no-sizes-kinds
use Rattle.library.proofs.tables.open.Reads as tables-open
use Rattle.library.proofs.tables.open.Kinds as tables-open-kinds
use Rattle.library.proofs.tables.close.Reads as tables-close
use Rattle.library.proofs.tables.close.Kinds as tables-close-kinds
use Rattle.library.proofs.tables.blank_mailbox.Reads as tables-blank-mailbox
use Rattle.library.proofs.tables.blank_mailbox.Kinds as tables-blank-mailbox-kinds
use Rattle.library.proofs.tables.blank_pool.Reads as tables-blank-pool
use Rattle.library.proofs.tables.blank_pool.Kinds as tables-blank-pool-kinds
use Rattle.library.proofs.tables.set_kernel.Reads as tables-set-kernel
use Rattle.library.proofs.tables.set_kernel.Kinds as tables-set-kernel-kinds
use Rattle.library.proofs.tables.mailbox_at.Reads as tables-mailbox-at
use Rattle.library.proofs.tables.mailbox_at.Kinds as tables-mailbox-at-kinds
use Rattle.library.proofs.tables.set_mailbox.Reads as tables-set-mailbox
use Rattle.library.proofs.tables.set_mailbox.Kinds as tables-set-mailbox-kinds
use Rattle.library.proofs.tables.pool_at.Reads as tables-pool-at
use Rattle.library.proofs.tables.pool_at.Kinds as tables-pool-at-kinds
use Rattle.library.proofs.tables.set_pool.Reads as tables-set-pool
use Rattle.library.proofs.tables.set_pool.Kinds as tables-set-pool-kinds

pub acting-is-kernel-wait-one : Fixes 0 acting-is-kernel-wait-kinds.ps acting-is-kernel-wait-kinds.r acting-is-kernel-wait.Post
acting-is-kernel-wait-one κs a e x y = coincide

pub acting-act-on-kernel-one : Fixes 0 acting-act-on-kernel-kinds.ps acting-act-on-kernel-kinds.r acting-act-on-kernel.Post
acting-act-on-kernel-one κs a e x y = coincide

pub acting-act-on-box-one : Fixes 0 acting-act-on-box-kinds.ps acting-act-on-box-kinds.r acting-act-on-box.Post
acting-act-on-box-one κs a e x y = coincide

pub binary-binary-signal-one : Fixes 0 binary-binary-signal-kinds.ps binary-binary-signal-kinds.r binary-binary-signal.Post
binary-binary-signal-one κs a e x y = coincide

pub causes-cause-of-one : Fixes 0 causes-cause-of-kinds.ps causes-cause-of-kinds.r causes-cause-of.Post
causes-cause-of-one κs a e x y p q = cause-one (coincide p q)

pub calls-as-signed-one : Fixes 0 calls-as-signed-kinds.ps calls-as-signed-kinds.r calls-as-signed.Post
calls-as-signed-one κs a e x y = coincide

pub calls-keeps-operand-one : Fixes 0 calls-keeps-operand-kinds.ps calls-keeps-operand-kinds.r calls-keeps-operand.Post
calls-keeps-operand-one κs a e x y = coincide

pub calls-call-of-one : Fixes 0 calls-call-of-kinds.ps calls-call-of-kinds.r calls-call-of.Post
calls-call-of-one κs a e x y = coincide

pub fresh-tables-of-one : Fixes 0 fresh-tables-of-kinds.ps fresh-tables-of-kinds.r fresh-tables-of.Post
fresh-tables-of-one κs a e x y = coincide

pub fresh-clock-of-one : Fixes 0 fresh-clock-of-kinds.ps fresh-clock-of-kinds.r fresh-clock-of.Post
fresh-clock-of-one κs a e x y = coincide

pub fresh-none-made-one : Fixes 0 fresh-none-made-kinds.ps fresh-none-made-kinds.r fresh-none-made.Post
fresh-none-made-one κs a e x y = coincide

pub fresh-make-one : Fixes 0 fresh-make-kinds.ps fresh-make-kinds.r fresh-make.Post
fresh-make-one κs a e x y = told_made_one x y

pub mailbox-message-at-one : Fixes 0 mailbox-message-at-kinds.ps mailbox-message-at-kinds.r mailbox-message-at.Post
mailbox-message-at-one κs a e x y = coincide

pub mailbox-set-message-one : Fixes 0 mailbox-set-message-kinds.ps mailbox-set-message-kinds.r mailbox-set-message.Post
mailbox-set-message-one κs a e x y = coincide

pub mailbox-try-post-one : Fixes 0 mailbox-try-post-kinds.ps mailbox-try-post-kinds.r mailbox-try-post.Post
mailbox-try-post-one κs a e x y = coincide

pub mailbox-try-fetch-one : Fixes 0 mailbox-try-fetch-kinds.ps mailbox-try-fetch-kinds.r mailbox-try-fetch.Post
mailbox-try-fetch-one κs a e x y = coincide

pub mailbox-reset-mailbox-one : Fixes 0 mailbox-reset-mailbox-kinds.ps mailbox-reset-mailbox-kinds.r mailbox-reset-mailbox.Post
mailbox-reset-mailbox-one κs a e x y = coincide

pub mailbox-resume-mailbox-one : Fixes 0 mailbox-resume-mailbox-kinds.ps mailbox-resume-mailbox-kinds.r mailbox-resume-mailbox.Post
mailbox-resume-mailbox-one κs a e x y = coincide

pub pool-listed-at-one : Fixes 0 pool-listed-at-kinds.ps pool-listed-at-kinds.r pool-listed-at.Post
pool-listed-at-one κs a e x y = coincide

pub pool-set-listed-one : Fixes 0 pool-set-listed-kinds.ps pool-set-listed-kinds.r pool-set-listed.Post
pool-set-listed-one κs a e x y = coincide

pub pool-mark-at-one : Fixes 0 pool-mark-at-kinds.ps pool-mark-at-kinds.r pool-mark-at.Post
pool-mark-at-one κs a e x y = coincide

pub pool-set-length-one : Fixes 0 pool-set-length-kinds.ps pool-set-length-kinds.r pool-set-length.Post
pool-set-length-one κs a e x y = coincide

pub pool-hand-over-one : Fixes 0 pool-hand-over-kinds.ps pool-hand-over-kinds.r pool-hand-over.Post
pool-hand-over-one κs a e x y = coincide

pub pool-try-alloc-one : Fixes 0 pool-try-alloc-kinds.ps pool-try-alloc-kinds.r pool-try-alloc.Post
pool-try-alloc-one κs a e x y = coincide

pub pool-put-back-one : Fixes 0 pool-put-back-kinds.ps pool-put-back-kinds.r pool-put-back.Post
pool-put-back-one κs a e x y = coincide

pub ring-positions-fit-one : Fixes 0 ring-positions-fit-kinds.ps ring-positions-fit-kinds.r ring-positions-fit.Post
ring-positions-fit-one κs a e x y = coincide

pub ring-Positions-post-one : Fixes 0 ring-Positions-post-kinds.ps ring-Positions-post-kinds.r ring-Positions-post.Post
ring-Positions-post-one κs a e x y = coincide

pub ring-Positions-post-ahead-one : Fixes 0 ring-Positions-post-ahead-kinds.ps ring-Positions-post-ahead-kinds.r ring-Positions-post-ahead.Post
ring-Positions-post-ahead-one κs a e x y = coincide

pub ring-Positions-fetch-one : Fixes 0 ring-Positions-fetch-kinds.ps ring-Positions-fetch-kinds.r ring-Positions-fetch.Post
ring-Positions-fetch-one κs a e x y = coincide

pub ring-Positions-reset-one : Fixes 0 ring-Positions-reset-kinds.ps ring-Positions-reset-kinds.r ring-Positions-reset.Post
ring-Positions-reset-one κs a e x y = coincide

pub settling-is-box-call-one : Fixes 0 settling-is-box-call-kinds.ps settling-is-box-call-kinds.r settling-is-box-call.Post
settling-is-box-call-one κs a e x y = coincide

pub settling-settle-one : Fixes 0 settling-settle-kinds.ps settling-settle-kinds.r settling-settle.Post
settling-settle-one κs a e x y = coincide

pub settling-continue-call-one : Fixes 0 settling-continue-call-kinds.ps settling-continue-call-kinds.r settling-continue-call.Post
settling-continue-call-one κs a e x y = coincide

pub signs-negative-one : Fixes 0 signs-negative-kinds.ps signs-negative-kinds.r signs-negative.Post
signs-negative-one κs a e x y = coincide

pub signs-less-one : Fixes 0 signs-less-kinds.ps signs-less-kinds.r signs-less.Post
signs-less-one κs a e x y = coincide

pub signs-magnitude-one : Fixes 0 signs-magnitude-kinds.ps signs-magnitude-kinds.r signs-magnitude.Post
signs-magnitude-one κs a e x y = coincide

pub sizes-slots-at-one : Fixes 0 sizes-slots-at-kinds.ps sizes-slots-at-kinds.r sizes-slots-at.Post
sizes-slots-at-one κs a e x y = coincide

pub sizes-sizes-fit-one : Fixes 0 sizes-sizes-fit-kinds.ps sizes-sizes-fit-kinds.r sizes-sizes-fit.Post
sizes-sizes-fit-one κs a e x y = coincide

pub sizes-no-sizes-one : Fixes 0 sizes-no-sizes-kinds.ps sizes-no-sizes-kinds.r sizes-no-sizes.Post
sizes-no-sizes-one κs a e x y = coincide

pub tables-open-one : Fixes 0 tables-open-kinds.ps tables-open-kinds.r tables-open.Post
tables-open-one κs a e x y = coincide

pub tables-close-one : Fixes 0 tables-close-kinds.ps tables-close-kinds.r tables-close.Post
tables-close-one κs a e x y = coincide

pub tables-blank-mailbox-one : Fixes 0 tables-blank-mailbox-kinds.ps tables-blank-mailbox-kinds.r tables-blank-mailbox.Post
tables-blank-mailbox-one κs a e x y = coincide

pub tables-blank-pool-one : Fixes 0 tables-blank-pool-kinds.ps tables-blank-pool-kinds.r tables-blank-pool.Post
tables-blank-pool-one κs a e x y = coincide

pub tables-set-kernel-one : Fixes 0 tables-set-kernel-kinds.ps tables-set-kernel-kinds.r tables-set-kernel.Post
tables-set-kernel-one κs a e x y = coincide

pub tables-mailbox-at-one : Fixes 0 tables-mailbox-at-kinds.ps tables-mailbox-at-kinds.r tables-mailbox-at.Post
tables-mailbox-at-one κs a e x y = coincide

pub tables-set-mailbox-one : Fixes 0 tables-set-mailbox-kinds.ps tables-set-mailbox-kinds.r tables-set-mailbox.Post
tables-set-mailbox-one κs a e x y = coincide

pub tables-pool-at-one : Fixes 0 tables-pool-at-kinds.ps tables-pool-at-kinds.r tables-pool-at.Post
tables-pool-at-one κs a e x y = coincide

pub tables-set-pool-one : Fixes 0 tables-set-pool-kinds.ps tables-set-pool-kinds.r tables-set-pool.Post
tables-set-pool-one κs a e x y = coincide

-- Three that were functions and are operators now.
pub logic-both-one : (a b : Bool) {x y : Bool} → x ≡ (a && b) → y ≡ (a && b) → x ≡ y
logic-both-one a b = coincide

pub logic-either-one : (a b : Bool) {x y : Bool} → x ≡ (a || b) → y ≡ (a || b) → x ≡ y
logic-either-one a b = coincide

pub signs-is-same-one : (a b : ℤ) {x y : Bool} → x ≡ same a b → y ≡ same a b → x ≡ y
signs-is-same-one a b = coincide
