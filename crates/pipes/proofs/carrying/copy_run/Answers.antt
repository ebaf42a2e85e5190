-- The part that is copied is the run, which passes neither end.
use Rattle.std.proofs.Common.{sym, ◌∙◌}
use Rattle.pipes.proofs.CarryingLaws.{run-copied}
use Rattle.pipes.proofs.carrying.copy_run.Goals as goal

pub returns-then-run_fits-2 : goal.returns-then-run_fits-2
returns-then-run_fits-2 c =
    run-copied _ _ _ _ _ _ (sym c.if-run_fits.true ∙ c.run_fits.ensures) (sym c.if-run_fits-2.true ∙ c.run_fits-then-run_fits.ensures)
    c.copy_from_slice.ensures.after
