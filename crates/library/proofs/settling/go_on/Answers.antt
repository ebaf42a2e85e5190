-- Every other kind's call goes on as a post, whether its number is a kind's or none's.
use Rattle.std.proofs.Common.{rules}
use Rattle.library.specs.Settling.{went_on}
use Rattle.library.proofs.settling.go_on.Goals as goal
use Rattle.library.proofs.settling.go_on.Goals.{in_default-via-in-Ok+in_default, in_default-via-in_default}

pub returns-in_default : goal.returns-in_default
unfolding went_on
returns-in_default c =
    elim c.in_default.branch [
      | in_default-via-in-Ok+in_default w ↦ search rules
      | in_default-via-in_default w ↦ search rules
    ]
