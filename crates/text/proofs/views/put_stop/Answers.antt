-- Only a bad record has a row.
use Rattle.std.proofs.Common.{◌≡◌, [], refl, Ok, Option, Some, None}
use Rattle.trace.specs.declared.decoding.Record.{Record}
use Rattle.trace.specs.declared.decoding.Record.TheVariants as read
use Rattle.trace.specs.Decoding.{told_found}
use Rattle.text.specs.Views.{stop_text}
use Rattle.buffers.proofs.SheetLaws.{none}
use Rattle.text.proofs.views.put_stop.Goals as goal

no-stop : (r : Option Record) → stop_text (told_found (Ok r)) ≡ []
no-stop (Some (read.Sizes z)) = refl
no-stop (Some (read.Step s)) = refl
no-stop None = refl

pub returns-in-Ok : goal.returns-in-Ok
returns-in-Ok c = rw (c.in-Ok.is, no-stop c.in-Ok.field-0) (none _)
