-- A TRACE REPLAYED: its steps made from fresh tables, up to its end or a bad record.
use Rattle.std.specs.Prelude.{ℕ, zero, suc, true, false, cond, List, Some}
use Rattle.compare.specs.declared.cells.Kept.{Kept}
use Rattle.library.specs.declared.calls.Step.{Step}
use Rattle.library.specs.declared.sizes.Sizes.{Sizes}
use Rattle.library.specs.Sizes.{no_sizes}
use Rattle.library.specs.Fresh.{made}
use Rattle.steps.specs.Stepping.{stepped}
use Rattle.trace.specs.Told.{Found, Read}
use Rattle.trace.specs.Decoding.{next_read}
use Rattle.replays.specs.declared.replaying.Replayed as declared
use Rattle.replays.specs.Told.{Replayed, over, bad_code, bad_number}

-- how a trace under way is told
abbrev pub told_replayed : declared.Replayed → Replayed
told_replayed x = record { kept = x.kept; at = x.at; done = over x.end; code = bad_code x.end; number = bad_number x.end }

-- fresh tables at the frequency of what is listed, 1000
unfoldable pub fresh_kept : Sizes → Kept
fresh_kept z = record { tables = (made z (Some 1000)).tables; clock = (made z (Some 1000)).clock }

unfoldable pub kept_after : Kept → Step → Kept
kept_after a s = record { tables = (stepped a.tables a.clock s).tables; clock = (stepped a.tables a.clock s).clock }

abbrev pub going : Kept → ℕ → Replayed
going a at = record { kept = a; at = at; done = false; code = 0; number = 0 }

abbrev pub ended : Kept → ℕ → ℕ → ℕ → Replayed
ended a at code number = record { kept = a; at = at; done = true; code = code; number = number }

-- what is known behind a record that was found, beside these sizes, with the next at a place
abbrev pub found_on : Replayed → Found → Sizes → ℕ → Replayed
found_on x Found.Opened z next = going (fresh_kept z) next
found_on x (Found.Stepped s) z next = going (kept_after x.kept s) next
found_on x Found.Ended z next = ended x.kept x.at 0 0
found_on x (Found.Refused code number) z next = ended x.kept x.at code number

unfoldable pub read_on : Replayed → Read → Replayed
read_on x r = found_on x r.found r.sizes r.next

abbrev pub beginning : Replayed
beginning = going (fresh_kept no_sizes) 0

-- at most so many records more
unfoldable pub replay_from : ℕ → List ℕ → Replayed → Replayed
replay_from zero s x = x
replay_from (suc n) s x = cond x.done x (replay_from n s (read_on x (next_read s x.at)))

unfoldable pub replayed : List ℕ → Replayed
replayed s = replay_from 5000 s beginning
