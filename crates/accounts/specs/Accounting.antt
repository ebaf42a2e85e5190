-- What a step enters into an account. "Interrupts' answered calls count too"; a thread finishes at most one call in a step: the step's own, if
-- it is the caller, else the one that its record kept; and its answer is then its record's last answer.
use Rattle.std.specs.Prelude.{ℕ, Bool, cond, ◌||◌, List, ◌==◌}
use Rattle.kernel.specs.declared.records.Answer.{Answer}
use Rattle.kernel.specs.declared.records.Call.{Call}
use Rattle.kernel.specs.declared.records.Thread.{Thread}
use Rattle.kernel.specs.Numbers.{nobody, ok}
use Rattle.kernel.specs.Walk.{each}
use Rattle.kernel.specs.Tables.{row_in}
use Rattle.kernel.specs.Words.{has_bit}
use Rattle.library.specs.declared.calls.Step.{Step}
use Rattle.library.specs.declared.tables.Mailbox.{Mailbox}
use Rattle.library.specs.declared.tables.Tables.{Tables}
use Rattle.library.specs.Signs.{same}
use Rattle.library.specs.Tables.{mailbox_in}
use Rattle.accounts.specs.declared.account.Account.{Account}
use Rattle.accounts.specs.declared.account.Entry.{Entry}
use Rattle.accounts.specs.declared.accounting.Report.{Report}
use Rattle.accounts.specs.Account.{entered}

-- a fetch's and an alloc's datum; "those present at each reset", of the mailboxes before the step; else the operand
abbrev pub value_of : List Mailbox → Call → ℕ → ℕ
value_of mailboxes call datum =
    cond (call.kind == 17 || call.kind == 20) datum
    (cond (call.kind == 18) (mailbox_in mailboxes call.object).positions.count call.operand)

-- only what "finished with 0" is entered
abbrev pub kind_of : Call → Answer → ℕ
kind_of call answer = cond (same answer.message ok) call.kind 0

-- the entry of a finished call
abbrev pub entry_of : List Mailbox → ℕ → Call → Answer → Entry
entry_of mailboxes who call answer =
    record {
      who = who;
      kind = kind_of call answer;
      object = call.object;
      value = value_of mailboxes call answer.datum;
    }

-- the step's own call
abbrev pub own_call : Step → Call
own_call s = record { kind = s.kind; object = s.object; operand = s.a; timeout = s.timeout }

-- thread i's call: the step's own, if it is the caller, else the one that its record had kept
abbrev pub call_by : Step → ℕ → Call → Call
call_by s i kept = cond (s.caller == i) (own_call s) kept

abbrev pub entered_if : Bool → Account → ℕ → Entry → Account
entered_if so a number e = cond so (entered a number e) a

-- the answer in a step's result
abbrev pub answer_in : Report → Answer
answer_in o = record { message = o.message; datum = o.datum }

-- "Interrupts' answered calls count too"
abbrev pub interrupt_entered : Account → ℕ → List Mailbox → Step → Report → Account
interrupt_entered a number mailboxes s o =
    entered_if (s.caller == nobody) a number
    (entry_of mailboxes nobody (own_call s) (answer_in o))

-- thread i's call, if it finished; the rows were `old` before the step and are `new` after it
abbrev pub thread_entered : ℕ → List Mailbox → List Thread → Step → ℕ → List Thread → ℕ → Account → Account
thread_entered number mailboxes old s finished new i a =
    entered_if (has_bit finished i) a number
    (entry_of mailboxes i (call_by s i (row_in old i).call) (row_in new i).answer)

unfoldable pub threads_entered : Account → ℕ → List Mailbox → List Thread → Step → ℕ → List Thread → Account
threads_entered a number mailboxes old s finished new = each 16 (thread_entered number mailboxes old s finished new) a

-- a refused step enters nothing
unfoldable pub accounted_step : Account → ℕ → Tables → Step → Report → Tables → Account
accounted_step a number old s o new =
    cond (o.code == 0)
    (threads_entered (interrupt_entered a number old.mailboxes s o) number old.mailboxes old.kernel.threads s
    o.finished new.kernel.threads)
    a
