-- Which rule of "tables that hang together" is broken first, and where: the rules by their numbers, in the order of the paper's
-- section. docs/RULES.md has their words.
use Rattle.std.specs.Prelude.{ℕ, Bool, cond, not, ◌&&◌, List, eqb}
use Rattle.kernel.specs.declared.clock.Clock.{Clock}
use Rattle.kernel.specs.declared.records.Thread.{Thread}
use Rattle.kernel.specs.Numbers.{nobody}
use Rattle.kernel.specs.Tables.{used_rows, row_in}
use Rattle.kernel.specs.Units.{frequency_fits}
use Rattle.kernel.specs.Waiters.{call_free}
use Rattle.kernel.specs.Walk.{first_from}
use Rattle.kernel.specs.Words.{first_of}
use Rattle.library.specs.declared.sizes.Sizes.{Sizes}
use Rattle.library.specs.declared.tables.Plant.{Plant}
use Rattle.library.specs.Sizes.{sizes_fit}
use Rattle.rules.specs.declared.finding.Broken.{Broken}
use Rattle.rules.specs.Limits.{first_bad}
use Rattle.rules.specs.RowRules.{call_fits, wait_fits, ticks_fit, awaited_fit, none_pending, cause_fits}
use Rattle.rules.specs.PlaceRules.{bad_place}
use Rattle.rules.specs.ReferenceRules.{bad_reference}
use Rattle.rules.specs.MailboxRules.{bad_mailbox}
use Rattle.rules.specs.PoolRules.{bad_pool}
use Rattle.rules.specs.WordRules.{ready_word, ready_fits, bad_word}

-- a rule about the tables as a whole has one row, 0
abbrev pub wholly : Bool → ℕ
wholly fits = cond fits nobody 0

-- the rules of a thread's record: 7 remaining ticks, 8 its call, 9 its wait, 10 its awaited flags, 11 its pending flags, 15 its cause
abbrev pub row_keeps : Sizes → ℕ → Thread → Bool
row_keeps z rule t =
    cond (eqb rule 7) (ticks_fit t)
    (cond (eqb rule 8) (call_fits t z)
    (cond (eqb rule 9) (wait_fits t)
    (cond (eqb rule 10) (awaited_fit t) (cond (eqb rule 11) (none_pending t) (cause_fits t)))))

-- the first thread whose record breaks one of them
abbrev pub bad_row : List Thread → Sizes → ℕ → ℕ
bad_row threads z rule = first_bad (λ i. row_keeps z rule (row_in threads i)) (used_rows z.threads)

-- the first thread whose cause is not of the list; none where all records fit
abbrev pub bad_cause : Bool → List Thread → Sizes → ℕ
bad_cause fit threads z = cond fit nobody (bad_row threads z 15)

-- the running thread, where it has an unfinished call: the first of those whom a walk finds ready, whatever the tables' own word says
abbrev pub bad_running : List Thread → ℕ → ℕ
bad_running threads ready = cond (call_free threads (first_of ready)) nobody (first_of ready)

-- the first row that breaks a rule, or nobody
unfoldable pub bad_at : Plant → Clock → ℕ → ℕ
bad_at p clock rule =
    cond (eqb rule 1) (wholly (sizes_fit p.sizes))
    (cond (eqb rule 2) (wholly (frequency_fits clock.frequency))
    (cond (eqb rule 3) (bad_place p.kernel p.sizes)
    (cond (eqb rule 4) (bad_reference p.kernel p.sizes)
    (cond (eqb rule 5) (bad_mailbox p.mailboxes p.sizes)
    (cond (eqb rule 6) (bad_pool p)
    (cond (eqb rule 12) (bad_running p.kernel.threads (ready_word p.kernel p.sizes.threads))
    (cond (eqb rule 13) (wholly (ready_fits p.kernel p.sizes.threads))
    (cond (eqb rule 14) (bad_word p.kernel p.sizes) (bad_row p.kernel.threads p.sizes rule)))))))))

-- whether no row breaks a rule
abbrev pub is_kept : Plant → Clock → ℕ → Bool
is_kept p clock rule = eqb (bad_at p clock rule) nobody

-- a rule and the row that breaks it; 0 and 0 for nobody
abbrev pub broken_as : Plant → Clock → ℕ → Broken
broken_as p clock rule =
    cond (eqb rule nobody) (record { rule = 0; row = 0 }) (record { rule = rule; row = bad_at p clock rule })

-- the first of the rules 1 to 15 that is broken
unfoldable pub broken : Plant → Clock → Broken
broken p clock = broken_as p clock (first_from (λ rule. not (is_kept p clock rule)) 1 15)

-- what was found before; where that is nothing, a row that breaks the next rule
unfoldable pub or_else : Broken → ℕ → ℕ → Broken
or_else found rule row = cond (eqb found.rule 0 && not (eqb row nobody)) (record { rule = rule; row = row }) found
