-- Fresh tables with their clock at 0 and at 5, compared by computation: one entry, and the rest of the room as it was. So the hypotheses of the
-- statements of comparing are met.
use Rattle.std.specs.Prelude.{ℕ, ◌≡◌, refl, List, [], ◌∷◌, replicate, get_or}
use Rattle.std.proofs.Common.{arith, ap}
use Rattle.compare.specs.Bytes.{number_at}
use Rattle.compare.specs.Cells.{thread_cell, thread_with, box_cell, box_with, pool_cell, pool_with, word_cell, word_with, size_cell, size_with, clock_cell, clock_with, cell_at, stored}
use Rattle.compare.specs.Changes.{changes}
use Rattle.compare.specs.Compared.{changed, numbers, listing, listed, sizes_same, refused, compared, compared_list}
use Rattle.compare.specs.Laid.{tables_put, clock_put, width_of, offset_of, blank_kept, places_read, kept_of}
use Rattle.compare.specs.Order.{named, cell_of, slot_used, box_counts, pool_counts, counts_named}
use Rattle.kernel.specs.Waiters.{first_ready}
use Rattle.kernel.specs.Walk.{first_from, all_from, count_of}
use Rattle.kernel.specs.Words.{word_of, first_of}
use Rattle.library.specs.Ring.{positions_fit}
use Rattle.library.specs.Sizes.{sizes_fit}
use Rattle.rules.specs.Hanging.{hangs_together}
use Rattle.rules.specs.MailboxRules.{mailboxes_fit}
use Rattle.rules.specs.PlaceRules.{queued_count, counters_fit}
use Rattle.rules.specs.PoolRules.{promised_count, occurrences, entries_fit, objects_fit, pool_fits, pools_fit}
use Rattle.rules.specs.ReferenceRules.{holder_fits, references_fit}
use Rattle.rules.specs.RowRules.{flags_fit, row_fits, call_fits, wait_fits, ticks_fit, rows_fit}
use Rattle.rules.specs.WordRules.{ready_word, waiting_word, ready_fits, waiting_fits, words_fit}
use Rattle.promises.specs.Paper.Comparing.{Lent, Gives, EqualBytes}
use Rattle.promises.specs.Code.Compare.{compared_lent, list_lent, entries_lent, applied_lent}
use Rattle.promises.specs.Top.ShownSaved.{tables, clock, tables-lent, clock-lent, all-bytes}
use Rattle.promises.specs.Top.Compare.{compare-gives, compare-empty}

-- time 5
abbrev later : List ℕ
later = 5 ∷ 0 ∷ 0 ∷ 0 ∷ 16 ∷ 39 ∷ 0 ∷ 0 ∷ []

abbrev room : List ℕ
room = replicate 15 7

pub compare-shown : (compared_lent tables clock tables later room).code
    ∷ (compared_lent tables clock tables later room).entries
    ∷ list_lent tables clock tables later room
    ≡ 0 ∷ 1 ∷ 6 ∷ 0 ∷ 0 ∷ 0 ∷ 5 ∷ replicate 10 7
unfolding row_fits flags_fit all_from blank_kept box_cell box_counts box_with call_fits cell_at cell_of changed changes clock_cell clock_with compared compared_list count_of counters_fit counts_named entries_fit first_from first_of first_ready hangs_together holder_fits kept_of listed listing mailboxes_fit named number_at numbers objects_fit occurrences offset_of places_read pool_cell pool_counts pool_fits pool_with pools_fit positions_fit promised_count queued_count ready_fits ready_word references_fit refused rows_fit size_cell size_with sizes_fit sizes_same slot_used stored thread_cell thread_with ticks_fit wait_fits waiting_fits waiting_word width_of word_cell word_of word_with words_fit
compare-shown = refl

lent : Lent tables clock
lent = record { tables = tables-lent; clock = clock-lent }

later_lent : Lent tables later
later_lent = record { tables = tables-lent; clock = record { size = refl; bytes = all-bytes later refl } }

accepted : (compared_lent tables clock tables later room).code ≡ 0
accepted = ap (λ (l : List ℕ). get_or l 0 0) compare-shown

-- the list, applied, gives the later clock; and as there is one entry, the two are not equal
pub gives-shown : let made = (applied_lent tables clock (entries_lent tables clock tables later room)).kept in
    Gives (tables_put made tables) (clock_put made clock) tables later
gives-shown = compare-gives tables clock tables later lent later_lent room accepted

pub unequal-shown : EqualBytes tables clock tables later → ⊥
unequal-shown e =
    let none = (compare-empty tables clock tables later lent later_lent room accepted).1 e in
    omega (arith, none, ap (λ (l : List ℕ). get_or l 1 0) compare-shown)
