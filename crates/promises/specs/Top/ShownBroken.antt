-- Broken tables by computation: for each rule fresh tables with one thing wrong in a row that is not the first, and what a host is told of
-- them. Two rules and two rows that are broken at once show which comes first.
use Rattle.std.specs.Prelude.{ℕ, ◌/◌, ◌%◌, ◌≡◌, refl, List, [], ◌∷◌, ℤ, pos, negsuc, length, set, replicate}
use Rattle.std.proofs.Common.{ap}
use Rattle.kernel.specs.declared.clock.Clock.{Clock}
use Rattle.kernel.specs.declared.records.Thread.{Thread}
use Rattle.kernel.specs.declared.records.Words.{Words}
use Rattle.kernel.specs.Walk.{all_from, first_from, count_of}
use Rattle.kernel.specs.Words.{word_of, first_of, fresh_words}
use Rattle.kernel.specs.Records.{blank}
use Rattle.library.specs.declared.sizes.Sizes.{Sizes}
use Rattle.library.specs.declared.tables.Mailbox.{Mailbox}
use Rattle.library.specs.declared.tables.Pool.{Pool}
use Rattle.library.specs.declared.tables.Tables.{Tables}
use Rattle.library.specs.Ring.{positions_fit}
use Rattle.library.specs.Sizes.{sizes_fit}
use Rattle.library.specs.Tables.{blank_mailbox, blank_pool}
use Rattle.rules.specs.RowRules.{call_fits, wait_fits, ticks_fit}
use Rattle.rules.specs.PlaceRules.{queued_count}
use Rattle.rules.specs.ReferenceRules.{holder_fits}
use Rattle.rules.specs.PoolRules.{promised_count, occurrences, entries_fit, objects_fit, pool_fits}
use Rattle.rules.specs.WordRules.{ready_word, waiting_word, ready_fits}
use Rattle.rules.specs.Finding.{bad_at, broken}
use Rattle.host.specs.Broken.{broken_number}
use Rattle.promises.specs.Paper.Host.{HostTables}
use Rattle.promises.specs.Paper.Broken.{BrokenFirst}
use Rattle.promises.specs.Together.Hanging.{all-blank}
use Rattle.promises.specs.Top.Broken.{broken-first}

-- three threads, and two of each object, of two slots
abbrev two : Sizes
two =
    record { threads = 3; semaphores = 2; queues = 2; references = 2; mailboxes = 2; pools = 2; slots = 2 ∷ 2 ∷ 0 ∷ 0 ∷ [] }

abbrev clock : ℕ → Clock
clock f = record { time = record { 0 = 0 }; frequency = f }

abbrev threads : List Thread
threads = replicate 16 blank

abbrev counters : List ℤ
counters = replicate 36 (pos 0)

abbrev references : List ℕ
references = replicate 8 255

abbrev tables_of : Sizes → List Thread → List ℤ → List ℕ → Words → List Mailbox → List Pool → Tables
tables_of z t n r w m q =
    record {
      kernel = record { threads = t; counters = n; references = r; words = w; steps = 0 };
      mailboxes = m;
      pools = q;
      sizes = z;
    }

-- fresh but for the part that is named
abbrev with-threads : List Thread → ℕ → Tables
with-threads t ready =
    tables_of two t counters references (record { ready = ready; waiting = replicate 36 0; unused = 0 }) (replicate 4 blank_mailbox) (replicate 4 blank_pool)

abbrev with-counters : List ℤ → Tables
with-counters n = tables_of two threads n references (fresh_words 3) (replicate 4 blank_mailbox) (replicate 4 blank_pool)

abbrev with-references : List ℕ → Tables
with-references r = tables_of two threads counters r (fresh_words 3) (replicate 4 blank_mailbox) (replicate 4 blank_pool)

abbrev with-words : ℕ → List ℕ → Tables
with-words ready waiting =
    tables_of two threads counters references (record { ready = ready; waiting = waiting; unused = 0 }) (replicate 4 blank_mailbox) (replicate 4 blank_pool)

abbrev with-boxes : List Mailbox → Tables
with-boxes m = tables_of two threads counters references (fresh_words 3) m (replicate 4 blank_pool)

abbrev with-pools : List Pool → Tables
with-pools q = tables_of two threads counters references (fresh_words 3) (replicate 4 blank_mailbox) q

-- a thread: state, place, remaining ticks, pending and awaited flags, its call's kind, operand and timeout, cause
abbrev thread : ℕ → ℕ → ℕ → ℕ → ℕ → ℕ → ℕ → ℕ → ℕ → Thread
thread state place remaining pending awaited kind operand timeout cause =
    record {
      state = state;
      place = place;
      remaining = remaining;
      pending = pending;
      awaited = awaited;
      message = pos 0;
      call = record { kind = kind; object = 0; operand = operand; timeout = timeout };
      answer = record { message = pos 0; datum = 0 };
      cause = cause;
      step = 0;
    }

-- the rule and the row, as a host reads them, at a frequency
abbrev told : Tables → ℕ → List ℕ
told t f = broken_number t (clock f) / 256 ∷ broken_number t (clock f) % 256 ∷ []

-- no rule; no threads; counters of semaphore 1, pool 1, queue 1, and of mailbox 1's writers and readers
pub counters-shown : told (with-counters counters) 1000
    ∷ told (tables_of (record { threads = 0; semaphores = 9; queues = 0; references = 0; mailboxes = 0; pools = 0; slots = replicate 4 0 })
    threads counters references (fresh_words 0) (replicate 4 blank_mailbox) (replicate 4 blank_pool)) 1000
    ∷ told (with-counters (set counters 1 (negsuc 0))) 1000
    ∷ told (with-counters (set counters 17 (negsuc 0))) 1000
    ∷ told (with-counters (set counters 21 (pos 1))) 1000
    ∷ told (with-counters (set counters 29 (pos 1))) 1000
    ∷ told (with-counters (set counters 33 (negsuc 4))) 1000
    ∷ []
    ≡ (0 ∷ 0 ∷ []) ∷ (1 ∷ 0 ∷ []) ∷ (3 ∷ 1 ∷ []) ∷ (3 ∷ 17 ∷ []) ∷ (3 ∷ 21 ∷ []) ∷ (3 ∷ 29 ∷ []) ∷ (3 ∷ 33 ∷ []) ∷ []
unfolding
    all_from first_from count_of word_of first_of positions_fit sizes_fit call_fits wait_fits ticks_fit queued_count holder_fits promised_count occurrences entries_fit
    objects_fit pool_fits ready_word waiting_word ready_fits bad_at broken
counters-shown = refl

-- a frequency of 0
pub frequency-shown : told (with-counters counters) 0 ≡ 2 ∷ 0 ∷ []
unfolding
    all_from first_from count_of word_of first_of positions_fit sizes_fit call_fits wait_fits ticks_fit queued_count holder_fits promised_count occurrences entries_fit
    objects_fit pool_fits ready_word waiting_word ready_fits bad_at broken
frequency-shown = refl

-- a reference that holds a thread which is not suspended on it, a mailbox's write place, a pool's list that is too long, the ready word, and
-- the word of a place
pub tables-shown : told (with-references (set references 1 2)) 1000
    ∷ told (with-boxes (set (replicate 4 blank_mailbox) 1 (record { positions = record { read = 0; write = 1; count = 0 }; reset = 0; messages = replicate 16 0 }))) 1000
    ∷ told (with-pools (set (replicate 4 blank_pool) 1 (record { length = 1; list = replicate 32 0; marks = set (replicate 32 0) 0 1 }))) 1000
    ∷ told (with-words 3 (replicate 36 0)) 1000
    ∷ told (with-words 7 (set (replicate 36 0) 17 1)) 1000
    ∷ []
    ≡ (4 ∷ 1 ∷ []) ∷ (5 ∷ 1 ∷ []) ∷ (6 ∷ 1 ∷ []) ∷ (13 ∷ 0 ∷ []) ∷ (14 ∷ 17 ∷ []) ∷ []
unfolding
    all_from first_from count_of word_of first_of positions_fit sizes_fit call_fits wait_fits ticks_fit queued_count holder_fits promised_count occurrences entries_fit
    objects_fit pool_fits ready_word waiting_word ready_fits bad_at broken
tables-shown = refl

-- a ready thread with ticks left, an unfinished signal, a ready thread that waits somewhere, flags awaited in no call, a flag pending for a
-- thread that awaits it, a running thread with a call, and a cause that is none
pub threads-shown : told (with-threads (set threads 2 (thread 0 0 5 0 0 0 0 0 0)) 7) 1000
    ∷ told (with-threads (set threads 2 (thread 0 0 0 0 0 3 0 5 0)) 7) 1000
    ∷ told (with-threads (set threads 2 (thread 0 5 0 0 0 0 0 0 0)) 7) 1000
    ∷ told (with-threads (set threads 2 (thread 0 0 0 0 4 0 0 0 0)) 7) 1000
    ∷ told (with-threads (set threads 2 (thread 4 0 0 6 4 14 4 4294967295 0)) 3) 1000
    ∷ told (with-threads (set (set threads 0 (thread 1 0 3 0 0 11 0 5 0)) 1 (thread 0 0 0 0 0 2 0 5 0)) 6) 1000
    ∷ told (with-threads (set threads 2 (thread 0 0 0 0 0 0 0 0 9)) 7) 1000
    ∷ []
    ≡ (7 ∷ 2 ∷ []) ∷ (8 ∷ 2 ∷ []) ∷ (9 ∷ 2 ∷ []) ∷ (10 ∷ 2 ∷ []) ∷ (11 ∷ 2 ∷ []) ∷ (12 ∷ 1 ∷ []) ∷ (15 ∷ 2 ∷ []) ∷ []
unfolding
    all_from first_from count_of word_of first_of positions_fit sizes_fit call_fits wait_fits ticks_fit queued_count holder_fits promised_count occurrences entries_fit
    objects_fit pool_fits ready_word waiting_word ready_fits bad_at broken
threads-shown = refl

-- ---- which comes first

-- thread 0 breaks rule 8, threads 1 and 2 rule 7
abbrev several : Tables
several = with-threads (set (set (set threads 0 (thread 0 0 0 0 0 3 0 5 0)) 1 (thread 0 0 5 0 0 0 0 0 0)) 2 (thread 0 0 5 0 0 0 0 0 0)) 7

several-host : HostTables several
several-host =
    record {
      threads = refl;
      counters = refl;
      references = refl;
      waiting = refl;
      mailboxes = refl;
      messages = λ m h. ap (λ (b : Mailbox). length b.messages) (all-blank 4 blank_mailbox m);
      pools = refl;
      lists = λ q h. ap (λ (x : Pool). length x.list) (all-blank 4 blank_pool q);
      marks = λ q h. ap (λ (x : Pool). length x.marks) (all-blank 4 blank_pool q);
    }

-- the rule of the smaller number is told, and its first row
pub first-shown : BrokenFirst several (clock 1000) 7 1
unfolding
    all_from first_from count_of word_of first_of positions_fit sizes_fit call_fits wait_fits ticks_fit queued_count holder_fits promised_count occurrences entries_fit
    objects_fit pool_fits ready_word waiting_word ready_fits bad_at broken
first-shown = (broken-first several (clock 1000) several-host).0
