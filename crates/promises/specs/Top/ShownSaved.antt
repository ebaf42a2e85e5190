-- Fresh tables saved, by computation: where they lie, the head of their file, what it is loaded as, and each refusal. So the hypotheses of the
-- statements of saved tables are met.
use Rattle.std.specs.Prelude.{ℕ, zero, suc, ◌<◌, ◌≡◌, refl, Bool, true, ◌&&◌, List, [], ◌∷◌, ◌++◌, ltb, pos, get_or, take, drop, replicate, None}
use Rattle.std.proofs.Common.{arith, sym, ltb-true}
use Rattle.std.proofs.Math.Path.{subst⁻¹}
use Rattle.std.proofs.lemmas.List.{get_or-replicate}
use Rattle.kernel.specs.Records.{blank}
use Rattle.kernel.specs.Walk.{all_from}
use Rattle.kernel.proofs.Cases.{both-means}
use Rattle.library.specs.declared.sizes.Sizes.{Sizes}
use Rattle.library.specs.Sizes.{sizes_fit}
use Rattle.library.specs.Tables.{blank_mailbox, blank_pool}
use Rattle.library.specs.Fresh.{made}
use Rattle.compare.specs.declared.cells.Kept.{Kept}
use Rattle.compare.specs.Cells.{thread_with, box_with, pool_with, word_with, size_with, clock_with, stored}
use Rattle.compare.specs.Bytes.{number_at}
use Rattle.compare.specs.Laid.{width_of, offset_of, blank_kept, places_read, kept_of}
use Rattle.compare.specs.Saved.{save_code, saved, load_code, loaded}
use Rattle.host.specs.Comparing.{load_answer, loaded_tables, loaded_clock}
use Rattle.promises.specs.Paper.Saved.{AreBytes, BytesLent, adler, saved_file, SaveOf, FileRefused, LoadOf, IsSigned, ThreadTyped, BoxTyped, PoolTyped, HostTyped}
use Rattle.promises.specs.Top.Saved.{saved-told, saved-loaded, loaded-told, loaded-saved, kept-saved-loaded}

-- the checksum that is known of the word Wikipedia
pub adler-shown : adler (87 ∷ 105 ∷ 107 ∷ 105 ∷ 112 ∷ 101 ∷ 100 ∷ 105 ∷ 97 ∷ []) ≡ 300286872
adler-shown = refl

-- three threads, and two of each object, of two slots; no frequency is given
abbrev plant : Sizes
plant = record { threads = 3; semaphores = 2; queues = 2; references = 2; mailboxes = 2; pools = 2; slots = 2 ∷ 2 ∷ 0 ∷ 0 ∷ [] }

abbrev fresh : Kept
fresh = record { tables = (made plant None).tables; clock = (made plant None).clock }

-- as they lie in a host: eight references that hold nobody, the ready word, and the sizes
abbrev pub tables : List ℕ
tables =
    replicate 912 0
    ++ replicate 8 255
    ++ (7 ∷ [])
    ++ replicate 631 0
    ++ (3 ∷ 0 ∷ 2 ∷ 0 ∷ 2 ∷ 0 ∷ 2 ∷ 0 ∷ 2 ∷ 0 ∷ 2 ∷ 0 ∷ 2 ∷ 0 ∷ 2 ∷ 0 ∷ 0 ∷ 0 ∷ 0 ∷ 0 ∷ [])

-- time 0, frequency 10000
abbrev pub clock : List ℕ
clock = 0 ∷ 0 ∷ 0 ∷ 0 ∷ 16 ∷ 39 ∷ 0 ∷ 0 ∷ []

abbrev all_bytes : List ℕ → Bool
all_bytes [] = true
all_bytes (b ∷ l) = ltb b 256 && all_bytes l

pub all-bytes : (l : List ℕ) → all_bytes l ≡ true → AreBytes l
all-bytes [] e i = omega arith
all-bytes (b ∷ l) e zero = ltb-true b 256 (both-means (ltb b 256) (all_bytes l) e).0
all-bytes (b ∷ l) e (suc i) = all-bytes l (both-means (ltb b 256) (all_bytes l) e).1 i

pub tables-lent : BytesLent 1572 tables
tables-lent = record { size = refl; bytes = all-bytes tables refl }

pub clock-lent : BytesLent 8 clock
clock-lent = record { size = refl; bytes = all-bytes clock refl }

abbrev read : Kept
read = kept_of tables clock

-- some of what is read of them: a reference, the ready word, two sizes, the frequency
pub fields-shown : get_or read.tables.kernel.references 7 0
    ∷ read.tables.kernel.words.ready
    ∷ read.tables.sizes.threads
    ∷ read.tables.sizes.pools
    ∷ read.clock.frequency
    ∷ []
    ≡ 255 ∷ 7 ∷ 3 ∷ 2 ∷ 10000 ∷ []
unfolding thread_with box_with pool_with word_with size_with clock_with stored number_at width_of offset_of blank_kept places_read kept_of
fields-shown = refl

abbrev room : List ℕ
room = replicate 1588 0

abbrev file : List ℕ
file = saved_file tables clock

-- they are saved behind the head: the layout, and the checksum 3401648200
pub saved-shown : (save_code room ≡ 0) × (saved read room ≡ (3 ∷ 0 ∷ 0 ∷ 0 ∷ 72 ∷ 8 ∷ 193 ∷ 202 ∷ []) ++ (tables ++ clock))
saved-shown =
    let told = saved-told tables clock tables-lent clock-lent room in
    let one = told.1 0 file (SaveOf.saved (omega arith)) in
    (sym one.0, sym one.1)

-- and loaded again, over other bytes
pub back-shown : (load_answer (take 1588 (saved read room)) (replicate 1572 7) (replicate 8 7) ≡ 0)
    × (loaded_tables (take 1588 (saved read room)) (replicate 1572 7) (replicate 8 7) ≡ tables)
    × (loaded_clock (take 1588 (saved read room)) (replicate 1572 7) (replicate 8 7) ≡ clock)
back-shown = saved-loaded tables clock tables-lent clock-lent room (replicate 1572 7) (replicate 8 7) (omega arith) refl refl

-- the file by itself is accepted, and saved again as it was
pub file-shown : load_answer file tables clock ≡ 0
file-shown = sym ((loaded-told file tables clock (all-bytes file refl) refl refl).1 0 tables clock (LoadOf.loaded (record { layout = refl; size = refl; checksum = refl }))).0

pub again-shown : saved (kept_of (loaded_tables file tables clock) (loaded_clock file tables clock)) room ≡ file
again-shown = loaded-saved file tables clock (all-bytes file refl) refl refl file-shown room (omega arith)

-- refusals: too little room; three bytes, layout 2, 1587 bytes, 1589 bytes
abbrev layouts : ℕ → List ℕ → List ℕ
layouts n l = n ∷ 0 ∷ 0 ∷ 0 ∷ l

pub refusals-shown : save_code (replicate 1587 0)
    ∷ load_answer (3 ∷ 0 ∷ 0 ∷ []) tables clock
    ∷ load_answer (layouts 2 (replicate 1584 0)) tables clock
    ∷ load_answer (layouts 3 (replicate 1583 0)) tables clock
    ∷ load_answer (layouts 3 (replicate 1585 0)) tables clock
    ∷ []
    ≡ 16 ∷ 11 ∷ 11 ∷ 12 ∷ 13 ∷ []
unfolding number_at load_code load_answer
refusals-shown = refl

-- and a byte that was changed
abbrev changed : List ℕ
changed = (3 ∷ 0 ∷ 0 ∷ 0 ∷ 72 ∷ 8 ∷ 193 ∷ 202 ∷ []) ++ ((1 ∷ drop 1 tables) ++ clock)

pub damage-shown : load_answer changed tables clock ≡ 6
damage-shown =
    sym ((loaded-told changed tables clock (all-bytes changed refl) refl refl).1 6 tables clock
    (LoadOf.refused 6 (FileRefused.damaged refl refl (λ e. omega arith)))).0

-- ---- fresh tables are of a host's types

thread-typed : ThreadTyped blank
thread-typed =
    record {
      state = omega arith;
      place = omega arith;
      remaining = omega arith;
      pending = omega arith;
      awaited = omega arith;
      message = refl;
      call-kind = omega arith;
      call-object = omega arith;
      call-operand = omega arith;
      call-timeout = omega arith;
      answer-message = refl;
      answer-datum = omega arith;
      cause = omega arith;
      step = omega arith;
    }

zeros : (n limit i : ℕ) → 0 < limit → i < n → get_or (replicate n 0) i 0 < limit
zeros n limit i some h = rw (get_or-replicate {A = ℕ} n i 0 0 h) some

box_typed : BoxTyped blank_mailbox
box_typed =
    record {
      read = omega arith;
      write = omega arith;
      count = omega arith;
      reset = omega arith;
      message-rows = refl;
      messages = λ s h. zeros 16 4294967296 s (omega arith) h;
    }

pool-typed : PoolTyped blank_pool
pool-typed =
    record {
      length-is = omega arith;
      list-rows = refl;
      list = λ j h. zeros 32 256 j (omega arith) h;
      mark-rows = refl;
      marks = λ o h. zeros 32 256 o (omega arith) h;
    }

slots-typed : (m : ℕ) → m < 4 → get_or plant.slots m 0 < 65536
slots-typed zero h = omega arith
slots-typed (suc zero) h = omega arith
slots-typed (suc (suc zero)) h = omega arith
slots-typed (suc (suc (suc zero))) h = omega arith
slots-typed (suc (suc (suc (suc m)))) h = absurd (omega arith)

pub typed-shown : HostTyped fresh.tables fresh.clock
unfolding all_from sizes_fit made
typed-shown =
    record {
      thread-rows = refl;
      threads = λ i h. subst⁻¹ ThreadTyped (get_or-replicate 16 i blank blank h) thread-typed;
      counter-rows = refl;
      counters = λ p h. subst⁻¹ IsSigned (get_or-replicate 36 p (pos 0) (pos 0) h) refl;
      reference-rows = refl;
      references = λ r h. rw (get_or-replicate {A = ℕ} 8 r 255 255 h) (omega arith);
      ready = omega arith;
      waiting-rows = refl;
      waiting = λ p h. zeros 36 65536 p (omega arith) h;
      unused = omega arith;
      steps = omega arith;
      box-rows = refl;
      boxes = λ m h. subst⁻¹ BoxTyped (get_or-replicate 4 m blank_mailbox blank_mailbox h) box_typed;
      pool-rows = refl;
      pools = λ q h. subst⁻¹ PoolTyped (get_or-replicate 4 q blank_pool blank_pool h) pool-typed;
      sizes = record {
        threads = omega arith;
        semaphores = omega arith;
        queues = omega arith;
        references = omega arith;
        mailboxes = omega arith;
        pools = omega arith;
        slot-rows = refl;
        slots = slots-typed;
      };
      time = omega arith;
      frequency = omega arith;
    }

-- so they come back
pub kept-shown : loaded (take 1588 (saved fresh room)) ≡ record { code = 0; kept = fresh }
kept-shown = kept-saved-loaded fresh.tables fresh.clock typed-shown room (omega arith)
