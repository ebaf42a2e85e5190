-- Words beside the records: bit i of a word stands for thread i. "bit i set exactly when thread i is ready, and one such word for each
-- semaphore (a pool's too), queue and mailbox side with the threads waiting there"
use Rattle.std.specs.Prelude.{ℕ, zero, suc, ◌+◌, ◌-◌, ◌/◌, ◌%◌, ◌^◌, Bool, cond, replicate, ◌==◌, bit_and, bit_or, bit_xor, nat_lt, slice_index, slice_set}
use Rattle.kernel.specs.declared.records.Words.{Words}
use Rattle.kernel.specs.Numbers.{queued}
use Rattle.kernel.specs.Walk.{first_from, count_of}
use Rattle.kernel.specs.Tables.{used_rows}

-- bit i of a word
abbrev pub digit : ℕ → ℕ → ℕ
digit w i = w / 2 ^ i % 2

abbrev pub has_bit : ℕ → ℕ → Bool
has_bit w i = digit w i == 1

-- "what a walk over the records would give": a bit for each of the first n indexes that passes
unfoldable pub word_of : (ℕ → Bool) → ℕ → ℕ
word_of f zero = 0
word_of f (suc n) = word_of f n + cond (f n) (2 ^ n) 0

-- "The number of ready threads is the number of ones"
unfoldable pub ones_of : ℕ → ℕ
ones_of w = count_of (has_bit w) 16

-- "the first .. is the number of trailing zeros of the word, and an empty word means idle"
unfoldable pub first_of : ℕ → ℕ
first_of w = first_from (has_bit w) 0 16

-- what bit i counts; a word has 16 bits
abbrev pub bit_value : ℕ → ℕ
bit_value i = cond (nat_lt i 16) (2 ^ i) 0

-- a word with bit i, and without it
abbrev pub with_bit : ℕ → ℕ → ℕ
with_bit w i = bit_or w (bit_value i)

abbrev pub without_bit : ℕ → ℕ → ℕ
without_bit w i = bit_xor w (bit_and w (bit_value i))

-- a bit for each of n threads
abbrev pub all_ready : ℕ → ℕ
all_ready n = 2 ^ used_rows n - 1

-- "all ready", and nobody waits
abbrev pub fresh_words : ℕ → Words
fresh_words n = record { ready = all_ready n; waiting = replicate 36 0; unused = 0 }

-- who waits at a place; nobody past all places
abbrev pub waiting_at : Words → ℕ → ℕ
waiting_at w p = slice_index w.waiting p

-- thread i was in a state at a place, and is ready
abbrev pub noted_ready : Words → ℕ → ℕ → ℕ → Words
noted_ready w i state p =
    record {
      ready = with_bit w.ready i;
      waiting = cond (state == queued) (slice_set w.waiting p (without_bit (waiting_at w p) i)) w.waiting;
      unused = w.unused;
    }

-- thread i is in a state at a place, and no more ready
abbrev pub noted_asleep : Words → ℕ → ℕ → ℕ → Words
noted_asleep w i state p =
    record {
      ready = without_bit w.ready i;
      waiting = cond (state == queued) (slice_set w.waiting p (with_bit (waiting_at w p) i)) w.waiting;
      unused = w.unused;
    }
