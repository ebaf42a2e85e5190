-- What an operators' screen is told.
use Rattle.std.specs.Prelude.{ℕ}
use Rattle.kernel.specs.Words.{ones_of, first_of, waiting_at}
use Rattle.library.specs.declared.tables.Tables.{Tables}

-- "The number of ready threads is the number of ones"
abbrev pub ready_count : Tables → ℕ
ready_count t = ones_of t.kernel.words.ready

-- "the first ready thread is the number of trailing zeros of the word, and an empty word means idle"
abbrev pub ready_first : Tables → ℕ
ready_first t = first_of t.kernel.words.ready

-- "one such word for each semaphore (a pool's too), queue and mailbox side with the threads waiting there"
abbrev pub waiters_at : Tables → ℕ → ℕ
waiters_at t p = waiting_at t.kernel.words p
