-- The places of the one table of counters. An object's number is a byte.
use Rattle.std.specs.Prelude.{ℕ, ◌+◌, ◌%◌}

abbrev pub semaphore_place : ℕ → ℕ
semaphore_place i = i

abbrev pub pool_place : ℕ → ℕ
pool_place i = 16 + i % 256

abbrev pub queue_place : ℕ → ℕ
queue_place i = 20 + i % 256

abbrev pub writers_place : ℕ → ℕ
writers_place i = 28 + i % 256

abbrev pub readers_place : ℕ → ℕ
readers_place i = 32 + i % 256
