-- The checksum Adler-32 (RFC 1950): one sum of the bytes, from 1 on, and one of what that sum was after each byte, from 0 on.
use Rattle.std.specs.Prelude.{ℕ, ◌+◌, ◌*◌, ◌%◌, List, length, get_or}
use Rattle.kernel.specs.Walk.{each}
use Rattle.compare.specs.declared.checksum.Sums.{Sums}

-- the largest prime below 65536
abbrev pub base : ℕ
base = 65521

abbrev pub no_sums : Sums
no_sums = record { low = 1; high = 0 }

abbrev pub added : Sums → ℕ → Sums
added s b = record { low = (s.low + b) % base; high = (s.high + (s.low + b) % base) % base }

abbrev pub sums_of : List ℕ → ℕ → Sums
sums_of l n = each n (λ i s. added s (get_or l i 0)) no_sums

unfoldable pub checksum_of : List ℕ → ℕ
checksum_of l = (sums_of l (length l)).high * 65536 + (sums_of l (length l)).low
