-- A counter one more and one less: "Counters run from -2147483648 to 2147483647", and stay at their ends.
use Rattle.std.specs.Prelude.{cond, ℤ, pos, negsuc, ◌+ℤ◌, ◌-ℤ◌, int_lt}
use Rattle.kernel.specs.Numbers.{top}

abbrev pub up : ℤ → ℤ
up c = cond (int_lt c top) (c +ℤ pos 1) c

abbrev pub down : ℤ → ℤ
down c = cond (int_lt (negsuc 2147483647) c) (c -ℤ pos 1) c
