-- The number of the boundary's layout: NIL_LAYOUT of the header.
use Rattle.std.specs.Prelude.{ℕ}

abbrev pub layout : ℕ
layout = 3
