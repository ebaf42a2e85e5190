-- Bytes carried from one ring to another: "A transfer that passes the buffer's end goes on at its start".
use Rattle.std.specs.Prelude.{ℕ, zero, suc, ◌+◌, ◌%◌, cond, ◌&&◌, List, leb, ltb, length, get_or, set}

-- "the smaller of"
abbrev pub smaller_of : ℕ → ℕ → ℕ
smaller_of a b = cond (leb a b) a b

-- the place j places on from p, in a ring of n
abbrev pub ring_place : ℕ → ℕ → ℕ → ℕ
ring_place n p j = (p + j) % n

-- the first k bytes of the ring s from its place q on, laid into the ring d from its place p on
unfoldable pub carried : ℕ → List ℕ → ℕ → List ℕ → ℕ → List ℕ
carried zero s q d p = d
carried (suc k) s q d p = set (carried k s q d p) (ring_place (length d) p k) (get_or s (ring_place (length s) q k) 0)

-- the same where both places are there; else nothing is carried
abbrev pub carried_between : ℕ → List ℕ → ℕ → List ℕ → ℕ → List ℕ
carried_between k s q d p = cond (ltb p (length d) && ltb q (length s)) (carried k s q d p) d

-- the same in one run, which passes neither end; else nothing is carried
abbrev pub run_carried : ℕ → List ℕ → ℕ → List ℕ → ℕ → List ℕ
run_carried k s q d p = cond (leb (p + k) (length d) && leb (q + k) (length s)) (carried k s q d p) d
