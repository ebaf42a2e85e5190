-- One read more, in the form in which the loop meets it: next is the place behind the read at a place, n the reads that are left.
use Rattle.std.proofs.Common.{◌≡◌, ℕ, zero, suc, ◌-◌, ◌<◌, List, refl, ap, ◌∙◌, arith}
use Rattle.trace.specs.Decoding.{next_read}
use Rattle.text.specs.Ending.{place_read}

-- no reads are left
pub none_left : (n : ℕ) (s : List ℕ) (at : ℕ) → n ≡ 0 → place_read n s at ≡ at
unfolding place_read
none_left zero s at e = refl
none_left (suc n) s at e = absurd (omega (arith, e))

-- a read that moves nothing is the last: reading on stays there
pub stays : (n : ℕ) (s : List ℕ) (at : ℕ) → (next_read s at).next ≡ at → place_read n s at ≡ at
unfolding place_read
stays zero s at e = refl
stays (suc n) s at e = ap (place_read n s) e ∙ stays n s at e

pub read_more : (n : ℕ) (s : List ℕ) (at next : ℕ) → next ≡ (next_read s at).next → 0 < n → place_read (n - 1) s next ≡ place_read n s at
unfolding place_read
read_more zero s at next e h = omega arith
read_more (suc n) s at next e h =
    let less : suc n - 1 ≡ n = omega arith in
    rw less (ap (place_read n s) e)
