-- A list of so many zeros, as the default of an array tells it.
use Rattle.std.proofs.Common.{◌≡◌, ℕ, ◌<◌, List, replicate, sym, ◌∙◌, arith}
use Rattle.std.proofs.lemmas.List.{ext_get_or, length-replicate, get_or-replicate}
use Rattle.std.specs.Array.{AllOfLen}

pub zeros : (xs : List ℕ) (n : ℕ) → AllOfLen (λ x. x ≡ 0) xs n → xs ≡ replicate n 0
zeros xs n h =
    ext_get_or 0 xs (replicate n 0) (h.long ∙ sym (length-replicate n 0))
    (λ i below. let in_n : i < n = omega (arith, h.long, below) in h.at i 0 in_n ∙ sym (get_or-replicate n i 0 0 in_n))
