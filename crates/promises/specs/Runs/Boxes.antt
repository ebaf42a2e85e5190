-- What a mailbox holds, in the order in which it comes out: a post puts one behind, at a place where none lies, a post ahead one before all,
-- and a fetch takes the first. By the laws of the ring that pipes have.
use Rattle.std.specs.Prelude.{ℕ, zero, suc, ◌+◌, ◌-◌, ◌%◌, ◌≤◌, ◌<◌, ◌≡◌, refl, cond, List, [], ◌∷◌, ◌++◌, eqb, length, get_or, set}
use Rattle.std.proofs.Common.{mod-eq_of_lt, add-zero, add-one, arith, sym, ap, ◌∙◌, get_or-set_same, get_or-set_other, ne_eqb}
use Rattle.std.proofs.Math.Nat.{mod_self}
use Rattle.kernel.proofs.Cases.{same_or}
use Rattle.library.specs.declared.tables.Mailbox.{Mailbox}
use Rattle.pipes.proofs.CarryingLaws.{place-on, places-apart}
use Rattle.promises.specs.Paper.Rows.{written, written_ahead, taken_from}
use Rattle.promises.specs.Paper.Together.{PositionsFit}
use Rattle.promises.specs.Paper.Pipes.{listed}
use Rattle.promises.specs.Runs.Pipes.{listed_same, listed_more}

-- what a mailbox of n slots holds
abbrev pub content : ℕ → Mailbox → List ℕ
content n y = listed (λ j. get_or y.messages ((y.positions.read + j) % n) 0) y.positions.count

module _ (y : Mailbox) (n : ℕ) (fits : PositionsFit y.positions n) (few : n ≤ 16) (sized : length y.messages ≡ 16) where
  abbrev r : ℕ
  r = y.positions.read

  abbrev k : ℕ
  k = y.positions.count

  pub content-behind : k < n → (x : ℕ) → content n (written y n x) ≡ content n y ++ (x ∷ [])
  content-behind l x =
      let p = y.positions.write in
      let m = set y.messages p x in
      let at : get_or m ((r + k) % n) 0 ≡ x = rw (← fits.follows) (get_or-set_same y.messages p x 0 (omega (arith, sized, few, fits.write))) in
      let old : (j : ℕ) → j < k → get_or m ((r + j) % n) 0 ≡ get_or y.messages ((r + j) % n) 0 =
      λ j h. rw fits.follows (get_or-set_other y.messages ((r + k) % n) ((r + j) % n) x 0 (places-apart n r j k h l)) in
      rw (add-one k, at, listed_same (λ j. get_or m ((r + j) % n) 0) (λ j. get_or y.messages ((r + j) % n) 0) k old)

  abbrev back : ℕ
  back = cond (eqb r 0) (n - 1) (r - 1)

  back_in : back < n
  back_in = same_or r 0 (λ e. rw e (omega (arith, fits.read))) (λ d. rw (ne_eqb r 0 d) (omega (arith, fits.read)))

  back-next : (back + 1) % n ≡ r
  back-next =
      same_or r 0
      (λ e. rw e (ap (λ (z : ℕ). z % n) (one fits.read) ∙ mod_self n))
      (λ d. rw (ne_eqb r 0 d) (ap (λ (z : ℕ). z % n) (up d) ∙ mod-eq_of_lt fits.read))
    where
      one : r < n → n - 1 + 1 ≡ n
      one h = omega arith

      up : (r ≡ 0 → ⊥) → r - 1 + 1 ≡ r
      up d = some r d
        where
          some : (z : ℕ) → (z ≡ 0 → ⊥) → z - 1 + 1 ≡ z
          some zero d = absurd (d refl)
          some (suc z) d = omega arith

  pub content-ahead : k < n → (x : ℕ) → content n (written_ahead y n x) ≡ x ∷ content n y
  content-ahead l x =
      let m = set y.messages back x in
      let f : ℕ → ℕ = λ j. get_or m ((back + j) % n) 0 in
      let here : (back + 0) % n ≡ back = rw (add-zero back) (mod-eq_of_lt back_in) in
      let first : f 0 ≡ x = rw here (get_or-set_same y.messages back x 0 (omega (arith, sized, few, back_in))) in
      let on : (j : ℕ) → (back + (1 + j)) % n ≡ (r + j) % n = λ j. sym (place-on n back 1 j) ∙ rw back-next in
      let old : (j : ℕ) → j < k → f (1 + j) ≡ get_or y.messages ((r + j) % n) 0 =
      λ j h.
      get_or-set_other y.messages back ((back + (1 + j)) % n) x 0
      (λ e. places-apart n back 0 (1 + j) (omega arith) (omega arith) (here ∙ sym e))
      ∙ ap (λ (z : ℕ). get_or y.messages z 0) (on j) in
      let count : k + 1 ≡ 1 + k = omega arith in
      ap (listed f) count ∙ listed_more f 1 k ∙ rw (first, listed_same (λ j. f (1 + j)) (λ j. get_or y.messages ((r + j) % n) 0) k old)

  pub content-taken : 0 < k → content n y ≡ get_or y.messages r 0 ∷ content n (taken_from y n)
  content-taken l =
      let f : ℕ → ℕ = λ j. get_or y.messages ((r + j) % n) 0 in
      let first : f 0 ≡ get_or y.messages r 0 = rw (add-zero r, mod-eq_of_lt fits.read) in
      let on : (j : ℕ) → j < k - 1 → f (1 + j) ≡ get_or y.messages (((r + 1) % n + j) % n) 0 =
      λ j h. ap (λ (z : ℕ). get_or y.messages z 0) (sym (place-on n r 1 j)) in
      let count : k ≡ 1 + (k - 1) = omega arith in
      ap (listed f) count ∙ listed_more f 1 (k - 1)
      ∙ rw (first, listed_same (λ j. f (1 + j)) (λ j. get_or y.messages (((r + 1) % n + j) % n) 0) (k - 1) on)
