-- The law of the ring, once for every length: what is carried keeps the length; more is carried from where it ended; byte j lies j places on,
-- and a byte at no such place is as it was.
use Prim.Native.Nat.{ℕ, zero, suc, ◌+◌, ◌-◌, ◌%◌, ◌≤◌, ◌<◌}
use Prim.Native.Nat.{min}
use native.Mathlib.Nat.{mod-lt, mod-eq_of_lt, mod-eq-sub-mod, mod-add-mod, mod_self, min-eq_left, min-eq_right, add-zero, add-suc, add_assoc}
use native.Mathlib.Omega.{arith}
use mathlib.Core.Path.{◌≡◌, refl, sym, ap, ◌∙◌}
use mathlib.Core.Logic.{◌≢◌}
use mathlib.Core.Bool.{true, cond}
use mathlib.Core.List.{List}
use lib.Dec.{leb, ltb}
use lib.ListN.{length, get_or, length-set, take, drop, length-drop}
use lib.Seq.{get_or-set_same, get_or-set_other, get_or-take, get_or-drop, length-take-le, paste, paste-zero, paste-suc}
use borrow.Rule.Slice.PartMut.{put_mid}
use Rattle.std.proofs.lemmas.Slice.{put_mid-paste}
use borrow.Author.Tests.{lt-ltb, le-ltb, lt-leb, le-leb, leb-true}
use Rattle.kernel.proofs.Cases.{same_or, in-or-out}
use Rattle.pipes.specs.Carrying.{smaller_of, ring_place, carried, run_carried}

pub length-carried : (k : ℕ) (s : List ℕ) (q : ℕ) (d : List ℕ) (p : ℕ) → length (carried k s q d p) ≡ length d
unfolding carried
length-carried zero s q d p = refl
length-carried (suc k) s q d p =
    length-set (carried k s q d p) (ring_place (length d) p k) (get_or s (ring_place (length s) q k) 0) ∙ length-carried k s q d p

-- a place some places on, and some more
pub place-on : (n p a b : ℕ) → ring_place n (ring_place n p a) b ≡ ring_place n p (a + b)
place-on n p a b = mod-add-mod (p + a) n b ∙ ap (λ (x : ℕ). x % n) (add_assoc p a b)

-- more bytes go on from the places where the first ended
pub carried-more : (a k : ℕ) (s : List ℕ) (q : ℕ) (d : List ℕ) (p : ℕ)
    → carried (a + k) s q d p ≡ carried k s (ring_place (length s) q a) (carried a s q d p) (ring_place (length d) p a)
unfolding carried
carried-more a zero s q d p = rw (add-zero a)
carried-more a (suc k) s q d p =
    rw (add-suc a k, length-carried a s q d p, place-on (length d) p a k, place-on (length s) q a k, carried-more a k s q d p)

-- two places less than the ring apart are not the same
pub places-apart : (n p a b : ℕ) → a < b → b < n → ring_place n p a ≢ ring_place n p b
places-apart n p a b l h e =
    let some : 0 < n = omega arith in
    let x = ring_place n p a in
    let on : ring_place n x (b - a) ≡ ring_place n p b = place-on n p a (b - a) ∙ ap (ring_place n p) (omega arith) in
    let same : (x + (b - a)) % n ≡ x = on ∙ sym e in
    in-or-out (x + (b - a)) n (λ w. absurd (omega (arith, sym same ∙ mod-eq_of_lt w)))
    (λ w.
    let less : x < n = mod-lt (p + a) some in
    let low : x + (b - a) - n < n = omega arith in
    absurd (omega (arith, sym same ∙ mod-eq-sub-mod w ∙ mod-eq_of_lt low)))

-- byte j of what is carried lies j places on
pub carried-at : (k : ℕ) (s : List ℕ) (q : ℕ) (d : List ℕ) (p : ℕ) → k ≤ length d → (j : ℕ) → j < k
    → get_or (carried k s q d p) (ring_place (length d) p j) 0 ≡ get_or s (ring_place (length s) q j) 0
unfolding carried
carried-at zero s q d p h j l = absurd (omega arith)
carried-at (suc k) s q d p h j l =
    let e = carried k s q d p in
    let v = get_or s (ring_place (length s) q k) 0 in
    same_or j k
    (λ w.
    let inside : ring_place (length d) p k < length e = rw (length-carried k s q d p) (mod-lt (p + k) (omega arith)) in
    rw w (get_or-set_same e (ring_place (length d) p k) v 0 inside))
    (λ w.
    get_or-set_other e (ring_place (length d) p k) (ring_place (length d) p j) v 0 (places-apart (length d) p j k (omega arith) (omega arith))
    ∙ carried-at k s q d p (omega arith) j (omega arith))

-- and where none lies, all is as it was
pub carried-off : (k : ℕ) (s : List ℕ) (q : ℕ) (d : List ℕ) (p : ℕ) (x : ℕ) → ((j : ℕ) → j < k → x ≢ ring_place (length d) p j)
    → get_or (carried k s q d p) x 0 ≡ get_or d x 0
unfolding carried
carried-off zero s q d p x h = refl
carried-off (suc k) s q d p x h =
    get_or-set_other (carried k s q d p) (ring_place (length d) p k) x (get_or s (ring_place (length s) q k) 0) 0 (h k (omega arith))
    ∙ carried-off k s q d p x (λ j l. h j (omega arith))

-- a run that ends within a ring ends at a place of it, or at its end, which is its start
pub place_after : (n p k : ℕ) → p + k ≤ n → p < n → cond (ltb (p + k) n) (p + k) 0 ≡ ring_place n p k
place_after n p k h l =
    in-or-out (p + k) n (λ w. rw (lt-ltb (p + k) n w) (sym (mod-eq_of_lt w)))
    (λ w. let end : p + k ≡ n = omega arith in rw (le-ltb (p + k) n w, end) (sym (mod_self n)))

-- a run that passes neither end lies there as one part
run-pasted : (n j : ℕ) (s : List ℕ) (q : ℕ) (d : List ℕ) (p : ℕ) → p + n ≤ length d → q + n ≤ length s → j ≤ n
    → carried j s q d p ≡ paste d p (take n (drop q s)) j
unfolding carried
run-pasted n zero s q d p hp hq l = paste-zero d p (take n (drop q s))
run-pasted n (suc j) s q d p hp hq l =
    let few : j < length (take n (drop q s)) = omega (arith, length-take-le n (drop q s) (omega (arith, length-drop q s))) in
    let byte : get_or (take n (drop q s)) j 0 ≡ get_or s (q + j) 0 = get_or-take n (drop q s) j 0 (omega arith) ∙ get_or-drop q s j 0 in
    let into : p + j < length d = omega arith in
    let out_of : q + j < length s = omega arith in
    rw (mod-eq_of_lt into, mod-eq_of_lt out_of, run-pasted n j s q d p hp hq (omega arith), ← byte)
    (paste-suc d p (take n (drop q s)) j 0 (omega arith) few)

-- ---- in the form in which code meets them

-- the code's copy of a part of one slice into another is such a run
pub run-copied : (n : ℕ) (s : List ℕ) (q : ℕ) (d : List ℕ) (p : ℕ) (ys : List ℕ) → true ≡ leb (p + n) (length d) → true ≡ leb (q + n) (length s)
    → ys ≡ take (q + n - q) (drop q s) → put_mid p (p + n - p) d ys ≡ run_carried n s q d p
run-copied n s q d p ys x y e =
    let hp = leb-true (p + n) (length d) (sym x) in
    let hq = leb-true (q + n) (length s) (sym y) in
    let part : take n (drop q s) ≡ take (q + n - q) (drop q s) = ap (λ (m : ℕ). take m (drop q s)) (omega arith) in
    rw (← x, ← y)
    (put_mid-paste p (p + n - p) d ys (take n (drop q s)) n (e ∙ sym part) (omega arith) (sym (length-take-le n (drop q s) (omega (arith, length-drop q s))))
    ∙ sym (run-pasted n n s q d p hp hq (omega arith)))

-- the smaller of two is at most each, and above 0 where both are
pub record Least (a b r : ℕ) : Type 0 where
  pub first : r ≤ a
  pub second : r ≤ b
  pub some : 0 < a → 0 < b → 0 < r

pub least : (a b r : ℕ) → r ≡ smaller_of a b → Least a b r
least a b r e =
    in-or-out b a
    (λ l. let x : r ≡ b = rw (lt-leb a b l) at e in record { first = omega arith; second = omega arith; some = λ h k. omega arith })
    (λ l. let x : r ≡ a = rw (le-leb a b l) at e in record { first = omega arith; second = omega arith; some = λ h k. omega arith })

-- the smaller of two is the library's
pub smaller-min : (a b : ℕ) → min a b ≡ smaller_of a b
smaller-min a b = in-or-out b a (λ l. rw (lt-leb a b l) (min-eq_right (omega arith))) (λ l. rw (le-leb a b l) (min-eq_left l))

pub least-min : (a b r : ℕ) → r ≡ min a b → Least a b r
least-min a b r e = least a b r (e ∙ smaller-min a b)

-- e is d with the first k of n bytes carried, from place q of s to place p of d; the next go from y to x
pub record OnWay (n k : ℕ) (s : List ℕ) (q : ℕ) (d : List ℕ) (p : ℕ) (e : List ℕ) (x y : ℕ) : Type 0 where
  pub upto : k ≤ n
  pub inside-to : x < length d
  pub inside-from : y < length s
  pub into : x ≡ ring_place (length d) p k
  pub out_of : y ≡ ring_place (length s) q k
  pub so_far : e ≡ carried k s q d p

module _ (n : ℕ) (s : List ℕ) (q : ℕ) (d : List ℕ) (p : ℕ) where
  pub way-begins : p < length d → q < length s → OnWay n 0 s q d p d p q
  unfolding carried
  way-begins h k =
      record {
        upto = omega arith;
        inside-to = h;
        inside-from = k;
        into = rw (add-zero p) (sym (mod-eq_of_lt h));
        out_of = rw (add-zero q) (sym (mod-eq_of_lt k));
        so_far = refl;
      }

  module _ (k : ℕ) (e : List ℕ) (x y : ℕ) (o : OnWay n k s q d p e x y) where
    pub way-length : length e ≡ length d
    way-length = ap length o.so_far ∙ length-carried k s q d p

    -- the bytes of a turn: up to the nearer end, and no more than are left
    module _ (a r : ℕ) (ea : a ≡ min (length e - x) (length s - y)) (er : r ≡ min (n - k) a) where
      pub turn-fits : k < n → (0 < r) × (r ≤ n - k) × (x + r ≤ length e) × (y + r ≤ length s)
      turn-fits l =
          let ends = least-min (length e - x) (length s - y) a ea in
          let all = least-min (n - k) a r er in
          let long = way-length in
          let h = o.inside-to in
          let g = o.inside-from in
          let some = ends.some (omega arith) (omega arith) in (
            all.some (omega arith) some,
            all.first,
            omega (arith, all.second, ends.first),
            omega (arith, all.second, ends.second),
          )

      pub way-goes-on : k < n → (e2 : List ℕ) → e2 ≡ run_carried r s y e x → (x2 : ℕ) → x2 ≡ cond (ltb (x + r) (length e2)) (x + r) 0
          → (y2 : ℕ) → y2 ≡ cond (ltb (y + r) (length s)) (y + r) 0 → OnWay n (k + r) s q d p e2 x2 y2
      way-goes-on l e2 h2 x2 hx y2 hy =
          let f = turn-fits l in
          let run : e2 ≡ carried r s y e x = rw (le-leb (x + r) (length e) f.2, le-leb (y + r) (length s) f.3) at h2 in
          let long : length e2 ≡ length d = ap length run ∙ length-carried r s y e x ∙ way-length in
          let within : x + r ≤ length d = omega (arith, f.2, way-length) in
          let hx2 : x2 ≡ cond (ltb (x + r) (length d)) (x + r) 0 = rw long at hx in
          let xr : x2 ≡ ring_place (length d) p (k + r) = hx2 ∙ place_after (length d) x r within o.inside-to ∙ rw o.into (place-on (length d) p k r) in
          let yr : y2 ≡ ring_place (length s) q (k + r) = hy ∙ place_after (length s) y r f.3 o.inside-from ∙ rw o.out_of (place-on (length s) q k r) in
          record {
            upto = omega (arith, f.1, o.upto);
            inside-to = rw xr (mod-lt (p + (k + r)) (omega (arith, o.inside-to)));
            inside-from = rw yr (mod-lt (q + (k + r)) (omega (arith, o.inside-from)));
            into = xr;
            out_of = yr;
            so_far = run ∙ rw (o.so_far, o.into, o.out_of) (sym (carried-more k r s q d p));
          }
