-- Numbers as bytes, at any width k: by induction on k, since a number is its last byte and the number of the others.
use Prim.Native.Nat.{ℕ, zero, suc, ◌+◌, ◌-◌, ◌*◌, ◌/◌, ◌%◌, ◌^◌, ◌≤◌, ◌<◌}
use native.Mathlib.Nat.{add-zero, zero-add, div-add-mod', div-lt_iff_lt-mul, zero-lt-suc, pow-suc}
use native.Mathlib.Omega.{arith}
use mathlib.Core.Path.{◌≡◌, refl, sym, ap, ap₂, ◌∙◌}
use mathlib.Core.Logic.{◌⊎◌, inl, inr}
use mathlib.Core.List.{List, [], ◌∷◌, ◌++◌, append_assoc}
use lib.ListN.{length, get_or, take, drop, get_or-eq_default, length-append, length-drop, get_or-append, set, length-set}
use lib.Seq.{sets, get_or-append_seam, get_or-append-add, get_or-drop, take_all, take-suc, get_or-set_same, get_or-set_other}
use denote.Ref.{Bor}
use Rattle.std.specs.Prelude.{Option, Some, None, slice_range}
use Rattle.std.specs.Option.{MatchOption, unwrap_or}
use borrow.Rule.Slice.PartMut.{put_mid}
use Rattle.std.proofs.lemmas.List.Edits.{paste_all, sets-eq}
use Rattle.std.proofs.lemmas.Slice.{put_mid-paste}
use borrow.Author.Tests.{le-leb}
use Rattle.kernel.proofs.Cases.{same_or}
use Rattle.trace.specs.Ordered.{bytes_n, get_n, put_bytes, put_n}

pub length-bytes : (k x : ℕ) → length (bytes_n k x) ≡ k
length-bytes zero x = refl
length-bytes (suc k) x = length-append (bytes_n k (x / 256)) (x % 256 ∷ []) ∙ omega (arith, length-bytes k (x / 256))

-- ---- reading

-- only the k bytes from the place on are read
pub get-same : (k : ℕ) (l m : List ℕ) (at to : ℕ) → ((j : ℕ) → j < k → get_or l (at + j) 0 ≡ get_or m (to + j) 0) → get_n k l at ≡ get_n k m to
unfolding get_n
get-same zero l m at to h = refl
get-same (suc k) l m at to h =
    ap₂ (λ (n b : ℕ). n * 256 + b) (get-same k l m at to (λ j i. h j (omega arith))) (h k (omega arith))

-- the bytes of a number make it up
value : (k x : ℕ) → x < 256 ^ k → get_n k (bytes_n k x) 0 ≡ x
unfolding get_n
value zero x h = omega arith
value (suc k) x h =
    let rest : List ℕ = bytes_n k (x / 256) in
    let size : length rest ≡ k = length-bytes k (x / 256) in
    let small : x / 256 < 256 ^ k = (div-lt_iff_lt-mul (zero-lt-suc 255)).1 (rw pow-suc at h) in
    let last : get_or (rest ++ (x % 256 ∷ [])) (0 + k) 0 ≡ x % 256 =
    ap (λ (i : ℕ). get_or (rest ++ (x % 256 ∷ [])) i 0) (zero-add k ∙ sym size) ∙ get_or-append_seam rest (x % 256) [] 0 in
    ap₂ (λ (n b : ℕ). n * 256 + b)
    (get-same k _ _ 0 0 (λ j l. get_or-append rest (x % 256 ∷ []) 0 (0 + j) (omega arith)) ∙ value k (x / 256) small)
    last
    ∙ div-add-mod' x 256

-- a number's bytes, wherever they stand, are read as it
pub get-bytes : (k : ℕ) (p : List ℕ) (x : ℕ) (q : List ℕ) (at : ℕ) → length p ≡ at → x < 256 ^ k → get_n k (p ++ (bytes_n k x ++ q)) at ≡ x
get-bytes k p x q at e h =
    let size : length (bytes_n k x) ≡ k = length-bytes k x in
    get-same k _ _ at 0
    (λ j l.
    ap (λ (i : ℕ). get_or (p ++ (bytes_n k x ++ q)) (i + j) 0) (sym e)
    ∙ get_or-append-add p (bytes_n k x ++ q) j 0
    ∙ get_or-append (bytes_n k x) q 0 j (omega arith)
    ∙ ap (λ (i : ℕ). get_or (bytes_n k x) i 0) (sym (zero-add j)))
    ∙ value k x h

-- what bytes make up has those bytes
pub bytes-get : (k : ℕ) (l : List ℕ) (at : ℕ) → ((i : ℕ) → get_or l i 0 < 256) → at + k ≤ length l → bytes_n k (get_n k l at) ≡ take k (drop at l)
unfolding get_n
bytes-get zero l at b h = refl
bytes-get (suc k) l at b h =
    let last : ℕ = get_or l (at + k) 0 in
    let small : last < 256 = b (at + k) in
    let n : ℕ = get_n k l at in
    let high : (n * 256 + last) / 256 ≡ n = omega arith in
    let low : (n * 256 + last) % 256 ≡ last = omega arith in
    ap₂ (λ (m c : ℕ). bytes_n k m ++ (c ∷ [])) high (low ∙ sym (get_or-drop at l k 0))
    ∙ ap (λ (m : List ℕ). m ++ (get_or (drop at l) k 0 ∷ [])) (bytes-get k l at b (omega arith))
    ∙ sym (take-suc (drop at l) k 0 (omega (arith, length-drop at l)))

-- the first j of n bytes stand as they do in the rest of a slice
pub record Filled (n j : ℕ) (rest bytes : List ℕ) : Type 0 where
  pub long : length bytes ≡ n
  pub so_far : (i : ℕ) → i < j → get_or bytes i 0 ≡ get_or rest i 0

pub filled-more : (n j : ℕ) (rest bytes : List ℕ) (b : ℕ) → Filled n j rest bytes → j < n → b ≡ get_or rest j 0 → Filled n (j + 1) rest (set bytes j b)
filled-more n j rest bytes b f h e =
    record {
      long = length-set bytes j b ∙ f.long;
      so_far = λ i l.
          same_or i j (λ z. rw z (get_or-set_same bytes j b 0 (omega (arith, f.long)) ∙ e))
          (λ z. get_or-set_other bytes j i b 0 z ∙ f.so_far i (omega arith));
    }

-- the rest of a slice from a place on, or nothing past its end, reads as the slice
pub rest-reads : (s : List ℕ) (at : ℕ) (r : Option (Bor (List ℕ))) (e : Bor (List ℕ)) → e.now ≡ []
    → MatchOption r ((length s < at) ⊎ (length s < length s))
    (λ y. (at ≤ length s) × (length s ≤ length s) × (y.now ≡ slice_range s at (length s)) × (length y.now + at ≡ length s))
    → (j : ℕ) → get_or (unwrap_or r e).now j 0 ≡ get_or s (at + j) 0
rest-reads s at None e n h j =
    rw n (sym (get_or-eq_default s 0 {n = at + j} (elim h [ inl l ↦ omega arith | inr l ↦ omega arith ])))
rest-reads s at (Some y) e n h j =
    ap (λ (l : List ℕ). get_or l j 0) (h.2 ∙ take_all (length s - at) (drop at s) (omega (arith, length-drop at s))) ∙ get_or-drop at s j 0

-- ---- writing

pub put_some : (k : ℕ) (l : List ℕ) (at x : ℕ) → at + k ≤ length l → sets l at (bytes_n k x) ≡ put_n k l at x
unfolding put_n
put_some k l at x h = simp (le-leb (at + k) (length l) h)

-- the code's copy into a part of a slice is a run of bytes
pub part-put : (l : List ℕ) (at : ℕ) (bytes ys : List ℕ) → at ≤ length l → length bytes ≤ length l - at → ys ≡ bytes
    → put_mid at (at + length bytes - at) l ys ≡ put_bytes l at bytes
part-put l at bytes ys h g e =
    let within : at + length bytes ≤ length l = omega arith in
    rw (le-leb (at + length bytes) (length l) within)
    (put_mid-paste at (at + length bytes - at) l ys bytes (length bytes) e (omega arith) refl ∙ paste_all l at bytes (length bytes) refl
    ∙ sym (append_assoc (take at l) bytes _) ∙ sym (sets-eq bytes l at within))

-- ---- the two widths, written out: a, b, c, d are the bytes from the place on
module _ (l : List ℕ) (at a b : ℕ) (ea : a ≡ get_or l at 0) (eb : b ≡ get_or l (at + 1) 0) where
  first : get_or l (at + 0) 0 ≡ a
  first = rw add-zero (sym ea)

  pub get-two : a * 256 + b ≡ get_n 2 l at
  unfolding get_n
  get-two = omega (arith, first)

  pub get-four : (c d : ℕ) → c ≡ get_or l (at + 2) 0 → d ≡ get_or l (at + 3) 0 → ((a * 256 + b) * 256 + c) * 256 + d ≡ get_n 4 l at
  unfolding get_n
  get-four c d ec ed = omega (arith, first)
