-- Texts one behind the other are one text.
use Prim.Native.Nat.{ℕ, zero, suc, ◌+◌, ◌≤◌, ◌<◌}
use native.Mathlib.Omega.{arith}
use native.Mathlib.Numerals.{add-one}
use mathlib.Core.Path.{◌≡◌, refl, sym, ap, subst, ◌∙◌}
use mathlib.Core.Bool.{cond}
use mathlib.Core.List.{List, [], ◌∷◌, ◌++◌}
use lib.Dec.{ltb}
use lib.ListN.{length, take, drop, set, length-set}
use lib.Seq.{sets, set_out, sets-eq, length-sets, take_at}
use borrow.Author.Tests.{lt-ltb, le-ltb, ltb-true, ltb-false}
use Rattle.kernel.proofs.Cases.{split, in-or-out}
use Rattle.buffers.specs.Put.{after, Put}

-- past the buffer's end nothing is written
pub sets-out : (bs l : List ℕ) (at : ℕ) → length l ≤ at → sets l at bs ≡ l
sets-out [] l at h = refl
sets-out (b ∷ bs) l at h = rw (set_out l at b h) (sets-out bs l (suc at) (omega arith))

after-out : (n at k : ℕ) → n ≤ at → after n at k ≡ at
unfolding after
after-out n at zero h = refl
after-out n at (suc k) h = rw (le-ltb at n h) (after-out n at k h)

after_none : (n at : ℕ) → after n at 0 ≡ at
unfolding after
after_none n at = refl

pub after-append : (n at : ℕ) (a b : List ℕ) → after n at (length (a ++ b)) ≡ after n (after n at (length a)) (length b)
unfolding after
after-append n at [] b = refl
after-append n at (x ∷ a) b = after-append n (cond (ltb at n) (at + 1) at) a b

after-in : (n at k : ℕ) → at < n → after n at (suc k) ≡ after n (suc at) k
unfolding after
after-in n at k h = rw (lt-ltb at n h, add-one at)

pub sets-append : (a b l : List ℕ) (at : ℕ) → sets l at (a ++ b) ≡ sets (sets l at a) (after (length l) at (length a)) b
sets-append [] b l at = let e : at ≡ after (length l) at 0 = sym (after_none (length l) at) in ap (λ (p : ℕ). sets l p b) e
sets-append (x ∷ a) b l at =
    split (ltb at (length l))
    (λ t.
    let h : at < length l = ltb-true at (length l) t in
    sets-append a b (set l at x) (suc at) ∙ ap (λ (p : ℕ). sets (sets (set l at x) (suc at) a) p b)
    (ap (λ (n : ℕ). after n (suc at) (length a)) (length-set l at x) ∙ sym (after-in (length l) at (length a) h)))
    (λ f.
    let h : length l ≤ at = ltb-false at (length l) f in
    sets-out (x ∷ a ++ b) l at h ∙ sym
    (ap (λ (m : List ℕ). sets m (after (length l) at (length (x ∷ a))) b) (sets-out (x ∷ a) l at h) ∙ ap (λ (p : ℕ). sets l p b) (after-out (length l) at (length (x ∷ a)) h)
    ∙ sets-out b l at h))

-- one text behind another
pub then : {l m k : List ℕ} {at r t : ℕ} {a b : List ℕ} → Put l m at r a → Put m k r t b → Put l k at t (a ++ b)
then {l} {m} {k} {at} {r} {t} {a} {b} p q =
    let long : length m ≡ length l = ap length p.buffer ∙ length-sets l at a in
    let step : k ≡ sets (sets l at a) (after (length l) at (length a)) b =
    q.buffer ∙ ap (λ (x : List ℕ). sets x r b) p.buffer ∙ ap (λ (x : ℕ). sets (sets l at a) x b) p.end in
    let far : t ≡ after (length l) (after (length l) at (length a)) (length b) =
    q.end ∙ ap (λ (x : ℕ). after x r (length b)) long ∙ ap (λ (x : ℕ). after (length l) x (length b)) p.end in
    record {
      buffer = step ∙ sym (sets-append a b l at);
      end = far ∙ sym (after-append (length l) at a b);
    }

-- no text
pub nothing : (l : List ℕ) (at : ℕ) → Put l l at at []
unfolding after
nothing l at = record { buffer = refl; end = refl }

-- a byte, in the two forms in which the code meets it
pub stored : (l : List ℕ) (at b : ℕ) → at < length l → Put l (set l at b) at (at + 1) (b ∷ [])
unfolding after
stored l at b h = record { buffer = refl; end = rw (lt-ltb at (length l) h) }

pub full : (l : List ℕ) (at b : ℕ) → length l ≤ at → Put l l at at (b ∷ [])
unfolding after
full l at b h = record { buffer = sym (set_out l at b h); end = rw (le-ltb at (length l) h) }

-- the place behind a text that fits
after-fits : (n at k : ℕ) → at + k ≤ n → after n at k ≡ at + k
unfolding after
after-fits n at zero h = omega arith
after-fits n at (suc k) h =
    let less : at < n = omega arith in
    rw (lt-ltb at n less) (after-fits n (at + 1) k (omega arith) ∙ (let e : at + 1 + k ≡ at + suc k = omega arith in e))

-- a place before the buffer's end says that all of the text fitted
room : (n at k : ℕ) → after n at k < n → at + k ≤ n
unfolding after
room n at zero h = omega arith
room n at (suc k) h =
    split (ltb at n)
    (λ t. let r : at + 1 + k ≤ n = room n (at + 1) k (rw t at h) in omega arith)
    (λ f.
    let past : n ≤ at = ltb-false at n f in
    let stays : after n at k ≡ at = after-out n at k past in
    let h' : after n at k < n = rw f at h in
    absurd (omega arith))

-- so what stands before it, from the start, is the text
pub whole-text : {l l' : List ℕ} {r : ℕ} {bs : List ℕ} → Put l l' 0 r bs → r < length l → take r l' ≡ bs
whole-text {l} {l'} {r} {bs} p h =
    let small : 0 + length bs ≤ length l = room (length l) 0 (length bs) (subst (λ (n : ℕ). n < length l) p.end h) in
    let end : r ≡ 0 + length bs = p.end ∙ after-fits (length l) 0 (length bs) small in
    let long : length bs ≡ r = omega arith in
    ap (λ (m : List ℕ). take r m) (p.buffer ∙ sets-eq bs l 0 small) ∙ take_at bs (drop (0 + length bs) l) r long

-- which is as long as it is shorter than the buffer
pub long-text : {l l' : List ℕ} {r : ℕ} {bs : List ℕ} → Put l l' 0 r bs → r < length l → length bs < length l
long-text {l} {l'} {r} {bs} p h =
    let small : 0 + length bs ≤ length l = room (length l) 0 (length bs) (subst (λ (n : ℕ). n < length l) p.end h) in
    let end : r ≡ 0 + length bs = p.end ∙ after-fits (length l) 0 (length bs) small in
    omega arith

-- a place at the buffer's end says that the text is not shorter
pub too_long : {l l' : List ℕ} {r : ℕ} {bs : List ℕ} → Put l l' 0 r bs → length l ≤ r → length l ≤ length bs
too_long {l} {l'} {r} {bs} p h =
    in-or-out (length bs) (length l)
    (λ small.
    let end : r ≡ 0 + length bs = p.end ∙ after-fits (length l) 0 (length bs) (omega arith) in
    omega arith)
    (λ far. far)

-- one text leaves one buffer and one place
pub put-one-way : {l a b : List ℕ} {at r t : ℕ} {bs : List ℕ} → Put l a at r bs → Put l b at t bs → (a ≡ b) × (r ≡ t)
put-one-way p q = (p.buffer ∙ sym q.buffer, p.end ∙ sym q.end)
