-- The list as numbers: an entry more goes behind those that stand there, and the rest of the room is as it was.
use Prim.Native.Nat.{ℕ, zero, suc, ◌+◌, ◌-◌, ◌*◌, ◌≤◌, ◌<◌}
use native.Mathlib.Nat.{add-zero, add-suc}
use native.Mathlib.Numerals.{add-one}
use native.Mathlib.Omega.{arith}
use mathlib.Core.Path.{◌≡◌, refl, sym, ap, ◌∙◌}
use mathlib.Core.Bool.{Bool, true, false, cond}
use mathlib.Core.List.{List, [], ◌∷◌, ◌++◌, append_assoc, append-nil}
use lib.Dec.{leb}
use lib.ListN.{length, drop, length-append, length-drop}
use lib.Seq.{sets, sets-eq, take-append_seam, drop-append-add, drop-drop}
use borrow.Author.Tests.{le-leb, lt-leb, eq-eqb, ne_eqb}
use Rattle.kernel.specs.Walk.{count_of}
use Rattle.kernel.proofs.Cases.{split, same_or, in-or-out}
use Rattle.compare.specs.declared.cells.Kept.{Kept}
use Rattle.compare.specs.Changes.{Change, differs, change_at, changes}
use Rattle.compare.specs.Order.{fields, named, value_of, old_of, reading_of}
use Rattle.compare.specs.Compared.{changed, entry, numbers, written, change_count, has_room, listing, listed, refused, compared, compared_list}

-- five numbers fit behind a place, asked of what is left there
pub room-behind : (n p : ℕ) → p ≤ n → leb 5 (n - p) ≡ leb (p + 5) n
room-behind n p h =
    in-or-out (n - p) 5
    (λ l. rw (lt-leb 5 (n - p) l, lt-leb (p + 5) n (omega arith)))
    (λ l. rw (le-leb 5 (n - p) l, le-leb (p + 5) n (omega arith)))

pub numbers-append : (l m : List Change) → numbers (l ++ m) ≡ numbers l ++ numbers m
unfolding numbers
numbers-append [] m = refl
numbers-append (e ∷ l) m = ap (λ (v : List ℕ). entry e ++ v) (numbers-append l m) ∙ sym (append_assoc (entry e) (numbers l) (numbers m))

-- a longer walk counts no less
pub count-grows : (f : ℕ → Bool) (k j : ℕ) → count_of f k ≤ count_of f (k + j)
unfolding count_of
count-grows f k zero = rw (add-zero k) (omega arith)
count-grows f k (suc j) = rw (add-suc k j) (omega (arith, count-grows f k j))

pub written-length : (l room : List ℕ) → length l ≤ length room → length (written l room) ≡ length room
written-length l room h =
    length-append l (drop (length l) room) ∙ ap (λ (n : ℕ). length l + n) (length-drop (length l) room) ∙ omega arith

-- numbers behind a list in a room
pub write-more : (l vs room : List ℕ) → length l + length vs ≤ length room → sets (written l room) (length l) vs ≡ written (l ++ vs) room
write-more l vs room h =
    let long = written-length l room (omega arith) in
    sets-eq vs (written l room) (length l) (omega arith)
    ∙ ap (λ (x : List ℕ). x ++ vs ++ drop (length l + length vs) (written l room)) (take-append_seam l (drop (length l) room))
    ∙ ap (λ (x : List ℕ). l ++ vs ++ x) (drop-append-add l (drop (length l) room) (length vs) ∙ drop-drop (length vs) (length l) room)
    ∙ ap (λ (n : ℕ). l ++ vs ++ drop n room) (sym (length-append l vs))

-- ---- in the form in which code meets them

module _ (a b : Kept) where
  abbrev test : ℕ → Bool
  test = differs (reading_of a) (reading_of b)

  -- one field more
  pub next-listed : (k : ℕ) → test k ≡ true
      → numbers (changed a b (k + 1)) ≡ numbers (changed a b k) ++ entry (change_at (reading_of a) (reading_of b) k)
  unfolding changed changes numbers
  next-listed k e =
      rw (add-one k, e)
      (numbers-append (changes (reading_of a) (reading_of b) k) (change_at (reading_of a) (reading_of b) k ∷ []))

  pub next-skipped : (k : ℕ) → test k ≡ false → numbers (changed a b (k + 1)) ≡ numbers (changed a b k)
  unfolding changed changes
  next-skipped k e = rw (add-one k, e) (ap numbers (append-nil (changes (reading_of a) (reading_of b) k)))

  pub numbers-length : (k : ℕ) → length (numbers (changed a b k)) ≡ change_count a b k * 5
  unfolding changed changes numbers count_of
  numbers-length zero = refl
  numbers-length (suc k) = go (test k) refl (numbers-length k)
    where
      go : (t : Bool) → test k ≡ t → length (numbers (changed a b k)) ≡ change_count a b k * 5
          → length (numbers (changed a b (suc k))) ≡ change_count a b (suc k) * 5
      go true e h =
          rw e
          (ap length (numbers-append (changes (reading_of a) (reading_of b) k) (change_at (reading_of a) (reading_of b) k ∷ []))
          ∙ length-append (numbers (changes (reading_of a) (reading_of b) k)) (entry (change_at (reading_of a) (reading_of b) k))
          ∙ omega arith)
      go false e h =
          rw e (ap (λ (l : List Change). length (numbers l)) (append-nil (changes (reading_of a) (reading_of b) k)) ∙ omega arith)

-- the entries of the first k of n fields stand in the list e, which ends at a place; the room that there was is enough for all
pub record OnList (a b : Kept) (n k : ℕ) (room e : List ℕ) (at : ℕ) : Type 0 where
  pub upto : k ≤ n
  pub enough : change_count a b n * 5 ≤ length room
  pub so_far : e ≡ written (numbers (changed a b k)) room
  pub ends : at ≡ change_count a b k * 5

module _ (a b : Kept) (n : ℕ) (room : List ℕ) where
  pub list-begins : (count : ℕ) → count ≡ change_count a b n → count * 5 ≤ length room → OnList a b n 0 room room 0
  unfolding numbers changed changes count_of
  list-begins count e h =
      let enough : change_count a b n * 5 ≤ length room = rw e at h in
      record { upto = omega arith; enough = enough; so_far = refl; ends = refl }

  module _ (k at : ℕ) (e : List ℕ) (o : OnList a b n k room e at) (l : k < n) where
    counted : change_count a b (k + 1) ≤ change_count a b n
    counted =
        let on : k + 1 + (n - (k + 1)) ≡ n = omega arith in
        rw on at (count-grows (differs (reading_of a) (reading_of b)) (k + 1) (n - (k + 1)))

    one_more : differs (reading_of a) (reading_of b) k ≡ true → change_count a b (k + 1) ≡ change_count a b k + 1
    unfolding count_of
    one_more t = rw (add-one k, t)

    no_more : differs (reading_of a) (reading_of b) k ≡ false → change_count a b (k + 1) ≡ change_count a b k
    unfolding count_of
    no_more t = rw (add-one k, t) (omega arith)

    behind : length (numbers (changed a b k)) ≡ at
    behind = numbers-length a b k ∙ sym o.ends

    long : change_count a b (k + 1) ≤ change_count a b n → length e ≡ length room
    long c =
        ap length o.so_far
        ∙ written-length (numbers (changed a b k)) room
        (omega (arith, o.enough, o.ends, behind, c, count-grows (differs (reading_of a) (reading_of b)) k 1))

    pub list-room : differs (reading_of a) (reading_of b) k ≡ true → at + 5 ≤ length e
    list-room t =
        omega (arith, o.enough, o.ends, counted, one_more t, long counted)

    pub list_puts : differs (reading_of a) (reading_of b) k ≡ true → (e2 : List ℕ)
        → e2 ≡ cond (leb (at + 5) (length e)) (sets e at ((named k).object ∷ (named k).number ∷ (named k).field ∷ old_of a k ∷ value_of b k ∷ [])) e
        → OnList a b n (k + 1) room e2 (at + 5)
    list_puts t e2 h =
        let vs = entry (change_at (reading_of a) (reading_of b) k) in
        let put : e2 ≡ sets e at vs = rw (le-leb (at + 5) (length e) (list-room t)) at h in
        let fits : length (numbers (changed a b k)) + 5 ≤ length room = omega (arith, list-room t, long counted, behind) in
        record {
          upto = omega arith;
          enough = o.enough;
          so_far =
              put
              ∙ ap (λ (x : List ℕ). sets x at vs) o.so_far
              ∙ ap (λ (p : ℕ). sets (written (numbers (changed a b k)) room) p vs) (sym behind)
              ∙ write-more (numbers (changed a b k)) vs room fits
              ∙ ap (λ (v : List ℕ). written v room) (sym (next-listed a b k t));
          ends = omega (arith, o.ends, one_more t);
        }

    pub list-skips : differs (reading_of a) (reading_of b) k ≡ false → OnList a b n (k + 1) room e at
    list-skips t =
        record {
          upto = omega arith;
          enough = o.enough;
          so_far = o.so_far ∙ ap (λ (v : List ℕ). written v room) (sym (next-skipped a b k t));
          ends = o.ends ∙ ap (λ (c : ℕ). c * 5) (sym (no_more t));
        }

-- what a comparison that was not refused comes to
pub compare-accepted : (a b : Kept) (l : List ℕ) → (compared a b (length l)).code ≡ 0
    → ((compared a b (length l)).entries ≡ change_count a b fields) × (compared_list a b l ≡ written (numbers (changed a b fields)) l)
unfolding compared compared_list listing listed
compare-accepted a b l =
    same_or (refused a b) 0
    (λ e. split (has_room a b fields (length l))
    (λ h. rw (eq-eqb (refused a b) 0 e, h) (λ z. (refl, refl)))
    (λ h. rw (eq-eqb (refused a b) 0 e, h) (λ z. absurd (omega arith))))
    (λ d. rw (ne_eqb (refused a b) 0 d) (λ z. absurd (d z)))
