-- A printed list is read back: behind the line of each entry stand the lines of the next, and each is read back; at the end nothing changes.
use Prim.Native.Nat.{ℕ, zero, suc, ◌+◌, ◌-◌, ◌*◌, ◌/◌, ◌≤◌, ◌<◌}
use native.Mathlib.Omega.{arith}
use mathlib.Core.Path.{◌≡◌, refl, sym, ap, ◌∙◌}
use mathlib.Core.Logic.{◌≢◌}
use mathlib.Core.Bool.{false}
use mathlib.Core.List.{List, [], ◌∷◌, ◌++◌, append_assoc, append-nil}
use lib.Dec.{eqb}
use lib.ListN.{length, get_or, set, take, drop, length-append, length-drop}
use lib.Seq.{sets, length-sets, length-take-le, take-add, take_all, get_or-drop, drop-append_seam}
use borrow.Author.Tests.{lt-ltb, le-leb, lt-leb, ne_eqb}
use Rattle.buffers.specs.Put.{rows}
use Rattle.compare.specs.Order.{fields, called, place_named}
use Rattle.lists.specs.declared.printing.Entry.{Entry}
use Rattle.lists.specs.Printing.{entry_text, entry_in, list_text}
use Rattle.lists.specs.Lines.{numbers_of, entry_stored, judged, line_after, lines, line_at, kept_line, Reading, turned, list_read}
use Rattle.lists.proofs.LinesLaws.{behind}
use Rattle.lists.proofs.EntryLaws.{Fitting, entry-long, entry-back, entry-begins}

abbrev at-line : ℕ → ℕ → ℕ → List ℕ → Reading
at-line at line to l = record { lines = lines at line to 0; list = l }

-- ---- one line

module _ (s r l : List ℕ) (at line to : ℕ) (x : Entry) where
  -- an entry's line is read, and its numbers are stored
  entry-turn : Fitting x → place_named (called x.object x.number x.field) ≢ fields → to + 5 ≤ length l → drop at s ≡ entry_text x ++ r
      → turned s (at-line at line to l) ≡ at-line (at + length (entry_text x)) (line_after line) (to + 5) (sets l to (numbers_of x))
  unfolding turned line_at kept_line entry_stored judged
  entry-turn fits is room e =
      let long : length s - at ≡ length (entry_text x ++ r) = sym (length-drop at s) ∙ ap length e in
      let some : at < length s = omega (arith, rw (length-append (entry_text x) r) at long, entry-long x) in
      let here : at + 0 ≡ at = omega arith in
      let begins : eqb (get_or s at 10) 10 ≡ false =
      ap (λ (b : ℕ). eqb b 10) (ap (λ (k : ℕ). get_or s k 10) (sym here) ∙ sym (get_or-drop at s 0 10) ∙ ap (λ (m : List ℕ). get_or m 0 10) e) ∙ entry-begins x r fits.object in
      rw (lt-leb (length s) at some, begins, entry-back s r at x fits e, ne_eqb _ fields is, le-leb (to + 5) (length l) room)

-- at the end all stays
end-turn : (s l : List ℕ) (at line to : ℕ) → length s ≤ at → turned s (at-line at line to l) ≡ at-line at line to l
unfolding turned line_at kept_line
end-turn s l at line to h = rw (le-leb (length s) at h)

-- ---- the texts from one on

module _ (f : ℕ → List ℕ) where
  -- k texts from the i-th on
  unfoldable tails : ℕ → ℕ → List ℕ
  tails zero i = []
  tails (suc k) i = f i ++ tails k (suc i)

  rows-tails : (k i : ℕ) → rows i f ++ tails k i ≡ rows (i + k) f
  unfolding rows tails
  rows-tails zero i = let e : i + 0 ≡ i = omega arith in append-nil (rows i f) ∙ ap (λ (n : ℕ). rows n f) (sym e)
  rows-tails (suc k) i =
      let e : suc i + k ≡ i + suc k = omega arith in
      sym (append_assoc (rows i f) (f i) (tails k (suc i))) ∙ rows-tails k (suc i) ∙ ap (λ (n : ℕ). rows n f) e

  -- behind i of them stands the next
  next-stands : (i m : ℕ) → i < m → drop (length (rows i f)) (rows m f) ≡ f i ++ tails (m - suc i) (suc i)
  unfolding tails
  next-stands i m h =
      let e : i + suc (m - suc i) ≡ m = omega arith in
      ap (drop (length (rows i f))) (ap (λ (n : ℕ). rows n f) (sym e) ∙ sym (rows-tails (suc (m - suc i)) i))
      ∙ drop-append_seam (rows i f) (tails (suc (m - suc i)) i)

  rows-more-long : (i : ℕ) → length (rows (suc i) f) ≡ length (rows i f) + length (f i)
  unfolding rows
  rows-more-long i = length-append (rows i f) (f i)

-- ---- five numbers more

sets_behind : (a b l : List ℕ) (p : ℕ) → sets l p (a ++ b) ≡ sets (sets l p a) (p + length a) b
sets_behind [] b l p = let e : p + 0 ≡ p = omega arith in ap (λ (k : ℕ). sets l k b) (sym e)
sets_behind (x ∷ a) b l p =
    let e : suc p + length a ≡ p + suc (length a) = omega arith in
    sets_behind a b (set l p x) (suc p) ∙ ap (λ (k : ℕ). sets (sets (set l p x) (suc p) a) k b) e

take-five : (l : List ℕ) → 5 ≤ length l → take 5 l ≡ get_or l 0 0 ∷ get_or l 1 0 ∷ get_or l 2 0 ∷ get_or l 3 0 ∷ get_or l 4 0 ∷ []
take-five [] h = absurd (omega arith)
take-five (a ∷ []) h = absurd (omega arith)
take-five (a ∷ b ∷ []) h = absurd (omega arith)
take-five (a ∷ b ∷ c ∷ []) h = absurd (omega arith)
take-five (a ∷ b ∷ c ∷ d ∷ []) h = absurd (omega arith)
take-five (a ∷ b ∷ c ∷ d ∷ e ∷ l) h = refl

module _ (l : List ℕ) (m i : ℕ) (size : length l ≡ m * 5) (h : i < m) where
  entry-numbers : numbers_of (entry_in l i) ≡ get_or l (i * 5) 0 ∷ get_or l (i * 5 + 1) 0 ∷ get_or l (i * 5 + 2) 0 ∷ get_or l (i * 5 + 3) 0 ∷ get_or l (i * 5 + 4) 0 ∷ []
  unfolding entry_in
  entry-numbers = let low : i < length l / 5 = omega arith in rw (lt-ltb i (length l / 5) low)

  five-more : take (suc i * 5) l ≡ take (i * 5) l ++ numbers_of (entry_in l i)
  five-more =
      let d = drop (i * 5) l in
      let long : length d ≡ length l - i * 5 = length-drop (i * 5) l in
      let e : suc i * 5 ≡ i * 5 + 5 = omega arith in
      let zero-on : i * 5 + 0 ≡ i * 5 = omega arith in
      let five : take 5 d ≡ numbers_of (entry_in l i) =
      take-five d (omega arith)
      ∙ rw (get_or-drop (i * 5) l 0 0, get_or-drop (i * 5) l 1 0, get_or-drop (i * 5) l 2 0, get_or-drop (i * 5) l 3 0, get_or-drop (i * 5) l 4 0, zero-on) (sym entry-numbers) in
      ap (λ (n : ℕ). take n l) e ∙ take-add (i * 5) 5 l ∙ ap (λ (v : List ℕ). take (i * 5) l ++ v) five

-- ---- the whole list

-- each of m entries is one of a field, with numbers of 32 bits
pub record Entries (l : List ℕ) (m : ℕ) : Type 0 where
  pub size : length l ≡ m * 5
  pub fits : (i : ℕ) → i < m → Fitting (entry_in l i)
  pub named : (i : ℕ) → i < m → place_named (called (entry_in l i).object (entry_in l i).number (entry_in l i).field) ≢ fields

module _ (l room : List ℕ) (m : ℕ) (es : Entries l m) (enough : length l ≤ length room) where
  abbrev line-text : ℕ → List ℕ
  line-text i = entry_text (entry_in l i)

  -- the number of the line behind i lines
  unfoldable line-number : ℕ → ℕ
  line-number zero = 1
  line-number (suc i) = line_after (line-number i)

  abbrev text : List ℕ
  text = rows m line-text

  -- what is known behind i entries
  abbrev after-entries : ℕ → Reading
  after-entries i = at-line (length (rows i line-text)) (line-number i) (i * 5) (sets room 0 (take (i * 5) l))

  take-size : (i : ℕ) → i ≤ m → length (take (i * 5) l) ≡ i * 5
  take-size i h = length-take-le (i * 5) l (omega (arith, es.size))

  reads_on : (i : ℕ) → i ≤ m → behind text room i ≡ after-entries i
  unfolding rows line-number
  reads_on zero h = refl
  reads_on (suc i) h =
      let before = reads_on i (omega arith) in
      let stored-room : length (sets room 0 (take (i * 5) l)) ≡ length room = length-sets room 0 (take (i * 5) l) in
      let space : i * 5 + 5 ≤ length (sets room 0 (take (i * 5) l)) = omega (arith, es.size, enough, stored-room) in
      let one =
      entry-turn text (tails line-text (m - suc i) (suc i)) (sets room 0 (take (i * 5) l)) (length (rows i line-text)) (line-number i) (i * 5) (entry_in l i) (es.fits i (omega arith)) (es.named i (omega arith)) space (next-stands line-text i m (omega arith)) in
      let to : i * 5 + 5 ≡ suc i * 5 = omega arith in
      let place : 0 + length (take (i * 5) l) ≡ i * 5 = omega (arith, take-size i (omega arith)) in
      let list : sets (sets room 0 (take (i * 5) l)) (i * 5) (numbers_of (entry_in l i)) ≡ sets room 0 (take (suc i * 5) l) =
      ap (λ (k : ℕ). sets (sets room 0 (take (i * 5) l)) k (numbers_of (entry_in l i))) (sym place)
      ∙ sym (sets_behind (take (i * 5) l) (numbers_of (entry_in l i)) room 0)
      ∙ ap (sets room 0) (sym (five-more l m i es.size (omega arith))) in
      let end : length (rows i line-text) + length (line-text i) ≡ length (rows (suc i) line-text) = sym (rows-more-long line-text i) in
      ap (turned text) before ∙ one ∙ rw (end, to, list)

  -- more turns than entries change nothing
  stays : (k : ℕ) → behind text room (m + k) ≡ after-entries m
  stays zero = let e : m + 0 ≡ m = omega arith in ap (behind text room) e ∙ reads_on m (omega arith)
  stays (suc k) =
      let e : m + suc k ≡ suc (m + k) = omega arith in
      ap (behind text room) e ∙ ap (turned text) (stays k) ∙ end-turn text (sets room 0 (take (m * 5) l)) (length text) (line-number m) (m * 5) (omega arith)

  -- each line has a byte
  lines_long : (i : ℕ) → i ≤ length (rows i line-text)
  unfolding rows
  lines_long zero = omega arith
  lines_long (suc i) = omega (arith, lines_long i, rows-more-long line-text i, entry-long (entry_in l i))

  -- a printed list, read into a room that is large enough, is the list
  pub list_back : ((list_read (list_text l) room).list ≡ sets room 0 l) × (((list_read (list_text l) room).lines.to ≡ length l) × ((list_read (list_text l) room).lines.code ≡ 0))
  unfolding list_read list_text
  list_back =
      let many : length l / 5 ≡ m = omega (arith, es.size) in
      let turns : m + (length text - m) ≡ length text = omega (arith, lines_long m) in
      let whole : take (m * 5) l ≡ l = take_all (m * 5) l (omega (arith, es.size)) in
      let all : behind text room (length text) ≡ after-entries m = ap (behind text room) (sym turns) ∙ stays (length text - m) in
      rw (many, all, whole) (refl, (sym es.size, refl))
