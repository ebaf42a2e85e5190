-- Saved tables are the paper's: a file is its head and the bytes as they lie, what is loaded are the bytes behind the head, and what lies in
-- bytes is one set of tables, each number at the place where host/nil.h has it.
use Rattle.std.specs.Prelude.{ℕ, zero, suc, ◌+◌, ◌*◌, ◌/◌, ◌%◌, ◌≤◌, ◌<◌, ◌≡◌, ◌≢◌, ◌⊎◌, true, ◌||◌, eqb, ltb, length, get_or}
use Rattle.std.proofs.Common.{arith, sym, ap₂, ◌∙◌, subst, inl, inr, take-append-drop, length-take-le}
use Rattle.std.proofs.Math.Path.{refl, ap, subst⁻¹}
use mathlib.Core.List.{List, [], ◌∷◌, ◌++◌}
use Rattle.std.proofs.Math.ListN.{take, drop, length-drop}
use Rattle.std.proofs.Math.Seq.{take_all}
use borrow.Author.Tests.{lt-ltb, le-ltb, eq-eqb, ne_eqb, eqb-true}
use Rattle.kernel.specs.declared.clock.Clock.{Clock}
use Rattle.kernel.specs.Walk.{each}
use Rattle.kernel.proofs.Cases.{split, same_or, in-or-out, contrary}
use Rattle.library.specs.declared.tables.Tables.{Tables}
use Rattle.compare.specs.declared.cells.Kept.{Kept}
use Rattle.compare.specs.declared.checksum.Sums.{Sums}
use Rattle.compare.specs.Told.{Loaded}
use Rattle.compare.specs.Cells.{cell_count}
use Rattle.compare.specs.Bytes.{bytes_of}
use Rattle.compare.specs.Laid.{tables_length, clock_length, image_of, blank_kept, kept_of, tables_put, clock_put}
use Rattle.compare.specs.Checksum.{no_sums, added, checksum_of}
use Rattle.compare.specs.Saved.{head_length, body_length, file_length, head_of, file_of, save_code, saved, body_in, load_code, loaded}
use Rattle.compare.proofs.BytesLaws.{bytes_left, bytes-right, bytes-part}
use Rattle.compare.proofs.LaidLaws.{length-image, all_end}
use Rattle.compare.proofs.KeptLaws.{kept-held, kept-within, image-bytes, kept_again, tables-put-again, clock-put-again}
use Rattle.compare.proofs.SavedLaws.{saved-file, saved-as-it-lies, saved-loaded, loaded-saved, Accepted, accepts, accepted, accepted-kept}
use Rattle.host.specs.Comparing.{load_answer, loaded_tables, loaded_clock}
use Rattle.promises.specs.Paper.Saved.{
  AreBytes,
  BytesLent,
  four,
  four_of,
  Lies,
  last_sum,
  sum_of_sums,
  adler,
  saved_file,
  SaveOf,
  KeptSaveOf,
  FileRefused,
  FileSound,
  tables_in,
  clock_in,
  LoadOf,
  KeptLoadOf,
  HostTyped,
}
use Rattle.promises.specs.Paper.Fresh.{nothing}
use Rattle.promises.specs.Meant.Fresh.{fresh-tables, fresh-clock, same_tables, same-clock}
use Rattle.promises.specs.Meant.Lies.{four_is, lies-is, lies-one}
use Rattle.promises.specs.Meant.Typed.{typed-held, typed-within}

-- ---- numbers and their bytes

four_bytes : (x : ℕ) → bytes_of 4 x ≡ four_of x
unfolding bytes_of
four_bytes x =
    let third : x / 256 / 256 % 256 ≡ x / 65536 % 256 = omega arith in
    let fourth : x / 256 / 256 / 256 % 256 ≡ x / 16777216 % 256 = omega arith in
    ap₂ (λ (c d : ℕ). x % 256 ∷ x / 256 % 256 ∷ c ∷ d ∷ []) third fourth

-- ---- the checksum: remainders on the way change nothing

left-later : (m n : ℕ) → (m % 65521 + n) % 65521 ≡ (m + n) % 65521
left-later m n = omega arith

both_later : (m n : ℕ) → (m % 65521 + n % 65521) % 65521 ≡ (m + n) % 65521
both_later m n = omega arith

-- a walk's first turn taken first
each-shift : {A : Type 0} (n : ℕ) (f : ℕ → A → A) (k : A) → each (suc n) f k ≡ each n (λ i. f (suc i)) (f 0 k)
each-shift zero f k = refl
each-shift (suc n) f k = ap (f (suc n)) (each-shift n f k)

abbrev added_at : List ℕ → ℕ → Sums → Sums
added_at l i s = added s (get_or l i 0)

-- over the bytes l, where s1 and s2 have come to a and b
low-is : (l : List ℕ) (s : Sums) (a : ℕ) → s.low ≡ a % 65521 → (each (length l) (added_at l) s).low ≡ last_sum a l % 65521
low-is [] s a h = h
low-is (x ∷ l) s a h =
    ap (λ (r : Sums). r.low) (each-shift (length l) (added_at (x ∷ l)) s)
    ∙ low-is l (added s x) (a + x) (ap (λ (n : ℕ). (n + x) % 65521) h ∙ left-later a x)

high_is : (l : List ℕ) (s : Sums) (a b : ℕ) → s.low ≡ a % 65521 → s.high ≡ b % 65521
    → (each (length l) (added_at l) s).high ≡ (b + sum_of_sums a l) % 65521
high_is [] s a b h g = let none : b + 0 ≡ b = omega arith in rw none g
high_is (x ∷ l) s a b h g =
    let low : (added s x).low ≡ (a + x) % 65521 = ap (λ (n : ℕ). (n + x) % 65521) h ∙ left-later a x in
    let rest : b + (a + x) + sum_of_sums (a + x) l ≡ b + ((a + x) + sum_of_sums (a + x) l) = omega arith in
    ap (λ (r : Sums). r.high) (each-shift (length l) (added_at (x ∷ l)) s)
    ∙ high_is l (added s x) (a + x) (b + (a + x)) low (ap₂ (λ (m n : ℕ). (m + n) % 65521) g low ∙ both_later b (a + x))
    ∙ ap (λ (n : ℕ). n % 65521) rest

pub adler-is : (l : List ℕ) → checksum_of l ≡ adler l
unfolding checksum_of
adler-is l =
    let none : 0 + sum_of_sums 1 l ≡ sum_of_sums 1 l = omega arith in
    ap₂ (λ (a b : ℕ). b * 65536 + a) (low-is l no_sums 1 refl) (high_is l no_sums 1 0 refl refl ∙ ap (λ (n : ℕ). n % 65521) none)

-- ---- saving

head-is : (b : List ℕ) → head_of b ≡ four_of 3 ++ four_of (adler b)
head-is b = ap₂ (λ (x y : List ℕ). x ++ y) (four_bytes 3) (ap (bytes_of 4) (adler-is b) ∙ four_bytes (adler b))

file-is : (t c : List ℕ) → BytesLent 1572 t → BytesLent 8 c → file_of (kept_of t c) ≡ saved_file t c
file-is t c ht hc = saved-as-it-lies t c ht.bytes hc.bytes ht.size hc.size ∙ ap (λ (h : List ℕ). h ++ (t ++ c)) (head-is (t ++ c))

pub save-is : (t c l : List ℕ) → BytesLent 1572 t → BytesLent 8 c → SaveOf t c l (save_code l) (saved (kept_of t c) l)
unfolding saved
save-is t c l ht hc =
    in-or-out (length l) 1588
    (λ h. rw (lt-ltb (length l) file_length h) (SaveOf.no_room h))
    (λ h. rw (le-ltb (length l) file_length h, file-is t c ht hc) (SaveOf.saved h))

pub save-one : {t c l k m : List ℕ} {x y : ℕ} → SaveOf t c l x k → SaveOf t c l y m → (x ≡ y) × (k ≡ m)
save-one (SaveOf.no_room h) (SaveOf.no_room g) = (refl, refl)
save-one (SaveOf.no_room h) (SaveOf.saved g) = absurd (omega arith)
save-one (SaveOf.saved h) (SaveOf.no_room g) = absurd (omega arith)
save-one (SaveOf.saved h) (SaveOf.saved g) = (refl, refl)

-- ---- loading

-- behind the head of a whole file stands what the checksum is of
body_is : (f : List ℕ) → length f ≡ 1588 → body_in f ≡ drop 8 f
body_is f h = take_all body_length (drop head_length f) (omega (arith, length-drop head_length f))

sum_is : (f : List ℕ) → length f ≡ 1588 → checksum_of (body_in f) ≡ adler (drop 8 f)
sum_is f h = ap checksum_of (body_is f h) ∙ adler-is (drop 8 f)

sound-accepted : {f : List ℕ} → FileSound f → Accepted f
sound-accepted {f} h =
    record { layout_is = four_is f 0 ∙ h.layout; long = h.size; sum_is = four_is f 4 ∙ h.checksum ∙ sym (sum_is f h.size) }

accepted-sound : {f : List ℕ} → Accepted f → FileSound f
accepted-sound {f} h =
    record {
      layout = sym (four_is f 0) ∙ h.layout_is;
      size = h.long;
      checksum = sym (four_is f 4) ∙ h.sum_is ∙ sum_is f h.long;
    }

-- the paper's code is the meaning's
refused-code : {f : List ℕ} {n : ℕ} → FileRefused f n → load_code f ≡ n
unfolding load_code
refused-code {f} (FileRefused.no-layout h) = rw (lt-ltb (length f) 4 h)
refused-code {f} (FileRefused.other-layout h n) = rw (le-ltb (length f) 4 h, four_is f 0, ne_eqb (four f 0) 3 n)
refused-code {f} (FileRefused.too_short h e s) =
    rw (le-ltb (length f) 4 h, four_is f 0, eq-eqb (four f 0) 3 e, lt-ltb (length f) file_length s)
refused-code {f} (FileRefused.too_long e s) =
    rw (
      le-ltb (length f) 4 (omega arith),
      four_is f 0,
      eq-eqb (four f 0) 3 e,
      le-ltb (length f) file_length (omega arith),
      lt-ltb file_length (length f) s,
    )
refused-code {f} (FileRefused.damaged e s n) =
    rw (
      le-ltb (length f) 4 (omega arith),
      four_is f 0,
      eq-eqb (four f 0) 3 e,
      le-ltb (length f) file_length (omega arith),
      le-ltb file_length (length f) (omega arith),
      four_is f 4,
      sum_is f s,
      ne_eqb (four f 4) (adler (drop 8 f)) n,
    )

refused-some : {f : List ℕ} {n : ℕ} → FileRefused f n → n ≢ 0
refused-some (FileRefused.no-layout h) e = omega arith
refused-some (FileRefused.other-layout h n) e = omega arith
refused-some (FileRefused.too_short h l s) e = omega arith
refused-some (FileRefused.too_long l s) e = omega arith
refused-some (FileRefused.damaged l s n) e = omega arith

sound-code : {f : List ℕ} → FileSound f → load_code f ≡ 0
sound-code {f} h = accepts f (sound-accepted h)

-- a file is refused or it is not
by-file : {C : Type 0} (f : List ℕ) → ((n : ℕ) → FileRefused f n → C) → (FileSound f → C) → C
by-file f wrong right =
    in-or-out (length f) 4
    (λ h. wrong 11 (FileRefused.no-layout h))
    (λ h.
    same_or (four f 0) 3
    (λ e.
    in-or-out (length f) 1588
    (λ s. wrong 12 (FileRefused.too_short h e s))
    (λ s.
    in-or-out 1588 (length f)
    (λ l. wrong 13 (FileRefused.too_long e l))
    (λ l.
    let long : length f ≡ 1588 = omega arith in
    same_or (four f 4) (adler (drop 8 f))
    (λ a. right (record { layout = e; size = long; checksum = a }))
    (λ n. wrong 6 (FileRefused.damaged e long n)))))
    (λ n. wrong 11 (FileRefused.other-layout h n)))

one_code : {f : List ℕ} {n m : ℕ} → FileRefused f n → FileRefused f m → n ≡ m
one_code p q = sym (refused-code p) ∙ refused-code q

never_both : {C : Type 0} {f : List ℕ} {n : ℕ} → FileRefused f n → FileSound f → C
never_both p q = absurd (refused-some p (sym (refused-code p) ∙ sound-code q))

pub load_one : {f t c u v d e : List ℕ} {x y : ℕ} → LoadOf f t c x u d → LoadOf f t c y v e → (x ≡ y) × (u ≡ v) × (d ≡ e)
load_one (LoadOf.refused n p) (LoadOf.refused m q) = (one_code p q, refl, refl)
load_one (LoadOf.refused n p) (LoadOf.loaded q) = never_both p q
load_one (LoadOf.loaded p) (LoadOf.refused m q) = never_both q p
load_one (LoadOf.loaded p) (LoadOf.loaded q) = (refl, refl, refl)

-- whoever lends tables and a clock is refused for the file alone
module _ (f t c : List ℕ) (tables-long : length t ≡ 1572) (clock-long : length c ≡ 8) where
  answer-is : load_answer f t c ≡ load_code f
  unfolding load_answer
  answer-is =
      rw (le-ltb (length t) tables_length (omega arith), le-ltb (length c) clock_length (omega arith))
      (split (eqb (load_code f) 0) (λ e. rw e (sym (eqb-true (load_code f) 0 e))) (λ e. rw e))

module _ (f t c : List ℕ) (bytes : AreBytes f) (tables-long : length t ≡ 1572) (clock-long : length c ≡ 8) where
  answers-as : load_answer f t c ≡ load_code f
  answers-as = answer-is f t c tables-long clock-long

  refused-is : (n : ℕ) → FileRefused f n → LoadOf f t c (load_answer f t c) (loaded_tables f t c) (loaded_clock f t c)
  unfolding loaded_tables loaded_clock
  refused-is n p = rw (answers-as ∙ refused-code p, ne_eqb n 0 (refused-some p)) (LoadOf.refused n p)

  module _ (h : Accepted f) where
    abbrev tables-part : List ℕ
    tables-part = take 1572 (drop 8 f)

    abbrev clock-part : List ℕ
    clock-part = take 8 (drop 1580 f)

    tables-size : length tables-part ≡ 1572
    tables-size = length-take-le 1572 (drop 8 f) (omega (arith, length-drop 8 f, h.long))

    clock-size : length clock-part ≡ 8
    clock-size = length-take-le 8 (drop 1580 f) (omega (arith, length-drop 1580 f, h.long))

    tables-come : tables_put (loaded f).kept t ≡ tables-part
    tables-come =
        ap (λ (a : Kept). tables_put a t) (accepted-kept f h)
        ∙ tables-put-again tables-part clock-part (bytes-part 1572 8 f bytes) (bytes-part 8 1580 f bytes) tables-size clock-size t tables-long

    clock-comes : clock_put (loaded f).kept c ≡ drop 1580 f
    clock-comes =
        ap (λ (a : Kept). clock_put a c) (accepted-kept f h)
        ∙ clock-put-again tables-part clock-part (bytes-part 1572 8 f bytes) (bytes-part 8 1580 f bytes) tables-size clock-size c clock-long
        ∙ take_all 8 (drop 1580 f) (omega (arith, length-drop 1580 f, h.long))

    loaded-is : LoadOf f t c (load_answer f t c) (loaded_tables f t c) (loaded_clock f t c)
    unfolding loaded_tables loaded_clock
    loaded-is = rw (answers-as ∙ accepts f h, tables-come, clock-comes) (LoadOf.loaded (accepted-sound h))

  pub load_is : LoadOf f t c (load_answer f t c) (loaded_tables f t c) (loaded_clock f t c)
  load_is = by-file f refused-is (λ h. loaded-is (sound-accepted h))

-- ---- there and back

module _ (t c l u d : List ℕ) (ht : BytesLent 1572 t) (hc : BytesLent 8 c) (room : 1588 ≤ length l) (tables-long : length u ≡ 1572)
    (clock-long : length d ≡ 8) where
  abbrev written : List ℕ
  written = take 1588 (saved (kept_of t c) l)

  back : loaded written ≡ record { code = 0; kept = kept_of t c }
  back = saved-loaded (kept_of t c) (kept-held t c ht.bytes hc.bytes) (kept-within t c ht.bytes hc.bytes) l room

  code-back : load_code written ≡ 0
  unfolding loaded
  code-back = ap (λ (x : Loaded). x.code) back

  -- what was saved is loaded as the same bytes
  pub answer_back : load_answer written u d ≡ 0
  answer_back = answer-is written u d tables-long clock-long ∙ code-back

  pub tables-back : loaded_tables written u d ≡ t
  unfolding loaded_tables
  tables-back =
      rw answer_back
      (ap (λ (x : Loaded). tables_put x.kept u) back ∙ tables-put-again t c ht.bytes hc.bytes ht.size hc.size u tables-long)

  pub clock-back : loaded_clock written u d ≡ c
  unfolding loaded_clock
  clock-back =
      rw answer_back
      (ap (λ (x : Loaded). clock_put x.kept d) back ∙ clock-put-again t c ht.bytes hc.bytes ht.size hc.size d clock-long)

-- and what was loaded is saved as the same file
module _ (f t c : List ℕ) (bytes : AreBytes f) (tables-long : length t ≡ 1572) (clock-long : length c ≡ 8) (done : load_answer f t c ≡ 0) where
  taken : load_code f ≡ 0
  taken = sym (answer-is f t c tables-long clock-long) ∙ done

  kept-came : kept_of (loaded_tables f t c) (loaded_clock f t c) ≡ (loaded f).kept
  unfolding loaded_tables loaded_clock
  kept-came =
      let h : Accepted f = accepted f taken in
      let all : take 8 (drop 1580 f) ≡ drop 1580 f = take_all 8 (drop 1580 f) (omega (arith, length-drop 1580 f, h.long)) in
      rw (done, tables-come f t c bytes tables-long clock-long h, clock-comes f t c bytes tables-long clock-long h)
      (sym (accepted-kept f h ∙ ap (kept_of (take 1572 (drop 8 f))) all))

  pub file-back : (l : List ℕ) → 1588 ≤ length l → saved (kept_of (loaded_tables f t c) (loaded_clock f t c)) l ≡ f ++ drop 1588 l
  unfolding loaded
  file-back l room =
      ap (λ (a : Kept). saved a l) kept-came
      ∙ saved-file (loaded f).kept l room
      ∙ ap (λ (x : List ℕ). x ++ drop 1588 l) (loaded-saved f bytes taken)

-- ---- a shorter target

short-tests : (m n : ℕ) → (m < 1572) ⊎ (n < 8) → ltb m tables_length || ltb n clock_length ≡ true
short-tests m n (inl h) = rw (lt-ltb m tables_length h)
short-tests m n (inr h) = split (ltb m tables_length) (λ e. rw e) (λ e. rw (e, lt-ltb n clock_length h))

module _ (f t c : List ℕ) (short : (length t < 1572) ⊎ (length c < 8)) where
  pub short-answer : load_answer f t c ≢ 0
  unfolding load_answer
  short-answer e =
      split (eqb (load_code f) 0)
      (λ z. absurd (omega (arith, rw (z, short-tests (length t) (length c) short) at e)))
      (λ z. contrary (eq-eqb (load_code f) 0 (rw z at e)) z)

  pub short-tables : loaded_tables f t c ≡ t
  unfolding loaded_tables
  short-tables = rw (ne_eqb (load_answer f t c) 0 short-answer)

  pub short-clock : loaded_clock f t c ≡ c
  unfolding loaded_clock
  short-clock = rw (ne_eqb (load_answer f t c) 0 short-answer)

-- ---- tables and clock as a program has them

-- those that lie in bytes are what is read of these
module _ {t c : List ℕ} {u : Tables} {d : Clock} (ht : BytesLent 1572 t) (hc : BytesLent 8 c) (x : Lies t c u d) where
  kept_read : record { tables = u; clock = d } ≡ kept_of t c
  kept_read =
      let same = lies-one x (lies-is t c ht.bytes hc.bytes) in
      ap (λ (v : Tables). both v d) same.0 ∙ ap (both (kept_of t c).tables) same.1
    where
      both : Tables → Clock → Kept
      both v e = record { tables = v; clock = e }

  pub save-read : (l : List ℕ) → SaveOf t c l (save_code l) (saved (record { tables = u; clock = d }) l)
  save-read l = subst⁻¹ (λ (a : Kept). SaveOf t c l (save_code l) (saved a l)) kept_read (save-is t c l ht hc)

module _ (u : Tables) (d : Clock) (h : HostTyped u d) where
  abbrev a : Kept
  a = record { tables = u; clock = d }

  abbrev image : List ℕ
  image = image_of a cell_count

  image-long : length image ≡ 1580
  image-long = length-image a cell_count ∙ all_end

  abbrev image-tables : List ℕ
  image-tables = take 1572 image

  abbrev image-clock : List ℕ
  image-clock = drop 1572 image

  parts : image-tables ++ image-clock ≡ image
  parts = take-append-drop 1572 image

  parts-bytes : AreBytes (image-tables ++ image-clock)
  parts-bytes = subst⁻¹ AreBytes parts (image-bytes a cell_count)

  image-tables-lent : BytesLent 1572 image-tables
  image-tables-lent =
      record { size = length-take-le 1572 image (omega (arith, image-long)); bytes = bytes_left image-tables image-clock parts-bytes }

  image-clock-lent : BytesLent 8 image-clock
  image-clock-lent =
      record {
        size = length-drop 1572 image ∙ omega (arith, image-long);
        bytes = bytes-right image-tables image-clock parts-bytes;
      }

  -- whatever is of a host's types lies in bytes
  image-lies : Lies image-tables image-clock u d
  image-lies =
      subst (λ (x : Kept). Lies image-tables image-clock x.tables x.clock)
      (kept_again a (typed-held u d h) (typed-within u d h) image-tables image-clock image-tables-lent.size parts)
      (lies-is image-tables image-clock image-tables-lent.bytes image-clock-lent.bytes)

  pub kept-save-is : (l : List ℕ) → KeptSaveOf u d l (save_code l) (saved a l)
  kept-save-is l =
      record {
        tables = image-tables;
        clock = image-clock;
        tables-lent = image-tables-lent;
        clock-lent = image-clock-lent;
        lies = image-lies;
        file = save-read image-tables-lent image-clock-lent image-lies l;
      }

-- each says the same of the bytes: two files of the same tables coincide
pub kept-save-one : {u : Tables} {d : Clock} {l k m : List ℕ} {x y : ℕ} → KeptSaveOf u d l x k → KeptSaveOf u d l y m → (x ≡ y) × (k ≡ m)
kept-save-one {u} {d} {l} p q =
    let a = save-one p.file (save-read p.tables-lent p.clock-lent p.lies l) in
    let b = save-one q.file (save-read q.tables-lent q.clock-lent q.lies l) in
    (a.0 ∙ sym b.0, a.1 ∙ sym b.1)

-- a file loaded by a program
module _ (f : List ℕ) (bytes : AreBytes f) where
  kept-refused : (n : ℕ) → FileRefused f n → KeptLoadOf f (loaded f).code (loaded f).kept.tables (loaded f).kept.clock
  unfolding loaded blank_kept
  kept-refused n p =
      rw (refused-code p, ne_eqb n 0 (refused-some p)) (KeptLoadOf.refused n p (fresh-tables nothing (omega arith)) (fresh-clock 0))

  code_is : (loaded f).code ≡ load_code f
  unfolding loaded
  code_is = refl

  kept-sound : FileSound f → KeptLoadOf f (loaded f).code (loaded f).kept.tables (loaded f).kept.clock
  kept-sound h =
      let clock : take 8 (drop 1580 f) ≡ clock_in f = take_all 8 (drop 1580 f) (omega (arith, length-drop 1580 f, h.size)) in
      let lies : Lies (tables_in f) (take 8 (drop 1580 f)) (loaded f).kept.tables (loaded f).kept.clock =
      subst⁻¹ (λ (x : Kept). Lies (tables_in f) (take 8 (drop 1580 f)) x.tables x.clock) (accepted-kept f (sound-accepted h))
      (lies-is (tables_in f) (take 8 (drop 1580 f)) (bytes-part 1572 8 f bytes) (bytes-part 8 1580 f bytes)) in
      let there : Lies (tables_in f) (clock_in f) (loaded f).kept.tables (loaded f).kept.clock =
      subst (λ (y : List ℕ). Lies (tables_in f) y (loaded f).kept.tables (loaded f).kept.clock) clock lies in
      subst⁻¹ (λ (n : ℕ). KeptLoadOf f n (loaded f).kept.tables (loaded f).kept.clock) (code_is ∙ sound-code h) (KeptLoadOf.loaded h there)

  pub kept-load-is : KeptLoadOf f (loaded f).code (loaded f).kept.tables (loaded f).kept.clock
  kept-load-is = by-file f kept-refused kept-sound

  pub kept-file-back : (loaded f).code ≡ 0 → (l : List ℕ) → 1588 ≤ length l → saved (loaded f).kept l ≡ f ++ drop 1588 l
  kept-file-back done l room = saved-file (loaded f).kept l room ∙ ap (λ (x : List ℕ). x ++ drop 1588 l) (loaded-saved f bytes done)

pub kept-load-one : {f : List ℕ} {u v : Tables} {d e : Clock} {x y : ℕ} → KeptLoadOf f x u d → KeptLoadOf f y v e → (x ≡ y) × (u ≡ v) × (d ≡ e)
kept-load-one (KeptLoadOf.refused n p a b) (KeptLoadOf.refused m q c d) = (one_code p q, same_tables a c, same-clock b d)
kept-load-one (KeptLoadOf.refused n p a b) (KeptLoadOf.loaded q c) = never_both p q
kept-load-one (KeptLoadOf.loaded p a) (KeptLoadOf.refused m q c d) = never_both q p
kept-load-one (KeptLoadOf.loaded p a) (KeptLoadOf.loaded q b) = let same = lies-one a b in (refl, same.0, same.1)
