-- A store into a row shows at its own place and at no other; and so into a table of rows, where place k is number k % w of row k / w.
use Prim.Native.Nat.{ℕ, zero, suc, ◌+◌, ◌-◌, ◌*◌, ◌/◌, ◌%◌, ◌≤◌, ◌<◌}
use native.Mathlib.Nat.{mod-eq_of_lt, mod-lt, div-add-mod', div-lt_iff_lt-mul}
use native.Mathlib.Omega.{arith}
use mathlib.Core.Path.{◌≡◌, refl, sym, ap, ◌∙◌, subst⁻¹}
use mathlib.Core.Logic.{◌≢◌}
use mathlib.Core.List.{List, [], ◌∷◌}
use lib.IntN.{ℤ}
use lib.ListN.{length, get_or, set, length-set}
use lib.Seq.{get_or-set_same, get_or-set_other}
use mir.Syntax.{w32}
use mir.Val.{to_z, of_z}
use mir.Facts.{of_z-to_z, sfits_to_z}
use Rattle.kernel.proofs.Signed.{signed}
use borrow.Author.Tests.{lt-ltb, le-ltb, eq-eqb, ne_eqb}
use Rattle.kernel.proofs.Cases.{same_or, in-or-out}
use Rattle.kernel.specs.declared.records.Thread.{Thread}
use Rattle.kernel.specs.declared.records.Words.{Words}
use Rattle.kernel.specs.declared.clock.Clock.{Clock}
use Rattle.library.specs.declared.ring.Positions.{Positions}
use Rattle.library.specs.declared.sizes.Sizes.{Sizes}
use Rattle.library.specs.declared.tables.Mailbox.{Mailbox}
use Rattle.library.specs.declared.tables.Pool.{Pool}
use Rattle.library.specs.Mailbox.{with_message}
use Rattle.compare.specs.Cells.{
  thread_cells,
  thread_of,
  box_head,
  with_head,
  sizes_head,
  with_sizes_head,
  with_slots,
  thread_cell,
  thread_with,
  box_cell,
  box_with,
  pool_cell,
  pool_with,
  word_cell,
  word_with,
  size_cell,
  size_with,
  clock_cell,
  clock_with,
}
use Rattle.compare.specs.Held.{words, halves, bytes, thread_limit, box_limit, pool_limit, Within, Signed, HeldThread, HeldBox, HeldPool, HeldSizes}

-- a number for each index below n, in order
abbrev pub numbered : (ℕ → ℕ) → ℕ → List ℕ
numbered f zero = []
numbered f (suc n) = f 0 ∷ numbered (λ i. f (suc i)) n

pub as-numbered : (n : ℕ) (v : List ℕ) → length v ≡ n → v ≡ numbered (λ i. get_or v i 0) n
as-numbered zero [] e = refl
as-numbered zero (x ∷ v) e = absurd (omega arith)
as-numbered (suc n) [] e = absurd (omega arith)
as-numbered (suc n) (x ∷ v) e = ap (λ (l : List ℕ). x ∷ l) (as-numbered n v (omega arith))

-- bits of 32 are the same with a sign and back
pub bits_back : (n : ℕ) → n < words → of_z w32 (to_z w32 n) ≡ n
bits_back n h = of_z-to_z {w = w32} (record { fits = h })

pub bits-signed : (n : ℕ) → n < words → Signed (to_z w32 n)
bits-signed n h = (sfits_to_z {w = w32} (record { fits = h })).sfits

-- one number set within its limit
pub set-within : (n : ℕ) (limit : ℕ → ℕ) (v : List ℕ) → length v ≡ n → Within n limit v → (f x : ℕ) → f < n → x < limit f → Within n limit (set v f x)
set-within n limit v e h f x l s g b =
    same_or g f (λ w. rw (w, get_or-set_same v f x 0 (omega arith)) s) (λ w. rw (get_or-set_other v f g x 0 w) (h g b))

-- ---- rows that are lists of numbers

thread-back : (v : List ℕ) → length v ≡ 14 → Within 14 thread_limit v → thread_cells (thread_of v) ≡ v
thread-back v e h =
    let h0 = h 0 (omega arith) in
    let h1 = h 1 (omega arith) in
    let h5 = h 5 (omega arith) in
    let h6 = h 6 (omega arith) in
    let h7 = h 7 (omega arith) in
    let h10 = h 10 (omega arith) in
    rw (mod-eq_of_lt h0, mod-eq_of_lt h1, bits_back (get_or v 5 0) h5, mod-eq_of_lt h6, mod-eq_of_lt h7, bits_back (get_or v 10 0) h10)
    (sym (as-numbered 14 v e))

module _ (t : Thread) (held : HeldThread t) (f x : ℕ) (l : f < 14) (s : x < thread_limit f) where
  thread-set : thread_cells (thread_with t f x) ≡ set (thread_cells t) f x
  unfolding thread_with
  thread-set = thread-back (set (thread_cells t) f x) (length-set (thread_cells t) f x) (set-within 14 thread_limit (thread_cells t) refl held.cells f x l s)

  pub thread-own : thread_cell (thread_with t f x) f ≡ x
  unfolding thread_cell
  thread-own = ap (λ (v : List ℕ). get_or v f 0) thread-set ∙ get_or-set_same (thread_cells t) f x 0 l

  pub thread-other : (g : ℕ) → g ≢ f → thread_cell (thread_with t f x) g ≡ thread_cell t g
  unfolding thread_cell
  thread-other g d = ap (λ (v : List ℕ). get_or v g 0) thread-set ∙ get_or-set_other (thread_cells t) f g x 0 d

  pub thread-held : HeldThread (thread_with t f x)
  unfolding thread_with
  thread-held =
      let within = set-within 14 thread_limit (thread_cells t) refl held.cells f x l s in
      record {
        cells = subst⁻¹ (Within 14 thread_limit) thread-set within;
        message = bits-signed (get_or (set (thread_cells t) f x) 5 0) (within 5 (omega arith));
        answer = bits-signed (get_or (set (thread_cells t) f x) 10 0) (within 10 (omega arith));
      }

-- a thread is told by its numbers
pub thread-told : (t : Thread) → HeldThread t → thread_of (thread_cells t) ≡ t
thread-told t h =
    rw (
      mod-eq_of_lt (h.cells 0 (omega arith)),
      mod-eq_of_lt (h.cells 1 (omega arith)),
      mod-eq_of_lt (h.cells 6 (omega arith)),
      mod-eq_of_lt (h.cells 7 (omega arith)),
      signed {z = t.message} h.message,
      signed {z = t.answer.message} h.answer,
    )

-- a mailbox: its head, or its messages
head-back : (b : Mailbox) (v : List ℕ) → length v ≡ 4 → Within 4 (λ f. halves) v → box_head (with_head b v) ≡ v
head-back b v e h =
    rw (mod-eq_of_lt (h 0 (omega arith)), mod-eq_of_lt (h 1 (omega arith)), mod-eq_of_lt (h 2 (omega arith)), mod-eq_of_lt (h 3 (omega arith)))
    (sym (as-numbered 4 v e))

module _ (b : Mailbox) (held : HeldBox b) (f x : ℕ) (l : f < 20) (s : x < box_limit f) where
  in_head : f < 4 → x < halves
  in_head h = rw (lt-ltb f 4 h) at s

  head-set : (h : f < 4) → box_head (with_head b (set (box_head b) f x)) ≡ set (box_head b) f x
  head-set h =
      head-back b (set (box_head b) f x) (length-set (box_head b) f x) (set-within 4 (λ f. halves) (box_head b) refl held.head f x h (in_head h))

  box-head : f < 4 → box_with b f x ≡ with_head b (set (box_head b) f x)
  unfolding box_with
  box-head h = rw (lt-ltb f 4 h)

  box-tail : 4 ≤ f → box_with b f x ≡ with_message b (f - 4) x
  unfolding box_with
  box-tail h = rw (le-ltb f 4 h)

  pub box-own : box_cell (box_with b f x) f ≡ x
  unfolding box_cell box_with
  box-own =
      in-or-out f 4
      (λ h.
      ap (λ (y : Mailbox). box_cell y f) (box-head h)
      ∙ rw (lt-ltb f 4 h) (ap (λ (v : List ℕ). get_or v f 0) (head-set h) ∙ get_or-set_same (box_head b) f x 0 h))
      (λ h. rw (le-ltb f 4 h) (get_or-set_same b.messages (f - 4) x 0 (omega (arith, held.messages))))

  pub box-other : (g : ℕ) → g ≢ f → box_cell (box_with b f x) g ≡ box_cell b g
  unfolding box_cell box_with
  box-other g d =
      in-or-out f 4
      (λ h.
      ap (λ (y : Mailbox). box_cell y g) (box-head h)
      ∙ in-or-out g 4
      (λ i. rw (lt-ltb g 4 i) (ap (λ (v : List ℕ). get_or v g 0) (head-set h) ∙ get_or-set_other (box_head b) f g x 0 d))
      (λ i. rw (le-ltb g 4 i)))
      (λ h.
      ap (λ (y : Mailbox). box_cell y g) (box-tail h)
      ∙ in-or-out g 4 (λ i. rw (lt-ltb g 4 i)) (λ i. rw (le-ltb g 4 i) (get_or-set_other b.messages (f - 4) (g - 4) x 0 (omega arith))))

  pub box-held : HeldBox (box_with b f x)
  unfolding box_with
  box-held =
      in-or-out f 4
      (λ h. rw (lt-ltb f 4 h)
      (record {
        head =
            subst⁻¹ (Within 4 (λ f. halves)) (head-set h)
            (set-within 4 (λ f. halves) (box_head b) refl held.head f x h (in_head h));
        messages = held.messages;
      }))
      (λ h. rw (le-ltb f 4 h) (record { head = held.head; messages = length-set b.messages (f - 4) x ∙ held.messages }))

-- a pool: its length, its list, or its marks
module _ (p : Pool) (held : HeldPool p) (f x : ℕ) (l : f < 65) (s : x < pool_limit f) where
  pub pool-own : pool_cell (pool_with p f x) f ≡ x
  unfolding pool_cell pool_with
  pool-own =
      same_or f 0
      (λ h. let small : x < halves = rw (eq-eqb f 0 h) at s in rw (eq-eqb f 0 h) (mod-eq_of_lt small))
      (λ h.
      let small : x < bytes = rw (ne_eqb f 0 h) at s in
      rw (ne_eqb f 0 h, mod-eq_of_lt small)
      (in-or-out f 33
      (λ i. rw (lt-ltb f 33 i) (get_or-set_same p.list (f - 1) x 0 (omega (arith, held.list))))
      (λ i. rw (le-ltb f 33 i) (get_or-set_same p.marks (f - 33) x 0 (omega (arith, held.marks))))))

  pub pool-other : (g : ℕ) → g ≢ f → pool_cell (pool_with p f x) g ≡ pool_cell p g
  unfolding pool_cell pool_with
  pool-other g d =
      same_or f 0
      (λ h. rw (eq-eqb f 0 h, ne_eqb g 0 (λ e. d (e ∙ sym h))))
      (λ h. rw (ne_eqb f 0 h)
      (in-or-out f 33
      (λ i. rw (lt-ltb f 33 i)
      (same_or g 0 (λ k. rw (eq-eqb g 0 k))
      (λ k. rw (ne_eqb g 0 k)
      (in-or-out g 33 (λ m. rw (lt-ltb g 33 m) (get_or-set_other p.list (f - 1) (g - 1) (x % 256) 0 (omega arith))) (λ m. rw (le-ltb g 33 m))))))
      (λ i. rw (le-ltb f 33 i)
      (same_or g 0 (λ k. rw (eq-eqb g 0 k))
      (λ k. rw (ne_eqb g 0 k)
      (in-or-out g 33 (λ m. rw (lt-ltb g 33 m)) (λ m. rw (le-ltb g 33 m) (get_or-set_other p.marks (f - 33) (g - 33) (x % 256) 0 (omega arith)))))))))

  pub pool-held : HeldPool (pool_with p f x)
  unfolding pool_with
  pool-held =
      same_or f 0
      (λ h. rw (eq-eqb f 0 h) (record { list = held.list; marks = held.marks }))
      (λ h. rw (ne_eqb f 0 h)
      (in-or-out f 33
      (λ i. rw (lt-ltb f 33 i) (record { list = length-set p.list (f - 1) (x % 256) ∙ held.list; marks = held.marks }))
      (λ i. rw (le-ltb f 33 i) (record { list = held.list; marks = length-set p.marks (f - 33) (x % 256) ∙ held.marks }))))

-- the words: the ready word, those of the places, the filling
module _ (w : Words) (held : length w.waiting ≡ 36) (f x : ℕ) (l : f < 38) (s : x < halves) where
  pub word-own : word_cell (word_with w f x) f ≡ x
  unfolding word_cell word_with
  word-own =
      rw (mod-eq_of_lt s)
      (same_or f 0 (λ h. rw (eq-eqb f 0 h))
      (λ h. rw (ne_eqb f 0 h)
      (in-or-out f 37 (λ i. rw (lt-ltb f 37 i) (get_or-set_same w.waiting (f - 1) x 0 (omega arith))) (λ i. rw (le-ltb f 37 i)))))

  pub word-other : (g : ℕ) → g < 38 → g ≢ f → word_cell (word_with w f x) g ≡ word_cell w g
  unfolding word_cell word_with
  word-other g b d =
      same_or f 0 (λ h. rw (eq-eqb f 0 h, ne_eqb g 0 (λ e. d (e ∙ sym h))))
      (λ h. rw (ne_eqb f 0 h)
      (in-or-out f 37
      (λ i. rw (lt-ltb f 37 i)
      (same_or g 0 (λ k. rw (eq-eqb g 0 k))
      (λ k. rw (ne_eqb g 0 k)
      (in-or-out g 37 (λ m. rw (lt-ltb g 37 m) (get_or-set_other w.waiting (f - 1) (g - 1) (x % 65536) 0 (omega arith))) (λ m. rw (le-ltb g 37 m))))))
      (λ i. rw (le-ltb f 37 i)
      (same_or g 0 (λ k. rw (eq-eqb g 0 k)) (λ k. rw (ne_eqb g 0 k) (rw (lt-ltb g 37 (omega arith))))))))

  pub word_held : length (word_with w f x).waiting ≡ 36
  unfolding word_with
  word_held =
      same_or f 0 (λ h. rw (eq-eqb f 0 h) held)
      (λ h. rw (ne_eqb f 0 h)
      (in-or-out f 37 (λ i. rw (lt-ltb f 37 i) (length-set w.waiting (f - 1) (x % 65536) ∙ held)) (λ i. rw (le-ltb f 37 i) held)))

-- the sizes: their head, or the slots
sizes-back : (z : Sizes) (v : List ℕ) → length v ≡ 6 → Within 6 (λ f. halves) v → sizes_head (with_sizes_head z v) ≡ v
sizes-back z v e h =
    rw (
      mod-eq_of_lt (h 0 (omega arith)),
      mod-eq_of_lt (h 1 (omega arith)),
      mod-eq_of_lt (h 2 (omega arith)),
      mod-eq_of_lt (h 3 (omega arith)),
      mod-eq_of_lt (h 4 (omega arith)),
      mod-eq_of_lt (h 5 (omega arith)),
    )
    (sym (as-numbered 6 v e))

module _ (z : Sizes) (held : HeldSizes z) (f x : ℕ) (l : f < 10) (s : x < halves) where
  sizes-set : (h : f < 6) → sizes_head (with_sizes_head z (set (sizes_head z) f x)) ≡ set (sizes_head z) f x
  sizes-set h =
      sizes-back z (set (sizes_head z) f x) (length-set (sizes_head z) f x) (set-within 6 (λ f. halves) (sizes_head z) refl held.head f x h s)

  size-head : f < 6 → size_with z f x ≡ with_sizes_head z (set (sizes_head z) f x)
  unfolding size_with
  size-head h = rw (lt-ltb f 6 h)

  size-tail : 6 ≤ f → size_with z f x ≡ with_slots z (f - 6) (x % 65536)
  unfolding size_with
  size-tail h = rw (le-ltb f 6 h)

  pub size-own : size_cell (size_with z f x) f ≡ x
  unfolding size_cell size_with
  size-own =
      in-or-out f 6
      (λ h.
      ap (λ (y : Sizes). size_cell y f) (size-head h)
      ∙ rw (lt-ltb f 6 h) (ap (λ (v : List ℕ). get_or v f 0) (sizes-set h) ∙ get_or-set_same (sizes_head z) f x 0 h))
      (λ h. rw (le-ltb f 6 h, mod-eq_of_lt s) (get_or-set_same z.slots (f - 6) x 0 (omega (arith, held.slots))))

  pub size-other : (g : ℕ) → g ≢ f → size_cell (size_with z f x) g ≡ size_cell z g
  unfolding size_cell size_with
  size-other g d =
      in-or-out f 6
      (λ h.
      ap (λ (y : Sizes). size_cell y g) (size-head h)
      ∙ in-or-out g 6
      (λ i. rw (lt-ltb g 6 i) (ap (λ (v : List ℕ). get_or v g 0) (sizes-set h) ∙ get_or-set_other (sizes_head z) f g x 0 d))
      (λ i. rw (le-ltb g 6 i)))
      (λ h.
      ap (λ (y : Sizes). size_cell y g) (size-tail h)
      ∙ in-or-out g 6 (λ i. rw (lt-ltb g 6 i)) (λ i. rw (le-ltb g 6 i) (get_or-set_other z.slots (f - 6) (g - 6) (x % 65536) 0 (omega arith))))

  pub size-held : HeldSizes (size_with z f x)
  unfolding size_with
  size-held =
      in-or-out f 6
      (λ h. rw (lt-ltb f 6 h)
      (record {
        head = subst⁻¹ (Within 6 (λ f. halves)) (sizes-set h) (set-within 6 (λ f. halves) (sizes_head z) refl held.head f x h s);
        slots = held.slots;
      }))
      (λ h. rw (le-ltb f 6 h) (record { head = held.head; slots = length-set z.slots (f - 6) (x % 65536) ∙ held.slots }))

-- the clock
module _ (c : Clock) (f x : ℕ) (l : f < 2) where
  pub clock-own : clock_cell (clock_with c f x) f ≡ x
  unfolding clock_cell clock_with
  clock-own = same_or f 0 (λ h. rw (eq-eqb f 0 h)) (λ h. rw (ne_eqb f 0 h))

  pub clock-other : (g : ℕ) → g < 2 → g ≢ f → clock_cell (clock_with c f x) g ≡ clock_cell c g
  unfolding clock_cell clock_with
  clock-other g b d =
      same_or f 0 (λ h. rw (eq-eqb f 0 h, ne_eqb g 0 (λ e. d (e ∙ sym h)))) (λ h. rw (ne_eqb f 0 h, eq-eqb g 0 (omega arith)))

-- ---- told by its numbers

pub positions-told : {p q : Positions} → p.read ≡ q.read → p.write ≡ q.write → p.count ≡ q.count → p ≡ q
positions-told {p} {q} r w c =
    ap (λ (n : ℕ). placed n p.write p.count) r
    ∙ ap (λ (n : ℕ). placed q.read n p.count) w
    ∙ ap (λ (n : ℕ). placed q.read q.write n) c
  where
    placed : ℕ → ℕ → ℕ → Positions
    placed r w c = record { read = r; write = w; count = c }

pub clock-told : {c d : Clock} → c.time.0 ≡ d.time.0 → c.frequency ≡ d.frequency → c ≡ d
clock-told {c} {d} t f =
    ap (λ (n : ℕ). clock n c.frequency) t ∙ ap (λ (n : ℕ). clock d.time.0 n) f
  where
    clock : ℕ → ℕ → Clock
    clock n f = record { time = record { 0 = n }; frequency = f }

-- two signed numbers with the same bits
pub bits-told : (y z : ℤ) → Signed y → Signed z → of_z w32 y ≡ of_z w32 z → y ≡ z
bits-told y z hy hz e = sym (signed {z = y} hy) ∙ ap (to_z w32) e ∙ signed {z = z} hz

-- ---- a table of rows of w numbers each

module _ {R : Type 0} (cell : R → ℕ → ℕ) (with_cell : R → ℕ → ℕ → R) (blank : R) (w n : ℕ) (some : 0 < w) (limit : ℕ → ℕ) (Good : R → Type 0)
    (own : (r : R) → Good r → (f x : ℕ) → f < w → x < limit f → cell (with_cell r f x) f ≡ x)
    (other : (r : R) → Good r → (f x : ℕ) → f < w → x < limit f → (g : ℕ) → g ≢ f → cell (with_cell r f x) g ≡ cell r g)
    (keeps : (r : R) → Good r → (f x : ℕ) → f < w → x < limit f → Good (with_cell r f x))
    (l : List R) (long : length l ≡ n) (good : (i : ℕ) → i < n → Good (get_or l i blank)) (k x : ℕ) (inside : k < n * w) (fits : x < limit (k % w))
  where
    row-of : k / w < n
    row-of = (div-lt_iff_lt-mul some).1 inside

    pub grid-own : cell (get_or (set l (k / w) (with_cell (get_or l (k / w) blank) (k % w) x)) (k / w) blank) (k % w) ≡ x
    grid-own =
        rw (get_or-set_same l (k / w) (with_cell (get_or l (k / w) blank) (k % w) x) blank (omega (arith, row-of)))
        (own (get_or l (k / w) blank) (good (k / w) row-of) (k % w) x (mod-lt k some) fits)

    pub grid-other : (j : ℕ) → j ≢ k
        → cell (get_or (set l (k / w) (with_cell (get_or l (k / w) blank) (k % w) x)) (j / w) blank) (j % w) ≡ cell (get_or l (j / w) blank) (j % w)
    grid-other j d =
        same_or (j / w) (k / w)
        (λ e.
        let apart : j % w ≢ k % w = λ m. d (sym (div-add-mod' j w) ∙ ap (λ (q : ℕ). q * w + j % w) e ∙ ap (λ (r : ℕ). k / w * w + r) m ∙ div-add-mod' k w) in
        rw (e, get_or-set_same l (k / w) (with_cell (get_or l (k / w) blank) (k % w) x) blank (omega (arith, row-of)))
        (other (get_or l (k / w) blank) (good (k / w) row-of) (k % w) x (mod-lt k some) fits (j % w) apart))
        (λ e. rw (get_or-set_other l (k / w) (j / w) (with_cell (get_or l (k / w) blank) (k % w) x) blank e))

    pub grid-long : length (set l (k / w) (with_cell (get_or l (k / w) blank) (k % w) x)) ≡ n
    grid-long = length-set l (k / w) (with_cell (get_or l (k / w) blank) (k % w) x) ∙ long

    pub grid-good : (i : ℕ) → i < n → Good (get_or (set l (k / w) (with_cell (get_or l (k / w) blank) (k % w) x)) i blank)
    grid-good i h =
        same_or i (k / w)
        (λ e. rw (e, get_or-set_same l (k / w) (with_cell (get_or l (k / w) blank) (k % w) x) blank (omega (arith, row-of)))
        (keeps (get_or l (k / w) blank) (good (k / w) row-of) (k % w) x (mod-lt k some) fits))
        (λ e. rw (get_or-set_other l (k / w) i (with_cell (get_or l (k / w) blank) (k % w) x) blank e) (good i h))
