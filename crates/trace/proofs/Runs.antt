-- What the writer stores, store by store, is a record's bytes in one run: each store goes on where the last one ended, and two runs
-- that meet are one run.
use Prim.Native.Nat.{ℕ, suc, ◌+◌, ◌%◌, ◌≤◌, ◌<◌}
use native.Mathlib.Nat.{add-zero, add-suc, suc-add, mod-eq_of_lt}
use native.Mathlib.Numerals.{add-one}
use native.Mathlib.Omega.{arith}
use mathlib.Core.Path.{◌≡◌, refl, sym, ap, ◌∙◌}
use mathlib.Core.List.{List, [], ◌∷◌, ◌++◌, append_assoc}
use lib.Dec.{ltb}
use lib.ListN.{length, set, take, length-append}
use lib.Seq.{sets, length-sets, length-take-le, take_all, take-suc, get_or-take}
use borrow.Author.Tests.{ltb-true, ltb-false}
use Rattle.library.specs.declared.calls.Step.{Step}
use Rattle.library.specs.declared.sizes.Sizes.{Sizes}
use Rattle.trace.specs.Ordered.{bytes_n, put_n}
use Rattle.library.specs.Sizes.{slots_at}
use Rattle.trace.specs.TraceBytes.{sizes_body, head_of, record_of}
use Rattle.trace.specs.Writer.{slot_written}
use Rattle.kernel.proofs.Cases.{split}
use Rattle.trace.proofs.Room.{Room}
use Rattle.trace.proofs.SizesLaws.{Limits}
use Rattle.trace.proofs.Widths.{put_some}

module _ {A : Type 0} where
  -- a run, and the run that goes on where it ends
  pub sets-append : (l : List A) (at : ℕ) (xs ys : List A) → sets (sets l at xs) (at + length xs) ys ≡ sets l at (xs ++ ys)
  sets-append l at [] ys = ap (λ (n : ℕ). sets l n ys) (add-zero at)
  sets-append l at (x ∷ xs) ys =
      ap (λ (n : ℕ). sets (sets (set l at x) (suc at) xs) n ys) (add-suc at (length xs) ∙ sym (suc-add at (length xs)))
      ∙ sets-append (set l at x) (suc at) xs ys

  -- the same, where the place is known by an equation: what is written before it stays one run
  pub sets_more : (l m : List A) (at to : ℕ) (xs ys : List A) → m ≡ sets l at xs → at + length xs ≡ to → sets m to ys ≡ sets l at (xs ++ ys)
  sets_more l m at to xs ys e p =
      ap (λ (k : List A). sets k to ys) e ∙ ap (λ (n : ℕ). sets (sets l at xs) n ys) (sym p) ∙ sets-append l at xs ys

module _ (l m : List ℕ) (at to : ℕ) (xs : List ℕ) (e : m ≡ sets l at xs) (p : at + length xs ≡ to) where
  -- a number, behind a run
  pub put-more : (k x : ℕ) → to + k ≤ length l → put_n k m to x ≡ sets l at (xs ++ bytes_n k x)
  put-more k x h =
      let n : length m ≡ length l = ap length e ∙ length-sets l at xs in
      sym (put_some k m to x (omega arith)) ∙ sets_more l m at to xs (bytes_n k x) e p

  -- three bytes, behind a run
  pub three-more : (a b c : ℕ) → set (set (set m to a) (to + 1) b) (to + 2) c ≡ sets l at (xs ++ (a ∷ b ∷ c ∷ []))
  three-more a b c =
      let e₁ : to + 1 ≡ suc to = omega arith in
      let e₂ : to + 2 ≡ suc (suc to) = omega arith in
      rw (e₁, e₂) (sets_more l m at to xs (a ∷ b ∷ c ∷ []) e p)

-- a step's record: l₁, l₂, l₃ are the buffers that the callees left
pub step_run : (l : List ℕ) (at : ℕ) (x : Step) (l₁ l₂ l₃ : List ℕ)
    → at + 13 ≤ length l
    → l₁ ≡ put_n 2 l at 11
    → l₂ ≡ put_n 4 (set (set (set l₁ (at + 2) x.kind) (at + 3) x.caller) (at + 4) x.object) (at + 5) x.a
    → l₃ ≡ put_n 4 l₂ (at + 9) x.timeout
    → l₃ ≡ sets l at (record_of x)
unfolding record_of
step_run l at x l₁ l₂ l₃ h e₁ e₂ e₃ =
    let three : List ℕ = x.kind ∷ x.caller ∷ x.object ∷ [] in
    let m : List ℕ = set (set (set l₁ (at + 2) x.kind) (at + 3) x.caller) (at + 4) x.object in
    let sized : l₁ ≡ sets l at (bytes_n 2 11) = e₁ ∙ sym (put_some 2 l at 11 (omega arith)) in
    let named : m ≡ sets l at (bytes_n 2 11 ++ three) =
    let i : at + 3 ≡ at + 2 + 1 = omega arith in
    let j : at + 4 ≡ at + 2 + 2 = omega arith in
    rw (i, j) (three-more l l₁ at (at + 2) (bytes_n 2 11) sized refl x.kind x.caller x.object) in
    let valued : l₂ ≡ sets l at (bytes_n 2 11 ++ three ++ bytes_n 4 x.a) =
    e₂ ∙ put-more l m at (at + 5) (bytes_n 2 11 ++ three) named refl 4 x.a (omega arith) in
    e₃ ∙ put-more l l₂ at (at + 9) (bytes_n 2 11 ++ three ++ bytes_n 4 x.a) valued refl 4 x.timeout (omega arith)

-- ---- the version byte and record 0

-- what stands before the slots, and the slots of the first mailboxes
abbrev fixed : Sizes → List ℕ
fixed z = 1 ∷ (bytes_n 2 (6 + z.mailboxes) ++ (z.threads ∷ z.semaphores ∷ z.queues ∷ z.references ∷ z.mailboxes ∷ z.pools ∷ []))

abbrev slots : Sizes → List ℕ
slots z = take z.mailboxes z.slots

abbrev pub head_upto : Sizes → ℕ → List ℕ
head_upto z i = fixed z ++ take i (slots z)

-- of sizes z within their limits, into a buffer l with room for them
module _ (l : List ℕ) (z : Sizes) (small : Limits z) (four : length z.slots ≡ 4) (room : Room (length l) 0 (9 + z.mailboxes)) where
  as_many : length (slots z) ≡ z.mailboxes
  as_many = length-take-le z.mailboxes z.slots (omega (arith, small.mailboxes))

  -- l₁ is the buffer that the callee left
  pub fixed-run : (l₁ : List ℕ) → l₁ ≡ put_n 2 (set l 0 1) 1 (6 + z.mailboxes)
      → set (set (set (set (set (set l₁ 3 z.threads) 4 z.semaphores) 5 z.queues) 6 z.references) 7 z.mailboxes) 8 z.pools ≡ sets l 0 (head_upto z 0)
  fixed-run l₁ e₁ =
      let sized : l₁ ≡ sets l 0 (1 ∷ bytes_n 2 (6 + z.mailboxes)) =
      e₁ ∙ put-more l (set l 0 1) 0 1 (1 ∷ []) refl refl 2 (6 + z.mailboxes) (omega arith) in
      let counts : List ℕ = z.threads ∷ z.semaphores ∷ z.queues ∷ z.references ∷ z.mailboxes ∷ z.pools ∷ [] in
      sets_more l l₁ 0 3 (1 ∷ bytes_n 2 (6 + z.mailboxes)) counts sized refl

  -- mailbox i's slots, behind those of the mailboxes before it
  pub slot-more : (m m₂ : List ℕ) (i : ℕ) → m ≡ sets l 0 (head_upto z i) → m₂ ≡ slot_written z i m → m₂ ≡ sets l 0 (head_upto z (i + 1))
  slot-more m m₂ i e e₂ =
      e₂
      ∙ split (ltb i z.mailboxes)
      (λ t.
      let h : i < z.mailboxes = ltb-true i z.mailboxes t in
      let v : slots_at z i % 256 ≡ slots_at z i = mod-eq_of_lt (omega (arith, small.slots i h)) in
      let n : length (take i (slots z)) ≡ i = length-take-le i (slots z) (omega (arith, as_many)) in
      let at : 0 + length (fixed z ++ take i (slots z)) ≡ 9 + i = omega (arith, length-append (fixed z) (take i (slots z))) in
      let more : take (suc i) (slots z) ≡ take i (slots z) ++ (slots_at z i ∷ []) =
      take-suc (slots z) i 0 (omega (arith, as_many)) ∙ ap (λ (b : ℕ). take i (slots z) ++ (b ∷ [])) (get_or-take z.mailboxes z.slots i 0 h) in
      rw (t, v, add-one i, more)
      (sets_more l m 0 (9 + i) (fixed z ++ take i (slots z)) (slots_at z i ∷ []) e at ∙ ap (sets l 0) (append_assoc (fixed z) (take i (slots z)) (slots_at z i ∷ []))))
      (λ f.
      let h : length (slots z) ≤ i = omega (arith, ltb-false i z.mailboxes f, as_many) in
      rw f (e ∙ ap (λ (b : List ℕ). sets l 0 (fixed z ++ b)) (take_all i (slots z) h ∙ sym (take_all (i + 1) (slots z) (omega arith)))))

  pub head-run : (m : List ℕ) → m ≡ sets l 0 (head_upto z 4) → m ≡ sets l 0 (head_of z)
  unfolding head_of
  head-run m e =
      let n : 6 + z.mailboxes ≡ length (sizes_body z) = omega (arith, as_many) in
      e ∙ ap (λ (b : List ℕ). sets l 0 (fixed z ++ b)) (take_all 4 (slots z) (omega (arith, as_many, small.mailboxes))) ∙ rw n
