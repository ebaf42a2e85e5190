-- AN ENTRY READ FROM ITS LINE, part by part: a word that is printed, a number. A part that is not there leaves the place where it was. The text
-- from a place on is `drop at s`; at the text's end a line ends.
use Rattle.std.specs.Prelude.{ℕ, zero, suc, ◌+◌, ◌-◌, ◌*◌, Bool, true, false, cond, ◌&&◌, List, [], ◌∷◌, eqb, ltb, leb, length, get_or, drop}
use Rattle.kernel.specs.Walk.{all_from}
use Rattle.lists.specs.declared.reading.Part.{Part}
use Rattle.lists.specs.declared.reading.Digits.{Digits}
use Rattle.lists.specs.declared.reading.Line.{Line}
use Rattle.lists.specs.Words.{object_word, field_word, fields_of, is_signed}
use Rattle.lists.specs.Printing.{entry_of}

abbrev pub part : Bool → ℕ → ℕ → Part
part fine value at = record { fine = fine; value = value; at = at }

abbrev pub no_part : ℕ → Part
no_part at = part false 0 at

-- ---- words

-- a text begins with a word
unfoldable pub begins : List ℕ → List ℕ → Bool
begins l w = leb (length w) (length l) && all_from (λ i. eqb (get_or l i 0) (get_or w i 0)) 0 (length w)

-- the word w, which stands for k, if the text begins with it; the place is the one behind it
unfoldable pub word_part : List ℕ → ℕ → ℕ → List ℕ → Part
word_part l at k w = cond (begins l w) (part true k (at + length w)) (no_part at)

-- the same; one of 32 letters or more would not be tried, and there is none
unfoldable pub tried_word : List ℕ → ℕ → ℕ → List ℕ → Part
tried_word l at k w = cond (ltb (length w) 32) (word_part l at k w) (no_part at)

abbrev pub later : Part → Part → Part
later p q = cond q.fine q p

-- the last of n parts that is there
unfoldable pub last_of : (ℕ → Part) → ℕ → ℕ → Part
last_of f at zero = no_part at
last_of f at (suc n) = later (last_of f at n) (f n)

unfoldable pub object_read : List ℕ → ℕ → Part
object_read s at = last_of (λ o. tried_word (drop at s) at o (object_word o)) at 8

unfoldable pub field_read : List ℕ → ℕ → ℕ → Part
field_read s at o = last_of (λ f. tried_word (drop at s) at f (field_word o f)) at (fields_of o)

-- ---- numbers

abbrev pub is_digit : ℕ → Bool
is_digit b = leb 48 b && leb b 57

-- one digit more; a number that is too large stays so
abbrev pub grown : ℕ → ℕ → ℕ
grown v b = cond (ltb v 4294967296) (v * 10 + (b - 48)) v

-- the digits in front of a text that begins at the place i, behind those of v
unfoldable pub digits_from : ℕ → ℕ → List ℕ → Digits
digits_from v i [] = record { value = v; at = i }
digits_from v i (b ∷ l) = cond (is_digit b) (digits_from (grown v b) (i + 1) l) (record { value = v; at = i })

-- the place behind a byte
abbrev pub past : List ℕ → ℕ → ℕ
past s at = cond (ltb at (length s)) (at + 1) at

-- some digits, a number not above the most, and the byte behind them
unfoldable pub number_read : List ℕ → ℕ → ℕ → ℕ → Part
number_read s at most end =
    let d = digits_from 0 at (drop at s) in
    cond (ltb at d.at && (leb d.value most && eqb (get_or s d.at 10) end)) (part true d.value (past s d.at)) (no_part at)

-- `-`, 45, before a value that is signed
abbrev pub minus_at : List ℕ → ℕ → Bool → Bool
minus_at s at signed = signed && eqb (get_or s at 10) 45

-- the bits of a number below 0, from its size
abbrev pub below_read : Part → Part
below_read p = cond (p.fine && leb 1 p.value) (part true (4294967296 - p.value) p.at) (no_part p.at)

abbrev pub most_of : Bool → ℕ
most_of signed = cond signed 2147483647 4294967295

unfoldable pub value_read : List ℕ → ℕ → Bool → ℕ → Part
value_read s at signed end =
    cond (minus_at s at signed) (below_read (number_read s (past s at) 2147483648 end)) (number_read s at (most_of signed) end)

-- ---- the line

unfoldable pub entry_read : List ℕ → ℕ → Line
entry_read s at =
    let o = object_read s at in
    let n = number_read s o.at 4294967295 32 in
    let f = field_read s n.at o.value in
    let signed = is_signed o.value f.value in
    let old = value_read s f.at signed 32 in
    let new = value_read s old.at signed 10 in
    record {
      fine = ((o.fine && n.fine) && f.fine) && (old.fine && new.fine);
      entry = entry_of o.value n.value f.value old.value new.value;
      at = new.at;
    }
