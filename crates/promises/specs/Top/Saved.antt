-- SAVED TABLES, OF DOCUMENT 02: a file is what `Paper.Saved` tells and nothing else, what was saved is loaded as it was, and what was loaded is
-- saved as the same file. A host lends tables and clock as their bytes; a program has them as records.
use Rattle.std.specs.Prelude.{ℕ, ◌≤◌, ◌<◌, ◌≡◌, refl, ◌≢◌, ◌⊎◌, List, ◌++◌, length, take, drop}
use Rattle.kernel.specs.declared.clock.Clock.{Clock}
use Rattle.library.specs.declared.tables.Tables.{Tables}
use Rattle.compare.specs.Laid.{kept_of}
use Rattle.compare.specs.Checksum.{checksum_of}
use Rattle.compare.specs.Saved.{save_code, saved, loaded}
use Rattle.compare.proofs.SavedLaws as laws
use Rattle.host.specs.Layout.{layout}
use Rattle.host.specs.Comparing.{load_answer, loaded_tables, loaded_clock}
use Rattle.promises.specs.Paper.Saved.{AreBytes, BytesLent, Lies, adler, SaveOf, KeptSaveOf, LoadOf, KeptLoadOf, HostTyped}
use Rattle.promises.specs.Code.Compare.{file_layout}
use Rattle.promises.specs.Meant.Lies.{lies-is, lies-one}
use Rattle.promises.specs.Meant.Typed.{typed-held, typed-within}
use Rattle.promises.specs.Meant.Saved.{
  adler-is,
  save-is,
  save-one,
  load_is,
  load_one,
  answer_back,
  tables-back,
  clock-back,
  file-back,
  short-answer,
  short-tables,
  short-clock,
  kept-save-is,
  kept-save-one,
  kept-load-is,
  kept-load-one,
  kept-file-back,
}

-- the number at a file's head is the one that nil_layout gives
pub layout-same : file_layout ≡ layout
layout-same = refl

-- ---- A HOST'S BYTES

-- the checksum is Adler-32, of any numbers
pub checksum-told : (l : List ℕ) → checksum_of l ≡ adler l
checksum-told = adler-is

module _ (t c : List ℕ) (ht : BytesLent 1572 t) (hc : BytesLent 8 c) where
  -- tables and clock are read from the places that host/nil.h asserts, and no others lie there
  pub lies-told : Lies t c (kept_of t c).tables (kept_of t c).clock
      × ((u : Tables) (d : Clock) → Lies t c u d → (u ≡ (kept_of t c).tables) × (d ≡ (kept_of t c).clock))
  lies-told =
      let is = lies-is t c ht.bytes hc.bytes in
      (is, λ u d x. lies-one x is)

  -- nil_save: the code, and the room then
  pub saved-told : (l : List ℕ) → SaveOf t c l (save_code l) (saved (kept_of t c) l)
      × ((n : ℕ) (k : List ℕ) → SaveOf t c l n k → (n ≡ save_code l) × (k ≡ saved (kept_of t c) l))
  saved-told l = (save-is t c l ht hc, λ n k x. save-one x (save-is t c l ht hc))

  -- what was saved is loaded as the same bytes, whatever stood in the room and where it is loaded to
  pub saved-loaded : (l u d : List ℕ) → 1588 ≤ length l → length u ≡ 1572 → length d ≡ 8 → let f = take 1588 (saved (kept_of t c) l) in
      (load_answer f u d ≡ 0) × (loaded_tables f u d ≡ t) × (loaded_clock f u d ≡ c)
  saved-loaded l u d room lu ld =
      (answer_back t c l u d ht hc room lu ld, tables-back t c l u d ht hc room lu ld, clock-back t c l u d ht hc room lu ld)

module _ (f t c : List ℕ) (bytes : AreBytes f) (tables-long : length t ≡ 1572) (clock-long : length c ≡ 8) where
  -- nil_load: the code, and tables and clock then, for any bytes
  pub loaded-told : LoadOf f t c (load_answer f t c) (loaded_tables f t c) (loaded_clock f t c)
      × ((n : ℕ) (u d : List ℕ) → LoadOf f t c n u d → (n ≡ load_answer f t c) × (u ≡ loaded_tables f t c) × (d ≡ loaded_clock f t c))
  loaded-told =
      let is = load_is f t c bytes tables-long clock-long in
      (is, λ n u d x. load_one x is)

  -- what was loaded is saved as the same file, in front of what stood in the room
  pub loaded-saved : load_answer f t c ≡ 0 → (l : List ℕ) → 1588 ≤ length l
      → saved (kept_of (loaded_tables f t c) (loaded_clock f t c)) l ≡ f ++ drop 1588 l
  loaded-saved done l room = file-back f t c bytes tables-long clock-long done l room

-- where there is less room for tables or clock than they have, nothing is loaded
pub load-short : (f t c : List ℕ) → (length t < 1572) ⊎ (length c < 8)
    → (load_answer f t c ≢ 0) × (loaded_tables f t c ≡ t) × (loaded_clock f t c ≡ c)
load-short f t c short = (short-answer f t c short, short-tables f t c short, short-clock f t c short)

-- ---- TABLES AND CLOCK AS A PROGRAM HAS THEM

-- whatever numbers of its types a host keeps, tables that do not hang together too
module _ (t : Tables) (c : Clock) (h : HostTyped t c) where
  -- saved is the file of the bytes in which they lie, and no other
  pub kept-saved-told : (l : List ℕ) → KeptSaveOf t c l (save_code l) (saved (record { tables = t; clock = c }) l)
      × ((n : ℕ) (k : List ℕ) → KeptSaveOf t c l n k → (n ≡ save_code l) × (k ≡ saved (record { tables = t; clock = c }) l))
  kept-saved-told l = (kept-save-is t c h l, λ n k x. kept-save-one x (kept-save-is t c h l))

  -- what was saved is loaded, every field
  pub kept-saved-loaded : (l : List ℕ) → 1588 ≤ length l
      → loaded (take 1588 (saved (record { tables = t; clock = c }) l)) ≡ record { code = 0; kept = record { tables = t; clock = c } }
  kept-saved-loaded l room = laws.saved-loaded (record { tables = t; clock = c }) (typed-held t c h) (typed-within t c h) l room

module _ (f : List ℕ) (bytes : AreBytes f) where
  -- what is loaded of any bytes: the code, and the tables and the clock that lie there
  pub kept-loaded-told : KeptLoadOf f (loaded f).code (loaded f).kept.tables (loaded f).kept.clock
      × ((n : ℕ) (t : Tables) (c : Clock) → KeptLoadOf f n t c → (n ≡ (loaded f).code) × (t ≡ (loaded f).kept.tables) × (c ≡ (loaded f).kept.clock))
  kept-loaded-told = (kept-load-is f bytes, λ n t c x. kept-load-one x (kept-load-is f bytes))

  -- what was loaded is saved as the same file
  pub kept-loaded-saved : (loaded f).code ≡ 0 → (l : List ℕ) → 1588 ≤ length l → saved (loaded f).kept l ≡ f ++ drop 1588 l
  kept-loaded-saved done l room = kept-file-back f bytes done l room
