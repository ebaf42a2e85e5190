-- The text that crates/text gives of a trace, by view.
use Rattle.std.specs.Prelude.{ℕ, List}
use Rattle.text.specs.declared.views.View.TheVariants.{Lines, AllTables, Wakings, Sums}
use Rattle.text.specs.Views.{view_text}

-- the listing
abbrev pub listing_text : List ℕ → List ℕ
listing_text s = view_text Lines s

-- why threads woke
abbrev pub why_text : List ℕ → List ℕ
why_text s = view_text Wakings s

-- the account
abbrev pub account_text : List ℕ → List ℕ
account_text s = view_text Sums s

-- the listing with all tables
abbrev pub tables_text : List ℕ → List ℕ
tables_text s = view_text AllTables s
