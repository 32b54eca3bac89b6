-- What the records of a table say of its ranges.
use Rattle.std.specs.Prelude.{◌≡◌, ℕ, ◌<◌, ◌≤◌, List, length, slice_index_or}
use Rattle.layout.specs.Records.{word_at, range_count, start_of, end_of, index_of, last_index}
use Rattle.layout.specs.declared.coverage.Records.{Records}
use Rattle.layout.specs.declared.coverage.Records.TheVariants.{Glyphs, Ranges}

-- the k-th range of a table
pub record RangeIs (bs : List ℕ) (k s e i : ℕ) : Type 0 where
  pub start : s ≡ start_of bs k
  pub end : e ≡ end_of bs k
  pub index : i ≡ index_of bs k
  pub ordered : s ≤ e

-- the k-th range holds the glyph x
abbrev pub HoldsGlyph : List ℕ → ℕ → ℕ → Type 0
HoldsGlyph bs k x = (start_of bs k ≤ x) × (x ≤ end_of bs k)

-- the k-th range holds the index x
abbrev pub HoldsIndex : List ℕ → ℕ → ℕ → Type 0
HoldsIndex bs k x = (index_of bs k ≤ x) × (x ≤ last_index bs k)

-- the records are the ranges of a table, each glyph of format 1 a range of its own
abbrev pub Tabled : List ℕ → Records → Type 0
Tabled bs (Glyphs gs) =
    (length gs.now ≡ range_count bs) × ((k : ℕ) (d : List ℕ) → k < range_count bs → RangeIs bs k (word_at (slice_index_or gs.now k d) 0) (word_at (slice_index_or gs.now k d) 0) k)
Tabled bs (Ranges rs) =
    (length rs.now ≡ range_count bs) × ((k : ℕ) (d : List ℕ) → k < range_count bs → RangeIs bs k (word_at (slice_index_or rs.now k d) 0) (word_at (slice_index_or rs.now k d) 2) (word_at (slice_index_or rs.now k d) 4))
