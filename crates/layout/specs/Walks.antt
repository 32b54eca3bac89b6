-- Where a walk through the glyphs of a table stands.
use Rattle.std.specs.Prelude.{◌≡◌, ℕ, ◌<◌, ◌≤◌, List, length}
use Rattle.layout.specs.Lookup.{covered, Sound}
use Rattle.layout.specs.Records.{range_count}
use Rattle.layout.specs.Searches.{HoldsIndex}

-- the k-th range of a table holds the index x; behind the last range, x is the number of glyphs
pub record Stands (bs : List ℕ) (k x : ℕ) : Type 0 where
  pub sound : Sound bs
  pub here : k < range_count bs → HoldsIndex bs k x
  pub done : range_count bs ≤ k → x ≡ length (covered bs)
