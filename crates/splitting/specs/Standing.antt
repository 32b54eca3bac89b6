-- A lookup that stands: it reads, none of its parts is shared, and what it holds is well formed.
use Rattle.std.specs.Prelude.{◌≡◌, ℕ, ◌<◌, ◌≤◌, List, map, length, Some, None, Ok, Option}
use Rattle.std.specs.List.{AllByRecursion}
use Rattle.serialize.specs.Objects.{Node, node_at, incoming, SoundObjects}
use Rattle.walk.specs.Reach.{Reach}
use Rattle.markbase.specs.Nodes.{read}
use Rattle.markbase.specs.Values.{Subtable}
use Rattle.markbase.specs.Parts.{subtable_of}
use Rattle.lookups.specs.Tables.{Fields, lookup, filters}
use Rattle.pieces.specs.Pieces.{Formed}
use Rattle.splitting.specs.Vertices.{top_of, own_vertices}

-- the words of a lookup that are no offsets
pub record Worded (f : Fields) : Type 0 where
  pub flag : f.flag < 65536
  pub filter : AllByRecursion (λ w. w < 65536) f.filter
  pub filters : length f.filter ≡ filters f.flag

-- the lookup at v has these fields and these subtables
pub record Stands (nodes : List Node) (v : ℕ) (f : Fields) (ts : List Subtable) : Type 0 where
  pub sound : SoundObjects nodes
  pub here : v < length nodes
  pub fields : read lookup (node_at nodes v) ≡ Ok f
  pub offsets : f.offsets ≡ map top_of ts
  pub reads : AllByRecursion (λ (t : Subtable). subtable_of nodes f.kind (top_of t) ≡ Ok t) ts
  -- no link leads to the lookup, and one at most to each part but the base coverage
  pub root : incoming nodes v ≡ 0
  pub once : AllByRecursion (λ (t : Subtable). AllByRecursion (λ u. incoming nodes u ≤ 1) (own_vertices t)) ts
  pub formed : AllByRecursion (λ (t : Subtable). Formed t.table.class_count t.contents) ts
  pub words : Worded f

-- all that a vertex reaches is the same: the same vertices, each with the same bytes and links
abbrev pub SameReached : List Node → List Node → ℕ → Type 0
SameReached nodes nodes' v = (w : ℕ) → (Reach nodes v w → Reach nodes' v w × (node_at nodes' w ≡ node_at nodes w)) × (Reach nodes' v w → Reach nodes v w)

-- the same of an anchor or a null
abbrev pub SameAnchor : List Node → List Node → Option ℕ → Type 0
SameAnchor nodes nodes' None = Unit {0}
SameAnchor nodes nodes' (Some v) = SameReached nodes nodes' v
