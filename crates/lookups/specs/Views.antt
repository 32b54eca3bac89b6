-- What the view of a lookup stands for.
use Rattle.std.specs.Prelude.{◌≡◌, ℕ, List, [], Ok, Err, Result}
use Rattle.serialize.specs.Objects.{Node}
use Rattle.fields.specs.declared.fault.Fault.{Fault}
use Rattle.markbase.specs.Nodes.{node_of, read}
use Rattle.lookups.specs.declared.lookup.Lookup.{Lookup}
use Rattle.lookups.specs.Tables.{Fields, lookup}

-- the vertices that the offsets of a lookup lead to
abbrev pub offsets_in : Result Fields ℕ → List ℕ
offsets_in (Ok l) = l.offsets
offsets_in (Err p) = []

-- the same of a view
unfoldable pub offsets_of : Lookup → List ℕ
offsets_of l = offsets_in (read lookup (node_of l.vertex))

-- the answer is a view of this vertex, or where it is broken
abbrev pub ReadsLookup : Node → Result Lookup Fault → Type 0
ReadsLookup x (Ok l) = node_of l.vertex ≡ x
ReadsLookup x (Err f) = read lookup x ≡ Err f.place
