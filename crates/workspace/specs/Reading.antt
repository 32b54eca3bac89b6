-- What a caller can read of a vertex.
use Rattle.std.specs.Prelude.{◌≡◌, ℕ, ◌<◌, ◌≤◌, List, length, Some, None, Option}
use Rattle.serialize.specs.Objects.{Node, bytes_at, links_at}
use Rattle.markbase.specs.declared.data.DataBytes.{DataBytes}

-- the bytes and the links of a vertex that there is, and nothing of one that there is not
abbrev pub Shows : List Node → ℕ → Option DataBytes → Type 0
Shows nodes v None = length nodes ≤ v
Shows nodes v (Some o) = (v < length nodes) × (o.bytes.now ≡ bytes_at nodes v) × (o.links.now ≡ links_at nodes v)
