-- How the tables are laid out for an object file whose records keep the rules.
use Rattle.std.specs.Prelude.{◌≡◌, ℕ, ◌+◌, ◌-◌, ◌≤◌, List, map, Some, None, nat_lt}
use Rattle.std.specs.List.{range_with_len, prefix_len}
use Rattle.serialize.specs.declared.link.Link.{Link}
use Rattle.graph.specs.declared.vertex.Vertex.{Vertex}
use Rattle.graph.specs.declared.vertex.Capacity.{Capacity}
use Rattle.serialize.specs.declared.object_file.Trailer.{Trailer}
use Rattle.serialize.specs.declared.object_file.LinkRecord.{LinkRecord}
use Rattle.serialize.specs.ObjectFile.{trailer_of, first_broken, length_at, start_at, records_of, link_from}

-- a file that can be loaded: its trailer is this one, and every record keeps the rules
abbrev pub Loadable : List ℕ → Trailer → Type 0
Loadable file t = (trailer_of file ≡ Some t) × (first_broken file t ≡ None)

-- a file that passes no capacity
abbrev pub Room : Capacity → Trailer → Type 0
Room c t = (t.vertices ≤ c.vertices) × (t.links ≤ c.links) × (t.lengths ≤ c.bytes)

-- the first record of a vertex: those before it have lower parents
abbrev pub first_of : List ℕ → Trailer → ℕ → ℕ
first_of file t v = prefix_len (λ (r : LinkRecord). nat_lt r.parent v) (records_of file t)

-- the record of a vertex
abbrev pub row_at : List ℕ → Trailer → ℕ → Vertex
row_at file t v = record { head = start_at file t v; len = length_at file t v; first_link = first_of file t v; link_count = first_of file t (v + 1) - first_of file t v }

-- the vertex table
abbrev pub rows_of : List ℕ → Trailer → List Vertex
rows_of file t = map (row_at file t) (range_with_len 0 t.vertices)

-- the link table
abbrev pub links_of : List ℕ → Trailer → List Link
links_of file t = map link_from (records_of file t)
