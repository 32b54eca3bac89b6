-- What always holds of the tables, over lists and numbers.
use Rattle.std.specs.Prelude.{◌≡◌, ℕ, ◌+◌, ◌<◌, ◌≤◌, true, List, length, take, sum, slice_index_or}
use mathlib.Core.List as list
use Rattle.graph.specs.declared.vertex.Vertex.{Vertex}
use Rattle.serialize.specs.declared.link.Link.{Link}
use Rattle.serialize.specs.Objects.{part, zeros, link_at, end_of, field_of}

-- what stands past the vertex table's end
abbrev pub no_vertex : Vertex
no_vertex = record { head = 0; len = 0; first_link = 0; link_count = 0 }

-- a record of the vertex table
abbrev pub vertex_at : List Vertex → ℕ → Vertex
vertex_at records v = slice_index_or records v no_vertex

-- a vertex's bytes
abbrev pub area : List ℕ → Vertex → List ℕ
area bytes r = part r.head r.len bytes

-- a vertex's segment of the link table
abbrev pub segment : List Link → Vertex → List Link
segment links r = part r.first_link r.link_count links

-- how many links each vertex has
abbrev pub counts : List Vertex → List ℕ
counts records = list.map (λ (r : Vertex). r.link_count) records

-- how many links the vertices before v have
abbrev pub links_before : List Vertex → ℕ → ℕ
links_before records v = sum (take v (counts records))

-- how many links all vertices have
abbrev pub link_total : List Vertex → ℕ
link_total records = sum (counts records)

-- a table holds at most its capacity, for which there is memory, and which is at most a limit
abbrev pub Holds : ℕ → ℕ → ℕ → ℕ → Type 0
Holds limit capacity len reserved = (len ≤ capacity) × (capacity ≤ reserved) × (capacity ≤ limit)

-- each vertex's bytes lie below the mark
abbrev pub Below : List Vertex → ℕ → Type 0
Below records mark = (v : ℕ) → v < length records → (vertex_at records v).head + (vertex_at records v).len ≤ mark

-- the byte at p of the area is one of v's
abbrev pub Owns : List Vertex → ℕ → ℕ → Type 0
Owns records v p = (v < length records) × ((vertex_at records v).head ≤ p) × (p < (vertex_at records v).head + (vertex_at records v).len)

-- no byte belongs to two vertices
abbrev pub Apart : List Vertex → Type 0
Apart records = (p u v : ℕ) → (u < v) × Owns records u p × Owns records v p → ⊥

-- each segment begins where those before it end
abbrev pub Placed : List Vertex → Type 0
Placed records = (v : ℕ) → v < length records → (vertex_at records v).first_link ≡ links_before records v

-- in each segment, fields follow one another and do not overlap
abbrev pub Ordered : List Vertex → List Link → Type 0
Ordered records links = (v i j : ℕ) → (v < length records) × (i < j) × (j < length (segment links (vertex_at records v)))
    → end_of (link_at (segment links (vertex_at records v)) i) ≤ (link_at (segment links (vertex_at records v)) j).position

-- each link's child is a vertex, and its field lies inside its vertex
abbrev pub Inside : List Vertex → List Link → Type 0
Inside records links = (v i : ℕ) → (v < length records) × (i < length (segment links (vertex_at records v)))
    → ((link_at (segment links (vertex_at records v)) i).child < length records) × (end_of (link_at (segment links (vertex_at records v)) i) ≤ (vertex_at records v).len)

-- and the field's bytes are zero
abbrev pub Blank : List Vertex → List Link → List ℕ → Type 0
Blank records links bytes = (v i : ℕ) → (v < length records) × (i < length (segment links (vertex_at records v)))
    → zeros (field_of (area bytes (vertex_at records v)) (link_at (segment links (vertex_at records v)) i)) ≡ true
