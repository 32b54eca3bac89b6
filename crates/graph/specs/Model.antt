-- What the tables stand for: objects, the mark and the capacities, and no place of the tables.
use Rattle.std.specs.Prelude.{ℕ, min, List, [], vec_items, vec_len, sum}
use mathlib.Core.List as list
use Rattle.serialize.specs.declared.link.Link.{Link}
use Rattle.graph.specs.declared.vertex.Vertex.{Vertex}
use Rattle.graph.specs.declared.vertex.Capacity.{Capacity}
use Rattle.serialize.specs.declared.object_file.Trailer.{Trailer}
use Rattle.graph.specs.declared.tables.Graph.{Graph}
use Rattle.serialize.specs.Objects.{Node}
use Rattle.serialize.specs.ObjectFile.{lengths_of, nodes_of}
use Rattle.graph.specs.Sound.{area, segment}

-- the objects, up to where bytes have been dealt out, and how much there may be
pub record Model : Type 0 where
  pub nodes : List Node
  pub mark : ℕ
  pub capacity : Capacity

-- a vertex, out of the tables
abbrev pub node : List ℕ → List Link → Vertex → Node
node bytes links r = record { bytes = area bytes r; links = segment links r }

-- what a graph stands for
unfoldable pub view : Graph → Model
view g = record {
  nodes = list.map (node (vec_items g.bytes) (vec_items g.links)) (vec_items g.vertices);
  mark = vec_len g.bytes;
  capacity = g.capacity;
}

-- tables hold as much as they are long, up to the limits
abbrev pub capacity_of : ℕ → ℕ → ℕ → Capacity
capacity_of vertices links bytes = record { vertices = min vertices 20000; links = min links 100000; bytes = min bytes 4000000 }

-- no objects
abbrev pub no_objects : Capacity → Model
no_objects c = record { nodes = []; mark = 0; capacity = c }

-- the objects of a file, in place of others; bytes are dealt out as far as they reach
abbrev pub with_file : Model → List ℕ → Trailer → Model
with_file m file t = record { nodes = nodes_of file t; mark = sum (lengths_of file t); capacity = m.capacity }
