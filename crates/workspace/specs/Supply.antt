-- What the caller hands in.
use Rattle.std.specs.Prelude.{◌≡◌, vec_len}
use Rattle.graph.specs.declared.vertex.Capacity.{Capacity}
use Rattle.workspace.specs.declared.supply.Supply.{Supply}

-- tables of these sizes, lists of 65,535 entries, a visit mark for each table vertex
pub record Sized (c : Capacity) (s : Supply) : Type 0 where
  pub vertices : vec_len s.vertices ≡ c.vertices
  pub links : vec_len s.links ≡ c.links
  pub bytes : vec_len s.bytes ≡ c.bytes
  pub first : vec_len s.first_list ≡ 65535
  pub second : vec_len s.second_list ≡ 65535
  pub visited : vec_len s.visited ≡ c.vertices
