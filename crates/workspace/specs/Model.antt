-- What a workspace stands for.
use Rattle.std.specs.Prelude.{ℕ, ◌-◌, Bool, length, None, vec_items, vec_len, Option}
use Rattle.graph.specs.Model.{Model as Objects, view as objects, no_objects, capacity_of}
use Rattle.workspace.specs.declared.state.Workspace.{Workspace}
use Rattle.workspace.specs.declared.supply.Supply.{Supply}
use Rattle.workspace.specs.Rest.{long_enough, Zero, Clear}

-- the objects, whether the working lists and the visit marks are long enough, how many vertices were loaded, and the lookup that is open
pub record Model : Type 0 where
  pub graph : Objects
  pub lists : Bool
  pub loaded : ℕ
  pub lookup : Option ℕ

-- what a workspace stands for
unfoldable pub view : Workspace → Model
view w = record {
  graph = objects w.graph;
  lists = long_enough (objects w.graph).capacity (vec_len w.first_list) (vec_len w.second_list) (vec_len w.visited);
  loaded = w.loaded;
  lookup = w.lookup;
}

-- a new workspace over what the caller hands in
abbrev pub new_model : Supply → Model
new_model s =
    let c = capacity_of (vec_len s.vertices) (vec_len s.links) (vec_len s.bytes) in
    record { graph = no_objects c; lists = long_enough c (vec_len s.first_list) (vec_len s.second_list) (vec_len s.visited); loaded = 0; lookup = None }

-- its working lists are zero and its visit marks clear
pub record AtRest (w : Workspace) : Type 0 where
  pub first : Zero (vec_items w.first_list)
  pub second : Zero (vec_items w.second_list)
  pub clear : Clear (vec_items w.visited)

-- the vertices made since the last load
abbrev pub made_of : Model → ℕ
made_of m = length m.graph.nodes - m.loaded
