-- What the view says of the state.
use Rattle.std.proofs.Common.{◌≡◌, ℕ, vec_len, Option, sym, refl, subst}
use Rattle.serialize.specs.Objects.{SoundObjects}
use Rattle.graph.specs.Model.{Model as Objects, view as objects}
use Rattle.graph.proofs.Views.{sound_objects}
use Rattle.workspace.specs.declared.state.Workspace.{Workspace}
use Rattle.workspace.specs.Model.{view}
use Rattle.workspace.specs.Rest.{long_enough}

pub graph_is : (w : Workspace) → (view w).graph ≡ objects w.graph
unfolding view
graph_is w = refl

pub lists_are : (w : Workspace) → (view w).lists ≡ long_enough (objects w.graph).capacity (vec_len w.first_list) (vec_len w.second_list) (vec_len w.visited)
unfolding view
lists_are w = refl

pub loaded_is : (w : Workspace) → (view w).loaded ≡ w.loaded
unfolding view
loaded_is w = refl

-- the view, part by part
pub view_made : (w : Workspace) (g : Objects) (a b d loaded : ℕ) (lookup : Option ℕ) → objects w.graph ≡ g → vec_len w.first_list ≡ a → vec_len w.second_list ≡ b → vec_len w.visited ≡ d
    → w.loaded ≡ loaded → w.lookup ≡ lookup → view w ≡ record { graph = g; lists = long_enough g.capacity a b d; loaded = loaded; lookup = lookup }
unfolding view
view_made w g a b d loaded lookup eg ea eb ed el eo =
    let lists : long_enough (objects w.graph).capacity (vec_len w.first_list) (vec_len w.second_list) (vec_len w.visited) ≡ long_enough g.capacity a b d = rw (eg, ea, eb, ed) in
    cc

-- the objects of every workspace are sound
pub sound_view : (w : Workspace) → SoundObjects (view w).graph.nodes
sound_view w = subst (λ (g : Objects). SoundObjects g.nodes) (sym (graph_is w)) (sound_objects w.graph)
