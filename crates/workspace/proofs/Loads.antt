-- Why a file is refused, or not.
use Rattle.std.proofs.Common.{◌≡◌, ℕ, true, List, Some, None, vec_len, sym, refl, ap, ◌∙◌, arith}
use Rattle.std.proofs.lemmas.Bool.Decides.{nat_tests}
use Rattle.serialize.specs.declared.object_file.Trailer.{Trailer}
use Rattle.serialize.specs.ObjectFile.{trailer_of, first_broken}
use Rattle.graph.specs.Filling.{Room}
use Rattle.workspace.specs.Model.{Model, view}
use Rattle.graph.specs.Model.{view as objects, with_file}
use Rattle.workspace.specs.declared.state.Workspace.{Workspace}
use Rattle.workspace.specs.Loading.{shortage, load_refusal, loaded}
use Rattle.workspace.proofs.Views.{view_made}

-- a file is accepted where it is an object file, nothing is too small for it, and no record is broken
pub accepted : (m : Model) (file : List ℕ) (t : Trailer) → trailer_of file ≡ Some t → shortage m t ≡ None → first_broken file t ≡ None → load_refusal m file ≡ None
accepted m file t e f g = cc

-- where nothing is short, the file passes no capacity
pub enough : (m : Model) (t : Trailer) → shortage m t ≡ None → Room m.graph.capacity t
enough m t e = (grind (arith, nat_tests), grind (arith, nat_tests), grind (arith, nat_tests))

-- and the lists are long enough
pub serves : (m : Model) (t : Trailer) → shortage m t ≡ None → m.lists ≡ true
serves m t e = grind (arith, nat_tests)

-- a workspace after the objects of a file were put into its graph
pub view_loaded : (w w' : Workspace) (file : List ℕ) (t : Trailer) → objects w'.graph ≡ with_file (objects w.graph) file t → w'.first_list ≡ w.first_list → w'.second_list ≡ w.second_list → w'.visited ≡ w.visited
    → w'.loaded ≡ t.vertices → w'.lookup ≡ None → view w' ≡ loaded (view w) file t
view_loaded w w' file t eg ea eb ed el eo =
    view_made w' (with_file (objects w.graph) file t) _ _ _ t.vertices None eg (ap vec_len ea) (ap vec_len eb) (ap vec_len ed) el eo ∙ sym (ap (λ (m : Model). loaded m file t) (view_made w _ _ _ _ _ _ refl refl refl refl refl refl))
