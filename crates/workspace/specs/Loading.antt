-- `load`: which files it accepts, and what it leaves.
use Rattle.std.specs.Prelude.{◌≡◌, ℕ, cond, List, Some, None, Ok, Err, Option, Result, nat_le}
use Rattle.std.specs.Option.{option_map}
use Rattle.refusal.specs.declared.Shortage.{Shortage}
use Rattle.refusal.specs.declared.Shortage.TheVariants.{Vertices, Links, Bytes, Lists}
use Rattle.refusal.specs.declared.Refusal.{Refusal}
use Rattle.refusal.specs.declared.Refusal.TheVariants.{BadFile, FileTooLarge, BadLink}
use Rattle.serialize.specs.declared.object_file.Trailer.{Trailer}
use Rattle.serialize.specs.ObjectFile.{trailer_of, first_broken}
use Rattle.graph.specs.Model.{with_file}
use Rattle.workspace.specs.Model.{Model}

-- what is too small for a file, the lowest number first
abbrev pub shortage : Model → Trailer → Option Shortage
shortage m t =
    cond (nat_le t.vertices m.graph.capacity.vertices)
    (cond (nat_le t.links m.graph.capacity.links) (cond (nat_le t.lengths m.graph.capacity.bytes) (cond m.lists None (Some Lists)) (Some Bytes)) (Some Links))
    (Some Vertices)

-- why a file is refused: it is no object file, or it is too large, or a link record breaks a rule
abbrev pub load_refusal : Model → List ℕ → Option Refusal
load_refusal m file =
    elim (trailer_of file) [
      | None ↦ Some BadFile
      | Some t ↦ elim (shortage m t) [ Some s ↦ Some (FileTooLarge s) | None ↦ option_map (λ i. BadLink i) (first_broken file t) ]
    ]

-- after a load: the objects of the file, all of them loaded, and no lookup open
abbrev pub loaded : Model → List ℕ → Trailer → Model
loaded m file t = record { graph = with_file m.graph file t; lists = m.lists; loaded = t.vertices; lookup = None }

-- what `load` answers, with the model before it and after; a refusal changes nothing
abbrev pub Loads : Model → List ℕ → Result ℕ Refusal → Model → Type 0
Loads m file (Ok n) m' = (load_refusal m file ≡ None) × ((t : Trailer) × (trailer_of file ≡ Some t) × (n ≡ t.vertices) × (m' ≡ loaded m file t))
Loads m file (Err e) m' = (load_refusal m file ≡ Some e) × (m' ≡ m)
