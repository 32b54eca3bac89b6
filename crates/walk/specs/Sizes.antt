-- What the walks from several roots answer.
use Rattle.std.specs.Prelude.{◌≡◌, ℕ, ◌+◌, ◌<◌, ◌≤◌, Bool, List, [], ◌∷◌, ◌++◌, length, Ok, Err, Result, slice_index}
use Rattle.serialize.specs.Objects.{Node}
use Rattle.walk.specs.declared.all.NoVertex.{NoVertex}
use Rattle.walk.specs.Reach.{Shows}
use Rattle.walk.specs.Computed.{reached_size}

-- no graph has more bytes
abbrev pub size_limit : ℕ
size_limit = 4000000

-- one root more: the marks show what all of them reach, and what was added is how much larger that is
pub record Grows (nodes : List Node) (roots : List ℕ) (v added : ℕ) (then : List Bool) : Type 0 where
  pub marks : Shows nodes (roots ++ v ∷ []) then
  pub size : added + reached_size nodes roots ≡ reached_size nodes (roots ++ v ∷ [])
  pub small : reached_size nodes (roots ++ v ∷ []) ≤ size_limit

-- the first n roots are vertices
abbrev pub Vertices : List Node → List ℕ → ℕ → Type 0
Vertices nodes roots n = (k : ℕ) → k < n → slice_index roots k < length nodes

-- all roots are vertices, and this is the size of what they reach; or this is the first that is none
abbrev pub SizeOfAll : List Node → List ℕ → Result ℕ NoVertex → Type 0
SizeOfAll nodes roots (Ok n) = Vertices nodes roots (length roots) × (n ≡ reached_size nodes roots)
SizeOfAll nodes roots (Err e) = Vertices nodes roots e.index × (e.index < length roots) × (length nodes ≤ slice_index roots e.index)
