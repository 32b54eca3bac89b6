-- Small graphs, and what is reached in them.
use Rattle.std.specs.Prelude.{◌≡◌, ℕ, true, false, List, [], ◌∷◌, map, replicate}
use Rattle.serialize.specs.declared.link.LinkWidth.TheVariants.{Two}
use Rattle.serialize.specs.Objects.{Node}
use Rattle.walk.specs.Computed.{reached, reached_size}

-- a vertex of so many bytes that links to these children
abbrev pub vertex : ℕ → List ℕ → Node
vertex n children = record { bytes = replicate n 0; links = map (λ c. record { position = 0; child = c; width = Two }) children }

-- 0 leads to 1 and 2, and both lead to 3
abbrev pub diamond : List Node
diamond = vertex 4 (1 ∷ 2 ∷ []) ∷ vertex 4 (3 ∷ []) ∷ vertex 8 (3 ∷ []) ∷ vertex 16 [] ∷ []

-- 3 leads to 2, 2 to 1, and 1 to 3; 0 leads to itself
abbrev pub rings : List Node
rings = vertex 1 (0 ∷ []) ∷ vertex 2 (3 ∷ []) ∷ vertex 4 (1 ∷ []) ∷ vertex 8 (2 ∷ []) ∷ []

-- what the roots reach there
pub record Worked : Type 0 where
  pub none : reached_size diamond [] ≡ 0
  pub shared : reached_size diamond (0 ∷ []) ≡ 32
  pub sides : reached_size diamond (1 ∷ 2 ∷ []) ≡ 28
  pub marks : reached diamond (2 ∷ []) ≡ false ∷ false ∷ true ∷ true ∷ []
  pub itself : reached_size rings (0 ∷ []) ≡ 1
  pub ring : reached_size rings (2 ∷ []) ≡ 14
  pub both : reached_size rings (1 ∷ 0 ∷ 3 ∷ []) ≡ 15
