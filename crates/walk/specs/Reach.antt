-- What links reach, and what visit marks say of it.
use Rattle.std.specs.Prelude.{◌≡◌, ℕ, ◌<◌, Bool, true, false, ◌⊎◌, List, [], ◌∷◌, length, replicate, slice_index_or}
use Rattle.serialize.specs.Objects.{Node, links_at, link_at}

-- a link of u leads to v
abbrev pub Leads : List Node → ℕ → ℕ → Type 0
Leads nodes u v = (i : ℕ) × (i < length (links_at nodes u)) × ((link_at (links_at nodes u) i).child ≡ v)

-- w is reached from v by links, however many
pub data Reach (nodes : List Node) : ℕ → ℕ → Type 0 where
  here : {v : ℕ} → Reach nodes v v
  step : {u v w : ℕ} → Leads nodes u v → Reach nodes v w → Reach nodes u w

-- w is reached from one of the roots
abbrev pub Reached : List Node → List ℕ → ℕ → Type 0
Reached nodes [] w = ⊥
Reached nodes (r ∷ roots) w = Reach nodes r w ⊎ Reached nodes roots w

-- a vertex is marked
abbrev pub Marked : List Bool → ℕ → Type 0
Marked marks v = slice_index_or marks v false ≡ true

-- no vertex is marked
abbrev pub Clear : List Bool → Type 0
Clear marks = marks ≡ replicate (length marks) false

-- w is reached from v by links, over vertices none of which is marked
pub data Free (nodes : List Node) (marks : List Bool) : ℕ → ℕ → Type 0 where
  end : {v : ℕ} → (Marked marks v → ⊥) → Free nodes marks v v
  by : {u v w : ℕ} → (Marked marks u → ⊥) → Leads nodes u v → Free nodes marks v w → Free nodes marks u w

-- the marked vertices are exactly those of a set
abbrev pub Exactly : List Bool → (ℕ → Type 0) → Type 0
Exactly marks S = (w : ℕ) → (Marked marks w → S w) × (S w → Marked marks w)

-- then marked is what was marked, or is reached from v over vertices that were not
abbrev pub Spreads : List Node → List Bool → ℕ → List Bool → Type 0
Spreads nodes marks v then = Exactly then (λ w. Marked marks w ⊎ Free nodes marks v w)

-- every child of a marked vertex is marked
abbrev pub Closed : List Node → List Bool → Type 0
Closed nodes marks = (v w : ℕ) → Marked marks v → Leads nodes v w → Marked marks w

-- then marked is what was marked, or is reached from v
abbrev pub Adds : List Node → List Bool → ℕ → List Bool → Type 0
Adds nodes marks v then = Exactly then (λ w. Marked marks w ⊎ Reach nodes v w)

-- marked is what the roots reach
abbrev pub Shows : List Node → List ℕ → List Bool → Type 0
Shows nodes roots marks = Exactly marks (Reached nodes roots)
