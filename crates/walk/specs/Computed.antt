-- What roots reach, and its size, computed.
use Rattle.std.specs.Prelude.{ℕ, zero, suc, ◌+◌, ◌<◌, ◌≤◌, Bool, true, false, List, [], ◌∷◌, map, length, replicate, slice_index_or, slice_set}
use Rattle.serialize.specs.declared.link.Link.{Link}
use Rattle.serialize.specs.Objects.{Node, SoundObjects}
use Rattle.walk.specs.Reach.{Marked, Reached}

-- marks these vertices too
abbrev pub marking : List ℕ → List Bool → List Bool
marking [] marks = marks
marking (v ∷ vs) marks = marking vs (slice_set marks v true)

-- the children of a vertex
abbrev pub children : Node → List ℕ
children x = map (λ (l : Link). l.child) x.links

-- marks the children of a vertex, if it is marked itself
abbrev pub follow : Bool → Node → List Bool → List Bool
follow true x marks = marking (children x) marks
follow false x marks = marks

-- does so for each vertex, from v on
abbrev pub sweep : ℕ → List Node → List Bool → List Bool
sweep v [] marks = marks
sweep v (x ∷ xs) marks = sweep (suc v) xs (follow (slice_index_or marks v false) x marks)

-- does so n times over
abbrev pub spread : ℕ → List Node → List Bool → List Bool
spread zero nodes marks = marks
spread (suc n) nodes marks = spread n nodes (sweep 0 nodes marks)

-- marks what the roots reach: as often as there are vertices is enough
unfoldable pub reached : List Node → List ℕ → List Bool
reached nodes roots = spread (length nodes) nodes (marking roots (replicate (length nodes) false))

-- the length of all marked vertices together
abbrev pub marked_size : List Node → List Bool → ℕ
marked_size [] marks = 0
marked_size (x ∷ xs) [] = 0
marked_size (x ∷ xs) (true ∷ marks) = length x.bytes + marked_size xs marks
marked_size (x ∷ xs) (false ∷ marks) = marked_size xs marks

-- the length of all that the roots reach, each vertex once
abbrev pub reached_size : List Node → List ℕ → ℕ
reached_size nodes roots = marked_size nodes (reached nodes roots)

-- the computed marks are right: a vertex is marked exactly if the roots reach it
abbrev pub Right : List Node → List ℕ → Type 0
Right nodes roots = (w : ℕ) → w < length nodes → (Marked (reached nodes roots) w → Reached nodes roots w) × (Reached nodes roots w → Marked (reached nodes roots) w)

-- they are for all sound objects
abbrev pub ReachedRight : Type 0
ReachedRight = (nodes : List Node) → SoundObjects nodes → (roots : List ℕ) → Right nodes roots

-- roots that reach no less have no smaller size
abbrev pub ReachedGrows : Type 0
ReachedGrows = (nodes : List Node) → SoundObjects nodes → (xs ys : List ℕ) → ((w : ℕ) → Reached nodes xs w → Reached nodes ys w) → reached_size nodes xs ≤ reached_size nodes ys
