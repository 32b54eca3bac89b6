-- What one root more adds.
use Rattle.std.proofs.Common.{◌≡◌, ℕ, ◌+◌, ◌<◌, ◌≤◌, Bool, List, [], ◌∷◌, ◌++◌, length, get_or, take, sym, subst, arith}
use Rattle.std.proofs.lemmas.List.{take_more}
use Rattle.serialize.specs.Objects.{Node, SoundObjects}
use Rattle.graph.specs.declared.tables.Graph.{Graph}
use Rattle.graph.specs.Model.{view}
use Rattle.graph.proofs.Views.{sound_objects}
use Rattle.walk.specs.Reach.{Closed, Adds, Shows}
use Rattle.walk.specs.Computed.{reached, marked_size, reached_size, ReachedGrows}
use Rattle.walk.specs.Sizes.{Grows}
use Rattle.walk.proofs.Spread.{shows_closed, shows_more}
use Rattle.walk.proofs.Lengths.{size_grows, size_none, size_small}
use Rattle.walk.proofs.Closure.{reached_long, reached_only, reached_right}

-- what marks show has the size that is computed
pub shows_size : (nodes : List Node) → SoundObjects nodes → (roots : List ℕ) (ms : List Bool) → length nodes ≤ length ms → Shows nodes roots ms → marked_size nodes ms ≡ reached_size nodes roots
shows_size nodes sound roots ms long h =
    let right = reached_right nodes sound roots in
    omega (
      arith,
      size_grows nodes ms (reached nodes roots) (omega (arith, reached_long nodes roots)) (λ w l m. (right w l).1 ((h w).0 m)),
      size_grows nodes (reached nodes roots) ms long (λ w l m. (h w).1 ((right w l).0 m)),
    )

pub reached_grows_lem : ReachedGrows
reached_grows_lem nodes sound xs ys more =
    size_grows nodes (reached nodes xs) (reached nodes ys) (omega (arith, reached_long nodes ys)) (λ w l m. (reached_right nodes sound ys w l).1 (more w (reached_only nodes xs w m)))

-- no root reaches nothing
pub reached_none : (nodes : List Node) → reached_size nodes [] ≡ 0
reached_none nodes = size_none nodes (reached nodes []) (reached_only nodes [])

pub grows : (g : Graph) (roots : List ℕ) (v added : ℕ) (ms ns : List Bool) → length (view g).nodes ≤ length ms → length (view g).nodes ≤ length ns
    → Shows (view g).nodes roots ms → (Closed (view g).nodes ms → Adds (view g).nodes ms v ns) → added + marked_size (view g).nodes ms ≡ marked_size (view g).nodes ns
    → Grows (view g).nodes roots v added ns
grows g roots v added ms ns l m shows adds size =
    let nodes = (view g).nodes in
    let more = shows_more nodes roots v ms ns shows (adds (shows_closed nodes roots ms shows)) in
    let was = shows_size nodes (sound_objects g) roots ms l shows in
    let is = shows_size nodes (sound_objects g) (roots ++ v ∷ []) ns m more in
    record { marks = more; size = omega (arith, was, is); small = size_small g (reached nodes (roots ++ v ∷ [])) }

-- the same, where the roots so far are the first i of all
pub grown : (nodes : List Node) (roots : List ℕ) (i added : ℕ) (ns : List Bool) → i < length roots → Grows nodes (take i roots) (get_or roots i 0) added ns
    → Shows nodes (take (i + 1) roots) ns × (added + reached_size nodes (take i roots) ≡ reached_size nodes (take (i + 1) roots))
grown nodes roots i added ns l g =
    subst (λ (xs : List ℕ). Shows nodes xs ns × (added + reached_size nodes (take i roots) ≡ reached_size nodes xs)) (sym (take_more roots i 0 l)) (g.marks, g.size)
