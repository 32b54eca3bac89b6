use Rattle.std.proofs.Common.{◌≡◌, ◌≤◌, length, take}
use Rattle.graph.specs.Model.{view}
use Rattle.walk.specs.Reach.{Shows}
use Rattle.walk.specs.Computed.{reached_size}
use Rattle.walk.specs.Sizes.{Vertices}
use Rattle.walk.proofs.all.size_of_all.Given as goal

abbrev pub invariant-loop-index : goal.invariant-loop-index
invariant-loop-index l =
    Vertices (view l.graph).nodes l.roots l.index
    × Shows (view l.graph).nodes (take l.index l.roots) l.marks.visited.now
    × (l.size ≡ reached_size (view l.graph).nodes (take l.index l.roots))
    × (length (view l.graph).nodes ≤ length l.marks.visited.now)
