use Rattle.std.proofs.Common.{◌≡◌, ◌+◌}
use Rattle.serialize.specs.Objects.{links_at}
use Rattle.graph.specs.Model.{view}
use Rattle.walk.specs.Computed.{marked_size}
use Rattle.walk.proofs.Marking.{unmarked}
use Rattle.walk.proofs.Spread.{Swept, Sent}
use Rattle.walk.proofs.subgraph.+find_subgraph_size.Given as goal

abbrev pub decreases-find_subgraph_size : goal.decreases-find_subgraph_size
decreases-find_subgraph_size l = unmarked l.visited.now

abbrev pub invariant-loop-link : goal.invariant-loop-link
invariant-loop-link l =
    Swept (view l.graph).nodes l.initial.visited (Sent (links_at (view l.graph).nodes l.v) l.link-index) l.visited
    × (l.size + marked_size (view l.graph).nodes l.initial.visited ≡ l.initial.size + marked_size (view l.graph).nodes l.visited)
