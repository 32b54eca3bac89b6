use Rattle.std.proofs.Common.{ap, rules}
use Rattle.serialize.specs.Objects.{Node}
use Rattle.workspace.specs.Model.{view}
use Rattle.workspace.proofs.state.Workspace.vertex.Goals as goal

pub returns : goal.returns
unfolding view
returns c =
    let bytes = ap (λ (x : Node). x.bytes) c.from_graph.ensures.node in
    let links = ap (λ (x : Node). x.links) c.from_graph.ensures.node in
    search rules
