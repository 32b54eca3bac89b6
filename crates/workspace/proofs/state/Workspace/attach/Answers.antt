use Rattle.std.proofs.Common.{rules}
use Rattle.graph.specs.Model.{view as objects}
use Rattle.workspace.proofs.Opens.{readable}
use Rattle.workspace.proofs.state.Workspace.attach.Goals as goal

pub attach-requires : goal.attach-requires
attach-requires c = let w = c.args.self.now in readable (objects w.graph).nodes c.in_ok-lookup.lookup w.lookup w.opened (search rules)
