use Rattle.std.proofs.Common.{length, ap, arith}
use Rattle.workspace.proofs.Views.{graph_is, loaded_is}
use Rattle.workspace.proofs.state.Workspace.made.Goals as goal

pub returns : goal.returns
returns c = let w = c.args.self.now in omega (arith, ap (λ g. length g.nodes) (graph_is w), loaded_is w)
