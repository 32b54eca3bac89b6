use Rattle.std.proofs.Common.{refl, rules}
use Rattle.workspace.proofs.Views.{view_made}
use Rattle.workspace.proofs.state.Workspace.new.Goals as goal

pub returns : goal.returns
returns c = record { view = view_made _ _ _ _ _ 0 _ c.new.ensures c.fill.ensures.len c.fill-2.ensures.len c.fill-3.ensures.len refl refl; rest = search rules }
