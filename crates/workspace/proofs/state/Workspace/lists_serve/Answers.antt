use Rattle.std.proofs.Common.{ap, arith}
use Rattle.std.proofs.lemmas.Bool.Decides.{nat_tests}
use Rattle.workspace.proofs.Views.{lists_are}
use Rattle.workspace.proofs.state.Workspace.lists_serve.Goals as goal

pub returns-then-len-ge-LIST_LEN-2 : goal.returns-then-len-ge-LIST_LEN-2
returns-then-len-ge-LIST_LEN-2 c =
    grind (arith, nat_tests, lists_are c.args.self.now, ap (λ x. x.vertices) c.capacity.ensures.value)

pub returns-else-len-ge-LIST_LEN-2 : goal.returns-else-len-ge-LIST_LEN-2
returns-else-len-ge-LIST_LEN-2 c = grind (arith, nat_tests, lists_are c.args.self.now)
