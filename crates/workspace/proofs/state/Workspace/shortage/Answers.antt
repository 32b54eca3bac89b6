use Rattle.std.proofs.Common.{◌≡◌, sym, ap, ◌∙◌, arith}
use Rattle.std.proofs.lemmas.Bool.Decides.{nat_tests}
use Rattle.graph.specs.declared.vertex.Capacity.{Capacity}
use Rattle.workspace.specs.declared.state.Workspace.{Workspace}
use Rattle.workspace.specs.Model.{view}
use Rattle.graph.specs.Model.{view as objects}
use Rattle.workspace.proofs.Views.{graph_is}
use Rattle.workspace.proofs.state.Workspace.shortage.Goals as goal

-- the capacities that were read are the model's
read : (w : Workspace) (r : Capacity) → r ≡ (objects w.graph).capacity → r ≡ (view w).graph.capacity
read w r e = e ∙ ap (λ g. g.capacity) (sym (graph_is w))

pub returns-then-trailer-capacity : goal.returns-then-trailer-capacity
returns-then-trailer-capacity c = let r = read c.args.self.now _ c.capacity-capacity.ensures.value in grind (arith, nat_tests, ap (λ x. x.vertices) r)

pub returns-then-trailer-capacity-2 : goal.returns-then-trailer-capacity-2
returns-then-trailer-capacity-2 c = let r = read c.args.self.now _ c.capacity-capacity.ensures.value in grind (arith, nat_tests, ap (λ x. x.vertices) r, ap (λ x. x.links) r)

pub returns-then-trailer-capacity-3 : goal.returns-then-trailer-capacity-3
returns-then-trailer-capacity-3 c =
    let r = read c.args.self.now _ c.capacity-capacity.ensures.value in
    grind (arith, nat_tests, ap (λ x. x.vertices) r, ap (λ x. x.links) r, ap (λ x. x.bytes) r)

pub returns-then-not-lists_serve : goal.returns-then-not-lists_serve
returns-then-not-lists_serve c =
    let r = read c.args.self.now _ c.capacity-capacity.ensures.value in
    grind (arith, nat_tests, ap (λ x. x.vertices) r, ap (λ x. x.links) r, ap (λ x. x.bytes) r)

pub returns : goal.returns
returns c =
    let r = read c.args.self.now _ c.capacity-capacity.ensures.value in
    grind (arith, nat_tests, ap (λ x. x.vertices) r, ap (λ x. x.links) r, ap (λ x. x.bytes) r)
