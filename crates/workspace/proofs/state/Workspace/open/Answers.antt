use Rattle.std.proofs.Common.{ℕ, List, sym, refl, ◌∙◌, subst, arith}
use Rattle.std.proofs.lemmas.List.{with_items_is}
use Rattle.std.proofs.lemmas.Result.{err_from_is_err_and}
use Rattle.graph.specs.Model.{view as objects}
use Rattle.workspace.specs.Model.{view}
use Rattle.workspace.specs.Rest.{Zero}
use Rattle.workspace.proofs.Opens.{open_refused, open_free, past_vertices, all_zero, opens_well}
use Rattle.workspace.proofs.Kept.{keeps}
use Rattle.workspace.proofs.state.Workspace.open.Goals as goal

pub returns-in-Some : goal.returns-in-Some
unfolding view
returns-in-Some c = record { opens = (open_refused c.args.self.now c.args.vertex _ c.in-Some.is, refl); law = tt }

pub returns-then-vertex-vertex_count : goal.returns-then-vertex-vertex_count
unfolding view
returns-then-vertex-vertex_count c =
    let w = c.args.self.now in
    record { opens = (open_free w c.args.vertex c.in_default.is ∙ past_vertices (objects w.graph).nodes c.args.vertex (omega arith), refl); law = tt }

pub invariant_of-self-in-Break-1 : goal.invariant_of-self-in-Break-1
invariant_of-self-in-Break-1 c =
    let w = c.args.self.now in
    let z = c.judge.ensures.zero in
    let n = all_zero _ _ z in
    let is = with_items_is w.first_list c.judge.new.list (n.0 ∙ c.as_mut_slice.ensures.len) in
    record { first = subst (λ (xs : List ℕ). Zero xs) (sym is) n.1; second = w.second; clear = w.clear; served = w.served; opened = w.opened; kept = w.kept }

pub returns-in_err-count : goal.returns-in_err-count
unfolding view
returns-in_err-count c =
    let w = c.args.self.now in
    let p = err_from_is_err_and c.from_residual.result c.from_residual.ensures.1 in
    rw (p.1, p.2) (record { opens = (open_free w c.args.vertex c.in_default.is ∙ c.in_err-count.ensures.judged, refl); law = tt })

pub invariant_of-self-2 : goal.invariant_of-self-2
invariant_of-self-2 c =
    let w = c.args.self.now in
    let z = c.judge.ensures.zero in
    let n = all_zero _ _ z in
    let is = with_items_is w.first_list c.judge.new.list (n.0 ∙ c.as_mut_slice.ensures.len) in
    let j = c.in_ok-count.ensures.judged in
    record { first = subst (λ (xs : List ℕ). Zero xs) (sym is) n.1; second = w.second; clear = w.clear; served = w.served; opened = opens_well (objects w.graph).nodes c.args.vertex j.0; kept = w.kept }

pub returns : goal.returns
unfolding view
returns c =
    let w = c.args.self.now in
    let j = c.in_ok-count.ensures.judged in
    record { opens = (open_free w c.args.vertex c.in_default.is ∙ j.0, j.1, refl); law = keeps _ c.args.vertex refl }
