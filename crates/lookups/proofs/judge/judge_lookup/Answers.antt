use Rattle.std.proofs.Common.{◌≡◌, ap, ◌∙◌, arith, rules}
use Rattle.std.proofs.lemmas.Result.{err_from_is_err_and}
use Rattle.graph.specs.Model.{view}
use Rattle.markbase.specs.Nodes.{node_of}
use Rattle.lookups.specs.declared.lookup.LookupHead.{LookupHead}
use Rattle.lookups.proofs.Judged.{wrong_view, count_view}
use Rattle.lookups.proofs.judge.judge_lookup.Goals as goal

pub returns-in_err-judge_subtables : goal.returns-in_err-judge_subtables
returns-in_err-judge_subtables c =
    let p = err_from_is_err_and c.from_residual-in_err-judge_subtables.result c.from_residual-in_err-judge_subtables.ensures.1 in
    let r : node_of c.in_ok-lookup.lookup.vertex ≡ node_of c.from_graph.result = search rules in
    rw (p.1, p.2) (wrong_view (view c.args.graph.now).nodes _ _ (r ∙ c.from_graph.ensures.node) ∙ c.in_err-judge_subtables.ensures)

pub returns : goal.returns
returns c =
    let r : node_of c.in_ok-lookup.lookup.vertex ≡ node_of c.from_graph.result = search rules in
    let nodes = (view c.args.graph.now).nodes in
    let is = r ∙ c.from_graph.ensures.node in
    (wrong_view nodes c.in_ok-lookup.lookup _ is ∙ c.in_ok-judge_subtables.ensures, omega (arith, c.from.ensures, ap (λ (h : LookupHead). h.count) c.head.ensures, count_view nodes c.in_ok-lookup.lookup _ is))
