use Rattle.std.proofs.Common.{is_ok, ap, ◌∙◌}
use Rattle.std.proofs.lemmas.Result.{err_from_is_err_and}
use Rattle.graph.specs.Model.{view}
use Rattle.lookups.specs.Values.{valued}
use Rattle.lookups.proofs.Offsets.{fields_of, lookup_is, valued_ok}
use Rattle.lookups.proofs.reads.read_lookup.Goals as goal

pub returns-in_err-check_subtables : goal.returns-in_err-check_subtables
returns-in_err-check_subtables c =
    let p = err_from_is_err_and c.from_residual-in_err-check_subtables.result c.from_residual-in_err-check_subtables.ensures.1 in
    let read = c.in_ok-lookup.ensures in
    let is = lookup_is (view c.args.graph.now).nodes c.args.v c.in_ok-lookup.lookup (read ∙ c.from_graph.ensures.node) in
    rw (p.1, p.2) (is ∙ ap (valued (fields_of c.in_ok-lookup.lookup).fields) c.in_err-check_subtables.ensures)

pub returns : goal.returns
returns c =
    let read = c.in_ok-lookup.ensures in
    let here = read ∙ c.from_graph.ensures.node in
    let is = lookup_is (view c.args.graph.now).nodes c.args.v c.in_ok-lookup.lookup here in
    (ap is_ok is ∙ valued_ok (fields_of c.in_ok-lookup.lookup).fields _ ∙ c.in_ok-check_subtables.ensures, here)
