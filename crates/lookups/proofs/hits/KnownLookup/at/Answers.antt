use Rattle.std.proofs.Common.{is_ok, sym, ap, ◌∙◌, subst}
use Rattle.graph.specs.Model.{view}
use Rattle.markbase.specs.Nodes.{node_of}
use Rattle.lookups.specs.Views.{ReadsLookup}
use Rattle.lookups.proofs.Offsets.{fields_of, lookup_is, valued_ok}
use Rattle.lookups.proofs.hits.KnownLookup.at.Goals as goal

pub invariant_of-result : goal.invariant_of-result
invariant_of-result c =
    let l = c.unwrap-lookup.result in
    let here = subst (ReadsLookup (node_of c.from_graph.result)) c.unwrap-lookup.ensures c.read.ensures in
    let is = lookup_is (view c.args.graph.now).nodes c.args.v l (here ∙ c.from_graph.ensures.node) in
    record { read = sym (ap is_ok is ∙ valued_ok (fields_of l).fields _) ∙ c.requires }
