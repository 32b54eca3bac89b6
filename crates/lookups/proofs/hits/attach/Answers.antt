use Rattle.std.proofs.Common.{sym, ap, ◌∙◌, rules}
use Rattle.serialize.specs.Objects.{node_at}
use Rattle.graph.specs.Model.{Model, view}
use Rattle.lookups.specs.declared.lookup.LookupHead.{LookupHead}
use Rattle.lookups.specs.Hits.{attach_in}
use Rattle.lookups.specs.Values.{subtables_from, lookup_of}
use Rattle.lookups.specs.Views.{offsets_of}
use Rattle.lookups.proofs.Known.{hit_at, found_first, attach_is}
use Rattle.lookups.proofs.Offsets.{fields_of, offsets_count, lookup_is}
use Rattle.lookups.proofs.Places.{found_in}
use Rattle.lookups.proofs.hits.attach.Goals as goal

pub returns : goal.returns
returns c =
    let known = c.at-known.result in
    let l = known.lookup in
    let nodes = (view known.graph.now).nodes in
    let vs = offsets_of l in
    let hit = hit_at nodes l.head.kind c.args.mark c.args.base vs in
    let found = found_in _ hit (λ x r q k. (search rules, search rules)) _ _ _ c.find_map.ensures.runs (search rules) in
    let same = c.at-known.ensures.same in
    let is = lookup_is nodes c.args.v l (c.at-known.ensures.node ∙ sym (ap (λ (g : Model). node_at g.nodes c.args.v) same)) in
    found_first nodes l.head.kind c.args.mark c.args.base vs _ _ known.read (offsets_count l ∙ sym (ap (λ (h : LookupHead). h.count) c.head-count.ensures)) found
    ∙ sym (attach_is (fields_of l).fields (subtables_from nodes l.head.kind 0 vs) c.args.mark c.args.base)
    ∙ sym (ap (λ y. attach_in y c.args.mark c.args.base) is)
    ∙ ap (λ (g : Model). attach_in (lookup_of g.nodes c.args.v) c.args.mark c.args.base) same
