use Rattle.std.proofs.Common.{rules}
use Rattle.graph.proofs.Found.{parted, link_in-kept}
use Rattle.graph.proofs.tables.access.find.Goals as goal

pub returns : goal.returns
returns c =
    let ls = c.args.links.now in
    let i = c.partition_point-i.result in
    let at = parted ls c.args.position i c.requires c.partition_point-i.ensures.partitioned (λ a r q k. search rules) in
    link_in-kept _ ls c.args.position i _ _ _ c.requires at c.get.ensures.lookup c.copied.ensures c.filter.ensures (λ y b k. search rules)
