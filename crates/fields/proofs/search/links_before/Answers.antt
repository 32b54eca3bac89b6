use Rattle.std.proofs.Common.{ltb, rules}
use Rattle.std.proofs.lemmas.List.Sorted.{IsPartitionPoint-from_clause, IsPartitionedBy-ltb}
use Rattle.serialize.specs.declared.link.Link.{Link}
use Rattle.fields.proofs.Seeks.{rising, from_parted}
use Rattle.fields.proofs.search.links_before.Goals as goal

pub returns-clause-rest : goal.returns-clause-rest
returns-clause-rest c =
    let p = c.args.place in
    let parted = IsPartitionedBy-ltb (λ (l : Link). l.position) _ p (rising c.args.links.now c.requires) in
    from_parted p _ _ (IsPartitionPoint-from_clause (λ (l : Link). ltb l.position p) _ _ c.partition_point.ensures.partitioned parted (λ a r q k. search rules))
