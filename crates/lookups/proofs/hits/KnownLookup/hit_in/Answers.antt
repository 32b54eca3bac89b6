use Rattle.std.proofs.Common.{◌<◌, length, is_ok, ◌∙◌, arith}
use Rattle.graph.specs.Model.{view}
use Rattle.markbase.specs.Parts.{subtable_of}
use Rattle.lookups.specs.Views.{offsets_of}
use Rattle.lookups.proofs.Offsets.{offsets_count}
use Rattle.lookups.proofs.Known.{known_at}
use Rattle.lookups.proofs.hits.KnownLookup.hit_in.Goals as goal

pub known_table-requires : goal.known_table-requires
known_table-requires c =
    let known = c.args.self.now in
    let nodes = (view known.graph.now).nodes in
    let lt : c.args.i < length (offsets_of known.lookup) = omega (arith, c.requires, offsets_count known.lookup) in
    (λ j. is_ok (subtable_of nodes (c.head-kind.ensures j).kind (c.subtable.ensures j))) ∙ known_at nodes known.lookup.head.kind 0 0 0 (offsets_of known.lookup) c.args.i known.read lt
