use Rattle.std.proofs.Common.{◌≡◌, map, vec_items, vec_len, vec_capacity}
use Rattle.std.specs.List.{range_with_len}
use Rattle.serialize.specs.ObjectFile.{record_at, link_from}
use Rattle.graph.proofs.tables.load.fill_links.Given as goal

abbrev pub invariant-loop-i : goal.invariant-loop-i
invariant-loop-i l =
    record {
      items : vec_items l.links ≡ map link_from (map (record_at l.file.bytes.now l.file.trailer) (range_with_len 0 l.i));
      len : vec_len l.links ≡ l.i;
      capacity : vec_capacity l.links ≡ vec_capacity l.fn.links;
    }
