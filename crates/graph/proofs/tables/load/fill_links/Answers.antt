use Rattle.std.proofs.Common.{List, [], ◌∷◌, ◌++◌, map, sym, ap, ◌∙◌, arith}
use Rattle.std.specs.List.{range_with_len}
use Rattle.std.proofs.lemmas.List.{map_push}
use Rattle.std.proofs.lemmas.List.FromFn.{map-range_with_len_more}
use Rattle.serialize.specs.declared.link.Link.{Link}
use Rattle.serialize.specs.declared.object_file.LinkRecord.{LinkRecord}
use Rattle.serialize.specs.ObjectFile.{record_at, link_from}
use Rattle.graph.proofs.tables.load.fill_links.Goals as goal

pub loop-i-preserved : goal.loop-i-preserved
loop-i-preserved c =
    let f = record_at c.args.file.bytes.now c.args.file.trailer in
    let i = c.loop-i.i in
    let more = ap (λ (rs : List LinkRecord). map link_from rs) (map-range_with_len_more f 0 i i (omega arith)) ∙ map_push link_from (map f (range_with_len 0 i)) (f i) in
    let is = c.link.ensures ∙ ap link_from c.record.ensures in
    record {
      items = c.push_reserved.ensures.items ∙ (ap (λ (ls : List Link). ls ++ c.link.result ∷ []) c.loop-i.invariant.items ∙ (ap (λ (l : Link). map link_from (map f (range_with_len 0 i)) ++ l ∷ []) is ∙ sym more));
      len = omega arith;
      capacity = c.push_reserved.ensures.capacity ∙ c.loop-i.invariant.capacity;
    }
