use Rattle.std.proofs.Common.{◌≡◌, map, vec_items, vec_len, vec_capacity}
use Rattle.std.specs.List.{range_with_len}
use Rattle.serialize.specs.ObjectFile.{start_at}
use Rattle.graph.specs.Filling.{first_of, row_at}
use Rattle.graph.proofs.tables.load.fill_vertices.Given as goal

abbrev pub invariant-loop-v : goal.invariant-loop-v
invariant-loop-v l =
    let file = l.sound.file.bytes.now in
    let t = l.sound.file.trailer in
    record {
      items : vec_items l.vertices ≡ map (row_at file t) (range_with_len 0 l.v);
      len : vec_len l.vertices ≡ l.v;
      capacity : vec_capacity l.vertices ≡ vec_capacity l.fn.vertices;
      head : l.head ≡ start_at file t l.v;
      first : l.first ≡ first_of file t l.v;
    }
