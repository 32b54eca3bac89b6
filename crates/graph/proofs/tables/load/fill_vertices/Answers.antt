use Rattle.std.proofs.Common.{◌≡◌, ◌-◌, List, [], ◌∷◌, ◌++◌, map, sym, refl, ap, ◌∙◌, arith}
use Rattle.std.specs.List.{range_with_len}
use Rattle.std.proofs.lemmas.List.FromFn.{map-range_with_len_more}
use Rattle.graph.specs.declared.vertex.Vertex.{Vertex}
use Rattle.graph.specs.Filling.{row_at}
use Rattle.serialize.proofs.Files.{whole, start_more, start_end}
use Rattle.graph.proofs.Segments.{loadable, first_none, first_le, first_up}
use Rattle.graph.proofs.tables.load.fill_vertices.Goals as goal

pub loop-v-init : goal.loop-v-init
loop-v-init c =
    record { items = c.clear.ensures.items; len = c.clear.ensures.len; capacity = c.clear.ensures.capacity; head = refl; first = sym (first_none c.args.sound.file.bytes.now c.args.sound.file.trailer (loadable c.args.sound)) }

pub overflow_cast-first : goal.overflow_cast-first
overflow_cast-first c = omega (arith, c.loop-v.invariant.first, first_le c.args.sound.file.bytes.now c.args.sound.file.trailer c.loop-v.v)

pub overflow_sub-end : goal.overflow_sub-end
overflow_sub-end c = omega (arith, first_up c.args.sound.file.bytes.now c.args.sound.file.trailer (loadable c.args.sound) c.loop-v.v)

pub overflow_add-head : goal.overflow_add-head
overflow_add-head c =
    let w = whole c.args.sound.file.bytes.now c.args.sound.file.trailer c.args.sound.file.read in
    omega (arith, start_end _ _ w c.loop-v.v (omega arith))

pub loop-v-preserved : goal.loop-v-preserved
loop-v-preserved c =
    let file = c.args.sound.file.bytes.now in
    let t = c.args.sound.file.trailer in
    let v = c.loop-v.v in
    let f = row_at file t in
    let head = c.loop-v.invariant.head in
    let first = c.loop-v.invariant.first in
    let len = c.length-len.ensures in
    let end = c.records_end-end.ensures in
    let r : Vertex = record { head = c.loop-v.head; len = c.length-len.result; first_link = c.loop-v.first; link_count = c.records_end-end.result - c.loop-v.first } in
    let is : r ≡ f v = cc in
    record {
      items =
          c.push_reserved.ensures.items
          ∙ (ap (λ (rs : List Vertex). rs ++ r ∷ []) c.loop-v.invariant.items ∙ (ap (λ (x : Vertex). map f (range_with_len 0 v) ++ x ∷ []) is ∙ sym (map-range_with_len_more f 0 v v (omega arith))));
      len = omega arith;
      capacity = c.push_reserved.ensures.capacity ∙ c.loop-v.invariant.capacity;
      head = omega (arith, start_more file t v (omega arith));
      first = end;
    }
