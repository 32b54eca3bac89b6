use Rattle.std.proofs.Common.{sym, ap, ◌∙◌, arith}
use Rattle.serialize.proofs.Files.{whole}
use Rattle.graph.proofs.Views.{capacity_is, same_tables, view_made}
use Rattle.graph.proofs.Segments.{loadable}
use Rattle.graph.proofs.Filled.{tables_file, nodes_file, area_long}
use Rattle.graph.proofs.tables.Graph.fill.Goals as goal

pub fill_vertices-requires : goal.fill_vertices-requires
fill_vertices-requires c = let g = c.args.self.now in omega (arith, g.vertices_hold, c.requires, ap (λ x. x.vertices) (capacity_is g))

pub fill_links-requires : goal.fill_links-requires
fill_links-requires c = let g = c.args.self.now in omega (arith, g.links_hold, c.requires, ap (λ x. x.links) (capacity_is g))

pub fill_bytes-requires : goal.fill_bytes-requires
fill_bytes-requires c =
    let g = c.args.self.now in
    let s = c.args.sound in
    omega (arith, area_long s.file.bytes.now s.file.trailer (loadable s), g.bytes_hold, c.requires, ap (λ x. x.bytes) (capacity_is g))

pub invariant_of-self : goal.invariant_of-self
invariant_of-self c =
    let g = c.args.self.now in
    let file = c.args.sound.file.bytes.now in
    let t = c.args.sound.file.trailer in
    let ok = loadable c.args.sound in
    let vs = ap (λ x. x.vertices) (capacity_is g) in
    let ls = ap (λ x. x.links) (capacity_is g) in
    let bs = ap (λ x. x.bytes) (capacity_is g) in
    let mark = c.fill_bytes.ensures.len ∙ area_long file t ok in
    let x = same_tables (tables_file file t ok) c.fill_vertices.ensures.items c.fill_links.ensures.items c.fill_bytes.ensures.items mark c.fill_links.ensures.len in
    record {
      vertices_hold = (omega (arith, vs, c.requires, c.fill_vertices.ensures.len), omega (arith, g.vertices_hold, c.fill_vertices.ensures.capacity), g.vertices_hold.2);
      links_hold = (omega (arith, ls, c.requires, c.fill_links.ensures.len), omega (arith, g.links_hold, c.fill_links.ensures.capacity), g.links_hold.2);
      bytes_hold = (omega (arith, bs, c.requires, mark), omega (arith, g.bytes_hold, c.fill_bytes.ensures.capacity), g.bytes_hold.2);
      below = x.below;
      apart = x.apart;
      placed = x.placed;
      covered = x.covered;
      ordered = x.ordered;
      inside = x.inside;
      blank = x.blank;
    }

pub returns : goal.returns
returns c =
    let file = c.args.sound.file.bytes.now in
    let t = c.args.sound.file.trailer in
    let ok = loadable c.args.sound in
    let mark = (c.fill_bytes.ensures.len ∙ area_long file t ok) ∙ sym (whole file t ok.0).adds_up in
    view_made _ _ _ _ _ _ _ c.fill_vertices.ensures.items c.fill_links.ensures.items c.fill_bytes.ensures.items (nodes_file file t ok) mark (sym (capacity_is c.args.self.now))

pub slice_bounds-fill_bytes-end : goal.slice_bounds-fill_bytes-end
slice_bounds-fill_bytes-end c = sym (area_long c.args.sound.file.bytes.now c.args.sound.file.trailer (loadable c.args.sound))
