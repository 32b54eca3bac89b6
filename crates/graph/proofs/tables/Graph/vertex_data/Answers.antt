use Rattle.std.proofs.Common.{◌≡◌, ℕ, ◌+◌, ◌-◌, List, take, drop, vec_items, sym, ap, ◌∙◌, arith}
use Rattle.graph.specs.declared.vertex.Vertex.{Vertex}
use Rattle.serialize.specs.Objects.{Node}
use Rattle.graph.specs.Sound.{area}
use Rattle.graph.proofs.Views.{node_is}
use Rattle.graph.proofs.tables.Graph.vertex_data.Goals as goal

pub returns : goal.returns
returns c =
    let g = c.args.self.now in
    let r = c.vertex-r.result in
    let n : r.head + r.len - r.head ≡ r.len = omega arith in
    ap (λ (k : ℕ). take k (drop r.head c.as_slice.result.now)) n
    ∙ (ap (λ (xs : List ℕ). area xs r) c.as_slice.ensures.value
    ∙ (ap (λ (x : Vertex). area (vec_items g.bytes) x) c.vertex-r.ensures.value ∙ ap (λ (x : Node). x.bytes) (sym (node_is g c.args.v c.vertex-r.ensures.count))))
