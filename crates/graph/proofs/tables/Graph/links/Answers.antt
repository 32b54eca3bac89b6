use Rattle.std.proofs.Common.{◌≡◌, ℕ, ◌+◌, ◌-◌, List, take, drop, vec_items, sym, ap, ◌∙◌, subst, arith}
use Rattle.serialize.specs.declared.link.Link.{Link}
use Rattle.graph.specs.declared.vertex.Vertex.{Vertex}
use Rattle.serialize.specs.Objects.{Node, Ascends, links_at}
use Rattle.graph.specs.Sound.{segment}
use Rattle.graph.specs.Model.{view}
use Rattle.graph.proofs.Views.{node_is, links_up}
use Rattle.graph.proofs.tables.Graph.links.Goals as goal

pub returns : goal.returns
returns c =
    let g = c.args.self.now in
    let v = c.args.v in
    let r = c.vertex-r.result in
    let lt = c.vertex-r.ensures.count in
    let n : r.first_link + r.link_count - r.first_link ≡ r.link_count = omega arith in
    let is : take (r.first_link + r.link_count - r.first_link) (drop r.first_link c.as_slice.result.now) ≡ links_at (view g).nodes v =
    ap (λ (k : ℕ). take k (drop r.first_link c.as_slice.result.now)) n
    ∙ (ap (λ (xs : List Link). segment xs r) c.as_slice.ensures.value
    ∙ (ap (λ (x : Vertex). segment (vec_items g.links) x) c.vertex-r.ensures.value ∙ ap (λ (x : Node). x.links) (sym (node_is g v lt)))) in
    record { value = is; ascending = subst (λ (xs : List Link). Ascends xs) (sym is) (links_up g v lt) }
