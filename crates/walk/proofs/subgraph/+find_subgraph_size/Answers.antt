use Rattle.std.proofs.Common.{◌≡◌, ℕ, ◌<◌, true, false, List, length, get_or, set, sym, ap, subst, arith, length-set}
use Rattle.std.proofs.lemmas.Bool.{both_ways}
use Rattle.serialize.specs.declared.link.Link.{Link}
use Rattle.serialize.specs.Objects.{link_at, links_at}
use Rattle.graph.specs.Model.{view}
use Rattle.graph.proofs.Views.{sound_objects}
use Rattle.walk.specs.Reach.{Marked}
use Rattle.walk.proofs.Marking.{unmarked_set, unmarked_falls}
use Rattle.walk.proofs.Spread.{Swept, Only, Sent, spreads, swept, nowhere, sent_more, whole, adds}
use Rattle.walk.proofs.Lengths.{size_set, size_small}
use Rattle.walk.proofs.subgraph.+find_subgraph_size.Goals as goal

pub returns-then-visited-v-clause-closed : goal.returns-then-visited-v-clause-closed
returns-then-visited-v-clause-closed t c =
    adds c.args.v (nowhere {S = Only c.args.v} (λ r same. subst (Marked c.args.visited.now) (sym same) c.if-visited-v.true))

pub find_subgraph_size-size-requires : goal.find_subgraph_size-size-requires
find_subgraph_size-size-requires t c =
    let nodes = (view c.args.graph.now).nodes in
    let links = c.links-link-items.ensures.value in
    let here : c.args.v < length c.args.visited.now = omega arith in
    let fewer = unmarked_set c.args.visited.now c.args.v here c.if-visited-v.false in
    let kept = unmarked_falls _ c.loop-link.visited (sym c.loop-link.auto.visited) c.loop-link.invariant.0.grows in
    let within : c.loop-link.link-index < length (links_at nodes c.args.v) = omega (arith, ap length links, c.loop-link-test.true) in
    let child = ((sound_objects c.args.graph.now c.args.v c.requires.vertex).1 c.loop-link.link-index within).0 in (
      omega (arith, fewer, kept, c.decreases),
      (
        subst (λ (ls : List Link). (link_at ls c.loop-link.link-index).child < length nodes) (sym links) child,
        omega (arith, c.loop-link.auto.visited, length-set c.args.visited.now c.args.v true),
      ),
    )

pub overflow_add-size : goal.overflow_add-size
overflow_add-size t c =
    let nodes = (view c.args.graph.now).nodes in
    let here : c.args.v < length c.args.visited.now = omega arith in
    omega (
      arith,
      c.loop-link.invariant.1,
      c.find_subgraph_size-size.ensures.size,
      ap length c.vertex_data-size.ensures,
      size_set nodes c.args.visited.now c.args.v c.requires.vertex here c.if-visited-v.false,
      size_small c.args.graph.now c.find_subgraph_size-size.new.visited,
    )

pub loop-link-preserved : goal.loop-link-preserved
loop-link-preserved t c =
    let nodes = (view c.args.graph.now).nodes in
    let one =
    subst (λ (ls : List Link). Swept nodes c.loop-link.visited (Only (link_at ls c.loop-link.link-index).child) c.find_subgraph_size-size.new.visited)
    c.links-link-items.ensures.value (swept c.find_subgraph_size-size.ensures.marks) in
    (sent_more (links_at nodes c.args.v) c.loop-link.link-index c.loop-link.invariant.0 one, omega (arith, c.loop-link.invariant.1, c.find_subgraph_size-size.ensures.size))

pub returns : goal.returns
returns t c =
    let nodes = (view c.args.graph.now).nodes in
    let here : c.args.v < length c.args.visited.now = omega arith in
    let done : c.loop-link.link-index ≡ length (links_at nodes c.args.v) =
    omega (arith, ap length c.links-link-items.ensures.value, c.loop-link-test.false, c.loop-link.auto.link-index-end) in
    let all = subst (λ (n : ℕ). Swept nodes (set c.args.visited.now c.args.v true) (Sent (links_at nodes c.args.v) n) c.loop-link.visited) done c.loop-link.invariant.0 in
    let s = whole c.args.v here (both_ways (get_or c.args.visited.now c.args.v false) c.if-visited-v.false) all in
    record {
      marks = spreads s;
      closed = adds c.args.v s;
      size = omega (arith, c.loop-link.invariant.1, ap length c.vertex_data-size.ensures, size_set nodes c.args.visited.now c.args.v c.requires.vertex here c.if-visited-v.false);
    }
