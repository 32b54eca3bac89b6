use Rattle.std.proofs.Common.{take, sym, arith, below_more}
use Rattle.graph.specs.Model.{view}
use Rattle.walk.proofs.Spread.{shows_none}
use Rattle.walk.proofs.Growing.{reached_none, grown}
use Rattle.walk.proofs.all.size_of_all.Goals as goal

pub loop-index-init : goal.loop-index-init
loop-index-init c =
    let nodes = (view c.args.graph.now).nodes in
    (λ k h. absurd (omega (arith, h)), shows_none nodes c.args.visited.now c.requires.clear, sym (reached_none nodes), c.requires.marks)

pub loop-index-preserved : goal.loop-index-preserved
loop-index-preserved c =
    let nodes = (view c.args.graph.now).nodes in
    let roots = c.args.roots.now in
    let i = c.loop-index.index in
    let more = grown nodes roots i c.add_root-size.result c.add_root-size.new.visited c.loop-index-test.true (c.add_root-size.ensures (take i roots) c.loop-index.invariant.1) in (
      below_more _ _ c.loop-index.invariant.0 (omega (arith, c.if-v-vertex_count.false, c.vertex_count.ensures.value)),
      more.0,
      omega (arith, more.1, c.loop-index.invariant.2),
      omega (arith, c.loop-index.invariant.3, c.add_root-size.auto.visited),
    )
