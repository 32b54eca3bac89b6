use Rattle.std.proofs.Common.{◌+◌, ap, ◌∙◌, subst, arith}
use Rattle.cutting.specs.Cutting.{LowestExceeds}
use Rattle.cutting.specs.SplitPoints.{Classes, Cut}
use Rattle.cutting.proofs.Growing.{size_same, growing_on, growing_cut, growing_all, growing_cleared, each_fits}
use Rattle.cutting.proofs.compute_split_points.Goals as goal

pub loop-class-preserved-then-grow-reach : goal.loop-class-preserved-then-grow-reach
loop-class-preserved-then-grow-reach g c =
    let s = c.loop-class.invariant in
    let e = size_same s.3 c.loop-class.start (c.loop-class.class + 1) in
    (growing_on s.0 (omega (arith, c.grow.ensures.size)), c.grow.ensures.ready, c.grow.ensures.grown, c.grow.ensures.same ∙ s.3, λ t k. g.S.Sizing.joins t _ _ (s.4 t k) c.grow.ensures.keeps)

pub loop-class-preserved : goal.loop-class-preserved
loop-class-preserved g c =
    let s = c.loop-class.invariant in
    let begun = c.start-in-loop-class.ensures in
    let same = c.grow.ensures.same ∙ s.3 in
    let e = size_same s.3 c.loop-class.start (c.loop-class.class + 1) in
    let f = size_same same c.loop-class.class (c.loop-class.class + 1) in (
      growing_cut s.0 (omega (arith, c.grow.ensures.size)) (omega (arith, begun.size)) (omega arith),
      begun.ready,
      begun.grown,
      begun.same ∙ same,
      λ t k. g.S.Sizing.joins t _ _ (g.S.Sizing.joins t _ _ (s.4 t k) c.grow.ensures.keeps) begun.keeps,
    )

pub returns-then-start-reach-2-clause-points : goal.returns-then-start-reach-2-clause-points
returns-then-start-reach-2-clause-points g c =
    let s = c.loop-class.invariant in
    let begun = c.start-in-loop-class.ensures in
    let f = size_same (c.grow.ensures.same ∙ s.3) c.loop-class.class (c.loop-class.class + 1) in
    let n = ap (λ (cs : Classes). cs.count) c.start.ensures.same in (
      subst (λ (cs : Classes). LowestExceeds cs.size c.args.reach cs.count c.loop-class.class) c.start.ensures.same (record { within = omega arith; exceeds = omega (arith, begun.size); lowest = each_fits s.0 }),
      c.clear_split_points.ensures ∙ growing_cleared s.0 c.requires.clear (omega arith),
    )

pub returns-then-start-reach-2-clause-keeps : goal.returns-then-start-reach-2-clause-keeps
returns-then-start-reach-2-clause-keeps g c =
    g.S.Sizing.joins _ _ _ (g.S.Sizing.joins _ _ _ (c.loop-class.invariant.4 _ c.start.ensures.keeps) c.grow.ensures.keeps) c.start-in-loop-class.ensures.keeps

pub returns-clause-points : goal.returns-clause-points
returns-clause-points g c =
    let s = c.loop-class.invariant in
    let n = ap (λ (cs : Classes). cs.count) c.start.ensures.same in
    subst (λ (cs : Classes). Cut cs c.args.reach c.loop-class.count c.args.points.now c.loop-class.points) c.start.ensures.same (growing_all s.0 (omega arith) (omega arith))
