use Rattle.std.proofs.Common.{◌≡◌, drop}
use Rattle.graph.specs.Model.{view}
use Rattle.lookups.specs.Judging.{wrong_among}
use Rattle.lookups.specs.Views.{offsets_of}
use Rattle.lookups.proofs.judge.CountedGraph.judge_subtables.Given as goal

abbrev pub invariant-loop-i : goal.invariant-loop-i
invariant-loop-i l =
    wrong_among (view l.self.graph.now).nodes l.lookup.head.kind l.i (drop l.i (offsets_of l.lookup)) ≡ wrong_among (view l.self.graph.now).nodes l.lookup.head.kind 0 (offsets_of l.lookup)
