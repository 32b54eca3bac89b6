use Rattle.std.proofs.Common.{◌≡◌}
use Rattle.cutting.proofs.Growing.{Growing}
use Rattle.cutting.proofs.compute_split_points.Given as goal

abbrev pub invariant-loop-class : goal.invariant-loop-class
invariant-loop-class g l =
    Growing (g.S.Sizing.classes l.initial.sizes) l.reach l.start l.class l.count l.initial.points l.points
    × g.S.Sizing.ready l.sizes
    × g.S.Sizing.grown l.sizes l.start l.class
    × (g.S.Sizing.classes l.sizes ≡ g.S.Sizing.classes l.initial.sizes)
    × ((s : _) → g.S.Sizing.keeps s l.initial.sizes → g.S.Sizing.keeps s l.sizes)
