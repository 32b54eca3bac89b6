use Rattle.std.proofs.Common.{refl, arith}
use Rattle.cuttingtests.proofs.Running.{run_more}
use Rattle.cuttingtests.proofs.SharedSizing.grow.Goals as goal

pub returns : goal.returns
returns c =
    let took = c.taken.ensures in
    let run = run_more c.requires.grown c.requires.ready.marks took.size took.small took.marks in
    record { size = run.sum; ready = record { marks = omega (arith, c.taken.auto.marks, c.requires.ready.marks); few = c.requires.ready.few }; grown = run; same = refl; keeps = refl }
