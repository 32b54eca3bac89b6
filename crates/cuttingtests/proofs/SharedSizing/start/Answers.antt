use Rattle.std.proofs.Common.{◌≡◌, false, length, replicate, refl, arith, rules}
use Rattle.cuttingtests.specs.Shared.{Run}
use Rattle.cuttingtests.proofs.Running.{run_none, run_more}
use Rattle.cuttingtests.proofs.SharedSizing.start.Goals as goal

pub returns : goal.returns
returns c =
    let s = c.args.self.now in
    let took = c.taken.ensures in
    let clear : c.fill.new.self ≡ replicate (length s.marks.now) false = search rules in
    let none : Run s.base s.things.now s.sizes.now c.fill.new.self s.base c.args.class c.args.class = rw clear (run_none (length s.marks.now) c.args.class) in
    let run = run_more none (omega (arith, c.fill.ensures.len, c.requires.ready.marks)) took.size took.small took.marks in
    record { size = run.sum; ready = record { marks = omega (arith, c.taken.auto.marks, c.fill.ensures.len, c.requires.ready.marks); few = c.requires.ready.few }; grown = run; same = refl; keeps = refl }
