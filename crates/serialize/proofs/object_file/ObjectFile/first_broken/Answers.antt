use Rattle.std.proofs.Common.{sym, arith, below_more}
use Rattle.serialize.specs.ObjectFile.{keeps_rules, first_broken}
use Rattle.serialize.proofs.Firsts.{none_in, some_in}
use Rattle.serialize.proofs.object_file.ObjectFile.first_broken.Goals as goal

pub returns-in_default : goal.returns-in_default
unfolding first_broken
returns-in_default c = sym (some_in c.args.self.trailer.links (keeps_rules c.args.self.bytes.now c.args.self.trailer) c.loop-i.i (omega arith) c.loop-i.invariant.0 c.in_default.ensures)

pub loop-i-preserved : goal.loop-i-preserved
loop-i-preserved c = let e = c.in-Some.ensures in (below_more _ _ c.loop-i.invariant.0 e.0, e.1)

pub returns : goal.returns
unfolding first_broken
returns c = sym (none_in c.args.self.trailer.links (keeps_rules c.args.self.bytes.now c.args.self.trailer) (λ j h. c.loop-i.invariant.0 j (omega arith)))
