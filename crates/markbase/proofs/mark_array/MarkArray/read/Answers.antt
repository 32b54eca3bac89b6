use Rattle.std.proofs.Common.{rules, ◌+◌, ◌-◌, Some, sym, ◌∙◌, arith}
use Rattle.fields.specs.Cursors.{rest}
use Rattle.fields.specs.Arrays.{mark}
use Rattle.markbase.specs.Views.{marks_of}
use Rattle.markbase.proofs.Records.{fault_none}
use Rattle.markbase.proofs.Repeats.{at_end, times_step}
use Rattle.markbase.proofs.mark_array.MarkArray.read.Goals as goal

pub loop-preserved : goal.loop-preserved
loop-preserved c =
    let h = c.in_ok-mark.ensures in
    sym (times_step Some at_end (mark c.args.class_count) (c.args.count - c.loop.counter) (c.args.count - (c.loop.counter + 1)) (rest c.loop.cursor) (omega arith) _ _ h.0) ∙ c.loop.invariant

pub returns : goal.returns
unfolding marks_of
returns c = fault_none _ (search rules)
