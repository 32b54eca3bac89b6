use Rattle.std.proofs.Common.{◌+◌, ◌-◌, ◌/◌, [], arith}
use Rattle.layout.proofs.Tables.{indices_before, indices_after, held_at}
use Rattle.layout.proofs.coverage.Coverage.find_index.Goals as goal

pub returns-in-Glyphs : goal.returns-in-Glyphs
returns-in-Glyphs c =
    let is = c.in-Glyphs.ensures in
    held_at c.args.self.now.bytes.now c.args.index (λ k within. let r = is.1 k [] within in (omega (arith, r.index), omega (arith, r.start, r.end, r.index))) c.range_of.result c.range_of.ensures

pub loop-low-preserved-then-last_index-index : goal.loop-low-preserved-then-last_index-index
loop-low-preserved-then-last_index-index c =
    let m = c.loop-low.low + (c.loop-low.high - c.loop-low.low) / 2 in
    let r = c.in_ok-range.ensures in
    (c.loop-low.invariant.0, indices_before c.args.self.now.bytes.now c.args.self.now.sound c.args.index m r.0 (omega (arith, r.1.start, r.1.end, r.1.index, c.last_index.ensures)), c.loop-low.invariant.2)

pub loop-low-preserved : goal.loop-low-preserved
loop-low-preserved c =
    let m = c.loop-low.low + (c.loop-low.high - c.loop-low.low) / 2 in
    let r = c.in_ok-range.ensures in
    (omega (arith, r.0), c.loop-low.invariant.1, indices_after c.args.self.now.bytes.now c.args.self.now.sound c.args.index m r.0 (omega (arith, r.1.start, r.1.index, c.from.ensures)))
